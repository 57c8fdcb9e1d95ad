-- What holds of each element of a list that is pushed to or popped from, and facts of results and tests.
use Rattle.std.proofs.Common.{◌≡◌, ℕ, ◌<◌, Bool, true, false, not, List, [], ◌∷◌, ◌++◌, length, get_or, Option, Some, None, Result, Ok, Err, IfOk, IfSome, MatchOption, IsTrue, ◌↔◌, ◌⊎◌, inl, inr, refl, sym, ◌∙◌, subst}
use Rattle.std.specs.List.{All}
use Rattle.std.proofs.lemmas.Bool.{false≢true}
use Rattle.std.proofs.lemmas.List.Elements.{All-push, All-pop, All-append, All-nil}

pub All-pushed : {X : Type 0} (P : X → Type 0) (xs now : List X) (x : X) → now ≡ xs ++ x ∷ [] → All P xs → P x → All P now
All-pushed P xs now x e h p = subst (All P) (sym e) (All-push P xs x h p)

pub All-joined : {X : Type 0} (P : X → Type 0) (xs ys now : List X) → now ≡ xs ++ ys → All P xs → All P ys → All P now
All-joined P xs ys now e h k = subst (All P) (sym e) (All-append P xs ys h k)

pub All-last : {X : Type 0} (P : X → Type 0) (xs ys : List X) (x : X) → xs ≡ ys ++ x ∷ [] → All P xs → All P ys × P x
All-last P xs ys x e h = All-pop P xs ys (Some x) e h

pub All-at : {X : Type 0} (P : X → Type 0) (xs : List X) (i : ℕ) (x : X) → i < length xs → x ≡ get_or xs i x → All P xs → P x
All-at P xs i x h e all = subst P (sym e) (all i x h)

pub ok-map : {T E : Type 0} {P Q : T → Type 0} (r : Result T E) → ((x : T) → P x → Q x) → IfOk r P → IfOk r Q
ok-map (Ok x) f h = f x h
ok-map (Err e) f h = tt

pub some-map : {T : Type 0} {P Q : T → Type 0} (o : Option T) → ((x : T) → P x → Q x) → IfSome o P → IfSome o Q
some-map (Some x) f h = f x h
some-map None f h = tt

pub some-at : {T : Type 0} (P : T → Type 0) (o : Option T) (x : T) → o ≡ Some x → IfSome o P → P x
some-at P o x e h = subst (λ p. IfSome p P) e h

pub not-from_false : {P : Type 0} (b : Bool) → (IsTrue b ↔ P) → b ≡ false → ¬ P
not-from_false b h e p = false≢true (sym e ∙ h.1 p)

pub All-popped : {X : Type 0} (P : X → Type 0) (old now : List X) (r : Option X) → MatchOption r ((old ≡ []) × (now ≡ [])) (λ last. old ≡ now ++ last ∷ []) → All P old → All P now × IfSome r P
All-popped P old now (Some x) e h = All-last P old now x e h
All-popped P old now None e h = (subst (All P) (sym e.1) (All-nil P), tt)

pub ok-map2 : {T E : Type 0} {P Q R : T → Type 0} (r : Result T E) → ((x : T) → P x → Q x → R x) → IfOk r P → IfOk r Q → IfOk r R
ok-map2 (Ok x) f h k = f x h k
ok-map2 (Err e) f h k = tt

pub told : (b : Bool) → (b ≡ true) ⊎ (b ≡ false)
told true = inl refl
told false = inr refl

pub not-told : {P : Type 0} (b : Bool) → (IsTrue b ↔ P) → not b ≡ true → ¬ P
not-told true h n p = false≢true n
not-told false h n p = false≢true (h.1 p)
