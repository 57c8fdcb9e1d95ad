-- Changes of lists of formulas.
use Rattle.std.proofs.Common.{◌≡◌, ℕ, suc, ◌+◌, ◌<◌, ◌≤◌, Bool, true, false, ◌⊎◌, inl, inr, List, [], ◌∷◌, map, take, length, get_or, nat_lt, cond, refl, sym, ap, ◌∙◌, subst, arith, ℤ, pos, ◌+ℤ◌, ◌*ℤ◌, FitsSigned, Result, Ok, Err, IfOk}
use Rattle.std.specs.List.{fold, Contains}
use mir.Syntax.{w128}
use Rattle.std.proofs.lemmas.Int.{ints}
use Rattle.std.proofs.lemmas.Bool.Decides.{nat_tests}
use Rattle.std.proofs.lemmas.List.{map_more}
use Rattle.hs_pure.specs.declared.var.Var.{Var}
use Rattle.hs_pure.specs.declared.lin.Lin.{Lin}
use Rattle.hs_elimination.specs.Linear.{place, merge_one, prepend, plus, times, single, rest, scale_term, HasWideTerm, IsWideLin}
use Rattle.hs_elimination.specs.Form.{Form, const, conjunction, disjunction, IsWide}
use Rattle.hs_elimination.specs.Normal.{both_of, either_of, evaluate}
use Rattle.hs_elimination.proofs.Stage3.{contains_cases, contains_none}
use Rattle.hs_elimination.proofs.Variables.{Each, IsOther, lacks-without}
use Rattle.hs_cooper_forms.specs.declared.nnf.Connective.{Connective}
use Rattle.hs_cooper_forms.specs.declared.nnf.Connective.TheVariants.{And, Or}
use Rattle.hs_cooper_forms.specs.declared.nnf.Nnf.{Nnf}
use Rattle.hs_cooper_forms.specs.declared.nnf.Nnf.TheVariants as nnf_of
use Rattle.hs_cooper_forms.specs.declared.change.Change.{Change}
use Rattle.hs_cooper_forms.specs.declared.change.Change.TheVariants.{Scale, Substitute, Low}
use Rattle.hs_cooper_forms.specs.Reading.{listed, join, joined, form_of}
use Rattle.hs_cooper_forms.specs.Changing.{changed, HasUneven, IsUneven, IsRefused}
use Rattle.hs_cooper_forms.proofs.Forms.{form-Joined, fold-push}

-- ---- the product with x

not_below : (m n : ℕ) → nat_lt m n ≡ false → n ≤ m
not_below m n h = grind (arith, nat_tests)

wide_one : (x : Var) (u k : ℤ) (ts : List (Var × ℤ)) → Each (IsOther (place x)) ts → HasWideTerm (map (scale_term k) ts) → HasWideTerm (merge_one x u (λ us. us) (map (scale_term k) ts))
wide_one x u k [] o h = absurd h
wide_one x u k (t ∷ ts) o h = by_tests (wide_one x u k ts o.1) (nat_lt (place x) (place t.0)) (nat_lt (place t.0) (place x)) refl refl h
  where
    by_tests : (HasWideTerm (map (scale_term k) ts) → HasWideTerm (merge_one x u (λ us. us) (map (scale_term k) ts))) → (p q : Bool) → nat_lt (place x) (place t.0) ≡ p → nat_lt (place t.0) (place x) ≡ q
        → (¬ (FitsSigned w128 (k *ℤ t.1))) ⊎ HasWideTerm (map (scale_term k) ts)
        → HasWideTerm (cond p ((x, u) ∷ scale_term k t ∷ map (scale_term k) ts) (cond q (scale_term k t ∷ merge_one x u (λ us. us) (map (scale_term k) ts)) (prepend x (u +ℤ k *ℤ t.1) (map (scale_term k) ts))))
    by_tests ih true q e f w = inr w
    by_tests ih false true e f (inl w) = inl w
    by_tests ih false true e f (inr w) = inr (ih w)
    by_tests ih false false e f w = absurd (o.0 (omega (arith, not_below (place x) (place t.0) e, not_below (place t.0) (place x) f)))

nothing_more : (z : ℤ) → z ≡ pos 0 +ℤ z
nothing_more z = omega (arith, ints)

pub wide_product : (x : Var) (u k : ℤ) (a : Lin) → IsWideLin (times k (rest (place x) a)) → IsWideLin (plus (single x u) (times k (rest (place x) a)))
wide_product x u k a (inl h) = inl (subst (λ z. ¬ (FitsSigned w128 z)) (nothing_more (k *ℤ a.constant)) h)
wide_product x u k a (inr h) = inr (wide_one x u k (rest (place x) a).terms (lacks-without (place x) a.terms) h)

-- ---- lists

module _ (h : Form → Form) (h_const : (b : Bool) → h (const b) ≡ const b) (h_both : (f g : Form) → h (conjunction f g) ≡ both_of (h f) (h g)) (h_either : (f g : Form) → h (disjunction f g) ≡ either_of (h f) (h g)) where
  fold-through : (op po : Form → Form → Form) → ((f g : Form) → h (op f g) ≡ po (h f) (h g)) → (f : Form) (fs : List Form) → h (fold op f fs) ≡ fold po (h f) (map h fs)
  fold-through op po is f [] = refl
  fold-through op po is f (g ∷ fs) = fold-through op po is (op f g) fs ∙ ap (λ k. fold po k (map h fs)) (is f g)

  pub listed-joined : (c : Connective) (fs : List Form) → h (listed c fs) ≡ joined c (map h fs)
  listed-joined And [] = h_const true
  listed-joined Or [] = h_const false
  listed-joined And (f ∷ fs) = fold-through conjunction both_of h_both f fs
  listed-joined Or (f ∷ fs) = fold-through disjunction either_of h_either f fs

pub map-map : {X Y Z : Type 0} (f : X → Y) (g : Y → Z) (xs : List X) → map g (map f xs) ≡ map (λ x. g (f x)) xs
map-map f g [] = refl
map-map f g (x ∷ xs) = ap (λ ys. g (f x) ∷ ys) (map-map f g xs)

abbrev result : Change → Form → Form
result ch f = evaluate (changed ch f)

result-const : (ch : Change) (b : Bool) → result ch (const b) ≡ const b
result-const (Scale x l) b = refl
result-const (Substitute x u) b = refl
result-const (Low x j) b = refl

result-both : (ch : Change) (f g : Form) → result ch (conjunction f g) ≡ both_of (result ch f) (result ch g)
result-both (Scale x l) f g = refl
result-both (Substitute x u) f g = refl
result-both (Low x j) f g = refl

result-either : (ch : Change) (f g : Form) → result ch (disjunction f g) ≡ either_of (result ch f) (result ch g)
result-either (Scale x l) f g = refl
result-either (Substitute x u) f g = refl
result-either (Low x j) f g = refl

pub result-Joined : (ch : Change) (f : Nnf) (c : Connective) (fs : List Nnf) → f ≡ nnf_of.Joined c fs → joined c (map (λ g. evaluate (changed ch (form_of g))) fs) ≡ evaluate (changed ch (form_of f))
result-Joined ch f c fs is =
    sym (ap (λ g. result ch (form_of g)) is ∙ ap (result ch) (form-Joined c fs)
    ∙ listed-joined (result ch) (result-const ch) (result-both ch) (result-either ch) c (map form_of fs)
    ∙ ap (joined c) (map-map form_of (result ch) fs))

-- what holds of a list where it holds of one of its members
module _ (Q : Form → Type 0) (both_first : (f g : Form) → Q f → Q (conjunction f g)) (both_second : (f g : Form) → Q g → Q (conjunction f g))
    (either_first : (f g : Form) → Q f → Q (disjunction f g)) (either_second : (f g : Form) → Q g → Q (disjunction f g)) where
  module _ (op : Form → Form → Form) (first : (f g : Form) → Q f → Q (op f g)) (second : (f g : Form) → Q g → Q (op f g)) where
    fold_first : (f : Form) (fs : List Form) → Q f → Q (fold op f fs)
    fold_first f [] h = h
    fold_first f (g ∷ fs) h = fold_first (op f g) fs (first f g h)

    fold_member : (f : Form) (fs : List Form) (g : Form) → Contains fs g → Q g → Q (fold op f fs)
    fold_member f [] g k h = contains_none g k
    fold_member f (e ∷ fs) g k h = step (fold_member (op f e) fs g)
      where
        step : (Contains fs g → Q g → Q (fold op (op f e) fs)) → Q (fold op (op f e) fs)
        step ih = elim (contains_cases e g fs k) [ inl is ↦ fold_first (op f e) fs (second f e (subst Q (sym is) h)) | inr later ↦ ih later h ]

    list_member : (f : Form) (fs : List Form) (g : Form) → Contains (f ∷ fs) g → Q g → Q (fold op f fs)
    list_member f fs g k h = elim (contains_cases f g fs k) [ inl is ↦ fold_first f fs (subst Q (sym is) h) | inr later ↦ fold_member f fs g later h ]

  pub listed_member : (c : Connective) (fs : List Form) (g : Form) → Contains fs g → Q g → Q (listed c fs)
  listed_member c [] g k h = contains_none g k
  listed_member And (f ∷ fs) g k h = list_member conjunction both_first both_second f fs g k h
  listed_member Or (f ∷ fs) g k h = list_member disjunction either_first either_second f fs g k h

pub contains-map : {X Y : Type 0} (h : X → Y) (xs : List X) (x : X) → Contains xs x → Contains (map h xs) (h x)
contains-map h [] x k = contains_none x k
contains-map h (y ∷ xs) x k = step (contains-map h xs x)
  where
    step : (Contains xs x → Contains (map h xs) (h x)) → Contains (map h (y ∷ xs)) (h x)
    step ih = elim (contains_cases y x xs k) [ inl is ↦ (0, omega arith, ap h is) | inr later ↦ (let w = ih later in (suc w.0, omega arith, w.2)) ]

wide_listed : (ch : Change) (c : Connective) (fs : List Form) (g : Form) → Contains fs g → IsWide (changed ch g) → IsWide (changed ch (listed c fs))
wide_listed (Scale x l) = listed_member (λ g. IsWide (changed (Scale x l) g)) (λ f g. inl) (λ f g. inr) (λ f g. inl) (λ f g. inr)
wide_listed (Substitute x u) = listed_member (λ g. IsWide (changed (Substitute x u) g)) (λ f g. inl) (λ f g. inr) (λ f g. inl) (λ f g. inr)
wide_listed (Low x j) = listed_member (λ g. IsWide (changed (Low x j) g)) (λ f g. inl) (λ f g. inr) (λ f g. inl) (λ f g. inr)

uneven_listed : (ch : Change) (c : Connective) (fs : List Form) (g : Form) → Contains fs g → IsUneven ch g → IsUneven ch (listed c fs)
uneven_listed (Scale x l) c fs g k h = absurd h
uneven_listed (Substitute x u) c fs g k h = listed_member (HasUneven (place x)) (λ f g. inl) (λ f g. inr) (λ f g. inl) (λ f g. inr) c fs g k h
uneven_listed (Low x j) c fs g k h = listed_member (HasUneven (place x)) (λ f g. inl) (λ f g. inr) (λ f g. inl) (λ f g. inr) c fs g k h

pub refused-Joined : (ch : Change) (f : Nnf) (c : Connective) (fs : List Nnf) → f ≡ nnf_of.Joined c fs → ((g : Nnf) × (Contains fs g × IsRefused ch (form_of g))) → IsRefused ch (form_of f)
refused-Joined ch f c fs is w =
    let k = contains-map form_of fs w.0 w.1.0 in
    let e : form_of f ≡ listed c (map form_of fs) = ap form_of is ∙ form-Joined c fs in
    subst (IsRefused ch) (sym e) (elim w.1.1 [
      | inl h ↦ inl (wide_listed ch c (map form_of fs) (form_of w.0) k h)
      | inr h ↦ inr (uneven_listed ch c (map form_of fs) (form_of w.0) k h)
    ])

-- one more member, joined
pub fold_next : {X : Type 0} (c d : Connective) (z : Form) (h : X → Form) (xs : List X) (i : ℕ) (x : X) (old new one : Form) → i < length xs → x ≡ get_or xs i x → old ≡ fold (join c) z (map h (take i xs)) → d ≡ c
    → new ≡ join d old one → one ≡ h x → new ≡ fold (join c) z (map h (take (i + 1) xs))
fold_next c d z h xs i x old new one p is old_is d_is new_is one_is =
    new_is ∙ (λ k. join (d_is k) (old_is k) ((one_is ∙ ap h is) k))
    ∙ sym (ap (fold (join c) z) (map_more h xs i x p) ∙ fold-push (join c) z (map h (take i xs)) (h (get_or xs i x)))

pub ok_map : {T E : Type 0} {P Q : T → Type 0} (r : Result T E) → ((x : T) → P x → Q x) → IfOk r P → IfOk r Q
ok_map (Ok x) f h = f x h
ok_map (Err e) f h = tt
