-- The text of a formula at a place, from the parts that are written.
use Rattle.std.proofs.Common.{◌≡◌, ℕ, List, [], ◌++◌, Result, Ok, Err, OnOk, refl, ap, sym, ◌∙◌, append_assoc}
use Rattle.std.proofs.lemmas.List.{append-nil}
use Rattle.hs_print.specs.declared.place.Place.{Place}
use Rattle.hs_print.specs.declared.place.Place.TheVariants.{Alone, Member, Denied}
use Rattle.hs_print.specs.declared.place.Class.{Class}
use Rattle.hs_print.specs.declared.place.Class.TheVariants.{Item}
use Rattle.hs_print.specs.Pure.{Printed, text_at, opening, closing, is_denied}

pub finished : (place : Place) (class : Class) (r : Printed) (old middle new before body after : List ℕ)
    → r.class ≡ class → before ≡ opening place class → after ≡ closing place class → r.body (is_denied place) ≡ body
    → middle ≡ old ++ before → new ≡ middle ++ (body ++ after) → new ≡ old ++ text_at place r
finished place class r old middle new before body after c b a t m n =
    let parts : before ++ (body ++ after) ≡ opening place r.class ++ (r.body (is_denied place) ++ closing place r.class) = cc in
    n ∙ ap (λ x. x ++ (body ++ after)) m ∙ append_assoc old before (body ++ after) ∙ ap (λ x. old ++ x) parts

closing-Item : (place : Place) → closing place Item ≡ []
closing-Item Alone = refl
closing-Item Member = refl
closing-Item Denied = refl

-- nothing stands behind an item
pub finished_item : (place : Place) (class : Class) (r : Printed) (old middle new before body : List ℕ)
    → r.class ≡ class → r.class ≡ Item → before ≡ opening place class → r.body (is_denied place) ≡ body
    → middle ≡ old ++ before → new ≡ middle ++ body → new ≡ old ++ text_at place r
finished_item place class r old middle new before body c i b t m n =
    let nothing : [] ≡ closing place class = sym (closing-Item place) ∙ ap (closing place) (sym i ∙ c) in
    finished place class r old middle new before body [] c b nothing t m (n ∙ ap (λ x. middle ++ x) (sym (append-nil body)))

pub on_ok : {A E P Q : Type 0} (result : Result A E) → (P → Q) → OnOk result P → OnOk result Q
on_ok (Ok a) f h = f h
on_ok (Err e) f h = tt

-- parts that are written one after another
pub then_two : (m1 m2 new a b : List ℕ) → m2 ≡ m1 ++ a → new ≡ m2 ++ b → new ≡ m1 ++ (a ++ b)
then_two m1 m2 new a b p q = q ∙ ap (λ x. x ++ b) p ∙ append_assoc m1 a b

pub then_three : (m1 m2 m3 new a b c : List ℕ) → m2 ≡ m1 ++ a → m3 ≡ m2 ++ b → new ≡ m3 ++ c → new ≡ m1 ++ (a ++ (b ++ c))
then_three m1 m2 m3 new a b c p q r = then_two m1 m2 new a (b ++ c) p (then_two m2 m3 new b c q r)
