-- What the question of a goal without right atoms asks.
use Rattle.std.proofs.Common.{◌≡◌, Bool, true, false, not, inl, inr, List, [], ◌∷◌, ◌++◌, filter, nat_le, refl, sym, subst}
use Rattle.std.specs.List.{list_any, All}
use Rattle.std.proofs.lemmas.List.Elements.{All-nil, All-cons, All-head, All-tail}
use Rattle.hs_pure.specs.declared.var.Var.{Var}
use Rattle.hs_pure.specs.declared.pure.Pure.{Pure}
use Rattle.hs_pure.specs.Stack.{Stack, same, with_value, number_value}
use Rattle.hs_pure.specs.Truth.{TrueAt}
use Rattle.hs_pure.specs.Occurs.{is_free}
use Rattle.hs_pure.proofs.Truths.{true-And, true-Exists}
use Rattle.hs_heap.specs.Meaning.{is_in, SameBut, AllTrueAt}
use Rattle.hs_heap.proofs.Stacks.{SameBut-refl, SameBut-with_value, same_true}
use Rattle.hs_heap.proofs.Booleans.{bool_cases, or_false_left, or_false_right, clash}
use Rattle.std.proofs.lemmas.Bool.{or_cases}
use Rattle.hs_rules.proofs.Variables.{SameBut-append}
use Rattle.hs_heap.proofs.Free.{all_true_agrees}
use Rattle.hs_rules.specs.Parts.{has_open}
use Rattle.hs_xpure.specs.Approximation.{conjunction}
use Rattle.hs_rules.specs.Questions.{put_in_order, in_order, for_some, closed_of, others_of, open_in, for_open}
use Rattle.hs_rules.proofs.Plain.{AllTrue-first, AllTrue-second}

-- ---- filters

module _ {X : Type 0} (p : X → Bool) where
  pub filter-yes : (x : X) (xs : List X) → p x ≡ true → filter p (x ∷ xs) ≡ x ∷ filter p xs
  filter-yes x xs e = rw e refl

  pub filter-no : (x : X) (xs : List X) → p x ≡ false → filter p (x ∷ xs) ≡ filter p xs
  filter-no x xs e = rw e refl

pub is_in-filter : (p : Var → Bool) (vs : List Var) (v : Var) → is_in v vs ≡ false → is_in v (filter p vs) ≡ false
is_in-filter p [] v e = refl
is_in-filter p (w ∷ ws) v e = elim (bool_cases (p w)) [
  | inl yes' ↦
      let rest = is_in-filter p ws v (or_false_right (same v w) (is_in v ws) e) in
      subst (λ us. is_in v us ≡ false) (sym (filter-yes p w ws yes')) (rw (or_false_left (same v w) (is_in v ws) e) rest)
  | inr no' ↦ subst (λ us. is_in v us ≡ false) (sym (filter-no p w ws no')) (is_in-filter p ws v (or_false_right (same v w) (is_in v ws) e))
]

-- ---- all of a list

pub all_true : (s : Stack) (ps : List Pure) → All (TrueAt s) ps → AllTrueAt s ps
all_true s [] f = tt
all_true s (p ∷ ps) f = (All-head (TrueAt s) p ps f, all_true s ps (All-tail (TrueAt s) p ps f))

pub true_all : (s : Stack) (ps : List Pure) → AllTrueAt s ps → All (TrueAt s) ps
true_all s [] f = All-nil (TrueAt s)
true_all s (p ∷ ps) (e, f) = All-cons (TrueAt s) p ps e (true_all s ps f)

pub conjunction_true : (s : Stack) (ps : List Pure) → TrueAt s (conjunction ps) → AllTrueAt s ps
conjunction_true s [] e = tt
conjunction_true s (p ∷ []) e = (e, tt)
conjunction_true s (p ∷ q ∷ ps) e = all_true s (p ∷ q ∷ ps) ((true-And s (p ∷ q ∷ ps)).0 e)

pub true_conjunction : (s : Stack) (ps : List Pure) → AllTrueAt s ps → TrueAt s (conjunction ps)
true_conjunction s [] e = (true-And s []).1 (All-nil (TrueAt s))
true_conjunction s (p ∷ []) (e, f) = e
true_conjunction s (p ∷ q ∷ ps) e = (true-And s (p ∷ q ∷ ps)).1 (true_all s (p ∷ q ∷ ps) e)

-- ---- some values

pub record AtSome (vs : List Var) (s : Stack) (p : Pure) : Type 0 where
  pub at : Stack
  pub same : SameBut vs s at
  pub holds : TrueAt at p

pub some_values : (vs : List Var) (p : Pure) (s : Stack) → TrueAt s (for_some vs p) → AtSome vs s p
some_values [] p s e = record { at = s; same = SameBut-refl [] s; holds = e }
some_values (v ∷ vs) p s e =
    let d = (true-Exists s v (for_some vs p)).0 e in
    let r = some_values vs p (with_value v (number_value d.0) s) d.1 in
    record { at = r.at; same = SameBut-append {xs = v ∷ []} (SameBut-with_value v (number_value d.0) s) r.same; holds = r.holds }

put_in : (v w : Var) (ws : List Var) → same w v ≡ false → is_in w ws ≡ false → is_in w (put_in_order v ws) ≡ false
put_in v w [] e f = rw e refl
put_in v w (u ∷ us) e f = elim (bool_cases (nat_le v.number u.number)) [
  | inl le ↦ subst (λ vs. is_in w vs ≡ false) (sym (first le)) (rw e f)
  | inr gt ↦ subst (λ vs. is_in w vs ≡ false) (sym (later gt)) (rw (or_false_left (same w u) (is_in w us) f) (put_in v w us e (or_false_right (same w u) (is_in w us) f)))
]
  where
    first : nat_le v.number u.number ≡ true → put_in_order v (u ∷ us) ≡ v ∷ u ∷ us
    first h = rw h refl

    later : nat_le v.number u.number ≡ false → put_in_order v (u ∷ us) ≡ u ∷ put_in_order v us
    later h = rw h refl

in_order-out : (w : Var) (vs : List Var) → is_in w vs ≡ false → is_in w (in_order vs) ≡ false
in_order-out w [] e = refl
in_order-out w (v ∷ vs) e = put_in v w (in_order vs) (or_false_left (same w v) (is_in w vs) e) (in_order-out w vs (or_false_right (same w v) (is_in w vs) e))

-- ---- closed conjuncts, and the others

closed_all : (opens : List Var) (s : Stack) (ps : List Pure) → AllTrueAt s (closed_of opens ps) → AllTrueAt s (others_of opens ps) → AllTrueAt s ps
closed_all opens s [] e f = tt
closed_all opens s (p ∷ ps) e f = elim (bool_cases (has_open opens p)) [
  | inl is ↦
      let g = subst (AllTrueAt s) (filter-no (λ q. not (has_open opens q)) p ps (rw is refl)) e in
      let h = subst (AllTrueAt s) (filter-yes (has_open opens) p ps is) f in
      (h.0, closed_all opens s ps g h.1)
  | inr isnt ↦
      let g = subst (AllTrueAt s) (filter-yes (λ q. not (has_open opens q)) p ps (rw isnt refl)) e in
      let h = subst (AllTrueAt s) (filter-no (has_open opens) p ps isnt) f in
      (g.0, closed_all opens s ps g.1 h)
]

-- an open variable is not free in a closed conjunct
open_not_free : (opens : List Var) (p : Pure) (v : Var) → is_in v opens ≡ true → has_open opens p ≡ false → is_free v p ≡ false
open_not_free [] p v i e = absurd cc
open_not_free (w ∷ ws) p v i e = elim (or_cases (same v w) (is_in v ws) i) [
  | inl is ↦ subst (λ u. is_free u p ≡ false) (sym (same_true v w is)) (or_false_left (is_free w p) (list_any (λ u. is_free u p) ws) e)
  | inr is ↦ open_not_free ws p v is (or_false_right (is_free w p) (list_any (λ u. is_free u p) ws) e)
]

closed_free : (opens : List Var) (ps : List Pure) (v : Var) → is_in v opens ≡ true → list_any (is_free v) (closed_of opens ps) ≡ false
closed_free opens [] v i = refl
closed_free opens (p ∷ ps) v i = elim (bool_cases (has_open opens p)) [
  | inl is ↦ subst (λ qs. list_any (is_free v) qs ≡ false) (sym (filter-no (λ q. not (has_open opens q)) p ps (rw is refl))) (closed_free opens ps v i)
  | inr isnt ↦ subst (λ qs. list_any (is_free v) qs ≡ false) (sym (filter-yes (λ q. not (has_open opens q)) p ps (rw isnt refl)))
      (rw (open_not_free opens p v i isnt) (closed_free opens ps v i))
]

pub record Answers (opens : List Var) (s : Stack) (ps : List Pure) : Type 0 where
  pub at : Stack
  pub same : SameBut opens s at
  pub pure : AllTrueAt at ps

opened_true : (opens : List Var) (s : Stack) (others : List Pure) → AllTrueAt s (for_open opens others) → Answers opens s others
opened_true opens s [] e = record { at = s; same = SameBut-refl opens s; pure = tt }
opened_true opens s (p ∷ ps) (e, f) =
    let r = some_values (in_order (open_in opens (p ∷ ps))) (conjunction (p ∷ ps)) s e in
    record {
      at = r.at;
      same = record { same = λ v out. r.same.same v (in_order-out v (open_in opens (p ∷ ps)) (is_in-filter (λ w. list_any (is_free w) (p ∷ ps)) opens v out)) };
      pure = conjunction_true r.at (p ∷ ps) r.holds;
    }

-- where what is asked is true, the right conjuncts are, for some values of the open variables
pub asked_gives : (opens : List Var) (s : Stack) (ps : List Pure) → TrueAt s (conjunction (closed_of opens ps ++ for_open opens (others_of opens ps))) → Answers opens s ps
asked_gives opens s ps e =
    let all = conjunction_true s (closed_of opens ps ++ for_open opens (others_of opens ps)) e in
    let closed = AllTrue-first s (closed_of opens ps) (for_open opens (others_of opens ps)) all in
    let r = opened_true opens s (others_of opens ps) (AllTrue-second s (closed_of opens ps) (for_open opens (others_of opens ps)) all) in
    let still = all_true_agrees (closed_of opens ps) s r.at (λ v i. elim (bool_cases (is_in v opens)) [
      | inl is ↦ clash i (closed_free opens ps v is)
      | inr isnt ↦ sym (r.same.same v isnt)
    ]) closed in
    record { at = r.at; same = r.same; pure = closed_all opens r.at ps still r.pure }
