-- The tests of slots tell whether each slot that is read holds a variable.
use Rattle.std.proofs.Common.{◌≡◌, ℕ, Bool, true, false, ◌&&◌, IsTrue, List, [], ◌∷◌, ◌++◌, map, Option, Some, None, is_some, refl, sym, ap, ◌∙◌, subst}
use Rattle.std.specs.List.{All, list_all, flat_map}
use Rattle.std.proofs.lemmas.List.Folds.{list_all-append, list_all-map}
use Rattle.hs_pure.specs.declared.var.Var.{Var}
use Rattle.hs_pure.specs.declared.lin.Lin.{Lin}
use Rattle.hs_pure.specs.declared.bag.Bag.{Bag, map-Bag}
use Rattle.hs_pure.specs.declared.bag.Bag.TheOpen.{Bag-F}
use Rattle.hs_pure.specs.declared.pure.Pure.{Pure, map-Pure}
use Rattle.hs_pure.specs.declared.pure.Pure.TheOpen.{Pure-F}
use Rattle.hs_pure.specs.Rename.{bag_sums_level, bag_sums, sums_level, sums}
use Rattle.hs_pure.proofs.Levels.{Both, BothBag, related, related_bag}
use Rattle.hs_heap.proofs.Tells.{Tells, tells_all}
use Rattle.hs_core.specs.declared.instr.Instr.{Instr}
use Rattle.hs_core.specs.declared.instr.Instr.TheVariants.{Assign, New, Get, Set, Branch, Jump, Call, Return}
use Rattle.hs_core.specs.declared.program.Method.{Method}
use Rattle.hs_core.specs.Set.{slots_in}
use Rattle.hs_program_rules.specs.States.{Held, var_or, variable_in, number_var, IsHeld, held_in}
use Rattle.hs_program_rules.specs.Table.{all_reads, ReadsHeld}
use Rattle.hs_program_parts.specs.Reading.{is_held, lin_held, bag_held, bag_held_level, all_slots, all_slots_level, instr_held}

and_true : (b : Bool) → b ≡ (b && true)
and_true true = refl
and_true false = refl

module _ (held : Held) where
  lin_is : (a : Lin) → lin_held held a ≡ list_all (is_held held) (slots_in a)
  lin_is a = sym (list_all-map (is_held held) (λ t. t.0.number) a.terms)

  -- the sums pass where the test is true
  abbrev Passes : Bool → List Lin → Type 0
  Passes b ls = b ≡ list_all (lin_held held) ls

  two_pass : (a b : Bool) (ls ms : List Lin) → Passes a ls → Passes b ms → Passes (a && b) (ls ++ ms)
  two_pass a b ls ms e f = (λ i. e i && f i) ∙ sym (list_all-append (lin_held held) ls ms)

  both_sums : (a b : Lin) → Passes (lin_held held a && lin_held held b) (a ∷ b ∷ [])
  both_sums a b = ap (λ c. lin_held held a && c) (and_true (lin_held held b))

  bag_step : (z : Bag-F (BothBag Passes (bag_held_level held) bag_sums_level)) →
      Passes (bag_held_level held (map-Bag (BothBag Passes (bag_held_level held) bag_sums_level) Bool (λ e. e.0) z)) (bag_sums_level (map-Bag (BothBag Passes (bag_held_level held) bag_sums_level) (List Lin) (λ e. e.1.0) z))
  bag_step Bag-F.Empty = refl
  bag_step (Bag-F.Name v) = refl
  bag_step (Bag-F.One a) = and_true (lin_held held a)
  bag_step (Bag-F.Union a b) = two_pass a.0 b.0 a.1.0 b.1.0 a.1.1 b.1.1
  bag_step (Bag-F.Inter a b) = two_pass a.0 b.0 a.1.0 b.1.0 a.1.1 b.1.1
  bag_step (Bag-F.Diff a b) = two_pass a.0 b.0 a.1.0 b.1.0 a.1.1 b.1.1

  bag_is : (b : Bag) → Passes (bag_held held b) (bag_sums b)
  bag_is = related_bag Passes (bag_held_level held) bag_sums_level bag_step

  abbrev Each : Type 0
  Each = Both Passes (all_slots_level held) sums_level

  members : (es : List Each) → Passes (list_all (λ b. b) (map (λ (e : Each). e.0) es)) (flat_map (λ p. p) (map (λ (e : Each). e.1.0) es))
  members [] = refl
  members (e ∷ es) = two_pass e.0 (list_all (λ b. b) (map (λ (e : Each). e.0) es)) e.1.0 (flat_map (λ p. p) (map (λ (e : Each). e.1.0) es)) e.1.1 (members es)

  step : (z : Pure-F Each) → Passes (all_slots_level held (map-Pure Each Bool (λ e. e.0) z)) (sums_level (map-Pure Each (List Lin) (λ e. e.1.0) z))
  step (Pure-F.Eq a b) = both_sums a b
  step (Pure-F.Lt a b) = both_sums a b
  step (Pure-F.Le a b) = both_sums a b
  step (Pure-F.Divides d a) = and_true (lin_held held a)
  step (Pure-F.BagEq a b) = two_pass (bag_held held a) (bag_held held b) (bag_sums a) (bag_sums b) (bag_is a) (bag_is b)
  step (Pure-F.Subset a b) = two_pass (bag_held held a) (bag_held held b) (bag_sums a) (bag_sums b) (bag_is a) (bag_is b)
  step (Pure-F.Member a b) = ap (λ c. lin_held held a && c) (bag_is b)
  step (Pure-F.AllOf u b p) = two_pass (bag_held held b) p.0 (bag_sums b) p.1.0 (bag_is b) p.1.1
  step (Pure-F.Not p) = p.1.1
  step (Pure-F.And ps) = members ps
  step (Pure-F.Or ps) = members ps
  step (Pure-F.Exists u p) = p.1.1
  step (Pure-F.Forall u p) = p.1.1

  sums_pass : (p : Pure) → Passes (all_slots held p) (sums p)
  sums_pass = related Passes (all_slots_level held) sums_level step

  slots_pass : (ls : List Lin) → list_all (lin_held held) ls ≡ list_all (is_held held) (flat_map slots_in ls)
  slots_pass [] = refl
  slots_pass (a ∷ ls) = (λ i. lin_is a i && slots_pass ls i) ∙ sym (list_all-append (is_held held) (slots_in a) (flat_map slots_in ls))

  -- the test of an instruction is that of the slots which it reads
  instr_is : (m : Method) (i : Instr) → instr_held held m.refs i ≡ list_all (is_held held) (all_reads m i)
  instr_is m (Assign to term) = lin_is term
  instr_is m (New to kind args) = refl
  instr_is m (Get to slot kind field) = and_true (is_held held slot)
  instr_is m (Set slot kind field from) = ap (λ c. is_held held slot && c) (and_true (is_held held from))
  instr_is m (Branch condition other) = sums_pass condition ∙ slots_pass (sums condition)
  instr_is m (Jump target) = refl
  instr_is m (Call to method args) = refl
  instr_is m (Return None) = refl
  instr_is m (Return (Some from)) = refl

  some_told : (o : Option Var) → Tells (is_some o) (o ≡ Some (var_or (number_var 0) o))
  some_told None = (λ h. absurd cc, λ h. absurd cc)
  some_told (Some v) = (λ h. refl, λ h. refl)

  pub reads_told : (m : Method) (i : Instr) → Tells (instr_held held m.refs i) (ReadsHeld m held i)
  reads_told m i = subst (λ b. Tells b (ReadsHeld m held i)) (sym (instr_is m i)) (tells_all (is_held held) (IsHeld held) (λ k. some_told (held_in held k)) (all_reads m i))
