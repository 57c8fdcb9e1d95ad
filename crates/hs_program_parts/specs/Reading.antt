-- Whether slots hold variables, by tests.
use Rattle.std.specs.Prelude.{ℕ, ◌&&◌, Bool, true, false, List, [], ◌∷◌, Option, Some, None, is_some}
use Rattle.std.specs.List.{list_all}
use Rattle.hs_pure.specs.declared.lin.Lin.{Lin}
use Rattle.hs_pure.specs.declared.bag.Bag.{Bag, fold-Bag}
use Rattle.hs_pure.specs.declared.bag.Bag.TheOpen.{Bag-F}
use Rattle.hs_pure.specs.declared.pure.Pure.{Pure, fold-Pure}
use Rattle.hs_pure.specs.declared.pure.Pure.TheOpen.{Pure-F}
use Rattle.hs_core.specs.declared.instr.Instr.{Instr}
use Rattle.hs_core.specs.declared.instr.Instr.TheVariants.{Assign, New, Get, Set, Branch, Jump, Call, Return}
use Rattle.hs_program_rules.specs.States.{Held, held_in}

module _ (held : Held) where
  -- whether a variable has the value of the slot
  abbrev pub is_held : ℕ → Bool
  is_held k = is_some (held_in held k)

  -- whether the slots of a sum hold variables
  abbrev pub lin_held : Lin → Bool
  lin_held a = list_all (λ t. is_held t.0.number) a.terms

  abbrev pub bag_held_level : Bag-F Bool → Bool
  bag_held_level Bag-F.Empty = true
  bag_held_level (Bag-F.Name v) = true
  bag_held_level (Bag-F.One a) = lin_held a
  bag_held_level (Bag-F.Union a b) = a && b
  bag_held_level (Bag-F.Inter a b) = a && b
  bag_held_level (Bag-F.Diff a b) = a && b

  abbrev pub bag_held : Bag → Bool
  bag_held = fold-Bag Bool bag_held_level

  abbrev pub all_slots_level : Pure-F Bool → Bool
  all_slots_level (Pure-F.Eq a b) = lin_held a && lin_held b
  all_slots_level (Pure-F.Lt a b) = lin_held a && lin_held b
  all_slots_level (Pure-F.Le a b) = lin_held a && lin_held b
  all_slots_level (Pure-F.Divides d a) = lin_held a
  all_slots_level (Pure-F.BagEq a b) = bag_held a && bag_held b
  all_slots_level (Pure-F.Subset a b) = bag_held a && bag_held b
  all_slots_level (Pure-F.Member a b) = lin_held a && bag_held b
  all_slots_level (Pure-F.AllOf u b p) = bag_held b && p
  all_slots_level (Pure-F.Not p) = p
  all_slots_level (Pure-F.And ps) = list_all (λ b. b) ps
  all_slots_level (Pure-F.Or ps) = list_all (λ b. b) ps
  all_slots_level (Pure-F.Exists u p) = p
  all_slots_level (Pure-F.Forall u p) = p

  -- whether the slots of each sum of a formula hold variables
  abbrev pub all_slots : Pure → Bool
  all_slots = fold-Pure Bool all_slots_level

  -- whether the slots that an instruction reads hold variables, with those of the reference parameters at a return
  abbrev pub instr_held : List ℕ → Instr → Bool
  instr_held refs (Assign to term) = lin_held term
  instr_held refs (New to kind args) = list_all is_held args
  instr_held refs (Get to slot kind field) = is_held slot
  instr_held refs (Set slot kind field from) = is_held slot && is_held from
  instr_held refs (Branch condition other) = all_slots condition
  instr_held refs (Jump target) = true
  instr_held refs (Call to method args) = list_all is_held args
  instr_held refs (Return None) = list_all is_held refs
  instr_held refs (Return (Some from)) = is_held from && list_all is_held refs
