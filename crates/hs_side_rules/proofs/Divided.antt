-- What is tested of a formula that splits a goal.
use Rattle.std.proofs.Common.{◌≡◌, ◌<◌, nat_lt, Bool, true, false, not, ◌&&◌, ◌||◌, IsTrue, refl}
use Rattle.hs_pure.specs.declared.var.Var.{Var}
use Rattle.hs_pure.specs.declared.pure.Pure.{Pure}
use Rattle.hs_pure.specs.Occurs.{is_free}
use Rattle.hs_pure.specs.Laws.{FreeOccurs}
use Rattle.hs_heap.specs.Meaning.{is_in}
use Rattle.hs_heap.proofs.Tells.{Tells, tells_both, tells_not, tells_lt}
use Rattle.hs_goal.specs.declared.goal.Goal.{Goal}
use Rattle.hs_goal.specs.Goal.{is_free_in_goal}
use Rattle.hs_goal.specs.Classes.{IsSimple}
use Rattle.hs_rules.specs.Conditions.{CanSplit}
use Rattle.hs_side_rules.specs.Splitting.{may_occur, MaySplit}
use Rattle.hs_side_rules.proofs.Occurrences.{all_told}

implied : (a b : Bool) → Tells (not a || b) (IsTrue a → IsTrue b)
implied true b = (λ h e. h, λ h. h refl)
implied false b = (λ h e. absurd cc, λ h. refl)

module _ (g : Goal) (f : Pure) where
  abbrev MayOccur : Var → Type 0
  MayOccur v = (v.number < g.next) × ((is_in v g.opens ≡ false) × (IsTrue (is_free v f) → IsTrue (is_free_in_goal v g)))

  may_told : (v : Var) → Tells (may_occur g f v) (MayOccur v)
  may_told v = tells_both (nat_lt v.number g.next) (not (is_in v g.opens) && (not (is_free v f) || is_free_in_goal v g)) (v.number < g.next) ((is_in v g.opens ≡ false) × (IsTrue (is_free v f) → IsTrue (is_free_in_goal v g)))
      (tells_lt v.number g.next)
      (tells_both (not (is_in v g.opens)) (not (is_free v f) || is_free_in_goal v g) (is_in v g.opens ≡ false) (IsTrue (is_free v f) → IsTrue (is_free_in_goal v g))
      (tells_not (is_in v g.opens)) (implied (is_free v f) (is_free_in_goal v g)))

  pub can_split : FreeOccurs → IsSimple g.left → MaySplit g f → CanSplit g f
  can_split law simple may =
      let all = (all_told (may_occur g f) f).0 may.1.1 in
      record {
        left = simple;
        flat = may.0;
        proper = may.1.0;
        numbers = λ v o. ((may_told v).0 (all v o)).0;
        closed = λ v o. ((may_told v).0 (all v o)).1.0;
        free = λ v is. ((may_told v).0 (all v (law f v is))).1.1 is;
      }

  pub may_split : CanSplit g f → MaySplit g f
  may_split can = (can.flat, (can.proper, (all_told (may_occur g f) f).1 (λ v o. (may_told v).1 (can.numbers v o, (can.closed v o, can.free v)))))
