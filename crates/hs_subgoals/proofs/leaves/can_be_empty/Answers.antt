use Rattle.std.proofs.Common.{◌≡◌, [], sym, ap, ◌∙◌, subst, not, ◌&&◌}
use Rattle.std.specs.List.{list_all}
use Rattle.hs_pure.specs.Occurs.{has_bags}
use Rattle.hs_heap.specs.declared.formula.Disjunct.{Disjunct}
use Rattle.hs_heap.proofs.Booleans.{clash}
use Rattle.hs_heap.proofs.Tells.{Tells, tells}
use Rattle.hs_goal.specs.Classes.{the_case}
use Rattle.hs_rules.specs.Conditions.{CanBeFalse, CanBeEmpty}
use Rattle.hs_rules.specs.Parts.{has_open, right_pure}
use Rattle.hs_subgoals.proofs.Closed.{AreApart, apart_told}
use Rattle.hs_subgoals.proofs.leaves.can_be_empty.Goals as goal
use Rattle.hs_subgoals.proofs.leaves.can_be_empty.Goals.{then-can_be_false, else-can_be_false}

pub returns-then-is_empty : goal.returns-then-is_empty
returns-then-is_empty c =
    let g = c.args.goal.now in
    let side_is : c.in-Some.right.now ≡ the_case g.right = c.in-Some.ensures.1 in
    let before : CanBeFalse g c.args.n × (c.in-Some.right.now.atoms ≡ []) = elim c.if-can_be_false.branch [
      | then-can_be_false w ↦ (c.can_be_false.ensures.0 w.if-can_be_false.true, w.is_empty.ensures.0 (sym w.value-is ∙ c.if-is_empty.true))
      | else-can_be_false w ↦ clash c.if-is_empty.true (w.value-is ∙ w.if-can_be_false.false)
    ] in
    let pure_is = c.as_slice-then-is_empty.ensures ∙ ap (λ (d : Disjunct). d.pure) side_is in
    let result_is : c.are_apart.result ≡ list_all (λ p. not (has_open g.opens p && has_bags p)) (right_pure g) =
    c.are_apart.ensures ∙ (λ i. list_all (λ p. not (has_open (c.as_slice.ensures i) p && has_bags p)) (pure_is i)) in
    tells c.are_apart.result (AreApart g.opens (right_pure g)) (CanBeEmpty g c.args.n)
    (subst (λ b. Tells b (AreApart g.opens (right_pure g))) (sym result_is) (apart_told g.opens (right_pure g)))
    (λ apart. record { level = before.0.level; left = before.0.left; right = c.in-Some.ensures.0; no_atoms = sym (ap (λ (d : Disjunct). d.atoms) side_is) ∙ before.1; bags = apart })
    (λ can. can.bags)
