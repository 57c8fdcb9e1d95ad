use Rattle.std.proofs.Common.{◌≡◌, ◌+◌, true, false, [], None, sym, subst}
use Rattle.std.proofs.lemmas.Bool.{and_parts}
use Rattle.hs_pure.specs.declared.pure.Pure.TheVariants as pure_of
use Rattle.hs_pure.specs.Occurs.{has_bags}
use Rattle.hs_heap.proofs.Booleans.{clash}
use Rattle.hs_rules.specs.Parts.{right_pure, has_open}
use Rattle.hs_choices.specs.Places.{first_place}
use Rattle.hs_choices.specs.Tests.{is_mixed}
use Rattle.hs_choices.proofs.Passing.{first_passes, none_passes}
use Rattle.hs_choices.proofs.stopping.open_bag.Goals as goal

pub unreachable-requires : goal.unreachable-requires
unreachable-requires c =
    let g = c.args.goal.now in
    let none : first_place (is_mixed g.opens) (right_pure g) ≡ None = c.in_default.ensures in
    clash c.requires.mixed (none_passes (is_mixed g.opens) 1 (right_pure g) none)

pub unreachable-requires-in_default-least_open : goal.unreachable-requires-in_default-least_open
unreachable-requires-in_default-least_open c =
    let g = c.args.goal.now in
    let p = c.in-Some.conjunct.now in
    let place = c.in-Some.field-0-0 + 1 in
    let found = first_passes (is_mixed g.opens) 1 (right_pure g) place c.in-Some.ensures.0 in
    let mixed : is_mixed g.opens p ≡ true = subst (λ q. is_mixed g.opens q ≡ true) (sym c.in-Some.ensures.1) (found.passes (pure_of.And [])) in
    let closed : has_open c.as_slice.result.now p ≡ false = c.in_default-least_open.ensures in
    clash (and_parts (has_open g.opens p) (has_bags p) mixed).0 (subst (λ vs. has_open vs p ≡ false) c.as_slice.ensures closed)
