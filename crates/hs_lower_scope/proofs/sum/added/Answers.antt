use Rattle.std.proofs.Common.{◌∙◌, arith, rules, Some, sym, ap}
use Rattle.std.proofs.lemmas.Int.{to_z-of_z}
use Rattle.std.specs.Option.{option_map}
use mir.Syntax.{w128}
use Rattle.hs_norm_formula.specs.Sum.{sum_of}
use Rattle.hs_lower_scope.specs.Terms.{part_term}
use Rattle.hs_lower_scope.specs.View.{shown}
use Rattle.hs_lower_scope.proofs.Adding.{preserved, stopped}
use Rattle.hs_lower_scope.proofs.sum.added.Goals as goal

pub returns-in_default : goal.returns-in_default
returns-in_default c = stopped (part_term (shown c.args.scope.now)) c.args.parts.now c.loop-part.part-index _ _ c.loop-part.found.items c.add.new.terms.items _ (omega arith) c.loop-part.invariant (c.in_ok-part_of.ensures ∙ ap (part_term (shown c.args.scope.now)) c.part-item.is)
    (ap (option_map (sum_of c.add.new.terms.items)) (sym c.in_default.is) ∙ c.in_ok-next.ensures)

pub loop-part-preserved : goal.loop-part-preserved
loop-part-preserved c = (λ j. Some (sum_of c.add.new.terms.items (to_z-of_z w128 c.in-Some.next (search rules) j)))
    ∙ preserved (part_term (shown c.args.scope.now)) c.args.parts.now c.loop-part.part-index _ _ c.loop-part.found.items c.add.new.terms.items _ c.in-Some.next (omega arith) c.loop-part.invariant (c.in_ok-part_of.ensures ∙ ap (part_term (shown c.args.scope.now)) c.part-item.is)
    (ap (option_map (sum_of c.add.new.terms.items)) (sym c.in-Some.is) ∙ c.in_ok-next.ensures)
