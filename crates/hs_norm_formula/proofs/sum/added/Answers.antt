use Rattle.std.proofs.Common.{◌∙◌, arith, rules, Some, sym, ap}
use Rattle.std.proofs.lemmas.Int.{to_z-of_z}
use Rattle.std.specs.Option.{option_map}
use mir.Syntax.{w128}
use Rattle.hs_norm_formula.specs.Sum.{sum_of}
use Rattle.hs_norm_formula.proofs.Adding.{preserved, stopped}
use Rattle.hs_norm_formula.proofs.sum.added.Goals as goal

pub returns-in_default : goal.returns-in_default
returns-in_default c = stopped c.args.terms.now c.loop-term.term-index _ c.loop-term.found.items c.add.new.terms.items _ (omega arith) c.loop-term.invariant
    (ap (option_map (sum_of c.add.new.terms.items)) (sym c.in_default.is) ∙ c.in_ok-next.ensures)

pub loop-term-preserved : goal.loop-term-preserved
loop-term-preserved c = (λ j. Some (sum_of c.add.new.terms.items (to_z-of_z w128 c.in-Some.next (search rules) j)))
    ∙ preserved c.args.terms.now c.loop-term.term-index _ c.loop-term.found.items c.add.new.terms.items _ c.in-Some.next (omega arith) c.loop-term.invariant
    (ap (option_map (sum_of c.add.new.terms.items)) (sym c.in-Some.is) ∙ c.in_ok-next.ensures)
