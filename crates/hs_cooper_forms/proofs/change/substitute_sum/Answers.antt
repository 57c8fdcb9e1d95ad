use Rattle.std.proofs.Common.{◌≡◌, sym, ◌∙◌, pos, arith}
use Rattle.std.proofs.lemmas.Int.{ints}
use Rattle.hs_elimination.specs.Linear.{place}
use Rattle.hs_cooper_forms.proofs.Narrow.{wide-substituted}
use Rattle.hs_cooper_forms.proofs.change.substitute_sum.Goals as goal

pub returns-in-0-clause-narrow : goal.returns-in-0-clause-narrow
returns-in-0-clause-narrow c =
    let zero : c.coefficient.result ≡ pos 0 = omega (arith, ints) in
    wide-substituted (place c.args.x) c.args.u.now c.args.a.now (sym c.coefficient.ensures ∙ zero)
