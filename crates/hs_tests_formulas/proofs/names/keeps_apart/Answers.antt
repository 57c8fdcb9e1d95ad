use Rattle.std.proofs.Common.{sym, ◌∙◌}
use Rattle.hs_pure.specs.Rename.{renaming}
use Rattle.hs_tests_formulas.proofs.Apart.{unbound_apart}
use Rattle.hs_tests_formulas.proofs.names.keeps_apart.Goals as goal

pub returns : goal.returns
returns c = λ t. unbound_apart (renaming c.args.map.now) c.args.p.now (sym c.binds.ensures ∙ c.if-binds.false)
