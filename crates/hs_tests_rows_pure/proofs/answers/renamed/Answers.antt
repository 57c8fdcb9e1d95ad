use Rattle.std.proofs.Common.{◌<◌, length, sym, subst, arith}
use Rattle.std.specs.List.{All}
use Rattle.hs_pure.specs.Rename.{renaming}
use Rattle.hs_pure.specs.Sums.{IsLight}
use Rattle.hs_pure.proofs.Weight.{light_in_range}
use Rattle.hs_tests_rows_pure.proofs.answers.renamed.Goals as goal

pub rename-requires-clause-in_range : goal.rename-requires-clause-in_range
rename-requires-clause-in_range c =
    let each : All IsLight c.as_slice.result.now =
    subst (All IsLight) (sym c.as_slice.ensures) (c.in_ok-is_light.ensures c.if-not-branch.false) in
    let there = c.in-len1.len_at_least in
    let less : 0 < length c.as_slice.result.now = omega arith in
    light_in_range (renaming c.args.map.now) c.p-item.result (subst IsLight (sym c.p-item.is) (each 0 c.p-item.result less))
