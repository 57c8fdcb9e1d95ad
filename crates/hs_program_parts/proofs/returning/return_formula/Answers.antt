use Rattle.std.proofs.Common.{◌≡◌, ◌+◌, ◌≤◌, length, IfOk, ap, ◌∙◌, subst, arith}
use Rattle.hs_pure.specs.Rename.{renaming}
use Rattle.hs_heap.specs.Renamed.{renamed_formula}
use Rattle.hs_program_parts.specs.Pairs.{return_pairs}
use Rattle.hs_program_parts.proofs.Called.{few_all, post_in_range, return_formula_is}
use Rattle.hs_program_parts.proofs.returning.return_formula.Goals as goal

pub return_pairs-requires : goal.return_pairs-requires
return_pairs-requires c = let small = few_all c.args.m.now c.args.p.now c.requires.able in omega arith

pub put_names-requires : goal.put_names-requires
put_names-requires c = post_in_range c.args.m.now c.args.p.now c.requires.able (renaming c.as_slice.result.now)

pub returns : goal.returns
returns c =
    let names : c.as_slice.result.now ≡ return_pairs c.args.m.now c.args.from c.args.held.now = c.as_slice.ensures ∙ c.in_ok-pairs.ensures in
    subst (λ q. IfOk c.put_names.result (λ f. f ≡ q))
    (ap (λ ps. renamed_formula (renaming ps) c.args.p.now.post) names ∙ return_formula_is c.args.m.now c.args.p.now c.requires.able c.args.from c.args.held.now) c.put_names.ensures
