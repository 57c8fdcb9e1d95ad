use Rattle.std.proofs.Common.{◌≡◌, map, ap, ◌∙◌}
use Rattle.hs_pure.specs.Rename.{renaming}
use Rattle.hs_heap.specs.Renamed.{renamed_formula}
use Rattle.hs_program_parts.specs.Pairs.{call_pairs}
use Rattle.hs_program_parts.proofs.Called.{pre_in_range, pre_is, logic_is}
use Rattle.hs_program_parts.proofs.calling.call_asks.Goals as goal

pub put_names-requires-2 : goal.put_names-requires-2
put_names-requires-2 c = pre_in_range c.args.m.now c.args.p.now c.requires.able (renaming c.as_slice-3.result.now)

pub returns-clause-opens : goal.returns-clause-opens
returns-clause-opens c =
    let names : c.as_slice.result.now ≡ call_pairs c.args.m.now c.args.p.now c.args.args.now c.args.fresh = c.as_slice.ensures ∙ c.in_ok-pairs.ensures.pairs in
    c.in_ok-opens.ensures ∙ (λ i. map (renaming (names i)) (c.as_slice-2.ensures i)) ∙ logic_is c.args.m.now c.args.p.now c.requires.able c.args.args.now c.args.fresh c.requires.arity

pub returns-clause-pre : goal.returns-clause-pre
returns-clause-pre c =
    let names : c.as_slice-3.result.now ≡ call_pairs c.args.m.now c.args.p.now c.args.args.now c.args.fresh = c.as_slice-3.ensures ∙ c.in_ok-pairs.ensures.pairs in
    c.in_ok-pre.ensures ∙ ap (λ ps. renamed_formula (renaming ps) c.args.p.now.pre) names ∙ pre_is c.args.m.now c.args.p.now c.requires.able c.args.args.now c.args.fresh c.requires.arity
