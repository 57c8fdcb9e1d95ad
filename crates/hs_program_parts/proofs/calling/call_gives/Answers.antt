use Rattle.std.proofs.Common.{◌≡◌, ℕ, ◌+◌, ◌≤◌, ◌<◌, List, length, map, ap, ◌∙◌, arith, rules}
use Rattle.hs_pure.specs.Rename.{renaming}
use Rattle.hs_heap.specs.Renamed.{renamed_formula}
use Rattle.hs_program_rules.specs.Parts.{result_var, last_vars}
use Rattle.hs_program_parts.specs.Pairs.{call_pairs}
use Rattle.hs_program_parts.proofs.Called.{few_params, few_refs, few_all, first, lasts_at, post_in_range, post_is, result_is, lasts_are}
use Rattle.hs_program_parts.proofs.calling.call_gives.Goals as goal

pub overflow_add-first : goal.overflow_add-first
overflow_add-first c = let small = few_params c.args.m.now c.args.p.now c.requires.able in search rules

pub overflow_add-m : goal.overflow_add-m
overflow_add-m c = let small = few_params c.args.m.now c.args.p.now c.requires.able in search rules

pub overflow_cast-refs : goal.overflow_cast-refs
overflow_cast-refs c =
    let small = few_refs c.args.m.now c.args.p.now c.requires.able in
    let e : length c.as_slice-refs.result.now ≡ length c.args.m.now.refs = ap (λ (ks : List ℕ). length ks) c.as_slice-refs.ensures in search rules

pub new_vars-requires : goal.new_vars-requires
new_vars-requires c =
    let small = few_all c.args.m.now c.args.p.now c.requires.able in
    let e : length c.as_slice-refs.result.now ≡ length c.args.m.now.refs = ap (λ (ks : List ℕ). length ks) c.as_slice-refs.ensures in omega arith

pub put_names-requires-2 : goal.put_names-requires-2
put_names-requires-2 c = post_in_range c.args.m.now c.args.p.now c.requires.able (renaming c.as_slice-4.result.now)

pub returns-clause-result : goal.returns-clause-result
returns-clause-result c =
    let names : c.as_slice.result.now ≡ call_pairs c.args.m.now c.args.p.now c.args.args.now c.args.fresh = c.as_slice.ensures ∙ c.in_ok-pairs.ensures.pairs in
    c.put_name-result.ensures ∙ first c.args.m.now c.as_slice.result.now ∙ ap (λ ps. renaming ps (result_var c.args.m.now)) names ∙ result_is c.args.m.now c.args.p.now c.requires.able c.args.args.now c.args.fresh c.requires.arity

pub returns-clause-lasts : goal.returns-clause-lasts
returns-clause-lasts c =
    let names : c.as_slice-2.result.now ≡ call_pairs c.args.m.now c.args.p.now c.args.args.now c.args.fresh = c.as_slice-2.ensures ∙ c.in_ok-pairs.ensures.pairs in
    let refs : length c.as_slice-refs.result.now ≡ length c.args.m.now.refs = ap (λ (ks : List ℕ). length ks) c.as_slice-refs.ensures in
    let old : c.as_slice-3.result.now ≡ last_vars c.args.m.now = c.as_slice-3.ensures ∙ c.in_ok-old.ensures ∙ lasts_at c.args.m.now (length c.as_slice-refs.result.now) refs in
    c.in_ok-lasts.ensures ∙ (λ i. map (renaming (names i)) (old i)) ∙ lasts_are c.args.m.now c.args.p.now c.requires.able c.args.args.now c.args.fresh c.requires.arity

pub returns-clause-post : goal.returns-clause-post
returns-clause-post c =
    let names : c.as_slice-4.result.now ≡ call_pairs c.args.m.now c.args.p.now c.args.args.now c.args.fresh = c.as_slice-4.ensures ∙ c.in_ok-pairs.ensures.pairs in
    c.in_ok-post.ensures ∙ ap (λ ps. renamed_formula (renaming ps) c.args.p.now.post) names ∙ post_is c.args.m.now c.args.p.now c.requires.able c.args.args.now c.args.fresh c.requires.arity
