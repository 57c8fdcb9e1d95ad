use Rattle.std.proofs.Common.{◌≡◌, IfOk, ◌∙◌, ap, sym, subst}
use Rattle.hs_pure.specs.Rename.{renaming}
use Rattle.hs_heap.specs.Renamed.{renamed_disjunct, DisjunctInRange}
use Rattle.hs_rules.specs.Parts.{to_fresh}
use Rattle.hs_side_rules.specs.Opening.{fresh_pairs}
use Rattle.hs_side_rules.proofs.Pairs.{pairs_are, opened_in_range}
use Rattle.hs_side_rules.proofs.opening.renamed.Goals as goal

pub put_names-requires : goal.put_names-requires
put_names-requires c =
    let names : renaming c.as_slice-2.result.now ≡ to_fresh c.args.case.now.bound c.args.next =
    ap renaming (c.as_slice-2.ensures ∙ c.in_ok-pairs.ensures ∙ ap (λ bs. fresh_pairs bs c.args.next) c.as_slice.ensures) ∙ pairs_are c.args.case.now.bound c.args.next in
    subst (λ ρ. DisjunctInRange ρ c.args.case.now) (sym names) (opened_in_range c.apart_may_rename.ensures c.args.next c.args.case.now c.requires.able)

pub returns : goal.returns
returns c =
    let names : renaming c.as_slice-2.result.now ≡ to_fresh c.args.case.now.bound c.args.next =
    ap renaming (c.as_slice-2.ensures ∙ c.in_ok-pairs.ensures ∙ ap (λ bs. fresh_pairs bs c.args.next) c.as_slice.ensures) ∙ pairs_are c.args.case.now.bound c.args.next in
    subst (λ ρ. IfOk c.put_names.result (λ d. d ≡ renamed_disjunct ρ c.args.case.now)) names c.put_names.ensures
