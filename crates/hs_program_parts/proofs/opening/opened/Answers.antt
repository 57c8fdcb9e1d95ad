use Rattle.std.proofs.Common.{◌≡◌, ◌+◌, ◌<◌, List, length, ◌∙◌, ap, sym, subst, arith}
use Rattle.hs_pure.specs.declared.var.Var.{Var}
use Rattle.hs_heap.specs.declared.formula.Disjunct.{Disjunct}
use Rattle.hs_pure.specs.Rename.{renaming}
use Rattle.hs_heap.specs.Renamed.{renamed_disjunct, DisjunctInRange}
use Rattle.hs_rules.specs.Parts.{to_fresh}
use Rattle.hs_program_parts.specs.Pairs.{fresh_pairs}
use Rattle.hs_program_parts.proofs.Opens.{pairs_are, opened_in_range, room}
use Rattle.hs_program_parts.proofs.opening.opened.Goals as goal

pub put_names-requires : goal.put_names-requires
put_names-requires c =
    let names : renaming c.as_slice-2.result.now ≡ to_fresh c.args.d.now.bound c.args.next =
    ap renaming (c.as_slice-2.ensures ∙ c.in_ok-pairs.ensures ∙ ap (λ bs. fresh_pairs bs c.args.next) c.as_slice.ensures) ∙ pairs_are c.args.d.now.bound c.args.next in
    subst (λ ρ. DisjunctInRange ρ c.args.d.now) (sym names) (opened_in_range c.apart_may_rename.ensures c.args.next c.args.d.now c.requires)

pub fresh_pairs-requires : goal.fresh_pairs-requires
fresh_pairs-requires c =
    let e : length c.as_slice.result.now ≡ length c.args.d.now.bound = ap (λ (vs : List Var). length vs) c.as_slice.ensures in
    let low = room c.args.next c.args.d.now c.requires in omega arith

pub returns : goal.returns
returns c =
    let names : renaming c.as_slice-2.result.now ≡ to_fresh c.args.d.now.bound c.args.next =
    ap renaming (c.as_slice-2.ensures ∙ c.in_ok-pairs.ensures ∙ ap (λ bs. fresh_pairs bs c.args.next) c.as_slice.ensures) ∙ pairs_are c.args.d.now.bound c.args.next in
    let e : ◌≡◌ {A = Disjunct} c.in_ok-atoms.field-0 (renamed_disjunct (to_fresh c.args.d.now.bound c.args.next) c.args.d.now) = c.in_ok-atoms.ensures ∙ ap (λ ρ. renamed_disjunct ρ c.args.d.now) names in
    λ i. record { bound = c.new.ensures i; atoms = (e i).atoms; pure = (e i).pure }
