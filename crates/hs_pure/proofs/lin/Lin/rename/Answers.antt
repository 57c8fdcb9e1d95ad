use Rattle.std.proofs.Common.{◌≡◌, ℕ, ◌<◌, List, length, ℤ, pos, false, get_or, take, rules, sym, ap, ◌∙◌, subst, to_z, of_z, arith}
use mir.Syntax.{w128}
use mir.Val.{SFits}
use Rattle.std.proofs.lemmas.Int.{to_z-of_z}
use Rattle.std.proofs.lemmas.List.{take_all}
use Rattle.hs_pure.specs.declared.var.Var.{Var}
use Rattle.hs_pure.specs.Rename.{renaming, renamed_terms, MergeFits}
use Rattle.hs_pure.proofs.AddTerm.{renamed_more}
use Rattle.hs_pure.proofs.lin.Lin.rename.Goals as goal

abbrev none : Var × ℤ
none = (record { number = 0; bag = false }, pos 0)

pub add_term-requires : goal.add_term-requires
add_term-requires c =
    let ts = c.as_slice-t-items.result.now in
    let x = get_or ts c.loop-t.t-index none in
    let fits : SFits w128 (get_or c.as_slice-t-items.result.now c.loop-t.t-index none).1 = search rules in
    let ρ = renaming c.args.map.now in
    let all = subst (λ (l : List (Var × ℤ)). (k : ℕ) (d : Var × ℤ) → k < length l → MergeFits (renaming c.args.map.now (get_or l k d).0) (get_or l k d).1 (renamed_terms (renaming c.args.map.now) (take k l)))
    (sym c.as_slice-t-items.ensures) c.requires.merges_fit in
    let here : MergeFits (renaming c.args.map.now (get_or c.as_slice-t-items.result.now c.loop-t.t-index none).0) (get_or c.as_slice-t-items.result.now c.loop-t.t-index none).1 (renamed_terms (renaming c.args.map.now) (take c.loop-t.t-index c.as_slice-t-items.result.now))
    = all c.loop-t.t-index none c.loop-t-test.true in
    subst (λ v. MergeFits v (to_z w128 (of_z w128 x.1)) c.loop-t.terms.items) (sym c.renamed.ensures)
    (subst (λ z. MergeFits (ρ x.0) z c.loop-t.terms.items) (sym (to_z-of_z w128 x.1 fits))
    (subst (λ l. MergeFits (ρ x.0) x.1 l) (sym c.loop-t.invariant) here))

pub loop-t-preserved : goal.loop-t-preserved
loop-t-preserved c =
    let ts = c.as_slice-t-items.result.now in
    let x = get_or ts c.loop-t.t-index none in
    let fits : SFits w128 (get_or c.as_slice-t-items.result.now c.loop-t.t-index none).1 = search rules in
    c.in_ok-add_term.ensures ∙ renamed_more (renaming c.args.map.now) ts c.loop-t.t-index none c.renamed.result (to_z w128 (of_z w128 x.1)) c.loop-t.terms.items
    c.loop-t-test.true c.loop-t.invariant c.renamed.ensures (to_z-of_z w128 x.1 fits)

pub returns : goal.returns
returns c =
    let fits : SFits w128 c.args.self.now.constant = search rules in
    let terms : c.from_vec.result ≡ renamed_terms (renaming c.args.map.now) c.args.self.now.terms
    = c.from_vec.ensures ∙ c.loop-t.invariant ∙ ap (renamed_terms (renaming c.args.map.now)) (take_all c.loop-t.t-index c.as_slice-t-items.result.now (omega arith) ∙ c.as_slice-t-items.ensures) in
    λ i. record { terms = terms i; constant = to_z-of_z w128 c.args.self.now.constant fits i }
