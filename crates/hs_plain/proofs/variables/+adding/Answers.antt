use Rattle.std.proofs.Common.{◌≡◌, rules, ◌+◌, false, drop, sym, ap, ◌∙◌, subst}
use Rattle.std.specs.List.{All}
use Rattle.hs_pure.specs.declared.pure.Pure.{Pure, the_lemmas}
use Rattle.hs_pure.specs.Occurs.{has_bags}
use Rattle.hs_plain.specs.Variables.{with_sums}
use Rattle.hs_quantifiers.proofs.Parts.{bags-And, bags-Or}
use Rattle.hs_plain.proofs.Inserting.{all_sums, all_sums-more}
use Rattle.hs_plain.proofs.variables.+adding.Goals as goal

pub add_all-add_all_of-requires : goal.add_all-add_all_of-requires
add_all-add_all_of-requires t c =
    (search (rules, the_lemmas), subst (All (λ (p : Pure). has_bags p ≡ false)) (sym c.as_slice.ensures) (bags-And c.args.p.now c.in-And.ps c.in-And.is c.requires))

pub add_all-add_all_of-requires-in-Or : goal.add_all-add_all_of-requires-in-Or
add_all-add_all_of-requires-in-Or t c =
    (search (rules, the_lemmas), subst (All (λ (p : Pure). has_bags p ≡ false)) (sym c.as_slice-in-Or.ensures) (bags-Or c.args.p.now c.in-Or.ps c.in-Or.is c.requires))

pub add_all_of-loop-p-preserved : goal.add_all_of-loop-p-preserved
add_all_of-loop-p-preserved t c =
    ap (with_sums (all_sums (drop (c.loop-p.p-index + 1) c.args.ps.now))) c.in_ok-add_all.ensures
    ∙ all_sums-more c.args.ps.now c.loop-p.p-index c.p-item.result c.loop-p.variables.items c.loop-p-test.true c.p-item.is
    ∙ c.loop-p.invariant
