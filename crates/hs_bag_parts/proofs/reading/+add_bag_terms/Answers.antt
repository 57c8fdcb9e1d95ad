use Rattle.std.proofs.Common.{sym, ◌∙◌}
use Rattle.hs_pure.specs.declared.bag.Bag.TheVariants as bag_of
use Rattle.hs_bag_parts.proofs.Members.{on_ok_map}
use Rattle.hs_bag_parts.proofs.Together.{terms-Union, terms-Inter, terms-Diff}
use Rattle.hs_bag_parts.proofs.reading.+add_bag_terms.Goals as goal

pub returns-in_ok-add_bag_terms-in-Union : goal.returns-in_ok-add_bag_terms-in-Union
returns-in_ok-add_bag_terms-in-Union t c =
    on_ok_map c.add_bag_terms-in-Union.result (λ e. e ∙ terms-Union c.args.listed.now c.get.result.now c.get-in-Union.result.now c.args.b.now _ c.in_ok-add_bag_terms-in-Union.ensures (c.in-Union.is ∙ (λ j. bag_of.Union (sym c.get.ensures j) (sym c.get-in-Union.ensures j)))) c.add_bag_terms-in-Union.ensures

pub returns-in_ok-add_bag_terms-in-Inter : goal.returns-in_ok-add_bag_terms-in-Inter
returns-in_ok-add_bag_terms-in-Inter t c =
    on_ok_map c.add_bag_terms-in-Inter-2.result (λ e. e ∙ terms-Inter c.args.listed.now c.get-in-Inter.result.now c.get-in-Inter-2.result.now c.args.b.now _ c.in_ok-add_bag_terms-in-Inter.ensures (c.in-Inter.is ∙ (λ j. bag_of.Inter (sym c.get-in-Inter.ensures j) (sym c.get-in-Inter-2.ensures j)))) c.add_bag_terms-in-Inter-2.ensures

pub returns-in_ok-add_bag_terms-in-Diff : goal.returns-in_ok-add_bag_terms-in-Diff
returns-in_ok-add_bag_terms-in-Diff t c =
    on_ok_map c.add_bag_terms-in-Diff-2.result (λ e. e ∙ terms-Diff c.args.listed.now c.get-in-Diff.result.now c.get-in-Diff-2.result.now c.args.b.now _ c.in_ok-add_bag_terms-in-Diff.ensures (c.in-Diff.is ∙ (λ j. bag_of.Diff (sym c.get-in-Diff.ensures j) (sym c.get-in-Diff-2.ensures j)))) c.add_bag_terms-in-Diff-2.ensures
