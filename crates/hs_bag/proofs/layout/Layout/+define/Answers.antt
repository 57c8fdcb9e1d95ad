use Rattle.std.proofs.Common.{sym, ◌∙◌}
use Rattle.hs_pure.specs.declared.bag.Bag.TheVariants as bag_of
use Rattle.hs_cooper_forms.proofs.Changes.{ok_map}
use Rattle.hs_bag.specs.Counting.{layout_of}
use Rattle.hs_bag.proofs.Blocks.{union_defined, inter_defined, diff_defined, union_room, inter_room, diff_room, first_fits, second_fits}
use Rattle.hs_bag.proofs.layout.Layout.+define.Goals as goal

pub returns-in_ok-y-in-Union-clause-pure : goal.returns-in_ok-y-in-Union-clause-pure
returns-in_ok-y-in-Union-clause-pure t c = ok_map c.define_operation.result (λ d e. e ∙ union_defined (layout_of c.args.self.now) c.args.block c.args.i c.in_ok-x-in-Union.x.next c.in_ok-y-in-Union.y.next c.get.result.now c.get-in-Union.result.now _ _ _ _ c.in_ok-x-in-Union.ensures.pure c.in_ok-x-in-Union.ensures.own c.in_ok-x-in-Union.ensures.next c.in_ok-y-in-Union.ensures.pure c.in_ok-y-in-Union.ensures.own c.in_ok-y-in-Union.ensures.next c.args.b.now (c.in-Union.is ∙ (λ j. bag_of.Union (sym c.get.ensures j) (sym c.get-in-Union.ensures j)))) c.define_operation.ensures.pure

pub returns-in_ok-y-in-Inter-clause-pure : goal.returns-in_ok-y-in-Inter-clause-pure
returns-in_ok-y-in-Inter-clause-pure t c = ok_map c.define_operation-in-Inter.result (λ d e. e ∙ inter_defined (layout_of c.args.self.now) c.args.block c.args.i c.in_ok-x-in-Inter.x.next c.in_ok-y-in-Inter.y.next c.get-in-Inter.result.now c.get-in-Inter-2.result.now _ _ _ _ c.in_ok-x-in-Inter.ensures.pure c.in_ok-x-in-Inter.ensures.own c.in_ok-x-in-Inter.ensures.next c.in_ok-y-in-Inter.ensures.pure c.in_ok-y-in-Inter.ensures.own c.in_ok-y-in-Inter.ensures.next c.args.b.now (c.in-Inter.is ∙ (λ j. bag_of.Inter (sym c.get-in-Inter.ensures j) (sym c.get-in-Inter-2.ensures j)))) c.define_operation-in-Inter.ensures.pure

pub returns-in_ok-y-in-Diff-clause-pure : goal.returns-in_ok-y-in-Diff-clause-pure
returns-in_ok-y-in-Diff-clause-pure t c = ok_map c.define_operation-in-Diff.result (λ d e. e ∙ diff_defined (layout_of c.args.self.now) c.args.block c.args.i c.in_ok-x-in-Diff.x.next c.in_ok-y-in-Diff.y.next c.get-in-Diff.result.now c.get-in-Diff-2.result.now _ _ _ _ c.in_ok-x-in-Diff.ensures.pure c.in_ok-x-in-Diff.ensures.own c.in_ok-x-in-Diff.ensures.next c.in_ok-y-in-Diff.ensures.pure c.in_ok-y-in-Diff.ensures.own c.in_ok-y-in-Diff.ensures.next c.args.b.now (c.in-Diff.is ∙ (λ j. bag_of.Diff (sym c.get-in-Diff.ensures j) (sym c.get-in-Diff-2.ensures j)))) c.define_operation-in-Diff.ensures.pure

pub define_operation-requires-clause-first : goal.define_operation-requires-clause-first
define_operation-requires-clause-first t c = first_fits c.args.self.now c.args.block c.get.result.now c.get-in-Union.result.now c.in_ok-x-in-Union.x.own c.requires.fits c.in_ok-x-in-Union.ensures.own (union_room c.args.block c.args.self.now.blocks c.get.result.now c.get-in-Union.result.now c.args.b.now (c.in-Union.is ∙ (λ j. bag_of.Union (sym c.get.ensures j) (sym c.get-in-Union.ensures j))) c.requires.room)

pub define_operation-requires-clause-second : goal.define_operation-requires-clause-second
define_operation-requires-clause-second t c = second_fits c.args.self.now c.args.block c.in_ok-x-in-Union.x.next c.get.result.now c.get-in-Union.result.now c.in_ok-y-in-Union.y.own c.requires.fits c.in_ok-x-in-Union.ensures.next c.in_ok-y-in-Union.ensures.own (union_room c.args.block c.args.self.now.blocks c.get.result.now c.get-in-Union.result.now c.args.b.now (c.in-Union.is ∙ (λ j. bag_of.Union (sym c.get.ensures j) (sym c.get-in-Union.ensures j))) c.requires.room)

pub define_operation-requires-in-Inter-clause-first : goal.define_operation-requires-in-Inter-clause-first
define_operation-requires-in-Inter-clause-first t c = first_fits c.args.self.now c.args.block c.get-in-Inter.result.now c.get-in-Inter-2.result.now c.in_ok-x-in-Inter.x.own c.requires.fits c.in_ok-x-in-Inter.ensures.own (inter_room c.args.block c.args.self.now.blocks c.get-in-Inter.result.now c.get-in-Inter-2.result.now c.args.b.now (c.in-Inter.is ∙ (λ j. bag_of.Inter (sym c.get-in-Inter.ensures j) (sym c.get-in-Inter-2.ensures j))) c.requires.room)

pub define_operation-requires-in-Inter-clause-second : goal.define_operation-requires-in-Inter-clause-second
define_operation-requires-in-Inter-clause-second t c = second_fits c.args.self.now c.args.block c.in_ok-x-in-Inter.x.next c.get-in-Inter.result.now c.get-in-Inter-2.result.now c.in_ok-y-in-Inter.y.own c.requires.fits c.in_ok-x-in-Inter.ensures.next c.in_ok-y-in-Inter.ensures.own (inter_room c.args.block c.args.self.now.blocks c.get-in-Inter.result.now c.get-in-Inter-2.result.now c.args.b.now (c.in-Inter.is ∙ (λ j. bag_of.Inter (sym c.get-in-Inter.ensures j) (sym c.get-in-Inter-2.ensures j))) c.requires.room)

pub define_operation-requires-in-Diff-clause-first : goal.define_operation-requires-in-Diff-clause-first
define_operation-requires-in-Diff-clause-first t c = first_fits c.args.self.now c.args.block c.get-in-Diff.result.now c.get-in-Diff-2.result.now c.in_ok-x-in-Diff.x.own c.requires.fits c.in_ok-x-in-Diff.ensures.own (diff_room c.args.block c.args.self.now.blocks c.get-in-Diff.result.now c.get-in-Diff-2.result.now c.args.b.now (c.in-Diff.is ∙ (λ j. bag_of.Diff (sym c.get-in-Diff.ensures j) (sym c.get-in-Diff-2.ensures j))) c.requires.room)

pub define_operation-requires-in-Diff-clause-second : goal.define_operation-requires-in-Diff-clause-second
define_operation-requires-in-Diff-clause-second t c = second_fits c.args.self.now c.args.block c.in_ok-x-in-Diff.x.next c.get-in-Diff.result.now c.get-in-Diff-2.result.now c.in_ok-y-in-Diff.y.own c.requires.fits c.in_ok-x-in-Diff.ensures.next c.in_ok-y-in-Diff.ensures.own (diff_room c.args.block c.args.self.now.blocks c.get-in-Diff.result.now c.get-in-Diff-2.result.now c.args.b.now (c.in-Diff.is ∙ (λ j. bag_of.Diff (sym c.get-in-Diff.ensures j) (sym c.get-in-Diff-2.ensures j))) c.requires.room)
