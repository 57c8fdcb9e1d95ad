use Rattle.std.proofs.Common.{◌≡◌, ◌≤◌, ◌^◌, subst}
use Rattle.hs_heap.specs.declared.formula.Of.TheVariants.{Pred}
use Rattle.hs_heap.specs.Instance.{body_of, next_after}
use Rattle.hs_rules.specs.Subgoals.{left_replaced}
use Rattle.hs_rules.proofs.Fitting.{AtomIsGood}
use Rattle.hs_atom_rules.proofs.Found.{IsFound, found, found_is_good, left_replaced_is, name_is, of_pred}
use Rattle.hs_atom_rules.proofs.Asked.{pred_exists, pred_arguments, pred_room}
use Rattle.hs_atom_rules.proofs.bodies.unfold.Goals as goal

pub instantiate-requires : goal.instantiate-requires
instantiate-requires c =
    let g = c.args.goal.now in
    let defs = c.args.defs.now in
    let a = c.in-Some-atom_at.atom.now in
    let at : IsFound g.left c.args.l c.in-Some.side.now a = found g.left c.args.l c.in-Some.side.now c.as_slice.result.now a c.in-Some.ensures c.as_slice.ensures c.in-Some-atom_at.ensures in
    let good : AtomIsGood defs g.next a = found_is_good defs g.next g.left c.args.l c.in-Some.side.now a c.requires.fits.left at in
    record {
      sound = c.requires.sound;
      exists = pred_exists defs c.requires.sound g.next a good c.as_slice-2.result.now c.as_slice-2.ensures c.in-Pred.pred c.in-Pred.is;
      arguments = pred_arguments defs c.requires.sound g.next a good c.as_slice-2.result.now c.as_slice-2.ensures c.in-Pred.pred c.in-Pred.is;
      room = pred_room defs c.requires.sound g.next a good c.as_slice-2.result.now c.as_slice-2.ensures c.in-Pred.pred c.in-Pred.is c.requires.fits.few;
    }

pub returns : goal.returns
returns c =
    let g = c.args.goal.now in
    let defs = c.args.defs.now in
    let a = c.in-Some-atom_at.atom.now in
    let at : IsFound g.left c.args.l c.in-Some.side.now a = found g.left c.args.l c.in-Some.side.now c.as_slice.result.now a c.in-Some.ensures c.as_slice.ensures c.in-Some-atom_at.ensures in
    let name = name_is g.left c.args.l c.in-Some.side.now a at c.in-Pred.pred c.in-Pred.is in
    let next_is : c.in_ok-body.next ≡ next_after (body_of defs (Pred c.in-Pred.pred)) g.next = c.in_ok-body.ensures.next in
    let sub_is : c.in_ok-put_left.field-0 ≡ left_replaced g c.args.l (body_of defs (Pred c.in-Pred.pred)) = left_replaced_is g c.args.l c.in-Some.side.now a at (body_of defs (Pred c.in-Pred.pred)) c.as_slice-2.result.now c.in_ok-body.body c.in_ok-body.next c.in_ok-put_left.field-0
    c.as_slice-2.ensures c.in_ok-body.ensures.same next_is c.in_ok-put_left.ensures in
    record {
      exact = (
        (
          record { left = at.simple; place = at.place; pred = of_pred g.left c.args.l c.in-Some.side.now a at c.in-Pred.pred c.in-Pred.is },
          subst (λ o. next_after (body_of defs o) g.next ≤ 2 ^ 30) name (subst (λ n. n ≤ 2 ^ 30) next_is c.if-next-gt-MOST.false),
        ),
        subst (λ o. c.in_ok-put_left.field-0 ≡ left_replaced g c.args.l (body_of defs o)) name sub_is,
      );
    }
