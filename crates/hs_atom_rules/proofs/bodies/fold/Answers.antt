use Rattle.std.proofs.Common.{◌≡◌, ◌≤◌, ◌^◌, ap, ◌∙◌, subst}
use Rattle.hs_heap.specs.declared.formula.Of.TheVariants.{Pred}
use Rattle.hs_heap.specs.Instance.{body_of, next_after}
use Rattle.hs_rules.specs.Parts.{IsPlace, case_at}
use Rattle.hs_rules.specs.Subgoals.{right_replaced}
use Rattle.hs_rules.proofs.Fitting.{AtomIsGood}
use Rattle.hs_atom_rules.proofs.Found.{IsFound, found, found_is_good, right_replaced_is, name_is, of_pred, case_place}
use Rattle.hs_atom_rules.proofs.Asked.{pred_exists, pred_arguments, pred_room}
use Rattle.hs_atom_rules.proofs.bodies.fold.Goals as goal

pub instantiate-requires : goal.instantiate-requires
instantiate-requires c =
    let g = c.args.goal.now in
    let defs = c.args.defs.now in
    let a = c.in-Some-atom_at.atom.now in
    let at : IsFound g.right c.args.r c.in-Some.side.now a = found g.right c.args.r c.in-Some.side.now c.as_slice.result.now a c.in-Some.ensures c.as_slice.ensures c.in-Some-atom_at.ensures in
    let good : AtomIsGood defs g.next a = found_is_good defs g.next g.right c.args.r c.in-Some.side.now a c.requires.fits.right at in
    record {
      sound = c.requires.sound;
      exists = pred_exists defs c.requires.sound g.next a good c.as_slice-2.result.now c.as_slice-2.ensures c.in-Pred.pred c.in-Pred.is;
      arguments = pred_arguments defs c.requires.sound g.next a good c.as_slice-2.result.now c.as_slice-2.ensures c.in-Pred.pred c.in-Pred.is;
      room = pred_room defs c.requires.sound g.next a good c.as_slice-2.result.now c.as_slice-2.ensures c.in-Pred.pred c.in-Pred.is c.requires.fits.few;
    }

pub returns : goal.returns
returns c =
    let g = c.args.goal.now in
    let defs = c.args.defs.now in
    let a = c.in-Some-atom_at.atom.now in
    let b = body_of defs (Pred c.in-Pred.pred) in
    let at : IsFound g.right c.args.r c.in-Some.side.now a = found g.right c.args.r c.in-Some.side.now c.as_slice.result.now a c.in-Some.ensures c.as_slice.ensures c.in-Some-atom_at.ensures in
    let name = name_is g.right c.args.r c.in-Some.side.now a at c.in-Pred.pred c.in-Pred.is in
    let next_is : c.in_ok-body.next ≡ next_after b g.next = c.in_ok-body.ensures.next in
    let case_is : c.in-Some-case_at.case.now ≡ case_at c.args.i c.in_ok-body.body.cases = c.in-Some-case_at.ensures.1 ∙ ap (case_at c.args.i) c.as_slice-3.ensures in
    let place : IsPlace c.args.i b.formula.cases = case_place c.args.i b a c.as_slice-2.result.now g.next c.in_ok-body.body c.as_slice-3.result.now c.in_ok-body.ensures.same c.as_slice-3.ensures c.in-Some-case_at.ensures.0 in
    let sub_is : c.in_ok-put_right.field-0 ≡ right_replaced g c.args.r c.args.i b = right_replaced_is g c.args.r c.args.i c.in-Some.side.now a at b c.as_slice-2.result.now c.in_ok-body.body c.in_ok-body.next c.in_ok-put_right.field-0
    c.as_slice-2.ensures c.in_ok-body.ensures.same next_is c.in-Some-case_at.case.now case_is c.in_ok-put_right.ensures in
    record {
      exact = (
        (
          record {
            right = at.simple;
            place = at.place;
            pred = of_pred g.right c.args.r c.in-Some.side.now a at c.in-Pred.pred c.in-Pred.is;
            case_place = subst (λ o. IsPlace c.args.i (body_of defs o).formula.cases) name place;
          },
          subst (λ o. next_after (body_of defs o) g.next ≤ 2 ^ 30) name (subst (λ n. n ≤ 2 ^ 30) next_is c.if-next-gt-MOST.false),
        ),
        subst (λ o. c.in_ok-put_right.field-0 ≡ right_replaced g c.args.r c.args.i (body_of defs o)) name sub_is,
      );
    }
