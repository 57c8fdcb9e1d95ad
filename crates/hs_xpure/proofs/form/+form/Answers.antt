use Rattle.std.proofs.Common.{rules, ◌≡◌, ◌-◌, suc, arith}
use Rattle.hs_xpure.specs.Approximation.{form}
use Rattle.hs_xpure.specs.Counts.{pred_taken}
use Rattle.hs_xpure.proofs.Building.{pred_exists, pred_arguments, pred_room}
use Rattle.hs_xpure.proofs.Steps.{node_room, node_returns, pred_fits, inv_returns, pred_fits_later, body_room, body_returns, item_fits, item_room, item_kept, all_atoms, case_fits, case_room_at, case_kept, all_cases}
use Rattle.hs_xpure.proofs.form.+form.Goals as goal

pub atom_formed-node_formed-requires : goal.atom_formed-node_formed-requires
atom_formed-node_formed-requires t c = node_room (pred_taken c.args.defs.now c.args.level) c.args.atom.now c.args.next c.in-Node.field-0 c.in-Node.is c.requires.room

pub atom_formed-inv_formed-requires-clause-fits : goal.atom_formed-inv_formed-requires-clause-fits
atom_formed-inv_formed-requires-clause-fits t c = pred_fits c.args.defs.now c.args.atom.now c.in-Pred.pred c.args.next c.as_slice-args.result.now c.in-Pred.is c.as_slice-args.ensures c.requires.fits

pub atom_formed-inv_formed-requires-clause-room : goal.atom_formed-inv_formed-requires-clause-room
atom_formed-inv_formed-requires-clause-room t c = let e = c.requires.room in omega arith

pub atom_formed-returns-then-level-eq0 : goal.atom_formed-returns-then-level-eq0
atom_formed-returns-then-level-eq0 t c = inv_returns c.args.defs.now c.args.level c.args.atom.now c.in-Pred.pred c.args.next c.as_slice-args.result.now c.in-Pred.is c.as_slice-args.ensures c.in_ok-inv-in-Pred.inv c.in_ok-inv-in-Pred.ensures c.if-level-eq0.true

pub atom_formed-body_cases-requires : goal.atom_formed-body_cases-requires
atom_formed-body_cases-requires t c =
    let above : c.args.level ≡ suc (c.args.level - 1) = let e = c.if-level-eq0.false in omega arith in (
      search rules,
      (
        c.requires.sound,
        (
          pred_fits_later c.args.defs.now c.args.level c.args.atom.now c.in-Pred.pred c.args.next c.as_slice-args.result.now c.in-Pred.is c.as_slice-args.ensures c.in_ok-inv-in-Pred.inv c.in_ok-inv-in-Pred.ensures c.requires.fits,
          body_room c.args.defs.now c.args.level c.args.atom.now c.in-Pred.pred c.args.next c.as_slice-args.result.now c.in-Pred.is c.as_slice-args.ensures c.in_ok-inv-in-Pred.inv c.in_ok-inv-in-Pred.ensures above c.requires.room,
        ),
      ),
    )

pub atom_formed-returns-in-Node : goal.atom_formed-returns-in-Node
atom_formed-returns-in-Node t c = node_returns c.args.defs.now c.args.level c.args.atom.now c.args.next c.in-Node.field-0 c.node_formed.result c.in-Node.is c.node_formed.ensures

pub atom_formed-returns-in_ok-cases-in-Pred : goal.atom_formed-returns-in_ok-cases-in-Pred
atom_formed-returns-in_ok-cases-in-Pred t c =
    let above : c.args.level ≡ suc (c.args.level - 1) = let e = c.if-level-eq0.false in omega arith in
    body_returns c.args.defs.now c.args.level c.args.atom.now c.in-Pred.pred c.args.next c.as_slice-args.result.now c.in-Pred.is c.as_slice-args.ensures c.in_ok-inv-in-Pred.inv c.in_ok-inv-in-Pred.ensures above c.in_ok-cases-in-Pred.cases c.with_body.result c.in_ok-cases-in-Pred.ensures c.with_body.ensures

pub atoms_formed-atom_formed-requires : goal.atoms_formed-atom_formed-requires
atoms_formed-atom_formed-requires t c = (
  search rules,
  (
    c.requires.sound,
    (
      item_fits c.args.defs.now c.args.level c.args.next c.args.atoms.now c.loop-atom.atom-index c.atom-item.result c.loop-atom-test.true c.atom-item.is c.loop-atom.all c.loop-atom.invariant c.requires.fits,
      item_room c.args.defs.now c.args.level c.args.next c.args.atoms.now c.loop-atom.atom-index c.atom-item.result c.loop-atom-test.true c.atom-item.is c.loop-atom.all c.loop-atom.invariant c.requires.room,
    ),
  ),
)

pub atoms_formed-loop-atom-init : goal.atoms_formed-loop-atom-init
atoms_formed-loop-atom-init t c = c.new-all.ensures

pub atoms_formed-loop-atom-preserved : goal.atoms_formed-loop-atom-preserved
atoms_formed-loop-atom-preserved t c = item_kept c.args.defs.now c.args.level c.args.next c.args.atoms.now c.loop-atom.atom-index c.atom-item.result c.loop-atom-test.true c.atom-item.is c.loop-atom.all c.loop-atom.invariant c.in_ok-one.one c.append.new.self c.in_ok-one.ensures c.in_ok-append.ensures

pub atoms_formed-returns : goal.atoms_formed-returns
atoms_formed-returns t c = all_atoms (form c.args.defs.now c.args.level) c.args.next c.args.atoms.now c.loop-atom.atom-index c.loop-atom.all (let e = c.loop-atom-test.false in omega arith) c.loop-atom.invariant

pub body_cases-instantiate-requires-clause-exists : goal.body_cases-instantiate-requires-clause-exists
body_cases-instantiate-requires-clause-exists t c = pred_exists c.args.defs.now c.requires.sound c.args.pred c.args.root c.args.args.now c.args.next c.requires.fits

pub body_cases-instantiate-requires-clause-arguments : goal.body_cases-instantiate-requires-clause-arguments
body_cases-instantiate-requires-clause-arguments t c = pred_arguments c.args.defs.now c.requires.sound c.args.pred c.args.root c.args.args.now c.args.next c.requires.fits

pub body_cases-instantiate-requires-clause-room : goal.body_cases-instantiate-requires-clause-room
body_cases-instantiate-requires-clause-room t c = pred_room c.args.defs.now c.requires.sound c.args.pred c.args.root c.args.args.now c.args.next c.requires.fits (let e = c.requires.room in omega arith)

pub body_cases-atoms_formed-requires : goal.body_cases-atoms_formed-requires
body_cases-atoms_formed-requires t c = (
  search rules,
  (
    c.requires.sound,
    (
      case_fits c.args.defs.now c.args.level c.requires.sound c.args.pred c.args.root c.args.args.now c.args.next c.requires.fits c.in_ok-body.body c.in_ok-body.first c.as_slice-case-items.result.now c.in_ok-body.ensures.same c.in_ok-body.ensures.next c.as_slice-case-items.ensures
          c.loop-case.case-index c.case-item.result c.loop-case-test.true c.case-item.is c.loop-case.all c.loop-case.invariant c.as_slice.result.now c.as_slice.ensures,
      case_room_at c.args.defs.now c.args.level c.requires.sound c.args.pred c.args.root c.args.args.now c.args.next c.requires.fits c.in_ok-body.body c.in_ok-body.first c.as_slice-case-items.result.now c.in_ok-body.ensures.same c.in_ok-body.ensures.next c.as_slice-case-items.ensures
          c.loop-case.case-index c.case-item.result c.loop-case-test.true c.case-item.is c.loop-case.all c.loop-case.invariant c.as_slice.result.now c.as_slice.ensures c.requires.room,
    ),
  ),
)

pub body_cases-loop-case-init : goal.body_cases-loop-case-init
body_cases-loop-case-init t c = c.new-all.ensures

pub body_cases-loop-case-preserved : goal.body_cases-loop-case-preserved
body_cases-loop-case-preserved t c = case_kept c.args.defs.now c.args.level c.requires.sound c.args.pred c.args.root c.args.args.now c.args.next c.requires.fits c.in_ok-body.body c.in_ok-body.first c.as_slice-case-items.result.now c.in_ok-body.ensures.same c.in_ok-body.ensures.next c.as_slice-case-items.ensures
    c.loop-case.case-index c.case-item.result c.loop-case-test.true c.case-item.is c.loop-case.all c.loop-case.invariant c.as_slice.result.now c.as_slice.ensures
    c.in_ok-atoms.atoms c.in_ok-one.one c.append.new.self c.as_slice-in-loop-case.result.now c.as_slice-in-loop-case.ensures c.in_ok-atoms.ensures c.in_ok-one.ensures c.in_ok-append.ensures

pub body_cases-returns : goal.body_cases-returns
body_cases-returns t c = all_cases c.args.defs.now c.args.level c.requires.sound c.args.pred c.args.root c.args.args.now c.args.next c.requires.fits c.in_ok-body.body c.in_ok-body.first c.as_slice-case-items.result.now c.in_ok-body.ensures.same c.in_ok-body.ensures.next c.as_slice-case-items.ensures
    c.loop-case.case-index c.loop-case.all (let e = c.loop-case-test.false in omega arith) c.loop-case.invariant
