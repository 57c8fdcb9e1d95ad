use Rattle.std.proofs.Common.{◌≡◌, sym, ◌∙◌, ap, subst}
use Rattle.std.specs.List.{list_any}
use Rattle.hs_wf.specs.Founded.{HasOneRoot, is_root_predicate}
use Rattle.hs_wf.specs.Marked.{first_unmarked}
use Rattle.hs_wf.proofs.Unmarked.{first_unmarked-some, first_unmarked-none}
use Rattle.hs_wf.proofs.case.case_fault.Goals as goal

pub returns-in-Some : goal.returns-in-Some
returns-in-Some c =
    let root = c.has_one_root.ensures.0 c.if-not-has_one_root.false in (
      ap (list_any is_root_predicate) (sym c.as_slice-atoms.ensures) ∙ sym c.has_root_predicate.ensures ∙ c.if-has_root_predicate.false,
      subst HasOneRoot c.as_slice-atoms.ensures root,
      first_unmarked-some c.args.names.now c.args.case.now c.in_ok-marks.marks c.in_ok-marks.ensures c.args.case.now.atoms c.in-Some.v
          (ap (first_unmarked c.in_ok-marks.marks) (sym c.as_slice-atoms.ensures) ∙ sym c.first_unmarked.ensures ∙ c.in-Some.is),
    )

pub returns : goal.returns
returns c =
    let root = c.has_one_root.ensures.0 c.if-not-has_one_root.false in
    record {
      no_predicate = ap (list_any is_root_predicate) (sym c.as_slice-atoms.ensures) ∙ sym c.has_root_predicate.ensures ∙ c.if-has_root_predicate.false;
      one_root = subst HasOneRoot c.as_slice-atoms.ensures root;
      reached = first_unmarked-none c.args.names.now c.args.case.now c.in_ok-marks.marks c.in_ok-marks.ensures c.args.case.now.atoms
          (ap (first_unmarked c.in_ok-marks.marks) (sym c.as_slice-atoms.ensures) ∙ sym c.first_unmarked.ensures ∙ c.in-None.is);
    }
