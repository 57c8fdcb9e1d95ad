use Rattle.std.proofs.Common.{sym, refl}
use Rattle.hs_goal.specs.declared.rule.ERule.TheVariants as rule_of
use Rattle.hs_goal.specs.Classes.{the_case}
use Rattle.hs_rules.specs.Subgoals.{left_opened, right_opened, with_right_case, instantiated_by, matched}
use Rattle.hs_atom_rules.specs.Answers.{unfolded, by_lemma, folded}
use Rattle.hs_subgoals.proofs.Applied.{roomy_applies, one_applies, kept_applies, rule_is, each_has_room, both_have_room, none_lacks_room}
use Rattle.hs_subgoals.proofs.Closed.{case_is_proper}
use Rattle.hs_subgoals.proofs.rules.subgoals.Goals as goal

pub left_exists-requires : goal.left_exists-requires
left_exists-requires c = c.fitting_cases_can_be_opened.ensures c.args.defs.now c.args.goal.now.next c.args.goal.now.left c.requires.fits.left c.requires.fits.few

pub right_exists-requires : goal.right_exists-requires
right_exists-requires c = c.fitting_cases_can_be_opened.ensures c.args.defs.now c.args.goal.now.next c.args.goal.now.right c.requires.fits.right c.requires.fits.few

pub instantiate-requires : goal.instantiate-requires
instantiate-requires c = case_is_proper c.args.defs.now c.args.goal.now.next c.args.goal.now.right.cases c.requires.fits.right

pub returns-in-LeftOr : goal.returns-in-LeftOr
returns-in-LeftOr c =
    let g = c.args.goal.now in
    let known = rule_of.LeftOr in
    record { exact = rule_is c.args.defs.now g c.args.rule.now c.left_or.result known (sym c.in-LeftOr.is) (roomy_applies c.args.defs.now g known c.left_or.result (each_has_room g c.requires.fits.few g.left.cases) c.left_or.ensures.exact) }

pub returns-in-LeftExists : goal.returns-in-LeftExists
returns-in-LeftExists c =
    let g = c.args.goal.now in
    let known = rule_of.LeftExists in
    record {
      exact = rule_is c.args.defs.now g c.args.rule.now c.one_of.result known (sym c.in-LeftExists.is)
          (one_applies c.args.defs.now g known c.one_of.result (left_opened g (the_case g.left)) c.left_exists.result refl c.one_of.ensures c.left_exists.ensures.exact);
    }

pub returns-in-False : goal.returns-in-False
returns-in-False c =
    let g = c.args.goal.now in
    let known = rule_of.False c.in-False.n in
    record { exact = rule_is c.args.defs.now g c.args.rule.now c.close_false.result known (sym c.in-False.is) (roomy_applies c.args.defs.now g known c.close_false.result (none_lacks_room) c.close_false.ensures.exact) }

pub returns-in-Split : goal.returns-in-Split
returns-in-Split c =
    let g = c.args.goal.now in
    let known = rule_of.Split c.in-Split.f in
    record { exact = rule_is c.args.defs.now g c.args.rule.now c.split.result known (sym c.in-Split.is) (roomy_applies c.args.defs.now g known c.split.result (both_have_room g c.requires.fits.few c.in-Split.f) c.split.ensures.exact) }

pub returns-in-RightOr : goal.returns-in-RightOr
returns-in-RightOr c =
    let g = c.args.goal.now in
    let known = rule_of.RightOr c.in-RightOr.i in
    record {
      exact = rule_is c.args.defs.now g c.args.rule.now c.one_of-in-RightOr.result known (sym c.in-RightOr.is)
          (kept_applies c.args.defs.now g known c.one_of-in-RightOr.result (with_right_case g c.in-RightOr.i) c.right_or.result refl c.one_of-in-RightOr.ensures c.requires.fits.few c.right_or.ensures.exact);
    }

pub returns-in-RightExists : goal.returns-in-RightExists
returns-in-RightExists c =
    let g = c.args.goal.now in
    let known = rule_of.RightExists in
    record {
      exact = rule_is c.args.defs.now g c.args.rule.now c.one_of-in-RightExists.result known (sym c.in-RightExists.is)
          (one_applies c.args.defs.now g known c.one_of-in-RightExists.result (right_opened g (the_case g.right)) c.right_exists.result refl c.one_of-in-RightExists.ensures c.right_exists.ensures.exact);
    }

pub returns-in-Instantiate : goal.returns-in-Instantiate
returns-in-Instantiate c =
    let g = c.args.goal.now in
    let known = rule_of.Instantiate c.in-Instantiate.c in
    record {
      exact = rule_is c.args.defs.now g c.args.rule.now c.one_of-in-Instantiate.result known (sym c.in-Instantiate.is)
          (kept_applies c.args.defs.now g known c.one_of-in-Instantiate.result (instantiated_by g c.in-Instantiate.c) c.instantiate.result refl c.one_of-in-Instantiate.ensures c.requires.fits.few c.instantiate.ensures.exact);
    }

pub returns-in-Match : goal.returns-in-Match
returns-in-Match c =
    let g = c.args.goal.now in
    let known = rule_of.Match c.in-Match.r c.in-Match.l in
    record {
      exact = rule_is c.args.defs.now g c.args.rule.now c.one_of-in-Match.result known (sym c.in-Match.is)
          (kept_applies c.args.defs.now g known c.one_of-in-Match.result (matched g c.in-Match.r c.in-Match.l) c.match_atoms.result refl c.one_of-in-Match.ensures c.requires.fits.few c.match_atoms.ensures.exact);
    }

pub returns-in-Unfold : goal.returns-in-Unfold
returns-in-Unfold c =
    let g = c.args.goal.now in
    let known = rule_of.Unfold c.in-Unfold.l in
    record {
      exact = rule_is c.args.defs.now g c.args.rule.now c.one_of-in-Unfold.result known (sym c.in-Unfold.is)
          (one_applies c.args.defs.now g known c.one_of-in-Unfold.result (unfolded c.args.defs.now g c.in-Unfold.l) c.unfold.result refl c.one_of-in-Unfold.ensures c.unfold.ensures.exact);
    }

pub returns-in-Fold : goal.returns-in-Fold
returns-in-Fold c =
    let g = c.args.goal.now in
    let known = rule_of.Fold c.in-Fold.r c.in-Fold.i in
    record {
      exact = rule_is c.args.defs.now g c.args.rule.now c.one_of-in-Fold.result known (sym c.in-Fold.is)
          (one_applies c.args.defs.now g known c.one_of-in-Fold.result (folded c.args.defs.now g c.in-Fold.r c.in-Fold.i) c.fold.result refl c.one_of-in-Fold.ensures c.fold.ensures.exact);
    }

pub returns-in-Empty : goal.returns-in-Empty
returns-in-Empty c =
    let g = c.args.goal.now in
    let known = rule_of.Empty c.in-Empty.n in
    record { exact = rule_is c.args.defs.now g c.args.rule.now c.close_empty.result known (sym c.in-Empty.is) (roomy_applies c.args.defs.now g known c.close_empty.result (none_lacks_room) c.close_empty.ensures.exact) }

pub returns-in-Lemma : goal.returns-in-Lemma
returns-in-Lemma c =
    let g = c.args.goal.now in
    let known = rule_of.Lemma c.in-Lemma.j c.in-Lemma.l in
    record {
      exact = rule_is c.args.defs.now g c.args.rule.now c.one_of-in-Lemma.result known (sym c.in-Lemma.is)
          (one_applies c.args.defs.now g known c.one_of-in-Lemma.result (by_lemma c.args.defs.now g c.in-Lemma.j c.in-Lemma.l) c.use_lemma.result refl c.one_of-in-Lemma.ensures c.use_lemma.ensures.exact);
    }
