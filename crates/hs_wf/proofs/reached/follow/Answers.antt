use Rattle.std.proofs.Common.{◌≡◌, false, ◌+◌, ◌++◌, ◌∷◌, [], take, get_or, sym, ◌∙◌, subst}
use Rattle.std.proofs.lemmas.List.{take_more}
use Rattle.hs_pure.specs.declared.var.Var.{Var}
use Rattle.hs_wf.specs.Links.{Link, Followed}
use Rattle.hs_wf.specs.Marked.{is_marked}
use Rattle.hs_wf.proofs.Following.{follow_nothing, follow_marked, follow_unmarked}
use Rattle.hs_wf.proofs.reached.follow.Goals as goal
use Rattle.hs_wf.proofs.reached.follow.Goals.{then-has+in_ok-mark, else-has+in_ok-push}

abbrev none : Link
none = (record { number = 0; bag = false }, record { number = 0; bag = false })

pub loop-link-init : goal.loop-link-init
loop-link-init c =
    subst (λ waiting. Followed (is_marked c.args.marks.now) (is_marked c.args.marks.now) [] waiting) (sym c.new-waiting.ensures.items) (follow_nothing (is_marked c.args.marks.now))

pub loop-link-preserved : goal.loop-link-preserved
loop-link-preserved c =
    let links = c.args.links.now in
    let i = c.loop-link.link-index in
    let l = get_or c.args.links.now c.loop-link.link-index none in
    let old = is_marked c.args.marks.now in
    let front = take c.loop-link.link-index c.args.links.now in
    subst (λ ls. Followed (is_marked c.args.marks.now) (is_marked c.if-has.marks) ls c.if-has.waiting.items) (sym (take_more links i none c.loop-link-test.true))
    (elim c.if-has.branch [
      | then-has+in_ok-mark w ↦
          subst (λ m. Followed (is_marked c.args.marks.now) (is_marked m) (take c.loop-link.link-index c.args.links.now ++ get_or c.args.links.now c.loop-link.link-index none ∷ []) c.if-has.waiting.items) (sym w.marks-is)
          (subst (λ v. Followed (is_marked c.args.marks.now) (is_marked w.mark.new.self) (take c.loop-link.link-index c.args.links.now ++ get_or c.args.links.now c.loop-link.link-index none ∷ []) v.items) (sym w.waiting-is)
          (follow_marked old (is_marked c.loop-link.marks) (is_marked w.mark.new.self) front c.loop-link.waiting.items l c.loop-link.invariant (sym c.has.ensures ∙ w.if-has.true) w.in_ok-mark.ensures))
      | else-has+in_ok-push w ↦
          subst (λ m. Followed (is_marked c.args.marks.now) (is_marked m) (take c.loop-link.link-index c.args.links.now ++ get_or c.args.links.now c.loop-link.link-index none ∷ []) c.if-has.waiting.items) (sym w.marks-is)
          (subst (λ v. Followed (is_marked c.args.marks.now) (is_marked c.loop-link.marks) (take c.loop-link.link-index c.args.links.now ++ get_or c.args.links.now c.loop-link.link-index none ∷ []) v.items) (sym w.waiting-is)
          (subst (λ items. Followed (is_marked c.args.marks.now) (is_marked c.loop-link.marks) (take c.loop-link.link-index c.args.links.now ++ get_or c.args.links.now c.loop-link.link-index none ∷ []) items) (sym w.in_ok-push.ensures.items)
          (follow_unmarked old (is_marked c.loop-link.marks) (is_marked c.loop-link.marks) front c.loop-link.waiting.items l c.loop-link.invariant (sym c.has.ensures ∙ w.if-has.false))))
    ])
