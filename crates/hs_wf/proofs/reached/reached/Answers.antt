use Rattle.std.proofs.Common.{◌≡◌, true, length, sym, ◌∙◌, subst, arith}
use Rattle.hs_pure.specs.declared.var.Var.{Var}
use Rattle.hs_heap.specs.Meaning.{is_in}
use Rattle.hs_wf.specs.Links.{Followed, case_links}
use Rattle.hs_wf.specs.Marked.{is_marked}
use Rattle.hs_wf.proofs.Following.{Spread, spread_start, spread_step, spread_end}
use Rattle.hs_wf.proofs.Linked.{led_is_reached}
use Rattle.hs_wf.proofs.reached.reached.Goals as goal

pub following-init : goal.following-init
following-init c =
    let links = case_links c.args.case.now in
    subst (λ ls. Spread (λ v. is_in v c.args.names.now) (case_links c.args.case.now) (is_marked c.in_ok-marks.marks) ls) (sym c.in_ok-links.ensures)
    (subst (λ m. Spread (λ v. is_in v c.args.names.now) (case_links c.args.case.now) m (case_links c.args.case.now)) (λ j v. sym (c.in_ok-marks.ensures v) j)
    (spread_start (λ v. is_in v c.args.names.now) links))

pub following-preserved : goal.following-preserved
following-preserved c =
    let pass = subst (λ ls. Followed (is_marked c.following.marks) (is_marked c.follow.new.marks) ls c.in_ok-waiting.waiting.items) c.deref.ensures.value c.in_ok-waiting.ensures in
    spread_step (λ v. is_in v c.args.names.now) (case_links c.args.case.now) (is_marked c.following.marks) c.following.links.items c.following.invariant (is_marked c.follow.new.marks) c.in_ok-waiting.waiting.items pass

pub returns-then-len : goal.returns-then-len
returns-then-len c =
    let names = c.args.names.now in
    let first = λ (v : Var). is_in v c.args.names.now in
    let links = case_links c.args.case.now in
    let new = is_marked c.follow.new.marks in
    let rest = c.following.links.items in
    let waiting = c.in_ok-waiting.waiting.items in
    let pass : Followed (is_marked c.following.marks) (is_marked c.follow.new.marks) c.following.links.items c.in_ok-waiting.waiting.items =
    subst (λ ls. Followed (is_marked c.following.marks) (is_marked c.follow.new.marks) ls c.in_ok-waiting.waiting.items) c.deref.ensures.value c.in_ok-waiting.ensures in
    let step : Spread (λ v. is_in v c.args.names.now) (case_links c.args.case.now) (is_marked c.follow.new.marks) c.in_ok-waiting.waiting.items =
    spread_step first links (is_marked c.following.marks) rest c.following.invariant new waiting pass in
    let all : length c.in_ok-waiting.waiting.items ≡ length c.following.links.items = grind arith in
    λ v. (
      λ m. (led_is_reached names c.args.case.now v).0 (step.sound v m),
      λ r. spread_end first links (is_marked c.following.marks) rest c.following.invariant new waiting pass all v ((led_is_reached names c.args.case.now v).1 r),
    )
