use Rattle.std.proofs.Common.{◌≡◌, ℕ, ◌+◌, ◌<◌, ℤ, pos, get_or, rules, sym, ap, ◌∙◌, subst, map, IsTrue, ◌↔◌, to_z, of_z, arith}
use Rattle.std.specs.List.{All, Any}
use mir.Syntax.{w128}
use mir.Val.{SFits}
use Rattle.std.proofs.lemmas.Int.{to_z-of_z}
use Rattle.std.proofs.lemmas.Bool.Decides.{nat_tests}
use Rattle.hs_pure.specs.declared.pure.Pure.{Pure, the_lemmas}
use Rattle.hs_pure.specs.Assertion.{bag_eq, subset, all_of, pure_level, bag_term_of, assertion_of}
use Rattle.hs_pure.specs.Truth.{count, IsTrueAt, TrueAt}
use Rattle.hs_pure.specs.Eval.{has_quantifiers, CountFits, NumbersFit}
use Rattle.hs_pure.specs.Stack.{Stack, with_value, number_value}
use Rattle.hs_pure.proofs.Size.{pure_size, total}
use Rattle.hs_pure.specs.Answer.{Tells}
use Rattle.hs_pure.specs.Values.{stack_at, BodyFits, BodyHolds}
use Rattle.hs_pure.proofs.Views.{fold-BagEq, fold-Subset, fold-AllOf}
use Rattle.hs_pure.proofs.Loops.{all_more, tells_all_more, tells_any_more, whole}
use Rattle.hs_pure.proofs.EvalBags.{tells_iff, body_fits, body_holds, body_told, name_told}
use Rattle.hs_pure.proofs.EvalStack.{told, and_told, or_told, stack_at-With, total_above, none_at}
use Rattle.hs_pure.proofs.eval.+holds.Goals as goal

abbrev none : ℤ × ℤ
none = (pos 0, pos 0)

pub all_hold-holds-requires : goal.all_hold-holds-requires
all_hold-holds-requires t c =
    let ps = c.args.ps.now in
    let i = c.loop-p.p-index in
    let small : pure_size (get_or c.args.ps.now c.loop-p.p-index c.p-item.result) < total (map pure_size c.args.ps.now) + 1 = total_above pure_size ps i c.p-item.result c.loop-p-test.true in
    let less : pure_size c.p-item.result < total (map pure_size c.args.ps.now) + 1 = subst (λ q. pure_size q < total (map pure_size c.args.ps.now) + 1) (sym c.p-item.is) small in
    (search (rules, the_lemmas), ap has_quantifiers c.p-item.is ∙ none_at has_quantifiers ps i c.p-item.result c.loop-p-test.true c.requires)

pub all_hold-loop-p-preserved : goal.all_hold-loop-p-preserved
all_hold-loop-p-preserved t c =
    let ps = c.args.ps.now in
    let i = c.loop-p.p-index in
    let F = λ (q : Pure). NumbersFit (stack_at c.args.values.now) (assertion_of q) in
    let T = λ (q : Pure). TrueAt (stack_at c.args.values.now) q in
    let this = subst (λ (q : Pure). F q × (IsTrue c.in_ok-all.field-0 ↔ T q)) c.p-item.is c.in_ok-all.ensures in
    record {
      fits = all_more F ps i c.p-item.result c.loop-p-test.true c.loop-p.invariant.fits this.0;
      tells = tells_all_more T ps i c.p-item.result c.loop-p.all c.in_ok-all.field-0 c.loop-p-test.true c.loop-p.invariant.tells this.1;
    }

pub all_hold-returns : goal.all_hold-returns
all_hold-returns t c =
    let F = λ (q : Pure). NumbersFit (stack_at c.args.values.now) (assertion_of q) in
    let T = λ (q : Pure). TrueAt (stack_at c.args.values.now) q in (
      whole F (All F) c.args.ps.now c.loop-p.p-index c.loop-p-test.false c.loop-p.invariant.fits,
      whole T (λ ys. IsTrue c.loop-p.all ↔ All T ys) c.args.ps.now c.loop-p.p-index c.loop-p-test.false c.loop-p.invariant.tells,
    )

pub any_holds-holds-requires : goal.any_holds-holds-requires
any_holds-holds-requires t c =
    let ps = c.args.ps.now in
    let i = c.loop-p.p-index in
    let small : pure_size (get_or c.args.ps.now c.loop-p.p-index c.p-item.result) < total (map pure_size c.args.ps.now) + 1 = total_above pure_size ps i c.p-item.result c.loop-p-test.true in
    let less : pure_size c.p-item.result < total (map pure_size c.args.ps.now) + 1 = subst (λ q. pure_size q < total (map pure_size c.args.ps.now) + 1) (sym c.p-item.is) small in
    (search (rules, the_lemmas), ap has_quantifiers c.p-item.is ∙ none_at has_quantifiers ps i c.p-item.result c.loop-p-test.true c.requires)

pub any_holds-loop-p-preserved : goal.any_holds-loop-p-preserved
any_holds-loop-p-preserved t c =
    let ps = c.args.ps.now in
    let i = c.loop-p.p-index in
    let F = λ (q : Pure). NumbersFit (stack_at c.args.values.now) (assertion_of q) in
    let T = λ (q : Pure). TrueAt (stack_at c.args.values.now) q in
    let this = subst (λ (q : Pure). F q × (IsTrue c.in_ok-any.field-0 ↔ T q)) c.p-item.is c.in_ok-any.ensures in
    record {
      fits = all_more F ps i c.p-item.result c.loop-p-test.true c.loop-p.invariant.fits this.0;
      tells = tells_any_more T ps i c.p-item.result c.loop-p.any c.in_ok-any.field-0 c.loop-p-test.true c.loop-p.invariant.tells this.1;
    }

pub any_holds-returns : goal.any_holds-returns
any_holds-returns t c =
    let F = λ (q : Pure). NumbersFit (stack_at c.args.values.now) (assertion_of q) in
    let T = λ (q : Pure). TrueAt (stack_at c.args.values.now) q in (
      whole F (All F) c.args.ps.now c.loop-p.p-index c.loop-p-test.false c.loop-p.invariant.fits,
      whole T (λ ys. IsTrue c.loop-p.any ↔ Any T ys) c.args.ps.now c.loop-p.p-index c.loop-p-test.false c.loop-p.invariant.tells,
    )

pub holds-returns-in-BagEq : goal.holds-returns-in-BagEq
holds-returns-in-BagEq t c = told (stack_at c.args.values.now) c.args.p.now (bag_eq (bag_term_of c.in-BagEq.a) (bag_term_of c.in-BagEq.b)) c.is_equal.result
    (ap assertion_of c.in-BagEq.is ∙ fold-BagEq pure_level c.in-BagEq.a c.in-BagEq.b) c.is_equal.ensures

pub holds-returns-in-Subset : goal.holds-returns-in-Subset
holds-returns-in-Subset t c = told (stack_at c.args.values.now) c.args.p.now (subset (bag_term_of c.in-Subset.a) (bag_term_of c.in-Subset.b)) c.is_subset.result
    (ap assertion_of c.in-Subset.is ∙ fold-Subset pure_level c.in-Subset.a c.in-Subset.b) c.is_subset.ensures

pub holds-returns-in-AllOf : goal.holds-returns-in-AllOf
holds-returns-in-AllOf t c =
    let e = c.args.values.now in
    let u = c.in-AllOf.u in
    let b = bag_term_of c.in-AllOf.b in
    let q = assertion_of c.get.result.now in
    told (stack_at e) c.args.p.now (all_of u b q) c.holds_in.result
    (ap assertion_of c.in-AllOf.is ∙ fold-AllOf pure_level u c.in-AllOf.b c.in-AllOf.p ∙ ap (λ (p : Pure). all_of u b (assertion_of p)) (sym c.get.ensures))
    (tells_iff _ _ _ _ c.holds_in.result (body_fits e u b q) (body_holds e u b q) c.holds_in.ensures)

pub holds-returns-in-And : goal.holds-returns-in-And
holds-returns-in-And t c = and_told (stack_at c.args.values.now) c.args.p.now c.in-And.ps c.as_slice.result.now c.all_hold.result c.in-And.is c.as_slice.ensures c.all_hold.ensures

pub holds-returns-in-Or : goal.holds-returns-in-Or
holds-returns-in-Or t c = or_told (stack_at c.args.values.now) c.args.p.now c.in-Or.ps c.as_slice-in-Or.result.now c.any_holds.result c.in-Or.is c.as_slice-in-Or.ensures c.any_holds.ensures

pub holds_in-returns-in-Name : goal.holds_in-returns-in-Name
holds_in-returns-in-Name t c =
    name_told (BodyFits (stack_at c.args.values.now) c.args.u (bag_term_of c.args.b.now) (assertion_of c.args.p.now)) (BodyHolds (stack_at c.args.values.now) c.args.u (bag_term_of c.args.b.now) (assertion_of c.args.p.now))
    c.args.values.now c.args.from.now c.in-Name.v c.bag.result.now c.holds_of_all.result c.in-Name.is c.bag.ensures c.holds_of_all.ensures

pub holds_of-returns-then-branch-gt0 : goal.holds_of-returns-then-branch-gt0
holds_of-returns-then-branch-gt0 t c =
    let s = stack_at c.args.values.now in
    let b = bag_term_of c.args.b.now in
    let q = assertion_of c.args.p.now in
    let x_is = to_z-of_z w128 c.args.x c.ranges.x in
    let fits = subst (λ (x : ℤ). CountFits s b x × (c.in_ok-count.field-0 ≡ count s b x)) x_is c.in_ok-count.ensures in
    let n_is : c.in_ok-count.field-0 ≡ count (stack_at c.args.values.now) (bag_term_of c.args.b.now) c.args.x = fits.1 in
    let some : 0 < c.in_ok-count.field-0 = grind (arith, nat_tests) in
    let here : 0 < count (stack_at c.args.values.now) (bag_term_of c.args.b.now) c.args.x = subst (λ (n : ℕ). 0 < n) n_is some in
    body_told s c.args.u b q c.args.x c.holds.result here fits.0
    (subst (λ (z : Stack). Tells c.holds.result (NumbersFit z q) (IsTrueAt z q)) (stack_at-With c.args.u (to_z w128 (of_z w128 c.args.x)) c.args.values ∙ ap (λ (z : ℤ). with_value c.args.u (number_value z) s) x_is) c.holds.ensures)

pub holds_of_all-loop-element-preserved : goal.holds_of_all-loop-element-preserved
holds_of_all-loop-element-preserved t c =
    let es = c.args.elements.now in
    let i = c.loop-element.element-index in
    let F = λ (z : ℤ). BodyFits (stack_at c.args.values.now) c.args.u (bag_term_of c.args.b.now) (assertion_of c.args.p.now) z in
    let T = λ (z : ℤ). BodyHolds (stack_at c.args.values.now) c.args.u (bag_term_of c.args.b.now) (assertion_of c.args.p.now) z in
    let fits : SFits w128 (get_or c.args.elements.now c.loop-element.element-index none).0 = search rules in
    let this = subst (λ z. F z × (IsTrue c.in_ok-all.field-0 ↔ T z)) (to_z-of_z w128 (get_or es i none).0 fits) c.in_ok-all.ensures in
    record {
      fits = all_more (λ p. F p.0) es i none c.loop-element-test.true c.loop-element.invariant.fits this.0;
      tells = tells_all_more (λ p. T p.0) es i none c.loop-element.all c.in_ok-all.field-0 c.loop-element-test.true c.loop-element.invariant.tells this.1;
    }

pub holds_of_all-returns : goal.holds_of_all-returns
holds_of_all-returns t c =
    let es = c.args.elements.now in
    let F = λ (p : ℤ × ℤ). BodyFits (stack_at c.args.values.now) c.args.u (bag_term_of c.args.b.now) (assertion_of c.args.p.now) p.0 in
    let T = λ (p : ℤ × ℤ). BodyHolds (stack_at c.args.values.now) c.args.u (bag_term_of c.args.b.now) (assertion_of c.args.p.now) p.0 in (
      whole F (All F) es c.loop-element.element-index c.loop-element-test.false c.loop-element.invariant.fits,
      whole T (λ ys. IsTrue c.loop-element.all ↔ All T ys) es c.loop-element.element-index c.loop-element-test.false c.loop-element.invariant.tells,
    )
