use Rattle.std.proofs.Common.{rules, arith, subst, ap, ◌∙◌, ◌≡◌, ◌<◌, ◌≤◌, [], inl, inr, map, negsuc, Err}
use Rattle.std.specs.List.{Contains}
use Rattle.hs_elimination.specs.Linear.{place, times, IsWideLin}
use Rattle.hs_elimination.specs.Cases.{join_distinct}
use Rattle.hs_pure.specs.declared.lin.Lin.{Lin}
use Rattle.hs_cooper_forms.specs.Reading.{form_of}
use Rattle.hs_cooper.specs.Bounding.{denied_bounds}
use Rattle.hs_cooper.proofs.Thirds.{long_period, bounds_over, total_is, not_above, wide-bound, bounds-are, wide_given}
use Rattle.hs_cooper.proofs.NarrowStages.{narrow_bounds}
use Rattle.hs_cooper.proofs.third.count_cases.Goals as goal
use Rattle.hs_cooper.proofs.NarrowStages.{narrow_bounds}
use Rattle.hs_cooper.proofs.third.count_cases.Goals.{then-atoms-eq0, else-atoms-eq0}

pub returns-in_default-clause-atoms : goal.returns-in_default-clause-atoms
returns-in_default-clause-atoms c = λ _. long_period c.args.x (form_of c.args.f.now) c.args.budget c.requires.some (c.period.ensures.over c.in_default.is c.requires.positive)

pub returns-in_err-join_bounds-clause-atoms : goal.returns-in_err-join_bounds-clause-atoms
returns-in_err-join_bounds-clause-atoms c = λ h.
    bounds_over c.args.x (form_of c.args.f.now) c.args.budget c.if-atoms-eq0.limit c.count_atoms-atoms.result c.count_atoms-atoms.ensures c.requires.within
    (omega (arith, c.in-Some.ensures.value.value, c.in-Some.ensures.value.positive))
    (elim c.if-atoms-eq0.branch [ then-atoms-eq0 w ↦ inl (search rules) | else-atoms-eq0 w ↦ inr (omega arith, search rules) ])
    (rw c.new-denied.ensures at (c.in_err-join_bounds.ensures.over (search rules)))

pub returns-then-exceeds-clause-atoms : goal.returns-then-exceeds-clause-atoms
returns-then-exceeds-clause-atoms c = λ _.
    subst (λ n. c.args.budget < n) (total_is c.args.x (form_of c.args.f.now) c.args.budget c.in-Some.period c.count_low.result c.count_atoms-atoms.result c.len.result c.join_bounds.new.done
    c.in-Some.ensures.value.value c.count_low.ensures c.count_atoms-atoms.ensures c.len.ensures (rw c.new-denied.ensures at c.in_ok-join_bounds.ensures.list) c.requires.within)
    (c.exceeds.ensures.0 c.if-exceeds.true)

pub returns-in_err-bounds-clause-wide : goal.returns-in_err-bounds-clause-wide
returns-in_err-bounds-clause-wide c = λ h.
    let list : c.join_bounds.new.done ≡ join_distinct [] (denied_bounds (place c.args.x) (form_of c.args.f.now)) = rw c.new-denied.ensures at c.in_ok-join_bounds.ensures.list in (
      subst (λ n. n ≤ c.args.budget) (total_is c.args.x (form_of c.args.f.now) c.args.budget c.in-Some.period c.count_low.result c.count_atoms-atoms.result c.len.result c.join_bounds.new.done
          c.in-Some.ensures.value.value c.count_low.ensures c.count_atoms-atoms.ensures c.len.ensures (rw c.new-denied.ensures at c.in_ok-join_bounds.ensures.list) c.requires.within)
          (not_above c.exceeds.result c.args.budget _ c.exceeds.ensures c.if-exceeds.false),
      wide-bound (place c.args.x) (form_of c.args.f.now) (subst (λ l. (a : Lin) × (Contains l a × IsWideLin (times (negsuc 0) a))) (c.as_slice.ensures ∙ list)
          (c.in_err-bounds.ensures.wide (ap Err (wide_given c.from_residual-in_err-bounds.result c.in_err-bounds.field-0.0 c.from_residual-in_err-bounds.ensures.1 h)))),
    )

pub returns-clause-bounds : goal.returns-clause-bounds
returns-clause-bounds c =
    let list : c.join_bounds.new.done ≡ join_distinct [] (denied_bounds (place c.args.x) (form_of c.args.f.now)) = rw c.new-denied.ensures at c.in_ok-join_bounds.ensures.list in
    c.in_ok-bounds.ensures.sums ∙ ap (map (times (negsuc 0))) (c.as_slice.ensures ∙ list) ∙ bounds-are (place c.args.x) (form_of c.args.f.now)

pub returns-clause-within : goal.returns-clause-within
returns-clause-within c =
    subst (λ n. n ≤ c.args.budget) (total_is c.args.x (form_of c.args.f.now) c.args.budget c.in-Some.period c.count_low.result c.count_atoms-atoms.result c.len.result c.join_bounds.new.done
    c.in-Some.ensures.value.value c.count_low.ensures c.count_atoms-atoms.ensures c.len.ensures (rw c.new-denied.ensures at c.in_ok-join_bounds.ensures.list) c.requires.within)
    (not_above c.exceeds.result c.args.budget _ c.exceeds.ensures c.if-exceeds.false)

pub returns-clause-narrow : goal.returns-clause-narrow
returns-clause-narrow c = narrow_bounds c.in_ok-bounds.bounds c.as_slice.result.now c.in_ok-bounds.ensures.sums c.in_ok-bounds.ensures.narrow
