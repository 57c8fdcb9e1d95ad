use Rattle.std.proofs.Common.{◌≡◌, suc, ◌<◌, rules, arith, [], ◌∷◌, length, inl, inr, IfOk, IfSome, refl, sym, ap, ◌∙◌, subst}
use Rattle.std.proofs.lemmas.Option.{IfSome_then}
use Rattle.hs_pure.specs.Assertion.{assertion_of}
use Rattle.hs_pure.specs.Eval.{stack_of}
use Rattle.hs_pure.specs.Truth.{IsTrueAt}
use Rattle.hs_elimination.specs.Elimination.{without_variable}
use Rattle.hs_elimination.proofs.Order.{order_is}
use Rattle.hs_elimination.proofs.Decided.{truth-without_variable}
use Rattle.hs_cooper_forms.proofs.Changes.{ok_map}
use Rattle.hs_plain.specs.Size.{chain_size}
use Rattle.hs_plain.specs.Span.{zeros, plain_stack, HasWideChain}
use Rattle.hs_plain.proofs.Chain.{Named, nothing_named, empty_is, named_later, simple_later, size_later, wide_later, wide_value, plain_pushed, size_stage, wide_stage, size_first, wide_first, none_later}
use Rattle.hs_plain.proofs.solve.+solving.Goals as goal

pub solve-returns-in_default-clause-plain : goal.solve-returns-in_default-clause-plain
solve-returns-in_default-clause-plain t c =
    let none : c.args.variables.now ≡ [] = empty_is c.args.variables.now (rw c.in_default.is at c.split_first.ensures.cases) in
    subst (λ ys. IfOk c.zeros.result (λ o. IfSome o (λ v. (v.bags ≡ []) × (stack_of v ≡ plain_stack ys (assertion_of c.args.p.now))))) (sym none) c.zeros.ensures.zeros

pub solve-returns-in_default-clause-none : goal.solve-returns-in_default-clause-none
solve-returns-in_default-clause-none t c =
    let none : c.args.variables.now ≡ [] = empty_is c.args.variables.now (rw c.in_default.is at c.split_first.ensures.cases) in
    ok_map c.zeros.result (λ o never is s h. never is (nothing_named c.args.variables.now (assertion_of c.args.p.now) s zeros none c.requires.named h)) c.zeros.ensures.none

pub solve-returns-in_default-clause-atoms : goal.solve-returns-in_default-clause-atoms
solve-returns-in_default-clause-atoms t c =
    λ h. absurd (c.zeros.ensures.atoms h)

pub solve-returns-in_default-clause-wide : goal.solve-returns-in_default-clause-wide
solve-returns-in_default-clause-wide t c =
    let none : c.args.variables.now ≡ [] = empty_is c.args.variables.now (rw c.in_default.is at c.split_first.ensures.cases) in
    λ h. subst (λ ys. HasWideChain ys (assertion_of c.args.p.now)) (sym none) (c.zeros.ensures.wide h)

pub solve-solve_from-requires : goal.solve-solve_from-requires
solve-solve_from-requires t c =
    let cut : c.args.variables.now ≡ c.in-Some.x.now ∷ c.in-Some.later.now = cc (c.in-Some.ensures.cases.0) in
    let longer : length c.args.variables.now ≡ suc (length c.in-Some.later.now) = ap length cut in
    (first_of (search rules, omega arith), (c.requires.simple, (c.requires.ordered, (c.requires.small, subst (λ ys. Named ys (assertion_of c.args.p.now)) cut c.requires.named))))

pub solve-returns-clause-plain : goal.solve-returns-clause-plain
solve-returns-clause-plain t c =
    let cut : c.args.variables.now ≡ c.in-Some.x.now ∷ c.in-Some.later.now = cc (c.in-Some.ensures.cases.0) in
    subst (λ ys. IfOk c.solve_from.result (λ o. IfSome o (λ v. (v.bags ≡ []) × (stack_of v ≡ plain_stack ys (assertion_of c.args.p.now))))) (sym cut) c.solve_from.ensures.plain

pub solve-returns-clause-atoms : goal.solve-returns-clause-atoms
solve-returns-clause-atoms t c =
    let cut : c.args.variables.now ≡ c.in-Some.x.now ∷ c.in-Some.later.now = cc (c.in-Some.ensures.cases.0) in
    λ h. subst (λ ys. c.args.atoms < chain_size ys (assertion_of c.args.p.now)) (sym cut) (c.solve_from.ensures.atoms h)

pub solve-returns-clause-wide : goal.solve-returns-clause-wide
solve-returns-clause-wide t c =
    let cut : c.args.variables.now ≡ c.in-Some.x.now ∷ c.in-Some.later.now = cc (c.in-Some.ensures.cases.0) in
    λ h. subst (λ ys. HasWideChain ys (assertion_of c.args.p.now)) (sym cut) (c.solve_from.ensures.wide h)

pub solve_later-returns-in_err-rest-clause-atoms : goal.solve_later-returns-in_err-rest-clause-atoms
solve_later-returns-in_err-rest-clause-atoms t c =
    λ h. size_first (c.args.x ∷ c.args.later.now) c.args.later.now c.args.x (assertion_of c.args.p.now) refl c.args.atoms (c.in_err-rest.ensures.atoms (search rules))

pub solve_later-returns-in_err-rest-clause-wide : goal.solve_later-returns-in_err-rest-clause-wide
solve_later-returns-in_err-rest-clause-wide t c =
    λ h. wide_first (c.args.x ∷ c.args.later.now) c.args.later.now c.args.x (assertion_of c.args.p.now) refl c.args.atoms (c.in_err-rest.ensures.wide (search rules))

pub solve_later-solve-requires : goal.solve_later-solve-requires
solve_later-solve-requires t c =
    (first_of (search rules, omega arith), (simple_later (c.args.x ∷ c.args.later.now) c.args.later.now c.args.x c.args.p.now c.in_ok-rest.rest refl c.in_ok-rest.ensures.exact, (c.in_ok-rest.ensures.ordered, (c.requires.small, named_later (c.args.x ∷ c.args.later.now) c.args.later.now c.args.x c.args.p.now c.in_ok-rest.rest refl c.in_ok-rest.ensures.exact c.requires.simple c.requires.named))))

pub solve_later-returns-clause-found : goal.solve_later-returns-clause-found
solve_later-returns-clause-found t c =
    ok_map c.solve.result (λ o h. IfSome_then o h (λ v. subst (IsTrueAt (stack_of v)) c.in_ok-rest.ensures.exact)) c.solve.ensures.found

pub solve_later-returns-clause-plain : goal.solve_later-returns-clause-plain
solve_later-returns-clause-plain t c =
    ok_map c.solve.result (λ o h. IfSome_then o h (λ v k. (k.0, k.1 ∙ ap (plain_stack c.args.later.now) c.in_ok-rest.ensures.exact))) c.solve.ensures.plain

pub solve_later-returns-clause-none : goal.solve_later-returns-clause-none
solve_later-returns-clause-none t c =
    ok_map c.solve.result (λ o never is. none_later c.args.x c.args.p.now c.in_ok-rest.rest c.requires.simple c.in_ok-rest.ensures.truth (never is)) c.solve.ensures.none

pub solve_later-returns-clause-atoms : goal.solve_later-returns-clause-atoms
solve_later-returns-clause-atoms t c =
    λ h. size_later (c.args.x ∷ c.args.later.now) c.args.later.now c.args.x c.args.p.now c.in_ok-rest.rest refl c.in_ok-rest.ensures.exact c.args.atoms (c.solve.ensures.atoms h)

pub solve_later-returns-clause-wide : goal.solve_later-returns-clause-wide
solve_later-returns-clause-wide t c =
    λ h. wide_later (c.args.x ∷ c.args.later.now) c.args.later.now c.args.x c.args.p.now c.in_ok-rest.rest refl c.in_ok-rest.ensures.exact (c.solve.ensures.wide h)

pub solve_from-returns-in_err-values-clause-atoms : goal.solve_from-returns-in_err-values-clause-atoms
solve_from-returns-in_err-values-clause-atoms t c =
    λ h. c.in_err-values.ensures.atoms (search rules)

pub solve_from-returns-in_err-values-clause-wide : goal.solve_from-returns-in_err-values-clause-wide
solve_from-returns-in_err-values-clause-wide t c =
    λ h. c.in_err-values.ensures.wide (search rules)

pub solve_from-returns-in_default-clause-none : goal.solve_from-returns-in_default-clause-none
solve_from-returns-in_default-clause-none t c =
    λ _. c.in_ok-values.ensures.none c.in_default.is

pub solve_from-returns-clause-plain : goal.solve_from-returns-clause-plain
solve_from-returns-clause-plain t c =
    let plain : (c.in-Some.values.bags ≡ []) × (stack_of c.in-Some.values ≡ plain_stack c.args.later.now (without_variable c.args.x (assertion_of c.args.p.now))) = rw c.in-Some.is at c.in_ok-values.ensures.plain in
    ok_map c.with_witness.result (λ o h. IfSome_then o h (λ w k. (k.0, plain_pushed c.args.later.now c.args.x (assertion_of c.args.p.now) c.in-Some.values plain.1 w k.1))) c.with_witness.ensures.plain

pub solve_from-returns-clause-none : goal.solve_from-returns-clause-none
solve_from-returns-clause-none t c =
    ok_map c.with_witness.result (λ o never is s h. let w = (truth-without_variable c.args.x (assertion_of c.args.p.now) c.requires.simple ((order_is c.args.p.now).0 c.requires.ordered) (stack_of c.in-Some.values)).1 (rw c.in-Some.is at c.in_ok-values.ensures.found) in absurd (never is w.0 w.1)) c.with_witness.ensures.none

pub solve_from-returns-clause-atoms : goal.solve_from-returns-clause-atoms
solve_from-returns-clause-atoms t c =
    λ h. size_stage (c.args.x ∷ c.args.later.now) c.args.later.now c.args.x (assertion_of c.args.p.now) refl c.args.atoms (c.with_witness.ensures.atoms h)

pub solve_from-returns-clause-wide : goal.solve_from-returns-clause-wide
solve_from-returns-clause-wide t c =
    let plain : (c.in-Some.values.bags ≡ []) × (stack_of c.in-Some.values ≡ plain_stack c.args.later.now (without_variable c.args.x (assertion_of c.args.p.now))) = rw c.in-Some.is at c.in_ok-values.ensures.plain in
    λ h. elim (c.with_witness.ensures.wide h) [ inl w ↦ wide_stage (c.args.x ∷ c.args.later.now) c.args.later.now c.args.x (assertion_of c.args.p.now) refl c.args.atoms w | inr w ↦ wide_value c.args.later.now c.args.x (assertion_of c.args.p.now) c.in-Some.values plain.1 (rw c.in-Some.is at c.in_ok-values.ensures.found) w ]
