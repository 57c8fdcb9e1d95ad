use Rattle.std.proofs.Common.{◌≡◌, ◌∷◌, [], length, true, sym, ap, ◌∙◌, subst, rules, arith}
use Rattle.hs_unit.specs.Reduction.{all_small, is_small, BeginsProper}
use Rattle.hs_unit.proofs.Steps.{pass-next, and_second}
use Rattle.hs_unit.proofs.reduction.without_constants.Goals.{in-Some+then-not-is_empty, in_default}
use Rattle.hs_unit.proofs.reduction.without_constants.Goals as goal

pub passing-preserved : goal.passing-preserved
passing-preserved c =
    let f = c.in-Some.f.now in
    let later = c.in-Some.later.now in
    let cut : c.passing.rest.now ≡ f ∷ later = cc (c.in-Some.ensures.cases.0) in
    let none : f.terms ≡ [] = search rules in
    let n : length c.passing.rest.now ≡ length (f ∷ later) = ap length cut in
    record {
      same =
          pass-next record { pivots = c.passing.pivots; taken = c.passing.taken; later = c.passing.rest.now; right = c.args.r.now.right } f later c.push.new.self c.push-in-Some.new.self c.in_ok-copy.field-0 cut none c.in_ok-push.ensures.ok c.in_ok-push-2.ensures.ok c.in_ok-copy.ensures
          ∙ c.passing.invariant.same;
      small = and_second (is_small f) (all_small later) (subst (λ ls. all_small ls ≡ true) cut c.passing.invariant.small);
      fewer = omega (arith, n, c.passing.invariant.fewer);
    }

pub returns-clause-proper : goal.returns-clause-proper
returns-clause-proper c = elim c.match-split_first.branch [
  | in-Some+then-not-is_empty w ↦ (
      let cut : c.passing.rest.now ≡ w.in-Some.f.now ∷ w.in-Some.later.now = cc (w.in-Some.ensures.cases.0) in
      let proper : ¬ (w.in-Some.f.now.terms ≡ []) = search rules in
      subst BeginsProper (sym (c.in_ok-copies.ensures ∙ cut)) proper)
  | in_default w ↦ (
      let none : c.passing.rest.now ≡ [] = search rules in
      subst BeginsProper (sym (c.in_ok-copies.ensures ∙ none)) tt)
]
