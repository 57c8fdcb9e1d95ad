use Rattle.std.proofs.Common.{◌≡◌, ◌<◌, ◌∷◌, Some, true, length, sym, ap, ◌∙◌, subst, arith}
use Rattle.hs_unit.specs.Reduction.{all_small, is_small, step}
use Rattle.hs_unit.proofs.Steps.{steps-on, step-length, later-small, and_second}
use Rattle.hs_unit.proofs.reduction.reduced.Goals as goal

pub reducing-preserved : goal.reducing-preserved
reducing-preserved c =
    let r = c.in_ok-r.r in
    let f = c.in-Some.f.now in
    let later = c.in-Some.later.now in
    let first : c.as_slice-in-reducing.result.now ≡ f ∷ later = cc (c.in-Some.ensures.cases.0) in
    let cut : r.later ≡ f ∷ later = sym c.as_slice-in-reducing.ensures ∙ first in
    let stepped : step r f later f.terms ≡ Some c.in-Some-2.next = sym c.in_ok-next.ensures ∙ c.in-Some-2.is in
    record {
      same = steps-on r f later c.in-Some-2.next r.later cut stepped ∙ c.in_ok-r.ensures.same ∙ c.reducing.invariant.same;
      small = later-small r f later c.in-Some-2.next (and_second (is_small f) (all_small later) (subst (λ ls. all_small ls ≡ true) cut c.in_ok-r.ensures.small)) stepped;
    }

pub reducing-smaller : goal.reducing-smaller
reducing-smaller c =
    let r = c.in_ok-r.r in
    let f = c.in-Some.f.now in
    let later = c.in-Some.later.now in
    let first : c.as_slice-in-reducing.result.now ≡ f ∷ later = cc (c.in-Some.ensures.cases.0) in
    let cut : length r.later ≡ length (f ∷ later) = ap length (sym c.as_slice-in-reducing.ensures ∙ first) in
    let stepped : step r f later f.terms ≡ Some c.in-Some-2.next = sym c.in_ok-next.ensures ∙ c.in-Some-2.is in
    let less : length c.in-Some-2.next.later ≡ length later = step-length r f later c.in-Some-2.next stepped in
    let smaller : length c.in-Some-2.next.later < length c.reducing.r.later = omega (arith, cut, less, c.in_ok-r.ensures.fewer) in
    smaller
