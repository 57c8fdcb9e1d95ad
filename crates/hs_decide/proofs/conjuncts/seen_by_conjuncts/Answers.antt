use Rattle.std.proofs.Common.{sym, subst}
use Rattle.std.specs.List.{All}
use Rattle.hs_pure.specs.Eval.{stack_of}
use Rattle.hs_pure.specs.Truth.{TrueAt}
use Rattle.hs_pure.proofs.Truths.{true-And}
use Rattle.hs_cooper_forms.proofs.Changes.{ok_map}
use Rattle.hs_equations.specs.Finding.{IsCounter}
use Rattle.hs_decide.specs.Asking.{IsAskable}
use Rattle.hs_decide.proofs.Asking.{askable-And}
use Rattle.hs_decide.proofs.Sides.{refuted_map}
use Rattle.hs_decide.proofs.conjuncts.seen_by_conjuncts.Goals as goal

pub seen_each-requires-clause-right : goal.seen_each-requires-clause-right
seen_each-requires-clause-right c = subst (All IsAskable) (sym c.as_slice.ensures) (askable-And c.args.b.now c.in-And.members c.in-And.is c.requires.right)

pub returns-in-And-clause-implied : goal.returns-in-And-clause-implied
returns-in-And-clause-implied c =
    ok_map c.seen_each.result (λ r f is s h. subst (TrueAt s) (sym c.in-And.is) ((true-And s c.in-And.members).1 (subst (All (TrueAt s)) c.as_slice.ensures (f is s h)))) c.seen_each.ensures.implied

pub returns-in-And-clause-refuted : goal.returns-in-And-clause-refuted
returns-in-And-clause-refuted c =
    ok_map c.seen_each.result
    (refuted_map (λ v. TrueAt (stack_of v) c.args.a.now × (¬ (All (TrueAt (stack_of v)) c.as_slice.result.now))) (IsCounter c.args.a.now c.args.b.now)
    (λ v h. (h.0, λ k. h.1 (subst (All (TrueAt (stack_of v))) (sym c.as_slice.ensures) ((true-And (stack_of v) c.in-And.members).0 (subst (TrueAt (stack_of v)) c.in-And.is k))))))
    c.seen_each.ensures.refuted
