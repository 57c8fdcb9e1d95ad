use Rattle.std.proofs.Common.{◌≡◌, [], ◌∷◌, ◌++◌, subst, sym}
use Rattle.std.specs.List.{All}
use Rattle.std.proofs.lemmas.List.Elements.{All-push}
use Rattle.hs_pure.specs.Truth.{TrueAt}
use Rattle.hs_pure.proofs.Truths.{true-And}
use Rattle.hs_bag_equations.specs.Placing.{Suits}
use Rattle.hs_bag_equations.proofs.Members.{at_item}
use Rattle.hs_bag_equations.proofs.Suiting.{And-suits, suits-placed}
use Rattle.hs_bag_equations.proofs.Worth.{true-placed}
use Rattle.hs_bag_equations.proofs.place.+members.Goals as goal

pub add_all_members-loop-p-preserved : goal.add_all_members-loop-p-preserved
add_all_members-loop-p-preserved t c = (
  λ s e h w. c.add_members.ensures.follows s e (at_item (TrueAt s) c.args.ps.now c.loop-p.p-index c.p-item.result c.loop-p-test.true c.p-item.is h) (c.loop-p.invariant.0 s e h w),
  λ n e h w. c.add_members.ensures.suit n e (at_item (Suits n) c.args.ps.now c.loop-p.p-index c.p-item.result c.loop-p-test.true c.p-item.is h) (c.loop-p.invariant.1 n e h w),
)

pub add_members-returns-in-And-clause-follows : goal.add_members-returns-in-And-clause-follows
add_members-returns-in-And-clause-follows t c =
    λ s e h w. c.add_all_members.ensures.follows s e (subst (All (TrueAt s)) (sym c.as_slice.ensures) ((true-And s c.in-And.ps).0 (subst (TrueAt s) c.in-And.is h))) w

pub add_members-returns-in-And-clause-suit : goal.add_members-returns-in-And-clause-suit
add_members-returns-in-And-clause-suit t c =
    λ n e h w. c.add_all_members.ensures.suit n e (subst (All (Suits n)) (sym c.as_slice.ensures) ((And-suits n c.in-And.ps).0 (subst (Suits n) c.in-And.is h))) w

pub add_all_members-returns-in_err-add_members-clause-suit : goal.add_all_members-returns-in_err-add_members-clause-suit
add_all_members-returns-in_err-add_members-clause-suit t c =
    λ n e h w. c.add_members.ensures.suit n e (at_item (Suits n) c.args.ps.now c.loop-p.p-index c.p-item.result c.loop-p-test.true c.p-item.is h) (c.loop-p.invariant.1 n e h w)

pub add_members-returns-in_ok-push : goal.add_members-returns-in_ok-push
add_members-returns-in_ok-push t c =
    let is : c.push.new.self ≡ c.args.members.now ++ c.in_ok-member.member ∷ [] = rw c.into_inner.ensures at c.in_ok-push.ensures.ok in record {
      follows = λ s e h w. subst (All (TrueAt s)) (sym is) (All-push (TrueAt s) c.args.members.now c.in_ok-member.member w (true-placed s c.args.p.now c.in_ok-member.member c.args.es.now c.in_ok-member.ensures e h));
      suit = λ n e h w. subst (All (Suits n)) (sym is) (All-push (Suits n) c.args.members.now c.in_ok-member.member w (suits-placed n c.args.es.now e c.args.p.now c.in_ok-member.member c.in_ok-member.ensures h));
    }
