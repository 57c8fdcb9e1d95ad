use Rattle.std.proofs.Common.{◌≡◌, Bool, true, false, [], refl}
use Rattle.std.proofs.lemmas.List.Elements.{All-nil, All-same}
use Rattle.hs_elimination.proofs.Decided.{truth_is_tested}
use Rattle.hs_equations.specs.Claims.{truth_at, IsCase}
use Rattle.hs_equations.proofs.Lists.{ok-map}
use Rattle.hs_equations.proofs.question.found.Goals as goal

not-false : (b : Bool) → ¬ (b ≡ false) → b ≡ true
not-false true h = refl
not-false false h = absurd (h refl)

pub returns-clause-implied : goal.returns-clause-implied
returns-clause-implied c = ok-map c.solve.result (λ r f is s h.
    let a = (truth_is_tested s c.args.a.now c.requires.left_bags c.requires.left_ordered).0 h in
    let none : ¬ (truth_at s c.args.b.now ≡ false) = λ e. f is s (c.in_ok-state.ensures s (c.in_ok-given.ensures s (c.new.ensures s, All-same (IsCase s) _ [] c.new-2.ensures (All-nil (IsCase s))) a) e) in
    (truth_is_tested s c.args.b.now c.requires.right_bags c.requires.right_ordered).1 (not-false (truth_at s c.args.b.now) none)) c.solve.ensures.implied
