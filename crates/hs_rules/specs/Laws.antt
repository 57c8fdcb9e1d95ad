-- Right steps keep what goals mean, over heaps of each size, and keep numbers apart; subgoals of well-formed goals are
-- well formed.
use Rattle.std.specs.Prelude.{◌≡◌, ℕ, suc, ◌<◌, ◌≤◌, ℤ, ◌⊎◌, List, length, Some}
use Rattle.std.specs.List.{All, AllByRecursion}
use Rattle.hs_heap.specs.declared.formula.Formula.{Formula}
use Rattle.hs_heap.specs.declared.definitions.Lemma.{Lemma}
use Rattle.hs_heap.specs.declared.definitions.Defs.{Defs}
use Rattle.hs_heap.specs.Heap.{Heap, IsHeap}
use Rattle.hs_heap.specs.Meaning.{Argument, meaning_at_depth, Satisfies}
use Rattle.hs_heap.specs.Sound.{IsSound}
use Rattle.hs_heap.specs.Instance.{body_of_lemma, lemma_at, stack_of_body}
use Rattle.hs_xpure.specs.Invariants.{InvariantsHold}
use Rattle.hs_goal.specs.declared.goal.Goal.{Goal}
use Rattle.hs_goal.specs.declared.rule.ERule.{ERule}
use Rattle.hs_goal.specs.Goal.{HoldsUpTo, Holds, IsFreshResidue}
use Rattle.hs_goal.specs.Shape.{GoalFits}
use Rattle.hs_goal.specs.Anchored.{IsAnchored}
use Rattle.hs_rules.specs.Subgoals.{subgoals_of}
use Rattle.hs_rules.specs.Rules.{Applies, Judgement, IsRightStep}

-- every heap of fewer than k nodes of which a lemma's predicate holds satisfies the lemma's right side, at the
-- same root and arguments
abbrev pub LemmasHoldBelow : ℕ → Defs → Type 0
LemmasHoldBelow k defs = (j : ℕ) (l : Lemma) → lemma_at defs j ≡ Some l → (root : ℤ) (args : List Argument) (h : Heap) → IsHeap h → length h < k →
    (depth : ℕ) → meaning_at_depth defs depth l.pred root args h → Satisfies defs (stack_of_body (body_of_lemma l) root args) h (body_of_lemma l).formula

-- the same of at most so many nodes
abbrev pub LemmasHoldUpTo : ℕ → Defs → Type 0
LemmasHoldUpTo size defs = LemmasHoldBelow (suc size) defs

-- the same of all heaps
abbrev pub LemmasHold : Defs → Type 0
LemmasHold defs = (size : ℕ) → LemmasHoldUpTo size defs

-- each goal holds with its residue
abbrev pub AllHoldUpTo : ℕ → Defs → List Judgement → Type 0
AllHoldUpTo size defs ps = AllByRecursion (λ (p : Judgement). HoldsUpTo size defs p.goal p.residue) ps

-- a right step holds over heaps of at most `size` nodes where its premises do and lemmas hold of heaps of fewer
-- than k nodes; k is above the size, or may be the size itself where the goal is anchored
abbrev pub RightStepsHold : Type 0
RightStepsHold = (defs : Defs) → IsSound defs → InvariantsHold defs →
    (size k : ℕ) → LemmasHoldBelow k defs → (g : Goal) (residue : Formula) (rule : ERule) (premises : List Judgement) →
    (size < k) ⊎ (IsAnchored g × (size ≤ k)) → IsRightStep defs g residue rule premises →
    AllHoldUpTo size defs premises → HoldsUpTo size defs g residue

-- each goal holds with its residue, over all heaps
abbrev pub AllHold : Defs → List Judgement → Type 0
AllHold defs ps = AllByRecursion (λ (p : Judgement). Holds defs p.goal p.residue) ps

-- a right step holds where its premises and all lemmas do
abbrev pub RightStepsKeepMeaning : Type 0
RightStepsKeepMeaning = (defs : Defs) → IsSound defs → InvariantsHold defs → LemmasHold defs →
    (g : Goal) (residue : Formula) (rule : ERule) (premises : List Judgement) → IsRightStep defs g residue rule premises →
    AllHold defs premises → Holds defs g residue

-- the subgoals of an anchored goal are anchored
abbrev pub SubgoalsAreAnchored : Type 0
SubgoalsAreAnchored = (defs : Defs) (g : Goal) (rule : ERule) → GoalFits defs g → Applies defs g rule → IsAnchored g → All IsAnchored (subgoals_of defs g rule)

-- each residue keeps numbers apart
abbrev pub AllFresh : List Judgement → Type 0
AllFresh ps = AllByRecursion (λ (p : Judgement). IsFreshResidue p.goal p.residue) ps

-- a right step's residue keeps numbers apart where those of its premises do
abbrev pub RightStepsStayFresh : Type 0
RightStepsStayFresh = (defs : Defs) → IsSound defs → (g : Goal) (residue : Formula) (rule : ERule) (premises : List Judgement) →
    IsRightStep defs g residue rule premises → AllFresh premises → IsFreshResidue g residue

-- the subgoals of a well-formed goal are well formed
abbrev pub SubgoalsAreWellFormed : Type 0
SubgoalsAreWellFormed = (defs : Defs) → IsSound defs → (g : Goal) (rule : ERule) → GoalFits defs g → Applies defs g rule → All (GoalFits defs) (subgoals_of defs g rule)

-- a subgoal's new numbers do not begin before the goal's
abbrev pub SubgoalsGrow : Type 0
SubgoalsGrow = (defs : Defs) (g : Goal) (rule : ERule) → All (λ (sub : Goal). g.next ≤ sub.next) (subgoals_of defs g rule)
