-- Where goals are within the limits, a walk from one start is the only one, and it goes on at no state that is stuck.
use Rattle.std.proofs.Common.{◌≡◌, ◌⊎◌, ℕ, zero, suc, ◌-◌, ◌<◌, ◌≤◌, List, [], ◌∷◌, ◌++◌, length, Option, Some, None, slice_get, refl, sym, ap, ◌∙◌, subst, inl, inr, arith}
use Rattle.hs_heap.specs.declared.formula.Formula.{Formula}
use Rattle.hs_heap.specs.declared.definitions.Defs.{Defs}
use Rattle.hs_goal.specs.declared.goal.Goal.{Goal}
use Rattle.hs_goal.specs.declared.rule.Limits.{Limits}
use Rattle.hs_goal.specs.declared.rule.Cause.{Cause}
use Rattle.hs_goal.specs.declared.rule.Cause.TheVariants as cause_of
use Rattle.hs_core.specs.declared.program.Program.{Program}
use Rattle.hs_core.specs.declared.state.At.{At}
use Rattle.hs_core.specs.declared.state.PRule.{PRule}
use Rattle.hs_core.specs.declared.state.PRule.TheVariants as rule
use Rattle.hs_choices.specs.declared.error.Spent.TheVariants as spent
use Rattle.hs_search.specs.Answer.{derivations_of, IsCause}
use Rattle.hs_program_rules.specs.Table.{HasForm, goal_of, premises_of}
use Rattle.hs_verify.specs.Tree.{Finds, FindsAny, Misses, PairsMiss, Takes, IsNoCall, IsStuck, Reaches}
use Rattle.hs_verify.specs.Tree.Reaches.{begin, onward}
use Rattle.hs_verify.specs.Laws.{IsWithin, IsTame, IsTameTree, NoGoalIsDerived}
use Rattle.hs_verify.proofs.Forms.{one_form, call_form}

get_within : {X : Type 0} (xs : List X) (i : ℕ) → i < length xs → (x : X) × (slice_get xs i ≡ Some x)
get_within [] i h = absurd (omega arith)
get_within (x ∷ xs) zero h = (x, refl)
get_within (x ∷ xs) (suc i) h = get_within xs i (omega arith)

module _ (defs : Defs) (program : Program) (limits : Limits) where
  -- ---- at one state

  -- a goal within the limits has no derivation where there is a cause
  none_for : (g : Goal) → IsWithin defs limits g → (cause : Cause) → IsCause defs limits g cause → derivations_of defs limits g ≡ []
  none_for g within cause_of.Goals h = absurd (omega (arith, h, within.few))
  none_for g within cause_of.Numbers h = absurd (within.not_spent spent.Numbers h)
  none_for g within (cause_of.Atoms q) h = absurd (within.not_spent (spent.Atoms q) h)
  none_for g within (cause_of.Wide q) h = absurd (within.not_spent (spent.Wide q) h)
  none_for g within cause_of.Rank h = h.0
  none_for g within (cause_of.Failed o) h = h.0 limits.rank

  module _ (at : At) (tame : IsTame defs program limits at) where
    missed_none : (r : PRule) (cause : Cause) (misses : Misses defs program limits at r cause) → derivations_of defs limits misses.goal ≡ []
    missed_none r cause misses = none_for misses.goal (tame.goals r misses.goal misses.form misses.asks) cause misses.missed

    missed_all : (r : PRule) (cause : Cause) → Misses defs program limits at r cause → (g : Goal) → goal_of defs program at r ≡ Some g → derivations_of defs limits g ≡ []
    missed_all r cause misses g asks =
        let same : misses.goal ≡ g = cc (misses.asks, asks) in
        subst (λ h. derivations_of defs limits h ≡ []) same (missed_none r cause misses)

    -- a rule that misses is not taken
    not_taken : (r : PRule) (cause : Cause) (residue : Formula) → Misses defs program limits at r cause → FindsAny defs limits (goal_of defs program at r) residue → ⊥
    not_taken r cause residue misses finds =
        let found : Finds defs limits misses.goal residue = subst (λ g. FindsAny defs limits g residue) misses.asks finds in
        let none : derivations_of defs limits misses.goal ≡ [] = missed_none r cause misses in
        let some : derivations_of defs limits misses.goal ≡ found.first ∷ found.others = found.derivations in
        cc

    -- nor a pair among those that were passed over
    not_passed : (causes : List Cause) → PairsMiss defs program limits at causes → (i : ℕ) → 1 ≤ i → i ≤ length causes → (residue : Formula) → Takes defs program limits at (rule.Call i) residue → ⊥
    not_passed causes missed i first few residue takes =
        let place : suc (i - 1) ≡ i = omega arith in
        let there = get_within causes (i - 1) (omega arith) in
        let misses : Misses defs program limits at (rule.Call (suc (i - 1))) there.0 = missed (i - 1) there.0 there.1 in
        not_taken (rule.Call i) there.0 residue (subst (λ j. Misses defs program limits at (rule.Call j) there.0) place misses) takes.finds

    pair_before : (i j : ℕ) (residue other : Formula) → Takes defs program limits at (rule.Call i) residue → Takes defs program limits at (rule.Call j) other → i < j → ⊥
    pair_before i j residue other h k less =
        not_passed k.passes.0 k.passes.2 i (omega (arith, h.passes.1)) (omega (arith, k.passes.1)) residue h

    same_pair : (i j : ℕ) (residue other : Formula) → Takes defs program limits at (rule.Call i) residue → Takes defs program limits at (rule.Call j) other → i ≡ j
    same_pair i j residue other h k =
        let up : ¬ (i < j) = pair_before i j residue other h k in
        let down : ¬ (j < i) = pair_before j i other residue k h in
        omega arith

    same_rule : (r s : PRule) (residue other : Formula) → Takes defs program limits at r residue → Takes defs program limits at s other → r ≡ s
    same_rule r s residue other h k =
        elim (one_form program at r s h.form k.form) [
          | inl e ↦ e
          | inr calls ↦
              let i : ℕ = calls.0 in
              let j : ℕ = calls.2.0 in
              let left : Takes defs program limits at (rule.Call i) residue = subst (λ r. Takes defs program limits at r residue) calls.1 h in
              let right : Takes defs program limits at (rule.Call j) other = subst (λ r. Takes defs program limits at r other) calls.2.1 k in
              calls.1 ∙ ap (λ n. rule.Call n) (same_pair i j residue other left right) ∙ sym calls.2.1
        ]

    same_residue : (g : Option Goal) (residue other : Formula) → FindsAny defs limits g residue → FindsAny defs limits g other → residue ≡ other
    same_residue None residue other h k = h ∙ sym k
    same_residue (Some g) residue other h k =
        let same : h.first ≡ k.first = cc (h.derivations, k.derivations) in
        cc (h.shown, k.shown)

    pub same_premises : (r s : PRule) (residue other : Formula) → Takes defs program limits at r residue → Takes defs program limits at s other →
        premises_of defs program at r residue ≡ premises_of defs program at s other
    same_premises r s residue other h k =
        let e : r ≡ s = same_rule r s residue other h k in
        let found : FindsAny defs limits (goal_of defs program at s) residue = subst (λ q. FindsAny defs limits (goal_of defs program at q) residue) e h.finds in
        let f : residue ≡ other = same_residue (goal_of defs program at s) residue other found k.finds in
        λ i. premises_of defs program at (e i) (f i)

    -- ---- at a state that is stuck

    -- each rule that applies has a goal without derivation
    pub stuck_misses : (causes : List Cause) → IsStuck defs program limits at causes → (r : PRule) → HasForm program at r → (cause : Cause) × Misses defs program limits at r cause
    stuck_misses causes (inl stops) r form =
        let pair = call_form program at stops.to stops.method stops.args stops.simple stops.is r form in
        let i : ℕ = pair.0 in
        let place : suc (i - 1) ≡ i = omega (arith, pair.2) in
        let there = get_within causes (i - 1) (omega (arith, pair.2, stops.each)) in
        let misses : Misses defs program limits at (rule.Call (suc (i - 1))) there.0 = stops.missed (i - 1) there.0 there.1 in
        let same : rule.Call (suc (i - 1)) ≡ r = ap (λ n. rule.Call n) place ∙ sym pair.1 in
        (there.0, subst (λ s. Misses defs program limits at s there.0) same misses)
    stuck_misses causes (inr h) r form =
        let cause : Cause = h.2.0 in
        let misses : Misses defs program limits at h.0 cause = h.2.2 in
        elim (one_form program at h.0 r misses.form form) [
          | inl e ↦ (cause, subst (λ q. Misses defs program limits at q cause) e misses)
          | inr calls ↦ absurd (subst IsNoCall calls.1 h.1)
        ]

    pub stuck_none : (causes : List Cause) → IsStuck defs program limits at causes → NoGoalIsDerived defs program limits at
    stuck_none causes stuck r g form asks =
        let h = stuck_misses causes stuck r form in
        missed_all r h.0 h.1 g asks

    pub stuck_ends : (causes : List Cause) → IsStuck defs program limits at causes → (r : PRule) (residue : Formula) → Takes defs program limits at r residue → ⊥
    stuck_ends causes stuck r residue takes =
        let h = stuck_misses causes stuck r takes.form in
        not_taken r h.0 residue h.1 takes.finds

  -- ---- walks

  -- a step of a walk
  pub record Goes (start : At) (n : ℕ) : Type 0 where
    pub at : At
    pub rest : List At
    pub taken : PRule
    pub residue : Formula
    pub before : Reaches defs program limits start n (at ∷ rest)
    pub takes : Takes defs program limits at taken residue

  abbrev pub after : (start : At) (n : ℕ) → Goes start n → List At
  after start n g = premises_of defs program g.at g.taken g.residue ++ g.rest

  -- the walk begins, or it is longer by a step
  abbrev IsWalk : At → ℕ → List At → Type 0
  IsWalk start zero left = left ≡ start ∷ []
  IsWalk start (suc n) left = (g : Goes start n) × (left ≡ after start n g)

  walk_read : (start : At) {n : ℕ} {left : List At} → Reaches defs program limits start n left → IsWalk start n left
  walk_read start begin = refl
  walk_read start (onward {n = n} {at = at} {rest = rest} {r = r} {residue = residue} h t) = (record { at = at; rest = rest; taken = r; residue = residue; before = h; takes = t }, refl)

  -- what a longer walk went through
  pub through : (start : At) (n : ℕ) (left : List At) → Reaches defs program limits start n left → (k : ℕ) → k < n → Goes start k
  through start zero left h k less = absurd (omega arith)
  through start (suc n) left h k less =
      let g = (walk_read start h).0 in
      elim (order k n) [
        | inl same ↦ subst (Goes start) (sym same) g
        | inr below ↦ through start n (g.at ∷ g.rest) g.before k (below (omega arith))
      ]
    where
      order : (k n : ℕ) → (k ≡ n) ⊎ (k < suc n → k < n)
      order zero zero = inl refl
      order zero (suc n) = inr (λ h. omega arith)
      order (suc k) zero = inr (λ h. omega arith)
      order (suc k) (suc n) = elim (order k n) [ inl e ↦ inl (ap suc e) | inr f ↦ inr (λ h. let less = f (omega arith) in omega arith) ]

  module _ (start : At) (tame : IsTameTree defs program limits start) where
    same_step : (n : ℕ) (g h : Goes start n) → g.at ∷ g.rest ≡ h.at ∷ h.rest → after start n g ≡ after start n h
    same_step n g h e =
        let same : g.at ≡ h.at = cc in
        let rests : g.rest ≡ h.rest = cc in
        let takes : Takes defs program limits h.at g.taken g.residue = subst (λ a. Takes defs program limits a g.taken g.residue) same g.takes in
        let premises : premises_of defs program h.at g.taken g.residue ≡ premises_of defs program h.at h.taken h.residue
        = same_premises h.at (tame n h.at h.rest h.before).1 g.taken h.taken g.residue h.residue takes h.takes in
        ap (λ a. premises_of defs program a g.taken g.residue ++ g.rest) same ∙ (λ i. premises i ++ rests i)

    -- two walks of so many steps leave the same states
    pub one_walk : (n : ℕ) (left other : List At) → Reaches defs program limits start n left → Reaches defs program limits start n other → left ≡ other
    one_walk zero left other h k = walk_read start h ∙ sym (walk_read start k)
    one_walk (suc n) left other h k =
        let g = walk_read start h in
        let f = walk_read start k in
        g.1 ∙ same_step n g.0 f.0 (one_walk n (g.0.at ∷ g.0.rest) (f.0.at ∷ f.0.rest) g.0.before f.0.before) ∙ sym f.1

    -- no walk comes to its end beside a state that is stuck
    stuck_here : (n : ℕ) (at : At) (rest : List At) (causes : List Cause) → Reaches defs program limits start n (at ∷ rest) → IsStuck defs program limits at causes → Goes start n → ⊥
    stuck_here n at rest causes reached stuck g =
        let e : g.at ∷ g.rest ≡ at ∷ rest = one_walk n (g.at ∷ g.rest) (at ∷ rest) g.before reached in
        let same : g.at ≡ at = cc in
        stuck_ends at (tame n at rest reached).1 causes stuck g.taken g.residue (subst (λ a. Takes defs program limits a g.taken g.residue) same g.takes)

    pub stuck_open : (n m : ℕ) (at : At) (rest : List At) (causes : List Cause) → Reaches defs program limits start n (at ∷ rest) → IsStuck defs program limits at causes →
        Reaches defs program limits start m [] → ⊥
    stuck_open n m at rest causes reached stuck ended =
        elim (apart n m) [
          | inl same ↦ let e : at ∷ rest ≡ [] = one_walk m (at ∷ rest) [] (subst (λ k. Reaches defs program limits start k (at ∷ rest)) same reached) ended in cc
          | inr p ↦ elim p [
            | inl less ↦ stuck_here n at rest causes reached stuck (through start m [] ended n less)
            | inr less ↦
                let g = through start n (at ∷ rest) reached m less in
                let e : g.at ∷ g.rest ≡ [] = one_walk m (g.at ∷ g.rest) [] g.before ended in
                cc
          ]
        ]
      where
        apart : (n m : ℕ) → (n ≡ m) ⊎ ((n < m) ⊎ (m < n))
        apart zero zero = inl refl
        apart zero (suc m) = inr (inl (omega arith))
        apart (suc n) zero = inr (inr (omega arith))
        apart (suc n) (suc m) = elim (apart n m) [
          | inl e ↦ inl (ap suc e)
          | inr p ↦ elim p [ inl l ↦ inr (inl (omega arith)) | inr l ↦ inr (inr (omega arith)) ]
        ]
