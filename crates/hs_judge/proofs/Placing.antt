-- Nodes at the places of a list, and what a verdict says of them.
use Rattle.std.proofs.Common.{◌≡◌, ℕ, zero, suc, ◌+◌, ◌<◌, ◌≤◌, List, [], ◌∷◌, length, take, slice_get, Option, Some, None, IsSomeAnd, refl, sym, ap, ◌∙◌, subst, arith}
use Rattle.hs_heap.specs.declared.definitions.Defs.{Defs}
use Rattle.hs_core.specs.declared.program.Program.{Program}
use Rattle.hs_node.specs.declared.derivation.Node.{Node}
use Rattle.hs_node.specs.declared.claim.Claim.{Claim}
use Rattle.hs_check.specs.declared.verdict.Reason.{Reason}
use Rattle.hs_check.specs.declared.verdict.Spent.{Spent}
use Rattle.hs_check.specs.declared.verdict.Spent.TheVariants as spent
use Rattle.hs_check.specs.declared.verdict.NodeAnswer.{NodeAnswer}
use Rattle.hs_check.specs.declared.verdict.NodeAnswer.TheVariants as answer
use Rattle.hs_check.specs.declared.verdict.Verdict.{Verdict}
use Rattle.hs_check.specs.declared.verdict.Verdict.TheVariants.{Accepted, Refused, MissingClaim, Stopped}
use Rattle.hs_check.specs.Listed.{Calculus, IsAnswer, HasCause, AcceptsOrStops}
use Rattle.hs_judge.specs.Right.{IsRight, Fails, Stops, IsJudged}
use Rattle.hs_judge.specs.Listed.{IsAt, calculus}
use Rattle.hs_judge.proofs.Judging.{failing_is_wrong}

-- ---- the node at a place

module _ (P : List Node → Node → Type 0) (nodes : List Node) (i : ℕ) (n : Node) (there : slice_get nodes i ≡ Some n) where
  pub at_place : P (take i nodes) n → IsAt P nodes i
  at_place h = subst (λ (o : Option Node). IsSomeAnd o (P (take i nodes))) (sym there) h

  pub of_place : IsAt P nodes i → P (take i nodes) n
  of_place h = subst (λ (o : Option Node). IsSomeAnd o (P (take i nodes))) there h

module _ (defs : Defs) (program : Program) (claims : List Claim) (atoms : ℕ) (nodes : List Node) (i : ℕ) (n : Node) (there : slice_get nodes i ≡ Some n) where
  abbrev Stopping : Spent → List Node → Node → Type 0
  Stopping s before m = Stops defs program before m.judgement m.rule m.premises atoms s

  -- what is found of a node is the answer at its place
  pub answer_at : (a : NodeAnswer) → IsJudged defs program (take i nodes) n.judgement n.rule n.premises atoms a → IsAnswer (calculus defs program claims atoms) nodes i a
  answer_at answer.Right h = at_place (λ before m. IsRight defs program before m.judgement m.rule m.premises) nodes i n there h
  answer_at (answer.Wrong r) h = (
    at_place (λ before m. Fails defs program before m.judgement m.rule m.premises r) nodes i n there h,
    λ right. failing_is_wrong defs program (take i nodes) n.judgement n.rule n.premises r h
        (of_place (λ before m. IsRight defs program before m.judgement m.rule m.premises) nodes i n there right),
  )
  answer_at answer.Numbers h = at_place (Stopping spent.Numbers) nodes i n there h
  answer_at answer.Atoms h = at_place (Stopping spent.Atoms) nodes i n there h
  answer_at answer.Wide h = at_place (Stopping spent.Wide) nodes i n there h

-- ---- verdicts

-- where no question passes a bound, what is not refused is accepted
pub accepted : {N : Type 0} (c : Calculus N) (count : ℕ) (nodes : List N) (lines : List (ℕ × ℕ)) (v : Verdict) → HasCause c count nodes lines v → AcceptsOrStops v →
    ((i : ℕ) (s : Spent) → ¬ (c.is_spent nodes i s)) → v ≡ Accepted
accepted c count nodes lines Accepted h a none = refl
accepted c count nodes lines (Refused k r) h a none = absurd a
accepted c count nodes lines (MissingClaim k) h a none = absurd a
accepted c count nodes lines (Stopped k s) h a none = absurd (none h.0 s h.1.1.1.0)

-- ---- nodes before a place

-- an item before a place is an item
pub get_taken : {A : Type 0} (xs : List A) (i l : ℕ) (x : A) → slice_get (take i xs) l ≡ Some x → (l < i) × (slice_get xs l ≡ Some x)
get_taken xs zero l x e = absurd cc
get_taken [] (suc i) l x e = absurd cc
get_taken (y ∷ xs) (suc i) zero x e = (omega arith, e)
get_taken (y ∷ xs) (suc i) (suc l) x e = let h = get_taken xs i l x e in (let low = h.0 in omega (arith, low), h.1)

-- an item below the length is there
pub get_there : {A : Type 0} (xs : List A) (i : ℕ) → i < length xs → (x : A) × (slice_get xs i ≡ Some x)
get_there [] i less = absurd (omega (arith, less))
get_there (x ∷ xs) zero less = (x, refl)
get_there (x ∷ xs) (suc i) less = get_there xs i (omega (arith, less))
