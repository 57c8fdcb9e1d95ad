-- The derivation of every claim that is proved: nodes, and a line for each claim.
use Rattle.std.specs.Prelude.{◌≡◌, ◌⊎◌, ℕ, suc, ◌+◌, ◌++◌, ◌∷◌, [], Bool, true, false, List, length, map, Option, Some, None}
use Rattle.std.specs.List.{list_any}
use Rattle.hs_heap.specs.declared.definitions.PredDef.{PredDef}
use Rattle.hs_heap.specs.declared.definitions.Defs.{Defs}
use Rattle.hs_goal.specs.declared.rule.Limits.{Limits}
use Rattle.hs_goal.specs.declared.rule.Cause.{Cause}
use Rattle.hs_core.specs.declared.program.Program.{Program}
use Rattle.hs_xpure.specs.Invariants.{InvariantFollows}
use Rattle.hs_erule.specs.declared.step.Proof.{Proof}
use Rattle.hs_search.specs.Answer.{IsSearchAnswer}
use Rattle.hs_search.specs.declared.answer.SleekAnswer.TheVariants as sleek
use Rattle.hs_numbering.specs.declared.names.Names.{Names}
use Rattle.hs_norm.specs.declared.resolved.Resolved.{Resolved}
use Rattle.hs_norm.specs.declared.resolved.MethodTree.{MethodTree}
use Rattle.hs_norm_item.specs.declared.forms.Entailment.{Entailment}
use Rattle.hs_norm_item.specs.declared.forms.PairTree.{PairTree}
use Rattle.hs_claims.specs.Claims.{goal_of}
use Rattle.hs_node.specs.declared.judgement.Judgement.TheVariants.{Shown}
use Rattle.hs_node.specs.declared.judgement.Rule.TheVariants.{Inv}
use Rattle.hs_node.specs.declared.derivation.Node.{Node}
use Rattle.hs_node.specs.declared.derivation.Derivation.{Derivation}
use Rattle.hs_proof_nodes.specs.Placed.{placed}
use Rattle.hs_program_rules.specs.States.{entry}
use Rattle.hs_verify.specs.declared.answer.HipAnswer.{HipAnswer}
use Rattle.hs_verify.specs.declared.answer.HipAnswer.TheVariants as hip
use Rattle.hs_verify.specs.Answer.{IsAnswer}
use Rattle.hs_print.specs.Line.{why_text}
use Rattle.hs_print.specs.declared.why.Why.{Why}
use Rattle.hs_print.specs.declared.why.Why.TheVariants as why
use Rattle.hs_causes.specs.Causes.{why_of}
use Rattle.hs_dtext.specs.declared.claims.ClaimLine.{ClaimLine}
use Rattle.hs_dtext.specs.declared.claims.ClaimLine.TheVariants as line
use Rattle.hs_dtext.specs.Text.{proved_text}
use Rattle.hs_pred_lines.specs.Lines.{ArePredicateLines, first_unshown}
use Rattle.hs_print.specs.declared.line.Line.{Line}
use Rattle.hs_print.specs.declared.line.Line.TheVariants as report
use Rattle.hs_proof_lines.specs.Open.{IsInvariantWhy, IsNotAccepted, open_text}

-- nodes put behind n others
abbrev pub moved_node : ℕ → Node → Node
moved_node n node = record { judgement = node.judgement; rule = node.rule; premises = map (λ p. n + p) node.premises }

abbrev pub moved : ℕ → List Node → List Node
moved n nodes = map (moved_node n) nodes

-- the node of an invariant
abbrev pub invariant_node : ℕ → Node
invariant_node pred = record { judgement = Shown pred; rule = Inv; premises = [] }

-- what a claim is about
pub data Subject : Type 0 where
  -- the predicate of a number, with its source names
  invariant : ℕ → PredDef → Names → Subject
  entailment : Entailment → Subject
  -- pair i of method m
  pair : (m i : ℕ) → PairTree → Subject

-- the predicates, by their numbers from the given one on
abbrev pub invariant_subjects : ℕ → List PredDef → List Names → List Subject
invariant_subjects number (p ∷ ps) (names ∷ all) = Subject.invariant number p names ∷ invariant_subjects (suc number) ps all
invariant_subjects number _ _ = []

-- the pairs of method m, by their numbers from the given one on
abbrev pub pair_subjects : ℕ → ℕ → List PairTree → List Subject
pair_subjects m i [] = []
pair_subjects m i (p ∷ ps) = Subject.pair m i p ∷ pair_subjects m (suc i) ps

-- those of the methods from number m on
abbrev pub method_subjects : ℕ → List MethodTree → List Subject
method_subjects m [] = []
method_subjects m (method ∷ methods) = pair_subjects m 1 method.pairs ++ method_subjects (suc m) methods

-- what the claims of a source are about, in their order
abbrev pub subjects_of : Resolved → List Subject
subjects_of r = invariant_subjects 1 r.defs.preds r.pred_names ++ map Subject.entailment r.entailments ++ method_subjects 1 r.methods

-- ---- one claim

module _ (defs : Defs) (program : Program) (limits : Limits) where
  -- the nodes that prove it behind n others, of which the last concludes it: the node of an invariant that is shown, the
  -- steps of the first proof of an entailment, those of the closed tree of a pair
  abbrev pub IsProvedBy : Subject → ℕ → List Node → Type 0
  IsProvedBy (Subject.invariant number p names) n own = InvariantFollows defs p × (own ≡ invariant_node number ∷ [])
  IsProvedBy (Subject.entailment e) n own =
      (p : Proof) × (others : List Proof) × IsSearchAnswer defs limits (goal_of e) (sleek.Valid (p ∷ others)) × (own ≡ placed n p)
  IsProvedBy (Subject.pair m i p) n own =
      (d : Derivation) × IsAnswer defs program limits (entry program m i) (hip.Accepted d) × (own ≡ moved n d.nodes)

  -- this is why it is not proved
  abbrev pub IsOpenFor : Subject → List ℕ → Type 0
  IsOpenFor (Subject.invariant number p names) cause = (w : Why) × IsInvariantWhy defs p names limits.atoms w × (cause ≡ why_text w)
  IsOpenFor (Subject.entailment e) cause =
      (c : Cause) × IsSearchAnswer defs limits (goal_of e) (sleek.Unknown c) × (cause ≡ why_text (why_of defs e.names e.next limits c))
  IsOpenFor (Subject.pair m i p) cause =
      (answer : HipAnswer) × IsAnswer defs program limits (entry program m i) answer × IsNotAccepted answer × (cause ≡ open_text defs p limits answer)

  module _ (unshown : Option (List ℕ)) where
    -- entailments and pairs are proved only where all invariants are shown
    abbrev pub MayBeProved : Subject → Type 0
    MayBeProved (Subject.invariant number p names) = Unit {0}
    MayBeProved _ = unshown ≡ None

    -- else the first invariant that is not shown is why they are open
    abbrev pub IsBarred : Subject → List ℕ → Type 0
    IsBarred (Subject.invariant number p names) cause = ⊥
    IsBarred _ cause = (pred : List ℕ) × (unshown ≡ Some pred) × (cause ≡ why_text (why.Invariant pred))

    -- claim k, about this, has its nodes behind n others, and its line
    abbrev pub IsWritten : ℕ → Subject → ℕ → List Node → ClaimLine → Type 0
    IsWritten k s n own (line.Shown claim node) = (claim ≡ k) × MayBeProved s × IsProvedBy s n own × (node ≡ n + length own)
    IsWritten k s n own (line.Open claim cause) = (claim ≡ k) × (own ≡ []) × (IsBarred s cause ⊎ (MayBeProved s × IsOpenFor s cause))

    -- ---- all claims

    -- in order: the nodes of each behind those before it, and a line of each
    pub data AreWritten : List Subject → List Node → List ClaimLine → Type 0 where
      nothing : AreWritten [] [] []
      more : {subjects : List Subject} {nodes : List Node} {lines : List ClaimLine} (own : List Node) (s : Subject) (l : ClaimLine) →
          AreWritten subjects nodes lines → IsWritten (suc (length subjects)) s (length nodes) own l →
          AreWritten (subjects ++ s ∷ []) (nodes ++ own) (lines ++ l ∷ [])

-- whether a claim is open
abbrev pub is_open : ClaimLine → Bool
is_open (line.Shown claim node) = false
is_open (line.Open claim cause) = true

-- the line of nodes and claims
abbrev pub report_line : Defs → List Node → List ClaimLine → Line
report_line defs nodes claims = report.DerivationText (proved_text defs nodes claims) (list_any is_open claims)

-- the one line of `prove`: the text of nodes and claims that are written, and whether a claim is open
pub record IsProofReport (r : Resolved) (program : Program) (limits : Limits) (lines : List Line) : Type 0 where
  pub preds : List Line
  pub shown : ArePredicateLines r limits.atoms preds
  pub nodes : List Node
  pub claims : List ClaimLine
  pub written : AreWritten r.defs program limits (first_unshown preds) (subjects_of r) nodes claims
  pub is : lines ≡ report_line r.defs nodes claims ∷ []
