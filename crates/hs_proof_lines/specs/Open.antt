-- Why claims are open, as their lines say it.
use Rattle.std.specs.Prelude.{◌≡◌, ◌<◌, ℕ, List, [], ◌∷◌, ◌++◌, codes, Some}
use Rattle.std.specs.Fmt.{decimal}
use Rattle.hs_heap.specs.declared.definitions.PredDef.{PredDef}
use Rattle.hs_heap.specs.declared.definitions.Defs.{Defs}
use Rattle.hs_goal.specs.declared.rule.Limits.{Limits}
use Rattle.hs_goal.specs.declared.rule.Cause.{Cause}
use Rattle.hs_decide.specs.Size.{size_of}
use Rattle.hs_decide.specs.Span.{SpanIsWide}
use Rattle.hs_inv.specs.Answer.{question_of}
use Rattle.hs_numbering.specs.declared.names.Names.{Names}
use Rattle.hs_norm_item.specs.declared.forms.PairTree.{PairTree}
use Rattle.hs_print.specs.Line.{why_text}
use Rattle.hs_print.specs.Pure.{pure_text}
use Rattle.hs_print.specs.declared.why.Why.{Why}
use Rattle.hs_print.specs.declared.why.Why.TheVariants as why
use Rattle.hs_pred_lines.specs.Lines.{IsFailure}
use Rattle.hs_causes.specs.Causes.{why_of}
use Rattle.hs_verify.specs.declared.answer.HipAnswer.{HipAnswer}
use Rattle.hs_verify.specs.declared.answer.HipAnswer.TheVariants.{Accepted, Unknown, States, Numbers}

-- ---- invariants

-- this is why the invariant is not shown: the invariant, with values at which it fails, or what its question passes
abbrev pub IsInvariantWhy : Defs → PredDef → Names → ℕ → Why → Type 0
IsInvariantWhy defs p names atoms (why.NotImplied right values) = (right ≡ pure_text (Some names) p.inv) × IsFailure defs p names values
IsInvariantWhy defs p names atoms (why.Atoms right) = (right ≡ pure_text (Some names) p.inv) × (atoms < size_of (question_of defs p))
IsInvariantWhy defs p names atoms (why.Wide right) = (right ≡ pure_text (Some names) p.inv) × SpanIsWide (question_of defs p)
IsInvariantWhy defs p names atoms _ = ⊥

-- ---- pairs

-- the answer is not that the pair is accepted
abbrev pub IsNotAccepted : HipAnswer → Type 0
IsNotAccepted (Accepted d) = ⊥
IsNotAccepted _ = Unit {0}

-- the first cause at a state, under the names of the pair
abbrev pub first_why : Defs → PairTree → Limits → List Cause → List ℕ
first_why defs p limits [] = []
first_why defs p limits (c ∷ causes) = why_text (why_of defs p.names p.next limits c)

-- that there are more states than the limit of goals
abbrev pub states_text : Limits → List ℕ
states_text limits = codes "more than " ++ (decimal limits.goals ++ codes " states")

-- what an answer that does not accept a pair says in its line
abbrev pub open_text : Defs → PairTree → Limits → HipAnswer → List ℕ
open_text defs p limits (Accepted d) = []
open_text defs p limits (Unknown at causes) = first_why defs p limits causes
open_text defs p limits (States at) = states_text limits
open_text defs p limits (Numbers at) = codes "numbers spent"
