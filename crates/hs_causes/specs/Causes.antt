-- How a search's cause is printed.
use Rattle.std.specs.Prelude.{ℕ, ◌-◌, List, [], ◌∷◌, Some}
use Rattle.hs_pure.specs.declared.var.Var.{Var}
use Rattle.hs_heap.specs.declared.formula.Atom.{Atom}
use Rattle.hs_heap.specs.declared.formula.Formula.{Formula}
use Rattle.hs_heap.specs.declared.definitions.Defs.{Defs}
use Rattle.hs_goal.specs.declared.rule.Limits.{Limits}
use Rattle.hs_goal.specs.declared.rule.Question.{Question}
use Rattle.hs_goal.specs.declared.rule.Obligation.{Obligation}
use Rattle.hs_goal.specs.declared.rule.Obligation.TheVariants as obligation
use Rattle.hs_goal.specs.declared.rule.Cause.{Cause}
use Rattle.hs_goal.specs.declared.rule.Cause.TheVariants as cause
use Rattle.hs_numbering.specs.declared.names.Names.{Names}
use Rattle.hs_print.specs.Formula.{formula_text}
use Rattle.hs_print.specs.Pure.{pure_text}
use Rattle.hs_print.specs.Valuation.{valuation_text}
use Rattle.hs_print.specs.Variable.{named_text}
use Rattle.hs_print.specs.declared.why.Why.{Why}
use Rattle.hs_print.specs.declared.why.Why.TheVariants as why
use Rattle.hs_pred_lines.specs.Values.{is_asked, passing_to}

-- an atom alone
abbrev pub atom_alone : Atom → Formula
atom_alone a = record { cases = record { bound = []; atoms = a ∷ []; pure = [] } ∷ [] }

-- the variables of a claim, whose numbers are below next, that are free in a question
abbrev pub shown_variables : ℕ → Question → List Var
shown_variables next q = passing_to (is_asked q.left q.right) (next - 1)

-- causes under the names of a claim, whose numbers are below next
module _ (defs : Defs) (names : Names) (next : ℕ) where
  -- a valuation shows those of its variables that have a source name
  abbrev pub why_failed : Obligation → Why
  why_failed (obligation.NotImplied q v) =
      why.NotImplied (pure_text (Some names) q.right) (valuation_text names (shown_variables next q) v)
  why_failed (obligation.NoChoice a) = why.NoChoice (formula_text defs (Some names) (atom_alone a))
  why_failed (obligation.OpenRoot v) = why.OpenRoot (named_text names v)
  why_failed (obligation.OpenBag v) = why.OpenBag (named_text names v)

  -- by the limits of the search
  abbrev pub why_of : Limits → Cause → Why
  why_of limits cause.Goals = why.Goals limits.goals
  why_of limits cause.Numbers = why.Numbers
  why_of limits (cause.Atoms q) = why.Atoms (pure_text (Some names) q.right)
  why_of limits (cause.Wide q) = why.Wide (pure_text (Some names) q.right)
  why_of limits cause.Rank = why.Rank limits.rank
  why_of limits (cause.Failed o) = why_failed o
