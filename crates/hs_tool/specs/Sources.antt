-- Sources in normal form whose definitions have no fault, and those that are served.
use Rattle.std.specs.Prelude.{◌≡◌, ◌⊎◌, ◌≤◌, ◌^◌, ℕ, List, [], length}
use Rattle.std.specs.List.{All, AllZip}
use Rattle.hs_heap.specs.Sound.{IsSound}
use Rattle.hs_goal.specs.Shape.{GoalFits}
use Rattle.hs_core.specs.declared.program.Program.{Program}
use Rattle.hs_core.specs.Sound.{IsSoundProgram}
use Rattle.hs_core.specs.Set.{IsSet}
use Rattle.hs_lower_sound.specs.Laws.{MethodIsKept}
use Rattle.hs_claims.specs.Claims.{goal_of}
use Rattle.hs_tree.specs.declared.source.Source.{Source}
use Rattle.hs_norm.specs.declared.resolved.Resolved.{Resolved}
use Rattle.hs_source.specs.Resolved.{IsResolved, IsRefused}
use Rattle.hs_source.specs.declared.error.SourceError.{SourceError}
use Rattle.hs_source.specs.declared.error.SourceError.TheVariants.{Refused, Memory}
use Rattle.hs_founding.specs.Fault.{HasFoundingFault}
use Rattle.hs_tool.specs.Reply.{HasSource, IsFaultless}
use Rattle.hs_tool.specs.Served.{IsServed, HasServingFault}
use Rattle.hs_tool.specs.declared.served.Served.{Served}

-- the bytes are a source of this normal form, whose definitions have no fault; it has no more of anything than bytes
pub record IsFoundedSource (bytes : List ℕ) (r : Resolved) : Type 0 where
  pub tree : Source
  pub read : IsResolved bytes tree r
  pub faultless : IsFaultless HasFoundingFault r
  pub few : length r.entailments ≤ length bytes
  pub few_preds : length r.defs.preds ≤ length bytes
  pub few_nodes : length r.defs.nodes ≤ length bytes
  pub named : length r.pred_names ≡ length r.defs.preds

-- the bytes are no source, or its definitions have a fault; want of memory needs no cause
abbrev pub HasFoundingCause : List ℕ → SourceError → Type 0
HasFoundingCause bytes (Refused cause) = IsRefused bytes cause ⊎ HasSource bytes (λ r. HasFoundingFault r cause)
HasFoundingCause bytes Memory = Unit {0}

-- ---- sources that are served

-- what is known of a source that is served
pub record IsNormalForm (r : Resolved) : Type 0 where
  pub sound : IsSound r.defs
  pub no_lemmas : r.defs.lemmas ≡ []
  pub goals : All (λ e. GoalFits r.defs (goal_of e)) r.entailments
  pub named : length r.pred_names ≡ length r.defs.preds
  pub few : length r.entailments ≤ 2 ^ 20
  pub few_preds : length r.defs.preds ≤ 2 ^ 20

-- and of its core program
pub record IsItsProgram (r : Resolved) (program : Program) : Type 0 where
  pub sound : IsSoundProgram r.defs program
  pub set : IsSet program
  pub kept : AllZip MethodIsKept r.methods program.methods

-- the bytes are a source of this normal form, which is served
pub record IsServedSource (bytes : List ℕ) (s : Served) : Type 0 where
  pub founded : IsFoundedSource bytes s.resolved
  pub served : IsServed s.resolved s.program
  pub normal : IsNormalForm s.resolved
  pub program : IsItsProgram s.resolved s.program

-- the bytes are no source, or it is not served; want of memory needs no cause
abbrev pub HasServingCause : List ℕ → SourceError → Type 0
HasServingCause bytes (Refused cause) = IsRefused bytes cause ⊎ HasSource bytes (λ r. HasServingFault r cause)
HasServingCause bytes Memory = Unit {0}
