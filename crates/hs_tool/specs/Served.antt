-- Sources that are served so far, and the replies of the commands that show claims.
use Rattle.std.specs.Prelude.{◌≡◌, ◌⊎◌, Bool, true, false, ◌&&◌, List, [], ◌∷◌, Option, Some, None}
use Rattle.std.specs.List.{list_all}
use Rattle.hs_core.specs.declared.program.Program.{Program}
use Rattle.hs_norm.specs.declared.resolved.Resolved.{Resolved}
use Rattle.hs_norm.specs.declared.resolved.MethodTree.{MethodTree}
use Rattle.hs_norm_item.specs.declared.forms.PairTree.{PairTree}
use Rattle.hs_founding.specs.Fault.{HasFoundingFault}
use Rattle.hs_core_lines.specs.Core.{HasProgram, HasLoweringFault}
use Rattle.hs_print.specs.declared.line.Line.{Line}
use Rattle.hs_print.specs.declared.refusal.Refusal.{Refusal}
use Rattle.hs_print.specs.declared.refusal.Refusal.TheVariants.{NotBuilt}
use Rattle.hs_tool.specs.declared.reply.Reply.{Reply}
use Rattle.hs_tool.specs.declared.reply.Reply.TheVariants.{FileFault, Refused, Answered}
use Rattle.hs_tool.specs.Reply.{IsFaultless}

abbrev pub is_nil : {A : Type 0} → List A → Bool
is_nil [] = true
is_nil (x ∷ xs) = false

abbrev pub is_absent : {A : Type 0} → Option A → Bool
is_absent None = true
is_absent (Some x) = false

-- whether no pair of a method has a variant
abbrev pub has_no_variant : MethodTree → Bool
has_no_variant m = list_all (λ (p : PairTree). is_absent p.variant) m.pairs

-- whether a source in normal form has neither lemmas nor variants
abbrev pub is_served : Resolved → Bool
is_served r = is_nil r.defs.lemmas && list_all has_no_variant r.methods

-- the definitions of a source have no fault, this is its core program, and it is served
pub record IsServed (r : Resolved) (program : Program) : Type 0 where
  pub faultless : IsFaultless HasFoundingFault r
  pub lowered : HasProgram r program
  pub served : is_served r ≡ true

-- it has a core program, and is not served
pub record IsUnserved (r : Resolved) (cause : Refusal) : Type 0 where
  pub program : Program
  pub lowered : HasProgram r program
  pub unserved : is_served r ≡ false
  pub is : cause ≡ NotBuilt

-- the first fault of its definitions, or else of its methods, or else it is not served
abbrev pub HasServingFault : Resolved → Refusal → Type 0
HasServingFault r cause = HasFoundingFault r cause ⊎ (IsFaultless HasFoundingFault r × (HasLoweringFault r cause ⊎ IsUnserved r cause))

-- the reply of a command on the claims of a source: it is refused for its first fault, or for one that the command
-- itself finds, or else it is answered
abbrev pub IsClaimsReply : (HasOwnFault : Resolved → Program → Refusal → Type 0) → (IsAnswer : Resolved → Program → List Line → Type 0) → Resolved → Reply → Type 0
IsClaimsReply HasOwnFault IsAnswer r (FileFault name) = ⊥
IsClaimsReply HasOwnFault IsAnswer r (Refused cause) = HasServingFault r cause ⊎ ((p : Program) × IsServed r p × HasOwnFault r p cause)
IsClaimsReply HasOwnFault IsAnswer r (Answered lines) = (p : Program) × IsServed r p × IsAnswer r p lines

-- a command that finds no fault of its own
abbrev pub HasNone : Resolved → Program → Refusal → Type 0
HasNone r p cause = ⊥
