-- What the layers above use of lowered programs.
use Rattle.std.specs.Prelude.{◌≡◌, ◌≤◌, ℕ, List, length, map, Ok, is_some}
use Rattle.std.specs.List.{All, AllZip}
use Rattle.hs_lex.specs.declared.token.Token.{Token}
use Rattle.hs_words.specs.Grammar.{Spells}
use Rattle.hs_read.specs.Grammar.{IsSource}
use Rattle.hs_tree.specs.declared.source.Source.{Source}
use Rattle.hs_norm.specs.declared.resolved.MethodTree.{MethodTree}
use Rattle.hs_norm.specs.declared.resolved.Resolved.{Resolved}
use Rattle.hs_norm.specs.Normal.{normal_of}
use Rattle.hs_core.specs.declared.program.Method.{Method}
use Rattle.hs_core.specs.declared.program.Program.{Program}
use Rattle.hs_core.specs.Sound.{IsSoundProgram}
use Rattle.hs_lower.specs.Lowering.{pair_of, lowered}
use Rattle.hs_lower_sound.specs.Lowerable.{IsLowerable}

-- the program of a source that fits is sound over its definitions
abbrev pub LoweredProgramsAreSound : Type 0
LoweredProgramsAreSound = (r : Resolved) (p : Program) → IsLowerable r → lowered r ≡ Ok p → IsSoundProgram r.defs p

-- the normal form of a source that tokens spell fits
abbrev pub SourcesAreLowerable : Type 0
SourcesAreLowerable = (n : ℕ) (text : List ℕ) (tokens : List Token) (source : Source) (r : Resolved) → Spells (IsSource n) text tokens source → normal_of source ≡ Ok r → IsLowerable r

-- no method is too long
abbrev pub LoweredCodeIsShort : Type 0
LoweredCodeIsShort = (r : Resolved) (p : Program) → lowered r ≡ Ok p → All (λ m. length m.code ≤ 4096) p.methods

-- a method of the program is of a method of the source
pub record MethodIsKept (m : MethodTree) (q : Method) : Type 0 where
  pub name : q.name ≡ m.name
  pub params : q.params ≡ length m.params
  pub result : q.result ≡ is_some m.result
  pub pairs : q.pairs ≡ map pair_of m.pairs

-- each method of the program is of the one of the source, in order
abbrev pub MethodsAreKept : Type 0
MethodsAreKept = (r : Resolved) (p : Program) → lowered r ≡ Ok p → AllZip MethodIsKept r.methods p.methods
