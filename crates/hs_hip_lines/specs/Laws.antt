-- What the layers above use of the lines of pairs.
use Rattle.std.specs.Prelude.{◌≡◌, ℕ, List, [], None}
use Rattle.std.specs.List.{All, AllZip}
use Rattle.hs_heap.specs.Sound.{IsSound}
use Rattle.hs_heap.specs.declared.definitions.Defs.{Defs}
use Rattle.hs_xpure.specs.Invariants.{InvariantsHold}
use Rattle.hs_goal.specs.declared.rule.Limits.{Limits}
use Rattle.hs_core.specs.declared.program.Program.{Program}
use Rattle.hs_core.specs.Sound.{IsSoundProgram}
use Rattle.hs_norm.specs.declared.resolved.MethodTree.{MethodTree}
use Rattle.hs_lower_sound.specs.Laws.{MethodIsKept}
use Rattle.hs_program_rules.specs.States.{entry}
use Rattle.hs_program_rules.specs.Laws.{PairExists}
use Rattle.hs_program_rules.specs.Safe.{IsSafe}
use Rattle.hs_print.specs.declared.line.Line.{Line}
use Rattle.hs_print.specs.declared.line.Line.TheVariants as line
use Rattle.hs_hip_lines.specs.Lines.{ArePairLines}

-- the line says that a pair is accepted
abbrev pub IsAccepted : Line → Type 0
IsAccepted (line.Accepted name i) = Unit {0}
IsAccepted _ = ⊥

-- where all invariants hold and the true lines of a program accept every pair, the start of each pair is safe for every
-- number of steps
abbrev pub AcceptedPairsAreSafe : Type 0
AcceptedPairsAreSafe = (defs : Defs) (program : Program) (limits : Limits) (methods : List MethodTree) (lines : List Line) →
    IsSound defs → defs.lemmas ≡ [] → InvariantsHold defs → IsSoundProgram defs program → AllZip MethodIsKept methods program.methods →
    ArePairLines defs program limits None methods lines → All IsAccepted lines →
    (m i : ℕ) → PairExists program m i → (n : ℕ) → IsSafe defs program n (entry program m i)
