use Rattle.std.proofs.Common.{◌≡◌, ◌++◌, drop}
use Rattle.std.specs.List.{flat_map}
use Rattle.std.specs.String.{string_bytes}
use Rattle.hs_core_text.specs.Text.{method_text, core_text}
use Rattle.hs_core_text.proofs.program.core.Given as goal

abbrev pub invariant-loop-m : goal.invariant-loop-m
invariant-loop-m l =
    string_bytes l.out ++ flat_map (method_text l.defs l.program) (drop l.m-index l.program.methods)
    ≡ core_text l.defs l.program
