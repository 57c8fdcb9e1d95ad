use Rattle.std.proofs.Common.{◌≡◌, ◌++◌, drop}
use Rattle.std.specs.String.{string_bytes}
use Rattle.hs_core_text.specs.Text.{code_text}
use Rattle.hs_core_text.proofs.code.push_code.Given as goal

abbrev pub invariant-loop-instr : goal.invariant-loop-instr
invariant-loop-instr l = record {
  number : l.number ≡ l.instr-index;
  text : string_bytes l.out ++ code_text l.defs l.program l.names l.number (drop l.instr-index l.code)
      ≡ string_bytes l.initial.out ++ code_text l.defs l.program l.names 0 l.code;
}
