use Rattle.std.proofs.Common.{◌≡◌, ◌++◌, drop}
use Rattle.std.specs.Prelude.{codes}
use Rattle.std.specs.String.{string_bytes}
use Rattle.hs_print.specs.Lists.{each_after}
use Rattle.hs_print.specs.Variable.{numbered_text}
use Rattle.hs_dtext.proofs.writer.push_more_variables.Given as goal

abbrev pub invariant-loop-v : goal.invariant-loop-v
invariant-loop-v l = string_bytes l.out ++ each_after (codes ", ") numbered_text (drop l.v-index l.vars) ≡ string_bytes l.initial.out ++ each_after (codes ", ") numbered_text l.vars
