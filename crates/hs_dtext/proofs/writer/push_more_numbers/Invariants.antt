use Rattle.std.proofs.Common.{◌≡◌, ◌++◌, drop}
use Rattle.std.specs.Prelude.{codes}
use Rattle.std.specs.String.{string_bytes}
use Rattle.std.specs.Fmt.{decimal}
use Rattle.hs_print.specs.Lists.{each_after}
use Rattle.hs_dtext.proofs.writer.push_more_numbers.Given as goal

abbrev pub invariant-loop-number : goal.invariant-loop-number
invariant-loop-number l = string_bytes l.out ++ each_after (codes ", ") decimal (drop l.number-index l.numbers) ≡ string_bytes l.initial.out ++ each_after (codes ", ") decimal l.numbers
