use Rattle.std.proofs.Common.{◌≡◌, suc, ◌++◌, drop}
use Rattle.std.specs.String.{string_bytes}
use Rattle.hs_dtext.specs.Text.{lines_text, node_lines}
use Rattle.hs_dtext.proofs.text.push_nodes.Given as goal

abbrev pub invariant-loop-i : goal.invariant-loop-i
invariant-loop-i l = string_bytes l.out ++ lines_text (node_lines l.defs (suc l.i) (drop l.i l.nodes)) ≡ string_bytes l.initial.out ++ lines_text (node_lines l.defs 1 l.nodes)
