use Rattle.std.proofs.Common.{rules}
use Rattle.std.proofs.lemmas.List.{append_assoc}
use Rattle.hs_print.proofs.report.push_line.Goals as goal

pub returns-in-RunWide : goal.returns-in-RunWide
returns-in-RunWide c = rw c.in-RunWide.is (search (rules, append_assoc))

pub returns-in-RefusedWords : goal.returns-in-RefusedWords
returns-in-RefusedWords c = rw c.in-RefusedWords.is (search rules)

pub returns-in-FileFault : goal.returns-in-FileFault
returns-in-FileFault c = rw c.in-FileFault.is (search rules)
