-- The formulas of a source that have a disjunct.
use Rattle.std.specs.Prelude.{◌≤◌, length}
use Rattle.std.specs.List.{All}
use Rattle.hs_tree.specs.declared.formula.FormulaTree.{FormulaTree}
use Rattle.hs_tree.specs.declared.source.Source.{Source}
use Rattle.hs_tree.specs.declared.source.SourceItem.{SourceItem}
use Rattle.hs_tree.specs.declared.source.SourceItem.TheVariants.{Node, Pred, Entail, Method, Lemma}

-- a formula of the source with a disjunct
abbrev pub IsWritten : FormulaTree → Type 0
IsWritten f = 1 ≤ length f.cases

-- each formula of the item has one
abbrev pub ItemIsWritten : SourceItem → Type 0
ItemIsWritten (Node d) = Unit {0}
ItemIsWritten (Pred p) = IsWritten p.body
ItemIsWritten (Entail e) = IsWritten e.left × IsWritten e.right
ItemIsWritten (Method m) = All (λ p. IsWritten p.pre × IsWritten p.post) m.pairs
ItemIsWritten (Lemma l) = Unit {0}

-- each formula of the source has one
abbrev pub HaveDisjuncts : Source → Type 0
HaveDisjuncts source = All ItemIsWritten source.items
