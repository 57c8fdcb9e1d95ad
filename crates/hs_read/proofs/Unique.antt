-- A source that the grammar has within the nesting is read, and nothing else is spelled by the same tokens.
use Rattle.std.proofs.Common.{sym, ◌∙◌}
use Rattle.hs_words.proofs.Full.{fine_same, whole_full}
use Rattle.hs_read.specs.Declare.{source}
use Rattle.hs_read.specs.Grammar.{IsSource}
use Rattle.hs_read.specs.Laws.{SourcesAreRead, SourcesAreUnique}
use Rattle.hs_read.proofs.DeclareFull.{source_full}

pub sources_read : SourcesAreRead
sources_read n text tokens tree s = whole_full (source n) (IsSource n) (λ t i j h end. source_full n t i j h end) text tokens tree s

pub sources_unique : SourcesAreUnique
sources_unique n text tokens s t p q = fine_same s t (sym (sources_read n text tokens s p) ∙ sources_read n text tokens t q)
