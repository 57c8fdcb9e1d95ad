-- The grammar and the parser of sources say the same.
use Rattle.std.specs.Prelude.{◌≡◌, ℕ, List, Ok}
use Rattle.hs_lex.specs.declared.token.Token.{Token}
use Rattle.hs_tree.specs.declared.source.Source.{Source}
use Rattle.hs_read.specs.Written.{HaveDisjuncts}
use Rattle.hs_words.specs.Grammar.{Spells}
use Rattle.hs_words.specs.Input.{whole}
use Rattle.hs_read.specs.Declare.{source}
use Rattle.hs_read.specs.Grammar.{IsSource}

-- a source that the grammar has within the nesting is read
abbrev pub SourcesAreRead : Type 0
SourcesAreRead = (n : ℕ) (text : List ℕ) (tokens : List Token) (tree : Source) → Spells (IsSource n) text tokens tree → whole (source n) text tokens ≡ Ok tree

-- tokens spell at most one source
abbrev pub SourcesAreUnique : Type 0
SourcesAreUnique = (n : ℕ) (text : List ℕ) (tokens : List Token) (s t : Source) → Spells (IsSource n) text tokens s → Spells (IsSource n) text tokens t → s ≡ t

-- each formula of a source that tokens spell has a disjunct
abbrev pub SourcesHaveDisjuncts : Type 0
SourcesHaveDisjuncts = (n : ℕ) (text : List ℕ) (tokens : List Token) (tree : Source) → Spells (IsSource n) text tokens tree → HaveDisjuncts tree
