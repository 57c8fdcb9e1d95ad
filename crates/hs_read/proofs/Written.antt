-- What the grammar spells has a disjunct in each formula.
use Rattle.std.proofs.Common.{ℕ, ◌≤◌, List, [], ◌∷◌, length, Result, Ok, Err, arith}
use Rattle.std.specs.Prelude.{IfOk}
use Rattle.std.specs.List.{All}
use Rattle.std.proofs.lemmas.List.Elements.{All-nil, All-cons}
use Rattle.hs_lex.specs.declared.token.Token.{Token}
use Rattle.hs_tree.specs.declared.formula.FormulaTree.{FormulaTree}
use Rattle.hs_tree.specs.declared.method.PairSource.{PairSource}
use Rattle.hs_tree.specs.declared.source.Source.{Source}
use Rattle.hs_tree.specs.declared.source.SourceItem.{SourceItem}
use Rattle.hs_read.specs.Written.{IsWritten, ItemIsWritten, HaveDisjuncts}
use Rattle.hs_words.specs.declared.error.ReadError.{ReadError}
use Rattle.hs_words.specs.declared.word.Word.{Word}
use Rattle.hs_words.specs.Input.{Input, Gives, whole}
use Rattle.hs_words.specs.Grammar.{Spells, Separated, Repeated}
use Rattle.hs_words.specs.Grammar as words
use Rattle.hs_read_pure.specs.Grammar.{IsFormula}
use Rattle.hs_read_pure.specs.Grammar as pure
use Rattle.hs_read.specs.Declare.{source}
use Rattle.hs_read.specs.Grammar.{IsPairOf, ArePairs, IsSourceItem, IsPred, IsEntail, IsMethod, IsSource}
use Rattle.hs_read.specs.Grammar as grammar
use Rattle.hs_read.specs.Laws.{SourcesHaveDisjuncts}
use Rattle.hs_read.proofs.Found.{source_found}

some : {A : Type 0} {R : A → Input → Input → Type 0} {w : Word} {xs : List A} {i j : Input} → Separated R w xs i j → 1 ≤ length xs
some (words.one r) = omega arith
some (words.more r e rest) = omega arith

each : {A : Type 0} {R : A → Input → Input → Type 0} (P : A → Type 0) → ((x : A) (i j : Input) → R x i j → P x) → {xs : List A} {i j : Input} → Repeated R xs i j → All P xs
each P f words.none = All-nil P
each P f (words.another r rest) = All-cons P _ _ (f _ _ _ r) (each P f rest)

module _ (n : ℕ) where
  formula_written : {f : FormulaTree} {i j : Input} → IsFormula n f i j → IsWritten f
  formula_written (pure.formula cases) = some cases

  pair_written : (p : PairSource) (i j : Input) → IsPairOf n p i j → IsWritten p.pre × IsWritten p.post
  pair_written p i j (grammar.pair key f v ensures g end) = (formula_written f, formula_written g)

  pairs_written : {ps : List PairSource} {i j : Input} → ArePairs n ps i j → All (λ (p : PairSource). IsWritten p.pre × IsWritten p.post) ps
  pairs_written (grammar.pairs p rest) = All-cons (λ (p : PairSource). IsWritten p.pre × IsWritten p.post) _ _ (pair_written _ _ _ p) (each (λ (p : PairSource). IsWritten p.pre × IsWritten p.post) pair_written rest)

  item_written : (t : SourceItem) (i j : Input) → IsSourceItem n t i j → ItemIsWritten t
  item_written t i j (grammar.node_item d) = tt
  item_written t i j (grammar.pred_item (grammar.pred key name params eq f inv end)) = formula_written f
  item_written t i j (grammar.entail_item (grammar.entail key f turn g end)) = (formula_written f, formula_written g)
  item_written t i j (grammar.method_item (grammar.method key name params result pairs block)) = pairs_written pairs
  item_written t i j (grammar.lemma_item l) = tt

  source_spelled : {t : Source} {i j : Input} → IsSource n t i j → HaveDisjuncts t
  source_spelled (grammar.source items) = each ItemIsWritten item_written items

pub sources_have_disjuncts : SourcesHaveDisjuncts
sources_have_disjuncts n text tokens tree s = source_spelled n s.spelled

pub source_written : (text : List ℕ) (tokens : List Token) (r : Result Source ReadError) → Gives (λ tree. tree) r (whole (source 64) text tokens) → IfOk r HaveDisjuncts
source_written text tokens r given = of r (source_found text tokens r given)
  where
    of : (r : Result Source ReadError) → IfOk r (λ tree. Spells (IsSource 64) text tokens tree) → IfOk r HaveDisjuncts
    of (Ok tree) s = sources_have_disjuncts 64 text tokens tree s
    of (Err e) s = tt
