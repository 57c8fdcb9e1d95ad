-- What is read as a formula is spelled so by the grammar.
use Rattle.std.proofs.Common.{◌≡◌, ℕ, List, [], refl}
use Rattle.hs_lex.specs.declared.token.Sign.TheVariants as sign
use Rattle.hs_tree.specs.declared.formula.AtomTree.{AtomTree}
use Rattle.hs_words.specs.declared.word.Keyword.TheVariants as key
use Rattle.hs_words.specs.declared.word.Word.{Word}
use Rattle.hs_words.specs.declared.word.Word.TheVariants as word
use Rattle.hs_words.specs.Input.{Input, ◌<$>◌, next_word, second_word, next, sees, sees_key}
use Rattle.hs_words.proofs.Yields.{Yields, Accepts, yield, yields_none, ◌▷◌, ◌▸◌, choose, after_sign, after_key, seen, seen_key, separated_accepts}
use Rattle.hs_read_pure.specs.Expr.{name, expr}
use Rattle.hs_read_pure.specs.Item.{conj, item}
use Rattle.hs_read_pure.specs.Formula.{names, arg_by, arg, args, arguments, atom, atoms, heap_by, heap, conjuncts, spatial, begins_heap, body, bound, disjunct, formula}
use Rattle.hs_read_pure.specs.Grammar.{IsName, AreNames, IsArg, AreArguments, IsAtom, IsHeap, IsBody, AreBound, IsDisjunct, IsFormula, AreItems}
use Rattle.hs_read_pure.specs.Grammar as grammar
use Rattle.hs_read_pure.proofs.ExprSound.{name_accepts, variable_accepts, expr_accepts}
use Rattle.hs_read_pure.proofs.ItemSound.{conj_accepts}

pub names_accept : Accepts names AreNames
unfolding names
names_accept i = separated_accepts (sees sign.Comma) (word.Sign sign.Comma) (seen sign.Comma) name IsName name_accepts i

module _ (n : ℕ) where
  arg_at : (w : Word) (i : Input) → next_word i ≡ w → Yields (arg_by n w i) (λ x j. IsArg n x i j)
  arg_at word.Hole i is = yield (grammar.hole is)
  arg_at w i is = expr_accepts n i ▷ λ e j h. yield (grammar.value h)

  arg_accepts : Accepts (arg n) (IsArg n)
  unfolding arg
  arg_accepts i = arg_at (next_word i) i refl

  arguments_accept : Accepts (arguments n) (AreArguments n)
  unfolding arguments args
  arguments_accept i =
      after_sign _ _ (λ a. choose _ _ _ (λ e. yield (grammar.no_args a (seen sign.Greater (next i) e)))
      (λ e. separated_accepts (sees sign.Comma) (word.Sign sign.Comma) (seen sign.Comma) (arg n) (IsArg n) arg_accepts (next i) ▷ λ xs j h.
      after_sign _ _ (λ b. yield (grammar.args a h b))))

  atom_accepts : Accepts (atom n) (IsAtom n)
  unfolding atom
  atom_accepts i =
      variable_accepts i ▷ λ x j is_x. after_sign _ _ (λ c. name_accepts (next j) ▷ λ y k is_y. arguments_accept k ▷ λ xs l h. yield (grammar.atom is_x c is_y h))

  heap_at : (w : Word) (i : Input) → next_word i ≡ w → Yields (heap_by n w i) (λ x j. IsHeap n x i j)
  unfolding atoms
  heap_at (word.Key key.Emp) i is = yield (grammar.emp is)
  heap_at w i is = separated_accepts (sees sign.Star) (word.Sign sign.Star) (seen sign.Star) (atom n) (IsAtom n) atom_accepts i ▸ λ xs j h. grammar.atoms h

  heap_accepts : Accepts (heap n) (IsHeap n)
  unfolding heap
  heap_accepts i = heap_at (next_word i) i refl

  -- what stands behind a heap
  conjuncts_yield : (ats : List AtomTree) (i j : Input) → IsHeap n ats i j → Yields (conjuncts n j) (λ xs k. IsBody n ats xs i k)
  unfolding conjuncts
  conjuncts_yield ats i j h =
      choose _ _ _ (λ e. conj_accepts n (next j) ▸ λ xs k is. grammar.heap_and h (seen sign.Amp j e) is) (λ e. yield (grammar.heap h))

  spatial_accepts : Accepts (spatial n) (λ b. IsBody n b.0 b.1)
  unfolding spatial
  spatial_accepts i = heap_accepts i ▷ λ ats j h. conjuncts_yield ats i j h ▷ λ xs k b. yield b

  body_accepts : Accepts (body n) (λ b. IsBody n b.0 b.1)
  unfolding body
  body_accepts i =
      choose {b = begins_heap (next_word i) (second_word i)} (spatial n) ((λ items. ([], items)) <$> conj (item n)) i (λ e. spatial_accepts i) (λ e. conj_accepts n i ▷ λ xs j h. yield (grammar.conj h))

  bound_accepts : Accepts bound AreBound
  unfolding bound
  bound_accepts i =
      choose _ _ _ (λ e. names_accept (next i) ▷ λ xs j h. after_sign _ _ (λ d. yield (grammar.bound (seen_key key.Exists i e) h d)))
      (λ e. yield grammar.unbound)

  pub disjunct_accepts : Accepts (disjunct n) (IsDisjunct n)
  unfolding disjunct
  disjunct_accepts i = bound_accepts i ▷ λ bs j b. body_accepts j ▷ λ parts k h. yield (grammar.disjunct b h)

  pub formula_accepts : Accepts (formula n) (IsFormula n)
  unfolding formula
  formula_accepts i =
      separated_accepts (sees_key key.Or) (word.Key key.Or) (seen_key key.Or) (disjunct n) (IsDisjunct n) disjunct_accepts i ▷ λ cs j h. yield (grammar.formula h)
