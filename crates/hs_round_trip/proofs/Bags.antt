-- Printed bags are read as trees that write them.
use Rattle.std.proofs.Common.{◌≡◌, ℕ, zero, suc, ◌≤◌, ◌^◌, max, Bool, false, ◌&&◌, List, [], ◌∷◌, ◌++◌, None, refl, sym, ◌∙◌, subst, arith}
use Rattle.std.specs.Prelude.{IsTrue, codes}
use Rattle.std.proofs.lemmas.Bool.{and_parts}
use native.Mathlib.Nat.{le-max_left, le-max_right}
use Rattle.hs_lex.specs.declared.token.Sign.TheVariants as sign
use Rattle.hs_tree.specs.declared.expr.PartTree.TheVariants as part
use Rattle.hs_tree.specs.declared.expr.ExprTree.{ExprTree}
use Rattle.hs_tree.specs.declared.expr.ExprKind.TheVariants as kind
use Rattle.hs_words.specs.declared.word.Keyword.{Keyword}
use Rattle.hs_words.specs.declared.word.Keyword.TheVariants as key
use Rattle.hs_words.specs.declared.word.Word.TheVariants as word_kind
use Rattle.hs_words.specs.Input.{Input, next, next_word, place}
use Rattle.hs_words.specs.Word.{name_word}
use Rattle.hs_words.specs.Grammar.{none}
use Rattle.hs_read_pure.specs.Grammar as grammar
use Rattle.hs_pure.specs.declared.var.Var.{Var}
use Rattle.hs_pure.specs.declared.lin.Lin.{Lin}
use Rattle.hs_pure.specs.declared.bag.Bag.{Bag, ind-Bag, fold-roll-Bag, map-Bag, roll-Bag}
use Rattle.hs_pure.specs.declared.bag.Bag.TheOpen.{Bag-F}
use Rattle.hs_pure.specs.declared.bag.Bag.TheVariants as set
use Rattle.hs_print.specs.Variable.{numbered_text}
use Rattle.hs_print.specs.Linear.{linear_text, operation_text, bag_level, bag_text}
use Rattle.hs_written.specs.Writable.{has_number, sum_fits, bag_fits_level, bag_fits, bag_nesting_level, bag_nesting}
use Rattle.hs_written.specs.Written as written
use Rattle.hs_round_trip.proofs.Pieces.{Piece, gap, Stands, done, past_gap, past_word, last_word}
use Rattle.hs_round_trip.proofs.Segments.{anything, is_end, Prints, Then, then_prints, as_prints, raw}
use Rattle.hs_round_trip.proofs.Tokens.{sign_spells}
use Rattle.hs_round_trip.proofs.Words.{union_word, inter_word, diff_word, open_paren, close_paren, open_brace, close_brace, comma, named, is_word, word_spells, close_paren_prints, open_brace_prints, close_brace_prints, comma_prints}
use Rattle.hs_round_trip.proofs.Sums.{NameAt, SumAt, name_prints, sum_prints}

abbrev pub BareAt : ℕ → Var → Input → Input → Type 0
BareAt n v i j = (e : ExprTree) × (grammar.IsExpr n e i j × written.IsBare v e)

abbrev pub BagAt : ℕ → Bag → Input → Input → Type 0
BagAt n b i j = (e : ExprTree) × (grammar.IsExpr n e i j × written.IsBag b e)

module _ (top : ℕ) (tall : 2 ^ 126 ≤ top) where
  pub bare_prints : (n : ℕ) (v : Var) → IsTrue (has_number v) → Prints top is_end (numbered_text v) (BareAt n v)
  bare_prints n v h = as_prints top is_end (numbered_text v) (NameAt v) (BareAt n v) (name_prints top tall v h)
      (λ i j y. (
        record { kind = kind.Sum ((false, part.Name y.0) ∷ []); at = place i },
        (grammar.expr (grammar.sum (grammar.plain (grammar.variable y.1.1.1) none)), written.bare y.1.0),
      ))

  -- a bag of this text, test and nesting is read at each level that has so many left
  abbrev Good : List ℕ → Bool → ℕ → Bag → Type 0
  Good t f m b = IsTrue f → (n : ℕ) → m ≤ n → Prints top is_end t (BagAt n b)

  abbrev OfBag : Bag → Type 0
  OfBag b = Good (bag_text None b) (bag_fits b) (bag_nesting b) b

  abbrev Known : Type 0
  Known = (b : Bag) × OfBag b

  abbrev bag_of : Known → Bag
  bag_of e = e.0

  -- ---- braces

  empty_prints : (n : ℕ) → Prints top is_end (codes "{}") (BagAt (suc n) set.Empty)
  empty_prints n = as_prints top is_end (codes "{}") (Stands (open_brace ∷ close_brace ∷ [])) (BagAt (suc n) set.Empty)
      (raw top is_end (open_brace ∷ close_brace ∷ []) (λ rest h. (sign_spells top sign.OpenBrace (125 ∷ rest) refl, (sign_spells top sign.CloseBrace rest refl, tt))))
      reading
    where
      reading : (i j : Input) → Stands (open_brace ∷ close_brace ∷ []) i j → BagAt (suc n) set.Empty i j
      reading i j (past_word w e (past_word x f done)) = (record { kind = kind.Braces []; at = place i }, (grammar.expr (grammar.empty w x), written.empty))

  one_prints : (n : ℕ) (a : Lin) → IsTrue (sum_fits a) → Prints top is_end (codes "{" ++ (linear_text None a ++ codes "}")) (BagAt (suc n) (set.One a))
  one_prints n a h = as_prints top is_end (codes "{" ++ (linear_text None a ++ codes "}")) _ (BagAt (suc n) (set.One a))
      (then_prints top anything is_end (codes "{") (linear_text None a ++ codes "}") _ _ (open_brace_prints top)
      (then_prints top is_end is_end (linear_text None a) (codes "}") _ _ (sum_prints top tall n a h) (close_brace_prints top is_end) (λ rest ends. refl)) (λ rest ends. refl))
      reading
    where
      reading : (i j : Input) → Then (Stands (open_brace ∷ [])) (Then (SumAt n a) (Stands (close_brace ∷ []))) i j → BagAt (suc n) (set.One a) i j
      reading i j (k, (past_word w e done, (l, (y, s)))) = last_word (BagAt (suc n) (set.One a) i) l j s (λ x.
          (record { kind = kind.Braces (y.0 ∷ []); at = place i }, (grammar.expr (grammar.braces w (grammar.last y.1.0) x), written.one y.1.1)))

  -- ---- operations

  -- the word of an operation and its parenthesis
  abbrev begun : List ℕ → List Piece
  begun w = named w ∷ open_paren ∷ []

  begun_prints : (w : List ℕ) → IsTrue (is_word w) → Prints top anything (w ++ codes "(") (Stands (begun w))
  begun_prints w h = raw top anything (begun w) (λ rest x. (word_spells top w (40 ∷ rest) h refl, (sign_spells top sign.OpenParen rest refl, tt)))

  -- what an operation in parentheses is read as
  record PairAt (n : ℕ) (k : Keyword) (a b : Bag) (i j : Input) : Type 0 where
    left : ExprTree
    right : ExprTree
    key : next_word i ≡ word_kind.Key k
    read : grammar.IsPair n left right (next i) j
    left_is : written.IsBag a left
    right_is : written.IsBag b right

  pair_prints : (n : ℕ) (k : Keyword) (w t u : List ℕ) (a b : Bag) → IsTrue (is_word w) → name_word w ≡ word_kind.Key k
      → Prints top is_end t (BagAt n a) → Prints top is_end u (BagAt n b) → Prints top is_end (operation_text (w ++ codes "(") t u) (PairAt n k a b)
  pair_prints n k w t u a b h is p q = as_prints top is_end (operation_text (w ++ codes "(") t u) _ (PairAt n k a b)
      (then_prints top anything is_end (w ++ codes "(") (t ++ (codes ", " ++ (u ++ codes ")"))) _ _ (begun_prints w h)
      (then_prints top is_end is_end t (codes ", " ++ (u ++ codes ")")) _ _ p
      (then_prints top anything is_end (codes ", ") (u ++ codes ")") _ _ (comma_prints top)
      (then_prints top is_end is_end u (codes ")") _ _ q (close_paren_prints top is_end) (λ rest ends. refl)) (λ rest ends. refl)) (λ rest ends. refl)) (λ rest ends. refl))
      reading
    where
      reading : (i j : Input) → Then (Stands (begun w)) (Then (BagAt n a) (Then (Stands (comma ∷ gap ∷ [])) (Then (BagAt n b) (Stands (close_paren ∷ []))))) i j → PairAt n k a b i j
      reading i j (o, (past_word x e (past_word y f done), (l, (left, (m, (past_word c g (past_gap done), (r, (right, s)))))))) = last_word (PairAt n k a b i) r j s (λ z.
          record { left = left.0; right = right.0; key = x ∙ is; read = grammar.pair y left.1.0 c right.1.0 z; left_is = left.1.1; right_is = right.1.1 })

  below_left : (m k n : ℕ) → suc (max m k) ≤ suc n → m ≤ n
  below_left m k n h = omega (arith, le-max_left m k)

  below_right : (m k n : ℕ) → suc (max m k) ≤ suc n → k ≤ n
  below_right m k n h = omega (arith, le-max_right m k)

  union_prints : (a b : Known) → Good (operation_text (codes "union(") (bag_text None a.0) (bag_text None b.0)) (bag_fits a.0 && bag_fits b.0) (suc (max (bag_nesting a.0) (bag_nesting b.0))) (set.Union a.0 b.0)
  union_prints a b f zero fits = absurd (omega arith)
  union_prints a b f (suc n) fits =
      let parts = and_parts (bag_fits a.0) (bag_fits b.0) f in
      as_prints top is_end (operation_text (codes "union(") (bag_text None a.0) (bag_text None b.0)) (PairAt n key.Union a.0 b.0) (BagAt (suc n) (set.Union a.0 b.0))
      (pair_prints n key.Union (codes "union") (bag_text None a.0) (bag_text None b.0) a.0 b.0 refl union_word
      (a.1 parts.0 n (below_left (bag_nesting a.0) (bag_nesting b.0) n fits)) (b.1 parts.1 n (below_right (bag_nesting a.0) (bag_nesting b.0) n fits)))
      (λ i j y. (record { kind = kind.Union y.left y.right; at = place i }, (grammar.expr (grammar.union y.key y.read), written.union y.left_is y.right_is)))

  inter_prints : (a b : Known) → Good (operation_text (codes "inter(") (bag_text None a.0) (bag_text None b.0)) (bag_fits a.0 && bag_fits b.0) (suc (max (bag_nesting a.0) (bag_nesting b.0))) (set.Inter a.0 b.0)
  inter_prints a b f zero fits = absurd (omega arith)
  inter_prints a b f (suc n) fits =
      let parts = and_parts (bag_fits a.0) (bag_fits b.0) f in
      as_prints top is_end (operation_text (codes "inter(") (bag_text None a.0) (bag_text None b.0)) (PairAt n key.Inter a.0 b.0) (BagAt (suc n) (set.Inter a.0 b.0))
      (pair_prints n key.Inter (codes "inter") (bag_text None a.0) (bag_text None b.0) a.0 b.0 refl inter_word
      (a.1 parts.0 n (below_left (bag_nesting a.0) (bag_nesting b.0) n fits)) (b.1 parts.1 n (below_right (bag_nesting a.0) (bag_nesting b.0) n fits)))
      (λ i j y. (record { kind = kind.Inter y.left y.right; at = place i }, (grammar.expr (grammar.inter y.key y.read), written.inter y.left_is y.right_is)))

  diff_prints : (a b : Known) → Good (operation_text (codes "diff(") (bag_text None a.0) (bag_text None b.0)) (bag_fits a.0 && bag_fits b.0) (suc (max (bag_nesting a.0) (bag_nesting b.0))) (set.Diff a.0 b.0)
  diff_prints a b f zero fits = absurd (omega arith)
  diff_prints a b f (suc n) fits =
      let parts = and_parts (bag_fits a.0) (bag_fits b.0) f in
      as_prints top is_end (operation_text (codes "diff(") (bag_text None a.0) (bag_text None b.0)) (PairAt n key.Diff a.0 b.0) (BagAt (suc n) (set.Diff a.0 b.0))
      (pair_prints n key.Diff (codes "diff") (bag_text None a.0) (bag_text None b.0) a.0 b.0 refl diff_word
      (a.1 parts.0 n (below_left (bag_nesting a.0) (bag_nesting b.0) n fits)) (b.1 parts.1 n (below_right (bag_nesting a.0) (bag_nesting b.0) n fits)))
      (λ i j y. (record { kind = kind.Diff y.left y.right; at = place i }, (grammar.expr (grammar.diff y.key y.read), written.diff y.left_is y.right_is)))

  -- ---- all bags

  abbrev At : Bag-F Bag → Bag → Type 0
  At x b = Good (bag_level None (map-Bag Bag (List ℕ) (bag_text None) x)) (bag_fits_level (map-Bag Bag Bool bag_fits x)) (bag_nesting_level (map-Bag Bag ℕ bag_nesting x)) b

  empty_good : At Bag-F.Empty set.Empty
  empty_good f zero fits = absurd (omega arith)
  empty_good f (suc n) fits = empty_prints n

  name_good : (v : Var) → At (Bag-F.Name v) (set.Name v)
  name_good v f n fits = as_prints top is_end (numbered_text v) (BareAt n v) (BagAt n (set.Name v)) (bare_prints n v (and_parts v.bag (has_number v) f).1)
      (λ i j y. (y.0, (y.1.0, written.name y.1.1)))

  one_good : (a : Lin) → At (Bag-F.One a) (set.One a)
  one_good a f zero fits = absurd (omega arith)
  one_good a f (suc n) fits = one_prints n a f

  level : (y : Bag-F Known) → At (map-Bag Known Bag bag_of y) (roll-Bag (map-Bag Known Bag bag_of y))
  level Bag-F.Empty = subst (At Bag-F.Empty) (sym set.rolls-Empty) empty_good
  level (Bag-F.Name v) = subst (At (Bag-F.Name v)) (sym (set.rolls-Name v)) (name_good v)
  level (Bag-F.One a) = subst (At (Bag-F.One a)) (sym (set.rolls-One a)) (one_good a)
  level (Bag-F.Union a b) = subst (At (Bag-F.Union a.0 b.0)) (sym (set.rolls-Union a.0 b.0)) (union_prints a b)
  level (Bag-F.Inter a b) = subst (At (Bag-F.Inter a.0 b.0)) (sym (set.rolls-Inter a.0 b.0)) (inter_prints a b)
  level (Bag-F.Diff a b) = subst (At (Bag-F.Diff a.0 b.0)) (sym (set.rolls-Diff a.0 b.0)) (diff_prints a b)

  rolled : (x : Bag-F Bag) → At x (roll-Bag x) → OfBag (roll-Bag x)
  rolled x h =
      subst (λ t. Good t (bag_fits (roll-Bag x)) (bag_nesting (roll-Bag x)) (roll-Bag x)) (sym (fold-roll-Bag (List ℕ) (bag_level None) x))
      (subst (λ f. Good (bag_level None (map-Bag Bag (List ℕ) (bag_text None) x)) f (bag_nesting (roll-Bag x)) (roll-Bag x)) (sym (fold-roll-Bag Bool bag_fits_level x))
      (subst (λ m. Good (bag_level None (map-Bag Bag (List ℕ) (bag_text None) x)) (bag_fits_level (map-Bag Bag Bool bag_fits x)) m (roll-Bag x)) (sym (fold-roll-Bag ℕ bag_nesting_level x)) h))

  pub bag_prints : (b : Bag) → OfBag b
  bag_prints = ind-Bag OfBag (λ x y is. rolled x (subst (λ z. At z (roll-Bag z)) is (level y)))
