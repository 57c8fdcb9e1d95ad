-- Formulas between blanks are read.
use Rattle.std.proofs.Common.{◌≡◌, ℕ, ◌≤◌, ◌^◌, Bool, true, false, ◌&&◌, nat_eq, if◌then◌else◌, cond, List, [], ◌∷◌, ◌++◌, Some, None, Ok, Err, refl, sym, ap, ◌∙◌, subst, arith, append-nil}
use Rattle.std.specs.Prelude.{codes, take_while, slice_index}
use Rattle.std.specs.List.{AllByRecursion}
use Rattle.std.specs.Str.{bytes_eq}
use Rattle.std.specs.Fmt.{decimal}
use Rattle.std.proofs.lemmas.Bool.{false_from_ne_true}
use Rattle.std.proofs.lemmas.Bool.Decides.{nat_tests}
use Rattle.std.proofs.lemmas.List.{reverse-append, reverse-reverse}
use Rattle.std.proofs.lemmas.List.Sums.{take_while-cons}
use Rattle.std.proofs.lemmas.Slice.Eq.{bytes_eq-Decides}
use Rattle.hs_lex.specs.declared.error.LexError.TheVariants.{NotUtf8}
use Rattle.hs_lex.specs.declared.token.Token.{Token}
use Rattle.hs_lex.specs.Scan.{tokens_from}
use Rattle.hs_lex.specs.Tokens as lexer
use Rattle.hs_lex.specs.Tokens.{is_blank, is_in_name}
use Rattle.hs_lex.proofs.Relation.{Lexes-scanned}
use Rattle.hs_words.specs.declared.word.Word.TheVariants as word_kind
use Rattle.hs_words.specs.Input.{Input, input, next_word, whole}
use Rattle.hs_tree.specs.declared.formula.DisjunctTree.{DisjunctTree}
use Rattle.hs_tree.specs.declared.formula.FormulaTree.{FormulaTree}
use Rattle.hs_read_pure.specs.Formula.{formula as formula_tree, pure_formula as pure_tree}
use Rattle.hs_read_pure.proofs.Unique.{formulas_read}
use Rattle.hs_pure.specs.declared.var.Var.{Var}
use Rattle.hs_pure.specs.declared.pure.Pure.{Pure}
use Rattle.hs_heap.specs.declared.formula.Atom.{Atom}
use Rattle.hs_heap.specs.declared.formula.Disjunct.{Disjunct}
use Rattle.hs_heap.specs.declared.formula.Formula.{Formula}
use Rattle.hs_heap.specs.declared.definitions.Defs.{Defs}
use Rattle.hs_norm_formula.specs.Numbered.{numbered}
use Rattle.hs_print.specs.Lists.{with_signs, each_after}
use Rattle.hs_print.specs.Variable.{letter, numbered_text}
use Rattle.hs_print.specs.Pure.{pure_text, member_text}
use Rattle.hs_print.specs.Formula.{atom_text, atoms_text, bound_text, disjunct_text, cases_text, formula_text}
use Rattle.hs_written.specs.Writable.{AtomIsWritable, DisjunctIsWritable, DefsAreWritable, IsWritablePure}
use Rattle.hs_written.specs.Written as written
use Rattle.hs_written.proofs.Formulas.{written_is_read}
use Rattle.hs_round_trip.proofs.Pieces.{gap, Stands, done, past_gap, tokens_of, lexed as pieces_lexed, standing}
use Rattle.hs_round_trip.proofs.Segments.{anything, is_end, Prints, Then, then_prints, as_prints, raw}
use Rattle.hs_round_trip.proofs.Formulas.{FormulaAt, cases_prints}
use Rattle.hs_round_trip.proofs.Back.{pure_formulas_come_back}
use Rattle.hs_line.specs.declared.fault.Fault.TheVariants as fault
use Rattle.hs_line.specs.Steps.{on_ok, mapped}
use Rattle.hs_line.specs.Scan.{past_blanks, run, behind, is_over}
use Rattle.hs_dtext.specs.Formulas.{greatest, has_comment, second_is, tokens_by, tokens, grammatical, named, tree_of, is_none, formula, is_empty, has_atoms_alone, first_atoms, heap_of, heap, pure_by_numbers, pure_of, opened, inside, pure_by, enclosed}
use Rattle.hs_dtext_laws.proofs.Fronts.{tail}
use Rattle.hs_dtext_laws.proofs.Clean.{Clean, join, clean_utf8, clean_is_utf8, without_slashes}
use Rattle.hs_dtext_laws.proofs.CleanTexts.{pure_clean, formula_clean}

-- ---- blanks beside a text

le_self : (n : ℕ) → n ≤ n
le_self n = omega arith

abbrev top : ℕ
top = 2 ^ 126

tall : 2 ^ 126 ≤ top
tall = le_self (2 ^ 126)

behind_gap : (R : Input → Input → Type 0) (i j : Input) → Then (Stands (gap ∷ [])) R i j → R i j
behind_gap R i j (m, (past_gap done, r)) = r

before_gap : (R : Input → Input → Type 0) (i m j : Input) → R i m → Stands (gap ∷ []) m j → R i j
before_gap R i m j r (past_gap done) = r

blank_first : (t : List ℕ) (R : Input → Input → Type 0) → Prints top is_end t R → Prints top is_end (32 ∷ t) R
blank_first t R p = as_prints top is_end (32 ∷ t) (Then (Stands (gap ∷ [])) R) R
    (then_prints top anything is_end (32 ∷ []) t (Stands (gap ∷ [])) R (raw top anything (gap ∷ []) (λ rest h. tt)) p (λ rest ends. refl)) (behind_gap R)

blank_last : (b : Bool) (t : List ℕ) (R : Input → Input → Type 0) → Prints top is_end t R → Prints top is_end (t ++ tail b) R
blank_last true t R p = as_prints top is_end (t ++ 32 ∷ []) (Then R (Stands (gap ∷ []))) R
    (then_prints top is_end is_end t (32 ∷ []) R (Stands (gap ∷ [])) p (raw top is_end (gap ∷ []) (λ rest h. tt)) (λ rest ends. refl)) (λ i j y. before_gap R i y.0 j y.1.0 y.1.1)
blank_last false t R p = subst (λ l. Prints top is_end l R) (sym (append-nil t)) p

-- ---- tokens

no_comment : (t : List ℕ) → AllByRecursion (λ b. nat_eq b 47 ≡ false) t → has_comment t ≡ false
no_comment [] h = refl
no_comment (b ∷ t) h = (λ i. if h.0 i && second_is 47 t then true else has_comment t) ∙ no_comment t h.1

tokens_have : (t : List ℕ) (ts : List Token) → Clean t → lexer.HasTokens top t ts → tokens t ≡ Ok ts
unfolding tokens
tokens_have t ts clean has =
    ap (tokens_by t) ((λ i. if clean_is_utf8 t clean i then tokens_from greatest 0 0 t else Err (NotUtf8 0)) ∙ Lexes-scanned top 0 t ts has.lexes)
    ∙ (λ i. if no_comment t (without_slashes t clean) i then Err fault.Formula else Ok ts)

-- ---- a printed text

at_end : (text : List ℕ) → next_word (input text []) ≡ word_kind.End
unfolding next_word
at_end text = refl

module _ (t : List ℕ) (R : Input → Input → Type 0) (p : Prints top is_end t R) where
  abbrev its_tokens : List Token
  its_tokens = tokens_of 0 p.pieces

  has_tokens : Clean t → lexer.HasTokens top t its_tokens
  has_tokens clean = record {
    utf8 = clean_utf8 t clean;
    lexes = subst (λ l. lexer.Lexes top 0 l (tokens_of 0 p.pieces)) p.is (pieces_lexed top 0 p.pieces (p.fits [] refl));
  }

  is_read : R (input t its_tokens) (input t [])
  is_read = p.reads (input t (tokens_of 0 p.pieces)) (input t []) (standing t [] p.pieces (sym p.is))

-- ---- the word `none`

-- it begins with a letter that is not the first of `none`
abbrev IsOther : List ℕ → Type 0
IsOther [] = ⊥
IsOther (c ∷ t) = (is_blank c ≡ false) × ((is_in_name c ≡ true) × (nat_eq c 110 ≡ false))

other_append : (t u : List ℕ) → IsOther t → IsOther (t ++ u)
other_append [] u h = absurd h
other_append (c ∷ t) u h = h

letter_other : (bag : Bool) (t : List ℕ) → IsOther (letter bag ++ t)
letter_other true t = (refl, (refl, refl))
letter_other false t = (refl, (refl, refl))

head_or : List ℕ → ℕ
head_or [] = 0
head_or (c ∷ t) = c

not_none : (c : ℕ) (t : List ℕ) → nat_eq c 110 ≡ false → bytes_eq (c ∷ t) (codes "none") ≡ false
not_none c t h = false_from_ne_true (bytes_eq (c ∷ t) (codes "none")) no_same
  where
    differ : (a : ℕ) → nat_eq a 110 ≡ false → a ≡ 110 → ⊥
    differ a h e = grind (arith, nat_tests)

    no_same : bytes_eq (c ∷ t) (codes "none") ≡ true → ⊥
    no_same e = differ c h (ap (λ l. slice_index l 0) ((bytes_eq-Decides (c ∷ t) (codes "none")).0 e))

other_is_not : (t : List ℕ) → IsOther t → is_none (32 ∷ t) ≡ false
other_is_not [] h = absurd h
other_is_not (c ∷ t) h =
    let plain : past_blanks (c ∷ t) ≡ c ∷ t = λ i. if h.0 i then past_blanks t else c ∷ t in
    let first : run is_in_name (32 ∷ c ∷ t) ≡ c ∷ take_while is_in_name t =
    ap (take_while is_in_name) plain ∙ (take_while-cons is_in_name c t ∙ (λ i. cond (h.1.0 i) (c ∷ take_while is_in_name t) [])) in
    (λ i. bytes_eq (first i) (codes "none") && is_over (behind is_in_name (32 ∷ c ∷ t)))
    ∙ (λ i. not_none c (take_while is_in_name t) h.1.1 i && is_over (behind is_in_name (32 ∷ c ∷ t)))

none_is : (b : Bool) → is_none (32 ∷ (codes "none" ++ tail b)) ≡ true
none_is true = refl
none_is false = refl

-- ---- formulas

module _ (defs : Defs) (fit : DefsAreWritable defs) where
  disjunct_other : (bound : List Var) (atoms : List Atom) (more : List ℕ) → IsOther (bound_text None bound ++ (atoms_text defs None atoms ++ more))
  disjunct_other [] [] more = (refl, (refl, refl))
  disjunct_other [] (a ∷ atoms) more =
      other_append (atoms_text defs None (a ∷ atoms)) more
      (other_append (atom_text defs None a) (with_signs (codes " * ") (codes " * ") (atom_text defs None) atoms)
      (other_append (numbered_text a.root) _ (letter_other a.root.bag (decimal a.root.number))))
  disjunct_other (v ∷ bound) atoms more = (refl, (refl, refl))

  cases_other : (b : Bool) (d : Disjunct) (ds : List Disjunct) → IsOther (cases_text defs None (d ∷ ds) ++ tail b)
  cases_other b d ds =
      other_append (cases_text defs None (d ∷ ds)) (tail b)
      (other_append (disjunct_text defs None d) (with_signs (codes " or ") (codes " or ") (disjunct_text defs None) ds)
      (disjunct_other d.bound d.atoms (each_after (codes " & ") (member_text None) d.pure)))

  tail_clean : (b : Bool) → Clean (tail b)
  tail_clean true = (refl, tt)
  tail_clean false = tt

  spaced_clean : (b : Bool) (t : List ℕ) → Clean t → Clean (32 ∷ (t ++ tail b))
  spaced_clean b t h = (refl, join t (tail b) h (tail_clean b))

  -- the tree of a printed formula
  record IsTreeOf (t : List ℕ) (ds : List Disjunct) : Type 0 where
    tree : FormulaTree
    read : tree_of t ≡ Ok tree
    writes : written.Pairwise (written.IsDisjunct defs) ds tree.cases

  tree_back : (b : Bool) (d : Disjunct) (ds : List Disjunct) → AllByRecursion (DisjunctIsWritable defs) (d ∷ ds) → IsTreeOf (32 ∷ (cases_text defs None (d ∷ ds) ++ tail b)) (d ∷ ds)
  tree_back b d ds h =
      let text : List ℕ = 32 ∷ (cases_text defs None (d ∷ ds) ++ tail b) in
      let R : Input → Input → Type 0 = FormulaAt top tall 256 defs fit (d ∷ ds) in
      let p : Prints top is_end text R = blank_first (cases_text defs None (d ∷ ds) ++ tail b) R (blank_last b (cases_text defs None (d ∷ ds)) R (cases_prints top tall 256 defs fit d ds h (le_self 256))) in
      let ts : List Token = its_tokens text R p in
      let read : R (input text ts) (input text []) = is_read text R p in
      let clean : Clean text = spaced_clean b (cases_text defs None (d ∷ ds)) (formula_clean defs fit (record { cases = d ∷ ds })) in
      let found : whole (formula_tree 256) text ts ≡ Ok read.0 = formulas_read 256 text ts read.0 (record { end = input text []; spelled = read.1.0; all = at_end text }) in
      record {
        tree = read.0;
        read = ap (λ o. on_ok o (λ us. grammatical (whole (formula_tree 256) text us))) (tokens_have text ts clean (has_tokens text R p clean)) ∙ ap grammatical found;
        writes = read.1.1;
      }

  cases_back : (b : Bool) (ds : List Disjunct) → AllByRecursion (DisjunctIsWritable defs) ds → formula defs (32 ∷ (cases_text defs None ds ++ tail b)) ≡ Ok (record { cases = ds })
  cases_back b [] h = λ i. if none_is b i then Ok (record { cases = [] }) else on_ok (tree_of (32 ∷ (codes "none" ++ tail b))) (λ t. named (numbered defs t))
  cases_back b (d ∷ ds) h =
      let text : List ℕ = 32 ∷ (cases_text defs None (d ∷ ds) ++ tail b) in
      let t = tree_back b d ds h in
      (λ i. if other_is_not (cases_text defs None (d ∷ ds) ++ tail b) (cases_other b d ds) i then Ok (record { cases = [] }) else on_ok (tree_of text) (λ t. named (numbered defs t)))
      ∙ (ap (λ o. on_ok o (λ t. named (numbered defs t))) t.read
      ∙ ap named (written_is_read defs (record { cases = d ∷ ds }) t.tree (record { defs_fit = fit; cases = h }) t.writes))

  pub formula_back : (b : Bool) (f : Formula) → AllByRecursion (DisjunctIsWritable defs) f.cases → formula defs (32 ∷ (formula_text defs None f ++ tail b)) ≡ Ok f
  formula_back b f h = cases_back b f.cases h

  -- ---- atoms alone

  abbrev atoms_alone : List Atom → Disjunct
  atoms_alone xs = record { bound = []; atoms = xs; pure = [] }

  no_names : (ys : List _) → written.Pairwise written.Names [] ys → is_empty ys ≡ true
  no_names [] written.none = refl
  no_names (y ∷ ys) h = elim h [ ]

  no_items : (ys : List _) → written.AreItems [] ys → is_empty ys ≡ true
  no_items [] written.no_item = refl
  no_items (y ∷ ys) h = elim h [ ]

  tree_alone : (xs : List Atom) (ts : List DisjunctTree) → written.Pairwise (written.IsDisjunct defs) (atoms_alone xs ∷ []) ts → has_atoms_alone ts ≡ true
  tree_alone xs [] h = elim h [ ]
  tree_alone xs (t ∷ (u ∷ us)) (written.another h rest) = elim rest [ ]
  tree_alone xs (t ∷ []) (written.another h written.none) = λ i. no_names t.bound h.bound i && no_items t.items h.items i

  pub heap_back : (b : Bool) (xs : List Atom) → AllByRecursion (AtomIsWritable defs) xs → heap defs (32 ∷ (atoms_text defs None xs ++ tail b)) ≡ Ok xs
  heap_back b xs h =
      let d : Disjunct = atoms_alone xs in
      let t = tree_back b d [] (record { bound = refl; atoms = h; pure = tt }, tt) in
      let same : cases_text defs None (d ∷ []) ≡ atoms_text defs None xs = append-nil (atoms_text defs None xs ++ []) ∙ append-nil (atoms_text defs None xs) in
      ap (λ l. heap defs (32 ∷ (l ++ tail b))) (sym same)
      ∙ (ap (λ o. on_ok o (heap_of defs)) t.read
      ∙ ((λ i. if tree_alone xs t.tree.cases t.writes i then mapped (λ f. first_atoms f.cases) (named (numbered defs t.tree)) else Err fault.Formula)
      ∙ ap (λ o. mapped (λ f. first_atoms f.cases) (named o)) (written_is_read defs (record { cases = d ∷ [] }) t.tree (record { defs_fit = fit; cases = (record { bound = refl; atoms = h; pure = tt }, tt) }) t.writes)))

-- ---- pure formulas in parentheses

pure_back : (p : Pure) → IsWritablePure p → pure_of (pure_text None p) ≡ Ok p
pure_back p h =
    let w = pure_formulas_come_back top p tall h in
    let text : List ℕ = pure_text None p in
    ap (λ o. on_ok (on_ok o (λ ts. grammatical (whole (pure_tree 256) text ts))) pure_by_numbers) (tokens_have text w.0 (pure_clean p) w.1.0)
    ∙ (ap (λ o. on_ok (grammatical o) pure_by_numbers) w.1.1.1.0 ∙ ap named w.1.1.1.1)

inside_back : (b : Bool) (t : List ℕ) → inside (t ++ 41 ∷ tail b) ≡ Some t
inside_back true t = ap (λ l. opened (past_blanks l)) (reverse-append t (41 ∷ 32 ∷ [])) ∙ ap Some (reverse-reverse t)
inside_back false t = ap (λ l. opened (past_blanks l)) (reverse-append t (41 ∷ [])) ∙ ap Some (reverse-reverse t)

pub enclosed_back : (b : Bool) (p : Pure) → IsWritablePure p → enclosed (32 ∷ 40 ∷ (pure_text None p ++ 41 ∷ tail b)) ≡ Ok p
enclosed_back b p h = ap pure_by (inside_back b (pure_text None p)) ∙ pure_back p h
