-- Printed formulas of heaps are read as trees that write them.
use Rattle.std.proofs.Common.{◌≡◌, ℕ, zero, suc, ◌≤◌, ◌^◌, Bool, true, false, not, ◌&&◌, List, [], ◌∷◌, ◌++◌, map, Some, None, refl, sym, ◌∙◌, arith, append-nil}
use Rattle.std.specs.Prelude.{IsTrue, codes, slice_get, option_map}
use Rattle.std.specs.List.{AllByRecursion}
use Rattle.std.specs.Fmt.{decimal}
use Rattle.std.proofs.lemmas.Bool.{and_parts}
use Rattle.hs_lex.specs.declared.token.Sign.TheVariants as sign
use Rattle.hs_lex.specs.declared.token.TokenKind.TheVariants as kinds
use Rattle.hs_tree.specs.declared.ident.Ident.{Ident}
use Rattle.hs_tree.specs.declared.item.ItemTree.{ItemTree}
use Rattle.hs_tree.specs.declared.formula.ArgTree.{ArgTree}
use Rattle.hs_tree.specs.declared.formula.ArgTree.TheVariants as arg_kind
use Rattle.hs_tree.specs.declared.formula.AtomTree.{AtomTree}
use Rattle.hs_tree.specs.declared.formula.DisjunctTree.{DisjunctTree}
use Rattle.hs_tree.specs.declared.formula.FormulaTree.{FormulaTree}
use Rattle.hs_words.specs.declared.word.Keyword.TheVariants as key
use Rattle.hs_words.specs.declared.word.Word.TheVariants as word_kind
use Rattle.hs_words.specs.Input.{Input, place}
use Rattle.hs_words.specs.Grammar.{Separated}
use Rattle.hs_read_pure.specs.Expr.{ident}
use Rattle.hs_read_pure.specs.Grammar as grammar
use Rattle.hs_pure.specs.declared.var.Var.{Var}
use Rattle.hs_pure.specs.declared.pure.Pure.{Pure}
use Rattle.hs_heap.specs.declared.formula.Of.{Of}
use Rattle.hs_heap.specs.declared.formula.Of.TheVariants.{Node, Pred}
use Rattle.hs_heap.specs.declared.formula.Atom.{Atom}
use Rattle.hs_heap.specs.declared.formula.Disjunct.{Disjunct}
use Rattle.hs_heap.specs.declared.definitions.Defs.{Defs}
use Rattle.hs_heap.specs.declared.definitions.NodeDef.{NodeDef}
use Rattle.hs_heap.specs.declared.definitions.PredDef.{PredDef}
use Rattle.hs_heap.specs.Sound.{argument_kinds, kinds as kinds_of}
use Rattle.hs_print.specs.Lists.{with_signs, each_after}
use Rattle.hs_print.specs.Variable.{letter, numbered_text}
use Rattle.hs_print.specs.Pure.{member_text}
use Rattle.hs_print.specs.Formula.{node_name, pred_name, of_text, variables_text, atom_text, atoms_text, bound_text, disjunct_text, cases_text}
use Rattle.hs_written.specs.Writable.{has_number, is_among, AtomIsWritable, bound_fit, ConjunctIsWritable, bound_numbers, DisjunctIsWritable, IsSourceName, names_of, DefsAreWritable}
use Rattle.hs_written.specs.Written as written
use Rattle.hs_round_trip.proofs.Pieces.{Piece, gap, word, Stands, done, past_gap, past_word, last_word, last_gap}
use Rattle.hs_round_trip.proofs.Segments.{anything, is_end, is_start, Prints, Then, then_prints, as_prints, raw, retext}
use Rattle.hs_round_trip.proofs.Tokens.{sign_spells, less_at, greater_at, name_spells}
use Rattle.hs_round_trip.proofs.Words.{exists_word, emp_word, or_word, comma, named, word_spells}
use Rattle.hs_round_trip.proofs.Sums.{NameAt, name_prints}
use Rattle.hs_round_trip.proofs.Bags.{BareAt, bare_prints}
use Rattle.hs_round_trip.proofs.Members.{OfMember, member_known, ItemsAt, items_print}
use Rattle.hs_round_trip.proofs.Pures.{known}
use Rattle.hs_round_trip.proofs.Lists as lists

-- ---- names of definitions

all_left : {X : Type 0} (P : X → Type 0) (xs ys : List X) → AllByRecursion P (xs ++ ys) → AllByRecursion P xs
all_left P [] ys h = tt
all_left P (x ∷ xs) ys h = (h.0, all_left P xs ys h.1)

all_right : {X : Type 0} (P : X → Type 0) (xs ys : List X) → AllByRecursion P (xs ++ ys) → AllByRecursion P ys
all_right P [] ys h = h
all_right P (x ∷ xs) ys h = all_right P xs ys h.1

node_is_name : (nodes : List NodeDef) (k : ℕ) (ks : List Bool) → AllByRecursion IsSourceName (map (λ d. d.name) nodes) → option_map (λ d. map (λ f. false) d.fields) (slice_get nodes k) ≡ Some ks
    → IsSourceName (node_name (slice_get nodes k))
node_is_name [] k ks all e = absurd cc
node_is_name (d ∷ nodes) zero ks all e = all.0
node_is_name (d ∷ nodes) (suc k) ks all e = node_is_name nodes k ks all.1 e

pred_is_name : (preds : List PredDef) (k : ℕ) (ks : List Bool) → AllByRecursion IsSourceName (map (λ p. p.name) preds) → option_map (λ p. kinds_of p.params) (slice_get preds k) ≡ Some ks
    → IsSourceName (pred_name (slice_get preds k))
pred_is_name [] k ks all e = absurd cc
pred_is_name (d ∷ preds) zero ks all e = all.0
pred_is_name (d ∷ preds) (suc k) ks all e = pred_is_name preds k ks all.1 e

of_is_name : (defs : Defs) (o : Of) (ks : List Bool) → AllByRecursion IsSourceName (names_of defs) → argument_kinds defs o ≡ Some ks → IsSourceName (of_text defs o)
of_is_name defs (Node zero) ks all e = absurd cc
of_is_name defs (Node (suc k)) ks all e = node_is_name defs.nodes k ks (all_left IsSourceName (map (λ d. d.name) defs.nodes) (map (λ p. p.name) defs.preds) all) e
of_is_name defs (Pred zero) ks all e = absurd cc
of_is_name defs (Pred (suc k)) ks all e = pred_is_name defs.preds k ks (all_right IsSourceName (map (λ d. d.name) defs.nodes) (map (λ p. p.name) defs.preds) all) e

module _ (top : ℕ) (tall : 2 ^ 126 ≤ top) (n : ℕ) where
  -- ---- signs between

  comma_after : (i j : Input) → Stands (comma ∷ gap ∷ []) i j → lists.After (word_kind.Sign sign.Comma) i j
  comma_after i j (past_word w e (past_gap done)) = lists.after w

  commas : lists.Sign top (word_kind.Sign sign.Comma) (codes ", ")
  commas = record {
    prints = as_prints top anything (codes ", ") (Stands (comma ∷ gap ∷ [])) (lists.After (word_kind.Sign sign.Comma))
        (raw top anything (comma ∷ gap ∷ []) (λ rest h. (sign_spells top sign.Comma (32 ∷ rest) refl, tt))) comma_after;
    ends = λ more rest. refl;
  }

  abbrev star : List Piece
  star = gap ∷ word (kinds.Sign sign.Star) (codes "*") ∷ gap ∷ []

  star_after : (i j : Input) → Stands star i j → lists.After (word_kind.Sign sign.Star) i j
  star_after i j (past_gap (past_word w e (past_gap done))) = lists.after w

  stars : lists.Sign top (word_kind.Sign sign.Star) (codes " * ")
  stars = record {
    prints = as_prints top anything (codes " * ") (Stands star) (lists.After (word_kind.Sign sign.Star))
        (raw top anything star (λ rest h. (sign_spells top sign.Star (32 ∷ rest) refl, tt))) star_after;
    ends = λ more rest. refl;
  }

  abbrev or : List Piece
  or = gap ∷ named (codes "or") ∷ gap ∷ []

  or_after : (i j : Input) → Stands or i j → lists.After (word_kind.Key key.Or) i j
  or_after i j (past_gap (past_word w e (past_gap done))) = lists.after (w ∙ or_word)

  ors : lists.Sign top (word_kind.Key key.Or) (codes " or ")
  ors = record {
    prints = as_prints top anything (codes " or ") (Stands or) (lists.After (word_kind.Key key.Or))
        (raw top anything or (λ rest h. (word_spells top (codes "or") (32 ∷ rest) refl refl, tt))) or_after;
    ends = λ more rest. refl;
  }

  -- ---- arguments

  abbrev ArgAt : Var → Input → Input → Type 0
  ArgAt v i j = (y : ArgTree) × (grammar.IsArg n y i j × written.IsArg v y)

  arg_prints : (v : Var) → IsTrue (has_number v) → Prints top is_end (numbered_text v) (ArgAt v)
  arg_prints v h = as_prints top is_end (numbered_text v) (BareAt n v) (ArgAt v) (bare_prints top tall n v h) (λ i j y. (arg_kind.Value y.0, (grammar.value y.1.0, written.value y.1.1)))

  all_args : (vs : List Var) → AllByRecursion (λ v. IsTrue (has_number v)) vs → AllByRecursion (λ v. Prints top is_end (numbered_text v) (ArgAt v)) vs
  all_args [] h = tt
  all_args (v ∷ vs) h = (arg_prints v h.0, all_args vs h.1)

  abbrev ArgumentsAt : List Var → Input → Input → Type 0
  ArgumentsAt vs i j = (ys : List ArgTree) × (grammar.AreArguments n ys i j × written.Pairwise written.IsArg vs ys)

  abbrev less : Piece
  less = word (kinds.Sign sign.Less) (codes "<")

  abbrev greater : Piece
  greater = word (kinds.Sign sign.Greater) (codes ">")

  abbrev ArgsAt : List Var → Input → Input → Type 0
  ArgsAt vs i j = (ys : List ArgTree) × (Separated (grammar.IsArg n) (word_kind.Sign sign.Comma) ys i j × written.Pairwise written.IsArg vs ys)

  arguments : (vs : List Var) → AllByRecursion (λ v. IsTrue (has_number v)) vs → Prints top is_end (codes "<" ++ (variables_text None vs ++ codes ">")) (ArgumentsAt vs)
  arguments [] h = as_prints top is_end (codes "<>") (Stands (less ∷ greater ∷ [])) (ArgumentsAt [])
      (raw top is_end (less ∷ greater ∷ []) (λ rest ends. (sign_spells top sign.Less (62 ∷ rest) refl, (sign_spells top sign.Greater rest (greater_at rest ends), tt)))) reading
    where
      reading : (i j : Input) → Stands (less ∷ greater ∷ []) i j → ArgumentsAt [] i j
      reading i j (past_word w e (past_word x f done)) = ([], (grammar.no_args w x, written.none))
  arguments (v ∷ vs) h = as_prints top is_end (codes "<" ++ ((numbered_text v ++ with_signs (codes ", ") (codes ", ") numbered_text vs) ++ codes ">")) _ (ArgumentsAt (v ∷ vs))
      (then_prints top is_start is_end (codes "<") ((numbered_text v ++ with_signs (codes ", ") (codes ", ") numbered_text vs) ++ codes ">") _ _
      (raw top is_start (less ∷ []) (λ rest starts. (sign_spells top sign.Less rest (less_at rest starts), tt)))
      (then_prints top is_end is_end (numbered_text v ++ with_signs (codes ", ") (codes ", ") numbered_text vs) (codes ">") _ _
      (lists.list_prints top (word_kind.Sign sign.Comma) (codes ", ") commas (grammar.IsArg n) written.IsArg numbered_text v vs (arg_prints v h.0) (all_args vs h.1))
      (raw top is_end (greater ∷ []) (λ rest ends. (sign_spells top sign.Greater rest (greater_at rest ends), tt))) (λ rest ends. refl))
      (λ rest ends. starts rest))
      reading
    where
      starts : (rest : List ℕ) → IsTrue (is_start (((numbered_text v ++ with_signs (codes ", ") (codes ", ") numbered_text vs) ++ codes ">") ++ rest))
      starts rest = of v.bag
        where
          of : (bag : Bool) → IsTrue (is_start ((((letter bag ++ decimal v.number) ++ with_signs (codes ", ") (codes ", ") numbered_text vs) ++ codes ">") ++ rest))
          of true = refl
          of false = refl

      reading : (i j : Input) → Then (Stands (less ∷ [])) (Then (ArgsAt (v ∷ vs)) (Stands (greater ∷ []))) i j → ArgumentsAt (v ∷ vs) i j
      reading i j (k, (past_word w e done, (l, (ys, s)))) = last_word (ArgumentsAt (v ∷ vs) i) l j s (λ x. (ys.0, (grammar.args w ys.1.0 x, ys.1.1)))

  -- ---- atoms

  abbrev OfNameAt : List ℕ → Input → Input → Type 0
  OfNameAt t i j = (y : Ident) × (grammar.IsName y i j × (y.text ≡ t))

  of_name : (t : List ℕ) → IsSourceName t → Prints top is_end t (OfNameAt t)
  of_name t h = record {
    pieces = named t ∷ [];
    is = append-nil t;
    fits = λ rest ends. (name_spells top t rest h.name.first h.name.run.all h.short ends, tt);
    reads = reading;
  }
    where
      reading : (i j : Input) → Stands (named t ∷ []) i j → OfNameAt t i j
      reading i j (past_word w e done) = (ident i, (grammar.named (w ∙ h.free), e))

  abbrev colons : Piece
  colons = word (kinds.Sign sign.ColonColon) (codes "::")

  module _ (defs : Defs) (fit : DefsAreWritable defs) where
    abbrev AtomAt : Atom → Input → Input → Type 0
    AtomAt a i j = (y : AtomTree) × (grammar.IsAtom n y i j × written.IsAtom defs a y)

    atom_prints : (a : Atom) → AtomIsWritable defs a → Prints top is_end (atom_text defs None a) (AtomAt a)
    atom_prints a h = as_prints top is_end (atom_text defs None a) _ (AtomAt a)
        (then_prints top is_end is_end (numbered_text a.root) (codes "::" ++ (of_text defs a.of ++ (codes "<" ++ (variables_text None a.args ++ codes ">")))) _ _ (name_prints top tall a.root h.root)
        (then_prints top anything is_end (codes "::") (of_text defs a.of ++ (codes "<" ++ (variables_text None a.args ++ codes ">"))) _ _
        (raw top anything (colons ∷ []) (λ rest x. (sign_spells top sign.ColonColon rest refl, tt)))
        (then_prints top is_end is_end (of_text defs a.of) (codes "<" ++ (variables_text None a.args ++ codes ">")) _ _ (of_name (of_text defs a.of) (of_is_name defs a.of (kinds_of a.args) fit.names h.fits.1))
        (arguments a.args h.args) (λ rest ends. refl)) (λ rest ends. refl)) (λ rest ends. refl))
        reading
      where
        reading : (i j : Input) → Then (NameAt a.root) (Then (Stands (colons ∷ [])) (Then (OfNameAt (of_text defs a.of)) (ArgumentsAt a.args))) i j → AtomAt a i j
        reading i j (k, (x, (l, (past_word w e done, (m, (y, ys)))))) =
            (record { root = x.0; name = y.0; args = ys.0 }, (grammar.atom x.1.1.1 w y.1.0 ys.1.0, record { root = x.1.0; of = y.1.1; args = ys.1.1 }))

    all_atoms : (xs : List Atom) → AllByRecursion (AtomIsWritable defs) xs → AllByRecursion (λ a. Prints top is_end (atom_text defs None a) (AtomAt a)) xs
    all_atoms [] h = tt
    all_atoms (a ∷ xs) h = (atom_prints a h.0, all_atoms xs h.1)

    abbrev HeapAt : List Atom → Input → Input → Type 0
    HeapAt xs i j = (ys : List AtomTree) × (grammar.IsHeap n ys i j × written.Pairwise (written.IsAtom defs) xs ys)

    heap_prints : (xs : List Atom) → AllByRecursion (AtomIsWritable defs) xs → Prints top is_end (atoms_text defs None xs) (HeapAt xs)
    heap_prints [] h = as_prints top is_end (codes "emp") (Stands (named (codes "emp") ∷ [])) (HeapAt [])
        (raw top is_end (named (codes "emp") ∷ []) (λ rest ends. (word_spells top (codes "emp") rest refl ends, tt))) reading
      where
        reading : (i j : Input) → Stands (named (codes "emp") ∷ []) i j → HeapAt [] i j
        reading i j (past_word w e done) = ([], (grammar.emp (w ∙ emp_word), written.none))
    heap_prints (a ∷ xs) h = as_prints top is_end (atoms_text defs None (a ∷ xs)) _ (HeapAt (a ∷ xs))
        (lists.list_prints top (word_kind.Sign sign.Star) (codes " * ") stars (grammar.IsAtom n) (written.IsAtom defs) (atom_text defs None) a xs (atom_prints a h.0) (all_atoms xs h.1))
        (λ i j y. (y.0, (grammar.atoms y.1.0, y.1.1)))

    -- ---- conjuncts

    conjunct_prints : (around : List ℕ) (p : Pure) → ConjunctIsWritable around p → 256 ≤ n → OfMember top n p
    conjunct_prints around p h deep = member_known top (known top tall p) around false h.fits n (omega (arith, h.nests))

    all_conjuncts : (around : List ℕ) (ps : List Pure) → AllByRecursion (ConjunctIsWritable around) ps → 256 ≤ n → AllByRecursion (OfMember top n) ps
    all_conjuncts around [] h deep = tt
    all_conjuncts around (p ∷ ps) h deep = (conjunct_prints around p h.0 deep, all_conjuncts around ps h.1 deep)

    abbrev amp : List Piece
    amp = gap ∷ word (kinds.Sign sign.Amp) (codes "&") ∷ gap ∷ []

    abbrev BodyAt : List Atom → List Pure → Input → Input → Type 0
    BodyAt xs ps i j = (ys : List AtomTree) × ((is : List ItemTree) × (grammar.IsBody n ys is i j × (written.Pairwise (written.IsAtom defs) xs ys × written.AreItems ps is)))

    body_prints : (around : List ℕ) (xs : List Atom) (ps : List Pure) → AllByRecursion (AtomIsWritable defs) xs → AllByRecursion (ConjunctIsWritable around) ps → 256 ≤ n
        → Prints top is_end (atoms_text defs None xs ++ each_after (codes " & ") (member_text None) ps) (BodyAt xs ps)
    body_prints around xs [] h g deep = retext top is_end (atoms_text defs None xs) (atoms_text defs None xs ++ []) (BodyAt xs []) (sym (append-nil (atoms_text defs None xs)))
        (as_prints top is_end (atoms_text defs None xs) (HeapAt xs) (BodyAt xs []) (heap_prints xs h) (λ i j y. (y.0, ([], (grammar.heap y.1.0, (y.1.1, written.no_item))))))
    body_prints around xs (p ∷ ps) h g deep =
        let items : List ℕ = member_text None p ++ with_signs (codes " & ") (codes " & ") (member_text None) ps in
        as_prints top is_end (atoms_text defs None xs ++ (codes " & " ++ items)) _ (BodyAt xs (p ∷ ps))
        (then_prints top is_end is_end (atoms_text defs None xs) (codes " & " ++ items) _ _ (heap_prints xs h)
        (then_prints top anything is_end (codes " & ") items _ _ (raw top anything amp (λ rest x. (sign_spells top sign.Amp (32 ∷ rest) refl, tt)))
        (items_print top n p ps (conjunct_prints around p g.0 deep) (all_conjuncts around ps g.1 deep)) (λ rest ends. refl)) (λ rest ends. refl))
        reading
      where
        reading : (i j : Input) → Then (HeapAt xs) (Then (Stands amp) (ItemsAt top n p ps)) i j → BodyAt xs (p ∷ ps) i j
        reading i j (k, (x, (l, (past_gap (past_word w e (past_gap done)), y)))) =
            (x.0, (y.first ∷ y.others, (grammar.heap_and x.1.0 w y.read, (x.1.1, written.another_item y.first_is y.others_are))))

    -- ---- what a disjunct binds

    abbrev BoundNameAt : Var → Input → Input → Type 0
    BoundNameAt v i j = (y : Ident) × (grammar.IsName y i j × written.Names v y)

    bound_name : (v : Var) → IsTrue (has_number v) → Prints top is_end (numbered_text v) (BoundNameAt v)
    bound_name v h = as_prints top is_end (numbered_text v) (NameAt v) (BoundNameAt v) (name_prints top tall v h) (λ i j y. (y.0, (y.1.1.0, y.1.0)))

    all_numbered : (around : List ℕ) (vs : List Var) → IsTrue (bound_fit around vs) → AllByRecursion (λ v. IsTrue (has_number v)) vs
    all_numbered around [] h = tt
    all_numbered around (v ∷ vs) h =
        let parts = and_parts (has_number v && not (is_among v.number around)) (bound_fit (around ++ v.number ∷ []) vs) h in
        ((and_parts (has_number v) (not (is_among v.number around)) parts.0).0, all_numbered (around ++ v.number ∷ []) vs parts.1)

    all_bound : (vs : List Var) → AllByRecursion (λ v. IsTrue (has_number v)) vs → AllByRecursion (λ v. Prints top is_end (numbered_text v) (BoundNameAt v)) vs
    all_bound [] h = tt
    all_bound (v ∷ vs) h = (bound_name v h.0, all_bound vs h.1)

    abbrev BoundAt : List Var → Input → Input → Type 0
    BoundAt vs i j = (ys : List Ident) × (grammar.AreBound ys i j × written.Pairwise written.Names vs ys)

    abbrev NamesAt : List Var → Input → Input → Type 0
    NamesAt vs i j = (ys : List Ident) × (grammar.AreNames ys i j × written.Pairwise written.Names vs ys)

    abbrev exists_begun : List Piece
    exists_begun = named (codes "exists") ∷ gap ∷ []

    abbrev dot : List Piece
    dot = word (kinds.Sign sign.Dot) (codes ".") ∷ gap ∷ []

    bound_prints : (vs : List Var) → AllByRecursion (λ v. IsTrue (has_number v)) vs → Prints top anything (bound_text None vs) (BoundAt vs)
    bound_prints [] h = as_prints top anything [] (Stands []) (BoundAt []) (raw top anything [] (λ rest x. tt)) reading
      where
        reading : (i j : Input) → Stands [] i j → BoundAt [] i j
        reading i j done = ([], (grammar.unbound, written.none))
    bound_prints (v ∷ vs) h = as_prints top anything (codes "exists " ++ (variables_text None (v ∷ vs) ++ codes ". ")) _ (BoundAt (v ∷ vs))
        (then_prints top anything anything (codes "exists ") (variables_text None (v ∷ vs) ++ codes ". ") _ _
        (raw top anything exists_begun (λ rest x. (word_spells top (codes "exists") (32 ∷ rest) refl refl, tt)))
        (then_prints top is_end anything (variables_text None (v ∷ vs)) (codes ". ") _ _
        (lists.list_prints top (word_kind.Sign sign.Comma) (codes ", ") commas grammar.IsName written.Names numbered_text v vs (bound_name v h.0) (all_bound vs h.1))
        (raw top anything dot (λ rest x. (sign_spells top sign.Dot (32 ∷ rest) refl, tt))) (λ rest ends. refl)) (λ rest ends. refl))
        reading
      where
        reading : (i j : Input) → Then (Stands exists_begun) (Then (NamesAt (v ∷ vs)) (Stands dot)) i j → BoundAt (v ∷ vs) i j
        reading i j (k, (past_word w e (past_gap done), (l, (ys, s)))) = last_gap (BoundAt (v ∷ vs) i) l j s (λ x. (ys.0, (grammar.bound (w ∙ exists_word) ys.1.0 x, ys.1.1)))

    -- ---- disjuncts and formulas

    abbrev DisjunctAt : Disjunct → Input → Input → Type 0
    DisjunctAt d i j = (y : DisjunctTree) × (grammar.IsDisjunct n y i j × written.IsDisjunct defs d y)

    disjunct_prints : (d : Disjunct) → DisjunctIsWritable defs d → 256 ≤ n → Prints top is_end (disjunct_text defs None d) (DisjunctAt d)
    disjunct_prints d h deep = as_prints top is_end (disjunct_text defs None d) _ (DisjunctAt d)
        (then_prints top anything is_end (bound_text None d.bound) (atoms_text defs None d.atoms ++ each_after (codes " & ") (member_text None) d.pure) _ _ (bound_prints d.bound (all_numbered [] d.bound h.bound))
        (body_prints (bound_numbers d) d.atoms d.pure h.atoms h.pure deep) (λ rest ends. refl))
        reading
      where
        reading : (i j : Input) → Then (BoundAt d.bound) (BodyAt d.atoms d.pure) i j → DisjunctAt d i j
        reading i j (k, (x, y)) = (
          record { bound = x.0; atoms = y.0; items = y.1.0; at = place i },
          (grammar.disjunct x.1.0 y.1.1.0, record { bound = x.1.1; atoms = y.1.1.1.0; items = y.1.1.1.1 }),
        )

    all_disjuncts : (ds : List Disjunct) → AllByRecursion (DisjunctIsWritable defs) ds → 256 ≤ n → AllByRecursion (λ d. Prints top is_end (disjunct_text defs None d) (DisjunctAt d)) ds
    all_disjuncts [] h deep = tt
    all_disjuncts (d ∷ ds) h deep = (disjunct_prints d h.0 deep, all_disjuncts ds h.1 deep)

    abbrev pub FormulaAt : List Disjunct → Input → Input → Type 0
    FormulaAt ds i j = (t : FormulaTree) × (grammar.IsFormula n t i j × written.Pairwise (written.IsDisjunct defs) ds t.cases)

    pub cases_prints : (d : Disjunct) (ds : List Disjunct) → AllByRecursion (DisjunctIsWritable defs) (d ∷ ds) → 256 ≤ n → Prints top is_end (cases_text defs None (d ∷ ds)) (FormulaAt (d ∷ ds))
    cases_prints d ds h deep = as_prints top is_end (cases_text defs None (d ∷ ds)) _ (FormulaAt (d ∷ ds))
        (lists.list_prints top (word_kind.Key key.Or) (codes " or ") ors (grammar.IsDisjunct n) (written.IsDisjunct defs) (disjunct_text defs None) d ds (disjunct_prints d h.0 deep) (all_disjuncts ds h.1 deep))
        (λ i j y. (record { cases = y.0; at = place i }, (grammar.formula y.1.0, y.1.1)))
