-- Printed pure formulas are read as trees that write them.
use Rattle.std.proofs.Common.{ℕ, zero, suc, ◌≤◌, ◌^◌, max, ℤ, pos, negsuc, Bool, true, not, ◌&&◌, nat_eq, List, [], ◌∷◌, ◌++◌, length, map, None, refl, sym, ap, ◌∙◌, subst, arith}
use Rattle.std.specs.Prelude.{IsTrue, codes}
use Rattle.std.specs.Fmt.{decimal}
use Rattle.std.proofs.lemmas.Bool.{and_parts}
use Rattle.std.proofs.lemmas.Bool.Decides.{nat_tests}
use native.Mathlib.Nat.{le-max_left, le-max_right}
use Rattle.hs_lex.specs.declared.token.Sign.TheVariants as sign
use Rattle.hs_lex.specs.declared.token.TokenKind.TheVariants as kinds
use Rattle.hs_tree.specs.declared.item.RelTree.TheVariants as rel
use Rattle.hs_tree.specs.declared.item.ItemTree.{ItemTree}
use Rattle.hs_tree.specs.declared.item.PureTree.{roll-PureTree}
use Rattle.hs_tree.specs.declared.item.ItemKind.TheVariants as item_kind
use Rattle.hs_words.specs.Input.{Input, next, place}
use Rattle.hs_words.specs.Grammar.{IsSign}
use Rattle.hs_read_pure.specs.Item.{relation}
use Rattle.hs_read_pure.specs.Grammar as grammar
use Rattle.hs_pure.specs.declared.var.Var.{Var}
use Rattle.hs_pure.specs.declared.lin.Lin.{Lin}
use Rattle.hs_pure.specs.declared.bag.Bag.{Bag}
use Rattle.hs_pure.specs.declared.pure.Pure.{Pure, ind-Pure, fold-roll-Pure, map-Pure, roll-Pure}
use Rattle.hs_pure.specs.declared.pure.Pure.TheOpen.{Pure-F}
use Rattle.hs_pure.specs.declared.pure.Pure.TheVariants as pure_of
use Rattle.hs_print.specs.declared.place.Place.TheVariants.{Alone, Denied}
use Rattle.hs_print.specs.declared.place.Class.{Class}
use Rattle.hs_print.specs.declared.place.Class.TheVariants.{Equation, Relation, Connective, DeniedEquation, Item}
use Rattle.hs_print.specs.declared.place.Signs.TheVariants as signs
use Rattle.hs_print.specs.Lists.{with_signs}
use Rattle.hs_print.specs.Variable.{numbered_text}
use Rattle.hs_print.specs.Linear.{linear_text, bag_text}
use Rattle.hs_print.specs.Pure.{Printed, text_at, printed, pure_level, sums_text, bags_text, membership_text, divides_text, each_of_text, quantified_text, denied_class, connective, members_text, member_text}
use Rattle.hs_written.specs.Writable.{Test, has_number, is_divisor, sum_fits, bag_fits, bag_nesting, binder_fits, is_among, below, members_fit, pure_fits, pure_fits_level, Nesting, nesting, nesting_level, levels_at, members_nesting}
use Rattle.hs_written.specs.Written as written
use Rattle.hs_round_trip.proofs.Pieces.{Piece, gap, word, text_of, Stands, done, past_gap, past_word, last_word}
use Rattle.hs_round_trip.proofs.Segments.{anything, is_end, Prints, Then, then_prints, as_prints, raw, retext}
use Rattle.hs_round_trip.proofs.Tokens.{sign_spells}
use Rattle.hs_round_trip.proofs.Words.{exists_word, forall_word, all_word, in_word, subset_word, divides_word, true_word, false_word, open_paren, close_paren, comma, named, is_word, word_spells, close_paren_prints, comma_prints}
use Rattle.hs_round_trip.proofs.Sums.{NameAt, SumAt, name_prints, number_stands, sum_prints}
use Rattle.hs_round_trip.proofs.Bags.{BagAt, bag_prints}
use Rattle.hs_round_trip.proofs.Places.{ItemAt, PureAt, related, IsRead, IsReady}
use Rattle.hs_round_trip.proofs.Members.{Good, OfPure, Known, pure_part, alone_known, denied_known, ItemsAt, CasesAt, fits_all, texts, items_print, cases_print, members_known, signs-map}

module _ (top : ℕ) (tall : 2 ^ 126 ≤ top) where
  abbrev pub K : Type 0
  K = Known top

  abbrev G : Printed → Test → Nesting → Pure → Type 0
  G = Good top

  -- ---- relations

  equal : (n : ℕ) (a b : Lin) → IsTrue (sum_fits a && sum_fits b) → Prints top is_end (sums_text None a (codes " = ") b) (ItemAt n (pure_of.Eq a b))
  equal n a b f = let fits = and_parts (sum_fits a) (sum_fits b) f in
      related top n rel.Eq (kinds.Sign sign.Equals) (codes "=") (written.IsSum a) (written.IsSum b) (pure_of.Eq a b) (linear_text None a) (linear_text None b)
      (λ rest. sign_spells top sign.Equals (32 ∷ rest) refl) refl (λ l r x y. written.equal x y) (sum_prints top tall n a fits.0) (sum_prints top tall n b fits.1)

  unequal : (n : ℕ) (a b : Lin) → IsTrue (sum_fits a && sum_fits b) → Prints top is_end (sums_text None a (codes " != ") b) (ItemAt n (pure_of.Not (pure_of.Eq a b)))
  unequal n a b f = let fits = and_parts (sum_fits a) (sum_fits b) f in
      related top n rel.Ne (kinds.Sign sign.NotEq) (codes "!=") (written.IsSum a) (written.IsSum b) (pure_of.Not (pure_of.Eq a b)) (linear_text None a) (linear_text None b)
      (λ rest. sign_spells top sign.NotEq (32 ∷ rest) refl) refl (λ l r x y. written.unequal x y) (sum_prints top tall n a fits.0) (sum_prints top tall n b fits.1)

  less : (n : ℕ) (a b : Lin) → IsTrue (sum_fits a && sum_fits b) → Prints top is_end (sums_text None a (codes " < ") b) (ItemAt n (pure_of.Lt a b))
  less n a b f = let fits = and_parts (sum_fits a) (sum_fits b) f in
      related top n rel.Lt (kinds.Sign sign.Less) (codes "<") (written.IsSum a) (written.IsSum b) (pure_of.Lt a b) (linear_text None a) (linear_text None b)
      (λ rest. sign_spells top sign.Less (32 ∷ rest) refl) refl (λ l r x y. written.less x y) (sum_prints top tall n a fits.0) (sum_prints top tall n b fits.1)

  at_most : (n : ℕ) (a b : Lin) → IsTrue (sum_fits a && sum_fits b) → Prints top is_end (sums_text None a (codes " <= ") b) (ItemAt n (pure_of.Le a b))
  at_most n a b f = let fits = and_parts (sum_fits a) (sum_fits b) f in
      related top n rel.Le (kinds.Sign sign.LessEq) (codes "<=") (written.IsSum a) (written.IsSum b) (pure_of.Le a b) (linear_text None a) (linear_text None b)
      (λ rest. sign_spells top sign.LessEq (32 ∷ rest) refl) refl (λ l r x y. written.at_most x y) (sum_prints top tall n a fits.0) (sum_prints top tall n b fits.1)

  left_fits : (m k n : ℕ) → max m k ≤ n → m ≤ n
  left_fits m k n h = omega (arith, le-max_left m k)

  right_fits : (m k n : ℕ) → max m k ≤ n → k ≤ n
  right_fits m k n h = omega (arith, le-max_right m k)

  bags_equal : (n : ℕ) (a b : Bag) → IsTrue (bag_fits a && bag_fits b) → max (bag_nesting a) (bag_nesting b) ≤ n → Prints top is_end (bags_text None a (codes " = ") b) (ItemAt n (pure_of.BagEq a b))
  bags_equal n a b f h = let fits = and_parts (bag_fits a) (bag_fits b) f in
      related top n rel.Eq (kinds.Sign sign.Equals) (codes "=") (written.IsBag a) (written.IsBag b) (pure_of.BagEq a b) (bag_text None a) (bag_text None b)
      (λ rest. sign_spells top sign.Equals (32 ∷ rest) refl) refl (λ l r x y. written.bags_equal x y)
      (bag_prints top tall a fits.0 n (left_fits (bag_nesting a) (bag_nesting b) n h)) (bag_prints top tall b fits.1 n (right_fits (bag_nesting a) (bag_nesting b) n h))

  bags_unequal : (n : ℕ) (a b : Bag) → IsTrue (bag_fits a && bag_fits b) → max (bag_nesting a) (bag_nesting b) ≤ n
      → Prints top is_end (bags_text None a (codes " != ") b) (ItemAt n (pure_of.Not (pure_of.BagEq a b)))
  bags_unequal n a b f h = let fits = and_parts (bag_fits a) (bag_fits b) f in
      related top n rel.Ne (kinds.Sign sign.NotEq) (codes "!=") (written.IsBag a) (written.IsBag b) (pure_of.Not (pure_of.BagEq a b)) (bag_text None a) (bag_text None b)
      (λ rest. sign_spells top sign.NotEq (32 ∷ rest) refl) refl (λ l r x y. written.bags_unequal x y)
      (bag_prints top tall a fits.0 n (left_fits (bag_nesting a) (bag_nesting b) n h)) (bag_prints top tall b fits.1 n (right_fits (bag_nesting a) (bag_nesting b) n h))

  subset : (n : ℕ) (a b : Bag) → IsTrue (bag_fits a && bag_fits b) → max (bag_nesting a) (bag_nesting b) ≤ n → Prints top is_end (bags_text None a (codes " subset ") b) (ItemAt n (pure_of.Subset a b))
  subset n a b f h = let fits = and_parts (bag_fits a) (bag_fits b) f in
      related top n rel.Subset kinds.Name (codes "subset") (written.IsBag a) (written.IsBag b) (pure_of.Subset a b) (bag_text None a) (bag_text None b)
      (λ rest. word_spells top (codes "subset") (32 ∷ rest) refl refl) (ap relation subset_word) (λ l r x y. written.subset x y)
      (bag_prints top tall a fits.0 n (left_fits (bag_nesting a) (bag_nesting b) n h)) (bag_prints top tall b fits.1 n (right_fits (bag_nesting a) (bag_nesting b) n h))

  within : (n : ℕ) (a : Lin) (b : Bag) → IsTrue (sum_fits a && bag_fits b) → bag_nesting b ≤ n → Prints top is_end (membership_text None a b) (ItemAt n (pure_of.Member a b))
  within n a b f h = let fits = and_parts (sum_fits a) (bag_fits b) f in
      related top n rel.Within kinds.Name (codes "in") (written.IsSum a) (written.IsBag b) (pure_of.Member a b) (linear_text None a) (bag_text None b)
      (λ rest. word_spells top (codes "in") (32 ∷ rest) refl refl) (ap relation in_word) (λ l r x y. written.within x y)
      (sum_prints top tall n a fits.0) (bag_prints top tall b fits.1 n h)

  -- ---- divisors

  abbrev divides_begun : List Piece
  divides_begun = named (codes "divides") ∷ open_paren ∷ []

  divides_begun_prints : Prints top anything (codes "divides(") (Stands divides_begun)
  divides_begun_prints = raw top anything divides_begun (λ rest x. (word_spells top (codes "divides") (40 ∷ rest) refl refl, (sign_spells top sign.OpenParen rest refl, tt)))

  divisor_small : (d : ℕ) → IsTrue (is_divisor (pos d)) → d ≤ 2 ^ 126
  divisor_small d h = grind (arith, nat_tests)

  divides : (n d : ℕ) (a : Lin) → IsTrue (is_divisor (pos d)) → IsTrue (sum_fits a) → Prints top is_end (divides_text None (pos d) a) (ItemAt (suc n) (pure_of.Divides (pos d) a))
  divides n d a f g = as_prints top is_end (divides_text None (pos d) a) _ (ItemAt (suc n) (pure_of.Divides (pos d) a))
      (then_prints top anything is_end (codes "divides(") (decimal d ++ (codes ", " ++ (linear_text None a ++ codes ")"))) _ _ divides_begun_prints
      (then_prints top is_end is_end (decimal d) (codes ", " ++ (linear_text None a ++ codes ")")) _ _ (number_stands top tall d (divisor_small d f))
      (then_prints top anything is_end (codes ", ") (linear_text None a ++ codes ")") _ _ (comma_prints top)
      (then_prints top is_end is_end (linear_text None a) (codes ")") _ _ (sum_prints top tall n a g) (close_paren_prints top is_end) (λ rest ends. refl)) (λ rest ends. refl)) (λ rest ends. refl)) (λ rest ends. refl))
      reading
    where
      reading : (i j : Input)
          → Then (Stands divides_begun) (Then (Stands (word (kinds.Number d) (decimal d) ∷ [])) (Then (Stands (comma ∷ gap ∷ [])) (Then (SumAt n a) (Stands (close_paren ∷ []))))) i j → ItemAt (suc n) (pure_of.Divides (pos d) a) i j
      reading i j (k, (past_word w e (past_word x f done), (l, (past_word y g done, (m, (past_word z h (past_gap done), (o, (s, c)))))))) = last_word (ItemAt (suc n) (pure_of.Divides (pos d) a) i) o j c (λ v.
          (record { kind = item_kind.Divides d s.0; at = place i }, (grammar.item (grammar.divides (w ∙ divides_word) x y z s.1.0 v), written.item (written.divides s.1.1))))

  -- ---- quantifiers

  abbrev dot : Piece
  dot = word (kinds.Sign sign.Dot) (codes ".")

  dot_prints : Prints top anything (codes ". ") (Stands (dot ∷ gap ∷ []))
  dot_prints = raw top anything (dot ∷ gap ∷ []) (λ rest h. (sign_spells top sign.Dot (32 ∷ rest) refl, tt))

  abbrev binder : List ℕ → List Piece
  binder w = open_paren ∷ named w ∷ gap ∷ []

  binder_prints : (w : List ℕ) → IsTrue (is_word w) → Prints top anything (codes "(" ++ (w ++ codes " ")) (Stands (binder w))
  binder_prints w h = raw top anything (binder w) (λ rest x. (sign_spells top sign.OpenParen (text_of (named w ∷ gap ∷ []) ++ rest) refl, (word_spells top w (32 ∷ rest) h refl, tt)))

  binder_number : (u : Var) (around : List ℕ) → IsTrue (binder_fits u around) → IsTrue (has_number u)
  binder_number u around f = (and_parts (not u.bag) (has_number u) (and_parts (not u.bag && has_number u) (not (is_among u.number around)) f).0).1

  -- a quantifier with its word
  abbrev Quantified : ℕ → List ℕ → Var → Pure → Input → Input → Type 0
  Quantified n w u p = Then (Stands (binder w)) (Then (NameAt u) (Then (Stands (dot ∷ gap ∷ [])) (Then (PureAt n p) (Stands (close_paren ∷ [])))))

  quantified : (n : ℕ) (w : List ℕ) (u : Var) (p : Pure) (t : List ℕ) → IsTrue (is_word w) → IsTrue (has_number u) → Prints top is_end t (PureAt n p)
      → Prints top is_end ((codes "(" ++ (w ++ codes " ")) ++ (numbered_text u ++ (codes ". " ++ (t ++ codes ")")))) (Quantified n w u p)
  quantified n w u p t h g q =
      then_prints top anything is_end (codes "(" ++ (w ++ codes " ")) (numbered_text u ++ (codes ". " ++ (t ++ codes ")"))) _ _ (binder_prints w h)
      (then_prints top is_end is_end (numbered_text u) (codes ". " ++ (t ++ codes ")")) _ _ (name_prints top tall u g)
      (then_prints top anything is_end (codes ". ") (t ++ codes ")") _ _ dot_prints
      (then_prints top is_end is_end t (codes ")") _ _ q (close_paren_prints top is_end) (λ rest ends. refl)) (λ rest ends. refl)) (λ rest ends. refl)) (λ rest ends. refl)

  exists_at : (n : ℕ) (u : Var) (p : Pure) (i o : Input) → Quantified n (codes "exists") u p i o → ItemAt (suc n) (pure_of.Exists u p) i o
  exists_at n u p i o (k, (past_word w e (past_word x f (past_gap done)), (l, (y, (m, (past_word d g (past_gap done), (q, (b, s)))))))) = last_word (ItemAt (suc n) (pure_of.Exists u p) i) q o s (λ c.
      (record { kind = item_kind.Exists y.0 b.0; at = place i }, (grammar.item (grammar.exists w (x ∙ exists_word) y.1.1.0 d b.1.0 c), written.item (written.exists y.1.0 b.1.1))))

  forall_at : (n : ℕ) (u : Var) (p : Pure) (i o : Input) → Quantified n (codes "forall") u p i o → ItemAt (suc n) (pure_of.Forall u p) i o
  forall_at n u p i o (k, (past_word w e (past_word x f (past_gap done)), (l, (y, (m, (past_word d g (past_gap done), (q, (b, s)))))))) = last_word (ItemAt (suc n) (pure_of.Forall u p) i) q o s (λ c.
      (record { kind = item_kind.Forall y.0 b.0; at = place i }, (grammar.item (grammar.forall w (x ∙ forall_word) y.1.1.0 d b.1.0 c), written.item (written.forall y.1.0 b.1.1))))

  under : (u : Var) (e : K) (around : List ℕ) → IsTrue (binder_fits u around && below (pure_fits e.0) u around) → (n : ℕ) → (nesting e.0).levels ≤ n
      → IsTrue (has_number u) × Prints top is_end (text_at Alone (printed None e.0)) (PureAt n e.0)
  under u e around f n h =
      let fits = and_parts (binder_fits u around) (below (pure_fits e.0) u around) f in
      (binder_number u around fits.0, alone_known top e (around ++ u.number ∷ []) true fits.1 n h)

  exists : (u : Var) (e : K) (around : List ℕ) → IsTrue (binder_fits u around && below (pure_fits e.0) u around) → (n : ℕ) → (nesting e.0).levels ≤ n
      → Prints top is_end (quantified_text None (codes "(exists ") u (printed None e.0)) (ItemAt (suc n) (pure_of.Exists u e.0))
  exists u e around f n h =
      let of = under u e around f n h in
      as_prints top is_end (quantified_text None (codes "(exists ") u (printed None e.0)) (Quantified n (codes "exists") u e.0) (ItemAt (suc n) (pure_of.Exists u e.0))
      (quantified n (codes "exists") u e.0 (text_at Alone (printed None e.0)) refl of.0 of.1) (exists_at n u e.0)

  forall : (u : Var) (e : K) (around : List ℕ) → IsTrue (binder_fits u around && below (pure_fits e.0) u around) → (n : ℕ) → (nesting e.0).levels ≤ n
      → Prints top is_end (quantified_text None (codes "(forall ") u (printed None e.0)) (ItemAt (suc n) (pure_of.Forall u e.0))
  forall u e around f n h =
      let of = under u e around f n h in
      as_prints top is_end (quantified_text None (codes "(forall ") u (printed None e.0)) (Quantified n (codes "forall") u e.0) (ItemAt (suc n) (pure_of.Forall u e.0))
      (quantified n (codes "forall") u e.0 (text_at Alone (printed None e.0)) refl of.0 of.1) (forall_at n u e.0)

  -- ---- all elements of a bag

  abbrev all_begun : List Piece
  all_begun = named (codes "all") ∷ gap ∷ []

  abbrev in_between : List Piece
  in_between = gap ∷ named (codes "in") ∷ gap ∷ []

  abbrev colon : Piece
  colon = word (kinds.Sign sign.Colon) (codes ":")

  abbrev colon_open : List Piece
  colon_open = colon ∷ gap ∷ open_paren ∷ []

  all_begun_prints : Prints top anything (codes "all ") (Stands all_begun)
  all_begun_prints = raw top anything all_begun (λ rest x. (word_spells top (codes "all") (32 ∷ rest) refl refl, tt))

  in_between_prints : Prints top anything (codes " in ") (Stands in_between)
  in_between_prints = raw top anything in_between (λ rest x. (word_spells top (codes "in") (32 ∷ rest) refl refl, tt))

  colon_open_prints : Prints top anything (codes ": (") (Stands colon_open)
  colon_open_prints = raw top anything colon_open (λ rest x. (sign_spells top sign.Colon (32 ∷ 40 ∷ rest) refl, (sign_spells top sign.OpenParen rest refl, tt)))

  colon_then : (P : Input → Type 0) (i j : Input) → Stands colon_open i j → (IsSign sign.Colon i → IsSign sign.OpenParen (next i) → P (next (next i))) → P j
  colon_then P i j (past_word c e (past_gap (past_word d f done))) g = g c d

  abbrev EachOf : ℕ → Var → Bag → Input → Input → Type 0
  EachOf n u b = Then (Stands all_begun) (Then (NameAt u) (Then (Stands in_between) (Then (BagAt n b) (Stands colon_open))))

  each_of : (n : ℕ) (u : Var) (b : Bag) → IsTrue (has_number u) → IsTrue (bag_fits b) → bag_nesting b ≤ n → Prints top anything (each_of_text None u b) (EachOf n u b)
  each_of n u b h f g =
      then_prints top anything anything (codes "all ") (numbered_text u ++ (codes " in " ++ (bag_text None b ++ codes ": ("))) _ _ all_begun_prints
      (then_prints top is_end anything (numbered_text u) (codes " in " ++ (bag_text None b ++ codes ": (")) _ _ (name_prints top tall u h)
      (then_prints top anything anything (codes " in ") (bag_text None b ++ codes ": (") _ _ in_between_prints
      (then_prints top is_end anything (bag_text None b) (codes ": (") _ _ (bag_prints top tall b f n g) colon_open_prints (λ rest ends. refl)) (λ rest ends. refl)) (λ rest ends. refl)) (λ rest ends. refl)

  all_at : (n : ℕ) (u : Var) (b : Bag) (p : Pure) (i o : Input) → Then (EachOf (suc n) u b) (Then (PureAt n p) (Stands (close_paren ∷ []))) i o → ItemAt (suc n) (pure_of.AllOf u b p) i o
  all_at n u b p i o (k, ((l, (past_word w e (past_gap done), (m, (y, (q, (past_gap (past_word x f (past_gap done)), (r, (bag, s)))))))), body)) =
      colon_then (λ k. Then (PureAt n p) (Stands (close_paren ∷ [])) k o → ItemAt (suc n) (pure_of.AllOf u b p) i o) r k s
      (λ c d body. last_word (ItemAt (suc n) (pure_of.AllOf u b p) i) body.0 o body.1.1 (λ z. (
        record { kind = item_kind.All y.0 bag.0 body.1.0.0; at = place i },
        (grammar.item (grammar.all (w ∙ all_word) y.1.1.0 (x ∙ in_word) bag.1.0 c d body.1.0.1.0 z), written.item (written.all y.1.0 bag.1.1 body.1.0.1.1)),
      ))) body

  all : (u : Var) (b : Bag) (e : K) (around : List ℕ) → IsTrue (bag_fits b && (binder_fits u around && below (pure_fits e.0) u around)) → (n : ℕ) → bag_nesting b ≤ suc n → (nesting e.0).levels ≤ n
      → Prints top is_end (each_of_text None u b ++ (text_at Alone (printed None e.0) ++ codes ")")) (ItemAt (suc n) (pure_of.AllOf u b e.0))
  all u b e around f n h g =
      let fits = and_parts (bag_fits b) (binder_fits u around && below (pure_fits e.0) u around) f in
      let of = under u e around fits.1 n g in
      as_prints top is_end (each_of_text None u b ++ (text_at Alone (printed None e.0) ++ codes ")")) _ (ItemAt (suc n) (pure_of.AllOf u b e.0))
      (then_prints top anything is_end (each_of_text None u b) (text_at Alone (printed None e.0) ++ codes ")") _ _ (each_of (suc n) u b of.0 fits.0 h)
      (then_prints top is_end is_end (text_at Alone (printed None e.0)) (codes ")") _ _ of.1 (close_paren_prints top is_end) (λ rest ends. refl)) (λ rest ends. refl))
      (all_at n u b e.0)

  -- ---- true and false

  truth : (n : ℕ) → Prints top is_end (codes "true") (ItemAt n (pure_of.And []))
  truth n = as_prints top is_end (codes "true") (Stands (named (codes "true") ∷ [])) (ItemAt n (pure_of.And []))
      (raw top is_end (named (codes "true") ∷ []) (λ rest ends. (word_spells top (codes "true") rest refl ends, tt))) reading
    where
      reading : (i j : Input) → Stands (named (codes "true") ∷ []) i j → ItemAt n (pure_of.And []) i j
      reading i j (past_word w e done) = (record { kind = item_kind.True; at = place i }, (grammar.item (grammar.holds (w ∙ true_word)), written.item written.truth))

  falsity : (n : ℕ) → Prints top is_end (codes "false") (ItemAt n (pure_of.Or []))
  falsity n = as_prints top is_end (codes "false") (Stands (named (codes "false") ∷ [])) (ItemAt n (pure_of.Or []))
      (raw top is_end (named (codes "false") ∷ []) (λ rest ends. (word_spells top (codes "false") rest refl ends, tt))) reading
    where
      reading : (i j : Input) → Stands (named (codes "false") ∷ []) i j → ItemAt n (pure_of.Or []) i j
      reading i j (past_word w e done) = (record { kind = item_kind.False; at = place i }, (grammar.item (grammar.fails (w ∙ false_word)), written.item written.falsity))

  -- ---- connectives

  conjunction : (n : ℕ) (p q : Pure) (ps : List Pure) (i j : Input) → ItemsAt top n p (q ∷ ps) i j → PureAt n (pure_of.And (p ∷ q ∷ ps)) i j
  conjunction n p q ps i j y = of y.others y.read y.others_are
    where
      of : (xs : List ItemTree) → grammar.AreItems n (y.first ∷ xs) i j → written.AreItems (q ∷ ps) xs → PureAt n (pure_of.And (p ∷ q ∷ ps)) i j
      of [] read are = absurd (nothing are)
        where
          nothing : written.AreItems (q ∷ ps) [] → ⊥
          nothing are = elim are [ ]
      of (x ∷ xs) read (written.another_item is are) =
          (roll-PureTree (record { cases = (y.first ∷ x ∷ xs) ∷ []; at = place i }), (grammar.pure (grammar.last_case read), written.one_case (place i) (written.items y.first_is is are)))

  disjunction : (n : ℕ) (p q : Pure) (ps : List Pure) (i j : Input) → CasesAt top n p (q ∷ ps) i j → PureAt n (pure_of.Or (p ∷ q ∷ ps)) i j
  disjunction n p q ps i j y = of y.others y.read y.others_are
    where
      of : (xs : List (List ItemTree)) → grammar.AreCases n (y.first ∷ xs) i j → written.AreCases (q ∷ ps) xs → PureAt n (pure_of.Or (p ∷ q ∷ ps)) i j
      of [] read are = absurd (nothing are)
        where
          nothing : written.AreCases (q ∷ ps) [] → ⊥
          nothing are = elim are [ ]
      of (x ∷ xs) read (written.case is are) =
          (roll-PureTree (record { cases = y.first ∷ x ∷ xs; at = place i }), (grammar.pure read, written.several (place i) y.first_is is are))

  and_good : (es : List K) → G (connective signs.And (texts top es)) (members_fit (map pure_fits (map (pure_part top) es))) (members_nesting (map nesting (map (pure_part top) es))) (pure_of.And (map (pure_part top) es))
  and_good [] = (refl, λ around inside f n h d. (truth n, λ rest. refl))
  and_good (e ∷ []) = (refl, λ around inside f. absurd cc)
  and_good (e ∷ g ∷ es) = (
    refl,
    λ around inside f n h d.
        let all = members_known top n around inside (e ∷ g ∷ es) (and_parts (not (nat_eq (length (map pure_fits (map (pure_part top) (e ∷ g ∷ es)))) 1)) (fits_all top (e ∷ g ∷ es) around inside) f).1 h in
        retext top is_end (member_text None e.0 ++ with_signs (codes " & ") (codes " & ") (member_text None) (map (pure_part top) (g ∷ es))) (members_text signs.And (texts top (e ∷ g ∷ es)))
        (PureAt n (pure_of.And (map (pure_part top) (e ∷ g ∷ es)))) (ap (λ l. member_text None e.0 ++ l) (sym (signs-map top (codes " & ") (codes " & ") (map (pure_part top) (g ∷ es)))))
        (as_prints top is_end _ (ItemsAt top n e.0 (map (pure_part top) (g ∷ es))) (PureAt n (pure_of.And (map (pure_part top) (e ∷ g ∷ es))))
        (items_print top n e.0 (map (pure_part top) (g ∷ es)) all.0 all.1) (conjunction n e.0 g.0 (map (pure_part top) es))),
  )

  or_good : (es : List K) → G (connective signs.Or (texts top es)) (members_fit (map pure_fits (map (pure_part top) es))) (members_nesting (map nesting (map (pure_part top) es))) (pure_of.Or (map (pure_part top) es))
  or_good [] = (refl, λ around inside f n h d. (falsity n, λ rest. refl))
  or_good (e ∷ []) = (refl, λ around inside f. absurd cc)
  or_good (e ∷ g ∷ es) = (
    refl,
    λ around inside f n h d.
        let all = members_known top n around inside (e ∷ g ∷ es) (and_parts (not (nat_eq (length (map pure_fits (map (pure_part top) (e ∷ g ∷ es)))) 1)) (fits_all top (e ∷ g ∷ es) around inside) f).1 h in
        retext top is_end (member_text None e.0 ++ with_signs (codes " | ") (codes " | ") (member_text None) (map (pure_part top) (g ∷ es))) (members_text signs.Or (texts top (e ∷ g ∷ es)))
        (PureAt n (pure_of.Or (map (pure_part top) (e ∷ g ∷ es)))) (ap (λ l. member_text None e.0 ++ l) (sym (signs-map top (codes " | ") (codes " | ") (map (pure_part top) (g ∷ es)))))
        (as_prints top is_end _ (CasesAt top n e.0 (map (pure_part top) (g ∷ es))) (PureAt n (pure_of.Or (map (pure_part top) (e ∷ g ∷ es))))
        (cases_print top n e.0 (map (pure_part top) (g ∷ es)) all.0 all.1) (disjunction n e.0 g.0 (map (pure_part top) es))),
  )

  -- ---- denials

  not_good : (e : K) → G (record { class = denied_class (printed None e.0).class; body = λ d. text_at Denied (printed None e.0) }) (pure_fits e.0)
      (record { class = denied_class (nesting e.0).class; levels = levels_at Denied (nesting e.0) }) (pure_of.Not e.0)
  not_good e = (ap denied_class e.1.0, λ around inside f n h. of (printed None e.0).class (printed None e.0).body (denied_known top e around inside f n h))
    where
      of : {n : ℕ} (c : Class) (body : Bool → List ℕ) → Prints top is_end (text_at Denied (record { class = c; body = body })) (ItemAt n (pure_of.Not e.0))
          → IsRead top (denied_class c) (λ d. text_at Denied (record { class = c; body = body })) (pure_of.Not e.0) n
      of Equation body p = λ d. p
      of Relation body p = λ d. (p, λ rest. refl)
      of Connective body p = λ d. (p, λ rest. refl)
      of DeniedEquation body p = λ d. (p, λ rest. refl)
      of Item body p = λ d. (p, λ rest. refl)

  -- ---- all formulas

  abbrev At : Pure-F Pure → Pure → Type 0
  At x p = G (pure_level None (map-Pure Pure Printed (printed None) x)) (pure_fits_level (map-Pure Pure Test pure_fits x)) (nesting_level (map-Pure Pure Nesting nesting x)) p

  outside : (inside b : Bool) → IsTrue (not inside && b) → IsTrue b
  outside inside b f = (and_parts (not inside) b f).1

  eq_good : (a b : Lin) → At (Pure-F.Eq a b) (pure_of.Eq a b)
  eq_good a b = (refl, λ around inside f n h. (equal n a b f, unequal n a b f))

  lt_good : (a b : Lin) → At (Pure-F.Lt a b) (pure_of.Lt a b)
  lt_good a b = (refl, λ around inside f n h d. less n a b f)

  le_good : (a b : Lin) → At (Pure-F.Le a b) (pure_of.Le a b)
  le_good a b = (refl, λ around inside f n h d. at_most n a b f)

  divides_ready : (d : ℤ) (a : Lin) → IsTrue (is_divisor d && sum_fits a) → IsReady top Item (λ b. divides_text None d a) (pure_of.Divides d a) 1
  divides_ready (pos d) a f zero h = absurd (omega arith)
  divides_ready (pos d) a f (suc n) h = λ b. let fits = and_parts (is_divisor (pos d)) (sum_fits a) f in (divides n d a fits.0 fits.1, λ rest. refl)
  divides_ready (negsuc d) a f n h = absurd cc

  divides_good : (d : ℤ) (a : Lin) → At (Pure-F.Divides d a) (pure_of.Divides d a)
  divides_good d a = (refl, λ around inside f. divides_ready d a f)

  bag_eq_good : (a b : Bag) → At (Pure-F.BagEq a b) (pure_of.BagEq a b)
  bag_eq_good a b = (refl, λ around inside f n h. let fits = outside inside (bag_fits a && bag_fits b) f in (bags_equal n a b fits h, bags_unequal n a b fits h))

  subset_good : (a b : Bag) → At (Pure-F.Subset a b) (pure_of.Subset a b)
  subset_good a b = (refl, λ around inside f n h d. subset n a b (outside inside (bag_fits a && bag_fits b) f) h)

  member_good : (a : Lin) (b : Bag) → At (Pure-F.Member a b) (pure_of.Member a b)
  member_good a b = (refl, λ around inside f n h d. within n a b (outside inside (sum_fits a && bag_fits b) f) h)

  less_by_one : (m n : ℕ) → suc m ≤ suc n → m ≤ n
  less_by_one m n h = omega arith

  no_level : (m : ℕ) → suc m ≤ 0 → ⊥
  no_level m h = omega arith

  all_ready : (u : Var) (b : Bag) (e : K) (around : List ℕ) → IsTrue (bag_fits b && (binder_fits u around && below (pure_fits e.0) u around))
      → IsReady top Item (λ d. each_of_text None u b ++ (text_at Alone (printed None e.0) ++ codes ")")) (pure_of.AllOf u b e.0) (max (bag_nesting b) (suc (nesting e.0).levels))
  all_ready u b e around f zero h = absurd (no_level (nesting e.0).levels (right_fits (bag_nesting b) (suc (nesting e.0).levels) 0 h))
  all_ready u b e around f (suc n) h = λ d. (
    all u b e around f n (left_fits (bag_nesting b) (suc (nesting e.0).levels) (suc n) h)
        (less_by_one (nesting e.0).levels n (right_fits (bag_nesting b) (suc (nesting e.0).levels) (suc n) h)),
    λ rest. refl,
  )

  all_good : (u : Var) (b : Bag) (e : K) → At (Pure-F.AllOf u b e.0) (pure_of.AllOf u b e.0)
  all_good u b e = (refl, λ around inside f. all_ready u b e around (outside inside (bag_fits b && (binder_fits u around && below (pure_fits e.0) u around)) f))

  exists_ready : (u : Var) (e : K) (around : List ℕ) → IsTrue (binder_fits u around && below (pure_fits e.0) u around)
      → IsReady top Item (λ d. quantified_text None (codes "(exists ") u (printed None e.0)) (pure_of.Exists u e.0) (suc (nesting e.0).levels)
  exists_ready u e around f zero h = absurd (no_level (nesting e.0).levels h)
  exists_ready u e around f (suc n) h = λ d. (exists u e around f n (less_by_one (nesting e.0).levels n h), λ rest. refl)

  exists_good : (u : Var) (e : K) → At (Pure-F.Exists u e.0) (pure_of.Exists u e.0)
  exists_good u e = (refl, λ around inside f. exists_ready u e around f)

  forall_ready : (u : Var) (e : K) (around : List ℕ) → IsTrue (binder_fits u around && below (pure_fits e.0) u around)
      → IsReady top Item (λ d. quantified_text None (codes "(forall ") u (printed None e.0)) (pure_of.Forall u e.0) (suc (nesting e.0).levels)
  forall_ready u e around f zero h = absurd (no_level (nesting e.0).levels h)
  forall_ready u e around f (suc n) h = λ d. (forall u e around f n (less_by_one (nesting e.0).levels n h), λ rest. refl)

  forall_good : (u : Var) (e : K) → At (Pure-F.Forall u e.0) (pure_of.Forall u e.0)
  forall_good u e = (refl, λ around inside f. forall_ready u e around f)

  level : (y : Pure-F K) → At (map-Pure K Pure (pure_part top) y) (roll-Pure (map-Pure K Pure (pure_part top) y))
  level (Pure-F.Eq a b) = subst (At (Pure-F.Eq a b)) (sym (pure_of.rolls-Eq a b)) (eq_good a b)
  level (Pure-F.Lt a b) = subst (At (Pure-F.Lt a b)) (sym (pure_of.rolls-Lt a b)) (lt_good a b)
  level (Pure-F.Le a b) = subst (At (Pure-F.Le a b)) (sym (pure_of.rolls-Le a b)) (le_good a b)
  level (Pure-F.Divides d a) = subst (At (Pure-F.Divides d a)) (sym (pure_of.rolls-Divides d a)) (divides_good d a)
  level (Pure-F.BagEq a b) = subst (At (Pure-F.BagEq a b)) (sym (pure_of.rolls-BagEq a b)) (bag_eq_good a b)
  level (Pure-F.Subset a b) = subst (At (Pure-F.Subset a b)) (sym (pure_of.rolls-Subset a b)) (subset_good a b)
  level (Pure-F.Member a b) = subst (At (Pure-F.Member a b)) (sym (pure_of.rolls-Member a b)) (member_good a b)
  level (Pure-F.AllOf u b e) = subst (At (Pure-F.AllOf u b e.0)) (sym (pure_of.rolls-AllOf u b e.0)) (all_good u b e)
  level (Pure-F.Not e) = subst (At (Pure-F.Not e.0)) (sym (pure_of.rolls-Not e.0)) (not_good e)
  level (Pure-F.And es) = subst (At (Pure-F.And (map (pure_part top) es))) (sym (pure_of.rolls-And (map (pure_part top) es))) (and_good es)
  level (Pure-F.Or es) = subst (At (Pure-F.Or (map (pure_part top) es))) (sym (pure_of.rolls-Or (map (pure_part top) es))) (or_good es)
  level (Pure-F.Exists u e) = subst (At (Pure-F.Exists u e.0)) (sym (pure_of.rolls-Exists u e.0)) (exists_good u e)
  level (Pure-F.Forall u e) = subst (At (Pure-F.Forall u e.0)) (sym (pure_of.rolls-Forall u e.0)) (forall_good u e)

  rolled : (x : Pure-F Pure) → At x (roll-Pure x) → OfPure top (roll-Pure x)
  rolled x h =
      subst (λ t. G t (pure_fits (roll-Pure x)) (nesting (roll-Pure x)) (roll-Pure x)) (sym (fold-roll-Pure Printed (pure_level None) x))
      (subst (λ f. G (pure_level None (map-Pure Pure Printed (printed None) x)) f (nesting (roll-Pure x)) (roll-Pure x)) (sym (fold-roll-Pure Test pure_fits_level x))
      (subst (λ m. G (pure_level None (map-Pure Pure Printed (printed None) x)) (pure_fits_level (map-Pure Pure Test pure_fits x)) m (roll-Pure x)) (sym (fold-roll-Pure Nesting nesting_level x)) h))

  pub pure_known : (p : Pure) → OfPure top p
  pure_known = ind-Pure (OfPure top) (λ x y is. rolled x (subst (λ z. At z (roll-Pure z)) is (level y)))

  abbrev pub known : Pure → K
  known p = (p, pure_known p)
