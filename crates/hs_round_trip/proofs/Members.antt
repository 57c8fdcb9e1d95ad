-- The members of an And or Or, and what stands inside a quantifier.
use Rattle.std.proofs.Common.{◌≡◌, ℕ, ◌+◌, ◌≤◌, max, Bool, List, [], ◌∷◌, ◌++◌, map, None, refl, sym, ap, subst, arith, append-nil}
use Rattle.std.specs.Prelude.{IsTrue, codes}
use Rattle.std.specs.List.{list_all, AllByRecursion}
use Rattle.std.proofs.lemmas.Bool.{and_parts}
use native.Mathlib.Nat.{le-max_left, le-max_right}
use Rattle.hs_lex.specs.declared.token.Sign.TheVariants as sign
use Rattle.hs_lex.specs.declared.token.TokenKind.TheVariants as kinds
use Rattle.hs_tree.specs.declared.item.ItemTree.{ItemTree}
use Rattle.hs_words.specs.Input.{Input}
use Rattle.hs_read_pure.specs.Grammar as grammar
use Rattle.hs_pure.specs.declared.pure.Pure.{Pure}
use Rattle.hs_pure.specs.declared.pure.Pure.TheVariants as pure_of
use Rattle.hs_print.specs.declared.place.Place.TheVariants.{Alone, Member, Denied}
use Rattle.hs_print.specs.Lists.{with_signs}
use Rattle.hs_print.specs.Pure.{Printed, text_at, printed, member_text}
use Rattle.hs_written.specs.Writable.{Test, pure_fits, marks, Nesting, nesting, levels_at, deepest}
use Rattle.hs_written.specs.Written as written
use Rattle.hs_round_trip.proofs.Pieces.{Piece, gap, word, Stands, done, past_gap, past_word}
use Rattle.hs_round_trip.proofs.Segments.{anything, is_end, Prints, Then, then_prints, as_prints, raw, retext}
use Rattle.hs_round_trip.proofs.Tokens.{sign_spells}
use Rattle.hs_round_trip.proofs.Places.{ItemAt, PureAt, IsReady, at_alone, at_member, at_denied}

module _ (top : ℕ) where
  -- a formula with this text, test and nesting is read
  abbrev pub Good : Printed → Test → Nesting → Pure → Type 0
  Good t f m p = (m.class ≡ t.class) × ((around : List ℕ) (inside : Bool) → IsTrue (f around inside) → IsReady top t.class t.body p m.levels)

  abbrev pub OfPure : Pure → Type 0
  OfPure p = Good (printed None p) (pure_fits p) (nesting p) p

  abbrev pub Known : Type 0
  Known = (p : Pure) × OfPure p

  abbrev pub pure_part : Known → Pure
  pure_part e = e.0

  abbrev pub text_of_known : Known → Printed
  text_of_known e = printed None e.0

  pub alone_known : (e : Known) (around : List ℕ) (inside : Bool) → IsTrue (pure_fits e.0 around inside) → (n : ℕ) → (nesting e.0).levels ≤ n → Prints top is_end (text_at Alone (printed None e.0)) (PureAt n e.0)
  alone_known e around inside f n h = at_alone top (printed None e.0).class (printed None e.0).body e.0 (nesting e.0).levels n (e.1.1 around inside f) h

  pub member_known : (e : Known) (around : List ℕ) (inside : Bool) → IsTrue (pure_fits e.0 around inside) → (n : ℕ) → levels_at Member (nesting e.0) ≤ n → Prints top is_end (text_at Member (printed None e.0)) (ItemAt n e.0)
  member_known e around inside f n h =
      at_member top (printed None e.0).class (printed None e.0).body e.0 (nesting e.0).levels n (e.1.1 around inside f) (subst (λ c. marks Member c + (nesting e.0).levels ≤ n) e.1.0 h)

  pub denied_known : (e : Known) (around : List ℕ) (inside : Bool) → IsTrue (pure_fits e.0 around inside) → (n : ℕ) → levels_at Denied (nesting e.0) ≤ n
      → Prints top is_end (text_at Denied (printed None e.0)) (ItemAt n (pure_of.Not e.0))
  denied_known e around inside f n h =
      at_denied top (printed None e.0).class (printed None e.0).body e.0 (nesting e.0).levels n (e.1.1 around inside f) (subst (λ c. marks Denied c + (nesting e.0).levels ≤ n) e.1.0 h)

  -- ---- members with a sign between them

  abbrev amp : Piece
  amp = word (kinds.Sign sign.Amp) (codes "&")

  abbrev bar : Piece
  bar = word (kinds.Sign sign.Bar) (codes "|")

  amp_prints : Prints top anything (codes " & ") (Stands (gap ∷ amp ∷ gap ∷ []))
  amp_prints = raw top anything (gap ∷ amp ∷ gap ∷ []) (λ rest h. (sign_spells top sign.Amp (32 ∷ rest) refl, tt))

  bar_prints : Prints top anything (codes " | ") (Stands (gap ∷ bar ∷ gap ∷ []))
  bar_prints = raw top anything (gap ∷ bar ∷ gap ∷ []) (λ rest h. (sign_spells top sign.Bar (32 ∷ rest) refl, tt))

  -- its text as a member is read as an item
  abbrev pub OfMember : ℕ → Pure → Type 0
  OfMember n p = Prints top is_end (member_text None p) (ItemAt n p)

  -- items that write the first and the others
  pub record ItemsAt (n : ℕ) (p : Pure) (ps : List Pure) (i j : Input) : Type 0 where
    pub first : ItemTree
    pub others : List ItemTree
    pub read : grammar.AreItems n (first ∷ others) i j
    pub first_is : written.IsItem p first
    pub others_are : written.AreItems ps others

  pub record CasesAt (n : ℕ) (p : Pure) (ps : List Pure) (i j : Input) : Type 0 where
    pub first : List ItemTree
    pub others : List (List ItemTree)
    pub read : grammar.AreCases n (first ∷ others) i j
    pub first_is : written.IsConj p first
    pub others_are : written.AreCases ps others

  pub items_print : (n : ℕ) (p : Pure) (ps : List Pure) → OfMember n p → AllByRecursion (OfMember n) ps
      → Prints top is_end (member_text None p ++ with_signs (codes " & ") (codes " & ") (member_text None) ps) (ItemsAt n p ps)
  items_print n p [] h all =
      retext top is_end (member_text None p) (member_text None p ++ []) (ItemsAt n p []) (sym (append-nil (member_text None p)))
      (as_prints top is_end (member_text None p) (ItemAt n p) (ItemsAt n p []) h
      (λ i j y. record { first = y.0; others = []; read = grammar.last_item y.1.0; first_is = y.1.1; others_are = written.no_item }))
  items_print n p (q ∷ ps) h all =
      let more : List ℕ = member_text None q ++ with_signs (codes " & ") (codes " & ") (member_text None) ps in
      as_prints top is_end (member_text None p ++ (codes " & " ++ more)) _ (ItemsAt n p (q ∷ ps))
      (then_prints top is_end is_end (member_text None p) (codes " & " ++ more) _ _ h
      (then_prints top anything is_end (codes " & ") more _ _ amp_prints (items_print n q ps all.0 all.1) (λ rest ends. refl)) (λ rest ends. refl))
      reading
    where
      reading : (i j : Input) → Then (ItemAt n p) (Then (Stands (gap ∷ amp ∷ gap ∷ [])) (ItemsAt n q ps)) i j → ItemsAt n p (q ∷ ps) i j
      reading i j (k, (x, (l, (past_gap (past_word w v (past_gap done)), y)))) = record {
        first = x.0;
        others = y.first ∷ y.others;
        read = grammar.another_item x.1.0 w y.read;
        first_is = x.1.1;
        others_are = written.another_item y.first_is y.others_are;
      }

  pub cases_print : (n : ℕ) (p : Pure) (ps : List Pure) → OfMember n p → AllByRecursion (OfMember n) ps
      → Prints top is_end (member_text None p ++ with_signs (codes " | ") (codes " | ") (member_text None) ps) (CasesAt n p ps)
  cases_print n p [] h all =
      retext top is_end (member_text None p) (member_text None p ++ []) (CasesAt n p []) (sym (append-nil (member_text None p)))
      (as_prints top is_end (member_text None p) (ItemAt n p) (CasesAt n p []) h
      (λ i j y. record { first = y.0 ∷ []; others = []; read = grammar.last_case (grammar.last_item y.1.0); first_is = written.one_item y.1.1; others_are = written.no_case }))
  cases_print n p (q ∷ ps) h all =
      let more : List ℕ = member_text None q ++ with_signs (codes " | ") (codes " | ") (member_text None) ps in
      as_prints top is_end (member_text None p ++ (codes " | " ++ more)) _ (CasesAt n p (q ∷ ps))
      (then_prints top is_end is_end (member_text None p) (codes " | " ++ more) _ _ h
      (then_prints top anything is_end (codes " | ") more _ _ bar_prints (cases_print n q ps all.0 all.1) (λ rest ends. refl)) (λ rest ends. refl))
      reading
    where
      reading : (i j : Input) → Then (ItemAt n p) (Then (Stands (gap ∷ bar ∷ gap ∷ [])) (CasesAt n q ps)) i j → CasesAt n p (q ∷ ps) i j
      reading i j (k, (x, (l, (past_gap (past_word w v (past_gap done)), y)))) = record {
        first = x.0 ∷ [];
        others = y.first ∷ y.others;
        read = grammar.case (grammar.last_item x.1.0) w y.read;
        first_is = written.one_item x.1.1;
        others_are = written.case y.first_is y.others_are;
      }

  -- ---- members by their tests

  abbrev pub fits_all : List Known → List ℕ → Bool → Bool
  fits_all es around inside = list_all (λ p. p around inside) (map pure_fits (map pure_part es))

  abbrev pub texts : List Known → List Printed
  texts es = map (printed None) (map pure_part es)

  abbrev pub depth : List Known → ℕ
  depth es = deepest (map (levels_at Member) (map nesting (map pure_part es)))

  left_fits : (m k n : ℕ) → max m k ≤ n → m ≤ n
  left_fits m k n h = omega (arith, le-max_left m k)

  right_fits : (m k n : ℕ) → max m k ≤ n → k ≤ n
  right_fits m k n h = omega (arith, le-max_right m k)

  pub members_known : (n : ℕ) (around : List ℕ) (inside : Bool) (es : List Known) → IsTrue (fits_all es around inside) → depth es ≤ n → AllByRecursion (OfMember n) (map pure_part es)
  members_known n around inside [] f h = tt
  members_known n around inside (e ∷ es) f h =
      let fits = and_parts (pure_fits e.0 around inside) (fits_all es around inside) f in (
        member_known e around inside fits.0 n (left_fits (levels_at Member (nesting e.0)) (depth es) n h),
        members_known n around inside es fits.1 (right_fits (levels_at Member (nesting e.0)) (depth es) n h),
      )

  pub signs-map : (s t : List ℕ) (ps : List Pure) → with_signs s t (text_at Member) (map (printed None) ps) ≡ with_signs s t (member_text None) ps
  signs-map s t [] = refl
  signs-map s t (p ∷ ps) = ap (λ l. s ++ (member_text None p ++ l)) (signs-map t t ps)
