-- Pure formulas at their places: by themselves, inside a connective, and denied.
use Rattle.std.proofs.Common.{◌≡◌, ℕ, zero, suc, ◌+◌, ◌≤◌, Bool, true, false, List, [], ◌∷◌, ◌++◌, Some, refl, sym, ap, ◌∙◌, arith, append-nil}
use Rattle.std.specs.Prelude.{IsTrue, codes}
use Rattle.hs_lex.specs.declared.token.Sign.TheVariants as sign
use Rattle.hs_lex.specs.declared.token.TokenKind.{TokenKind}
use Rattle.hs_lex.specs.declared.token.TokenKind.TheVariants as kinds
use Rattle.hs_lex.specs.Tokens.{Spells}
use Rattle.hs_tree.specs.declared.expr.ExprTree.{ExprTree}
use Rattle.hs_tree.specs.declared.item.RelTree.{RelTree}
use Rattle.hs_tree.specs.declared.item.ItemTree.{ItemTree}
use Rattle.hs_tree.specs.declared.item.PureTree.{PureTree, roll-PureTree}
use Rattle.hs_tree.specs.declared.item.ItemKind.TheVariants as item_kind
use Rattle.hs_words.specs.Input.{Input, place}
use Rattle.hs_words.specs.Word.{word_of}
use Rattle.hs_read_pure.specs.Item.{relation}
use Rattle.hs_read_pure.specs.Grammar as grammar
use Rattle.hs_pure.specs.declared.pure.Pure.{Pure}
use Rattle.hs_pure.specs.declared.pure.Pure.TheVariants as pure_of
use Rattle.hs_print.specs.declared.place.Place.TheVariants.{Alone, Member, Denied}
use Rattle.hs_print.specs.declared.place.Class.{Class}
use Rattle.hs_print.specs.declared.place.Class.TheVariants.{Equation, Relation, Connective, DeniedEquation, Item}
use Rattle.hs_print.specs.Pure.{opening, closing}
use Rattle.hs_written.specs.Writable.{marks}
use Rattle.hs_written.specs.Written as written
use Rattle.hs_round_trip.proofs.Pieces.{Piece, gap, word, Stands, done, past_gap, past_word}
use Rattle.hs_round_trip.proofs.Segments.{anything, is_end, is_start, Prints, Then, then_prints, as_prints, raw, retext}
use Rattle.hs_round_trip.proofs.Tokens.{sign_spells, bang_at}
use Rattle.hs_round_trip.proofs.Words.{open_paren, close_paren, open_paren_prints, close_paren_prints}

-- an expression that writes something
abbrev pub ExprAt : ℕ → (ExprTree → Type 0) → Input → Input → Type 0
ExprAt n W i j = (e : ExprTree) × (grammar.IsExpr n e i j × W e)

abbrev pub ItemAt : ℕ → Pure → Input → Input → Type 0
ItemAt n p i j = (x : ItemTree) × (grammar.IsItem n x i j × written.IsItem p x)

abbrev pub PureAt : ℕ → Pure → Input → Input → Type 0
PureAt n p i j = (t : PureTree) × (grammar.IsPure n t i j × written.IsPure p t)

pub alone_item : {n : ℕ} {p : Pure} {i j : Input} → ItemAt n p i j → PureAt n p i j
alone_item {i = i} y =
    (roll-PureTree (record { cases = (y.0 ∷ []) ∷ []; at = place i }), (grammar.pure (grammar.last_case (grammar.last_item y.1.0)), written.one_case (place i) (written.one_item y.1.1)))

pub grouped : {n : ℕ} {p : Pure} {i j k : Input} → Stands (open_paren ∷ []) i j → PureAt n p j k → (l : Input) → Stands (close_paren ∷ []) k l → ItemAt (suc n) p i l
grouped {i = i} (past_word w e done) y l (past_word x f done) =
    (record { kind = item_kind.Group y.0; at = place i }, (grammar.item (grammar.group w y.1.0 x), written.item (written.group y.1.1)))

abbrev bang : Piece
bang = word (kinds.Sign sign.Bang) (codes "!")

pub denied : {n : ℕ} {p : Pure} {i j k : Input} → Stands (bang ∷ []) i j → ItemAt n p j k → ItemAt (suc n) (pure_of.Not p) i k
denied {i = i} (past_word w e done) y =
    (record { kind = item_kind.Not y.0; at = place i }, (grammar.item (grammar.negation w y.1.0), written.item (written.negation y.1.1)))

module _ (top : ℕ) where
  -- ---- relations

  between : (k : TokenKind) (t : List ℕ) → List Piece
  between k t = gap ∷ word k t ∷ gap ∷ []

  related_at : (n : ℕ) (s : RelTree) (k : TokenKind) (t : List ℕ) (W V : ExprTree → Type 0) (p : Pure) → relation (word_of t k) ≡ Some s
      → ((l r : ExprTree) → W l → V r → written.IsKind p (item_kind.Rel s l r)) → (i j : Input) → Then (ExprAt n W) (Then (Stands (gap ∷ word k t ∷ gap ∷ [])) (ExprAt n V)) i j → ItemAt n p i j
  related_at n s k t W V p e make i j (m, (l, (o, (past_gap (past_word w f (past_gap done)), r)))) =
      (record { kind = item_kind.Rel s l.0 r.0; at = place i }, (grammar.item (grammar.rel l.1.0 (ap relation w ∙ e) r.1.0), written.item (make l.0 r.0 l.1.1 r.1.1)))

  pub related : (n : ℕ) (s : RelTree) (k : TokenKind) (t : List ℕ) (W V : ExprTree → Type 0) (p : Pure) (x y : List ℕ) → ((rest : List ℕ) → Spells top k t (32 ∷ rest)) → relation (word_of t k) ≡ Some s
      → ((l r : ExprTree) → W l → V r → written.IsKind p (item_kind.Rel s l r)) → Prints top is_end x (ExprAt n W) → Prints top is_end y (ExprAt n V)
      → Prints top is_end (x ++ ((32 ∷ (t ++ (32 ∷ []))) ++ y)) (ItemAt n p)
  related n s k t W V p x y spells e make left right = as_prints top is_end (x ++ ((32 ∷ (t ++ (32 ∷ []))) ++ y)) _ (ItemAt n p)
      (then_prints top is_end is_end x ((32 ∷ (t ++ (32 ∷ []))) ++ y) _ _ left
      (then_prints top anything is_end (32 ∷ (t ++ (32 ∷ []))) y _ _
      (raw top anything (gap ∷ word k t ∷ gap ∷ []) (λ rest h. (spells rest, tt))) right (λ rest ends. refl)) (λ rest ends. refl))
      (related_at n s k t W V p e make)

  -- ---- places

  -- What the text of a formula is read as, by what it looks like.
  abbrev pub IsRead : Class → (Bool → List ℕ) → Pure → ℕ → Type 0
  IsRead Equation body p n = Prints top is_end (body false) (ItemAt n p) × Prints top is_end (body true) (ItemAt n (pure_of.Not p))
  IsRead Relation body p n = (d : Bool) → Prints top is_end (body d) (ItemAt n p)
  IsRead Connective body p n = (d : Bool) → Prints top is_end (body d) (PureAt n p)
  IsRead DeniedEquation body p n = (d : Bool) → Prints top is_end (body d) (ItemAt n p)
  IsRead Item body p n = (d : Bool) → Prints top is_end (body d) (ItemAt n p) × ((rest : List ℕ) → IsTrue (is_start (body d ++ rest)))

  plain : (R : Input → Input → Type 0) (t : List ℕ) → Prints top is_end t R → Prints top is_end ([] ++ (t ++ [])) R
  plain R t = retext top is_end t ([] ++ (t ++ [])) R (sym (append-nil t))

  enclosed : (n : ℕ) (t : List ℕ) (p : Pure) → Prints top is_end t (PureAt n p) → Prints top is_end (codes "(" ++ (t ++ codes ")")) (ItemAt (suc n) p)
  enclosed n t p q = as_prints top is_end (codes "(" ++ (t ++ codes ")")) _ (ItemAt (suc n) p)
      (then_prints top anything is_end (codes "(") (t ++ codes ")") _ _ (open_paren_prints top)
      (then_prints top is_end is_end t (codes ")") _ _ q (close_paren_prints top is_end) (λ rest ends. refl)) (λ rest ends. refl))
      (λ i j y. grouped y.1.0 y.1.1.1.0 j y.1.1.1.1)

  bang_prints : Prints top is_start (codes "!") (Stands (bang ∷ []))
  bang_prints = raw top is_start (bang ∷ []) (λ rest h. (sign_spells top sign.Bang rest (bang_at rest h), tt))

  marked : (n : ℕ) (t : List ℕ) (p : Pure) → ((rest : List ℕ) → IsTrue (is_start (t ++ rest))) → Prints top is_end t (ItemAt n p) → Prints top is_end (codes "!" ++ t) (ItemAt (suc n) (pure_of.Not p))
  marked n t p starts q = as_prints top is_end (codes "!" ++ t) _ (ItemAt (suc n) (pure_of.Not p))
      (then_prints top is_start is_end (codes "!") t _ _ bang_prints q (λ rest ends. starts rest)) (λ i j y. denied y.1.0 y.1.1)

  marked_group : (n : ℕ) (t : List ℕ) (p : Pure) → Prints top is_end t (PureAt n p) → Prints top is_end (codes "!(" ++ (t ++ codes ")")) (ItemAt (suc (suc n)) (pure_of.Not p))
  marked_group n t p q = marked (suc n) (codes "(" ++ (t ++ codes ")")) p (λ rest. refl) (enclosed n t p q)

  as_pure : (n : ℕ) (t : List ℕ) (p : Pure) → Prints top is_end t (ItemAt n p) → Prints top is_end t (PureAt n p)
  as_pure n t p q = as_prints top is_end t (ItemAt n p) (PureAt n p) q (λ i j y. alone_item y)

  -- it is read so wherever these levels are left
  abbrev pub IsReady : Class → (Bool → List ℕ) → Pure → ℕ → Type 0
  IsReady c body p m = (n : ℕ) → m ≤ n → IsRead c body p n

  pub at_alone : (c : Class) (body : Bool → List ℕ) (p : Pure) (m n : ℕ) → IsReady c body p m → m ≤ n → Prints top is_end (opening Alone c ++ (body false ++ closing Alone c)) (PureAt n p)
  at_alone Equation body p m n r h = plain (PureAt n p) (body false) (as_pure n (body false) p (r n h).0)
  at_alone Relation body p m n r h = plain (PureAt n p) (body false) (as_pure n (body false) p (r n h false))
  at_alone Connective body p m n r h = plain (PureAt n p) (body false) (r n h false)
  at_alone DeniedEquation body p m n r h = plain (PureAt n p) (body false) (as_pure n (body false) p (r n h false))
  at_alone Item body p m n r h = plain (PureAt n p) (body false) (as_pure n (body false) p (r n h false).0)

  pub at_member : (c : Class) (body : Bool → List ℕ) (p : Pure) (m n : ℕ) → IsReady c body p m → marks Member c + m ≤ n → Prints top is_end (opening Member c ++ (body false ++ closing Member c)) (ItemAt n p)
  at_member Equation body p m n r h = plain (ItemAt n p) (body false) (r n (omega arith)).0
  at_member Relation body p m n r h = plain (ItemAt n p) (body false) (r n (omega arith) false)
  at_member Connective body p m zero r h = absurd (omega arith)
  at_member Connective body p m (suc n) r h = enclosed n (body false) p (r n (omega arith) false)
  at_member DeniedEquation body p m n r h = plain (ItemAt n p) (body false) (r n (omega arith) false)
  at_member Item body p m n r h = plain (ItemAt n p) (body false) (r n (omega arith) false).0

  pub at_denied : (c : Class) (body : Bool → List ℕ) (p : Pure) (m n : ℕ) → IsReady c body p m → marks Denied c + m ≤ n
      → Prints top is_end (opening Denied c ++ (body true ++ closing Denied c)) (ItemAt n (pure_of.Not p))
  at_denied Equation body p m n r h = plain (ItemAt n (pure_of.Not p)) (body true) (r n (omega arith)).1
  at_denied Relation body p m zero r h = absurd (omega arith)
  at_denied Relation body p m (suc zero) r h = absurd (omega arith)
  at_denied Relation body p m (suc (suc n)) r h = marked_group n (body true) p (as_pure n (body true) p (r n (omega arith) true))
  at_denied Connective body p m zero r h = absurd (omega arith)
  at_denied Connective body p m (suc zero) r h = absurd (omega arith)
  at_denied Connective body p m (suc (suc n)) r h = marked_group n (body true) p (r n (omega arith) true)
  at_denied DeniedEquation body p m zero r h = absurd (omega arith)
  at_denied DeniedEquation body p m (suc zero) r h = absurd (omega arith)
  at_denied DeniedEquation body p m (suc (suc n)) r h = marked_group n (body true) p (as_pure n (body true) p (r n (omega arith) true))
  at_denied Item body p m zero r h = absurd (omega arith)
  at_denied Item body p m (suc n) r h =
      let is = r n (omega arith) true in
      retext top is_end (codes "!" ++ body true) (codes "!" ++ (body true ++ [])) (ItemAt (suc n) (pure_of.Not p)) (ap (λ l. codes "!" ++ l) (sym (append-nil (body true))))
      (marked n (body true) p is.1 is.0)
