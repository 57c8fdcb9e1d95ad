-- What is read as a conjunction is spelled so by the grammar.
use Rattle.std.proofs.Common.{◌≡◌, ℕ, zero, suc, ◌-◌, List, [], ◌∷◌, Option, Some, None, refl, subst, inl, inr, arith}
use Rattle.std.proofs.lemmas.Bool.{cases_Bool}
use Rattle.hs_lex.specs.declared.token.Sign.TheVariants as sign
use Rattle.hs_tree.specs.declared.ident.Ident.{Ident}
use Rattle.hs_tree.specs.declared.expr.ExprTree.{ExprTree}
use Rattle.hs_tree.specs.declared.item.RelTree.{RelTree}
use Rattle.hs_tree.specs.declared.item.PureTree.{PureTree}
use Rattle.hs_tree.specs.declared.item.ItemTree.{ItemTree}
use Rattle.hs_tree.specs.declared.item.ItemKind.{ItemKind}
use Rattle.hs_tree.specs.declared.item.ItemKind.TheVariants as kind
use Rattle.hs_words.specs.declared.word.Keyword.TheVariants as key
use Rattle.hs_words.specs.declared.word.Word.{Word}
use Rattle.hs_words.specs.declared.word.Word.TheVariants as word
use Rattle.hs_words.specs.Input.{Input, Parser, and_then, next_word, next, inner, sees}
use Rattle.hs_words.specs.Grammar.{IsSign, IsKey, Separated, one, more}
use Rattle.hs_words.proofs.Yields.{Yields, Accepts, yield, yields_none, ◌▷◌, ◌▸◌, choose, after_sign, after_key, seen, sign_is, separated_accepts}
use Rattle.hs_read_pure.specs.Expr.{name, expr}
use Rattle.hs_read_pure.specs.Item.{relation, related, comparison, number_by, number, opening_paren, conj, disjunction, closed, binder, negation, group_by, group, all, divides, kind_by, item_kind, level, levels_of, item}
use Rattle.hs_read_pure.specs.Grammar.{IsName, IsExpr, IsPure, AreCases, last_case, case, AreItems, last_item, another_item, IsItem, IsItemKind}
use Rattle.hs_read_pure.specs.Grammar as grammar
use Rattle.hs_read_pure.proofs.ExprSound.{name_accepts, expr_accepts}

-- ---- what holds no other item

related_yields : (n : ℕ) (x : ExprTree) (i j : Input) → IsExpr n x i j → (r : Option RelTree) → relation (next_word j) ≡ r
    → Yields (related n x r j) (λ k l. IsItemKind n k i l)
related_yields n x i j is_x None e = yields_none
related_yields n x i j is_x (Some r) e = expr_accepts n (next j) ▷ λ y k is_y. yield (grammar.rel is_x e is_y)

comparison_accepts : (n : ℕ) → Accepts (comparison n) (IsItemKind n)
unfolding comparison
comparison_accepts n i = expr_accepts n i ▷ λ x j is. related_yields n x i j is (relation (next_word j)) refl

number_at : (w : Word) (i : Input) → next_word i ≡ w → Yields (number_by w i) (λ d j. (next_word i ≡ word.Number d) × (j ≡ next i))
number_at (word.Number d) i is = yield (is, refl)
number_at w i is = yields_none

number_yields : (i : Input) → Yields (number i) (λ d j. (next_word i ≡ word.Number d) × (j ≡ next i))
unfolding number
number_yields i = number_at (next_word i) i refl

-- ---- lists of items

to_items : (n : ℕ) (xs : List ItemTree) (i j : Input) → Separated (IsItem n) (word.Sign sign.Amp) xs i j → AreItems n xs i j
to_items n _ i j (one r) = last_item r
to_items n _ i k (more r is others) = another_item r is (to_items n _ _ k others)

to_cases : (n : ℕ) (cs : List (List ItemTree)) (i j : Input) → Separated (AreItems n) (word.Sign sign.Bar) cs i j → AreCases n cs i j
to_cases n _ i j (one r) = last_case r
to_cases n _ i k (more r is others) = case r is (to_cases n _ _ k others)

-- a formula and its closing parenthesis
data IsClosed : ℕ → PureTree → Input → Input → Type 0 where
  is_closed : {n : ℕ} {p : PureTree} {i j : Input} → IsPure n p i j → IsSign sign.CloseParen j → IsClosed n p i (next j)

-- what a quantifier binds, and its body
data IsBinder : ℕ → Ident → PureTree → Input → Input → Type 0 where
  is_binder : {n : ℕ} {x : Ident} {p : PureTree} {i j k : Input} → IsName x (next i) j → IsSign sign.Dot j → IsClosed n p (next j) k → IsBinder n x p i k

module _ (n : ℕ) (accepts : Accepts (item n) (IsItem n)) where
  pub conj_of : Accepts (conj (item n)) (AreItems n)
  unfolding conj
  conj_of i = separated_accepts (sees sign.Amp) (word.Sign sign.Amp) (seen sign.Amp) (item n) (IsItem n) accepts i ▸ λ xs j h. to_items n xs i j h

  pub pure_of : Accepts (disjunction (item n)) (IsPure n)
  unfolding disjunction
  pure_of i =
      separated_accepts (sees sign.Bar) (word.Sign sign.Bar) (seen sign.Bar) (conj (item n)) (AreItems n) conj_of i ▷ λ cs j h.
      yield (grammar.pure (to_cases n cs i j h))

  closed_of : Accepts (closed (item n)) (IsClosed n)
  unfolding closed
  closed_of i = pure_of i ▷ λ p j h. after_sign _ _ (λ c. yield (is_closed h c))

  binder_of : Accepts (binder (item n)) (λ b. IsBinder n b.0 b.1)
  unfolding binder
  binder_of i = name_accepts (next i) ▷ λ x j is_x. after_sign _ _ (λ d. closed_of (next j) ▷ λ p k h. yield (is_binder is_x d h))

-- ---- items

-- at the level below
abbrev Below : ℕ → Type 0
Below zero = Unit {0}
Below (suc n) = Accepts (item n) (IsItem n)

negation_yields : (n : ℕ) → Below n → (i : Input) → IsSign sign.Bang i → Yields (negation n (levels_of n) i) (λ k j. IsItemKind n k i j)
unfolding levels_of negation
negation_yields zero below i is = yields_none
negation_yields (suc n) below i is = below (next i) ▷ λ x j h. yield (grammar.negation is h)

group_from : (n : ℕ) (p : PureTree) (i j : Input) → IsSign sign.OpenParen i → IsClosed n p (next i) j → IsItemKind (suc n) (kind.Group p) i j
group_from n p i _ is (is_closed h c) = grammar.group is h c

exists_from : (n : ℕ) (x : Ident) (p : PureTree) (i j : Input) → IsSign sign.OpenParen i → IsKey key.Exists (next i) → IsBinder n x p (next i) j
    → IsItemKind (suc n) (kind.Exists x p) i j
exists_from n x p i _ is k (is_binder a b (is_closed h c)) = grammar.exists is k a b h c

forall_from : (n : ℕ) (x : Ident) (p : PureTree) (i j : Input) → IsSign sign.OpenParen i → IsKey key.Forall (next i) → IsBinder n x p (next i) j
    → IsItemKind (suc n) (kind.Forall x p) i j
forall_from n x p i _ is k (is_binder a b (is_closed h c)) = grammar.forall is k a b h c

group_at : (n : ℕ) → Below (suc n) → (w : Word) (i : Input) → IsSign sign.OpenParen i → next_word (next i) ≡ w
    → Yields (group_by (suc n) (levels_of (suc n)) w (next i)) (λ k j. IsItemKind (suc n) k i j)
unfolding levels_of
group_at n below (word.Key key.Exists) i is k = binder_of n below (next i) ▷ λ b j h. yield (exists_from n b.0 b.1 i j is k h)
group_at n below (word.Key key.Forall) i is k = binder_of n below (next i) ▷ λ b j h. yield (forall_from n b.0 b.1 i j is k h)
group_at n below w i is k = closed_of n below (next i) ▷ λ p j h. yield (group_from n p i j is h)

group_yields : (n : ℕ) → Below n → (i : Input) → IsSign sign.OpenParen i → Yields (group n (levels_of n) i) (λ k j. IsItemKind n k i j)
unfolding levels_of group
group_yields zero below i is = yields_none
group_yields (suc n) below i is = group_at n below (next_word (next i)) i is refl

inner_closed : (n : ℕ) → Below (suc n) → (i : Input) → Yields (closed (inner (levels_of (suc n))) i) (λ p j. IsClosed n p i j)
unfolding levels_of
inner_closed n below i = closed_of n below i

-- the expression in `divides` has a level less
lower_expr : (n : ℕ) (i : Input) → Yields (expr (suc n - 1) i) (λ e j. IsExpr n e i j)
lower_expr n i = let same : n ≡ suc n - 1 = omega arith in subst (λ m. Yields (expr m i) (λ e j. IsExpr n e i j)) same (expr_accepts n i)

all_from : (n : ℕ) (x : Ident) (e : ExprTree) (p : PureTree) (i j k l : Input) → IsKey key.All i → IsName x (next i) j → IsKey key.In j
    → IsExpr (suc n) e (next j) k → IsSign sign.Colon k → IsSign sign.OpenParen (next k) → IsClosed n p (next (next k)) l → IsItemKind (suc n) (kind.All x e p) i l
all_from n x e p i j k _ a b c d f g (is_closed h o) = grammar.all a b c d f g h o

-- behind an opening parenthesis, where a level is left
after_paren : {A : Type 0} {S : A → Input → Type 0} (n : ℕ) (f : Unit {0} → Parser A) (i : Input)
    → (IsSign sign.OpenParen i → Yields (f tt (next i)) S) → Yields (and_then (opening_paren (levels_of (suc n)) i) f) S
unfolding opening_paren levels_of
after_paren n f i g = elim (cases_Bool (sees sign.OpenParen i)) [ inl e ↦ rw e (g (seen sign.OpenParen i e)) | inr e ↦ rw e yields_none ]

no_paren : {A : Type 0} {S : A → Input → Type 0} (f : Unit {0} → Parser A) (i : Input) → Yields (and_then (opening_paren (levels_of zero) i) f) S
unfolding opening_paren levels_of
no_paren f i = elim (cases_Bool (sees sign.OpenParen i)) [ inl e ↦ rw e yields_none | inr e ↦ rw e yields_none ]

all_yields : (n : ℕ) → Below n → (i : Input) → IsKey key.All i → Yields (all n (levels_of n) i) (λ k j. IsItemKind n k i j)
unfolding all
all_yields zero below i is =
    name_accepts (next i) ▷ λ x j is_x. after_key _ _ (λ c. expr_accepts zero (next j) ▷ λ e k is_e. after_sign _ _ (λ f. no_paren _ (next k)))
all_yields (suc n) below i is =
    name_accepts (next i) ▷ λ x j is_x. after_key _ _ (λ c. expr_accepts (suc n) (next j) ▷ λ e k is_e. after_sign _ _ (λ f.
    after_paren n _ (next k) (λ o. inner_closed n below (next (next k)) ▷ λ p l h. yield (all_from n x e p i j k l is is_x c is_e f o h))))

divides_from : (n d : ℕ) (e : ExprTree) (i j k : Input) → IsKey key.Divides i → IsSign sign.OpenParen (next i) → next_word (next (next i)) ≡ word.Number d → j ≡ next (next (next i))
    → IsSign sign.Comma j → IsExpr n e (next j) k → IsSign sign.CloseParen k → IsItemKind (suc n) (kind.Divides d e) i (next k)
divides_from n d e i j k is o num at c h f =
    grammar.divides is o num (subst (IsSign sign.Comma) at c) (subst (λ (m : Input). IsExpr n e (next m) k) at h) f

divides_yields : (n : ℕ) → (i : Input) → IsKey key.Divides i → Yields (divides n (levels_of n) i) (λ k j. IsItemKind n k i j)
unfolding divides
divides_yields zero i is = no_paren _ (next i)
divides_yields (suc n) i is =
    after_paren n _ (next i) (λ o. number_yields (next (next i)) ▷ λ d j num. after_sign _ _ (λ c. lower_expr n (next j) ▷ λ e k h.
    after_sign _ _ (λ f. yield (divides_from n d e i j k is o num.0 num.1 c h f))))

kind_at : (n : ℕ) → Below n → (w : Word) (i : Input) → next_word i ≡ w → Yields (kind_by n (levels_of n) w i) (λ k j. IsItemKind n k i j)
kind_at n below (word.Key key.True) i is = yield (grammar.holds is)
kind_at n below (word.Key key.False) i is = yield (grammar.fails is)
kind_at n below (word.Sign sign.Bang) i is = negation_yields n below i is
kind_at n below (word.Sign sign.OpenParen) i is = group_yields n below i is
kind_at n below (word.Key key.All) i is = all_yields n below i is
kind_at n below (word.Key key.Divides) i is = divides_yields n i is
kind_at n below w i is = comparison_accepts n i

level_accepts : (n : ℕ) → Below n → Accepts (item n) (IsItem n)
unfolding level item_kind
level_accepts n below i = kind_at n below (next_word i) i refl ▷ λ k j h. yield (grammar.item h)

-- what is read as an item is spelled so
pub item_accepts : (n : ℕ) → Accepts (item n) (IsItem n)
item_accepts zero = level_accepts zero tt
item_accepts (suc n) = level_accepts (suc n) (item_accepts n)

pub conj_accepts : (n : ℕ) → Accepts (conj (item n)) (AreItems n)
conj_accepts n = conj_of n (item_accepts n)

pub pure_accepts : (n : ℕ) → Accepts (disjunction (item n)) (IsPure n)
pure_accepts n = pure_of n (item_accepts n)
