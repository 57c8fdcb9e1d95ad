-- The grammar of formulas, a constructor for each way to spell a tree: the tokens from one place to another spell it.
-- The number says how many levels of nesting are left there.
use Rattle.std.specs.Prelude.{◌≡◌, ℕ, suc, Bool, true, false, List, [], ◌∷◌, Some}
use Rattle.hs_lex.specs.declared.token.Sign.TheVariants as sign
use Rattle.hs_tree.specs.declared.ident.Ident.{Ident}
use Rattle.hs_tree.specs.declared.expr.PartTree.{PartTree}
use Rattle.hs_tree.specs.declared.expr.PartTree.TheVariants as part
use Rattle.hs_tree.specs.declared.expr.ExprTree.{ExprTree}
use Rattle.hs_tree.specs.declared.expr.ExprKind.{ExprKind}
use Rattle.hs_tree.specs.declared.expr.ExprKind.TheVariants as kind
use Rattle.hs_tree.specs.declared.item.RelTree.{RelTree}
use Rattle.hs_tree.specs.declared.item.PureTree.{PureTree, roll-PureTree}
use Rattle.hs_tree.specs.declared.item.ItemTree.{ItemTree}
use Rattle.hs_tree.specs.declared.item.ItemKind.{ItemKind}
use Rattle.hs_tree.specs.declared.item.ItemKind.TheVariants as item_kind
use Rattle.hs_tree.specs.declared.formula.ArgTree.{ArgTree}
use Rattle.hs_tree.specs.declared.formula.ArgTree.TheVariants as arg_kind
use Rattle.hs_tree.specs.declared.formula.AtomTree.{AtomTree}
use Rattle.hs_tree.specs.declared.formula.DisjunctTree.{DisjunctTree}
use Rattle.hs_tree.specs.declared.formula.FormulaTree.{FormulaTree}
use Rattle.hs_words.specs.declared.word.Keyword.TheVariants as key
use Rattle.hs_words.specs.declared.word.Word.TheVariants as word
use Rattle.hs_words.specs.Input.{Input, next_word, next, place}
use Rattle.hs_words.specs.Grammar.{IsSign, IsKey, Separated, Repeated}
use Rattle.hs_read_pure.specs.Expr.{ident, begins_var}
use Rattle.hs_read_pure.specs.Item.{relation}

-- ---- names and sums

pub data IsName : Ident → Input → Input → Type 0 where
  named : {i : Input} → next_word i ≡ word.Name → IsName (ident i) i (next i)

-- a name, `self` or `res`
pub data IsVar : Ident → Input → Input → Type 0 where
  var : {i : Input} → begins_var (next_word i) ≡ true → IsVar (ident i) i (next i)

pub data IsPart : PartTree → Input → Input → Type 0 where
  number : {n : ℕ} {i : Input} → next_word i ≡ word.Number n → IsPart (part.Number n) i (next i)
  times : {n : ℕ} {x : Ident} {i j : Input} → next_word i ≡ word.Number n → IsSign sign.Star (next i) → IsVar x (next (next i)) j → IsPart (part.Times n x) i j
  variable : {x : Ident} {i j : Input} → IsVar x i j → IsPart (part.Name x) i j
  null : {i : Input} → IsKey key.Null i → IsPart part.Null i (next i)

-- a part behind its sign
pub data IsSigned : Bool × PartTree → Input → Input → Type 0 where
  added : {p : PartTree} {i j : Input} → IsSign sign.Plus i → IsPart p (next i) j → IsSigned (false, p) i j
  taken : {p : PartTree} {i j : Input} → IsSign sign.Minus i → IsPart p (next i) j → IsSigned (true, p) i j

pub data IsSum : List (Bool × PartTree) → Input → Input → Type 0 where
  plain : {p : PartTree} {ps : List (Bool × PartTree)} {i j k : Input} → IsPart p i j → Repeated IsSigned ps j k → IsSum ((false, p) ∷ ps) i k
  negative : {p : PartTree} {ps : List (Bool × PartTree)} {i j k : Input} → IsSign sign.Minus i → IsPart p (next i) j → Repeated IsSigned ps j k → IsSum ((true, p) ∷ ps) i k

-- ---- expressions

mutual
  pub data IsExpr : ℕ → ExprTree → Input → Input → Type 0 where
    expr : {n : ℕ} {k : ExprKind} {i j : Input} → IsKind n k i j → IsExpr n (record { kind = k; at = place i }) i j

  pub data IsKind : ℕ → ExprKind → Input → Input → Type 0 where
    sum : {n : ℕ} {ps : List (Bool × PartTree)} {i j : Input} → IsSum ps i j → IsKind n (kind.Sum ps) i j
    empty : {n : ℕ} {i : Input} → IsSign sign.OpenBrace i → IsSign sign.CloseBrace (next i) → IsKind (suc n) (kind.Braces []) i (next (next i))
    braces : {n : ℕ} {es : List ExprTree} {i j : Input} → IsSign sign.OpenBrace i → AreElements n es (next i) j → IsSign sign.CloseBrace j → IsKind (suc n) (kind.Braces es) i (next j)
    union : {n : ℕ} {l r : ExprTree} {i j : Input} → IsKey key.Union i → IsPair n l r (next i) j → IsKind (suc n) (kind.Union l r) i j
    inter : {n : ℕ} {l r : ExprTree} {i j : Input} → IsKey key.Inter i → IsPair n l r (next i) j → IsKind (suc n) (kind.Inter l r) i j
    diff : {n : ℕ} {l r : ExprTree} {i j : Input} → IsKey key.Diff i → IsPair n l r (next i) j → IsKind (suc n) (kind.Diff l r) i j

  pub data IsPair : ℕ → ExprTree → ExprTree → Input → Input → Type 0 where
    pair : {n : ℕ} {l r : ExprTree} {i j k : Input} → IsSign sign.OpenParen i → IsExpr n l (next i) j → IsSign sign.Comma j
        → IsExpr n r (next j) k → IsSign sign.CloseParen k → IsPair n l r i (next k)

  -- one or more, with commas between, of which each opens a level
  pub data AreElements : ℕ → List ExprTree → Input → Input → Type 0 where
    last : {n : ℕ} {e : ExprTree} {i j : Input} → IsExpr n e i j → AreElements n (e ∷ []) i j
    element : {n : ℕ} {e : ExprTree} {es : List ExprTree} {i j k : Input}
        → IsExpr (suc n) e i j → IsSign sign.Comma j → AreElements n es (next j) k → AreElements (suc n) (e ∷ es) i k

-- ---- conjunctions

mutual
  pub data IsPure : ℕ → PureTree → Input → Input → Type 0 where
    pure : {n : ℕ} {cs : List (List ItemTree)} {i j : Input} → AreCases n cs i j → IsPure n (roll-PureTree (record { cases = cs; at = place i })) i j

  pub data AreCases : ℕ → List (List ItemTree) → Input → Input → Type 0 where
    last_case : {n : ℕ} {c : List ItemTree} {i j : Input} → AreItems n c i j → AreCases n (c ∷ []) i j
    case : {n : ℕ} {c : List ItemTree} {cs : List (List ItemTree)} {i j k : Input}
        → AreItems n c i j → IsSign sign.Bar j → AreCases n cs (next j) k → AreCases n (c ∷ cs) i k

  pub data AreItems : ℕ → List ItemTree → Input → Input → Type 0 where
    last_item : {n : ℕ} {x : ItemTree} {i j : Input} → IsItem n x i j → AreItems n (x ∷ []) i j
    another_item : {n : ℕ} {x : ItemTree} {xs : List ItemTree} {i j k : Input}
        → IsItem n x i j → IsSign sign.Amp j → AreItems n xs (next j) k → AreItems n (x ∷ xs) i k

  pub data IsItem : ℕ → ItemTree → Input → Input → Type 0 where
    item : {n : ℕ} {k : ItemKind} {i j : Input} → IsItemKind n k i j → IsItem n (record { kind = k; at = place i }) i j

  pub data IsItemKind : ℕ → ItemKind → Input → Input → Type 0 where
    holds : {n : ℕ} {i : Input} → IsKey key.True i → IsItemKind n item_kind.True i (next i)
    fails : {n : ℕ} {i : Input} → IsKey key.False i → IsItemKind n item_kind.False i (next i)
    negation : {n : ℕ} {x : ItemTree} {i j : Input} → IsSign sign.Bang i → IsItem n x (next i) j → IsItemKind (suc n) (item_kind.Not x) i j
    group : {n : ℕ} {p : PureTree} {i j : Input}
        → IsSign sign.OpenParen i → IsPure n p (next i) j → IsSign sign.CloseParen j → IsItemKind (suc n) (item_kind.Group p) i (next j)
    exists : {n : ℕ} {x : Ident} {p : PureTree} {i j k : Input} → IsSign sign.OpenParen i → IsKey key.Exists (next i) → IsName x (next (next i)) j
        → IsSign sign.Dot j → IsPure n p (next j) k → IsSign sign.CloseParen k → IsItemKind (suc n) (item_kind.Exists x p) i (next k)
    forall : {n : ℕ} {x : Ident} {p : PureTree} {i j k : Input} → IsSign sign.OpenParen i → IsKey key.Forall (next i) → IsName x (next (next i)) j
        → IsSign sign.Dot j → IsPure n p (next j) k → IsSign sign.CloseParen k → IsItemKind (suc n) (item_kind.Forall x p) i (next k)
    all : {n : ℕ} {x : Ident} {e : ExprTree} {p : PureTree} {i j k l : Input} → IsKey key.All i → IsName x (next i) j → IsKey key.In j
        → IsExpr (suc n) e (next j) k → IsSign sign.Colon k → IsSign sign.OpenParen (next k) → IsPure n p (next (next k)) l → IsSign sign.CloseParen l
        → IsItemKind (suc n) (item_kind.All x e p) i (next l)
    divides : {n d : ℕ} {e : ExprTree} {i j : Input} → IsKey key.Divides i → IsSign sign.OpenParen (next i) → next_word (next (next i)) ≡ word.Number d
        → IsSign sign.Comma (next (next (next i))) → IsExpr n e (next (next (next (next i)))) j → IsSign sign.CloseParen j
        → IsItemKind (suc n) (item_kind.Divides d e) i (next j)
    rel : {n : ℕ} {r : RelTree} {x y : ExprTree} {i j k : Input} → IsExpr n x i j → relation (next_word j) ≡ Some r → IsExpr n y (next j) k
        → IsItemKind n (item_kind.Rel r x y) i k

-- ---- formulas

-- one or more names, with commas between
abbrev pub AreNames : List Ident → Input → Input → Type 0
AreNames = Separated IsName (word.Sign sign.Comma)

pub data IsArg (n : ℕ) : ArgTree → Input → Input → Type 0 where
  hole : {i : Input} → next_word i ≡ word.Hole → IsArg n (arg_kind.Hole (place i)) i (next i)
  value : {e : ExprTree} {i j : Input} → IsExpr n e i j → IsArg n (arg_kind.Value e) i j

-- in angle brackets
pub data AreArguments (n : ℕ) : List ArgTree → Input → Input → Type 0 where
  no_args : {i : Input} → IsSign sign.Less i → IsSign sign.Greater (next i) → AreArguments n [] i (next (next i))
  args : {xs : List ArgTree} {i j : Input} → IsSign sign.Less i → Separated (IsArg n) (word.Sign sign.Comma) xs (next i) j → IsSign sign.Greater j → AreArguments n xs i (next j)

pub data IsAtom (n : ℕ) : AtomTree → Input → Input → Type 0 where
  atom : {x y : Ident} {args : List ArgTree} {i j k l : Input} → IsVar x i j → IsSign sign.ColonColon j → IsName y (next j) k → AreArguments n args k l
      → IsAtom n (record { root = x; name = y; args = args }) i l

pub data IsHeap (n : ℕ) : List AtomTree → Input → Input → Type 0 where
  emp : {i : Input} → IsKey key.Emp i → IsHeap n [] i (next i)
  atoms : {ats : List AtomTree} {i j : Input} → Separated (IsAtom n) (word.Sign sign.Star) ats i j → IsHeap n ats i j

-- atoms and conjuncts
pub data IsBody (n : ℕ) : List AtomTree → List ItemTree → Input → Input → Type 0 where
  heap : {ats : List AtomTree} {i j : Input} → IsHeap n ats i j → IsBody n ats [] i j
  heap_and : {ats : List AtomTree} {xs : List ItemTree} {i j k : Input} → IsHeap n ats i j → IsSign sign.Amp j → AreItems n xs (next j) k → IsBody n ats xs i k
  conj : {xs : List ItemTree} {i j : Input} → AreItems n xs i j → IsBody n [] xs i j

-- what a disjunct binds
pub data AreBound : List Ident → Input → Input → Type 0 where
  unbound : {i : Input} → AreBound [] i i
  bound : {xs : List Ident} {i j : Input} → IsKey key.Exists i → AreNames xs (next i) j → IsSign sign.Dot j → AreBound xs i (next j)

pub data IsDisjunct (n : ℕ) : DisjunctTree → Input → Input → Type 0 where
  disjunct : {bs : List Ident} {ats : List AtomTree} {xs : List ItemTree} {i j k : Input} → AreBound bs i j → IsBody n ats xs j k
      → IsDisjunct n (record { bound = bs; atoms = ats; items = xs; at = place i }) i k

pub data IsFormula (n : ℕ) : FormulaTree → Input → Input → Type 0 where
  formula : {cs : List DisjunctTree} {i j : Input} → Separated (IsDisjunct n) (word.Key key.Or) cs i j → IsFormula n (record { cases = cs; at = place i }) i j
