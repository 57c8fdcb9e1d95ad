-- Which trees write a formula with each variable by its number, wherever their nodes stand. Parentheses round a
-- formula change nothing.
use Rattle.std.specs.Prelude.{◌≡◌, ℕ, ℤ, pos, neg_ℤ, Bool, false, if◌then◌else◌, List, [], ◌∷◌}
use Rattle.hs_tree.specs.declared.ident.Ident.{Ident}
use Rattle.hs_tree.specs.declared.expr.PartTree.{PartTree}
use Rattle.hs_tree.specs.declared.expr.PartTree.TheVariants as part
use Rattle.hs_tree.specs.declared.expr.ExprTree.{ExprTree}
use Rattle.hs_tree.specs.declared.expr.ExprKind.TheVariants as kind
use Rattle.hs_tree.specs.declared.item.RelTree.TheVariants as rel
use Rattle.hs_tree.specs.declared.item.PureTree.{PureTree, roll-PureTree}
use Rattle.hs_tree.specs.declared.item.ItemTree.{ItemTree}
use Rattle.hs_tree.specs.declared.item.ItemKind.{ItemKind}
use Rattle.hs_tree.specs.declared.item.ItemKind.TheVariants as item_kind
use Rattle.hs_tree.specs.declared.formula.ArgTree.{ArgTree}
use Rattle.hs_tree.specs.declared.formula.ArgTree.TheVariants as arg_kind
use Rattle.hs_tree.specs.declared.formula.AtomTree.{AtomTree}
use Rattle.hs_tree.specs.declared.formula.DisjunctTree.{DisjunctTree}
use Rattle.hs_tree.specs.declared.formula.FormulaTree.{FormulaTree}
use Rattle.hs_pure.specs.declared.var.Var.{Var}
use Rattle.hs_pure.specs.declared.lin.Lin.{Lin}
use Rattle.hs_pure.specs.declared.bag.Bag.{Bag}
use Rattle.hs_pure.specs.declared.bag.Bag.TheVariants as set
use Rattle.hs_pure.specs.declared.pure.Pure.{Pure}
use Rattle.hs_pure.specs.declared.pure.Pure.TheVariants as pure_of
use Rattle.hs_heap.specs.declared.formula.Atom.{Atom}
use Rattle.hs_heap.specs.declared.formula.Disjunct.{Disjunct}
use Rattle.hs_heap.specs.declared.formula.Formula.{Formula}
use Rattle.hs_heap.specs.declared.definitions.Defs.{Defs}
use Rattle.hs_print.specs.Variable.{numbered_text}
use Rattle.hs_print.specs.Formula.{of_text}

-- as many, and each beside its own
pub data Pairwise {A B : Type 0} (R : A → B → Type 0) : List A → List B → Type 0 where
  none : Pairwise R [] []
  another : {x : A} {y : B} {xs : List A} {ys : List B} → R x y → Pairwise R xs ys → Pairwise R (x ∷ xs) (y ∷ ys)

-- the variable by its number
abbrev pub Names : Var → Ident → Type 0
Names v x = x.text ≡ numbered_text v

-- ---- sums

abbrev pub signed : Bool → ℕ → ℤ
signed minus n = if minus then neg_ℤ (pos n) else pos n

-- n times the variable
pub data IsTimes (v : Var) : ℕ → PartTree → Type 0 where
  once : {n : ℕ} {x : Ident} → n ≡ 1 → Names v x → IsTimes v n (part.Name x)
  times : {n : ℕ} {x : Ident} → Names v x → IsTimes v n (part.Times n x)

-- the terms in order, then the constant, which may be left out where it is 0
pub data AreParts : List (Var × ℤ) → ℤ → List (Bool × PartTree) → Type 0 where
  nothing : {c : ℤ} → c ≡ pos 0 → AreParts [] c []
  constant : {c : ℤ} {minus : Bool} {n : ℕ} → c ≡ signed minus n → AreParts [] c ((minus, part.Number n) ∷ [])
  term : {t : Var × ℤ} {ts : List (Var × ℤ)} {c : ℤ} {minus : Bool} {n : ℕ} {p : PartTree} {ps : List (Bool × PartTree)}
      → t.1 ≡ signed minus n → IsTimes t.0 n p → AreParts ts c ps → AreParts (t ∷ ts) c ((minus, p) ∷ ps)

pub data IsSum (a : Lin) : ExprTree → Type 0 where
  sum : {ps : List (Bool × PartTree)} {at : ℕ} → AreParts a.terms a.constant ps → IsSum a (record { kind = kind.Sum ps; at = at })

-- ---- names alone, and bags

pub data IsBare (v : Var) : ExprTree → Type 0 where
  bare : {x : Ident} {at : ℕ} → Names v x → IsBare v (record { kind = kind.Sum ((false, part.Name x) ∷ []); at = at })

pub data IsBag : Bag → ExprTree → Type 0 where
  empty : {at : ℕ} → IsBag set.Empty (record { kind = kind.Braces []; at = at })
  name : {v : Var} {e : ExprTree} → IsBare v e → IsBag (set.Name v) e
  one : {a : Lin} {e : ExprTree} {at : ℕ} → IsSum a e → IsBag (set.One a) (record { kind = kind.Braces (e ∷ []); at = at })
  union : {a b : Bag} {l r : ExprTree} {at : ℕ} → IsBag a l → IsBag b r → IsBag (set.Union a b) (record { kind = kind.Union l r; at = at })
  inter : {a b : Bag} {l r : ExprTree} {at : ℕ} → IsBag a l → IsBag b r → IsBag (set.Inter a b) (record { kind = kind.Inter l r; at = at })
  diff : {a b : Bag} {l r : ExprTree} {at : ℕ} → IsBag a l → IsBag b r → IsBag (set.Diff a b) (record { kind = kind.Diff l r; at = at })

-- ---- pure formulas

mutual
  pub data IsItem : Pure → ItemTree → Type 0 where
    item : {p : Pure} {k : ItemKind} {at : ℕ} → IsKind p k → IsItem p (record { kind = k; at = at })

  pub data IsKind : Pure → ItemKind → Type 0 where
    truth : IsKind (pure_of.And []) item_kind.True
    falsity : IsKind (pure_of.Or []) item_kind.False
    negation : {p : Pure} {i : ItemTree} → IsItem p i → IsKind (pure_of.Not p) (item_kind.Not i)
    group : {p : Pure} {t : PureTree} → IsPure p t → IsKind p (item_kind.Group t)
    exists : {u : Var} {x : Ident} {p : Pure} {t : PureTree} → Names u x → IsPure p t → IsKind (pure_of.Exists u p) (item_kind.Exists x t)
    forall : {u : Var} {x : Ident} {p : Pure} {t : PureTree} → Names u x → IsPure p t → IsKind (pure_of.Forall u p) (item_kind.Forall x t)
    all : {u : Var} {x : Ident} {b : Bag} {e : ExprTree} {p : Pure} {t : PureTree}
        → Names u x → IsBag b e → IsPure p t → IsKind (pure_of.AllOf u b p) (item_kind.All x e t)
    divides : {d : ℕ} {a : Lin} {e : ExprTree} → IsSum a e → IsKind (pure_of.Divides (pos d) a) (item_kind.Divides d e)
    equal : {a b : Lin} {l r : ExprTree} → IsSum a l → IsSum b r → IsKind (pure_of.Eq a b) (item_kind.Rel rel.Eq l r)
    unequal : {a b : Lin} {l r : ExprTree} → IsSum a l → IsSum b r → IsKind (pure_of.Not (pure_of.Eq a b)) (item_kind.Rel rel.Ne l r)
    less : {a b : Lin} {l r : ExprTree} → IsSum a l → IsSum b r → IsKind (pure_of.Lt a b) (item_kind.Rel rel.Lt l r)
    at_most : {a b : Lin} {l r : ExprTree} → IsSum a l → IsSum b r → IsKind (pure_of.Le a b) (item_kind.Rel rel.Le l r)
    bags_equal : {a b : Bag} {l r : ExprTree} → IsBag a l → IsBag b r → IsKind (pure_of.BagEq a b) (item_kind.Rel rel.Eq l r)
    bags_unequal : {a b : Bag} {l r : ExprTree} → IsBag a l → IsBag b r → IsKind (pure_of.Not (pure_of.BagEq a b)) (item_kind.Rel rel.Ne l r)
    subset : {a b : Bag} {l r : ExprTree} → IsBag a l → IsBag b r → IsKind (pure_of.Subset a b) (item_kind.Rel rel.Subset l r)
    within : {a : Lin} {b : Bag} {l r : ExprTree} → IsSum a l → IsBag b r → IsKind (pure_of.Member a b) (item_kind.Rel rel.Within l r)

  -- an "or" of "and"s, where a single one is itself
  pub data IsPure : Pure → PureTree → Type 0 where
    one_case : {p : Pure} {c : List ItemTree} (at : ℕ) → IsConj p c → IsPure p (roll-PureTree (record { cases = c ∷ []; at = at }))
    several : {p q : Pure} {ps : List Pure} {c d : List ItemTree} {cs : List (List ItemTree)} (at : ℕ)
        → IsConj p c → IsConj q d → AreCases ps cs → IsPure (pure_of.Or (p ∷ q ∷ ps)) (roll-PureTree (record { cases = c ∷ d ∷ cs; at = at }))

  pub data AreCases : List Pure → List (List ItemTree) → Type 0 where
    no_case : AreCases [] []
    case : {p : Pure} {ps : List Pure} {c : List ItemTree} {cs : List (List ItemTree)} → IsConj p c → AreCases ps cs → AreCases (p ∷ ps) (c ∷ cs)

  -- an "and", where a single item is itself
  pub data IsConj : Pure → List ItemTree → Type 0 where
    one_item : {p : Pure} {i : ItemTree} → IsItem p i → IsConj p (i ∷ [])
    items : {p q : Pure} {ps : List Pure} {i j : ItemTree} {is : List ItemTree}
        → IsItem p i → IsItem q j → AreItems ps is → IsConj (pure_of.And (p ∷ q ∷ ps)) (i ∷ j ∷ is)

  pub data AreItems : List Pure → List ItemTree → Type 0 where
    no_item : AreItems [] []
    another_item : {p : Pure} {ps : List Pure} {i : ItemTree} {is : List ItemTree} → IsItem p i → AreItems ps is → AreItems (p ∷ ps) (i ∷ is)

-- ---- formulas

pub data IsArg (v : Var) : ArgTree → Type 0 where
  value : {e : ExprTree} → IsBare v e → IsArg v (arg_kind.Value e)

pub record IsAtom (defs : Defs) (a : Atom) (t : AtomTree) : Type 0 where
  pub root : Names a.root t.root
  pub of : t.name.text ≡ of_text defs a.of
  pub args : Pairwise IsArg a.args t.args

pub record IsDisjunct (defs : Defs) (d : Disjunct) (t : DisjunctTree) : Type 0 where
  pub bound : Pairwise Names d.bound t.bound
  pub atoms : Pairwise (IsAtom defs) d.atoms t.atoms
  pub items : AreItems d.pure t.items

-- the tree writes the formula over these definitions
abbrev pub Writes : Defs → Formula → FormulaTree → Type 0
Writes defs f t = Pairwise (IsDisjunct defs) f.cases t.cases
