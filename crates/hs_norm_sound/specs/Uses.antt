-- What a block uses, from its tree alone.
use Rattle.std.specs.Prelude.{ℕ, Bool, List, [], ◌∷◌, ◌++◌, length, Option, Some, None}
use Rattle.std.specs.List.{flat_map}
use Rattle.hs_tree.specs.declared.ident.Ident.{Ident}
use Rattle.hs_tree.specs.declared.expr.PartTree.{PartTree}
use Rattle.hs_tree.specs.declared.expr.PartTree.TheVariants as part
use Rattle.hs_tree.specs.declared.expr.ExprTree.{ExprTree}
use Rattle.hs_tree.specs.declared.expr.ExprKind.{ExprKind}
use Rattle.hs_tree.specs.declared.expr.ExprKind.TheVariants as expr
use Rattle.hs_tree.specs.declared.method.TypeTree.{TypeTree}
use Rattle.hs_tree.specs.declared.method.CallTree.{CallTree}
use Rattle.hs_tree.specs.declared.method.ValueTree.{ValueTree}
use Rattle.hs_tree.specs.declared.method.ValueTree.TheVariants as value_of
use Rattle.hs_tree.specs.declared.method.BlockTree.{BlockTree, fold-BlockTree}
use Rattle.hs_tree.specs.declared.method.StatementTree.{StatementTree, fold-StatementTree}
use Rattle.hs_tree.specs.declared.method.StatementKind.TheOpen.{StatementKind-F}
use Rattle.hs_tree.specs.declared.method.CondTree.{CondTree, fold-CondTree}
use Rattle.hs_tree.specs.declared.method.TestTree.{TestTree, fold-TestTree}
use Rattle.hs_tree.specs.declared.method.TestKind.TheOpen.{TestKind-F}

-- What a block uses: a variable, a method, a data type with so many arguments, a local's type, a number.
pub data Use : Type 0 where
  Name : (x : Ident) → Use
  Call : (c : CallTree) → Use
  New : (x : Ident) (count : ℕ) → Use
  Kind : (t : TypeTree) → Use
  Number : (e : ExprTree) → Use

-- ---- expressions

-- the names in a part of a sum
abbrev pub part_uses : Bool × PartTree → List Use
part_uses (minus, part.Number m) = []
part_uses (minus, part.Times m x) = Name x ∷ []
part_uses (minus, part.Name x) = Name x ∷ []
part_uses (minus, part.Null) = []

-- the names in a sum
abbrev pub names_in : ExprKind → List Use
names_in (expr.Sum parts) = flat_map part_uses parts
names_in _ = []

-- an expression where a number belongs, and its names
abbrev pub number_uses : ExprTree → List Use
number_uses e = Number e ∷ names_in e.kind

-- a call, and its arguments
abbrev pub call_uses : CallTree → List Use
call_uses c = Call c ∷ flat_map number_uses c.args

-- what gives a value
abbrev pub value_uses : ValueTree → List Use
value_uses (value_of.New at x args) = New x (length args) ∷ flat_map number_uses args
value_uses (value_of.Call c) = call_uses c
value_uses (value_of.Load x f) = Name x ∷ []
value_uses (value_of.Value e) = number_uses e

-- what may be missing
abbrev pub optional_uses : {A : Type 0} → (A → List Use) → Option A → List Use
optional_uses f None = []
optional_uses f (Some a) = f a

-- ---- conditions

-- those of a test, from those of its parts
abbrev pub test_kind_uses : TestKind-F (List Use) (List Use) (List Use) → List Use
test_kind_uses (TestKind-F.Not t) = t
test_kind_uses (TestKind-F.Group c) = c
test_kind_uses (TestKind-F.Rel r a b) = number_uses a ++ number_uses b

-- the uses of a condition
abbrev pub condition_uses : CondTree → List Use
condition_uses = fold-CondTree (List Use) (List Use) (List Use) test_kind_uses (λ c. flat_map (flat_map (λ t. t)) c.cases) (λ t. t.kind)

-- the uses of a test
abbrev pub test_uses : TestTree → List Use
test_uses = fold-TestTree (List Use) (List Use) (List Use) test_kind_uses (λ c. flat_map (flat_map (λ t. t)) c.cases) (λ t. t.kind)

-- ---- statements

-- those of a statement, from those of its parts
abbrev pub statement_kind_uses : StatementKind-F (List Use) (List Use) (List Use) → List Use
statement_kind_uses (StatementKind-F.Local kind x v) = Kind kind ∷ optional_uses value_uses v
statement_kind_uses (StatementKind-F.Assign x v) = Name x ∷ value_uses v
statement_kind_uses (StatementKind-F.Store x f e) = Name x ∷ number_uses e
statement_kind_uses (StatementKind-F.Call c) = call_uses c
statement_kind_uses (StatementKind-F.Branch c body other) = (condition_uses c ++ body) ++ optional_uses (λ b. b) other
statement_kind_uses (StatementKind-F.Return e) = optional_uses number_uses e

-- the uses of a statement
abbrev pub statement_uses : StatementTree → List Use
statement_uses = fold-StatementTree (List Use) (List Use) (List Use) statement_kind_uses (λ b. flat_map (λ s. s) b.statements) (λ s. s.kind)

-- the uses of a block
abbrev pub block_uses : BlockTree → List Use
block_uses = fold-BlockTree (List Use) (List Use) (List Use) statement_kind_uses (λ b. flat_map (λ s. s) b.statements) (λ s. s.kind)
