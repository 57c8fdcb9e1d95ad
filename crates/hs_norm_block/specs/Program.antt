-- Names, kinds and numbers of arguments in the block of a method. A block keeps its tree.
use Rattle.std.specs.Prelude.{ℕ, ◌^◌, ◌++◌, Bool, true, false, nat_eq, nat_le, nat_lt, List, [], ◌∷◌, length, Option, Some, None, sum_by, if◌then◌else◌}
use Rattle.std.specs.List.{flat_map, fold}
use Rattle.hs_tree.specs.declared.ident.Ident.{Ident}
use Rattle.hs_tree.specs.declared.expr.PartTree.{PartTree}
use Rattle.hs_tree.specs.declared.expr.PartTree.TheVariants as part
use Rattle.hs_tree.specs.declared.expr.ExprTree.{ExprTree}
use Rattle.hs_tree.specs.declared.expr.ExprKind.{ExprKind}
use Rattle.hs_tree.specs.declared.expr.ExprKind.TheVariants as expr
use Rattle.hs_tree.specs.declared.method.TypeTree.{TypeTree}
use Rattle.hs_tree.specs.declared.method.CallTree.{CallTree}
use Rattle.hs_tree.specs.declared.method.ValueTree.{ValueTree}
use Rattle.hs_tree.specs.declared.method.ValueTree.TheVariants as value_of
use Rattle.hs_tree.specs.declared.method.BlockTree.{BlockTree, BlockTree-F, fold-BlockTree}
use Rattle.hs_tree.specs.declared.method.StatementTree.{StatementTree, StatementTree-F, fold-StatementTree}
use Rattle.hs_tree.specs.declared.method.StatementKind.TheOpen.{StatementKind-F}
use Rattle.hs_tree.specs.declared.method.CondTree.{CondTree, CondTree-F, fold-CondTree}
use Rattle.hs_tree.specs.declared.method.TestTree.{TestTree, TestTree-F, fold-TestTree}
use Rattle.hs_tree.specs.declared.method.TestKind.TheOpen.{TestKind-F}
use Rattle.hs_numbering.specs.declared.fault.Problem.TheVariants.{Kind, Shape}
use Rattle.hs_numbering.specs.Names.{is_upper}
use Rattle.hs_numbering.specs.Numbering.{Builder, ◌>>=◌, ◌>>◌, pure, blame}
use Rattle.hs_norm_formula.specs.declared.table.Entry.{Entry}
use Rattle.hs_norm_formula.specs.Table.{entry}
use Rattle.hs_norm_formula.specs.Formula.{blame_arity}
use Rattle.hs_norm_formula.specs.Sum.{blame_kind}
use Rattle.hs_declared.specs.Names.{place, item_at}
use Rattle.hs_declared.specs.declared.declarations.Declarations.{Declarations}
use Rattle.hs_declared.specs.Types.{undeclared, as_node, type_of}

abbrev pub Check : Type 0
Check = Builder (Unit {0})

-- each of a list, whose answers say nothing
abbrev pub all : {A : Type 0} → (A → Check) → List A → Check
all f xs = λ n. fold (λ done x. f x done.1) (tt, n) xs

-- ---- locals

abbrev pub branch_locals : Option (List Ident) → List Ident
branch_locals None = []
branch_locals (Some xs) = xs

abbrev pub kind_locals : StatementKind-F (List Ident) (List Ident) (List Ident) → List Ident
kind_locals (StatementKind-F.Local kind x value) = x ∷ []
kind_locals (StatementKind-F.Assign x value) = []
kind_locals (StatementKind-F.Store x f e) = []
kind_locals (StatementKind-F.Call c) = []
kind_locals (StatementKind-F.Branch c body other) = body ++ branch_locals other
kind_locals (StatementKind-F.Return e) = []

abbrev pub statement_locals : StatementTree → List Ident
statement_locals = fold-StatementTree (List Ident) (List Ident) (List Ident) kind_locals (λ b. flat_map (λ xs. xs) b.statements) (λ s. s.kind)

abbrev pub locals : BlockTree → List Ident
locals = fold-BlockTree (List Ident) (List Ident) (List Ident) kind_locals (λ b. flat_map (λ xs. xs) b.statements) (λ s. s.kind)

-- whether the first of a name is before a place
abbrev pub is_before : ℕ → Option Ident → Bool
is_before at None = false
is_before at (Some x) = nat_lt x.at at

abbrev pub part_weight : Bool × PartTree → ℕ
part_weight (minus, part.Number m) = m
part_weight (minus, part.Times m x) = m
part_weight (minus, part.Name x) = 1
part_weight (minus, part.Null) = 0

abbrev pub blame_heavy : ℕ → Bool → Check
blame_heavy at true = pure tt
blame_heavy at false = blame at Shape

abbrev pub call_by : CallTree → Option ℕ → Check
call_by c None = undeclared c.name
call_by c (Some count) = blame_arity c.name.at (nat_eq count (length c.args))

abbrev pub node_by : ℕ → Ident → ℕ → Option (ℕ × Entry) → Check
node_by at x count None = undeclared x
node_by at x count (Some d) = blame_arity at (nat_eq (length d.1.kinds) count)

abbrev pub optional : {A : Type 0} → (A → Check) → Option A → Check
optional f None = pure tt
optional f (Some a) = f a

-- in a source with these declarations, in a method with these parameters and locals
module _ (d : Declarations) (names : List Ident) where
  -- a name is known from its declaration on, whatever block that stands in
  abbrev pub use_name : Ident → Check
  use_name x = if is_before x.at (item_at names (place x.text names)) then pure tt else undeclared x

  -- ---- expressions, which are numbers

  abbrev pub use_part : Bool × PartTree → Check
  use_part (minus, part.Number m) = pure tt
  use_part (minus, part.Times m x) = use_name x
  use_part (minus, part.Name x) = use_name x
  use_part (minus, part.Null) = pure tt

  -- its numbers add up to at most 2^126
  abbrev pub sum : ℕ → List (Bool × PartTree) → Check
  sum at parts = all use_part parts >> blame_heavy at (nat_le (sum_by part_weight parts) (2 ^ 126))

  abbrev pub expression_by : ExprKind → ℕ → Check
  expression_by (expr.Sum parts) at = sum at parts
  expression_by _ at = blame at Kind

  abbrev pub expression : ExprTree → Check
  expression e = expression_by e.kind e.at

  -- ---- calls and values

  abbrev pub call : CallTree → Check
  call c = call_by c (item_at d.counts (place c.name.text d.methods)) >> all expression c.args

  abbrev pub value : ValueTree → Check
  value (value_of.New at x args) = node_by at x (length args) (as_node (entry x.text d.table)) >> all expression args
  value (value_of.Call c) = call c
  value (value_of.Load x f) = use_name x
  value (value_of.Value e) = expression e

  -- ---- conditions

  abbrev pub test_kind : TestKind-F Check Check Check → Check
  test_kind (TestKind-F.Not t) = t
  test_kind (TestKind-F.Group c) = c
  test_kind (TestKind-F.Rel r a b) = expression a >> expression b

  abbrev pub test : TestTree → Check
  test = fold-TestTree Check Check Check test_kind (λ c. all (all (λ t. t)) c.cases) (λ t. t.kind)

  abbrev pub condition : CondTree → Check
  condition = fold-CondTree Check Check Check test_kind (λ c. all (all (λ t. t)) c.cases) (λ t. t.kind)

  -- ---- statements

  abbrev pub local_type : TypeTree → Check
  local_type t = type_of d.table t >> pure tt

  abbrev pub statement_kind : StatementKind-F Check Check Check → Check
  statement_kind (StatementKind-F.Local kind x v) = local_type kind >> blame_kind x.at (is_upper x.text) >> optional value v
  statement_kind (StatementKind-F.Assign x v) = use_name x >> value v
  statement_kind (StatementKind-F.Store x f e) = use_name x >> expression e
  statement_kind (StatementKind-F.Call c) = call c
  statement_kind (StatementKind-F.Branch c body other) = condition c >> body >> optional (λ b. b) other
  statement_kind (StatementKind-F.Return e) = optional expression e

  abbrev pub statement : StatementTree → Check
  statement = fold-StatementTree Check Check Check statement_kind (λ b. all (λ s. s) b.statements) (λ s. s.kind)

  abbrev pub block : BlockTree → Check
  block = fold-BlockTree Check Check Check statement_kind (λ b. all (λ s. s) b.statements) (λ s. s.kind)
