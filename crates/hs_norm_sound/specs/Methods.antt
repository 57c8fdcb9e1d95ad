-- What a method declares, and that it uses what is declared.
use Rattle.std.specs.Prelude.{◌≡◌, ◌≤◌, ◌<◌, ◌^◌, ℕ, false, List, length, map, Option, Some, None, sum_by}
use Rattle.std.specs.List.{All, AllZip, AllPairs, Contains}
use Rattle.hs_tree.specs.declared.ident.Ident.{Ident}
use Rattle.hs_tree.specs.declared.expr.ExprKind.{ExprKind}
use Rattle.hs_tree.specs.declared.expr.ExprKind.TheVariants as expr
use Rattle.hs_tree.specs.declared.method.TypeTree.{TypeTree}
use Rattle.hs_tree.specs.declared.method.TypeTree.TheVariants as tree
use Rattle.hs_tree.specs.declared.method.ParamTree.{ParamTree}
use Rattle.hs_tree.specs.declared.method.MethodSource.{MethodSource}
use Rattle.hs_heap.specs.declared.definitions.NodeDef.{NodeDef}
use Rattle.hs_heap.specs.declared.definitions.Defs.{Defs}
use Rattle.hs_numbering.specs.Names.{is_upper}
use Rattle.hs_declared.specs.declared.types.VarType.{VarType}
use Rattle.hs_declared.specs.declared.types.VarType.TheVariants as kind
use Rattle.hs_norm.specs.declared.resolved.Param.{Param}
use Rattle.hs_norm.specs.declared.resolved.MethodTree.{MethodTree}
use Rattle.hs_norm.specs.Normal.{own_names}
use Rattle.hs_norm_block.specs.Program.{part_weight}
use Rattle.hs_norm_sound.specs.Uses.{Use, Name, Call, New, Kind, Number, block_uses}

-- no two are equal
abbrev pub AreApart : List (List ℕ) → Type 0
AreApart names = AllPairs (λ x y. ¬ (x ≡ y)) names

-- it is a sum whose numbers, with 1 for each variable without a number, add up to at most 2^126
abbrev pub IsLightSum : ExprKind → Type 0
IsLightSum (expr.Sum parts) = sum_by part_weight parts ≤ 2 ^ 126
IsLightSum _ = ⊥

-- a data type of the name
abbrev pub HasNode : Defs → List ℕ → Type 0
HasNode defs name = (d : NodeDef) × Contains defs.nodes d × (d.name ≡ name)

-- the type is `int` or a data type that is there
abbrev pub TypeIsThere : Defs → TypeTree → Type 0
TypeIsThere defs (tree.Int at) = Unit {0}
TypeIsThere defs (tree.Named x) = HasNode defs x.text

-- the number is one of the data types
abbrev pub KindIsThere : Defs → VarType → Type 0
KindIsThere defs kind.Int = Unit {0}
KindIsThere defs (kind.Node k) = (1 ≤ k) × (k ≤ length defs.nodes)

-- so is that of a result, where there is one
abbrev pub OptionIsThere : Defs → Option VarType → Type 0
OptionIsThere defs None = Unit {0}
OptionIsThere defs (Some k) = KindIsThere defs k

-- over these definitions and methods, in a method with these parameters and locals
module _ (defs : Defs) (methods : List MethodSource) (names : List Ident) where
  -- a parameter or local of the name that is declared before
  abbrev pub IsKnown : Ident → Type 0
  IsKnown x = (y : Ident) × Contains names y × (y.text ≡ x.text) × (y.at < x.at)

  -- what is used is declared, with as many parameters or fields
  abbrev pub IsDeclared : Use → Type 0
  IsDeclared (Name x) = IsKnown x
  IsDeclared (Call c) = (m : MethodSource) × Contains methods m × (m.name.text ≡ c.name.text) × (length m.params ≡ length c.args)
  IsDeclared (New x count) = (d : NodeDef) × Contains defs.nodes d × (d.name ≡ x.text) × (length d.fields ≡ count)
  IsDeclared (Kind t) = TypeIsThere defs t
  IsDeclared (Number e) = IsLightSum e.kind

-- a parameter keeps its name, and its type is there
abbrev pub ParamFits : Defs → ParamTree → Param → Type 0
ParamFits defs p q = (q.name ≡ p.name.text) × KindIsThere defs q.kind

-- a method over these definitions and methods, and its tree
pub record MethodIsDeclared (defs : Defs) (methods : List MethodSource) (s : MethodSource) (m : MethodTree) : Type 0 where
  pub name : m.name ≡ s.name.text
  pub block : m.block ≡ s.block
  pub params : AllZip (ParamFits defs) s.params m.params
  pub result : OptionIsThere defs m.result
  -- the names of parameters and locals, in order
  pub apart : AreApart (map (λ x. x.text) (own_names s))
  pub lower : All (λ x. is_upper x.text ≡ false) (own_names s)
  pub uses : All (IsDeclared defs methods (own_names s)) (block_uses s.block)
