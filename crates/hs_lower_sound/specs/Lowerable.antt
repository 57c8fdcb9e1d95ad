-- What is asked of a source in normal form that is lowered.
use Rattle.std.specs.Prelude.{◌≡◌, length, Some}
use Rattle.std.specs.List.{All, Contains}
use Rattle.hs_heap.specs.declared.definitions.NodeDef.{NodeDef}
use Rattle.hs_heap.specs.Sound.{IsSound}
use Rattle.hs_norm.specs.declared.resolved.MethodTree.{MethodTree}
use Rattle.hs_norm.specs.declared.resolved.Resolved.{Resolved}
use Rattle.hs_norm_sound.specs.Uses.{Use, Name, Call, New, Kind, Number, block_uses}
use Rattle.hs_norm_sound.specs.Methods.{IsLightSum, TypeIsThere, KindIsThere, OptionIsThere}
use Rattle.hs_core.specs.Sound.{PairFits}
use Rattle.hs_lower_scope.specs.declared.variable.Variable.{Variable}
use Rattle.hs_lower_scope.specs.Scope.{Scope, scope_of, method_named, node_named}
use Rattle.hs_lower.specs.Lowering.{pair_of, method_of}

-- what is used is there, with as many parameters or fields: the first method or data type of the name
abbrev pub IsThere : Scope → Use → Type 0
IsThere scope (Name x) = (v : Variable) × Contains scope.variables v × (v.name ≡ x.text)
IsThere scope (Call c) = (m : MethodTree) × (method_named scope c.name.text ≡ Some m) × (length m.params ≡ length c.args)
IsThere scope (New x count) = (d : NodeDef) × (node_named scope x.text ≡ Some d) × (length d.fields ≡ count)
IsThere scope (Kind t) = TypeIsThere scope.defs t
IsThere scope (Number e) = IsLightSum e.kind

-- a method whose types and uses are there, and whose pairs are of the normal form
pub record MethodIsLowerable (r : Resolved) (m : MethodTree) : Type 0 where
  pub params : All (λ p. KindIsThere r.defs p.kind) m.params
  pub result : OptionIsThere r.defs m.result
  pub uses : All (IsThere (scope_of r m)) (block_uses m.block)
  pub pairs : All (λ p. PairFits r.defs (method_of r m) (pair_of p)) m.pairs

-- the definitions are sound, and each method is as above
pub record IsLowerable (r : Resolved) : Type 0 where
  pub defs : IsSound r.defs
  pub methods : All (MethodIsLowerable r) r.methods
