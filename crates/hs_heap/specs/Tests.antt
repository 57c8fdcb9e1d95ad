-- The tests that tell whether definitions are sound.
use Rattle.std.specs.Prelude.{ℕ, suc, ◌+◌, ◌^◌, ℤ, pos, Bool, true, false, not, ◌&&◌, ◌||◌, nat_lt, nat_le, ◌==◌, unsigned_abs, List, [], ◌∷◌, length, Option, Some, None}
use mathlib.Core.Bool.{beq}
use Rattle.std.specs.List.{list_all}
use Rattle.std.specs.Ordering.{int_eq}
use Rattle.hs_pure.specs.declared.var.Var.{Var}
use Rattle.hs_pure.specs.declared.lin.Lin.{Lin}
use Rattle.hs_pure.specs.declared.bag.Bag.{Bag, fold-Bag}
use Rattle.hs_pure.specs.declared.bag.Bag.TheOpen.{Bag-F}
use Rattle.hs_pure.specs.declared.pure.Pure.{Pure, fold-Pure}
use Rattle.hs_pure.specs.declared.pure.Pure.TheOpen.{Pure-F}
use Rattle.hs_pure.specs.Stack.{same}
use Rattle.hs_pure.specs.Occurs.{is_bags_plain}
use Rattle.hs_pure.specs.Sums.{weight}
use Rattle.hs_heap.specs.declared.formula.Of.{Of}
use Rattle.hs_heap.specs.declared.formula.Of.TheVariants.{Node, Pred}
use Rattle.hs_heap.specs.declared.formula.Atom.{Atom}
use Rattle.hs_heap.specs.declared.formula.Disjunct.{Disjunct}
use Rattle.hs_heap.specs.declared.definitions.NodeDef.{NodeDef}
use Rattle.hs_heap.specs.declared.definitions.PredDef.{PredDef}
use Rattle.hs_heap.specs.declared.definitions.Lemma.{Lemma}
use Rattle.hs_heap.specs.declared.definitions.Defs.{Defs}
use Rattle.hs_heap.specs.declared.scope.Scope.{Scope, fold-Scope}
use Rattle.hs_heap.specs.declared.scope.Scope.TheOpen.{Scope-F}
use Rattle.hs_heap.specs.declared.node.HeapNode.{HeapNode}
use Rattle.hs_heap.specs.Meaning.{is_in, pred_at, self_var}
use Rattle.hs_heap.specs.Sound.{node_at}
use Rattle.hs_heap.specs.WellFormed.{is_and}

abbrev pub number_fits : ℕ → Var → Bool
number_fits next v = nat_le 1 v.number && nat_lt v.number next

abbrev pub in_scope_level : Scope-F (Var → Bool) → Var → Bool
in_scope_level (Scope-F.Listed vs) v = is_in v vs.now
in_scope_level (Scope-F.Numbered vs next) v = number_fits next v && is_in v vs.now
in_scope_level (Scope-F.With u outer) v = same v u || outer.now v
in_scope_level (Scope-F.WithAll vs outer) v = is_in v vs.now || outer.now v

-- whether a scope has a variable
abbrev pub in_scope : Scope → Var → Bool
in_scope = fold-Scope (Var → Bool) in_scope_level

-- whether the terms are of number variables from n on, by rising number, without coefficient 0
abbrev pub rises_from : ℕ → List (Var × ℤ) → Bool
rises_from n [] = true
rises_from n (t ∷ ts) = nat_le n t.0.number && (not t.0.bag && (not (int_eq t.1 (pos 0)) && rises_from (suc t.0.number) ts))

abbrev pub is_light : Lin → Bool
is_light a = nat_le (weight a.terms + unsigned_abs a.constant) (2 ^ 126)

abbrev pub sum_fits : Lin → (Var → Bool) → Bool
sum_fits a scope = rises_from 0 a.terms && (is_light a && list_all (λ t. scope t.0) a.terms)

abbrev pub bag_fits_level : Bag-F ((Var → Bool) → Bool) → (Var → Bool) → Bool
bag_fits_level Bag-F.Empty scope = true
bag_fits_level (Bag-F.Name v) scope = v.bag && scope v
bag_fits_level (Bag-F.One a) scope = sum_fits a scope
bag_fits_level (Bag-F.Union a b) scope = a scope && b scope
bag_fits_level (Bag-F.Inter a b) scope = a scope && b scope
bag_fits_level (Bag-F.Diff a b) scope = a scope && b scope

abbrev pub bag_fits : Bag → (Var → Bool) → Bool
bag_fits = fold-Bag ((Var → Bool) → Bool) bag_fits_level

abbrev pub both_fit : List ((Var → Bool) → Bool) → (Var → Bool) → Bool
both_fit ps scope = not (length ps == 1) && list_all (λ p. p scope) ps

module _ (free : Var → Bool) (next : ℕ) where
  abbrev pub binder_fits : Var → Bool
  binder_fits u = not u.bag && (number_fits next u && not (free u))

  abbrev pub pure_fits_level : Pure-F ((Var → Bool) → Bool) → (Var → Bool) → Bool
  pure_fits_level (Pure-F.Eq a b) scope = sum_fits a scope && sum_fits b scope
  pure_fits_level (Pure-F.Lt a b) scope = sum_fits a scope && sum_fits b scope
  pure_fits_level (Pure-F.Le a b) scope = sum_fits a scope && sum_fits b scope
  pure_fits_level (Pure-F.Divides d a) scope = sum_fits a scope
  pure_fits_level (Pure-F.BagEq a b) scope = bag_fits a scope && bag_fits b scope
  pure_fits_level (Pure-F.Subset a b) scope = bag_fits a scope && bag_fits b scope
  pure_fits_level (Pure-F.Member a b) scope = sum_fits a scope && bag_fits b scope
  pure_fits_level (Pure-F.AllOf u b p) scope = bag_fits b scope && (binder_fits u && p (λ v. same v u || scope v))
  pure_fits_level (Pure-F.Not p) scope = p scope
  pure_fits_level (Pure-F.And ps) scope = both_fit ps scope
  pure_fits_level (Pure-F.Or ps) scope = both_fit ps scope
  pure_fits_level (Pure-F.Exists u p) scope = binder_fits u && p (λ v. same v u || scope v)
  pure_fits_level (Pure-F.Forall u p) scope = binder_fits u && p (λ v. same v u || scope v)

  -- whether what is free in a formula is in scope, and each of its parts fits
  abbrev pub pure_fits : Pure → (Var → Bool) → Bool
  pure_fits = fold-Pure ((Var → Bool) → Bool) pure_fits_level

  abbrev pub plain_fits : Pure → (Var → Bool) → Bool
  plain_fits p scope = is_bags_plain p && pure_fits p scope

  abbrev pub conjunct_fits : (Var → Bool) → Pure → Bool
  conjunct_fits scope p = not (is_and p) && plain_fits p scope

  abbrev pub bound_fits : Var → Bool
  bound_fits v = number_fits next v && not (free v)

-- ---- the form of a formula alone

abbrev pub bag_formed_level : Bag-F Bool → Bool
bag_formed_level Bag-F.Empty = true
bag_formed_level (Bag-F.Name v) = v.bag
bag_formed_level (Bag-F.One a) = rises_from 0 a.terms
bag_formed_level (Bag-F.Union a b) = a && b
bag_formed_level (Bag-F.Inter a b) = a && b
bag_formed_level (Bag-F.Diff a b) = a && b

abbrev pub bag_formed : Bag → Bool
bag_formed = fold-Bag Bool bag_formed_level

abbrev pub all_formed : List Bool → Bool
all_formed ps = not (length ps == 1) && list_all (λ p. p) ps

abbrev pub formed_level : Pure-F Bool → Bool
formed_level (Pure-F.Eq a b) = rises_from 0 a.terms && rises_from 0 b.terms
formed_level (Pure-F.Lt a b) = rises_from 0 a.terms && rises_from 0 b.terms
formed_level (Pure-F.Le a b) = rises_from 0 a.terms && rises_from 0 b.terms
formed_level (Pure-F.Divides d a) = rises_from 0 a.terms
formed_level (Pure-F.BagEq a b) = bag_formed a && bag_formed b
formed_level (Pure-F.Subset a b) = bag_formed a && bag_formed b
formed_level (Pure-F.Member a b) = rises_from 0 a.terms && bag_formed b
formed_level (Pure-F.AllOf u b p) = bag_formed b && (not u.bag && p)
formed_level (Pure-F.Not p) = p
formed_level (Pure-F.And ps) = all_formed ps
formed_level (Pure-F.Or ps) = all_formed ps
formed_level (Pure-F.Exists u p) = not u.bag && p
formed_level (Pure-F.Forall u p) = not u.bag && p

-- whether sums are in order, kinds fit and no connective has exactly one member
abbrev pub formed : Pure → Bool
formed = fold-Pure Bool formed_level

abbrev pub plain_formed : Pure → Bool
plain_formed p = is_bags_plain p && formed p

abbrev pub are_distinct : List Var → Bool
are_distinct [] = true
are_distinct (v ∷ vs) = not (is_in v vs) && are_distinct vs

-- whether the numbers are n, n + 1 and so on, and below next
abbrev pub follow_from : ℕ → ℕ → List Var → Bool
follow_from next n [] = true
follow_from next n (v ∷ vs) = (v.number == n) && (nat_lt n next && follow_from next (suc n) vs)

abbrev pub same_kinds : List Var → List Var → Bool
same_kinds [] ws = length ws == 0
same_kinds (v ∷ vs) [] = false
same_kinds (v ∷ vs) (w ∷ ws) = beq v.bag w.bag && same_kinds vs ws

-- whether the arguments are as many as the fields, and numbers
abbrev pub is_like_node : Option NodeDef → List Var → Bool
is_like_node None args = false
is_like_node (Some n) args = (length n.fields == length args) && list_all (λ v. not v.bag) args

-- whether the data type is there and has as many fields
abbrev pub has_fields : Option NodeDef → ℕ → Bool
has_fields None count = false
has_fields (Some n) count = length n.fields == count

-- whether the arguments are as many as the parameters, and of their kinds
abbrev pub is_like_pred : Option PredDef → List Var → Bool
is_like_pred None args = false
is_like_pred (Some p) args = same_kinds p.params args

-- whether the head of a predicate or a lemma is right: `self` and the parameters
abbrev pub head_fits : List Var → ℕ → Bool
head_fits params next = nat_lt 1 next && (nat_le next 1024 && follow_from next 2 params)

abbrev pub is_head : List Var → Var → Bool
is_head params v = same v self_var || is_in v params

module _ (defs : Defs) where
  abbrev pub arguments_fit : Of → List Var → Bool
  arguments_fit (Node n) args = is_like_node (node_at defs n) args
  arguments_fit (Pred n) args = is_like_pred (pred_at defs n) args

  -- the root is a number, and the arguments are as many and of the right kinds
  abbrev pub atom_alone_fits : Atom → Bool
  atom_alone_fits a = not a.root.bag && arguments_fit a.of a.args

  abbrev pub node_fits : HeapNode → Bool
  node_fits n = has_fields (node_at defs n.of) (length n.values)

  abbrev pub atom_fits : (Var → Bool) → Atom → Bool
  atom_fits scope a = not a.root.bag && (arguments_fit a.of a.args && (scope a.root && list_all scope a.args))

  module _ (free : Var → Bool) (next : ℕ) where
    abbrev pub parts_fit : (Var → Bool) → Disjunct → Bool
    parts_fit scope d = list_all (atom_fits scope) d.atoms && list_all (conjunct_fits free next scope) d.pure

    -- whether what is free in a disjunct is free, and each of its parts fits
    abbrev pub disjunct_fits : Disjunct → Bool
    disjunct_fits d = are_distinct d.bound && (list_all (bound_fits free next) d.bound && parts_fit (λ v. is_in v d.bound || free v) d)

    abbrev pub short_fits : Disjunct → Bool
    short_fits d = nat_le (length d.atoms) 64 && disjunct_fits d

  abbrev pub pred_parts_fit : PredDef → (Var → Bool) → Bool
  pred_parts_fit p free = head_fits p.params p.next && (nat_le (length p.body.cases) 16
      && (list_all (short_fits free p.next) p.body.cases && plain_fits free p.next p.inv free))

  abbrev pub pred_fits : PredDef → Bool
  pred_fits p = pred_parts_fit p (is_head p.params)

  abbrev pub lemma_parts_fit : Lemma → (Var → Bool) → Bool
  lemma_parts_fit l free = head_fits l.params l.next && (is_like_pred (pred_at defs l.pred) l.params && short_fits free l.next l.right)

  abbrev pub lemma_fits : Lemma → Bool
  lemma_fits l = lemma_parts_fit l (is_head l.params)

  abbrev pub defs_fit : Bool
  defs_fit = list_all pred_fits defs.preds && list_all lemma_fits defs.lemmas
