-- The slots of an expression's term are those of its variables.
use Rattle.std.proofs.Common.{◌≡◌, ℕ, ℤ, ◌+ℤ◌, pos, Bool, true, false, List, [], ◌∷◌, map, take, drop, Option, Some, None, option_map, unwrap_or, suc}
use Rattle.std.specs.List.{fold, All, AllByRecursion, flat_map}
use Rattle.std.specs.Ordering.{int_eq}
use Rattle.std.proofs.lemmas.List.Elements.{All-append, All-cons, All-nil, All-head, All-tail, All-set, All-take, All-drop, All-map}
use Rattle.hs_tree.specs.declared.ident.Ident.{Ident}
use Rattle.hs_tree.specs.declared.expr.PartTree.{PartTree}
use Rattle.hs_tree.specs.declared.expr.PartTree.TheVariants as part
use Rattle.hs_tree.specs.declared.expr.ExprTree.{ExprTree}
use Rattle.hs_pure.specs.declared.var.Var.{Var}
use Rattle.hs_pure.specs.declared.lin.Lin.{Lin}
use Rattle.hs_norm_formula.specs.declared.sum.Term.{Term}
use Rattle.hs_norm_formula.specs.Sum.{place, changed, zero_sum, amount, so_far, with_number, small, add, added}
use Rattle.hs_lower_scope.specs.Scope.{Scope, slot_of}
use Rattle.hs_lower_scope.specs.Terms.{parts_of, part_variable, part_term, term_of}
use Rattle.hs_core.specs.Set.{slots_in}
use Rattle.hs_lower_set.proofs.Safe.{Slots, IsWithin, AreSet}

-- what holds of what is there
abbrev pub Holds : {A : Type 0} → (A → Type 0) → Option A → Type 0
Holds P None = Unit {0}
Holds P (Some a) = P a

holds_weaker : {A : Type 0} (P Q : A → Type 0) → ((a : A) → P a → Q a) → (o : Option A) → Holds P o → Holds Q o
holds_weaker P Q f None h = tt
holds_weaker P Q f (Some a) h = f a h

each_weaker : {A : Type 0} (P Q : A → Type 0) → ((a : A) → P a → Q a) → (xs : List A) → AllByRecursion P xs → AllByRecursion Q xs
each_weaker P Q f [] h = tt
each_weaker P Q f (x ∷ xs) h = (f x h.0, each_weaker P Q f xs h.1)

module _ (s : Slots) where
  -- ---- sums

  abbrev IsSet : Var × ℤ → Type 0
  IsSet t = s t.0.number ≡ true

  -- the slots of a sum are set
  abbrev pub SumIsSet : Lin → Type 0
  SumIsSet a = All IsSet a.terms

  abbrev VarIsSet : Var → Type 0
  VarIsSet v = s v.number ≡ true

  changed_set : (b d : Bool) (i : ℕ) (t : Var × ℤ) (ts : List (Var × ℤ)) → IsSet t → All IsSet ts → All IsSet (changed b d i t ts)
  changed_set true true i t ts one h = All-append IsSet (take i ts) (drop (suc i) ts) (All-take IsSet i ts h) (All-drop IsSet (suc i) ts h)
  changed_set true false i t ts one h = All-set IsSet ts i t one h
  changed_set false true i t ts one h = h
  changed_set false false i t ts one h = All-append IsSet (take i ts) (t ∷ drop i ts) (All-take IsSet i ts h) (All-cons IsSet t (drop i ts) one (All-drop IsSet i ts h))

  with_set : (a : Lin) (v : Option Var) (c : ℤ) → Holds VarIsSet v → SumIsSet a → SumIsSet (with_number a v c)
  with_set a None c one h = h
  with_set a (Some v) c one h = changed_set _ (int_eq c (pos 0)) (place v a.terms) (v, c) a.terms one h

  small_set : (a : Lin) (v : Option Var) (c : Option ℤ) → Holds VarIsSet v → SumIsSet a → Holds SumIsSet (option_map (with_number a v) c)
  small_set a v None one h = tt
  small_set a v (Some c) one h = with_set a v c one h

  add_set : (o : Option Lin) (t : Term) → Holds VarIsSet t.var → Holds SumIsSet o → Holds SumIsSet (add o t)
  add_set None t one h = tt
  add_set (Some a) t one h = small_set a t.var (small (so_far a t.var +ℤ amount t)) one h

  added_set : (ts : List Term) (o : Option Lin) → AllByRecursion (λ (t : Term). Holds VarIsSet t.var) ts → Holds SumIsSet o → Holds SumIsSet (fold add o ts)
  added_set [] o each h = h
  added_set (t ∷ ts) o each h = added_set ts (add o t) each.1 (add_set o t each.0 h)

  or_zero : (o : Option Lin) → Holds SumIsSet o → SumIsSet (unwrap_or o zero_sum)
  or_zero None h = All-nil IsSet
  or_zero (Some a) h = h

  pub slots_set : (a : Lin) → SumIsSet a → AreSet s (slots_in a)
  slots_set a h = All-map (λ k. s k ≡ true) (λ (t : Var × ℤ). t.0.number) a.terms h

  pub flat_set : (sums : List Lin) → All SumIsSet sums → AreSet s (flat_map slots_in sums)
  flat_set [] h = All-nil (λ k. s k ≡ true)
  flat_set (a ∷ sums) h = All-append (λ k. s k ≡ true) (slots_in a) (flat_map slots_in sums) (slots_set a (All-head SumIsSet a sums h)) (flat_set sums (All-tail SumIsSet a sums h))

  -- ---- expressions

  module _ (scope : Scope) where
    abbrev pub NameIsSet : Ident → Type 0
    NameIsSet x = s (slot_of scope x.text) ≡ true

    abbrev pub PartIsSet : Bool × PartTree → Type 0
    PartIsSet p = Holds NameIsSet (part_variable p)

    -- the variables of an expression are set
    abbrev pub ExprIsSet : ExprTree → Type 0
    ExprIsSet e = AllByRecursion PartIsSet (parts_of e.kind)

    part_set : (p : Bool × PartTree) → PartIsSet p → Holds VarIsSet (part_term scope p).var
    part_set (minus, part.Number m) h = tt
    part_set (minus, part.Times m x) h = h
    part_set (minus, part.Name x) h = h
    part_set (minus, part.Null) h = tt

    parts_set : (ps : List (Bool × PartTree)) → AllByRecursion PartIsSet ps → AllByRecursion (λ (t : Term). Holds VarIsSet t.var) (map (part_term scope) ps)
    parts_set [] h = tt
    parts_set (p ∷ ps) h = (part_set p h.0, parts_set ps h.1)

    pub term_set : (e : ExprTree) → ExprIsSet e → SumIsSet (term_of scope e)
    term_set e h = or_zero (added (map (part_term scope) (parts_of e.kind))) (added_set (map (part_term scope) (parts_of e.kind)) (Some zero_sum) (parts_set (parts_of e.kind) h) (All-nil IsSet))

-- what is set stays so where more is set
module _ (scope : Scope) (s t : Slots) (w : IsWithin s t) where
  part_wider : (p : Bool × PartTree) → PartIsSet s scope p → PartIsSet t scope p
  part_wider p h = holds_weaker (NameIsSet s scope) (NameIsSet t scope) (λ x. w (slot_of scope x.text)) (part_variable p) h

  pub expr_wider : (e : ExprTree) → ExprIsSet s scope e → ExprIsSet t scope e
  expr_wider e h = each_weaker (PartIsSet s scope) (PartIsSet t scope) part_wider (parts_of e.kind) h
