-- What a block of statements does: its runs, from values of the variables and a heap.
use Rattle.std.specs.Prelude.{◌≡◌, ℕ, ◌-◌, ℤ, pos, Bool, true, false, List, [], ◌∷◌, Option, Some, None, slice_set}
use Rattle.hs_tree.specs.declared.ident.Ident.{Ident}
use Rattle.hs_tree.specs.declared.expr.ExprTree.{ExprTree}
use Rattle.hs_tree.specs.declared.method.TypeTree.{TypeTree}
use Rattle.hs_tree.specs.declared.method.CondTree.{CondTree}
use Rattle.hs_tree.specs.declared.method.CallTree.{CallTree}
use Rattle.hs_tree.specs.declared.method.ValueTree.{ValueTree}
use Rattle.hs_tree.specs.declared.method.ValueTree.TheVariants as value_of
use Rattle.hs_tree.specs.declared.method.BlockTree.{BlockTree, roll-BlockTree}
use Rattle.hs_tree.specs.declared.method.StatementTree.{StatementTree}
use Rattle.hs_tree.specs.declared.method.StatementKind.{StatementKind}
use Rattle.hs_tree.specs.declared.method.StatementKind.TheVariants as kind
use Rattle.hs_heap.specs.Heap.{Heap, put_node}
use Rattle.hs_norm.specs.declared.resolved.MethodTree.{MethodTree}
use Rattle.hs_norm.specs.declared.resolved.Resolved.{Resolved}
use Rattle.hs_core.specs.Machine.{Place, HasNode, numbered, updated}
use Rattle.hs_lower_scope.specs.declared.variable.Field.{Field}
use Rattle.hs_lower_scope.specs.Scope.{scope_of, slot_of, kind_of, field_in, node_number, method_named}
use Rattle.hs_lower_meaning.specs.Values.{Values, all_values, expression_value, holds}

-- What a run comes to: the end, with these values; a return; or a fault, at a location without a node of the data type.
pub data Outcome : Type 0 where
  Goes : (w : Values) (h : Heap) → Outcome
  Gives : (result : Option ℤ) (h : Heap) → Outcome
  Fails : (q : ℤ) → Outcome

-- the end is not reached
abbrev pub Stops : Outcome → Type 0
Stops (Goes w h) = ⊥
Stops (Gives result h) = Unit {0}
Stops (Fails q) = Unit {0}

-- what the block of a method speaks of, in a source in normal form
module _ (r : Resolved) (m : MethodTree) where
  -- the slot of a variable
  abbrev pub slot : Ident → ℕ
  slot x = slot_of (scope_of r m) x.text

  -- the field of the name that the data type of a variable has
  abbrev pub field_named : Ident → Ident → Option Field
  field_named x f = field_in r.defs (kind_of (scope_of r m) x.text) f.text

  -- the method that a call names
  abbrev pub method_called : CallTree → Option MethodTree
  method_called c = method_named (scope_of r m) c.name.text

  -- the value of an expression
  abbrev pub value_in : Values → ExprTree → ℤ
  value_in w e = expression_value (scope_of r m) w e

  -- the values of arguments
  abbrev pub values_in : Values → List ExprTree → List ℤ
  values_in w es = all_values (scope_of r m) w es

  -- whether a condition holds
  abbrev pub holds_in : Values → CondTree → Bool
  holds_in w c = holds (scope_of r m) w c

-- where a method begins: each parameter has its argument, and each local is 0
abbrev pub first_values : List ℤ → Values
first_values args = λ k. numbered args k (pos 0)

-- in a source in normal form, where new nodes lie at places of P
mutual
  -- the variable of a slot gets a value
  pub data Sets (r : Resolved) (P : Place) : MethodTree → ℕ → ValueTree → Values → Heap → Outcome → Type 0 where
    expression : {m : MethodTree} {to : ℕ} {e : ExprTree} {w : Values} {h : Heap} → Sets r P m to (value_of.Value e) w h (Goes (updated w to (value_in r m w e)) h)
    field : {m : MethodTree} {to : ℕ} {x f : Ident} {g : Field} {w : Values} {h : Heap}
        → field_named r m x f ≡ Some g → (has : HasNode h (w (slot r m x)) g.node)
        → Sets r P m to (value_of.Load x f) w h (Goes (updated w to (numbered has.node.values g.number (pos 0))) h)
    no_node : {m : MethodTree} {to : ℕ} {x f : Ident} {g : Field} {w : Values} {h : Heap}
        → field_named r m x f ≡ Some g → (HasNode h (w (slot r m x)) g.node → ⊥)
        → Sets r P m to (value_of.Load x f) w h (Fails (w (slot r m x)))
    new : {m : MethodTree} {to at : ℕ} {x : Ident} {args : List ExprTree} {w : Values} {h : Heap} (q : ℤ) → P h q
        → Sets r P m to (value_of.New at x args) w h (Goes (updated w to q) (put_node h q (record { of = node_number r.defs x.text; values = values_in r m w args })))
    result : {m c : MethodTree} {to : ℕ} {t : CallTree} {n : ℤ} {w : Values} {h k : Heap}
        → method_called r m t ≡ Some c → Runs r P c (values_in r m w t.args) h (Gives (Some n) k)
        → Sets r P m to (value_of.Call t) w h (Goes (updated w to n) k)
    no_result : {m c : MethodTree} {to : ℕ} {t : CallTree} {q : ℤ} {w : Values} {h : Heap}
        → method_called r m t ≡ Some c → Runs r P c (values_in r m w t.args) h (Fails q)
        → Sets r P m to (value_of.Call t) w h (Fails q)

  -- a statement of a method
  pub data Does (r : Resolved) (P : Place) : MethodTree → StatementKind → Values → Heap → Outcome → Type 0 where
    declares : {m : MethodTree} {t : TypeTree} {x : Ident} {w : Values} {h : Heap} → Does r P m (kind.Local t x None) w h (Goes w h)
    begins : {m : MethodTree} {t : TypeTree} {x : Ident} {v : ValueTree} {w : Values} {h : Heap} {o : Outcome}
        → Sets r P m (slot r m x) v w h o → Does r P m (kind.Local t x (Some v)) w h o
    assigns : {m : MethodTree} {x : Ident} {v : ValueTree} {w : Values} {h : Heap} {o : Outcome}
        → Sets r P m (slot r m x) v w h o → Does r P m (kind.Assign x v) w h o
    stores : {m : MethodTree} {x f : Ident} {e : ExprTree} {g : Field} {w : Values} {h : Heap}
        → field_named r m x f ≡ Some g → (has : HasNode h (w (slot r m x)) g.node)
        → Does r P m (kind.Store x f e) w h
        (Goes w (put_node h (w (slot r m x)) (record { of = g.node; values = slice_set has.node.values (g.number - 1) (value_in r m w e) })))
    stores_nowhere : {m : MethodTree} {x f : Ident} {e : ExprTree} {g : Field} {w : Values} {h : Heap}
        → field_named r m x f ≡ Some g → (HasNode h (w (slot r m x)) g.node → ⊥)
        → Does r P m (kind.Store x f e) w h (Fails (w (slot r m x)))
    calls : {m c : MethodTree} {t : CallTree} {v : Option ℤ} {w : Values} {h k : Heap}
        → method_called r m t ≡ Some c → Runs r P c (values_in r m w t.args) h (Gives v k) → Does r P m (kind.Call t) w h (Goes w k)
    call_fails : {m c : MethodTree} {t : CallTree} {q : ℤ} {w : Values} {h : Heap}
        → method_called r m t ≡ Some c → Runs r P c (values_in r m w t.args) h (Fails q) → Does r P m (kind.Call t) w h (Fails q)
    branches : {m : MethodTree} {c : CondTree} {b : BlockTree} {w : Values} {h : Heap} {o : Outcome} (other : Option BlockTree)
        → holds_in r m w c ≡ true → DoesBlock r P m b w h o → Does r P m (kind.Branch c b other) w h o
    branches_else : {m : MethodTree} {c : CondTree} {d : BlockTree} {w : Values} {h : Heap} {o : Outcome} (b : BlockTree)
        → holds_in r m w c ≡ false → DoesBlock r P m d w h o → Does r P m (kind.Branch c b (Some d)) w h o
    passes : {m : MethodTree} {c : CondTree} {w : Values} {h : Heap} (b : BlockTree)
        → holds_in r m w c ≡ false → Does r P m (kind.Branch c b None) w h (Goes w h)
    returns : {m : MethodTree} {w : Values} {h : Heap} → Does r P m (kind.Return None) w h (Gives None h)
    returns_value : {m : MethodTree} {e : ExprTree} {w : Values} {h : Heap} → Does r P m (kind.Return (Some e)) w h (Gives (Some (value_in r m w e)) h)

  -- statements one after another: what comes after one that stops is not done
  pub data DoesAll (r : Resolved) (P : Place) : MethodTree → List StatementTree → Values → Heap → Outcome → Type 0 where
    nothing : {m : MethodTree} {w : Values} {h : Heap} → DoesAll r P m [] w h (Goes w h)
    goes_on : {m : MethodTree} {s : StatementKind} {at : ℕ} {ss : List StatementTree} {w u : Values} {h k : Heap} {o : Outcome}
        → Does r P m s w h (Goes u k) → DoesAll r P m ss u k o → DoesAll r P m (record { kind = s; at = at } ∷ ss) w h o
    stops : {m : MethodTree} {s : StatementKind} {at : ℕ} {ss : List StatementTree} {w : Values} {h : Heap} {o : Outcome}
        → Does r P m s w h o → Stops o → DoesAll r P m (record { kind = s; at = at } ∷ ss) w h o

  -- a block
  pub data DoesBlock (r : Resolved) (P : Place) : MethodTree → BlockTree → Values → Heap → Outcome → Type 0 where
    block : {m : MethodTree} {ss : List StatementTree} {w : Values} {h : Heap} {o : Outcome} (at end : ℕ)
        → DoesAll r P m ss w h o → DoesBlock r P m (roll-BlockTree (record { statements = ss; at = at; end = end })) w h o

  -- a call of a method on arguments: one without a result returns at its end
  pub data Runs (r : Resolved) (P : Place) : MethodTree → List ℤ → Heap → Outcome → Type 0 where
    stopped : {m : MethodTree} {args : List ℤ} {h : Heap} {o : Outcome} → DoesBlock r P m m.block (first_values args) h o → Stops o → Runs r P m args h o
    ended : {m : MethodTree} {args : List ℤ} {w : Values} {h k : Heap}
        → DoesBlock r P m m.block (first_values args) h (Goes w k) → m.result ≡ None → Runs r P m args h (Gives None k)
