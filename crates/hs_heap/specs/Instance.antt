-- The body of a predicate, its invariant, or the right side of a lemma, at a root and arguments.
use Rattle.std.specs.Prelude.{◌≡◌, ℕ, zero, suc, ◌+◌, ◌<◌, ℤ, pos, ◌&&◌, ◌||◌, not, Bool, true, false, IsTrue, if◌then◌else◌, List, [], ◌∷◌, Option, Some, None, slice_get}
use Rattle.std.specs.List.{All}
use Rattle.hs_pure.specs.declared.var.Var.{Var}
use Rattle.hs_pure.specs.declared.pure.Pure.{Pure}
use Rattle.hs_pure.specs.Stack.{Stack, same, with_value, number_value}
use Rattle.hs_pure.specs.Rename.{renamed}
use Rattle.hs_heap.specs.declared.formula.Of.{Of}
use Rattle.hs_heap.specs.declared.formula.Of.TheVariants.{Node, Pred}
use Rattle.hs_heap.specs.declared.formula.Disjunct.{Disjunct}
use Rattle.hs_heap.specs.declared.formula.Formula.{Formula}
use Rattle.hs_heap.specs.declared.definitions.PredDef.{PredDef}
use Rattle.hs_heap.specs.declared.definitions.Lemma.{Lemma}
use Rattle.hs_heap.specs.declared.definitions.Defs.{Defs}
use Rattle.hs_heap.specs.Meaning.{Argument, is_in, self_var, with_arguments, pred_at}
use Rattle.hs_heap.specs.Variables.{is_free_in_disjunct, occurs_in_disjunct, occurs_in_formula}
use Rattle.hs_heap.specs.Sound.{IsNumbered, AreAmong, AtomFits, PureFits, kinds}
use Rattle.hs_heap.specs.Renamed.{renamed_formula}

-- a formula over `self` and parameters, with all numbers below next
pub record Body : Type 0 where
  pub params : List Var
  pub formula : Formula
  pub next : ℕ

-- the body of a predicate
abbrev pub body_of_pred : PredDef → Body
body_of_pred p = record { params = p.params; formula = p.body; next = p.next }

-- a pure formula alone, of the empty heap
abbrev pub conjunct_alone : Pure → Formula
conjunct_alone p = record { cases = record { bound = []; atoms = []; pure = p ∷ [] } ∷ [] }

-- the invariant of a predicate
abbrev pub body_of_inv : PredDef → Body
body_of_inv p = record { params = p.params; formula = conjunct_alone p.inv; next = p.next }

-- the right side of a lemma
abbrev pub body_of_lemma : Lemma → Body
body_of_lemma l = record { params = l.params; formula = record { cases = l.right ∷ [] }; next = l.next }

-- what is not there has no cases
abbrev pub no_body : Body
no_body = record { params = []; formula = record { cases = [] }; next = 0 }

abbrev pub body_or_none : {A : Type 0} → (A → Body) → Option A → Body
body_or_none body None = no_body
body_or_none body (Some a) = body a

abbrev pub body_of : Defs → Of → Body
body_of defs (Node n) = no_body
body_of defs (Pred n) = body_or_none body_of_pred (pred_at defs n)

-- the lemma of a number from 1
abbrev pub lemma_at : Defs → ℕ → Option Lemma
lemma_at defs zero = None
lemma_at defs (suc n) = slice_get defs.lemmas n

-- ---- the variables that are neither `self` nor a parameter get new numbers, in the order of their numbers

-- whether v is `self` or a parameter
abbrev pub is_named : Body → Var → Bool
is_named b v = is_in v (self_var ∷ b.params)

abbrev pub is_other_var : Body → Var → Bool
is_other_var b v = occurs_in_formula v b.formula && not (is_named b v)

-- whether this is the number of such a variable
abbrev pub is_other : Body → ℕ → Bool
is_other b n = is_other_var b (record { number = n; bag = false }) || is_other_var b (record { number = n; bag = true })

-- how many numbers below n pass a test
abbrev pub count_below : (ℕ → Bool) → ℕ → ℕ
count_below test zero = 0
count_below test (suc n) = if test n then suc (count_below test n) else count_below test n

-- each of the first variables becomes its partner, others as e says
abbrev pub put_arguments : List Var → List Var → (Var → Var) → Var → Var
put_arguments [] args e v = e v
put_arguments (w ∷ ws) [] e v = e v
put_arguments (w ∷ ws) (a ∷ args) e v = if same w v then a else put_arguments ws args e v

abbrev pub new_number : Body → ℕ → Var → Var
new_number b fresh v = record { number = fresh + count_below (is_other b) v.number; bag = v.bag }

-- `self` becomes the root, each parameter its argument, and others get new numbers from fresh on
abbrev pub body_renaming : Body → Var → List Var → ℕ → Var → Var
body_renaming b root args fresh = put_arguments (self_var ∷ b.params) (root ∷ args) (new_number b fresh)

abbrev pub instantiated : Body → Var → List Var → ℕ → Formula
instantiated b root args fresh = renamed_formula (body_renaming b root args fresh) b.formula

-- the invariant of a predicate at a root and arguments
abbrev pub instantiated_inv : PredDef → Var → List Var → ℕ → Pure
instantiated_inv p root args fresh = renamed (body_renaming (body_of_inv p) root args fresh) p.inv

-- the number after the last one taken
abbrev pub next_after : Body → ℕ → ℕ
next_after b fresh = fresh + count_below (is_other b) b.next

-- the stack at which a body is read: its root and its parameters
abbrev pub stack_of_body : Body → ℤ → List Argument → Stack
stack_of_body b root args =
    with_value self_var (number_value root) (with_arguments b.params args (λ v. number_value (pos 0)))

-- ---- what is asked

-- a disjunct over `self` and parameters
pub record CaseFits (defs : Defs) (names : List Var) (next : ℕ) (d : Disjunct) : Type 0 where
  -- it binds none of them
  pub apart : (u : Var) → IsTrue (is_in u d.bound) → is_in u names ≡ false
  pub among : AreAmong (λ v. is_free_in_disjunct v d) names
  -- all numbers, of bound variables too
  pub numbers : (v : Var) → IsTrue (occurs_in_disjunct v d) → IsNumbered next v
  pub atoms : All (AtomFits defs) d.atoms
  pub pure : All (PureFits names next) d.pure

abbrev pub BodyFits : Defs → Body → Type 0
BodyFits defs b = All (CaseFits defs (self_var ∷ b.params) b.next) b.formula.cases

-- the root is a number, the arguments are as many as the parameters and of their kinds, and all have numbers below fresh
pub record ArgumentsFit (params : List Var) (root : Var) (args : List Var) (fresh : ℕ) : Type 0 where
  pub number_root : root.bag ≡ false
  pub arity : kinds params ≡ kinds args
  pub below : (v : Var) → IsTrue (is_in v (root ∷ args)) → v.number < fresh
