-- The tests that tell which rules are tried at a goal.
use Rattle.std.specs.Prelude.{◌≡◌, Bool, true, false, not, ◌&&◌, ◌==◌, if◌then◌else◌, List, [], ◌∷◌, length, Option, Some, None}
use Rattle.std.specs.List.{list_any}
use Rattle.hs_pure.specs.declared.var.Var.{Var}
use Rattle.hs_pure.specs.declared.pure.Pure.{Pure}
use Rattle.hs_pure.specs.Stack.{same}
use Rattle.hs_pure.specs.Occurs.{has_bags}
use Rattle.hs_pure.specs.Equated.{equated}
use Rattle.hs_heap.specs.declared.formula.Of.{Of}
use Rattle.hs_heap.specs.declared.formula.Of.TheVariants.{Node, Pred}
use Rattle.hs_heap.specs.declared.formula.Atom.{Atom}
use Rattle.hs_heap.specs.declared.formula.Formula.{Formula}
use Rattle.hs_heap.specs.Meaning.{is_in, self_var}
use Rattle.hs_goal.specs.declared.goal.Goal.{Goal}
use Rattle.hs_goal.specs.declared.rule.Question.{Question}
use Rattle.hs_goal.specs.declared.table.Classes.{Classes}
use Rattle.hs_goal.specs.Tables.{joined_in}
use Rattle.hs_goal.specs.Closed.{is_nil}
use Rattle.hs_goal.specs.Classes.{the_case}
use Rattle.hs_rules.specs.Parts.{left_pure, has_open}
use Rattle.hs_implication.specs.Implied.{is_implied}

-- ---- sides

-- whether a side is one disjunct
abbrev pub has_one_case : Formula → Bool
has_one_case f = length f.cases == 1

-- whether the disjunct of a side binds variables
abbrev pub binds : Formula → Bool
binds f = not (is_nil (the_case f).bound)

-- whether a conjunct has both an open variable and a bag literal
abbrev pub is_mixed : List Var → Pure → Bool
is_mixed opens p = has_open opens p && has_bags p

-- ---- names

-- whether it is of a predicate
abbrev pub is_pred : Of → Bool
is_pred (Node n) = false
is_pred (Pred n) = true

-- whether both are of one data type or of one predicate
abbrev pub same_name : Of → Of → Bool
same_name (Node m) (Node n) = m == n
same_name (Node m) (Pred n) = false
same_name (Pred m) (Node n) = false
same_name (Pred m) (Pred n) = m == n

-- whether one of the atoms of a body has this name and the root `self`
abbrev pub has_at_self : Of → List Atom → Bool
has_at_self name atoms = list_any (λ (a : Atom). same self_var a.root && same_name name a.of) atoms

-- ---- classes

-- what stands for v once the class of the first variable of an equation is led as that of the second
abbrev pub led_by : Option (Var × Var) → (Var → Var) → Var → Var
led_by None leads v = leads v
led_by (Some e) leads v = if same (leads v) (leads e.0) then leads e.1 else leads v

-- the variable that stands for the class of v
abbrev pub leader : List Pure → Var → Var
leader [] v = v
leader (p ∷ ps) v = led_by (equated p) (leader ps) v

-- whether equations join two variables into one class
unfoldable pub same_class : List Pure → Var → Var → Bool
same_class ps v w = same (leader ps v) (leader ps w)

-- whether the roots of two atoms are in one class, by the left conjuncts of a goal
abbrev pub in_class : Goal → Atom → Atom → Bool
in_class g a b = same_class (left_pure g) a.root b.root

-- a table has the classes of the left conjuncts of a goal
abbrev pub HasClasses : Goal → Classes → Type 0
HasClasses g c = (v w : Var) → joined_in c v w ≡ same_class (left_pure g) v w

-- whether the root of an atom is not open
abbrev pub is_known : Goal → Atom → Bool
is_known g a = not (is_in a.root g.opens)

-- ---- questions

-- whether the left side of a question implies the right side at every stack
unfoldable pub is_true_question : Question → Bool
is_true_question q = is_implied q.left q.right

-- whether a question, if there is one, is true
abbrev pub is_answered : Option Question → Bool
is_answered None = true
is_answered (Some q) = is_true_question q
