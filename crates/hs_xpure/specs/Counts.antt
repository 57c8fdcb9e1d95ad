-- How many new numbers an approximation takes: this depends on the level and on what the atoms are of.
use Rattle.std.specs.Prelude.{ℕ, zero, suc, ◌+◌, ◌^◌, min, List, [], ◌∷◌, map, get_or, Option, Some, None}
use Rattle.hs_heap.specs.declared.formula.Of.{Of}
use Rattle.hs_heap.specs.declared.formula.Of.TheVariants.{Node, Pred}
use Rattle.hs_heap.specs.declared.formula.Atom.{Atom}
use Rattle.hs_heap.specs.declared.formula.Disjunct.{Disjunct}
use Rattle.hs_heap.specs.declared.definitions.PredDef.{PredDef}
use Rattle.hs_heap.specs.declared.definitions.Defs.{Defs}
use Rattle.hs_heap.specs.Meaning.{pred_at}
use Rattle.hs_heap.specs.Instance.{Body, body_of_pred, body_of_inv, is_other, count_below}

-- how many numbers a predicate takes
abbrev pub Taken : Type 0
Taken = ℕ → ℕ

-- a node takes one
abbrev pub of_taken : Taken → Of → ℕ
of_taken taken (Node kind) = 1
of_taken taken (Pred pred) = taken pred

abbrev pub atoms_taken : Taken → List Atom → ℕ
atoms_taken taken [] = 0
atoms_taken taken (a ∷ rest) = of_taken taken a.of + atoms_taken taken rest

abbrev pub cases_taken : Taken → List Disjunct → ℕ
cases_taken taken [] = 0
cases_taken taken (d ∷ ds) = atoms_taken taken d.atoms + cases_taken taken ds

-- for its own variables
abbrev pub own_taken : Body → ℕ
own_taken b = count_below (is_other b) b.next

abbrev pub body_taken : Taken → Body → ℕ
body_taken taken b = own_taken b + cases_taken taken b.formula.cases

abbrev pub inv_taken : Option PredDef → ℕ
inv_taken None = 0
inv_taken (Some p) = own_taken (body_of_inv p)

abbrev pub inv_and_body_taken : Taken → Option PredDef → ℕ
inv_and_body_taken taken None = 0
inv_and_body_taken taken (Some p) = own_taken (body_of_inv p) + body_taken taken (body_of_pred p)

-- how many numbers a predicate takes at a level
abbrev pub pred_taken : Defs → ℕ → Taken
pred_taken defs zero pred = inv_taken (pred_at defs pred)
pred_taken defs (suc level) pred = inv_and_body_taken (pred_taken defs level) (pred_at defs pred)

-- ---- counts that are not larger than need be

-- 2^30 + 1 stands for all that is more than 2^30
abbrev pub capped : ℕ → ℕ
capped n = min n (2 ^ 30 + 1)

-- what a list gives predicates, by number from 1
abbrev pub listed : List ℕ → Taken
listed counts zero = 0
listed counts (suc i) = get_or counts i 0

-- what the predicates take at a level, in their order, where the list has what they take at the level below
abbrev pub taken_above : Defs → List ℕ → List ℕ
taken_above defs below = map (λ p. capped (inv_and_body_taken (listed below) (Some p))) defs.preds

abbrev pub table : Defs → ℕ → List ℕ
table defs zero = map (λ p. capped (inv_taken (Some p))) defs.preds
table defs (suc level) = taken_above defs (table defs level)
