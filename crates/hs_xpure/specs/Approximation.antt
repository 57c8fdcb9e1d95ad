-- The arithmetic approximation of atoms: what is true of numbers and bags wherever they hold.
use Rattle.std.specs.Prelude.{ℕ, zero, suc, pos, false, List, [], ◌∷◌, ◌++◌, map, Option, Some, None}
use Rattle.hs_pure.specs.declared.var.Var.{Var}
use Rattle.hs_pure.specs.declared.lin.Lin.{Lin}
use Rattle.hs_pure.specs.declared.pure.Pure.{Pure}
use Rattle.hs_pure.specs.declared.pure.Pure.TheVariants.{Eq, Lt, Not, And, Or}
use Rattle.hs_heap.specs.declared.formula.Of.{Of}
use Rattle.hs_heap.specs.declared.formula.Of.TheVariants.{Node, Pred}
use Rattle.hs_heap.specs.declared.formula.Atom.{Atom}
use Rattle.hs_heap.specs.declared.formula.Disjunct.{Disjunct}
use Rattle.hs_heap.specs.declared.definitions.PredDef.{PredDef}
use Rattle.hs_heap.specs.declared.definitions.Defs.{Defs}
use Rattle.hs_heap.specs.Meaning.{pred_at}
use Rattle.hs_heap.specs.Instance.{Body, body_of, body_of_inv, instantiated, instantiated_inv, next_after}
use Rattle.hs_xpure.specs.declared.formed.Formed.{Formed}

-- one formula stands alone
abbrev pub conjunction : List Pure → Pure
conjunction [] = And []
conjunction (p ∷ []) = p
conjunction (p ∷ q ∷ ps) = And (p ∷ q ∷ ps)

-- one formula stands alone
abbrev pub disjunction : List Pure → Pure
disjunction [] = Or []
disjunction (p ∷ []) = p
disjunction (p ∷ q ∷ ps) = Or (p ∷ q ∷ ps)

-- ---- addresses

-- the variable that stands for an address
abbrev pub address : ℕ → Var
address k = record { number = k; bag = false }

-- a variable as a sum
abbrev pub variable : Var → Lin
variable v = record { terms = (v, pos 1) ∷ []; constant = pos 0 }

-- the sum without terms: null
abbrev pub null : Lin
null = record { terms = []; constant = pos 0 }

-- one of two addresses is null, or they differ
abbrev pub apart : ℕ → ℕ → Pure
apart k l =
    Or (Eq (variable (address k)) null ∷ Eq (variable (address l)) null ∷ Not (Eq (variable (address k)) (variable (address l))) ∷ [])

-- each two of them
abbrev pub all_apart : List ℕ → List Pure
all_apart [] = []
all_apart (k ∷ ks) = map (apart k) ks ++ all_apart ks

-- ---- atoms, one after another

-- nothing, from a number on
abbrev pub unformed : ℕ → Formed
unformed n = record { pure = []; addresses = []; next = n }

-- one after the other
abbrev pub combined : Formed → Formed → Formed
combined one more = record { pure = one.pure ++ more.pure; addresses = one.addresses ++ more.addresses; next = more.next }

-- how an atom is approximated from a number on
abbrev pub Former : Type 0
Former = Atom → ℕ → Formed

abbrev pub atoms_formed : Former → List Atom → ℕ → Formed
atoms_formed form [] n = unformed n
atoms_formed form (a ∷ rest) n = combined (form a n) (atoms_formed form rest (form a n).next)

-- one conjunct: what is formed of the atoms of a case, its conjuncts, and its addresses apart
abbrev pub case_of : List Pure → Formed → Formed
case_of ps atoms = record {
  pure = conjunction (atoms.pure ++ ps ++ all_apart atoms.addresses) ∷ [];
  addresses = atoms.addresses;
  next = atoms.next;
}

abbrev pub case_formed : Former → Disjunct → ℕ → Formed
case_formed form d n = case_of d.pure (atoms_formed form d.atoms n)

-- a conjunct for each case
abbrev pub cases_formed : Former → List Disjunct → ℕ → Formed
cases_formed form [] n = unformed n
cases_formed form (d ∷ ds) n = combined (case_formed form d n) (cases_formed form ds (case_formed form d n).next)

-- the cases of a body at a root and arguments
abbrev pub body_cases : Former → Body → Var → List Var → ℕ → Formed
body_cases form b root args n = cases_formed form (instantiated b root args n).cases (next_after b n)

-- one conjunct: cases, joined by "or"
abbrev pub body_of_cases : Formed → Formed
body_of_cases cases = record { pure = disjunction cases.pure ∷ []; addresses = cases.addresses; next = cases.next }

abbrev pub body_formed : Former → Body → Var → List Var → ℕ → Formed
body_formed form b root args n = body_of_cases (body_cases form b root args n)

-- ---- an atom at a level

-- a node has an address, which is not null
abbrev pub node_formed : Var → ℕ → Formed
node_formed root n = record {
  pure = Eq (variable (address n)) (variable root) ∷ Lt null (variable root) ∷ [];
  addresses = n ∷ [];
  next = suc n;
}

-- the invariant of a predicate at a root and arguments: what it binds gets new numbers
abbrev pub inv_formed : Option PredDef → Var → List Var → ℕ → Formed
inv_formed None root args n = unformed n
inv_formed (Some p) root args n =
    record { pure = instantiated_inv p root args n ∷ []; addresses = []; next = next_after (body_of_inv p) n }

abbrev pub inv_of : Defs → ℕ → Var → List Var → ℕ → Formed
inv_of defs pred root args n = inv_formed (pred_at defs pred) root args n

-- its invariant and then its body
abbrev pub inv_and_body_of : Defs → Former → ℕ → Var → List Var → ℕ → Formed
inv_and_body_of defs form pred root args n =
    let inv = inv_of defs pred root args n in
    combined inv (body_formed form (body_of defs (Pred pred)) root args inv.next)

-- a node as a node, a predicate as told
abbrev pub of_formed : (ℕ → Var → List Var → ℕ → Formed) → Of → Var → List Var → ℕ → Formed
of_formed of_pred (Node kind) root args n = node_formed root n
of_formed of_pred (Pred pred) root args n = of_pred pred root args n

-- of a predicate at level 0 its invariant, and above it also its body of the level below
abbrev pub form : Defs → ℕ → Former
form defs zero a n = of_formed (inv_of defs) a.of a.root a.args n
form defs (suc level) a n = of_formed (inv_and_body_of defs (form defs level)) a.of a.root a.args n

-- ---- what is asked for

-- all atoms, and all addresses apart
abbrev pub approximated : Defs → ℕ → List Atom → ℕ → Formed
approximated defs level atoms n =
    let all = atoms_formed (form defs level) atoms n in
    record { pure = all.pure ++ all_apart all.addresses; addresses = all.addresses; next = all.next }

-- the conjuncts of the approximation of atoms
abbrev pub approximation_of : Defs → ℕ → List Atom → ℕ → List Pure
approximation_of defs level atoms n = (approximated defs level atoms n).pure

-- the number after the last one that it takes
abbrev pub next_of : Defs → ℕ → List Atom → ℕ → ℕ
next_of defs level atoms n = (approximated defs level atoms n).next

abbrev pub xpure_of : Defs → ℕ → List Atom → ℕ → Pure
xpure_of defs level atoms n = conjunction (approximation_of defs level atoms n)

-- the approximation of a body at a root and arguments
abbrev pub body_pure : Defs → ℕ → Body → Var → List Var → ℕ → Pure
body_pure defs level b root args n = disjunction (body_cases (form defs level) b root args n).pure

abbrev pub body_next : Defs → ℕ → Body → Var → List Var → ℕ → ℕ
body_next defs level b root args n = (body_cases (form defs level) b root args n).next
