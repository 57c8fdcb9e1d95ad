-- The greatest number that occurs in a formula.
use Rattle.std.proofs.Common.{◌≡◌, ℕ, max, ◌<◌, ◌≤◌, Bool, true, false, ◌||◌, IsTrue, List, [], ◌∷◌, ◌⊎◌, inl, inr, refl, sym, ap, ◌∙◌, subst, arith}
use Rattle.std.specs.List.{list_any, fold}
use Rattle.std.proofs.lemmas.Bool.{or_cases}
use Rattle.hs_pure.specs.declared.var.Var.{Var}
use Rattle.hs_pure.specs.declared.pure.Pure.{Pure}
use Rattle.hs_pure.specs.Stack.{same}
use Rattle.hs_pure.specs.Occurs.{occurs, top_of}
use Rattle.hs_pure.proofs.Vars.{or_left, or_right}
use Rattle.hs_pure.proofs.Tops.{occurs-below_top, top-reached}
use Rattle.hs_heap.specs.declared.formula.Atom.{Atom}
use Rattle.hs_heap.specs.declared.formula.Disjunct.{Disjunct}
use Rattle.hs_heap.specs.Meaning.{is_in}
use Rattle.hs_heap.specs.Variables.{in_atom, occurs_in_disjunct, vars_top, atom_top, atoms_top, conjuncts_top, disjunct_top, disjuncts_top}
use Rattle.hs_heap.proofs.Stacks.{same_true, same_itself}

-- no number of what passes the test is above n, which is one of them or 0
pub record IsTop (has : Var → Bool) (n : ℕ) : Type 0 where
  pub bound : (v : Var) → IsTrue (has v) → v.number ≤ n
  pub reached : 0 < n → (v : Var) × (IsTrue (has v) × (v.number ≡ n))

nothing_top : IsTop (λ v. false) 0
nothing_top = record { bound = λ v h. absurd cc; reached = λ h. absurd (omega arith) }

name_top : (u : Var) → IsTop (λ v. same v u) u.number
name_top u = record {
  bound = λ v h. let f : v.number ≡ u.number = ap (λ (w : Var). w.number) (same_true v u h) in omega arith;
  reached = λ h. (u, (same_itself u, refl));
}

le_cases : (m n : ℕ) → ((m ≤ n) × (max m n ≡ n)) ⊎ ((n ≤ m) × (max m n ≡ m))
le_cases m n = elim (cases m n) [ inl h ↦ inl (h, omega arith) | inr h ↦ inr (h, omega arith) ]
  where
    cases : (m n : ℕ) → (m ≤ n) ⊎ (n ≤ m)
    cases m n = grind arith

both_top : (p q : Var → Bool) (m n : ℕ) → IsTop p m → IsTop q n → IsTop (λ v. p v || q v) (max m n)
both_top p q m n s t = record {
  bound = λ v h. elim (or_cases (p v) (q v) h) [ inl k ↦ let e = s.bound v k in omega arith | inr k ↦ let e = t.bound v k in omega arith ];
  reached = λ h. elim (le_cases m n) [
    | inl (le, is) ↦ let r = t.reached (omega arith) in (r.0, (or_right (p r.0) (q r.0) r.1.0, r.1.1 ∙ sym is))
    | inr (le, is) ↦ let r = s.reached (omega arith) in (r.0, (or_left (p r.0) (q r.0) r.1.0, r.1.1 ∙ sym is))
  ];
}

or_nothing : (b : Bool) → b ≡ (b || false)
or_nothing true = refl
or_nothing false = refl

or_same : (a b c : Bool) → ((a || b) || c) ≡ (a || (b || c))
or_same true b c = refl
or_same false b c = refl

module _ {X : Type 0} (has : Var → X → Bool) (top : X → ℕ) (each : (x : X) → IsTop (λ v. has v x) (top x)) where
  from_top : (xs : List X) (p : Var → Bool) (n : ℕ) → IsTop p n → IsTop (λ v. p v || list_any (has v) xs) (fold (λ m x. max m (top x)) n xs)
  from_top [] p n h = subst (λ p. IsTop p n) (λ i v. or_nothing (p v) i) h
  from_top (x ∷ xs) p n h = subst (λ q. IsTop q (fold (λ m x. max m (top x)) n (x ∷ xs))) (λ i v. or_same (p v) (has v x) (list_any (has v) xs) i)
      (from_top xs (λ v. p v || has v x) (max n (top x)) (both_top p (λ v. has v x) n (top x) h (each x)))

  some_top : (xs : List X) → IsTop (λ v. list_any (has v) xs) (fold (λ m x. max m (top x)) 0 xs)
  some_top xs = from_top xs (λ v. false) 0 nothing_top

is_in-any : (v : Var) (vs : List Var) → list_any (same v) vs ≡ is_in v vs
is_in-any v [] = refl
is_in-any v (w ∷ ws) = ap (λ b. same v w || b) (is_in-any v ws)

vars_is_top : (vs : List Var) → IsTop (λ v. is_in v vs) (vars_top vs)
vars_is_top vs = subst (λ p. IsTop p (vars_top vs)) (λ i v. is_in-any v vs i) (some_top (λ v w. same v w) (λ (w : Var). w.number) name_top vs)

atom_is_top : (a : Atom) → IsTop (λ v. in_atom v a) (atom_top a)
atom_is_top a = both_top (λ v. same v a.root) (λ v. is_in v a.args) a.root.number (vars_top a.args) (name_top a.root) (vars_is_top a.args)

pure_is_top : (p : Pure) → IsTop (λ v. occurs v p) (top_of p)
pure_is_top p = record { bound = occurs-below_top p; reached = top-reached p }

pub disjunct_is_top : (d : Disjunct) → IsTop (λ v. occurs_in_disjunct v d) (disjunct_top d)
disjunct_is_top d = both_top (λ v. is_in v d.bound) (λ v. list_any (in_atom v) d.atoms || list_any (occurs v) d.pure) (vars_top d.bound) (max (atoms_top d.atoms) (conjuncts_top d.pure)) (vars_is_top d.bound)
    (both_top (λ v. list_any (in_atom v) d.atoms) (λ v. list_any (occurs v) d.pure) (atoms_top d.atoms) (conjuncts_top d.pure) (some_top in_atom atom_top atom_is_top d.atoms) (some_top occurs top_of pure_is_top d.pure))

pub disjuncts_is_top : (ds : List Disjunct) → IsTop (λ v. list_any (occurs_in_disjunct v) ds) (disjuncts_top ds)
disjuncts_is_top ds = some_top occurs_in_disjunct disjunct_top disjunct_is_top ds
