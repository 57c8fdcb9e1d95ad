-- Roots that are not reached.
use Rattle.std.proofs.Common.{◌≡◌, ◌↔◌, inl, inr, ℕ, zero, suc, ◌<◌, Bool, true, false, if◌then◌else◌, List, [], ◌∷◌, length, get_or, Option, Some, None, refl, sym, ◌∙◌, arith}
use Rattle.std.specs.List.{All}
use Rattle.hs_pure.specs.declared.var.Var.{Var}
use Rattle.hs_heap.specs.declared.formula.Atom.{Atom}
use Rattle.hs_heap.specs.declared.formula.Disjunct.{Disjunct}
use Rattle.hs_wf.specs.declared.marks.Marks.{Marks}
use Rattle.hs_wf.specs.Marked.{is_marked, first_unmarked}
use Rattle.hs_wf.specs.Founded.{IsReached}
use Rattle.hs_wf.specs.Faults.{IsFirstUnreached}

module _ (names : List Var) (d : Disjunct) (m : Marks) (exact : (v : Var) → (is_marked m v ≡ true) ↔ IsReached names d v) where
  unreached : (v : Var) → is_marked m v ≡ false → ¬ IsReached names d v
  unreached v e r = let f = (exact v).1 r in absurd (cc (e, f))

  pub first_unmarked-some : (atoms : List Atom) (v : Var) → first_unmarked m atoms ≡ Some v → IsFirstUnreached names d atoms v
  first_unmarked-some [] v e = absurd cc
  first_unmarked-some (a ∷ rest) v e = go (is_marked m a.root) refl (first_unmarked-some rest v)
    where
      go : (b : Bool) → is_marked m a.root ≡ b → (first_unmarked m rest ≡ Some v → IsFirstUnreached names d rest v) →
          IsFirstUnreached names d (a ∷ rest) v
      go true is more = inr ((exact a.root).0 is, more (sym (λ i. if is i then first_unmarked m rest else Some a.root) ∙ e))
      go false isnt more =
          let f : Some a.root ≡ Some v = sym (λ i. if isnt i then first_unmarked m rest else Some a.root) ∙ e in
          inl (unreached a.root isnt, cc)

  pub first_unmarked-none : (atoms : List Atom) → first_unmarked m atoms ≡ None → All (λ a. IsReached names d a.root) atoms
  first_unmarked-none [] e i z less = absurd (omega arith)
  first_unmarked-none (a ∷ rest) e i z less = go (is_marked m a.root) refl (first_unmarked-none rest) i less
    where
      go : (b : Bool) → is_marked m a.root ≡ b → (first_unmarked m rest ≡ None → All (λ c. IsReached names d c.root) rest) →
          (i : ℕ) → i < length (a ∷ rest) → IsReached names d (get_or (a ∷ rest) i z).root
      go true is more zero less = (exact a.root).0 is
      go true is more (suc i) less = more (sym (λ j. if is j then first_unmarked m rest else Some a.root) ∙ e) i z (omega arith)
      go false isnt more i less =
          let f : Some a.root ≡ None = sym (λ j. if isnt j then first_unmarked m rest else Some a.root) ∙ e in absurd cc
