-- Arguments that are gone through one after another.
use Rattle.std.proofs.Common.{◌≡◌, ℕ, ◌+◌, ◌<◌, ◌≤◌, ◌⊎◌, inl, inr, min, Bool, Decides, true, false, ltb, List, [], ◌∷◌, length, map, drop, get_or, Option, refl, sym, ap, ◌∙◌, arith, rules}
use Rattle.std.proofs.lemmas.Bool.Decides.{Decides-ltb}
use Rattle.std.proofs.lemmas.List.{drop_more, drop_all}
use Rattle.hs_tree.specs.declared.expr.ExprTree.{ExprTree}
use Rattle.hs_declared.specs.declared.types.VarType.{VarType}
use Rattle.hs_lower_scope.specs.Scope.{Scope}
use Rattle.hs_lower_faults.specs.declared.error.LowerError.{LowerError}
use Rattle.hs_lower_faults.specs.First.{pass}
use Rattle.hs_lower_faults.specs.Types.{wanted, each_wanted}

pub falsehood : false ≡ true → ⊥
falsehood e = search rules

module _ {A : Type 0} (scope : Scope) (k : A → VarType) where
  pub args_more : (xs : List A) (es : List ExprTree) (i : ℕ) (x : A) (w : VarType) (e : ExprTree) (total before after : Option LowerError) → i < length xs → i < length es →
      w ≡ k (get_or xs i x) → e ≡ get_or es i e → total ≡ each_wanted scope (map k (drop i xs)) (drop i es) before → after ≡ wanted scope w e before →
      total ≡ each_wanted scope (map k (drop (i + 1) xs)) (drop (i + 1) es) after
  args_more xs es i x w e total before after lx le isx ise h j =
      h ∙ (λ t. each_wanted scope (map k (drop_more xs i x lx t)) (drop_more es i e le t) before)
      ∙ (λ t. each_wanted scope (map k (drop (i + 1) xs)) (drop (i + 1) es) (wanted scope (sym isx t) (sym ise t) before))
      ∙ ap (each_wanted scope (map k (drop (i + 1) xs)) (drop (i + 1) es)) (sym j)

  no_args : (ws : List VarType) → each_wanted scope ws [] ≡ pass
  no_args [] = refl
  no_args (w ∷ ws) = refl

  ended : (xs : List A) (es : List ExprTree) (i : ℕ) → (length xs ≤ i) ⊎ (length es ≤ i) → each_wanted scope (map k (drop i xs)) (drop i es) ≡ pass
  ended xs es i (inl l) = ap (λ ys. each_wanted scope (map k ys) (drop i es)) (drop_all i xs l)
  ended xs es i (inr l) = ap (λ ys. each_wanted scope (map k (drop i xs)) ys) (drop_all i es l) ∙ no_args (map k (drop i xs))

  at_end : (a b i : ℕ) (t : Bool) → Decides t (i < a) → min a b ≤ i → (a ≤ i) ⊎ (b ≤ i)
  at_end a b i true d l = inr (let m : i < a = d.0 refl in omega arith)
  at_end a b i false d l = inl (let n : ¬ (i < a) = λ m. absurd (falsehood (d.1 m)) in omega arith)

  pub args_end : (xs : List A) (es : List ExprTree) (i : ℕ) (total found : Option LowerError) → min (length xs) (length es) ≤ i →
      total ≡ each_wanted scope (map k (drop i xs)) (drop i es) found → found ≡ total
  args_end xs es i total found l h = sym (h ∙ ap (λ f. f found) (ended xs es i (at_end (length xs) (length es) i (ltb i (length xs)) (Decides-ltb i (length xs)) l)))
