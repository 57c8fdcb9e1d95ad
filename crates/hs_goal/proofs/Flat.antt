-- Tables of the ends of links.
use Rattle.std.proofs.Common.{◌≡◌, ℕ, Bool, false, ◌==◌, IsTrue, ◌↔◌, eqb, nat_eq, inl, inr, List, [], ◌∷◌, ◌++◌, map, Some, None, refl, sym, ap, ◌∙◌}
use Rattle.std.specs.List.{list_any, AllZip}
use Rattle.std.specs.Map.{lookup}
use Rattle.std.specs.Option.{unwrap_or}
use Rattle.std.proofs.lemmas.Bool.{eqb-true, eq-eqb}
use Rattle.hs_pure.specs.declared.var.Var.{Var}
use Rattle.hs_pure.specs.declared.pure.Pure.{Pure}
use Rattle.hs_heap.proofs.Booleans.{bool_cases, clash, or_false_left, or_false_right}
use Rattle.hs_goal.specs.Classes.{SameClass}
use Rattle.hs_goal.specs.Links.{Links, AllFall, end_of, HasEnds, AreEnds}
use Rattle.hs_goal.specs.Keys.{key, HaveClasses}
use Rattle.hs_goal.proofs.Ends.{Puts, put_there, put_other, end-None}

pub no_ends : (f table : Links) → ((k : ℕ) → table k ≡ None) → HasEnds [] f table
no_ends f table none q = inr (none q, refl)

any_push : (p : ℕ → Bool) (ks : List ℕ) (k : ℕ) → list_any p ks ≡ false → p k ≡ false → list_any p (ks ++ k ∷ []) ≡ false
any_push p [] k e f = rw f refl
any_push p (j ∷ ks) k e f = rw (or_false_left (p j) (list_any p ks) e) (any_push p ks k (or_false_right (p j) (list_any p ks) e) f)

other_way : (k q : ℕ) → eqb k q ≡ false → eqb q k ≡ false
other_way k q e = elim (bool_cases (eqb q k)) [ inl is ↦ clash (eq-eqb k q (sym (eqb-true q k is))) e | inr isnt ↦ isnt ]

-- one key more
pub more_ends : (f table more : Links) (ks : List ℕ) (k : ℕ) → HasEnds ks f table → Puts table more k (end_of f k) → HasEnds (ks ++ k ∷ []) f more
more_ends f table more ks k has puts q = elim (bool_cases (eqb k q)) [
  | inl is ↦ let same : k ≡ q = eqb-true k q is in inl (put_there table more k (end_of f k) puts q is ∙ ap (λ j. Some (end_of f j)) same)
  | inr isnt ↦
      let stays = put_other table more k (end_of f k) puts q isnt in
      elim (has q) [
        | inl some ↦ inl (stays ∙ some)
        | inr (none, out) ↦ inr (stays ∙ none, any_push (nat_eq q) ks k out (other_way k q isnt))
      ]
]

lookup_none : (test : ℕ → Bool) (es : List (ℕ × ℕ)) → list_any test (map (λ e. e.0) es) ≡ false → lookup test es ≡ None
lookup_none test [] h = refl
lookup_none test (e ∷ es) h = rw (or_false_left (test e.0) (list_any test (map (λ e. e.0) es)) h) (lookup_none test es (or_false_right (test e.0) (list_any test (map (λ e. e.0) es)) h))

-- what is not listed is not linked, and is its own end
pub all_ends : (es : List (ℕ × ℕ)) (table : Links) → let f : Links = λ q. lookup (nat_eq q) es in AllFall f → HasEnds (map (λ e. e.0) es) f table → AreEnds f table
all_ends es table falls has q = elim (has q) [
  | inl some ↦ ap (λ o. unwrap_or o q) some
  | inr (none, out) ↦ ap (λ o. unwrap_or o q) none ∙ sym (end-None (λ q. lookup (nat_eq q) es) falls q (lookup_none (nat_eq q) es out))
]

-- the table tells the classes
pub table_told : (ps : List Pure) (f table : Links) → HaveClasses ps f → AreEnds f table → (a b : Var) →
    IsTrue (unwrap_or (table (key a)) (key a) == unwrap_or (table (key b)) (key b)) ↔ SameClass ps a b
table_told ps f table h ends a b = (
  λ e. (h.joined a b).0 (sym (ends (key a)) ∙ eqb-true (unwrap_or (table (key a)) (key a)) (unwrap_or (table (key b)) (key b)) e ∙ ends (key b)),
  λ c. eq-eqb (unwrap_or (table (key a)) (key a)) (unwrap_or (table (key b)) (key b)) (ends (key a) ∙ (h.joined a b).1 c ∙ sym (ends (key b))),
)

-- a clone of a table is the table
pub cloned : (es fs : List (ℕ × ℕ)) → AllZip (λ (p q : ℕ × ℕ). (q.0 ≡ p.0) × (q.1 ≡ p.1)) es fs → fs ≡ es
cloned [] [] h = refl
cloned [] (f ∷ fs) h = absurd h
cloned (e ∷ es) [] h = absurd h
cloned (e ∷ es) (f ∷ fs) h = let rest = cloned es fs h.1 in λ i. (h.0.0 i, h.0.1 i) ∷ rest i
