-- What a disjunct binds gets new numbers, which keep apart.
use Rattle.std.proofs.Common.{◌≡◌, ℕ, suc, ◌<◌, ◌≤◌, inl, inr, true, false, not, ◌||◌, IsTrue, List, [], ◌∷◌, map, refl, sym, ◌∙◌, ap, arith}
use Rattle.std.specs.List.{list_any}
use Rattle.std.proofs.lemmas.Bool.{and_parts}
use Rattle.hs_pure.specs.declared.var.Var.{Var}
use Rattle.hs_pure.specs.Stack.{Stack, same}
use Rattle.hs_pure.specs.Occurs.{is_free}
use Rattle.hs_pure.proofs.Agree.{Agree}
use Rattle.hs_heap.specs.declared.formula.Disjunct.{Disjunct}
use Rattle.hs_heap.specs.Meaning.{is_in}
use Rattle.hs_heap.specs.Variables.{in_atom, is_free_in_disjunct, occurs_in_disjunct}
use Rattle.hs_heap.proofs.Stacks.{same_true, same_itself, same_turned}
use Rattle.hs_heap.specs.Renamed.{DisjunctKeepsApart}
use Rattle.hs_heap.proofs.Booleans.{bool_cases, or_false_left, or_false_right, clash, false_of_not}
use Rattle.std.proofs.lemmas.Bool.{or_cases}
use Rattle.hs_pure.proofs.Vars.{or_left, or_right}
use Rattle.hs_heap.proofs.Stacks.{same_is}
use Rattle.hs_heap.proofs.Occurring.{bound_occurs}
use Rattle.hs_heap.proofs.Renaming.{before}
use Rattle.hs_rules.specs.Parts.{to_fresh}

fresh-same : (b : Var) (bs : List Var) (n : ℕ) (v : Var) → same b v ≡ true → to_fresh (b ∷ bs) n v ≡ record { number = n; bag = v.bag }
fresh-same b bs n v e = rw e refl

fresh-other : (b : Var) (bs : List Var) (n : ℕ) (v : Var) → same b v ≡ false → to_fresh (b ∷ bs) n v ≡ to_fresh bs (suc n) v
fresh-other b bs n v e = rw e refl

later : (v w : Var) (ws : List Var) → is_in v (w ∷ ws) ≡ true → same w v ≡ false → is_in v ws ≡ true
later v w ws e f = elim (or_cases (same v w) (is_in v ws) e) [ inl k ↦ clash (same_is w v (sym (same_true v w k))) f | inr k ↦ k ]

pub to_fresh-out : (bs : List Var) (n : ℕ) (v : Var) → is_in v bs ≡ false → to_fresh bs n v ≡ v
to_fresh-out [] n v e = refl
to_fresh-out (b ∷ bs) n v e =
    fresh-other b bs n v (same_turned b v (or_false_left (same v b) (is_in v bs) e)) ∙ to_fresh-out bs (suc n) v (or_false_right (same v b) (is_in v bs) e)

pub to_fresh-above : (bs : List Var) (n : ℕ) (v : Var) → is_in v bs ≡ true → n ≤ (to_fresh bs n v).number
to_fresh-above [] n v e = absurd cc
to_fresh-above (b ∷ bs) n v e = elim (bool_cases (same b v)) [
  | inl is ↦ let f = ap (λ (w : Var). w.number) (fresh-same b bs n v is) in omega arith
  | inr isnt ↦
      let f : (to_fresh (b ∷ bs) n v).number ≡ (to_fresh bs (suc n) v).number = ap (λ (w : Var). w.number) (fresh-other b bs n v isnt) in
      let h = to_fresh-above bs (suc n) v (later v b bs e isnt) in omega arith
]

pub to_fresh-kind : (bs : List Var) (n : ℕ) (v : Var) → (to_fresh bs n v).bag ≡ v.bag
to_fresh-kind [] n v = refl
to_fresh-kind (b ∷ bs) n v = elim (bool_cases (same b v)) [
  | inl is ↦ ap (λ (w : Var). w.bag) (fresh-same b bs n v is)
  | inr isnt ↦ ap (λ (w : Var). w.bag) (fresh-other b bs n v isnt) ∙ to_fresh-kind bs (suc n) v
]

pub to_fresh-injective : (bs : List Var) (n : ℕ) (v w : Var) → is_in v bs ≡ true → is_in w bs ≡ true → to_fresh bs n v ≡ to_fresh bs n w → v ≡ w
to_fresh-injective [] n v w e f g = absurd cc
to_fresh-injective (b ∷ bs) n v w e f g = elim (bool_cases (same b v)) [
  | inl is ↦ elim (bool_cases (same b w)) [
    | inl also ↦ sym (same_true b v is) ∙ same_true b w also
    | inr isnt ↦
        let h = to_fresh-above bs (suc n) w (later w b bs f isnt) in
        let k = ap (λ (u : Var). u.number) (sym (fresh-same b bs n v is) ∙ g ∙ fresh-other b bs n w isnt) in
        let k' : n ≡ (to_fresh bs (suc n) w).number = k in absurd (omega arith)
  ]
  | inr isnt ↦ elim (bool_cases (same b w)) [
    | inl also ↦
        let h = to_fresh-above bs (suc n) v (later v b bs e isnt) in
        let k = ap (λ (u : Var). u.number) (sym (fresh-other b bs n v isnt) ∙ g ∙ fresh-same b bs n w also) in
        let k' : (to_fresh bs (suc n) v).number ≡ n = k in absurd (omega arith)
    | inr none ↦ to_fresh-injective bs (suc n) v w (later v b bs e isnt) (later w b bs f none) (sym (fresh-other b bs n v isnt) ∙ g ∙ fresh-other b bs n w none)
  ]
]

-- numbers below n stay apart
pub to_fresh-apart : (bs : List Var) (n : ℕ) (v w : Var) → v.number < n → w.number < n → to_fresh bs n v ≡ to_fresh bs n w → v ≡ w
to_fresh-apart bs n v w le ge g =
    let numbers : (to_fresh bs n v).number ≡ (to_fresh bs n w).number = ap (λ (u : Var). u.number) g in
    elim (bool_cases (is_in v bs)) [
      | inl is ↦ elim (bool_cases (is_in w bs)) [
        | inl also ↦ to_fresh-injective bs n v w is also g
        | inr isnt ↦ let h = to_fresh-above bs n v is in let k : (to_fresh bs n w).number ≡ w.number = ap (λ (u : Var). u.number) (to_fresh-out bs n w isnt) in absurd (omega arith)
      ]
      | inr isnt ↦ elim (bool_cases (is_in w bs)) [
        | inl also ↦ let h = to_fresh-above bs n w also in let k : (to_fresh bs n v).number ≡ v.number = ap (λ (u : Var). u.number) (to_fresh-out bs n v isnt) in absurd (omega arith)
        | inr none ↦ sym (to_fresh-out bs n v isnt) ∙ g ∙ to_fresh-out bs n w none
      ]
    ]

-- what bs become is from n on
pub to_fresh-high : (bs : List Var) (n : ℕ) (cs : List Var) → ((v : Var) → is_in v cs ≡ true → is_in v bs ≡ true) → (v : Var) → is_in v (map (to_fresh bs n) cs) ≡ true → n ≤ v.number
to_fresh-high bs n [] inside v e = absurd cc
to_fresh-high bs n (c ∷ cs) inside v e = elim (or_cases (same v (to_fresh bs n c)) (is_in v (map (to_fresh bs n) cs)) e) [
  | inl is ↦
      let h = to_fresh-above bs n c (inside c (or_left (same c c) (is_in c cs) (same_itself c))) in
      let k = ap (λ (u : Var). u.number) (same_true v (to_fresh bs n c) is) in omega arith
  | inr is ↦ to_fresh-high bs n cs (λ w i. inside w (or_right (same w c) (is_in w cs) i)) v is
]

-- a variable that the disjunct leaves free is not renamed
pub free_stays : (d : Disjunct) (n : ℕ) (s : Stack) → Agree (λ v. list_any (is_free_in_disjunct v) (d ∷ [])) (before (to_fresh d.bound n) s) s
free_stays d n s v e = elim (or_cases (is_free_in_disjunct v d) false e) [
  | inl k ↦ ap s (to_fresh-out d.bound n v (false_of_not (and_parts (not (is_in v d.bound)) (list_any (in_atom v) d.atoms || list_any (is_free v) d.pure) k).0))
  | inr k ↦ absurd cc
]

pub fresh_keeps_apart : (d : Disjunct) (n : ℕ) → ((v : Var) → IsTrue (occurs_in_disjunct v d) → v.number < n) → DisjunctKeepsApart (to_fresh d.bound n) d
fresh_keeps_apart d n low u v b o e = to_fresh-apart d.bound n u v (low u (bound_occurs u d b)) (low v o) e
