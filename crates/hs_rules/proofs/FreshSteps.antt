-- Right steps keep numbers apart: all rules.
use Rattle.std.proofs.Common.{◌≡◌, ℕ, ◌≤◌, ◌<◌, false, not, ◌||◌, IsTrue, ◌⊎◌, inl, inr, List, [], ◌∷◌, ◌++◌, length, map, sym, ◌∙◌, subst, arith}
use Rattle.std.specs.List.{list_any, All, AllByRecursion}
use Rattle.std.proofs.lemmas.Bool.{and_parts, and_from}
use Rattle.std.proofs.lemmas.List.Elements.{All-nil, All-cons, All-head}
use Rattle.hs_pure.specs.declared.var.Var.{Var}
use Rattle.hs_pure.specs.declared.pure.Pure.{Pure}
use Rattle.hs_pure.specs.declared.pure.Pure.TheVariants as pure_of
use Rattle.hs_pure.specs.Stack.{same}
use Rattle.hs_pure.specs.Occurs.{is_free, is_free_level}
use Rattle.hs_pure.proofs.Views.{fold-Not}
use Rattle.hs_heap.specs.declared.formula.Atom.{Atom}
use Rattle.hs_heap.specs.declared.formula.Disjunct.{Disjunct}
use Rattle.hs_heap.specs.declared.formula.Formula.{Formula}
use Rattle.hs_heap.specs.declared.definitions.Defs.{Defs}
use Rattle.hs_heap.specs.Meaning.{is_in}
use Rattle.hs_heap.specs.Variables.{in_atom, is_free_in_disjunct, is_free_in_formula}
use Rattle.hs_heap.specs.Sound.{IsSound, kinds}
use Rattle.hs_heap.specs.Renamed.{renamed_disjunct}
use Rattle.hs_heap.specs.Instance.{Body, body_of, body_of_pred, body_of_lemma, body_or_none, lemma_at, BodyFits, body_renaming, instantiated}
use Rattle.std.proofs.lemmas.Bool.{or_cases}
use Rattle.hs_pure.proofs.Vars.{or_left, or_right}
use Rattle.hs_heap.proofs.Bodies.{instantiated_free, bodies_fit, lemmas_fit}
use Rattle.hs_goal.specs.declared.goal.Goal.{Goal}
use Rattle.hs_goal.specs.declared.rule.ERule.{ERule}
use Rattle.hs_goal.specs.declared.rule.ERule.TheVariants as rule_of
use Rattle.hs_goal.specs.Goal.{is_free_in_goal, IsFreshResidue}
use Rattle.hs_goal.specs.Shape.{GoalFits, SideFits, CaseFits}
use Rattle.hs_goal.specs.Classes.{nothing, the_case, IsSimple}
use Rattle.hs_rules.specs.Parts.{IsPlace, plain, only, without, in_place, atom_at, conjunct_at, case_at, no_atom, left_atoms, left_pure, right_atoms, right_pure, equations, fresh_variables, opened, replaced}
use Rattle.hs_rules.specs.Conditions.{HasCondition}
use Rattle.hs_rules.specs.Subgoals.{one_each, with_conjunct, with_right_case, left_opened, right_opened, instantiated_by, matched, left_replaced, right_replaced, subgoals_of}
use Rattle.hs_rules.specs.Residues.{all_binding, the_one, residue_of}
use Rattle.hs_rules.specs.Rules.{Judgement}
use Rattle.hs_rules.specs.Laws.{AllFresh, RightStepsStayFresh}
use Rattle.hs_rules.proofs.Plain.{only_case}
use Rattle.hs_rules.proofs.NewNumbers.{to_fresh-high}
use Rattle.hs_rules.proofs.Fits.{atoms_below}
use Rattle.hs_rules.proofs.Rules.Cases.{goals, residues}
use Rattle.hs_rules.proofs.Steps.{atom_fits}
use Rattle.hs_rules.proofs.Definitions.{has_pred, lemma_arity}
use Rattle.hs_rules.proofs.Places.{IsPlace-map}
use Rattle.hs_rules.proofs.Variables.{only_first}
use Rattle.hs_rules.proofs.Fresh.{plain-free, used_free, left_free, right_free, left_atom_free, left_pure_free, right_atom_free, right_pure_free, any_append, any_without, any_at, any_in_place, fresh_from, joined_fresh, binding_fresh, opened_free, equations-free}

-- v is free in one of the parts of a goal
free_cases : (g : Goal) (v : Var) → IsTrue (is_free_in_goal v g) → IsTrue (list_any (in_atom v) g.used) ⊎ (IsTrue (is_free_in_formula v g.left) ⊎ IsTrue (is_free_in_formula v g.right))
free_cases g v e = elim (or_cases (list_any (in_atom v) g.used) (is_free_in_formula v g.left || is_free_in_formula v g.right) e) [
  | inl k ↦ inl k
  | inr k ↦ inr (or_cases (is_free_in_formula v g.left) (is_free_in_formula v g.right) k)
]

-- the subgoal has a part of its own, whose free variables are the goal's
module _ (g : Goal) (v : Var) where
  with_left : (f : Formula) → (IsTrue (is_free_in_formula v f) → IsTrue (is_free_in_goal v g)) → IsTrue (list_any (in_atom v) g.used || (is_free_in_formula v f || is_free_in_formula v g.right)) → IsTrue (is_free_in_goal v g)
  with_left f h e = elim (or_cases (list_any (in_atom v) g.used) (is_free_in_formula v f || is_free_in_formula v g.right) e) [
    | inl k ↦ used_free g v k
    | inr k ↦ elim (or_cases (is_free_in_formula v f) (is_free_in_formula v g.right) k) [ inl m ↦ h m | inr m ↦ right_free g v m ]
  ]

  with_right : (f : Formula) → (IsTrue (is_free_in_formula v f) → IsTrue (is_free_in_goal v g)) → IsTrue (list_any (in_atom v) g.used || (is_free_in_formula v g.left || is_free_in_formula v f)) → IsTrue (is_free_in_goal v g)
  with_right f h e = elim (or_cases (list_any (in_atom v) g.used) (is_free_in_formula v g.left || is_free_in_formula v f) e) [
    | inl k ↦ used_free g v k
    | inr k ↦ elim (or_cases (is_free_in_formula v g.left) (is_free_in_formula v f) k) [ inl m ↦ left_free g v m | inr m ↦ h m ]
  ]

  pub plain_cases : (atoms : List Atom) (ps : List Pure) → IsTrue (is_free_in_formula v (plain atoms ps)) → IsTrue (list_any (in_atom v) atoms) ⊎ IsTrue (list_any (is_free v) ps)
  plain_cases atoms ps e = or_cases (list_any (in_atom v) atoms) (list_any (is_free v) ps) (sym (plain-free atoms ps v) ∙ e)

-- ---- LeftOr and Split

each_fresh : (g : Goal) (ds : List Disjunct) (ps : List Judgement) → ((v : Var) → IsTrue (list_any (is_free_in_disjunct v) ds) → IsTrue (is_free_in_goal v g)) →
    goals ps ≡ one_each g ds → AllFresh ps → AllByRecursion (λ (p : Judgement). IsFreshResidue g p.residue) ps
each_fresh g ds [] inside e f = tt
each_fresh g [] (p ∷ ps) inside e f = absurd cc
each_fresh g (d ∷ ds) (p ∷ ps) inside e (f, fs) =
    let sub = record g { left = only d; looked = false } in
    let head : p.goal ≡ sub = cc in
    let tail : goals ps ≡ one_each g ds = cc in (
      fresh_from g sub p.residue (omega arith)
          (λ v k. with_left g v (only d) (λ m. inside v (or_left (is_free_in_disjunct v d) (list_any (is_free_in_disjunct v) ds) (only_first (is_free_in_disjunct v d) m))) k)
          (subst (λ t. IsFreshResidue t p.residue) head f),
      each_fresh g ds ps (λ v k. inside v (or_right (is_free_in_disjunct v d) (list_any (is_free_in_disjunct v) ds) k)) tail fs,
    )

conjunct_free : (g : Goal) (f : Pure) (r : Formula) → IsSimple g.left → ((v : Var) → IsTrue (is_free v f) → IsTrue (is_free_in_goal v g)) → IsFreshResidue (with_conjunct g f) r → IsFreshResidue g r
conjunct_free g f r s inside fresh = fresh_from g (with_conjunct g f) r (omega arith) (λ v k. with_left g v (plain (left_atoms g) (left_pure g ++ f ∷ [])) (λ m.
    elim (plain_cases g v (left_atoms g) (left_pure g ++ f ∷ []) m) [
      | inl a ↦ left_atom_free g v s a
      | inr p ↦ elim (any_append (is_free v) (left_pure g) (f ∷ []) p) [
        | inl q ↦ left_pure_free g v s q
        | inr q ↦ inside v (only_first (is_free v f) q)
      ]
    ]) k) fresh

split_fresh : (g : Goal) (f : Pure) (ps : List Judgement) → IsSimple g.left → ((v : Var) → IsTrue (is_free v f) → IsTrue (is_free_in_goal v g)) →
    goals ps ≡ with_conjunct g f ∷ with_conjunct g (pure_of.Not f) ∷ [] → AllFresh ps → AllByRecursion (λ (p : Judgement). IsFreshResidue g p.residue) ps
split_fresh g f [] s inside e all = absurd cc
split_fresh g f (a ∷ []) s inside e all = absurd cc
split_fresh g f (a ∷ b ∷ (c ∷ ps)) s inside e all = absurd cc
split_fresh g f (a ∷ b ∷ []) s inside e (x, y) =
    let first : a.goal ≡ with_conjunct g f = cc in
    let second : b.goal ≡ with_conjunct g (pure_of.Not f) = cc in (
      conjunct_free g f a.residue s inside (subst (λ t. IsFreshResidue t a.residue) first x),
      (conjunct_free g (pure_of.Not f) b.residue s (λ v k. inside v (sym (fold-Not (is_free_level v) f) ∙ k)) (subst (λ t. IsFreshResidue t b.residue) second y.0), tt),
    )

-- ---- one premise

one_fresh : (sub : Goal) (ps : List Judgement) → goals ps ≡ sub ∷ [] → AllFresh ps → IsFreshResidue sub (the_one (residues ps))
one_fresh sub [] e all = absurd cc
one_fresh sub (p ∷ []) e all = let f : p.goal ≡ sub = cc in subst (λ g. IsFreshResidue g p.residue) f all.0
one_fresh sub (p ∷ q ∷ ps) e all = absurd cc

module _ (g : Goal) (r : Formula) where
  right_case_fresh : (i : ℕ) → IsPlace i g.right.cases → IsFreshResidue (with_right_case g i) r → IsFreshResidue g r
  right_case_fresh i place fresh = fresh_from g (with_right_case g i) r (omega arith) (λ v k. with_right g v (only (case_at i g.right.cases)) (λ m.
      right_free g v (any_at (is_free_in_disjunct v) i g.right.cases nothing place (only_first (is_free_in_disjunct v (case_at i g.right.cases)) m))) k) fresh

  instantiate_fresh : (c : ℕ) → IsSimple g.left → IsSimple g.right → IsPlace c (right_pure g) → IsFreshResidue (instantiated_by g c) r → IsFreshResidue g r
  instantiate_fresh c sl sr place fresh = fresh_from g (instantiated_by g c) r (omega arith) (λ v k.
      elim (free_cases (instantiated_by g c) v k) [
        | inl u ↦ used_free g v u
        | inr w ↦ elim w [
          | inl l ↦ elim (plain_cases g v (left_atoms g) (left_pure g ++ conjunct_at c (right_pure g) ∷ []) l) [
            | inl a ↦ left_atom_free g v sl a
            | inr p ↦ elim (any_append (is_free v) (left_pure g) (conjunct_at c (right_pure g) ∷ []) p) [
              | inl q ↦ left_pure_free g v sl q
              | inr q ↦ right_pure_free g v sr (any_at (is_free v) c (right_pure g) (pure_of.And []) place (only_first (is_free v (conjunct_at c (right_pure g))) q))
            ]
          ]
          | inr l ↦ elim (plain_cases g v (right_atoms g) (without c (right_pure g)) l) [
            | inl a ↦ right_atom_free g v sr a
            | inr p ↦ right_pure_free g v sr (any_without (is_free v) c (right_pure g) (pure_of.And []) place p)
          ]
        ]
      ]) fresh

  match_fresh : (p q : ℕ) → IsSimple g.left → IsSimple g.right → IsPlace p (right_atoms g) → IsPlace q (left_atoms g) → IsFreshResidue (matched g p q) r → IsFreshResidue g r
  match_fresh p q sl sr rp lp fresh = fresh_from g (matched g p q) r (omega arith) (λ v k.
      let left_one = λ (h : IsTrue (in_atom v (atom_at q (left_atoms g)))). left_atom_free g v sl (any_at (in_atom v) q (left_atoms g) no_atom lp h) in
      let right_one = λ (h : IsTrue (in_atom v (atom_at p (right_atoms g)))). right_atom_free g v sr (any_at (in_atom v) p (right_atoms g) no_atom rp h) in
      elim (free_cases (matched g p q) v k) [
        | inl u ↦ elim (any_append (in_atom v) g.used (atom_at q (left_atoms g) ∷ []) u) [
          | inl x ↦ used_free g v x
          | inr x ↦ left_one (only_first (in_atom v (atom_at q (left_atoms g))) x)
        ]
        | inr w ↦ elim w [
          | inl l ↦ elim (plain_cases g v (without q (left_atoms g)) (left_pure g) l) [
            | inl a ↦ left_atom_free g v sl (any_without (in_atom v) q (left_atoms g) no_atom lp a)
            | inr b ↦ left_pure_free g v sl b
          ]
          | inr l ↦ elim (plain_cases g v (without p (right_atoms g)) (equations (atom_at p (right_atoms g)).args (atom_at q (left_atoms g)).args ++ right_pure g) l) [
            | inl a ↦ right_atom_free g v sr (any_without (in_atom v) p (right_atoms g) no_atom rp a)
            | inr b ↦ elim (any_append (is_free v) (equations (atom_at p (right_atoms g)).args (atom_at q (left_atoms g)).args) (right_pure g) b) [
              | inl x ↦ elim (equations-free (atom_at p (right_atoms g)).args (atom_at q (left_atoms g)).args v x) [
                | inl y ↦ right_one (or_right (same v (atom_at p (right_atoms g)).root) (is_in v (atom_at p (right_atoms g)).args) y)
                | inr y ↦ left_one (or_right (same v (atom_at q (left_atoms g)).root) (is_in v (atom_at q (left_atoms g)).args) y)
              ]
              | inr x ↦ right_pure_free g v sr x
            ]
          ]
        ]
      ]) fresh

  left_exists_fresh : length g.left.cases ≡ 1 → IsFreshResidue (left_opened g (the_case g.left)) r → IsFreshResidue g (all_binding (fresh_variables (the_case g.left) g.next) r)
  left_exists_fresh one fresh =
      let d = the_case g.left in
      binding_fresh g (left_opened g d) (fresh_variables d g.next) r (omega arith) (to_fresh-high d.bound g.next d.bound (λ v e. e))
      (λ v out k. with_left g v (only (opened d g.next)) (λ m. left_free g v (subst (λ (f : Formula). IsTrue (is_free_in_formula v f)) (sym (only_case g.left one)) (opened_free d g.next v out m))) k) fresh

  right_exists_fresh : length g.right.cases ≡ 1 → IsFreshResidue (right_opened g (the_case g.right)) r → IsFreshResidue g (all_binding (fresh_variables (the_case g.right) g.next) r)
  right_exists_fresh one fresh =
      let d = the_case g.right in
      binding_fresh g (right_opened g d) (fresh_variables d g.next) r (omega arith) (to_fresh-high d.bound g.next d.bound (λ v e. e))
      (λ v out k. with_right g v (only (opened d g.next)) (λ m. right_free g v (subst (λ (f : Formula). IsTrue (is_free_in_formula v f)) (sym (only_case g.right one)) (opened_free d g.next v out m))) k) fresh

-- ---- bodies

-- the root and the arguments of an atom at a place have numbers below next
pub args_below : (defs : Defs) (next : ℕ) (f : Formula) (n : ℕ) → IsSimple f → IsPlace n (the_case f).atoms → SideFits defs next f →
    (v : Var) → IsTrue (is_in v ((atom_at n (the_case f).atoms).root ∷ (atom_at n (the_case f).atoms).args)) → v.number < next
args_below defs next f n simple place fits v i =
    let d = the_case f in
    let d_fits = All-head (CaseFits defs next) d [] (subst (λ (k : Formula). SideFits defs next k) (only_case f simple.one) fits) in
    atoms_below next d d_fits.numbers v (any_at (in_atom v) n d.atoms no_atom place i)

-- v is free in a case, with other atoms and conjuncts of the side
pub replaced_free : (l : ℕ) (side d : Disjunct) (v : Var) → IsPlace l side.atoms → IsTrue (is_free_in_disjunct v (replaced l side d)) →
    IsTrue (is_free_in_disjunct v d) ⊎ (IsTrue (list_any (in_atom v) side.atoms) ⊎ IsTrue (list_any (is_free v) side.pure))
replaced_free l side d v place e =
    let parts = and_parts (not (is_in v d.bound)) (list_any (in_atom v) (in_place l d.atoms side.atoms) || list_any (is_free v) (side.pure ++ d.pure)) e in
    let free_there = λ (k : IsTrue (list_any (in_atom v) d.atoms || list_any (is_free v) d.pure)). and_from (not (is_in v d.bound)) (list_any (in_atom v) d.atoms || list_any (is_free v) d.pure) parts.0 k in
    elim (or_cases (list_any (in_atom v) (in_place l d.atoms side.atoms)) (list_any (is_free v) (side.pure ++ d.pure)) parts.1) [
      | inl k ↦ elim (any_in_place (in_atom v) l d.atoms side.atoms no_atom place k) [
        | inl m ↦ inl (free_there (or_left (list_any (in_atom v) d.atoms) (list_any (is_free v) d.pure) m))
        | inr m ↦ inr (inl m)
      ]
      | inr k ↦ elim (any_append (is_free v) side.pure d.pure k) [
        | inl m ↦ inr (inr m)
        | inr m ↦ inl (free_there (or_right (list_any (in_atom v) d.atoms) (list_any (is_free v) d.pure) m))
      ]
    ]

pub all_replaced_free : (l : ℕ) (side : Disjunct) (ds : List Disjunct) (v : Var) → IsPlace l side.atoms → IsTrue (list_any (is_free_in_disjunct v) (map (replaced l side) ds)) →
    IsTrue (list_any (is_free_in_disjunct v) ds) ⊎ (IsTrue (list_any (in_atom v) side.atoms) ⊎ IsTrue (list_any (is_free v) side.pure))
all_replaced_free l side [] v place e = absurd cc
all_replaced_free l side (d ∷ ds) v place e = elim (or_cases (is_free_in_disjunct v (replaced l side d)) (list_any (is_free_in_disjunct v) (map (replaced l side) ds)) e) [
  | inl k ↦ elim (replaced_free l side d v place k) [ inl m ↦ inl (or_left (is_free_in_disjunct v d) (list_any (is_free_in_disjunct v) ds) m) | inr m ↦ inr m ]
  | inr k ↦ elim (all_replaced_free l side ds v place k) [ inl m ↦ inl (or_right (is_free_in_disjunct v d) (list_any (is_free_in_disjunct v) ds) m) | inr m ↦ inr m ]
]

module _ (defs : Defs) (g : Goal) (r : Formula) (fits : GoalFits defs g) (b : Body) (body_fits : BodyFits defs b) where
  unfold_fresh : (l : ℕ) → IsSimple g.left → IsPlace l (left_atoms g) → (atom_at l (left_atoms g)).root.bag ≡ false → kinds b.params ≡ kinds (atom_at l (left_atoms g)).args →
      IsFreshResidue (left_replaced g l b) r → IsFreshResidue g r
  unfold_fresh l s place root_kind arity fresh =
      let a = atom_at l (left_atoms g) in
      fresh_from g (left_replaced g l b) r (omega arith) (λ v k.
      with_left g v (record { cases = map (replaced l (the_case g.left)) (instantiated b a.root a.args g.next).cases }) (λ m.
      elim (all_replaced_free l (the_case g.left) (instantiated b a.root a.args g.next).cases v place m) [
        | inl x ↦ left_atom_free g v s (any_at (in_atom v) l (left_atoms g) no_atom place (instantiated_free defs b a.root a.args g.next body_fits root_kind arity (args_below defs g.next g.left l s place fits.left) v x))
        | inr x ↦ elim x [ inl y ↦ left_atom_free g v s y | inr y ↦ left_pure_free g v s y ]
      ]) k) fresh

  fold_fresh : (q i : ℕ) → IsSimple g.right → IsPlace q (right_atoms g) → IsPlace i (instantiated b (atom_at q (right_atoms g)).root (atom_at q (right_atoms g)).args g.next).cases →
      (atom_at q (right_atoms g)).root.bag ≡ false → kinds b.params ≡ kinds (atom_at q (right_atoms g)).args →
      IsFreshResidue (right_replaced g q i b) r → IsFreshResidue g r
  fold_fresh q i s place case_place root_kind arity fresh =
      let a = atom_at q (right_atoms g) in
      let cases = (instantiated b a.root a.args g.next).cases in
      fresh_from g (right_replaced g q i b) r (omega arith) (λ v k.
      with_right g v (only (replaced q (the_case g.right) (case_at i cases))) (λ m.
      elim (replaced_free q (the_case g.right) (case_at i cases) v place (only_first (is_free_in_disjunct v (replaced q (the_case g.right) (case_at i cases))) m)) [
        | inl x ↦ right_atom_free g v s (any_at (in_atom v) q (right_atoms g) no_atom place (instantiated_free defs b a.root a.args g.next body_fits root_kind arity (args_below defs g.next g.right q s place fits.right) v (any_at (is_free_in_disjunct v) i cases nothing case_place x)))
        | inr x ↦ elim x [ inl y ↦ right_atom_free g v s y | inr y ↦ right_pure_free g v s y ]
      ]) k) fresh

-- ---- all rules

empty_fresh : (g : Goal) → IsSimple g.left → IsSimple g.right → IsFreshResidue g (plain (left_atoms g) (left_pure g ++ right_pure g))
empty_fresh g sl sr = record {
  bound = All-cons (λ (d : Disjunct). All (λ (v : Var). g.next ≤ v.number) d.bound) _ [] (All-nil (λ (v : Var). g.next ≤ v.number)) (All-nil (λ (d : Disjunct). All (λ (v : Var). g.next ≤ v.number) d.bound));
  free = λ v e. elim (plain_cases g v (left_atoms g) (left_pure g ++ right_pure g) e) [
    | inl a ↦ left_atom_free g v sl a
    | inr p ↦ elim (any_append (is_free v) (left_pure g) (right_pure g) p) [ inl q ↦ left_pure_free g v sl q | inr q ↦ right_pure_free g v sr q ]
  ];
}

none_fresh : (g : Goal) → IsFreshResidue g (record { cases = [] })
none_fresh g = record { bound = All-nil _; free = λ v e. absurd cc }

module _ (defs : Defs) (sound : IsSound defs) (g : Goal) (fits : GoalFits defs g) where
  by_rule : (rule : ERule) (ps : List Judgement) → HasCondition defs g rule → goals ps ≡ subgoals_of defs g rule → AllFresh ps → IsFreshResidue g (residue_of g rule (residues ps))
  by_rule rule_of.LeftOr ps can e all = joined_fresh g ps (each_fresh g g.left.cases ps (left_free g) e all)
  by_rule rule_of.LeftExists ps can e all = left_exists_fresh g (the_one (residues ps)) can.one (one_fresh (left_opened g (the_case g.left)) ps e all)
  by_rule (rule_of.False n) ps can e all = none_fresh g
  by_rule (rule_of.Split f) ps can e all = joined_fresh g ps (split_fresh g f ps can.left can.free e all)
  by_rule (rule_of.RightOr i) ps can e all = right_case_fresh g (the_one (residues ps)) i can.place (one_fresh (with_right_case g i) ps e all)
  by_rule rule_of.RightExists ps can e all = right_exists_fresh g (the_one (residues ps)) can.one (one_fresh (right_opened g (the_case g.right)) ps e all)
  by_rule (rule_of.Instantiate c) ps can e all = instantiate_fresh g (the_one (residues ps)) c can.left can.right can.place (one_fresh (instantiated_by g c) ps e all)
  by_rule (rule_of.Match r l) ps can e all = match_fresh g (the_one (residues ps)) r l can.left can.right can.right_place can.left_place (one_fresh (matched g r l) ps e all)
  by_rule (rule_of.Unfold l) ps can e all =
      let a = atom_at l (left_atoms g) in
      let fit = atom_fits defs g.next g.left l can.left can.place fits.left in
      let p = has_pred defs sound a fit can.pred in
      unfold_fresh defs g (the_one (residues ps)) fits (body_of_pred p.pred) (subst (BodyFits defs) p.body_is (bodies_fit defs sound a.of)) l can.left can.place fit.0 p.arity
      (subst (λ c. IsFreshResidue (left_replaced g l c) (the_one (residues ps))) p.body_is (one_fresh (left_replaced g l (body_of defs a.of)) ps e all))
  by_rule (rule_of.Fold q i) ps can e all =
      let a = atom_at q (right_atoms g) in
      let fit = atom_fits defs g.next g.right q can.right can.place fits.right in
      let p = has_pred defs sound a fit can.pred in
      let b = body_of_pred p.pred in
      fold_fresh defs g (the_one (residues ps)) fits b (subst (BodyFits defs) p.body_is (bodies_fit defs sound a.of)) q i can.right can.place
      (IsPlace-map i (renamed_disjunct (body_renaming b a.root a.args g.next)) b.formula.cases (subst (λ (c : Body). IsPlace i c.formula.cases) p.body_is can.case_place)) fit.0 p.arity
      (subst (λ c. IsFreshResidue (right_replaced g q i c) (the_one (residues ps))) p.body_is (one_fresh (right_replaced g q i (body_of defs a.of)) ps e all))
  by_rule (rule_of.Empty n) ps can e all = empty_fresh g can.left can.right
  by_rule (rule_of.Lemma j l) ps can e all =
      let a = atom_at l (left_atoms g) in
      let fit = atom_fits defs g.next g.left l can.left can.place fits.left in
      unfold_fresh defs g (the_one (residues ps)) fits (body_of_lemma can.lemma) (subst (λ o. BodyFits defs (body_or_none body_of_lemma o)) can.there (lemmas_fit defs sound j)) l can.left can.place fit.0
      (lemma_arity defs sound j can.lemma can.there a fit can.of_pred)
      (subst (λ o. IsFreshResidue (left_replaced g l (body_or_none body_of_lemma o)) (the_one (residues ps))) can.there (one_fresh (left_replaced g l (body_or_none body_of_lemma (lemma_at defs j))) ps e all))

pub right_steps_fresh : RightStepsStayFresh
right_steps_fresh defs sound g r rule ps step all =
    subst (λ f. IsFreshResidue g f) (sym step.residue_is) (by_rule defs sound g step.shape rule ps step.applies.condition step.goals_are all)
