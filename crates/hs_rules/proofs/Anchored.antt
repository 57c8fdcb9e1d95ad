-- The subgoals of an anchored goal are anchored.
use Rattle.std.proofs.Common.{◌≡◌, ℕ, ◌-◌, ◌⊎◌, inl, inr, false, List, [], ◌∷◌, ◌++◌, map, take, drop, refl, sym, ◌∙◌, subst}
use Rattle.std.specs.List.{All, AllByRecursion}
use Rattle.std.proofs.lemmas.List.Elements.{All-nil, All-cons}
use Rattle.hs_pure.specs.declared.var.Var.{Var}
use Rattle.hs_pure.specs.declared.pure.Pure.{Pure}
use Rattle.hs_pure.specs.declared.pure.Pure.TheVariants as pure_of
use Rattle.hs_heap.specs.declared.formula.Of.{Of}
use Rattle.hs_heap.specs.declared.formula.Of.TheVariants.{Node, Pred}
use Rattle.hs_heap.specs.declared.formula.Atom.{Atom}
use Rattle.hs_heap.specs.declared.formula.Disjunct.{Disjunct}
use Rattle.hs_heap.specs.declared.formula.Formula.{Formula}
use Rattle.hs_heap.specs.declared.definitions.Defs.{Defs}
use Rattle.hs_heap.specs.Renamed.{renamed_atom}
use Rattle.hs_heap.specs.Instance.{Body, body_of, body_of_lemma, body_or_none, lemma_at, instantiated}
use Rattle.hs_goal.specs.declared.goal.Goal.{Goal}
use Rattle.hs_goal.specs.declared.rule.ERule.{ERule}
use Rattle.hs_goal.specs.declared.rule.ERule.TheVariants as rule_of
use Rattle.hs_goal.specs.Classes.{the_case, IsSimple}
use Rattle.hs_goal.specs.Anchored.{HasNode, CaseIsAnchored, IsAnchored}
use Rattle.hs_rules.specs.Parts.{IsPlace, plain, only, atom_at, conjunct_at, left_atoms, left_pure, right_atoms, right_pure, no_atom, to_fresh, opened, replaced}
use Rattle.hs_rules.specs.Conditions.{IsPred, HasCondition}
use Rattle.hs_rules.specs.Subgoals.{one_each, left_opened, right_opened, with_conjunct, with_right_case, instantiated_by, matched, left_replaced, right_replaced, subgoals_of}
use Rattle.hs_rules.specs.Laws.{SubgoalsAreAnchored}
use Rattle.hs_rules.proofs.Places.{at_place}
use Rattle.hs_rules.proofs.Plain.{only_case}
use Rattle.hs_rules.proofs.Anchors.{HasNode-others, HasNode-left, HasNode-right, HasNode-moved, not_none}

module _ (ρ : Var → Var) where
  renamed_node : (atoms : List Atom) → HasNode atoms → HasNode (map (renamed_atom ρ) atoms)
  renamed_node [] i = i
  renamed_node (a ∷ rest) (inl i) = inl i
  renamed_node (a ∷ rest) (inr i) = inr (renamed_node rest i)

  renamed_none : (atoms : List Atom) → atoms ≡ [] → map (renamed_atom ρ) atoms ≡ []
  renamed_none [] e = refl
  renamed_none (a ∷ rest) e = absurd cc

left_opened_anchored : (d : Disjunct) (n : ℕ) → CaseIsAnchored d → CaseIsAnchored (opened d n)
left_opened_anchored d n (inl i) = inl (renamed_node (to_fresh d.bound n) d.atoms i)
left_opened_anchored d n (inr e) = inr (renamed_none (to_fresh d.bound n) d.atoms e)

-- a node among others stays
middle_node : (xs ys zs : List Atom) → HasNode (xs ++ zs) → HasNode (xs ++ ys ++ zs)
middle_node [] ys zs i = HasNode-right ys zs i
middle_node (a ∷ xs) ys zs (inl i) = inl i
middle_node (a ∷ xs) ys zs (inr i) = inr (middle_node xs ys zs i)

pred_only : (o : Of) → IsPred o → (n : ℕ) × (o ≡ Pred n)
pred_only (Node n) i = absurd i
pred_only (Pred n) i = (n, refl)

-- the disjunct of a simple side
simple_case : (f : Formula) → IsSimple f → AllByRecursion CaseIsAnchored f.cases → CaseIsAnchored (the_case f)
simple_case f s a = (subst (λ (k : Formula). AllByRecursion CaseIsAnchored k.cases) (only_case f s.one) a).0

module _ (g : Goal) where
  each_anchored : (ds : List Disjunct) → HasNode g.used ⊎ AllByRecursion CaseIsAnchored ds → All IsAnchored (one_each g ds)
  each_anchored [] a = All-nil IsAnchored
  each_anchored (d ∷ ds) (inl u) = All-cons IsAnchored (record g { left = only d; looked = false }) (one_each g ds) (inl u) (each_anchored ds (inl u))
  each_anchored (d ∷ ds) (inr (c, a)) = All-cons IsAnchored (record g { left = only d; looked = false }) (one_each g ds) (inr (c, tt)) (each_anchored ds (inr a))

  one : (sub : Goal) → IsAnchored sub → All IsAnchored (sub ∷ [])
  one sub a = All-cons IsAnchored sub [] a (All-nil IsAnchored)

  -- more conjuncts
  with_atoms : IsSimple g.left → IsAnchored g → (ps : List Pure) → HasNode g.used ⊎ AllByRecursion CaseIsAnchored (plain (left_atoms g) ps).cases
  with_atoms s (inl u) ps = inl u
  with_atoms s (inr a) ps = inr (simple_case g.left s a, tt)

  -- a left atom of a predicate gives way to others
  module _ (l : ℕ) (s : IsSimple g.left) (place : IsPlace l (left_atoms g)) (n : ℕ) (is : (atom_at l (left_atoms g)).of ≡ Pred n) where
    whole : left_atoms g ≡ take (l - 1) (left_atoms g) ++ atom_at l (left_atoms g) ∷ drop l (left_atoms g)
    whole = at_place l (left_atoms g) no_atom place

    others_node : CaseIsAnchored (the_case g.left) → HasNode (take (l - 1) (left_atoms g) ++ drop l (left_atoms g))
    others_node (inl i) = HasNode-others (take (l - 1) (left_atoms g)) (atom_at l (left_atoms g)) (drop l (left_atoms g)) n is (subst HasNode whole i)
    others_node (inr e) = absurd (not_none (take (l - 1) (left_atoms g)) (atom_at l (left_atoms g)) (drop l (left_atoms g)) (sym whole ∙ e))

    cases_anchored : CaseIsAnchored (the_case g.left) → (ds : List Disjunct) → AllByRecursion CaseIsAnchored (map (replaced l (the_case g.left)) ds)
    cases_anchored c [] = tt
    cases_anchored c (d ∷ ds) = (inl (middle_node (take (l - 1) (left_atoms g)) d.atoms (drop l (left_atoms g)) (others_node c)), cases_anchored c ds)

    replaced_anchored : (b : Body) → IsAnchored g → IsAnchored (left_replaced g l b)
    replaced_anchored b (inl u) = inl u
    replaced_anchored b (inr a) =
        inr (cases_anchored (simple_case g.left s a) (instantiated b (atom_at l (left_atoms g)).root (atom_at l (left_atoms g)).args g.next).cases)

  -- a left atom is used
  moved_anchored : (l : ℕ) → IsPlace l (left_atoms g) → CaseIsAnchored (the_case g.left) →
      HasNode (g.used ++ atom_at l (left_atoms g) ∷ []) ⊎ HasNode (take (l - 1) (left_atoms g) ++ drop l (left_atoms g))
  moved_anchored l place (inl i) =
      HasNode-moved g.used (take (l - 1) (left_atoms g)) (atom_at l (left_atoms g)) (drop l (left_atoms g)) (subst HasNode (at_place l (left_atoms g) no_atom place) i)
  moved_anchored l place (inr e) =
      absurd (not_none (take (l - 1) (left_atoms g)) (atom_at l (left_atoms g)) (drop l (left_atoms g)) (sym (at_place l (left_atoms g) no_atom place) ∙ e))

  matched_anchored : (l : ℕ) → IsSimple g.left → IsPlace l (left_atoms g) → IsAnchored g → (ps : List Pure) →
      HasNode (g.used ++ atom_at l (left_atoms g) ∷ []) ⊎ AllByRecursion CaseIsAnchored (plain (take (l - 1) (left_atoms g) ++ drop l (left_atoms g)) ps).cases
  matched_anchored l s place (inl u) ps = inl (HasNode-left g.used (atom_at l (left_atoms g) ∷ []) u)
  matched_anchored l s place (inr a) ps = elim (moved_anchored l place (simple_case g.left s a)) [ inl k ↦ inl k | inr k ↦ inr (inl k, tt) ]

  subgoals : (defs : Defs) (rule : ERule) → HasCondition defs g rule → IsAnchored g → All IsAnchored (subgoals_of defs g rule)
  subgoals defs rule_of.LeftOr can a = each_anchored g.left.cases a
  subgoals defs rule_of.LeftExists can a = one (left_opened g (the_case g.left)) (opened_there a)
    where
      opened_there : IsAnchored g → HasNode g.used ⊎ AllByRecursion CaseIsAnchored (only (opened (the_case g.left) g.next)).cases
      opened_there (inl u) = inl u
      opened_there (inr b) = inr (left_opened_anchored (the_case g.left) g.next (subst (λ (k : Formula). AllByRecursion CaseIsAnchored k.cases) (only_case g.left can.one) b).0, tt)
  subgoals defs (rule_of.False n) can a = All-nil IsAnchored
  subgoals defs (rule_of.Split f) can a =
      All-cons IsAnchored (with_conjunct g f) (with_conjunct g (pure_of.Not f) ∷ []) (with_atoms can.left a (left_pure g ++ f ∷ [])) (one (with_conjunct g (pure_of.Not f)) (with_atoms can.left a (left_pure g ++ pure_of.Not f ∷ [])))
  subgoals defs (rule_of.RightOr i) can a = one (with_right_case g i) a
  subgoals defs rule_of.RightExists can a = one (right_opened g (the_case g.right)) a
  subgoals defs (rule_of.Instantiate c) can a = one (instantiated_by g c) (with_atoms can.left a (left_pure g ++ conjunct_at c (right_pure g) ∷ []))
  subgoals defs (rule_of.Match r l) can a = one (matched g r l) (matched_anchored l can.left can.left_place a (left_pure g))
  subgoals defs (rule_of.Unfold l) can a =
      let n = pred_only (atom_at l (left_atoms g)).of can.pred in
      one (left_replaced g l (body_of defs (atom_at l (left_atoms g)).of)) (replaced_anchored l can.left can.place n.0 n.1 (body_of defs (atom_at l (left_atoms g)).of) a)
  subgoals defs (rule_of.Fold r i) can a = one (right_replaced g r i (body_of defs (atom_at r (right_atoms g)).of)) a
  subgoals defs (rule_of.Empty n) can a = All-nil IsAnchored
  subgoals defs (rule_of.Lemma j l) can a = one (left_replaced g l (body_or_none body_of_lemma (lemma_at defs j))) (replaced_anchored l can.left can.place can.lemma.pred can.of_pred (body_or_none body_of_lemma (lemma_at defs j)) a)

pub subgoals_anchored : SubgoalsAreAnchored
subgoals_anchored defs g rule fits applies a = subgoals g defs rule applies.condition a
