-- The rules that open bound variables keep what a goal means.
use Rattle.std.proofs.Common.{ℕ, inl, inr, List, [], ◌∷◌, map, sym, ◌∙◌, subst}
use Rattle.std.specs.List.{list_any, All}
use Rattle.std.proofs.lemmas.List.Elements.{All-nil, All-cons, All-head}
use Rattle.hs_pure.specs.declared.var.Var.{Var}
use Rattle.hs_pure.specs.Stack.{Stack, same}
use Rattle.hs_heap.specs.declared.formula.Disjunct.{Disjunct}
use Rattle.hs_heap.specs.declared.formula.Formula.{Formula}
use Rattle.hs_heap.specs.declared.definitions.Defs.{Defs}
use Rattle.hs_heap.specs.Heap.{Heap}
use Rattle.hs_heap.specs.Meaning.{Meaning, is_in, SameBut, SomeHolds, FormulaHolds}
use Rattle.hs_heap.specs.Variables.{in_atom, is_free_in_disjunct}
use Rattle.hs_heap.proofs.Stacks.{with_values, with_values-in, with_values-out, SameBut-with_values}
use Rattle.hs_heap.specs.Renamed.{DisjunctKeepsApart}
use Rattle.hs_heap.proofs.Booleans.{bool_cases}
use Rattle.std.proofs.lemmas.Bool.{or_from}
use Rattle.hs_rules.proofs.Variables.{SameBut-sym, SameBut-append, is_in-append}
use Rattle.hs_heap.proofs.Free.{atoms_agree, cases_agree}
use Rattle.hs_heap.proofs.Renaming.{renamed_cases, cases_renamed}
use Rattle.hs_goal.specs.declared.goal.Goal.{Goal}
use Rattle.hs_goal.specs.Shape.{GoalFits, SideFits, CaseFits}
use Rattle.hs_goal.specs.Classes.{the_case}
use Rattle.hs_rules.specs.Parts.{to_fresh, fresh_variables}
use Rattle.hs_rules.specs.Conditions.{BindsOnly}
use Rattle.hs_rules.specs.Subgoals.{left_opened, right_opened}
use Rattle.hs_rules.specs.Residues.{binding, all_binding}
use Rattle.hs_rules.proofs.Plain.{only_case, plain_holds, plain_from, Agree-below}
use Rattle.hs_rules.proofs.Holds.{HoldsTo}
use Rattle.hs_rules.proofs.Fits.{cases_below}
use Rattle.hs_rules.proofs.NewNumbers.{to_fresh-kind, to_fresh-high, free_stays, fresh_keeps_apart}

module _ (x : Meaning) where
  binding_holds : (vs : List Var) (s t : Stack) (h : Heap) (ds : List Disjunct) → SameBut vs s t → SomeHolds x t h ds → SomeHolds x s h (map (binding vs) ds)
  binding_holds vs s t h [] same p = p
  binding_holds vs s t h (d ∷ ds) same (inl p) = inl (record { at = p.at; same = SameBut-append same p.same; pure = p.pure; atoms = p.atoms })
  binding_holds vs s t h (d ∷ ds) same (inr p) = inr (binding_holds vs s t h ds same p)

  module _ (m : ℕ) (defs : Defs) (g : Goal) (residue : Formula) (fits : GoalFits defs g) where
    pub left_exists_keeps : BindsOnly g.left → HoldsTo x m (left_opened g (the_case g.left)) residue → HoldsTo x m g (all_binding (fresh_variables (the_case g.left) g.next) residue)
    left_exists_keeps can new =
        let n = g.next in
        let d = the_case g.left in
        let vs = fresh_variables d n in
        let high = to_fresh-high d.bound n d.bound (λ v e. e) in
        let d_fits = All-head (CaseFits defs n) d [] (subst (λ (f : Formula). SideFits defs n f) (only_case g.left can.one) fits.left) in
        let apart : All (DisjunctKeepsApart (to_fresh d.bound n)) (d ∷ []) = All-cons (DisjunctKeepsApart (to_fresh d.bound n)) d [] (fresh_keeps_apart d n d_fits.numbers) (All-nil (DisjunctKeepsApart (to_fresh d.bound n))) in
        record {
          splits = λ s h hu hr is_heap size parts used left.
              let R : Formula → Type 0 = λ f. FormulaHolds x s hr f in
              elim (renamed_cases (to_fresh d.bound n) (to_fresh-kind d.bound n) x s s hr (d ∷ []) (free_stays d n s) apart (subst R (only_case g.left can.one) left)) [
                | inl q ↦
                    let used' = atoms_agree x g.used s q.at hu (Agree-below n vs (λ v. list_any (in_atom v) g.used) high fits.used_numbers q.same) used in
                    let out = new.splits q.at h hu hr is_heap size parts used' (plain_from x q.at hr _ _ q.pure q.atoms) in
                    let back = with_values vs s out.at in
                    let away = SameBut-with_values vs s out.at in
                    record {
                      at = back;
                      same = record {
                        same = λ v e. elim (bool_cases (is_in v vs)) [
                          | inl is ↦ with_values-in vs s out.at v is
                          | inr isnt ↦ with_values-out vs s out.at v isnt ∙ out.same.same v e ∙ q.same.same v isnt
                        ];
                      };
                      part = out.part;
                      rest = out.rest;
                      parts = out.parts;
                      right_holds = cases_agree x g.right.cases out.at back out.part
                          (Agree-below n vs (λ v. list_any (is_free_in_disjunct v) g.right.cases) high (cases_below defs n g.right.cases fits.right) away) out.right_holds;
                      residue_holds = binding_holds vs back out.at out.rest residue.cases (SameBut-sym away) out.residue_holds;
                    }
                | inr q ↦ absurd q
              ];
        }

    pub right_exists_keeps : BindsOnly g.right → HoldsTo x m (right_opened g (the_case g.right)) residue → HoldsTo x m g (all_binding (fresh_variables (the_case g.right) g.next) residue)
    right_exists_keeps can new =
        let n = g.next in
        let d = the_case g.right in
        let vs = fresh_variables d n in
        let d_fits = All-head (CaseFits defs n) d [] (subst (λ (f : Formula). SideFits defs n f) (only_case g.right can.one) fits.right) in
        let apart : All (DisjunctKeepsApart (to_fresh d.bound n)) (d ∷ []) = All-cons (DisjunctKeepsApart (to_fresh d.bound n)) d [] (fresh_keeps_apart d n d_fits.numbers) (All-nil (DisjunctKeepsApart (to_fresh d.bound n))) in
        record {
          splits = λ s h hu hr is_heap size parts used left.
              let out = new.splits s h hu hr is_heap size parts used left in
              let back = with_values vs s out.at in
              let away = SameBut-with_values vs s out.at in
              let right = plain_holds x out.at out.part _ _ out.right_holds in
              let R : Formula → Type 0 = λ f. FormulaHolds x back out.part f in
              record {
                at = back;
                same = record {
                  same = λ v e. elim (bool_cases (is_in v vs)) [
                    | inl is ↦ with_values-in vs s out.at v is
                    | inr isnt ↦ with_values-out vs s out.at v isnt ∙ out.same.same v (is_in-append v g.opens vs ∙ or_from (is_in v g.opens) (is_in v vs) e isnt)
                  ];
                };
                part = out.part;
                rest = out.rest;
                parts = out.parts;
                right_holds = subst R (sym (only_case g.right can.one)) (cases_renamed (to_fresh d.bound n) (to_fresh-kind d.bound n) x back back out.part (d ∷ []) (free_stays d n back) apart
                    (inl (record { at = out.at; same = SameBut-sym away; pure = right.pure_true; atoms = right.atoms_hold })));
                residue_holds = binding_holds vs back out.at out.rest residue.cases (SameBut-sym away) out.residue_holds;
              };
        }
