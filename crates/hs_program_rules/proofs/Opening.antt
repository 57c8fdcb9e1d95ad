-- The rule that takes the disjuncts of a state apart.
use Rattle.std.proofs.Common.{inl, inr, List, [], ◌∷◌, refl, sym, arith}
use Rattle.std.specs.List.{All}
use Rattle.std.proofs.lemmas.List.Elements.{All-nil, All-cons, All-head, All-tail}
use Rattle.hs_pure.specs.Stack.{Stack}
use Rattle.hs_heap.specs.declared.formula.Disjunct.{Disjunct}
use Rattle.hs_heap.specs.declared.definitions.Defs.{Defs}
use Rattle.hs_heap.specs.Heap.{Heap}
use Rattle.hs_heap.specs.Meaning.{Meaning, is_in, SomeHolds, FormulaHolds}
use Rattle.hs_heap.specs.Renamed.{DisjunctKeepsApart}
use Rattle.hs_heap.proofs.Booleans.{bool_cases}
use Rattle.hs_heap.proofs.Renaming.{renamed_cases}
use Rattle.hs_goal.specs.Shape.{CaseFits}
use Rattle.hs_rules.specs.Parts.{only, opened, to_fresh, fresh_variables}
use Rattle.hs_rules.proofs.Plain.{plain_from}
use Rattle.hs_rules.proofs.NewNumbers.{to_fresh-kind, to_fresh-high, free_stays, fresh_keeps_apart}
use Rattle.hs_core.specs.declared.program.Program.{Program}
use Rattle.hs_core.specs.declared.state.At.{At}
use Rattle.hs_program_rules.specs.Parts.{goes}
use Rattle.hs_program_rules.specs.Table.{opened_states}
use Rattle.hs_program_rules.proofs.Fitting.{AgreeBelow}
use Rattle.hs_program_rules.proofs.Advance.{IsOneOf}

-- one of the opened states is met at a stack that agrees below the state's next
pub record Opened (x : Meaning) (at : At) (states : List At) (s : Stack) (h : Heap) : Type 0 where
  pub case : Disjunct
  pub among : IsOneOf (goes at at.point at.state.slots (only (opened case at.state.next))) states
  pub stack : Stack
  pub agrees : AgreeBelow at.state.next s stack
  pub holds : FormulaHolds x stack h (only (opened case at.state.next))

module _ (x : Meaning) (defs : Defs) (program : Program) (at : At) (s : Stack) (h : Heap) where
  pub open_case : (ds : List Disjunct) → All (CaseFits defs at.state.next) ds → SomeHolds x s h ds → Opened x at (opened_states defs program at ds) s h
  open_case [] fits p = absurd p
  open_case (d ∷ ds) fits (inl p) =
      let n = at.state.next in
      let one = All-head (CaseFits defs n) d ds fits in
      let apart : All (DisjunctKeepsApart (to_fresh d.bound n)) (d ∷ []) =
      All-cons (DisjunctKeepsApart (to_fresh d.bound n)) d [] (fresh_keeps_apart d n one.numbers) (All-nil (DisjunctKeepsApart (to_fresh d.bound n))) in
      elim (renamed_cases (to_fresh d.bound n) (to_fresh-kind d.bound n) x s s h (d ∷ []) (free_stays d n s) apart (inl p)) [
        | inl q ↦ record {
          case = d;
          among = inl refl;
          stack = q.at;
          agrees = λ v less. elim (bool_cases (is_in v (fresh_variables d n))) [
            | inl is ↦ let low = to_fresh-high d.bound n d.bound (λ w e. e) v is in absurd (omega arith)
            | inr isnt ↦ sym (q.same.same v isnt)
          ];
          holds = plain_from x q.at h _ _ q.pure q.atoms;
        }
        | inr q ↦ absurd q
      ]
  open_case (d ∷ ds) fits (inr p) =
      let o = open_case ds (All-tail (CaseFits defs at.state.next) d ds fits) p in
      record { case = o.case; among = inr o.among; stack = o.stack; agrees = o.agrees; holds = o.holds }
