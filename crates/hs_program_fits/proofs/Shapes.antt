-- Cases that are well formed apart from the bound on their numbers.
use Rattle.std.proofs.Common.{ℕ, suc, ◌≡◌, ◌<◌, IsTrue, List, [], length, subst, arith}
use Rattle.std.specs.List.{All, list_any}
use Rattle.std.proofs.lemmas.List.Elements.{All-nil, All-cons, All-head, All-weaker}
use Rattle.hs_pure.specs.declared.var.Var.{Var}
use Rattle.hs_pure.specs.declared.pure.Pure.{Pure}
use Rattle.hs_heap.specs.declared.formula.Atom.{Atom}
use Rattle.hs_heap.specs.declared.formula.Disjunct.{Disjunct}
use Rattle.hs_heap.specs.declared.formula.Formula.{Formula}
use Rattle.hs_heap.specs.declared.definitions.Defs.{Defs}
use Rattle.hs_heap.specs.Variables.{occurs_in_disjunct, disjuncts_top}
use Rattle.hs_heap.specs.Sound.{AtomFits, AreDistinct}
use Rattle.hs_heap.proofs.Lists.{any_back}
use Rattle.hs_heap.proofs.Tops.{disjuncts_is_top}
use Rattle.hs_goal.specs.Shape.{CaseFits, SideFits}
use Rattle.hs_goal.specs.Parts.{ConjunctFits}
use Rattle.hs_goal.specs.Classes.{the_case}
use Rattle.hs_rules.specs.Parts.{only, plain}
use Rattle.hs_rules.proofs.Plain.{only_case}
use Rattle.hs_program_fits.specs.Formed.{IsFormed}

module _ (defs : Defs) where
  pub record CaseIsShaped (d : Disjunct) : Type 0 where
    pub atoms : All (AtomFits defs) d.atoms
    pub distinct : AreDistinct d.bound
    pub pure : All ConjunctFits d.pure

  abbrev pub IsShaped : Formula → Type 0
  IsShaped f = All CaseIsShaped f.cases

  pub case_shaped : (n : ℕ) (d : Disjunct) → CaseFits defs n d → CaseIsShaped d
  case_shaped n d h = record { atoms = h.atoms; distinct = h.distinct; pure = λ i p less. (h.flat i p less, h.pure i p less) }

  pub side_shaped : (n : ℕ) (f : Formula) → SideFits defs n f → IsShaped f
  side_shaped n f h = All-weaker (CaseFits defs n) CaseIsShaped (case_shaped n) f.cases h

  -- below a number above all that occur
  pub shaped_fits : (n : ℕ) (f : Formula) → IsShaped f → disjuncts_top f.cases < n → SideFits defs n f
  shaped_fits n f h less i d there =
      let low : (v : Var) → IsTrue (list_any (occurs_in_disjunct v) f.cases) → v.number < n = λ v e. let k = (disjuncts_is_top f.cases).bound v e in omega arith in
      let s = h i d there in
      record {
        numbers = any_back occurs_in_disjunct (λ (v : Var). v.number < n) f.cases low i d there;
        atoms = s.atoms;
        distinct = s.distinct;
        flat = λ j p inside. (s.pure j p inside).0;
        pure = λ j p inside. (s.pure j p inside).1;
      }

  pub shaped_formed : (f : Formula) → IsShaped f → IsFormed defs f
  shaped_formed f h = (suc (disjuncts_top f.cases), shaped_fits (suc (disjuncts_top f.cases)) f h (omega arith))

  pub formed_shaped : (f : Formula) → IsFormed defs f → IsShaped f
  formed_shaped f h = side_shaped h.0 f h.1

  -- ---- sides of one case

  pub only_shaped : (d : Disjunct) → CaseIsShaped d → IsShaped (only d)
  only_shaped d h = All-cons CaseIsShaped d [] h (All-nil CaseIsShaped)

  pub plain_shaped : (atoms : List Atom) (ps : List Pure) → All (AtomFits defs) atoms → All ConjunctFits ps → IsShaped (plain atoms ps)
  plain_shaped atoms ps h k = only_shaped _ (record { atoms = h; distinct = tt; pure = k })

  pub the_case_shaped : (f : Formula) → length f.cases ≡ 1 → IsShaped f → CaseIsShaped (the_case f)
  the_case_shaped f one h = All-head CaseIsShaped (the_case f) [] (subst IsShaped (only_case f one) h)
