-- Terms and conditions over the variables that slots hold are proper.
use Rattle.std.proofs.Common.{ℕ, suc, ℤ, ◌≡◌, true, false, not, IsTrue, List, [], ◌∷◌, Option, Some, None, refl, sym, ◌∙◌, ap, subst, arith}
use Rattle.std.specs.List.{All, fold}
use Rattle.std.proofs.lemmas.List.Elements.{All-nil, All-cons}
use Rattle.hs_pure.specs.declared.var.Var.{Var}
use Rattle.hs_pure.specs.declared.lin.Lin.{Lin}
use Rattle.hs_pure.specs.declared.pure.Pure.{Pure}
use Rattle.hs_pure.specs.declared.pure.Pure.TheVariants as pure_of
use Rattle.hs_pure.specs.Occurs.{occurs, is_bound_level, BagUse, bag_use_level}
use Rattle.hs_pure.specs.Equated.{variable_sum}
use Rattle.hs_pure.specs.Rename.{add_term, renamed_lin, renamed, sums_level}
use Rattle.hs_pure.specs.Sums.{RisesFrom, LinIsOrdered, KeepsKinds}
use Rattle.hs_pure.proofs.Views.{fold-Eq}
use Rattle.hs_pure.proofs.Weight.{lin_ordered-renamed}
use Rattle.hs_heap.specs.WellFormed.{bag_names_level, member_counts_level, is_and_level, IsProper}
use Rattle.hs_heap.proofs.SameNames.{pure_alike}
use Rattle.hs_goal.specs.Parts.{ConjunctFits}
use Rattle.hs_rules.proofs.Proper.{proper-renamed}
use Rattle.hs_program_rules.specs.States.{Held, held_in, var_or, number_var}
use Rattle.hs_program_rules.proofs.Conditions.{over}

pub variable_ordered : (v : Var) → v.bag ≡ false → LinIsOrdered (variable_sum v)
variable_ordered v kind = (omega arith, kind, (λ e. cc), tt)

-- an equation of sums in order
pub equation_fits : (a b : Lin) → LinIsOrdered a → LinIsOrdered b → ConjunctFits (pure_of.Eq a b)
equation_fits a b h k = (
  fold-Eq is_and_level a b,
  record {
    ordered = subst (All LinIsOrdered) (sym (fold-Eq sums_level a b)) (All-cons LinIsOrdered a (b ∷ []) h (All-cons LinIsOrdered b [] k (All-nil LinIsOrdered)));
    bags = subst (All (λ (v : Var). v.bag ≡ true)) (sym (fold-Eq bag_names_level a b)) (All-nil (λ (v : Var). v.bag ≡ true));
    binders = λ u e. absurd (let f : false ≡ true = sym (fold-Eq (is_bound_level u) a b) ∙ e in cc);
    members = subst (All (λ n. ¬ (n ≡ 1))) (sym (fold-Eq member_counts_level a b)) (All-nil (λ n. ¬ (n ≡ 1)));
    plain = subst (λ (u : BagUse). IsTrue (not u.under)) (sym (fold-Eq bag_use_level a b)) refl;
  },
)

module _ (held : Held) (numbers : (k : ℕ) (v : Var) → held_in held k ≡ Some v → v.bag ≡ false) where
  over_number : (v : Var) → (over held v).bag ≡ false
  over_number v = go (held_in held v.number) (numbers v.number)
    where
      go : (o : Option Var) → ((w : Var) → o ≡ Some w → w.bag ≡ false) → (var_or (number_var 0) o).bag ≡ false
      go None each = refl
      go (Some w) each = each w refl

  -- the same of number variables, and bag variables stay bag variables
  abbrev of_kind : Var → Var
  of_kind v = record { number = (over held v).number; bag = v.bag }

  keeps : KeepsKinds of_kind
  keeps v = refl

  is_over : (v : Var) → v.bag ≡ false → over held v ≡ of_kind v
  is_over v e = let f = over_number v ∙ sym e in λ i. record { number = (over held v).number; bag = f i }

  terms_alike : (n : ℕ) (ts sum : List (Var × ℤ)) → RisesFrom n ts → fold (λ s t. add_term (over held t.0) t.1 s) sum ts ≡ fold (λ s t. add_term (of_kind t.0) t.1 s) sum ts
  terms_alike n [] sum h = refl
  terms_alike n (t ∷ ts) sum h =
      ap (λ u. fold (λ s t. add_term (over held t.0) t.1 s) (add_term u t.1 sum) ts) (is_over t.0 h.1) ∙ terms_alike (suc t.0.number) ts (add_term (of_kind t.0) t.1 sum) h.3

  pub over_ordered : (a : Lin) → LinIsOrdered a → LinIsOrdered (renamed_lin (over held) a)
  over_ordered a h = subst (RisesFrom 0) (sym (terms_alike 0 a.terms [] h)) (lin_ordered-renamed of_kind keeps a h)

  pub over_proper : (p : Pure) → ((v : Var) → IsTrue (occurs v p) → v.bag ≡ false) → IsProper p → IsProper (renamed (over held) p)
  over_proper p kinds h = subst IsProper (sym (pure_alike (over held) of_kind p (λ v e. is_over v (kinds v e)))) (proper-renamed of_kind keeps p h)
