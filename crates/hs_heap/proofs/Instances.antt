-- What the code instantiates is what the definitions say.
use Rattle.std.proofs.Common.{◌≡◌, ℕ, ◌<◌, Bool, true, false, ◌||◌, IsTrue, List, [], ◌∷◌, replicate, refl, sym, ◌∙◌, subst}
use Rattle.std.specs.List.{All}
use Rattle.std.proofs.lemmas.List.Elements.{All-head}
use Rattle.hs_pure.specs.declared.var.Var.{Var}
use Rattle.hs_pure.specs.declared.pure.Pure.{Pure}
use Rattle.hs_pure.specs.Occurs.{occurs}
use Rattle.hs_pure.specs.Rename.{renaming, renamed, InRange}
use Rattle.hs_pure.specs.Sums.{IsLight}
use Rattle.hs_pure.proofs.Weight.{light_in_range}
use Rattle.hs_heap.specs.declared.formula.Disjunct.{Disjunct}
use Rattle.hs_heap.specs.declared.formula.Formula.{Formula}
use Rattle.hs_heap.specs.declared.definitions.PredDef.{PredDef}
use Rattle.hs_heap.specs.declared.definitions.Lemma.{Lemma}
use Rattle.hs_heap.specs.declared.definitions.Defs.{Defs}
use Rattle.hs_heap.specs.declared.seen.Seen.{Seen}
use Rattle.hs_heap.specs.Variables.{occurs_in_disjunct, occurs_in_formula}
use Rattle.hs_heap.specs.Renamed.{renamed_formula, FormulaInRange}
use Rattle.hs_heap.specs.Instance.{Body, BodyFits, ArgumentsFit, body_of_pred, body_of_inv, body_of_lemma, body_renaming, instantiated, instantiated_inv, next_after}
use Rattle.hs_heap.specs.Seen.{nothing_seen, mark_pure, mark_disjunct, mark_cases}
use Rattle.hs_heap.specs.Names.{IsReady, new_names, next_number}
use Rattle.hs_heap.proofs.Lists.{any_forth}
use Rattle.hs_heap.proofs.Seeing.{Marks, marks_pure, marks_disjunct, marks_cases}
use Rattle.hs_heap.proofs.SameNames.{pure_alike, formula_alike}
use Rattle.hs_heap.proofs.Naming.{names_put, next_put}

-- bodies that fit are ready where the arguments fit
pub ready : (defs : Defs) (b : Body) (root : Var) (args : List Var) (fresh : ℕ) → BodyFits defs b → ArgumentsFit b.params root args fresh → IsReady b root args
ready defs b root args fresh f a = record {
  light = λ i d less j p l. ((f i d less).pure j p l).formed.light;
  numbers = any_forth occurs_in_disjunct (λ (v : Var). v.number < b.next) b.formula.cases (λ i d less v o. ((f i d less).numbers v o).1);
  arity = λ i. sym a.number_root i ∷ a.arity i;
}

pub formula_in_range : (ρ : Var → Var) (f : Formula) → All (λ d. All IsLight d.pure) f.cases → FormulaInRange ρ f
formula_in_range ρ f light i d less j p l = light_in_range ρ _ (light i d less j p l)

pub right_light : (l : Lemma) (root : Var) (args : List Var) → IsReady (body_of_lemma l) root args → All IsLight l.right.pure
right_light l root args r = All-head (λ (d : Disjunct). All IsLight d.pure) l.right [] r.light

pub inv_light : (p : PredDef) (root : Var) (args : List Var) → IsReady (body_of_inv p) root args → IsLight p.inv
inv_light p root args r = All-head IsLight p.inv [] (All-head (λ (d : Disjunct). All IsLight d.pure) (record { bound = []; atoms = []; pure = p.inv ∷ [] }) [] r.light)

pub all_in_range : (ρ : Var → Var) (ps : List Pure) → All IsLight ps → All (InRange ρ) ps
all_in_range ρ ps light i d less = light_in_range ρ _ (light i d less)

module _ (b : Body) (root : Var) (args : List Var) (fresh : ℕ) (r : IsReady b root args) (change : List Seen → List Seen) (marks : (v : Var) → Marks v change (occurs_in_formula v b.formula)) where
  abbrev names : List (Var × Var)
  names = new_names b.params root args fresh (change (replicate b.next nothing_seen))

  agree : (v : Var) → IsTrue (occurs_in_formula v b.formula) → renaming names v ≡ body_renaming b root args fresh v
  agree v o = names_put b.params root args fresh b.next (λ v. occurs_in_formula v b.formula) change r.arity marks v o (r.numbers v o)

  pub instance_is : renamed_formula (renaming names) b.formula ≡ instantiated b root args fresh
  instance_is = formula_alike (renaming names) (body_renaming b root args fresh) b.formula agree

  pub next_is : next_number b.params fresh 0 (change (replicate b.next nothing_seen)) ≡ next_after b fresh
  next_is = next_put b.params root args fresh b.next (λ v. occurs_in_formula v b.formula) change r.arity marks

pub body_marks : (p : PredDef) (v : Var) → Marks v (mark_cases p.body.cases) (occurs_in_formula v (body_of_pred p).formula)
body_marks p v = marks_cases v p.body.cases

or_none : (b : Bool) → b ≡ (b || false)
or_none true = refl
or_none false = refl

pub right_marks : (l : Lemma) (v : Var) → Marks v (mark_disjunct l.right) (occurs_in_formula v (body_of_lemma l).formula)
right_marks l v = subst (Marks v (mark_disjunct l.right)) (or_none (occurs_in_disjunct v l.right)) (marks_disjunct v l.right)

inv_occurs : (p : PredDef) (v : Var) → occurs v p.inv ≡ occurs_in_formula v (body_of_inv p).formula
inv_occurs p v = or_none (occurs v p.inv) ∙ or_none (occurs v p.inv || false)

pub inv_marks : (p : PredDef) (v : Var) → Marks v (mark_pure p.inv) (occurs_in_formula v (body_of_inv p).formula)
inv_marks p v = subst (Marks v (mark_pure p.inv)) (inv_occurs p v) (marks_pure v p.inv)

pub inv_is : (p : PredDef) (root : Var) (args : List Var) (fresh : ℕ) → IsReady (body_of_inv p) root args →
    renamed (renaming (new_names p.params root args fresh (mark_pure p.inv (replicate p.next nothing_seen)))) p.inv ≡ instantiated_inv p root args fresh
inv_is p root args fresh r = pure_alike _ (body_renaming (body_of_inv p) root args fresh) p.inv
    (λ v o. agree (body_of_inv p) root args fresh r (mark_pure p.inv) (inv_marks p) v (subst IsTrue (inv_occurs p v) o))
