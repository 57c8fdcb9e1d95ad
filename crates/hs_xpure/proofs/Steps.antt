-- The steps of the code that forms atoms and bodies.
use Rattle.std.proofs.Common.{◌≡◌, ℕ, zero, suc, ◌+◌, ◌-◌, ◌<◌, ◌≤◌, List, [], ◌∷◌, take, length, get_or, Option, Some, None, Result, refl, sym, ap, ◌∙◌, subst, arith}
use Rattle.std.specs.Result.{IfOk}
use Rattle.std.proofs.lemmas.List.{take_all}
use Rattle.hs_pure.specs.declared.var.Var.{Var}
use Rattle.hs_pure.specs.declared.pure.Pure.{Pure}
use Rattle.hs_pure.proofs.Lists.{if_ok_weaker}
use Rattle.hs_heap.specs.declared.formula.Of.TheVariants.{Node, Pred}
use Rattle.hs_heap.specs.declared.formula.Atom.{Atom}
use Rattle.hs_heap.specs.declared.formula.Disjunct.{Disjunct}
use Rattle.hs_heap.specs.declared.formula.Formula.{Formula}
use Rattle.hs_heap.specs.declared.definitions.PredDef.{PredDef}
use Rattle.hs_heap.specs.declared.definitions.Defs.{Defs}
use Rattle.hs_heap.specs.Meaning.{pred_at}
use Rattle.hs_heap.specs.Sound.{IsSound}
use Rattle.hs_heap.specs.Instance.{body_of, body_of_pred, body_or_none, body_renaming, instantiated, next_after}
use Rattle.hs_xpure.specs.declared.formed.Formed.{Formed}
use Rattle.hs_xpure.specs.Approximation.{Former, combined, case_of, atoms_formed, cases_formed, body_cases, body_of_cases, node_formed, inv_of, inv_and_body_of, of_formed, form}
use Rattle.hs_xpure.specs.Counts.{Taken, of_taken, atoms_taken, cases_taken, body_taken, inv_taken, inv_and_body_taken, pred_taken}
use Rattle.hs_xpure.specs.Invariants.{pred_atom}
use Rattle.hs_xpure.specs.Laws.{AtomsFit, CasesFit}
use Rattle.hs_xpure.proofs.Counting.{inv_next, renamed_cases_taken}
use Rattle.hs_xpure.proofs.Building.{atoms_more, cases_more, atom_room, case_room, atoms_rise, cases_rise, fits_later, atom_fits_at, case_fits_at, pred_atom_is, body_cases_fit_at}

-- ---- one atom

pub node_room : (taken : Taken) (a : Atom) (n k : ℕ) → a.of ≡ Node k → n + of_taken taken a.of ≤ 2147483648 → n < 4294967295
node_room taken a n k is room = let e : of_taken taken a.of ≡ 1 = ap (of_taken taken) is in omega arith

pub node_at : (defs : Defs) (level : ℕ) (a : Atom) (n k : ℕ) → a.of ≡ Node k → node_formed a.root n ≡ form defs level a n
node_at defs zero a n k is = sym (ap (λ o. of_formed (inv_of defs) o a.root a.args n) is)
node_at defs (suc level) a n k is = sym (ap (λ o. of_formed (inv_and_body_of defs (form defs level)) o a.root a.args n) is)

pub node_returns : {E : Type 0} (defs : Defs) (level : ℕ) (a : Atom) (n k : ℕ) (r : Result Formed E) → a.of ≡ Node k → IfOk r (λ f. f ≡ node_formed a.root n) → IfOk r (λ f. f ≡ form defs level a n)
node_returns defs level a n k r is e = if_ok_weaker (λ f. f ≡ node_formed a.root n) (λ f. f ≡ form defs level a n) r (λ f g. g ∙ node_at defs level a n k is) e

pub pred_fits : (defs : Defs) (a : Atom) (pred n : ℕ) (args : List Var) → a.of ≡ Pred pred → args ≡ a.args → AtomsFit defs (a ∷ []) n → AtomsFit defs (pred_atom pred a.root args ∷ []) n
pred_fits defs a pred n args is args_is f =
    let P : List Var → Type 0 = λ xs. AtomsFit defs (pred_atom pred a.root xs ∷ []) n in
    let Q : Atom → Type 0 = λ b. AtomsFit defs (b ∷ []) n in
    subst P (sym args_is) (subst Q (pred_atom_is a pred is) f)

module _ (defs : Defs) (level : ℕ) (a : Atom) (pred n : ℕ) (args : List Var) (is : a.of ≡ Pred pred) (args_is : args ≡ a.args) (inv : Formed) (inv_is : inv ≡ inv_of defs pred a.root args n) where
  pub inv_returns : level ≡ 0 → inv ≡ form defs level a n
  inv_returns e =
      inv_is ∙ ap (λ xs. inv_of defs pred a.root xs n) args_is ∙ sym (ap (λ o. of_formed (inv_of defs) o a.root a.args n) is) ∙ sym (ap (λ l. form defs l a n) e)

  next_is : inv.next ≡ n + inv_taken (pred_at defs pred)
  next_is = ap (λ (f : Formed). f.next) inv_is ∙ inv_next defs pred a.root args n

  pub pred_fits_later : AtomsFit defs (a ∷ []) n → AtomsFit defs (pred_atom pred a.root args ∷ []) inv.next
  pred_fits_later f = let e = next_is in fits_later defs (pred_atom pred a.root args ∷ []) n inv.next (omega arith) (pred_fits defs a pred n args is args_is f)

  both_taken : (taken : Taken) (o : Option PredDef) → inv_and_body_taken taken o ≡ inv_taken o + body_taken taken (body_or_none body_of_pred o)
  both_taken taken None = refl
  both_taken taken (Some p) = refl

  module _ (above : level ≡ suc (level - 1)) where
    pub body_room : n + of_taken (pred_taken defs level) a.of ≤ 2147483648 →
        inv.next + body_taken (pred_taken defs (level - 1)) (body_or_none body_of_pred (pred_at defs pred)) ≤ 2147483648
    body_room room =
        let e = next_is in
        let f : of_taken (pred_taken defs level) a.of ≡ inv_taken (pred_at defs pred) + body_taken (pred_taken defs (level - 1)) (body_or_none body_of_pred (pred_at defs pred)) =
        ap (of_taken (pred_taken defs level)) is ∙ ap (λ l. pred_taken defs l pred) above ∙ both_taken (pred_taken defs (level - 1)) (pred_at defs pred) in
        omega arith

    pub body_returns : {E : Type 0} (cases : Formed) (r : Result Formed E) → cases ≡ body_cases (form defs (level - 1)) (body_of defs (Pred pred)) a.root args inv.next →
        IfOk r (λ f. f ≡ combined inv (body_of_cases cases)) → IfOk r (λ f. f ≡ form defs level a n)
    body_returns cases r cases_are e =
        let former = form defs (level - 1) in
        let b = body_of defs (Pred pred) in
        let first : inv ≡ inv_of defs pred a.root a.args n = inv_is ∙ ap (λ xs. inv_of defs pred a.root xs n) args_is in
        let second : cases ≡ body_cases former b a.root a.args (inv_of defs pred a.root a.args n).next = cases_are ∙ (λ i. body_cases former b a.root (args_is i) (first i).next) in
        let whole : form defs level a n ≡ inv_and_body_of defs former pred a.root a.args n = ap (λ l. form defs l a n) above ∙ ap (λ o. of_formed (inv_and_body_of defs former) o a.root a.args n) is in
        if_ok_weaker (λ f. f ≡ combined inv (body_of_cases cases)) (λ f. f ≡ form defs level a n) r (λ f g. g ∙ (λ i. combined (first i) (body_of_cases (second i))) ∙ sym whole) e

-- ---- atoms

module _ (defs : Defs) (level n : ℕ) (atoms : List Atom) (i : ℕ) (item : Atom) (less : i < length atoms) (is : item ≡ get_or atoms i item)
    (all : Formed) (all_is : all ≡ atoms_formed (form defs level) (take i atoms) n) where
  pub item_fits : AtomsFit defs atoms n → AtomsFit defs (item ∷ []) all.next
  item_fits f = let P : Atom → Type 0 = λ a. AtomsFit defs (a ∷ []) all.next in
      subst P (sym is) (atom_fits_at defs atoms i item n all.next less (atoms_rise defs level (take i atoms) n all all_is) f)

  pub item_room : n + atoms_taken (pred_taken defs level) atoms ≤ 2147483648 → all.next + of_taken (pred_taken defs level) item.of ≤ 2147483648
  item_room room = let P : Atom → Type 0 = λ a. all.next + of_taken (pred_taken defs level) a.of ≤ 2147483648 in
      subst P (sym is) (atom_room defs level atoms i item n 2147483648 all less all_is room)

  pub item_kept : (one new : Formed) → one ≡ form defs level item all.next → new ≡ combined all one → new ≡ atoms_formed (form defs level) (take (i + 1) atoms) n
  item_kept one new one_is new_is =
      new_is ∙ ap (combined all) one_is ∙ (λ j. combined (all_is j) (form defs level (is j) (all_is j).next)) ∙ sym (atoms_more (form defs level) atoms i item n less)

pub all_atoms : (former : Former) (n : ℕ) (atoms : List Atom) (i : ℕ) (all : Formed) → length atoms ≤ i → all ≡ atoms_formed former (take i atoms) n → all ≡ atoms_formed former atoms n
all_atoms former n atoms i all past all_is = all_is ∙ ap (λ xs. atoms_formed former xs n) (take_all i atoms past)

-- ---- cases

module _ (defs : Defs) (level : ℕ) (sound : IsSound defs) (pred : ℕ) (root : Var) (args : List Var) (n : ℕ) (fits : AtomsFit defs (pred_atom pred root args ∷ []) n)
    (body : Formula) (first : ℕ) (items : List Disjunct)
    (body_is : body ≡ instantiated (body_of defs (Pred pred)) root args n) (first_is : first ≡ next_after (body_of defs (Pred pred)) n) (items_are : items ≡ body.cases) where
  items_is : items ≡ (instantiated (body_of defs (Pred pred)) root args n).cases
  items_is = items_are ∙ ap (λ (f : Formula). f.cases) body_is

  items_fit : CasesFit defs items first
  items_fit = let e = items_is in let g = first_is in
      subst (λ ds. CasesFit defs ds first) (sym e) (subst (λ k. CasesFit defs (instantiated (body_of defs (Pred pred)) root args n).cases k) (sym g) (body_cases_fit_at defs sound pred root args n fits))

  items_room : n + body_taken (pred_taken defs level) (body_of defs (Pred pred)) ≤ 2147483648 → first + cases_taken (pred_taken defs level) items ≤ 2147483648
  items_room room =
      let e = ap (cases_taken (pred_taken defs level)) items_is in
      let f = renamed_cases_taken (pred_taken defs level) (body_renaming (body_of defs (Pred pred)) root args n) (body_of defs (Pred pred)).formula.cases in
      let g = first_is in
      omega arith

  module _ (i : ℕ) (item : Disjunct) (less : i < length items) (is : item ≡ get_or items i item) (all : Formed) (all_is : all ≡ cases_formed (form defs level) (take i items) first)
      (atoms : List Atom) (atoms_are : atoms ≡ item.atoms) where
    pub case_fits : AtomsFit defs atoms all.next
    case_fits =
        let P : Disjunct → Type 0 = λ d. AtomsFit defs d.atoms all.next in
        subst (λ xs. AtomsFit defs xs all.next) (sym atoms_are) (subst P (sym is)
        (case_fits_at defs items i item first all.next less (cases_rise defs level (take i items) first all all_is) items_fit))

    pub case_room_at : n + body_taken (pred_taken defs level) (body_of defs (Pred pred)) ≤ 2147483648 → all.next + atoms_taken (pred_taken defs level) atoms ≤ 2147483648
    case_room_at room =
        let P : Disjunct → Type 0 = λ d. all.next + atoms_taken (pred_taken defs level) d.atoms ≤ 2147483648 in
        subst (λ xs. all.next + atoms_taken (pred_taken defs level) xs ≤ 2147483648) (sym atoms_are) (subst P (sym is)
        (case_room defs level items i item first 2147483648 all less all_is (items_room room)))

    pub case_kept : (formed one new : Formed) (ps : List Pure) → ps ≡ item.pure → formed ≡ atoms_formed (form defs level) atoms all.next → one ≡ case_of ps formed → new ≡ combined all one →
        new ≡ cases_formed (form defs level) (take (i + 1) items) first
    case_kept formed one new ps ps_are formed_is one_is new_is =
        let a : formed ≡ atoms_formed (form defs level) item.atoms all.next = formed_is ∙ ap (λ xs. atoms_formed (form defs level) xs all.next) atoms_are in
        new_is ∙ ap (combined all) (one_is ∙ (λ j. case_of (ps_are j) (a j)))
        ∙ (λ j. combined (all_is j) (case_of (is j).pure (atoms_formed (form defs level) (is j).atoms (all_is j).next))) ∙ sym (cases_more (form defs level) items i item first less)

  pub all_cases : (i : ℕ) (all : Formed) → length items ≤ i → all ≡ cases_formed (form defs level) (take i items) first → all ≡ body_cases (form defs level) (body_of defs (Pred pred)) root args n
  all_cases i all past all_is =
      let e = items_is in let g = first_is in
      all_is ∙ ap (λ ds. cases_formed (form defs level) ds first) (take_all i items past) ∙ (λ j. cases_formed (form defs level) (e j) (g j))
