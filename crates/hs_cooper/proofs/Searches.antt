-- The search for a value: limits of lists of formulas, what is found first, and the whole.
use Rattle.std.proofs.Common.{◌≡◌, ℕ, zero, suc, ◌+◌, ◌-◌, ◌<◌, ◌≤◌, ◌⊎◌, inl, inr, Bool, true, false, cond, Option, None, Some, List, map, drop, length, get_or, refl, sym, ap, ◌∙◌, subst, arith, IsTrue, ◌↔◌, ℤ, pos, FitsSigned}
use mir.Syntax.{w128}
use mir.Val.{SFits, to_z, of_z}
use Rattle.std.specs.List.{Contains}
use Rattle.std.proofs.lemmas.Int.{to_z-of_z}
use Rattle.std.proofs.lemmas.Bool.{cases_lt}
use Rattle.std.proofs.lemmas.List.{at_drop_more, at_drop_all}
use Rattle.hs_pure.specs.declared.var.Var.{Var}
use Rattle.hs_pure.specs.declared.lin.Lin.{Lin}
use Rattle.hs_pure.specs.declared.pure.Pure.{Pure}
use Rattle.hs_pure.specs.Assertion.{assertion_of}
use Rattle.hs_pure.specs.Stack.{Stack, with_value, number_value}
use Rattle.hs_pure.specs.Truth.{TrueAt, IsTrueAt}
use Rattle.hs_pure.specs.Eval.{NumbersFit}
use Rattle.hs_pure.specs.Sums.{IsOrdered}
use Rattle.hs_elimination.specs.Linear.{place, plus, number}
use Rattle.hs_elimination.specs.Form.{Form, assertion, atoms, IsWide}
use Rattle.hs_elimination.specs.Normal.{is_simple, evaluate}
use Rattle.hs_elimination.specs.Scaling.{multiplier}
use Rattle.hs_elimination.specs.Cases.{distinct_bounds, period, stage3, substitute}
use Rattle.hs_elimination.specs.Decided.{evaluates_to}
use Rattle.hs_elimination.specs.Elimination.{normal_form, scaled_form, IsWithin, HasWideSum, PassesBits}
use Rattle.hs_elimination.specs.Witness.{low_value, near_case, low_case, least_limit, or_else, first_to, first_among, low_at, first_value, plain_multiple, divided, plain_value, HasWideLimit, IsWideLow, HasWideSearch, PassesValues}
use Rattle.hs_elimination.proofs.Order.{rising-ordered, order_is, simple-assertion}
use Rattle.hs_elimination.proofs.Decided.{tested}
use Rattle.hs_elimination.proofs.PlainValue.{plain_true, plain_none}
use Rattle.hs_cooper_forms.specs.declared.change.Change.TheVariants.{Substitute, Low}
use Rattle.hs_cooper_forms.specs.Changing.{changed, HasUneven}
use Rattle.hs_cooper.proofs.Thirds.{wide-cases}
use Rattle.hs_cooper.proofs.Whole.{wide-evaluate, even-second}
use Rattle.hs_cooper_forms.specs.declared.nnf.Connective.{Connective}
use Rattle.hs_cooper_forms.specs.declared.nnf.Nnf.{Nnf}
use Rattle.hs_cooper_forms.specs.declared.nnf.Nnf.TheVariants as nnf_of
use Rattle.hs_cooper_forms.specs.Reading.{listed, form_of}
use Rattle.hs_cooper.specs.Searching.{limit_of_all, IsRefusedNearAt, IsRefusedLowAt, IsRefusedLow, IsRefusedSearch}
use Rattle.hs_cooper_forms.proofs.Forms.{form-Joined}
use Rattle.hs_cooper_forms.proofs.Changes.{listed_member, contains-map}
use Rattle.hs_cooper.proofs.Surveys.{passed-listed}

-- ---- lists of formulas

pub limit-Joined : (s : Stack) (x : ℕ) (f : Nnf) (c : Connective) (fs : List Nnf) (a : Option ℤ) → f ≡ nnf_of.Joined c fs → limit_of_all s x fs a ≡ least_limit s x (form_of f) a
limit-Joined s x f c fs a is =
    sym (ap (λ g. least_limit s x (form_of g) a) is ∙ ap (λ g. least_limit s x g a) (form-Joined c fs)
    ∙ passed-listed (least_limit s x) (limit_of_all s x) (λ m. refl) (λ f fs m. refl) (λ b m. refl) (λ f g m. refl) (λ f g m. refl) c fs a)

pub wide_limit-Joined : (s : Stack) (x : ℕ) (f : Nnf) (c : Connective) (fs : List Nnf) → f ≡ nnf_of.Joined c fs → ((g : Nnf) × (Contains fs g × HasWideLimit s x (form_of g))) → HasWideLimit s x (form_of f)
wide_limit-Joined s x f c fs is w =
    let k = contains-map form_of fs w.0 w.1.0 in
    let e : form_of f ≡ listed c (map form_of fs) = ap form_of is ∙ form-Joined c fs in
    subst (HasWideLimit s x) (sym e) (listed_member (HasWideLimit s x) (λ f g. inl) (λ f g. inr) (λ f g. inl) (λ f g. inr) c (map form_of fs) (form_of w.0) k w.1.1)

-- ---- the first that works

same_test : (a b : Bool) → (a ≡ true → b ≡ true) → (b ≡ true → a ≡ true) → a ≡ b
same_test true b h k = sym (h refl)
same_test false true h k = k refl
same_test false false h k = refl

pub told : (s : Stack) (f : Form) (p : Pure) (b : Bool) → assertion_of p ≡ assertion f → IsTrue b ↔ TrueAt s p → b ≡ evaluates_to s (assertion f)
told s f p b e t =
    let k = tested s (assertion f) (simple-assertion f) in
    same_test b (evaluates_to s (assertion f)) (λ h. k.0 (subst (IsTrueAt s) e (t.0 h))) (λ h. t.1 (subst (IsTrueAt s) (sym e) (k.1 h)))

pub low_is : (s : Stack) (x : Var) (f : Form) (m j : ℕ) (g : Form) (a : Option ℤ) (y : ℤ) → g ≡ evaluate (changed (Low x j) f) → true ≡ evaluates_to s (assertion g)
    → a ≡ least_limit s (place x) f None → SFits w128 (low_value m j a) → y ≡ low_value m j a → Some (to_z w128 (of_z w128 y)) ≡ low_at s (place x) f m j
low_is s x f m j g a y g_is t_is a_is fits y_is =
    let test : true ≡ evaluates_to s (assertion (low_case (place x) f j)) = t_is ∙ ap (λ k. evaluates_to s (assertion k)) g_is in
    let worth : to_z w128 (of_z w128 y) ≡ low_value m j (least_limit s (place x) f None) = to_z-of_z w128 y (subst (SFits w128) (sym y_is) fits) ∙ y_is ∙ ap (low_value m j) a_is in
    λ i. cond (test i) (Some (worth i)) None

pub some_first : (a b : Option ℤ) (y : ℤ) → Some y ≡ a → Some y ≡ or_else a b
some_first a b y e = ap (λ c. or_else c b) e

pub none_first : (a b o : Option ℤ) → None ≡ a → o ≡ b → o ≡ or_else a b
none_first a b o e is = is ∙ ap (λ c. or_else c b) e

pub to_next : (g : ℕ → Option ℤ) (j : ℕ) → 1 ≤ j → first_to g (j - 1) ≡ None → None ≡ g j → first_to g (j + 1 - 1) ≡ None
to_next g zero h before here = absurd (omega arith)
to_next g (suc j) h before here =
    let back : suc j - 1 ≡ j = omega arith in
    let on : suc j + 1 - 1 ≡ suc j = omega arith in
    let none : first_to g j ≡ None = rw back at before in
    rw on (sym (none_first (first_to g j) (g (suc j)) None (sym none) here))

pub to_here : (g : ℕ → Option ℤ) (j m : ℕ) (y : ℤ) → 1 ≤ j → j ≤ m → first_to g (j - 1) ≡ None → Some y ≡ g j → Some y ≡ first_to g m
to_here g j zero y h k before here = absurd (omega arith)
to_here g j (suc m) y h k before here = step (to_here g j m y h)
  where
    step : (j ≤ m → first_to g (j - 1) ≡ None → Some y ≡ g j → Some y ≡ first_to g m) → Some y ≡ first_to g (suc m)
    step ih = elim (cases_lt m j) [
      | inl p ↦ (
          let is : j ≡ suc m = omega arith in
          let back : j - 1 ≡ m = omega arith in
          none_first (first_to g m) (g (suc m)) (Some y) (sym (subst (λ (n : ℕ). first_to g n ≡ None) back before)) (subst (λ (n : ℕ). Some y ≡ g n) is here))
      | inr p ↦ some_first (first_to g m) (g (suc m)) y (ih p before here)
    ]

pub among_next : (g : Lin → Option ℤ) (bs : List Lin) (all : Option ℤ) (i : ℕ) (b : Lin) → i < length bs → b ≡ get_or bs i b → None ≡ g b → first_among g (drop i bs) ≡ all → first_among g (drop (i + 1) bs) ≡ all
among_next g bs all i b p is none so_far =
    none_first (g (get_or bs i b)) (first_among g (drop (i + 1) bs)) (first_among g (drop (i + 1) bs)) (none ∙ ap g is) refl ∙ sym (at_drop_more (first_among g) bs i b p) ∙ so_far

pub among_here : (g : Lin → Option ℤ) (bs : List Lin) (all : Option ℤ) (i : ℕ) (b : Lin) (y : ℤ) → i < length bs → b ≡ get_or bs i b → Some y ≡ g b → first_among g (drop i bs) ≡ all → Some y ≡ all
among_here g bs all i b y p is here so_far =
    some_first (g (get_or bs i b)) (first_among g (drop (i + 1) bs)) y (here ∙ ap g is) ∙ sym (at_drop_more (first_among g) bs i b p) ∙ so_far

pub among_end : (g : Lin → Option ℤ) (bs : List Lin) (all : Option ℤ) (i : ℕ) → length bs ≤ i → first_among g (drop i bs) ≡ all → None ≡ all
among_end g bs all i h so_far = sym (at_drop_all (first_among g) bs i h) ∙ so_far

-- ---- refusals

pub refused_near : (s : Stack) (x : Var) (f : Form) (b : Lin) (j : ℕ) (u : Lin) (g : Form) → u ≡ plus b (number (pos j)) → g ≡ evaluate (changed (Substitute x u) f)
    → IsWide g ⊎ (¬ (NumbersFit s (assertion g))) → IsRefusedNearAt s x f b j
refused_near s x f b j u g u_is g_is w =
    let e : g ≡ near_case (place x) f b j = g_is ∙ ap (λ v. evaluate (substitute (place x) v f)) u_is in
    elim w [
      | inl h ↦ inl (inr (inl (wide-evaluate (substitute (place x) (plus b (number (pos j))) f) (subst IsWide e h))))
      | inr h ↦ inr (inr (subst (λ k. ¬ (NumbersFit s (assertion k))) e h))
    ]

pub refused_low : (s : Stack) (x : Var) (f : Form) (j : ℕ) (g : Form) → g ≡ evaluate (changed (Low x j) f) → IsWide g ⊎ (¬ (NumbersFit s (assertion g))) → IsRefusedLowAt s x f j
refused_low s x f j g e (inl h) = inl (inl (wide-evaluate (changed (Low x j) f) (subst IsWide e h)))
refused_low s x f j g e (inr h) = inr (subst (λ k. ¬ (NumbersFit s (assertion k))) e h)

pub refused_number : (s : Stack) (x : Var) (f : Form) (m j : ℕ) (g : Form) → g ≡ evaluate (changed (Low x j) f) → true ≡ evaluates_to s (assertion g)
    → (¬ (FitsSigned w128 (low_value m j (least_limit s (place x) f None)))) ⊎ HasWideLimit s (place x) f → IsWideLow s (place x) f (low_at s (place x) f m j)
refused_number s x f m j g g_is t_is w =
    let y = low_value m j (least_limit s (place x) f None) in
    let test : true ≡ evaluates_to s (assertion (low_case (place x) f j)) = t_is ∙ ap (λ k. evaluates_to s (assertion k)) g_is in
    (y, (sym (ap (λ t. cond t (Some y) None) test), w))

pub refused_first : (s : Stack) (x : Var) (f : Form) (m j : ℕ) → 1 ≤ j → j ≤ m → first_to (low_at s (place x) f m) (j - 1) ≡ None → IsRefusedLowAt s x f j ⊎ IsWideLow s (place x) f (low_at s (place x) f m j) → IsRefusedLow s x f m
refused_first s x f m j one within before (inl w) = inl (j, (one, within, w))
refused_first s x f m j one within before (inr w) = inr (w.0, (sym (to_here (low_at s (place x) f m) j m w.0 one within before (sym w.1.0)), w.1.1))

refused_search : (s : Stack) (x : Var) (f : Form) → ¬ (HasUneven (place x) f) → IsRefusedSearch s x f (period (place x) f 1) (distinct_bounds (place x) f)
    → (IsWide (stage3 x f) ⊎ HasWideSum (place x) f) ⊎ HasWideSearch s (place x) f
refused_search s x f even (inl n) =
    let j = n.1.1.0 in
    let at = n.1.1.1 in
    elim at.2 [
      | inl r ↦ inl (wide-cases x f even (j, (at.0, at.1, inr (n.0, (n.1.0, r)))))
      | inr v ↦ inr (inl (n.0, (n.1.0, (j, (at.0, at.1, v)))))
    ]
refused_search s x f even (inr n) = elim n.1 [
  | inl low ↦ elim low.1.2 [
    | inl r ↦ inl (wide-cases x f even (low.0, (low.1.0, low.1.1, inl r)))
    | inr v ↦ inr (inr (n.0, inl (low.0, (low.1.0, low.1.1, v))))
  ]
  | inr first ↦ inr (inr (n.0, inr first))
]

-- ---- the whole

module _ (x : Var) (p : Pure) (s : Stack) (h : IsOrdered p) (g : Form) (bs : List Lin) (m : ℕ) (g_is : g ≡ evaluate (scaled_form x (assertion_of p))) (m_is : m ≡ period (place x) g 1) where
  second : Form
  second = evaluate (scaled_form x (assertion_of p))

  pub wide_search : (budget : ℕ) → bs ≡ distinct_bounds (place x) g → IsWithin budget (normal_form (assertion_of p)) → IsWithin budget (scaled_form x (assertion_of p)) → atoms (stage3 x g) ≤ budget
      → IsRefusedSearch s x g m bs → PassesBits budget x (assertion_of p) ⊎ PassesValues s x (assertion_of p)
  unfolding second
  wide_search budget bs_is one two three w =
      let a : IsRefusedSearch s x g m (distinct_bounds (place x) g) = subst (IsRefusedSearch s x g m) bs_is w in
      let b : IsRefusedSearch s x g (period (place x) g 1) (distinct_bounds (place x) g) = subst (λ (n : ℕ). IsRefusedSearch s x g n (distinct_bounds (place x) g)) m_is a in
      let c : IsRefusedSearch s x second (period (place x) second 1) (distinct_bounds (place x) second) = subst (λ k. IsRefusedSearch s x k (period (place x) k 1) (distinct_bounds (place x) k)) g_is b in
      let d : atoms (stage3 x second) ≤ budget = subst (λ k. atoms (stage3 x k) ≤ budget) g_is three in
      elim (refused_search s x second (even-second x p h) c) [ inl v ↦ inl (inr (inr (one, two, d, v))) | inr v ↦ inr v ]

pub plain_is : (x : Var) (p : Pure) (s : Stack) (g : Form) (bs : List Lin) (m : ℕ) → g ≡ evaluate (scaled_form x (assertion_of p)) → m ≡ period (place x) g 1
    → (by : ℕ) (o : Option ℤ) → by ≡ multiplier (place x) (evaluate (normal_form (assertion_of p))) 1 → bs ≡ distinct_bounds (place x) g → o ≡ first_value s (place x) g m bs → divided by o ≡ plain_value s x (assertion_of p)
plain_is x p s g bs m g_is m_is by o by_is bs_is o_is =
    let n = place x in
    let at : o ≡ plain_multiple s n (evaluate (scaled_form x (assertion_of p)))
    = o_is ∙ ap (first_value s n g m) bs_is ∙ ap (λ (k : ℕ). first_value s n g k (distinct_bounds n g)) m_is ∙ ap (plain_multiple s n) g_is in
    λ i. divided (by_is i) (at i)

module _ (x : Var) (p : Pure) (s : Stack) (q : IsTrue (is_simple (assertion_of p))) (h : IsOrdered p) where
  pub true_there : (y : ℤ) → Some y ≡ plain_value s x (assertion_of p) → TrueAt (with_value x (number_value y) s) p
  true_there y e = plain_true x (assertion_of p) s q (rising-ordered (assertion_of p) ((order_is p).0 h)) y (sym e)

  pub true_nowhere : None ≡ plain_value s x (assertion_of p) → (y : ℤ) → ¬ (TrueAt (with_value x (number_value y) s) p)
  true_nowhere e = plain_none x (assertion_of p) s q (rising-ordered (assertion_of p) ((order_is p).0 h)) (sym e)
