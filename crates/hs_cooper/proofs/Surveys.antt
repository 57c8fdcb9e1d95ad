-- Sizes and least common multiples of formulas with many members.
use Rattle.std.proofs.Common.{◌≡◌, ℕ, zero, suc, ◌+◌, ◌<◌, ◌≤◌, sum, length, get_or, Bool, true, false, List, [], ◌∷◌, map, drop, refl, sym, ap, ◌∙◌, subst, arith}
use Rattle.std.specs.List.{fold}
use Rattle.hs_elimination.specs.Form.{Form, const, positive, multiple, no_multiple, conjunction, disjunction, atoms}
use Rattle.hs_elimination.specs.Scaling.{multiplier}
use Rattle.hs_elimination.specs.Cases.{period}
use Rattle.hs_elimination.proofs.Meaning.{HasPositiveDivisors}
use Rattle.hs_elimination.proofs.Elimination.{multiplier-above, multiplier-positive, period-above}
use Rattle.hs_cooper_forms.specs.declared.nnf.Connective.{Connective}
use Rattle.hs_cooper_forms.specs.declared.nnf.Connective.TheVariants.{And, Or}
use Rattle.hs_cooper_forms.specs.declared.nnf.Nnf.{Nnf}
use Rattle.hs_cooper_forms.specs.declared.nnf.Nnf.TheVariants as nnf_of
use Rattle.hs_cooper_forms.specs.Reading.{listed, form_of}
use Rattle.std.proofs.lemmas.List.{drop_more}
use Rattle.hs_cooper.specs.Surveying.{low_atoms, multiplier_of_all, period_of_all, HasPositive, AllPositive}
use Rattle.hs_cooper_forms.proofs.Forms.{form-Joined}
use Rattle.hs_cooper_forms.proofs.Changes.{map-map}
use Rattle.hs_cooper_forms.proofs.Normals.{measure-listed}

measure-Joined : (h : Form → ℕ) → ((b : Bool) → h (const b) ≡ 0) → ((f g : Form) → h (conjunction f g) ≡ h f + h g) → ((f g : Form) → h (disjunction f g) ≡ h f + h g)
    → (f : Nnf) (c : Connective) (fs : List Nnf) → f ≡ nnf_of.Joined c fs → sum (map (λ g. h (form_of g)) fs) ≡ h (form_of f)
measure-Joined h none both either f c fs is =
    sym (ap (λ g. h (form_of g)) is ∙ ap h (form-Joined c fs) ∙ measure-listed h none both either c (map form_of fs) ∙ ap sum (map-map form_of h fs))

pub atoms-Joined : (f : Nnf) (c : Connective) (fs : List Nnf) → f ≡ nnf_of.Joined c fs → sum (map (λ g. atoms (form_of g)) fs) ≡ atoms (form_of f)
atoms-Joined = measure-Joined atoms (λ b. refl) (λ f g. refl) (λ f g. refl)

pub low-Joined : (x : ℕ) (f : Nnf) (c : Connective) (fs : List Nnf) → f ≡ nnf_of.Joined c fs → sum (map (λ g. low_atoms x (form_of g)) fs) ≡ low_atoms x (form_of f)
low-Joined x = measure-Joined (low_atoms x) (λ b. refl) (λ f g. refl) (λ f g. refl)

-- what is passed from member to member

module _ {M : Type 0} (h : Form → M → M) (all : List Nnf → M → M) (all_none : (m : M) → all [] m ≡ m) (all_one : (f : Nnf) (fs : List Nnf) (m : M) → all (f ∷ fs) m ≡ all fs (h (form_of f) m)) where
  passed-fold : (op : Form → Form → Form) → ((f g : Form) (m : M) → h (op f g) m ≡ h g (h f m)) → (f : Form) (fs : List Nnf) (m : M) → h (fold op f (map form_of fs)) m ≡ all fs (h f m)
  passed-fold op is f [] m = sym (all_none (h f m))
  passed-fold op is f (g ∷ fs) m = passed-fold op is (op f (form_of g)) fs m ∙ ap (all fs) (is f (form_of g) m) ∙ sym (all_one g fs (h f m))

  pub passed-listed : ((b : Bool) (m : M) → h (const b) m ≡ m) → ((f g : Form) (m : M) → h (conjunction f g) m ≡ h g (h f m)) → ((f g : Form) (m : M) → h (disjunction f g) m ≡ h g (h f m))
      → (c : Connective) (fs : List Nnf) (m : M) → h (listed c (map form_of fs)) m ≡ all fs m
  passed-listed none both either And [] m = none true m ∙ sym (all_none m)
  passed-listed none both either Or [] m = none false m ∙ sym (all_none m)
  passed-listed none both either And (f ∷ fs) m = passed-fold conjunction both (form_of f) fs m ∙ sym (all_one f fs m)
  passed-listed none both either Or (f ∷ fs) m = passed-fold disjunction either (form_of f) fs m ∙ sym (all_one f fs m)

pub multiplier-Joined : (x : ℕ) (f : Nnf) (c : Connective) (fs : List Nnf) (m : ℕ) → f ≡ nnf_of.Joined c fs → multiplier_of_all x fs m ≡ multiplier x (form_of f) m
multiplier-Joined x f c fs m is =
    sym (ap (λ g. multiplier x (form_of g) m) is ∙ ap (λ g. multiplier x g m) (form-Joined c fs)
    ∙ passed-listed (multiplier x) (multiplier_of_all x) (λ m. refl) (λ f fs m. refl) (λ b m. refl) (λ f g m. refl) (λ f g m. refl) c fs m)

pub multiplier_of_all-above : (x : ℕ) (fs : List Nnf) (m : ℕ) → 0 < m → m ≤ multiplier_of_all x fs m
multiplier_of_all-above x [] m h = omega arith
multiplier_of_all-above x (f ∷ fs) m h =
    let n = multiplier x (form_of f) m in
    let up : m ≤ n = multiplier-above x (form_of f) m h in
    let later = multiplier_of_all-above x fs n (omega arith) in
    omega arith

pub period-Joined : (x : ℕ) (f : Nnf) (c : Connective) (fs : List Nnf) (m : ℕ) → f ≡ nnf_of.Joined c fs → period_of_all x fs m ≡ period x (form_of f) m
period-Joined x f c fs m is =
    sym (ap (λ g. period x (form_of g) m) is ∙ ap (λ g. period x g m) (form-Joined c fs)
    ∙ passed-listed (period x) (period_of_all x) (λ m. refl) (λ f fs m. refl) (λ b m. refl) (λ f g m. refl) (λ f g m. refl) c fs m)

-- ---- one member after another

at_member : {X Y : Type 0} (F : List X → Y) (fs : List X) (i : ℕ) (f : X) → i < length fs → f ≡ get_or fs i f → F (drop i fs) ≡ F (f ∷ drop (i + 1) fs)
at_member F fs i f p is = ap F (drop_more fs i f p) ∙ ap (λ g. F (g ∷ drop (i + 1) fs)) (sym is)

pub multiplier_next : (x : ℕ) (fs : List Nnf) (i : ℕ) (f : Nnf) (m next all : ℕ) → i < length fs → f ≡ get_or fs i f → next ≡ multiplier x (form_of f) m
    → multiplier_of_all x (drop i fs) m ≡ all → multiplier_of_all x (drop (i + 1) fs) next ≡ all
multiplier_next x fs i f m next all p is e v = ap (multiplier_of_all x (drop (i + 1) fs)) e ∙ sym (at_member (λ gs. multiplier_of_all x gs m) fs i f p is) ∙ v

pub multiplier_stops : (x : ℕ) (fs : List Nnf) (i : ℕ) (f : Nnf) (m all : ℕ) → i < length fs → f ≡ get_or fs i f → 0 < m
    → multiplier_of_all x (drop i fs) m ≡ all → multiplier x (form_of f) m ≤ all
multiplier_stops x fs i f m all p is h v =
    let n = multiplier x (form_of f) m in
    let e : multiplier_of_all x (drop (i + 1) fs) n ≡ all = multiplier_next x fs i f m n all p is refl v in
    let up = multiplier_of_all-above x (drop (i + 1) fs) n (multiplier-positive x (form_of f) m h) in
    omega arith

pub positive-is : (f : Form) → HasPositive f → HasPositiveDivisors f
positive-is (const b) h = tt
positive-is (positive t) h = tt
positive-is (multiple d t) h = h
positive-is (no_multiple d t) h = h
positive-is (conjunction f g) h = (positive-is f h.0, positive-is g h.1)
positive-is (disjunction f g) h = (positive-is f h.0, positive-is g h.1)

period_of_all-above : (x : ℕ) (fs : List Nnf) (m : ℕ) → 0 < m → AllPositive fs → m ≤ period_of_all x fs m
period_of_all-above x [] m h k = omega arith
period_of_all-above x (f ∷ fs) m h k =
    let n = period x (form_of f) m in
    let up : m ≤ n = period-above x (form_of f) m h (positive-is (form_of f) k.0) in
    let later = period_of_all-above x fs n (omega arith) k.1 in
    omega arith

pub period_next : (x : ℕ) (fs : List Nnf) (i : ℕ) (f : Nnf) (m next all : ℕ) → i < length fs → f ≡ get_or fs i f → next ≡ period x (form_of f) m
    → period_of_all x (drop i fs) m ≡ all → period_of_all x (drop (i + 1) fs) next ≡ all
period_next x fs i f m next all p is e v = ap (period_of_all x (drop (i + 1) fs)) e ∙ sym (at_member (λ gs. period_of_all x gs m) fs i f p is) ∙ v

positive_drop : (fs : List Nnf) (i : ℕ) → AllPositive fs → AllPositive (drop i fs)
positive_drop fs zero k = k
positive_drop [] (suc i) k = tt
positive_drop (f ∷ fs) (suc i) k = positive_drop fs i k.1

pub positive_at : (fs : List Nnf) (i : ℕ) (f : Nnf) → i < length fs → f ≡ get_or fs i f → AllPositive fs → HasPositive (form_of f) × AllPositive (drop (i + 1) fs)
positive_at fs i f p is k = subst AllPositive (drop_more fs i f p ∙ ap (λ g. g ∷ drop (i + 1) fs) (sym is)) (positive_drop fs i k)

pub period_stops : (x : ℕ) (fs : List Nnf) (i : ℕ) (f : Nnf) (m all budget : ℕ) → i < length fs → f ≡ get_or fs i f → 0 < m → AllPositive fs
    → period_of_all x (drop i fs) m ≡ all → (HasPositive (form_of f) → budget < period x (form_of f) m) → budget < all
period_stops x fs i f m all budget p is h k v over =
    let parts = positive_at fs i f p is k in
    let n = period x (form_of f) m in
    let big : budget < n = over parts.0 in
    let e : period_of_all x (drop (i + 1) fs) n ≡ all = period_next x fs i f m n all p is refl v in
    let up = period_of_all-above x (drop (i + 1) fs) n (omega arith) parts.1 in
    omega arith

positive-fold : (op : Form → Form → Form) → ((f g : Form) → HasPositive (op f g) → HasPositive f × HasPositive g) → (f : Form) (fs : List Nnf) → HasPositive (fold op f (map form_of fs)) → HasPositive f × AllPositive fs
positive-fold op parts f [] h = (h, tt)
positive-fold op parts f (g ∷ fs) h = let r = positive-fold op parts (op f (form_of g)) fs h in let q = parts f (form_of g) r.0 in (q.0, (q.1, r.1))

positive-listed : (c : Connective) (fs : List Nnf) → HasPositive (listed c (map form_of fs)) → AllPositive fs
positive-listed c [] h = tt
positive-listed And (f ∷ fs) h = positive-fold conjunction (λ f g h. h) (form_of f) fs h
positive-listed Or (f ∷ fs) h = positive-fold disjunction (λ f g h. h) (form_of f) fs h

pub positive-Joined : (f : Nnf) (c : Connective) (fs : List Nnf) → f ≡ nnf_of.Joined c fs → HasPositive (form_of f) → AllPositive fs
positive-Joined f c fs is h = positive-listed c fs (subst HasPositive (ap form_of is ∙ form-Joined c fs) h)
