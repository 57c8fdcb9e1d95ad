-- The first stage of formulas with many members, and its size.
use Rattle.std.proofs.Common.{◌≡◌, ℕ, zero, suc, ◌+◌, sum, Bool, true, false, List, [], ◌∷◌, map, refl, sym, ap, ◌∙◌, subst, arith, inl, inr, ℤ, pos, negsuc}
use Rattle.std.specs.List.{fold, Contains}
use Rattle.hs_pure.specs.declared.lin.Lin.{Lin}
use Rattle.hs_pure.specs.declared.pure.Pure.{Pure}
use Rattle.hs_pure.specs.declared.pure.Pure.TheVariants as pure_of
use Rattle.hs_pure.specs.Assertion.{Assertion, truth, eq, lt, le, divides, bag_eq, subset, member, all_of, negation, both, either, exists, forall, every, some, pure_level, assertion_of}
use Rattle.hs_pure.proofs.Views.{fold-Not, fold-And, fold-Or}
use Rattle.hs_pure.proofs.Mirrored.{fold-joined}
use Rattle.hs_elimination.specs.Form.{Form, const, conjunction, disjunction, atoms, IsWide}
use Rattle.hs_elimination.specs.Normal.{normal, divides_form, evaluate}
use Rattle.hs_cooper_forms.specs.declared.nnf.Connective.{Connective}
use Rattle.hs_cooper_forms.specs.declared.nnf.Connective.TheVariants.{And, Or}
use Rattle.hs_cooper_forms.specs.Reading.{listed, joined}
use Rattle.hs_cooper_forms.specs.Normalizing.{side, first_stage}
use Rattle.hs_cooper_forms.proofs.Changes.{listed-joined, map-map, listed_member, contains-map}

normal-every : (b : Bool) (qs : List Assertion) → normal b (every qs) ≡ listed (side b And) (map (normal b) qs)
normal-every true [] = refl
normal-every false [] = refl
normal-every true (q ∷ qs) = fold-joined both conjunction (normal true) (λ p q. refl) q qs
normal-every false (q ∷ qs) = fold-joined both disjunction (normal false) (λ p q. refl) q qs

normal-some : (b : Bool) (qs : List Assertion) → normal b (some qs) ≡ listed (side b Or) (map (normal b) qs)
normal-some true [] = refl
normal-some false [] = refl
normal-some true (q ∷ qs) = fold-joined either disjunction (normal true) (λ p q. refl) q qs
normal-some false (q ∷ qs) = fold-joined either conjunction (normal false) (λ p q. refl) q qs

pub first-And : (b : Bool) (p : Pure) (ps : List Pure) → p ≡ pure_of.And ps → first_stage b p ≡ listed (side b And) (map (first_stage b) ps)
first-And b p ps is = ap (first_stage b) is ∙ ap (normal b) (fold-And pure_level ps) ∙ normal-every b (map assertion_of ps) ∙ ap (listed (side b And)) (map-map assertion_of (normal b) ps)

pub first-Or : (b : Bool) (p : Pure) (ps : List Pure) → p ≡ pure_of.Or ps → first_stage b p ≡ listed (side b Or) (map (first_stage b) ps)
first-Or b p ps is = ap (first_stage b) is ∙ ap (normal b) (fold-Or pure_level ps) ∙ normal-some b (map assertion_of ps) ∙ ap (listed (side b Or)) (map-map assertion_of (normal b) ps)

joined-first : (b : Bool) (c : Connective) (f : Form) (ps : List Pure) → f ≡ listed c (map (first_stage b) ps) → joined c (map (λ p. evaluate (first_stage b p)) ps) ≡ evaluate f
joined-first b c f ps e = sym (ap evaluate e ∙ listed-joined evaluate (λ b. refl) (λ f g. refl) (λ f g. refl) c (map (first_stage b) ps) ∙ ap (joined c) (map-map (first_stage b) evaluate ps))

pub joined-And : (b : Bool) (p : Pure) (ps : List Pure) → p ≡ pure_of.And ps → joined (side b And) (map (λ p. evaluate (first_stage b p)) ps) ≡ evaluate (first_stage b p)
joined-And b p ps is = joined-first b (side b And) (first_stage b p) ps (first-And b p ps is)

pub joined-Or : (b : Bool) (p : Pure) (ps : List Pure) → p ≡ pure_of.Or ps → joined (side b Or) (map (λ p. evaluate (first_stage b p)) ps) ≡ evaluate (first_stage b p)
joined-Or b p ps is = joined-first b (side b Or) (first_stage b p) ps (first-Or b p ps is)

wide-first : (b : Bool) (c : Connective) (f : Form) (ps : List Pure) → f ≡ listed c (map (first_stage b) ps) → ((q : Pure) × (Contains ps q × IsWide (first_stage b q))) → IsWide f
wide-first b c f ps e w = subst IsWide (sym e) (listed_member IsWide (λ f g. inl) (λ f g. inr) (λ f g. inl) (λ f g. inr) c (map (first_stage b) ps) (first_stage b w.0) (contains-map (first_stage b) ps w.0 w.1.0) w.1.1)

pub wide-And : (b : Bool) (p : Pure) (ps : List Pure) → p ≡ pure_of.And ps → ((q : Pure) × (Contains ps q × IsWide (first_stage b q))) → IsWide (first_stage b p)
wide-And b p ps is = wide-first b (side b And) (first_stage b p) ps (first-And b p ps is)

pub wide-Or : (b : Bool) (p : Pure) (ps : List Pure) → p ≡ pure_of.Or ps → ((q : Pure) × (Contains ps q × IsWide (first_stage b q))) → IsWide (first_stage b p)
wide-Or b p ps is = wide-first b (side b Or) (first_stage b p) ps (first-Or b p ps is)

-- ---- sizes

pub measure-fold : (h : Form → ℕ) (op : Form → Form → Form) → ((f g : Form) → h (op f g) ≡ h f + h g) → (f : Form) (fs : List Form) → h (fold op f fs) ≡ fold (λ m n. m + n) (h f) (map h fs)
measure-fold h op is f [] = refl
measure-fold h op is f (g ∷ fs) = measure-fold h op is (op f g) fs ∙ ap (λ n. fold (λ m n. m + n) n (map h fs)) (is f g)

zero_first : (n : ℕ) → n ≡ 0 + n
zero_first n = omega arith

pub measure-listed : (h : Form → ℕ) → ((b : Bool) → h (const b) ≡ 0) → ((f g : Form) → h (conjunction f g) ≡ h f + h g) → ((f g : Form) → h (disjunction f g) ≡ h f + h g) → (c : Connective) (fs : List Form) → h (listed c fs) ≡ sum (map h fs)
measure-listed h none is or And [] = none true
measure-listed h none is or Or [] = none false
measure-listed h none is or And (f ∷ fs) = measure-fold h conjunction is f fs ∙ ap (λ n. fold (λ m n. m + n) n (map h fs)) (zero_first (h f))
measure-listed h none is or Or (f ∷ fs) = measure-fold h disjunction or f fs ∙ ap (λ n. fold (λ m n. m + n) n (map h fs)) (zero_first (h f))

pub atoms-listed : (c : Connective) (fs : List Form) → atoms (listed c fs) ≡ sum (map atoms fs)
atoms-listed = measure-listed atoms (λ b. refl) (λ f g. refl) (λ f g. refl)

atoms-first : (b : Bool) (c : Connective) (f : Form) (ps : List Pure) → f ≡ listed c (map (first_stage b) ps) → sum (map (λ p. atoms (first_stage b p)) ps) ≡ atoms f
atoms-first b c f ps e = sym (ap atoms e ∙ atoms-listed c (map (first_stage b) ps) ∙ ap sum (map-map (first_stage b) atoms ps))

pub atoms-And : (p : Pure) (ps : List Pure) → p ≡ pure_of.And ps → sum (map (λ p. atoms (first_stage true p)) ps) ≡ atoms (first_stage true p)
atoms-And p ps is = atoms-first true And (first_stage true p) ps (first-And true p ps is)

pub atoms-Or : (p : Pure) (ps : List Pure) → p ≡ pure_of.Or ps → sum (map (λ p. atoms (first_stage true p)) ps) ≡ atoms (first_stage true p)
atoms-Or p ps is = atoms-first true Or (first_stage true p) ps (first-Or true p ps is)

atoms_divides : (d : ℤ) (a : Lin) → atoms (divides_form false d a) ≡ atoms (divides_form true d a)
atoms_divides (pos zero) a = refl
atoms_divides (pos (suc n)) a = refl
atoms_divides (negsuc n) a = refl

atoms_denied : (p : Assertion) → atoms (normal false p) ≡ atoms (normal true p)
atoms_denied truth = refl
atoms_denied (eq a b) = refl
atoms_denied (lt a b) = refl
atoms_denied (le a b) = refl
atoms_denied (divides d a) = atoms_divides d a
atoms_denied (bag_eq a b) = refl
atoms_denied (subset a b) = refl
atoms_denied (member a b) = refl
atoms_denied (all_of u b p) = refl
atoms_denied (negation p) = sym (atoms_denied p)
atoms_denied (both p q) = omega (arith, atoms_denied p, atoms_denied q)
atoms_denied (either p q) = omega (arith, atoms_denied p, atoms_denied q)
atoms_denied (exists u p) = refl
atoms_denied (forall u p) = refl

pub atoms-Not : (p q : Pure) → p ≡ pure_of.Not q → atoms (first_stage true q) ≡ atoms (first_stage true p)
atoms-Not p q is = sym (ap (λ r. atoms (first_stage true r)) is ∙ ap (λ a. atoms (normal true a)) (fold-Not pure_level q) ∙ atoms_denied (assertion_of q))
