-- What a formula is read as, variant by variant, and as it is gathered.
use Rattle.std.proofs.Common.{◌≡◌, ℕ, suc, ◌<◌, Bool, true, false, not, ◌&&◌, ◌||◌, List, [], ◌∷◌, ◌++◌, map, length, refl, sym, ap, ◌∙◌, subst, arith, if◌then◌else◌}
use Rattle.std.specs.List.{fold}
use Rattle.std.proofs.lemmas.List.{map-append}
use Rattle.hs_elimination.specs.Form.{Form, const, conjunction, disjunction}
use Rattle.hs_elimination.specs.Normal.{both_of, either_of}
use Rattle.hs_cooper_forms.specs.declared.nnf.Literal.{Literal}
use Rattle.hs_cooper_forms.specs.declared.nnf.Relation.{Relation}
use Rattle.hs_cooper_forms.specs.declared.nnf.Relation.TheVariants.{Positive, Multiple, NoMultiple}
use Rattle.hs_cooper_forms.specs.declared.nnf.Connective.{Connective}
use Rattle.hs_cooper_forms.specs.declared.nnf.Connective.TheVariants.{And, Or}
use Rattle.hs_cooper_forms.specs.declared.nnf.Nnf.{Nnf, fold-Nnf, fold-roll-Nnf}
use Rattle.hs_cooper_forms.specs.declared.nnf.Nnf.TheOpen.{Nnf-F}
use Rattle.hs_cooper_forms.specs.declared.nnf.Nnf.TheVariants as nnf_of
use Rattle.hs_cooper_forms.specs.declared.gather.Gathered.{Gathered}
use Rattle.hs_cooper_forms.specs.Reading.{form_by, literal_form, listed, unit, join, form_level, form_of, is_proper, all_proper, truth_level, is_truth, IsCanonical}
use Rattle.hs_cooper_forms.specs.Gathering.{gathered, HasProper}

module _ {A : Type 0} (f : Nnf-F A → A) where
  pub fold-Truth : (b : Bool) → fold-Nnf A f (nnf_of.Truth b) ≡ f (Nnf-F.Truth b)
  fold-Truth b = ap (fold-Nnf A f) (sym (nnf_of.rolls-Truth b)) ∙ fold-roll-Nnf A f (Nnf-F.Truth b)

  pub fold-Literal : (l : Literal) → fold-Nnf A f (nnf_of.Literal l) ≡ f (Nnf-F.Literal l)
  fold-Literal l = ap (fold-Nnf A f) (sym (nnf_of.rolls-Literal l)) ∙ fold-roll-Nnf A f (Nnf-F.Literal l)

  pub fold-Joined : (c : Connective) (fs : List Nnf) → fold-Nnf A f (nnf_of.Joined c fs) ≡ f (Nnf-F.Joined c (map (fold-Nnf A f) fs))
  fold-Joined c fs = ap (fold-Nnf A f) (sym (nnf_of.rolls-Joined c fs)) ∙ fold-roll-Nnf A f (Nnf-F.Joined c fs)

pub form-Truth : (b : Bool) → form_of (nnf_of.Truth b) ≡ const b
form-Truth = fold-Truth form_level

pub form-Literal : (l : Literal) → form_of (nnf_of.Literal l) ≡ literal_form l
form-Literal = fold-Literal form_level

pub form-Joined : (c : Connective) (fs : List Nnf) → form_of (nnf_of.Joined c fs) ≡ listed c (map form_of fs)
form-Joined = fold-Joined form_level

-- ---- proper formulas

proper_by : (r : Relation) (l : Literal) → is_proper (form_by r l.sum) ≡ true
proper_by Positive l = refl
proper_by (Multiple d) l = refl
proper_by (NoMultiple d) l = refl

pub proper_literal : (l : Literal) → is_proper (literal_form l) ≡ true
proper_literal l = proper_by l.relation l

or_right : (a b : Bool) → b ≡ true → (a || b) ≡ true
or_right true b h = refl
or_right false b h = h

pub proper_joined : (c : Connective) (fs : List Nnf) → IsCanonical (nnf_of.Joined c fs) → is_proper (form_of (nnf_of.Joined c fs)) ≡ true
proper_joined c fs h = let e = fold-Joined truth_level c fs in subst (λ b. (b || is_proper (form_of (nnf_of.Joined c fs))) ≡ true) e h

both-proper : (f g : Form) → is_proper f ≡ true → is_proper g ≡ true → both_of f g ≡ conjunction f g
both-proper (const b) g p q = absurd cc
both-proper f (const b) p q = absurd cc
both-proper f g p q = refl

either-proper : (f g : Form) → is_proper f ≡ true → is_proper g ≡ true → either_of f g ≡ disjunction f g
either-proper (const b) g p q = absurd cc
either-proper f (const b) p q = absurd cc
either-proper f g p q = refl

proper-fold : (op : Form → Form → Form) → ((f g : Form) → is_proper (op f g) ≡ true) → (f : Form) (fs : List Form) → is_proper f ≡ true → is_proper (fold op f fs) ≡ true
proper-fold op always f [] h = h
proper-fold op always f (g ∷ fs) h = proper-fold op always (op f g) fs (always f g)

pub fold-push : (op : Form → Form → Form) (f : Form) (fs : List Form) (g : Form) → fold op f (fs ++ g ∷ []) ≡ op (fold op f fs) g
fold-push op f [] g = refl
fold-push op f (h ∷ fs) g = fold-push op (op f h) fs g

and_first : (a b : Bool) → (a && b) ≡ true → a ≡ true
and_first true b h = refl
and_first false b h = absurd cc

pub listed_push : (c : Connective) (fs : List Form) (g : Form) → all_proper fs ≡ true → is_proper g ≡ true → listed c (fs ++ g ∷ []) ≡ join c (listed c fs) g
listed_push And [] g h k = refl
listed_push Or [] g h k = refl
listed_push And (f ∷ fs) g h k = fold-push conjunction f fs g ∙ sym (both-proper (fold conjunction f fs) g (proper-fold conjunction (λ f g. refl) f fs (and_first _ _ h)) k)
listed_push Or (f ∷ fs) g h k = fold-push disjunction f fs g ∙ sym (either-proper (fold disjunction f fs) g (proper-fold disjunction (λ f g. refl) f fs (and_first _ _ h)) k)

proper_push : (fs : List Form) (g : Form) → all_proper fs ≡ true → is_proper g ≡ true → all_proper (fs ++ g ∷ []) ≡ true
proper_push [] g h k = rw k refl
proper_push (f ∷ fs) g h k = step (is_proper f) h (proper_push fs g)
  where
    step : (b : Bool) → (b && all_proper fs) ≡ true → (all_proper fs ≡ true → is_proper g ≡ true → all_proper (fs ++ g ∷ []) ≡ true) → (b && all_proper (fs ++ g ∷ [])) ≡ true
    step true h ih = ih h k
    step false h ih = absurd cc

proper_listed : (c : Connective) (fs : List Form) → 0 < length fs → all_proper fs ≡ true → is_proper (listed c fs) ≡ true
proper_listed c [] n h = absurd (omega arith)
proper_listed And (f ∷ fs) n h = proper-fold conjunction (λ f g. refl) f fs (and_first _ _ h)
proper_listed Or (f ∷ fs) n h = proper-fold disjunction (λ f g. refl) f fs (and_first _ _ h)

-- ---- gathering

module _ (g : Gathered) (f x : Nnf) (fs : List Nnf) (is : f ≡ x) (all : fs ≡ g.members ++ x ∷ []) (own : HasProper g) (proper : is_proper (form_of f) ≡ true) where
  forms_are : map form_of fs ≡ map form_of g.members ++ form_of f ∷ []
  forms_are = ap (map form_of) all ∙ map-append form_of g.members (x ∷ []) ∙ ap (λ y. map form_of g.members ++ form_of y ∷ []) (sym is)

  pub gathered_push : g.decided ≡ false → gathered record { connective = g.connective; members = fs; decided = g.decided } ≡ join g.connective (gathered g) (form_of f)
  gathered_push open_yet =
      ap (λ b. if b then const (not (unit g.connective)) else listed g.connective (map form_of fs)) open_yet
      ∙ ap (listed g.connective) forms_are
      ∙ listed_push g.connective (map form_of g.members) (form_of f) own proper
      ∙ ap (λ b. join g.connective (if b then const (not (unit g.connective)) else listed g.connective (map form_of g.members)) (form_of f)) (sym open_yet)

  pub proper_more : HasProper record { connective = g.connective; members = fs; decided = g.decided }
  proper_more = subst (λ l. all_proper l ≡ true) (sym forms_are) (proper_push (map form_of g.members) (form_of f) own proper)

length-forms : (fs : List Nnf) → length (map form_of fs) ≡ length fs
length-forms [] = refl
length-forms (f ∷ fs) = ap suc (length-forms fs)

pub canonical_whole : (c : Connective) (fs : List Nnf) → 0 < length fs → all_proper (map form_of fs) ≡ true → IsCanonical (nnf_of.Joined c fs)
canonical_whole c fs n h =
    or_right (is_truth (nnf_of.Joined c fs)) _ (subst (λ g. is_proper g ≡ true) (sym (form-Joined c fs))
    (proper_listed c (map form_of fs) (subst (λ (k : ℕ). 0 < k) (sym (length-forms fs)) n) h))
