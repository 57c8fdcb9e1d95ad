-- The way back, for formulas with many members.
use Rattle.std.proofs.Common.{◌≡◌, List, [], ◌∷◌, map, length, slice_get, Some, refl, sym, ap, ◌∙◌, subst, arith, inl, inr}
use Rattle.std.specs.List.{fold, Contains}
use Rattle.hs_pure.specs.declared.pure.Pure.{Pure}
use Rattle.hs_pure.specs.declared.pure.Pure.TheVariants as pure_of
use Rattle.hs_pure.specs.Assertion.{Assertion, both, either, every, some, pure_level, assertion_of}
use Rattle.hs_pure.proofs.Views.{fold-And, fold-Or}
use Rattle.hs_elimination.specs.Form.{Form, conjunction, disjunction, all_of, some_of, assertion, IsWide}
use Rattle.hs_cooper_forms.specs.declared.nnf.Connective.{Connective}
use Rattle.hs_cooper_forms.specs.declared.nnf.Connective.TheVariants.{And, Or}
use Rattle.hs_cooper_forms.specs.declared.nnf.Nnf.{Nnf}
use Rattle.hs_cooper_forms.specs.declared.nnf.Nnf.TheVariants as nnf_of
use Rattle.hs_cooper_forms.specs.Reading.{listed, form_of}
use Rattle.hs_cooper_forms.proofs.Forms.{form-Joined}
use Rattle.hs_cooper_forms.proofs.Changes.{map-map, listed_member, contains-map}

assertion-fold : (op : Form → Form → Form) (po : Assertion → Assertion → Assertion) → ((f g : Form) → assertion (op f g) ≡ po (assertion f) (assertion g)) → (f : Form) (fs : List Form) → assertion (fold op f fs) ≡ fold po (assertion f) (map assertion fs)
assertion-fold op po is f [] = refl
assertion-fold op po is f (g ∷ fs) = assertion-fold op po is (op f g) fs ∙ ap (λ a. fold po a (map assertion fs)) (is f g)

assertion-all : (fs : List Form) → assertion (all_of fs) ≡ every (map assertion fs)
assertion-all [] = refl
assertion-all (f ∷ fs) = assertion-fold conjunction both (λ f g. refl) f fs

assertion-some : (fs : List Form) → assertion (some_of fs) ≡ some (map assertion fs)
assertion-some [] = refl
assertion-some (f ∷ fs) = assertion-fold disjunction either (λ f g. refl) f fs

abbrev Members : List Pure → List Nnf → Type 0
Members ps fs = map assertion_of ps ≡ map (λ f. assertion (form_of f)) fs

pub back-And : (f : Nnf) (c : Connective) (fs : List Nnf) (ps : List Pure) → f ≡ nnf_of.Joined c fs → c ≡ And → Members ps fs → assertion_of (pure_of.And ps) ≡ assertion (form_of f)
back-And f c fs ps is c_is e =
    fold-And pure_level ps ∙ ap every (e ∙ sym (map-map form_of assertion fs)) ∙ sym (assertion-all (map form_of fs))
    ∙ ap (λ d. assertion (listed d (map form_of fs))) (sym c_is) ∙ ap assertion (sym (form-Joined c fs)) ∙ ap (λ g. assertion (form_of g)) (sym is)

pub back-Or : (f : Nnf) (c : Connective) (fs : List Nnf) (ps : List Pure) → f ≡ nnf_of.Joined c fs → c ≡ Or → Members ps fs → assertion_of (pure_of.Or ps) ≡ assertion (form_of f)
back-Or f c fs ps is c_is e =
    fold-Or pure_level ps ∙ ap some (e ∙ sym (map-map form_of assertion fs)) ∙ sym (assertion-some (map form_of fs))
    ∙ ap (λ d. assertion (listed d (map form_of fs))) (sym c_is) ∙ ap assertion (sym (form-Joined c fs)) ∙ ap (λ g. assertion (form_of g)) (sym is)

listed-one : (c : Connective) (f : Form) → listed c (f ∷ []) ≡ f
listed-one And f = refl
listed-one Or f = refl

only : (c : Connective) (p : Pure) (fs : List Nnf) → Members (p ∷ []) fs → assertion_of p ≡ assertion (listed c (map form_of fs))
only c p [] e = absurd cc
only c p (f ∷ []) e = (let h : assertion_of p ≡ assertion (form_of f) = cc in h) ∙ ap assertion (sym (listed-one c (form_of f)))
only c p (f ∷ g ∷ fs) e = absurd cc

one_is : (p : Pure) (ps : List Pure) → length ps ≡ 1 → slice_get ps 0 ≡ Some p → ps ≡ p ∷ []
one_is p [] n s = absurd (omega arith)
one_is p (q ∷ []) n s = let h : q ≡ p = cc in ap (λ r. r ∷ []) h
one_is p (q ∷ r ∷ ps) n s = absurd (omega arith)

pub back-one : (f : Nnf) (c : Connective) (fs : List Nnf) (ps : List Pure) (p : Pure) → f ≡ nnf_of.Joined c fs → length ps ≡ 1 → slice_get ps 0 ≡ Some p → Members ps fs → assertion_of p ≡ assertion (form_of f)
back-one f c fs ps p is n s e =
    only c p fs (subst (λ (qs : List Pure). Members qs fs) (one_is p ps n s) e) ∙ ap assertion (sym (form-Joined c fs)) ∙ ap (λ g. assertion (form_of g)) (sym is)

pub back-wide : (f : Nnf) (c : Connective) (fs : List Nnf) → f ≡ nnf_of.Joined c fs → ((g : Nnf) × (Contains fs g × IsWide (form_of g))) → IsWide (form_of f)
back-wide f c fs is w = subst IsWide (sym (ap form_of is ∙ form-Joined c fs)) (listed_member IsWide (λ f g. inl) (λ f g. inr) (λ f g. inl) (λ f g. inr) c (map form_of fs) (form_of w.0) (contains-map form_of fs w.0 w.1.0) w.1.1)
