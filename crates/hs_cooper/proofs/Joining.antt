-- Lower bounds of formulas with many members.
use Rattle.std.proofs.Common.{◌≡◌, ℕ, ◌+◌, ◌<◌, ◌≤◌, Bool, true, false, cond, List, [], ◌∷◌, ◌++◌, map, length, get_or, drop, refl, sym, ap, ◌∙◌, subst, arith, length-append}
use Rattle.std.specs.List.{fold}
use Rattle.std.proofs.lemmas.List.{drop_more}
use Rattle.hs_pure.specs.declared.lin.Lin.{Lin}
use Rattle.hs_elimination.specs.Form.{Form, conjunction, disjunction}
use Rattle.hs_elimination.specs.Cases.{has_lin, join_distinct}
use Rattle.hs_cooper_forms.specs.declared.nnf.Connective.{Connective}
use Rattle.hs_cooper_forms.specs.declared.nnf.Connective.TheVariants.{And, Or}
use Rattle.hs_cooper_forms.specs.declared.nnf.Nnf.{Nnf}
use Rattle.hs_cooper_forms.specs.declared.nnf.Nnf.TheVariants as nnf_of
use Rattle.hs_cooper_forms.specs.Reading.{listed, form_of}
use Rattle.hs_cooper.specs.Bounding.{denied_bounds, join_all}
use Rattle.hs_cooper_forms.proofs.Forms.{form-Joined}

pub join_distinct-append : (done a b : List Lin) → join_distinct done (a ++ b) ≡ join_distinct (join_distinct done a) b
join_distinct-append done [] b = refl
join_distinct-append done (t ∷ a) b = join_distinct-append (cond (has_lin t done) done (done ++ t ∷ [])) a b

pub longer : (done ts : List Lin) → length done ≤ length (join_distinct done ts)
longer done [] = omega arith
longer done (t ∷ ts) = by_test (has_lin t done) (longer done ts) (longer (done ++ t ∷ []) ts)
  where
    by_test : (b : Bool) → length done ≤ length (join_distinct done ts) → length (done ++ t ∷ []) ≤ length (join_distinct (done ++ t ∷ []) ts) → length done ≤ length (join_distinct (cond b done (done ++ t ∷ [])) ts)
    by_test true p q = p
    by_test false p q = omega (arith, q, length-append done (t ∷ []))

all_longer : (x : ℕ) (done : List Lin) (fs : List Nnf) → length done ≤ length (join_all x done fs)
all_longer x done [] = omega arith
all_longer x done (f ∷ fs) = omega (arith, longer done (denied_bounds x (form_of f)), all_longer x (join_distinct done (denied_bounds x (form_of f))) fs)

join-fold : (x : ℕ) (op : Form → Form → Form) → ((f g : Form) → denied_bounds x (op f g) ≡ denied_bounds x f ++ denied_bounds x g) → (done : List Lin) (f : Form) (fs : List Nnf)
    → join_distinct done (denied_bounds x (fold op f (map form_of fs))) ≡ join_all x (join_distinct done (denied_bounds x f)) fs
join-fold x op is done f [] = refl
join-fold x op is done f (g ∷ fs) = join-fold x op is done (op f (form_of g)) fs ∙ ap (λ l. join_all x l fs) (ap (join_distinct done) (is f (form_of g)) ∙ join_distinct-append done (denied_bounds x f) (denied_bounds x (form_of g)))

join-listed : (x : ℕ) (c : Connective) (done : List Lin) (fs : List Nnf) → join_distinct done (denied_bounds x (listed c (map form_of fs))) ≡ join_all x done fs
join-listed x And done [] = refl
join-listed x Or done [] = refl
join-listed x And done (f ∷ fs) = join-fold x conjunction (λ f g. refl) done (form_of f) fs
join-listed x Or done (f ∷ fs) = join-fold x disjunction (λ f g. refl) done (form_of f) fs

pub join-Joined : (x : ℕ) (done : List Lin) (f : Nnf) (c : Connective) (fs : List Nnf) → f ≡ nnf_of.Joined c fs → join_all x done fs ≡ join_distinct done (denied_bounds x (form_of f))
join-Joined x done f c fs is = sym (ap (λ g. join_distinct done (denied_bounds x (form_of g))) is ∙ ap (λ g. join_distinct done (denied_bounds x g)) (form-Joined c fs) ∙ join-listed x c done fs)

pub join_stops : (x : ℕ) (done all : List Lin) (fs : List Nnf) (i limit : ℕ) (f : Nnf) → i < length fs → f ≡ get_or fs i f → join_all x done (drop i fs) ≡ all
    → limit < length (join_distinct done (denied_bounds x (form_of f))) → limit < length all
join_stops x done all fs i limit f p is v over =
    let e : join_all x (join_distinct done (denied_bounds x (form_of f))) (drop (i + 1) fs) ≡ all
    = sym (ap (join_all x done) (drop_more fs i f p) ∙ ap (λ g. join_all x (join_distinct done (denied_bounds x (form_of g))) (drop (i + 1) fs)) (sym is)) ∙ v in
    let l = all_longer x (join_distinct done (denied_bounds x (form_of f))) (drop (i + 1) fs) in
    subst (λ (as' : List Lin). limit < length as') e (omega arith)
