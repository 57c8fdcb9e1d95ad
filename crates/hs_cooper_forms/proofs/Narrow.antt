-- What keeps to 128 bits: sums, lists of formulas, the first stage and changes.
use Rattle.std.proofs.Common.{◌≡◌, ℕ, ◌⊎◌, inl, inr, Bool, true, false, cond, ◌==◌, List, [], ◌∷◌, ◌++◌, map, sym, ap, ◌∙◌, subst, ℤ, pos, FitsSigned}
use Rattle.std.specs.List.{fold, Contains}
use Rattle.std.specs.Ordering.{int_eq}
use mir.Syntax.{w128}
use Rattle.hs_pure.specs.declared.var.Var.{Var}
use Rattle.hs_pure.specs.declared.lin.Lin.{Lin}
use Rattle.hs_pure.specs.declared.pure.Pure.{Pure}
use Rattle.hs_pure.specs.declared.pure.Pure.TheVariants as pure_of
use Rattle.hs_elimination.specs.Linear.{place, prepend, coefficient, without, rest, HasWideTerm, IsWideLin}
use Rattle.hs_elimination.specs.Form.{Form, const, conjunction, disjunction, IsWide}
use Rattle.hs_elimination.specs.Cases.{substitute_by, substitute_lin}
use Rattle.hs_elimination.proofs.Stage3.{contains_cases, contains_none, contains_head, contains_tail}
use Rattle.hs_cooper_forms.specs.declared.change.Change.{Change}
use Rattle.hs_cooper_forms.specs.declared.change.Change.TheVariants.{Scale, Substitute, Low}
use Rattle.hs_cooper_forms.specs.declared.nnf.Connective.{Connective}
use Rattle.hs_cooper_forms.specs.declared.nnf.Connective.TheVariants.{And, Or}
use Rattle.hs_cooper_forms.specs.declared.nnf.Nnf.{Nnf}
use Rattle.hs_cooper_forms.specs.declared.nnf.Nnf.TheVariants as nnf_of
use Rattle.hs_cooper_forms.specs.Reading.{listed, form_of}
use Rattle.hs_cooper_forms.specs.Changing.{changed}
use Rattle.hs_cooper_forms.specs.Normalizing.{side, first_stage}
use Rattle.hs_cooper_forms.proofs.Forms.{form-Joined}
use Rattle.hs_cooper_forms.proofs.Changes.{listed_member, contains-map}
use Rattle.hs_cooper_forms.proofs.Normals.{first-And, first-Or}

-- ---- sums

pub narrow_more : (ts : List (Var × ℤ)) (v : Var) (c : ℤ) → ¬ (HasWideTerm ts) → FitsSigned w128 c → ¬ (HasWideTerm (ts ++ (v, c) ∷ []))
narrow_more [] v c h f (inl w) = w f
narrow_more [] v c h f (inr w) = w
narrow_more (t ∷ ts) v c h f (inl w) = h (inl w)
narrow_more (t ∷ ts) v c h f (inr w) = narrow_more ts v c (λ k. h (inr k)) f w

no_more : (ts : List (Var × ℤ)) → ¬ (HasWideTerm ts) → ¬ (HasWideTerm (ts ++ []))
no_more [] h w = w
no_more (t ∷ ts) h (inl w) = h (inl w)
no_more (t ∷ ts) h (inr w) = no_more ts (λ k. h (inr k)) w

pub narrow_prepend : (ts : List (Var × ℤ)) (v : Var) (c : ℤ) → ¬ (HasWideTerm ts) → FitsSigned w128 c → ¬ (HasWideTerm (ts ++ prepend v c []))
narrow_prepend ts v c h f = by_zero (int_eq c (pos 0))
  where
    by_zero : (z : Bool) → ¬ (HasWideTerm (ts ++ cond z [] ((v, c) ∷ [])))
    by_zero true = no_more ts h
    by_zero false = narrow_more ts v c h f

pub neither : {P Q : Type 0} → ¬ P → ¬ Q → ¬ (P ⊎ Q)
neither h k (inl p) = h p
neither h k (inr q) = k q

wide-without : (x : ℕ) (ts : List (Var × ℤ)) → HasWideTerm (without x ts) → HasWideTerm ts
wide-without x [] h = h
wide-without x (t ∷ ts) h = by_place (place t.0 == x) (wide-without x ts) h
  where
    by_place : (b : Bool) → (HasWideTerm (without x ts) → HasWideTerm ts) → HasWideTerm (cond b (without x ts) (t ∷ without x ts)) → HasWideTerm (t ∷ ts)
    by_place true ih w = inr (ih w)
    by_place false ih (inl w) = inl w
    by_place false ih (inr w) = inr (ih w)

pub wide-rest : (x : ℕ) (a : Lin) → IsWideLin (rest x a) → IsWideLin a
wide-rest x a (inl h) = inl h
wide-rest x a (inr h) = inr (wide-without x a.terms h)

pub wide-substituted : (x : ℕ) (u a : Lin) → coefficient x a.terms ≡ pos 0 → IsWideLin (substitute_lin x u a) → IsWideLin a
wide-substituted x u a e w = wide-rest x a (subst (λ c. IsWideLin (substitute_by c u (rest x a))) e w)

-- ---- lists

pub contains-map_back : {X Y : Type 0} (h : X → Y) (xs : List X) (y : Y) → Contains (map h xs) y → (x : X) × (Contains xs x × (h x ≡ y))
contains-map_back h [] y c = contains_none y c
contains-map_back {X = X} h (x ∷ xs) y c = step (contains-map_back h xs y)
  where
    step : (Contains (map h xs) y → (x : X) × (Contains xs x × (h x ≡ y))) → (z : X) × (Contains (x ∷ xs) z × (h z ≡ y))
    step ih = elim (contains_cases (h x) y (map h xs) c) [
      | inl is ↦ (x, (contains_head x xs, is))
      | inr later ↦ (let w = ih later in (w.0, (contains_tail x w.0 xs w.1.0, w.1.1)))
    ]

-- what holds of a list holds of one of its members
module _ (Q : Form → Type 0) (not_const : (b : Bool) → ¬ (Q (const b))) (of_both : (f g : Form) → Q (conjunction f g) → Q f ⊎ Q g) (of_either : (f g : Form) → Q (disjunction f g) → Q f ⊎ Q g) where
  fold_some : (op : Form → Form → Form) → ((f g : Form) → Q (op f g) → Q f ⊎ Q g) → (f : Form) (fs : List Form) → Q (fold op f fs) → (g : Form) × (Contains (f ∷ fs) g × Q g)
  fold_some op split f [] h = (f, (contains_head f [], h))
  fold_some op split f (e ∷ fs) h = step (fold_some op split (op f e) fs h)
    where
      step : (g : Form) × (Contains (op f e ∷ fs) g × Q g) → (g : Form) × (Contains (f ∷ e ∷ fs) g × Q g)
      step w = elim (contains_cases (op f e) w.0 fs w.1.0) [
        | inl is ↦ elim (split f e (subst Q (sym is) w.1.1)) [
          | inl a ↦ (f, (contains_head f (e ∷ fs), a))
          | inr b ↦ (e, (contains_tail f e (e ∷ fs) (contains_head e fs), b))
        ]
        | inr later ↦ (w.0, (contains_tail f w.0 (e ∷ fs) (contains_tail e w.0 fs later), w.1.1))
      ]

  pub listed_some : (c : Connective) (fs : List Form) → Q (listed c fs) → (g : Form) × (Contains fs g × Q g)
  listed_some And [] h = absurd (not_const true h)
  listed_some Or [] h = absurd (not_const false h)
  listed_some And (f ∷ fs) h = fold_some conjunction of_both f fs h
  listed_some Or (f ∷ fs) h = fold_some disjunction of_either f fs h

pub wide_some : (c : Connective) (fs : List Form) → IsWide (listed c fs) → (g : Form) × (Contains fs g × IsWide g)
wide_some = listed_some IsWide (λ b h. h) (λ f g h. h) (λ f g h. h)

-- ---- the first stage

narrow-first : (b : Bool) (c : Connective) (f : Form) (ps : List Pure) → f ≡ listed c (map (first_stage b) ps) → ((q : Pure) → Contains ps q → ¬ (IsWide (first_stage b q))) → ¬ (IsWide f)
narrow-first b c f ps e h w =
    let g = wide_some c (map (first_stage b) ps) (subst IsWide e w) in
    let q = contains-map_back (first_stage b) ps g.0 g.1.0 in
    h q.0 q.1.0 (subst IsWide (sym q.1.1) g.1.1)

pub narrow-And : (b : Bool) (p : Pure) (ps : List Pure) → p ≡ pure_of.And ps → ((q : Pure) → Contains ps q → ¬ (IsWide (first_stage b q))) → ¬ (IsWide (first_stage b p))
narrow-And b p ps is = narrow-first b (side b And) (first_stage b p) ps (first-And b p ps is)

pub narrow-Or : (b : Bool) (p : Pure) (ps : List Pure) → p ≡ pure_of.Or ps → ((q : Pure) → Contains ps q → ¬ (IsWide (first_stage b q))) → ¬ (IsWide (first_stage b p))
narrow-Or b p ps is = narrow-first b (side b Or) (first_stage b p) ps (first-Or b p ps is)

-- ---- changes

abbrev IsWideChanged : Change → Form → Type 0
IsWideChanged ch f = IsWide (changed ch f)

changed_some : (ch : Change) (c : Connective) (fs : List Form) → IsWideChanged ch (listed c fs) → (g : Form) × (Contains fs g × IsWideChanged ch g)
changed_some (Scale x l) = listed_some (IsWideChanged (Scale x l)) (λ b h. h) (λ f g h. h) (λ f g h. h)
changed_some (Substitute x u) = listed_some (IsWideChanged (Substitute x u)) (λ b h. h) (λ f g h. h) (λ f g h. h)
changed_some (Low x j) = listed_some (IsWideChanged (Low x j)) (λ b h. h) (λ f g h. h) (λ f g h. h)

pub kept-Joined : (ch : Change) (f : Nnf) (c : Connective) (fs : List Nnf) → f ≡ nnf_of.Joined c fs → ((g : Nnf) → Contains fs g → IsWide (changed ch (form_of g)) → IsWide (form_of g)) → IsWide (changed ch (form_of f)) → IsWide (form_of f)
kept-Joined ch f c fs is h w =
    let e : form_of f ≡ listed c (map form_of fs) = ap form_of is ∙ form-Joined c fs in
    let k = changed_some ch c (map form_of fs) (subst (IsWideChanged ch) e w) in
    let g = contains-map_back form_of fs k.0 k.1.0 in
    let at : IsWide (form_of g.0) = h g.0 g.1.0 (subst (IsWideChanged ch) (sym g.1.1) k.1.1) in
    subst IsWide (sym e) (listed_member IsWide (λ f g. inl) (λ f g. inr) (λ f g. inl) (λ f g. inr) c (map form_of fs) (form_of g.0) (contains-map form_of fs g.0 g.1.0) at)
