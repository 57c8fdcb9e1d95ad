-- Variables put into a list, place by place and sum by sum.
use Rattle.std.proofs.Common.{◌≡◌, ℕ, ◌+◌, ◌<◌, ℤ, List, [], ◌∷◌, ◌++◌, map, length, get_or, take, drop, refl, sym, ap, ◌∙◌}
use Rattle.std.specs.List.{flat_map, filter}
use Rattle.std.proofs.lemmas.List.{drop_more}
use Rattle.hs_pure.specs.declared.var.Var.{Var}
use Rattle.hs_pure.specs.declared.lin.Lin.{Lin}
use Rattle.hs_pure.specs.declared.pure.Pure.{Pure}
use Rattle.hs_pure.specs.declared.pure.Pure.TheVariants as pure_of
use Rattle.hs_pure.specs.Assertion.{assertion_of}
use Rattle.hs_pure.specs.Occurs.{is_free}
use Rattle.hs_pure.specs.Rename.{sums, sums_level}
use Rattle.hs_pure.proofs.Mirrored.{is_free-is}
use Rattle.hs_pure.proofs.Views.{fold-And, fold-Or}
use Rattle.hs_plain.specs.Variables.{inserted, with_terms, with_sums, free_variables}
use Rattle.hs_plain.proofs.Sums.{sums-is}

-- ---- one variable

-- the first i variables stand before v
abbrev pub Passed : Var → List Var → ℕ → Type 0
Passed v vs i = inserted v vs ≡ take i vs ++ inserted v (drop i vs)

-- ---- sums

pub with_terms-more : (ts : List (Var × ℤ)) (i : ℕ) (t : Var × ℤ) (vs : List Var) → i < length ts → t ≡ get_or ts i t → with_terms (drop (i + 1) ts) (inserted t.0 vs) ≡ with_terms (drop i ts) vs
with_terms-more ts i t vs h is = sym (ap (λ us. with_terms us vs) (drop_more ts i t h ∙ ap (λ u. u ∷ drop (i + 1) ts) (sym is)))

pub with_sums-append : (as' bs : List Lin) (vs : List Var) → with_sums (as' ++ bs) vs ≡ with_sums bs (with_sums as' vs)
with_sums-append [] bs vs = refl
with_sums-append (a ∷ as') bs vs = with_sums-append as' bs (with_terms a.terms vs)

abbrev pub all_sums : List Pure → List Lin
all_sums ps = flat_map (λ as'. as') (map sums ps)

pub all_sums-more : (ps : List Pure) (i : ℕ) (p : Pure) (vs : List Var) → i < length ps → p ≡ get_or ps i p → with_sums (all_sums (drop (i + 1) ps)) (with_sums (sums p) vs) ≡ with_sums (all_sums (drop i ps)) vs
all_sums-more ps i p vs h is =
    sym (with_sums-append (sums p) (all_sums (drop (i + 1) ps)) vs)
    ∙ sym (ap (λ qs. with_sums (all_sums qs) vs) (drop_more ps i p h ∙ ap (λ q. q ∷ drop (i + 1) ps) (sym is)))

pub all_sums-And : (p : Pure) (ps : List Pure) (vs : List Var) → p ≡ pure_of.And ps → with_sums (all_sums ps) vs ≡ with_sums (sums p) vs
all_sums-And p ps vs is = ap (λ as'. with_sums as' vs) (sym (ap sums is ∙ fold-And sums_level ps))

pub all_sums-Or : (p : Pure) (ps : List Pure) (vs : List Var) → p ≡ pure_of.Or ps → with_sums (all_sums ps) vs ≡ with_sums (sums p) vs
all_sums-Or p ps vs is = ap (λ as'. with_sums as' vs) (sym (ap sums is ∙ fold-Or sums_level ps))

pub free-is : (p : Pure) (all : List Var) → all ≡ with_sums (sums p) [] → filter (λ v. is_free v p) all ≡ free_variables (assertion_of p)
free-is p all e = ap (filter (λ v. is_free v p)) e ∙ (λ i. filter (λ v. is_free-is v p i) (with_sums (sums-is p i) []))
