-- Formulas with many members, with equations put in place.
use Rattle.std.proofs.Common.{◌≡◌, ℕ, ◌<◌, length, get_or, List, [], ◌∷◌, ◌++◌, map, refl, sym, ap, ◌∙◌, subst}
use Rattle.std.specs.List.{All}
use Rattle.std.proofs.lemmas.List.Elements.{All-head}
use Rattle.hs_pure.specs.declared.var.Var.{Var}
use Rattle.hs_pure.specs.declared.bag.Bag.{Bag}
use Rattle.hs_pure.specs.declared.pure.Pure.{Pure}
use Rattle.hs_pure.specs.declared.pure.Pure.TheVariants as pure_of
use Rattle.hs_pure.specs.Assertion.{Assertion, both, either, every, some, pure_level, assertion_of}
use Rattle.hs_pure.proofs.Views.{fold-And, fold-Or}
use Rattle.hs_pure.proofs.Mirrored.{fold-joined}
use Rattle.hs_elimination.proofs.Order.{All-after}
use Rattle.hs_bag_equations.specs.Placing.{put_in_place}

map-map : {X Y Z : Type 0} (f : X → Y) (g : Y → Z) (xs : List X) → map g (map f xs) ≡ map (λ x. g (f x)) xs
map-map f g [] = refl
map-map f g (x ∷ xs) = ap (λ ys. g (f x) ∷ ys) (map-map f g xs)

module _ (es : List (Var × Bag)) where
  put-every : (qs : List Assertion) → put_in_place es (every qs) ≡ every (map (put_in_place es) qs)
  put-every [] = refl
  put-every (q ∷ qs) = fold-joined both both (put_in_place es) (λ p q. refl) q qs

  put-some : (qs : List Assertion) → put_in_place es (some qs) ≡ some (map (put_in_place es) qs)
  put-some [] = refl
  put-some (q ∷ qs) = fold-joined either either (put_in_place es) (λ p q. refl) q qs

  -- what the members of the result are
  abbrev ArePut : List Pure → List Pure → Type 0
  ArePut qs ps = map assertion_of qs ≡ map (λ p. put_in_place es (assertion_of p)) ps

  pub put-And : (p : Pure) (ps qs : List Pure) → p ≡ pure_of.And ps → ArePut qs ps → assertion_of (pure_of.And qs) ≡ put_in_place es (assertion_of p)
  put-And p ps qs is e =
      fold-And pure_level qs ∙ ap every (e ∙ sym (map-map assertion_of (put_in_place es) ps)) ∙ sym (put-every (map assertion_of ps))
      ∙ ap (put_in_place es) (sym (fold-And pure_level ps)) ∙ ap (λ q. put_in_place es (assertion_of q)) (sym is)

  pub put-Or : (p : Pure) (ps qs : List Pure) → p ≡ pure_of.Or ps → ArePut qs ps → assertion_of (pure_of.Or qs) ≡ put_in_place es (assertion_of p)
  put-Or p ps qs is e =
      fold-Or pure_level qs ∙ ap some (e ∙ sym (map-map assertion_of (put_in_place es) ps)) ∙ sym (put-some (map assertion_of ps))
      ∙ ap (put_in_place es) (sym (fold-Or pure_level ps)) ∙ ap (λ q. put_in_place es (assertion_of q)) (sym is)

-- the item of a loop
pub at_item : {X : Type 0} (P : X → Type 0) (xs : List X) (i : ℕ) (x : X) → i < length xs → x ≡ get_or xs i x → All P xs → P x
at_item P xs i x less is all = subst P (sym is) (all i x less)

pub last_item : {X : Type 0} (P : X → Type 0) (xs ys : List X) (x : X) → xs ≡ ys ++ x ∷ [] → All P xs → P x
last_item P xs ys x is all = All-head P x [] (All-after P ys (x ∷ []) (subst (All P) is all))
