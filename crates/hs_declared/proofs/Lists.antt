-- One more element.
use Rattle.std.proofs.Common.{◌≡◌, ℕ, ◌+◌, ◌<◌, List, [], ◌∷◌, ◌++◌, length, take, get_or, Option, Some, None, refl, sym, ap, ◌∙◌}
use Rattle.std.specs.List.{filter_map, cons_option}
use Rattle.std.specs.Option.{option_to_list}
use Rattle.std.proofs.lemmas.List.{take_more}
use Rattle.std.proofs.lemmas.List.Elements.{filter_map-append}

single : {X : Type 0} (o : Option X) → cons_option o [] ≡ option_to_list o
single None = refl
single (Some x) = refl

pub filter_map_more : {X Y : Type 0} (h : X → Option Y) (xs : List X) (i : ℕ) (d : X) → i < length xs →
    filter_map h (take (i + 1) xs) ≡ filter_map h (take i xs) ++ option_to_list (h (get_or xs i d))
filter_map_more h xs i d lt =
    ap (filter_map h) (take_more xs i d lt) ∙ filter_map-append h (take i xs) (get_or xs i d ∷ []) ∙ ap (λ ys. filter_map h (take i xs) ++ ys) (single (h (get_or xs i d)))

pub filter_map_push : {X Y : Type 0} (h : X → Option Y) (xs : List X) (i : ℕ) (d : X) (ys zs : List Y) (o : Option Y) → i < length xs →
    ys ≡ filter_map h (take i xs) → zs ≡ ys ++ option_to_list o → o ≡ h (get_or xs i d) → zs ≡ filter_map h (take (i + 1) xs)
filter_map_push h xs i d ys zs o lt e p is = p ∙ (λ j. e j ++ option_to_list (is j)) ∙ sym (filter_map_more h xs i d lt)
