-- Loops that build.
use Rattle.std.proofs.Common.{◌≡◌, ℕ, ◌+◌, ◌<◌, List, [], ◌∷◌, ◌++◌, length, take, get_or, Option, Some, None, refl, sym, ap, ◌∙◌}
use Rattle.std.specs.List.{filter_map, fold}
use Rattle.std.specs.Option.{option_to_list}
use Rattle.std.proofs.lemmas.List.Sums.{fold-append}
use Rattle.hs_numbering.specs.declared.numbering.Numbering.{Numbering}
use Rattle.hs_numbering.specs.Numbering.{Builder, each_counted}
use Rattle.hs_norm.specs.Normal.{add_some}
use Rattle.hs_declared.proofs.Lists.{filter_map_more}

module _ {X A B : Type 0} (f : ℕ → A → Builder B) (h : X → Option A) where
  abbrev step : List B × Numbering → A → List B × Numbering
  step done x = (done.0 ++ (f (length done.0) x done.1).0 ∷ [], (f (length done.0) x done.1).1)

  at_most_one : (o : Option A) (done : List B × Numbering) → fold step done (option_to_list o) ≡ add_some f o done
  at_most_one None done = refl
  at_most_one (Some x) done = refl

  -- one more is built, if there is one
  pub added : (xs : List X) (i : ℕ) (d : X) (n0 : Numbering) (old new : List B × Numbering) → i < length xs →
      old ≡ each_counted f (filter_map h (take i xs)) n0 → new ≡ add_some f (h (get_or xs i d)) old → new ≡ each_counted f (filter_map h (take (i + 1) xs)) n0
  added xs i d n0 old new lt e is =
      is ∙ ap (add_some f (h (get_or xs i d))) e ∙ sym (at_most_one (h (get_or xs i d)) (each_counted f (filter_map h (take i xs)) n0))
      ∙ sym (fold-append step ([], n0) (filter_map h (take i xs)) (option_to_list (h (get_or xs i d))))
      ∙ ap (fold step ([], n0)) (sym (filter_map_more h xs i d lt))
