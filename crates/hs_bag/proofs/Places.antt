-- Places in lists, as loops find them.
use Rattle.std.proofs.Common.{◌≡◌, ℕ, ◌+◌, ◌<◌, ◌≤◌, false, true, List, length, get_or, drop, refl, sym, ap, ◌∙◌, arith}
use Rattle.std.proofs.lemmas.List.{drop_more, drop_all}
use Rattle.hs_pure.specs.declared.var.Var.{Var}
use Rattle.hs_pure.specs.declared.lin.Lin.{Lin}
use Rattle.hs_pure.specs.Stack.{same}
use Rattle.hs_elimination.specs.Linear.{same_lin}
use Rattle.hs_reduction.specs.Layout.{lin_place, name_place}

pub lin_place_here : (a : Lin) (bs : List Lin) (i : ℕ) (b : Lin) → i < length bs → b ≡ get_or bs i b → same_lin a b ≡ true → lin_place a (drop i bs) ≡ 0
lin_place_here a bs i b h e is =
    let here : same_lin a (get_or bs i b) ≡ true = ap (same_lin a) (sym e) ∙ is in
    rw (drop_more bs i b h) (rw here refl)

pub lin_place_next : (a : Lin) (bs : List Lin) (i : ℕ) (b : Lin) → i < length bs → b ≡ get_or bs i b → same_lin a b ≡ false → lin_place a (drop i bs) ≡ lin_place a (drop (i + 1) bs) + 1
lin_place_next a bs i b h e isnt =
    let here : same_lin a (get_or bs i b) ≡ false = ap (same_lin a) (sym e) ∙ isnt in
    rw (drop_more bs i b h) (rw here (omega arith))

pub lin_place_end : (a : Lin) (bs : List Lin) (i : ℕ) → length bs ≤ i → lin_place a (drop i bs) ≡ 0
lin_place_end a bs i h = rw (drop_all i bs h) refl

pub name_place_here : (v : Var) (ws : List Var) (i : ℕ) (w : Var) → i < length ws → w ≡ get_or ws i w → same w v ≡ true → name_place v (drop i ws) ≡ 0
name_place_here v ws i w h e is =
    let here : same (get_or ws i w) v ≡ true = ap (λ x. same x v) (sym e) ∙ is in
    rw (drop_more ws i w h) (rw here refl)

pub name_place_next : (v : Var) (ws : List Var) (i : ℕ) (w : Var) → i < length ws → w ≡ get_or ws i w → same w v ≡ false → name_place v (drop i ws) ≡ name_place v (drop (i + 1) ws) + 1
name_place_next v ws i w h e isnt =
    let here : same (get_or ws i w) v ≡ false = ap (λ x. same x v) (sym e) ∙ isnt in
    rw (drop_more ws i w h) (rw here (omega arith))

pub name_place_end : (v : Var) (ws : List Var) (i : ℕ) → length ws ≤ i → name_place v (drop i ws) ≡ 0
name_place_end v ws i h = rw (drop_all i ws h) refl
