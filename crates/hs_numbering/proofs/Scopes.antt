-- What is kept under each name of a list, as names come and go.
use Rattle.std.proofs.Common.{◌≡◌, ℕ, ◌-◌, ◌++◌, Bool, true, false, if◌then◌else◌, List, [], ◌∷◌, length, take, get_or, Option, None, Some, Result, Ok, Err, refl, sym, ap, ◌∙◌, arith, append_assoc}
use Rattle.std.specs.Prelude.{MatchOption, OnErr}
use Rattle.std.specs.List.{slice_get, fold}
use Rattle.std.specs.Str.{bytes_eq}
use Rattle.std.proofs.lemmas.List.{append-nil, length-append}
use Rattle.std.proofs.lemmas.Option.{slice_get-get_or}
use Rattle.std.proofs.Math.Seq.{take-append_seam}
use Rattle.hs_pure.specs.declared.var.Var.{Var}
use Rattle.hs_numbering.specs.declared.numbering.Named.{Named}
use Rattle.hs_numbering.specs.Numbering.{last_named}
use Rattle.hs_numbering.specs.Scope.{here, named, kept, front, left, last_or}

-- ---- the last one

last_get : (d v : Var) (vs : List Var) → last_or (Some v) vs ≡ Some (get_or (v ∷ vs) (length vs) d)
last_get d v [] = refl
last_get d v (w ∷ vs) = last_get d w vs

pub last_is_last : (vs : List Var) → last_or None vs ≡ slice_get vs (length vs - 1)
last_is_last [] = refl
last_is_last (v ∷ vs) =
    let e : length (v ∷ vs) - 1 ≡ length vs = omega arith in
    last_get v v vs ∙ sym (slice_get-get_or (v ∷ vs) (length vs) v (omega arith)) ∙ λ i. slice_get (v ∷ vs) (sym e i)

abbrev find : List ℕ → Option Var → List Named → Option Var
find q = fold (λ found m. if bytes_eq q m.name then Some m.var else found)

last_found : (q : List ℕ) (ms : List Named) (found : Option Var) → last_or found (named q ms) ≡ find q found ms
last_found q [] found = refl
last_found q (m ∷ ms) found = of (bytes_eq q m.name) (last_found q ms (Some m.var)) (last_found q ms found)
  where
    of : (b : Bool) → last_or (Some m.var) (named q ms) ≡ find q (Some m.var) ms → last_or found (named q ms) ≡ find q found ms →
        last_or found ((if b then m.var ∷ [] else []) ++ named q ms) ≡ find q (if b then Some m.var else found) ms
    of true h k = h
    of false h k = k

pub last_of_named : (q : List ℕ) (ms : List Named) → last_or None (named q ms) ≡ last_named q ms
last_of_named q ms = last_found q ms None

-- ---- one more, one less

pub named_push : (q : List ℕ) (ms : List Named) (m : Named) → named q (ms ++ m ∷ []) ≡ named q ms ++ here q m.name m.var
named_push q [] m = append-nil (here q m.name m.var)
named_push q (x ∷ ms) m = ap (λ (vs : List Var). here q x.name x.var ++ vs) (named_push q ms m) ∙ sym (append_assoc (here q x.name x.var) (named q ms) (here q m.name m.var))

pub front_push : {A : Type 0} (vs : List A) (v : A) → take (length (vs ++ v ∷ []) - 1) (vs ++ v ∷ []) ≡ vs
front_push vs v = let e : length (vs ++ v ∷ []) - 1 ≡ length vs = omega (arith, length-append vs (v ∷ [])) in (λ i. take (e i) (vs ++ v ∷ [])) ∙ take-append_seam vs (v ∷ [])

pub left_push : (q name : List ℕ) (vs : List Var) (v : Var) → left q name (vs ++ here q name v) ≡ vs
left_push q name vs v = of (bytes_eq q name)
  where
    of : (b : Bool) → (if b then front (vs ++ (if b then v ∷ [] else [])) else vs ++ (if b then v ∷ [] else [])) ≡ vs
    of true = front_push vs v
    of false = append-nil vs

-- ---- what is kept, after a change at one name

pub kept_push : (b : Bool) (old new : Option (List Var)) (all now : List Var) (v : Var) → (b ≡ true → kept old ≡ all) → new ≡ (if b then Some now else old) →
    now ≡ all ++ v ∷ [] → kept new ≡ kept old ++ (if b then v ∷ [] else [])
kept_push true old new all now v was is more = ap kept is ∙ more ∙ λ i. sym (was refl) i ++ v ∷ []
kept_push false old new all now v was is more = ap kept is ∙ sym (append-nil (kept old))

pub kept_front : (b : Bool) (old new : Option (List Var)) (all now : List Var) → (b ≡ true → kept old ≡ all) → new ≡ (if b then Some now else old) →
    now ≡ front all → kept new ≡ (if b then front (kept old) else kept old)
kept_front true old new all now was is less = ap kept is ∙ less ∙ λ i. front (sym (was refl) i)
kept_front false old new all now was is less = ap kept is

pub popped : {A : Type 0} (r : Option A) (old new : List A) → MatchOption r ((old ≡ []) × (new ≡ [])) (λ last. old ≡ new ++ last ∷ []) → new ≡ take (length old - 1) old
popped None old new h = h.1 ∙ λ i. take (length (sym h.0 i) - 1) (sym h.0 i)
popped (Some last) old new h = sym (front_push new last) ∙ λ i. take (length (sym h i) - 1) (sym h i)

pub on_err : {A E P : Type 0} (r : Result A E) → P → OnErr r P
on_err (Ok a) p = tt
on_err (Err e) p = p
