-- Slots that are read one after another, beside a loop that counts up.
use Rattle.std.proofs.Common.{◌≡◌, ℕ, suc, ◌+◌, ◌-◌, ◌<◌, false, if◌then◌else◌, List, [], ◌∷◌, ◌++◌, Option, Ok, Err, ap, ◌∙◌, arith}
use Rattle.hs_pure.specs.declared.var.Var.{Var}
use Rattle.hs_line.specs.declared.fault.Fault.{Fault}
use Rattle.hs_line.specs.Steps.{on_ok}
use Rattle.hs_line.specs.Scan.{is_over, slot, slots_up_to}

pub one_more : {X : Type 0} {x : X} (f : ℕ → X) (n at : ℕ) → at < n → x ≡ f (n - at) → x ≡ f (suc (n - (at + 1)))
one_more f n at below e = let turn : n - at ≡ suc (n - (at + 1)) = omega arith in e ∙ ap f turn

pub slot_next : (n : ℕ) (found : List (Option Var)) (rest : List ℕ) (s : Option Var) (after : List ℕ) → is_over rest ≡ false → slot rest ≡ Ok (s, after)
    → slots_up_to (suc n) found rest ≡ slots_up_to n (found ++ s ∷ []) after
slot_next n found rest s after some e =
    (λ i. if some i then Ok found else on_ok (slot rest) (λ r. slots_up_to n (found ++ r.0 ∷ []) r.1)) ∙ ap (λ o. on_ok o (λ r. slots_up_to n (found ++ r.0 ∷ []) r.1)) e

pub slot_stop : (n : ℕ) (found : List (Option Var)) (rest : List ℕ) (e : Fault) → is_over rest ≡ false → slot rest ≡ Err e → slots_up_to (suc n) found rest ≡ Err e
slot_stop n found rest e some h =
    (λ i. if some i then Ok found else on_ok (slot rest) (λ r. slots_up_to n (found ++ r.0 ∷ []) r.1)) ∙ ap (λ o. on_ok o (λ r. slots_up_to n (found ++ r.0 ∷ []) r.1)) h
