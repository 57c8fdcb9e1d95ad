-- The open variables that occur free in formulas, one by one.
use Rattle.std.proofs.Common.{◌≡◌, ◌≤◌, true, false, List, [], ◌∷◌, ◌-◌, length, get_or, take, drop, refl, sym, ap, ◌∙◌, arith}
use Rattle.std.specs.List.{list_any}
use Rattle.std.proofs.lemmas.List.{take_all}
use Rattle.hs_pure.specs.declared.var.Var.{Var}
use Rattle.hs_pure.specs.declared.pure.Pure.{Pure}
use Rattle.hs_pure.specs.Occurs.{is_free}
use Rattle.hs_rules.specs.Questions.{open_in}

pub open_in_there : (v : Var) (vs : List Var) (ps : List Pure) → list_any (is_free v) ps ≡ true → open_in (v ∷ vs) ps ≡ v ∷ open_in vs ps
open_in_there v vs ps e = rw e refl

pub open_in_absent : (v : Var) (vs : List Var) (ps : List Pure) → list_any (is_free v) ps ≡ false → open_in (v ∷ vs) ps ≡ open_in vs ps
open_in_absent v vs ps e = rw e refl

-- what follows the first one
abbrev rest_of : List Var → List Var
rest_of vs = take (length vs - 1) (drop 1 vs)

pub open_in_skipped : (vs : List Var) (ps : List Pure) (d : Var) → 1 ≤ length vs → list_any (is_free (get_or vs 0 d)) ps ≡ false → open_in vs ps ≡ open_in (rest_of vs) ps
open_in_skipped [] ps d some e = absurd (omega arith)
open_in_skipped (v ∷ vs) ps d some e =
    let all : take (length (v ∷ vs) - 1) vs ≡ vs = take_all (length (v ∷ vs) - 1) vs (omega arith) in
    open_in_absent v vs ps e ∙ ap (λ ws. open_in ws ps) (sym all)
