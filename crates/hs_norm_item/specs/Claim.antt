-- The numbering of one claim after another.
use Rattle.std.specs.Prelude.{ℕ, Bool, true, false, List, [], map, Option, Some}
use Rattle.hs_pure.specs.declared.var.Var.{Var}
use Rattle.hs_numbering.specs.declared.numbering.Reading.{Reading}
use Rattle.hs_numbering.specs.Numbering.{Builder, pure, start, next, give, fix, learn, self_name, res_name}

-- a claim of its own, with the faults of those before it
abbrev pub begin : Reading → Builder (Unit {0})
begin reading = λ n. (tt, start reading n.faults)

-- `self` as the first number, which no binder may have
abbrev pub fix_self : ℕ → Builder Var
fix_self at = fix (record { text = self_name; at = at })

-- the number of `res`, which is not known yet
abbrev pub reserve : ℕ → Builder Var
reserve at = give (Some res_name) at false

-- `res` is known from here on, where there is a result
abbrev pub learn_res : Bool → ℕ → Var → Builder (Unit {0})
learn_res true at v = learn (record { text = res_name; at = at }) v
learn_res false at v = pure tt

-- the variables of the names that are free, by rising number
abbrev pub known_vars : Builder (List Var)
known_vars = λ n. (map (λ m. m.var) n.known, n)

abbrev pub next_number : Builder ℕ
next_number = λ n. (next n, n)

abbrev pub take_names : Builder (List (Option (List ℕ)))
take_names = λ n. (n.names, record n { names = [] })
