-- Binders in the numbered form.
use Rattle.std.proofs.Common.{◌≡◌, ℕ, ◌-◌, nat_eq, false, ◌||◌, List, [], ◌∷◌, ◌++◌, length, length-append, map, refl, ap, ◌∙◌, arith}
use Rattle.std.specs.Bool.{IsTrue}
use Rattle.std.proofs.lemmas.Bool.Decides.{nat_tests}
use Rattle.std.proofs.lemmas.List.{take_at}
use Rattle.hs_tree.specs.declared.ident.Ident.{Ident}
use Rattle.hs_pure.specs.declared.var.Var.{Var}
use Rattle.hs_numbering.specs.declared.numbering.Named.{Named}
use Rattle.hs_numbering.specs.declared.numbering.Numbering.{Numbering}
use Rattle.hs_numbering.specs.Names.{numbered_var}
use Rattle.hs_numbering.specs.Numbering.{◌>>=◌, ◌>>◌, pure, blame_twice, enter, bind, bind_read, leave}
use Rattle.hs_numbering.specs.Numbering as numbering
use Rattle.hs_norm_formula.specs.Sum.{blame_kind}
use Rattle.hs_norm_formula.specs.Item.{bind_number}
use Rattle.hs_written.specs.Writable.{has_number, is_among}
use Rattle.hs_written.specs.Written.{Names}
use Rattle.hs_written.proofs.Names.{numbered_var-text}
use Rattle.hs_written.proofs.State.{inside}

-- the numbers of these binders
abbrev pub numbers : List Named → List ℕ
numbers around = map (λ m. m.var.number) around

-- the binder that a name of a variable makes
abbrev pub entered : Ident → Var → Named
entered x v = record { name = x.text; var = v }

same_number : (m n : ℕ) → nat_eq m n ≡ nat_eq n m
same_number m n = grind (arith, nat_tests)

has_number-among : (k : ℕ) (around : List Named) → numbering.has_number k around ≡ is_among k (numbers around)
has_number-among k [] = refl
has_number-among k (m ∷ around) = λ j. same_number m.var.number k j || has_number-among k around j

pub bind-numbered : (v : Var) (x : Ident) (around : List Named) → IsTrue (has_number v) → is_among v.number (numbers around) ≡ false → Names v x →
    bind x (inside around) ≡ (v, inside (around ++ entered x v ∷ []))
unfolding bind
bind-numbered v x around h free is =
    ap (λ o. bind_read x o (inside around)) (ap numbered_var is ∙ numbered_var-text v h)
    ∙ ap (λ b. (blame_twice x b >> (enter x v >> pure v)) (inside around)) (has_number-among v.number around ∙ free)

pub bind_number-numbered : (v : Var) (x : Ident) (around : List Named) → IsTrue (has_number v) → v.bag ≡ false → is_among v.number (numbers around) ≡ false → Names v x →
    bind_number x (inside around) ≡ (v, inside (around ++ entered x v ∷ []))
unfolding bind_number
bind_number-numbered v x around h kind free is =
    ap (λ (z : Var × Numbering). (blame_kind x.at z.0.bag >> pure z.0) z.1) (bind-numbered v x around h free is)
    ∙ ap (λ b. (blame_kind x.at b >> pure v) (inside (around ++ entered x v ∷ []))) kind

pub leave-entered : (around : List Named) (m : Named) → leave (inside (around ++ m ∷ [])) ≡ (tt, inside around)
unfolding leave
leave-entered around m = let e : length around ≡ length (around ++ m ∷ []) - 1 = omega (arith, length-append around (m ∷ [])) in λ j. (tt, inside (take_at around (m ∷ []) (length (around ++ m ∷ []) - 1) e j))
