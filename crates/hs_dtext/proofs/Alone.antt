-- Texts that are put together.
use Rattle.std.proofs.Common.{◌≡◌, ℕ, List, [], ◌∷◌, ◌++◌, None, refl, sym, ap, ◌∙◌, append-nil, append_assoc}
use Rattle.std.specs.Prelude.{codes}
use Rattle.hs_heap.specs.declared.formula.Atom.{Atom}
use Rattle.hs_heap.specs.declared.definitions.Defs.{Defs}
use Rattle.hs_print.specs.Lists.{with_signs}
use Rattle.hs_print.specs.Formula.{atoms_text, formula_text}
use Rattle.hs_dtext.specs.Text.{lines_text}

pub atoms_alone : (defs : Defs) (xs : List Atom) → formula_text defs None (record { cases = record { bound = []; atoms = xs; pure = [] } ∷ [] }) ≡ atoms_text defs None xs
atoms_alone defs xs = append-nil (atoms_text defs None xs ++ []) ∙ append-nil (atoms_text defs None xs)

pub each_joined : {A : Type 0} (sign : List ℕ) (text : A → List ℕ) (xs ys : List A) → with_signs sign sign text xs ++ with_signs sign sign text ys ≡ with_signs sign sign text (xs ++ ys)
each_joined sign text [] ys = refl
each_joined sign text (x ∷ xs) ys =
    append_assoc sign (text x ++ with_signs sign sign text xs) (with_signs sign sign text ys)
    ∙ ap (λ l. sign ++ l) (append_assoc (text x) (with_signs sign sign text xs) (with_signs sign sign text ys) ∙ ap (λ l. text x ++ l) (each_joined sign text xs ys))

pub lines_joined : (xs ys : List (List ℕ)) → lines_text (xs ++ ys) ≡ lines_text xs ++ lines_text ys
lines_joined [] ys = refl
lines_joined (x ∷ xs) ys = ap (λ l. x ++ (10 ∷ l)) (lines_joined xs ys) ∙ sym (append_assoc x (10 ∷ lines_text xs) (lines_text ys))

pub two_writes : (old s e whole middle new : List ℕ) → middle ≡ old ++ s → new ≡ middle ++ e → s ++ e ≡ whole → new ≡ old ++ whole
two_writes old s e whole middle new first second joined = second ∙ (ap (λ l. l ++ e) first ∙ (append_assoc old s e ∙ ap (λ l. old ++ l) joined))

pub whole_text : (ns cs : List (List ℕ)) (head nodes claims whole : List ℕ) → head ≡ codes "derivation 1\n" → nodes ≡ head ++ lines_text ns
    → claims ≡ nodes ++ lines_text cs → whole ≡ claims ++ codes "end\n" → whole ≡ lines_text (codes "derivation 1" ∷ (ns ++ (cs ++ codes "end" ∷ [])))
whole_text ns cs head nodes claims whole first second third last =
    let first_line : List ℕ = codes "derivation 1\n" in
    let ends : List (List ℕ) = codes "end" ∷ [] in
    let joined : lines_text (ns ++ (cs ++ ends)) ≡ lines_text ns ++ (lines_text cs ++ lines_text ends) = lines_joined ns (cs ++ ends) ∙ ap (λ t. lines_text ns ++ t) (lines_joined cs ends) in
    last
    ∙ (ap (λ t. t ++ codes "end\n") (third ∙ ap (λ t. t ++ lines_text cs) (second ∙ ap (λ t. t ++ lines_text ns) first))
    ∙ (append_assoc (first_line ++ lines_text ns) (lines_text cs) (lines_text ends)
    ∙ (append_assoc first_line (lines_text ns) (lines_text cs ++ lines_text ends) ∙ ap (λ t. first_line ++ t) (sym joined))))
