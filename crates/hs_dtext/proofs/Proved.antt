-- The text of a derivation is that of its nodes and its claims, of which none is open.
use Rattle.std.proofs.Common.{◌≡◌, ℕ, List, [], ◌∷◌, ◌++◌, map, refl, ap}
use Rattle.std.specs.Prelude.{codes}
use Rattle.hs_heap.specs.declared.definitions.Defs.{Defs}
use Rattle.hs_node.specs.declared.derivation.Derivation.{Derivation}
use Rattle.hs_dtext.specs.Text.{node_lines, claim_text, claim_lines, all_claim_lines, lines_text, derivation_text, proved_text, shown, shown_claims}

pub claim_lines-shown : (cs : List (ℕ × ℕ)) → claim_lines cs ≡ all_claim_lines (map shown cs)
claim_lines-shown [] = refl
claim_lines-shown (c ∷ cs) = ap (λ l. claim_text c ∷ l) (claim_lines-shown cs)

pub derivation_text-proved : (defs : Defs) (d : Derivation) → derivation_text defs d ≡ proved_text defs d.nodes (map shown d.claims)
derivation_text-proved defs d =
    ap (λ l. lines_text (codes "derivation 1" ∷ (node_lines defs 1 d.nodes ++ (l ++ codes "end" ∷ [])))) (claim_lines-shown d.claims)

pub shown_claims-shown : (cs : List (ℕ × ℕ)) → shown_claims (map shown cs) ≡ cs
shown_claims-shown [] = refl
shown_claims-shown (c ∷ cs) = ap (λ l. c ∷ l) (shown_claims-shown cs)
