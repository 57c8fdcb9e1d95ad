use Rattle.std.proofs.Common.{◌≡◌, [], ◌∷◌, IfOk, sym, ap, ◌∙◌, subst}
use Rattle.std.specs.List.{flat_map}
use Rattle.hs_program_rules.specs.Parts.{conjuncts}
use Rattle.hs_program_parts.proofs.Flat.{conjuncts-And, conjuncts-other}
use Rattle.hs_program_parts.proofs.flattening.+flattened.Goals as goal

pub conjuncts-returns-in-And : goal.conjuncts-returns-in-And
conjuncts-returns-in-And t c =
    subst (λ q. IfOk c.all_conjuncts.result (λ all. all ≡ q)) (ap (flat_map conjuncts) c.as_slice.ensures ∙ sym (ap conjuncts c.in-And.is ∙ conjuncts-And c.in-And.ps)) c.all_conjuncts.ensures

pub conjuncts-returns-in_default : goal.conjuncts-returns-in_default
conjuncts-returns-in_default t c =
    subst (λ q. IfOk c.alone.result (λ all. all ≡ q)) (sym (conjuncts-other c.args.p.now c.in_default.not-And)) c.alone.ensures
