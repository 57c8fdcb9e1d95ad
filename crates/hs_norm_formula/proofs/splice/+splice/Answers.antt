use Rattle.std.proofs.Common.{◌≡◌, ◌∙◌, ◌++◌, ◌∷◌, [], sym, ap, subst, OnOk}
use Rattle.std.specs.List.{flat_map}
use Rattle.hs_norm_formula.specs.Splice.{conjuncts}
use Rattle.hs_norm_formula.proofs.Splicing.{and_case, conjuncts-other}
use Rattle.hs_norm_formula.proofs.splice.+splice.Goals as goal

pub splice-returns-in-And : goal.splice-returns-in-And
splice-returns-in-And t c = subst (λ xs. OnOk c.splice_all.result (c.splice_all.new.into ≡ xs)) (and_case c.args.p.now c.in-And.parts c.args.into.now c.in-And.is)
    (subst (λ ps. OnOk c.splice_all.result (c.splice_all.new.into ≡ c.args.into.now ++ flat_map conjuncts ps)) c.as_slice.ensures c.splice_all.ensures)

pub splice-returns : goal.splice-returns
splice-returns t c = c.in_ok-push.ensures.ok ∙ ap (λ x. c.args.into.now ++ x ∷ []) c.in_ok-copy.ensures
    ∙ ap (λ xs. c.args.into.now ++ xs) (sym (conjuncts-other c.args.p.now c.in_default.not-And))
