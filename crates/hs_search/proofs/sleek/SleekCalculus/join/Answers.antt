use Rattle.std.proofs.Common.{◌∙◌, ap, map, List}
use Rattle.hs_erule.specs.declared.step.Proof.{Proof}
use Rattle.hs_steps.specs.Joined.{residue_shown}
use Rattle.hs_search.proofs.Opened.{has_residue}
use Rattle.hs_search.proofs.sleek.SleekCalculus.join.Goals as goal

pub residue-requires : goal.residue-requires
residue-requires c = record {
  step = has_residue c.choices_have_conditions.ensures c.args.self.now.defs.now c.args.self.now.limits c.args.goal c.args.rule c.args.parts.items c.as_slice.result.now c.requires
      (c.as_slice.ensures ∙ c.in_ok-rests.ensures ∙ ap (λ (ps : List Proof). map residue_shown ps) c.deref.ensures.value);
}
