use Rattle.std.proofs.Common.{◌≡◌, true, sym, ◌∙◌}
use Rattle.hs_tool.specs.Served.{is_served}
use Rattle.hs_tool.proofs.NormalForms.{normal_form, its_program}
use Rattle.hs_tool.proofs.served.served_source.Goals as goal

pub returns-then-is_served-clause-found : goal.returns-then-is_served-clause-found
returns-then-is_served-clause-found c =
    let r = c.in_ok-resolved.resolved in
    let found = c.in_ok-resolved.ensures.found in
    let served : is_served r ≡ true = sym c.is_served.ensures ∙ c.if-is_served.true in
    record {
      founded = found;
      served = record { faultless = found.faultless; lowered = c.in-Ok.ensures.found; served = served };
      normal = normal_form c.definitions_are_sound.ensures c.goals_are_well_formed.ensures c.goals_have_disjuncts.ensures c.entailments_are_goals.ensures
          c.args.bytes.now r c.requires.few found served;
      program = its_program c.sources_are_lowerable.ensures c.lowered_programs_are_sound.ensures c.lowered_programs_are_set.ensures c.methods_are_kept.ensures
          c.args.bytes.now r c.in-Ok.program found c.in-Ok.ensures.found;
    }
