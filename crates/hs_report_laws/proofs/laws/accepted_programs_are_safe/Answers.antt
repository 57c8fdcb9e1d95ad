use Rattle.hs_report_laws.proofs.Hips.{accepted_programs}
use Rattle.hs_report_laws.proofs.laws.accepted_programs_are_safe.Goals as goal

pub returns : goal.returns
returns c =
    accepted_programs c.definitions_are_sound.ensures c.sources_are_lowerable.ensures c.lowered_programs_are_sound.ensures c.methods_are_kept.ensures
    c.shown_invariants_hold.ensures c.accepted_pairs_are_safe.ensures
