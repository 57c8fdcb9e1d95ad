use Rattle.hs_report_laws.proofs.Derivations.{accepted_texts}
use Rattle.hs_report_laws.proofs.laws.accepted_texts_prove.Goals as goal

pub returns : goal.returns
returns c =
    accepted_texts c.definitions_are_sound.ensures c.sources_are_lowerable.ensures c.lowered_programs_are_sound.ensures
    c.listed_entailments_hold.ensures c.listed_pairs_are_safe.ensures
