use Rattle.hs_report_laws.proofs.Derivations.{written_proofs}
use Rattle.hs_report_laws.proofs.laws.written_proofs_are_right.Goals as goal

pub returns : goal.returns
returns c = written_proofs c.methods_are_kept.ensures c.proved_texts_are_right.ensures
