use Rattle.std.proofs.Common.{◌≡◌, take}
use Rattle.hs_erule.specs.Judged.{residues_of}
use Rattle.hs_erule.proofs.judge.residues.Given as goal

abbrev pub invariant-loop-premise : goal.invariant-loop-premise
invariant-loop-premise l = l.all ≡ residues_of (take l.premise-index l.premises)
