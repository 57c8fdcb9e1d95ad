use Rattle.std.proofs.Common.{◌<◌, ◌^◌, List, length, sym, subst}
use Rattle.hs_node.specs.declared.claim.Claim.{Claim}
use Rattle.hs_judge.proofs.Ready.{sound_test, program_test}
use Rattle.hs_judge.proofs.checking.check.Goals as goal

pub invariant_of-listing : goal.invariant_of-listing
invariant_of-listing g c = record {
  sound = sound_test c.args.resolved.now.defs c.requires.sound;
  sound_program = program_test c.args.resolved.now.defs c.args.program.now c.requires.program;
  small = c.requires.small;
  few = subst (λ (all : List Claim). length all < 2 ^ 32) (sym c.as_slice.ensures) c.in_ok-claims.ensures.few;
}
