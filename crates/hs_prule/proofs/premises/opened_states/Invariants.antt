use Rattle.std.proofs.Common.{◌≡◌, take}
use Rattle.hs_program_rules.specs.Table.{AreLow}
use Rattle.hs_prule.specs.After.{all_opened}
use Rattle.hs_prule.proofs.premises.opened_states.Given as goal

abbrev pub invariant-loop-d : goal.invariant-loop-d
invariant-loop-d l = record {
  states : l.states ≡ all_opened l.at (take l.d-index l.cases);
  low : AreLow (all_opened l.at (take l.d-index l.cases));
}
