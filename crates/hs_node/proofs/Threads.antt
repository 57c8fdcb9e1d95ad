-- Which types of derivations may go to another thread and be read by several.
use denote.Struct.Declared.{shape}
use denote.Param.Send.{IsSend, IsSync, sendable, recorded_send, recorded_sync, struct_send, struct_sync}
use Rattle.std.proofs.Crossing.{crosses}
use Rattle.hs_pure.proofs.var.Var.TheSendSync as var
use Rattle.hs_pure.proofs.bag.Bag.TheLaws.TheKnot as bags
use Rattle.hs_pure.proofs.pure.Pure.TheLaws.TheKnot as pures
use Rattle.hs_heap.proofs.formula.Atom.TheSendSync as atom
use Rattle.hs_heap.specs.contracts.formula.Formula as Formula
use Rattle.hs_goal.specs.contracts.goal.Goal as Goal
use Rattle.hs_core.specs.contracts.state.At as At
use Rattle.hs_node.specs.contracts.judgement.Judgement as Judgement
use Rattle.hs_node.specs.contracts.judgement.Rule as Rule
use Rattle.hs_node.specs.contracts.derivation.Node as Node

formula_send : IsSend (Formula.the_field).row
formula_send = search (sendable, crosses, var.the_send, atom.the_send, bags.crosses, pures.crosses) depth 60 fits 50000

formula_sync : IsSync (Formula.the_field).row
formula_sync = search (sendable, crosses, var.the_sync, atom.the_sync, bags.crosses, pures.crosses) depth 60 fits 50000

goal_send : IsSend (Goal.the_field).row
goal_send = search (sendable, crosses, var.the_send, atom.the_send, bags.crosses, pures.crosses) depth 60 fits 50000

goal_sync : IsSync (Goal.the_field).row
goal_sync = search (sendable, crosses, var.the_sync, atom.the_sync, bags.crosses, pures.crosses) depth 60 fits 50000

at_send : IsSend (At.the_field).row
at_send = search (sendable, crosses, var.the_send, atom.the_send, bags.crosses, pures.crosses) depth 60 fits 50000

at_sync : IsSync (At.the_field).row
at_sync = search (sendable, crosses, var.the_sync, atom.the_sync, bags.crosses, pures.crosses) depth 60 fits 50000

judgement_send : IsSend (Judgement.the_field).row
judgement_send = search (sendable, crosses, formula_send, goal_send, at_send) depth 60 fits 50000

judgement_sync : IsSync (Judgement.the_field).row
judgement_sync = search (sendable, crosses, formula_sync, goal_sync, at_sync) depth 60 fits 50000

rule_send : IsSend (Rule.the_field).row
rule_send = search (sendable, crosses, var.the_send, bags.crosses, pures.crosses) depth 60 fits 50000

rule_sync : IsSync (Rule.the_field).row
rule_sync = search (sendable, crosses, var.the_sync, bags.crosses, pures.crosses) depth 60 fits 50000

node_struct_send : IsSend (Node.the_field).row
node_struct_send = struct_send (shape Node.the_type) (search (sendable, crosses, judgement_send) depth 20 fits 5000, (search (sendable, crosses, rule_send) depth 20 fits 5000, (search (sendable, crosses) depth 20 fits 5000, tt)))

pub node_send : IsSend Node.the_row
node_send = recorded_send _ _ _ (Node.the_type).to_one node_struct_send

node_struct_sync : IsSync (Node.the_field).row
node_struct_sync = struct_sync (shape Node.the_type) (search (sendable, crosses, judgement_sync) depth 20 fits 5000, (search (sendable, crosses, rule_sync) depth 20 fits 5000, (search (sendable, crosses) depth 20 fits 5000, tt)))

pub node_sync : IsSync Node.the_row
node_sync = recorded_sync _ _ _ (Node.the_type).to_one node_struct_sync
