use denote.Param.Send.{sendable}
use Rattle.std.proofs.Crossing.{crosses}
use Rattle.hs_tree.proofs.ident.Ident.TheSendSync as ident
use Rattle.hs_tree.proofs.method.ParamTree.TheSendSync as param
use Rattle.hs_tree.proofs.method.TypeTree.TheSendSync as type_tree
use Rattle.hs_tree.proofs.source.DataTree.TheSendSync as data_tree
use Rattle.hs_tree.proofs.Threads.{option_expr_send, option_expr_sync, option_items_send, option_items_sync, block_struct_send, block_struct_sync, disjunct_send, disjunct_struct_send, disjunct_struct_sync, disjunct_sync, entail_send, entail_struct_send, entail_struct_sync, entail_sync, formula_send, formula_struct_send, formula_struct_sync, formula_sync, lemma_tree_send, lemma_tree_struct_send, lemma_tree_struct_sync, lemma_tree_sync, method_send, method_struct_send, method_struct_sync, method_sync, pair_send, pair_sync, pred_send, pred_struct_send, pred_struct_sync, pred_sync, source_item_send, source_item_struct_send, source_item_struct_sync, source_item_sync}
use Rattle.hs_tree.proofs.shared.formulas_are_shared.Goals as goal

pub is_shared-requires-send-T : goal.is_shared-requires-send-T
is_shared-requires-send-T c κs = search (sendable, crosses, disjunct_send, disjunct_struct_send) depth 20 fits 5000

pub is_shared-requires-sync-T : goal.is_shared-requires-sync-T
is_shared-requires-sync-T c κs = search (sendable, crosses, disjunct_sync, disjunct_struct_sync) depth 20 fits 5000

pub is_shared-requires-2-send-T : goal.is_shared-requires-2-send-T
is_shared-requires-2-send-T c κs = search (sendable, crosses, option_expr_send, formula_send, formula_struct_send) depth 20 fits 5000

pub is_shared-requires-2-sync-T : goal.is_shared-requires-2-sync-T
is_shared-requires-2-sync-T c κs = search (sendable, crosses, option_expr_sync, formula_sync, formula_struct_sync) depth 20 fits 5000

pub is_shared-requires-3-send-T : goal.is_shared-requires-3-send-T
is_shared-requires-3-send-T c κs = search (sendable, crosses, ident.the_send, param.the_send, type_tree.the_send, pair_send, block_struct_send) depth 20 fits 5000

pub is_shared-requires-3-sync-T : goal.is_shared-requires-3-sync-T
is_shared-requires-3-sync-T c κs = search (sendable, crosses, ident.the_sync, param.the_sync, type_tree.the_sync, pair_sync, block_struct_sync) depth 20 fits 5000

pub is_shared-requires-4-send-T : goal.is_shared-requires-4-send-T
is_shared-requires-4-send-T c κs = search (sendable, crosses, ident.the_send, option_items_send, formula_send, formula_struct_send) depth 20 fits 5000

pub is_shared-requires-4-sync-T : goal.is_shared-requires-4-sync-T
is_shared-requires-4-sync-T c κs = search (sendable, crosses, ident.the_sync, option_items_sync, formula_sync, formula_struct_sync) depth 20 fits 5000

pub is_shared-requires-5-send-T : goal.is_shared-requires-5-send-T
is_shared-requires-5-send-T c κs = search (sendable, crosses, formula_send, formula_struct_send) depth 20 fits 5000

pub is_shared-requires-5-sync-T : goal.is_shared-requires-5-sync-T
is_shared-requires-5-sync-T c κs = search (sendable, crosses, formula_sync, formula_struct_sync) depth 20 fits 5000

pub is_shared-requires-6-send-T : goal.is_shared-requires-6-send-T
is_shared-requires-6-send-T c κs = search (sendable, crosses, data_tree.the_send, pred_send, pred_struct_send, entail_send, entail_struct_send, method_send, method_struct_send, lemma_tree_send, lemma_tree_struct_send) depth 40 fits 50000

pub is_shared-requires-6-sync-T : goal.is_shared-requires-6-sync-T
is_shared-requires-6-sync-T c κs = search (sendable, crosses, data_tree.the_sync, pred_sync, pred_struct_sync, entail_sync, entail_struct_sync, method_sync, method_struct_sync, lemma_tree_sync, lemma_tree_struct_sync) depth 40 fits 50000

pub is_shared-requires-7-send-T : goal.is_shared-requires-7-send-T
is_shared-requires-7-send-T c κs = search (sendable, crosses, source_item_send, source_item_struct_send) depth 20 fits 5000

pub is_shared-requires-7-sync-T : goal.is_shared-requires-7-sync-T
is_shared-requires-7-sync-T c κs = search (sendable, crosses, source_item_sync, source_item_struct_sync) depth 20 fits 5000
