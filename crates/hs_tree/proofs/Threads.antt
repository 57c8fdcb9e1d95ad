-- Which types of trees may go to another thread and be read by several.
use denote.Struct.Declared.{shape}
use denote.Param.Send.{IsSend, IsSync, sendable, recorded_send, recorded_sync, struct_send, struct_sync}
use Rattle.std.proofs.Crossing.{crosses}
use Rattle.hs_tree.proofs.ident.Ident.TheSendSync as ident
use Rattle.hs_tree.proofs.expr.ExprKind.TheLaws.TheKnot as exprs
use Rattle.hs_tree.proofs.item.ItemKind.TheLaws.TheKnot as item_knot
use Rattle.hs_tree.proofs.method.ParamTree.TheSendSync as param
use Rattle.hs_tree.proofs.method.TypeTree.TheSendSync as type_tree
use Rattle.hs_tree.proofs.source.DataTree.TheSendSync as data_tree
use Rattle.hs_tree.proofs.method.StatementKind.TheLaws.TheKnot as block_knot
use Rattle.hs_tree.proofs.method.TestKind.TheLaws.TheKnot as test_knot
use Rattle.hs_tree.proofs.expr.PartTree.TheSendSync as part
use Rattle.hs_tree.proofs.item.RelTree.TheSendSync as rel
use Rattle.std.specs.contracts.option.Option as Option
use Rattle.sqlite_items.specs.contracts.items.Items as Items
use Rattle.hs_tree.specs.contracts.expr.ExprTree as ExprTree
use Rattle.hs_tree.specs.contracts.item.ItemTree as ItemTree
use Rattle.hs_tree.specs.contracts.formula.ArgTree as ArgTree
use Rattle.hs_tree.specs.contracts.formula.AtomTree as AtomTree
use Rattle.hs_tree.specs.contracts.formula.DisjunctTree as DisjunctTree
use Rattle.hs_tree.specs.contracts.formula.FormulaTree as FormulaTree
use Rattle.hs_tree.specs.contracts.method.BlockTree as BlockTree
use Rattle.hs_tree.specs.contracts.method.PairSource as PairSource
use Rattle.hs_tree.specs.contracts.method.MethodSource as MethodSource
use Rattle.hs_tree.specs.contracts.source.PredTree as PredTree
use Rattle.hs_tree.specs.contracts.source.EntailTree as EntailTree
use Rattle.hs_tree.specs.contracts.source.LemmaTree as LemmaTree
use Rattle.hs_tree.specs.contracts.source.SourceItem as SourceItem
use Rattle.hs_tree.specs.contracts.source.Source as Source

pub arg_send : IsSend ArgTree.the_row
arg_send = search (sendable, crosses, part.the_send, exprs.crosses) depth 40 fits 20000

pub arg_sync : IsSync ArgTree.the_row
arg_sync = search (sendable, crosses, part.the_sync, exprs.crosses) depth 40 fits 20000

pub atom_send : IsSend AtomTree.the_row
atom_send = search (sendable, crosses, exprs.crosses, arg_send) depth 40 fits 20000

pub atom_sync : IsSync AtomTree.the_row
atom_sync = search (sendable, crosses, exprs.crosses, arg_sync) depth 40 fits 20000

pub disjunct_struct_send : IsSend (DisjunctTree.the_field).row
disjunct_struct_send = struct_send (shape DisjunctTree.the_type) (search (sendable, crosses, ident.the_send) depth 20 fits 5000, (search (sendable, crosses, atom_send) depth 20 fits 5000, (search (sendable, crosses, part.the_send, exprs.crosses, item_knot.crosses) depth 20 fits 5000, (search (sendable, crosses) depth 20 fits 5000, tt))))

pub disjunct_send : IsSend DisjunctTree.the_row
disjunct_send = recorded_send _ _ _ (DisjunctTree.the_type).to_one disjunct_struct_send

pub disjunct_struct_sync : IsSync (DisjunctTree.the_field).row
disjunct_struct_sync = struct_sync (shape DisjunctTree.the_type) (search (sendable, crosses, ident.the_sync) depth 20 fits 5000, (search (sendable, crosses, atom_sync) depth 20 fits 5000, (search (sendable, crosses, part.the_sync, exprs.crosses, item_knot.crosses) depth 20 fits 5000, (search (sendable, crosses) depth 20 fits 5000, tt))))

pub disjunct_sync : IsSync DisjunctTree.the_row
disjunct_sync = recorded_sync _ _ _ (DisjunctTree.the_type).to_one disjunct_struct_sync

pub formula_struct_send : IsSend (FormulaTree.the_field).row
formula_struct_send = struct_send (shape FormulaTree.the_type) (search (sendable, crosses, disjunct_send, disjunct_struct_send) depth 20 fits 5000, (search (sendable, crosses) depth 20 fits 5000, tt))

pub formula_send : IsSend FormulaTree.the_row
formula_send = recorded_send _ _ _ (FormulaTree.the_type).to_one formula_struct_send

pub formula_struct_sync : IsSync (FormulaTree.the_field).row
formula_struct_sync = struct_sync (shape FormulaTree.the_type) (search (sendable, crosses, disjunct_sync, disjunct_struct_sync) depth 20 fits 5000, (search (sendable, crosses) depth 20 fits 5000, tt))

pub formula_sync : IsSync FormulaTree.the_row
formula_sync = recorded_sync _ _ _ (FormulaTree.the_type).to_one formula_struct_sync

pub option_expr_send : IsSend (Option.the_field ExprTree.the_row).row
option_expr_send = search (sendable, crosses, part.the_send, exprs.crosses) depth 40 fits 20000

pub option_expr_sync : IsSync (Option.the_field ExprTree.the_row).row
option_expr_sync = search (sendable, crosses, part.the_sync, exprs.crosses) depth 40 fits 20000

pub option_items_send : IsSend (Option.the_field (Items.the_row ItemTree.the_row)).row
option_items_send = search (sendable, crosses, part.the_send, exprs.crosses, item_knot.crosses) depth 40 fits 20000

pub option_items_sync : IsSync (Option.the_field (Items.the_row ItemTree.the_row)).row
option_items_sync = search (sendable, crosses, part.the_sync, exprs.crosses, item_knot.crosses) depth 40 fits 20000

pub pair_struct_send : IsSend (PairSource.the_field).row
pair_struct_send = struct_send (shape PairSource.the_type) (search (sendable, crosses, formula_send, formula_struct_send) depth 20 fits 5000, (search (sendable, crosses, ident.the_send, part.the_send, exprs.crosses) depth 20 fits 5000, (search (sendable, crosses, formula_send, formula_struct_send) depth 20 fits 5000, (search (sendable, crosses) depth 20 fits 5000, tt))))

pub pair_send : IsSend PairSource.the_row
pair_send = recorded_send _ _ _ (PairSource.the_type).to_one pair_struct_send

pub pair_struct_sync : IsSync (PairSource.the_field).row
pair_struct_sync = struct_sync (shape PairSource.the_type) (search (sendable, crosses, formula_sync, formula_struct_sync) depth 20 fits 5000, (search (sendable, crosses, ident.the_sync, part.the_sync, exprs.crosses) depth 20 fits 5000, (search (sendable, crosses, formula_sync, formula_struct_sync) depth 20 fits 5000, (search (sendable, crosses) depth 20 fits 5000, tt))))

pub pair_sync : IsSync PairSource.the_row
pair_sync = recorded_sync _ _ _ (PairSource.the_type).to_one pair_struct_sync

pub block_struct_send : IsSend (BlockTree.the_field).row
block_struct_send = search (sendable, crosses, ident.the_send, part.the_send, rel.the_send, type_tree.the_send, exprs.crosses, block_knot.crosses, test_knot.crosses) depth 30 fits 30000

pub block_struct_sync : IsSync (BlockTree.the_field).row
block_struct_sync = search (sendable, crosses, ident.the_sync, part.the_sync, rel.the_sync, type_tree.the_sync, exprs.crosses, block_knot.crosses, test_knot.crosses) depth 30 fits 30000

pub method_struct_send : IsSend (MethodSource.the_field).row
method_struct_send = struct_send (shape MethodSource.the_type) (search (sendable, crosses, ident.the_send) depth 20 fits 5000, (search (sendable, crosses, param.the_send) depth 20 fits 5000, (search (sendable, crosses, type_tree.the_send) depth 20 fits 5000, (search (sendable, crosses, pair_send, pair_struct_send) depth 20 fits 5000, (block_struct_send, (search (sendable, crosses) depth 20 fits 5000, tt))))))

pub method_send : IsSend MethodSource.the_row
method_send = recorded_send _ _ _ (MethodSource.the_type).to_one method_struct_send

pub method_struct_sync : IsSync (MethodSource.the_field).row
method_struct_sync = struct_sync (shape MethodSource.the_type) (search (sendable, crosses, ident.the_sync) depth 20 fits 5000, (search (sendable, crosses, param.the_sync) depth 20 fits 5000, (search (sendable, crosses, type_tree.the_sync) depth 20 fits 5000, (search (sendable, crosses, pair_sync, pair_struct_sync) depth 20 fits 5000, (block_struct_sync, (search (sendable, crosses) depth 20 fits 5000, tt))))))

pub method_sync : IsSync MethodSource.the_row
method_sync = recorded_sync _ _ _ (MethodSource.the_type).to_one method_struct_sync

pub pred_struct_send : IsSend (PredTree.the_field).row
pred_struct_send = struct_send (shape PredTree.the_type) (search (sendable, crosses, ident.the_send) depth 20 fits 5000, (search (sendable, crosses, ident.the_send) depth 20 fits 5000, (search (sendable, crosses, formula_send, formula_struct_send) depth 20 fits 5000, (search (sendable, crosses, part.the_send, exprs.crosses, item_knot.crosses) depth 40 fits 20000, (search (sendable, crosses) depth 20 fits 5000, tt)))))

pub pred_send : IsSend PredTree.the_row
pred_send = recorded_send _ _ _ (PredTree.the_type).to_one pred_struct_send

pub pred_struct_sync : IsSync (PredTree.the_field).row
pred_struct_sync = struct_sync (shape PredTree.the_type) (search (sendable, crosses, ident.the_sync) depth 20 fits 5000, (search (sendable, crosses, ident.the_sync) depth 20 fits 5000, (search (sendable, crosses, formula_sync, formula_struct_sync) depth 20 fits 5000, (search (sendable, crosses, part.the_sync, exprs.crosses, item_knot.crosses) depth 40 fits 20000, (search (sendable, crosses) depth 20 fits 5000, tt)))))

pub pred_sync : IsSync PredTree.the_row
pred_sync = recorded_sync _ _ _ (PredTree.the_type).to_one pred_struct_sync

pub entail_struct_send : IsSend (EntailTree.the_field).row
entail_struct_send = struct_send (shape EntailTree.the_type) (search (sendable, crosses, formula_send, formula_struct_send) depth 20 fits 5000, (search (sendable, crosses, formula_send, formula_struct_send) depth 20 fits 5000, (search (sendable, crosses) depth 20 fits 5000, tt)))

pub entail_send : IsSend EntailTree.the_row
entail_send = recorded_send _ _ _ (EntailTree.the_type).to_one entail_struct_send

pub entail_struct_sync : IsSync (EntailTree.the_field).row
entail_struct_sync = struct_sync (shape EntailTree.the_type) (search (sendable, crosses, formula_sync, formula_struct_sync) depth 20 fits 5000, (search (sendable, crosses, formula_sync, formula_struct_sync) depth 20 fits 5000, (search (sendable, crosses) depth 20 fits 5000, tt)))

pub entail_sync : IsSync EntailTree.the_row
entail_sync = recorded_sync _ _ _ (EntailTree.the_type).to_one entail_struct_sync

pub lemma_tree_struct_send : IsSend (LemmaTree.the_field).row
lemma_tree_struct_send = struct_send (shape LemmaTree.the_type) (search (sendable, crosses, ident.the_send) depth 20 fits 5000, (search (sendable, crosses, ident.the_send) depth 20 fits 5000, (search (sendable, crosses, ident.the_send) depth 20 fits 5000, (search (sendable, crosses, disjunct_send, disjunct_struct_send) depth 20 fits 5000, (search (sendable, crosses) depth 20 fits 5000, tt)))))

pub lemma_tree_send : IsSend LemmaTree.the_row
lemma_tree_send = recorded_send _ _ _ (LemmaTree.the_type).to_one lemma_tree_struct_send

pub lemma_tree_struct_sync : IsSync (LemmaTree.the_field).row
lemma_tree_struct_sync = struct_sync (shape LemmaTree.the_type) (search (sendable, crosses, ident.the_sync) depth 20 fits 5000, (search (sendable, crosses, ident.the_sync) depth 20 fits 5000, (search (sendable, crosses, ident.the_sync) depth 20 fits 5000, (search (sendable, crosses, disjunct_sync, disjunct_struct_sync) depth 20 fits 5000, (search (sendable, crosses) depth 20 fits 5000, tt)))))

pub lemma_tree_sync : IsSync LemmaTree.the_row
lemma_tree_sync = recorded_sync _ _ _ (LemmaTree.the_type).to_one lemma_tree_struct_sync

pub source_item_struct_send : IsSend (SourceItem.the_field).row
source_item_struct_send = search (sendable, crosses, data_tree.the_send, pred_send, pred_struct_send, entail_send, entail_struct_send, method_send, method_struct_send, lemma_tree_send, lemma_tree_struct_send) depth 40 fits 20000

pub source_item_send : IsSend SourceItem.the_row
source_item_send = search (sendable, crosses, data_tree.the_send, pred_send, pred_struct_send, entail_send, entail_struct_send, method_send, method_struct_send, lemma_tree_send, lemma_tree_struct_send) depth 40 fits 20000

pub source_item_struct_sync : IsSync (SourceItem.the_field).row
source_item_struct_sync = search (sendable, crosses, data_tree.the_sync, pred_sync, pred_struct_sync, entail_sync, entail_struct_sync, method_sync, method_struct_sync, lemma_tree_sync, lemma_tree_struct_sync) depth 40 fits 20000

pub source_item_sync : IsSync SourceItem.the_row
source_item_sync = search (sendable, crosses, data_tree.the_sync, pred_sync, pred_struct_sync, entail_sync, entail_struct_sync, method_sync, method_struct_sync, lemma_tree_sync, lemma_tree_struct_sync) depth 40 fits 20000

pub source_struct_send : IsSend (Source.the_field).row
source_struct_send = struct_send (shape Source.the_type) (search (sendable, crosses, source_item_send) depth 20 fits 5000, tt)

pub source_send : IsSend Source.the_row
source_send = recorded_send _ _ _ (Source.the_type).to_one source_struct_send

pub source_struct_sync : IsSync (Source.the_field).row
source_struct_sync = struct_sync (shape Source.the_type) (search (sendable, crosses, source_item_sync) depth 20 fits 5000, tt)

pub source_sync : IsSync Source.the_row
source_sync = recorded_sync _ _ _ (Source.the_type).to_one source_struct_sync
