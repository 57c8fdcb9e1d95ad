use Rattle.hs_goal.specs.Tables.{AreClasses}
use Rattle.hs_pure.proofs.Lists.{if_ok_weaker}
use Rattle.hs_rules.specs.Parts.{left_pure}
use Rattle.hs_choices.specs.Tests.{HasClasses}
use Rattle.hs_choices.proofs.Leaders.{classes_told, table_answers}
use Rattle.hs_choices.proofs.atoms.left_classes.Goals as goal

pub returns : goal.returns
returns c = let g = c.args.goal.now in if_ok_weaker (AreClasses (left_pure g)) (HasClasses g) c.classes.result (table_answers classes_told g) c.classes.ensures.exact
