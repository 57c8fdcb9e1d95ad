use Rattle.std.specs.Prelude.{codes}
use Rattle.std.specs.String.{string_bytes}
use Rattle.hs_print.specs.Lists.{each_after}
use Rattle.hs_dtext.specs.Text.{bare, side_parts, end_parts, goal_parts}
use Rattle.hs_dtext.proofs.Alone.{each_joined, two_writes}
use Rattle.hs_dtext.proofs.text.push_goal.Goals as goal

pub returns : goal.returns
returns c =
    two_writes (string_bytes c.args.out.now) (each_after (codes " ; ") bare (side_parts c.args.defs.now c.args.goal.now)) (each_after (codes " ; ") bare (end_parts c.args.defs.now c.args.goal.now c.args.residue.now))
    (each_after (codes " ; ") bare (goal_parts c.args.defs.now c.args.goal.now c.args.residue.now)) (string_bytes c.push_sides.new.out) (string_bytes c.push_ends.new.out) c.in_ok-push_sides.ensures c.in_ok-push_ends.ensures
    (each_joined (codes " ; ") bare (side_parts c.args.defs.now c.args.goal.now) (end_parts c.args.defs.now c.args.goal.now c.args.residue.now))
