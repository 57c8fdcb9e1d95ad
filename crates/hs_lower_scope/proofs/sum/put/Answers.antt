use Rattle.std.proofs.Common.{◌∙◌, sym, ap, of_z}
use Rattle.std.proofs.lemmas.Int.{to_z-of_z}
use Rattle.std.specs.List.{insert}
use mir.Syntax.{w128}
use Rattle.hs_lower_scope.proofs.Adding.{put_new}
use Rattle.hs_lower_scope.proofs.sum.put.Goals as goal

pub returns : goal.returns
returns c = c.in_ok-insert.ensures.items ∙ (λ j. insert c.args.terms.now.items c.place-i.result (c.args.v, to_z-of_z w128 c.args.c c.ranges.c j))
    ∙ sym (put_new c.args.v c.args.c c.args.terms.now.items c.as_slice.result.now c.as_slice-2.result.now c.place-i.result c.is_at.result c.as_slice.ensures.value c.as_slice-2.ensures.value c.place-i.ensures.value c.is_at.ensures c.if-is_at.false (λ e. c.if-c-eq0-2.false (ap (of_z w128) e)))
