use Rattle.std.proofs.Common.{◌≡◌, true, false, sym, ◌∙◌}
use Rattle.hs_program_rules.specs.Parts.{is_other}
use Rattle.hs_program_parts.proofs.Names.{others_yes, others_no}
use Rattle.hs_program_parts.proofs.pairs.push_others.Goals.{then-is_other+in_ok-push_both, else-is_other}
use Rattle.hs_program_parts.proofs.pairs.push_others.Goals as goal

pub loop-number-preserved : goal.loop-number-preserved
loop-number-preserved c = elim c.if-is_other.branch [
  | then-is_other+in_ok-push_both w ↦
      let m = others_yes (is_other c.args.m.now c.args.p.now) c.args.fresh c.loop-number.number c.loop-number.next c.if-is_other.next c.args.pairs.now c.loop-number.pairs c.if-is_other.pairs
      (sym c.is_other.ensures ∙ w.if-is_other.true) c.loop-number.invariant.next c.loop-number.invariant.low c.loop-number.invariant.pairs (w.pairs-is ∙ w.in_ok-push_both.ensures) w.next-is in
      record { next = m.next; low = m.low; pairs = m.pairs }
  | else-is_other w ↦
      let m = others_no (is_other c.args.m.now c.args.p.now) c.args.fresh c.loop-number.number c.loop-number.next c.if-is_other.next c.args.pairs.now c.loop-number.pairs c.if-is_other.pairs
      (sym c.is_other.ensures ∙ w.if-is_other.false) c.loop-number.invariant.next c.loop-number.invariant.low c.loop-number.invariant.pairs w.pairs-is w.next-is in
      record { next = m.next; low = m.low; pairs = m.pairs }
]
