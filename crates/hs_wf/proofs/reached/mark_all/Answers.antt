use Rattle.std.proofs.Common.{◌≡◌, false, ◌||◌, ◌+◌, take, get_or, sym, ap, ◌∙◌}
use Rattle.std.proofs.lemmas.List.{take_more}
use Rattle.hs_pure.specs.declared.var.Var.{Var}
use Rattle.hs_pure.specs.Stack.{same}
use Rattle.hs_heap.specs.Meaning.{is_in}
use Rattle.hs_wf.proofs.Members.{is_in-snoc}
use Rattle.hs_wf.proofs.reached.mark_all.Goals as goal

abbrev none : Var
none = record { number = 0; bag = false }

pub loop-v-preserved : goal.loop-v-preserved
loop-v-preserved c = λ w.
    let names = c.args.names.now in
    let i = c.loop-v.v-index in
    let v = get_or names i none in
    c.in_ok-mark.ensures w ∙ ap (λ b. same w v || b) (c.loop-v.invariant w)
    ∙ sym (is_in-snoc w v (take i names)) ∙ sym (ap (λ vs. is_in w vs) (take_more names i none c.loop-v-test.true))
