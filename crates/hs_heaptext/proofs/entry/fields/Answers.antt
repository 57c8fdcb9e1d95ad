use Rattle.std.proofs.Common.{◌≡◌, ◌++◌, sym, ◌∙◌, ap}
use Rattle.hs_heaptext.proofs.Nodes.{no_fields, no_count}
use Rattle.hs_heaptext.proofs.entry.fields.Goals as goal

pub returns-in_default-2 : goal.returns-in_default-2
returns-in_default-2 c =
    let is : c.args.text.now ≡ c.args.def.now.name ++ c.in-Some.rest.now = c.in-Some.ensures ∙ ap (λ l. l ++ c.in-Some.rest.now) (c.as_bytes.ensures.value ∙ c.as_str.ensures) in
    no_fields _ _ _ is (rw c.in_default-2.is at c.in_ok-values.ensures)

pub returns-then-len : goal.returns-then-len
returns-then-len c =
    let is : c.args.text.now ≡ c.args.def.now.name ++ c.in-Some.rest.now = c.in-Some.ensures ∙ ap (λ l. l ++ c.in-Some.rest.now) (c.as_bytes.ensures.value ∙ c.as_str.ensures) in
    let h = rw c.in-Some-2.is at c.in_ok-values.ensures in
    no_count _ _ _ c.in-Some-2.values is h.0 h.1 (λ e. c.if-len.true (c.len.ensures ∙ e ∙ sym c.len-2.ensures))
