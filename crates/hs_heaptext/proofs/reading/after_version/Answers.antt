use Rattle.std.proofs.Common.{◌≡◌, sym, ◌∙◌, ap, not}
use Rattle.std.proofs.lemmas.Bool.{false≢true}
use Rattle.std.proofs.lemmas.Slice.Eq.{bytes_eq-Decides}
use Rattle.hs_heaptext.proofs.Lines.{line_once}
use Rattle.hs_heaptext.proofs.reading.after_version.Goals as goal

pub returns-then-ne : goal.returns-then-ne
returns-then-ne c line rest first e =
    let both = line_once c.args.bytes.now line c.in_ok-line.line.now rest c.in_ok-line.text.now first c.in_ok-line.ensures in
    let is : c.in_ok-line.line.now ≡ c.as_slice.result.now = sym both.0 ∙ e ∙ sym c.as_slice.ensures in
    let same = (bytes_eq-Decides c.in_ok-line.line.now c.as_slice.result.now).1 is in
    false≢true (sym (ap not same) ∙ sym c.ne.ensures ∙ c.if-ne.true)
