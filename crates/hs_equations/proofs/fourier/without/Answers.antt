use Rattle.std.proofs.lemmas.List.Elements.{All-same}
use Rattle.hs_equations.specs.Rows.{IsMet}
use Rattle.hs_equations.proofs.Lists.{All-joined}
use Rattle.hs_equations.proofs.fourier.without.Goals as goal

pub returns : goal.returns
returns c = λ s h.
    let parts = c.in_ok-parts.ensures s h.0 in
    (c.in_ok-left.ensures s (All-same (IsMet s) _ _ c.as_slice.ensures parts.1) parts.0, All-joined (IsMet s) _ _ _ c.in_ok-append.ensures h.1 parts.1)
