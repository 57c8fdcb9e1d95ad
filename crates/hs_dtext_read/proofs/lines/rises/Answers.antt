use Rattle.std.proofs.Common.{rules, ◌≡◌, ◌-◌, length, Some, sym, ap, ◌∙◌}
use Rattle.std.specs.Prelude.{slice_get}
use Rattle.hs_dtext_read.proofs.Rises.{is_above, rises_last}
use Rattle.hs_dtext_read.proofs.lines.rises.Goals as goal

pub returns-in-Some : goal.returns-in-Some
returns-in-Some c =
    let there : Some c.in-Some.claim.now ≡ slice_get c.args.claims.now (length c.args.claims.now - 1) = search rules in
    sym (rises_last c.args.claims.now c.args.k ∙ ap (λ o. is_above o c.args.k) (sym there))
