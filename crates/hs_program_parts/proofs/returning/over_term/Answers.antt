use Rattle.std.proofs.Common.{◌≡◌, length, IfOk, ap, ◌∙◌, subst}
use Rattle.hs_pure.specs.Rename.{renaming, renamed_lin}
use Rattle.hs_pure.proofs.Weight.{lin_in_range}
use Rattle.hs_program_parts.specs.Pairs.{slots_below}
use Rattle.hs_program_parts.proofs.Names.{term_is}
use Rattle.hs_program_parts.proofs.returning.over_term.Goals as goal

pub rename-requires : goal.rename-requires
rename-requires c = lin_in_range (renaming c.as_slice.result.now) c.args.term.now c.requires.fits.light

pub returns : goal.returns
returns c =
    let names : c.as_slice.result.now ≡ slots_below c.args.held.now (length c.args.held.now) = c.as_slice.ensures ∙ c.in_ok-pairs.ensures in
    subst (λ q. IfOk c.rename.result (λ a. a ≡ q))
    (ap (λ ps. renamed_lin (renaming ps) c.args.term.now) names ∙ term_is c.args.held.now (length c.args.held.now) c.args.term.now c.requires.fits) c.rename.ensures
