use Rattle.std.proofs.Common.{◌≡◌, length, IfOk, ap, ◌∙◌, subst}
use Rattle.hs_pure.specs.Rename.{renaming, renamed}
use Rattle.hs_pure.proofs.Weight.{light_in_range}
use Rattle.hs_program_parts.specs.Pairs.{slots_below}
use Rattle.hs_program_parts.proofs.Names.{condition_is}
use Rattle.hs_program_parts.proofs.returning.over_condition.Goals as goal

pub put_names-requires : goal.put_names-requires
put_names-requires c = light_in_range (renaming c.as_slice.result.now) c.args.condition.now c.requires.fits.formed.light

pub returns : goal.returns
returns c =
    let names : c.as_slice.result.now ≡ slots_below c.args.held.now (length c.args.held.now) = c.as_slice.ensures ∙ c.in_ok-pairs.ensures in
    subst (λ q. IfOk c.put_names.result (λ p. p ≡ q))
    (ap (λ ps. renamed (renaming ps) c.args.condition.now) names ∙ condition_is c.args.held.now (length c.args.held.now) c.args.condition.now c.requires.fits) c.put_names.ensures
