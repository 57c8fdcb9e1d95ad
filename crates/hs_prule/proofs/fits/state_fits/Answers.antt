use Rattle.std.proofs.Common.{◌≡◌, length, ap, ◌∙◌, subst, arith}
use Rattle.hs_core.specs.declared.program.Method.{Method}
use Rattle.hs_core.specs.Sound.{IsUpTo}
use Rattle.hs_program_rules.specs.States.{pair_of, method_at, pair_at}
use Rattle.hs_prule.proofs.Told.{low, state_told}
use Rattle.hs_prule.proofs.fits.state_fits.Goals as goal

pub returns : goal.returns
returns c =
    let at = c.args.at.now in
    let e : c.method-m.result.now ≡ method_at c.args.program.now c.args.at.now = c.method-m.ensures in
    let f : c.pair.result.now ≡ pair_at c.args.program.now c.args.at.now = c.pair.ensures ∙ ap (λ m. pair_of m c.args.at.now.pair) e in
    let most = c.if-len-at.false in
    let len = c.len.ensures in
    let there : IsUpTo (length c.args.program.now.methods) c.args.at.now.method = (low c.args.defs.now c.args.program.now c.args.at.now c.args.at.now.method c.if-at-eq0.false, omega arith) in
    let most_pairs = c.if-len-at-2.false in
    let len_pairs = c.len-else-at-eq0-2.ensures in
    let here : IsUpTo (length c.method-m.result.now.pairs) c.args.at.now.pair = (low c.args.defs.now c.args.program.now c.args.at.now c.args.at.now.pair c.if-at-eq0-2.false, omega arith) in
    let pair : IsUpTo (length (method_at c.args.program.now c.args.at.now).pairs) c.args.at.now.pair = subst (λ (m : Method). IsUpTo (length m.pairs) c.args.at.now.pair) e here in
    record { exact = state_told c.args.defs.now c.args.program.now c.args.at.now c.fits_in.result c.method-m.result.now c.pair.result.now e f there pair c.fits_in.ensures }
