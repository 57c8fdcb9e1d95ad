use Rattle.std.proofs.Common.{◌≡◌, ◌↔◌, sym, subst}
use Rattle.hs_pure.specs.declared.pure.Pure.{Pure}
use Rattle.hs_pure.specs.Stack.{Stack}
use Rattle.hs_pure.specs.Truth.{TrueAt}
use Rattle.hs_pure.specs.Rename.{renaming, renamed}
use Rattle.hs_pure.proofs.Lists.{if_ok_weaker}
use Rattle.hs_pure.proofs.Renamed.{truth-renamed}
use Rattle.hs_pure.proofs.pure.Pure.rename.Goals as goal

pub returns-clause-truth : goal.returns-clause-truth
returns-clause-truth c =
    let ρ = renaming c.args.map.now in
    let p = c.args.self.now in
    let same : Pure → Type 0 = λ q. q ≡ renamed (renaming c.args.map.now) c.args.self.now in
    let alike : Pure → Type 0 = λ q. (s : Stack) → TrueAt s q ↔ TrueAt (λ v. s (renaming c.args.map.now v)) c.args.self.now in
    if_ok_weaker same alike c.put_names.result
    (λ q e s. subst (λ z. TrueAt s z ↔ TrueAt (λ v. s (renaming c.args.map.now v)) c.args.self.now) (sym e) (truth-renamed ρ p s c.requires.apart))
    c.put_names.ensures
