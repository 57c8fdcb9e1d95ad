use Rattle.std.proofs.Common.{◌≡◌, ap, true, if◌then◌else◌, Some, arith}
use Rattle.std.specs.Str.{bytes_eq}
use Rattle.std.proofs.lemmas.Map.Text.{text_keys}
use Rattle.indexmap.specs.IndexMap.{get_by_text}
use Rattle.hs_numbering.specs.Scope.{kept}
use Rattle.hs_numbering.proofs.Scopes.{kept_front, popped}
use Rattle.hs_numbering.proofs.scope.forget.Goals as goal

pub returns-in-Some : goal.returns-in-Some
returns-in-Some c = λ q.
    let name = c.args.name.now in
    let after : get_by_text (c.get_mut.follows.lender c.pop.new.self) q ≡ (if bytes_eq q name then Some c.pop.new.self else get_by_text c.args.vars.now q) = grind (arith, text_keys) in
    let was : bytes_eq q name ≡ true → get_by_text c.args.vars.now q ≡ Some c.in-Some.all.now = λ h. grind (arith, text_keys) in
    kept_front (bytes_eq q name) _ _ c.in-Some.all.now c.pop.new.self (λ h. ap kept (was h)) after (popped c.pop.result c.in-Some.all.now c.pop.new.self c.pop.ensures)
