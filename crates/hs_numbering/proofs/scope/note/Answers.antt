use Rattle.std.proofs.Common.{◌≡◌, ◌∙◌, ap, true, [], ◌∷◌, ◌++◌, if◌then◌else◌, Some, None, arith}
use Rattle.std.specs.Str.{bytes_eq}
use Rattle.std.proofs.lemmas.Map.Text.{text_keys}
use Rattle.indexmap.specs.IndexMap.{get_by_text}
use Rattle.hs_numbering.specs.Scope.{kept}
use Rattle.hs_numbering.proofs.Scopes.{kept_push, on_err}
use Rattle.hs_numbering.proofs.scope.note.Goals as goal

pub returns-in_err-push-clause-unchanged : goal.returns-in_err-push-clause-unchanged
returns-in_err-push-clause-unchanged c = on_err c.from_residual.result (λ q.
    let after : get_by_text (c.get_mut.follows.lender c.push.new.self) q ≡ get_by_text c.args.vars.now q = grind (arith, text_keys) in
    ap kept after)

pub returns-in-Some-clause-added : goal.returns-in-Some-clause-added
returns-in-Some-clause-added c = λ q.
    let name = c.args.name.now in
    let after : get_by_text (c.get_mut.follows.lender c.push.new.self) q ≡ (if bytes_eq q name then Some c.push.new.self else get_by_text c.args.vars.now q) = grind (arith, text_keys) in
    let was : bytes_eq q name ≡ true → get_by_text c.args.vars.now q ≡ Some c.in-Some.all.now = λ h. grind (arith, text_keys) in
    kept_push (bytes_eq q name) _ _ c.in-Some.all.now c.push.new.self c.args.var (λ h. ap kept (was h)) after c.in_ok-push.ensures.ok

pub returns-clause-added : goal.returns-clause-added
returns-clause-added c = λ q.
    let name = c.args.name.now in
    let after : get_by_text c.insert.new.self q ≡ (if bytes_eq q name then Some c.push-2.new.self else get_by_text c.args.vars.now q) = grind (arith, text_keys) in
    let was : bytes_eq q name ≡ true → get_by_text c.args.vars.now q ≡ None = λ h. grind (arith, text_keys) in
    kept_push (bytes_eq q name) _ _ [] c.push-2.new.self c.args.var (λ h. ap kept (was h)) after
    (c.in_ok-push-2.ensures.ok ∙ λ i. c.new-all.ensures i ++ c.args.var ∷ [])
