use Rattle.std.proofs.Common.{◌≡◌, ◌∙◌, sym, ap, None, Some, arith}
use Rattle.std.proofs.lemmas.Map.Text.{text_keys}
use Rattle.indexmap.specs.IndexMap.{get_by_text}
use Rattle.hs_numbering.specs.Numbering.{last_named}
use Rattle.hs_numbering.specs.Scope.{kept, last_or}
use Rattle.hs_numbering.proofs.Scopes.{last_of_named}
use Rattle.hs_numbering.proofs.scope.Scope.last.Goals as goal

pub returns-in-Some : goal.returns-in-Some
returns-in-Some c =
    let name = c.args.name.now in
    let found : get_by_text c.self.inside.vars name ≡ Some c.in-Some.vars.now = grind (arith, text_keys) in
    c.last_of.ensures ∙ ap (last_or None) (c.as_slice.ensures ∙ sym (ap kept found) ∙ c.self.invariant name) ∙ last_of_named name c.self.inside.list ∙ ap (last_named name) c.self.view_is

pub returns-in-None : goal.returns-in-None
returns-in-None c =
    let name = c.args.name.now in
    let found : get_by_text c.self.inside.vars name ≡ None = grind (arith, text_keys) in
    ap (last_or None) (sym (ap kept found) ∙ c.self.invariant name) ∙ last_of_named name c.self.inside.list ∙ ap (last_named name) c.self.view_is
