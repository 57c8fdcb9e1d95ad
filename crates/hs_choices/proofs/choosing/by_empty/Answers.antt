use Rattle.std.proofs.Common.{◌≡◌, not, ◌&&◌, List, sym, ◌∙◌, subst, IfOk}
use Rattle.std.specs.List.{list_all}
use Rattle.hs_pure.specs.Occurs.{has_bags}
use Rattle.hs_goal.specs.declared.rule.ERule.{ERule}
use Rattle.hs_rules.specs.Parts.{has_open, right_pure}
use Rattle.hs_choices.proofs.Untried.{empty_apart, empty_mixed}
use Rattle.hs_choices.proofs.choosing.by_empty.Goals as goal

pub returns-then-are_apart : goal.returns-then-are_apart
returns-then-are_apart c =
    let g = c.args.goal.now in
    let told : c.are_apart.result ≡ list_all (λ p. not (has_open g.opens p && has_bags p)) (right_pure g) =
    c.are_apart.ensures ∙ (λ i. list_all (λ p. not (has_open (c.as_slice.ensures i) p && has_bags p)) (c.pure_of.ensures i)) in
    subst (λ (rules : List ERule). IfOk c.alone.result (λ all. all.items ≡ rules)) (sym (empty_apart c.args.level g (sym told ∙ c.if-are_apart.true))) c.alone.ensures

pub returns : goal.returns
returns c =
    let g = c.args.goal.now in
    let told : c.are_apart.result ≡ list_all (λ p. not (has_open g.opens p && has_bags p)) (right_pure g) =
    c.are_apart.ensures ∙ (λ i. list_all (λ p. not (has_open (c.as_slice.ensures i) p && has_bags p)) (c.pure_of.ensures i)) in
    c.new.ensures.items ∙ sym (empty_mixed c.args.level g (sym told ∙ c.if-are_apart.false))
