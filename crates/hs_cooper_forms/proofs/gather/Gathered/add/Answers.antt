use Rattle.std.proofs.Common.{rules, ap, ◌∙◌}
use Rattle.hs_cooper_forms.specs.Reading.{form_of, is_proper, IsCanonical}
use Rattle.std.proofs.Common.{subst}
use Rattle.hs_cooper_forms.proofs.Forms.{gathered_push, proper_more, proper_literal, proper_joined, form-Literal}
use Rattle.hs_cooper_forms.proofs.gather.Gathered.add.Goals as goal

pub returns-in_ok-push-in-Literal-clause-form : goal.returns-in_ok-push-in-Literal-clause-form
returns-in_ok-push-in-Literal-clause-form c =
    gathered_push c.args.self.now c.args.f _ c.push.new.self c.in-Literal.is c.in_ok-push-in-Literal.ensures.ok c.requires.proper
    (ap (λ g. is_proper (form_of g)) c.in-Literal.is ∙ ap is_proper (form-Literal c.in-Literal.l) ∙ proper_literal c.in-Literal.l) (search rules)

pub returns-in_ok-push-in-Literal-clause-proper : goal.returns-in_ok-push-in-Literal-clause-proper
returns-in_ok-push-in-Literal-clause-proper c =
    proper_more c.args.self.now c.args.f _ c.push.new.self c.in-Literal.is c.in_ok-push-in-Literal.ensures.ok c.requires.proper
    (ap (λ g. is_proper (form_of g)) c.in-Literal.is ∙ ap is_proper (form-Literal c.in-Literal.l) ∙ proper_literal c.in-Literal.l)

pub returns-in_ok-push-in-Joined-clause-form : goal.returns-in_ok-push-in-Joined-clause-form
returns-in_ok-push-in-Joined-clause-form c =
    gathered_push c.args.self.now c.args.f _ c.push-in-Joined.new.self c.in-Joined.is c.in_ok-push-in-Joined.ensures.ok c.requires.proper
    (ap (λ g. is_proper (form_of g)) c.in-Joined.is ∙ proper_joined c.in-Joined.c c.in-Joined.fs (subst IsCanonical c.in-Joined.is c.requires.canonical)) (search rules)

pub returns-in_ok-push-in-Joined-clause-proper : goal.returns-in_ok-push-in-Joined-clause-proper
returns-in_ok-push-in-Joined-clause-proper c =
    proper_more c.args.self.now c.args.f _ c.push-in-Joined.new.self c.in-Joined.is c.in_ok-push-in-Joined.ensures.ok c.requires.proper
    (ap (λ g. is_proper (form_of g)) c.in-Joined.is ∙ proper_joined c.in-Joined.c c.in-Joined.fs (subst IsCanonical c.in-Joined.is c.requires.canonical))
