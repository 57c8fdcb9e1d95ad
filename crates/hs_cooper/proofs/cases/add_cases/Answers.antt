use Rattle.std.proofs.Common.{◌⊎◌, inl, inr, map, take_all, rules, sym, ap, ◌∙◌, subst, pos}
use Rattle.std.specs.List.{fold}
use Rattle.hs_pure.specs.declared.lin.Lin.{Lin}
use Rattle.hs_elimination.specs.Linear.{place, plus, number, IsWideLin}
use Rattle.hs_elimination.specs.Form.{Form, IsWide}
use Rattle.hs_elimination.specs.Normal.{evaluate}
use Rattle.hs_elimination.specs.Cases.{substitute, minus_infinity}
use Rattle.hs_elimination.proofs.Stage3.{contains_none}
use Rattle.hs_cooper_forms.specs.Reading.{form_of, join}
use Rattle.hs_cooper_forms.specs.Gathering.{gathered}
use Rattle.hs_cooper_forms.specs.Changing.{changed, IsRefused}
use Rattle.hs_cooper_forms.specs.declared.change.Change.TheVariants.{Substitute}
use Rattle.hs_cooper_forms.specs.declared.nnf.Connective.TheVariants.{Or}
use Rattle.hs_cooper_forms.proofs.Members.{each_more, each_whole}
use Rattle.hs_cooper_forms.proofs.Changes.{fold_next, map-map}
use Rattle.hs_cooper.proofs.NarrowStages.{narrow_case, narrow_at}
use Rattle.hs_cooper.proofs.cases.add_cases.Goals as goal

pub loop-b-preserved : goal.loop-b-preserved
loop-b-preserved c = record {
  same = c.in_ok-add-2.ensures.same ∙ c.loop-b.invariant.same;
  form = fold_next Or c.loop-b.members.connective
      (join Or (gathered c.args.members.now) (evaluate (substitute (place c.args.x) (number (pos c.args.j)) (minus_infinity (place c.args.x) (form_of c.args.f.now)))))
      (λ b. evaluate (substitute (place c.args.x) (plus b (number (pos c.args.j))) (form_of c.args.f.now))) c.args.bounds.now c.loop-b.b-index c.b-item.result
      (gathered c.loop-b.members) (gathered c.add-in-loop-b.new.self) (form_of c.in_ok-near.near)
      c.loop-b-test.true c.b-item.is c.loop-b.invariant.form c.loop-b.invariant.same c.in_ok-add-2.ensures.form
      (c.in_ok-near.ensures.form ∙ ap (λ u. evaluate (substitute (place c.args.x) u (form_of c.args.f.now))) c.in_ok-sum.ensures.sum);
  proper = c.in_ok-add-2.ensures.proper;
  narrow = each_more (λ b. IsWideLin (plus b (number (pos c.args.j))) ⊎ IsWide (changed (Substitute c.args.x (plus b (number (pos c.args.j)))) (form_of c.args.f.now)) → IsWide (form_of c.args.f.now) ⊎ IsWideLin b)
      c.args.bounds.now c.loop-b.b-index c.b-item.result c.loop-b-test.true c.b-item.is c.loop-b.invariant.narrow
      (narrow_case c.args.x (form_of c.args.f.now) c.b-item.result c.in_ok-sum.sum c.args.j c.in_ok-sum.ensures.sum c.in_ok-sum.ensures.narrow c.in_ok-near.ensures.narrow);
}

pub returns-clause-narrow : goal.returns-clause-narrow
returns-clause-narrow c =
    narrow_at c.args.x (form_of c.args.f.now) c.args.bounds.now c.args.j c.in_ok-low.ensures.narrow
    (each_whole (λ b. IsWideLin (plus b (number (pos c.args.j))) ⊎ IsWide (changed (Substitute c.args.x (plus b (number (pos c.args.j)))) (form_of c.args.f.now)) → IsWide (form_of c.args.f.now) ⊎ IsWideLin b)
    c.args.bounds.now c.loop-b.b-index c.loop-b-test.false c.loop-b.invariant.narrow)

pub loop-b-init : goal.loop-b-init
loop-b-init c = record {
  same = c.in_ok-add.ensures.same ∙ c.requires.connective;
  form = c.in_ok-add.ensures.form ∙ (λ i. join (c.requires.connective i) (gathered c.args.members.now) (c.in_ok-low.ensures.form i));
  proper = c.in_ok-add.ensures.proper;
  narrow = λ b there. contains_none b there;
}

pub returns-in_err-low-clause-wide : goal.returns-in_err-low-clause-wide
returns-in_err-low-clause-wide c = λ h. inl (c.in_err-low.ensures.wide (search rules))

pub returns-in_err-sum-clause-wide : goal.returns-in_err-sum-clause-wide
returns-in_err-sum-clause-wide c = λ h. inr (c.b-item.result, ((c.loop-b.b-index, c.loop-b-test.true, sym c.b-item.is), inl (c.in_err-sum.ensures.wide (search rules))))

pub returns-in_err-near-clause-wide : goal.returns-in_err-near-clause-wide
returns-in_err-near-clause-wide c = λ h.
    let refused = subst (λ u. IsRefused (Substitute c.args.x u) (form_of c.args.f.now)) c.in_ok-sum.ensures.sum (c.in_err-near.ensures.wide (search rules)) in
    inr (c.b-item.result, ((c.loop-b.b-index, c.loop-b-test.true, sym c.b-item.is), inr refused))

pub returns-clause-form : goal.returns-clause-form
returns-clause-form c =
    let low = join Or (gathered c.args.members.now) (evaluate (substitute (place c.args.x) (number (pos c.args.j)) (minus_infinity (place c.args.x) (form_of c.args.f.now)))) in
    let near : Lin → Form = λ b. substitute (place c.args.x) (plus b (number (pos c.args.j))) (form_of c.args.f.now) in
    c.loop-b.invariant.form
    ∙ ap (λ bs. fold (join Or) low (map (λ b. evaluate (near b)) bs)) (take_all c.loop-b.b-index c.args.bounds.now c.loop-b-test.false)
    ∙ sym (ap (fold (join Or) low) (map-map near evaluate c.args.bounds.now))

pub returns-clause-same : goal.returns-clause-same
returns-clause-same c = c.loop-b.invariant.same

pub returns-clause-proper : goal.returns-clause-proper
returns-clause-proper c = c.loop-b.invariant.proper
