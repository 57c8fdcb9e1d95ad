use Rattle.std.proofs.Common.{◌≡◌, ℕ, List, length, Some, refl, sym, ap, ◌∙◌, subst, arith}
use Rattle.hs_core.specs.declared.instr.Instr.{Instr}
use Rattle.hs_core.specs.declared.instr.Instr.TheVariants as instr
use Rattle.hs_core.specs.declared.program.Pair.{Pair}
use Rattle.hs_core.specs.declared.program.Method.{Method}
use Rattle.hs_core.specs.Machine.{method_of}
use Rattle.hs_core.specs.Sound.{TermFits, ConditionFits}
use Rattle.hs_goal.specs.Classes.{the_case}
use Rattle.hs_program_rules.specs.States.{pair_of}
use Rattle.hs_program_rules.specs.Parts.{new_fields}
use Rattle.hs_program_parts.specs.Pairs.{CanBeCalled}
use Rattle.hs_prule.specs.After as state
use Rattle.hs_prule.specs.Steps.{called, IsApplied}
use Rattle.hs_prule.proofs.Applied.{instr_fits}
use Rattle.hs_prule.proofs.Asking.{call_is, able_at}
use Rattle.hs_prule.proofs.Going.{list_answer, premise_answer}
use Rattle.hs_prule.proofs.premises.premises_for.Goals as goal

pub after_assign-requires-clause-fits : goal.after_assign-requires-clause-fits
after_assign-requires-clause-fits c =
    let fits = instr_fits c.args.defs.now c.args.program.now c.args.at.now c.requires.program c.requires.fits (instr.Assign c.in-Assign.to c.in-Assign.term) (c.requires.applied.is ∙ ap (λ i. Some i) c.in-Assign.is) in
    subst (λ (n : ℕ). TermFits n c.in-Assign.term) (sym c.requires.fits.slots) fits.1

pub after_assign-requires-clause-few : goal.after_assign-requires-clause-few
after_assign-requires-clause-few c = let few = c.if-len.false in let len = c.len.ensures in omega arith

pub branch-alloc-requires-clause-fits : goal.branch-alloc-requires-clause-fits
branch-alloc-requires-clause-fits c =
    let fits = instr_fits c.args.defs.now c.args.program.now c.args.at.now c.requires.program c.requires.fits (instr.Branch c.in-Branch.condition c.in-Branch.other) (c.requires.applied.is ∙ ap (λ i. Some i) c.in-Branch.is) in
    subst (λ (n : ℕ). ConditionFits n c.in-Branch.condition) (sym c.requires.fits.slots) fits.0

pub branch-alloc-requires-clause-few : goal.branch-alloc-requires-clause-few
branch-alloc-requires-clause-few c = let few = c.if-len.false in let len = c.len.ensures in omega arith

pub after_call-requires-clause-able : goal.after_call-requires-clause-able
after_call-requires-clause-able c =
    let applied = subst (λ (i : Instr). IsApplied c.args.program.now c.args.at.now c.args.rule i) c.in-Call.is c.requires.applied in
    let k = call_is c.args.defs.now c.args.program.now c.args.at.now c.requires.program c.requires.fits c.args.rule c.in-Call.to c.in-Call.number c.in-Call.args applied in
    let able = able_at c.args.defs.now c.args.program.now c.requires.program c.in-Call.number (called c.args.rule) k.there k.pair in
    let pair : c.pair-p.result.now ≡ pair_of (method_of c.args.program.now c.in-Call.number) (called c.args.rule) = c.pair-p.ensures ∙ (λ i. pair_of (c.method-m.ensures i) (c.called.ensures i)) in
    let both : ◌≡◌ {A = Method × Pair} (c.method-m.result.now, c.pair-p.result.now) (method_of c.args.program.now c.in-Call.number, pair_of (method_of c.args.program.now c.in-Call.number) (called c.args.rule))
    = λ i. (c.method-m.ensures i, pair i) in
    subst (λ (x : Method × Pair). CanBeCalled x.0 x.1) (sym both) able

pub after_call-requires-clause-arity : goal.after_call-requires-clause-arity
after_call-requires-clause-arity c =
    let applied = subst (λ (i : Instr). IsApplied c.args.program.now c.args.at.now c.args.rule i) c.in-Call.is c.requires.applied in
    let k = call_is c.args.defs.now c.args.program.now c.args.at.now c.requires.program c.requires.fits c.args.rule c.in-Call.to c.in-Call.number c.in-Call.args applied in
    ap (λ (ks : List ℕ). length ks) c.as_slice-in-Call.ensures ∙ k.arity ∙ sym (ap (λ (m : Method). m.params) c.method-m.ensures)

pub returns-in-Assign : goal.returns-in-Assign
returns-in-Assign c =
    let d = c.in-Some.ensures.1 in
    premise_answer c.args.defs.now c.args.program.now c.args.at.now (called c.args.rule) c.args.residue.now c.args.instr.now (instr.Assign c.in-Assign.to c.in-Assign.term)
    (state.after_assign c.args.at.now c.in-Some.d.now c.in-Assign.to c.in-Assign.term) (state.after_assign c.args.at.now (the_case c.args.at.now.state.formula) c.in-Assign.to c.in-Assign.term)
    c.after_assign.result c.alone.result c.in-Assign.is refl (λ i. state.after_assign c.args.at.now (d i) c.in-Assign.to c.in-Assign.term) c.after_assign.ensures c.alone.ensures

pub returns-in-New : goal.returns-in-New
returns-in-New c =
    let d = c.in-Some.ensures.1 in
    premise_answer c.args.defs.now c.args.program.now c.args.at.now (called c.args.rule) c.args.residue.now c.args.instr.now (instr.New c.in-New.to c.in-New.kind c.in-New.args)
    (state.after_new c.args.at.now c.in-Some.d.now c.in-New.to c.in-New.kind c.as_slice.result.now) (state.after_new c.args.at.now (the_case c.args.at.now.state.formula) c.in-New.to c.in-New.kind c.in-New.args)
    c.after_new.result c.alone-in-New.result c.in-New.is refl (λ i. state.after_new c.args.at.now (d i) c.in-New.to c.in-New.kind (c.as_slice.ensures i)) c.after_new.ensures c.alone-in-New.ensures

pub returns-in_ok-fields-in-Get : goal.returns-in_ok-fields-in-Get
returns-in_ok-fields-in-Get c =
    let fields : c.as_slice-fields.result.now ≡ new_fields c.args.defs.now c.in-Get.kind c.args.at.now.state.next = c.as_slice-fields.ensures ∙ c.in_ok-fields-in-Get.ensures.1 in
    premise_answer c.args.defs.now c.args.program.now c.args.at.now (called c.args.rule) c.args.residue.now c.args.instr.now (instr.Get c.in-Get.to c.in-Get.slot c.in-Get.kind c.in-Get.field)
    (state.after_get c.args.at.now c.as_slice-fields.result.now c.in-Get.to c.in-Get.slot c.in-Get.kind c.in-Get.field c.args.residue.now)
    (state.after_get c.args.at.now (new_fields c.args.defs.now c.in-Get.kind c.args.at.now.state.next) c.in-Get.to c.in-Get.slot c.in-Get.kind c.in-Get.field c.args.residue.now)
    c.after_get.result c.alone-in-Get.result c.in-Get.is refl (λ i. state.after_get c.args.at.now (fields i) c.in-Get.to c.in-Get.slot c.in-Get.kind c.in-Get.field c.args.residue.now) c.after_get.ensures c.alone-in-Get.ensures

pub returns-in_ok-fields-in-Set : goal.returns-in_ok-fields-in-Set
returns-in_ok-fields-in-Set c =
    let fields : c.as_slice-fields-in-Set.result.now ≡ new_fields c.args.defs.now c.in-Set.kind c.args.at.now.state.next = c.as_slice-fields-in-Set.ensures ∙ c.in_ok-fields-in-Set.ensures.1 in
    premise_answer c.args.defs.now c.args.program.now c.args.at.now (called c.args.rule) c.args.residue.now c.args.instr.now (instr.Set c.in-Set.slot c.in-Set.kind c.in-Set.field c.in-Set.from)
    (state.after_set c.args.at.now c.as_slice-fields-in-Set.result.now c.in-Set.slot c.in-Set.kind c.in-Set.field c.in-Set.from c.args.residue.now)
    (state.after_set c.args.at.now (new_fields c.args.defs.now c.in-Set.kind c.args.at.now.state.next) c.in-Set.slot c.in-Set.kind c.in-Set.field c.in-Set.from c.args.residue.now)
    c.after_set.result c.alone-in-Set.result c.in-Set.is refl (λ i. state.after_set c.args.at.now (fields i) c.in-Set.slot c.in-Set.kind c.in-Set.field c.in-Set.from c.args.residue.now) c.after_set.ensures c.alone-in-Set.ensures

pub returns-in-Branch : goal.returns-in-Branch
returns-in-Branch c =
    let d = c.in-Some.ensures.1 in
    list_answer c.args.defs.now c.args.program.now c.args.at.now (called c.args.rule) c.args.residue.now c.args.instr.now (instr.Branch c.in-Branch.condition c.in-Branch.other)
    (state.branches c.args.at.now c.in-Some.d.now c.in-Branch.condition c.in-Branch.other) (state.branches c.args.at.now (the_case c.args.at.now.state.formula) c.in-Branch.condition c.in-Branch.other)
    c.branch-alloc.result c.in-Branch.is refl (λ i. state.branches c.args.at.now (d i) c.in-Branch.condition c.in-Branch.other) c.branch-alloc.ensures

pub returns-in-Call : goal.returns-in-Call
returns-in-Call c =
    let pair : c.pair-p.result.now ≡ pair_of (method_of c.args.program.now c.in-Call.number) (called c.args.rule) = c.pair-p.ensures ∙ (λ i. pair_of (c.method-m.ensures i) (c.called.ensures i)) in
    premise_answer c.args.defs.now c.args.program.now c.args.at.now (called c.args.rule) c.args.residue.now c.args.instr.now (instr.Call c.in-Call.to c.in-Call.number c.in-Call.args)
    (state.after_call c.args.at.now c.method-m.result.now c.pair-p.result.now c.in-Call.to c.as_slice-in-Call.result.now c.args.residue.now)
    (state.after_call c.args.at.now (method_of c.args.program.now c.in-Call.number) (pair_of (method_of c.args.program.now c.in-Call.number) (called c.args.rule)) c.in-Call.to c.in-Call.args c.args.residue.now)
    c.after_call.result c.alone-in-Call.result c.in-Call.is refl (λ i. state.after_call c.args.at.now (c.method-m.ensures i) (pair i) c.in-Call.to (c.as_slice-in-Call.ensures i) c.args.residue.now) c.after_call.ensures c.alone-in-Call.ensures
