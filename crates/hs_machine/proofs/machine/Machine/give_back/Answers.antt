use Rattle.std.proofs.Common.{◌≡◌, ◌∙◌, ℕ, List, ap, sym, subst, length, map}
use Rattle.std.specs.List.{All}
use Rattle.hs_core.specs.Machine.{method_of}
use Rattle.hs_core.specs.Sound.{IsUpTo}
use Rattle.hs_machine.specs.Read.{slots_of}
use Rattle.hs_machine.proofs.Turns.{give_slot, give_refs, caller_takes, give_turn}
use Rattle.hs_machine.proofs.machine.Machine.give_back.Goals as goal

pub give-given-requires : goal.give-given-requires
give-given-requires c = give_slot c.args.program.now c.args.self.now c.args.from c.requires

pub get_all-requires : goal.get_all-requires
get_all-requires c =
    let P : List ℕ → Type 0 = λ ks. All (IsUpTo (length c.args.self.now.frame.slots)) ks in
    let e : c.as_slice-refs.result.now ≡ (method_of c.args.program.now c.args.self.now.frame.method).refs = c.as_slice-refs.ensures ∙ ap (λ m. m.refs) c.method.ensures in
    subst P (sym e) (give_refs c.args.program.now c.args.self.now c.args.from c.requires)

pub resume-requires-clause-takes : goal.resume-requires-clause-takes
resume-requires-clause-takes c =
    caller_takes c.args.program.now c.args.self.now c.args.from c.pop.new.self c.in-Some.caller c.give-given.result c.requires c.in-Some.ensures c.give-given.ensures

pub returns : goal.returns
returns c =
    let m = c.args.self.now in
    let refs : c.as_slice-refs.result.now ≡ (method_of c.args.program.now c.args.self.now.frame.method).refs = c.as_slice-refs.ensures ∙ ap (λ m. m.refs) c.method.ensures in
    let values : c.as_slice.result.now ≡ map (slots_of c.args.self.now.frame.slots) (method_of c.args.program.now c.args.self.now.frame.method).refs = c.as_slice.ensures ∙ c.in_ok-values.ensures ∙ ap (map (slots_of c.args.self.now.frame.slots)) refs in
    give_turn c.args.program.now m (record { frame = c.resume.new.caller; callers = c.pop.new.self; heap = m.heap }) c.args.from c.pop.new.self c.in-Some.caller c.give-given.result c.as_slice.result.now
    c.requires c.in-Some.ensures c.give-given.ensures values c.resume.ensures (λ i. c.pop.new.self) (λ i. m.heap)
