use Rattle.std.proofs.Common.{rules, refl, sym, inl, inr, arith}
use Rattle.std.proofs.lemmas.Grind.{common_steps}
use Rattle.hs_io.specs.Files.{texts_of}
use Rattle.hs_io.specs.MemFiles.{FailsFetch}
use Rattle.hs_io.proofs.files.MemFilesFiles.fetch.Goals as goal
use Rattle.hs_io.proofs.files.MemFilesFiles.fetch.Goals.{in_default-via-in-Some+else-not-contains, in_default-via-in_default}

pub returns-in_default-clause-fault : goal.returns-in_default-clause-fault
returns-in_default-clause-fault c =
    let fails : FailsFetch c.args.self.now c.args.name.now =
    elim c.in_default.branch [
      | in_default-via-in-Some+else-not-contains w ↦ inl (grind (arith, common_steps, w.contains.ensures.cases, w.if-not-contains.false))
      | in_default-via-in_default w ↦ inr (rw c.deref.ensures.value at (sym w.in_default.ensures))
    ] in
    (λ e. fails, λ f. refl)

pub returns-in-Some-clause-cause : goal.returns-in-Some-clause-cause
returns-in-Some-clause-cause c = c.copy_up_to.ensures.cause (texts_of c.args.self.now.files.items) c.args.name.now c.args.self.now.faults (search rules)
