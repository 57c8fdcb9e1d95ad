use Rattle.hs_heaptext.specs.Reading.{version, arguments, IsArgsLine, IsAnswer}
use Rattle.hs_heaptext.proofs.Entries.{no_such_line}
use Rattle.hs_heaptext.proofs.Read.{states, entries_answer, error_answer}
use Rattle.hs_heaptext.proofs.reading.parts.Goals as goal

pub returns-in_default-clause-cause : goal.returns-in_default-clause-cause
returns-in_default-clause-cause c = version c.in_default.ensures

pub returns-in_default-first_line-clause-cause : goal.returns-in_default-first_line-clause-cause
returns-in_default-first_line-clause-cause c = arguments c.in-Some.ensures (λ line rest f. absurd (c.in_default-first_line.ensures line rest f))

pub returns-in_default-2-clause-cause : goal.returns-in_default-2-clause-cause
returns-in_default-2-clause-cause c = arguments c.in-Some.ensures (no_such_line IsArgsLine _ _ _ c.in-Some-first_line.ensures (rw c.in_default-2.is at c.in_ok-args.ensures))

pub returns-in_err-heap-clause-cause : goal.returns-in_err-heap-clause-cause
returns-in_err-heap-clause-cause c =
    let h = rw c.in-Some-2.is at c.in_ok-args.ensures in
    error_answer (IsAnswer c.args.defs.now c.args.bytes.now) _ _ c.from_residual-in_err-heap.ensures.1
    (entries_answer _ _ _ _ _ _ c.in-Some.ensures c.in-Some-first_line.ensures (c.in-Some-2.args, h.0, h.1) c.in_err-heap.ensures.cause)

pub returns-clause-found : goal.returns-clause-found
returns-clause-found c =
    let h = rw c.in-Some-2.is at c.in_ok-args.ensures in
    states _ _ _ _ _ _ _ c.in-Some.ensures c.in-Some-first_line.ensures h.0 h.1 c.in_ok-heap.ensures.found.0 c.in_ok-heap.ensures.found.1
