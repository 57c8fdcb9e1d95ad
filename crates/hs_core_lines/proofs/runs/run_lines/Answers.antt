use Rattle.std.proofs.Common.{◌∙◌, [], ◌∷◌, ap, subst, List, ℤ}
use Rattle.hs_machine.specs.End.{IsEnd}
use Rattle.hs_print.specs.declared.line.Line.{Line}
use Rattle.hs_core_lines.proofs.Starting.{begins}
use Rattle.hs_core_lines.proofs.runs.run_lines.Goals as goal

pub run-requires : goal.run-requires
run-requires c =
    let p = c.in_ok-program.program in
    let has = c.in_ok-program.ensures.found in
    begins c.args.resolved.now.defs p c.args.method.now c.args.text.now c.in_ok-number.number _ c.as_slice.result.now c.in_ok-number.heap
    (c.requires.sound p has) (c.requires.brief p has) c.in_ok-number.ensures.found c.as_slice.ensures

pub returns-clause-lines : goal.returns-clause-lines
returns-clause-lines c = record {
  program = c.in_ok-program.program;
  lowered = c.in_ok-program.ensures.found;
  number = c.in_ok-number.number;
  args = _;
  heap = c.in_ok-number.heap;
  starts = c.in_ok-number.ensures.found;
  end = c.in_ok-end.end;
  ends = subst (λ (args : List ℤ). IsEnd c.in_ok-program.program c.in_ok-number.number args c.in_ok-number.heap c.args.steps c.in_ok-end.end) c.as_slice.ensures c.in_ok-end.ensures;
  is = c.in_ok-alone.ensures ∙ ap (λ (l : Line). l ∷ []) c.in_ok-line.ensures;
}
