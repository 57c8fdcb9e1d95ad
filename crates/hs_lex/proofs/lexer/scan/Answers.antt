use Rattle.std.proofs.Common.{◌-◌, length, arith, sym, ◌∙◌, ◌<◌, false-eqb}
use Rattle.std.proofs.lemmas.Result.{err_from_is_err_and}
use Rattle.hs_lex.proofs.Loop.{turn, ends, fails_from}
use Rattle.hs_lex.proofs.lexer.scan.Goals as goal

pub returns-in_err-piece : goal.returns-in_err-piece
returns-in_err-piece c =
    let p = err_from_is_err_and c.from_residual.result c.from_residual.ensures.1 in
    let rest = c.loop-rest.rest.now in
    let some : 0 < length rest = omega (arith, false-eqb (length rest) 0 c.loop-rest-test.ensures) in
    let fault = ends c.args.top (length c.args.text.now - length rest) rest c.in_err-piece.field-0.0 c.loop-rest.tokens.items some (sym c.in_err-piece.ensures.value) in
    rw (p.1) (rw (p.2) (fails_from _ _ (sym c.loop-rest.invariant.so_far ∙ fault)))

pub loop-rest-preserved : goal.loop-rest-preserved
loop-rest-preserved c =
    let rest = c.loop-rest.rest.now in
    let some : 0 < length rest = omega (arith, false-eqb (length rest) 0 c.loop-rest-test.ensures) in
    record {
      so_far = turn c.args.top c.args.text.now c.loop-rest.rest.now _ c.in_ok-piece.piece c.loop-rest.tokens.items _ _ c.loop-rest.invariant.within some c.in_ok-piece.ensures.within.0 c.in_ok-piece.ensures.within.1 c.in_ok-piece.ensures.value c.in_ok-add.ensures c.split_at.ensures.back c.loop-rest.invariant.so_far;
      within = omega (arith, c.split_at.ensures.back_len, c.loop-rest.invariant.within);
    }
