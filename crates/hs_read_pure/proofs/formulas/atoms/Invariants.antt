use Rattle.std.proofs.Common.{◌≡◌, ◌-◌}
use Rattle.hs_lex.specs.declared.token.Sign.TheVariants.{Star}
use Rattle.hs_words.specs.Input.{repeat, skip, ◌>>◌, sees}
use Rattle.hs_read_pure.specs.Formula.{atom, atoms}
use Rattle.hs_read_pure.proofs.formulas.atoms.Given as goal

abbrev pub invariant-loop-turn : goal.invariant-loop-turn
invariant-loop-turn l = atoms l.depth l.fn.tokens ≡ repeat (sees Star) (skip >> atom l.depth) (l._turn-end - l._turn) l.found l.tokens
