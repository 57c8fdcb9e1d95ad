use Rattle.hs_lex.specs.Tokens.{is_digit}
use Rattle.hs_lex.proofs.Numbers.{AllDigits-take_while, take-front_len}
use Rattle.hs_lex.proofs.piece.literal.Goals as goal

pub number-requires : goal.number-requires
number-requires c = rw (c.number_len-len.ensures, take-front_len is_digit c.args.text.now) (AllDigits-take_while c.args.text.now)
