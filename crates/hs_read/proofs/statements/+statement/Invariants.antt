use Rattle.std.proofs.Common.{◌≡◌, ◌+◌, ◌-◌, ◌*◌}
use Rattle.hs_words.specs.Input.{comes, repeat}
use Rattle.hs_read.specs.Statement.{begins_statement, statement, statements}
use Rattle.hs_read.proofs.statements.+statement.Given as goal

abbrev pub decreases-statements : goal.decreases-statements
decreases-statements l = 8 * l.depth + 6

abbrev pub decreases-statement : goal.decreases-statement
decreases-statement l = 8 * l.depth + 5

abbrev pub decreases-statement_kind : goal.decreases-statement_kind
decreases-statement_kind l = 8 * l.depth + 4

abbrev pub decreases-branch : goal.decreases-branch
decreases-branch l = 8 * l.depth + 3

abbrev pub decreases-otherwise : goal.decreases-otherwise
decreases-otherwise l = 8 * l.depth + 2

abbrev pub decreases-block : goal.decreases-block
decreases-block l = 8 * l.depth + 1

abbrev pub invariant-statements-loop-turn : goal.invariant-statements-loop-turn
invariant-statements-loop-turn l = statements (statement l.depth) l.fn.tokens ≡ repeat (comes begins_statement) (statement l.depth) (l._turn-end - l._turn) l.found l.tokens
