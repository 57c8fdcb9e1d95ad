use Rattle.std.proofs.Common.{◌≡◌, ◌+◌, ◌*◌, ◌≤◌, []}
use Rattle.hs_read_pure.specs.Expr.{elements, levels_of}
use Rattle.hs_read_pure.proofs.expressions.+expr.Given as goal

abbrev pub decreases-elements : goal.decreases-elements
decreases-elements l = 4 * l.depth + 3

abbrev pub decreases-expr : goal.decreases-expr
decreases-expr l = 4 * l.depth + 2

abbrev pub decreases-expr_kind : goal.decreases-expr_kind
decreases-expr_kind l = 4 * l.depth + 1

abbrev pub decreases-braces : goal.decreases-braces
decreases-braces l = 4 * l.depth

abbrev pub decreases-pair : goal.decreases-pair
decreases-pair l = 4 * l.depth

abbrev pub invariant-elements-loop-found : goal.invariant-elements-loop-found
invariant-elements-loop-found l = record {
  so_far : elements (levels_of (l.fn.depth + 1)) [] l.fn.tokens ≡ elements (levels_of (l.depth + 1)) l.found l.tokens;
  within : l.depth ≤ l.fn.depth;
}

abbrev pub decreases-elements-loop-found : goal.decreases-elements-loop-found
decreases-elements-loop-found l = l.depth
