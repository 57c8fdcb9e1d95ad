-- The first fault in the order of the text, of several at one place the one whose problem is listed first.
use Rattle.std.specs.Prelude.{ℕ, Bool, true, ◌&&◌, ◌||◌, nat_lt, nat_eq, if◌then◌else◌, List, Option, Some, None}
use Rattle.std.specs.List.{fold}
use Rattle.hs_numbering.specs.declared.fault.Fault.{Fault}
use Rattle.hs_numbering.specs.declared.fault.Problem.{Problem}
use Rattle.hs_numbering.specs.declared.fault.Problem.TheVariants.{Unknown, Twice, Kind, Arity, TooMany, Shape}

abbrev pub rank : Problem → ℕ
rank (Unknown x) = 0
rank (Twice x) = 1
rank Kind = 2
rank Arity = 3
rank (TooMany l) = 4
rank Shape = 5

abbrev pub is_before : Fault → Fault → Bool
is_before f g = nat_lt f.at g.at || (nat_eq f.at g.at && nat_lt (rank f.problem) (rank g.problem))

abbrev pub is_first : Fault → Option Fault → Bool
is_first f None = true
is_first f (Some g) = is_before f g

abbrev pub least : List Fault → Option Fault
least = fold (λ found f. if is_first f found then Some f else found) None
