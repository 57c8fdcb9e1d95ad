-- The lines of a derivation, and the first that is not of its form.
use Rattle.std.specs.Prelude.{ℕ, suc, ◌+◌, Bool, true, false, ◌&&◌, if◌then◌else◌, nat_eq, nat_le, nat_lt, List, [], ◌∷◌, ◌++◌, length, codes, Result, Ok, Err}
use Rattle.std.specs.List.{list_all}
use Rattle.std.specs.Str.{bytes_eq, is_utf8}
use Rattle.hs_lex.specs.Tokens.{is_digit, is_in_name}
use Rattle.hs_heap.specs.declared.definitions.Defs.{Defs}
use Rattle.hs_node.specs.declared.derivation.Node.{Node}
use Rattle.hs_node.specs.declared.derivation.Derivation.{Derivation}
use Rattle.hs_line.specs.declared.fault.Fault.TheVariants as fault
use Rattle.hs_dtext.specs.declared.fault.DTextError.{DTextError}
use Rattle.hs_dtext.specs.declared.fault.DTextError.TheVariants as error
use Rattle.hs_dtext.specs.declared.reading.Stage.{Stage}
use Rattle.hs_dtext.specs.declared.reading.Stage.TheVariants.{Nodes, Claims, Ended}
use Rattle.hs_dtext.specs.declared.reading.Reading.{Reading}
use Rattle.hs_dtext.specs.declared.reading.LineError.{LineError}
use Rattle.hs_dtext.specs.declared.reading.LineError.TheVariants.{Version, Forward, Bad, Memory}
use Rattle.hs_line.specs.Pieces.{cut_at}
use Rattle.hs_line.specs.Steps.{Outcome, mapped, finish}
use Rattle.hs_line.specs.Scan.{past_blanks, begins_by, is_nothing, run, behind, over, alone, word, number}
use Rattle.hs_dtext.specs.Parts.{node}

-- a number from 1 that is below n
abbrev pub is_earlier : ℕ → ℕ → Bool
is_earlier n k = nat_le 1 k && nat_lt k n

-- what a line makes of a reading, or what is wrong with it
abbrev pub Lined : Type 0 → Type 0
Lined A = Result A LineError

-- what goes on with what was read of a line
abbrev pub or_bad : {A B : Type 0} → Outcome A → (A → Lined B) → Lined B
or_bad (Ok a) f = f a
or_bad (Err e) f = Err (Bad e)

-- ---- the first line

-- the version that is known
abbrev pub known : ℕ → Lined (Unit {0})
known v = if nat_eq v 1 then Ok tt else Err (Version v)

-- the version that the first line names
abbrev pub heading : List ℕ → Outcome ℕ
heading line = finish (word (codes "derivation")) (λ _ rest. alone number rest) line

-- the first line, its version known
abbrev pub first_line : List ℕ → Lined (Unit {0})
first_line line = if is_utf8 line then or_bad (heading line) known else Err (Bad fault.Utf8)

-- ---- nodes

-- a node whose premises are there
abbrev pub add_node : Reading → Node → Lined Reading
add_node r n =
    if list_all (is_earlier (suc (length r.nodes))) n.premises
    then Ok (record r { nodes = r.nodes ++ n ∷ [] }) else Err Forward

-- the line of the next node
abbrev pub node_line : Defs → Reading → List ℕ → Lined Reading
node_line defs r line = or_bad (node defs (suc (length r.nodes)) (cut_at 59 line)) (λ x. add_node r x.0)

-- ---- claims

-- a claim's number is above that of the one before
abbrev pub rises : List (ℕ × ℕ) → ℕ → Bool
rises [] k = true
rises (c ∷ []) k = nat_lt c.0 k
rises (c ∷ d ∷ cs) k = rises (d ∷ cs) k

-- a claim and its node, where the claims rise
abbrev pub rising : List (ℕ × ℕ) → ℕ → List ℕ → Outcome (ℕ × ℕ)
rising claims k rest = if rises claims k then mapped (λ n. (k, n)) (alone number rest) else Err fault.Number

-- a claim and its node
abbrev pub claim : List (ℕ × ℕ) → List ℕ → Outcome (ℕ × ℕ)
claim claims rest = finish number (rising claims) rest

-- a claim whose node is there
abbrev pub add_claim : Reading → ℕ × ℕ → Lined Reading
add_claim r c =
    if is_earlier (suc (length r.nodes)) c.1 then Ok (record { stage = Claims; nodes = r.nodes; claims = r.claims ++ c ∷ [] }) else Err Forward

-- the line of a claim, behind its word
abbrev pub claim_line : Reading → List ℕ → Lined Reading
claim_line r rest = or_bad (claim r.claims rest) (add_claim r)

-- ---- lines by their first word

-- the last line, behind its word
abbrev pub end_line : Reading → List ℕ → Lined Reading
end_line r rest = or_bad (over rest) (λ _. Ok (record { stage = Ended; nodes = r.nodes; claims = r.claims }))

-- a line by its first word
abbrev pub by_word : Reading → List ℕ → List ℕ → Lined Reading
by_word r w rest =
    if bytes_eq w (codes "claim") then claim_line r rest else (if bytes_eq w (codes "end") then end_line r rest else Err (Bad fault.Word))

-- a line that begins with a word
abbrev pub worded_line : Reading → List ℕ → Lined Reading
worded_line r line = by_word r (run is_in_name line) (behind is_in_name line)

-- a digit comes first
abbrev pub is_digit_first : List ℕ → Bool
is_digit_first [] = false
is_digit_first (b ∷ text) = is_digit b

-- nodes may come
abbrev pub takes_nodes : Stage → Bool
takes_nodes Nodes = true
takes_nodes Claims = false
takes_nodes Ended = false

-- no line may come
abbrev pub has_ended : Stage → Bool
has_ended Nodes = false
has_ended Claims = false
has_ended Ended = true

-- the line of a node comes
abbrev pub is_node_line : Stage → List ℕ → Bool
is_node_line stage line = takes_nodes stage && is_digit_first (past_blanks line)

-- a line that begins with `#` is passed over
abbrev pub is_remark : List ℕ → Bool
is_remark line = begins_by 35 line

-- a line behind the first
abbrev pub later_line : Defs → Reading → List ℕ → Lined Reading
later_line defs r line =
    if is_utf8 line
    then (if is_remark line then Ok r else (if is_node_line r.stage line then node_line defs r line else worded_line r line))
    else Err (Bad fault.Utf8)

-- ---- all lines

-- what is wrong, with the number of the line
abbrev pub at_line : ℕ → LineError → DTextError
at_line n (Version v) = error.Version v
at_line n Forward = error.Forward n
at_line n (Bad e) = error.Line n e
at_line n Memory = error.Memory

-- nothing was read
abbrev pub begun : Reading
begun = record { stage = Nodes; nodes = []; claims = [] }

-- what was read, where it ends
abbrev pub at_end : ℕ → Reading → List ℕ → Result Derivation DTextError
at_end n r rest =
    if has_ended r.stage && is_nothing rest then Ok (record { nodes = r.nodes; claims = r.claims }) else Err (error.Line n fault.End)

-- what goes on with what was read
abbrev pub after_line : ℕ → Lined Reading → (Reading → Result Derivation DTextError) → Result Derivation DTextError
after_line n (Ok r) f = f r
after_line n (Err e) f = Err (at_line n e)

-- the lines from the n-th on; what stands behind the last line end is no line
abbrev pub lines_from : Defs → ℕ → Reading → List (List ℕ) → Result Derivation DTextError
lines_from defs n r [] = Err (error.Line n fault.End)
lines_from defs n r (rest ∷ []) = at_end n r rest
lines_from defs n r (line ∷ next ∷ lines) =
    if has_ended r.stage then Err (error.Line n fault.End)
    else after_line n (later_line defs r line) (λ s. lines_from defs (n + 1) s (next ∷ lines))

-- what goes on behind the first line
abbrev pub after_first : Lined (Unit {0}) → Result Derivation DTextError → Result Derivation DTextError
after_first (Ok u) more = more
after_first (Err e) more = Err (at_line 1 e)

-- the derivation that lines are, or their first fault
abbrev pub all_lines : Defs → List (List ℕ) → Result Derivation DTextError
all_lines defs [] = Err (error.Line 1 fault.End)
all_lines defs (rest ∷ []) = Err (error.Line 1 fault.End)
all_lines defs (line ∷ next ∷ lines) = after_first (first_line line) (lines_from defs 2 begun (next ∷ lines))

-- the derivation that a text is, or its first fault
abbrev pub derivation_of : Defs → List ℕ → Result Derivation DTextError
derivation_of defs text = all_lines defs (cut_at 10 text)
