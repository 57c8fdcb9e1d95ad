-- What one more line does to a reading.
use Rattle.std.proofs.Common.{◌≡◌, ℕ, ◌+◌, true, false, if◌then◌else◌, List, [], ◌∷◌, Some, Result, Ok, Err, refl, ap, ◌∙◌, subst}
use Rattle.hs_heap.specs.declared.definitions.Defs.{Defs}
use Rattle.hs_node.specs.declared.derivation.Derivation.{Derivation}
use Rattle.hs_line.specs.declared.fault.Fault.TheVariants as fault
use Rattle.hs_line.specs.Pieces.{first_piece, later_pieces, no_pieces}
use Rattle.hs_dtext.specs.declared.fault.DTextError.{DTextError}
use Rattle.hs_dtext.specs.declared.fault.DTextError.TheVariants as error
use Rattle.hs_dtext.specs.declared.reading.Reading.{Reading}
use Rattle.hs_dtext.specs.declared.reading.LineError.{LineError}
use Rattle.hs_dtext.specs.declared.reading.LineError.TheVariants.{Version, Forward, Bad, Memory}
use Rattle.hs_dtext.specs.Lines.{Lined, has_ended, later_line, at_line, at_end, after_line, lines_from, first_line, begun, all_lines, after_first}
use Rattle.hs_dtext.specs.Stops.{Adds, Answers}

-- ---- the lines from the n-th on, of which this is the first

pub no_line : (defs : Defs) (n : ℕ) (r : Reading) (all : List (List ℕ)) → no_pieces all ≡ true → lines_from defs n r all ≡ Err (error.Line n fault.End)
no_line defs n r [] e = refl
no_line defs n r (p ∷ ps) e = absurd cc

pub last_line : (defs : Defs) (n : ℕ) (r : Reading) (all : List (List ℕ)) (line : List ℕ) → Some line ≡ first_piece all → no_pieces (later_pieces all) ≡ true
    → lines_from defs n r all ≡ at_end n r line
last_line defs n r [] line here over = absurd cc
last_line defs n r (p ∷ []) line here over = let same : p ≡ line = cc in ap (at_end n r) same
last_line defs n r (p ∷ q ∷ ps) line here over = absurd cc

pub line_behind : (defs : Defs) (n : ℕ) (r : Reading) (all : List (List ℕ)) (line : List ℕ) → Some line ≡ first_piece all → no_pieces (later_pieces all) ≡ false
    → has_ended r.stage ≡ true → lines_from defs n r all ≡ Err (error.Line n fault.End)
line_behind defs n r [] line here more ended = absurd cc
line_behind defs n r (p ∷ []) line here more ended = absurd cc
line_behind defs n r (p ∷ q ∷ ps) line here more ended =
    λ i. if ended i then Err (error.Line n fault.End) else after_line n (later_line defs r p) (λ s. lines_from defs (n + 1) s (q ∷ ps))

pub going : (defs : Defs) (n : ℕ) (r : Reading) (all : List (List ℕ)) (line : List ℕ) → Some line ≡ first_piece all → no_pieces (later_pieces all) ≡ false
    → has_ended r.stage ≡ false → lines_from defs n r all ≡ after_line n (later_line defs r line) (λ s. lines_from defs (n + 1) s (later_pieces all))
going defs n r [] line here more ended = absurd cc
going defs n r (p ∷ []) line here more ended = absurd cc
going defs n r (p ∷ q ∷ ps) line here more ended =
    let same : p ≡ line = cc in
    (λ i. if ended i then Err (error.Line n fault.End) else after_line n (later_line defs r p) (λ s. lines_from defs (n + 1) s (q ∷ ps)))
    ∙ ap (λ l. after_line n (later_line defs r l) (λ s. lines_from defs (n + 1) s (q ∷ ps))) same

-- ---- a line that adds something, and one that is not of its form

pub added : (defs : Defs) (n : ℕ) (r s : Reading) (line : List ℕ) (rest : List (List ℕ)) → Adds (later_line defs r line) (Ok tt) s
    → after_line n (later_line defs r line) (λ t. lines_from defs (n + 1) t rest) ≡ lines_from defs (n + 1) s rest
added defs n r s line rest h = ap (λ o. after_line n o (λ t. lines_from defs (n + 1) t rest)) h

pub failed : (o : Lined Reading) (e : LineError) (n : ℕ) (s : Reading) (f : Reading → Result Derivation DTextError) → Adds o (Err e) s → Answers (after_line n o f) (Err (at_line n e))
failed o (Version v) n s f h = ap (λ x. after_line n x f) h
failed o Forward n s f h = ap (λ x. after_line n x f) h
failed o (Bad e) n s f h = ap (λ x. after_line n x f) h
failed o Memory n s f h = tt

-- ---- the first line

pub first_and_last : (defs : Defs) (all : List (List ℕ)) → no_pieces (later_pieces all) ≡ true → all_lines defs all ≡ Err (error.Line 1 fault.End)
first_and_last defs [] over = refl
first_and_last defs (p ∷ []) over = refl
first_and_last defs (p ∷ q ∷ ps) over = absurd cc

pub first_then : (defs : Defs) (all : List (List ℕ)) (line : List ℕ) → Some line ≡ first_piece all → no_pieces (later_pieces all) ≡ false
    → all_lines defs all ≡ after_first (first_line line) (lines_from defs 2 begun (later_pieces all))
first_then defs [] line here more = absurd cc
first_then defs (p ∷ []) line here more = absurd cc
first_then defs (p ∷ q ∷ ps) line here more = let same : p ≡ line = cc in ap (λ l. after_first (first_line l) (lines_from defs 2 begun (q ∷ ps))) same

-- ---- answers

answered : (o : Result Derivation DTextError) → Answers o o
answered (Ok d) = refl
answered (Err (error.Version v)) = refl
answered (Err (error.Forward n)) = refl
answered (Err (error.Line n e)) = refl
answered (Err error.Memory) = tt

pub answers : (o r : Result Derivation DTextError) → o ≡ r → Answers o r
answers o r e = subst (Answers o) e (answered o)
