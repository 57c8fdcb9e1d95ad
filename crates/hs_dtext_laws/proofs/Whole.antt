-- The text of a writable derivation is read as that derivation.
use Rattle.std.proofs.Common.{◌≡◌, ℕ, zero, suc, ◌+◌, ◌<◌, ◌≤◌, ◌^◌, Bool, true, false, ◌&&◌, if◌then◌else◌, nat_eq, nat_lt, List, [], ◌∷◌, ◌++◌, length, map, Ok, Err, refl, sym, ap, ◌∙◌, subst, append-nil, append_assoc, length-append, arith}
use Rattle.std.specs.Prelude.{IsTrue, codes}
use Rattle.std.specs.List.{AllByRecursion, list_all}
use Rattle.std.specs.Str.{is_utf8, IsAscii, IsUtf8}
use Rattle.std.specs.Fmt.{decimal}
use Rattle.std.proofs.lemmas.Bool.Decides.{nat_tests}
use Rattle.std.proofs.lemmas.Str.{IsUtf8-append, IsUtf8-from_ascii, is_utf8-from_IsUtf8}
use Rattle.hs_lex.specs.Tokens.{is_digit, is_in_name, BeginsWith}
use Rattle.hs_heap.specs.declared.definitions.Defs.{Defs}
use Rattle.hs_node.specs.declared.derivation.Node.{Node}
use Rattle.hs_node.specs.declared.derivation.Derivation.{Derivation}
use Rattle.hs_written.specs.Writable.{DefsAreWritable}
use Rattle.hs_round_trip.proofs.Words.{word_spells}
use Rattle.hs_line.specs.declared.fault.Fault.TheVariants as fault
use Rattle.hs_line.specs.Pieces.{cut_at}
use Rattle.hs_line.specs.Steps.{on_ok, mapped}
use Rattle.hs_line.specs.Scan.{past_blanks, begins_by, alone, number}
use Rattle.hs_dtext.specs.declared.fault.DTextError.TheVariants as error
use Rattle.hs_dtext.specs.declared.reading.Stage.{Stage}
use Rattle.hs_dtext.specs.declared.reading.Stage.TheVariants.{Nodes, Claims, Ended}
use Rattle.hs_dtext.specs.declared.reading.Reading.{Reading}
use Rattle.hs_dtext.specs.declared.reading.LineError.TheVariants.{Forward, Bad}
use Rattle.hs_dtext.specs.Lines.{is_earlier, or_bad, known, derivation_of, first_line, add_node, node_line, rises, rising, add_claim, by_word, worded_line, is_digit_first, takes_nodes, has_ended, later_line, begun as nothing_read, after_line, lines_from, after_first, all_lines}
use Rattle.hs_dtext.specs.declared.claims.ClaimLine.{ClaimLine}
use Rattle.hs_dtext.specs.declared.claims.ClaimLine.TheVariants as claim
use Rattle.hs_dtext.specs.Text.{node_text, node_lines, claim_text, claim_line, all_claim_lines, lines_text, proved, proved_lines, proved_text, shown, shown_claims}
use Rattle.hs_dtext.proofs.Proved.{derivation_text-proved, shown_claims-shown}
use Rattle.hs_dtext_laws.specs.Writable.{CauseIsWritable, DerivationIsWritable, IsShort, IsEarlier, NodeIsWritable, NodesAreWritable, ClaimsRise}
use Rattle.hs_dtext_laws.specs.Laws.{DerivationsComeBack, ProvedComesBack}
use Rattle.hs_dtext_laws.proofs.Fronts.{past_digit, past_letter, run_back, behind_back, number_back}
use Rattle.hs_dtext_laws.proofs.Lists.{Avoids, Avoids-append, cut_first, alone_back}
use Rattle.hs_dtext_laws.proofs.Clean.{join, decimal_clean}
use Rattle.hs_dtext_laws.proofs.Nodes.{all_clean, clean_by, is_lined, Lined, clean_lined, node_lined, node_begins, nodes_come_back}

-- ---- lines

no_line_end : (b : ℕ) → IsTrue (is_lined b) → nat_eq b 10 ≡ false
no_line_end b h = grind (arith, nat_tests)

no_line_ends : (t : List ℕ) → Lined t → Avoids 10 t
no_line_ends [] h = tt
no_line_ends (b ∷ t) h = (no_line_end b h.0, no_line_ends t h.1)

ascii_byte : (b : ℕ) → IsTrue (is_lined b) → b < 128
ascii_byte b h = grind (arith, nat_tests)

ascii_at : (t : List ℕ) → Lined t → IsAscii t
ascii_at [] h i = omega arith
ascii_at (b ∷ t) h zero = ascii_byte b h.0
ascii_at (b ∷ t) h (suc i) = ascii_at t h.1 i

lined_is_utf8 : (t : List ℕ) → Lined t → is_utf8 t ≡ true
lined_is_utf8 t h = is_utf8-from_IsUtf8 t (IsUtf8-from_ascii t (ascii_at t h))

lined_by : (t : List ℕ) → IsTrue (all_clean t) → Lined t
lined_by t h = clean_lined t (clean_by t h)

lines_cut : (ls : List (List ℕ)) → AllByRecursion (Avoids 10) ls → cut_at 10 (lines_text ls) ≡ ls ++ ([] ∷ [])
lines_cut [] all = refl
lines_cut (l ∷ ls) all = cut_first 10 10 l (lines_text ls) all.0 refl ∙ ap (λ x. l ∷ x) (lines_cut ls all.1)

abbrev IsSome : List (List ℕ) → Type 0
IsSome [] = ⊥
IsSome (x ∷ xs) = Unit {0}

some_append : (xs : List (List ℕ)) (m : List ℕ) (ms : List (List ℕ)) → IsSome (xs ++ (m ∷ ms))
some_append [] m ms = tt
some_append (x ∷ xs) m ms = tt

take_one : (defs : Defs) (k : ℕ) (r s : Reading) (line : List ℕ) (rest : List (List ℕ)) → IsSome rest → has_ended r.stage ≡ false → later_line defs r line ≡ Ok s
    → lines_from defs k r (line ∷ rest) ≡ lines_from defs (k + 1) s rest
take_one defs k r s line [] some going e = absurd some
take_one defs k r s line (m ∷ rest) some going e =
    (λ i. if going i then Err (error.Line k fault.End) else after_line k (later_line defs r line) (λ t. lines_from defs (k + 1) t (m ∷ rest)))
    ∙ ap (λ o. after_line k o (λ t. lines_from defs (k + 1) t (m ∷ rest))) e

-- what is read from a line on is what is read from another line on
record LeadsTo (defs : Defs) (r s : Reading) (from to : List (List ℕ)) : Type 0 where
  at : ℕ → ℕ
  same : (k : ℕ) → lines_from defs k r from ≡ lines_from defs (at k) s to

-- ---- nodes

abbrev at_nodes : List Node → Reading
at_nodes nodes = record { stage = Nodes; nodes = nodes; claims = [] }

no_hash : (t : List ℕ) → BeginsWith is_digit t → begins_by 35 t ≡ false
no_hash [] h = absurd h
no_hash (b ∷ t) h = differ b h
  where
    differ : (b : ℕ) → is_digit b ≡ true → nat_eq b 35 ≡ false
    differ b h = grind (arith, nat_tests)

digit_first : (t : List ℕ) → BeginsWith is_digit t → is_digit_first (past_blanks t) ≡ true
digit_first [] h = absurd h
digit_first (b ∷ t) h = ap is_digit_first (past_digit (b ∷ []) t h) ∙ h

earlier_is : (n k : ℕ) → 1 ≤ k → k < n → is_earlier n k ≡ true
earlier_is n k low high = grind (arith, nat_tests)

all_earlier : (defs : Defs) (n : ℕ) (ks : List ℕ) → AllByRecursion (IsEarlier defs n) ks → list_all (is_earlier n) ks ≡ true
all_earlier defs n [] h = refl
all_earlier defs n (k ∷ ks) h = λ i. earlier_is n k h.0.0 h.0.1 i && all_earlier defs n ks h.1 i

module _ (defs : Defs) (fit : DefsAreWritable defs) where
  node_read_at : (nodes : List Node) (x : Node) → suc (length nodes) < 2 ^ 32 → NodeIsWritable defs (suc (length nodes)) x
      → later_line defs (at_nodes nodes) (node_text defs (suc (length nodes)) x) ≡ Ok (at_nodes (nodes ++ x ∷ []))
  node_read_at nodes x small h =
      let n : ℕ = suc (length nodes) in
      let t : List ℕ = node_text defs n x in
      let r : Reading = at_nodes nodes in
      let starts = node_begins defs n x small in
      (λ i. if lined_is_utf8 t (node_lined defs fit n x) i
      then (if begins_by 35 t then Ok r else (if is_digit_first (past_blanks t) then node_line defs r t else worded_line r t)) else Err (Bad fault.Utf8))
      ∙ ((λ i. if no_hash t starts i then Ok r else (if is_digit_first (past_blanks t) then node_line defs r t else worded_line r t))
      ∙ ((λ i. if digit_first t starts i then node_line defs r t else worded_line r t)
      ∙ (ap (λ o. or_bad o (λ y. add_node r y.0)) (nodes_come_back defs n x fit small h)
      ∙ (λ i. if all_earlier defs n x.premises h.earlier i then Ok (at_nodes (nodes ++ x ∷ [])) else Err Forward))))

  node_read : (n : ℕ) (nodes : List Node) (x : Node) → suc (length nodes) ≡ n → n < 2 ^ 32 → NodeIsWritable defs n x → later_line defs (at_nodes nodes) (node_text defs n x) ≡ Ok (at_nodes (nodes ++ x ∷ []))
  node_read n nodes x e =
      subst (λ m. m < 2 ^ 32 → NodeIsWritable defs m x → later_line defs (at_nodes nodes) (node_text defs m x) ≡ Ok (at_nodes (nodes ++ x ∷ []))) e (node_read_at nodes x)

  nodes_read : (n : ℕ) (nodes xs : List Node) (m : List ℕ) (ms : List (List ℕ)) → suc (length nodes) ≡ n → length nodes + length xs < 2 ^ 32 → NodesAreWritable defs n xs
      → LeadsTo defs (at_nodes nodes) (at_nodes (nodes ++ xs)) (node_lines defs n xs ++ (m ∷ ms)) (m ∷ ms)
  nodes_read n nodes [] m ms e few h = record { at = λ k. k; same = λ k. ap (λ l. lines_from defs k (at_nodes l) (m ∷ ms)) (sym (append-nil nodes)) }
  nodes_read n nodes (x ∷ xs) m ms e few h =
      let small : n < 2 ^ 32 = omega arith in
      let more : suc (length (nodes ++ x ∷ [])) ≡ suc n = omega (arith, e, length-append nodes (x ∷ [])) in
      let fewer : length (nodes ++ x ∷ []) + length xs < 2 ^ 32 = omega (arith, few, length-append nodes (x ∷ [])) in
      let later = nodes_read (suc n) (nodes ++ x ∷ []) xs m ms more fewer h.1 in
      let rest : List (List ℕ) = node_lines defs (suc n) xs ++ (m ∷ ms) in
      record {
        at = λ k. later.at (k + 1);
        same = λ k.
            take_one defs k (at_nodes nodes) (at_nodes (nodes ++ x ∷ [])) (node_text defs n x) rest (some_append (node_lines defs (suc n) xs) m ms) refl (node_read n nodes x e small h.0)
            ∙ (later.same (k + 1) ∙ ap (λ l. lines_from defs (later.at (k + 1)) (at_nodes l) (m ∷ ms)) (append_assoc nodes (x ∷ []) xs));
      }

-- ---- claims

abbrev at_claims : Stage → List Node → List (ℕ × ℕ) → Reading
at_claims stage nodes claims = record { stage = stage; nodes = nodes; claims = claims }

rises_last : (done : List (ℕ × ℕ)) (c : ℕ × ℕ) (k : ℕ) → rises (done ++ c ∷ []) k ≡ nat_lt c.0 k
rises_last [] c k = refl
rises_last (a ∷ []) c k = refl
rises_last (a ∷ b ∷ done) c k = rises_last (b ∷ done) c k

is_below : (a k : ℕ) → suc a ≤ k → nat_lt a k ≡ true
is_below a k h = grind (arith, nat_tests)

claim_lined : (c : ℕ × ℕ) → Lined (claim_text c)
claim_lined c = clean_lined (claim_text c) (join (codes "claim ") (decimal c.0 ++ (32 ∷ decimal c.1)) (clean_by (codes "claim ") refl) (join (decimal c.0) (32 ∷ decimal c.1) (decimal_clean c.0) (refl, decimal_clean c.1)))

-- a line that begins with a word, at a stage that is not the last
by_first_word : (defs : Defs) (r : Reading) (line : List ℕ) → Lined line → begins_by 35 line ≡ false → is_digit_first (past_blanks line) ≡ false
    → later_line defs r line ≡ worded_line r line
by_first_word defs r line clean hash digit =
    (λ i. if lined_is_utf8 line clean i
    then (if begins_by 35 line then Ok r else (if takes_nodes r.stage && is_digit_first (past_blanks line) then node_line defs r line else worded_line r line)) else Err (Bad fault.Utf8))
    ∙ ((λ i. if hash i then Ok r else (if takes_nodes r.stage && is_digit_first (past_blanks line) then node_line defs r line else worded_line r line))
    ∙ ((λ i. if takes_nodes r.stage && digit i then node_line defs r line else worded_line r line) ∙ never (takes_nodes r.stage)))
  where
    never : (b : Bool) → (if b && false then node_line defs r line else worded_line r line) ≡ worded_line r line
    never true = refl
    never false = refl

claim_read : (defs : Defs) (stage : Stage) (nodes : List Node) (done : List (ℕ × ℕ)) (c : ℕ × ℕ) → rises done c.0 ≡ true → IsShort c.0 → 1 ≤ c.1 → c.1 ≤ length nodes → length nodes < 2 ^ 32
    → later_line defs (at_claims stage nodes done) (claim_text c) ≡ Ok (at_claims Claims nodes (done ++ c ∷ []))
claim_read defs stage nodes done c rise short low high few =
    let r : Reading = at_claims stage nodes done in
    let t : List ℕ = claim_text c in
    let rest : List ℕ = 32 ∷ (decimal c.0 ++ (32 ∷ decimal c.1)) in
    let spells = word_spells (2 ^ 126) (codes "claim") rest refl refl in
    let past = past_letter (codes "claim") rest spells.0.first in
    let name = run_back is_in_name (codes "claim") rest past spells.0.run in
    let behind_name = behind_back is_in_name (codes "claim") rest past spells.0.run in
    let one : c.1 < 2 ^ 32 = omega arith in
    let below : c.1 < suc (length nodes) = omega arith in
    let second : alone number (32 ∷ decimal c.1) ≡ Ok c.1 =
    subst (λ l. alone number (32 ∷ l) ≡ Ok c.1) (append-nil (decimal c.1)) (alone_back number c.1 (32 ∷ (decimal c.1 ++ [])) false (number_back c.1 [] one refl)) in
    by_first_word defs r t (claim_lined c) refl refl
    ∙ ((λ i. by_word r (name i) (behind_name i))
    ∙ (ap (λ o. or_bad (on_ok o (λ p. rising done p.0 p.1)) (add_claim r)) (number_back c.0 (32 ∷ decimal c.1) short refl)
    ∙ ((λ i. or_bad (if rise i then mapped (λ n. (c.0, n)) (alone number (32 ∷ decimal c.1)) else Err fault.Number) (add_claim r))
    ∙ (ap (λ o. or_bad (mapped (λ n. (c.0, n)) o) (add_claim r)) second
    ∙ (λ i. if earlier_is (suc (length nodes)) c.1 low below i then Ok (at_claims Claims nodes (done ++ c ∷ [])) else Err Forward)))))

-- the front of the line of an open claim
abbrev open_front : ℕ → List ℕ
open_front k = codes "# claim " ++ (decimal k ++ codes " unknown: ")

open_front_lined : (k : ℕ) → Lined (open_front k)
open_front_lined k =
    clean_lined (open_front k) (join (codes "# claim ") (decimal k ++ codes " unknown: ") (clean_by (codes "# claim ") refl)
    (join (decimal k) (codes " unknown: ") (decimal_clean k) (clean_by (codes " unknown: ") refl)))

open_line : (k : ℕ) (cause : List ℕ) → claim_line (claim.Open k cause) ≡ open_front k ++ cause
open_line k cause = ap (λ l. codes "# claim " ++ l) (sym (append_assoc (decimal k) (codes " unknown: ") cause))

open_avoids : (k : ℕ) (cause : List ℕ) → Avoids 10 cause → Avoids 10 (claim_line (claim.Open k cause))
open_avoids k cause h =
    subst (Avoids 10) (sym (open_line k cause)) (Avoids-append 10 (open_front k) cause (no_line_ends (open_front k) (open_front_lined k)) h)

open_is_utf8 : (k : ℕ) (cause : List ℕ) → IsUtf8 cause → is_utf8 (claim_line (claim.Open k cause)) ≡ true
open_is_utf8 k cause h =
    ap is_utf8 (open_line k cause)
    ∙ is_utf8-from_IsUtf8 (open_front k ++ cause) (IsUtf8-append (open_front k) cause (IsUtf8-from_ascii (open_front k) (ascii_at (open_front k) (open_front_lined k))) h)

-- the line of an open claim is passed over
open_read : (defs : Defs) (r : Reading) (k : ℕ) (cause : List ℕ) → IsUtf8 cause → later_line defs r (claim_line (claim.Open k cause)) ≡ Ok r
open_read defs r k cause h = λ i. if open_is_utf8 k cause h i then Ok r else Err (Bad fault.Utf8)

record Claimed (defs : Defs) (nodes : List Node) (stage : Stage) (done : List (ℕ × ℕ)) (cs : List ClaimLine) (from to : List (List ℕ)) : Type 0 where
  stage_after : Stage
  going : has_ended stage_after ≡ false
  leads : LeadsTo defs (at_claims stage nodes done) (at_claims stage_after nodes (done ++ shown_claims cs)) from to

claims_read : (defs : Defs) (stage : Stage) (nodes : List Node) (done : List (ℕ × ℕ)) (cs : List ClaimLine) (low : ℕ) (m : List ℕ) (ms : List (List ℕ)) → has_ended stage ≡ false
    → ((k : ℕ) → low ≤ k → rises done k ≡ true) → length nodes < 2 ^ 32 → ClaimsRise (length nodes) low (shown_claims cs) → AllByRecursion CauseIsWritable cs
    → Claimed defs nodes stage done cs (all_claim_lines cs ++ (m ∷ ms)) (m ∷ ms)
claims_read defs stage nodes done [] low m ms going rise few h causes = record {
  stage_after = stage;
  going = going;
  leads = record { at = λ k. k; same = λ k. ap (λ l. lines_from defs k (at_claims stage nodes l) (m ∷ ms)) (sym (append-nil done)) };
}
claims_read defs stage nodes done (claim.Shown c n ∷ cs) low m ms going rise few h causes =
    let later = claims_read defs Claims nodes (done ++ (c, n) ∷ []) cs (suc c) m ms refl (λ k le. rises_last done (c, n) k ∙ is_below c k le) few h.1.1.1.1 causes.1 in
    let rest : List (List ℕ) = all_claim_lines cs ++ (m ∷ ms) in
    record {
      stage_after = later.stage_after;
      going = later.going;
      leads = record {
        at = λ k. later.leads.at (k + 1);
        same = λ k.
            take_one defs k (at_claims stage nodes done) (at_claims Claims nodes (done ++ (c, n) ∷ [])) (claim_text (c, n)) rest (some_append (all_claim_lines cs) m ms) going
            (claim_read defs stage nodes done (c, n) (rise c h.0) h.1.0 h.1.1.0 h.1.1.1.0 few)
            ∙ (later.leads.same (k + 1) ∙ ap (λ l. lines_from defs (later.leads.at (k + 1)) (at_claims later.stage_after nodes l) (m ∷ ms)) (append_assoc done ((c, n) ∷ []) (shown_claims cs)));
      };
    }
claims_read defs stage nodes done (claim.Open c cause ∷ cs) low m ms going rise few h causes =
    let later = claims_read defs stage nodes done cs low m ms going rise few h causes.1 in
    let rest : List (List ℕ) = all_claim_lines cs ++ (m ∷ ms) in
    let r : Reading = at_claims stage nodes done in
    record {
      stage_after = later.stage_after;
      going = later.going;
      leads = record {
        at = λ k. later.leads.at (k + 1);
        same = λ k.
            take_one defs k r r (claim_line (claim.Open c cause)) rest (some_append (all_claim_lines cs) m ms) going (open_read defs r c cause causes.0.0)
            ∙ later.leads.same (k + 1);
      };
    }

-- ---- the last line and the first

end_read : (defs : Defs) (r : Reading) → later_line defs r (codes "end") ≡ Ok (record { stage = Ended; nodes = r.nodes; claims = r.claims })
end_read defs r = by_first_word defs r (codes "end") (lined_by (codes "end") refl) refl refl

first_read : first_line (codes "derivation 1") ≡ Ok tt
first_read = λ i. if lined_is_utf8 (codes "derivation 1") (lined_by (codes "derivation 1") refl) i then or_bad (Ok 1) known else Err (Bad fault.Utf8)

all_append : (xs ys : List (List ℕ)) → AllByRecursion (Avoids 10) xs → AllByRecursion (Avoids 10) ys → AllByRecursion (Avoids 10) (xs ++ ys)
all_append [] ys h g = g
all_append (x ∷ xs) ys h g = (h.0, all_append xs ys h.1 g)

nodes_clean : (defs : Defs) → DefsAreWritable defs → (n : ℕ) (xs : List Node) → AllByRecursion (Avoids 10) (node_lines defs n xs)
nodes_clean defs fit n [] = tt
nodes_clean defs fit n (x ∷ xs) = (no_line_ends (node_text defs n x) (node_lined defs fit n x), nodes_clean defs fit (suc n) xs)

claims_clean : (cs : List ClaimLine) → AllByRecursion CauseIsWritable cs → AllByRecursion (Avoids 10) (all_claim_lines cs)
claims_clean [] h = tt
claims_clean (claim.Shown k n ∷ cs) h = (no_line_ends (claim_text (k, n)) (claim_lined (k, n)), claims_clean cs h.1)
claims_clean (claim.Open k cause ∷ cs) h = (open_avoids k cause h.0.1, claims_clean cs h.1)

started : (defs : Defs) (line : List ℕ) (rest : List (List ℕ)) → IsSome rest → first_line line ≡ Ok tt → all_lines defs (line ∷ rest) ≡ lines_from defs 2 nothing_read rest
started defs line [] some e = absurd some
started defs line (m ∷ rest) some e = ap (λ o. after_first o (lines_from defs 2 nothing_read (m ∷ rest))) e

some_both : (xs ys zs : List (List ℕ)) → IsSome zs → IsSome (xs ++ (ys ++ zs))
some_both [] [] zs h = h
some_both [] (y ∷ ys) zs h = tt
some_both (x ∷ xs) ys zs h = tt

-- all nodes, before lines of which there is one at least
nodes_through : (defs : Defs) → DefsAreWritable defs → (xs : List Node) (ys zs : List (List ℕ)) → length xs < 2 ^ 32 → NodesAreWritable defs 1 xs → IsSome zs
    → LeadsTo defs nothing_read (at_nodes xs) (node_lines defs 1 xs ++ (ys ++ zs)) (ys ++ zs)
nodes_through defs fit xs [] [] few h some = absurd some
nodes_through defs fit xs [] (z ∷ zs) few h some = nodes_read defs fit 1 [] xs z zs refl (omega arith) h
nodes_through defs fit xs (y ∷ ys) zs few h some = nodes_read defs fit 1 [] xs y (ys ++ zs) refl (omega arith) h

one_line : (w : List ℕ) → IsTrue (all_clean w) → Avoids 10 w
one_line w h = no_line_ends w (lined_by w h)

pub proved_comes_back : ProvedComesBack
proved_comes_back defs nodes lines h causes =
    let ns : List (List ℕ) = node_lines defs 1 nodes in
    let cs : List (List ℕ) = all_claim_lines lines in
    let final : List (List ℕ) = codes "end" ∷ [] ∷ [] in
    let cut : cut_at 10 (proved_text defs nodes lines) ≡ codes "derivation 1" ∷ ((ns ++ (cs ++ codes "end" ∷ [])) ++ [] ∷ []) =
    lines_cut (proved_lines defs nodes lines) (
      one_line (codes "derivation 1") refl,
      all_append ns (cs ++ codes "end" ∷ []) (nodes_clean defs h.defs_fit 1 nodes)
          (all_append cs (codes "end" ∷ []) (claims_clean lines causes) (one_line (codes "end") refl, tt)),
    ) in
    let shape : (ns ++ (cs ++ codes "end" ∷ [])) ++ [] ∷ [] ≡ ns ++ (cs ++ final) =
    append_assoc ns (cs ++ codes "end" ∷ []) ([] ∷ []) ∙ ap (λ l. ns ++ l) (append_assoc cs (codes "end" ∷ []) ([] ∷ [])) in
    let claims = claims_read defs Nodes nodes [] lines 0 (codes "end") ([] ∷ []) refl (λ k le. refl) h.few h.claims causes in
    let through : LeadsTo defs nothing_read (at_nodes nodes) (ns ++ (cs ++ final)) (cs ++ final) = nodes_through defs h.defs_fit nodes cs final h.few h.nodes tt in
    let last : Reading = at_claims claims.stage_after nodes (shown_claims lines) in
    ap (all_lines defs) (cut ∙ ap (λ l. codes "derivation 1" ∷ l) shape)
    ∙ (started defs (codes "derivation 1") (ns ++ (cs ++ final)) (some_both ns cs final tt) first_read
    ∙ (through.same 2
    ∙ (claims.leads.same (through.at 2)
    ∙ take_one defs (claims.leads.at (through.at 2)) last (record { stage = Ended; nodes = nodes; claims = shown_claims lines }) (codes "end") ([] ∷ []) tt claims.going (end_read defs last))))

-- ---- derivations

shown_causes : (cs : List (ℕ × ℕ)) → AllByRecursion CauseIsWritable (map shown cs)
shown_causes [] = tt
shown_causes (c ∷ cs) = (tt, shown_causes cs)

proved_shown : (d : Derivation) → proved d.nodes (map shown d.claims) ≡ d
proved_shown d = ap (λ (l : List (ℕ × ℕ)). record { nodes = d.nodes; claims = l }) (shown_claims-shown d.claims)

pub derivations_come_back : DerivationsComeBack
derivations_come_back defs d h =
    ap (derivation_of defs) (derivation_text-proved defs d)
    ∙ (proved_comes_back defs d.nodes (map shown d.claims) (subst (DerivationIsWritable defs) (sym (proved_shown d)) h) (shown_causes d.claims)
    ∙ ap Ok (proved_shown d))
