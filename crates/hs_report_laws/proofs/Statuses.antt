-- What the status 0 says of the lines of a report.
use Rattle.std.proofs.Common.{◌≡◌, ℕ, Bool, true, false, ◌&&◌, List, [], ◌∷◌, ◌++◌, Option, Some, None, refl, arith}
use Rattle.hs_check.specs.declared.verdict.Verdict.{Verdict}
use Rattle.hs_check.specs.declared.verdict.Verdict.TheVariants.{Accepted, Refused, MissingClaim, Stopped}
use Rattle.hs_print.specs.declared.line.Line.{Line}
use Rattle.hs_print.specs.declared.line.Line.TheVariants as line
use Rattle.hs_pred_lines.specs.Lines.{unshown, or_later, first_unshown}
use Rattle.hs_proof_lines.specs.Checked.{verdict_line}
use Rattle.hs_tool.specs.Status.{is_good, all_good, by_verdicts, status_of}

pub left : (a b : Bool) → (a && b) ≡ true → a ≡ true
left true b e = refl
left false b e = absurd cc

pub right : (a b : Bool) → (a && b) ≡ true → b ≡ true
right true b e = e
right false b e = absurd cc

both : (a b : Bool) → a ≡ true → b ≡ true → (a && b) ≡ true
both true b e f = f
both false b e f = absurd cc

good_of : (good : Bool) → by_verdicts good ≡ 0 → good ≡ true
good_of true e = refl
good_of false e = absurd (omega (arith, e))

-- ---- several lines

pub good_front : (xs ys : List Line) → all_good (xs ++ ys) ≡ true → all_good xs ≡ true
good_front [] ys e = refl
good_front (x ∷ xs) ys e = both (is_good x) (all_good xs) (left (is_good x) (all_good (xs ++ ys)) e) (good_front xs ys (right (is_good x) (all_good (xs ++ ys)) e))

pub good_behind : (xs ys : List Line) → all_good (xs ++ ys) ≡ true → all_good ys ≡ true
good_behind [] ys e = e
good_behind (x ∷ xs) ys e = good_behind xs ys (right (is_good x) (all_good (xs ++ ys)) e)

-- the lines before a last one are good
pub good_before : (lines : List Line) (last : Line) → status_of (lines ++ last ∷ []) ≡ 0 → all_good lines ≡ true
good_before [] last e = refl
good_before (l ∷ []) last e = good_front (l ∷ []) (last ∷ []) (good_of (all_good (l ∷ (last ∷ []))) e)
good_before (l ∷ (m ∷ lines)) last e = good_front (l ∷ (m ∷ lines)) (last ∷ []) (good_of (all_good (l ∷ (m ∷ (lines ++ last ∷ [])))) e)

-- ---- predicates

none_unshown : (l : Line) → is_good l ≡ true → unshown l ≡ None
none_unshown (line.Fails pred values) e = absurd cc
none_unshown (line.InvStopped pred cause) e = absurd cc
none_unshown l e = refl

none_later : (a b : Option (List ℕ)) → a ≡ None → b ≡ None → or_later a b ≡ None
none_later None b e f = f
none_later (Some name) b e f = absurd cc

-- good lines show all predicates
pub all_shown : (preds : List Line) → all_good preds ≡ true → first_unshown preds ≡ None
all_shown [] e = refl
all_shown (l ∷ preds) e =
    none_later (unshown l) (first_unshown preds) (none_unshown l (left (is_good l) (all_good preds) e)) (all_shown preds (right (is_good l) (all_good preds) e))

-- ---- one line

-- the verdict of a good line
pub verdict_accepts : (nodes claims : ℕ) (v : Verdict) → status_of (verdict_line nodes claims v ∷ []) ≡ 0 → v ≡ Accepted
verdict_accepts nodes claims Accepted e = refl
verdict_accepts nodes claims (Refused k reason) e = absurd (omega (arith, e))
verdict_accepts nodes claims (MissingClaim k) e = absurd (omega (arith, e))
verdict_accepts nodes claims (Stopped k spent) e = absurd (omega (arith, e))

-- a text of derivations that leaves nothing unproved
pub text_proves : (text : List ℕ) (unproved : Bool) → status_of (line.DerivationText text unproved ∷ []) ≡ 0 → unproved ≡ false
text_proves text false e = refl
text_proves text true e = absurd (omega (arith, e))
