-- One claim more, and claims one behind another.
use Rattle.std.proofs.Common.{◌≡◌, ℕ, suc, ◌+◌, List, [], ◌∷◌, ◌++◌, length, Option, refl, sym, ap, ◌∙◌, subst, append_assoc, append-nil, length-append, inl, inr}
use Rattle.hs_heap.specs.declared.definitions.Defs.{Defs}
use Rattle.hs_goal.specs.declared.rule.Limits.{Limits}
use Rattle.hs_core.specs.declared.program.Program.{Program}
use Rattle.hs_node.specs.declared.derivation.Node.{Node}
use Rattle.hs_dtext.specs.declared.claims.ClaimLine.{ClaimLine}
use Rattle.hs_dtext.specs.declared.claims.ClaimLine.TheVariants as line
use Rattle.hs_proof_lines.specs.declared.written.Written.{Written}
use Rattle.hs_proof_lines.specs.Proved.{Subject, AreWritten, IsWritten, MayBeProved, IsProvedBy, IsBarred, IsOpenFor}
use Rattle.hs_proof_lines.specs.Growing.{Adds}

module _ (defs : Defs) (program : Program) (limits : Limits) (unshown : Option (List ℕ)) where
  -- there is a line for each
  each : (subjects : List Subject) (nodes : List Node) (lines : List ClaimLine) → AreWritten defs program limits unshown subjects nodes lines → length lines ≡ length subjects
  each _ _ _ AreWritten.nothing = refl
  each _ _ _ (AreWritten.more {subjects} {nodes} {lines} own s l w is) =
      length-append lines (l ∷ []) ∙ ap (λ k. k + 1) (each subjects nodes lines w) ∙ sym (length-append subjects (s ∷ []))

  -- one more
  one : (s : Subject) (old new : Written) (own : List Node) (l : ClaimLine) → new.nodes ≡ old.nodes ++ own → new.lines ≡ old.lines ++ l ∷ []
      → IsWritten defs program limits unshown (suc (length old.lines)) s (length old.nodes) own l → Adds defs program limits unshown (s ∷ []) old new
  one s old new own l nodes lines is = record {
    more = λ before w.
        let here = subst (λ (k : ℕ). IsWritten defs program limits unshown (suc k) s (length old.nodes) own l) (each before old.nodes old.lines w) is in
        subst (λ (ns : List Node). AreWritten defs program limits unshown (before ++ s ∷ []) ns new.lines) (sym nodes)
        (subst (λ (ls : List ClaimLine). AreWritten defs program limits unshown (before ++ s ∷ []) (old.nodes ++ own) ls) (sym lines) (AreWritten.more own s l w here));
  }

  -- a claim that is proved by nodes that were put behind
  pub shown : (s : Subject) (old new : Written) (all own : List Node) (node : ℕ) → all ≡ old.nodes ++ own → node ≡ length all
      → new.nodes ≡ all → new.lines ≡ old.lines ++ line.Shown (suc (length old.lines)) node ∷ []
      → MayBeProved defs program limits unshown s → IsProvedBy defs program limits s (length old.nodes) own → Adds defs program limits unshown (s ∷ []) old new
  shown s old new all own node put last nodes lines may proof =
      one s old new own (line.Shown (suc (length old.lines)) node) (nodes ∙ put) lines (refl, may, proof, last ∙ ap length put ∙ length-append old.nodes own)

  -- a claim that is open
  opened : (s : Subject) (old new : Written) (cause : List ℕ) → new.nodes ≡ old.nodes → new.lines ≡ old.lines ++ line.Open (suc (length old.lines)) cause ∷ []
      → IsWritten defs program limits unshown (suc (length old.lines)) s (length old.nodes) [] (line.Open (suc (length old.lines)) cause) → Adds defs program limits unshown (s ∷ []) old new
  opened s old new cause nodes lines is = one s old new [] (line.Open (suc (length old.lines)) cause) (nodes ∙ sym (append-nil old.nodes)) lines is

  pub barred : (s : Subject) (old new : Written) (cause : List ℕ) → new.nodes ≡ old.nodes → new.lines ≡ old.lines ++ line.Open (suc (length old.lines)) cause ∷ []
      → IsBarred defs program limits unshown s cause → Adds defs program limits unshown (s ∷ []) old new
  barred s old new cause nodes lines is = opened s old new cause nodes lines (refl, refl, inl is)

  pub open_for : (s : Subject) (old new : Written) (cause : List ℕ) → new.nodes ≡ old.nodes → new.lines ≡ old.lines ++ line.Open (suc (length old.lines)) cause ∷ []
      → MayBeProved defs program limits unshown s → IsOpenFor defs program limits s cause → Adds defs program limits unshown (s ∷ []) old new
  open_for s old new cause nodes lines may is = opened s old new cause nodes lines (refl, refl, inr (may, is))

  -- ---- one behind another

  pub none : (w : Written) → Adds defs program limits unshown [] w w
  none w = record {
    more = λ before h. subst (λ (ss : List Subject). AreWritten defs program limits unshown ss w.nodes w.lines) (sym (append-nil before)) h;
  }

  pub then : (xs ys all : List Subject) (a b c : Written) → Adds defs program limits unshown xs a b → Adds defs program limits unshown ys b c → all ≡ xs ++ ys
      → Adds defs program limits unshown all a c
  then xs ys all a b c first second is = record {
    more = λ before h.
        subst (λ (ss : List Subject). AreWritten defs program limits unshown ss c.nodes c.lines)
        (append_assoc before xs ys ∙ ap (λ (ss : List Subject). before ++ ss) (sym is)) (second.more (before ++ xs) (first.more before h));
  }

  -- all of them, behind none
  pub whole : (all : List Subject) (w b : Written) → b.nodes ≡ [] → b.lines ≡ [] → Adds defs program limits unshown all b w → AreWritten defs program limits unshown all w.nodes w.lines
  whole all w b nodes lines adds =
      adds.more [] (subst (λ (ns : List Node). AreWritten defs program limits unshown [] ns b.lines) (sym nodes)
      (subst (λ (ls : List ClaimLine). AreWritten defs program limits unshown [] [] ls) (sym lines) AreWritten.nothing))
