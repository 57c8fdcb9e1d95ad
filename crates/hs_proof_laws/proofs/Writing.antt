-- What is written of a source and its program is right.
use Rattle.std.proofs.Common.{◌≡◌, ℕ, zero, suc, ◌+◌, ◌-◌, ◌≤◌, ◌⊎◌, inl, inr, Bool, true, false, ◌||◌, nat_le, IsSome, List, [], ◌∷◌, ◌++◌, map, length, Option, Some, IsSomeAnd, slice_get, slice_index_or, refl, sym, ap, ◌∙◌, subst, append_assoc, append-nil, arith}
use Rattle.std.specs.List.{All, Any, list_any}
use Rattle.std.proofs.lemmas.Bool.{cases_Bool}
use Rattle.std.proofs.lemmas.Bool.Decides.{nat_tests}
use Rattle.std.proofs.lemmas.List.{map-append, length-append, length-map}
use Rattle.std.proofs.lemmas.List.Elements.{All-nil, All-cons, All-head, All-tail, All-push, All-weaker}
use Rattle.std.proofs.lemmas.List.Folds.{list_any-append}
use Rattle.hs_heap.specs.declared.formula.Formula.{Formula}
use Rattle.hs_heap.specs.declared.definitions.Defs.{Defs}
use Rattle.hs_heap.specs.Meaning.{pred_at}
use Rattle.hs_goal.specs.declared.goal.Goal.{Goal}
use Rattle.hs_goal.specs.declared.rule.Limits.{Limits}
use Rattle.hs_core.specs.Sound.{IsUpTo}
use Rattle.hs_core.specs.declared.program.Program.{Program}
use Rattle.hs_xpure.specs.Invariants.{InvariantFollows}
use Rattle.hs_erule.specs.declared.step.Proof.{Proof}
use Rattle.hs_steps.specs.Joined.{residue_shown}
use Rattle.hs_steps.specs.Steps.{IsProofOf}
use Rattle.hs_node.specs.declared.claim.Claim.{Claim}
use Rattle.hs_node.specs.declared.claim.Claim.TheVariants as claim
use Rattle.hs_node.specs.declared.derivation.Node.{Node}
use Rattle.hs_norm.specs.declared.resolved.Resolved.{Resolved}
use Rattle.hs_claims.specs.Claims.{goal_of, claims_of}
use Rattle.hs_check.specs.Listed.{Claims, IsClaimed}
use Rattle.hs_judge.specs.Named.{item_at}
use Rattle.hs_judge.specs.Listed.{Concludes, calculus_of, claim_count}
use Rattle.hs_proof_nodes.specs.Laws.{ProofsAreRightNodes}
use Rattle.hs_proof_nodes.specs.Placed.{placed}
use Rattle.hs_proof_nodes.specs.Right.{AreRightNodes, IsRightNode}
use Rattle.hs_proof_nodes.proofs.Places.{get_before, get_map, get_at, got_within, right_push}
use Rattle.hs_dtext.specs.declared.claims.ClaimLine.{ClaimLine}
use Rattle.hs_dtext.specs.declared.claims.ClaimLine.TheVariants as line
use Rattle.hs_dtext.specs.Text.{shown_claims}
use Rattle.hs_proof_lines.specs.Proved.{Subject, invariant_node, moved_node, moved, is_open, IsProvedBy, IsWritten, AreWritten, subjects_of}
use Rattle.hs_proof_lines.specs.Proved.AreWritten.{nothing, more}
use Rattle.hs_proof_laws.specs.Laws.{IsRightText, ProvedTextsAreRight}
use Rattle.hs_proof_laws.proofs.Moving.{moved_nodes_are_right}
use Rattle.hs_proof_laws.proofs.Claiming.{claim_of, subjects_claim, IsThere, all_there}

-- ---- the last of some nodes concludes a claim

record Ends (nodes : List Node) (claim : Claim) : Type 0 where
  place : ℕ
  number : suc place ≡ length nodes
  node : Node
  there : slice_get nodes place ≡ Some node
  concludes : Concludes claim node.judgement

ends_with : (nodes front : List Node) (last : Node) (claim : Claim) → nodes ≡ front ++ last ∷ [] → Concludes claim last.judgement → Ends nodes claim
ends_with nodes front last claim is concludes =
    subst (λ (all : List Node). Ends all claim) (sym is)
    (record { place = length front; number = sym (one_longer front); node = last; there = get_at front [] last; concludes = concludes })
  where
    one_longer : (xs : List Node) → length (xs ++ last ∷ []) ≡ suc (length xs)
    one_longer [] = refl
    one_longer (x ∷ xs) = ap suc (one_longer xs)

-- ---- one claim

module _ (defs : Defs) (program : Program) (limits : Limits) (law : ProofsAreRightNodes) where
  -- right nodes, of which the last concludes the claim
  abbrev AreRightTo : Subject → List Node → Type 0
  AreRightTo s nodes = AreRightNodes defs program nodes × Ends nodes (claim_of program s)

  by_proof : (nodes : List Node) (g : Goal) (residue : Formula) (p : Proof) → AreRightNodes defs program nodes → IsProofOf defs g residue p →
      AreRightNodes defs program (nodes ++ placed (length nodes) p) × Ends (nodes ++ placed (length nodes) p) (claim.Entails g)
  by_proof nodes g residue p right proof =
      let both = law defs program nodes g residue p right proof in
      let all : List Node = nodes ++ placed (length nodes) p in
      let says = both.1 in (
        both.0,
        record {
          place = length all - 1;
          number = omega (arith, says.first);
          node = says.node;
          there = says.there;
          concludes = subst (Concludes (claim.Entails g)) (sym says.says) refl;
        },
      )

  proved_right : (s : Subject) (nodes own : List Node) → IsThere defs s → AreRightNodes defs program nodes → IsProvedBy defs program limits s (length nodes) own → AreRightTo s (nodes ++ own)
  proved_right (Subject.invariant number p names) nodes own there right h =
      let n : Node = invariant_node number in
      let follows : IsSomeAnd (pred_at defs number) (InvariantFollows defs) = subst (λ x. IsSomeAnd x (InvariantFollows defs)) (sym there) h.0 in
      let shape : IsSome (pred_at defs number) = subst IsSome (sym there) refl in
      let is : IsRightNode defs program nodes n = record {
        passes = record { shape = shape; applies = tt; premises = record { earlier = All-nil (IsUpTo (length nodes)); stated = refl }; residue = tt };
        answered = follows;
      } in
      subst (λ (own : List Node). AreRightTo (Subject.invariant number p names) (nodes ++ own)) (sym h.1)
      (right_push defs program nodes n right is, ends_with (nodes ++ n ∷ []) nodes n (claim_of program (Subject.invariant number p names)) refl refl)
  proved_right (Subject.entailment e) nodes own there right h =
      let p : Proof = h.0 in
      let proof : IsProofOf defs (goal_of e) (residue_shown p) p = All-head (λ (p : Proof). IsProofOf defs (goal_of e) (residue_shown p) p) p h.1 h.2.right in
      subst (λ (own : List Node). AreRightTo (Subject.entailment e) (nodes ++ own)) (sym h.3) (by_proof nodes (goal_of e) (residue_shown p) p right proof)
  proved_right (Subject.pair m i p) nodes own there right h =
      let d = h.0 in
      let derivation = h.1.1 in
      let n : ℕ = length nodes in
      let f : Node → Node = moved_node n in
      let front : List Node = nodes ++ moved n derivation.front in
      let is : nodes ++ moved n d.nodes ≡ front ++ f derivation.last ∷ [] =
      ap (λ (ns : List Node). nodes ++ moved n ns) derivation.ends ∙ ap (λ (ns : List Node). nodes ++ ns) (map-append f derivation.front (derivation.last ∷ []))
      ∙ sym (append_assoc nodes (moved n derivation.front) (f derivation.last ∷ [])) in
      let concludes : Concludes (claim_of program (Subject.pair m i p)) derivation.last.judgement = subst (Concludes (claim_of program (Subject.pair m i p))) (sym derivation.concludes) refl in
      subst (λ (own : List Node). AreRightTo (Subject.pair m i p) (nodes ++ own)) (sym h.2)
      (moved_nodes_are_right defs program nodes d.nodes right derivation.right, ends_with (nodes ++ moved n d.nodes) front (f derivation.last) (claim_of program (Subject.pair m i p)) is concludes)

-- ---- all claims

-- the line names a node that concludes the claim of its number
record IsConcluded (program : Program) (subjects : List Subject) (nodes : List Node) (l : ℕ × ℕ) : Type 0 where
  subject : Subject
  is : item_at subjects l.0 ≡ Some subject
  place : ℕ
  number : suc place ≡ l.1
  node : Node
  there : slice_get nodes place ≡ Some node
  concludes : Concludes (claim_of program subject) node.judgement

item_before : {X : Type 0} (xs after : List X) (k : ℕ) (x : X) → item_at xs k ≡ Some x → item_at (xs ++ after) k ≡ Some x
item_before xs after zero x h = absurd cc
item_before xs after (suc k) x h = get_before xs after k x h

shown_more : (xs : List ClaimLine) (l : ClaimLine) → shown_claims (xs ++ l ∷ []) ≡ shown_claims xs ++ shown_claims (l ∷ [])
shown_more [] l = refl
shown_more (line.Shown k n ∷ xs) l = ap (λ (ls : List (ℕ × ℕ)). (k, n) ∷ ls) (shown_more xs l)
shown_more (line.Open k cause ∷ xs) l = shown_more xs l

-- ---- lists

module _ {X : Type 0} (P : X → Type 0) where
  all_at : (xs : List X) (i : ℕ) (x : X) → slice_get xs i ≡ Some x → All P xs → P x
  all_at [] i x e h = absurd cc
  all_at (y ∷ xs) zero x e h = let is : y ≡ x = cc in subst P is (All-head P y xs h)
  all_at (y ∷ xs) (suc i) x e h = all_at xs i x e (All-tail P y xs h)

  got_or : (xs : List X) (i : ℕ) (x : X) → slice_get xs i ≡ Some x → slice_index_or xs i x ≡ x
  got_or [] i x e = absurd cc
  got_or (y ∷ xs) zero x e = cc
  got_or (y ∷ xs) (suc i) x e = got_or xs i x e

  All-before : (xs after : List X) → All P (xs ++ after) → All P xs
  All-before [] after h = All-nil P
  All-before (x ∷ xs) after h = All-cons P x xs (All-head P x (xs ++ after) h) (All-before xs after (All-tail P x (xs ++ after) h))

  any_at : (xs : List X) (i : ℕ) (x : X) → slice_get xs i ≡ Some x → P x → Any P xs
  any_at xs i x e p = (i, x, got_within xs i x e, got_or xs i x e, p)

-- up to one more: up to, or that one
last_or_before : (k n : ℕ) → k ≤ suc n → (k ≤ n) ⊎ (k ≡ suc n)
last_or_before k n le = elim (cases_Bool (nat_le k n)) [
  | inl is ↦ let low : k ≤ n = grind (arith, nat_tests) in inl low
  | inr other ↦ let e : k ≡ suc n = grind (arith, nat_tests) in inr e
]

-- ---- all lines

-- a line is of this claim
abbrev HasLine : List (ℕ × ℕ) → ℕ → Type 0
HasLine ls k = (i : ℕ) × (l : ℕ × ℕ) × (slice_get ls i ≡ Some l) × (l.0 ≡ k)

line_before : (ls after : List (ℕ × ℕ)) (k : ℕ) → HasLine ls k → HasLine (ls ++ after) k
line_before ls after k h = (h.0, h.1, get_before ls after h.0 h.1 h.2, h.3)

module _ (program : Program) where
  concluded_before : (subjects : List Subject) (s : Subject) (nodes own : List Node) (l : ℕ × ℕ) → IsConcluded program subjects nodes l → IsConcluded program (subjects ++ s ∷ []) (nodes ++ own) l
  concluded_before subjects s nodes own l h = record {
    subject = h.subject;
    is = item_before subjects (s ∷ []) l.0 h.subject h.is;
    place = h.place;
    number = h.number;
    node = h.node;
    there = get_before nodes own h.place h.node h.there;
    concludes = h.concludes;
  }

-- what is known of lines
record IsKnown (defs : Defs) (program : Program) (subjects : List Subject) (nodes : List Node) (lines : List ClaimLine) : Type 0 where
  right : AreRightNodes defs program nodes
  concluded : All (IsConcluded program subjects nodes) (shown_claims lines)
  each : length lines ≡ length subjects
  listed : list_any is_open lines ≡ false → (k : ℕ) → 1 ≤ k → k ≤ length subjects → HasLine (shown_claims lines) k

module _ (defs : Defs) (program : Program) (limits : Limits) (unshown : Option (List ℕ)) (law : ProofsAreRightNodes) where
  module _ (subjects : List Subject) (nodes own : List Node) (lines : List ClaimLine) (s : Subject) where
    abbrev grown : List Subject
    grown = subjects ++ s ∷ []

    subjects_longer : length grown ≡ suc (length subjects)
    subjects_longer = let e = length-append subjects (s ∷ []) in omega (arith, e)

    lines_longer : (l : ClaimLine) → length lines ≡ length subjects → length (lines ++ l ∷ []) ≡ length grown
    lines_longer l e = let f = length-append lines (l ∷ []) in let g = subjects_longer in omega (arith, e, f, g)

    known_before : IsKnown defs program subjects nodes lines → All (IsConcluded program grown (nodes ++ own)) (shown_claims lines)
    known_before h = All-weaker (IsConcluded program subjects nodes) (IsConcluded program grown (nodes ++ own)) (concluded_before program subjects s nodes own) (shown_claims lines) h.concluded

    known_open : (k : ℕ) (cause : List ℕ) → IsKnown defs program subjects nodes lines → own ≡ [] → IsKnown defs program grown (nodes ++ own) (lines ++ line.Open k cause ∷ [])
    known_open k cause h none = record {
      right = subst (AreRightNodes defs program) (sym same) h.right;
      concluded = subst (All (IsConcluded program grown (nodes ++ own))) (sym (shown_more lines (line.Open k cause) ∙ append-nil (shown_claims lines))) (known_before h);
      each = lines_longer (line.Open k cause) h.each;
      listed = λ closed. let f = list_any-append is_open lines (line.Open k cause ∷ []) in absurd (some_open (list_any is_open lines) (sym f ∙ closed));
    }
      where
        same : nodes ++ own ≡ nodes
        same = ap (λ (ns : List Node). nodes ++ ns) none ∙ append-nil nodes

        some_open : (b : Bool) → (b || true) ≡ false → ⊥
        some_open true e = cc
        some_open false e = cc

    known_shown : (k node : ℕ) → IsKnown defs program subjects nodes lines → IsThere defs s → k ≡ suc (length subjects) → IsProvedBy defs program limits s (length nodes) own →
        node ≡ length nodes + length own → IsKnown defs program grown (nodes ++ own) (lines ++ line.Shown k node ∷ [])
    known_shown k node h there number proved last = record {
      right = both.0;
      concluded = subst (All (IsConcluded program grown (nodes ++ own))) (sym shown) (All-push (IsConcluded program grown (nodes ++ own)) (shown_claims lines) (k, node) (known_before h) here);
      each = lines_longer (line.Shown k node) h.each;
      listed = listed;
    }
      where
        both : AreRightTo defs program limits law s (nodes ++ own)
        both = proved_right defs program limits law s nodes own there h.right proved

        shown : shown_claims (lines ++ line.Shown k node ∷ []) ≡ shown_claims lines ++ (k, node) ∷ []
        shown = shown_more lines (line.Shown k node)

        ends : suc both.1.place ≡ node
        ends = both.1.number ∙ length-append nodes own ∙ sym last

        here : IsConcluded program grown (nodes ++ own) (k, node)
        here = record {
          subject = s;
          is = subst (λ k. item_at grown k ≡ Some s) (sym number) (get_at subjects [] s);
          place = both.1.place;
          number = ends;
          node = both.1.node;
          there = both.1.there;
          concludes = both.1.concludes;
        }

        no_open : (b : Bool) → (b || false) ≡ false → b ≡ false
        no_open true e = e
        no_open false e = e

        listed : list_any is_open (lines ++ line.Shown k node ∷ []) ≡ false → (j : ℕ) → 1 ≤ j → j ≤ length grown → HasLine (shown_claims (lines ++ line.Shown k node ∷ [])) j
        listed closed j first le =
            let f = list_any-append is_open lines (line.Shown k node ∷ []) in
            let before : list_any is_open lines ≡ false = no_open (list_any is_open lines) (sym f ∙ closed) in
            let long = subjects_longer in
            subst (λ ls. HasLine ls j) (sym shown) (elim (last_or_before j (length subjects) (omega (arith, le, long))) [
              | inl low ↦ line_before (shown_claims lines) ((k, node) ∷ []) j (h.listed before j first low)
              | inr e ↦ (length (shown_claims lines), (k, node), get_at (shown_claims lines) [] (k, node), number ∙ sym e)
            ])

  known_more : (subjects : List Subject) (nodes own : List Node) (lines : List ClaimLine) (s : Subject) (l : ClaimLine) → IsThere defs s → IsKnown defs program subjects nodes lines →
      IsWritten defs program limits unshown (suc (length subjects)) s (length nodes) own l → IsKnown defs program (subjects ++ s ∷ []) (nodes ++ own) (lines ++ l ∷ [])
  known_more subjects nodes own lines s (line.Shown k node) there h w = known_shown subjects nodes own lines s k node h there w.0 w.2 w.3
  known_more subjects nodes own lines s (line.Open k cause) there h w = known_open subjects nodes own lines s k cause h w.1

  known : {subjects : List Subject} {nodes : List Node} {lines : List ClaimLine} → AreWritten defs program limits unshown subjects nodes lines → All (IsThere defs) subjects → IsKnown defs program subjects nodes lines
  known nothing all = record { right = λ i less. absurd (omega (arith, less)); concluded = All-nil (IsConcluded program [] []); each = refl; listed = λ closed k first le. absurd (omega (arith, first, le)) }
  known (more {subjects = subjects} {nodes = nodes} {lines = lines} own s l before w) all =
      let there = get_at subjects [] s in
      known_more subjects nodes own lines s l (all_at (IsThere defs) (subjects ++ s ∷ []) (length subjects) s there all)
      (known before (All-before (IsThere defs) subjects (s ∷ []) all)) w

-- ---- what the layers above use

module _ (r : Resolved) (program : Program) (atoms : ℕ) (claims_are : map (claim_of program) (subjects_of r) ≡ claims_of r program) where
  claim_at : (k : ℕ) (s : Subject) → item_at (subjects_of r) k ≡ Some s → item_at (claims_of r program) k ≡ Some (claim_of program s)
  claim_at zero s h = absurd cc
  claim_at (suc k) s h = subst (λ (cs : List Claim). slice_get cs k ≡ Some (claim_of program s)) claims_are (get_map (claim_of program) (subjects_of r) k s h)

  claims_it : (nodes : List Node) (l : ℕ × ℕ) → IsConcluded program (subjects_of r) nodes l → Claims (calculus_of r program atoms) nodes l.0 l
  claims_it nodes l h =
      let is = claim_at l.0 h.subject h.is in
      (refl, (h.place, (h.number, (h.node, (h.there, subst (λ x. IsSomeAnd x (λ c. Concludes c h.node.judgement)) (sym is) h.concludes)))))

  right_text : (nodes : List Node) (claims : List ClaimLine) → IsKnown r.defs program (subjects_of r) nodes claims → IsRightText r program atoms nodes claims
  right_text nodes claims h = record {
    right = h.right;
    named = λ i d less. claims_it nodes (slice_index_or (shown_claims claims) i d) (h.concluded i d less);
    each = h.each ∙ count;
    listed = λ closed. record {
      right = h.right;
      claimed = λ k first le. claimed k (h.listed closed k first (omega (arith, le, count)));
    };
  }
    where
      count : length (subjects_of r) ≡ claim_count r program
      count = sym (length-map (subjects_of r) (claim_of program)) ∙ ap length claims_are

      claimed : (k : ℕ) → HasLine (shown_claims claims) k → IsClaimed (calculus_of r program atoms) nodes (shown_claims claims) k
      claimed k line =
          let l = line.1 in
          let claims_k : Claims (calculus_of r program atoms) nodes k l = subst (λ j. Claims (calculus_of r program atoms) nodes j l) line.3 (claims_it nodes l (all_at (IsConcluded program (subjects_of r) nodes) (shown_claims claims) line.0 l line.2 h.concluded)) in
          any_at (Claims (calculus_of r program atoms) nodes k) (shown_claims claims) line.0 l line.2 claims_k

pub proved_texts_are_right : ProofsAreRightNodes → ProvedTextsAreRight
proved_texts_are_right law r program limits unshown nodes claims atoms h =
    right_text r program atoms (subjects_claim r program h.named h.kept) nodes claims (known r.defs program limits unshown law h.written (all_there r))
