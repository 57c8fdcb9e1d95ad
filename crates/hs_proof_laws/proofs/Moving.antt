-- Right nodes stay right behind others.
use Rattle.std.proofs.Common.{◌≡◌, ℕ, zero, suc, ◌+◌, ◌-◌, ◌<◌, ◌≤◌, List, [], ◌∷◌, ◌++◌, map, length, Some, slice_get, refl, sym, ap, ◌∙◌, subst, append_assoc, append-nil, arith}
use Rattle.std.proofs.lemmas.List.{map-append}
use Rattle.std.proofs.lemmas.List.Elements.{All-nil, All-cons, All-head, All-tail}
use Rattle.hs_heap.specs.declared.definitions.Defs.{Defs}
use Rattle.hs_core.specs.Sound.{IsUpTo}
use Rattle.hs_core.specs.declared.program.Program.{Program}
use Rattle.hs_node.specs.declared.derivation.Node.{Node}
use Rattle.hs_node.specs.declared.judgement.Judgement.{Judgement}
use Rattle.hs_judge.specs.Named.{named, item_at, in_front, AreEarlier}
use Rattle.hs_judge.specs.Right.{RuleApplies, AreStated, HasResidue}
use Rattle.hs_proof_nodes.specs.Right.{IsRightNode}
use Rattle.hs_proof_nodes.proofs.Places.{get_behind, get_map, got_within, item_there, AreEach, place_by_each, right_more}
use Rattle.hs_proof_lines.specs.Proved.{moved_node, moved}
use Rattle.hs_proof_laws.specs.Laws.{MovedNodesAreRight}

-- within a list there is an item
item_within : {X : Type 0} (xs : List X) (i : ℕ) → i < length xs → (x : X) × (slice_get xs i ≡ Some x)
item_within [] i less = absurd (omega (arith, less))
item_within (x ∷ xs) zero less = (x, refl)
item_within (x ∷ xs) (suc i) less = item_within xs i (omega (arith, less))

-- ---- the premises of a node

module _ (front before : List Node) where
  abbrev behind : List Node
  behind = front ++ moved (length front) before

  abbrev onward : ℕ → ℕ
  onward k = length front + k

  node_there : (k : ℕ) (n : Node) → 1 ≤ k → slice_get before (k - 1) ≡ Some n → slice_get behind (onward k - 1) ≡ Some (moved_node (length front) n)
  node_there k n first h =
      let f : Node → Node = moved_node (length front) in
      let place : length front + (k - 1) ≡ length front + k - 1 = omega (arith, first) in
      subst (λ i. slice_get behind i ≡ Some (f n)) place (get_behind front (map f before) (k - 1) (f n) (get_map f before (k - 1) n h))

  moved_named : (ks : List ℕ) → AreEarlier before ks → named behind (map onward ks) ≡ named before ks
  moved_named [] h = refl
  moved_named (k ∷ ks) h =
      let up : IsUpTo (length before) k = All-head (IsUpTo (length before)) k ks h in
      let found = item_within before (k - 1) (omega (arith, up.0, up.1)) in
      let n : Node = found.0 in
      let here : item_at before k ≡ Some n = item_there before k n up.0 found.1 in
      let there : item_at behind (onward k) ≡ Some (moved_node (length front) n) = item_there behind (onward k) (moved_node (length front) n) (omega (arith, up.0)) (node_there k n up.0 found.1) in
      ap (λ x. in_front x (named behind (map onward ks))) there
      ∙ ap (λ (js : List Judgement). n.judgement ∷ js) (moved_named ks (All-tail (IsUpTo (length before)) k ks h))
      ∙ sym (ap (λ x. in_front x (named before ks)) here)

  moved_earlier : (ks : List ℕ) → AreEarlier before ks → AreEarlier behind (map onward ks)
  moved_earlier [] h = All-nil (IsUpTo (length behind))
  moved_earlier (k ∷ ks) h =
      let up : IsUpTo (length before) k = All-head (IsUpTo (length before)) k ks h in
      let found = item_within before (k - 1) (omega (arith, up.0, up.1)) in
      let within : onward k - 1 < length behind = got_within behind (onward k - 1) (moved_node (length front) found.0) (node_there k found.0 up.0 found.1) in
      All-cons (IsUpTo (length behind)) (onward k) (map onward ks) (omega (arith, up.0), omega (arith, up.0, within)) (moved_earlier ks (All-tail (IsUpTo (length before)) k ks h))

-- ---- nodes

module _ (defs : Defs) (program : Program) where
  moved_right : (front before : List Node) (n : Node) → IsRightNode defs program before n →
      IsRightNode defs program (front ++ moved (length front) before) (moved_node (length front) n)
  moved_right front before n h =
      let passes = h.passes in
      let is : named before n.premises ≡ named (front ++ moved (length front) before) (map (λ k. length front + k) n.premises) = sym (moved_named front before n.premises passes.premises.earlier) in
      record {
        passes = record {
          shape = passes.shape;
          applies = subst (RuleApplies defs program n.judgement n.rule) is passes.applies;
          premises = record {
            earlier = moved_earlier front before n.premises passes.premises.earlier;
            stated = subst (AreStated defs program n.judgement n.rule) is passes.premises.stated;
          };
          residue = subst (HasResidue defs program n.judgement n.rule) is passes.residue;
        };
        answered = h.answered;
      }

  all_moved : (front before nodes : List Node) → AreEach (IsRightNode defs program) before nodes →
      AreEach (IsRightNode defs program) (front ++ moved (length front) before) (moved (length front) nodes)
  all_moved front before [] h = tt
  all_moved front before (n ∷ nodes) h =
      (moved_right front before n h.0, subst (λ (b : List Node). AreEach (IsRightNode defs program) b (moved (length front) nodes)) one_more (all_moved front (before ++ n ∷ []) nodes h.1))
    where
      one_more : front ++ moved (length front) (before ++ n ∷ []) ≡ front ++ moved (length front) before ++ moved_node (length front) n ∷ []
      one_more =
          ap (λ (ns : List Node). front ++ ns) (map-append (moved_node (length front)) before (n ∷ []))
          ∙ sym (append_assoc front (moved (length front) before) (moved_node (length front) n ∷ []))

pub moved_nodes_are_right : MovedNodesAreRight
moved_nodes_are_right defs program nodes own h k =
    right_more defs program nodes (moved (length nodes) own) h
    (subst (λ (b : List Node). AreEach (IsRightNode defs program) b (moved (length nodes) own)) (append-nil nodes)
    (all_moved defs program nodes [] own (place_by_each (IsRightNode defs program) [] own k)))
