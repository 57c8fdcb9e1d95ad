-- Items of lists by number, and lists of right nodes with more behind them.
use Rattle.std.proofs.Common.{◌≡◌, ◌⊎◌, ℕ, zero, suc, ◌+◌, ◌-◌, ◌<◌, ◌≤◌, List, [], ◌∷◌, ◌++◌, length, take, map, Option, Some, None, IsSomeAnd, slice_get, refl, sym, ap, ◌∙◌, subst, inl, inr, append_assoc, append-nil, arith}
use Rattle.std.proofs.lemmas.List.{length-append}
use Rattle.hs_heap.specs.declared.definitions.Defs.{Defs}
use Rattle.hs_core.specs.declared.program.Program.{Program}
use Rattle.hs_node.specs.declared.derivation.Node.{Node}
use Rattle.hs_judge.specs.Named.{item_at}
use Rattle.hs_proof_nodes.specs.Right.{IsRightNode, AreRightNodes}

pub get_before : {X : Type 0} (xs after : List X) (i : ℕ) (x : X) → slice_get xs i ≡ Some x → slice_get (xs ++ after) i ≡ Some x
get_before [] after i x h = absurd cc
get_before (y ∷ xs) after zero x h = h
get_before (y ∷ xs) after (suc i) x h = get_before xs after i x h

pub get_behind : {X : Type 0} (front xs : List X) (i : ℕ) (x : X) → slice_get xs i ≡ Some x → slice_get (front ++ xs) (length front + i) ≡ Some x
get_behind [] xs i x h = let e : 0 + i ≡ i = omega arith in rw e h
get_behind (y ∷ front) xs i x h = let e : suc (length front) + i ≡ suc (length front + i) = omega arith in rw e (get_behind front xs i x h)

pub get_map : {X Y : Type 0} (f : X → Y) (xs : List X) (i : ℕ) (x : X) → slice_get xs i ≡ Some x → slice_get (map f xs) i ≡ Some (f x)
get_map f [] i x h = absurd cc
get_map f (y ∷ xs) zero x h = let e : y ≡ x = cc in ap (λ z. Some (f z)) e
get_map f (y ∷ xs) (suc i) x h = get_map f xs i x h

pub get_at : {X : Type 0} (front after : List X) (x : X) → slice_get (front ++ x ∷ after) (length front) ≡ Some x
get_at [] after x = refl
get_at (y ∷ front) after x = get_at front after x

-- an item that is there stands within
pub got_within : {X : Type 0} (xs : List X) (i : ℕ) (x : X) → slice_get xs i ≡ Some x → i < length xs
got_within [] i x h = absurd cc
got_within (y ∷ xs) zero x h = omega arith
got_within (y ∷ xs) (suc i) x h = let less = got_within xs i x h in omega arith

-- an item of a number from 1
pub item_there : (nodes : List Node) (k : ℕ) (n : Node) → 1 ≤ k → slice_get nodes (k - 1) ≡ Some n → item_at nodes k ≡ Some n
item_there nodes zero n first h = absurd (omega arith)
item_there nodes (suc k) n first h = let e : suc k - 1 ≡ k = omega arith in subst (λ i. slice_get nodes i ≡ Some n) e h

-- ---- right nodes

-- what holds of each node behind those before it
abbrev pub AreEach : (List Node → Node → Type 0) → List Node → List Node → Type 0
AreEach R before [] = Unit {0}
AreEach R before (n ∷ nodes) = R before n × AreEach R (before ++ n ∷ []) nodes

module _ (R : List Node → Node → Type 0) where
  -- by places
  abbrev pub ByPlace : List Node → List Node → Type 0
  ByPlace before nodes = (i : ℕ) → i < length nodes → IsSomeAnd (slice_get nodes i) (R (before ++ take i nodes))

  place_more : (before nodes : List Node) (n : Node) → R before n → ByPlace (before ++ n ∷ []) nodes → ByPlace before (n ∷ nodes)
  place_more before nodes n h k zero less = subst (λ (b : List Node). R b n) (sym (append-nil before)) h
  place_more before nodes n h k (suc i) less =
      subst (λ (b : List Node). IsSomeAnd (slice_get nodes i) (R b)) (append_assoc before (n ∷ []) (take i nodes)) (k i (omega arith))

  pub each_by_place : (before nodes : List Node) → AreEach R before nodes → ByPlace before nodes
  each_by_place before [] h = λ i less. absurd (omega arith)
  each_by_place before (n ∷ nodes) h = place_more before nodes n h.0 (each_by_place (before ++ n ∷ []) nodes h.1)

  pub place_by_each : (before nodes : List Node) → ByPlace before nodes → AreEach R before nodes
  place_by_each before [] h = tt
  place_by_each before (n ∷ nodes) h = (
    subst (λ (b : List Node). R b n) (append-nil before) (h 0 (omega arith)),
    place_by_each (before ++ n ∷ []) nodes
        (λ i less. subst (λ (b : List Node). IsSomeAnd (slice_get nodes i) (R b)) (sym (append_assoc before (n ∷ []) (take i nodes))) (h (suc i) (omega arith))),
  )

  pub each_append : (before xs ys : List Node) → AreEach R before xs → AreEach R (before ++ xs) ys → AreEach R before (xs ++ ys)
  each_append before [] ys h k = subst (λ (b : List Node). AreEach R b ys) (append-nil before) k
  each_append before (x ∷ xs) ys h k =
      (h.0, each_append (before ++ x ∷ []) xs ys h.1 (subst (λ (b : List Node). AreEach R b ys) (sym (append_assoc before (x ∷ []) xs)) k))

module _ (defs : Defs) (program : Program) where
  -- right nodes, and more that are right behind them
  pub right_more : (nodes more : List Node) → AreRightNodes defs program nodes → AreEach (IsRightNode defs program) nodes more → AreRightNodes defs program (nodes ++ more)
  right_more nodes more h k =
      each_by_place (IsRightNode defs program) [] (nodes ++ more)
      (each_append (IsRightNode defs program) [] nodes more (place_by_each (IsRightNode defs program) [] nodes h) k)

  pub right_push : (nodes : List Node) (n : Node) → AreRightNodes defs program nodes → IsRightNode defs program nodes n → AreRightNodes defs program (nodes ++ n ∷ [])
  right_push nodes n h k = right_more nodes (n ∷ []) h (k, tt)
