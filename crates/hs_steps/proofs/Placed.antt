-- Proofs put one after the other are right steps, and their last steps are found by number.
use Rattle.std.proofs.Common.{◌≡◌, ℕ, zero, suc, ◌+◌, ◌-◌, ◌≤◌, List, [], ◌∷◌, ◌++◌, map, length, append_assoc, append-nil, Some, refl, sym, ap, ◌∙◌, subst, arith}
use Rattle.std.specs.List.{slice_get, AllZip}
use Rattle.std.proofs.lemmas.List.{length-append, length-map, map-append}
use Rattle.hs_heap.specs.declared.definitions.Defs.{Defs}
use Rattle.hs_rules.specs.Rules.{Judgement, IsRightStep}
use Rattle.hs_erule.specs.declared.step.Step.{Step}
use Rattle.hs_erule.specs.declared.step.Proof.{Proof}
use Rattle.hs_steps.specs.Steps.{judgement_of, IsStepOf, IsRightAfter, AreRightAfter, IsProofOf}
use Rattle.hs_steps.specs.Joined.{shifted, placed, ends_of}
use Rattle.hs_steps.specs.Laws.{AreProofsOf, JoinedProofsAreProofs}

-- ---- items of lists

get_behind : {X : Type 0} (front xs : List X) (i : ℕ) (x : X) → slice_get xs i ≡ Some x → slice_get (front ++ xs) (length front + i) ≡ Some x
get_behind [] xs i x h = let e : 0 + i ≡ i = omega arith in rw e h
get_behind (y ∷ front) xs i x h = let e : suc (length front) + i ≡ suc (length front + i) = omega arith in rw e (get_behind front xs i x h)

get_before : {X : Type 0} (xs after : List X) (i : ℕ) (x : X) → slice_get xs i ≡ Some x → slice_get (xs ++ after) i ≡ Some x
get_before [] after i x h = absurd cc
get_before (y ∷ xs) after zero x h = h
get_before (y ∷ xs) after (suc i) x h = get_before xs after i x h

get_map : {X Y : Type 0} (f : X → Y) (xs : List X) (i : ℕ) (x : X) → slice_get xs i ≡ Some x → slice_get (map f xs) i ≡ Some (f x)
get_map f [] i x h = absurd cc
get_map f (y ∷ xs) zero x h = let e : y ≡ x = cc in ap (λ z. Some (f z)) e
get_map f (y ∷ xs) (suc i) x h = get_map f xs i x h

get_at : {X : Type 0} (front after : List X) (x : X) → slice_get (front ++ x ∷ after) (length front) ≡ Some x
get_at [] after x = refl
get_at (y ∷ front) after x = get_at front after x

-- ---- one proof behind other steps

judgements-shifted : (n : ℕ) (steps : List Step) → map judgement_of (map (shifted n) steps) ≡ map judgement_of steps
judgements-shifted n [] = refl
judgements-shifted n (s ∷ steps) = ap (λ (js : List Judgement). judgement_of s ∷ js) (judgements-shifted n steps)

-- a step keeps its number from the steps that are put before it on
step_behind : (front before : List Step) (k : ℕ) (s : Step) → IsStepOf before k s →
    IsStepOf (front ++ map (shifted (length front)) before) (length front + k) (shifted (length front) s)
step_behind front before k s h =
    let f : Step → Step = shifted (length front) in
    let first : 1 ≤ k = h.0 in
    let place : length front + k - 1 ≡ length front + (k - 1) = omega arith in
    let there = get_behind front (map f before) (k - 1) (f s) (get_map f before (k - 1) s h.1) in
    (omega arith, subst (λ i. slice_get (front ++ map f before) i ≡ Some (f s)) (sym place) there)

premises_behind : (front before : List Step) (ns : List ℕ) (ps : List Step) → AllZip (IsStepOf before) ns ps →
    AllZip (IsStepOf (front ++ map (shifted (length front)) before)) (map (λ k. length front + k) ns) (map (shifted (length front)) ps)
premises_behind front before [] [] z = tt
premises_behind front before [] (p ∷ ps) z = absurd z
premises_behind front before (n ∷ ns) [] z = absurd z
premises_behind front before (n ∷ ns) (p ∷ ps) z = (step_behind front before n p z.0, premises_behind front before ns ps z.1)

module _ (defs : Defs) where
  right_behind : (front before : List Step) (s : Step) → IsRightAfter defs before s →
      IsRightAfter defs (front ++ map (shifted (length front)) before) (shifted (length front) s)
  right_behind front before s h = record {
    premises = map (shifted (length front)) h.premises;
    earlier = premises_behind front before s.premises h.premises h.earlier;
    right = subst (IsRightStep defs s.goal s.residue s.rule) (sym (judgements-shifted (length front) h.premises)) h.right;
  }

  all_behind : (front before steps : List Step) → AreRightAfter defs before steps →
      AreRightAfter defs (front ++ map (shifted (length front)) before) (map (shifted (length front)) steps)
  all_behind front before [] h = tt
  all_behind front before (s ∷ steps) h =
      (right_behind front before s h.0, subst (λ (ss : List Step). AreRightAfter defs ss (map (shifted (length front)) steps)) one_more (all_behind front (before ++ s ∷ []) steps h.1))
    where
      one_more : front ++ map (shifted (length front)) (before ++ s ∷ []) ≡ front ++ map (shifted (length front)) before ++ shifted (length front) s ∷ []
      one_more =
          ap (λ (ss : List Step). front ++ ss) (map-append (shifted (length front)) before (s ∷ []))
          ∙ sym (append_assoc front (map (shifted (length front)) before) (shifted (length front) s ∷ []))

  -- ---- proofs one after the other

  right_append : (before xs ys : List Step) → AreRightAfter defs before xs → AreRightAfter defs (before ++ xs) ys → AreRightAfter defs before (xs ++ ys)
  right_append before [] ys h k = subst (λ (ss : List Step). AreRightAfter defs ss ys) (append-nil before) k
  right_append before (x ∷ xs) ys h k =
      (h.0, right_append (before ++ x ∷ []) xs ys h.1 (subst (λ (ss : List Step). AreRightAfter defs ss ys) (sym (append_assoc before (x ∷ []) xs)) k))

  behind_front : (front : List Step) (n : ℕ) (steps : List Step) → n ≡ length front → AreRightAfter defs [] steps → AreRightAfter defs front (map (shifted n) steps)
  behind_front front n steps e h =
      subst (λ k. AreRightAfter defs front (map (shifted k) steps)) (sym e)
      (subst (λ (ss : List Step). AreRightAfter defs ss (map (shifted (length front)) steps)) (append-nil front) (all_behind front [] steps h))

  length_behind : (front : List Step) (n : ℕ) (p : Proof) → n ≡ length front → n + length p.steps ≡ length (front ++ map (shifted n) p.steps)
  length_behind front n p e = omega (arith, length-append front (map (shifted n) p.steps), length-map p.steps (shifted n))

  placed_right : (js : List Judgement) (parts : List Proof) (front : List Step) (n : ℕ) → n ≡ length front → AreProofsOf defs js parts →
      AreRightAfter defs front (placed n parts)
  placed_right [] [] front n e z = tt
  placed_right [] (p ∷ parts) front n e z = absurd z
  placed_right (j ∷ js) [] front n e z = absurd z
  placed_right (j ∷ js) (p ∷ parts) front n e z =
      right_append front (map (shifted n) p.steps) (placed (n + length p.steps) parts) (behind_front front n p.steps e z.0.right)
      (placed_right js parts (front ++ map (shifted n) p.steps) (n + length p.steps) (length_behind front n p e) z.1)

  -- ---- their last steps

  lasts : (js : List Judgement) (parts : List Proof) (n : ℕ) → AreProofsOf defs js parts → List Step
  lasts [] [] n z = []
  lasts [] (p ∷ parts) n z = []
  lasts (j ∷ js) [] n z = []
  lasts (j ∷ js) (p ∷ parts) n z = shifted n z.0.last ∷ lasts js parts (n + length p.steps) z.1

  lasts-judgements : (js : List Judgement) (parts : List Proof) (n : ℕ) (z : AreProofsOf defs js parts) → map judgement_of (lasts js parts n z) ≡ js
  unfolding lasts
  lasts-judgements [] [] n z = refl
  lasts-judgements [] (p ∷ parts) n z = absurd z
  lasts-judgements (j ∷ js) [] n z = absurd z
  lasts-judgements (j ∷ js) (p ∷ parts) n z =
      let first : judgement_of z.0.last ≡ j = (λ i. record { goal = z.0.goal_is i; residue = z.0.residue_is i }) in
      let rest : map judgement_of (lasts js parts (n + length p.steps) z.1) ≡ js = lasts-judgements js parts (n + length p.steps) z.1 in
      λ i. first i ∷ rest i

  -- among the steps of its own part
  last_placed : (j : Judgement) (p : Proof) (n : ℕ) (h : IsProofOf defs j.goal j.residue p) →
      slice_get (map (shifted n) p.steps) (length (map (shifted n) h.front)) ≡ Some (shifted n h.last)
  last_placed j p n h =
      let f : Step → Step = shifted n in
      let body : map f p.steps ≡ map f h.front ++ f h.last ∷ [] = ap (map f) h.ends ∙ map-append f h.front (h.last ∷ []) in
      subst (λ (ss : List Step). slice_get ss (length (map f h.front)) ≡ Some (f h.last)) (sym body) (get_at (map f h.front) [] (f h.last))

  last_there : (j : Judgement) (p : Proof) (front after : List Step) (n : ℕ) → n ≡ length front → (h : IsProofOf defs j.goal j.residue p) →
      IsStepOf (front ++ (map (shifted n) p.steps ++ after)) (n + length p.steps) (shifted n h.last)
  last_there j p front after n e h =
      let moved : List Step = map (shifted n) p.steps in
      let before : List Step = map (shifted n) h.front in
      let last : Step = shifted n h.last in
      let long : length p.steps ≡ length h.front + 1 = ap length h.ends ∙ length-append h.front (h.last ∷ []) in
      let place : n + length p.steps - 1 ≡ length front + length before = omega (arith, length-map h.front (shifted n)) in
      let there = get_behind front (moved ++ after) (length before) last (get_before moved after (length before) last (last_placed j p n h)) in
      (omega arith, subst (λ i. slice_get (front ++ (moved ++ after)) i ≡ Some last) (sym place) there)

  lasts_there : (js : List Judgement) (parts : List Proof) (front : List Step) (n : ℕ) → n ≡ length front → (z : AreProofsOf defs js parts) →
      AllZip (IsStepOf (front ++ placed n parts)) (ends_of n parts) (lasts js parts n z)
  unfolding lasts
  lasts_there [] [] front n e z = tt
  lasts_there [] (p ∷ parts) front n e z = absurd z
  lasts_there (j ∷ js) [] front n e z = absurd z
  lasts_there (j ∷ js) (p ∷ parts) front n e z =
      let m : ℕ = n + length p.steps in
      let rest = lasts_there js parts (front ++ map (shifted n) p.steps) m (length_behind front n p e) z.1 in (
        last_there j p front (placed m parts) n e z.0,
        subst (λ (ss : List Step). AllZip (IsStepOf ss) (ends_of m parts) (lasts js parts m z.1)) (append_assoc front (map (shifted n) p.steps) (placed m parts)) rest,
      )

pub joined_proofs_are_proofs : JoinedProofsAreProofs
joined_proofs_are_proofs defs g residue rule premises parts z h =
    let last : Step = record { goal = g; residue = residue; rule = rule; premises = ends_of 0 parts } in
    let step : IsRightAfter defs (placed 0 parts) last = record {
      premises = lasts defs premises parts 0 z;
      earlier = lasts_there defs premises parts [] 0 refl z;
      right = subst (IsRightStep defs g residue rule) (sym (lasts-judgements defs premises parts 0 z)) h;
    } in
    record {
      right = right_append defs [] (placed 0 parts) (last ∷ []) (placed_right defs premises parts [] 0 refl z) (step, tt);
      front = placed 0 parts;
      last = last;
      ends = refl;
      goal_is = refl;
      residue_is = refl;
    }
