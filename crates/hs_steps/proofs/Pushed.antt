-- What the loops that join proofs have so far.
use Rattle.std.proofs.Common.{◌≡◌, ℕ, ◌+◌, List, [], ◌∷◌, ◌++◌, map, length, append_assoc, append-nil, refl, sym, ap, ◌∙◌, arith}
use Rattle.std.proofs.lemmas.List.{length-append, length-map}
use Rattle.hs_erule.specs.declared.step.Step.{Step}
use Rattle.hs_erule.specs.declared.step.Proof.{Proof}
use Rattle.hs_steps.specs.Joined.{shifted, placed, ends_of}

length-placed : (n m : ℕ) (p : Proof) (rest : List Step) → m ≡ n + length p.steps → m + length rest ≡ n + length (map (shifted n) p.steps ++ rest)
length-placed n m p rest e = omega (arith, length-append (map (shifted n) p.steps) rest, length-map p.steps (shifted n))

-- behind no steps a step stays as it is
same_numbers : (ns : List ℕ) → map (λ p. 0 + p) ns ≡ ns
same_numbers [] = refl
same_numbers (n ∷ ns) = let e : 0 + n ≡ n = omega arith in ap (λ k. k ∷ map (λ p. 0 + p) ns) e ∙ ap (λ (rest : List ℕ). n ∷ rest) (same_numbers ns)

pub unshifted : (ss : List Step) → map (shifted 0) ss ≡ ss
unshifted [] = refl
unshifted (s ∷ ss) =
    ap (λ (ns : List ℕ). record { goal = s.goal; residue = s.residue; rule = s.rule; premises = ns } ∷ map (shifted 0) ss) (same_numbers s.premises)
    ∙ ap (λ (rest : List Step). s ∷ rest) (unshifted ss)

pub placed_first : (old ss : List Step) → old ≡ [] → ss ≡ old ++ map (shifted (length old)) ss
placed_first old ss e = sym (ap (λ (o : List Step). o ++ map (shifted (length o)) ss) e ∙ unshifted ss)

-- one more part
pub placed-push : (n : ℕ) (parts : List Proof) (p : Proof) →
    placed n (parts ++ p ∷ []) ≡ placed n parts ++ map (shifted (n + length (placed n parts))) p.steps
placed-push n [] p = let e : n + 0 ≡ n = omega arith in append-nil (map (shifted n) p.steps) ∙ ap (λ k. map (shifted k) p.steps) (sym e)
placed-push n (q ∷ parts) p =
    let m : ℕ = n + length q.steps in
    let first : List Step = map (shifted n) q.steps in
    ap (λ (ss : List Step). first ++ ss) (placed-push m parts p)
    ∙ sym (append_assoc first (placed m parts) (map (shifted (m + length (placed m parts))) p.steps))
    ∙ ap (λ k. first ++ placed m parts ++ map (shifted k) p.steps) (length-placed n m q (placed m parts) refl)

pub ends-push : (n : ℕ) (parts : List Proof) (p : Proof) → ends_of n (parts ++ p ∷ []) ≡ ends_of n parts ++ (n + length (placed n (parts ++ p ∷ []))) ∷ []
ends-push n [] p =
    let long : length p.steps ≡ length (map (shifted n) p.steps ++ []) = omega (arith, length-append (map (shifted n) p.steps) [], length-map p.steps (shifted n)) in
    ap (λ k. (n + k) ∷ []) long
ends-push n (q ∷ parts) p =
    let m : ℕ = n + length q.steps in
    ap (λ (ends : List ℕ). m ∷ ends) (ends-push m parts p)
    ∙ ap (λ k. m ∷ (ends_of m parts ++ k ∷ [])) (length-placed n m q (placed m (parts ++ p ∷ [])) refl)

-- the steps and the numbers of last steps with one more part
pub placed_one : (steps : List Step) (parts : List Proof) (p : Proof) → steps ≡ placed 0 parts →
    steps ++ map (shifted (length steps)) p.steps ≡ placed 0 (parts ++ p ∷ [])
placed_one steps parts p e =
    let long : length (placed 0 parts) ≡ 0 + length (placed 0 parts) = omega arith in
    ap (λ (ss : List Step). ss ++ map (shifted (length ss)) p.steps) e
    ∙ ap (λ k. placed 0 parts ++ map (shifted k) p.steps) long
    ∙ sym (placed-push 0 parts p)

pub ends_one : (steps : List Step) (ends : List ℕ) (n : ℕ) (parts : List Proof) (p : Proof) → steps ≡ placed 0 (parts ++ p ∷ []) → n ≡ length steps →
    ends ≡ ends_of 0 parts → ends ++ n ∷ [] ≡ ends_of 0 (parts ++ p ∷ [])
ends_one steps ends n parts p e k h =
    let long : n ≡ 0 + length (placed 0 (parts ++ p ∷ [])) = omega (arith, k ∙ ap length e) in
    ap (λ (es : List ℕ). es ++ n ∷ []) h ∙ ap (λ m. ends_of 0 parts ++ m ∷ []) long ∙ sym (ends-push 0 parts p)
