use Rattle.std.proofs.Common.{◌≡◌, ◌↔◌, ℕ, map, sym, subst}
use Rattle.hs_pure.specs.Stack.{Stack}
use Rattle.hs_pure.proofs.Lists.{if_ok_weaker}
use Rattle.hs_heap.specs.Meaning.{argument_at, SatisfiesAtDepth}
use Rattle.hs_heap.specs.Instance.{body_of_lemma, body_or_none, lemma_at, instantiated, stack_of_body}
use Rattle.hs_heap.proofs.Bodies.{lemmas_fit}
use Rattle.hs_heap.specs.declared.formula.Formula.{Formula}
use Rattle.hs_heap.specs.Heap.{Heap}
use Rattle.hs_heap.proofs.Satisfied.{instantiated_means_body}
use Rattle.hs_heap.proofs.instance.instantiate_lemma.Goals as goal

pub returns-clause-satisfied : goal.returns-clause-satisfied
returns-clause-satisfied c =
    let same : Formula × ℕ → Type 0 = λ r. r.0 ≡ instantiated (body_or_none body_of_lemma (lemma_at c.args.defs.now c.args.lemma)) c.args.root c.args.args.now c.args.fresh in
    let alike : Formula × ℕ → Type 0 = λ r. (k : ℕ) (s : Stack) (h : Heap) → SatisfiesAtDepth c.args.defs.now k s h r.0
    ↔ SatisfiesAtDepth c.args.defs.now k (stack_of_body (body_or_none body_of_lemma (lemma_at c.args.defs.now c.args.lemma)) (s c.args.root).number (map (argument_at s) c.args.args.now)) h (body_or_none body_of_lemma (lemma_at c.args.defs.now c.args.lemma)).formula in
    if_ok_weaker same alike c.put_lemma.result
    (λ r e k s h. subst (λ f. SatisfiesAtDepth c.args.defs.now k s h f
    ↔ SatisfiesAtDepth c.args.defs.now k (stack_of_body (body_or_none body_of_lemma (lemma_at c.args.defs.now c.args.lemma)) (s c.args.root).number (map (argument_at s) c.args.args.now)) h (body_or_none body_of_lemma (lemma_at c.args.defs.now c.args.lemma)).formula) (sym e)
    (instantiated_means_body c.args.defs.now (body_or_none body_of_lemma (lemma_at c.args.defs.now c.args.lemma)) c.args.root c.args.args.now c.args.fresh (lemmas_fit c.args.defs.now c.requires.sound c.args.lemma) c.requires.arguments k s h))
    c.put_lemma.ensures.same
