-- What the calls on bodies ask, at an atom that fits.
use Rattle.std.proofs.Common.{◌≡◌, ℕ, ◌+◌, ◌<◌, ◌≤◌, ◌^◌, IsTrue, List, ◌∷◌, Some, IsSome, sym, ap, ◌∙◌, subst, rules, arith}
use Rattle.hs_pure.specs.declared.var.Var.{Var}
use Rattle.hs_heap.specs.declared.formula.Of.TheVariants.{Pred}
use Rattle.hs_heap.specs.declared.formula.Atom.{Atom}
use Rattle.hs_heap.specs.declared.definitions.Lemma.{Lemma}
use Rattle.hs_heap.specs.declared.definitions.Defs.{Defs}
use Rattle.hs_heap.specs.Meaning.{is_in, pred_at}
use Rattle.hs_heap.specs.Sound.{IsSound, kinds}
use Rattle.hs_heap.specs.Instance.{Body, ArgumentsFit, body_of, body_of_pred, body_of_lemma, body_or_none, lemma_at}
use Rattle.hs_rules.specs.Conditions.{IsPred}
use Rattle.hs_rules.proofs.Definitions.{HasPred, has_pred, lemma_sound, lemma_arity}
use Rattle.hs_rules.proofs.Fitting.{AtomIsGood}

module _ (defs : Defs) (sound : IsSound defs) (next : ℕ) (a : Atom) (good : AtomIsGood defs next a) (args : List Var) (args_are : args ≡ a.args) where
  abbrev Fit : Body → Type 0
  Fit b = ArgumentsFit b.params a.root args next

  abbrev HasRoom : Body → Type 0
  HasRoom b = next + b.next < 2 ^ 32

  below : (v : Var) → IsTrue (is_in v (a.root ∷ args)) → v.number < next
  below v e = good.below v (subst (λ vs. IsTrue (is_in v (a.root ∷ vs))) args_are e)

  module _ (pred : ℕ) (is : a.of ≡ Pred pred) where
    found : HasPred defs a
    found = has_pred defs sound a good.fits (subst IsPred (sym is) tt)

    body_is : body_of defs (Pred pred) ≡ body_of_pred found.pred
    body_is = ap (body_of defs) (sym is) ∙ found.body_is

    pub pred_exists : IsSome (pred_at defs pred)
    pred_exists =
        let e : Pred found.number ≡ Pred pred = sym found.is ∙ is in
        let number : found.number ≡ pred = cc in
        let there : pred_at defs pred ≡ Some found.pred = subst (λ n. pred_at defs n ≡ Some found.pred) number found.there in
        subst IsSome (sym there) (search rules)

    pub pred_arguments : Fit (body_of defs (Pred pred))
    pred_arguments = subst Fit (sym body_is) (record {
      number_root = good.fits.0;
      arity = found.arity ∙ ap kinds (sym args_are);
      below = below;
    })

    pub pred_room : next ≤ 2 ^ 30 → HasRoom (body_of defs (Pred pred))
    pred_room few = subst HasRoom (sym body_is) (let bounded = found.sound.head.bounded in omega arith)

  module _ (j : ℕ) (l : Lemma) (there : lemma_at defs j ≡ Some l) (is : a.of ≡ Pred l.pred) where
    right_is : body_or_none body_of_lemma (lemma_at defs j) ≡ body_of_lemma l
    right_is = ap (body_or_none body_of_lemma) there

    pub lemma_exists : IsSome (lemma_at defs j)
    lemma_exists = subst IsSome (sym there) (search rules)

    pub lemma_arguments : Fit (body_or_none body_of_lemma (lemma_at defs j))
    lemma_arguments = subst Fit (sym right_is) (record {
      number_root = good.fits.0;
      arity = lemma_arity defs sound j l there a good.fits is ∙ ap kinds (sym args_are);
      below = below;
    })

    pub lemma_room : next ≤ 2 ^ 30 → HasRoom (body_or_none body_of_lemma (lemma_at defs j))
    lemma_room few = subst HasRoom (sym right_is) (let bounded = (lemma_sound defs j l sound there).head.bounded in omega arith)
