-- What sound definitions give of an atom's predicate, and of a lemma.
use Rattle.std.proofs.Common.{◌≡◌, ℕ, zero, suc, List, [], ◌∷◌, slice_get, Option, Some, None, refl, sym, ◌∙◌, ap, subst}
use Rattle.std.specs.List.{All}
use Rattle.std.specs.Option.{option_map}
use Rattle.std.proofs.lemmas.Option.{same_Some}
use Rattle.std.proofs.lemmas.List.Elements.{All-head, All-tail}
use Rattle.hs_heap.specs.declared.formula.Of.{Of}
use Rattle.hs_heap.specs.declared.formula.Of.TheVariants.{Node, Pred}
use Rattle.hs_heap.specs.declared.formula.Atom.{Atom}
use Rattle.hs_heap.specs.declared.definitions.PredDef.{PredDef}
use Rattle.hs_heap.specs.declared.definitions.Lemma.{Lemma}
use Rattle.hs_heap.specs.declared.definitions.Defs.{Defs}
use Rattle.hs_heap.specs.Meaning.{pred_at}
use Rattle.hs_heap.specs.Sound.{AtomFits, kinds, argument_kinds, PredIsSound, LemmaIsSound, IsSound}
use Rattle.hs_heap.specs.Instance.{body_of, body_of_pred, body_or_none, lemma_at}
use Rattle.hs_rules.specs.Conditions.{IsPred}

all_there : {X : Type 0} (P : X → Type 0) (xs : List X) (n : ℕ) (x : X) → All P xs → slice_get xs n ≡ Some x → P x
all_there P [] n x f e = absurd cc
all_there P (y ∷ ys) zero x f e = let g : y ≡ x = cc in subst P g (All-head P y ys f)
all_there P (y ∷ ys) (suc n) x f e = all_there P ys n x (All-tail P y ys f) e

pred_sound : (defs : Defs) (n : ℕ) (p : PredDef) → IsSound defs → pred_at defs n ≡ Some p → PredIsSound defs p
pred_sound defs zero p sound e = absurd cc
pred_sound defs (suc n) p sound e = all_there (PredIsSound defs) defs.preds n p sound.preds e

pub lemma_sound : (defs : Defs) (j : ℕ) (l : Lemma) → IsSound defs → lemma_at defs j ≡ Some l → LemmaIsSound defs l
lemma_sound defs zero l sound e = absurd cc
lemma_sound defs (suc j) l sound e = all_there (LemmaIsSound defs) defs.lemmas j l sound.lemmas e

-- the predicate of an atom, with as many parameters
pub record HasPred (defs : Defs) (a : Atom) : Type 0 where
  pub number : ℕ
  pub is : a.of ≡ Pred number
  pub pred : PredDef
  pub there : pred_at defs number ≡ Some pred
  pub sound : PredIsSound defs pred
  pub arity : kinds pred.params ≡ kinds a.args
  pub body_is : body_of defs a.of ≡ body_of_pred pred

pub has_pred : (defs : Defs) → IsSound defs → (a : Atom) → AtomFits defs a → IsPred a.of → HasPred defs a
has_pred defs sound a fits of_pred = by_name a.of refl of_pred fits.1
  where
    found : (n : ℕ) → a.of ≡ Pred n → (o : Option PredDef) → pred_at defs n ≡ o → option_map (λ (p : PredDef). kinds p.params) o ≡ Some (kinds a.args) → HasPred defs a
    found n is None there e = absurd cc
    found n is (Some p) there e = record {
      number = n;
      is = is;
      pred = p;
      there = there;
      sound = pred_sound defs n p sound there;
      arity = same_Some (kinds p.params) (kinds a.args) e;
      body_is = ap (body_of defs) is ∙ ap (body_or_none body_of_pred) there;
    }

    by_name : (o : Of) → a.of ≡ o → IsPred o → argument_kinds defs o ≡ Some (kinds a.args) → HasPred defs a
    by_name (Node n) is of_pred e = absurd of_pred
    by_name (Pred n) is of_pred e = found n is (pred_at defs n) refl e

-- a lemma has as many parameters as an atom of its predicate has arguments
pub lemma_arity : (defs : Defs) → IsSound defs → (j : ℕ) (l : Lemma) → lemma_at defs j ≡ Some l → (a : Atom) → AtomFits defs a → a.of ≡ Pred l.pred → kinds l.params ≡ kinds a.args
lemma_arity defs sound j l there a fits is =
    same_Some (kinds l.params) (kinds a.args) (sym (lemma_sound defs j l sound there).like ∙ ap (argument_kinds defs) (sym is) ∙ fits.1)
