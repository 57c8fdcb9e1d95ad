-- A predicate's own `self` and parameters as root and arguments.
use Rattle.std.proofs.Common.{◌≡◌, ℕ, ◌+◌, ◌<◌, List, ◌∷◌, Some, Result, refl, sym, ap, subst, arith}
use Rattle.std.specs.Result.{IfOk}
use Rattle.hs_pure.specs.declared.var.Var.{Var}
use Rattle.hs_heap.specs.declared.formula.Of.TheVariants.{Pred}
use Rattle.hs_heap.specs.declared.definitions.PredDef.{PredDef}
use Rattle.hs_heap.specs.declared.definitions.Defs.{Defs}
use Rattle.hs_heap.specs.Meaning.{self_var, pred_at}
use Rattle.hs_heap.specs.Sound.{IsNumbered, PredIsSound, IsSound}
use Rattle.hs_heap.specs.Instance.{Body, ArgumentsFit, body_of, body_of_pred, body_or_none}
use Rattle.hs_heap.proofs.Lists.{listed_forth}
use Rattle.hs_xpure.specs.Counts.{capped, listed, body_taken, pred_taken, table}
use Rattle.hs_xpure.proofs.Capped.{body_told}
use Rattle.hs_xpure.proofs.Bodies.{pred_in}

module _ (defs : Defs) (sound : IsSound defs) (pred : ℕ) (p : PredDef) (there : pred_at defs pred ≡ Some p) where
  pub body_is : body_of defs (Pred pred) ≡ body_of_pred p
  body_is = ap (body_or_none body_of_pred) there

  whole : PredIsSound defs p
  whole = pred_in (PredIsSound defs) defs pred p sound.preds there

  pub own_fit : ArgumentsFit p.params self_var p.params p.next
  own_fit = record { number_root = refl; arity = refl; below = λ v i. (listed_forth (IsNumbered p.next) (self_var ∷ p.params) whole.head.numbers v i).1 }

  pub own_arguments : (args : List Var) → args ≡ p.params → ArgumentsFit (body_of defs (Pred pred)).params self_var args p.next
  own_arguments args are =
      let e : (body_of defs (Pred pred)).params ≡ p.params = ap (λ (b : Body). b.params) body_is in
      subst (λ ps. ArgumentsFit ps self_var args p.next) (sym e) (subst (λ xs. ArgumentsFit p.params self_var xs p.next) (sym are) own_fit)

  pub own_room : p.next + (body_of defs (Pred pred)).next < 4294967296
  own_room =
      let e : (body_of defs (Pred pred)).next ≡ p.next = ap (λ (b : Body). b.next) body_is in
      let f = whole.head.bounded in
      omega arith

  -- what its body takes
  pub body_told_of : {E : Type 0} (level : ℕ) (counts : List ℕ) (r : Result ℕ E) → counts ≡ table defs level →
      IfOk r (λ n. n ≡ capped (body_taken (listed counts) (body_of_pred p))) → IfOk r (λ n. n ≡ capped (body_taken (pred_taken defs level) (body_of defs (Pred pred))))
  body_told_of level counts r are e =
      let f = body_told defs level (body_of_pred p) counts r are e in
      subst (λ b. IfOk r (λ n. n ≡ capped (body_taken (pred_taken defs level) b))) (sym body_is) f
