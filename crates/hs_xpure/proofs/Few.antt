-- A body at level 0 takes few numbers.
use Rattle.std.proofs.Common.{◌≡◌, ℕ, zero, suc, ◌+◌, ◌*◌, ◌≤◌, Bool, List, [], ◌∷◌, length, inl, inr, Option, Some, None, option_map, refl, ap, arith}
use Rattle.std.specs.List.{All}
use Rattle.std.proofs.lemmas.List.Elements.{All-nil, All-cons, All-head, All-tail}
use Rattle.hs_heap.specs.declared.formula.Of.{Of}
use Rattle.hs_heap.specs.declared.formula.Of.TheVariants.{Node, Pred}
use Rattle.hs_heap.specs.declared.formula.Atom.{Atom}
use Rattle.hs_heap.specs.declared.formula.Disjunct.{Disjunct}
use Rattle.hs_heap.specs.declared.definitions.PredDef.{PredDef}
use Rattle.hs_heap.specs.declared.definitions.Defs.{Defs}
use Rattle.hs_heap.specs.Meaning.{pred_at, self_var}
use Rattle.hs_heap.specs.Sound.{AtomFits, PredIsSound, IsSound, IsShort, argument_kinds, kinds}
use Rattle.hs_heap.specs.Instance.{Body, body_of_pred, body_of_inv, is_other, count_below}
use Rattle.hs_heap.proofs.Booleans.{bool_cases}
use Rattle.hs_xpure.specs.Approximation.{body_next}
use Rattle.hs_xpure.specs.Counts.{Taken, of_taken, atoms_taken, cases_taken, own_taken, inv_taken, pred_taken}
use Rattle.hs_xpure.specs.Laws.{PremiseTakesFew, PremiseCanBeFormed}
use Rattle.hs_xpure.specs.Invariants.{pred_atom}
use Rattle.hs_xpure.proofs.Bodies.{pred_in}
use Rattle.hs_xpure.proofs.Building.{in_one}
use Rattle.hs_xpure.proofs.Own.{own_fit}
use Rattle.hs_xpure.proofs.Capped.{body_next_of}

count-few : (test : ℕ → Bool) (n : ℕ) → count_below test n ≤ n
count-few test zero = omega arith
count-few test (suc n) = let e = count-few test n in elim (bool_cases (test n)) [
  | inl is ↦ let f : count_below test (suc n) ≡ suc (count_below test n) = rw is refl in omega arith
  | inr isnt ↦ let f : count_below test (suc n) ≡ count_below test n = rw isnt refl in omega arith
]

own_few : (b : Body) → b.next ≤ 1024 → own_taken b ≤ 1024
own_few b le = let e = count-few (is_other b) b.next in omega arith

module _ (taken : Taken) (few : (pred : ℕ) → taken pred ≤ 1024) where
  of_few : (o : Of) → of_taken taken o ≤ 1024
  of_few (Node kind) = omega arith
  of_few (Pred pred) = few pred

  atoms_few : (atoms : List Atom) → atoms_taken taken atoms ≤ 1024 * length atoms
  atoms_few [] = omega arith
  atoms_few (a ∷ rest) = let e = of_few a.of in let f = atoms_few rest in omega arith

  cases_few : (ds : List Disjunct) → All IsShort ds → cases_taken taken ds ≤ 65536 * length ds
  cases_few [] f = omega arith
  cases_few (d ∷ ds) f =
      let e = atoms_few d.atoms in
      let short = All-head IsShort d ds f in
      let g = cases_few ds (All-tail IsShort d ds f) in
      omega arith

module _ (defs : Defs) (sound : IsSound defs) where
  some_few : (pred : ℕ) (o : Option PredDef) → pred_at defs pred ≡ o → inv_taken o ≤ 1024
  some_few pred None e = omega arith
  some_few pred (Some p) e = own_few (body_of_inv p) (pred_in (PredIsSound defs) defs pred p sound.preds e).head.bounded

  level_0_few : (pred : ℕ) → pred_taken defs 0 pred ≤ 1024
  level_0_few pred = some_few pred (pred_at defs pred) refl

few_enough : (next start own cases count : ℕ) → next ≡ start + (own + cases) → own ≤ 1024 → cases ≤ 65536 * count → count ≤ 16 → next ≤ start + 2097152
few_enough next start own cases count e f g h = omega arith

pub premise_takes_few : PremiseTakesFew
premise_takes_few defs sound pred p e =
    let whole = pred_in (PredIsSound defs) defs pred p sound.preds e in
    few_enough (body_next defs 0 (body_of_pred p) self_var p.params p.next) p.next (own_taken (body_of_pred p)) (cases_taken (pred_taken defs 0) p.body.cases) (length p.body.cases)
    (body_next_of defs 0 (body_of_pred p) self_var p.params p.next) (own_few (body_of_pred p) whole.head.bounded)
    (cases_few (pred_taken defs 0) (level_0_few defs sound) p.body.cases whole.short) whole.cases

small : (n : ℕ) → n ≤ 1024 → n ≤ 1073741824
small n e = omega arith

pub premise_can_be_formed : PremiseCanBeFormed
premise_can_be_formed defs sound pred p e =
    let whole = pred_in (PredIsSound defs) defs pred p sound.preds e in
    let own = own_fit defs sound pred p e in
    let a : Atom = pred_atom pred self_var p.params in
    let like : argument_kinds defs (Pred pred) ≡ Some (kinds p.params) = ap (option_map (λ (q : PredDef). kinds q.params)) e in (
      record {
        each = All-cons (AtomFits defs) a [] (refl, like) (All-nil (AtomFits defs));
        below = λ v i. own.below v (in_one a v i);
      },
      small p.next whole.head.bounded,
    )
