-- What holds of all that approximations are made of holds of approximations.
use Rattle.std.proofs.Common.{◌≡◌, ℕ, zero, suc, ◌^◌, ◌<◌, false, not, IsTrue, inl, inr, List, [], ◌∷◌, ◌++◌, map, length, Option, Some, None, refl, sym, ap, ◌∙◌, subst, arith}
use Rattle.std.specs.List.{All, AllByRecursion, list_any, flat_map}
use Rattle.std.proofs.lemmas.List.Elements.{All-nil, All-cons, All-head, All-tail, All-append, All-weaker, All-from_recursion}
use Rattle.hs_pure.specs.declared.var.Var.{Var}
use Rattle.hs_pure.specs.declared.lin.Lin.{Lin}
use Rattle.hs_pure.specs.declared.pure.Pure.{Pure}
use Rattle.hs_pure.specs.declared.pure.Pure.TheVariants.{Eq, Lt, Not, And, Or}
use Rattle.hs_pure.specs.Occurs.{BagUse, bag_use, bag_use_level, is_bags_plain}
use Rattle.hs_pure.specs.Rename.{sums, sums_level, renamed}
use Rattle.hs_pure.specs.Sums.{LinIsOrdered, IsOrdered, KeepsKinds}
use Rattle.hs_pure.proofs.Weight.{ordered-renamed, bag_use-renamed}
use Rattle.hs_pure.proofs.Views.{fold-Eq, fold-Lt, fold-Not, fold-And, fold-Or}
use Rattle.hs_heap.specs.declared.formula.Of.{Of}
use Rattle.hs_heap.specs.declared.formula.Of.TheVariants.{Node, Pred}
use Rattle.hs_heap.specs.declared.formula.Atom.{Atom}
use Rattle.hs_heap.specs.declared.formula.Disjunct.{Disjunct}
use Rattle.hs_heap.specs.declared.definitions.PredDef.{PredDef}
use Rattle.hs_heap.specs.declared.definitions.Defs.{Defs}
use Rattle.hs_heap.specs.Meaning.{pred_at, self_var}
use Rattle.hs_heap.specs.WellFormed.{IsWellFormed}
use Rattle.hs_heap.specs.Sound.{AtomFits, PureFits, DisjunctFits, PredIsSound, IsSound, kinds}
use Rattle.hs_heap.specs.Renamed.{renamed_disjunct}
use Rattle.hs_heap.specs.Instance.{BodyFits, body_of, body_of_pred, body_of_inv, body_or_none, body_renaming, instantiated, next_after}
use Rattle.hs_xpure.specs.Approximation.{Former, conjunction, disjunction, address, variable, null, apart, all_apart, atoms_formed, case_formed, cases_formed, body_cases, body_formed, node_formed, inv_formed, inv_of, inv_and_body_of, of_formed, form, approximation_of, xpure_of}
use Rattle.hs_xpure.specs.Invariants.{pred_atom, invariant_premise}
use Rattle.hs_xpure.specs.Laws.{ApproximationIsOrdered, ApproximationIsPlain, PremiseCanBeAsked, PremiseIsLow}
use Rattle.hs_xpure.proofs.Used.{all_use_weaker, uses_disjunction}
use Rattle.hs_xpure.proofs.Numbers.{IsOldOrNew, InArguments, body_cases_fit, form_fits}
use Rattle.hs_xpure.proofs.Own.{own_fit}
use Rattle.hs_xpure.proofs.Few.{premise_takes_few}
use Rattle.hs_xpure.proofs.Bodies.{CasesAtomsFit, pred_in, pred_kinds, no_pred, pred_body_fits, keeps, cases_atoms_fit}

pub record Closed (P : Pure → Type 0) : Type 0 where
  pub all : (ps : List Pure) → (length ps ≡ 1 → ⊥) → AllByRecursion P ps → P (And ps)
  pub some : (ps : List Pure) → (length ps ≡ 1 → ⊥) → AllByRecursion P ps → P (Or ps)
  pub not : (p : Pure) → P p → P (Not p)
  pub equal : (u v : Var) → u.bag ≡ false → v.bag ≡ false → P (Eq (variable u) (variable v))
  pub is_null : (u : Var) → u.bag ≡ false → P (Eq (variable u) null)
  pub positive : (u : Var) → u.bag ≡ false → P (Lt null (variable u))
  pub rename : (ρ : Var → Var) → KeepsKinds ρ → (p : Pure) → P p → P (renamed ρ p)

-- it holds of each invariant and of the conjuncts of each body
abbrev pub Inside : (Pure → Type 0) → PredDef → Type 0
Inside P p = P p.inv × All (λ (d : Disjunct). All P d.pure) p.body.cases

module _ (P : Pure → Type 0) (closed : Closed P) where
  abbrev Each : List Pure → Type 0
  Each ps = AllByRecursion P ps

  each_append : (ps qs : List Pure) → Each ps → Each qs → Each (ps ++ qs)
  each_append [] qs f g = g
  each_append (p ∷ ps) qs (f, fs) g = (f, each_append ps qs fs g)

  pub conjunction_closed : (ps : List Pure) → Each ps → P (conjunction ps)
  conjunction_closed [] f = closed.all [] (λ e. absurd (omega arith)) f
  conjunction_closed (p ∷ []) f = f.0
  conjunction_closed (p ∷ q ∷ ps) f = closed.all (p ∷ q ∷ ps) (λ e. absurd (omega arith)) f

  pub disjunction_closed : (ps : List Pure) → Each ps → P (disjunction ps)
  disjunction_closed [] f = closed.some [] (λ e. absurd (omega arith)) f
  disjunction_closed (p ∷ []) f = f.0
  disjunction_closed (p ∷ q ∷ ps) f = closed.some (p ∷ q ∷ ps) (λ e. absurd (omega arith)) f

  apart_closed : (k l : ℕ) → P (apart k l)
  apart_closed k l = closed.some (Eq (variable (address k)) null ∷ Eq (variable (address l)) null ∷ Not (Eq (variable (address k)) (variable (address l))) ∷ []) (λ e. absurd (omega arith))
      (closed.is_null (address k) refl, (closed.is_null (address l) refl, (closed.not (Eq (variable (address k)) (variable (address l))) (closed.equal (address k) (address l) refl refl), tt)))

  from_closed : (k : ℕ) (ls : List ℕ) → Each (map (apart k) ls)
  from_closed k [] = tt
  from_closed k (l ∷ ls) = (apart_closed k l, from_closed k ls)

  all_apart_closed : (ks : List ℕ) → Each (all_apart ks)
  all_apart_closed [] = tt
  all_apart_closed (k ∷ ks) = each_append (map (apart k) ks) (all_apart ks) (from_closed k ks) (all_apart_closed ks)

  module _ (defs : Defs) where
    abbrev FormerCloses : Former → Type 0
    FormerCloses former = (a : Atom) (n : ℕ) → AtomFits defs a → Each (former a n).pure

    module _ (former : Former) (closes : FormerCloses former) where
      atoms_close : (atoms : List Atom) (n : ℕ) → All (AtomFits defs) atoms → Each (atoms_formed former atoms n).pure
      atoms_close [] n f = tt
      atoms_close (a ∷ rest) n f = each_append (former a n).pure (atoms_formed former rest (former a n).next).pure (closes a n (All-head (AtomFits defs) a rest f))
          (atoms_close rest (former a n).next (All-tail (AtomFits defs) a rest f))

      abbrev PuresEach : List Disjunct → Type 0
      PuresEach ds = AllByRecursion (λ (d : Disjunct). Each d.pure) ds

      cases_close : (ds : List Disjunct) (n : ℕ) → CasesAtomsFit defs ds → PuresEach ds → Each (cases_formed former ds n).pure
      cases_close [] n f g = tt
      cases_close (d ∷ ds) n (f, fs) (g, gs) =
          let atoms = atoms_formed former d.atoms n in (
            conjunction_closed (atoms.pure ++ d.pure ++ all_apart atoms.addresses)
                (each_append (atoms.pure ++ d.pure) (all_apart atoms.addresses) (each_append atoms.pure d.pure (atoms_close d.atoms n f) g) (all_apart_closed atoms.addresses)),
            cases_close ds (case_formed former d n).next fs gs,
          )

      renamed_each : (ρ : Var → Var) → KeepsKinds ρ → (ps : List Pure) → All P ps → Each (map (renamed ρ) ps)
      renamed_each ρ keep [] f = tt
      renamed_each ρ keep (p ∷ ps) f = (closed.rename ρ keep p (All-head P p ps f), renamed_each ρ keep ps (All-tail P p ps f))

      renamed_cases : (ρ : Var → Var) → KeepsKinds ρ → (ds : List Disjunct) → All (λ (d : Disjunct). All P d.pure) ds → PuresEach (map (renamed_disjunct ρ) ds)
      renamed_cases ρ keep [] f = tt
      renamed_cases ρ keep (d ∷ ds) f = (renamed_each ρ keep d.pure (All-head (λ (c : Disjunct). All P c.pure) d ds f), renamed_cases ρ keep ds (All-tail (λ (c : Disjunct). All P c.pure) d ds f))

      pub body_closes : (p : PredDef) → BodyFits defs (body_of_pred p) → All (λ (d : Disjunct). All P d.pure) p.body.cases → (root : Var) (args : List Var) (n : ℕ) → root.bag ≡ false → kinds p.params ≡ kinds args →
          Each (body_cases former (body_of_pred p) root args n).pure
      body_closes p fits inside root args n root_kind arity =
          let b = body_of_pred p in
          cases_close (instantiated b root args n).cases (next_after b n) (cases_atoms_fit defs b root args n root_kind arity b.formula.cases fits)
          (renamed_cases (body_renaming b root args n) (keeps defs b root args n root_kind arity) b.formula.cases inside)

    module _ (sound : IsSound defs) (inside : All (Inside P) defs.preds) where
      module _ (pred : ℕ) (root : Var) (args : List Var) (n : ℕ) (fits : AtomFits defs (pred_atom pred root args)) where
        some_inv_closes : (o : Option PredDef) → pred_at defs pred ≡ o → Each (inv_formed o root args n).pure
        some_inv_closes None e = tt
        some_inv_closes (Some p) e =
            (closed.rename (body_renaming (body_of_inv p) root args n) (keeps defs (body_of_inv p) root args n fits.0 (pred_kinds defs pred p root args fits e)) p.inv (pred_in (Inside P) defs pred p inside e).0, tt)

        inv_closes : Each (inv_of defs pred root args n).pure
        inv_closes = some_inv_closes (pred_at defs pred) refl

        some_body_closes : (former : Former) → FormerCloses former → (o : Option PredDef) → pred_at defs pred ≡ o → Each (body_formed former (body_or_none body_of_pred o) root args n).pure
        some_body_closes former closes None e = no_pred defs pred root args fits e
        some_body_closes former closes (Some p) e = (
          disjunction_closed (body_cases former (body_of_pred p) root args n).pure
              (body_closes former closes p (pred_body_fits defs sound pred p e) (pred_in (Inside P) defs pred p inside e).1 root args n fits.0 (pred_kinds defs pred p root args fits e)),
          tt,
        )

      node_closes : (root : Var) (n : ℕ) → root.bag ≡ false → Each (node_formed root n).pure
      node_closes root n kind = (closed.equal (address n) root refl kind, (closed.positive root kind, tt))

      by_inv : (o : Of) (root : Var) (args : List Var) (n : ℕ) → AtomFits defs (record { root = root; of = o; args = args }) → Each (of_formed (inv_of defs) o root args n).pure
      by_inv (Node kind) root args n fits = node_closes root n fits.0
      by_inv (Pred pred) root args n fits = inv_closes pred root args n fits

      by_body : (former : Former) → FormerCloses former → (o : Of) (root : Var) (args : List Var) (n : ℕ) → AtomFits defs (record { root = root; of = o; args = args }) → Each (of_formed (inv_and_body_of defs former) o root args n).pure
      by_body former closes (Node kind) root args n fits = node_closes root n fits.0
      by_body former closes (Pred pred) root args n fits =
          let inv = inv_of defs pred root args n in
          each_append inv.pure (body_formed former (body_of defs (Pred pred)) root args inv.next).pure (inv_closes pred root args n fits)
          (some_body_closes pred root args inv.next fits former closes (pred_at defs pred) refl)

      pub form_closes : (level : ℕ) → FormerCloses (form defs level)
      form_closes zero a n fits = by_inv a.of a.root a.args n fits
      form_closes (suc level) a n fits = by_body (form defs level) (form_closes level) a.of a.root a.args n fits

      approximation_each : (level n : ℕ) (atoms : List Atom) → All (AtomFits defs) atoms → Each (approximation_of defs level atoms n)
      approximation_each level n atoms fits =
          let all = atoms_formed (form defs level) atoms n in
          each_append all.pure (all_apart all.addresses) (atoms_close (form defs level) (form_closes level) atoms n fits) (all_apart_closed all.addresses)

      pub approximation_closed : (level n : ℕ) (atoms : List Atom) → All (AtomFits defs) atoms → All P (approximation_of defs level atoms n) × P (xpure_of defs level atoms n)
      approximation_closed level n atoms fits =
          let each = approximation_each level n atoms fits in
          (All-from_recursion P (approximation_of defs level atoms n) each, conjunction_closed (approximation_of defs level atoms n) each)

      -- the premise of the question that shows an invariant
      pub premise_closed : (p : PredDef) → BodyFits defs (body_of_pred p) → Inside P p → P (invariant_premise defs p)
      premise_closed p fits own = disjunction_closed (body_cases (form defs 0) (body_of_pred p) self_var p.params p.next).pure
          (body_closes (form defs 0) (form_closes 0) p fits own.1 self_var p.params p.next refl refl)

-- ---- sums in order

ordered_of : (p : Pure) (ls : List Lin) → sums p ≡ ls → All LinIsOrdered ls → IsOrdered p
ordered_of p ls e f = subst (All LinIsOrdered) (sym e) f

flat : (ps : List Pure) → AllByRecursion IsOrdered ps → All LinIsOrdered (flat_map (λ ls. ls) (map sums ps))
flat [] f = All-nil LinIsOrdered
flat (p ∷ ps) (f, fs) = All-append LinIsOrdered (sums p) (flat_map (λ ls. ls) (map sums ps)) f (flat ps fs)

variable_ordered : (v : Var) → v.bag ≡ false → LinIsOrdered (variable v)
variable_ordered v e = (omega arith, e, (λ d. absurd (grind arith)), tt)

two_ordered : (a b : Lin) → LinIsOrdered a → LinIsOrdered b → All LinIsOrdered (a ∷ b ∷ [])
two_ordered a b f g = All-cons LinIsOrdered a (b ∷ []) f (All-cons LinIsOrdered b [] g (All-nil LinIsOrdered))

pub ordered_closed : Closed IsOrdered
ordered_closed = record {
  all = λ ps n f. ordered_of (And ps) (flat_map (λ ls. ls) (map sums ps)) (fold-And sums_level ps) (flat ps f);
  some = λ ps n f. ordered_of (Or ps) (flat_map (λ ls. ls) (map sums ps)) (fold-Or sums_level ps) (flat ps f);
  not = λ p f. ordered_of (Not p) (sums p) (fold-Not sums_level p) f;
  equal = λ u v e f. ordered_of (Eq (variable u) (variable v)) (variable u ∷ variable v ∷ []) (fold-Eq sums_level (variable u) (variable v)) (two_ordered (variable u) (variable v) (variable_ordered u e) (variable_ordered v f));
  is_null = λ u e. ordered_of (Eq (variable u) null) (variable u ∷ null ∷ []) (fold-Eq sums_level (variable u) null) (two_ordered (variable u) null (variable_ordered u e) tt);
  positive = λ u e. ordered_of (Lt null (variable u)) (null ∷ variable u ∷ []) (fold-Lt sums_level null (variable u)) (two_ordered null (variable u) tt (variable_ordered u e));
  rename = λ ρ keep p f. ordered-renamed ρ keep p f;
}

-- ---- bag literals under no quantifier

abbrev IsPlain : Pure → Type 0
IsPlain p = IsTrue (is_bags_plain p)

not_under : (p : Pure) → IsPlain p → (bag_use p).under ≡ false
not_under p h = grind arith

plain_of : (p : Pure) → (bag_use p).under ≡ false → IsPlain p
plain_of p e = subst (λ b. IsTrue (not b)) (sym e) refl

none_of : (ps : List Pure) → AllByRecursion IsPlain ps → list_any (λ (u : BagUse). u.under) (map bag_use ps) ≡ false
none_of [] f = refl
none_of (p ∷ ps) (f, fs) = let d = not_under p f in let e = none_of ps fs in grind arith

pub plain_closed : Closed IsPlain
plain_closed = record {
  all = λ ps n f. plain_of (And ps) (ap (λ (u : BagUse). u.under) (fold-And bag_use_level ps) ∙ none_of ps f);
  some = λ ps n f. plain_of (Or ps) (ap (λ (u : BagUse). u.under) (fold-Or bag_use_level ps) ∙ none_of ps f);
  not = λ p f. plain_of (Not p) (ap (λ (u : BagUse). u.under) (fold-Not bag_use_level p) ∙ not_under p f);
  equal = λ u v e f. plain_of (Eq (variable u) (variable v)) (ap (λ (b : BagUse). b.under) (fold-Eq bag_use_level (variable u) (variable v)));
  is_null = λ u e. plain_of (Eq (variable u) null) (ap (λ (b : BagUse). b.under) (fold-Eq bag_use_level (variable u) null));
  positive = λ u e. plain_of (Lt null (variable u)) (ap (λ (b : BagUse). b.under) (fold-Lt bag_use_level null (variable u)));
  rename = λ ρ keep p f. plain_of (renamed ρ p) (ap (λ (b : BagUse). b.under) (bag_use-renamed ρ p) ∙ not_under p f);
}

-- ---- the laws

module _ (P : Pure → Type 0) (formed : (p : Pure) → IsWellFormed p → P p) (defs : Defs) (sound : IsSound defs) where
  inside_formed : All (Inside P) defs.preds
  inside_formed = All-weaker (PredIsSound defs) (Inside P) one defs.preds sound.preds
    where
      one : (p : PredDef) → PredIsSound defs p → Inside P p
      one p f = (
        formed p.inv f.invariant.formed,
        All-weaker (DisjunctFits defs (self_var ∷ p.params) p.next) (λ (d : Disjunct). All P d.pure) (λ d g. All-weaker (PureFits (self_var ∷ p.params) p.next) P (λ q h. formed q h.formed) d.pure g.pure) p.body.cases f.body,
      )

module _ (defs : Defs) (sound : IsSound defs) where
  inside_ordered : All (Inside IsOrdered) defs.preds
  inside_ordered = inside_formed IsOrdered (λ p f. f.ordered) defs sound

  inside_plain : All (Inside IsPlain) defs.preds
  inside_plain = inside_formed IsPlain (λ p f. f.plain) defs sound

pub approximation_is_ordered : ApproximationIsOrdered
approximation_is_ordered defs sound level n atoms fits = approximation_closed IsOrdered ordered_closed defs sound (inside_ordered defs sound) level n atoms fits

pub approximation_is_plain : ApproximationIsPlain
approximation_is_plain defs sound level n atoms fits = approximation_closed IsPlain plain_closed defs sound (inside_plain defs sound) level n atoms fits

pub premise_can_be_asked : PremiseCanBeAsked
premise_can_be_asked defs sound pred p e =
    let fits = pred_body_fits defs sound pred p e in
    let ordered = inside_ordered defs sound in
    let plain = inside_plain defs sound in
    let own = pred_in (Inside IsOrdered) defs pred p ordered e in
    let bags = pred_in (Inside IsPlain) defs pred p plain e in (
      record { ordered = premise_closed IsOrdered ordered_closed defs sound ordered p fits own; plain = premise_closed IsPlain plain_closed defs sound plain p fits bags },
      record { ordered = own.0; plain = bags.0 },
    )

-- ---- numbers

abbrev IsLow : Var → Type 0
IsLow v = v.number < 2 ^ 31

pub premise_is_low : PremiseIsLow
premise_is_low defs sound pred p e =
    let whole = pred_in (PredIsSound defs) defs pred p sound.preds e in
    let bounded = whole.head.bounded in
    let few = premise_takes_few defs sound pred p e in
    let own = own_fit defs sound pred p e in
    let cases = body_cases_fit defs (form defs 0) (form_fits defs sound 0) (body_of_pred p) (pred_body_fits defs sound pred p e) self_var p.params p.next own in
    let formed = body_cases (form defs 0) (body_of_pred p) self_var p.params p.next in (
      uses_disjunction IsLow formed.pure
          (all_use_weaker (IsOldOrNew (InArguments self_var p.params) p.next formed.next) IsLow
          (λ v o. elim o [ inl i ↦ let d = own.below v i in omega arith | inr k ↦ let (low, high) = k in omega arith ]) formed.pure cases.pure),
      λ v o. let (some', below) = whole.invariant.numbers v o in omega arith,
    )
