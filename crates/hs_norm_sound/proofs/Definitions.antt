-- The predicates and lemmas of a source are sound.
use Rattle.std.proofs.Common.{◌≡◌, ℕ, suc, ◌+◌, ◌<◌, ◌≤◌, Bool, true, false, not, nat_eq, IsTrue, List, [], ◌∷◌, ◌++◌, length, map, Option, Some, None, refl, sym, ap, ◌∙◌, subst, arith}
use mathlib.Core.Bool.{beq}
use Rattle.std.specs.List.{All, AllByRecursion, AllZip, filter_map, fold, zip}
use Rattle.std.proofs.lemmas.Bool.Decides.{nat_tests}
use Rattle.std.proofs.lemmas.List.Elements.{All-nil, All-cons, All-from_recursion}
use Rattle.hs_tree.specs.declared.ident.Ident.{Ident}
use Rattle.hs_tree.specs.declared.item.ItemTree.{ItemTree}
use Rattle.hs_tree.specs.declared.source.PredTree.{PredTree}
use Rattle.hs_tree.specs.declared.source.LemmaTree.{LemmaTree}
use Rattle.hs_tree.specs.declared.source.SourceItem.{SourceItem}
use Rattle.hs_pure.specs.declared.var.Var.{Var}
use Rattle.hs_pure.specs.declared.lin.Lin.{Lin}
use Rattle.hs_pure.specs.declared.pure.Pure.{fold-Pure}
use Rattle.hs_pure.specs.declared.pure.Pure.TheOpen.{Pure-F}
use Rattle.hs_pure.specs.declared.pure.Pure.TheVariants as pure_of
use Rattle.hs_pure.specs.Occurs.{is_free, is_bound, occurs, is_free_level, is_bound_level, occurs_level, BagUse, bag_use_level}
use Rattle.hs_pure.specs.Rename.{sums_level}
use Rattle.hs_heap.specs.WellFormed.{bag_names_level, member_counts_level}
use Rattle.hs_pure.specs.Sums.{LinIsLight, LinIsOrdered}
use Rattle.hs_heap.specs.declared.formula.Of.{Of}
use Rattle.hs_heap.specs.declared.formula.Of.TheVariants as of
use Rattle.hs_heap.specs.declared.definitions.PredDef.{PredDef}
use Rattle.hs_heap.specs.declared.definitions.Lemma.{Lemma}
use Rattle.hs_heap.specs.declared.definitions.Defs.{Defs}
use Rattle.hs_heap.specs.Meaning.{self_var}
use Rattle.hs_heap.specs.Sound.{IsNumbered, AreAmong, argument_kinds, PureFits, DisjunctFits, FormulaFits, HeadFits, PredIsSound, LemmaIsSound, IsSound}
use Rattle.hs_numbering.specs.declared.names.Names.{Names}
use Rattle.hs_numbering.specs.declared.fault.Limit.TheVariants.{Preds, Params, Lemmas}
use Rattle.hs_numbering.specs.declared.fault.Problem.TheVariants.{Unknown, Kind, Arity}
use Rattle.hs_numbering.specs.declared.numbering.Numbering.{Numbering}
use Rattle.hs_numbering.specs.declared.numbering.Reading.{Reading}
use Rattle.hs_numbering.specs.declared.numbering.Reading.TheVariants.{Closed}
use Rattle.hs_numbering.specs.Names.{is_upper}
use Rattle.hs_numbering.specs.Numbering.{Builder, each, start, next, is_open, is_numbered, self_name, blame_twice}
use Rattle.hs_norm_formula.specs.declared.table.Entry.{Entry}
use Rattle.hs_norm_formula.specs.Table.{entry}
use Rattle.hs_norm_formula.specs.Sum.{blame_kind}
use Rattle.hs_norm_formula.specs.Formula.{blame_arity, limit, disjunct, formula}
use Rattle.hs_norm.specs.declared.resolved.Resolved.{Resolved}
use Rattle.hs_declared.specs.Names.{place}
use Rattle.hs_norm_item.specs.Claim.{fix_self}
use Rattle.hs_declared.specs.Declaring.{entries, is_other, blame_repeated_from, blame_repeated}
use Rattle.hs_norm.specs.Items.{pred_of, lemma_of}
use Rattle.hs_norm_item.specs.Definitions.{param, params, invariant, pred, blame_param_kind, lemma_pred_of, lemma_pred_by, lemma_pred, lemma}
use Rattle.hs_formula_fits.specs.Fits.{vars_of, free_vars, IsSettled, Extends, EntriesFit}
use Rattle.hs_formula_fits.specs.Laws.{ConjunctionFits, ConjunctionsFit, DisjunctsFit, FormulasFit}
use Rattle.hs_pure.proofs.Views.{fold-And}
use Rattle.hs_formula_fits.proofs.State.{extends_itself}
use Rattle.hs_norm_sound.proofs.Passing.{KeepsFaults, not_pushed, each_keeps, each_from, counted_keeps}
use Rattle.hs_norm_sound.proofs.Apart.{twice_not, repeated_keeps}
use Rattle.hs_norm_sound.proofs.Stays.{FaultsStay, limit_same, fix_keeps, param_keeps, params_keeps, param_kind_keeps, lemma_pred_keeps, invariant_keeps}
use Rattle.hs_norm_sound.proofs.Fixing.{Fixing, fixing_start, fixing_fix, fixing_all, fix_is, settled_of, free_fixed, follow_numbered}
use Rattle.hs_norm_sound.proofs.Source.{Built, SourceBuilt}
use Rattle.hs_norm_sound.proofs.Entries.{EntryIs, entry_is, kinds_at, entries_fit}
use Rattle.hs_norm_sound.proofs.Defined.{params_kinds, table_is}
use Rattle.hs_norm_sound.proofs.Wider.{formula_higher, next_is}

-- ---- parts that leave a numbering as it is, where they blame nothing

abbrev pub IsSame : {A : Type 0} → Builder A → Type 0
IsSame p = (n : Numbering) → (p n).1.faults ≡ [] → (p n).1 ≡ n

twice_same : (x : Ident) (b : Bool) → IsSame (blame_twice x b)
twice_same x b n e = subst (λ c. (blame_twice x c n).1 ≡ n) (sym (twice_not x b n e)) refl

repeated_from_same : (all : List Ident) (i : ℕ) (xs : List Ident) → IsSame (blame_repeated_from all i xs)
repeated_from_same all i [] n e = refl
repeated_from_same all i (x ∷ xs) n e =
    let s = (blame_twice x (is_other i (place x.text all)) n).1 in
    let clear = repeated_keeps all (suc i) xs s e in
    repeated_from_same all (suc i) xs s e ∙ twice_same x (is_other i (place x.text all)) n clear

repeated_same : (xs : List Ident) → IsSame (blame_repeated xs)
repeated_same xs = repeated_from_same xs 0 xs

kind_same : (at : ℕ) (b : Bool) → IsSame (blame_kind at b)
kind_same at true n e = absurd (not_pushed n.faults (record { at = at; problem = Kind }) e)
kind_same at false n e = refl

kind_not : (at : ℕ) (b : Bool) (n : Numbering) → (blame_kind at b n).1.faults ≡ [] → b ≡ false
kind_not at true n e = absurd (not_pushed n.faults (record { at = at; problem = Kind }) e)
kind_not at false n e = refl

arity_same : (at : ℕ) (b : Bool) → IsSame (blame_arity at b)
arity_same at true n e = refl
arity_same at false n e = absurd (not_pushed n.faults (record { at = at; problem = Arity }) e)

arity_is : (at : ℕ) (b : Bool) (n : Numbering) → (blame_arity at b n).1.faults ≡ [] → b ≡ true
arity_is at true n e = refl
arity_is at false n e = absurd (not_pushed n.faults (record { at = at; problem = Arity }) e)

-- each of a list leaves it, and something holds of each
module _ {A B : Type 0} (f : A → Builder B) (keeps : (x : A) → KeepsFaults (f x)) (same : (x : A) → IsSame (f x)) (P : A → Type 0) (holds : (x : A) (n : Numbering) → (f x n).1.faults ≡ [] → P x) where
  abbrev step : List B × Numbering → A → List B × Numbering
  step done x = (done.0 ++ (f x done.1).0 ∷ [], (f x done.1).1)

  same_from : (xs : List A) (ys : List B) (n : Numbering) → (fold step (ys, n) xs).1.faults ≡ [] → ((fold step (ys, n) xs).1 ≡ n) × AllByRecursion P xs
  same_from [] ys n e = (refl, tt)
  same_from (x ∷ xs) ys n e =
      let clear = each_from f keeps xs (ys ++ (f x n).0 ∷ []) (f x n).1 e in
      let rest = same_from xs (ys ++ (f x n).0 ∷ []) (f x n).1 e in
      (rest.0 ∙ same x n clear, (holds x n clear, rest.1))

  pub each_same : (xs : List A) (n : Numbering) → (each f xs n).1.faults ≡ [] → ((each f xs n).1 ≡ n) × AllByRecursion P xs
  each_same xs n e = same_from xs [] n e

-- ---- parameters

self_fixed : (at : ℕ) (n : Numbering) → Fixing Closed n [] → (fix_self at n).1.faults ≡ [] → Fixing Closed (fix_self at n).1 (self_var ∷ [])
self_fixed at n f e =
    let x : Ident = record { text = self_name; at = at } in
    let first : (fix_self at n).0 ≡ self_var = ap (λ out. out.0) (fix_is x n e).1 ∙ (λ i. record { number = f.names i + 1; bag = false }) in
    subst (λ (v : Var). Fixing Closed (fix_self at n).1 (v ∷ [])) first (fixing_fix Closed x n [] f e)

param_fixed : (k : ℕ) (x : Ident) (n : Numbering) (vs : List Var) → Fixing Closed n vs → (param k x n).1.faults ≡ [] → Fixing Closed (param k x n).1 (vs ++ (param k x n).0 ∷ [])
param_fixed k x n vs f e =
    let s = (limit 16 Params x.at k n).1 in
    fixing_fix Closed x s vs (subst (λ m. Fixing Closed m vs) (sym (limit_same 16 Params x.at k n (fix_keeps x s e))) f) e

pub params_fixed : (at : ℕ) (xs : List Ident) (n : Numbering) → Fixing Closed n [] → (params at xs n).1.faults ≡ [] → Fixing Closed (params at xs n).1 (self_var ∷ (params at xs n).0)
params_fixed at xs n f e =
    let s1 = (fix_self at n).1 in
    let s2 = (blame_repeated xs s1).1 in
    let e2 = counted_keeps param param_keeps xs s2 e in
    let e1 = repeated_keeps xs 0 xs s1 e2 in
    let f2 = subst (λ m. Fixing Closed m (self_var ∷ [])) (sym (repeated_same xs s1 e2)) (self_fixed at n f e1) in
    fixing_all Closed param param_keeps param_fixed (self_var ∷ []) xs [] s2 f2 e

pub settled_fixed : (reading : Reading) (n : Numbering) (vs : List Var) → is_numbered reading ≡ false → Fixing reading n vs → IsSettled n
settled_fixed reading n vs named f = settled_of reading n vs (length n.names) named f (self (length n.names)) n.names refl f.few
  where
    self : (k : ℕ) → k ≤ k
    self k = omega arith

-- the head of a predicate or lemma
head_fits : (n m : Numbering) (vs : List Var) → Fixing Closed n (self_var ∷ vs) → length n.names ≤ length m.names → length m.names ≤ 1000 → HeadFits vs (next m)
head_fits n m vs f le few = record {
  params_follow = f.follow.1;
  numbers = All-from_recursion (IsNumbered (next m)) (self_var ∷ vs) (follow_numbered (self_var ∷ vs) (next m) f.follow less);
  bounded = let is = next_is m few in omega arith;
}
  where
    less : length (self_var ∷ vs) < next m
    less = let is = next_is m few in let same = f.names in omega arith

-- in a closed claim no name is learned
pub free_stays : (n m : Numbering) → Extends n m → is_open n.reading ≡ false → free_vars m ≡ free_vars n
free_stays n m x closed = λ i. vars_of (x.fixed i ++ x.closed closed i)

-- ---- invariants

at_nothing : (A : Type 0) (level : Pure-F A → A) → fold-Pure A level (pure_of.And []) ≡ level (Pure-F.And [])
at_nothing A level = fold-And level []

never : (b : Bool) → b ≡ false → IsTrue b → ⊥
never b e h = cc

nothing_free : (v : Var) → IsTrue (is_free v (pure_of.And [])) → ⊥
nothing_free v = never (is_free v (pure_of.And [])) (at_nothing Bool (is_free_level v))

nothing_bound : (v : Var) → IsTrue (is_bound v (pure_of.And [])) → ⊥
nothing_bound v = never (is_bound v (pure_of.And [])) (at_nothing Bool (is_bound_level v))

nothing_fits : (free : List Var) (k : ℕ) → PureFits free k (pure_of.And [])
nothing_fits free k = record {
  formed = record {
    ordered = subst (All LinIsOrdered) (sym (at_nothing (List Lin) sums_level)) (All-nil LinIsOrdered);
    light = subst (All LinIsLight) (sym (at_nothing (List Lin) sums_level)) (All-nil LinIsLight);
    bags = subst (All (λ (v : Var). v.bag ≡ true)) (sym (at_nothing (List Var) bag_names_level)) (All-nil (λ (v : Var). v.bag ≡ true));
    binders = λ u b. absurd (nothing_bound u b);
    members = subst (All (λ (n : ℕ). ¬ (n ≡ 1))) (sym (at_nothing (List ℕ) member_counts_level)) (All-cons (λ (n : ℕ). ¬ (n ≡ 1)) 0 [] (λ e. absurd (omega arith)) (All-nil (λ (n : ℕ). ¬ (n ≡ 1))));
    plain = ap (λ (u : BagUse). not u.under) (at_nothing BagUse bag_use_level);
  };
  apart = λ u b. absurd (nothing_bound u b);
  numbers = λ v o. absurd (never (occurs v (pure_of.And [])) (at_nothing Bool (occurs_level v)) o);
}

module _ (conjunctions : ConjunctionsFit) where
  invariant_fits : (o : Option (List ItemTree)) (n : Numbering) → IsSettled n → (invariant o n).1.faults ≡ [] → ConjunctionFits n (invariant o n).1 (invariant o n).0
  invariant_fits None n settled e = record {
    settled = settled;
    extends = extends_itself n;
    fits = nothing_fits (free_vars n) (next n);
    among = λ v h. absurd (nothing_free v h);
    new = λ u b. absurd (nothing_bound u b);
  }
  invariant_fits (Some items) n settled e = conjunctions items n settled e

  module _ (formulas : FormulasFit) (stay : FaultsStay) (defs : Defs) (table : List Entry) (fit : EntriesFit defs table) where
    pred_sound : (k : ℕ) (p : PredTree) (n : Numbering) → (pred table k p n).1.faults ≡ [] → PredIsSound defs (pred table k p n).0.0
    pred_sound k p n e =
        let s1 = start Closed n.faults in
        let s2 = (limit 256 Preds p.at k s1).1 in
        let s3 = (params p.at p.params s2).1 in
        let s4 = (formula table p.body s3).1 in
        let s5 = (invariant p.inv s4).1 in
        let e4 = invariant_keeps stay p.inv s4 e in
        let e3 = stay.formulas table p.body s3 e4 in
        let e2 = params_keeps p.at p.params s2 e3 in
        let f2 = subst (λ m. Fixing Closed m []) (sym (limit_same 256 Preds p.at k s1 e2)) (fixing_start Closed n.faults) in
        let f3 = params_fixed p.at p.params s2 f2 e3 in
        let body = formulas defs table fit p.body s3 (settled_fixed Closed s3 (self_var ∷ (params p.at p.params s2).0) refl f3) e4 in
        let inv = invariant_fits p.inv s4 body.settled e in
        let closed3 : is_open s3.reading ≡ false = ap is_open f3.read in
        let closed4 : is_open s4.reading ≡ false = ap is_open body.extends.reading ∙ closed3 in
        let free4 = free_stays s3 s4 body.extends closed3 ∙ free_fixed Closed s3 (self_var ∷ (params p.at p.params s2).0) f3 in
        let free5 = free_stays s4 s5 inv.extends closed4 ∙ free4 in
        let le = inv.extends.names in
        record {
          head = head_fits s3 s5 (params p.at p.params s2).0 f3 (longer (length s3.names) (length s4.names) (length s5.names) body.extends.names le) inv.settled.few;
          body = formula_higher defs (self_var ∷ (params p.at p.params s2).0) (next s4) (next s5) (higher s4 s5 body.settled.few inv.settled.few le) (formula table p.body s3).0
              (subst (λ free. FormulaFits defs free (next s4) (formula table p.body s3).0) free4 body.fits);
          cases = body.few;
          short = body.short;
          invariant = subst (λ free. PureFits free (next s5) (invariant p.inv s4).0) free5 inv.fits;
          invariant_among = subst (AreAmong (λ v. is_free v (invariant p.inv s4).0)) free5 inv.among;
        }
      where
        longer : (a b c : ℕ) → a ≤ b → b ≤ c → a ≤ c
        longer a b c h g = omega arith

        higher : (n m : Numbering) → length n.names ≤ 1000 → length m.names ≤ 1000 → length n.names ≤ length m.names → next n ≤ next m
        higher n m a b le = let x = next_is n a in let y = next_is m b in omega arith

-- ---- lemmas

same_kind : (a b : Bool) → not (beq a b) ≡ false → a ≡ b
same_kind true true e = refl
same_kind true false e = cc
same_kind false true e = cc
same_kind false false e = refl

zip_kinds : (ks : List Bool) (xs : List Ident) → length ks ≡ length xs → AllByRecursion (λ (p : Bool × Ident). p.0 ≡ is_upper p.1.text) (zip ks xs) → ks ≡ map (λ x. is_upper x.text) xs
zip_kinds [] [] e h = refl
zip_kinds [] (x ∷ xs) e h = absurd (omega arith)
zip_kinds (k ∷ ks) [] e h = absurd (omega arith)
zip_kinds (k ∷ ks) (x ∷ xs) e h = let rest = zip_kinds ks xs (omega arith) h.1 in λ i. h.0 i ∷ rest i

-- the predicate that a lemma speaks of
record LemmaPred (defs : Defs) (l : LemmaTree) (n : Numbering) (out : ℕ × Numbering) : Type 0 where
  like : argument_kinds defs (of.Pred out.0) ≡ Some (map (λ x. is_upper x.text) l.params)
  same : out.1 ≡ n

lemma_pred_fits : (defs : Defs) (table : List Entry) → AllByRecursion (EntryIs defs) table → (l : LemmaTree) (n : Numbering) → (lemma_pred table l n).1.faults ≡ [] → LemmaPred defs l n (lemma_pred table l n)
lemma_pred_fits defs table are l n e = go (entry l.pred.text table) refl e
  where
    equal : (m k : ℕ) → nat_eq m k ≡ true → m ≡ k
    equal m k h = grind (arith, nat_tests)

    by : (x : Entry) → argument_kinds defs x.of ≡ Some x.kinds → (o : Of) → x.of ≡ o → (lemma_pred_of l x o n).1.faults ≡ [] → LemmaPred defs l n (lemma_pred_of l x o n)
    by x known (of.Node k) is e = absurd (not_pushed n.faults (record { at = l.pred.at; problem = Unknown l.pred.text }) e)
    by x known (of.Pred k) is e =
        let b = nat_eq (length x.kinds) (length l.params) in
        let s = (blame_arity l.pred.at b n).1 in
        let done = each_same blame_param_kind param_kind_keeps (λ p. kind_same p.1.at (not (beq p.0 (is_upper p.1.text)))) (λ p. p.0 ≡ is_upper p.1.text)
        (λ p m h. same_kind p.0 (is_upper p.1.text) (kind_not p.1.at (not (beq p.0 (is_upper p.1.text))) m h)) (zip x.kinds l.params) s e in
        let clear = each_keeps blame_param_kind param_kind_keeps (zip x.kinds l.params) s e in
        record {
          like = ap (argument_kinds defs) (sym is) ∙ known ∙ ap Some (zip_kinds x.kinds l.params (equal (length x.kinds) (length l.params) (arity_is l.pred.at b n clear)) done.1);
          same = done.0 ∙ arity_same l.pred.at b n clear;
        }

    go : (o : Option Entry) → entry l.pred.text table ≡ o → (lemma_pred_by l o n).1.faults ≡ [] → LemmaPred defs l n (lemma_pred_by l o n)
    go None p e = absurd (not_pushed n.faults (record { at = l.pred.at; problem = Unknown l.pred.text }) e)
    go (Some x) p e = by x (kinds_at defs x (entry_is (EntryIs defs) l.pred.text table x p are).0) x.of refl e

module _ (disjuncts : DisjunctsFit) (stay : FaultsStay) (defs : Defs) (table : List Entry) (are : AllByRecursion (EntryIs defs) table) where
  lemma_sound : (k : ℕ) (l : LemmaTree) (n : Numbering) → (lemma table k l n).1.faults ≡ [] → LemmaIsSound defs (lemma table k l n).0.0
  lemma_sound k l n e =
      let s1 = start Closed n.faults in
      let s2 = (limit 64 Lemmas l.at k s1).1 in
      let s3 = (lemma_pred table l s2).1 in
      let s4 = (params l.at l.params s3).1 in
      let s5 = (disjunct table l.right s4).1 in
      let vars = (params l.at l.params s3).0 in
      let e4 = stay.disjuncts table l.right s4 e in
      let e3 = params_keeps l.at l.params s3 e4 in
      let e2 = lemma_pred_keeps table l s2 e3 in
      let f2 = subst (λ m. Fixing Closed m []) (sym (limit_same 64 Lemmas l.at k s1 e2)) (fixing_start Closed n.faults) in
      let p = lemma_pred_fits defs table are l s2 e3 in
      let f3 = subst (λ m. Fixing Closed m []) (sym p.same) f2 in
      let f4 = params_fixed l.at l.params s3 f3 e4 in
      let right = disjuncts defs table (entries_fit defs table are) l.right s4 (settled_fixed Closed s4 (self_var ∷ vars) refl f4) e in
      let free5 = free_stays s4 s5 right.extends (ap is_open f4.read) ∙ free_fixed Closed s4 (self_var ∷ vars) f4 in
      record {
        head = head_fits s4 s5 vars f4 right.extends.names right.settled.few;
        like = p.like ∙ ap Some (sym (params_kinds l.at l.params s3 e4));
        right = subst (λ free. DisjunctFits defs free (next s5) (disjunct table l.right s4).0) free5 right.fits;
        short = right.short;
      }

module _ (conjunctions : ConjunctionsFit) (disjuncts : DisjunctsFit) (formulas : FormulasFit) (stay : FaultsStay) (items : List SourceItem) (r : Resolved) (b : SourceBuilt items r) where
  abbrev are : AllByRecursion (EntryIs r.defs) (entries items)
  are = table_is stay items r b

  preds_sound : (ps : List PredTree) (qs : List (PredDef × Names)) → AllZip (Built (pred (entries items))) ps qs → AllByRecursion (PredIsSound r.defs) (map (λ q. q.0) qs)
  preds_sound [] [] h = tt
  preds_sound [] (q ∷ qs) h = absurd h
  preds_sound (p ∷ ps) [] h = absurd h
  preds_sound (p ∷ ps) (q ∷ qs) h =
      (subst (λ (z : PredDef × Names). PredIsSound r.defs z.0) (sym h.0.3) (pred_sound conjunctions formulas stay r.defs (entries items) (entries_fit r.defs (entries items) are) h.0.0 p h.0.1 h.0.2), preds_sound ps qs h.1)

  lemmas_sound : (ls : List LemmaTree) (qs : List (Lemma × Names)) → AllZip (Built (lemma (entries items))) ls qs → AllByRecursion (LemmaIsSound r.defs) (map (λ q. q.0) qs)
  lemmas_sound [] [] h = tt
  lemmas_sound [] (q ∷ qs) h = absurd h
  lemmas_sound (l ∷ ls) [] h = absurd h
  lemmas_sound (l ∷ ls) (q ∷ qs) h =
      (subst (λ (z : Lemma × Names). LemmaIsSound r.defs z.0) (sym h.0.3) (lemma_sound disjuncts stay r.defs (entries items) are h.0.0 l h.0.1 h.0.2), lemmas_sound ls qs h.1)

  pub defs_sound : IsSound r.defs
  defs_sound = record {
    preds = All-from_recursion (PredIsSound r.defs) r.defs.preds (subst (AllByRecursion (PredIsSound r.defs)) (sym b.preds_are) (preds_sound (filter_map pred_of items) b.preds b.preds_built));
    lemmas = All-from_recursion (LemmaIsSound r.defs) r.defs.lemmas (subst (AllByRecursion (LemmaIsSound r.defs)) (sym b.lemmas_are) (lemmas_sound (filter_map lemma_of items) b.lemmas b.lemmas_built));
  }
