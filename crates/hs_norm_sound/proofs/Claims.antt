-- The entailments of a source are well formed.
use Rattle.std.proofs.Common.{◌≡◌, ℕ, ◌<◌, ◌≤◌, ◌↔◌, Bool, true, false, not, ◌&&◌, ◌||◌, IsTrue, List, [], ◌∷◌, ◌++◌, length, if◌then◌else◌, refl, sym, ap, ◌∙◌, subst, arith, le_refl, le_trans, le_of_lt, lt_of_le_of_lt}
use Rattle.std.specs.List.{All, AllByRecursion, AllZip, filter, filter_map}
use Rattle.std.proofs.lemmas.Bool.{and_parts, and_from}
use Rattle.std.proofs.lemmas.List.{map-append}
use Rattle.std.proofs.lemmas.List.Elements.{All-weaker, All-append, All-map, All-from_recursion}
use Rattle.hs_tree.specs.declared.source.EntailTree.{EntailTree}
use Rattle.hs_tree.specs.declared.source.SourceItem.{SourceItem}
use Rattle.hs_pure.specs.declared.var.Var.{Var}
use Rattle.hs_pure.specs.Stack.{same}
use Rattle.hs_heap.specs.declared.formula.Formula.{Formula}
use Rattle.hs_heap.specs.declared.definitions.Defs.{Defs}
use Rattle.hs_heap.specs.Meaning.{is_in}
use Rattle.hs_heap.specs.Variables.{is_free_in_disjunct, is_free_in_formula}
use Rattle.hs_heap.specs.Sound.{IsNumbered, DisjunctFits, FormulaFits}
use Rattle.hs_heap.proofs.Stacks.{same_true}
use Rattle.hs_heap.proofs.Lists.{any_forth}
use Rattle.hs_numbering.specs.declared.fault.Limit.TheVariants.{Entailments}
use Rattle.hs_numbering.specs.declared.numbering.Named.{Named}
use Rattle.hs_numbering.specs.declared.numbering.Numbering.{Numbering}
use Rattle.hs_numbering.specs.declared.numbering.Reading.TheVariants.{Open}
use Rattle.hs_numbering.specs.Numbering.{start, next}
use Rattle.hs_norm_formula.specs.declared.table.Entry.{Entry}
use Rattle.hs_norm_formula.specs.Formula.{limit, formula}
use Rattle.hs_norm.specs.declared.resolved.Resolved.{Resolved}
use Rattle.hs_norm_item.specs.declared.forms.Entailment.{Entailment}
use Rattle.hs_declared.specs.Declaring.{entries}
use Rattle.hs_norm.specs.Items.{entail_of}
use Rattle.hs_norm_item.specs.Claims.{is_open, opens_among, entailment}
use Rattle.hs_formula_fits.specs.Fits.{vars_of, free_vars, NamedFits, RiseAbove, IsSettled, Extends, EntriesFit}
use Rattle.hs_formula_fits.specs.Laws.{FormulasFit}
use Rattle.hs_formula_fits.proofs.State.{rise_above, is_in-append, neither, below_all, extends_later, free_more, in_free}
use Rattle.hs_read.specs.Written.{IsWritten}
use Rattle.hs_norm_sound.specs.Claims.{EntailmentIsNormal, HasDisjunct}
use Rattle.hs_norm_sound.proofs.Passing.{zip_right}
use Rattle.hs_norm_sound.proofs.Stays.{FaultsStay, limit_same}
use Rattle.hs_norm_sound.proofs.Fixing.{Fixing, fixing_start}
use Rattle.hs_norm_sound.proofs.Source.{Built, SourceBuilt}
use Rattle.hs_norm_sound.proofs.Entries.{entries_fit}
use Rattle.hs_norm_sound.proofs.Defined.{table_is}
use Rattle.hs_norm_sound.proofs.Definitions.{settled_fixed}
use Rattle.hs_norm_sound.proofs.Wider.{Widens, Binders, formula_wider, below_next, next_is}

-- ---- variables that pass a test

module _ (p : Var → Bool) where
  pub filter_in : (v : Var) (vs : List Var) → is_in v (filter p vs) ≡ (is_in v vs && p v)
  filter_in v [] = refl
  filter_in v (w ∷ ws) = go (p w) (same v w) refl refl (filter_in v ws)
    where
      go : (b s : Bool) → p w ≡ b → same v w ≡ s → is_in v (filter p ws) ≡ (is_in v ws && p v) → is_in v (if b then w ∷ filter p ws else filter p ws) ≡ ((s || is_in v ws) && p v)
      go true true k h ih = (λ i. h i || is_in v (filter p ws)) ∙ sym (ap p (same_true v w h) ∙ k)
      go true false k h ih = (λ i. h i || is_in v (filter p ws)) ∙ ih
      go false true k h ih = ih ∙ (λ i. is_in v ws && here i) ∙ none (is_in v ws) ∙ sym here
        where
          here : p v ≡ false
          here = ap p (same_true v w h) ∙ k

          none : (a : Bool) → (a && false) ≡ false
          none true = refl
          none false = refl
      go false false k h ih = ih

  -- above k, and so above j
  filter_rises : (j k : ℕ) (vs : List Var) → j ≤ k → RiseAbove k vs → RiseAbove j (filter p vs)
  filter_rises j k [] le r = tt
  filter_rises j k (w ∷ ws) le r = go (p w) (filter_rises w.number w.number ws (le_refl w.number) r.1) (filter_rises j w.number ws (le_trans le (le_of_lt r.0)) r.1)
    where
      go : (b : Bool) → RiseAbove w.number (filter p ws) → RiseAbove j (filter p ws) → RiseAbove j (if b then w ∷ filter p ws else filter p ws)
      go true after rest = (lt_of_le_of_lt le r.0, after)
      go false after rest = rest

-- ---- numberings

module _ (n : Numbering) (settled : IsSettled n) where
  numbered_each : (ms : List Named) → All (NamedFits n) ms → All (IsNumbered (next n)) (vars_of ms)
  numbered_each ms h = All-map (IsNumbered (next n)) (λ (m : Named). m.var) ms (All-weaker (NamedFits n) (λ m. IsNumbered (next n) m.var) (λ m f. (f.low, less m.var.number f.high)) ms h)
    where
      less : (k : ℕ) → k ≤ length n.names → k < next n
      less k le = let is = next_is n settled.few in omega arith

  pub settled_numbered : All (IsNumbered (next n)) (free_vars n)
  settled_numbered = subst (All (IsNumbered (next n))) (sym (map-append (λ (m : Named). m.var) n.fixed n.known)) (All-append (IsNumbered (next n)) (vars_of n.fixed) (vars_of n.known) (numbered_each n.fixed settled.fixed) (numbered_each n.known settled.known))

-- what is learned later is above what may be bound before
pub widens_later : (n m : Numbering) → length n.names ≤ 1000 → Extends n m → Widens (free_vars n) (free_vars m) (λ u. u.number < next n)
widens_later n m few x = record {
  among = λ v h. in_free n m x v h;
  apart = λ u low h. ap (is_in u) (free_more n m x) ∙ is_in-append u (free_vars n) (vars_of x.known.0)
      ∙ neither (is_in u (free_vars n)) (is_in u (vars_of x.known.0)) h (below_all (length n.names) u (vars_of x.known.0) (rise_above (length n.names) (vars_of x.known.0) x.known.2) (given u.number low));
}
  where
    given : (k : ℕ) → k < next n → k ≤ length n.names
    given k lt = let is = next_is n few in omega arith

pub next_few : (n : Numbering) → length n.names ≤ 1000 → next n ≤ 1001
next_few n few = let is = next_is n few in omega arith

pub next_later : (n m : Numbering) → length n.names ≤ 1000 → length m.names ≤ 1000 → length n.names ≤ length m.names → next n ≤ next m
next_later n m a b le = let x = next_is n a in let y = next_is m b in omega arith

-- what is learned where nothing is given and nothing known rises
known_rises : (n m : Numbering) → length n.names ≡ 0 → n.known ≡ [] → Extends n m → RiseAbove 0 (vars_of m.known)
known_rises n m none empty x = subst (λ ms. RiseAbove 0 (vars_of ms)) (sym (x.known.1 ∙ ap (λ ms. ms ++ x.known.0) empty))
    (subst (λ k. RiseAbove k (vars_of x.known.0)) none x.known.2)

-- each variable that is free in a formula that fits is listed
pub free_listed : (defs : Defs) (free : List Var) (k : ℕ) (f : Formula) → FormulaFits defs free k f → (v : Var) → IsTrue (is_free_in_formula v f) → IsTrue (is_in v free)
free_listed defs free k f h = any_forth (λ v d. is_free_in_disjunct v d) (λ v. IsTrue (is_in v free)) f.cases (All-weaker (DisjunctFits defs free k) (λ d. (v : Var) → IsTrue (is_free_in_disjunct v d) → IsTrue (is_in v free)) (λ d g. g.among) f.cases h)

-- ---- entailments

not_false : (b : Bool) → not b ≡ true → b ≡ false
not_false true e = cc
not_false false e = refl

not_true : (b : Bool) → b ≡ false → not b ≡ true
not_true true e = cc
not_true false e = refl

opens_are : (vars : List Var) (left right : Formula) → ((v : Var) → IsTrue (is_free_in_formula v right) → IsTrue (is_in v vars)) → (v : Var) →
    IsTrue (is_in v (opens_among vars left right)) ↔ IsTrue (is_free_in_formula v right) × (is_free_in_formula v left ≡ false)
opens_are vars left right among v = (
  λ h. let both = and_parts (is_in v vars) (is_open left right v) (sym (filter_in (is_open left right) v vars) ∙ h) in
      let parts = and_parts (is_free_in_formula v right) (not (is_free_in_formula v left)) both.1 in
      (parts.0, not_false (is_free_in_formula v left) parts.1),
  λ h. filter_in (is_open left right) v vars ∙ and_from (is_in v vars) (is_open left right v) (among v h.0)
      (and_from (is_free_in_formula v right) (not (is_free_in_formula v left)) h.0 (not_true (is_free_in_formula v left) h.1)),
)

-- both sides as they were read
record SidesFit (defs : Defs) (c : EntailTree) (e : Entailment) : Type 0 where
  normal : EntailmentIsNormal defs e
  left : length e.left.cases ≡ length c.left.cases
  right : length e.right.cases ≡ length c.right.cases

module _ (formulas : FormulasFit) (stay : FaultsStay) (defs : Defs) (table : List Entry) (fit : EntriesFit defs table) where
  sides_fit : (k : ℕ) (c : EntailTree) (n : Numbering) → (entailment table k c n).1.faults ≡ [] → SidesFit defs c (entailment table k c n).0
  sides_fit k c n e =
      let s1 = start Open n.faults in
      let s2 = (limit 1024 Entailments c.at k s1).1 in
      let s3 = (formula table c.left s2).1 in
      let s4 = (formula table c.right s3).1 in
      let e3 = stay.formulas table c.right s3 e in
      let e2 = stay.formulas table c.left s2 e3 in
      let f2 = subst (λ m. Fixing Open m []) (sym (limit_same 1024 Entailments c.at k s1 e2)) (fixing_start Open n.faults) in
      let left = formulas defs table fit c.left s2 (settled_fixed Open s2 [] refl f2) e3 in
      let right = formulas defs table fit c.right s3 left.settled e in
      let known : free_vars s4 ≡ vars_of s4.known = map-append (λ (m : Named). m.var) s4.fixed s4.known ∙ (λ i. vars_of (right.extends.fixed i) ++ vars_of s4.known) ∙ (λ i. vars_of (left.extends.fixed i) ++ vars_of s4.known) ∙ (λ i. f2.fixed i ++ vars_of s4.known) in
      record {
        normal = record {
          free = free_vars s4;
          distinct = right.settled.distinct;
          numbered = settled_numbered s4 right.settled;
          left = formula_wider (free_vars s3) (free_vars s4) (λ u. u.number < next s3) (widens_later s3 s4 left.settled.few right.extends) (next s3) (next s4) (next_later s3 s4 left.settled.few right.settled.few right.extends.names)
              defs (formula table c.left s2).0 (All-weaker (DisjunctFits defs (free_vars s3) (next s3)) (Binders (λ u. u.number < next s3)) (below_next defs (free_vars s3) (next s3)) (formula table c.left s2).0.cases left.fits) left.fits;
          right = right.fits;
          left_short = left.short;
          right_short = right.short;
          left_few = left.few;
          right_few = right.few;
          opens_rise = filter_rises (is_open (formula table c.left s2).0 (formula table c.right s3).0) 0 0 (vars_of s4.known) (le_refl 0) (known_rises s2 s4 f2.names f2.known (extends_later s2 s3 s4 left.settled.known left.extends right.extends));
          opens = opens_are (vars_of s4.known) (formula table c.left s2).0 (formula table c.right s3).0 (λ v h. subst (λ vs. IsTrue (is_in v vs)) known (free_listed defs (free_vars s4) (next s4) (formula table c.right s3).0 right.fits v h));
          bounded = next_few s4 right.settled.few;
          names = sym (next_is s4 right.settled.few);
        };
        left = left.as_many;
        right = right.as_many;
      }

module _ (formulas : FormulasFit) (stay : FaultsStay) (items : List SourceItem) (r : Resolved) (b : SourceBuilt items r) where
  sides : (c : EntailTree) (e : Entailment) → Built (entailment (entries items)) c e → SidesFit r.defs c e
  sides c e h = subst (SidesFit r.defs c) (sym h.3) (sides_fit formulas stay r.defs (entries items) (entries_fit r.defs (entries items) (table_is stay items r b)) h.0 c h.1 h.2)

  pub entailments_normal : All (EntailmentIsNormal r.defs) r.entailments
  entailments_normal = All-from_recursion (EntailmentIsNormal r.defs) r.entailments (zip_right (Built (entailment (entries items))) (EntailmentIsNormal r.defs) (λ c e h. (sides c e h).normal) (filter_map entail_of items) r.entailments b.entailments)

  written_each : (cs : List EntailTree) (es : List Entailment) → AllByRecursion (λ (c : EntailTree). IsWritten c.left × IsWritten c.right) cs → AllZip (Built (entailment (entries items))) cs es → AllByRecursion (λ (e : Entailment). HasDisjunct e.left × HasDisjunct e.right) es
  written_each [] [] w h = tt
  written_each [] (e ∷ es) w h = absurd h
  written_each (c ∷ cs) [] w h = absurd h
  written_each (c ∷ cs) (e ∷ es) w h = let s = sides c e h.0 in
      ((subst (λ k. 1 ≤ k) (sym s.left) w.0.0, subst (λ k. 1 ≤ k) (sym s.right) w.0.1), written_each cs es w.1 h.1)

  pub entailments_written : AllByRecursion (λ (c : EntailTree). IsWritten c.left × IsWritten c.right) (filter_map entail_of items) → All (λ (e : Entailment). HasDisjunct e.left × HasDisjunct e.right) r.entailments
  entailments_written w = All-from_recursion (λ (e : Entailment). HasDisjunct e.left × HasDisjunct e.right) r.entailments (written_each (filter_map entail_of items) r.entailments w b.entailments)
