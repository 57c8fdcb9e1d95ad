-- Counts that are not larger than need be.
use Rattle.std.proofs.Common.{◌≡◌, ℕ, zero, suc, ◌+◌, ◌-◌, ◌<◌, ◌≤◌, List, [], ◌∷◌, ◌++◌, map, length, get_or, slice_get, take, Option, Some, None, Result, refl, sym, ap, ◌∙◌, arith}
use Rattle.std.specs.Result.{IfOk}
use Rattle.std.proofs.lemmas.List.{take_more, take_all, map_more}
use Rattle.std.proofs.lemmas.Option.{slice_get-get_or, get_or_from_slice_get}
use Rattle.hs_pure.proofs.Lists.{if_ok_weaker}
use Rattle.hs_pure.specs.declared.var.Var.{Var}
use Rattle.hs_heap.specs.declared.formula.Of.{Of}
use Rattle.hs_heap.specs.declared.formula.Of.TheVariants.{Node, Pred}
use Rattle.hs_heap.specs.declared.formula.Atom.{Atom}
use Rattle.hs_heap.specs.declared.formula.Disjunct.{Disjunct}
use Rattle.hs_heap.specs.declared.definitions.PredDef.{PredDef}
use Rattle.hs_heap.specs.declared.definitions.Defs.{Defs}
use Rattle.hs_heap.specs.Meaning.{pred_at}
use Rattle.hs_heap.specs.Instance.{Body, body_of_pred}
use Rattle.hs_xpure.specs.Approximation.{form, next_of, body_next}
use Rattle.hs_xpure.proofs.Counting.{atoms_next, body_next as next_of_body, form_next}
use Rattle.hs_xpure.specs.Counts.{Taken, of_taken, atoms_taken, cases_taken, own_taken, body_taken, inv_taken, inv_and_body_taken, pred_taken, capped, listed, taken_above, table}

pub capped-sum : (a b : ℕ) → capped (capped a + capped b) ≡ capped (a + b)
capped-sum a b = omega arith

pub capped_below : (a : ℕ) → capped a ≤ 1073741825
capped_below a = omega arith

capped_left : (a b c : ℕ) → capped b ≡ capped c → capped (a + b) ≡ capped (a + c)
capped_left a b c e = omega arith

module _ (f g : Taken) (same : (pred : ℕ) → f pred ≡ capped (g pred)) where
  of_capped : (o : Of) → capped (of_taken f o) ≡ capped (of_taken g o)
  of_capped (Node kind) = refl
  of_capped (Pred pred) = let e = same pred in omega arith

  pub atoms_capped : (atoms : List Atom) → capped (atoms_taken f atoms) ≡ capped (atoms_taken g atoms)
  atoms_capped [] = refl
  atoms_capped (a ∷ rest) = let e = of_capped a.of in let d = atoms_capped rest in omega arith

  cases_capped : (ds : List Disjunct) → capped (cases_taken f ds) ≡ capped (cases_taken g ds)
  cases_capped [] = refl
  cases_capped (d ∷ ds) = let e = atoms_capped d.atoms in let k = cases_capped ds in omega arith

  pub body_capped : (b : Body) → capped (body_taken f b) ≡ capped (body_taken g b)
  body_capped b = capped_left (own_taken b) (cases_taken f b.formula.cases) (cases_taken g b.formula.cases) (cases_capped b.formula.cases)

  both_capped : (o : Option PredDef) → capped (inv_and_body_taken f o) ≡ capped (inv_and_body_taken g o)
  both_capped None = refl
  both_capped (Some p) = let e = body_capped (body_of_pred p) in omega arith

-- an entry of a list of counts
entry : (h : PredDef → ℕ) (k : Option PredDef → ℕ) → k None ≡ 0 → ((p : PredDef) → h p ≡ k (Some p)) → (ps : List PredDef) (i : ℕ) → get_or (map h ps) i 0 ≡ k (slice_get ps i)
entry h k none some [] i = sym none
entry h k none some (p ∷ ps) zero = some p
entry h k none some (p ∷ ps) (suc i) = entry h k none some ps i

pub table_tells : (defs : Defs) (level pred : ℕ) → listed (table defs level) pred ≡ capped (pred_taken defs level pred)
table_tells defs zero zero = refl
table_tells defs zero (suc i) = entry (λ p. capped (inv_taken (Some p))) (λ o. capped (inv_taken o)) refl (λ p. refl) defs.preds i
table_tells defs (suc level) zero = refl
table_tells defs (suc level) (suc i) = entry (λ p. capped (inv_and_body_taken (listed (table defs level)) (Some p))) (λ o. capped (inv_and_body_taken (pred_taken defs level) o)) refl
    (λ p. both_capped (listed (table defs level)) (pred_taken defs level) (table_tells defs level) (Some p)) defs.preds i

-- ---- step by step

module _ (taken : Taken) where
  atoms_append : (xs : List Atom) (a : Atom) → atoms_taken taken (xs ++ a ∷ []) ≡ atoms_taken taken xs + of_taken taken a.of
  atoms_append [] a = omega arith
  atoms_append (x ∷ xs) a = let e = atoms_append xs a in omega arith

  cases_append : (ds : List Disjunct) (d : Disjunct) → cases_taken taken (ds ++ d ∷ []) ≡ cases_taken taken ds + atoms_taken taken d.atoms
  cases_append [] d = omega arith
  cases_append (x ∷ ds) d = let e = cases_append ds d in omega arith

  pub atoms_step : (atoms : List Atom) (i : ℕ) (item : Atom) (total count new : ℕ) → i < length atoms → item ≡ get_or atoms i item →
      total ≡ capped (atoms_taken taken (take i atoms)) → count ≡ capped (of_taken taken item.of) → new ≡ capped (total + count) → new ≡ capped (atoms_taken taken (take (i + 1) atoms))
  atoms_step atoms i item total count new less is e f g =
      let one = ap (atoms_taken taken) (take_more atoms i item less) ∙ atoms_append (take i atoms) (get_or atoms i item) in
      let here : of_taken taken item.of ≡ of_taken taken (get_or atoms i item).of = ap (λ (a : Atom). of_taken taken a.of) is in
      omega arith

  pub cases_step : (ds : List Disjunct) (i : ℕ) (item : Disjunct) (atoms : List Atom) (total count new : ℕ) → i < length ds → item ≡ get_or ds i item → atoms ≡ item.atoms →
      total ≡ capped (cases_taken taken (take i ds)) → count ≡ capped (atoms_taken taken atoms) → new ≡ capped (total + count) → new ≡ capped (cases_taken taken (take (i + 1) ds))
  cases_step ds i item atoms total count new less is are e f g =
      let one = ap (cases_taken taken) (take_more ds i item less) ∙ cases_append (take i ds) (get_or ds i item) in
      let here : atoms_taken taken atoms ≡ atoms_taken taken (get_or ds i item).atoms = ap (atoms_taken taken) are ∙ ap (λ (d : Disjunct). atoms_taken taken d.atoms) is in
      omega arith

-- the predicate at a place has the number after it
pub pred_there : (defs : Defs) (items : List PredDef) (i pred : ℕ) (p : PredDef) → items ≡ defs.preds → i < length items → p ≡ get_or items i p → pred ≡ i + 1 → pred_at defs pred ≡ Some p
pred_there defs items i pred p are less is e =
    let e' : pred ≡ suc i = omega arith in
    ap (pred_at defs) e' ∙ ap (λ ps. slice_get ps i) (sym are) ∙ slice_get-get_or items i p less ∙ ap (λ q. Some q) (sym is)

pub counts_step : (f : PredDef → ℕ) (items : List PredDef) (i : ℕ) (p : PredDef) (counts new : List ℕ) (one : ℕ) → i < length items → p ≡ get_or items i p →
    counts ≡ map f (take i items) → one ≡ f p → new ≡ counts ++ one ∷ [] → new ≡ map f (take (i + 1) items)
counts_step f items i p counts new one less is e g h =
    h ∙ (λ j. e j ++ g j ∷ []) ∙ (λ j. map f (take i items) ++ f (is j) ∷ []) ∙ sym (map_more f items i p less)

pub counts_all : (f : PredDef → ℕ) (items preds : List PredDef) (i : ℕ) (counts : List ℕ) → items ≡ preds → length items ≤ i → counts ≡ map f (take i items) → counts ≡ map f preds
counts_all f items preds i counts are past e = e ∙ ap (map f) (take_all i items past ∙ are)

-- a level more
pub table_step : (defs : Defs) (i : ℕ) (below above : List ℕ) → below ≡ table defs i → above ≡ taken_above defs below → above ≡ table defs (i + 1)
table_step defs i below above e f = let g : suc i ≡ i + 1 = omega arith in f ∙ ap (taken_above defs) e ∙ ap (table defs) g

-- one entry
pub of_count_pred : (counts : List ℕ) (pred count : ℕ) → 0 < pred → slice_get counts (pred - 1) ≡ Some count → capped count ≡ capped (of_taken (listed counts) (Pred pred))
of_count_pred counts zero count above e = absurd (omega arith)
of_count_pred counts (suc i) count above e = let f : i ≡ suc i - 1 = omega arith in ap capped (sym (get_or_from_slice_get counts i count 0 (ap (slice_get counts) f ∙ e)))

pub of_count_none : (counts : List ℕ) (pred : ℕ) → slice_get counts (pred - 1) ≡ None → 0 ≡ capped (of_taken (listed counts) (Pred pred))
of_count_none counts zero e = refl
of_count_none counts (suc i) e = let f : i ≡ suc i - 1 = omega arith in ap capped (none_entry counts i (ap (slice_get counts) f ∙ e))
  where
    none_entry : (ns : List ℕ) (i : ℕ) → slice_get ns i ≡ None → 0 ≡ get_or ns i 0
    none_entry [] i e = refl
    none_entry (n ∷ ns) zero e = absurd cc
    none_entry (n ∷ ns) (suc i) e = none_entry ns i e

pub table_all : (defs : Defs) (i level : ℕ) (counts : List ℕ) → level ≤ i → i ≤ level → counts ≡ table defs i → counts ≡ table defs level
table_all defs i level counts le ge e = let f : i ≡ level = omega arith in e ∙ ap (table defs) f

pub atoms_told : (defs : Defs) (level : ℕ) (atoms : List Atom) (counts : List ℕ) (n : ℕ) → counts ≡ table defs level → n ≡ capped (atoms_taken (listed counts) atoms) → n ≡ capped (atoms_taken (pred_taken defs level) atoms)
atoms_told defs level atoms counts n are e =
    e ∙ ap (λ ns. capped (atoms_taken (listed ns) atoms)) are ∙ atoms_capped (listed (table defs level)) (pred_taken defs level) (table_tells defs level) atoms

pub body_told : {E : Type 0} (defs : Defs) (level : ℕ) (b : Body) (counts : List ℕ) (r : Result ℕ E) → counts ≡ table defs level →
    IfOk r (λ n. n ≡ capped (body_taken (listed counts) b)) → IfOk r (λ n. n ≡ capped (body_taken (pred_taken defs level) b))
body_told defs level b counts r are e =
    if_ok_weaker (λ n. n ≡ capped (body_taken (listed counts) b)) (λ n. n ≡ capped (body_taken (pred_taken defs level) b)) r
    (λ n f. f ∙ ap (λ ns. capped (body_taken (listed ns) b)) are ∙ body_capped (listed (table defs level)) (pred_taken defs level) (table_tells defs level) b) e

-- ---- too many numbers

pub is_many : (taken n fresh next : ℕ) → taken ≡ capped n → 1073741824 < taken → next ≡ fresh + n → fresh + 1073741824 < next
is_many taken n fresh next e f g = omega arith

pub is_not_many : (taken n fresh : ℕ) → taken ≡ capped n → taken ≤ 1073741824 → fresh ≤ 1073741824 → fresh + n ≤ 2147483648
is_not_many taken n fresh e f g = omega arith

pub is_few : (taken n fresh next : ℕ) → taken ≡ capped n → taken ≤ 1073741824 → next ≡ fresh + n → next ≤ fresh + 1073741824
is_few taken n fresh next e f g = omega arith

pub atoms_next_of : (defs : Defs) (level : ℕ) (atoms : List Atom) (n : ℕ) → next_of defs level atoms n ≡ n + atoms_taken (pred_taken defs level) atoms
atoms_next_of defs level atoms n = atoms_next (pred_taken defs level) (form defs level) (form_next defs level) atoms n

pub body_next_of : (defs : Defs) (level : ℕ) (b : Body) (root : Var) (args : List Var) (n : ℕ) → body_next defs level b root args n ≡ n + body_taken (pred_taken defs level) b
body_next_of defs level b root args n = next_of_body (pred_taken defs level) (form defs level) (form_next defs level) b root args n
