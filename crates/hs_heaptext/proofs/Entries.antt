-- The lines of nodes, read one after another.
use Rattle.std.proofs.Common.{◌≡◌, ℕ, suc, ◌+◌, ◌<◌, ◌≤◌, ℤ, pos, ◌<ℤ◌, ◌≤ℤ◌, List, [], ◌∷◌, ◌++◌, length, refl, sym, ap, ◌∙◌, subst, arith, append_assoc, append-nil, length-append}
use Rattle.std.specs.List.{AllByRecursion}
use Rattle.std.proofs.lemmas.List.Elements.{All-nil, All-cons}
use Rattle.std.proofs.lemmas.Int.{ints}
use Rattle.hs_heap.specs.declared.node.HeapNode.{HeapNode}
use Rattle.hs_heap.specs.declared.definitions.Defs.{Defs}
use Rattle.hs_heap.specs.Heap.{Entry, Heap, RisesFrom, put_node}
use Rattle.hs_heap.specs.Sound.{NodeFits, HeapFits}
use Rattle.hs_heap.proofs.Places.{stands, before, same, after}
use Rattle.hs_heaptext.specs.Lines.{FirstLine, HasNoLine}
use Rattle.hs_heaptext.specs.Text.{ended, entry_text, entries_text}
use Rattle.hs_heaptext.specs.Reading.{EntryIsSmall, EntriesFit, StatesEntry, IsEntryLine, HasBadEntry, here, later}
use Rattle.hs_heaptext.proofs.Lines.{line_once}

-- the last location, or low where there is none
pub last_of : ℤ → Heap → ℤ
last_of low [] = low
last_of low (e ∷ h) = last_of e.0 h

last_above : (low : ℤ) (h : Heap) (defs : Defs) → EntriesFit defs low h → low ≤ℤ last_of low h
unfolding last_of
last_above low [] defs fit = omega (arith, ints)
last_above low (e ∷ h) defs fit = let k = last_above e.0 h defs fit.3 in let l = fit.0 in omega (arith, ints, k, l)

put_last : (low q : ℤ) (n : HeapNode) (h : Heap) (defs : Defs) → EntriesFit defs low h → last_of low h <ℤ q → put_node h q n ≡ h ++ (q, n) ∷ []
unfolding last_of
put_last low q n [] defs fit lt = refl
put_last low q n (e ∷ h) defs fit lt = elim (stands q e.0) [
  | before o i ↦ absurd (let k = last_above e.0 h defs fit.3 in omega (arith, ints, k, i, lt))
  | same o i ↦ absurd (let k = last_above e.0 h defs fit.3 in omega (arith, ints, k, i, lt))
  | after o i ↦ rw o (ap (λ t. e ∷ t) (put_last e.0 q n h defs fit.3 lt))
]

last_more : (low : ℤ) (h : Heap) (e : Entry) → last_of low (h ++ e ∷ []) ≡ e.0
unfolding last_of
last_more low [] e = refl
last_more low (f ∷ h) e = last_more f.0 h e

fit_more : (defs : Defs) (low : ℤ) (h : Heap) (line : List ℕ) (e : Entry) → EntriesFit defs low h → StatesEntry defs (last_of low h) line e → EntriesFit defs low (h ++ e ∷ [])
unfolding last_of
fit_more defs low [] line e fit s = (s.rises, s.small, s.fits, tt)
fit_more defs low (f ∷ h) line e fit s = (fit.0, fit.1, fit.2, fit_more defs f.0 h line e fit.3 s)

text_more : (defs : Defs) (h : Heap) (line text rest : List ℕ) (e : Entry) → line ≡ entry_text defs e → text ≡ line ++ 10 ∷ rest → entries_text defs h ++ text ≡ entries_text defs (h ++ e ∷ []) ++ rest
text_more defs [] line text rest e is split =
    split ∙ ap (λ l. l ++ 10 ∷ rest) is ∙ sym (append_assoc (entry_text defs e) (10 ∷ []) rest) ∙ ap (λ l. l ++ rest) (sym (append-nil (ended (entry_text defs e))))
text_more defs (f ∷ h) line text rest e is split =
    let front = ended (entry_text defs f) in
    append_assoc front (entries_text defs h) text ∙ ap (λ l. front ++ l) (text_more defs h line text rest e is split) ∙ sym (append_assoc front (entries_text defs (h ++ e ∷ [])) rest)

-- ---- what is read, and what is left

pub record HaveEntries (defs : Defs) (text : List ℕ) (h : Heap) (low : ℤ) (number : ℕ) (rest : List ℕ) : Type 0 where
  pub split : text ≡ entries_text defs h ++ rest
  pub fit : EntriesFit defs (pos 0) h
  pub last : last_of (pos 0) h ≡ low
  pub count : ℕ
  pub line : number ≡ suc (suc (suc count))
  pub short : count + length rest ≤ length text
  pub bad : (k : ℕ) → HasBadEntry defs low rest k → HasBadEntry defs (pos 0) text (count + k)

pub no_entries : (defs : Defs) (text : List ℕ) → HaveEntries defs text [] (pos 0) 3 text
unfolding last_of
no_entries defs text = record {
  split = refl;
  fit = tt;
  last = refl;
  count = 0;
  line = refl;
  short = omega arith;
  bad = λ k h. let e : 0 + k ≡ k = omega arith in subst (HasBadEntry defs (pos 0) text) (sym e) h;
}

line_length : (text line rest : List ℕ) → FirstLine text line rest → length rest < length text
line_length text line rest f =
    let e = ap length f.split in
    let k = length-append line (10 ∷ rest) in
    omega arith

pub shorter : (text line rest : List ℕ) → FirstLine text line rest → length rest < length text
shorter text line rest f = line_length text line rest f

pub one_more : (defs : Defs) (text : List ℕ) (h : Heap) (low : ℤ) (number : ℕ) (rest line behind : List ℕ) (e : Entry)
    → HaveEntries defs text h low number rest → FirstLine rest line behind → StatesEntry defs low line e
    → HaveEntries defs text (put_node h e.0 e.1) e.0 (number + 1) behind
one_more defs text h low number rest line behind e r f s =
    let s' : StatesEntry defs (last_of (pos 0) h) line e = subst (λ l. StatesEntry defs l line e) (sym r.last) s in
    let is : put_node h e.0 e.1 ≡ h ++ e ∷ [] = put_last (pos 0) e.0 e.1 h defs r.fit s'.rises in
    let lt = line_length rest line behind f in
    let top = r.short in
    let next = r.line in
    let built : HaveEntries defs text (h ++ e ∷ []) e.0 (number + 1) behind = record {
      split = r.split ∙ text_more defs h line rest behind e s.is f.split;
      fit = fit_more defs (pos 0) h line e r.fit s';
      last = last_more (pos 0) h e;
      count = suc r.count;
      line = omega arith;
      short = omega arith;
      bad = λ k bad. let m : suc r.count + k ≡ r.count + suc k = omega arith in subst (HasBadEntry defs (pos 0) text) (sym m) (r.bad (suc k) (later e f s bad));
    } in
    subst (λ g. HaveEntries defs text g e.0 (number + 1) behind) (sym is) built

-- ---- the whole

pub rises : (defs : Defs) (low : ℤ) (h : Heap) → EntriesFit defs low h → RisesFrom low h
rises defs low [] fit = tt
rises defs low (e ∷ h) fit = (fit.0, rises defs e.0 h fit.3)

pub all_small : (defs : Defs) (low : ℤ) (h : Heap) → EntriesFit defs low h → AllByRecursion EntryIsSmall h
all_small defs low [] fit = tt
all_small defs low (e ∷ h) fit = (fit.1, all_small defs e.0 h fit.3)

pub all_fit : (defs : Defs) (low : ℤ) (h : Heap) → EntriesFit defs low h → HeapFits defs h
all_fit defs low [] fit = All-nil (λ (e : Entry). NodeFits defs e.1)
all_fit defs low (e ∷ h) fit = All-cons (λ (f : Entry). NodeFits defs f.1) e h fit.2 (all_fit defs e.0 h fit.3)

-- ---- where it stops

pub stops : (defs : Defs) (text : List ℕ) (h : Heap) (low : ℤ) (number : ℕ) (rest : List ℕ) → HaveEntries defs text h low number rest → (rest ≡ [] → ⊥) → HasNoLine (IsEntryLine defs low) rest
    → (k : ℕ) × (number ≡ suc (suc (suc k))) × HasBadEntry defs (pos 0) text k
stops defs text h low number rest r some none =
    let e : r.count + 0 ≡ r.count = omega arith in
    (r.count, r.line, subst (HasBadEntry defs (pos 0) text) e (r.bad 0 (here some none)))

pub no_such_line : (Form : List ℕ → Type 0) (text line rest : List ℕ) → FirstLine text line rest → (Form line → ⊥) → HasNoLine Form text
no_such_line Form text line rest f none other behind g form =
    none (subst Form (line_once text other line behind rest g f).0 form)

pub positive : (defs : Defs) (text : List ℕ) (h : Heap) (low : ℤ) (number : ℕ) (rest line : List ℕ) (e : Entry) → HaveEntries defs text h low number rest → StatesEntry defs low line e → pos 0 <ℤ e.0
positive defs text h low number rest line e r s =
    let k = last_above (pos 0) h defs r.fit in
    let is = r.last in
    let l = s.rises in
    omega (arith, ints, k, l, is)

pub whole : (defs : Defs) (text : List ℕ) (h : Heap) (low : ℤ) (number : ℕ) (rest : List ℕ) → HaveEntries defs text h low number rest → rest ≡ [] → text ≡ entries_text defs h
whole defs text h low number rest r none = r.split ∙ ap (λ l. entries_text defs h ++ l) none ∙ append-nil (entries_text defs h)
