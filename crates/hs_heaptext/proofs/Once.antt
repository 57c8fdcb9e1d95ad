-- A text states one list of arguments and one heap, and has one first bad line or none.
use Rattle.std.proofs.Common.{◌≡◌, ℕ, suc, ◌<◌, ℤ, pos, List, [], ◌∷◌, ◌++◌, length, codes, refl, sym, ap, ap₂, ◌∙◌, subst, arith, append_assoc, Option, Some, None, option_map, Result, Ok, Err, IfOk, IfErr, MatchResult}
use Rattle.std.specs.List.{AllByRecursion}
use Rattle.std.specs.Fmt.{signed_decimal}
use Rattle.std.proofs.lemmas.List.Elements.{All-head, All-tail}
use Rattle.hs_heap.specs.declared.node.HeapNode.{HeapNode}
use Rattle.hs_heap.specs.declared.definitions.NodeDef.{NodeDef}
use Rattle.hs_heap.specs.declared.definitions.Defs.{Defs}
use Rattle.hs_heap.specs.Heap.{Entry, Heap, RisesFrom}
use Rattle.hs_heap.specs.Sound.{node_at, NodeFits, HeapFits}
use Rattle.hs_heaptext.specs.Lines.{Lacks, FirstLine}
use Rattle.hs_heaptext.specs.Values.{AreSmall, values_text}
use Rattle.hs_heaptext.specs.Text.{ended, name_of, args_text, entry_text, entries_text}
use Rattle.hs_heaptext.specs.Reading.{EntryIsSmall, States, HasBadEntry, here, later, version, arguments, entry, EntriesFit, IsAnswer}
use Rattle.hs_heaptext.specs.declared.error.HeapTextError.{HeapTextError}
use Rattle.hs_heaptext.specs.declared.error.HeapTextError.TheVariants.{Line, Memory}
use Rattle.hs_heaptext.specs.Laws.{NamesAreWords, NamesDiffer, TextsStateOnce, HeapTextsHaveNoBadLine, BadLinesAreUnique}
use Rattle.hs_heaptext.proofs.Lines.{parted, line_once, tail_same, lacks_append}
use Rattle.hs_heaptext.proofs.Numbers.{signed_lacks, signed_same}
use Rattle.hs_heaptext.proofs.Words.{values_end, small_lacks, values_once}

-- ---- the lines of a text

version_lacks : Lacks 10 (codes "heap 1")
version_lacks = ((λ e. omega arith), ((λ e. omega arith), ((λ e. omega arith), ((λ e. omega arith), ((λ e. omega arith), ((λ e. omega arith), tt))))))

args_lack : (args : List ℤ) → AreSmall args → Lacks 10 (args_text args)
args_lack args small = ((λ e. omega arith), ((λ e. omega arith), ((λ e. omega arith), ((λ e. omega arith), small_lacks 10 args small (omega arith)))))

behind_version : Defs → List ℤ → Heap → List ℕ
behind_version defs args h = ended (args_text args) ++ entries_text defs h

first_line : (defs : Defs) (bytes : List ℕ) (args : List ℤ) (h : Heap) → States defs bytes args h → FirstLine bytes (codes "heap 1") (behind_version defs args h)
unfolding behind_version
first_line defs bytes args h s = record { split = s.text; lacks = version_lacks }

second_line : (defs : Defs) (args : List ℤ) (h : Heap) → AreSmall args → FirstLine (behind_version defs args h) (args_text args) (entries_text defs h)
unfolding behind_version
second_line defs args h small = record { split = append_assoc (args_text args) (10 ∷ []) (entries_text defs h); lacks = args_lack args small }

fits : (defs : Defs) (low : ℤ) (h : Heap) → RisesFrom low h → AllByRecursion EntryIsSmall h → HeapFits defs h → EntriesFit defs low h
fits defs low [] r s f = tt
fits defs low (e ∷ h) r s f =
    (r.0, s.0, All-head (λ (k : Entry). NodeFits defs k.1) e h f, fits defs e.0 h r.1 s.1 (All-tail (λ (k : Entry). NodeFits defs k.1) e h f))

-- ---- the line of a node

name_lacks : (defs : Defs) (b k : ℕ) → ((d : NodeDef) → node_at defs k ≡ Some d → Lacks b d.name) → Lacks b (name_of (node_at defs k))
name_lacks defs b k h = go (node_at defs k) refl
  where
    go : (o : Option NodeDef) → node_at defs k ≡ o → Lacks b (name_of o)
    go None e = tt
    go (Some d) e = h d e

entry_lacks : (defs : Defs) (e : Entry) → NamesAreWords defs → EntryIsSmall e → Lacks 10 (entry_text defs e)
entry_lacks defs e words small =
    lacks_append 10 (signed_decimal e.0) (32 ∷ (name_of (node_at defs e.1.of) ++ values_text e.1.values)) (signed_lacks 10 e.0 small.0 (omega arith))
    ((λ e. omega arith), lacks_append 10 (name_of (node_at defs e.1.of)) (values_text e.1.values) (name_lacks defs 10 e.1.of (λ d is. (words e.1.of d is).1)) (small_lacks 10 e.1.values small.1 (omega arith)))

entry_line : (defs : Defs) (e : Entry) (h : Heap) → NamesAreWords defs → EntryIsSmall e → FirstLine (entries_text defs (e ∷ h)) (entry_text defs e) (entries_text defs h)
entry_line defs e h words small = record { split = append_assoc (entry_text defs e) (10 ∷ []) (entries_text defs h); lacks = entry_lacks defs e words small }

parts_once : (defs : Defs) (e f : Entry) → EntryIsSmall e → EntryIsSmall f → entry_text defs e ≡ entry_text defs f
    → (e.0 ≡ f.0) × (name_of (node_at defs e.1.of) ++ values_text e.1.values ≡ name_of (node_at defs f.1.of) ++ values_text f.1.values)
parts_once defs e f small also is =
    let both = parted 32 (signed_decimal e.0) (signed_decimal f.0) (32 ∷ (name_of (node_at defs e.1.of) ++ values_text e.1.values)) (32 ∷ (name_of (node_at defs f.1.of) ++ values_text f.1.values))
    (signed_lacks 32 e.0 small.0 (omega arith)) (signed_lacks 32 f.0 also.0 (omega arith)) refl refl is in
    (signed_same e.0 f.0 small.0 also.0 both.0, tail_same both.1)

kind_once : (defs : Defs) (j k m n : ℕ) → NamesDiffer defs → option_map (λ (d : NodeDef). length d.fields) (node_at defs j) ≡ Some m → option_map (λ (d : NodeDef). length d.fields) (node_at defs k) ≡ Some n
    → name_of (node_at defs j) ≡ name_of (node_at defs k) → j ≡ k
kind_once defs j k m n differ fit also same = go (node_at defs j) (node_at defs k) refl refl fit also same
  where
    go : (a b : Option NodeDef) → node_at defs j ≡ a → node_at defs k ≡ b → option_map (λ (d : NodeDef). length d.fields) a ≡ Some m → option_map (λ (d : NodeDef). length d.fields) b ≡ Some n
        → name_of a ≡ name_of b → j ≡ k
    go None b is at fit also same = cc
    go (Some a) None is at fit also same = cc
    go (Some a) (Some b) is at fit also same = differ j k a b is at same

node_once : (defs : Defs) (a b : HeapNode) → NamesAreWords defs → NamesDiffer defs → AreSmall a.values → AreSmall b.values → NodeFits defs a → NodeFits defs b
    → name_of (node_at defs a.of) ++ values_text a.values ≡ name_of (node_at defs b.of) ++ values_text b.values → a ≡ b
node_once defs a b words differ small also fit too is =
    let both = parted 32 (name_of (node_at defs a.of)) (name_of (node_at defs b.of)) (values_text a.values) (values_text b.values)
    (name_lacks defs 32 a.of (λ d is. (words a.of d is).0)) (name_lacks defs 32 b.of (λ d is. (words b.of d is).0)) (values_end a.values) (values_end b.values) is in
    let of : a.of ≡ b.of = kind_once defs a.of b.of (length a.values) (length b.values) differ fit too both.0 in
    let values : a.values ≡ b.values = values_once a.values b.values small also both.1 in
    let make : ℕ → List ℤ → HeapNode = λ k xs. record { of = k; values = xs } in
    ap₂ make of values

entry_once : (defs : Defs) (e f : Entry) → NamesAreWords defs → NamesDiffer defs → EntryIsSmall e → EntryIsSmall f → NodeFits defs e.1 → NodeFits defs f.1
    → entry_text defs e ≡ entry_text defs f → ◌≡◌ {A = Entry} e f
entry_once defs e f words differ small also fit too is =
    let both = parts_once defs e f small also is in
    let make : ℤ → HeapNode → Entry = λ q n. (q, n) in
    ap₂ make both.0 (node_once defs e.1 f.1 words differ small.1 also.1 fit too both.1)

split_length : (xs ys : List ℕ) → 0 < length (xs ++ 10 ∷ ys)
split_length [] ys = omega arith
split_length (x ∷ xs) ys = omega arith

some_line : (defs : Defs) (e : Entry) (h : Heap) → NamesAreWords defs → EntryIsSmall e → 0 < length (entries_text defs (e ∷ h))
some_line defs e h words small =
    let is = ap length (entry_line defs e h words small).split in
    let l = split_length (entry_text defs e) (entries_text defs h) in
    omega (arith, is, l)

entries_once : (defs : Defs) (low high : ℤ) (h k : Heap) → NamesAreWords defs → NamesDiffer defs → EntriesFit defs low h → EntriesFit defs high k → entries_text defs h ≡ entries_text defs k → h ≡ k
entries_once defs low high [] [] words differ fit also is = refl
entries_once defs low high [] (f ∷ k) words differ fit also is =
    absurd (let one = ap length is in let l = some_line defs f k words also.1 in omega (arith, one, l))
entries_once defs low high (e ∷ h) [] words differ fit also is =
    absurd (let one = ap length is in let l = some_line defs e h words fit.1 in omega (arith, one, l))
entries_once defs low high (e ∷ h) (f ∷ k) words differ fit also is =
    let mine = entry_line defs e h words fit.1 in
    let other = entry_line defs f k words also.1 in
    let both = line_once (entries_text defs (e ∷ h)) (entry_text defs e) (entry_text defs f) (entries_text defs h) (entries_text defs k) mine
    (subst (λ t. FirstLine t (entry_text defs f) (entries_text defs k)) (sym is) other) in
    ap₂ (λ (a : Entry) (b : Heap). a ∷ b) (entry_once defs e f words differ fit.1 also.1 fit.2 also.2 both.0) (entries_once defs e.0 f.0 h k words differ fit.3 also.3 both.1)

pub texts_state_once : TextsStateOnce
texts_state_once defs bytes args others h k words differ s t =
    let first = line_once bytes (codes "heap 1") (codes "heap 1") (behind_version defs args h) (behind_version defs others k) (first_line defs bytes args h s) (first_line defs bytes others k t) in
    let second = line_once (behind_version defs args h) (args_text args) (args_text others) (entries_text defs h) (entries_text defs k) (second_line defs args h s.writable.args)
    (subst (λ l. FirstLine l (args_text others) (entries_text defs k)) (sym first.1) (second_line defs others k t.writable.args)) in (
      values_once args others s.writable.args t.writable.args (tail_same (tail_same (tail_same (tail_same second.0)))),
      entries_once defs (pos 0) (pos 0) h k words differ (fits defs (pos 0) h s.writable.heap s.writable.entries s.writable.fits) (fits defs (pos 0) k t.writable.heap t.writable.entries t.writable.fits) second.1,
    )

-- ---- no bad line

no_bad_entry : (defs : Defs) (low : ℤ) (h : Heap) (text : List ℕ) (n : ℕ) → NamesAreWords defs → EntriesFit defs low h → text ≡ entries_text defs h → HasBadEntry defs low text n → ⊥
no_bad_entry defs low [] text _ words fit is (here some none) = some is
no_bad_entry defs low [] text _ words fit is (later {line = line} {rest = rest} e first s more) = absurd (let l = split_length line rest in let a = ap length (sym first.split ∙ is) in omega (arith, l, a))
no_bad_entry defs low (f ∷ h) text _ words fit is (here some none) =
    none (entry_text defs f) (entries_text defs h) (subst (λ t. FirstLine t (entry_text defs f) (entries_text defs h)) (sym is) (entry_line defs f h words fit.1))
    (f, record { is = refl; rises = fit.0; small = fit.1; fits = fit.2 })
no_bad_entry defs low (f ∷ h) text _ words fit is (later {line = line} {rest = rest} {k = k} e first s more) =
    let mine = subst (λ t. FirstLine t (entry_text defs f) (entries_text defs h)) (sym is) (entry_line defs f h words fit.1) in
    let both = line_once text line (entry_text defs f) rest (entries_text defs h) first mine in
    let place : f.0 ≡ e.0 = (parts_once defs f e fit.1 s.small (sym both.0 ∙ s.is)).0 in
    no_bad_entry defs e.0 h rest k words (subst (λ q. EntriesFit defs q h) place fit.3) both.1 more

pub heap_texts_have_no_bad_line : HeapTextsHaveNoBadLine
heap_texts_have_no_bad_line defs bytes args h n words s (version none) = none (codes "heap 1") (behind_version defs args h) (first_line defs bytes args h s) refl
heap_texts_have_no_bad_line defs bytes args h n words s (arguments {text = text} first none) =
    let both = line_once bytes (codes "heap 1") (codes "heap 1") text (behind_version defs args h) first (first_line defs bytes args h s) in
    let second = second_line defs args h s.writable.args in
    none (args_text args) (entries_text defs h) (subst (λ l. FirstLine l (args_text args) (entries_text defs h)) (sym both.1) second) (args, s.writable.args, refl)
heap_texts_have_no_bad_line defs bytes args h n words s (entry {text = text} {line = line} {rest = rest} {k = k} first next is bad) =
    let both = line_once bytes (codes "heap 1") (codes "heap 1") text (behind_version defs args h) first (first_line defs bytes args h s) in
    let second = subst (λ l. FirstLine l (args_text args) (entries_text defs h)) (sym both.1) (second_line defs args h s.writable.args) in
    let rests = line_once text line (args_text args) rest (entries_text defs h) next second in
    no_bad_entry defs (pos 0) h rest k words (fits defs (pos 0) h s.writable.heap s.writable.entries s.writable.fits) rests.1 bad

-- ---- one bad line

entry_unique : (defs : Defs) (low : ℤ) (text : List ℕ) (m n : ℕ) → HasBadEntry defs low text m → HasBadEntry defs low text n → m ≡ n
entry_unique defs low text _ _ (here some none) (here also nor) = refl
entry_unique defs low text _ _ (here some none) (later {line = line} {rest = rest} e first s more) = absurd (none line rest first (e, s))
entry_unique defs low text _ _ (later {line = line} {rest = rest} e first s more) (here some none) = absurd (none line rest first (e, s))
entry_unique defs low text _ _ (later {line = line} {rest = rest} {k = j} e first s more) (later {line = other} {rest = behind} {k = k} f next t bad) =
    let both = line_once text line other rest behind first next in
    let place : f.0 ≡ e.0 = (parts_once defs f e t.small s.small (sym t.is ∙ sym both.0 ∙ s.is)).0 in
    let bad' : HasBadEntry defs e.0 rest k = subst (λ q. HasBadEntry defs q rest k) place (subst (λ l. HasBadEntry defs f.0 l k) (sym both.1) bad) in
    ap suc (entry_unique defs e.0 rest j k more bad')

pub bad_lines_are_unique : BadLinesAreUnique
bad_lines_are_unique defs bytes _ _ (version none) (version nor) = refl
bad_lines_are_unique defs bytes _ _ (version none) (arguments {text = text} first nor) = absurd (none (codes "heap 1") text first refl)
bad_lines_are_unique defs bytes _ _ (version none) (entry {text = text} first next is bad) = absurd (none (codes "heap 1") text first refl)
bad_lines_are_unique defs bytes _ _ (arguments {text = text} first none) (version nor) = absurd (nor (codes "heap 1") text first refl)
bad_lines_are_unique defs bytes _ _ (arguments first none) (arguments next nor) = refl
bad_lines_are_unique defs bytes _ _ (arguments {text = text} first none) (entry {text = other} {line = line} {rest = rest} next third is bad) =
    let both = line_once bytes (codes "heap 1") (codes "heap 1") text other first next in
    absurd (none line rest (subst (λ t. FirstLine t line rest) (sym both.1) third) is)
bad_lines_are_unique defs bytes _ _ (entry {text = text} first next is bad) (version nor) = absurd (nor (codes "heap 1") text first refl)
bad_lines_are_unique defs bytes _ _ (entry {text = text} {line = line} {rest = rest} first next is bad) (arguments {text = other} third none) =
    let both = line_once bytes (codes "heap 1") (codes "heap 1") text other first third in
    absurd (none line rest (subst (λ t. FirstLine t line rest) both.1 next) is)
bad_lines_are_unique defs bytes _ _ (entry {text = text} {line = line} {rest = rest} {k = j} first next is bad) (entry {text = other} {line = l} {rest = behind} {k = k} third fourth at worse) =
    let both = line_once bytes (codes "heap 1") (codes "heap 1") text other first third in
    let rests = line_once text line l rest behind next (subst (λ t. FirstLine t l behind) (sym both.1) fourth) in
    ap (λ i. suc (suc (suc i))) (entry_unique defs (pos 0) rest j k bad (subst (λ t. HasBadEntry defs (pos 0) t k) (sym rests.1) worse))

-- ---- what is written is read

pub read_back : (defs : Defs) (bytes : List ℕ) (r : Result (List ℤ × Heap) HeapTextError) → IfOk r (λ p. States defs bytes p.0 p.1) → IfErr r (λ e. IsAnswer defs bytes e)
    → NamesAreWords defs → NamesDiffer defs → (args : List ℤ) (h : Heap) → States defs bytes args h → MatchResult r (λ p. (p.0 ≡ args) × (p.1 ≡ h)) (λ e. e ≡ Memory)
read_back defs bytes (Ok p) found cause words differ args h s = texts_state_once defs bytes p.0 args p.1 h words differ found s
read_back defs bytes (Err (Line n)) found cause words differ args h s = absurd (heap_texts_have_no_bad_line defs bytes args h n words s cause)
read_back defs bytes (Err Memory) found cause words differ args h s = refl
