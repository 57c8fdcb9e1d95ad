-- The whole of a text.
use Rattle.std.proofs.Common.{◌≡◌, ℕ, ℤ, pos, List, [], ◌∷◌, ◌++◌, codes, sym, ap, ◌∙◌, subst, append_assoc, Result, Ok, Err, IfErr, IsErrAnd}
use Rattle.hs_heap.specs.declared.definitions.Defs.{Defs}
use Rattle.hs_heap.specs.Heap.{Heap}
use Rattle.hs_heaptext.specs.Lines.{FirstLine}
use Rattle.hs_heaptext.specs.Values.{AreSmall}
use Rattle.hs_heaptext.specs.Text.{args_text, entries_text}
use Rattle.hs_heaptext.specs.Reading.{States, EntriesFit, IsArgsLine, IsAnswer, IsEntriesAnswer, IsBadLine, entry}
use Rattle.hs_heaptext.specs.declared.error.HeapTextError.{HeapTextError}
use Rattle.hs_heaptext.specs.declared.error.HeapTextError.TheVariants.{Line, Memory}
use Rattle.hs_heaptext.proofs.Entries.{rises, all_small, all_fit}

pub states : (defs : Defs) (bytes text line rest : List ℕ) (args : List ℤ) (h : Heap) → FirstLine bytes (codes "heap 1") text → FirstLine text line rest → AreSmall args → line ≡ args_text args
    → rest ≡ entries_text defs h → EntriesFit defs (pos 0) h → States defs bytes args h
states defs bytes text line rest args h first next small is all fit = record {
  writable = record { args = small; heap = rises defs (pos 0) h fit; entries = all_small defs (pos 0) h fit; fits = all_fit defs (pos 0) h fit };
  text = first.split ∙ ap (λ l. codes "heap 1" ++ 10 ∷ l) (next.split ∙ ap (λ l. l ++ 10 ∷ rest) is ∙ ap (λ l. args_text args ++ 10 ∷ l) all ∙ sym (append_assoc (args_text args) (10 ∷ []) (entries_text defs h)));
}

pub entries_answer : (defs : Defs) (bytes text line rest : List ℕ) (e : HeapTextError) → FirstLine bytes (codes "heap 1") text → FirstLine text line rest → IsArgsLine line
    → IsEntriesAnswer defs rest e → IsAnswer defs bytes e
entries_answer defs bytes text line rest (Line n) first next is (k, e, bad) = subst (IsBadLine defs bytes) (sym e) (entry first next is bad)
entries_answer defs bytes text line rest Memory first next is answer = tt

pub error_answer : {A : Type 0} (P : HeapTextError → Type 0) (r : Result A HeapTextError) (e : HeapTextError) → IsErrAnd r (λ x. x ≡ e) → P e → IfErr r P
error_answer P (Ok x) e h k = tt
error_answer P (Err x) e h k = subst P (sym h) k
