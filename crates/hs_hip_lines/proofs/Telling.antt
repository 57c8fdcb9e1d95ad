-- Lines of pairs, one pair and one method more at the end.
use Rattle.std.proofs.Common.{◌≡◌, ℕ, zero, suc, ◌+◌, ◌<◌, ◌≤◌, List, [], ◌∷◌, ◌++◌, length, take, get_or, Option, Some, slice_get, slice_index_or, refl, sym, ap, ◌∙◌, subst, arith, append_assoc, length-append}
use Rattle.std.specs.List.{AllZip}
use Rattle.std.proofs.lemmas.List.{take_more, take_all, length-take-le, length-map}
use Rattle.std.proofs.lemmas.Option.{slice_get-get_or}
use Rattle.hs_heap.specs.declared.definitions.Defs.{Defs}
use Rattle.hs_goal.specs.declared.rule.Limits.{Limits}
use Rattle.hs_core.specs.declared.program.Method.{Method}
use Rattle.hs_core.specs.declared.program.Program.{Program}
use Rattle.hs_core.specs.Machine.{method_of, no_method}
use Rattle.hs_core.specs.Sound.{IsUpTo}
use Rattle.hs_norm.specs.declared.resolved.MethodTree.{MethodTree}
use Rattle.hs_norm_item.specs.declared.forms.PairTree.{PairTree}
use Rattle.hs_lower.specs.Lowering.{pair_of}
use Rattle.hs_lower_sound.specs.Laws.{MethodIsKept}
use Rattle.hs_print.specs.declared.line.Line.{Line}
use Rattle.hs_hip_lines.specs.Lines.{IsPairLine, AreLinesOf, AreMethodLines, pair_count}

-- ---- methods are kept

pub kept_at : (methods : List MethodTree) (all : List Method) (k : ℕ) (m : MethodTree) → AllZip MethodIsKept methods all → slice_get methods k ≡ Some m
    → (k < length all) × (length (slice_index_or all k no_method).pairs ≡ length m.pairs)
kept_at [] all k m h e = absurd cc
kept_at (x ∷ xs) [] k m h e = absurd h
kept_at (x ∷ xs) (q ∷ qs) zero m h e =
    let same : x ≡ m = cc in
    (omega arith, ap length h.0.pairs ∙ length-map x.pairs pair_of ∙ ap (λ (t : MethodTree). length t.pairs) same)
kept_at (x ∷ xs) (q ∷ qs) (suc k) m h e = let later = kept_at xs qs k m h.1 e in (omega (arith, later.0), later.1)

-- as many
pub zip_count : (methods : List MethodTree) (all : List Method) → AllZip MethodIsKept methods all → length methods ≡ length all
zip_count [] [] h = refl
zip_count [] (q ∷ qs) h = absurd h
zip_count (x ∷ xs) [] h = absurd h
zip_count (x ∷ xs) (q ∷ qs) h = ap suc (zip_count xs qs h.1)

pub method_there : (program : Program) (methods : List MethodTree) (index number : ℕ) (m : MethodTree) → AllZip MethodIsKept methods program.methods
    → number ≡ index → index < length methods → m ≡ get_or methods index m
    → IsUpTo (length program.methods) (number + 1) × (length (method_of program (number + 1)).pairs ≡ length m.pairs)
method_there program methods index number m kept is below at =
    let there : slice_get methods index ≡ Some m = slice_get-get_or methods index m below ∙ ap (λ (x : MethodTree). Some x) (sym at) in
    let found = kept_at methods program.methods index m kept there in
    let step : suc index ≡ number + 1 = omega (arith, is) in
    ((omega arith, omega (arith, is, found.0)), subst (λ n. length (method_of program n).pairs ≡ length m.pairs) step found.1)

append_nil : {A : Type 0} (xs : List A) → xs ++ [] ≡ xs
append_nil [] = refl
append_nil {A} (x ∷ xs) = ap (λ (ys : List A). x ∷ ys) (append_nil xs)

module _ (defs : Defs) (program : Program) (limits : Limits) (unshown : Option (List ℕ)) where
  -- ---- one pair more

  module _ (m : ℕ) (name : List ℕ) where
    lines_push : (i : ℕ) (ps : List PairTree) (lines : List Line) (p : PairTree) (line : Line)
        → AreLinesOf defs program limits unshown m name i ps lines → IsPairLine defs program limits unshown m name (i + length ps) p line
        → AreLinesOf defs program limits unshown m name i (ps ++ p ∷ []) (lines ++ line ∷ [])
    lines_push i [] [] p line h v = (subst (λ n. IsPairLine defs program limits unshown m name n p line) (omega arith) v, tt)
    lines_push i [] (l ∷ lines) p line h v = absurd h
    lines_push i (q ∷ ps) [] p line h v = absurd h
    lines_push i (q ∷ ps) (l ∷ lines) p line h v =
        (h.0, lines_push (suc i) ps lines p line h.1 (subst (λ n. IsPairLine defs program limits unshown m name n p line) (omega arith) v))

    -- the first pairs have their lines
    pub record Telling (ps : List PairTree) (lines : List Line) (index number : ℕ) : Type 0 where
      pub number_is : number ≡ index
      pub told : AreLinesOf defs program limits unshown m name 1 (take index ps) lines

    pub telling_push : (ps : List PairTree) (lines more : List Line) (index number : ℕ) (p : PairTree) (line : Line)
        → Telling ps lines index number → index < length ps → p ≡ get_or ps index p
        → IsPairLine defs program limits unshown m name (number + 1) p line → more ≡ lines ++ line ∷ []
        → Telling ps more (index + 1) (number + 1)
    telling_push ps lines more index number p line t below at v pushed =
        let taken : length (take index ps) ≡ index = length-take-le _ _ (omega arith) in
        let longer : take (index + 1) ps ≡ take index ps ++ p ∷ [] = take_more ps index p below ∙ ap (λ (q : PairTree). take index ps ++ q ∷ []) (sym at) in
        let here : IsPairLine defs program limits unshown m name (1 + length (take index ps)) p line =
        subst (λ n. IsPairLine defs program limits unshown m name n p line) (omega (arith, t.number_is)) v in
        let told = lines_push 1 (take index ps) lines p line t.told here in
        record {
          number_is = omega (arith, t.number_is);
          told = subst (λ (qs : List PairTree). AreLinesOf defs program limits unshown m name 1 qs more) (sym longer)
              (subst (λ (ls : List Line). AreLinesOf defs program limits unshown m name 1 (take index ps ++ p ∷ []) ls) (sym pushed) told);
        }

  -- ---- one method more

  methods_push : (m : ℕ) (methods : List MethodTree) (lines : List Line) (method : MethodTree) (more : List Line)
      → AreMethodLines defs program limits unshown m methods lines
      → AreLinesOf defs program limits unshown (m + length methods) method.name 1 method.pairs more
      → AreMethodLines defs program limits unshown m (methods ++ method ∷ []) (lines ++ more)
  methods_push m [] lines method more AreMethodLines.nothing h =
      subst (λ (ls : List Line). AreMethodLines defs program limits unshown m (method ∷ []) ls) (append_nil more)
      (AreMethodLines.more more [] (subst (λ n. AreLinesOf defs program limits unshown n method.name 1 method.pairs more) (omega arith) h) AreMethodLines.nothing)
  methods_push m (first ∷ methods) lines method more (AreMethodLines.more front others here later) h =
      subst (λ (ls : List Line). AreMethodLines defs program limits unshown m (first ∷ methods ++ method ∷ []) ls) (sym (append_assoc front others more))
      (AreMethodLines.more front (others ++ more) here
      (methods_push (suc m) methods others method more later (subst (λ n. AreLinesOf defs program limits unshown n method.name 1 method.pairs more) (omega arith) h)))

  -- the first methods have their lines
  pub record TellingMethods (methods : List MethodTree) (lines : List Line) (index number : ℕ) : Type 0 where
    pub number_is : number ≡ index
    pub told : AreMethodLines defs program limits unshown 1 (take index methods) lines

  pub telling_methods_none : (methods : List MethodTree) (lines : List Line) → lines ≡ [] → TellingMethods methods lines 0 0
  telling_methods_none methods lines none =
      record {
        number_is = refl;
        told = subst (λ (ls : List Line). AreMethodLines defs program limits unshown 1 (take 0 methods) ls) (sym none) AreMethodLines.nothing;
      }

  pub telling_methods_push : (methods : List MethodTree) (lines more all : List Line) (index number : ℕ) (m : MethodTree)
      → TellingMethods methods lines index number → index < length methods → m ≡ get_or methods index m
      → AreLinesOf defs program limits unshown (number + 1) m.name 1 m.pairs more → all ≡ lines ++ more
      → TellingMethods methods all (index + 1) (number + 1)
  telling_methods_push methods lines more all index number m t below at v pushed =
      let taken : length (take index methods) ≡ index = length-take-le _ _ (omega arith) in
      let longer : take (index + 1) methods ≡ take index methods ++ m ∷ [] = take_more methods index m below ∙ ap (λ (q : MethodTree). take index methods ++ q ∷ []) (sym at) in
      let here : AreLinesOf defs program limits unshown (1 + length (take index methods)) m.name 1 m.pairs more =
      subst (λ n. AreLinesOf defs program limits unshown n m.name 1 m.pairs more) (omega (arith, t.number_is)) v in
      let told = methods_push 1 (take index methods) lines m more t.told here in
      record {
        number_is = omega (arith, t.number_is);
        told = subst (λ (ms : List MethodTree). AreMethodLines defs program limits unshown 1 ms all) (sym longer)
            (subst (λ (ls : List Line). AreMethodLines defs program limits unshown 1 (take index methods ++ m ∷ []) ls) (sym pushed) told);
      }

  -- ---- how many

  lines_count : (m : ℕ) (name : List ℕ) (i : ℕ) (ps : List PairTree) (lines : List Line) → AreLinesOf defs program limits unshown m name i ps lines → length lines ≡ length ps
  lines_count m name i [] [] h = refl
  lines_count m name i [] (l ∷ lines) h = absurd h
  lines_count m name i (p ∷ ps) [] h = absurd h
  lines_count m name i (p ∷ ps) (l ∷ lines) h = ap suc (lines_count m name (suc i) ps lines h.1)

  methods_count : (m : ℕ) (methods : List MethodTree) (lines : List Line) → AreMethodLines defs program limits unshown m methods lines → length lines ≡ pair_count methods
  methods_count m [] lines AreMethodLines.nothing = refl
  methods_count m (first ∷ methods) lines (AreMethodLines.more front others here later) =
      let these = lines_count m first.name 1 first.pairs front here in
      let rest = methods_count (suc m) methods others later in
      length-append front others ∙ omega (arith, these, rest)

  pub telling_methods_count : (methods : List MethodTree) (lines : List Line) (index number : ℕ) → TellingMethods methods lines index number → length methods ≤ index
      → length lines ≡ pair_count methods
  telling_methods_count methods lines index number t past = methods_count 1 (take index methods) lines t.told ∙ ap pair_count (take_all index methods past)
