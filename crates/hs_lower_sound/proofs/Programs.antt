-- The program of a source without faults is sound.
use Rattle.std.proofs.Common.{◌≡◌, ℕ, zero, suc, ◌<◌, ◌≤◌, Bool, true, false, not, ◌&&◌, nat_lt, List, [], ◌∷◌, ◌++◌, length, map, Option, Some, None, Ok, is_some, if◌then◌else◌, refl, sym, ap, ◌∙◌, subst, arith, length-append, le_refl, true≢false}
use Rattle.std.specs.List.{All, AllByRecursion, AllZip, Contains}
use Rattle.std.specs.Str.{bytes_eq}
use Rattle.std.proofs.lemmas.Bool.Decides.{nat_tests}
use Rattle.std.proofs.lemmas.List.Elements.{All-map, All-weaker, All-from_recursion, recursion_from_All, All-contains_itself, Contains-append_right}
use Rattle.hs_tree.specs.declared.method.BlockTree.{out-BlockTree}
use Rattle.hs_heap.specs.declared.definitions.Defs.{Defs}
use Rattle.hs_core.specs.declared.instr.Instr.{Instr}
use Rattle.hs_core.specs.declared.instr.Instr.TheVariants.{Return}
use Rattle.hs_core.specs.declared.program.Method.{Method}
use Rattle.hs_core.specs.declared.program.Program.{Program}
use Rattle.hs_core.specs.Machine as machine
use Rattle.hs_core.specs.Sound.{IsUpTo, PairFits, MethodFits, IsSoundProgram}
use Rattle.hs_norm.specs.declared.resolved.MethodTree.{MethodTree}
use Rattle.hs_norm.specs.declared.resolved.Resolved.{Resolved}
use Rattle.hs_norm_sound.specs.Uses.{block_uses}
use Rattle.hs_norm_sound.proofs.Found.{get_below, get_map}
use Rattle.hs_lower_scope.specs.Scope.{Scope, scope_of, method_named, method_number, param_variable, block_variables}
use Rattle.hs_lower_faults.specs.declared.error.LowerError.{LowerError}
use Rattle.hs_lower_faults.specs.declared.error.LowerError.TheVariants.{NoReturn, TooLong}
use Rattle.hs_lower_faults.specs.Faults.{returns, has_end, method_fault}
use Rattle.hs_lower_faults.specs.Ends.{block_ends}
use Rattle.hs_lower_faults.specs.Types as types
use Rattle.hs_lower_faults.specs.Setting as setting
use Rattle.hs_lower.specs.declared.made.Made.{Made}
use Rattle.hs_lower.specs.Code.{block}
use Rattle.hs_lower.specs.Lowering.{last_return, with_return, code_of, pair_of, method_of, program_of, or_long, fault_of, first_fault, or_fault, lowered}
use Rattle.hs_lower_sound.specs.Lowerable.{MethodIsLowerable, IsLowerable}
use Rattle.hs_lower_sound.specs.Laws.{MethodIsKept}
use Rattle.hs_lower_sound.proofs.Passed.{Passes, fault_stays, none_first}
use Rattle.hs_lower_sound.proofs.Places.{index_of_get, all_at, length_of_map, first_at}
use Rattle.hs_lower_sound.proofs.Settings.{method_stays}
use Rattle.hs_lower_sound.proofs.Segments.{SegmentFits, CodeFits, code_append, code_at, instr_fits}
use Rattle.hs_lower_sound.proofs.Values.{Callee}
use Rattle.hs_lower_sound.proofs.Blocks.{block_good}

-- ---- faults

returns_pass : (b : Bool) (at : ℕ) → Passes (returns b at) (b ≡ true)
returns_pass true at found e = (e, refl)
returns_pass false at found e = absurd (fault_stays found (NoReturn at) e)

short : (at : ℕ) (code : List Instr) (o : Option LowerError) → or_long at code o ≡ None → (o ≡ None) × (length code ≤ 4096)
short at code (Some f) e = cc
short at code None e = (refl, of (nat_lt 4096 (length code)) refl e)
  where
    low : nat_lt 4096 (length code) ≡ false → length code ≤ 4096
    low h = grind (arith, nat_tests)

    of : (b : Bool) → nat_lt 4096 (length code) ≡ b → (if b then Some (TooLong at) else None) ≡ None → length code ≤ 4096
    of true h e = cc
    of false h e = low h

-- the program and no fault
made_without : (r : Resolved) (p : Program) → lowered r ≡ Ok p → (program_of r ≡ p) × (first_fault r ≡ None)
made_without r p e = of (first_fault r) e
  where
    of : (o : Option LowerError) → or_fault (program_of r) o ≡ Ok p → (program_of r ≡ p) × (o ≡ None)
    of None e = (cc, refl)
    of (Some f) e = cc

-- ---- the last return

-- the code of a whole method
abbrev Whole : Defs → Program → Bool → ℕ → List Instr → Type 0
Whole defs program gives slots code = CodeFits defs program gives slots (length code) 0 code × (0 < length code)

returned_fits : (defs : Defs) (program : Program) (gives : Bool) (n : ℕ) (b : Made) → SegmentFits defs program gives 0 n b → (gives && b.ends) ≡ false →
    CodeFits defs program gives b.slots (length (with_return gives b).code) 0 (with_return gives b).code × (0 < length (with_return gives b).code)
returned_fits defs program gives n b h closed = of gives b.ends refl refl closed
  where
    ended : b.ends ≡ false → Whole defs program gives b.slots (b.code ++ [])
    ended is =
        let total = length-append b.code [] in
        let some = h.some is in (
          code_append defs program gives b.slots (length (b.code ++ [])) 0 (length b.code) b.code [] (h.code b.slots (length (b.code ++ [])) (le_refl b.slots) (omega arith) (λ e. absurd (true≢false (sym e ∙ is)))) (omega arith) tt,
          omega arith,
        )

    more : gives ≡ false → Whole defs program gives b.slots (b.code ++ Return None ∷ [])
    more is =
        let total = length-append b.code (Return None ∷ []) in (
          code_append defs program gives b.slots (length (b.code ++ Return None ∷ [])) 0 (length b.code) b.code (Return None ∷ [])
              (h.code b.slots (length (b.code ++ Return None ∷ [])) (le_refl b.slots) (omega arith) (λ e. omega arith)) (omega arith) (is, tt),
          omega arith,
        )

    of : (g e : Bool) → gives ≡ g → b.ends ≡ e → (g && e) ≡ false → Whole defs program gives b.slots (b.code ++ last_return (e && not g))
    of true true is ends h = absurd (true≢false h)
    of true false is ends closed = ended ends
    of false true is ends closed = more is
    of false false is ends closed = ended ends

-- ---- methods

module _ (r : Resolved) where
  abbrev program : Program
  program = program_of r

  callee : (m : MethodTree) (name : List ℕ) (c : MethodTree) → method_named (scope_of r m) name ≡ Some c → Callee program (scope_of r m) name c
  callee m name c e =
      let f = first_at (λ (q : MethodTree). bytes_eq q.name name) r.methods c e in
      let lt = get_below r.methods f.place c f.got in
      let long = length_of_map (method_of r) r.methods in
      let is : machine.method_of program (method_number (scope_of r m) name) ≡ method_of r c =
      ap (machine.method_of program) f.is ∙ index_of_get (map (method_of r) r.methods) f.place (method_of r c) machine.no_method (get_map (method_of r) r.methods f.place c f.got) in
      record {
        number = subst (IsUpTo (length program.methods)) (sym f.is) (omega arith, omega arith);
        params = ap (λ (q : Method). q.params) is;
        result = ap (λ (q : Method). q.result) is;
        refs = ap (λ (q : Method). q.refs) is;
      }

  module _ (m : MethodTree) (ok : MethodIsLowerable r m) (clear : method_fault (scope_of r m) m ≡ None) where
    abbrev scope : Scope
    scope = scope_of r m

    abbrev count : ℕ
    count = length scope.variables

    abbrev body : Made
    body = block scope m.block 0 count

    declared : AllByRecursion (Contains scope.variables) (block_variables r.defs m.block)
    declared =
        let params = map param_variable m.params in
        let own = block_variables r.defs m.block in
        recursion_from_All (Contains scope.variables) own (All-weaker (Contains own) (Contains scope.variables) (λ v h. Contains-append_right params own v h) own (All-contains_itself own))

    closed_of : (g b e : Bool) → not (g && b) ≡ true → e ≡ b → (g && e) ≡ false
    closed_of true true e h is = absurd (true≢false (sym h))
    closed_of true false e h is = is
    closed_of false b e h is = refl

    made_fits : SegmentFits r.defs program (is_some m.result) 0 count body × ((is_some m.result && body.ends) ≡ false)
    made_fits =
        let t = types.block scope m.block None in
        let ends = returns_pass (not (has_end m)) (out-BlockTree m.block).end (setting.method_block scope m t) clear in
        let set = method_stays scope m t ends.0 in
        let typed = block_good program scope (callee m) m.block None set.0 in
        let all = typed.1 (recursion_from_All _ (block_uses m.block) ok.uses) declared 0 count (le_refl count) in
        (all.0, closed_of (is_some m.result) (block_ends m.block) body.ends ends.1 all.1)

    method_fits : MethodFits r.defs program (method_of r m)
    method_fits =
        let made = made_fits in
        let whole = returned_fits r.defs program (is_some m.result) count body made.0 made.1 in
        let few = length-append (map param_variable m.params) (block_variables r.defs m.block) in
        let same = length_of_map param_variable m.params in
        let slots = made.0.slots in
        record {
          params = omega arith;
          refs = tt;
          begins = whole.1;
          code = λ i x e. instr_fits r.defs program (method_of r m) i x
              (code_at r.defs program (is_some m.result) (code_of scope m).slots (length (code_of scope m).code) 0 (code_of scope m).code i i x whole.0 (omega arith) e);
          pairs = All-map (PairFits r.defs (method_of r m)) pair_of m.pairs ok.pairs;
        }

  methods_fit : (ms : List MethodTree) → AllByRecursion (MethodIsLowerable r) ms → AllByRecursion (λ f. f ≡ None) (map (fault_of r) ms) → AllByRecursion (MethodFits r.defs program) (map (method_of r) ms)
  methods_fit [] h g = tt
  methods_fit (m ∷ ms) h g = (method_fits m h.0 (short (out-BlockTree m.block).end (method_of r m).code (method_fault (scope_of r m) m) g.0).0, methods_fit ms h.1 g.1)

  sound : IsLowerable r → first_fault r ≡ None → IsSoundProgram r.defs program
  sound ok e = record { methods = λ k there. of k there }
    where
      all : AllByRecursion (MethodFits r.defs program) (map (method_of r) r.methods)
      all = methods_fit r.methods (recursion_from_All (MethodIsLowerable r) r.methods ok.methods) (none_first None (map (fault_of r) r.methods) e).1

      of : (k : ℕ) → IsUpTo (length program.methods) k → MethodFits r.defs program (machine.method_of program k)
      of zero there = let low = there.0 in absurd (omega arith)
      of (suc k) there = let high = there.1 in all_at (MethodFits r.defs program) (map (method_of r) r.methods) k machine.no_method all (omega arith)

  short_each : (ms : List MethodTree) → AllByRecursion (λ f. f ≡ None) (map (fault_of r) ms) → AllByRecursion (λ (q : Method). length q.code ≤ 4096) (map (method_of r) ms)
  short_each [] h = tt
  short_each (m ∷ ms) h = ((short (out-BlockTree m.block).end (method_of r m).code (method_fault (scope_of r m) m) h.0).1, short_each ms h.1)

  kept_each : (ms : List MethodTree) → AllZip MethodIsKept ms (map (method_of r) ms)
  kept_each [] = tt
  kept_each (m ∷ ms) = (record { name = refl; params = refl; result = refl; pairs = refl }, kept_each ms)

-- ---- lowered programs

pub programs_sound : (r : Resolved) (p : Program) → IsLowerable r → lowered r ≡ Ok p → IsSoundProgram r.defs p
programs_sound r p ok e = let made = made_without r p e in subst (IsSoundProgram r.defs) made.0 (sound r ok made.1)

pub code_short : (r : Resolved) (p : Program) → lowered r ≡ Ok p → All (λ (q : Method). length q.code ≤ 4096) p.methods
code_short r p e =
    let made = made_without r p e in
    subst (λ (p : Program). All (λ (q : Method). length q.code ≤ 4096) p.methods) made.0
    (All-from_recursion (λ (q : Method). length q.code ≤ 4096) (map (method_of r) r.methods) (short_each r r.methods (none_first None (map (fault_of r) r.methods) made.1).1))

pub methods_kept : (r : Resolved) (p : Program) → lowered r ≡ Ok p → AllZip MethodIsKept r.methods p.methods
methods_kept r p e = subst (λ (p : Program). AllZip MethodIsKept r.methods p.methods) (made_without r p e).0 (kept_each r r.methods)
