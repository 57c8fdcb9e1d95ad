-- Each statement reads what is set.
use Rattle.std.proofs.Common.{◌≡◌, ℕ, suc, ◌+◌, true, [], ◌∷◌, length, Option, Some, None, refl}
use Rattle.std.proofs.lemmas.Bool.{and_left}
use Rattle.std.proofs.lemmas.List.Elements.{All-nil}
use Rattle.hs_tree.specs.declared.ident.Ident.{Ident}
use Rattle.hs_tree.specs.declared.expr.ExprTree.{ExprTree}
use Rattle.hs_tree.specs.declared.method.CallTree.{CallTree}
use Rattle.hs_tree.specs.declared.method.CondTree.{CondTree}
use Rattle.hs_tree.specs.declared.method.ValueTree.{ValueTree}
use Rattle.hs_pure.specs.Rename.{sums}
use Rattle.hs_core.specs.declared.instr.Instr.TheVariants.{Set, Branch, Return}
use Rattle.hs_core.specs.Set.{reads}
use Rattle.hs_lower_scope.specs.declared.variable.Field.{Field}
use Rattle.hs_lower_scope.specs.Scope.{Scope, slot_of, kind_of}
use Rattle.hs_lower_faults.specs.declared.error.LowerError.{LowerError}
use Rattle.hs_lower_faults.specs.First.{Check, pass, both, all, optional}
use Rattle.hs_lower_faults.specs.Setting.{State, state}
use Rattle.hs_lower_faults.specs.Setting as setting
use Rattle.hs_lower_faults.specs.Types as types
use Rattle.hs_lower.specs.Conditions.{condition}
use Rattle.hs_lower.specs.Code.{Part}
use Rattle.hs_lower.specs.Code as lower
use Rattle.hs_lower_set.proofs.Safe.{Slots, AreSet}
use Rattle.hs_lower_set.proofs.Segments.{Segment, step, nothing, in_turn, Placing, place_beside, after}
use Rattle.hs_lower_set.proofs.Terms.{NameIsSet, ExprIsSet, flat_set}
use Rattle.hs_lower_set.proofs.Telling.{Tells, pass_tells, both_tell, both_clear, optional_tells, set_tells}
use Rattle.hs_lower_set.proofs.Conditions.{expression_tells, condition_tells}
use Rattle.hs_lower_set.proofs.Typing.{call_clears, value_tells, condition_clears, store_typed, give_clears}
use Rattle.hs_lower_set.proofs.Values.{single, place, args_tell, value_reads, call_made, value_made}
use Rattle.hs_lower_set.proofs.Parts.{Fits, Good, if_then_fits, if_else_fits}

-- a return ends the method
pub stops : (from : Option ℕ) (p : ℕ) (s t : Slots) → AreSet s (reads (Return from)) → Segment (Return from ∷ []) p s t
stops from p s t r = λ code q e h safe. step code p s (Return from) h.0 r (λ j goes. absurd goes)

module _ (scope : Scope) where
  -- ---- statements without parts

  pub local_good : (x : Ident) → Good (λ p n. lower.optional_value scope x None n) (setting.may_get scope x None) pass
  local_good x = record { keeps = λ a e. e; stays = λ a e. e; clear = pass_tells; fits = λ found s e passes p n. (refl, nothing p s s (λ k h. h)) }

  pub gets_good : (x : Ident) (v : ValueTree) → Good (λ p n. lower.variable_value scope x v n) (setting.gets scope x v) (types.value scope (kind_of scope x.text) v)
  gets_good x v = record {
    keeps = λ a e. (value_reads scope a.set v a.found e).0;
    stays = λ a e. e;
    clear = λ found e. ((value_tells scope (kind_of scope x.text) v found e).0, tt);
    fits = λ found s e passes p n. value_made scope (slot_of scope x.text) v n p s (value_reads scope s v found e).1 (value_tells scope (kind_of scope x.text) v passes.0 passes.1).1;
  }

  store_tells : (x : Ident) (e : ExprTree) (s : Slots) → Tells (both (setting.variable scope s x) (setting.expression scope s e)) (NameIsSet s scope x × ExprIsSet s scope e)
  store_tells x e s = both_tell (setting.variable scope s x) (setting.expression scope s e) (NameIsSet s scope x) (ExprIsSet s scope e) (set_tells (s (slot_of scope x.text)) x.at) (expression_tells scope s e)

  stored : (x : Ident) (e : ExprTree) (s : Slots) (p n : ℕ) (o : Option Field) → NameIsSet s scope x → ExprIsSet s scope e →
      ((lower.store_by (slot_of scope x.text) (lower.placed scope e n) n o).ends ≡ true) × Segment (lower.store_by (slot_of scope x.text) (lower.placed scope e n) n o).code p s s
  stored x e s p n None h g = (refl, nothing p s s (λ k h. h))
  stored x e s p n (Some f) h g =
      let a = lower.placed scope e n in
      let at = slot_of scope x.text in
      let both : Placing a.code p s (at ∷ a.slot ∷ []) = place_beside a.code p s (at ∷ []) (a.slot ∷ []) (single s at h) (place scope e n p s g) in
      (refl, after a.code p s (at ∷ a.slot ∷ []) both (Set at f.node f.number a.slot) (λ p j goes. goes) refl)

  pub store_good : (x f : Ident) (e : ExprTree) → Good (λ p n. lower.store scope x f e n) (setting.reads (λ set. both (setting.variable scope set x) (setting.expression scope set e)))
      (both (types.expression scope e) (types.store_by scope x f e (types.field_kind scope x f)))
  store_good x f e = record {
    keeps = λ a none. (store_tells x e a.set a.found none).0;
    stays = λ a closed. closed;
    clear = store_typed scope x f e;
    fits = λ found s none passes p n. let told = (store_tells x e s found none).1 in stored x e s p n (lower.field_found scope x f) told.0 told.1;
  }

  pub call_good : (c : CallTree) → Good (λ p n. lower.call scope None c n) (setting.reads (λ set. all (setting.expression scope set) c.args)) (types.call scope c)
  call_good c = record {
    keeps = λ a none. (args_tell scope a.set c.args a.found none).0;
    stays = λ a closed. closed;
    clear = call_clears scope c;
    fits = λ found s none passes p n. (refl, call_made scope None c n p s (args_tell scope s c.args found none).1);
  }

  pub return_good : (at : ℕ) (e : Option ExprTree) → Good (λ p n. lower.give scope e n) (setting.returns scope e) (types.give scope at scope.result e)
  return_good at e = record {
    keeps = λ a none. (optional_tells (setting.expression scope a.set) (ExprIsSet a.set scope) (expression_tells scope a.set) e a.found none).0;
    stays = λ a closed. refl;
    clear = give_clears scope at scope.result e;
    fits = λ found s none passes p n. of e s p n found none;
  }
    where
      of : (e : Option ExprTree) (s : Slots) (p n : ℕ) (found : Option LowerError) → optional (setting.expression scope s) e found ≡ None → Fits (lower.give scope e n) p s (setting.returns scope e (state found s true))
      of None s p n found none = (refl, stops None p s (λ k. true) (All-nil (λ k. s k ≡ true)))
      of (Some e) s p n found none =
          let a = lower.placed scope e n in
          let x = place scope e n p s (expression_tells scope s e found none).1 in
          let q = p + length a.code in
          (refl, in_turn a.code (Return (Some a.slot) ∷ []) p q s x.set (λ k. true) refl x.segment (stops (Some a.slot) q x.set (λ k. true) x.given))

  -- ---- branches

  branch_reads : (c : CondTree) (s : Slots) (found : Option LowerError) → setting.condition scope s c found ≡ None → AreSet s (reads (Branch (condition scope c) 0))
  branch_reads c s found none = flat_set s (sums (condition scope c)) (condition_tells scope s c found none).1

  module _ (c : CondTree) (P : Part) (S : setting.Part) (T : Check) (body : Good P S T) where
    -- what holds after the condition, where the branch begins
    abbrev begun : State → State
    begun a = state (setting.condition scope a.set c a.found) a.set true

    pub if_good : Good (λ p n. lower.branch scope c P None p n) (λ a. setting.branches S None (setting.reads (λ set. setting.condition scope set c) a)) (both (types.condition scope c) (both T pass))
    if_good = record {
      keeps = λ a none. (condition_tells scope a.set c a.found (body.keeps (begun a) none)).0;
      stays = λ a closed. and_left a.ends _ closed;
      clear = both_clear (types.condition scope c) (both T pass) (condition_clears scope c) (both_clear T pass body.clear pass_tells);
      fits = λ found s none passes p n.
          let a = state found s true in
          if_then_fits (condition scope c) p s (P (suc p) n) (S (begun a)) (branch_reads c s found (body.keeps (begun a) none))
          (body.fits (setting.condition scope s c found) s none (types.condition scope c passes.0, passes.1) (suc p) n);
    }

    module _ (P' : Part) (S' : setting.Part) (T' : Check) (other : Good P' S' T') where
      -- where the other branch begins
      abbrev turned : State → State
      turned a = state (S (begun a)).found a.set true

      pub if_else_good : Good (λ p n. lower.branch scope c P (Some P') p n) (λ a. setting.branches S (Some S') (setting.reads (λ set. setting.condition scope set c) a)) (both (types.condition scope c) (both T T'))
      if_else_good = record {
        keeps = λ a none. (condition_tells scope a.set c a.found (body.keeps (begun a) (other.keeps (turned a) none))).0;
        stays = λ a closed. and_left a.ends _ closed;
        clear = both_clear (types.condition scope c) (both T T') (condition_clears scope c) (both_clear T T' body.clear other.clear);
        fits = λ found s none passes p n.
            let a = state found s true in
            let first = P (suc p) n in
            let q = lower.else_at p first in
            let before = other.keeps (turned a) none in
            let start = types.condition scope c passes.0 in
            if_else_fits (condition scope c) p q s first (P' q first.slots) (S (begun a)) (S' (turned a)) refl (branch_reads c s found (body.keeps (begun a) before))
            (body.fits (setting.condition scope s c found) s before (start, (other.clear (T start) passes.1).0) (suc p) n)
            (other.fits (S (begun a)).found s none (T start, passes.1) q first.slots);
      }
