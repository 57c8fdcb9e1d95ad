-- What the code of branches and of statements one after another comes to.
use Rattle.std.proofs.Common.{◌≡◌, ℕ, suc, ◌+◌, ◌≤◌, Bool, true, false, ◌||◌, inl, inr, List, [], ◌∷◌, ◌++◌, length, map, Some, None, if◌then◌else◌, refl, sym, ◌∙◌, subst, arith, length-append, true≢false}
use Rattle.std.specs.List.{AllByRecursion, fold, flat_map}
use Rattle.hs_tree.specs.declared.method.CondTree.{CondTree}
use Rattle.hs_tree.specs.declared.method.StatementTree.{StatementTree}
use Rattle.hs_heap.specs.Heap.{Heap}
use Rattle.hs_norm.specs.declared.resolved.MethodTree.{MethodTree}
use Rattle.hs_norm.specs.declared.resolved.Resolved.{Resolved}
use Rattle.hs_norm_sound.specs.Uses.{Use, condition_uses, statement_uses}
use Rattle.hs_core.specs.declared.instr.Instr.{Instr}
use Rattle.hs_core.specs.declared.instr.Instr.TheVariants.{Branch, Jump}
use Rattle.hs_core.specs.declared.program.Program.{Program}
use Rattle.hs_core.specs.Machine.{Place, Frame, Slots, StepsFrom}
use Rattle.hs_lower_scope.specs.Scope.{Scope, scope_of}
use Rattle.hs_lower.specs.declared.made.Made.{Made}
use Rattle.hs_lower.specs.Conditions.{condition}
use Rattle.hs_lower.specs.Code.{Part, made, else_at, jump, follow, then_part, each, branch, statement}
use Rattle.hs_lower.specs.Lowering.{program_of}
use Rattle.hs_lower_sound.specs.Lowerable.{IsThere}
use Rattle.hs_lower_sound.proofs.Passed.{split_all}
use Rattle.hs_lower_meaning.specs.Values.{Values, holds}
use Rattle.hs_lower_meaning.specs.Blocks.{Outcome, Goes, Gives, Fails, Stops}
use Rattle.hs_lower_meaning.proofs.Conditions.{condition_tells}
use Rattle.hs_lower_meaning.proofs.Growth.{Grows, statement_grows}
use Rattle.hs_lower_meaning.proofs.Steps.{Steps, stay, go, frame, Stands, stands_first, stands_after, does}
use Rattle.hs_lower_meaning.proofs.Placing.{Agree, names_agree}
use Rattle.hs_lower_meaning.proofs.Reached.{Reached, Simulated, before, otherwise, stopped_anywhere}

jump-long : (e : Bool) (target : ℕ) → length (jump e target) ≡ (if e then 1 else 0)
jump-long true target = refl
jump-long false target = refl

or_left : (a b : Bool) → a ≡ true → (a || b) ≡ true
or_left true b h = refl
or_left false b h = absurd (true≢false (sym h))

or_right : (a b : Bool) → b ≡ true → (a || b) ≡ true
or_right true b h = refl
or_right false b h = h

module _ (P : Place) (r : Resolved) (k : ℕ) (m : MethodTree) where
  abbrev program : Program
  program = program_of r

  abbrev scope : Scope
  scope = scope_of r m

  abbrev count : ℕ
  count = length scope.variables

  abbrev S : List Frame → Heap → List Frame → Heap → Type 0
  S = StepsFrom P program

  abbrev Sim : Part → List Use → Values → Heap → Outcome → Type 0
  Sim = Simulated P r k m

  abbrev At : ℕ → List Instr → Type 0
  At = Stands P program k

  -- ---- branches

  -- the branch goes on where the condition holds
  holds_step : (p other : ℕ) (c : CondTree) (w : Values) (s : Slots) (fs : List Frame) (h : Heap) (xs : List Instr) → AllByRecursion (IsThere scope) (condition_uses c) → Agree count w s → holds scope w c ≡ true →
      At p (Branch (condition scope c) other ∷ xs) → Steps S (frame k p s ∷ fs) h (frame k (suc p) s ∷ fs) h
  holds_step p other c w s fs h xs used a e at =
      does P program k p (Branch (condition scope c) other) s fs h (frame k (suc p) s) h at.0 (inl ((condition_tells scope w s (names_agree scope w s a) c used).1 e, refl), refl)

  -- and goes to its other point where it does not
  fails_step : (p other : ℕ) (c : CondTree) (w : Values) (s : Slots) (fs : List Frame) (h : Heap) (xs : List Instr) → AllByRecursion (IsThere scope) (condition_uses c) → Agree count w s → holds scope w c ≡ false →
      At p (Branch (condition scope c) other ∷ xs) → Steps S (frame k p s ∷ fs) h (frame k other s ∷ fs) h
  fails_step p other c w s fs h xs used a e at =
      does P program k p (Branch (condition scope c) other) s fs h (frame k other s) h at.0
      (inr (λ t. true≢false (sym ((condition_tells scope w s (names_agree scope w s a) c used).0 t) ∙ e), refl), refl)

  abbrev branch_uses : CondTree → List Use → List Use → List Use
  branch_uses c body other = (condition_uses c ++ body) ++ other

  pub branches : (c : CondTree) (body : Part) (uses : List Use) (w : Values) (h : Heap) (o : Outcome) → holds scope w c ≡ true → Sim body uses w h o → Sim (branch scope c body None) (branch_uses c uses []) w h o
  branches c body uses w h o e good used p n s fs enough a at =
      let b = body (suc p) n in
      let parts = split_all (IsThere scope) (condition_uses c ++ uses) [] used in
      let own = split_all (IsThere scope) (condition_uses c) uses parts.0 in
      let step = holds_step p (suc p + length b.code) c w s fs h b.code own.0 a e at in
      before P r k m (frame k p s ∷ fs) fs h (frame k (suc p) s ∷ fs) h (p + length (Branch (condition scope c) (suc p + length b.code) ∷ b.code)) true o step
      (otherwise P r k m (frame k (suc p) s ∷ fs) fs h (suc p + length b.code) (p + length (Branch (condition scope c) (suc p + length b.code) ∷ b.code)) b.ends true o (omega arith) (λ e. refl)
      (good own.1 (suc p) n s fs enough a at.1))

  pub passes : (c : CondTree) (body : Part) (uses : List Use) (w : Values) (h : Heap) → holds scope w c ≡ false → Sim (branch scope c body None) (branch_uses c uses []) w h (Goes w h)
  passes c body uses w h e used p n s fs enough a at =
      let b = body (suc p) n in
      let parts = split_all (IsThere scope) (condition_uses c ++ uses) [] used in
      let own = split_all (IsThere scope) (condition_uses c) uses parts.0 in
      let step = fails_step p (suc p + length b.code) c w s fs h b.code own.0 a e at in
      let end : suc p + length b.code ≡ p + length (Branch (condition scope c) (suc p + length b.code) ∷ b.code) = omega arith in
      (s, subst (λ q. Steps S (frame k p s ∷ fs) h (frame k q s ∷ fs) h) end step, a, refl)

  -- the parts of a branch with an else
  module _ (c : CondTree) (body other : Part) (uses more : List Use) (p n : ℕ) where
    abbrev first : Made
    first = body (suc p) n

    abbrev q : ℕ
    q = else_at p first

    abbrev second : Made
    second = other q first.slots

    abbrev rest : List Instr
    rest = jump first.ends (q + length second.code) ++ second.code

    abbrev whole : List Instr
    whole = Branch (condition scope c) q ∷ (first.code ++ rest)

    whole-end : q + length second.code ≡ p + length whole
    whole-end =
        let a = length-append first.code rest in
        let b = length-append (jump first.ends (q + length second.code)) second.code in
        let d = jump-long first.ends (q + length second.code) in
        omega arith

    second_at : At p whole → At q second.code
    second_at at =
        let b = jump-long first.ends (q + length second.code) in
        let e : suc p + length first.code + length (jump first.ends (q + length second.code)) ≡ q = omega arith in
        subst (λ j. At j second.code) e
        (stands_after P program k (suc p + length first.code) (jump first.ends (q + length second.code)) second.code (stands_after P program k (suc p) first.code rest at.1))

    -- after the first part comes the jump over the second
    jumped : (start fs : List Frame) (h : Heap) (o : Outcome) → At p whole → Reached P r k m start fs h (suc p + length first.code) first.ends o → Reached P r k m start fs h (p + length whole) (first.ends || second.ends) o
    jumped start fs h (Gives v l) at reached = reached
    jumped start fs h (Fails z) at reached = reached
    jumped start fs h (Goes w l) at (t, run, a, ends) =
        let j = suc p + length first.code in
        let here = subst (λ e. At j (jump e (q + length second.code) ++ second.code)) ends (stands_after P program k (suc p) first.code rest at.1) in
        let step = does P program k j (Jump (q + length second.code)) t fs l (frame k (q + length second.code) t) l here.0 (refl, refl) in (
          t,
          subst (λ i. Steps S start h (frame k i t ∷ fs) l) whole-end (go S start h (frame k j t ∷ fs) l (frame k (q + length second.code) t ∷ fs) l run step),
          a,
          or_left first.ends second.ends ends,
        )

  pub branches_first : (c : CondTree) (body other : Part) (uses more : List Use) (w : Values) (h : Heap) (o : Outcome) → holds scope w c ≡ true → Sim body uses w h o →
      Sim (branch scope c body (Some other)) (branch_uses c uses more) w h o
  branches_first c body other uses more w h o e good used p n s fs enough a at =
      let a' = body (suc p) n in
      let parts = split_all (IsThere scope) (condition_uses c ++ uses) more used in
      let own = split_all (IsThere scope) (condition_uses c) uses parts.0 in
      let step = holds_step p (q c body other uses more p n) c w s fs h (a'.code ++ rest c body other uses more p n) own.0 a e at in
      before P r k m (frame k p s ∷ fs) fs h (frame k (suc p) s ∷ fs) h (p + length (whole c body other uses more p n)) (a'.ends || (second c body other uses more p n).ends) o step
      (jumped c body other uses more p n (frame k (suc p) s ∷ fs) fs h o at
      (good own.1 (suc p) n s fs enough a (stands_first P program k (suc p) a'.code (rest c body other uses more p n) at.1)))

  pub branches_second : (c : CondTree) (body other : Part) (uses more : List Use) (w : Values) (h : Heap) (o : Outcome) → Grows body → holds scope w c ≡ false → Sim other more w h o →
      Sim (branch scope c body (Some other)) (branch_uses c uses more) w h o
  branches_second c body other uses more w h o grows e good used p n s fs enough a at =
      let a' = body (suc p) n in
      let b' = second c body other uses more p n in
      let j = q c body other uses more p n in
      let low = grows (suc p) n in
      let parts = split_all (IsThere scope) (condition_uses c ++ uses) more used in
      let own = split_all (IsThere scope) (condition_uses c) uses parts.0 in
      let step = fails_step p j c w s fs h (a'.code ++ rest c body other uses more p n) own.0 a e at in
      before P r k m (frame k p s ∷ fs) fs h (frame k j s ∷ fs) h (p + length (whole c body other uses more p n)) (a'.ends || b'.ends) o step
      (otherwise P r k m (frame k j s ∷ fs) fs h (j + length b'.code) (p + length (whole c body other uses more p n)) b'.ends (a'.ends || b'.ends) o (whole-end c body other uses more p n) (or_right a'.ends b'.ends)
      (good parts.1 j a'.slots s fs (omega arith) a (second_at c body other uses more p n at)))

  -- ---- statements one after another

  abbrev made_from : ℕ → Made → List StatementTree → Made
  made_from p d ss = fold (then_part p) d (map (statement scope) ss)

  -- the made part stands first
  stands_made : (p : ℕ) (ss : List StatementTree) (d : Made) → At p (made_from p d ss).code → At p d.code
  stands_made p [] d at = at
  stands_made p (x ∷ ss) d at = of d.ends (λ a. stands_made p ss a) at
    where
      of : (b : Bool) → ((a : Made) → At p (made_from p a ss).code → At p a.code) → At p (made_from p (if b then follow d (statement scope x (p + length d.code) d.slots) else d) ss).code → At p d.code
      of true later at = stands_first P program k p d.code (statement scope x (p + length d.code) d.slots).code (later (follow d (statement scope x (p + length d.code) d.slots)) at)
      of false later at = later d at

  -- after a part whose end is reached the statements come to the outcome
  abbrev pub Row : List StatementTree → Values → Heap → Outcome → Type 0
  Row ss w h o = AllByRecursion (IsThere scope) (flat_map (λ s. s) (map statement_uses ss)) → (p : ℕ) (d : Made) (s : Slots) (fs : List Frame) → count ≤ d.slots → d.ends ≡ true → Agree count w s → At p (made_from p d ss).code →
      Reached P r k m (frame k (p + length d.code) s ∷ fs) fs h (p + length (made_from p d ss).code) (made_from p d ss).ends o

  pub row_nothing : (w : Values) (h : Heap) → Row [] w h (Goes w h)
  row_nothing w h used p d s fs enough ends a at = (s, stay S (frame k (p + length d.code) s ∷ fs) h, a, ends)

  pub row_goes : (x : StatementTree) (ss : List StatementTree) (w u : Values) (h l : Heap) (o : Outcome) → Sim (statement scope x) (statement_uses x) w h (Goes u l) → Row ss u l o → Row (x ∷ ss) w h o
  row_goes x ss w u h l o good later used p d s fs enough ends a at =
      subst (λ b. At p (made_from p (if b then follow d next else d) ss).code → Reached P r k m (frame k j s ∷ fs) fs h (p + length (made_from p (if b then follow d next else d) ss).code) (made_from p (if b then follow d next else d) ss).ends o)
      (sym ends) here at
    where
      j : ℕ
      j = p + length d.code

      next : Made
      next = statement scope x (p + length d.code) d.slots

      here : At p (made_from p (follow d next) ss).code → Reached P r k m (frame k j s ∷ fs) fs h (p + length (made_from p (follow d next) ss).code) (made_from p (follow d next) ss).ends o
      here at =
          let parts = split_all (IsThere scope) (statement_uses x) (flat_map (λ s. s) (map statement_uses ss)) used in
          let there = stands_after P program k p d.code next.code (stands_made p ss (follow d next) at) in
          let one = good parts.0 j d.slots s fs enough a there in
          let t = one.0 in
          let more = statement_grows scope x j d.slots in
          let total = length-append d.code next.code in
          let e : j + length next.code ≡ p + length (d.code ++ next.code) = omega arith in
          before P r k m (frame k j s ∷ fs) fs h (frame k (p + length (d.code ++ next.code)) t ∷ fs) l (p + length (made_from p (follow d next) ss).code) (made_from p (follow d next) ss).ends o
          (subst (λ i. Steps S (frame k j s ∷ fs) h (frame k i t ∷ fs) l) e one.1)
          (later parts.1 p (follow d next) t fs (omega arith) one.3 one.2 at)

  pub row_stops : (x : StatementTree) (ss : List StatementTree) (w : Values) (h : Heap) (o : Outcome) → Sim (statement scope x) (statement_uses x) w h o → Stops o → Row (x ∷ ss) w h o
  row_stops x ss w h o good stop used p d s fs enough ends a at =
      subst (λ b. At p (made_from p (if b then follow d next else d) ss).code → Reached P r k m (frame k j s ∷ fs) fs h (p + length (made_from p (if b then follow d next else d) ss).code) (made_from p (if b then follow d next else d) ss).ends o)
      (sym ends) here at
    where
      j : ℕ
      j = p + length d.code

      next : Made
      next = statement scope x (p + length d.code) d.slots

      here : At p (made_from p (follow d next) ss).code → Reached P r k m (frame k j s ∷ fs) fs h (p + length (made_from p (follow d next) ss).code) (made_from p (follow d next) ss).ends o
      here at =
          let parts = split_all (IsThere scope) (statement_uses x) (flat_map (λ s. s) (map statement_uses ss)) used in
          let there = stands_after P program k p d.code next.code (stands_made p ss (follow d next) at) in
          stopped_anywhere P r k m (frame k j s ∷ fs) fs h (j + length next.code) (p + length (made_from p (follow d next) ss).code) next.ends (made_from p (follow d next) ss).ends o stop
          (good parts.0 j d.slots s fs enough a there)

  pub row_block : (ss : List StatementTree) (w : Values) (h : Heap) (o : Outcome) → Row ss w h o → Sim (each (map (statement scope) ss)) (flat_map (λ s. s) (map statement_uses ss)) w h o
  row_block ss w h o row used p n s fs enough a at =
      let e : p + 0 ≡ p = omega arith in
      subst (λ j. Reached P r k m (frame k j s ∷ fs) fs h (p + length (made_from p (made [] n true) ss).code) (made_from p (made [] n true) ss).ends o) e
      (row used p (made [] n true) s fs enough refl a at)
