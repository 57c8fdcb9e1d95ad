-- What a call asks and leaves: the pair's formulas over the arguments are shaped, and new variables have new numbers.
use Rattle.std.proofs.Common.{ℕ, suc, ◌≡◌, ◌<◌, ◌≤◌, inr, true, false, IsTrue, ◌||◌, List, [], ◌∷◌, ◌++◌, length, map, get_or, refl, ◌∙◌, ap, arith}
use Rattle.std.specs.List.{All, list_any, flat_map}
use Rattle.std.proofs.lemmas.Bool.{false_from_ne_true}
use Rattle.std.proofs.lemmas.List.Elements.{All-nil, All-head, All-tail, All-append, All-map}
use Rattle.hs_pure.specs.declared.var.Var.{Var}
use Rattle.hs_pure.specs.Stack.{same}
use Rattle.hs_pure.specs.Occurs.{occurs}
use Rattle.hs_pure.proofs.Lists.{All-right}
use Rattle.hs_pure.proofs.Vars.{or_left, or_right}
use Rattle.hs_heap.specs.declared.formula.Disjunct.{Disjunct}
use Rattle.hs_heap.specs.declared.formula.Formula.{Formula}
use Rattle.hs_heap.specs.declared.definitions.Defs.{Defs}
use Rattle.hs_heap.specs.Meaning.{is_in}
use Rattle.hs_heap.specs.Variables.{in_atom, occurs_in_disjunct, occurs_in_formula}
use Rattle.hs_heap.specs.Sound.{IsNumbered, AtomFits, AreDistinct, kinds}
use Rattle.hs_heap.specs.Renamed.{renamed_formula}
use Rattle.hs_heap.proofs.Lists.{any_back, listed_forth, listed_back}
use Rattle.hs_heap.proofs.Sources.{list_source, cases_occurs_source}
use Rattle.hs_heap.proofs.Stacks.{same_itself}
use Rattle.hs_goal.specs.Parts.{ConjunctFits}
use Rattle.hs_rules.proofs.Fitting.{distinct-append, distinct-map}
use Rattle.hs_core.specs.declared.program.Pair.{Pair}
use Rattle.hs_core.specs.declared.program.Method.{Method}
use Rattle.hs_core.specs.Sound.{PairFits, param_vars, reserved_vars}
use Rattle.hs_core.proofs.GivenVars.{in_from, apart_forth}
use Rattle.hs_program_rules.specs.Parts.{joined_case, all_joined, call_renaming, after_call, result_var, last_vars}
use Rattle.hs_program_rules.proofs.Pairs.{names}
use Rattle.hs_program_rules.proofs.Renaming.{reserved_of_pair, logic_of_pair, post_known, occurs_low, keeps, other_high, all_under, apart, pre_apart, post_apart}
use Rattle.hs_program_fits.proofs.Shapes.{CaseIsShaped, IsShaped}
use Rattle.hs_program_fits.proofs.Renamed.{renamed_shaped}
use Rattle.hs_program_fits.proofs.Forming.{BindsHigh}

-- ---- cases side by side

module _ (defs : Defs) (n : ℕ) where
  -- what is bound has numbers below n
  abbrev pub BindsLow : Disjunct → Type 0
  BindsLow d = (v : Var) → IsTrue (is_in v d.bound) → v.number < n

  joined_with_shaped : (d : Disjunct) (es : List Disjunct) → All (λ (v : Var). n ≤ v.number) d.bound → CaseIsShaped defs d → All BindsLow es → All (CaseIsShaped defs) es →
      All (CaseIsShaped defs) (map (joined_case d) es)
  joined_with_shaped d es high h low k =
      let above = listed_forth (λ (v : Var). n ≤ v.number) d.bound high in
      All-map (CaseIsShaped defs) (joined_case d) es (λ i z less.
      let e = get_or es i z in
      let s = k i z less in
      let under = low i z less in
      record {
        atoms = All-append (AtomFits defs) d.atoms e.atoms h.atoms s.atoms;
        distinct = distinct-append d.bound e.bound h.distinct s.distinct (λ v b. false_from_ne_true (is_in v e.bound) (λ c. let a = above v b in let u = under v c in absurd (omega arith)));
        pure = All-append ConjunctFits d.pure e.pure h.pure s.pure;
      })

  all_joined_cases : (ds es : List Disjunct) → All (λ (d : Disjunct). All (λ (v : Var). n ≤ v.number) d.bound) ds → All (CaseIsShaped defs) ds → All BindsLow es → All (CaseIsShaped defs) es →
      All (CaseIsShaped defs) (flat_map (λ d. map (joined_case d) es) ds)
  all_joined_cases [] es high h low k = All-nil (CaseIsShaped defs)
  all_joined_cases (d ∷ ds) es high h low k =
      let B : Disjunct → Type 0 = λ d. All (λ (v : Var). n ≤ v.number) d.bound in
      All-append (CaseIsShaped defs) (map (joined_case d) es) (flat_map (λ d. map (joined_case d) es) ds)
      (joined_with_shaped d es (All-head B d ds high) (All-head (CaseIsShaped defs) d ds h) low k)
      (all_joined_cases ds es (All-tail B d ds high) (All-tail (CaseIsShaped defs) d ds h) low k)

  pub all_joined_shaped : (f g : Formula) → BindsHigh n f → IsShaped defs f → All BindsLow g.cases → IsShaped defs g → IsShaped defs (all_joined f g)
  all_joined_shaped f g high h low k = all_joined_cases f.cases g.cases high h low k

-- ---- the pair at the arguments

module _ (defs : Defs) (m : Method) (p : Pair) (fits : PairFits defs m p) (args : List Var) (n : ℕ) (arity : kinds (param_vars m) ≡ kinds args) (below : All (λ (v : Var). v.number < n) args) where
  abbrev r : Var → Var
  r = call_renaming m p args n

  pub pre_shaped : IsShaped defs (renamed_formula r p.pre)
  pre_shaped = renamed_shaped defs r (keeps defs m p fits args n arity below) (names defs m p fits) p.next p.pre fits.pre_apart (pre_apart defs m p fits args n arity below)

  pub post_shaped : IsShaped defs (renamed_formula r p.post)
  post_shaped = renamed_shaped defs r (keeps defs m p fits args n arity below) (names defs m p fits) p.next p.post fits.post (post_apart defs m p fits args n arity below)

  -- the open variables are new and different
  pub logic_distinct : AreDistinct (map r p.logic)
  logic_distinct =
      let split = apart_forth (param_vars m ++ reserved_vars m) p.logic fits.distinct in
      distinct-map r p.logic (λ u v k l e. apart defs m p fits args n arity below u v (inr (logic_of_pair defs m p fits u k)) (logic_of_pair defs m p fits v l) e) split.0

  pub record IsNew (v : Var) : Type 0 where
    pub high : n ≤ v.number
    pub low : v.number < after_call m p n

  pub logic_new : (v : Var) → IsTrue (is_in v (map r p.logic)) → IsNew v
  logic_new v i =
      let (y, logic, e) = list_source r p.logic v i in
      let of = logic_of_pair defs m p fits y logic in
      let number = listed_forth (IsNumbered p.next) p.logic (All-right (IsNumbered p.next) (param_vars m ++ reserved_vars m) p.logic fits.numbers) y logic in
      let high = other_high defs m p fits args n arity below y of in
      let low = all_under defs m p fits args n arity below y (inr of) number.1 in
      let k : v.number ≡ (r y).number = ap (λ (u : Var). u.number) e in
      record { high = omega arith; low = omega arith }

  -- what stands in the postcondition is below the number after the last one taken
  post_low : (v : Var) → IsTrue (occurs_in_formula v (renamed_formula r p.post)) → v.number < after_call m p n
  post_low v o =
      let (y, there, e) = cases_occurs_source r p.post.cases v o in
      let low = all_under defs m p fits args n arity below y (post_known defs m p fits y there) (occurs_low defs m p fits p.post fits.post y there) in
      let k : v.number ≡ (r y).number = ap (λ (u : Var). u.number) e in omega arith

  pub post_binds_low : All (BindsLow defs (after_call m p n)) (renamed_formula r p.post).cases
  post_binds_low =
      let all = any_back occurs_in_disjunct (λ (v : Var). v.number < after_call m p n) (renamed_formula r p.post).cases post_low in
      λ i z less v b.
      let d = get_or (renamed_formula r p.post).cases i z in
      all i z less v (or_left (is_in v d.bound) (list_any (in_atom v) d.atoms || list_any (occurs v) d.pure) b)

  -- the result and the last values of reference parameters get new number variables
  pub record IsNewNumber (v : Var) : Type 0 where
    pub number : v.bag ≡ false
    pub high : n ≤ v.number

  reserved_new : (y : Var) → y.bag ≡ false → is_in y (reserved_vars m) ≡ true → IsNewNumber (r y)
  reserved_new y kind i = record {
    number = keeps defs m p fits args n arity below y ∙ kind;
    high = other_high defs m p fits args n arity below y (reserved_of_pair defs m p fits y i);
  }

  pub result_new : IsNewNumber (r (result_var m))
  result_new = reserved_new (result_var m) refl (or_left (same (result_var m) (result_var m)) (is_in (result_var m) (last_vars m)) (same_itself (result_var m)))

  pub last_new : All IsNewNumber (map r (last_vars m))
  last_new = All-map IsNewNumber r (last_vars m) (listed_back (λ (v : Var). IsNewNumber (r v)) (last_vars m) (λ v i.
      reserved_new v (in_from v (suc (suc m.params)) (length m.refs) i).0 (or_right (same v (result_var m)) (is_in v (last_vars m)) i)))
