-- The pairs of methods are well formed.
use Rattle.std.proofs.Common.{◌≡◌, append_assoc, ℕ, zero, suc, ◌+◌, ◌<◌, ◌≤◌, Bool, true, false, ◌||◌, IsTrue, List, [], ◌∷◌, ◌++◌, length, Option, Some, None, refl, sym, ap, ◌∙◌, subst, arith}
use Rattle.std.specs.List.{All, AllByRecursion, AllZip}
use Rattle.std.proofs.lemmas.List.{map-append, length_push}
use Rattle.std.proofs.lemmas.List.Elements.{All-nil, All-cons, All-weaker, All-append, All-map, All-from_recursion}
use Rattle.hs_tree.specs.declared.expr.ExprTree.{ExprTree}
use Rattle.hs_tree.specs.declared.method.ParamTree.{ParamTree}
use Rattle.hs_tree.specs.declared.method.PairSource.{PairSource}
use Rattle.hs_pure.specs.declared.var.Var.{Var}
use Rattle.hs_pure.specs.declared.lin.Lin.{Lin}
use Rattle.hs_pure.specs.Occurs.{in_lin, is_bound}
use Rattle.hs_pure.specs.Stack.{same}
use Rattle.hs_heap.specs.declared.formula.Formula.{Formula}
use Rattle.hs_heap.specs.declared.definitions.Defs.{Defs}
use Rattle.hs_heap.specs.Meaning.{is_in}
use Rattle.hs_heap.specs.Sound.{AreDistinct, AreAmong, AreNumberedFrom, FormulaFits}
use Rattle.hs_heap.proofs.Stacks.{same_false, same_turned}
use Rattle.hs_pure.proofs.Vars.{or_left, or_right}
use Rattle.hs_numbering.specs.declared.fault.Limit.TheVariants.{Pairs}
use Rattle.hs_numbering.specs.declared.numbering.Named.{Named}
use Rattle.hs_numbering.specs.declared.numbering.Numbering.{Numbering}
use Rattle.hs_numbering.specs.declared.numbering.Reading.TheVariants.{Open, Closed}
use Rattle.hs_numbering.specs.Names.{is_upper}
use Rattle.hs_numbering.specs.Numbering.{each, fix, start, next, is_open, res_name}
use Rattle.hs_norm_formula.specs.declared.table.Entry.{Entry}
use Rattle.hs_norm_formula.specs.Expr.{number}
use Rattle.hs_norm_formula.specs.Formula.{limit, formula}
use Rattle.hs_norm_item.specs.declared.forms.PairTree.{PairTree}
use Rattle.hs_norm_item.specs.Claim.{reserve, learn_res}
use Rattle.hs_norm_item.specs.Claims.{variant, pair}
use Rattle.hs_formula_fits.specs.Fits.{vars_of, free_vars, NamedFits, IsSettled, Extends, EntriesFit, DisjunctIsNew}
use Rattle.hs_formula_fits.specs.Laws.{FormulasFit, NumbersFit}
use Rattle.hs_formula_fits.proofs.State.{rise_above, is_in-append, neither, above_all, below_all, in_right, named_later}
use Rattle.hs_norm_sound.specs.Claims.{numbers_from, param_vars, res_var, VariantFits, PairIsNormal}
use Rattle.hs_norm_sound.proofs.Passing.{counted_all, each_keeps}
use Rattle.hs_norm_sound.proofs.Stays.{FaultsStay, limit_same, fix_keeps, give_keeps, variant_keeps, learn_res_keeps}
use Rattle.hs_norm_sound.proofs.Fixing.{Fixing, give_is, fixing_start, fixing_fix, fixing_all, fix_is, settled_of, free_fixed}
use Rattle.hs_norm_sound.proofs.Definitions.{free_stays}
use Rattle.hs_norm_sound.proofs.Claims.{next_few, next_later}
use Rattle.hs_norm_sound.proofs.Wider.{Widens, Binders, formula_wider, formula_higher, next_is}

-- ---- parameters

-- number variables in a row
numbers_are : (k : ℕ) (ps : List ParamTree) (vs : List Var) → AllByRecursion (λ (q : ParamTree). is_upper q.name.text ≡ false) ps → AllZip (λ (q : ParamTree) (v : Var). v.bag ≡ is_upper q.name.text) ps vs → AreNumberedFrom k vs →
    vs ≡ numbers_from k (length ps)
numbers_are k [] [] l z h = refl
numbers_are k [] (v ∷ vs) l z h = absurd z
numbers_are k (p ∷ ps) [] l z h = absurd z
numbers_are k (p ∷ ps) (v ∷ vs) l z h = λ i. record { number = h.0 i; bag = (z.0 ∙ l.0) i } ∷ numbers_are (suc k) ps vs l.1 z.1 h.1 i

numbers_low : (n k : ℕ) → AllByRecursion (λ (v : Var). v.number < n + k) (numbers_from n k)
numbers_low n zero = tt
numbers_low n (suc k) = (first n k, wider n k (numbers_from (suc n) k) (numbers_low (suc n) k))
  where
    first : (n k : ℕ) → n < n + suc k
    first n k = omega arith

    more : (m n k : ℕ) → m < suc n + k → m < n + suc k
    more m n k h = omega arith

    wider : (n k : ℕ) (vs : List Var) → AllByRecursion (λ (v : Var). v.number < suc n + k) vs → AllByRecursion (λ (v : Var). v.number < n + suc k) vs
    wider n k [] h = tt
    wider n k (v ∷ vs) h = (more v.number n k h.0, wider n k vs h.1)

params_low : (k : ℕ) → All (λ (v : Var). v.number ≤ k) (param_vars k)
params_low k = All-weaker (λ (v : Var). v.number < 1 + k) (λ (v : Var). v.number ≤ k) (λ v h. low v.number h) (param_vars k) (All-from_recursion (λ (v : Var). v.number < 1 + k) (param_vars k) (numbers_low 1 k))
  where
    low : (m : ℕ) → m < 1 + k → m ≤ k
    low m h = omega arith

length-params : (n k : ℕ) → length (numbers_from n k) ≡ k
length-params n zero = refl
length-params n (suc k) = ap (λ m. suc m) (length-params (suc n) k)

params_given : (ps : List ParamTree) (n : Numbering) → AllByRecursion (λ (q : ParamTree). is_upper q.name.text ≡ false) ps → Fixing Open n [] → (each (λ (q : ParamTree). fix q.name) ps n).1.faults ≡ [] →
    Fixing Open (each (λ (q : ParamTree). fix q.name) ps n).1 (param_vars (length ps))
params_given ps n lower f e =
    let fixed = fixing_all Open (λ (k : ℕ) (q : ParamTree). fix q.name) (λ k q. fix_keeps q.name) (λ k q m vs g h. fixing_fix Open q.name m vs g h) [] ps [] n f e in
    let kinds = counted_all (λ (k : ℕ) (q : ParamTree). fix q.name) (λ k q. fix_keeps q.name) (λ (q : ParamTree) (v : Var). v.bag ≡ is_upper q.name.text) (λ k q m h. ap (λ (out : Var × Numbering). out.0.bag) (fix_is q.name m h).1) ps n e in
    subst (Fixing Open (each (λ (q : ParamTree). fix q.name) ps n).1) (numbers_are 1 ps (each (λ (q : ParamTree). fix q.name) ps n).0 lower kinds fixed.follow) fixed

-- ---- `res`

-- the numbering with the number of `res` behind those of the parameters
record Reserved (k : ℕ) (m : Numbering) : Type 0 where
  settled : IsSettled m
  free : free_vars m ≡ param_vars k
  fixed : vars_of m.fixed ≡ param_vars k
  known : m.known ≡ []
  names : length m.names ≡ suc k

-- ---- lists with `res` between

module _ (k : ℕ) (logic : List Var) where
  in_beside : (v : Var) → IsTrue (is_in v (param_vars k ++ logic)) → IsTrue (is_in v (param_vars k ++ res_var k ∷ logic))
  in_beside v h = of (is_in v (param_vars k)) (is_in v logic) (same v (res_var k)) (is_in-append v (param_vars k) logic) (is_in-append v (param_vars k) (res_var k ∷ logic)) h
    where
      of : (a b c : Bool) → {x y : Bool} → x ≡ (a || b) → y ≡ (a || (c || b)) → IsTrue x → IsTrue y
      of true b c e f h = f
      of false true c e f h = f ∙ or_right c true refl
      of false false c e f h = absurd cc

  -- what is bound above `res` and is not in the list is not in the longer one
  not_beside : (u : Var) → suc k < u.number → is_in u (param_vars k ++ logic) ≡ false → is_in u (param_vars k ++ res_var k ∷ logic) ≡ false
  not_beside u less h = of (is_in u (param_vars k)) (is_in u logic) (same u (res_var k)) (is_in-append u (param_vars k) logic) (is_in-append u (param_vars k) (res_var k ∷ logic)) (same_false u (res_var k) (λ e. apart u.number (ap (λ (v : Var). v.number) e) less)) h
    where
      apart : (m : ℕ) → m ≡ suc k → suc k < m → ⊥
      apart m e lt = omega arith

      of : (a b c : Bool) → {x y : Bool} → x ≡ (a || b) → y ≡ (a || (c || b)) → c ≡ false → x ≡ false → y ≡ false
      of true b c e f g h = absurd cc
      of false true c e f g h = absurd cc
      of false false true e f g h = absurd cc
      of false false false e f g h = f

  pub widens_beside : Widens (param_vars k ++ logic) (param_vars k ++ res_var k ∷ logic) (λ u. suc k < u.number)
  widens_beside = record { among = in_beside; apart = not_beside }

  -- the same variables, `res` last
  pub widens_last : Widens ((param_vars k ++ logic) ++ res_var k ∷ []) (param_vars k ++ res_var k ∷ logic) (λ u. suc k < u.number)
  widens_last = record {
    among = λ v h. of v (is_in v (param_vars k ++ logic)) (same v (res_var k)) refl (is_in-append v (param_vars k ++ logic) (res_var k ∷ [])) h refl;
    apart = λ u less h. not_beside u less (left (is_in u (param_vars k ++ logic)) (is_in u (res_var k ∷ [])) (sym (is_in-append u (param_vars k ++ logic) (res_var k ∷ [])) ∙ h));
  }
    where
      left : (a b : Bool) → (a || b) ≡ false → a ≡ false
      left true b e = cc
      left false b e = refl

      of : (v : Var) (a s : Bool) → is_in v (param_vars k ++ logic) ≡ a → {x : Bool} → x ≡ (a || (s || false)) → IsTrue x → same v (res_var k) ≡ s → IsTrue (is_in v (param_vars k ++ res_var k ∷ logic))
      of v true s e f h g = in_beside v e
      of v false true e f h g = in_right v (param_vars k) (res_var k ∷ logic) (or_left (same v (res_var k)) (is_in v logic) g)
      of v false false e f h g = absurd cc

distinct_right : (xs ys : List Var) → AreDistinct (xs ++ ys) → AreDistinct ys
distinct_right [] ys h = h
distinct_right (x ∷ xs) ys h = distinct_right xs ys h.1

-- ---- a settled numbering that is read otherwise, or learns `res`

read_closed : (n : Numbering) → IsSettled n → IsSettled (record n { reading = Closed })
read_closed n s = record {
  named = refl;
  few = s.few;
  fixed = named_later n (record n { reading = Closed }) (self (length n.names)) n.fixed s.fixed;
  known = named_later n (record n { reading = Closed }) (self (length n.names)) n.known s.known;
  distinct = s.distinct;
  around = s.around;
  flat = s.flat;
  equations = s.equations;
}
  where
    self : (k : ℕ) → k ≤ k
    self k = omega arith

-- the variables of the names as they are, and of new ones
more_vars : (n : Numbering) (x : Named) → vars_of (n.fixed ++ (n.known ++ x ∷ [])) ≡ free_vars n ++ x.var ∷ []
more_vars n x = ap vars_of (sym (append_assoc n.fixed n.known (x ∷ []))) ∙ map-append (λ (m : Named). m.var) (n.fixed ++ n.known) (x ∷ [])

distinct_last : (xs : List Var) (y : Var) → AreDistinct xs → is_in y xs ≡ false → AreDistinct (xs ++ y ∷ [])
distinct_last [] y d h = (refl, tt)
distinct_last (x ∷ xs) y d h = (
  is_in-append x xs (y ∷ []) ∙ neither (is_in x xs) (same x y || false) d.0 (neither (same x y) false (same_turned x y (first (same y x) (is_in y xs) h)) refl),
  distinct_last xs y d.1 (second (same y x) (is_in y xs) h),
)
  where
    first : (a b : Bool) → (a || b) ≡ false → a ≡ false
    first true b e = cc
    first false b e = refl

    second : (a b : Bool) → (a || b) ≡ false → b ≡ false
    second true b e = cc
    second false b e = e

-- the numbering with `res` known or not
record AfterRes (k : ℕ) (logic : List Var) (n m : Numbering) : Type 0 where
  settled : IsSettled m
  names : m.names ≡ n.names
  reading : m.reading ≡ n.reading
  widens : Widens (free_vars m) (param_vars k ++ res_var k ∷ logic) (λ u. suc k < u.number)

module _ (k : ℕ) (logic : List Var) (n : Numbering) (settled : IsSettled n) (free : free_vars n ≡ param_vars k ++ logic) (given : suc k ≤ length n.names) (high : All (λ (v : Var). suc k < v.number) logic) where
  res_not_free : is_in (res_var k) (free_vars n) ≡ false
  res_not_free = ap (is_in (res_var k)) free ∙ is_in-append (res_var k) (param_vars k) logic
      ∙ neither (is_in (res_var k) (param_vars k)) (is_in (res_var k) logic) (above_all k (res_var k) (param_vars k) (params_low k) (less k)) (below_all (suc k) (res_var k) logic high (self (suc k)))
    where
      less : (k : ℕ) → k < suc k
      less k = omega arith

      self : (k : ℕ) → k ≤ k
      self k = omega arith

  res_known : (at : ℕ) → AfterRes k logic n (learn_res true at (res_var k) n).1
  res_known at =
      let m = (learn_res true at (res_var k) n).1 in
      let x : Named = record { name = res_name; var = res_var k } in
      record {
        settled = record {
          named = settled.named;
          few = settled.few;
          fixed = named_later n m (self (length n.names)) n.fixed settled.fixed;
          known = All-append (NamedFits m) n.known (x ∷ []) (named_later n m (self (length n.names)) n.known settled.known)
              (All-cons (NamedFits m) x [] (record { kind = refl; low = positive k; high = given }) (All-nil (NamedFits m)));
          distinct = subst AreDistinct (sym (more_vars n x)) (distinct_last (free_vars n) (res_var k) settled.distinct res_not_free);
          around = settled.around;
          flat = settled.flat;
          equations = settled.equations;
        };
        names = refl;
        reading = refl;
        widens = subst (λ vs. Widens vs (param_vars k ++ res_var k ∷ logic) (λ u. suc k < u.number)) (sym (more_vars n x ∙ ap (λ vs. vs ++ res_var k ∷ []) free)) (widens_last k logic);
      }
    where
      self : (k : ℕ) → k ≤ k
      self k = omega arith

      positive : (k : ℕ) → 1 ≤ suc k
      positive k = omega arith

  after_res : (has : Bool) (at : ℕ) (v : Var) → v ≡ res_var k → AfterRes k logic n (learn_res has at v n).1
  after_res true at v is = subst (λ w. AfterRes k logic n (learn_res true at w n).1) (sym is) (res_known at)
  after_res false at v is = record {
    settled = settled;
    names = refl;
    reading = refl;
    widens = subst (λ vs. Widens vs (param_vars k ++ res_var k ∷ logic) (λ u. suc k < u.number)) (sym free) (widens_beside k logic);
  }

-- ---- variants

record VariantRead (n m : Numbering) (o : Option Lin) : Type 0 where
  settled : IsSettled m
  names : length n.names ≤ length m.names
  reading : m.reading ≡ n.reading
  free : free_vars m ≡ free_vars n
  fits : VariantFits (free_vars n) o

variant_read : NumbersFit → (o : Option ExprTree) (n : Numbering) → IsSettled n → is_open n.reading ≡ false → (variant o n).1.faults ≡ [] → VariantRead n (variant o n).1 (variant o n).0
variant_read numbers None n settled closed e = record { settled = settled; names = self (length n.names); reading = refl; free = refl; fits = tt }
  where
    self : (k : ℕ) → k ≤ k
    self k = omega arith
variant_read numbers (Some t) n settled closed e =
    let f = numbers t n settled e in
    let free = free_stays n (number t n).1 f.extends closed in
    record { settled = f.settled; names = f.extends.names; reading = f.extends.reading; free = free; fits = (f.light, f.ordered, subst (AreAmong (λ v. in_lin v (number t n).0)) free f.among) }

-- ---- pairs

binders_new : (k j : ℕ) → k ≤ j → (f : Formula) → All (DisjunctIsNew j) f.cases → All (Binders (λ u. k < u.number)) f.cases
binders_new k j le f h = All-weaker (DisjunctIsNew j) (Binders (λ u. k < u.number)) (λ d g. (λ u i. above u.number (g.bound u i), All-weaker (λ p. (u : Var) → IsTrue (is_bound u p) → j < u.number) (λ p. (u : Var) → IsTrue (is_bound u p) → k < u.number) (λ p b u i. above u.number (b u i)) d.pure g.pure)) f.cases h
  where
    above : (m : ℕ) → j < m → k < m
    above m lt = omega arith

reserved : (k at : ℕ) (n : Numbering) → Fixing Open n (param_vars k) → (reserve at n).1.faults ≡ [] → Reserved k (reserve at n).1 × ((reserve at n).0 ≡ res_var k)
reserved k at n f e =
    let g = give_is (Some res_name) at false n e in
    let long : length n.names ≡ k = f.names ∙ length-params 1 k in (
      subst (λ (out : Var × Numbering). Reserved k out.1) (sym g.is) (record {
        settled = settled_of Open n (param_vars k) (suc k) refl f (omega arith) (n.names ++ Some res_name ∷ []) (let pushed = length_push n.names (Some res_name) in omega arith) (let room = g.room in omega arith);
        free = free_fixed Open n (param_vars k) f;
        fixed = f.fixed;
        known = f.known;
        names = let pushed = length_push n.names (Some res_name) in omega arith;
      }),
      ap (λ (out : Var × Numbering). out.0) g.is ∙ (λ i. record { number = next_number (length n.names) k long i; bag = false }),
    )
  where
    next_number : (m k : ℕ) → m ≡ k → m + 1 ≡ suc k
    next_number m k e = omega arith

-- a pair as it was read
pub record PairRead (defs : Defs) (k : ℕ) (p : PairSource) (q : PairTree) : Type 0 where
  pub normal : PairIsNormal defs k q
  pub pre : length q.pair_pre.cases ≡ length p.pre.cases
  pub post : length q.pair_post.cases ≡ length p.post.cases

self : (k : ℕ) → k ≤ k
self k = omega arith

up : (k a b c : ℕ) → a ≡ k → a ≤ b → b ≤ c → k ≤ c
up k a b c e h g = omega arith

same_length : (a b : ℕ) → b ≡ a → a ≤ b
same_length a b e = omega arith

both : (a b c : ℕ) → a ≤ b → b ≤ c → a ≤ c
both a b c h g = omega arith

chain : (a b c d : ℕ) → a ≤ b → b ≤ c → c ≤ d → a ≤ d
chain a b c d h g f = omega arith

below_next : (k a b c next : ℕ) → k ≤ a → a ≤ b → b ≤ c → next ≡ c + 1 → k < next
below_next k a b c next h g f e = omega arith

logic_high : (k : ℕ) (n m : Numbering) → length n.names ≡ suc k → n.known ≡ [] → Extends n m → All (λ (v : Var). suc k < v.number) (vars_of m.known)
logic_high k n m long none x =
    let is : m.known ≡ x.known.0 = x.known.1 ∙ ap (λ ms. ms ++ x.known.0) none in
    subst (λ ms. All (λ (v : Var). suc k < v.number) (vars_of ms)) (sym is) (subst (λ j. All (λ (v : Var). j < v.number) (vars_of x.known.0)) long (rise_above (length n.names) (vars_of x.known.0) x.known.2))

logic_low : (n m : Numbering) → IsSettled n → length m.names ≤ 1000 → length n.names ≤ length m.names → All (λ (v : Var). v.number < next m) (vars_of n.known)
logic_low n m s few le = All-map (λ (v : Var). v.number < next m) (λ (y : Named). y.var) n.known (All-weaker (NamedFits n) (λ (y : Named). y.var.number < next m) (λ y f. low y.var.number f.high) n.known s.known)
  where
    low : (j : ℕ) → j ≤ length n.names → j < next m
    low j h = let is = next_is m few in omega arith

module _ (formulas : FormulasFit) (numbers : NumbersFit) (stay : FaultsStay) (defs : Defs) (table : List Entry) (fit : EntriesFit defs table) where
  pub pair_read : (ps : List ParamTree) → AllByRecursion (λ (q : ParamTree). is_upper q.name.text ≡ false) ps → (has : Bool) (count : ℕ) (p : PairSource) (n : Numbering) → (pair table ps has count p n).1.faults ≡ [] →
      PairRead defs (length ps) p (pair table ps has count p n).0
  pair_read ps lower has count p n e =
      let k = length ps in
      let s1 = start Open n.faults in
      let s2 = (limit 16 Pairs p.at count s1).1 in
      let s3 = (each (λ (q : ParamTree). fix q.name) ps s2).1 in
      let s4 = (reserve p.at s3).1 in
      let s5 = (formula table p.pre s4).1 in
      let s6 = record s5 { reading = Closed } in
      let s7 = (variant p.variant s6).1 in
      let s8 = (learn_res has p.at (reserve p.at s3).0 s7).1 in
      let s9 = (formula table p.post s8).1 in
      let logic = vars_of s5.known in
      let e8 = stay.formulas table p.post s8 e in
      let e7 = learn_res_keeps has p.at (reserve p.at s3).0 s7 e8 in
      let e5 = variant_keeps stay p.variant s6 e7 in
      let e4 = stay.formulas table p.pre s4 e5 in
      let e3 = give_keeps (Some res_name) p.at false s3 e4 in
      let e2 = each_keeps (λ (q : ParamTree). fix q.name) (λ q. fix_keeps q.name) ps s2 e3 in
      let f2 = subst (λ m. Fixing Open m []) (sym (limit_same 16 Pairs p.at count s1 e2)) (fixing_start Open n.faults) in
      let r4 = reserved k p.at s3 (params_given ps s2 lower f2 e3) e4 in
      let pre = formulas defs table fit p.pre s4 r4.0.settled e5 in
      let free5 : free_vars s5 ≡ param_vars k ++ logic = map-append (λ (m : Named). m.var) s5.fixed s5.known ∙ (λ i. vars_of (pre.extends.fixed i) ++ logic) ∙ (λ i. r4.0.fixed i ++ logic) in
      let high = logic_high k s4 s5 r4.0.names r4.0.known pre.extends in
      let v = variant_read numbers p.variant s6 (read_closed s5 pre.settled) refl e7 in
      let grown : suc k ≤ length s7.names = up (suc k) (length s4.names) (length s5.names) (length s7.names) r4.0.names pre.extends.names v.names in
      let a = after_res k logic s7 v.settled (v.free ∙ free5) grown high has p.at (reserve p.at s3).0 r4.1 in
      let post = formulas defs table fit p.post s8 a.settled e in
      let free9 = free_stays s8 s9 post.extends (ap is_open a.reading ∙ ap is_open v.reading) in
      let names8 : length s7.names ≤ length s8.names = same_length (length s7.names) (length s8.names) (ap length a.names) in
      let later : length s5.names ≤ length s9.names = chain (length s5.names) (length s7.names) (length s8.names) (length s9.names) v.names names8 post.extends.names in
      let le = next_later s5 s9 pre.settled.few post.settled.few later in
      let pre_fits = subst (λ free. FormulaFits defs free (next s5) (formula table p.pre s4).0) free5 pre.fits in
      record {
        normal = record {
          distinct = distinct_right (param_vars k) logic (subst AreDistinct free5 pre.settled.distinct);
          numbered = λ i d lt. (high i d lt, logic_low s5 s9 pre.settled post.settled.few later i d lt);
          result = below_next (suc k) (length s7.names) (length s8.names) (length s9.names) (next s9) grown names8 post.extends.names (next_is s9 post.settled.few);
          bounded = next_few s9 post.settled.few;
          pre = formula_higher defs (param_vars k ++ logic) (next s5) (next s9) le (formula table p.pre s4).0 pre_fits;
          pre_apart = formula_wider (param_vars k ++ logic) (param_vars k ++ res_var k ∷ logic) (λ u. suc k < u.number) (widens_beside k logic) (next s5) (next s9) le defs (formula table p.pre s4).0
              (binders_new (suc k) (length s4.names) (same_length (suc k) (length s4.names) r4.0.names) (formula table p.pre s4).0 pre.new) pre_fits;
          post = formula_wider (free_vars s8) (param_vars k ++ res_var k ∷ logic) (λ u. suc k < u.number) a.widens (next s9) (next s9) (self (next s9)) defs (formula table p.post s8).0
              (binders_new (suc k) (length s8.names) (both (suc k) (length s7.names) (length s8.names) grown names8) (formula table p.post s8).0 post.new) (subst (λ free. FormulaFits defs free (next s9) (formula table p.post s8).0) free9 post.fits);
          variant = subst (λ free. VariantFits free (variant p.variant s6).0) free5 v.fits;
        };
        pre = pre.as_many;
        post = post.as_many;
      }
