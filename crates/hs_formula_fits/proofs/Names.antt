-- Names and binders give variables that are in scope.
use Rattle.std.proofs.Common.{◌≡◌, ℕ, ◌+◌, ◌-◌, ◌<◌, ◌≤◌, Bool, true, false, ◌||◌, nat_le, IsTrue, List, [], ◌∷◌, ◌++◌, length, take, Option, Some, None, unwrap_or, refl, sym, ap, ◌∙◌, subst, arith, append_assoc, append-nil, length-append, if◌then◌else◌, true≢false}
use Rattle.std.specs.List.{All, fold}
use Rattle.std.specs.Str.{bytes_eq}
use Rattle.std.proofs.lemmas.Bool.{and_parts, or_parts}
use Rattle.std.proofs.lemmas.Bool.Decides.{nat_tests}
use Rattle.std.proofs.lemmas.List.{map-append, take-append-le}
use Rattle.std.proofs.lemmas.List.Elements.{All-head, All-tail, All-append, All-map, All-weaker, All-push, All-take}
use Rattle.std.proofs.lemmas.Slice.Eq.{bytes_eq-Decides}
use Rattle.hs_tree.specs.declared.ident.Ident.{Ident}
use Rattle.hs_pure.specs.declared.var.Var.{Var}
use Rattle.hs_pure.specs.Stack.{same}
use Rattle.hs_pure.proofs.Vars.{or_left, or_right}
use Rattle.hs_heap.specs.Meaning.{is_in}
use Rattle.hs_heap.specs.Sound.{AreDistinct}
use Rattle.hs_heap.proofs.Stacks.{same_itself, same_turned}
use Rattle.hs_numbering.specs.declared.fault.Problem.TheVariants.{Shape, TooMany}
use Rattle.hs_numbering.specs.declared.fault.Limit.TheVariants.{Vars}
use Rattle.hs_numbering.specs.declared.numbering.Named.{Named}
use Rattle.hs_numbering.specs.declared.numbering.Numbering.{Numbering}
use Rattle.hs_numbering.specs.Names.{is_upper, numbered_var}
use Rattle.hs_numbering.specs.Numbering.{Builder, ◌>>=◌, ◌>>◌, pure, blame, blame_unknown, blame_twice, no_var, is_numbered, is_open, give, give_named, learn, takes_new, resolve, resolve_free, resolve_name, resolve_numbered, or_else, last_named, bind, bind_name, bind_numbered, bind_read, is_taken, has_number, enter, leave}
use Rattle.hs_formula_fits.specs.Fits.{vars_of, free_vars, NamedFits, Extends}
use Rattle.hs_formula_fits.proofs.State.{neither, is_in-append, in_left, in_right, above_all, named_later, IsFresh}
use Rattle.hs_formula_fits.proofs.Keeps.{scope, Sane, Stays, stays_itself, Result, Kept, Does, Keeps, blamed}

-- ---- numbers

-- a new variable, and nothing else changed
pub record Given (bag : Bool) (n : Numbering) (done : Var × Numbering) : Type 0 where
  pub sane : Sane done.1
  pub stays : Stays n done.1
  pub known : done.1.known ≡ n.known
  pub kind : done.0.bag ≡ bag
  pub fresh : IsFresh (length n.names) done.1 done.0

abbrev pub Gives : Bool → Numbering → Var × Numbering → Type 0
Gives bag n done = done.1.faults ≡ [] → (n.faults ≡ []) × (Sane n → Given bag n done)

few_above : (l : ℕ) → nat_le 1000 l ≡ false → l + 1 ≤ 1000
few_above l h = grind (arith, nat_tests)

all_given : (n : Numbering) → Sane n → All (λ (v : Var). v.number ≤ length n.names) (free_vars n)
all_given n sane = All-map (λ (v : Var). v.number ≤ length n.names) (λ (x : Named). x.var) (n.fixed ++ n.known)
    (All-weaker (NamedFits n) (λ x. x.var.number ≤ length n.names) (λ x f. f.high) (n.fixed ++ n.known) (All-append (NamedFits n) n.fixed n.known sane.fixed sane.known))

new_given : (name : Option (List ℕ)) (bag : Bool) (n : Numbering) → nat_le 1000 (length n.names) ≡ false → Sane n →
    Given bag n (record { number = length n.names + 1; bag = bag }, record n { names = n.names ++ name ∷ [] })
new_given name bag n e sane =
    let long : length (n.names ++ name ∷ []) ≡ length n.names + 1 = length-append n.names (name ∷ []) in
    let more : length n.names ≤ length (n.names ++ name ∷ []) = grown (length n.names) (length (n.names ++ name ∷ [])) long in
    record {
      sane = record {
        named = sane.named;
        few = subst (λ l. l ≤ 1000) (sym long) (few_above (length n.names) e);
        fixed = named_later n (record n { names = n.names ++ name ∷ [] }) more n.fixed sane.fixed;
        known = named_later n (record n { names = n.names ++ name ∷ [] }) more n.known sane.known;
        around = named_later n (record n { names = n.names ++ name ∷ [] }) more n.around sane.around;
        distinct = sane.distinct;
      };
      stays = record {
        extends = record {
          reading = refl;
          fixed = refl;
          names = more;
          known = ([], sym (append-nil n.known), tt);
          closed = λ f. refl;
          faults = ([], sym (append-nil n.faults));
        };
        around = refl;
        flat = refl;
        equations = refl;
      };
      known = refl;
      kind = refl;
      fresh = record {
        new = next (length n.names);
        given = at (length n.names) (length (n.names ++ name ∷ [])) long;
        hidden = above_all (length n.names) (record { number = length n.names + 1; bag = bag }) (free_vars n) (all_given n sane) (next (length n.names));
      };
    }
  where
    grown : (k l : ℕ) → l ≡ k + 1 → k ≤ l
    grown k l h = omega arith

    at : (k l : ℕ) → l ≡ k + 1 → k + 1 ≤ l
    at k l h = omega arith

    next : (k : ℕ) → k < k + 1
    next k = omega arith

pub give_gives : (name : Option (List ℕ)) (at : ℕ) (bag : Bool) (n : Numbering) → Gives bag n (give name at bag n)
give_gives name at bag n = of (is_numbered n.reading) (nat_le 1000 (length n.names)) refl refl
  where
    given : Bool → Bool → Var × Numbering
    given s b = if s then (blame at Shape >> pure (no_var bag)) n
        else (if b then (blame at (TooMany Vars) >> pure (no_var bag)) n else (record { number = length n.names + 1; bag = bag }, record n { names = n.names ++ name ∷ [] }))

    of : (s b : Bool) → is_numbered n.reading ≡ s → nat_le 1000 (length n.names) ≡ b → Gives bag n (given s b)
    of true b h e = λ f. absurd (blamed n.faults _ f)
    of false true h e = λ f. absurd (blamed n.faults _ f)
    of false false h e = λ f. (f, λ sane. new_given name bag n e sane)

-- ---- names

-- a variable of this kind in scope
abbrev pub VarIn : Bool → Result Var
VarIn bag k m v = (v.bag ≡ bag) × IsTrue (scope m v)

some_eq : (u v : Var) → Some u ≡ Some v → u ≡ v
some_eq u v e = ap (λ o. unwrap_or o u) e

module _ (n : Numbering) (name : List ℕ) (v : Var) (Q : Type 0) where
  -- where the last of the name is found, it is listed, and its kind is the name's
  last_from : (ms : List Named) (found : Option Var) → (found ≡ Some v → Q) → All (NamedFits n) ms → (IsTrue (is_in v (vars_of ms)) → v.bag ≡ is_upper name → Q) →
      fold (λ (found : Option Var) (m : Named). if bytes_eq name m.name then Some m.var else found) found ms ≡ Some v → Q
  last_from [] found a all b e = a e
  last_from (m ∷ ms) found a all b e =
      last_from ms (if bytes_eq name m.name then Some m.var else found) (head (bytes_eq name m.name) refl) (All-tail (NamedFits n) m ms all) (λ i k. b (or_right (same v m.var) (is_in v (vars_of ms)) i) k) e
    where
      head : (t : Bool) → bytes_eq name m.name ≡ t → (if t then Some m.var else found) ≡ Some v → Q
      head true f g =
          let is : v ≡ m.var = sym (some_eq m.var v g) in
          b (or_left (same v m.var) (is_in v (vars_of ms)) (subst (λ w. same v w ≡ true) is (same_itself v)))
          (ap (λ (w : Var). w.bag) is ∙ (All-head (NamedFits n) m ms all).kind ∙ ap is_upper (sym ((bytes_eq-Decides name m.name).0 f)))
      head false f g = a g

pub last_is : (n : Numbering) (name : List ℕ) (ms : List Named) (v : Var) → All (NamedFits n) ms → last_named name ms ≡ Some v → (v.bag ≡ is_upper name) × IsTrue (is_in v (vars_of ms))
last_is n name ms v all e = last_from n name v ((v.bag ≡ is_upper name) × IsTrue (is_in v (vars_of ms))) ms None (λ f. absurd cc) all (λ i k. (k, i)) e

abbrev Named_does : Ident → Numbering → Var × Numbering → Type 0
Named_does x n done = Does Stays (VarIn (is_upper x.text)) n done

or_does : (x : Ident) (o : Option Var) (q : Builder Var) (n : Numbering) → ((v : Var) → o ≡ Some v → Sane n → VarIn (is_upper x.text) (length n.names) n v) → Named_does x n (q n) → Named_does x n (or_else o q n)
or_does x (Some v) q n h g = λ e. (e, λ sane. record { sane = sane; moves = stays_itself n; result = h v refl sane })
or_does x None q n h g = g

pub distinct_push : (v : Var) (xs : List Var) → AreDistinct xs → is_in v xs ≡ false → AreDistinct (xs ++ v ∷ [])
distinct_push v [] d e = (refl, tt)
distinct_push v (x ∷ xs) d e =
    let parts = or_parts (same v x) (is_in v xs) e in (
      is_in-append x xs (v ∷ []) ∙ neither (is_in x xs) (same x v || false) d.0 (neither (same x v) false (same_turned x v parts.0) refl),
      distinct_push v xs d.1 parts.1,
    )

-- the variable of a name that was not known becomes free
learned : (x : Ident) (n : Numbering) (done : Var × Numbering) → is_open n.reading ≡ true → Given (is_upper x.text) n done → Kept Stays (VarIn (is_upper x.text)) n (done.0, (learn x done.0 done.1).1)
learned x n done is g =
    let m = done.1 in
    let entry : Named = record { name = x.text; var = done.0 } in
    let free : vars_of (m.fixed ++ (m.known ++ entry ∷ [])) ≡ free_vars m ++ done.0 ∷ [] = ap vars_of (sym (append_assoc m.fixed m.known (entry ∷ []))) ∙ map-append (λ (x : Named). x.var) (m.fixed ++ m.known) (entry ∷ []) in
    let ext = g.stays.extends in
    record {
      sane = record {
        named = g.sane.named;
        few = g.sane.few;
        fixed = named_later m (learn x done.0 m).1 (self (length m.names)) m.fixed g.sane.fixed;
        known = All-push (NamedFits (learn x done.0 m).1) m.known entry (named_later m (learn x done.0 m).1 (self (length m.names)) m.known g.sane.known)
            (record { kind = g.kind; low = low (length n.names) done.0.number g.fresh.new; high = g.fresh.given });
        around = named_later m (learn x done.0 m).1 (self (length m.names)) m.around g.sane.around;
        distinct = subst AreDistinct (sym free) (distinct_push done.0 (free_vars m) g.sane.distinct g.fresh.hidden);
      };
      moves = record {
        extends = record {
          reading = ext.reading;
          fixed = ext.fixed;
          names = ext.names;
          known = (entry ∷ [], ap (λ ms. ms ++ entry ∷ []) g.known, (g.fresh.new, tt));
          closed = λ f. absurd (true≢false (sym is ∙ f));
          faults = ext.faults;
        };
        around = g.stays.around;
        flat = g.stays.flat;
        equations = g.stays.equations;
      };
      result = (
        g.kind,
        or_right (is_in done.0 (vars_of m.around)) (is_in done.0 m.flat || is_in done.0 (free_vars (learn x done.0 m).1))
            (or_right (is_in done.0 m.flat) (is_in done.0 (free_vars (learn x done.0 m).1))
            (subst (λ vs. IsTrue (is_in done.0 vs)) (sym free) (in_right done.0 (free_vars m) (done.0 ∷ []) (or_left (same done.0 done.0) false (same_itself done.0))))),
      );
    }
  where
    self : (k : ℕ) → k ≤ k
    self k = omega arith

    low : (k x : ℕ) → k < x → 1 ≤ x
    low k x less = omega arith

free_does : (x : Ident) (n : Numbering) → Named_does x n (resolve_free x n)
free_does x n = of (takes_new n.reading x.text) refl
  where
    built : Bool → Var × Numbering
    built b = (if b then (give_named x >>= λ v. learn x v >> pure v) else blame_unknown x) n

    of : (b : Bool) → takes_new n.reading x.text ≡ b → Named_does x n (built b)
    of true e = λ f. let was = give_gives (Some x.text) x.at (is_upper x.text) n f in (was.0, λ sane. learned x n (give_named x n) (and_parts (is_open n.reading) _ e).0 (was.1 sane))
    of false e = λ f. absurd (blamed n.faults _ f)

name_does : (x : Ident) (n : Numbering) → Named_does x n (resolve_name x n)
name_does x n =
    or_does x (last_named x.text n.around) (or_else (last_named x.text n.known) (or_else (last_named x.text n.fixed) (resolve_free x))) n
    (λ v e sane. let is = last_is n x.text n.around v sane.around e in (is.0, or_left (is_in v (vars_of n.around)) (is_in v n.flat || is_in v (free_vars n)) is.1))
    (or_does x (last_named x.text n.known) (or_else (last_named x.text n.fixed) (resolve_free x)) n
    (λ v e sane. let is = last_is n x.text n.known v sane.known e in (is.0, outside v (subst (λ vs. IsTrue (is_in v vs)) (sym (map-append (λ (x : Named). x.var) n.fixed n.known)) (in_right v (vars_of n.fixed) (vars_of n.known) is.1))))
    (or_does x (last_named x.text n.fixed) (resolve_free x) n
    (λ v e sane. let is = last_is n x.text n.fixed v sane.fixed e in (is.0, outside v (subst (λ vs. IsTrue (is_in v vs)) (sym (map-append (λ (x : Named). x.var) n.fixed n.known)) (in_left v (vars_of n.fixed) (vars_of n.known) is.1))))
    (free_does x n)))
  where
    outside : (v : Var) → IsTrue (is_in v (free_vars n)) → IsTrue (scope n v)
    outside v h = or_right (is_in v (vars_of n.around)) (is_in v n.flat || is_in v (free_vars n)) (or_right (is_in v n.flat) (is_in v (free_vars n)) h)

numbered_clean : (x : Ident) (o : Option Var) (n : Numbering) → (or_else o (blame_unknown x) n).1.faults ≡ [] → n.faults ≡ []
numbered_clean x (Some v) n e = e
numbered_clean x None n e = absurd (blamed n.faults _ e)

-- a name gives a variable of its kind
pub resolve_does : (x : Ident) → Keeps Stays (VarIn (is_upper x.text)) (resolve x)
unfolding resolve
resolve_does x n = of (is_numbered n.reading) refl
  where
    built : Bool → Var × Numbering
    built b = (if b then resolve_numbered x else resolve_name x) n

    of : (b : Bool) → is_numbered n.reading ≡ b → Named_does x n (built b)
    of true e = λ f. (numbered_clean x (numbered_var x.text) n f, λ sane. absurd (true≢false (sym e ∙ sane.named)))
    of false e = name_does x n

-- ---- binders

-- a new variable is around besides
pub record Bound (x : Ident) (n : Numbering) (done : Var × Numbering) : Type 0 where
  pub sane : Sane done.1
  pub extends : Extends n done.1
  pub around : done.1.around ≡ n.around ++ record { name = x.text; var = done.0 } ∷ []
  pub flat : done.1.flat ≡ n.flat
  pub equations : done.1.equations ≡ n.equations
  pub kind : done.0.bag ≡ is_upper x.text
  pub fresh : IsFresh (length n.names) done.1 done.0

abbrev pub Binds_does : Ident → Numbering → Var × Numbering → Type 0
Binds_does x n done = done.1.faults ≡ [] → (n.faults ≡ []) × (Sane n → Bound x n done)

-- a binder of a new variable may be around
pub entered : (x : Ident) (v : Var) (m : Numbering) (k : ℕ) → Sane m → v.bag ≡ is_upper x.text → IsFresh k m v → Sane (enter x v m).1
entered x v m k sane kind fresh = record {
  named = sane.named;
  few = sane.few;
  fixed = named_later m (enter x v m).1 (self (length m.names)) m.fixed sane.fixed;
  known = named_later m (enter x v m).1 (self (length m.names)) m.known sane.known;
  around = All-push (NamedFits (enter x v m).1) m.around (record { name = x.text; var = v }) (named_later m (enter x v m).1 (self (length m.names)) m.around sane.around)
      (record { kind = kind; low = low k v.number fresh.new; high = fresh.given });
  distinct = sane.distinct;
}
  where
    self : (k : ℕ) → k ≤ k
    self k = omega arith

    low : (k x : ℕ) → k < x → 1 ≤ x
    low k x less = omega arith

-- nothing but the binders around differs
pub extends_aside : (n m l : Numbering) → m.reading ≡ l.reading → m.fixed ≡ l.fixed → m.known ≡ l.known → m.names ≡ l.names → m.faults ≡ l.faults → Extends n m → Extends n l
extends_aside n m l reading fixed known names faults g = record {
  reading = sym reading ∙ g.reading;
  fixed = sym fixed ∙ g.fixed;
  names = subst (λ ns. length n.names ≤ length ns) names g.names;
  known = (g.known.0, sym known ∙ g.known.1, g.known.2);
  closed = λ e. sym known ∙ g.closed e;
  faults = (g.faults.0, sym faults ∙ g.faults.1);
}

bound_given : (x : Ident) (n : Numbering) (done : Var × Numbering) → Given (is_upper x.text) n done → Bound x n (done.0, (enter x done.0 done.1).1)
bound_given x n done g = record {
  sane = entered x done.0 done.1 (length n.names) g.sane g.kind g.fresh;
  extends = extends_aside n done.1 (enter x done.0 done.1).1 refl refl refl refl refl g.stays.extends;
  around = ap (λ ms. ms ++ record { name = x.text; var = done.0 } ∷ []) g.stays.around;
  flat = g.stays.flat;
  equations = g.stays.equations;
  kind = g.kind;
  fresh = record { new = g.fresh.new; given = g.fresh.given; hidden = g.fresh.hidden };
}

twice_clean : (x : Ident) (b : Bool) (n : Numbering) → (blame_twice x b n).1.faults ≡ [] → n.faults ≡ []
twice_clean x true n e = absurd (blamed n.faults _ e)
twice_clean x false n e = e

read_clean : (x : Ident) (o : Option Var) (n : Numbering) → (bind_read x o n).1.faults ≡ [] → n.faults ≡ []
read_clean x None n e = absurd (blamed n.faults _ e)
read_clean x (Some v) n e = twice_clean x (has_number v.number n.around) n e

bind_name_does : (x : Ident) (n : Numbering) → Binds_does x n (bind_name x n)
bind_name_does x n = of (is_taken x.text n)
  where
    built : Bool → Var × Numbering
    built b = (blame_twice x b >>= λ _. give_named x >>= λ v. enter x v >> pure v) n

    of : (b : Bool) → Binds_does x n (built b)
    of true f = absurd (blamed n.faults _ (give_gives (Some x.text) x.at (is_upper x.text) (blame_twice x true n).1 f).0)
    of false f = let was = give_gives (Some x.text) x.at (is_upper x.text) n f in (was.0, λ sane. bound_given x n (give_named x n) (was.1 sane))

pub bind_does : (x : Ident) (n : Numbering) → Binds_does x n (bind x n)
unfolding bind
bind_does x n = of (is_numbered n.reading) refl
  where
    built : Bool → Var × Numbering
    built b = (if b then bind_numbered x else bind_name x) n

    of : (b : Bool) → is_numbered n.reading ≡ b → Binds_does x n (built b)
    of true e = λ f. (read_clean x (numbered_var x.text) n f, λ sane. absurd (true≢false (sym e ∙ sane.named)))
    of false e = bind_name_does x n

-- the innermost binder goes
pub all_but_last : (ms : List Named) (x : Named) → take (length (ms ++ x ∷ []) - 1) (ms ++ x ∷ []) ≡ ms
all_but_last ms x = ap (λ k. take k (ms ++ x ∷ [])) (one_less (length ms) (length (ms ++ x ∷ [])) (length-append ms (x ∷ []))) ∙ take-append-le (length ms) ms (x ∷ []) (self (length ms)) ∙ whole ms
  where
    one_less : (k l : ℕ) → l ≡ k + 1 → l - 1 ≡ k
    one_less k l e = omega arith

    self : (k : ℕ) → k ≤ k
    self k = omega arith

    whole : (ms : List Named) → take (length ms) ms ≡ ms
    whole [] = refl
    whole (m ∷ ms) = ap (λ ns. m ∷ ns) (whole ms)

pub left_sane : (m : Numbering) → Sane m → Sane (leave m).1
unfolding leave
left_sane m sane = record {
  named = sane.named;
  few = sane.few;
  fixed = named_later m (leave m).1 (self (length m.names)) m.fixed sane.fixed;
  known = named_later m (leave m).1 (self (length m.names)) m.known sane.known;
  around = named_later m (leave m).1 (self (length m.names)) (take (length m.around - 1) m.around) (All-take (NamedFits m) (length m.around - 1) m.around sane.around);
  distinct = sane.distinct;
}
  where
    self : (k : ℕ) → k ≤ k
    self k = omega arith
