-- Names that are fixed one after another have the numbers from 1 on.
use Rattle.std.proofs.Common.{◌≡◌, ℕ, suc, ◌+◌, ◌<◌, ◌≤◌, Bool, true, false, nat_le, List, [], ◌∷◌, ◌++◌, length, Option, Some, if◌then◌else◌, append_assoc, append-nil, refl, sym, ap, ◌∙◌, subst, arith}
use Rattle.std.specs.List.{All, AllByRecursion, fold}
use Rattle.std.proofs.lemmas.Bool.Decides.{nat_tests}
use Rattle.std.proofs.lemmas.List.{length-append, map-append}
use Rattle.std.proofs.lemmas.List.Elements.{All-from_recursion, All-nil}
use Rattle.hs_tree.specs.declared.ident.Ident.{Ident}
use Rattle.hs_pure.specs.declared.var.Var.{Var}
use Rattle.hs_heap.specs.Sound.{AreDistinct, AreNumberedFrom, IsNumbered}
use Rattle.hs_numbering.specs.declared.fault.Fault.{Fault}
use Rattle.hs_numbering.specs.declared.fault.Problem.TheVariants.{TooMany, Shape}
use Rattle.hs_numbering.specs.declared.fault.Limit.TheVariants.{Vars}
use Rattle.hs_numbering.specs.declared.numbering.Named.{Named}
use Rattle.hs_numbering.specs.declared.numbering.Reading.{Reading}
use Rattle.hs_numbering.specs.declared.numbering.Numbering.{Numbering}
use Rattle.hs_numbering.specs.Names.{is_upper}
use Rattle.hs_numbering.specs.Numbering.{Builder, ◌>>◌, pure, blame, no_var, give, fix, start, is_numbered}
use Rattle.hs_formula_fits.specs.Fits.{vars_of, free_vars, NamedFits, IsSettled}
use Rattle.hs_formula_fits.proofs.State.{below_all}
use Rattle.hs_norm_sound.proofs.Passing.{KeepsFaults, not_pushed, joined}

-- ---- a number that is given

-- the next number of this name and kind
abbrev pub new_var : Numbering → Bool → Var
new_var n bag = record { number = length n.names + 1; bag = bag }

abbrev pub with_name : Numbering → Option (List ℕ) → Numbering
with_name n name = record n { names = n.names ++ name ∷ [] }

pub record Given (name : Option (List ℕ)) (bag : Bool) (n : Numbering) (out : Var × Numbering) : Type 0 where
  pub room : length n.names < 1000
  pub is : out ≡ (new_var n bag, with_name n name)

room_of : (k : ℕ) → nat_le 1000 k ≡ false → k < 1000
room_of k h = grind (arith, nat_tests)

pub give_is : (name : Option (List ℕ)) (at : ℕ) (bag : Bool) (n : Numbering) → (give name at bag n).1.faults ≡ [] → Given name bag n (give name at bag n)
give_is name at bag n e = go (is_numbered n.reading) (nat_le 1000 (length n.names)) refl e
  where
    given : Bool → Bool → Var × Numbering
    given s b = if s then (blame at Shape >> pure (no_var bag)) n
        else (if b then (blame at (TooMany Vars) >> pure (no_var bag)) n else (record { number = length n.names + 1; bag = bag }, record n { names = n.names ++ name ∷ [] }))

    go : (s b : Bool) → nat_le 1000 (length n.names) ≡ b → (given s b).1.faults ≡ [] → Given name bag n (given s b)
    go true b h e = absurd (not_pushed n.faults (record { at = at; problem = Shape }) e)
    go false true h e = absurd (not_pushed n.faults (record { at = at; problem = TooMany Vars }) e)
    go false false h e = record { room = room_of (length n.names) h; is = refl }

abbrev pub with_fixed : Ident → Var × Numbering → Var × Numbering
with_fixed x out = (out.0, record out.1 { fixed = out.1.fixed ++ record { name = x.text; var = out.0 } ∷ [] })

pub fix_is : (x : Ident) (n : Numbering) → (fix x n).1.faults ≡ [] → (length n.names < 1000) × (fix x n ≡ with_fixed x (new_var n (is_upper x.text), with_name n (Some x.text)))
fix_is x n e = let g = give_is (Some x.text) x.at (is_upper x.text) n e in (g.room, ap (with_fixed x) g.is)

-- ---- lists of variables

pub follow_push : (k : ℕ) (vs : List Var) (v : Var) → AreNumberedFrom k vs → v.number ≡ k + length vs → AreNumberedFrom k (vs ++ v ∷ [])
follow_push k [] v h e = (omega arith, tt)
follow_push k (w ∷ vs) v h e = (h.0, follow_push (suc k) vs v h.1 (omega arith))

-- the numbers lie from k on, and below k + length
within : (k : ℕ) (vs : List Var) → AreNumberedFrom k vs → AllByRecursion (λ v. (k ≤ v.number) × (v.number < k + length vs)) vs
within k [] h = tt
within k (v ∷ vs) h = ((le h.0, less h.0), wider vs (within (suc k) vs h.1))
  where
    le : v.number ≡ k → k ≤ v.number
    le e = omega arith

    less : v.number ≡ k → v.number < k + suc (length vs)
    less e = omega arith

    bounds : (m n l : ℕ) → suc m ≤ n → n < suc m + l → (m ≤ n) × (n < m + suc l)
    bounds m n l h g = (omega arith, omega arith)

    wider : (ws : List Var) → AllByRecursion (λ w. (suc k ≤ w.number) × (w.number < suc k + length vs)) ws → AllByRecursion (λ w. (k ≤ w.number) × (w.number < k + suc (length vs))) ws
    wider [] h = tt
    wider (w ∷ ws) h = (bounds k w.number (length vs) h.0.0 h.0.1, wider ws h.1)

pub follow_distinct : (k : ℕ) (vs : List Var) → AreNumberedFrom k vs → AreDistinct vs
follow_distinct k [] h = tt
follow_distinct k (v ∷ vs) h = (below_all k v vs (All-from_recursion (λ w. k < w.number) vs (above vs (within (suc k) vs h.1))) (low h.0), follow_distinct (suc k) vs h.1)
  where
    low : v.number ≡ k → v.number ≤ k
    low e = omega arith

    above : (ws : List Var) → AllByRecursion (λ w. (suc k ≤ w.number) × (w.number < suc k + length vs)) ws → AllByRecursion (λ w. k < w.number) ws
    above [] h = tt
    above (w ∷ ws) h = (h.0.0, above ws h.1)

pub follow_numbered : (vs : List Var) (next : ℕ) → AreNumberedFrom 1 vs → length vs < next → AllByRecursion (IsNumbered next) vs
follow_numbered vs next h lt = go vs (within 1 vs h)
  where
    below : (m : ℕ) → m < 1 + length vs → m < next
    below m g = omega arith

    go : (ws : List Var) → AllByRecursion (λ w. (1 ≤ w.number) × (w.number < 1 + length vs)) ws → AllByRecursion (IsNumbered next) ws
    go [] h = tt
    go (w ∷ ws) h = ((h.0.0, below w.number h.0.1), go ws h.1)

-- ---- names that are fixed

-- only these are fixed, by their numbers, and nothing else was met
pub record Fixing (reading : Reading) (n : Numbering) (vs : List Var) : Type 0 where
  pub read : n.reading ≡ reading
  pub few : length n.names ≤ 1000
  pub names : length n.names ≡ length vs
  pub fixed : vars_of n.fixed ≡ vs
  pub follow : AreNumberedFrom 1 vs
  pub kinds : AllByRecursion (λ (m : Named). m.var.bag ≡ is_upper m.name) n.fixed
  pub known : n.known ≡ []
  pub around : n.around ≡ []
  pub flat : n.flat ≡ []
  pub equations : n.equations ≡ []

pub fixing_start : (reading : Reading) (faults : List Fault) → Fixing reading (start reading faults) []
fixing_start reading faults = record {
  read = refl;
  few = none;
  names = refl;
  fixed = refl;
  follow = tt;
  kinds = tt;
  known = refl;
  around = refl;
  flat = refl;
  equations = refl;
}
  where
    none : 0 ≤ 1000
    none = omega arith

-- a variable that is the next is fixed for a name of its kind
pub fixing_one : (reading : Reading) (x : Ident) (n : Numbering) (vs : List Var) (bag : Bool) → bag ≡ is_upper x.text → length n.names < 1000 → Fixing reading n vs →
    Fixing reading (with_fixed x (new_var n bag, with_name n (Some x.text))).1 (vs ++ new_var n bag ∷ [])
fixing_one reading x n vs bag kind room f = record {
  read = f.read;
  few = let long = length-append n.names (Some x.text ∷ []) in omega arith;
  names = length-append n.names (Some x.text ∷ []) ∙ ap (λ k. k + 1) f.names ∙ sym (length-append vs (new_var n bag ∷ []));
  fixed = map-append (λ (m : Named). m.var) n.fixed (record { name = x.text; var = new_var n bag } ∷ []) ∙ ap (λ ws. ws ++ new_var n bag ∷ []) f.fixed;
  follow = follow_push 1 vs (new_var n bag) f.follow (count (length n.names) (length vs) f.names);
  kinds = joined (λ (m : Named). m.var.bag ≡ is_upper m.name) n.fixed (record { name = x.text; var = new_var n bag } ∷ []) f.kinds (kind, tt);
  known = f.known;
  around = f.around;
  flat = f.flat;
  equations = f.equations;
}
  where
    count : (m n : ℕ) → m ≡ n → m + 1 ≡ 1 + n
    count m n e = omega arith

pub fixing_fix : (reading : Reading) (x : Ident) (n : Numbering) (vs : List Var) → Fixing reading n vs → (fix x n).1.faults ≡ [] → Fixing reading (fix x n).1 (vs ++ (fix x n).0 ∷ [])
fixing_fix reading x n vs f e = let g = fix_is x n e in
    subst (λ (out : Var × Numbering). Fixing reading out.1 (vs ++ out.0 ∷ [])) (sym g.1) (fixing_one reading x n vs (is_upper x.text) refl g.0 f)

-- each name of a list is fixed
module _ {A : Type 0} (reading : Reading) (f : ℕ → A → Builder Var) (keeps : (k : ℕ) (x : A) → KeepsFaults (f k x))
    (holds : (k : ℕ) (x : A) (n : Numbering) (vs : List Var) → Fixing reading n vs → (f k x n).1.faults ≡ [] → Fixing reading (f k x n).1 (vs ++ (f k x n).0 ∷ [])) where
  abbrev step : List Var × Numbering → A → List Var × Numbering
  step done x = (done.0 ++ (f (length done.0) x done.1).0 ∷ [], (f (length done.0) x done.1).1)

  clear_from : (xs : List A) (ys : List Var) (n : Numbering) → (fold step (ys, n) xs).1.faults ≡ [] → n.faults ≡ []
  clear_from [] ys n e = e
  clear_from (x ∷ xs) ys n e = keeps (length ys) x n (clear_from xs (ys ++ (f (length ys) x n).0 ∷ []) (f (length ys) x n).1 e)

  pub fixing_all : (us : List Var) (xs : List A) (ys : List Var) (n : Numbering) → Fixing reading n (us ++ ys) → (fold step (ys, n) xs).1.faults ≡ [] → Fixing reading (fold step (ys, n) xs).1 (us ++ (fold step (ys, n) xs).0)
  fixing_all us [] ys n h e = h
  fixing_all us (x ∷ xs) ys n h e =
      let clear = clear_from xs (ys ++ (f (length ys) x n).0 ∷ []) (f (length ys) x n).1 e in
      let here = holds (length ys) x n (us ++ ys) h clear in
      fixing_all us xs (ys ++ (f (length ys) x n).0 ∷ []) (f (length ys) x n).1 (subst (Fixing reading (f (length ys) x n).1) (append_assoc us ys ((f (length ys) x n).0 ∷ [])) here) e

-- ---- settled

pub named_fit : (n : Numbering) (ms : List Named) → AllByRecursion (λ (v : Var). (1 ≤ v.number) × (v.number ≤ length n.names)) (vars_of ms) → AllByRecursion (λ (m : Named). m.var.bag ≡ is_upper m.name) ms →
    AllByRecursion (NamedFits n) ms
named_fit n [] h k = tt
named_fit n (m ∷ ms) h k = (record { kind = k.0; low = h.0.0; high = h.0.1 }, named_fit n ms h.1 k.1)

-- also where numbers above those of the fixed names are given
pub settled_of : (reading : Reading) (n : Numbering) (vs : List Var) (most : ℕ) → is_numbered reading ≡ false → Fixing reading n vs → length n.names ≤ most → (names : List (Option (List ℕ))) → length names ≡ most → most ≤ 1000 →
    IsSettled (record n { names = names })
settled_of reading n vs most named f le names long few = record {
  named = ap is_numbered f.read ∙ named;
  few = subst (λ k. k ≤ 1000) (sym long) few;
  fixed = All-from_recursion (NamedFits (record n { names = names })) n.fixed (named_fit (record n { names = names }) n.fixed (subst (AllByRecursion (λ (v : Var). (1 ≤ v.number) × (v.number ≤ length names))) (sym f.fixed) (go vs (within 1 vs f.follow))) f.kinds);
  known = subst (All (NamedFits (record n { names = names }))) (sym f.known) (All-nil (NamedFits (record n { names = names })));
  distinct = subst AreDistinct (sym (free_are n vs f.fixed f.known)) (follow_distinct 1 vs f.follow);
  around = f.around;
  flat = f.flat;
  equations = f.equations;
}
  where
    bound : (m : ℕ) → m < 1 + length vs → m ≤ length names
    bound m h = let same = f.names in omega arith

    go : (ws : List Var) → AllByRecursion (λ w. (1 ≤ w.number) × (w.number < 1 + length vs)) ws → AllByRecursion (λ (v : Var). (1 ≤ v.number) × (v.number ≤ length names)) ws
    go [] h = tt
    go (w ∷ ws) h = ((h.0.0, bound w.number h.0.1), go ws h.1)

    free_are : (n : Numbering) (vs : List Var) → vars_of n.fixed ≡ vs → n.known ≡ [] → free_vars n ≡ vs
    free_are n vs f k = (λ i. vars_of (n.fixed ++ k i)) ∙ ap vars_of (append-nil n.fixed) ∙ f

pub free_fixed : (reading : Reading) (n : Numbering) (vs : List Var) → Fixing reading n vs → free_vars n ≡ vs
free_fixed reading n vs f = (λ i. vars_of (n.fixed ++ f.known i)) ∙ ap vars_of (append-nil n.fixed) ∙ f.fixed
