-- Disjuncts are well formed, and what they bind is new.
use Rattle.std.proofs.Common.{◌≡◌, ℕ, suc, ◌+◌, ◌-◌, ◌<◌, ◌≤◌, min, Bool, true, false, not, ◌||◌, IsTrue, List, [], ◌∷◌, ◌++◌, length, get_or, map, take, refl, sym, ap, ◌∙◌, subst, arith, append_assoc, append-nil, length-append, length-take, take-take, le_refl, true≢false}
use Rattle.std.specs.List.{All, flat_map, list_any}
use Rattle.std.proofs.Math.Seq.{take-append_seam, take-length}
use Rattle.std.proofs.lemmas.Bool.{and_parts}
use Rattle.std.proofs.lemmas.List.Elements.{All-nil, All-cons, All-append, All-weaker}
use Rattle.hs_tree.specs.declared.ident.Ident.{Ident}
use Rattle.hs_tree.specs.declared.formula.AtomTree.{AtomTree}
use Rattle.hs_tree.specs.declared.formula.DisjunctTree.{DisjunctTree}
use Rattle.hs_pure.specs.declared.var.Var.{Var}
use Rattle.hs_pure.specs.declared.pure.Pure.{Pure}
use Rattle.hs_pure.specs.Occurs.{is_free, occurs}
use Rattle.hs_pure.proofs.Vars.{or_left}
use Rattle.hs_heap.specs.declared.formula.Atom.{Atom}
use Rattle.hs_heap.specs.declared.formula.Disjunct.{Disjunct}
use Rattle.hs_heap.specs.declared.definitions.Defs.{Defs}
use Rattle.hs_heap.specs.Meaning.{is_in}
use Rattle.hs_heap.specs.Sound.{IsNumbered, AreDistinct, DisjunctFits, IsShort}
use Rattle.hs_heap.specs.Variables.{in_atom}
use Rattle.hs_heap.proofs.Lists.{any_forth, listed_forth}
use Rattle.hs_heap.proofs.Tells.{either_all}
use Rattle.hs_numbering.specs.declared.fault.Limit.TheVariants.{Atoms, Cases}
use Rattle.hs_numbering.specs.declared.numbering.Named.{Named}
use Rattle.hs_numbering.specs.declared.numbering.Numbering.{Numbering}
use Rattle.hs_numbering.specs.Numbering.{each, each_counted, bind, leave, leave_all, next}
use Rattle.hs_norm_formula.specs.declared.table.Entry.{Entry}
use Rattle.hs_norm_formula.specs.Item.{item, all_of}
use Rattle.hs_norm_formula.specs.Splice.{conjuncts}
use Rattle.hs_norm_formula.specs.Formula.{atom, counted_atom, disjunct, counted_case, formula}
use Rattle.hs_formula_fits.specs.Fits.{vars_of, free_vars, IsSettled, Extends, EntriesFit, DisjunctIsNew}
use Rattle.hs_formula_fits.specs.Laws.{CaseFits, DisjunctsFit, FormulasFit}
use Rattle.hs_formula_fits.proofs.State.{is_in-append, or_assoc, below_all, distinct_append, in_free, extends_itself, extends_later, named_later, IsFresh, fresh_later, all_fresh_later}
use Rattle.hs_formula_fits.proofs.Formed.{Within, top, formed_wider}
use Rattle.hs_formula_fits.proofs.Keeps.{scope, Sane, Stays, scope_later, either_wider, Order, Result, Kept, in_turn, each-is}
use Rattle.hs_formula_fits.proofs.Names.{Bound, bind_does, extends_aside}
use Rattle.hs_formula_fits.proofs.Items.{FormedAt, all_of_do}
use Rattle.hs_formula_fits.proofs.Settled.{settled_sane, next_is, free_numbered, PureTells, pure_tells}
use Rattle.hs_formula_fits.proofs.Counted.{Taken, Takes, Early, limited, Listed, counted_takes}
use Rattle.hs_formula_fits.proofs.Spliced.{Conjunct, spliced_formed}
use Rattle.hs_formula_fits.proofs.Arguments.{ConjunctAt, Grows, scope_grows, grows, AtomIn, AtomAt, atom_wider, atom_does}

-- ---- its own binders

-- new variables are around besides
record Opened (names : List Ident) (n : Numbering) (done : List Var × Numbering) : Type 0 where
  pub sane : Sane done.1
  pub extends : Extends n done.1
  pub more : List Named
  pub around : done.1.around ≡ n.around ++ more
  pub vars : vars_of more ≡ done.0
  pub count : length more ≡ length names
  pub flat : done.1.flat ≡ n.flat
  pub equations : done.1.equations ≡ n.equations
  pub fresh : All (IsFresh (length n.names) done.1) done.0
  pub distinct : AreDistinct done.0

abbrev Opens : List Ident → Numbering → List Var × Numbering → Type 0
Opens names n done = done.1.faults ≡ [] → (n.faults ≡ []) × (Sane n → Opened names n done)

opened : (names : List Ident) (n : Numbering) → Opens names n (in_turn bind names n)
opened [] n = λ e. (
  e,
  λ sane. record {
    sane = sane;
    extends = extends_itself n;
    more = [];
    around = sym (append-nil n.around);
    vars = refl;
    count = refl;
    flat = refl;
    equations = refl;
    fresh = All-nil _;
    distinct = tt;
  },
)
opened (x ∷ names) n = λ e.
    let later = opened names (bind x n).1 e in
    let first = bind_does x n later.0 in
    (first.0, λ sane. of (first.1 sane) later.1)
  where
    of : Bound x n (bind x n) → (Sane (bind x n).1 → Opened names (bind x n).1 (in_turn bind names (bind x n).1)) → Opened (x ∷ names) n (in_turn bind (x ∷ names) n)
    of a g =
        let v = (bind x n).0 in
        let m = (bind x n).1 in
        let vs = (in_turn bind names m).0 in
        let l = (in_turn bind names m).1 in
        let entry : Named = record { name = x.text; var = v } in
        let b = g a.sane in
        record {
          sane = b.sane;
          extends = extends_later n m l a.sane.known a.extends b.extends;
          more = entry ∷ b.more;
          around = b.around ∙ ap (λ ms. ms ++ b.more) a.around ∙ append_assoc n.around (entry ∷ []) b.more;
          vars = ap (λ us. v ∷ us) b.vars;
          count = ap suc b.count;
          flat = b.flat ∙ a.flat;
          equations = b.equations ∙ a.equations;
          fresh = All-cons (IsFresh (length n.names) l) v vs (fresh_later (length n.names) (length n.names) m l v (le_refl (length n.names)) b.extends a.fresh)
              (all_fresh_later (length n.names) (length m.names) l l vs a.extends.names (extends_itself l) b.fresh);
          distinct = (below_all (length m.names) v vs (All-weaker (IsFresh (length m.names) l) (λ w. length m.names < w.number) (λ w f. f.new) vs b.fresh) a.fresh.given, b.distinct);
        }

-- as many binders go as were entered
less_by_one : (ms : List Named) (k : ℕ) → take (length (take (length ms - 1) ms) - k) (take (length ms - 1) ms) ≡ take (length ms - suc k) ms
less_by_one ms k =
    ap (λ l. take (l - k) (take (length ms - 1) ms)) (length-take (length ms - 1) ms)
    ∙ take-take (min (length ms - 1) (length ms) - k) (length ms - 1) ms (low (length ms) k) ∙ ap (λ j. take j ms) (of (length ms) k)
  where
    low : (l k : ℕ) → min (l - 1) l - k ≤ l - 1
    low l k = omega arith

    of : (l k : ℕ) → min (l - 1) l - k ≡ l - suc k
    of l k = omega arith

left_is : (names : List Ident) (m : Numbering) → (leave_all names m).1 ≡ record m { around = take (length m.around - length names) m.around }
unfolding leave
left_is [] m = λ i. record m { around = sym (ap (λ k. take k m.around) (none (length m.around)) ∙ take-length m.around) i }
  where
    none : (k : ℕ) → k - 0 ≡ k
    none k = omega arith
left_is (x ∷ names) m = left_is names (leave m).1 ∙ (λ i. record m { around = less_by_one m.around (length names) i })

left_all : (names : List Ident) (m : Numbering) (outside more : List Named) → m.around ≡ outside ++ more → length more ≡ length names → (leave_all names m).1 ≡ record m { around = outside }
left_all names m outside more is count = left_is names m ∙ (λ i. record m { around = whole i })
  where
    fewer : (l k j n : ℕ) → l ≡ k + j → j ≡ n → l - n ≡ k
    fewer l k j n e f = omega arith

    whole : take (length m.around - length names) m.around ≡ outside
    whole = ap (λ ms. take (length ms - length names) ms) is
        ∙ ap (λ k. take k (outside ++ more)) (fewer (length (outside ++ more)) (length outside) (length more) (length names) (length-append outside more) count) ∙ take-append_seam outside more

-- ---- disjuncts

-- what is in scope in a disjunct
abbrev pub inner : Numbering → Disjunct → Var → Bool
inner m d v = is_in v d.bound || is_in v (free_vars m)

-- what is true of a disjunct that was read, also later
pub record CaseAt (defs : Defs) (k : ℕ) (m : Numbering) (d : Disjunct) : Type 0 where
  pub distinct : AreDistinct d.bound
  pub fresh : All (IsFresh k m) d.bound
  pub atoms : All (AtomIn defs (inner m d)) d.atoms
  pub pure : All (Conjunct false k m (inner m d)) d.pure
  pub short : IsShort d

pub case_carry : (defs : Defs) (j k : ℕ) (n m : Numbering) (d : Disjunct) → j ≤ k → Extends n m → CaseAt defs k n d → CaseAt defs j m d
case_carry defs j k n m d le g c =
    let within : Within (inner n d) (inner m d) = λ v. either_wider (is_in v d.bound) (is_in v (free_vars n)) (is_in v d.bound) (is_in v (free_vars m)) (λ h. h) (in_free n m g v) in
    record {
      distinct = c.distinct;
      fresh = all_fresh_later j k n m d.bound le g c.fresh;
      atoms = All-weaker (AtomIn defs (inner n d)) (AtomIn defs (inner m d)) (λ a h. atom_wider defs (inner n d) (inner m d) a within h) d.atoms c.atoms;
      pure = All-weaker (Conjunct false k n (inner n d)) (Conjunct false j m (inner m d)) (λ p h. (formed_wider false j k n m (inner n d) (inner m d) p le g within h.0, h.1)) d.pure c.pure;
      short = c.short;
    }

-- after its binders are left and what it binds besides is taken
abbrev built : List Var → List Atom → List Pure → Numbering → Disjunct × Numbering
built bound atoms written l = (record { bound = bound ++ l.flat; atoms = atoms; pure = l.equations ++ written }, record l { flat = []; equations = [] })

module _ (defs : Defs) (entries : List Entry) (fit : EntriesFit defs entries) where
  counted_atom_takes : (k : ℕ) (t : AtomTree) (n : Numbering) → Takes Sane Grows (Early 64 k (AtomAt defs)) n (counted_atom entries k t n)
  counted_atom_takes k t = limited Sane (λ n sane. sane.named) Grows (AtomAt defs) 64 Atoms t.root.at k (atom entries t) (λ n e. let was = atom_does defs entries fit t n e in (was.0, λ sane. taken n (was.1 sane)))
    where
      taken : (n : Numbering) → Kept Grows (AtomAt defs) n (atom entries t n) → Taken Sane Grows (AtomAt defs) n (atom entries t n)
      taken n a = record { sane = a.sane; moves = a.moves; result = a.result }

  abbrev Atoms_at : ℕ → Result (List Atom)
  Atoms_at count = Listed (counted_atom entries) Sane (λ n s. s.known) grows (AtomAt defs) 64 (λ j k n m a le g. atom_wider defs (scope n) (scope m) a (scope_grows n m g)) counted_atom_takes 0 count

  atoms_take : (ts : List AtomTree) (n : Numbering) → Takes Sane Grows (Atoms_at (length ts)) n (each_counted (counted_atom entries) ts n)
  atoms_take = counted_takes (counted_atom entries) Sane (λ n s. s.known) grows (AtomAt defs) 64 (λ j k n m a le g. atom_wider defs (scope n) (scope m) a (scope_grows n m g)) counted_atom_takes

  module _ (d : DisjunctTree) (n : Numbering) where
    abbrev first : List Var × Numbering
    first = each bind d.bound n

    abbrev second : List Atom × Numbering
    second = each_counted (counted_atom entries) d.atoms first.1

    abbrev third : List Pure × Numbering
    third = all_of false (map item d.items) second.1

    module _ (s : IsSettled n) (o : Opened d.bound n first) (a : Taken Sane Grows (Atoms_at (length d.atoms)) first.1 second) (w : Kept Stays (λ k m ps. All (FormedAt false k m) ps) second.1 third) where
      abbrev last : Numbering
      last = record third.1 { around = []; flat = []; equations = [] }

      abbrev case : Disjunct
      case = record { bound = first.0 ++ third.1.flat; atoms = second.0; pure = third.1.equations ++ flat_map conjuncts third.0 }

      around_is : third.1.around ≡ o.more
      around_is = w.moves.around ∙ a.moves.around ∙ o.around ∙ ap (λ ms. ms ++ o.more) s.around

      flat_is : third.1.flat ≡ a.moves.new_flat
      flat_is = w.moves.flat ∙ a.moves.flat ∙ ap (λ vs. vs ++ a.moves.new_flat) (o.flat ∙ s.flat)

      equations_is : third.1.equations ≡ a.moves.new_equations
      equations_is = w.moves.equations ∙ a.moves.equations ∙ ap (λ ps. ps ++ a.moves.new_equations) (o.equations ∙ s.equations)

      to_last : (m : Numbering) → Extends m third.1 → Extends m last
      to_last m = extends_aside m third.1 last refl refl refl refl refl

      from_second : Extends second.1 last
      from_second = to_last second.1 w.moves.extends

      from_first : Extends first.1 last
      from_first = to_last first.1 (extends_later first.1 second.1 third.1 a.sane.known a.moves.extends w.moves.extends)

      within : Within (scope third.1) (inner last case)
      within v h =
          subst (λ b. IsTrue (b || is_in v (free_vars third.1))) (sym (is_in-append v first.0 third.1.flat))
          (subst IsTrue (or_assoc (is_in v first.0) (is_in v third.1.flat) (is_in v (free_vars third.1)))
          (subst (λ vs. IsTrue (is_in v vs || (is_in v third.1.flat || is_in v (free_vars third.1)))) (ap vars_of around_is ∙ o.vars) h))

      within_second : Within (scope second.1) (inner last case)
      within_second v h = within v (scope_later second.1 third.1 w.moves v h)

      bound_fresh : All (IsFresh (length n.names) last) (first.0 ++ third.1.flat)
      bound_fresh = subst (λ vs. All (IsFresh (length n.names) last) (first.0 ++ vs)) (sym flat_is)
          (All-append (IsFresh (length n.names) last) first.0 a.moves.new_flat (all_fresh_later (length n.names) (length n.names) first.1 last first.0 (le_refl (length n.names)) from_first o.fresh)
          (all_fresh_later (length n.names) (length first.1.names) second.1 last a.moves.new_flat o.extends.names from_second a.moves.fresh))

      bound_distinct : AreDistinct (first.0 ++ third.1.flat)
      bound_distinct = subst (λ vs. AreDistinct (first.0 ++ vs)) (sym flat_is)
          (distinct_append (length first.1.names) first.0 a.moves.new_flat o.distinct a.moves.distinct
          (All-weaker (IsFresh (length n.names) first.1) (λ v. v.number ≤ length first.1.names) (λ v f. f.given) first.0 o.fresh)
          (All-weaker (IsFresh (length first.1.names) second.1) (λ v. length first.1.names < v.number) (λ v f. f.new) a.moves.new_flat a.moves.fresh))

      abbrev Fits : Pure → Type 0
      Fits = Conjunct false (length n.names) last (inner last case)

      all_pure : All Fits (third.1.equations ++ flat_map conjuncts third.0)
      all_pure = All-append Fits third.1.equations (flat_map conjuncts third.0)
          (subst (All Fits) (sym equations_is)
          (All-weaker (ConjunctAt (length first.1.names) second.1) Fits (λ p c. (formed_wider false (length n.names) (length first.1.names) second.1 last (scope second.1) (inner last case) p o.extends.names from_second within_second c.0, c.1)) a.moves.new_equations a.moves.formed))
          (All-weaker (Conjunct false (length second.1.names) third.1 (scope third.1)) Fits
          (λ p c. (formed_wider false (length n.names) (length second.1.names) third.1 last (scope third.1) (inner last case) p (extends_later n first.1 second.1 o.sane.known o.extends a.moves.extends).names (to_last third.1 (extends_itself third.1)) within c.0, c.1))
          (flat_map conjuncts third.0) (spliced_formed false (length second.1.names) third.1 (scope third.1) third.0 w.result))

      settled_last : IsSettled last
      settled_last = record {
        named = w.sane.named;
        few = w.sane.few;
        fixed = named_later third.1 last (le_refl (length third.1.names)) third.1.fixed w.sane.fixed;
        known = named_later third.1 last (le_refl (length third.1.names)) third.1.known w.sane.known;
        distinct = w.sane.distinct;
        around = refl;
        flat = refl;
        equations = refl;
      }

      at_end : Taken IsSettled Extends (CaseAt defs) n (case, last)
      at_end = record {
        sane = settled_last;
        moves = extends_later n first.1 last o.sane.known o.extends from_first;
        result = record {
          distinct = bound_distinct;
          fresh = bound_fresh;
          atoms = All-weaker (AtomAt defs (length first.1.names) second.1) (AtomIn defs (inner last case)) (λ x h. atom_wider defs (scope second.1) (inner last case) x within_second h) second.0 a.result.0;
          pure = all_pure;
          short = at_most (length second.0) (a.result.2 (zero_least 64));
        };
      }
        where
          at_most : (k : ℕ) → 0 + k ≤ 64 → k ≤ 64
          at_most k h = omega arith

          zero_least : (k : ℕ) → 0 ≤ k
          zero_least k = omega arith

      after_leaving : Taken IsSettled Extends (CaseAt defs) n (built first.0 second.0 (flat_map conjuncts third.0) (leave_all d.bound third.1).1)
      after_leaving = subst (λ l. Taken IsSettled Extends (CaseAt defs) n (built first.0 second.0 (flat_map conjuncts third.0) l)) (sym (left_all d.bound third.1 [] o.more around_is o.count)) at_end

  pub case_takes : (d : DisjunctTree) (n : Numbering) → Takes IsSettled Extends (CaseAt defs) n (disjunct entries d n)
  unfolding disjunct
  case_takes d n = λ e.
      let end : (third d n).1.faults ≡ [] = sym (ap (λ (l : Numbering). l.faults) (left_is d.bound (third d n).1)) ∙ e in
      let w = all_of_do d.items (second d n).1 end in
      let a = atoms_take d.atoms (first d n).1 w.0 in
      let opens : Opens d.bound n (first d n) = subst (λ done. Opens d.bound n done) (sym (each-is bind d.bound n)) (opened d.bound n) in
      let o = opens a.0 in
      (o.0, λ s. let one = o.1 (settled_sane n s) in let two = a.1 one.sane in after_leaving d n s one two (w.1 two.sane))

  counted_case_takes : (k : ℕ) (d : DisjunctTree) (n : Numbering) → Takes IsSettled Extends (Early 16 k (CaseAt defs)) n (counted_case entries k d n)
  counted_case_takes k d = limited IsSettled (λ n s. s.named) Extends (CaseAt defs) 16 Cases d.at k (disjunct entries d) (case_takes d)

  extending : Order Extends
  extending = record { itself = extends_itself; later = extends_later; extends = λ n m g. g }

  cases_take : (ds : List DisjunctTree) (n : Numbering) → Takes IsSettled Extends (Listed (counted_case entries) IsSettled (λ n s. s.known) extending (CaseAt defs) 16 (case_carry defs) counted_case_takes 0 (length ds)) n (each_counted (counted_case entries) ds n)
  cases_take = counted_takes (counted_case entries) IsSettled (λ n s. s.known) extending (CaseAt defs) 16 (case_carry defs) counted_case_takes

-- ---- what that says of a disjunct

record CaseTells (defs : Defs) (k : ℕ) (m : Numbering) (d : Disjunct) : Type 0 where
  pub fits : DisjunctFits defs (free_vars m) (next m) d
  pub short : IsShort d
  pub new : DisjunctIsNew k d

free_part : (a b : Bool) → not a ≡ true → IsTrue (a || b) → IsTrue b
free_part true b e h = absurd (true≢false (sym e))
free_part false b e h = h

case_tells : (defs : Defs) (k : ℕ) (m : Numbering) (d : Disjunct) → IsSettled m → CaseAt defs k m d → CaseTells defs k m d
case_tells defs k m d s c =
    let bound : (v : Var) → IsTrue (is_in v d.bound) → IsFresh k m v = listed_forth (IsFresh k m) d.bound c.fresh in
    let numbered : (v : Var) → IsTrue (inner m d v) → IsNumbered (top m) v = either_all (λ v. is_in v d.bound) (λ v. is_in v (free_vars m)) (IsNumbered (top m)) (λ v h. fresh_numbered v (bound v h)) (free_numbered m s.fixed s.known) in
    let tell : (i : ℕ) (p : Pure) (less : i < length d.pure) → PureTells k m (inner m d) (get_or d.pure i p) = λ i p less. pure_tells false k m (inner m d) (get_or d.pure i p) s.few numbered (c.pure i p less).0 in
    let in_atoms : (v : Var) → IsTrue (list_any (in_atom v) d.atoms) → IsTrue (inner m d v) = any_forth in_atom (λ v. IsTrue (inner m d v)) d.atoms (λ i a less. (c.atoms i a less).1) in
    let in_pures : (v : Var) → IsTrue (list_any (is_free v) d.pure) → IsTrue (inner m d v) = any_forth is_free (λ v. IsTrue (inner m d v)) d.pure (λ i p less. (tell i p less).among) in
    let all : (v : Var) → IsTrue (list_any (occurs v) d.pure) → IsNumbered (next m) v = any_forth occurs (IsNumbered (next m)) d.pure (λ i p less. (tell i p less).fits.numbers) in
    let at_next : (v : Var) → IsTrue (inner m d v) → IsNumbered (next m) v = λ v h. subst (λ l. IsNumbered l v) (sym (next_is m s.few)) (numbered v h) in
    record {
      fits = record {
        distinct = c.distinct;
        apart = λ u h. (bound u h).hidden;
        among = λ v h. let parts = and_parts (not (is_in v d.bound)) (list_any (in_atom v) d.atoms || list_any (is_free v) d.pure) h in
            free_part (is_in v d.bound) (is_in v (free_vars m)) parts.0 (either_all (λ v. list_any (in_atom v) d.atoms) (λ v. list_any (is_free v) d.pure) (λ v. IsTrue (inner m d v)) in_atoms in_pures v parts.1);
        numbers = either_all (λ v. is_in v d.bound) (λ v. list_any (in_atom v) d.atoms || list_any (occurs v) d.pure) (IsNumbered (next m)) (λ v h. at_next v (or_left (is_in v d.bound) (is_in v (free_vars m)) h))
            (either_all (λ v. list_any (in_atom v) d.atoms) (λ v. list_any (occurs v) d.pure) (IsNumbered (next m)) (λ v h. at_next v (in_atoms v h)) all);
        atoms = λ i a less. (c.atoms i a less).0;
        pure = λ i p less. (tell i p less).fits;
        flat = λ i p less. (c.pure i p less).1;
      };
      short = c.short;
      new = record { bound = λ u h. (bound u h).new; pure = λ i p less. (tell i p less).new };
    }
  where
    given : (k x l : ℕ) → k < x → x ≤ l → (1 ≤ x) × (x < suc l)
    given k x l less le = (omega arith, omega arith)

    fresh_numbered : (v : Var) → IsFresh k m v → IsNumbered (top m) v
    fresh_numbered v f = given k v.number (length m.names) f.new f.given

-- ---- the laws

pub disjuncts_fit : DisjunctsFit
disjuncts_fit defs entries fit d n settled clean = of ((case_takes defs entries fit d n clean).1 settled)
  where
    of : Taken IsSettled Extends (CaseAt defs) n (disjunct entries d n) → CaseFits defs n (disjunct entries d n).1 (disjunct entries d n).0
    of a = let told = case_tells defs (length n.names) (disjunct entries d n).1 (disjunct entries d n).0 a.sane a.result in
        record { settled = a.sane; extends = a.moves; fits = told.fits; short = told.short; new = told.new }

pub formulas_fit : FormulasFit
formulas_fit defs entries fit f n settled clean =
    let a = (cases_take defs entries fit f.cases n clean).1 settled in
    let m = (formula entries f n).1 in
    let cases = (formula entries f n).0.cases in
    let tell : (i : ℕ) (d : Disjunct) (less : i < length cases) → CaseTells defs (length n.names) m (get_or cases i d) = λ i d less. case_tells defs (length n.names) m (get_or cases i d) a.sane (a.result.0 i d less) in
    record {
      settled = a.sane;
      extends = a.moves;
      fits = λ i d less. (tell i d less).fits;
      short = λ i d less. (tell i d less).short;
      new = λ i d less. (tell i d less).new;
      few = at_most (length cases) (a.result.2 (zero_least 16));
      as_many = a.result.1;
    }
  where
    at_most : (k : ℕ) → 0 + k ≤ 16 → k ≤ 16
    at_most k h = omega arith

    zero_least : (k : ℕ) → 0 ≤ k
    zero_least k = omega arith
