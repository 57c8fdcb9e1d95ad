-- Arguments and atoms are of what is in scope, and what they bind is new.
use Rattle.std.proofs.Common.{◌≡◌, ℕ, zero, suc, ◌≤◌, ◌^◌, Bool, true, false, not, ◌||◌, nat_eq, IsTrue, List, [], ◌∷◌, ◌++◌, length, Option, Some, None, unwrap_or, refl, sym, ap, ◌∙◌, subst, arith, append_assoc, append-nil, le_refl, if◌then◌else◌, true≢false, eqb-true, slice_get}
use Rattle.std.specs.List.{All, zip}
use Rattle.std.proofs.lemmas.List.Elements.{All-nil, All-cons, All-head, All-tail, All-append, All-weaker}
use mathlib.Core.Bool.{beq}
use Rattle.hs_tree.specs.declared.ident.Ident.{Ident}
use Rattle.hs_tree.specs.declared.expr.ExprTree.{ExprTree}
use Rattle.hs_tree.specs.declared.formula.ArgTree.{ArgTree}
use Rattle.hs_tree.specs.declared.formula.ArgTree.TheVariants as arg
use Rattle.hs_tree.specs.declared.formula.AtomTree.{AtomTree}
use Rattle.hs_pure.specs.declared.var.Var.{Var}
use Rattle.hs_pure.specs.declared.bag.Bag.TheVariants as set
use Rattle.hs_pure.specs.declared.pure.Pure.{Pure}
use Rattle.hs_pure.specs.declared.pure.Pure.TheVariants as pure_of
use Rattle.hs_pure.specs.Stack.{same}
use Rattle.hs_pure.proofs.Vars.{or_left, or_right}
use Rattle.hs_pure.proofs.Views.{fold-Eq, fold-BagEq}
use Rattle.hs_heap.specs.declared.formula.Atom.{Atom}
use Rattle.hs_heap.specs.declared.definitions.Defs.{Defs}
use Rattle.hs_heap.specs.Meaning.{is_in}
use Rattle.hs_heap.specs.Sound.{AreDistinct, kinds, argument_kinds, AtomFits}
use Rattle.hs_heap.specs.Tests.{sum_fits}
use Rattle.hs_heap.specs.Variables.{in_atom}
use Rattle.hs_heap.specs.WellFormed.{is_and, is_and_level}
use Rattle.hs_heap.proofs.Lists.{listed_forth}
use Rattle.hs_heap.proofs.Stacks.{same_true, same_itself}
use Rattle.hs_heap.proofs.Tells.{tells_le, either_all}
use Rattle.hs_numbering.specs.declared.fault.Problem.TheVariants.{Arity}
use Rattle.hs_numbering.specs.declared.numbering.Numbering.{Numbering}
use Rattle.hs_numbering.specs.Names.{is_upper}
use Rattle.hs_numbering.specs.Numbering.{◌>>=◌, ◌>>◌, ◌<$>◌, pure, each, blame, resolve, give, give_bound, equate, is_numbered}
use Rattle.hs_norm_formula.specs.declared.table.Entry.{Entry}
use Rattle.hs_norm_formula.specs.Sum.{blame_kind, number_var}
use Rattle.hs_norm_formula.specs.Expr.{number, bag, bare}
use Rattle.hs_norm_formula.specs.Table.{entry, entry_at, place}
use Rattle.hs_norm_formula.specs.Formula.{single, equation, value, argument, blame_arity, atom_of, atom_by, atom}
use Rattle.hs_formula_fits.specs.Fits.{vars_of, free_vars, NamedFits, Extends, EntriesFit}
use Rattle.hs_formula_fits.proofs.State.{in_left, in_right, in_free, distinct_append, KnownFit, extends_itself, extends_later, named_later, IsFresh, all_fresh_later}
use Rattle.hs_formula_fits.proofs.Formed.{Within, formed_wider, eq_formed, bag_eq_formed}
use Rattle.hs_formula_fits.proofs.Keeps.{scope, Sane, Stays, stays_itself, scope_later, stays, either_wider, Order, Result, Kept, Does, DoesIf, Keeps, blamed, then_does, Each, each_does, all_by}
use Rattle.hs_formula_fits.proofs.Names.{VarIn, Given, give_gives, resolve_does, extends_aside}
use Rattle.hs_formula_fits.proofs.Sums.{sum_from}
use Rattle.hs_formula_fits.proofs.Expressions.{SumIn, BagIn, name_in, number_var_does, number_does, bag_does}
use Rattle.hs_formula_fits.proofs.Items.{FormedAt}

-- a conjunct of what is in scope
abbrev pub ConjunctAt : Result Pure
ConjunctAt k m p = FormedAt false k m p × (is_and p ≡ false)

-- the disjunct binds more, by new numbers, and has more equations
pub record Grows (n m : Numbering) : Type 0 where
  pub extends : Extends n m
  pub around : m.around ≡ n.around
  pub new_flat : List Var
  pub flat : m.flat ≡ n.flat ++ new_flat
  pub fresh : All (IsFresh (length n.names) m) new_flat
  pub distinct : AreDistinct new_flat
  pub new_equations : List Pure
  pub equations : m.equations ≡ n.equations ++ new_equations
  pub formed : All (ConjunctAt (length n.names) m) new_equations

pub stays_grows : (n m : Numbering) → Stays n m → Grows n m
stays_grows n m s = record {
  extends = s.extends;
  around = s.around;
  new_flat = [];
  flat = s.flat ∙ sym (append-nil n.flat);
  fresh = All-nil _;
  distinct = tt;
  new_equations = [];
  equations = s.equations ∙ sym (append-nil n.equations);
  formed = All-nil _;
}

pub scope_grows : (n m : Numbering) → Grows n m → Within (scope n) (scope m)
scope_grows n m g v = either_wider (is_in v (vars_of n.around)) (is_in v n.flat || is_in v (free_vars n)) (is_in v (vars_of m.around)) (is_in v m.flat || is_in v (free_vars m))
    (λ h. subst (λ ms. IsTrue (is_in v (vars_of ms))) (sym g.around) h)
    (either_wider (is_in v n.flat) (is_in v (free_vars n)) (is_in v m.flat) (is_in v (free_vars m)) (λ h. subst (λ vs. IsTrue (is_in v vs)) (sym g.flat) (in_left v n.flat g.new_flat h)) (in_free n m g.extends v))

grows_later : (n m l : Numbering) → KnownFit m → Grows n m → Grows m l → Grows n l
grows_later n m l fit g h = record {
  extends = extends_later n m l fit g.extends h.extends;
  around = h.around ∙ g.around;
  new_flat = g.new_flat ++ h.new_flat;
  flat = h.flat ∙ ap (λ vs. vs ++ h.new_flat) g.flat ∙ append_assoc n.flat g.new_flat h.new_flat;
  fresh = All-append (IsFresh (length n.names) l) g.new_flat h.new_flat (all_fresh_later (length n.names) (length n.names) m l g.new_flat (le_refl (length n.names)) h.extends g.fresh)
      (all_fresh_later (length n.names) (length m.names) l l h.new_flat g.extends.names (extends_itself l) h.fresh);
  distinct = distinct_append (length m.names) g.new_flat h.new_flat g.distinct h.distinct (All-weaker (IsFresh (length n.names) m) (λ v. v.number ≤ length m.names) (λ v f. f.given) g.new_flat g.fresh)
      (All-weaker (IsFresh (length m.names) l) (λ v. suc (length m.names) ≤ v.number) (λ v f. f.new) h.new_flat h.fresh);
  new_equations = g.new_equations ++ h.new_equations;
  equations = h.equations ∙ ap (λ ps. ps ++ h.new_equations) g.equations ∙ append_assoc n.equations g.new_equations h.new_equations;
  formed = All-append (ConjunctAt (length n.names) l) g.new_equations h.new_equations
      (All-weaker (ConjunctAt (length n.names) m) (ConjunctAt (length n.names) l) (λ p c. (formed_wider false (length n.names) (length n.names) m l (scope m) (scope l) p (le_refl (length n.names)) h.extends (scope_grows m l h) c.0, c.1)) g.new_equations g.formed)
      (All-weaker (ConjunctAt (length m.names) l) (ConjunctAt (length n.names) l) (λ p c. (formed_wider false (length n.names) (length m.names) l l (scope l) (scope l) p g.extends.names (extends_itself l) (λ v k. k) c.0, c.1)) h.new_equations h.formed);
}

pub grows : Order Grows
grows = record { itself = λ n. stays_grows n n (stays_itself n); later = grows_later; extends = λ n m g. g.extends }

pub lifted : {A : Type 0} (R : Result A) (n : Numbering) (done : A × Numbering) → Does Stays R n done → Does Grows R n done
lifted {A} R n done h e = let was = h e in (was.0, λ sane. of (was.1 sane))
  where
    of : Kept Stays R n done → Kept Grows R n done
    of a = record { sane = a.sane; moves = stays_grows n done.1 a.moves; result = a.result }

-- what concerns names alone is the same
aside_sane : (m l : Numbering) → Sane m → l.reading ≡ m.reading → l.names ≡ m.names → l.fixed ≡ m.fixed → l.known ≡ m.known → l.around ≡ m.around → Sane l
aside_sane m l sane reading names fixed known around = record {
  named = subst (λ r. is_numbered r ≡ false) (sym reading) sane.named;
  few = subst (λ ns. length ns ≤ 1000) (sym names) sane.few;
  fixed = subst (λ ms. All (NamedFits l) ms) (sym fixed) (named_later m l more m.fixed sane.fixed);
  known = subst (λ ms. All (NamedFits l) ms) (sym known) (named_later m l more m.known sane.known);
  around = subst (λ ms. All (NamedFits l) ms) (sym around) (named_later m l more m.around sane.around);
  distinct = subst AreDistinct (λ i. vars_of (sym fixed i ++ sym known i)) sane.distinct;
}
  where
    more : length m.names ≤ length l.names
    more = subst (λ ns. length m.names ≤ length ns) (sym names) (le_refl (length m.names))

-- ---- arguments

pub give_bound_does : (at : ℕ) (bag : Bool) → Keeps Grows (VarIn bag) (give_bound at bag)
give_bound_does at bag n = λ e. let was = give_gives None at bag n e in (was.0, λ sane. of (was.1 sane))
  where
    of : Given bag n (give None at bag n) → Kept Grows (VarIn bag) n (give_bound at bag n)
    of g =
        let v = (give None at bag n).0 in
        let m = (give None at bag n).1 in
        let l = (give_bound at bag n).1 in
        record {
          sane = aside_sane m l g.sane refl refl refl refl refl;
          moves = record {
            extends = extends_aside n m l refl refl refl refl refl g.stays.extends;
            around = g.stays.around;
            new_flat = v ∷ [];
            flat = ap (λ vs. vs ++ v ∷ []) g.stays.flat;
            fresh = All-cons (IsFresh (length n.names) l) v [] (record { new = g.fresh.new; given = g.fresh.given; hidden = g.fresh.hidden }) (All-nil _);
            distinct = (refl, tt);
            new_equations = [];
            equations = g.stays.equations ∙ sym (append-nil n.equations);
            formed = All-nil _;
          };
          result = (g.kind, or_right (is_in v (vars_of l.around)) (is_in v l.flat || is_in v (free_vars l)) (or_left (is_in v l.flat) (is_in v (free_vars l)) (in_right v m.flat (v ∷ []) (or_left (same v v) false (same_itself v)))));
        }

single_in : (s : Var → Bool) (v : Var) → v.bag ≡ false → IsTrue (s v) → IsTrue (sum_fits (single v) s)
single_in s v kind h = sum_from s (single v) ((tells_le 1 (2 ^ 126)).0 refl) (least v.number, kind, (λ e. absurd cc), tt)
    (either_all (λ u. same v u) (λ u. false) (λ u. IsTrue (s u)) (λ u e. subst (λ w. IsTrue (s w)) (same_true v u e) h) (λ u e. absurd (true≢false (sym e))))
  where
    least : (k : ℕ) → 0 ≤ k
    least k = omega arith

-- the new variable's equation
equation_does : (v : Var) (e : ExprTree) (n : Numbering) → DoesIf Stays (IsTrue (scope n v)) ConjunctAt n (equation v e n)
unfolding equation
equation_does v e n = of v.bag refl
  where
    bags : v.bag ≡ true → IsTrue (scope n v) → Kept Stays BagIn n (bag e n) → Kept Stays ConjunctAt n ((pure_of.BagEq (set.Name v) <$> bag e) n)
    bags kind h a = record {
      sane = a.sane;
      moves = a.moves;
      result = (
        bag_eq_formed false (length n.names) (bag e n).1 (scope (bag e n).1) refl (set.Name v) (bag e n).0 (name_in (scope (bag e n).1) v kind (scope_later n (bag e n).1 a.moves v h)) a.result,
        fold-BagEq is_and_level (set.Name v) (bag e n).0,
      );
    }

    numbers : v.bag ≡ false → IsTrue (scope n v) → Kept Stays SumIn n (number e n) → Kept Stays ConjunctAt n ((pure_of.Eq (single v) <$> number e) n)
    numbers kind h a = record {
      sane = a.sane;
      moves = a.moves;
      result = (
        eq_formed false (length n.names) (number e n).1 (scope (number e n).1) (single v) (number e n).0 (single_in (scope (number e n).1) v kind (scope_later n (number e n).1 a.moves v h)) a.result,
        fold-Eq is_and_level (single v) (number e n).0,
      );
    }

    of : (b : Bool) → v.bag ≡ b → DoesIf Stays (IsTrue (scope n v)) ConjunctAt n ((if b then pure_of.BagEq (set.Name v) <$> bag e else pure_of.Eq (single v) <$> number e) n)
    of true kind = λ f. let was = bag_does e n f in (was.0, λ sane h. bags kind h (was.1 sane))
    of false kind = λ f. let was = number_does e n f in (was.0, λ sane h. numbers kind h (was.1 sane))

kind_is : (a b : Bool) → not (beq a b) ≡ false → a ≡ b
kind_is true true e = refl
kind_is true false e = absurd (true≢false e)
kind_is false true e = absurd (true≢false e)
kind_is false false e = refl

named_does : (x : Ident) (is_bag : Bool) → Keeps Stays (VarIn is_bag) (resolve x >>= λ v. blame_kind x.at (not (beq v.bag is_bag)) >> pure v)
named_does x is_bag n = then_does stays (VarIn (is_upper x.text)) (VarIn is_bag) n (resolve x n) ((blame_kind x.at (not (beq (resolve x n).0.bag is_bag)) >> pure (resolve x n).0) (resolve x n).1)
    (resolve_does x n) (of (not (beq (resolve x n).0.bag is_bag)) refl) (λ j k le h. h)
  where
    of : (b : Bool) → not (beq (resolve x n).0.bag is_bag) ≡ b → DoesIf Stays (VarIn (is_upper x.text) (length n.names) (resolve x n).1 (resolve x n).0) (VarIn is_bag) (resolve x n).1 ((blame_kind x.at b >> pure (resolve x n).0) (resolve x n).1)
    of true e = λ f. absurd (blamed (resolve x n).1.faults _ f)
    of false e = λ f. (f, λ sane h. record { sane = sane; moves = stays_itself (resolve x n).1; result = (kind_is (resolve x n).0.bag is_bag e, h.1) })

value_does : (is_bag : Bool) (e : ExprTree) (o : Option Ident) → Keeps Grows (VarIn is_bag) (value is_bag e o)
value_does is_bag e (Some x) n = lifted (VarIn is_bag) n (value is_bag e (Some x) n) (named_does x is_bag n)
value_does is_bag e None n = λ f.
    let second = equation_does (give_bound e.at is_bag n).0 e (give_bound e.at is_bag n).1 f in
    let first = give_bound_does e.at is_bag n second.0 in
    (first.0, λ sane. of (first.1 sane) second.1)
  where
    of : Kept Grows (VarIn is_bag) n (give_bound e.at is_bag n) →
        (Sane (give_bound e.at is_bag n).1 → IsTrue (scope (give_bound e.at is_bag n).1 (give_bound e.at is_bag n).0) → Kept Stays ConjunctAt (give_bound e.at is_bag n).1 (equation (give_bound e.at is_bag n).0 e (give_bound e.at is_bag n).1)) →
        Kept Grows (VarIn is_bag) n (value is_bag e None n)
    of a f =
        let v = (give_bound e.at is_bag n).0 in
        let m = (give_bound e.at is_bag n).1 in
        let p = (equation v e m).0 in
        let m2 = (equation v e m).1 in
        let l = (equate p m2).1 in
        let b = f a.sane a.result.1 in
        let more : Grows m l = record {
          extends = extends_aside m m2 l refl refl refl refl refl b.moves.extends;
          around = b.moves.around;
          new_flat = [];
          flat = b.moves.flat ∙ sym (append-nil m.flat);
          fresh = All-nil _;
          distinct = tt;
          new_equations = p ∷ [];
          equations = ap (λ ps. ps ++ p ∷ []) b.moves.equations;
          formed = All-cons (ConjunctAt (length m.names) l) p [] (formed_wider false (length m.names) (length m.names) m2 l (scope m2) (scope l) p (le_refl (length m.names)) (extends_aside m2 m2 l refl refl refl refl refl (extends_itself m2)) (λ w k. k) b.result.0, b.result.1) (All-nil _);
        } in
        record {
          sane = aside_sane m2 l b.sane refl refl refl refl refl;
          moves = grows_later n m l a.sane.known a.moves more;
          result = (a.result.0, scope_grows m l more v a.result.1);
        }

argument_does : (is_bag : Bool) (a : ArgTree) → Keeps Grows (VarIn is_bag) (argument is_bag a)
unfolding argument
argument_does is_bag (arg.Hole at) = give_bound_does at is_bag
argument_does is_bag (arg.Value e) = value_does is_bag e (bare e)

-- ---- atoms

abbrev ArgIn : Bool × ArgTree → Result Var
ArgIn p k m v = VarIn p.0 k m v

arguments_do : (ps : List (Bool × ArgTree)) → Keeps Grows (λ k m vs. Each (λ (p : Bool × ArgTree). argument p.0 p.1) (λ p v. ArgIn p k m v) ps vs) (each (λ p. argument p.0 p.1) ps)
arguments_do ps = each_does (λ (p : Bool × ArgTree). argument p.0 p.1) grows ArgIn (λ p j k n m v le g h. (h.0, scope_grows n m g v h.1)) ps
    (all_by (λ (p : Bool × ArgTree). argument p.0 p.1) (λ p. Keeps Grows (ArgIn p) (argument p.0 p.1)) ps (λ p. argument_does p.0 p.1))

module _ (k : ℕ) (m : Numbering) where
  abbrev Matched : List (Bool × ArgTree) → List Var → Type 0
  Matched ps vs = Each (λ (p : Bool × ArgTree). argument p.0 p.1) (λ p v. ArgIn p k m v) ps vs

  kinds_are : (ks : List Bool) (ts : List ArgTree) (vs : List Var) → length ks ≡ length ts → Matched (zip ks ts) vs → kinds vs ≡ ks
  kinds_are [] ts [] e h = refl
  kinds_are [] ts (v ∷ vs) e h = absurd h
  kinds_are (b ∷ ks) [] vs e h = absurd (omega arith)
  kinds_are (b ∷ ks) (t ∷ ts) [] e h = absurd h
  kinds_are (b ∷ ks) (t ∷ ts) (v ∷ vs) e h = let rest = kinds_are ks ts vs (omega arith) h.1 in λ i. h.0.0 i ∷ rest i

  all_in : (ps : List (Bool × ArgTree)) (vs : List Var) → Matched ps vs → All (λ v. IsTrue (scope m v)) vs
  all_in [] [] h = All-nil _
  all_in [] (v ∷ vs) h = absurd h
  all_in (p ∷ ps) [] h = absurd h
  all_in (p ∷ ps) (v ∷ vs) h = All-cons (λ v. IsTrue (scope m v)) v vs h.0.1 (all_in ps vs h.1)

-- an atom that fits, of what is in a scope
abbrev pub AtomIn : Defs → (Var → Bool) → Atom → Type 0
AtomIn defs s a = AtomFits defs a × ((v : Var) → IsTrue (in_atom v a) → IsTrue (s v))

abbrev pub AtomAt : Defs → Result Atom
AtomAt defs k m a = AtomIn defs (scope m) a

pub atom_wider : (defs : Defs) (s t : Var → Bool) (a : Atom) → Within s t → AtomIn defs s a → AtomIn defs t a
atom_wider defs s t a w h = (h.0, λ v k. w v (h.1 v k))

slice_get_all : {X : Type 0} (P : X → Type 0) (xs : List X) (i : ℕ) (x : X) → All P xs → slice_get xs i ≡ Some x → P x
slice_get_all P [] i x h e = absurd cc
slice_get_all P (y ∷ ys) zero x h e = subst P (ap (λ o. unwrap_or o y) e) (All-head P y ys h)
slice_get_all P (y ∷ ys) (suc i) x h e = slice_get_all P ys i x (All-tail P y ys h) e

module _ (defs : Defs) (entries : List Entry) (fit : EntriesFit defs entries) where
  abbrev EntryFits : Entry → Type 0
  EntryFits e = argument_kinds defs e.of ≡ Some e.kinds

  entry_fits : (name : List ℕ) (e : Entry) → entry name entries ≡ Some e → EntryFits e
  entry_fits name e = of (place name entries)
    where
      of : (o : Option ℕ) → entry_at entries o ≡ Some e → EntryFits e
      of None f = absurd cc
      of (Some i) f = slice_get_all EntryFits entries i e fit f

  atom_of_does : (root : Var) (e : Entry) (t : AtomTree) (n : Numbering) → EntryFits e → DoesIf Grows ((root.bag ≡ false) × IsTrue (scope n root)) (AtomAt defs) n (atom_of root e t n)
  atom_of_does root e t n is = of (nat_eq (length e.kinds) (length t.args)) refl
    where
      ps : List (Bool × ArgTree)
      ps = zip e.kinds t.args

      built : Numbering → Atom × Numbering
      built m = (record { root = root; of = e.of; args = (each (λ p. argument p.0 p.1) (zip e.kinds t.args) m).0 }, (each (λ p. argument p.0 p.1) (zip e.kinds t.args) m).1)

      fits : length e.kinds ≡ length t.args → (root.bag ≡ false) × IsTrue (scope n root) → Kept Grows (λ k m vs. Matched k m (zip e.kinds t.args) vs) n (each (λ p. argument p.0 p.1) (zip e.kinds t.args) n) → Kept Grows (AtomAt defs) n (built n)
      fits long r a =
          let vs = (each (λ (p : Bool × ArgTree). argument p.0 p.1) (zip e.kinds t.args) n).0 in
          let m = (each (λ (p : Bool × ArgTree). argument p.0 p.1) (zip e.kinds t.args) n).1 in
          record {
            sane = a.sane;
            moves = a.moves;
            result = (
              (r.0, is ∙ ap (λ ks. Some ks) (sym (kinds_are (length n.names) m e.kinds t.args vs long a.result))),
              listed_forth (λ v. IsTrue (scope m v)) (root ∷ vs) (All-cons (λ v. IsTrue (scope m v)) root vs (scope_grows n m a.moves root r.1) (all_in (length n.names) m (zip e.kinds t.args) vs a.result)),
            );
          }

      of : (b : Bool) → nat_eq (length e.kinds) (length t.args) ≡ b → DoesIf Grows ((root.bag ≡ false) × IsTrue (scope n root)) (AtomAt defs) n (built (blame_arity t.root.at b n).1)
      of true f = λ g. let was = arguments_do (zip e.kinds t.args) n g in (was.0, λ sane r. fits (eqb-true (length e.kinds) (length t.args) f) r (was.1 sane))
      of false f = λ g. absurd (blamed n.faults _ (arguments_do (zip e.kinds t.args) (blame t.root.at Arity n).1 g).0)

  atom_by_does : (root : Var) (o : Option Entry) (t : AtomTree) (n : Numbering) → ((e : Entry) → o ≡ Some e → EntryFits e) → DoesIf Grows ((root.bag ≡ false) × IsTrue (scope n root)) (AtomAt defs) n (atom_by root o t n)
  atom_by_does root (Some e) t n h = atom_of_does root e t n (h e refl)
  atom_by_does root None t n h = λ f. absurd (blamed n.faults _ f)

  pub atom_does : (t : AtomTree) → Keeps Grows (AtomAt defs) (atom entries t)
  unfolding atom
  atom_does t n = then_does grows (VarIn false) (AtomAt defs) n (number_var t.root n) (atom_by (number_var t.root n).0 (entry t.name.text entries) t (number_var t.root n).1)
      (lifted (VarIn false) n (number_var t.root n) (number_var_does t.root n)) (atom_by_does (number_var t.root n).0 (entry t.name.text entries) t (number_var t.root n).1 (entry_fits t.name.text)) (λ j k le h. h)
