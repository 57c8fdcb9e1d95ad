-- The tests tell exactly whether definitions are sound.
use Rattle.std.proofs.Common.{◌≡◌, ℕ, zero, ◌<◌, ◌≤◌, Bool, true, false, not, ◌&&◌, ◌||◌, nat_le, nat_lt, IsTrue, List, ◌∷◌, length, map, Option, Some, None, option_map, refl, sym, ap, subst, arith}
use Rattle.std.specs.List.{All, list_all, list_any}
use Rattle.std.proofs.lemmas.Bool.{and_parts, and_from}
use Rattle.std.proofs.lemmas.List.Elements.{All-cons, All-tail}
use Rattle.hs_pure.specs.declared.var.Var.{Var}
use Rattle.hs_pure.specs.declared.pure.Pure.{Pure}
use Rattle.hs_pure.specs.Occurs.{is_free, is_bound, occurs, is_bags_plain}
use Rattle.hs_pure.proofs.Vars.{or_left, or_right}
use Rattle.hs_heap.specs.declared.formula.Of.{Of}
use Rattle.hs_heap.specs.declared.formula.Of.TheVariants.{Node, Pred}
use Rattle.hs_heap.specs.declared.formula.Atom.{Atom}
use Rattle.hs_heap.specs.declared.formula.Disjunct.{Disjunct}
use Rattle.hs_heap.specs.declared.definitions.NodeDef.{NodeDef}
use Rattle.hs_heap.specs.declared.definitions.PredDef.{PredDef}
use Rattle.hs_heap.specs.declared.definitions.Lemma.{Lemma}
use Rattle.hs_heap.specs.declared.definitions.Defs.{Defs}
use Rattle.hs_heap.specs.Meaning.{is_in, pred_at, self_var}
use Rattle.hs_heap.specs.Variables.{in_atom}
use Rattle.hs_heap.specs.WellFormed.{is_and}
use Rattle.hs_heap.specs.Sound.{IsNumbered, AreAmong, AreDistinct, AreNumberedFrom, node_at, kinds, argument_kinds, AtomFits, PureFits, DisjunctFits, IsShort, HeadFits, PredIsSound, LemmaIsSound, IsSound}
use Rattle.hs_heap.specs.Tests.{number_fits, pure_fits, plain_fits, are_distinct, follow_from, same_kinds, is_like_node, is_like_pred, arguments_fit, atom_fits, bound_fits, conjunct_fits, parts_fit, disjunct_fits, short_fits, head_fits, pred_fits, lemma_fits, defs_fit}
use Rattle.hs_heap.proofs.Tells.{Tells, tells, tells_both, tells_all, tells_not, tells_le, tells_lt, either_all}
use Rattle.hs_heap.proofs.Parts.{PartsFit, parts_of, pure_told}
use Rattle.hs_heap.proofs.Lists.{any_forth, any_back, listed_forth, listed_back, distinct_told, follow_told, kinds_told, numbers_told}
use Rattle.hs_heap.proofs.Occurring.{occurs-splits}

abbrev listed : List Var → Var → Bool
listed vs v = is_in v vs

-- ---- pure formulas

-- a formula in a scope whose variables are numbered
plain_told : (free : List Var) (next : ℕ) (s : Var → Bool) → ((v : Var) → IsTrue (s v) → IsNumbered next v) → (p : Pure) →
    Tells (plain_fits (listed free) next p s) (PureFits free next p × ((v : Var) → IsTrue (is_free v p) → IsTrue (s v)))
plain_told free next s numbered p = tells (plain_fits (listed free) next p s) (IsTrue (is_bags_plain p) × PartsFit (listed free) next s (parts_of (listed free) next p)) (PureFits free next p × ((v : Var) → IsTrue (is_free v p) → IsTrue (s v)))
    (tells_both (is_bags_plain p) (pure_fits (listed free) next p s) (IsTrue (is_bags_plain p)) (PartsFit (listed free) next s (parts_of (listed free) next p)) (λ h. h, λ h. h) (pure_told (listed free) next p s))
    (λ h. (
      record {
        formed = record { ordered = h.1.ordered; light = h.1.light; bags = h.1.bags; binders = λ u b. (h.1.binders u b).0; members = h.1.members; plain = h.0 };
        apart = λ u b. (h.1.binders u b).1.1;
        numbers = λ v o. either_all (λ v. is_free v p) (λ v. is_bound v p) (IsNumbered next) (λ v f. numbered v (h.1.among v f)) (λ v b. (h.1.binders v b).1.0) v (subst IsTrue (occurs-splits v p) o);
      },
      h.1.among,
    ))
    (λ h. (
      h.0.formed.plain,
      record {
        ordered = h.0.formed.ordered;
        light = h.0.formed.light;
        bags = h.0.formed.bags;
        members = h.0.formed.members;
        binders = λ u b. (h.0.formed.binders u b, (h.0.numbers u (subst IsTrue (sym (occurs-splits u p)) (or_right (is_free u p) (is_bound u p) b)), h.0.apart u b));
        among = h.1;
      },
    ))

-- ---- atoms

like_pred_told : (o : Option PredDef) (args : List Var) → Tells (is_like_pred o args) (option_map (λ (p : PredDef). kinds p.params) o ≡ Some (kinds args))
like_pred_told None args = (λ h. absurd cc, λ h. absurd cc)
like_pred_told (Some p) args = tells (same_kinds p.params args) (kinds p.params ≡ kinds args) (Some (kinds p.params) ≡ Some (kinds args)) (kinds_told p.params args) (λ e. ap (λ ks. Some ks) e) (λ e. cc)

like_node_told : (o : Option NodeDef) (args : List Var) → Tells (is_like_node o args) (option_map (λ (d : NodeDef). map (λ f. false) d.fields) o ≡ Some (kinds args))
like_node_told None args = (λ h. absurd cc, λ h. absurd cc)
like_node_told (Some d) args = tells (is_like_node (Some d) args) (map (λ f. false) d.fields ≡ kinds args) (option_map (λ (d : NodeDef). map (λ f. false) d.fields) (Some d) ≡ Some (kinds args)) (numbers_told d.fields args) (λ e. ap (λ ks. Some ks) e) (λ e. cc)

pub arguments_told : (defs : Defs) (of : Of) (args : List Var) → Tells (arguments_fit defs of args) (argument_kinds defs of ≡ Some (kinds args))
arguments_told defs (Node n) args = like_node_told (node_at defs n) args
arguments_told defs (Pred n) args = like_pred_told (pred_at defs n) args

-- an atom whose variables are in scope
AtomIn : Defs → (Var → Bool) → Atom → Type 0
AtomIn defs s a = AtomFits defs a × ((v : Var) → IsTrue (in_atom v a) → IsTrue (s v))

atom_told : (defs : Defs) (s : Var → Bool) (a : Atom) → Tells (atom_fits defs s a) (AtomIn defs s a)
unfolding AtomIn
atom_told defs s a = tells (atom_fits defs s a) ((a.root.bag ≡ false) × ((argument_kinds defs a.of ≡ Some (kinds a.args)) × (IsTrue (s a.root) × All (λ v. IsTrue (s v)) a.args))) (AtomFits defs a × ((v : Var) → IsTrue (in_atom v a) → IsTrue (s v)))
    (tells_both (not a.root.bag) (arguments_fit defs a.of a.args && (s a.root && list_all s a.args)) (a.root.bag ≡ false) ((argument_kinds defs a.of ≡ Some (kinds a.args)) × (IsTrue (s a.root) × All (λ v. IsTrue (s v)) a.args)) (tells_not a.root.bag)
    (tells_both (arguments_fit defs a.of a.args) (s a.root && list_all s a.args) (argument_kinds defs a.of ≡ Some (kinds a.args)) (IsTrue (s a.root) × All (λ v. IsTrue (s v)) a.args) (arguments_told defs a.of a.args)
    (tells_both (s a.root) (list_all s a.args) (IsTrue (s a.root)) (All (λ v. IsTrue (s v)) a.args) (λ h. h, λ h. h) (tells_all s (λ v. IsTrue (s v)) (λ v. (λ h. h, λ h. h)) a.args))))
    (λ h. ((h.0, h.1.0), listed_forth (λ v. IsTrue (s v)) (a.root ∷ a.args) (All-cons (λ v. IsTrue (s v)) a.root a.args h.1.1.0 h.1.1.1)))
    (λ h. let all = listed_back (λ v. IsTrue (s v)) (a.root ∷ a.args) h.1 in (h.0.0, (h.0.1, (first (λ v. IsTrue (s v)) a.root a.args all, All-tail (λ v. IsTrue (s v)) a.root a.args all))))
  where
    first : (P : Var → Type 0) (v : Var) (vs : List Var) → All P (v ∷ vs) → P v
    first P v vs h = h zero v (omega arith)

-- ---- disjuncts

bound_told : (free : List Var) (next : ℕ) (vs : List Var) → Tells (list_all (bound_fits (listed free) next) vs) ((v : Var) → IsTrue (is_in v vs) → IsNumbered next v × (is_in v free ≡ false))
bound_told free next vs = tells (list_all (bound_fits (listed free) next) vs) (All (λ v. IsNumbered next v × (is_in v free ≡ false)) vs) ((v : Var) → IsTrue (is_in v vs) → IsNumbered next v × (is_in v free ≡ false))
    (tells_all (bound_fits (listed free) next) (λ v. IsNumbered next v × (is_in v free ≡ false)) (λ v. tells_both (number_fits next v) (not (is_in v free)) (IsNumbered next v) (is_in v free ≡ false)
    (tells_both (nat_le 1 v.number) (nat_lt v.number next) (1 ≤ v.number) (v.number < next) (tells_le 1 v.number) (tells_lt v.number next)) (tells_not (is_in v free))) vs)
    (listed_forth (λ v. IsNumbered next v × (is_in v free ≡ false)) vs) (listed_back (λ v. IsNumbered next v × (is_in v free ≡ false)) vs)

-- a conjunct in a scope
ConjunctIn : List Var → ℕ → (Var → Bool) → Pure → Type 0
ConjunctIn free next s p = (is_and p ≡ false) × (PureFits free next p × ((v : Var) → IsTrue (is_free v p) → IsTrue (s v)))

conjunct_told : (free : List Var) (next : ℕ) (s : Var → Bool) → ((v : Var) → IsTrue (s v) → IsNumbered next v) → (p : Pure) → Tells (conjunct_fits (listed free) next s p) (ConjunctIn free next s p)
unfolding ConjunctIn
conjunct_told free next s numbered p = tells_both (not (is_and p)) (plain_fits (listed free) next p s) (is_and p ≡ false) (PureFits free next p × ((v : Var) → IsTrue (is_free v p) → IsTrue (s v))) (tells_not (is_and p)) (plain_told free next s numbered p)

-- what is in scope and not bound is free
free_part : (a b : Bool) → not a ≡ true → IsTrue (a || b) → IsTrue b
free_part true b e h = absurd cc
free_part false b e h = h

-- what is free where it isn't bound is in scope
scope_part : (a b : Bool) → (not a ≡ true → IsTrue b) → IsTrue (a || b)
scope_part true b f = refl
scope_part false b f = f refl

module _ (defs : Defs) (free : List Var) (next : ℕ) (numbered : (v : Var) → IsTrue (is_in v free) → IsNumbered next v) (d : Disjunct) where
  abbrev scope : Var → Bool
  scope v = is_in v d.bound || is_in v free

  abbrev ScopeNumbered : Type 0
  ScopeNumbered = (v : Var) → IsTrue (scope v) → IsNumbered next v

  abbrev Test : Type 0
  Test = AreDistinct d.bound × (((v : Var) → IsTrue (is_in v d.bound) → IsNumbered next v × (is_in v free ≡ false))
      × (IsTrue (list_all (atom_fits defs scope) d.atoms) × IsTrue (list_all (conjunct_fits (listed free) next scope) d.pure)))

  disjunct_test : Tells (disjunct_fits defs (listed free) next d) Test
  disjunct_test = tells_both (are_distinct d.bound) (list_all (bound_fits (listed free) next) d.bound && parts_fit defs (listed free) next scope d) (AreDistinct d.bound)
      (((v : Var) → IsTrue (is_in v d.bound) → IsNumbered next v × (is_in v free ≡ false)) × (IsTrue (list_all (atom_fits defs scope) d.atoms) × IsTrue (list_all (conjunct_fits (listed free) next scope) d.pure)))
      (distinct_told d.bound)
      (tells_both (list_all (bound_fits (listed free) next) d.bound) (parts_fit defs (listed free) next scope d) ((v : Var) → IsTrue (is_in v d.bound) → IsNumbered next v × (is_in v free ≡ false))
      (IsTrue (list_all (atom_fits defs scope) d.atoms) × IsTrue (list_all (conjunct_fits (listed free) next scope) d.pure))
      (bound_told free next d.bound)
      (tells_both (list_all (atom_fits defs scope) d.atoms) (list_all (conjunct_fits (listed free) next scope) d.pure) (IsTrue (list_all (atom_fits defs scope) d.atoms)) (IsTrue (list_all (conjunct_fits (listed free) next scope) d.pure)) (λ h. h, λ h. h) (λ h. h, λ h. h)))

  atoms_told : Tells (list_all (atom_fits defs scope) d.atoms) (All (AtomIn defs scope) d.atoms)
  atoms_told = tells_all (atom_fits defs scope) (AtomIn defs scope) (atom_told defs scope) d.atoms

  conjuncts_told : ScopeNumbered → Tells (list_all (conjunct_fits (listed free) next scope) d.pure) (All (ConjunctIn free next scope) d.pure)
  conjuncts_told ok = tells_all (conjunct_fits (listed free) next scope) (ConjunctIn free next scope) (conjunct_told free next scope ok) d.pure

  from_parts : AreDistinct d.bound → ((v : Var) → IsTrue (is_in v d.bound) → IsNumbered next v × (is_in v free ≡ false)) → ScopeNumbered → All (AtomIn defs scope) d.atoms → All (ConjunctIn free next scope) d.pure → DisjunctFits defs free next d
  unfolding AtomIn ConjunctIn
  from_parts distinct bound ok atoms pures =
      let in_atoms : (v : Var) → IsTrue (list_any (in_atom v) d.atoms) → IsTrue (scope v) = any_forth in_atom (λ v. IsTrue (scope v)) d.atoms (λ i a less. (atoms i a less).1) in
      let in_pures : (v : Var) → IsTrue (list_any (is_free v) d.pure) → IsTrue (scope v) = any_forth is_free (λ v. IsTrue (scope v)) d.pure (λ i p less. (pures i p less).1.1) in
      let numbers : (v : Var) → IsTrue (list_any (occurs v) d.pure) → IsNumbered next v = any_forth occurs (IsNumbered next) d.pure (λ i p less. (pures i p less).1.0.numbers) in
      record {
        distinct = distinct;
        apart = λ u b. (bound u b).1;
        among = λ v k. let parts = and_parts (not (is_in v d.bound)) (list_any (in_atom v) d.atoms || list_any (is_free v) d.pure) k in
            free_part (is_in v d.bound) (is_in v free) parts.0 (either_all (λ v. list_any (in_atom v) d.atoms) (λ v. list_any (is_free v) d.pure) (λ v. IsTrue (scope v)) in_atoms in_pures v parts.1);
        numbers = either_all (λ v. is_in v d.bound) (λ v. list_any (in_atom v) d.atoms || list_any (occurs v) d.pure) (IsNumbered next) (λ v b. (bound v b).0)
            (either_all (λ v. list_any (in_atom v) d.atoms) (λ v. list_any (occurs v) d.pure) (IsNumbered next) (λ v k. ok v (in_atoms v k)) numbers);
        atoms = λ i a less. (atoms i a less).0;
        pure = λ i p less. (pures i p less).1.0;
        flat = λ i p less. (pures i p less).0;
      }

  to_atoms : DisjunctFits defs free next d → All (AtomIn defs scope) d.atoms
  unfolding AtomIn
  to_atoms h =
      let all : All (λ a. (v : Var) → IsTrue (in_atom v a) → IsTrue (scope v)) d.atoms = any_back in_atom (λ v. IsTrue (scope v)) d.atoms (λ v k. scope_part (is_in v d.bound) (is_in v free)
      (λ e. h.among v (and_from (not (is_in v d.bound)) (list_any (in_atom v) d.atoms || list_any (is_free v) d.pure) e (or_left (list_any (in_atom v) d.atoms) (list_any (is_free v) d.pure) k)))) in
      λ i a less. (h.atoms i a less, all i a less)

  to_conjuncts : DisjunctFits defs free next d → All (ConjunctIn free next scope) d.pure
  unfolding ConjunctIn
  to_conjuncts h =
      let all : All (λ p. (v : Var) → IsTrue (is_free v p) → IsTrue (scope v)) d.pure = any_back is_free (λ v. IsTrue (scope v)) d.pure (λ v k. scope_part (is_in v d.bound) (is_in v free)
      (λ e. h.among v (and_from (not (is_in v d.bound)) (list_any (in_atom v) d.atoms || list_any (is_free v) d.pure) e (or_right (list_any (in_atom v) d.atoms) (list_any (is_free v) d.pure) k)))) in
      λ i p less. (h.flat i p less, (h.pure i p less, all i p less))

  scope_numbered : ((v : Var) → IsTrue (is_in v d.bound) → IsNumbered next v) → ScopeNumbered
  scope_numbered bound = either_all (λ v. is_in v d.bound) (λ v. is_in v free) (IsNumbered next) bound numbered

  pub disjunct_told : Tells (disjunct_fits defs (listed free) next d) (DisjunctFits defs free next d)
  disjunct_told = tells (disjunct_fits defs (listed free) next d) Test (DisjunctFits defs free next d) disjunct_test
      (λ h. let ok : ScopeNumbered = scope_numbered (λ v b. (h.1.0 v b).0) in from_parts h.0 h.1.0 ok (atoms_told.0 h.1.1.0) ((conjuncts_told ok).0 h.1.1.1))
      (λ h.
      let of_bound : (v : Var) → IsTrue (is_in v d.bound) → IsNumbered next v = λ v b. h.numbers v (or_left (is_in v d.bound) (list_any (in_atom v) d.atoms || list_any (occurs v) d.pure) b) in
      (h.distinct, ((λ v b. (of_bound v b, h.apart v b)), (atoms_told.1 (to_atoms h), (conjuncts_told (scope_numbered of_bound)).1 (to_conjuncts h)))))

  short_told : Tells (short_fits defs (listed free) next d) (IsShort d × DisjunctFits defs free next d)
  short_told = tells_both (nat_le (length d.atoms) 64) (disjunct_fits defs (listed free) next d) (IsShort d) (DisjunctFits defs free next d) (tells_le (length d.atoms) 64) disjunct_told

-- ---- definitions

head_told : (params : List Var) (next : ℕ) → Tells (head_fits params next) (HeadFits params next)
head_told params next = tells (head_fits params next) ((1 < next) × ((next ≤ 1024) × (AreNumberedFrom 2 params × All (IsNumbered next) params))) (HeadFits params next)
    (tells_both (nat_lt 1 next) (nat_le next 1024 && follow_from next 2 params) (1 < next) ((next ≤ 1024) × (AreNumberedFrom 2 params × All (IsNumbered next) params)) (tells_lt 1 next)
    (tells_both (nat_le next 1024) (follow_from next 2 params) (next ≤ 1024) (AreNumberedFrom 2 params × All (IsNumbered next) params) (tells_le next 1024) (follow_told next 2 params (omega arith))))
    (λ h. record { params_follow = h.1.1.0; numbers = All-cons (IsNumbered next) self_var params (omega arith, h.0) h.1.1.1; bounded = h.1.0 })
    (λ h. ((first (IsNumbered next) self_var params h.numbers).1, (h.bounded, (h.params_follow, All-tail (IsNumbered next) self_var params h.numbers))))
  where
    first : (P : Var → Type 0) (v : Var) (vs : List Var) → All P (v ∷ vs) → P v
    first P v vs h = h zero v (omega arith)

head_numbered : (params : List Var) (next : ℕ) → HeadFits params next → (v : Var) → IsTrue (is_in v (self_var ∷ params)) → IsNumbered next v
head_numbered params next h = listed_forth (IsNumbered next) (self_var ∷ params) h.numbers

module _ (defs : Defs) where
  pred_told : (p : PredDef) → Tells (pred_fits defs p) (PredIsSound defs p)
  pred_told p =
      let free : List Var = self_var ∷ p.params in
      let cases : HeadFits p.params p.next → Tells (list_all (short_fits defs (listed free) p.next) p.body.cases) (All (λ d. IsShort d × DisjunctFits defs free p.next d) p.body.cases) =
      λ head. tells_all (short_fits defs (listed free) p.next) (λ d. IsShort d × DisjunctFits defs free p.next d) (short_told defs free p.next (head_numbered p.params p.next head)) p.body.cases in
      let inv : HeadFits p.params p.next → Tells (plain_fits (listed free) p.next p.inv (listed free)) (PureFits free p.next p.inv × AreAmong (λ v. is_free v p.inv) free) =
      λ head. plain_told free p.next (listed free) (head_numbered p.params p.next head) p.inv in (
        λ h.
            let parts = and_parts (head_fits p.params p.next) (nat_le (length p.body.cases) 16 && (list_all (short_fits defs (listed free) p.next) p.body.cases && plain_fits (listed free) p.next p.inv (listed free))) h in
            let more = and_parts (nat_le (length p.body.cases) 16) (list_all (short_fits defs (listed free) p.next) p.body.cases && plain_fits (listed free) p.next p.inv (listed free)) parts.1 in
            let last = and_parts (list_all (short_fits defs (listed free) p.next) p.body.cases) (plain_fits (listed free) p.next p.inv (listed free)) more.1 in
            let head : HeadFits p.params p.next = (head_told p.params p.next).0 parts.0 in
            let body = (cases head).0 last.0 in
            let invariant = (inv head).0 last.1 in
            record {
              head = head;
              body = λ i d less. (body i d less).1;
              cases = (tells_le (length p.body.cases) 16).0 more.0;
              short = λ i d less. (body i d less).0;
              invariant = invariant.0;
              invariant_among = invariant.1;
            },
        λ h. and_from (head_fits p.params p.next) (nat_le (length p.body.cases) 16 && (list_all (short_fits defs (listed free) p.next) p.body.cases && plain_fits (listed free) p.next p.inv (listed free)))
            ((head_told p.params p.next).1 h.head)
            (and_from (nat_le (length p.body.cases) 16) (list_all (short_fits defs (listed free) p.next) p.body.cases && plain_fits (listed free) p.next p.inv (listed free)) ((tells_le (length p.body.cases) 16).1 h.cases)
            (and_from (list_all (short_fits defs (listed free) p.next) p.body.cases) (plain_fits (listed free) p.next p.inv (listed free)) ((cases h.head).1 (λ i d less. (h.short i d less, h.body i d less))) ((inv h.head).1 (h.invariant, h.invariant_among)))),
      )

  lemma_told : (l : Lemma) → Tells (lemma_fits defs l) (LemmaIsSound defs l)
  lemma_told l =
      let free : List Var = self_var ∷ l.params in
      let right : HeadFits l.params l.next → Tells (short_fits defs (listed free) l.next l.right) (IsShort l.right × DisjunctFits defs free l.next l.right) =
      λ head. short_told defs free l.next (head_numbered l.params l.next head) l.right in
      let like : Tells (is_like_pred (pred_at defs l.pred) l.params) (argument_kinds defs (Pred l.pred) ≡ Some (kinds l.params)) = like_pred_told (pred_at defs l.pred) l.params in (
        λ h.
            let parts = and_parts (head_fits l.params l.next) (is_like_pred (pred_at defs l.pred) l.params && short_fits defs (listed free) l.next l.right) h in
            let more = and_parts (is_like_pred (pred_at defs l.pred) l.params) (short_fits defs (listed free) l.next l.right) parts.1 in
            let head : HeadFits l.params l.next = (head_told l.params l.next).0 parts.0 in
            let both = (right head).0 more.1 in
            record { head = head; like = like.0 more.0; right = both.1; short = both.0 },
        λ h. and_from (head_fits l.params l.next) (is_like_pred (pred_at defs l.pred) l.params && short_fits defs (listed free) l.next l.right) ((head_told l.params l.next).1 h.head)
            (and_from (is_like_pred (pred_at defs l.pred) l.params) (short_fits defs (listed free) l.next l.right) (like.1 h.like) ((right h.head).1 (h.short, h.right))),
      )

  pub sound_told : Tells (defs_fit defs) (IsSound defs)
  sound_told = tells (defs_fit defs) (All (PredIsSound defs) defs.preds × All (LemmaIsSound defs) defs.lemmas) (IsSound defs)
      (tells_both (list_all (pred_fits defs) defs.preds) (list_all (lemma_fits defs) defs.lemmas) (All (PredIsSound defs) defs.preds) (All (LemmaIsSound defs) defs.lemmas)
      (tells_all (pred_fits defs) (PredIsSound defs) pred_told defs.preds) (tells_all (lemma_fits defs) (LemmaIsSound defs) lemma_told defs.lemmas))
      (λ h. record { preds = h.0; lemmas = h.1 })
      (λ h. (h.preds, h.lemmas))
