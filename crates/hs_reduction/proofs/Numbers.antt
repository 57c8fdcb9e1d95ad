-- The numbers of the reduction.
use Rattle.std.proofs.Common.{◌≡◌, ℕ, zero, suc, ◌+◌, ◌*◌, ◌<◌, ◌≤◌, ℤ, Bool, true, false, List, [], ◌∷◌, length, refl, arith}
use Rattle.std.specs.List.{fold}
use Rattle.std.proofs.lemmas.Bool.{and_parts, or_parts}
use Rattle.std.proofs.lemmas.Nat.{mul-add-lt}
use Rattle.hs_pure.specs.declared.var.Var.{Var}
use Rattle.hs_pure.specs.declared.lin.Lin.{Lin}
use Rattle.hs_pure.specs.Assertion.{BagTerm, empty, name, one, union, inter, diff, Assertion, truth, eq, lt, le, divides, bag_eq, subset, member, all_of, negation, both, either, exists, forall}
use Rattle.hs_elimination.specs.Linear.{plus, times, number}
use Rattle.hs_elimination.specs.Ordered.{has_bag_literal}
use Rattle.hs_elimination.proofs.Variables.{each-merge, each-scale}
use Rattle.hs_reduction.specs.Layout.{bags_plain, variable, Layout, layout, width, element, count_number, lin_place, name_place, bag_compounds, compounds, denied, after}
use Rattle.hs_reduction.specs.Instance.{Substitution, itself, instead, substituted_lin, substituted, depth, Instance, replaced, stated, instance, instance_depth}
use Rattle.hs_reduction.specs.Reduction.{all_below, count_term, defined, all_defined, signed, reduced, equal_at, within_at, held_at, equal_counts, is_count, are_counts, inner_depth, reduction, next}
use Rattle.hs_reduction.specs.Laws.{NumbersAreBelow}
use Rattle.hs_reduction.proofs.Below.{IsBelow, TermsBelow, LinBelow, BagBelow, Below, from_top, top-below, lin_below_more}
use Rattle.hs_reduction.proofs.Values.{Ranges, under_ranges}
use Rattle.hs_reduction.proofs.Instances.{instead-ranges}
use Rattle.hs_reduction.proofs.Places.{name_place-is}
use Rattle.hs_reduction.proofs.Counts.{BagFits, Fits, place_within}
use Rattle.hs_reduction.proofs.Back.{AllBelow, element_below, none_under}
use Rattle.hs_reduction.proofs.Laid.{layout-fits, layout-below}

below-plus : (n : ℕ) (a b : Lin) → LinBelow n a → LinBelow n b → LinBelow n (plus a b)
below-plus n a b h k = each-merge (IsBelow n) a.terms b.terms h k

below-terms : (k n : ℕ) (f : Substitution) (sum : Lin) (ts : List (Var × ℤ)) → TermsBelow k ts → Ranges k n f → LinBelow n sum →
    LinBelow n (fold (λ sum t. plus sum (times t.1 (f t.0))) sum ts)
below-terms k n f sum [] low range h = h
below-terms k n f sum (t ∷ ts) low range h =
    below-terms k n f (plus sum (times t.1 (f t.0))) ts low.1 range (below-plus n sum (times t.1 (f t.0)) h (each-scale (IsBelow n) t.1 (f t.0).terms (range t.0 low.0)))

below-substituted_lin : (k n m : ℕ) (f : Substitution) (a : Lin) → n ≤ m → LinBelow k a → Ranges k n f → LinBelow m (substituted_lin f a)
below-substituted_lin k n m f a more low range = lin_below_more n m more (substituted_lin f a) (below-terms k n f (number a.constant) a.terms low range tt)

below-substituted : (p : Assertion) (k n m : ℕ) (f : Substitution) → Below k p → Ranges k n f → n + depth p ≤ m → Below m (substituted f n p)
below-substituted truth k n m f below range room = tt
below-substituted (eq a b) k n m f below range room = (below-substituted_lin k n m f a (omega arith) below.0 range, below-substituted_lin k n m f b (omega arith) below.1 range)
below-substituted (lt a b) k n m f below range room = (below-substituted_lin k n m f a (omega arith) below.0 range, below-substituted_lin k n m f b (omega arith) below.1 range)
below-substituted (le a b) k n m f below range room = (below-substituted_lin k n m f a (omega arith) below.0 range, below-substituted_lin k n m f b (omega arith) below.1 range)
below-substituted (divides d a) k n m f below range room = below-substituted_lin k n m f a (omega arith) below range
below-substituted (bag_eq a b) k n m f below range room = tt
below-substituted (subset a b) k n m f below range room = tt
below-substituted (member a b) k n m f below range room = tt
below-substituted (all_of u b p) k n m f below range room = tt
below-substituted (negation p) k n m f below range room = below-substituted p k n m f below range room
below-substituted (both p q) k n m f below range room = (below-substituted p k n m f below.0 range (omega arith), below-substituted q k n m f below.1 range (omega arith))
below-substituted (either p q) k n m f below range room = (below-substituted p k n m f below.0 range (omega arith), below-substituted q k n m f below.1 range (omega arith))
below-substituted (exists u p) k n m f below range room = (omega arith, below-substituted p k (suc n) m (instead u (variable n) f) below.1 (under_ranges k n u f range) (omega arith))
below-substituted (forall u p) k n m f below range room = (omega arith, below-substituted p k (suc n) m (instead u (variable n) f) below.1 (under_ranges k n u f range) (omega arith))

below-instance : (way : Instance) (u : Var) (a : Lin) (p : Assertion) (k n m : ℕ) → k ≤ n → LinBelow n a → Below k p → n + instance_depth way p ≤ m → Below m (instance way u a n p)
below-instance replaced u a p k n m low low_term below room = below-substituted p k n m (instead u a itself) below (instead-ranges k n u a low low_term) room
below-instance stated u a p k n m low low_term below room = (
  omega arith,
  (
    ((omega arith, tt), lin_below_more n m (omega arith) a low_term),
    below-substituted p k (suc n) m (instead u (variable n) itself) below (instead-ranges k (suc n) u (variable n) (omega arith) (omega arith, tt)) (omega arith),
  ),
)

plain_below_more : (p : Assertion) (k n : ℕ) → k ≤ n → has_bag_literal p ≡ false → Below k p → Below n p
plain_below_more truth k n more plain h = tt
plain_below_more (eq a b) k n more plain h = (lin_below_more k n more a h.0, lin_below_more k n more b h.1)
plain_below_more (lt a b) k n more plain h = (lin_below_more k n more a h.0, lin_below_more k n more b h.1)
plain_below_more (le a b) k n more plain h = (lin_below_more k n more a h.0, lin_below_more k n more b h.1)
plain_below_more (divides d a) k n more plain h = lin_below_more k n more a h
plain_below_more (bag_eq a b) k n more plain h = absurd cc
plain_below_more (subset a b) k n more plain h = absurd cc
plain_below_more (member a b) k n more plain h = absurd cc
plain_below_more (all_of u b p) k n more plain h = absurd cc
plain_below_more (negation p) k n more plain h = plain_below_more p k n more plain h
plain_below_more (both p q) k n more plain h = let (f, g) = or_parts (has_bag_literal p) (has_bag_literal q) plain in (plain_below_more p k n more f h.0, plain_below_more q k n more g h.1)
plain_below_more (either p q) k n more plain h = let (f, g) = or_parts (has_bag_literal p) (has_bag_literal q) plain in (plain_below_more p k n more f h.0, plain_below_more q k n more g h.1)
plain_below_more (exists u p) k n more plain h = (omega (arith, h.0), plain_below_more p k n more plain h.1)
plain_below_more (forall u p) k n more plain h = (omega (arith, h.0), plain_below_more p k n more plain h.1)

below-all_below : (k n : ℕ) (f : ℕ → Assertion) → ((i : ℕ) → i < n → Below k (f i)) → Below k (all_below n f)
below-all_below k zero f h = tt
below-all_below k (suc zero) f h = h 0 (omega arith)
below-all_below k (suc (suc n)) f h = (below-all_below k (suc n) f (λ i less. h i (omega arith)), h (suc n) (omega arith))

below-signed : (b : Bool) (k : ℕ) (p : Assertion) → Below k p → Below k (signed b p)
below-signed true k p h = h
below-signed false k p h = h

-- all blocks are those before `blocks`
module _ (l : Layout) (listed : AllBelow l.start l.listed) (blocks m : ℕ) (bags_in : length l.bags ≤ blocks) (room : l.start + l.new + blocks * width l ≤ m) where
  number_below : (block i : ℕ) → block < blocks → i < width l → count_number l block i < m
  number_below block i h k = let place = mul-add-lt block (width l) i blocks h k in omega (arith, place)

  element_in : (i : ℕ) → i < width l → LinBelow m (element l i)
  element_in i h = lin_below_more (l.start + l.new) m (omega arith) (element l i) (element_below l listed i h)

  term_in : (b : BagTerm) (block i : ℕ) → BagFits l b → block + bag_compounds b ≤ blocks → i < width l → LinBelow m (count_term l block b i)
  term_in empty block i fits h k = tt
  term_in (name v) block i fits h k = (number_below (name_place v l.bags) i (let place = (name_place-is v v l.bags fits).0 in omega (arith, place)) k, tt)
  term_in (one a) block i fits h k = (number_below block i (omega arith) k, tt)
  term_in (union a b) block i fits h k = (number_below (block + bag_compounds a + bag_compounds b) i (omega arith) k, tt)
  term_in (inter a b) block i fits h k = (number_below (block + bag_compounds a + bag_compounds b) i (omega arith) k, tt)
  term_in (diff a b) block i fits h k = (number_below (block + bag_compounds a + bag_compounds b) i (omega arith) k, tt)

  defined_in : (b : BagTerm) (block i : ℕ) → BagFits l b → BagBelow l.start b → block + bag_compounds b ≤ blocks → i < width l → Below m (defined l block b i)
  defined_in empty block i fits below h k = tt
  defined_in (name v) block i fits below h k = tt
  defined_in (one a) block i fits below h k =
      let c = term_in (one a) block i fits h k in
      let e = element_in i k in
      let own = lin_below_more l.start m (omega arith) a below in
      (((e, own), (c, tt)), ((e, own), (c, tt)))
  defined_in (union a b) block i fits below h k =
      let c = term_in (union a b) block i fits h k in
      let x = term_in a block i fits.0 (omega arith) k in
      let y = term_in b (block + bag_compounds a) i fits.1 (omega arith) k in (
        (defined_in a block i fits.0 below.0 (omega arith) k, defined_in b (block + bag_compounds a) i fits.1 below.1 (omega arith) k),
        (c, below-plus m (count_term l block a i) (count_term l (block + bag_compounds a) b i) x y),
      )
  defined_in (inter a b) block i fits below h k =
      let c = term_in (inter a b) block i fits h k in
      let x = term_in a block i fits.0 (omega arith) k in
      let y = term_in b (block + bag_compounds a) i fits.1 (omega arith) k in
      ((defined_in a block i fits.0 below.0 (omega arith) k, defined_in b (block + bag_compounds a) i fits.1 below.1 (omega arith) k), (((x, y), (c, x)), ((y, x), (c, y))))
  defined_in (diff a b) block i fits below h k =
      let c = term_in (diff a b) block i fits h k in
      let x = term_in a block i fits.0 (omega arith) k in
      let y = term_in b (block + bag_compounds a) i fits.1 (omega arith) k in (
        (defined_in a block i fits.0 below.0 (omega arith) k, defined_in b (block + bag_compounds a) i fits.1 below.1 (omega arith) k),
        (((x, y), (c, tt)), ((y, x), (below-plus m (count_term l block (diff a b) i) (count_term l (block + bag_compounds a) b i) c y, x))),
      )

  all_in : (b : BagTerm) (block : ℕ) → BagFits l b → BagBelow l.start b → block + bag_compounds b ≤ blocks → Below m (all_defined l block b)
  all_in b block fits below h = below-all_below m (width l) (defined l block b) (λ i k. defined_in b block i fits below h k)

  module _ (way : Instance) (end : ℕ) (ends : l.start + l.new ≤ end) where
    instance_in : (u : Var) (p : Assertion) (i : ℕ) → i < width l → Below l.start p → end + instance_depth way p ≤ m → Below m (instance way u (element l i) end p)
    instance_in u p i k low more =
        below-instance way u (element l i) p l.start end m (omega arith) (lin_below_more (l.start + l.new) end ends (element l i) (element_below l listed i k)) low more

    reduced_in : (asserted : Bool) (p : Assertion) (new block : ℕ) → Fits l p → Below l.start p → bags_plain p ≡ true → new + denied asserted p ≤ l.new → block + compounds p ≤ blocks →
        end + inner_depth way p ≤ m → Below m (reduced l way end asserted p new block)
    reduced_in true truth new block fits below plain size h deep = tt
    reduced_in false truth new block fits below plain size h deep = tt
    reduced_in true (eq a b) new block fits below plain size h deep = plain_below_more (eq a b) l.start m (omega arith) refl below
    reduced_in false (eq a b) new block fits below plain size h deep = plain_below_more (eq a b) l.start m (omega arith) refl below
    reduced_in true (lt a b) new block fits below plain size h deep = plain_below_more (lt a b) l.start m (omega arith) refl below
    reduced_in false (lt a b) new block fits below plain size h deep = plain_below_more (lt a b) l.start m (omega arith) refl below
    reduced_in true (le a b) new block fits below plain size h deep = plain_below_more (le a b) l.start m (omega arith) refl below
    reduced_in false (le a b) new block fits below plain size h deep = plain_below_more (le a b) l.start m (omega arith) refl below
    reduced_in true (divides d a) new block fits below plain size h deep = plain_below_more (divides d a) l.start m (omega arith) refl below
    reduced_in false (divides d a) new block fits below plain size h deep = plain_below_more (divides d a) l.start m (omega arith) refl below
    reduced_in true (exists u p) new block fits below plain size h deep = plain_below_more (exists u p) l.start m (omega arith) (none_under (has_bag_literal p) plain) below
    reduced_in false (exists u p) new block fits below plain size h deep = plain_below_more (exists u p) l.start m (omega arith) (none_under (has_bag_literal p) plain) below
    reduced_in true (forall u p) new block fits below plain size h deep = plain_below_more (forall u p) l.start m (omega arith) (none_under (has_bag_literal p) plain) below
    reduced_in false (forall u p) new block fits below plain size h deep = plain_below_more (forall u p) l.start m (omega arith) (none_under (has_bag_literal p) plain) below
    reduced_in true (bag_eq a b) new block fits below plain size h deep = (
      (all_in a block fits.0 below.0 (omega arith), all_in b (block + bag_compounds a) fits.1 below.1 (omega arith)),
      below-all_below m (width l) (equal_at l block a b) (λ i k. (term_in a block i fits.0 (omega arith) k, term_in b (block + bag_compounds a) i fits.1 (omega arith) k)),
    )
    reduced_in false (bag_eq a b) new block fits below plain size h deep = (
      (all_in a block fits.0 below.0 (omega arith), all_in b (block + bag_compounds a) fits.1 below.1 (omega arith)),
      (term_in a block (length l.listed + new) fits.0 (omega arith) (omega arith), term_in b (block + bag_compounds a) (length l.listed + new) fits.1 (omega arith) (omega arith)),
    )
    reduced_in true (subset a b) new block fits below plain size h deep = (
      (all_in a block fits.0 below.0 (omega arith), all_in b (block + bag_compounds a) fits.1 below.1 (omega arith)),
      below-all_below m (width l) (within_at l block a b) (λ i k. (term_in a block i fits.0 (omega arith) k, term_in b (block + bag_compounds a) i fits.1 (omega arith) k)),
    )
    reduced_in false (subset a b) new block fits below plain size h deep = (
      (all_in a block fits.0 below.0 (omega arith), all_in b (block + bag_compounds a) fits.1 below.1 (omega arith)),
      (term_in a block (length l.listed + new) fits.0 (omega arith) (omega arith), term_in b (block + bag_compounds a) (length l.listed + new) fits.1 (omega arith) (omega arith)),
    )
    reduced_in true (member a b) new block fits below plain size h deep =
        (all_in b block fits.1 below.1 h, (tt, term_in b block (lin_place a l.listed) fits.1 h (place_within l a fits.0)))
    reduced_in false (member a b) new block fits below plain size h deep =
        (all_in b block fits.1 below.1 h, (tt, term_in b block (lin_place a l.listed) fits.1 h (place_within l a fits.0)))
    reduced_in true (all_of u b p) new block fits below plain size h deep = (
      all_in b block fits below.1 h,
      below-all_below m (width l) (held_at l way end block u b p) (λ i k. ((term_in b block i fits h k, tt), instance_in u p i k below.2 deep)),
    )
    reduced_in false (all_of u b p) new block fits below plain size h deep = (
      all_in b block fits below.1 h,
      ((tt, term_in b block (length l.listed + new) fits h (omega arith)), instance_in u p (length l.listed + new) (omega arith) below.2 deep),
    )
    reduced_in true (negation p) new block fits below plain size h deep = reduced_in false p new block fits below plain size h deep
    reduced_in false (negation p) new block fits below plain size h deep = reduced_in true p new block fits below plain size h deep
    reduced_in true (both p q) new block fits below plain size h deep =
        let (f, g) = and_parts (bags_plain p) (bags_plain q) plain in
        (reduced_in true p new block fits.0 below.0 f (omega arith) (omega arith) (omega arith), reduced_in true q (new + denied true p) (block + compounds p) fits.1 below.1 g (omega arith) (omega arith) (omega arith))
    reduced_in false (both p q) new block fits below plain size h deep =
        let (f, g) = and_parts (bags_plain p) (bags_plain q) plain in
        (reduced_in false p new block fits.0 below.0 f (omega arith) (omega arith) (omega arith), reduced_in false q (new + denied false p) (block + compounds p) fits.1 below.1 g (omega arith) (omega arith) (omega arith))
    reduced_in true (either p q) new block fits below plain size h deep =
        let (f, g) = and_parts (bags_plain p) (bags_plain q) plain in
        (reduced_in true p new block fits.0 below.0 f (omega arith) (omega arith) (omega arith), reduced_in true q (new + denied true p) (block + compounds p) fits.1 below.1 g (omega arith) (omega arith) (omega arith))
    reduced_in false (either p q) new block fits below plain size h deep =
        let (f, g) = and_parts (bags_plain p) (bags_plain q) plain in
        (reduced_in false p new block fits.0 below.0 f (omega arith) (omega arith) (omega arith), reduced_in false q (new + denied false p) (block + compounds p) fits.1 below.1 g (omega arith) (omega arith) (omega arith))

  counts_in : (block : ℕ) → block < blocks → Below m (are_counts l block)
  counts_in block h = below-all_below m (width l) (is_count l block) (λ i k. (
    (tt, (number_below block i h k, tt)),
    below-all_below m i (equal_counts l block i) (λ j less. ((element_in i k, element_in j (omega arith)), ((number_below block i h k, tt), (number_below block j h (omega arith), tt)))),
  ))

pub numbers_are_below : NumbersAreBelow
numbers_are_below way start p top plain =
    let l = layout start p in
    let low = from_top start p top in
    let listed = layout-below start p low in
    let blocks = length l.bags + compounds p in
    top-below (next way start p) (reduction way start p) (omega arith) (
      below-all_below (next way start p) (length l.bags) (are_counts l) (λ block h. counts_in l listed blocks (next way start p) (omega arith) (omega arith) block (omega arith)),
      reduced_in l listed blocks (next way start p) (omega arith) (omega arith) way (after l p) (omega arith) true p 0 (length l.bags) (layout-fits start p) low plain (omega arith) (omega arith) (omega arith),
    )
