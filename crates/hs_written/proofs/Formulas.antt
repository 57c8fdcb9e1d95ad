-- A written formula is read as itself.
use Rattle.std.proofs.Common.{◌≡◌, ℕ, suc, ◌-◌, nat_eq, Bool, true, false, not, ◌&&◌, if◌then◌else◌, List, [], ◌∷◌, ◌++◌, length, map, take, Some, append_assoc, refl, sym, ap, ◌∙◌, arith}
use Rattle.std.specs.Bool.{IsTrue}
use Rattle.std.specs.List.{fold, AllByRecursion, zip, flat_map}
use Rattle.std.proofs.Math.Bool.{and-false}
use Rattle.std.proofs.lemmas.Bool.Decides.{nat_tests}
use Rattle.std.proofs.lemmas.List.{append-nil, map_push, length-map, length-take-le, nil_from_length}
use mathlib.Core.Bool.{beq}
use Rattle.hs_tree.specs.declared.ident.Ident.{Ident}
use Rattle.hs_tree.specs.declared.expr.ExprTree.{ExprTree}
use Rattle.hs_tree.specs.declared.item.ItemTree.{ItemTree}
use Rattle.hs_tree.specs.declared.formula.ArgTree.{ArgTree}
use Rattle.hs_tree.specs.declared.formula.AtomTree.{AtomTree}
use Rattle.hs_tree.specs.declared.formula.DisjunctTree.{DisjunctTree}
use Rattle.hs_pure.specs.declared.var.Var.{Var}
use Rattle.hs_pure.specs.declared.pure.Pure.{Pure}
use Rattle.hs_heap.specs.declared.formula.Atom.{Atom}
use Rattle.hs_heap.specs.declared.formula.Disjunct.{Disjunct}
use Rattle.hs_heap.specs.declared.definitions.Defs.{Defs}
use Rattle.hs_heap.specs.Sound.{kinds}
use Rattle.hs_numbering.specs.declared.fault.Limit.{Limit}
use Rattle.hs_numbering.specs.declared.fault.Limit.TheVariants.{Atoms, Cases}
use Rattle.hs_numbering.specs.declared.fault.Problem.TheVariants.{TooMany}
use Rattle.hs_numbering.specs.declared.numbering.Named.{Named}
use Rattle.hs_numbering.specs.declared.numbering.Numbering.{Numbering}
use Rattle.hs_numbering.specs.Numbering.{Builder, ◌>>=◌, ◌>>◌, pure, each, each_counted, blame, bind, leave, leave_all, take_flat, take_equations}
use Rattle.hs_norm_formula.specs.declared.table.Entry.{Entry}
use Rattle.hs_norm_formula.specs.Sum.{blame_kind}
use Rattle.hs_norm_formula.specs.Expr.{bare}
use Rattle.hs_norm_formula.specs.Table.{entry}
use Rattle.hs_norm_formula.specs.Item.{Inner, item}
use Rattle.hs_norm_formula.specs.Splice.{conjuncts, conjuncts_of}
use Rattle.hs_norm_formula.specs.Formula.{value, argument, blame_arity, atom_of, atom_by, atom, limit, counted_atom, disjunct, counted_case}
use Rattle.hs_norm_formula.specs.Numbered.{entries_of, answer}
use Rattle.hs_norm_formula.proofs.Splicing.{conjuncts-alone}
use Rattle.hs_written.specs.Writable.{has_number, is_among, pure_fits, AtomIsWritable, bound_fit, bound_numbers, ConjunctIsWritable, DisjunctIsWritable, AreDifferent, names_of}
use Rattle.hs_written.specs.Written.{Names, Pairwise, none, another, IsArg, IsAtom, IsDisjunct}
use Rattle.hs_written.specs.Written as written
use Rattle.hs_written.specs.Laws.{WrittenIsRead}
use Rattle.hs_written.proofs.Names.{both_true, not_true}
use Rattle.hs_written.proofs.State.{inside, resolve-numbered, number_var-numbered, each_from_pairs}
use Rattle.hs_written.proofs.Exprs.{bare-bare}
use Rattle.hs_written.proofs.Binders.{numbers, entered, bind-numbered}
use Rattle.hs_written.proofs.Items.{AllFit, items_read}
use Rattle.hs_written.proofs.Entries.{entry_found}

-- ---- pairs

module _ {A B : Type 0} where
  length-pairs : (R : A → B → Type 0) (xs : List A) (ys : List B) → Pairwise R xs ys → length xs ≡ length ys
  length-pairs R _ _ none = refl
  length-pairs R _ _ (another {xs = xs} {ys = ys} r rest) = ap suc (length-pairs R xs ys rest)

  -- what holds of each first helps with each pair
  pairs_with : (P : A → Type 0) (R S : A → B → Type 0) → ((x : A) (y : B) → P x → R x y → S x y) → (xs : List A) (ys : List B) → AllByRecursion P xs → Pairwise R xs ys → Pairwise S xs ys
  pairs_with P R S f _ _ all none = none
  pairs_with P R S f _ _ all (another {x = x} {y = y} {xs = xs} {ys = ys} r rest) = another (f x y all.0 r) (pairs_with P R S f xs ys all.1 rest)

module _ {A B : Type 0} (f : ℕ → A → Builder B) (n : Numbering) where
  counted_from_pairs : (ys zs : List B) (xs : List A) → Pairwise (λ y x. (k : ℕ) → f k x n ≡ (y, n)) ys xs →
      fold (λ (done : List B × Numbering) x. (done.0 ++ (f (length done.0) x done.1).0 ∷ [], (f (length done.0) x done.1).1)) (zs, n) xs ≡ (zs ++ ys, n)
  counted_from_pairs _ zs _ none = λ j. (sym (append-nil zs) j, n)
  counted_from_pairs _ zs _ (another {x = y} {y = x} {xs = ys} {ys = xs} e rest) =
      (λ j. fold (λ (done : List B × Numbering) x. (done.0 ++ (f (length done.0) x done.1).0 ∷ [], (f (length done.0) x done.1).1)) (zs ++ (e (length zs) j).0 ∷ [], (e (length zs) j).1) xs)
      ∙ counted_from_pairs ys (zs ++ y ∷ []) xs rest ∙ λ j. (append_assoc zs (y ∷ []) ys j, n)

  each_counted_from_pairs : (ys : List B) (xs : List A) → Pairwise (λ y x. (k : ℕ) → f k x n ≡ (y, n)) ys xs → each_counted f xs n ≡ (ys, n)
  each_counted_from_pairs ys xs h = counted_from_pairs ys [] xs h

-- the numbered form has no limits
limit-numbered : (most : ℕ) (l : Limit) (at count : ℕ) (around : List Named) → limit most l at count (inside around) ≡ (tt, inside around)
limit-numbered most l at count around = ap (λ b. if b then blame at (TooMany l) (inside around) else (tt {0}, inside around)) (and-false (nat_eq count most))

-- ---- atoms

same_kind : (b : Bool) → not (beq b b) ≡ false
same_kind true = refl
same_kind false = refl

value_read : (v : Var) (e : ExprTree) (x : Ident) (around : List Named) → bare e ≡ Some x → IsTrue (has_number v) → Names v x → value v.bag e (bare e) (inside around) ≡ (v, inside around)
value_read v e x around bares h is =
    ap (λ o. value v.bag e o (inside around)) bares
    ∙ ap (λ (z : Var × Numbering). (blame_kind x.at (not (beq z.0.bag v.bag)) >> pure z.0) z.1) (resolve-numbered v x around h is)
    ∙ ap (λ b. (blame_kind x.at b >> pure v) (inside around)) (same_kind v.bag)

arg_read : (v : Var) (t : ArgTree) (around : List Named) → IsTrue (has_number v) → IsArg v t → argument v.bag t (inside around) ≡ (v, inside around)
unfolding argument
arg_read v _ around h (written.value (written.bare {x = x} {at = at} is)) = value_read v _ x around (bare-bare x at) h is

args_read : (vs : List Var) (ts : List ArgTree) (around : List Named) → AllByRecursion (λ v. IsTrue (has_number v)) vs → Pairwise IsArg vs ts →
    Pairwise (λ v (p : Bool × ArgTree). argument p.0 p.1 (inside around) ≡ (v, inside around)) vs (zip (kinds vs) ts)
args_read _ _ around all none = none
args_read _ _ around all (another {x = v} {y = t} {xs = vs} {ys = ts} is rest) = another (arg_read v t around all.0 is) (args_read vs ts around all.1 rest)

equal_numbers : (m n : ℕ) → m ≡ n → nat_eq m n ≡ true
equal_numbers m n e = grind (arith, nat_tests)

atom_of_read : (a : Atom) (e : Entry) (t : AtomTree) (around : List Named) → e.of ≡ a.of → e.kinds ≡ kinds a.args → AllByRecursion (λ v. IsTrue (has_number v)) a.args → Pairwise IsArg a.args t.args →
    atom_of a.root e t (inside around) ≡ (a, inside around)
atom_of_read a e t around of ks all is =
    let many : nat_eq (length e.kinds) (length t.args) ≡ true = equal_numbers (length e.kinds) (length t.args) (ap length ks ∙ length-map a.args (λ v. v.bag) ∙ length-pairs IsArg a.args t.args is) in
    ap (λ b. (blame_arity t.root.at b >> (each (λ p. argument p.0 p.1) (zip e.kinds t.args) >>= λ args. pure (record { root = a.root; of = e.of; args = args }))) (inside around)) many
    ∙ ap (λ ks. (each (λ p. argument p.0 p.1) (zip ks t.args) >>= λ args. pure (record { root = a.root; of = e.of; args = args })) (inside around)) ks
    ∙ ap (λ (z : List Var × Numbering). (record { root = a.root; of = e.of; args = z.0 }, z.1)) (each_from_pairs (λ (p : Bool × ArgTree). argument p.0 p.1) (inside around) a.args (zip (kinds a.args) t.args) (args_read a.args t.args around all is))
    ∙ λ j. (record { root = a.root; of = of j; args = a.args }, inside around)

module _ (defs : Defs) (different : AreDifferent (names_of defs)) where
  atom_read : (a : Atom) (t : AtomTree) → AtomIsWritable defs a → IsAtom defs a t → (around : List Named) → atom (entries_of defs) t (inside around) ≡ (a, inside around)
  unfolding atom
  atom_read a t fit is around =
      ap (λ (z : Var × Numbering). (atom_by z.0 (entry t.name.text (entries_of defs)) t) z.1) (number_var-numbered a.root t.root around fit.root fit.fits.0 is.root)
      ∙ ap (λ o. atom_by a.root o t (inside around)) (entry_found defs different t.name.text (kinds a.args) a.of fit.number fit.fits.1 is.of)
      ∙ atom_of_read a (record { name = t.name.text; of = a.of; kinds = kinds a.args }) t around refl refl fit.args is.args

  counted_atom_read : (a : Atom) (t : AtomTree) → AtomIsWritable defs a → IsAtom defs a t → (around : List Named) (k : ℕ) → counted_atom (entries_of defs) k t (inside around) ≡ (a, inside around)
  counted_atom_read a t fit is around k = ap (λ (z : Unit {0} × Numbering). atom (entries_of defs) t z.1) (limit-numbered 64 Atoms t.root.at k around) ∙ atom_read a t fit is around

  atoms_read : (xs : List Atom) (ts : List AtomTree) → AllByRecursion (AtomIsWritable defs) xs → Pairwise (IsAtom defs) xs ts → (around : List Named) → each_counted (counted_atom (entries_of defs)) ts (inside around) ≡ (xs, inside around)
  atoms_read xs ts all is around = each_counted_from_pairs (counted_atom (entries_of defs)) (inside around) xs ts
      (pairs_with (AtomIsWritable defs) (IsAtom defs) (λ a t. (k : ℕ) → counted_atom (entries_of defs) k t (inside around) ≡ (a, inside around)) (λ a t fit is k. counted_atom_read a t fit is around k) xs ts all is)

-- ---- what a disjunct binds

-- the binders of these variables, by these names
named : List Var → List Ident → List Named
named [] xs = []
named (v ∷ vs) [] = []
named (v ∷ vs) (x ∷ xs) = entered x v ∷ named vs xs

bound_from : (vs zs : List Var) (xs : List Ident) (around : List Named) → IsTrue (bound_fit (numbers around) vs) → Pairwise Names vs xs →
    fold (λ (done : List Var × Numbering) x. (done.0 ++ (bind x done.1).0 ∷ [], (bind x done.1).1)) (zs, inside around) xs ≡ (zs ++ vs, inside (around ++ named vs xs))
unfolding named
bound_from _ zs _ around fit none = λ j. (sym (append-nil zs) j, inside (sym (append-nil around) j))
bound_from _ zs _ around fit (another {x = v} {y = x} {xs = vs} {ys = xs} is rest) =
    let a = both_true (has_number v && not (is_among v.number (numbers around))) (bound_fit (numbers around ++ v.number ∷ []) vs) fit in
    let b = both_true (has_number v) (not (is_among v.number (numbers around))) a.0 in
    let e = bind-numbered v x around b.0 (not_true (is_among v.number (numbers around)) b.1) is in
    let more : IsTrue (bound_fit (numbers (around ++ entered x v ∷ [])) vs) = ap (λ ns. bound_fit ns vs) (map_push (λ (m : Named). m.var.number) around (entered x v)) ∙ a.1 in
    (λ j. fold (λ (done : List Var × Numbering) x. (done.0 ++ (bind x done.1).0 ∷ [], (bind x done.1).1)) (zs ++ (e j).0 ∷ [], (e j).1) xs)
    ∙ bound_from vs (zs ++ v ∷ []) xs (around ++ entered x v ∷ []) more rest
    ∙ λ j. (append_assoc zs (v ∷ []) vs j, inside (append_assoc around (entered x v ∷ []) (named vs xs) j))

numbers-named : (vs : List Var) (xs : List Ident) → Pairwise Names vs xs → numbers (named vs xs) ≡ map (λ v. v.number) vs
unfolding named
numbers-named _ _ none = refl
numbers-named _ _ (another {x = v} {y = x} {xs = vs} {ys = xs} is rest) = ap (λ ns. v.number ∷ ns) (numbers-named vs xs rest)

length-named : (vs : List Var) (xs : List Ident) → Pairwise Names vs xs → length (named vs xs) ≡ length xs
unfolding named
length-named _ _ none = refl
length-named _ _ (another {x = v} {y = x} {xs = vs} {ys = xs} is rest) = ap suc (length-named vs xs rest)

-- as many are left as are around
left : (xs : List Ident) (around : List Named) → length around ≡ length xs → fold (λ n x. (leave n).1) (inside around) xs ≡ inside []
unfolding leave
left [] around e = ap inside (nil_from_length around e)
left (x ∷ xs) around e = left xs (take (length around - 1) around) (shorter around (length xs) e)
  where
    shorter : (around : List Named) (k : ℕ) → length around ≡ suc k → length (take (length around - 1) around) ≡ k
    shorter around k e = omega (arith, length-take-le (length around - 1) around (omega arith))

-- ---- conjuncts

conjuncts_alone : (around : List ℕ) (ps : List Pure) → AllByRecursion (ConjunctIsWritable around) ps → flat_map conjuncts ps ≡ ps
conjuncts_alone around [] all = refl
conjuncts_alone around (p ∷ ps) all = λ j. conjuncts-alone p (all.0.flat) j ++ conjuncts_alone around ps all.1 j

all_fit : (around : List Named) (ns : List ℕ) (ps : List Pure) → numbers around ≡ ns → AllByRecursion (ConjunctIsWritable ns) ps → AllFit ps around false
all_fit around ns [] e all = refl
all_fit around ns (p ∷ ps) e all = λ j. (ap (λ ns. pure_fits p ns false) e ∙ all.0.fits) j && all_fit around ns ps e all.1 j

written_read : (ns : List ℕ) (around : List Named) (ps : List Pure) (is : List ItemTree) → numbers around ≡ ns → AllByRecursion (ConjunctIsWritable ns) ps → written.AreItems ps is →
    conjuncts_of (map item is) (inside around) ≡ (ps, inside around)
written_read ns around ps is e all h =
    ap (λ (z : List Pure × Numbering). (flat_map conjuncts z.0, z.1)) (each_from_pairs (λ (i : Inner). i false) (inside around) ps (map item is) (items_read ps is h false around (all_fit around ns ps e all)))
    ∙ λ j. (conjuncts_alone ns ps all j, inside around)

-- ---- formulas

-- what follows when all is left
abbrev ended : List Var → List Atom → List Pure → Builder Disjunct
ended bound atoms written = take_flat >>= λ flat. take_equations >>= λ equations. pure (record { bound = bound ++ flat; atoms = atoms; pure = equations ++ written })

module _ (defs : Defs) (different : AreDifferent (names_of defs)) where
  disjunct_read : (d : Disjunct) (t : DisjunctTree) → DisjunctIsWritable defs d → IsDisjunct defs d t → disjunct (entries_of defs) t (inside []) ≡ (d, inside [])
  unfolding disjunct
  disjunct_read d t fit is =
      let around = named d.bound t.bound in
      ap (λ (z : List Var × Numbering). (each_counted (counted_atom (entries_of defs)) t.atoms >>= λ atoms. conjuncts_of (map item t.items) >>= λ written. leave_all t.bound >> ended z.0 atoms written) z.1)
      (bound_from d.bound [] t.bound [] fit.bound is.bound)
      ∙ ap (λ (z : List Atom × Numbering). (conjuncts_of (map item t.items) >>= λ written. leave_all t.bound >> ended d.bound z.0 written) z.1) (atoms_read defs different d.atoms t.atoms fit.atoms is.atoms around)
      ∙ ap (λ (z : List Pure × Numbering). (leave_all t.bound >> ended d.bound d.atoms z.0) z.1)
      (written_read (bound_numbers d) around d.pure t.items (numbers-named d.bound t.bound is.bound) fit.pure is.items)
      ∙ ap (ended d.bound d.atoms d.pure) (left t.bound around (length-named d.bound t.bound is.bound))
      ∙ λ j. (record { bound = append-nil d.bound j; atoms = d.atoms; pure = d.pure }, inside [])

  counted_case_read : (d : Disjunct) (t : DisjunctTree) → DisjunctIsWritable defs d → IsDisjunct defs d t → (k : ℕ) → counted_case (entries_of defs) k t (inside []) ≡ (d, inside [])
  counted_case_read d t fit is k = ap (λ (z : Unit {0} × Numbering). disjunct (entries_of defs) t z.1) (limit-numbered 16 Cases t.at k []) ∙ disjunct_read d t fit is

pub written_is_read : WrittenIsRead
written_is_read defs f tree fit is =
    ap answer (ap (λ (z : List Disjunct × Numbering). (record { cases = z.0 }, z.1)) (each_counted_from_pairs (counted_case (entries_of defs)) (inside []) f.cases tree.cases
    (pairs_with (DisjunctIsWritable defs) (IsDisjunct defs) (λ d t. (k : ℕ) → counted_case (entries_of defs) k t (inside []) ≡ (d, inside [])) (counted_case_read defs fit.defs_fit.different) f.cases tree.cases fit.cases is)))
