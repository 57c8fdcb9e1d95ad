-- Names in the numbered form, and lists of what is built there.
use Rattle.std.proofs.Common.{◌≡◌, false, List, [], ◌∷◌, ◌++◌, append_assoc, sym, ap, ◌∙◌}
use Rattle.std.specs.Bool.{IsTrue}
use Rattle.std.specs.List.{fold}
use Rattle.std.proofs.lemmas.List.{append-nil}
use Rattle.hs_tree.specs.declared.ident.Ident.{Ident}
use Rattle.hs_pure.specs.declared.var.Var.{Var}
use Rattle.hs_numbering.specs.declared.numbering.Named.{Named}
use Rattle.hs_numbering.specs.declared.numbering.Reading.TheVariants.{Numbered}
use Rattle.hs_numbering.specs.declared.numbering.Numbering.{Numbering}
use Rattle.hs_numbering.specs.Names.{numbered_var}
use Rattle.hs_numbering.specs.Numbering.{Builder, ◌>>◌, pure, each, blame_unknown, or_else, resolve}
use Rattle.hs_norm_formula.specs.Sum.{blame_kind, number_var}
use Rattle.hs_written.specs.Writable.{has_number}
use Rattle.hs_written.specs.Written.{Names, Pairwise, none, another}
use Rattle.hs_written.proofs.Names.{numbered_var-text}

-- the numbered form inside these binders, without a fault
abbrev pub inside : List Named → Numbering
inside around = record { reading = Numbered; names = []; fixed = []; known = []; around = around; flat = []; equations = []; faults = [] }

pub resolve-numbered : (v : Var) (x : Ident) (around : List Named) → IsTrue (has_number v) → Names v x → resolve x (inside around) ≡ (v, inside around)
unfolding resolve
resolve-numbered v x around h is = ap (λ o. or_else o (blame_unknown x) (inside around)) (ap numbered_var is ∙ numbered_var-text v h)

pub number_var-numbered : (v : Var) (x : Ident) (around : List Named) → IsTrue (has_number v) → v.bag ≡ false → Names v x → number_var x (inside around) ≡ (v, inside around)
unfolding number_var
number_var-numbered v x around h kind is =
    ap (λ (z : Var × Numbering). (blame_kind x.at z.0.bag >> pure z.0) z.1) (resolve-numbered v x around h is)
    ∙ ap (λ b. (blame_kind x.at b >> pure v) (inside around)) kind

-- each is built where all that was built before left no trace
module _ {A B : Type 0} (f : A → Builder B) (n : Numbering) where
  from_pairs : (ys zs : List B) (xs : List A) → Pairwise (λ y x. f x n ≡ (y, n)) ys xs →
      fold (λ (done : List B × Numbering) x. (done.0 ++ (f x done.1).0 ∷ [], (f x done.1).1)) (zs, n) xs ≡ (zs ++ ys, n)
  from_pairs _ zs _ none = λ j. (sym (append-nil zs) j, n)
  from_pairs _ zs _ (another {x = y} {y = x} {xs = ys} {ys = xs} e rest) =
      (λ j. fold (λ (done : List B × Numbering) x. (done.0 ++ (f x done.1).0 ∷ [], (f x done.1).1)) (zs ++ (e j).0 ∷ [], (e j).1) xs)
      ∙ from_pairs ys (zs ++ y ∷ []) xs rest ∙ λ j. (append_assoc zs (y ∷ []) ys j, n)

  pub each_from_pairs : (ys : List B) (xs : List A) → Pairwise (λ y x. f x n ≡ (y, n)) ys xs → each f xs n ≡ (ys, n)
  each_from_pairs ys xs h = from_pairs ys [] xs h
