use Rattle.std.proofs.Common.{◌≡◌, rules, sym, ap, ◌∙◌, subst, All, get_or, ◌++◌, ◌∷◌, []}
use Rattle.hs_pure.specs.declared.pure.Pure.{the_lemmas}
use Rattle.hs_pure.specs.Rename.{renaming, renamed, InRange}
use Rattle.hs_pure.proofs.Lists.{map-take_more}
use Rattle.hs_pure.proofs.Ranges.{eq_range, lt_range, le_range, divides_range, bag_eq_range, subset_range, member_range, all_of_range, not_range, and_range, or_range, exists_range, forall_range}
use Rattle.hs_pure.proofs.pure.+rename.Goals as goal

pub Pure::put_names-rename-requires : goal.Pure::put_names-rename-requires
Pure::put_names-rename-requires t c =
    (eq_range (renaming c.args.map.now) c.args.self.now c.in-Eq.a c.in-Eq.b c.in-Eq.is c.requires).0

pub Pure::put_names-rename-requires-in-Eq : goal.Pure::put_names-rename-requires-in-Eq
Pure::put_names-rename-requires-in-Eq t c =
    (eq_range (renaming c.args.map.now) c.args.self.now c.in-Eq.a c.in-Eq.b c.in-Eq.is c.requires).1

pub Pure::put_names-rename-requires-in-Lt : goal.Pure::put_names-rename-requires-in-Lt
Pure::put_names-rename-requires-in-Lt t c =
    (lt_range (renaming c.args.map.now) c.args.self.now c.in-Lt.a c.in-Lt.b c.in-Lt.is c.requires).0

pub Pure::put_names-rename-requires-in-Lt-2 : goal.Pure::put_names-rename-requires-in-Lt-2
Pure::put_names-rename-requires-in-Lt-2 t c =
    (lt_range (renaming c.args.map.now) c.args.self.now c.in-Lt.a c.in-Lt.b c.in-Lt.is c.requires).1

pub Pure::put_names-rename-requires-in-Le : goal.Pure::put_names-rename-requires-in-Le
Pure::put_names-rename-requires-in-Le t c =
    (le_range (renaming c.args.map.now) c.args.self.now c.in-Le.a c.in-Le.b c.in-Le.is c.requires).0

pub Pure::put_names-rename-requires-in-Le-2 : goal.Pure::put_names-rename-requires-in-Le-2
Pure::put_names-rename-requires-in-Le-2 t c =
    (le_range (renaming c.args.map.now) c.args.self.now c.in-Le.a c.in-Le.b c.in-Le.is c.requires).1

pub Pure::put_names-rename_two-requires-clause-first : goal.Pure::put_names-rename_two-requires-clause-first
Pure::put_names-rename_two-requires-clause-first t c =
    (bag_eq_range (renaming c.args.map.now) c.args.self.now c.in-BagEq.a c.in-BagEq.b c.in-BagEq.is c.requires).0

pub Pure::put_names-rename_two-requires-clause-second : goal.Pure::put_names-rename_two-requires-clause-second
Pure::put_names-rename_two-requires-clause-second t c =
    (bag_eq_range (renaming c.args.map.now) c.args.self.now c.in-BagEq.a c.in-BagEq.b c.in-BagEq.is c.requires).1

pub Pure::put_names-rename_two-requires-in-Subset-clause-first : goal.Pure::put_names-rename_two-requires-in-Subset-clause-first
Pure::put_names-rename_two-requires-in-Subset-clause-first t c =
    (subset_range (renaming c.args.map.now) c.args.self.now c.in-Subset.a c.in-Subset.b c.in-Subset.is c.requires).0

pub Pure::put_names-rename_two-requires-in-Subset-clause-second : goal.Pure::put_names-rename_two-requires-in-Subset-clause-second
Pure::put_names-rename_two-requires-in-Subset-clause-second t c =
    (subset_range (renaming c.args.map.now) c.args.self.now c.in-Subset.a c.in-Subset.b c.in-Subset.is c.requires).1

pub Pure::put_names-rename-requires-in-Member : goal.Pure::put_names-rename-requires-in-Member
Pure::put_names-rename-requires-in-Member t c =
    (member_range (renaming c.args.map.now) c.args.self.now c.in-Member.a c.in-Member.b c.in-Member.is c.requires).0

pub Pure::put_names-rename-requires-in-Member-2 : goal.Pure::put_names-rename-requires-in-Member-2
Pure::put_names-rename-requires-in-Member-2 t c =
    (member_range (renaming c.args.map.now) c.args.self.now c.in-Member.a c.in-Member.b c.in-Member.is c.requires).1

pub Pure::put_names-rename-requires-in-Divides : goal.Pure::put_names-rename-requires-in-Divides
Pure::put_names-rename-requires-in-Divides t c =
    divides_range (renaming c.args.map.now) c.args.self.now c.in-Divides.d c.in-Divides.a c.in-Divides.is c.requires

pub Pure::put_names-rename-requires-in-AllOf : goal.Pure::put_names-rename-requires-in-AllOf
Pure::put_names-rename-requires-in-AllOf t c =
    (all_of_range (renaming c.args.map.now) c.args.self.now c.in-AllOf.u c.in-AllOf.b c.in-AllOf.p c.in-AllOf.is c.requires).0

pub Pure::put_names-rename_boxed-requires : goal.Pure::put_names-rename_boxed-requires
Pure::put_names-rename_boxed-requires t c =
    (search (rules, the_lemmas), subst (InRange (renaming c.args.map.now)) (sym c.get.ensures) ((all_of_range (renaming c.args.map.now) c.args.self.now c.in-AllOf.u c.in-AllOf.b c.in-AllOf.p c.in-AllOf.is c.requires).1))

pub Pure::put_names-rename_boxed-requires-in-Not : goal.Pure::put_names-rename_boxed-requires-in-Not
Pure::put_names-rename_boxed-requires-in-Not t c =
    (search (rules, the_lemmas), subst (InRange (renaming c.args.map.now)) (sym c.get-in-Not.ensures) (not_range (renaming c.args.map.now) c.args.self.now c.in-Not.p c.in-Not.is c.requires))

pub Pure::put_names-rename_all-requires : goal.Pure::put_names-rename_all-requires
Pure::put_names-rename_all-requires t c =
    (search (rules, the_lemmas), subst (All (InRange (renaming c.args.map.now))) (sym c.as_slice.ensures) (and_range (renaming c.args.map.now) c.args.self.now c.in-And.ps c.in-And.is c.requires))

pub Pure::put_names-rename_all-requires-in-Or : goal.Pure::put_names-rename_all-requires-in-Or
Pure::put_names-rename_all-requires-in-Or t c =
    (search (rules, the_lemmas), subst (All (InRange (renaming c.args.map.now))) (sym c.as_slice-in-Or.ensures) (or_range (renaming c.args.map.now) c.args.self.now c.in-Or.ps c.in-Or.is c.requires))

pub Pure::put_names-rename_boxed-requires-in-Exists : goal.Pure::put_names-rename_boxed-requires-in-Exists
Pure::put_names-rename_boxed-requires-in-Exists t c =
    (search (rules, the_lemmas), subst (InRange (renaming c.args.map.now)) (sym c.get-in-Exists.ensures) (exists_range (renaming c.args.map.now) c.args.self.now c.in-Exists.u c.in-Exists.p c.in-Exists.is c.requires))

pub Pure::put_names-rename_boxed-requires-in-Forall : goal.Pure::put_names-rename_boxed-requires-in-Forall
Pure::put_names-rename_boxed-requires-in-Forall t c =
    (search (rules, the_lemmas), subst (InRange (renaming c.args.map.now)) (sym c.get-in-Forall.ensures) (forall_range (renaming c.args.map.now) c.args.self.now c.in-Forall.u c.in-Forall.p c.in-Forall.is c.requires))

pub rename_all-put_names-requires : goal.rename_all-put_names-requires
rename_all-put_names-requires t c = (
  search (rules, the_lemmas),
  subst (InRange (renaming c.args.pairs.now)) (sym c.p-item.is) (c.requires c.loop-p.p-index c.p-item.result c.loop-p-test.true),
)

pub rename_all-loop-p-preserved : goal.rename_all-loop-p-preserved
rename_all-loop-p-preserved t c =
    let ρ = renaming c.args.pairs.now in
    let item : c.in_ok-put_names.field-0 ≡ renamed (renaming c.args.pairs.now) (get_or c.args.ps.now c.loop-p.p-index c.p-item.result) =
    c.in_ok-put_names.ensures ∙ ap (renamed ρ) c.p-item.is in
    c.in_ok-push.ensures.ok ∙ (λ j. c.loop-p.invariant j ++ item j ∷ []) ∙ sym (map-take_more (renamed ρ) c.args.ps.now c.loop-p.p-index c.p-item.result c.loop-p-test.true)
