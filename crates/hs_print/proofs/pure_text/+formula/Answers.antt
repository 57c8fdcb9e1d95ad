use Rattle.std.proofs.Common.{◌++◌, codes, map, refl, sym, ap}
use Rattle.std.specs.Option.{option_copied}
use Rattle.hs_pure.specs.declared.pure.Pure.TheOpen.{Pure-F}
use Rattle.hs_pure.proofs.Views.{fold-Eq, fold-Lt, fold-Le, fold-Divides, fold-BagEq, fold-Subset, fold-Member, fold-AllOf, fold-Not, fold-And, fold-Or, fold-Exists, fold-Forall}
use Rattle.hs_print.specs.declared.place.Place.TheVariants.{Alone, Denied}
use Rattle.hs_print.specs.declared.place.Signs.TheVariants.{And, Or}
use Rattle.hs_print.specs.Pure.{pure_level, printed, sums_text, bags_text, members_text, quantified_text, each_of_text, text_at}
use Rattle.hs_print.proofs.Closing.{finished, finished_item, on_ok, then_two, then_three}
use Rattle.hs_print.proofs.pure_text.+formula.Goals as goal

pub push_pure-returns-in-Eq : goal.push_pure-returns-in-Eq
push_pure-returns-in-Eq t c =
    let N = (option_copied c.args.names) in
    let class = c.class_of-class.ensures N in
    let r = pure_level N (Pure-F.Eq c.in-Eq.a c.in-Eq.b) in
    rw (c.in-Eq.is, fold-Eq (pure_level N) _ _) (on_ok c.push_sums.result
    (λ written. finished c.args.place c.class_of-class.result r _ _ _ _ _ _
    (rw (c.in-Eq.is, fold-Eq (pure_level N) _ _) at class) c.opening-before.ensures c.closing-after.ensures (ap (λ s. sums_text N c.in-Eq.a s c.in-Eq.b) (sym c.equation_sign.ensures)) c.in_ok-write.ensures.bytes written)
    c.push_sums.ensures)

pub push_pure-returns-in-Lt : goal.push_pure-returns-in-Lt
push_pure-returns-in-Lt t c =
    let N = (option_copied c.args.names) in
    let class = c.class_of-class.ensures N in
    let r = pure_level N (Pure-F.Lt c.in-Lt.a c.in-Lt.b) in
    rw (c.in-Lt.is, fold-Lt (pure_level N) _ _) (on_ok c.push_sums-in-Lt.result
    (λ written. finished c.args.place c.class_of-class.result r _ _ _ _ _ _
    (rw (c.in-Lt.is, fold-Lt (pure_level N) _ _) at class) c.opening-before.ensures c.closing-after.ensures refl c.in_ok-write.ensures.bytes written)
    c.push_sums-in-Lt.ensures)

pub push_pure-returns-in-Le : goal.push_pure-returns-in-Le
push_pure-returns-in-Le t c =
    let N = (option_copied c.args.names) in
    let class = c.class_of-class.ensures N in
    let r = pure_level N (Pure-F.Le c.in-Le.a c.in-Le.b) in
    rw (c.in-Le.is, fold-Le (pure_level N) _ _) (on_ok c.push_sums-in-Le.result
    (λ written. finished c.args.place c.class_of-class.result r _ _ _ _ _ _
    (rw (c.in-Le.is, fold-Le (pure_level N) _ _) at class) c.opening-before.ensures c.closing-after.ensures refl c.in_ok-write.ensures.bytes written)
    c.push_sums-in-Le.ensures)

pub push_pure-returns-in-Divides : goal.push_pure-returns-in-Divides
push_pure-returns-in-Divides t c =
    let N = (option_copied c.args.names) in
    let class = c.class_of-class.ensures N in
    let r = pure_level N (Pure-F.Divides c.in-Divides.d c.in-Divides.a) in
    rw (c.in-Divides.is, fold-Divides (pure_level N) _ _) (on_ok c.push_divides.result
    (λ written. finished_item c.args.place c.class_of-class.result r _ _ _ _ _
    (rw (c.in-Divides.is, fold-Divides (pure_level N) _ _) at class) refl c.opening-before.ensures refl c.in_ok-write.ensures.bytes written)
    c.push_divides.ensures)

pub push_pure-returns-in-BagEq : goal.push_pure-returns-in-BagEq
push_pure-returns-in-BagEq t c =
    let N = (option_copied c.args.names) in
    let class = c.class_of-class.ensures N in
    let r = pure_level N (Pure-F.BagEq c.in-BagEq.a c.in-BagEq.b) in
    rw (c.in-BagEq.is, fold-BagEq (pure_level N) _ _) (on_ok c.push_bags.result
    (λ written. finished c.args.place c.class_of-class.result r _ _ _ _ _ _
    (rw (c.in-BagEq.is, fold-BagEq (pure_level N) _ _) at class) c.opening-before.ensures c.closing-after.ensures (ap (λ s. bags_text N c.in-BagEq.a s c.in-BagEq.b) (sym c.equation_sign-in-BagEq.ensures)) c.in_ok-write.ensures.bytes written)
    c.push_bags.ensures)

pub push_pure-returns-in-Subset : goal.push_pure-returns-in-Subset
push_pure-returns-in-Subset t c =
    let N = (option_copied c.args.names) in
    let class = c.class_of-class.ensures N in
    let r = pure_level N (Pure-F.Subset c.in-Subset.a c.in-Subset.b) in
    rw (c.in-Subset.is, fold-Subset (pure_level N) _ _) (on_ok c.push_bags-in-Subset.result
    (λ written. finished c.args.place c.class_of-class.result r _ _ _ _ _ _
    (rw (c.in-Subset.is, fold-Subset (pure_level N) _ _) at class) c.opening-before.ensures c.closing-after.ensures refl c.in_ok-write.ensures.bytes written)
    c.push_bags-in-Subset.ensures)

pub push_pure-returns-in-Member : goal.push_pure-returns-in-Member
push_pure-returns-in-Member t c =
    let N = (option_copied c.args.names) in
    let class = c.class_of-class.ensures N in
    let r = pure_level N (Pure-F.Member c.in-Member.a c.in-Member.b) in
    rw (c.in-Member.is, fold-Member (pure_level N) _ _) (on_ok c.push_membership.result
    (λ written. finished c.args.place c.class_of-class.result r _ _ _ _ _ _
    (rw (c.in-Member.is, fold-Member (pure_level N) _ _) at class) c.opening-before.ensures c.closing-after.ensures refl c.in_ok-write.ensures.bytes written)
    c.push_membership.ensures)

pub push_pure-returns-in-And : goal.push_pure-returns-in-And
push_pure-returns-in-And t c =
    let N = (option_copied c.args.names) in
    let class = c.class_of-class.ensures N in
    let r = pure_level N (Pure-F.And (map (printed N) c.in-And.ps)) in
    rw (c.in-And.is, fold-And (pure_level N) _) (on_ok c.push_members.result
    (λ written. finished c.args.place c.class_of-class.result r _ _ _ _ _ _
    (rw (c.in-And.is, fold-And (pure_level N) _) at class) c.opening-before.ensures c.closing-after.ensures (ap (λ ps. members_text And (map (printed N) ps)) (sym c.as_slice.ensures)) c.in_ok-write.ensures.bytes written)
    c.push_members.ensures)

pub push_pure-returns-in-Or : goal.push_pure-returns-in-Or
push_pure-returns-in-Or t c =
    let N = (option_copied c.args.names) in
    let class = c.class_of-class.ensures N in
    let r = pure_level N (Pure-F.Or (map (printed N) c.in-Or.ps)) in
    rw (c.in-Or.is, fold-Or (pure_level N) _) (on_ok c.push_members-in-Or.result
    (λ written. finished c.args.place c.class_of-class.result r _ _ _ _ _ _
    (rw (c.in-Or.is, fold-Or (pure_level N) _) at class) c.opening-before.ensures c.closing-after.ensures (ap (λ ps. members_text Or (map (printed N) ps)) (sym c.as_slice-in-Or.ensures)) c.in_ok-write.ensures.bytes written)
    c.push_members-in-Or.ensures)

pub push_pure-returns-in-Exists : goal.push_pure-returns-in-Exists
push_pure-returns-in-Exists t c =
    let N = (option_copied c.args.names) in
    let class = c.class_of-class.ensures N in
    let r = pure_level N (Pure-F.Exists c.in-Exists.u (printed N c.in-Exists.p)) in
    rw (c.in-Exists.is, fold-Exists (pure_level N) _ _) (on_ok c.push_quantified.result
    (λ written. finished_item c.args.place c.class_of-class.result r _ _ _ _ _
    (rw (c.in-Exists.is, fold-Exists (pure_level N) _ _) at class) refl c.opening-before.ensures (ap (λ p. quantified_text N (codes "(exists ") c.in-Exists.u (printed N p)) (sym c.get-in-Exists.ensures)) c.in_ok-write.ensures.bytes written)
    c.push_quantified.ensures)

pub push_pure-returns-in-Forall : goal.push_pure-returns-in-Forall
push_pure-returns-in-Forall t c =
    let N = (option_copied c.args.names) in
    let class = c.class_of-class.ensures N in
    let r = pure_level N (Pure-F.Forall c.in-Forall.u (printed N c.in-Forall.p)) in
    rw (c.in-Forall.is, fold-Forall (pure_level N) _ _) (on_ok c.push_quantified-in-Forall.result
    (λ written. finished_item c.args.place c.class_of-class.result r _ _ _ _ _
    (rw (c.in-Forall.is, fold-Forall (pure_level N) _ _) at class) refl c.opening-before.ensures (ap (λ p. quantified_text N (codes "(forall ") c.in-Forall.u (printed N p)) (sym c.get-in-Forall.ensures)) c.in_ok-write.ensures.bytes written)
    c.push_quantified-in-Forall.ensures)

pub push_pure-returns-in_ok-push_pure-in-AllOf : goal.push_pure-returns-in_ok-push_pure-in-AllOf
push_pure-returns-in_ok-push_pure-in-AllOf t c =
    let N = (option_copied c.args.names) in
    let class = c.class_of-class.ensures N in
    let r = pure_level N (Pure-F.AllOf c.in-AllOf.u c.in-AllOf.b (printed N c.in-AllOf.p)) in
    rw (c.in-AllOf.is, fold-AllOf (pure_level N) _ _ _) (on_ok c.write-in-AllOf.result
    (λ written. finished_item c.args.place c.class_of-class.result r _ _ _ _ _
    (rw (c.in-AllOf.is, fold-AllOf (pure_level N) _ _ _) at class) refl c.opening-before.ensures (ap (λ p. each_of_text N c.in-AllOf.u c.in-AllOf.b ++ (text_at Alone (printed N p) ++ codes ")")) (sym c.get.ensures)) c.in_ok-write.ensures.bytes (then_three _ _ _ _ (each_of_text N c.in-AllOf.u c.in-AllOf.b) (text_at Alone (printed N c.get.result.now)) (codes ")") c.in_ok-push_each_of-in-AllOf.ensures c.in_ok-push_pure-in-AllOf.ensures written))
    c.write-in-AllOf.ensures.bytes)

pub push_pure-returns-in_ok-push_pure-in-Not : goal.push_pure-returns-in_ok-push_pure-in-Not
push_pure-returns-in_ok-push_pure-in-Not t c =
    let N = (option_copied c.args.names) in
    let class = c.class_of-class.ensures N in
    let r = pure_level N (Pure-F.Not (printed N c.in-Not.p)) in
    rw (c.in-Not.is, fold-Not (pure_level N) _) (on_ok c.write-in-Not.result
    (λ written. finished c.args.place c.class_of-class.result r _ _ _ _ _ _
    (rw (c.in-Not.is, fold-Not (pure_level N) _) at class) c.opening-before.ensures c.closing-after.ensures (ap (λ p. text_at Denied (printed N p)) (sym c.get-in-Not.ensures)) c.in_ok-write.ensures.bytes (then_two _ _ _ _ _ c.in_ok-push_pure-in-Not.ensures written))
    c.write-in-Not.ensures.bytes)
