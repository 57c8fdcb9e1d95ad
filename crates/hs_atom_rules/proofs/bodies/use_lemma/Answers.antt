use Rattle.std.proofs.Common.{◌≡◌, ◌≤◌, ◌^◌, ap, sym, ◌∙◌, subst, rules}
use Rattle.hs_heap.specs.declared.formula.Of.TheVariants.{Pred}
use Rattle.hs_heap.specs.declared.formula.Atom.{Atom}
use Rattle.hs_heap.specs.Instance.{body_of_lemma, body_or_none, lemma_at}
use Rattle.hs_rules.proofs.Fitting.{AtomIsGood}
use Rattle.hs_atom_rules.proofs.Found.{IsFound, found, found_is_good, left_replaced_is}
use Rattle.hs_atom_rules.proofs.Asked.{lemma_exists, lemma_arguments, lemma_room}
use Rattle.hs_atom_rules.proofs.bodies.use_lemma.Goals as goal

pub instantiate_lemma-requires : goal.instantiate_lemma-requires
instantiate_lemma-requires c =
    let g = c.args.goal.now in
    let defs = c.args.defs.now in
    let a = c.in-Some-atom_at.atom.now in
    let l = c.in-Some-lemma_at.lemma.now in
    let at : IsFound g.left c.args.l c.in-Some.side.now a = found g.left c.args.l c.in-Some.side.now c.as_slice.result.now a c.in-Some.ensures c.as_slice.ensures c.in-Some-atom_at.ensures in
    let good : AtomIsGood defs g.next a = found_is_good defs g.next g.left c.args.l c.in-Some.side.now a c.requires.fits.left at in
    let of_pred : a.of ≡ Pred l.pred = search rules in
    record {
      sound = c.requires.sound;
      exists = lemma_exists defs c.requires.sound g.next a good c.as_slice-2.result.now c.as_slice-2.ensures c.args.j l c.in-Some-lemma_at.ensures of_pred;
      arguments = lemma_arguments defs c.requires.sound g.next a good c.as_slice-2.result.now c.as_slice-2.ensures c.args.j l c.in-Some-lemma_at.ensures of_pred;
      room = lemma_room defs c.requires.sound g.next a good c.as_slice-2.result.now c.as_slice-2.ensures c.args.j l c.in-Some-lemma_at.ensures of_pred c.requires.fits.few;
    }

pub returns : goal.returns
returns c =
    let g = c.args.goal.now in
    let defs = c.args.defs.now in
    let a = c.in-Some-atom_at.atom.now in
    let l = c.in-Some-lemma_at.lemma.now in
    let b = body_or_none body_of_lemma (lemma_at defs c.args.j) in
    let at : IsFound g.left c.args.l c.in-Some.side.now a = found g.left c.args.l c.in-Some.side.now c.as_slice.result.now a c.in-Some.ensures c.as_slice.ensures c.in-Some-atom_at.ensures in
    let of_pred : a.of ≡ Pred l.pred = search rules in
    record {
      exact = (
        (
          record { left = at.simple; lemma = l; there = c.in-Some-lemma_at.ensures; place = at.place; of_pred = ap (λ (k : Atom). k.of) (sym at.atom_is) ∙ of_pred },
          subst (λ n. n ≤ 2 ^ 30) c.in_ok-body.ensures.next c.if-next-gt-MOST.false,
        ),
        left_replaced_is g c.args.l c.in-Some.side.now a at b c.as_slice-2.result.now c.in_ok-body.body c.in_ok-body.next c.in_ok-put_left.field-0
            c.as_slice-2.ensures c.in_ok-body.ensures.same c.in_ok-body.ensures.next c.in_ok-put_left.ensures,
      );
    }
