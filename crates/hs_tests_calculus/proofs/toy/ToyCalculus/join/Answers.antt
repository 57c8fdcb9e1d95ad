use Rattle.std.proofs.Common.{◌++◌, ◌∷◌, [], sym, ap, ◌∙◌}
use Rattle.std.specs.List.{flat_map}
use Rattle.std.proofs.lemmas.List.Concat.{flat_map-append}
use Rattle.hs_calculus.proofs.Trees.{append-nil}
use Rattle.hs_tests_calculus.proofs.toy.ToyCalculus.join.Goals as goal

pub loop-part-preserved : goal.loop-part-preserved
loop-part-preserved c =
    c.in_ok-append.ensures ∙ ap (λ rules. rules ++ c.in-Some.part) c.loop-part.invariant
    ∙ ap (λ ys. c.args.rule ∷ ys)
    (ap (λ ys. flat_map (λ part. part) c.loop-part.yielded ++ ys) (sym (append-nil c.in-Some.part))
    ∙ sym (flat_map-append (λ part. part) c.loop-part.yielded (c.in-Some.part ∷ [])))
