use Rattle.std.proofs.Common.{length, sym, ap, ◌∙◌}
use Rattle.std.proofs.lemmas.List.{length-map}
use Rattle.hs_pure.proofs.Views.{fold-Not, fold-And, fold-Or}
use Rattle.hs_print.specs.Pure.{Printed, pure_level, printed, denied_class, members_class}
use Rattle.hs_print.proofs.place.+class_of.Goals as goal

pub returns-in-Not : goal.returns-in-Not
returns-in-Not t c = rw c.in-Not.is (λ names.
    ap (λ (r : Printed). r.class) (fold-Not (pure_level names) _) ∙ ap denied_class (rw c.get.ensures at c.class_of.ensures names) ∙ sym c.denied_class.ensures)

pub returns-in-And : goal.returns-in-And
returns-in-And t c = rw c.in-And.is (λ names.
    ap (λ (r : Printed). r.class) (fold-And (pure_level names) _)
    ∙ ap members_class (length-map c.in-And.ps (printed names) ∙ ap length (sym c.as_slice.ensures)) ∙ sym c.members_class.ensures)

pub returns-in-Or : goal.returns-in-Or
returns-in-Or t c = rw c.in-Or.is (λ names.
    ap (λ (r : Printed). r.class) (fold-Or (pure_level names) _)
    ∙ ap members_class (length-map c.in-Or.ps (printed names) ∙ ap length (sym c.as_slice-in-Or.ensures)) ∙ sym c.members_class-in-Or.ensures)
