-- A printed formula comes back.
use Rattle.std.proofs.Common.{◌≡◌, ℕ, true, false, refl, [], ◌∷◌, sym, ap, ◌∙◌}
use Rattle.std.specs.Prelude.{IsTrue}
use Rattle.std.proofs.lemmas.Bool.{and_from}
use Rattle.hs_tree.specs.declared.item.ItemTree.{fold-roll-ItemTree}
use Rattle.hs_tree.specs.declared.item.PureTree.{PureTree}
use Rattle.hs_tree.specs.declared.item.ItemKind.{ItemKind, fold-ItemKind, fold-roll-ItemKind}
use Rattle.hs_tree.specs.declared.item.ItemKind.TheOpen.{ItemKind-F}
use Rattle.hs_tree.specs.declared.item.ItemKind.TheVariants as kind
use Rattle.hs_pure.specs.declared.pure.Pure.{Pure}
use Rattle.hs_norm_formula.specs.Item.{Inner, kind_level, tree_level, pure_level, item, disjunction}
use Rattle.hs_norm_formula.specs.Numbered.{answer}
use Rattle.hs_written.specs.Writable.{pure_fits}
use Rattle.hs_written.specs.Written as written
use Rattle.hs_written.proofs.State.{inside}
use Rattle.hs_written.proofs.Items.{items_read}
use Rattle.hs_written.proofs.Formulas.{written_is_read}
use Rattle.hs_round_trip.specs.Laws.{FormulasComeBack, PureFormulasComeBack}
use Rattle.hs_round_trip.proofs.Whole.{formulas_are_written, pure_formulas_are_written}

pub formulas_come_back : FormulasComeBack
formulas_come_back top defs f tall h some =
    let w = formulas_are_written top defs f tall h some in
    (w.0, (w.1.0, (w.1.1.0, (w.1.1.1.0, written_is_read defs f w.1.1.0 h w.1.1.1.1))))

-- ---- pure formulas

abbrev kind_of : ItemKind → ℕ → Inner
kind_of = fold-ItemKind (ℕ → Inner) Inner Inner kind_level tree_level pure_level

-- an item in parentheses is what stands in them
item-group : (t : PureTree) → item (record { kind = kind.Group t; at = 0 }) ≡ disjunction t
item-group t =
    fold-roll-ItemTree (ℕ → Inner) Inner Inner kind_level tree_level pure_level (record { kind = kind.Group t; at = 0 })
    ∙ ap (λ (f : ℕ → Inner). f 0) (ap kind_of (sym (kind.rolls-Group t)) ∙ fold-roll-ItemKind (ℕ → Inner) Inner Inner kind_level tree_level pure_level (ItemKind-F.Group t))

only : {A B : Type 0} {R : A → B → Type 0} {x : A} {y : B} → written.Pairwise R (x ∷ []) (y ∷ []) → R x y
only (written.another h rest) = h

pure_reads : (p : Pure) (t : PureTree) → IsTrue (pure_fits p [] false) → written.IsPure p t → disjunction t false (inside []) ≡ (p, inside [])
pure_reads p t fits is =
    ap (λ (f : Inner). f false (inside [])) (sym (item-group t))
    ∙ only (items_read (p ∷ []) (record { kind = kind.Group t; at = 0 } ∷ []) (written.another_item (written.item (written.group is)) written.no_item) false [] (and_from (pure_fits p [] false) true fits refl))

pub pure_formulas_come_back : PureFormulasComeBack
pure_formulas_come_back top p tall h =
    let w = pure_formulas_are_written top p tall h in
    (w.0, (w.1.0, (w.1.1.0, (w.1.1.1.0, ap answer (pure_reads p w.1.1.0 h.fits w.1.1.1.1)))))
