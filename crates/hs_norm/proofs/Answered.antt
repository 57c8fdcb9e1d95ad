-- What is answered of what the items give.
use Rattle.std.proofs.Common.{◌≡◌, List, [], Result, ◌∙◌}
use Rattle.hs_tree.specs.declared.source.Source.{Source}
use Rattle.hs_tree.specs.declared.source.SourceItem.{SourceItem}
use Rattle.hs_numbering.specs.declared.fault.Fault.{Fault}
use Rattle.hs_numbering.specs.declared.numbering.Numbering.{Numbering}
use Rattle.hs_numbering.specs.declared.numbering.Reading.TheVariants.{Closed}
use Rattle.hs_numbering.specs.Least.{least}
use Rattle.hs_numbering.specs.Numbering.{start}
use Rattle.hs_norm_formula.specs.declared.by_number.NormError.{NormError}
use Rattle.hs_norm_formula.specs.Numbered.{Gives, outcome}
use Rattle.hs_norm_formula.proofs.Answered.{gives_answer}
use Rattle.hs_norm.specs.declared.resolved.Resolved.{Resolved}
use Rattle.hs_norm.specs.Normal.{items_normal, normal_of}

pub gives_normal : (source : Source) (items : List SourceItem) (first : Numbering) (found : Resolved) (n : Numbering) (faults : List Fault) (r : Result Resolved NormError) → items ≡ source.items → first ≡ start Closed [] →
    (found, n) ≡ items_normal items first → faults ≡ n.faults → Gives (outcome (least faults) found) r → Gives (normal_of source) r
gives_normal source items first found n faults r same is built = gives_answer (items_normal source.items (start Closed [])) found n faults r (built ∙ λ i. items_normal (same i) (is i))
