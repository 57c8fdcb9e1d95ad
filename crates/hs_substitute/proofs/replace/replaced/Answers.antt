use Rattle.hs_elimination.specs.Linear.{place}
use Rattle.hs_substitute.proofs.Ordering.{ordered-of, simple-of}
use Rattle.hs_substitute.proofs.Parts.{truth-of}
use Rattle.hs_substitute.proofs.replace.replaced.Goals as goal

pub returns-clause-truth : goal.returns-clause-truth
returns-clause-truth c = truth-of c.args.x c.args.term.now c.args.f.now c.requires.simple c.requires.ordered c.in_ok-r.r c.in_ok-r.ensures.exact

pub returns-clause-simple : goal.returns-clause-simple
returns-clause-simple c = simple-of (place c.args.x) c.args.term.now c.args.f.now c.in_ok-r.r c.in_ok-r.ensures.exact c.requires.simple

pub returns-clause-ordered : goal.returns-clause-ordered
returns-clause-ordered c = λ h. ordered-of (place c.args.x) c.args.term.now c.args.f.now c.in_ok-r.r c.in_ok-r.ensures.exact c.requires.ordered h
