-- The residue of each rule, from those of its premises.
use Rattle.std.specs.Prelude.{List, [], ◌++◌, map, get_or}
use Rattle.std.specs.List.{flat_map}
use Rattle.hs_pure.specs.declared.var.Var.{Var}
use Rattle.hs_heap.specs.declared.formula.Disjunct.{Disjunct}
use Rattle.hs_heap.specs.declared.formula.Formula.{Formula}
use Rattle.hs_goal.specs.declared.goal.Goal.{Goal}
use Rattle.hs_goal.specs.declared.rule.ERule.{ERule}
use Rattle.hs_goal.specs.declared.rule.ERule.TheVariants as rule_of
use Rattle.hs_goal.specs.Classes.{the_case}
use Rattle.hs_rules.specs.Parts.{left_atoms, left_pure, right_pure, plain, fresh_variables}

-- no disjunct
abbrev pub no_case : Formula
no_case = record { cases = [] }

-- all disjuncts, in order
abbrev pub joined : List Formula → Formula
joined rs = record { cases = flat_map (λ (r : Formula). r.cases) rs }

-- more bound variables, before those of the disjunct
abbrev pub binding : List Var → Disjunct → Disjunct
binding vs d = record { bound = vs ++ d.bound; atoms = d.atoms; pure = d.pure }

-- the same of each disjunct
abbrev pub all_binding : List Var → Formula → Formula
all_binding vs f = record { cases = map (binding vs) f.cases }

-- of the one premise
abbrev pub the_one : List Formula → Formula
the_one rs = get_or rs 0 no_case

-- ---- the column

abbrev pub residue_of : Goal → ERule → List Formula → Formula
residue_of g rule_of.LeftOr rs = joined rs
residue_of g rule_of.LeftExists rs = all_binding (fresh_variables (the_case g.left) g.next) (the_one rs)
residue_of g (rule_of.False n) rs = no_case
residue_of g (rule_of.Split f) rs = joined rs
residue_of g (rule_of.RightOr i) rs = the_one rs
residue_of g rule_of.RightExists rs = all_binding (fresh_variables (the_case g.right) g.next) (the_one rs)
residue_of g (rule_of.Instantiate c) rs = the_one rs
residue_of g (rule_of.Match r l) rs = the_one rs
residue_of g (rule_of.Unfold l) rs = the_one rs
residue_of g (rule_of.Fold r i) rs = the_one rs
residue_of g (rule_of.Empty n) rs = plain (left_atoms g) (left_pure g ++ right_pure g)
residue_of g (rule_of.Lemma j l) rs = the_one rs
