-- The text of a derivation.
use Rattle.std.specs.Prelude.{ℕ, suc, Bool, true, false, List, [], ◌∷◌, ◌++◌, codes, Option, Some, None}
use Rattle.std.specs.Fmt.{decimal}
use Rattle.hs_pure.specs.declared.var.Var.{Var}
use Rattle.hs_heap.specs.declared.formula.Formula.{Formula}
use Rattle.hs_heap.specs.declared.definitions.Defs.{Defs}
use Rattle.hs_goal.specs.declared.goal.Goal.{Goal}
use Rattle.hs_goal.specs.declared.rule.ERule.{ERule}
use Rattle.hs_goal.specs.declared.rule.ERule.TheVariants as e
use Rattle.hs_core.specs.declared.state.At.{At}
use Rattle.hs_core.specs.declared.state.PRule.{PRule}
use Rattle.hs_core.specs.declared.state.PRule.TheVariants as p
use Rattle.hs_node.specs.declared.judgement.Judgement.{Judgement}
use Rattle.hs_node.specs.declared.judgement.Judgement.TheVariants.{Shown, Entails, Runs}
use Rattle.hs_node.specs.declared.judgement.Rule.{Rule}
use Rattle.hs_node.specs.declared.judgement.Rule.TheVariants.{Inv, E, P}
use Rattle.hs_node.specs.declared.derivation.Node.{Node}
use Rattle.hs_node.specs.declared.derivation.Derivation.{Derivation}
use Rattle.hs_dtext.specs.declared.claims.ClaimLine.{ClaimLine}
use Rattle.hs_dtext.specs.declared.claims.ClaimLine.TheVariants as claim
use Rattle.hs_print.specs.Lists.{each_after, separated}
use Rattle.hs_print.specs.Variable.{numbered_text}
use Rattle.hs_print.specs.Pure.{pure_text}
use Rattle.hs_print.specs.Formula.{atoms_text, formula_text}

-- ---- rules

-- a word and a number
abbrev pub one_number : List ℕ → ℕ → List ℕ
one_number w n = w ++ decimal n

-- a word and two numbers
abbrev pub two_numbers : List ℕ → ℕ → ℕ → List ℕ
two_numbers w m n = w ++ (decimal m ++ (codes " " ++ decimal n))

-- a rule of entailments
abbrev pub erule_text : ERule → List ℕ
erule_text e.LeftOr = codes "leftor"
erule_text e.LeftExists = codes "leftexists"
erule_text (e.False n) = one_number (codes "false ") n
erule_text (e.Split f) = codes "split (" ++ (pure_text None f ++ codes ")")
erule_text (e.RightOr i) = one_number (codes "rightor ") i
erule_text e.RightExists = codes "rightexists"
erule_text (e.Instantiate c) = one_number (codes "instantiate ") c
erule_text (e.Match r l) = two_numbers (codes "match ") r l
erule_text (e.Unfold l) = one_number (codes "unfold ") l
erule_text (e.Fold r i) = two_numbers (codes "fold ") r i
erule_text (e.Empty n) = one_number (codes "empty ") n
erule_text (e.Lemma j l) = two_numbers (codes "lemma ") j l

-- a rule of programs
abbrev pub prule_text : PRule → List ℕ
prule_text p.Or = codes "or"
prule_text p.Assign = codes "assign"
prule_text p.New = codes "new"
prule_text p.Get = codes "get"
prule_text p.Set = codes "set"
prule_text p.Branch = codes "branch"
prule_text p.Jump = codes "jump"
prule_text (p.Call i) = one_number (codes "call ") i
prule_text p.Return = codes "return"

-- a rule
abbrev pub rule_text : Rule → List ℕ
rule_text Inv = codes "inv"
rule_text (E rule) = erule_text rule
rule_text (P rule) = prule_text rule

-- ---- parts

-- a word and a list, or the word alone
abbrev pub list_part : {A : Type 0} → List ℕ → (A → List ℕ) → List A → List ℕ
list_part w text [] = w
list_part w text (x ∷ xs) = w ++ (codes " " ++ separated (codes ", ") text (x ∷ xs))

-- a slot, `-` where it holds nothing
abbrev pub slot_text : Option Var → List ℕ
slot_text None = codes "-"
slot_text (Some v) = numbered_text v

-- whether the left side was looked at
abbrev pub flag_text : Bool → List ℕ
flag_text true = codes "looked 1"
flag_text false = codes "looked 0"

-- a part is its own text
abbrev pub bare : List ℕ → List ℕ
bare part = part

module _ (defs : Defs) where
  -- a goal up to its right side
  abbrev pub side_parts : Goal → List (List ℕ)
  side_parts g =
      (codes "used " ++ atoms_text defs None g.used)
      ∷ (codes "left " ++ formula_text defs None g.left)
      ∷ list_part (codes "opens") numbered_text g.opens
      ∷ (codes "right " ++ formula_text defs None g.right)
      ∷ []

  -- the rest of a goal, and the residue
  abbrev pub end_parts : Goal → Formula → List (List ℕ)
  end_parts g residue =
      (codes "next " ++ decimal g.next) ∷ flag_text g.looked ∷ (codes "residue " ++ formula_text defs None residue) ∷ []

  -- a goal and its residue
  abbrev pub goal_parts : Goal → Formula → List (List ℕ)
  goal_parts g residue = side_parts g ++ end_parts g residue

  -- a state at a point
  abbrev pub at_parts : At → List (List ℕ)
  at_parts at =
      (codes "method " ++ decimal at.method)
      ∷ (codes "pair " ++ decimal at.pair)
      ∷ (codes "point " ++ decimal at.point)
      ∷ (codes "slots" ++ each_after (codes " ") slot_text at.state.slots)
      ∷ (codes "state " ++ formula_text defs None at.state.formula)
      ∷ (codes "next " ++ decimal at.state.next)
      ∷ []

  -- the parts behind the premises
  abbrev pub judgement_parts : Judgement → List (List ℕ)
  judgement_parts (Shown pred) = (codes "pred " ++ decimal pred) ∷ []
  judgement_parts (Entails g residue) = goal_parts g residue
  judgement_parts (Runs at) = at_parts at

  -- the number and the rule, the premises, the judgement
  abbrev pub node_parts : ℕ → Node → List (List ℕ)
  node_parts n node =
      (decimal n ++ (codes " " ++ rule_text node.rule)) ∷ list_part (codes "from") decimal node.premises ∷ judgement_parts node.judgement

  -- the line of node n, without its end
  abbrev pub node_text : ℕ → Node → List ℕ
  node_text n node = separated (codes " ; ") bare (node_parts n node)

  -- ---- lines

  -- nodes, from number n on
  abbrev pub node_lines : ℕ → List Node → List (List ℕ)
  node_lines n [] = []
  node_lines n (node ∷ nodes) = node_text n node ∷ node_lines (suc n) nodes

-- a claim and its node
abbrev pub claim_text : ℕ × ℕ → List ℕ
claim_text c = codes "claim " ++ (decimal c.0 ++ (codes " " ++ decimal c.1))

-- claims
abbrev pub claim_lines : List (ℕ × ℕ) → List (List ℕ)
claim_lines [] = []
claim_lines (c ∷ cs) = claim_text c ∷ claim_lines cs

-- a claim and its node, or why it is open
abbrev pub claim_line : ClaimLine → List ℕ
claim_line (claim.Shown k n) = claim_text (k, n)
claim_line (claim.Open k cause) = codes "# claim " ++ (decimal k ++ (codes " unknown: " ++ cause))

-- claims that are shown or open
abbrev pub all_claim_lines : List ClaimLine → List (List ℕ)
all_claim_lines [] = []
all_claim_lines (c ∷ cs) = claim_line c ∷ all_claim_lines cs

-- each line with its end
abbrev pub lines_text : List (List ℕ) → List ℕ
lines_text [] = []
lines_text (line ∷ lines) = line ++ (10 ∷ lines_text lines)

-- the lines of a derivation
abbrev pub derivation_lines : Defs → Derivation → List (List ℕ)
derivation_lines defs d = codes "derivation 1" ∷ (node_lines defs 1 d.nodes ++ (claim_lines d.claims ++ codes "end" ∷ []))

-- the text of a derivation
abbrev pub derivation_text : Defs → Derivation → List ℕ
derivation_text defs d = lines_text (derivation_lines defs d)

-- ---- open claims

-- the lines of nodes and of claims that are shown or open
abbrev pub proved_lines : Defs → List Node → List ClaimLine → List (List ℕ)
proved_lines defs nodes claims = codes "derivation 1" ∷ (node_lines defs 1 nodes ++ (all_claim_lines claims ++ codes "end" ∷ []))

-- the text of nodes and of claims that are shown or open
abbrev pub proved_text : Defs → List Node → List ClaimLine → List ℕ
proved_text defs nodes claims = lines_text (proved_lines defs nodes claims)

-- a claim that is shown
abbrev pub shown : ℕ × ℕ → ClaimLine
shown c = claim.Shown c.0 c.1

-- the claims that are shown
abbrev pub shown_claims : List ClaimLine → List (ℕ × ℕ)
shown_claims [] = []
shown_claims (claim.Shown k n ∷ cs) = (k, n) ∷ shown_claims cs
shown_claims (claim.Open k cause ∷ cs) = shown_claims cs

-- the derivation of nodes and of the claims that are shown
abbrev pub proved : List Node → List ClaimLine → Derivation
proved nodes claims = record { nodes = nodes; claims = shown_claims claims }
