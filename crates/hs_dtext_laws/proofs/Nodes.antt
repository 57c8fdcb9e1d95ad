-- The line of a writable node is read as that node.
use Rattle.std.proofs.Common.{◌≡◌, ℕ, ◌<◌, ◌≤◌, ◌^◌, lit<, ◌&&◌, not, nat_lt, Bool, true, false, nat_eq, List, [], ◌∷◌, ◌++◌, Option, Some, None, Ok, refl, ap, ◌∙◌, append_assoc, arith}
use Rattle.std.specs.Prelude.{IsTrue, codes}
use Rattle.std.specs.List.{AllByRecursion}
use Rattle.std.specs.Fmt.{decimal}
use Rattle.std.proofs.lemmas.Bool.{and_parts}
use Rattle.std.proofs.lemmas.Bool.Decides.{nat_tests}
use Rattle.hs_lex.specs.Tokens.{is_digit, is_letter, is_in_name, BeginsWith}
use Rattle.hs_pure.specs.declared.var.Var.{Var}
use Rattle.hs_heap.specs.declared.definitions.Defs.{Defs}
use Rattle.hs_heap.specs.declared.formula.Formula.{Formula}
use Rattle.hs_goal.specs.declared.goal.Goal.{Goal}
use Rattle.hs_goal.specs.declared.rule.ERule.{ERule}
use Rattle.hs_goal.specs.declared.rule.ERule.TheVariants as e
use Rattle.hs_core.specs.declared.state.At.{At}
use Rattle.hs_core.specs.declared.state.PRule.{PRule}
use Rattle.hs_core.specs.declared.state.PRule.TheVariants as p
use Rattle.hs_node.specs.declared.judgement.Judgement.{Judgement}
use Rattle.hs_node.specs.declared.judgement.Judgement.TheVariants.{Shown, Entails, Runs}
use Rattle.hs_node.specs.declared.judgement.Rule.{Rule}
use Rattle.hs_node.specs.declared.judgement.Rule.TheVariants.{Inv, E, P}
use Rattle.hs_node.specs.declared.derivation.Node.{Node}
use Rattle.hs_print.specs.Lists.{with_signs, each_after, separated}
use Rattle.hs_print.specs.Variable.{numbered_text}
use Rattle.hs_print.specs.Pure.{pure_text}
use Rattle.hs_print.specs.Formula.{atoms_text, formula_text}
use Rattle.hs_written.specs.Writable.{DefsAreWritable}
use Rattle.hs_round_trip.proofs.Segments.{is_end}
use Rattle.hs_round_trip.proofs.Tokens.{number_spells, variable_spells}
use Rattle.hs_round_trip.proofs.Words.{is_word}
use Rattle.hs_line.specs.Pieces.{cut_at}
use Rattle.hs_line.specs.Steps.{Outcome, Steps, mapped, and_then, ◌>>=◌, pure}
use Rattle.hs_line.specs.Scan.{is_nothing, is_over, over, alone, number, variable, listed, slots}
use Rattle.hs_dtext.specs.declared.reading.Body.{Body}
use Rattle.hs_dtext.specs.Formulas.{formula, heap}
use Rattle.hs_dtext.specs.Parts.{head, after, no_more, numbers_after, number_after, flag_after, shown_body, entails_body, runs_body, body_by, with_rule, node}
use Rattle.hs_dtext.specs.Text.{bare, two_numbers, erule_text, prule_text, rule_text, list_part, slot_text, flag_text, judgement_parts, node_text}
use Rattle.hs_dtext_laws.specs.Writable.{IsShort, HasNumber, FormulaIsWritable, GoalIsWritable, AtIsWritable, StepIsWritable, SlotIsWritable, IsEarlier}
use Rattle.hs_dtext_laws.specs.Laws.{NodesComeBack}
use Rattle.hs_dtext_laws.proofs.Fronts.{tail, tail_ends, past_digit, past_letter, word_back, number_back, variable_back}
use Rattle.hs_dtext_laws.proofs.Lists.{Avoids, IsItem, alone_back, listed_back, empty_back, more_ends, slots_back}
use Rattle.hs_dtext_laws.proofs.Clean.{is_clean, Clean, join, with_clean, decimal_clean, variable_clean}
use Rattle.hs_dtext_laws.proofs.CleanTexts.{pure_clean, atoms_clean, formula_clean}
use Rattle.hs_dtext_laws.proofs.Cuts.{padded, line_cut}
use Rattle.hs_dtext_laws.proofs.Formulas.{formula_back, heap_back}
use Rattle.hs_dtext_laws.proofs.Rules.{RuleIsWritable, head_back}

-- ---- one part

-- a step whose outcome is known, and the others
go : {A B S : Type 0} (o : Outcome (A × S)) (f : A → Steps S B) (a : A) (s : S) (r : Outcome (B × S)) → o ≡ Ok (a, s) → f a s ≡ r → and_then o f ≡ r
go o f a s r e g = ap (λ x. and_then x f) e ∙ g

after_back : {A : Type 0} (w : List ℕ) (f : List ℕ → Outcome A) (rest : List ℕ) (a : A) (parts : List (List ℕ)) → IsTrue (is_word w) → IsTrue (is_end rest) → f rest ≡ Ok a
    → after w f ((32 ∷ (w ++ rest)) ∷ parts) ≡ Ok (a, parts)
after_back w f rest a parts is ends e =
    ap (λ o. and_then (mapped (λ x. (x, parts)) (mapped (λ r. r.1) o)) (λ rest. λ parts. mapped (λ a. (a, parts)) (f rest))) (word_back w rest is ends) ∙ ap (mapped (λ x. (x, parts))) e

number_part : (w : List ℕ) (n : ℕ) (b : Bool) (parts : List (List ℕ)) → IsTrue (is_word w) → IsShort n → number_after w ((32 ∷ (w ++ (32 ∷ (decimal n ++ tail b)))) ∷ parts) ≡ Ok (n, parts)
number_part w n b parts is h =
    after_back w (alone number) (32 ∷ (decimal n ++ tail b)) n parts is refl (alone_back number n (32 ∷ (decimal n ++ tail b)) b (number_back n (tail b) h (tail_ends b)))

flag_part : (v b : Bool) (parts : List (List ℕ)) → flag_after (codes "looked") ((32 ∷ (flag_text v ++ tail b)) ∷ parts) ≡ Ok (v, parts)
flag_part true true parts = refl
flag_part true false parts = refl
flag_part false true parts = refl
flag_part false false parts = refl

-- ---- lists

digit_no_comma : (b : ℕ) → IsTrue (is_digit b) → nat_eq b 44 ≡ false
digit_no_comma b h = grind (arith, nat_tests)

name_no_comma : (b : ℕ) → IsTrue (is_in_name b) → nat_eq b 44 ≡ false
name_no_comma b h = grind (arith, nat_tests)

all_avoid : (is_in : ℕ → Bool) → ((b : ℕ) → IsTrue (is_in b) → nat_eq b 44 ≡ false) → (t : List ℕ) → AllByRecursion (λ b. IsTrue (is_in b)) t → Avoids 44 t
all_avoid is_in f [] all = tt
all_avoid is_in f (b ∷ t) all = (f b all.0, all_avoid is_in f t all.1)

wide : (n : ℕ) → n < 2 ^ 32 → n ≤ 2 ^ 126
wide n h = omega (arith, small)
  where
    small : 2 ^ 32 < 2 ^ 126
    small = lit< tt

number_item : (k : ℕ) → IsShort k → IsItem number decimal k
number_item k h = record {
  avoids = all_avoid is_digit digit_no_comma (decimal k) (number_spells (2 ^ 126) k [] (wide k h) (wide k h) refl).0.run.all;
  back = λ b. number_back k (tail b) h (tail_ends b);
}

variable_item : (v : Var) → HasNumber v → IsItem variable numbered_text v
variable_item v h = record {
  avoids = all_avoid is_in_name name_no_comma (numbered_text v) (variable_spells (2 ^ 126) v [] h refl).0.run.all;
  back = λ b. variable_back v (tail b) h (tail_ends b);
}

number_items : (ks : List ℕ) → AllByRecursion IsShort ks → AllByRecursion (IsItem number decimal) ks
number_items [] h = tt
number_items (k ∷ ks) h = (number_item k h.0, number_items ks h.1)

variable_items : (vs : List Var) → AllByRecursion HasNumber vs → AllByRecursion (IsItem variable numbered_text) vs
variable_items [] h = tt
variable_items (v ∷ vs) h = (variable_item v h.0, variable_items vs h.1)

pub begun : (is_in : ℕ → Bool) (t u : List ℕ) → BeginsWith is_in t → BeginsWith is_in (t ++ u)
begun is_in [] u h = absurd h
begun is_in (b ∷ t) u h = h

digit_some : (t : List ℕ) → BeginsWith is_digit t → is_over (32 ∷ t) ≡ false
digit_some [] h = absurd h
digit_some (b ∷ t) h = ap is_nothing (past_digit (b ∷ []) t h)

letter_some : (t : List ℕ) → BeginsWith is_letter t → is_over (32 ∷ t) ≡ false
letter_some [] h = absurd h
letter_some (b ∷ t) h = ap is_nothing (past_letter (b ∷ []) t h)

from_part : (ks : List ℕ) (b : Bool) (parts : List (List ℕ)) → AllByRecursion IsShort ks → numbers_after (codes "from") ((32 ∷ (list_part (codes "from") decimal ks ++ tail b)) ∷ parts) ≡ Ok (ks, parts)
from_part [] b parts h = after_back (codes "from") (listed number) (tail b) [] parts refl (tail_ends b) (empty_back number decimal b)
from_part (k ∷ ks) b parts h =
    let more : List ℕ = with_signs (codes ", ") (codes ", ") decimal ks in
    after_back (codes "from") (listed number) (32 ∷ ((decimal k ++ more) ++ tail b)) (k ∷ ks) parts refl refl
    (listed_back number decimal b k ks (number_item k h.0) (number_items ks h.1)
    (digit_some ((decimal k ++ more) ++ tail b) (begun is_digit (decimal k ++ more) (tail b) (begun is_digit (decimal k) more (number_spells (2 ^ 126) k [] (wide k h.0) (wide k h.0) refl).0.first))))

opens_part : (vs : List Var) (b : Bool) (parts : List (List ℕ)) → AllByRecursion HasNumber vs → after (codes "opens") (listed variable) ((32 ∷ (list_part (codes "opens") numbered_text vs ++ tail b)) ∷ parts) ≡ Ok (vs, parts)
opens_part [] b parts h = after_back (codes "opens") (listed variable) (tail b) [] parts refl (tail_ends b) (empty_back variable numbered_text b)
opens_part (v ∷ vs) b parts h =
    let more : List ℕ = with_signs (codes ", ") (codes ", ") numbered_text vs in
    after_back (codes "opens") (listed variable) (32 ∷ ((numbered_text v ++ more) ++ tail b)) (v ∷ vs) parts refl refl
    (listed_back variable numbered_text b v vs (variable_item v h.0) (variable_items vs h.1)
    (letter_some ((numbered_text v ++ more) ++ tail b) (begun is_letter (numbered_text v ++ more) (tail b) (begun is_letter (numbered_text v) more (variable_spells (2 ^ 126) v [] h.0 refl).0.first))))

slots_part : (ss : List (Option Var)) (b : Bool) (parts : List (List ℕ)) → AllByRecursion SlotIsWritable ss
    → after (codes "slots") slots ((32 ∷ ((codes "slots" ++ each_after (codes " ") slot_text ss) ++ tail b)) ∷ parts) ≡ Ok (ss, parts)
slots_part ss b parts h = after_back (codes "slots") slots (each_after (codes " ") slot_text ss ++ tail b) ss parts refl (more_ends b ss) (slots_back b ss h)

-- ---- clean parts

abbrev pub all_clean : List ℕ → Bool
all_clean [] = true
all_clean (b ∷ t) = is_clean b && all_clean t

pub clean_by : (t : List ℕ) → IsTrue (all_clean t) → Clean t
clean_by [] h = tt
clean_by (b ∷ t) h = let parts = and_parts (is_clean b) (all_clean t) h in (parts.0, clean_by t parts.1)

list_clean : {A : Type 0} (w : List ℕ) (text : A → List ℕ) (xs : List A) → Clean w → AllByRecursion (λ x. Clean (text x)) xs → Clean (list_part w text xs)
list_clean w text [] h all = h
list_clean w text (x ∷ xs) h all = join w (32 ∷ separated (codes ", ") text (x ∷ xs)) h (refl, with_clean [] (codes ", ") text (x ∷ xs) tt (refl, (refl, tt)) all)

numbers_clean : (ks : List ℕ) → AllByRecursion (λ k. Clean (decimal k)) ks
numbers_clean [] = tt
numbers_clean (k ∷ ks) = (decimal_clean k, numbers_clean ks)

variables_clean : (vs : List Var) → AllByRecursion (λ v. Clean (numbered_text v)) vs
variables_clean [] = tt
variables_clean (v ∷ vs) = (variable_clean v, variables_clean vs)

slot_clean : (o : Option Var) → Clean (slot_text o)
slot_clean None = (refl, tt)
slot_clean (Some v) = variable_clean v

slots_clean : (ss : List (Option Var)) → AllByRecursion (λ o. Clean (slot_text o)) ss
slots_clean [] = tt
slots_clean (s ∷ ss) = (slot_clean s, slots_clean ss)

after_word : (w t : List ℕ) → IsTrue (all_clean w) → Clean t → Clean (w ++ t)
after_word w t h g = join w t (clean_by w h) g

flag_clean : (v : Bool) → Clean (flag_text v)
flag_clean true = clean_by (codes "looked 1") refl
flag_clean false = clean_by (codes "looked 0") refl

two_clean : (w : List ℕ) (m n : ℕ) → IsTrue (all_clean w) → Clean (two_numbers w m n)
two_clean w m n h = after_word w (decimal m ++ (32 ∷ decimal n)) h (join (decimal m) (32 ∷ decimal n) (decimal_clean m) (refl, decimal_clean n))

erule_clean : (r : ERule) → Clean (erule_text r)
erule_clean e.LeftOr = clean_by (codes "leftor") refl
erule_clean e.LeftExists = clean_by (codes "leftexists") refl
erule_clean (e.False n) = after_word (codes "false ") (decimal n) refl (decimal_clean n)
erule_clean (e.Split f) = after_word (codes "split (") (pure_text None f ++ codes ")") refl (join (pure_text None f) (codes ")") (pure_clean f) (refl, tt))
erule_clean (e.RightOr n) = after_word (codes "rightor ") (decimal n) refl (decimal_clean n)
erule_clean e.RightExists = clean_by (codes "rightexists") refl
erule_clean (e.Instantiate n) = after_word (codes "instantiate ") (decimal n) refl (decimal_clean n)
erule_clean (e.Match m n) = two_clean (codes "match ") m n refl
erule_clean (e.Unfold n) = after_word (codes "unfold ") (decimal n) refl (decimal_clean n)
erule_clean (e.Fold m n) = two_clean (codes "fold ") m n refl
erule_clean (e.Empty n) = after_word (codes "empty ") (decimal n) refl (decimal_clean n)
erule_clean (e.Lemma m n) = two_clean (codes "lemma ") m n refl

prule_clean : (r : PRule) → Clean (prule_text r)
prule_clean p.Or = clean_by (codes "or") refl
prule_clean p.Assign = clean_by (codes "assign") refl
prule_clean p.New = clean_by (codes "new") refl
prule_clean p.Get = clean_by (codes "get") refl
prule_clean p.Set = clean_by (codes "set") refl
prule_clean p.Branch = clean_by (codes "branch") refl
prule_clean p.Jump = clean_by (codes "jump") refl
prule_clean (p.Call n) = after_word (codes "call ") (decimal n) refl (decimal_clean n)
prule_clean p.Return = clean_by (codes "return") refl

rule_clean : (r : Rule) → Clean (rule_text r)
rule_clean Inv = clean_by (codes "inv") refl
rule_clean (E r) = erule_clean r
rule_clean (P r) = prule_clean r

module _ (defs : Defs) (fit : DefsAreWritable defs) where
  judgement_clean : (j : Judgement) → AllByRecursion Clean (judgement_parts defs j)
  judgement_clean (Shown pred) = (after_word (codes "pred ") (decimal pred) refl (decimal_clean pred), tt)
  judgement_clean (Entails g r) = (
    after_word (codes "used ") (atoms_text defs None g.used) refl (atoms_clean defs fit g.used),
    (
      after_word (codes "left ") (formula_text defs None g.left) refl (formula_clean defs fit g.left),
      (
        list_clean (codes "opens") numbered_text g.opens (clean_by (codes "opens") refl) (variables_clean g.opens),
        (
          after_word (codes "right ") (formula_text defs None g.right) refl (formula_clean defs fit g.right),
          (
            after_word (codes "next ") (decimal g.next) refl (decimal_clean g.next),
            (flag_clean g.looked, (after_word (codes "residue ") (formula_text defs None r) refl (formula_clean defs fit r), tt)),
          ),
        ),
      ),
    ),
  )
  judgement_clean (Runs at) = (
    after_word (codes "method ") (decimal at.method) refl (decimal_clean at.method),
    (
      after_word (codes "pair ") (decimal at.pair) refl (decimal_clean at.pair),
      (
        after_word (codes "point ") (decimal at.point) refl (decimal_clean at.point),
        (
          after_word (codes "slots") (each_after (codes " ") slot_text at.state.slots) refl
              (with_clean (codes " ") (codes " ") slot_text at.state.slots (refl, tt) (refl, tt) (slots_clean at.state.slots)),
          (
            after_word (codes "state ") (formula_text defs None at.state.formula) refl (formula_clean defs fit at.state.formula),
            (after_word (codes "next ") (decimal at.state.next) refl (decimal_clean at.state.next), tt),
          ),
        ),
      ),
    ),
  )

  -- ---- nodes

  shown_back : (pred : ℕ) → IsShort pred
      → shown_body (padded (list_part (codes "from") decimal [] ∷ judgement_parts defs (Shown pred))) ≡ Ok (record { premises = []; judgement = Shown pred }, [])
  shown_back pred h =
      let more : Unit {0} → Steps (List (List ℕ)) Body = λ none. number_after (codes "pred") >>= (λ k. no_more >>= (λ none_left. pure (record { premises = []; judgement = Shown k }))) in
      ap (λ o. and_then o more) (after_back (codes "from") over (tail true) tt (padded (judgement_parts defs (Shown pred))) refl refl refl)
      ∙ ap (λ o. and_then o (λ k. no_more >>= (λ none_left. pure (record { premises = []; judgement = Shown k })))) (number_part (codes "pred") pred false [] refl h)

  entails_back : (g : Goal) (r : Formula) (ks : List ℕ) → AllByRecursion IsShort ks → GoalIsWritable defs g → FormulaIsWritable defs r
      → entails_body defs (padded (list_part (codes "from") decimal ks ∷ judgement_parts defs (Entails g r))) ≡ Ok (record { premises = ks; judgement = Entails g r }, [])
  entails_back g r ks short h k =
      go _ _ ks _ _ (from_part ks true _ short)
      (go _ _ g.used _ _ (after_back (codes "used") (heap defs) (32 ∷ (atoms_text defs None g.used ++ tail true)) g.used _ refl refl (heap_back defs fit true g.used h.used))
      (go _ _ g.left _ _ (after_back (codes "left") (formula defs) (32 ∷ (formula_text defs None g.left ++ tail true)) g.left _ refl refl (formula_back defs fit true g.left h.left))
      (go _ _ g.opens _ _ (opens_part g.opens true _ h.opens)
      (go _ _ g.right _ _ (after_back (codes "right") (formula defs) (32 ∷ (formula_text defs None g.right ++ tail true)) g.right _ refl refl (formula_back defs fit true g.right h.right))
      (go _ _ g.next _ _ (number_part (codes "next") g.next true _ refl h.next)
      (go _ _ g.looked _ _ (flag_part g.looked true _)
      (go _ _ r _ _ (after_back (codes "residue") (formula defs) (32 ∷ (formula_text defs None r ++ tail false)) r [] refl refl (formula_back defs fit false r k)) refl)))))))

  runs_back : (at : At) (ks : List ℕ) → AllByRecursion IsShort ks → AtIsWritable defs at
      → runs_body defs (padded (list_part (codes "from") decimal ks ∷ judgement_parts defs (Runs at))) ≡ Ok (record { premises = ks; judgement = Runs at }, [])
  runs_back at ks short h =
      go _ _ ks _ _ (from_part ks true _ short)
      (go _ _ at.method _ _ (number_part (codes "method") at.method true _ refl h.method)
      (go _ _ at.pair _ _ (number_part (codes "pair") at.pair true _ refl h.pair)
      (go _ _ at.point _ _ (number_part (codes "point") at.point true _ refl h.point)
      (go _ _ at.state.slots _ _ (slots_part at.state.slots true _ h.slots)
      (go _ _ at.state.formula _ _ (after_back (codes "state") (formula defs) (32 ∷ (formula_text defs None at.state.formula ++ tail true)) at.state.formula _ refl refl (formula_back defs fit true at.state.formula h.state))
      (go _ _ at.state.next _ _ (number_part (codes "next") at.state.next false [] refl h.next) refl))))))

  earlier_short : (n : ℕ) (ks : List ℕ) → n < 2 ^ 32 → AllByRecursion (IsEarlier defs n) ks → AllByRecursion IsShort ks
  earlier_short n [] small h = tt
  earlier_short n (k ∷ ks) small h = (below k n h.0.1 small, earlier_short n ks small h.1)
    where
      below : (k n : ℕ) → k < n → n < 2 ^ 32 → k < 2 ^ 32
      below k n h g = omega arith

  by_step : (rule : Rule) (j : Judgement) (ks : List ℕ) → AllByRecursion IsShort ks → StepIsWritable defs rule j ks
      → RuleIsWritable rule × (body_by defs rule (padded (list_part (codes "from") decimal ks ∷ judgement_parts defs j)) ≡ Ok (record { premises = ks; judgement = j }, []))
  by_step Inv (Shown pred) [] short h = (tt, shown_back pred h)
  by_step Inv (Shown pred) (k ∷ ks) short h = absurd h
  by_step Inv (Entails g r) ks short h = absurd h
  by_step Inv (Runs at) ks short h = absurd h
  by_step (E rule) (Shown pred) ks short h = absurd h
  by_step (E rule) (Entails g r) ks short h = (h.0, entails_back g r ks short h.1.0 h.1.1)
  by_step (E rule) (Runs at) ks short h = absurd h
  by_step (P rule) (Shown pred) ks short h = absurd h
  by_step (P rule) (Entails g r) ks short h = absurd h
  by_step (P rule) (Runs at) ks short h = (h.0, runs_back at ks short h.1)

  head_clean : (n : ℕ) (r : Rule) → Clean (decimal n ++ (32 ∷ rule_text r))
  head_clean n r = join (decimal n) (32 ∷ rule_text r) (decimal_clean n) (refl, rule_clean r)

  node_back : (n : ℕ) (rule : Rule) (j : Judgement) (ks : List ℕ) → n < 2 ^ 32 → AllByRecursion IsShort ks → StepIsWritable defs rule j ks
      → node defs n (cut_at 59 (node_text defs n (record { judgement = j; rule = rule; premises = ks }))) ≡ Ok (record { judgement = j; rule = rule; premises = ks }, [])
  node_back n rule j ks small short h =
      let ps : List (List ℕ) = list_part (codes "from") decimal ks ∷ judgement_parts defs j in
      let first : List ℕ = decimal n ++ (32 ∷ rule_text rule) in
      let step = by_step rule j ks short h in
      let cuts : cut_at 59 (first ++ with_signs (codes " ; ") (codes " ; ") (λ part. part) ps) ≡ (first ++ tail true) ∷ padded ps =
      line_cut first ps (head_clean n rule) (list_clean (codes "from") decimal ks (clean_by (codes "from") refl) (numbers_clean ks), judgement_clean j) in
      let front : head n (first ++ tail true) ≡ Ok rule = ap (head n) (append_assoc (decimal n) (32 ∷ rule_text rule) (tail true)) ∙ head_back n true rule small step.0 in
      ap (node defs n) cuts ∙ go _ _ rule (padded ps) _ (ap (mapped (λ a. (a, padded ps))) front) (ap (λ o. and_then o (λ body. pure (with_rule rule body))) step.1)

-- ---- whole lines

-- an ASCII byte, but no line end
abbrev pub is_lined : ℕ → Bool
is_lined b = nat_lt b 128 && not (nat_eq b 10)

abbrev pub Lined : List ℕ → Type 0
Lined t = AllByRecursion (λ b. IsTrue (is_lined b)) t

clean_byte : (b : ℕ) → IsTrue (is_clean b) → IsTrue (is_lined b)
clean_byte b h = grind (arith, nat_tests)

pub clean_lined : (t : List ℕ) → Clean t → Lined t
clean_lined [] h = tt
clean_lined (b ∷ t) h = (clean_byte b h.0, clean_lined t h.1)

lined_join : (t u : List ℕ) → Lined t → Lined u → Lined (t ++ u)
lined_join [] u h g = g
lined_join (b ∷ t) u h g = (h.0, lined_join t u h.1 g)

parts_lined : (ps : List (List ℕ)) → AllByRecursion Clean ps → Lined (with_signs (codes " ; ") (codes " ; ") bare ps)
parts_lined [] all = tt
parts_lined (p ∷ ps) all = (refl, (refl, (refl, lined_join p (with_signs (codes " ; ") (codes " ; ") bare ps) (clean_lined p all.0) (parts_lined ps all.1))))

pub node_lined : (defs : Defs) → DefsAreWritable defs → (n : ℕ) (x : Node) → Lined (node_text defs n x)
node_lined defs fit n x =
    let ps : List (List ℕ) = list_part (codes "from") decimal x.premises ∷ judgement_parts defs x.judgement in
    lined_join (decimal n ++ (32 ∷ rule_text x.rule)) (with_signs (codes " ; ") (codes " ; ") bare ps) (clean_lined (decimal n ++ (32 ∷ rule_text x.rule)) (head_clean defs fit n x.rule))
    (parts_lined ps (list_clean (codes "from") decimal x.premises (clean_by (codes "from") refl) (numbers_clean x.premises), judgement_clean defs fit x.judgement))

pub node_begins : (defs : Defs) (n : ℕ) (x : Node) → n < 2 ^ 32 → BeginsWith is_digit (node_text defs n x)
node_begins defs n x small =
    begun is_digit (decimal n ++ (32 ∷ rule_text x.rule)) _ (begun is_digit (decimal n) (32 ∷ rule_text x.rule) (number_spells (2 ^ 126) n [] (wide n small) (wide n small) refl).0.first)

pub nodes_come_back : NodesComeBack
nodes_come_back defs n x fit small h = node_back defs fit n x.rule x.judgement x.premises small (earlier_short defs fit n x.premises small h.earlier) h.step
