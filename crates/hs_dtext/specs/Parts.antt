-- The parts of a node's line, which stand between semicolons.
use Rattle.std.specs.Prelude.{ℕ, Bool, true, false, if◌then◌else◌, nat_eq, List, [], ◌∷◌, codes, Option, Some, None, Ok, Err}
use Rattle.std.specs.Str.{bytes_eq}
use Rattle.hs_lex.specs.Tokens.{is_in_name}
use Rattle.hs_heap.specs.declared.definitions.Defs.{Defs}
use Rattle.hs_goal.specs.declared.rule.ERule.TheVariants as e
use Rattle.hs_core.specs.declared.state.PRule.TheVariants as p
use Rattle.hs_node.specs.declared.judgement.Judgement.TheVariants.{Shown, Entails, Runs}
use Rattle.hs_node.specs.declared.judgement.Rule.{Rule}
use Rattle.hs_node.specs.declared.judgement.Rule.TheVariants.{Inv, E, P}
use Rattle.hs_node.specs.declared.derivation.Node.{Node}
use Rattle.hs_line.specs.declared.fault.Fault.TheVariants.{Word, Number}
use Rattle.hs_dtext.specs.declared.reading.Body.{Body}
use Rattle.hs_dtext.specs.declared.words.RuleWord.{RuleWord}
use Rattle.hs_dtext.specs.declared.words.RuleWord.TheVariants as w
use Rattle.hs_line.specs.Steps.{Outcome, Steps, ◌>>=◌, pure, on_ok, mapped, finish}
use Rattle.hs_line.specs.Scan.{run, behind, over, alone, word, number, exactly, variable, listed, slots}
use Rattle.hs_dtext.specs.Formulas.{formula, heap, enclosed}

-- ---- rules

-- the words of rules
abbrev pub rule_words : List (List ℕ × RuleWord)
rule_words =
    (codes "inv", w.Inv) ∷ (codes "leftor", w.LeftOr) ∷ (codes "leftexists", w.LeftExists) ∷ (codes "false", w.False) ∷ (codes "split", w.Split)
    ∷ (codes "rightor", w.RightOr) ∷ (codes "rightexists", w.RightExists) ∷ (codes "instantiate", w.Instantiate) ∷ (codes "match", w.Match)
    ∷ (codes "unfold", w.Unfold) ∷ (codes "fold", w.Fold) ∷ (codes "empty", w.Empty) ∷ (codes "lemma", w.Lemma)
    ∷ (codes "or", w.Or) ∷ (codes "assign", w.Assign) ∷ (codes "new", w.New) ∷ (codes "get", w.Get) ∷ (codes "set", w.Set)
    ∷ (codes "branch", w.Branch) ∷ (codes "jump", w.Jump) ∷ (codes "call", w.Call) ∷ (codes "return", w.Return) ∷ []

-- the rule of a word in a list
abbrev pub word_among : List (List ℕ × RuleWord) → List ℕ → Option RuleWord
word_among [] text = None
word_among (k ∷ ks) text = if bytes_eq text k.0 then Some k.1 else word_among ks text

-- the rule of a word
abbrev pub rule_word : List ℕ → Option RuleWord
rule_word = word_among rule_words

-- a rule without numbers
abbrev pub without : Rule → List ℕ → Outcome Rule
without rule rest = mapped (λ _. rule) (over rest)

-- with one number
abbrev pub with_one : (ℕ → Rule) → List ℕ → Outcome Rule
with_one rule rest = mapped rule (alone number rest)

-- two numbers
abbrev pub number_pair : List ℕ → Outcome (ℕ × ℕ)
number_pair rest = finish number (λ k rest. mapped (λ l. (k, l)) (alone number rest)) rest

-- with two numbers
abbrev pub with_two : (ℕ → ℕ → Rule) → List ℕ → Outcome Rule
with_two rule rest = mapped (λ p. rule p.0 p.1) (number_pair rest)

-- the rule of a word, with what stands behind it
abbrev pub rule_by : RuleWord → List ℕ → Outcome Rule
rule_by w.Inv rest = without Inv rest
rule_by w.LeftOr rest = without (E e.LeftOr) rest
rule_by w.LeftExists rest = without (E e.LeftExists) rest
rule_by w.False rest = with_one (λ n. E (e.False n)) rest
rule_by w.Split rest = mapped (λ f. E (e.Split f)) (enclosed rest)
rule_by w.RightOr rest = with_one (λ i. E (e.RightOr i)) rest
rule_by w.RightExists rest = without (E e.RightExists) rest
rule_by w.Instantiate rest = with_one (λ c. E (e.Instantiate c)) rest
rule_by w.Match rest = with_two (λ r l. E (e.Match r l)) rest
rule_by w.Unfold rest = with_one (λ l. E (e.Unfold l)) rest
rule_by w.Fold rest = with_two (λ r i. E (e.Fold r i)) rest
rule_by w.Empty rest = with_one (λ n. E (e.Empty n)) rest
rule_by w.Lemma rest = with_two (λ j l. E (e.Lemma j l)) rest
rule_by w.Or rest = without (P p.Or) rest
rule_by w.Assign rest = without (P p.Assign) rest
rule_by w.New rest = without (P p.New) rest
rule_by w.Get rest = without (P p.Get) rest
rule_by w.Set rest = without (P p.Set) rest
rule_by w.Branch rest = without (P p.Branch) rest
rule_by w.Jump rest = without (P p.Jump) rest
rule_by w.Call rest = with_one (λ i. P (p.Call i)) rest
rule_by w.Return rest = without (P p.Return) rest

-- the rule of a word, if it is one
abbrev pub rule_or : Option RuleWord → List ℕ → Outcome Rule
rule_or None rest = Err Word
rule_or (Some w) rest = rule_by w rest

-- a rule
abbrev pub rule : List ℕ → Outcome Rule
rule text = rule_or (rule_word (run is_in_name text)) (behind is_in_name text)

-- the number of the node, and its rule
abbrev pub head : ℕ → List ℕ → Outcome Rule
head n text = finish (exactly n) (λ _ rest. rule rest) text

-- ---- parts

-- reading the parts of a line
abbrev pub Parts : Type 0 → Type 0
Parts A = Steps (List (List ℕ)) A

-- the next part
abbrev pub part : {A : Type 0} → (List ℕ → Outcome A) → Parts A
part f [] = Err Word
part f (text ∷ parts) = mapped (λ a. (a, parts)) (f text)

-- the rest of the next part, behind its word
abbrev pub behind_word : List ℕ → Parts (List ℕ)
behind_word w = part (λ text. mapped (λ r. r.1) (word w text))

-- a word, and what is read of the rest of the part
abbrev pub after : {A : Type 0} → List ℕ → (List ℕ → Outcome A) → Parts A
after w f = behind_word w >>= (λ rest. λ parts. mapped (λ a. (a, parts)) (f rest))

-- no part is left
abbrev pub no_more : Parts (Unit {0})
no_more [] = Ok (tt, [])
no_more (text ∷ parts) = Err Word

-- a number that tells yes or no
abbrev pub flag : ℕ → Outcome Bool
flag k = if nat_eq k 0 then Ok false else (if nat_eq k 1 then Ok true else Err Number)

-- numbers behind a word
abbrev pub numbers_after : List ℕ → Parts (List ℕ)
numbers_after w = after w (listed number)

-- a number behind a word
abbrev pub number_after : List ℕ → Parts ℕ
number_after w = after w (alone number)

-- yes or no behind a word
abbrev pub flag_after : List ℕ → Parts Bool
flag_after w = after w (λ rest. on_ok (alone number rest) flag)

-- what stands behind the rule of invariants
abbrev pub shown_body : Parts Body
shown_body = do
  nothing ← after (codes "from") over
  pred ← number_after (codes "pred")
  none_left ← no_more
  pure (record { premises = []; judgement = Shown pred })

-- the part of the number and the rule of node n
abbrev pub rule_part : ℕ → Parts Rule
rule_part n = part (head n)

-- the node of a rule and of what stands behind it
abbrev pub with_rule : Rule → Body → Node
with_rule rule body = record { judgement = body.judgement; rule = rule; premises = body.premises }

module _ (defs : Defs) where
  -- what stands behind a rule of entailments
  abbrev pub entails_body : Parts Body
  entails_body = do
    premises ← numbers_after (codes "from")
    used ← after (codes "used") (heap defs)
    left ← after (codes "left") (formula defs)
    opens ← after (codes "opens") (listed variable)
    right ← after (codes "right") (formula defs)
    next ← number_after (codes "next")
    looked ← flag_after (codes "looked")
    residue ← after (codes "residue") (formula defs)
    none_left ← no_more
    pure (record {
      premises = premises;
      judgement = Entails (record { used = used; left = left; opens = opens; right = right; next = next; looked = looked }) residue;
    })

  -- what stands behind a rule of programs
  abbrev pub runs_body : Parts Body
  runs_body = do
    premises ← numbers_after (codes "from")
    method ← number_after (codes "method")
    pair ← number_after (codes "pair")
    point ← number_after (codes "point")
    held ← after (codes "slots") slots
    state ← after (codes "state") (formula defs)
    next ← number_after (codes "next")
    none_left ← no_more
    pure (record {
      premises = premises;
      judgement = Runs (record { method = method; pair = pair; point = point; state = record { slots = held; formula = state; next = next } });
    })

  -- the parts behind the rule
  abbrev pub body_by : Rule → Parts Body
  body_by Inv = shown_body
  body_by (E rule) = entails_body
  body_by (P rule) = runs_body

  -- all the parts of the line of node n
  abbrev pub node : ℕ → Parts Node
  node n = rule_part n >>= (λ rule. body_by rule >>= (λ body. pure (with_rule rule body)))
