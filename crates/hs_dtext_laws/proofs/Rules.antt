-- Rules are read.
use Rattle.std.proofs.Common.{◌≡◌, ℕ, ◌<◌, ◌^◌, Bool, if◌then◌else◌, nat_eq, List, ◌∷◌, ◌++◌, Some, None, Ok, Err, refl, ap, ◌∙◌, append_assoc}
use Rattle.std.specs.Prelude.{IsTrue, codes}
use Rattle.std.specs.Fmt.{decimal}
use Rattle.std.proofs.lemmas.Bool.{eq-eqb}
use Rattle.hs_lex.specs.Tokens.{is_in_name}
use Rattle.hs_goal.specs.declared.rule.ERule.{ERule}
use Rattle.hs_goal.specs.declared.rule.ERule.TheVariants as e
use Rattle.hs_core.specs.declared.state.PRule.{PRule}
use Rattle.hs_core.specs.declared.state.PRule.TheVariants as p
use Rattle.hs_node.specs.declared.judgement.Rule.{Rule}
use Rattle.hs_node.specs.declared.judgement.Rule.TheVariants.{Inv, E, P}
use Rattle.hs_print.specs.Pure.{pure_text}
use Rattle.hs_round_trip.proofs.Segments.{is_end}
use Rattle.hs_round_trip.proofs.Words.{is_word, word_spells}
use Rattle.hs_line.specs.declared.fault.Fault.TheVariants.{Word, Number}
use Rattle.hs_line.specs.Steps.{Outcome, on_ok, mapped, and_then}
use Rattle.hs_line.specs.Scan.{alone, number}
use Rattle.hs_dtext.specs.declared.words.RuleWord.{RuleWord}
use Rattle.hs_dtext.specs.declared.words.RuleWord.TheVariants as w
use Rattle.hs_dtext.specs.Parts.{rule_word, without, with_one, with_two, rule_by, rule_or, rule, head}
use Rattle.hs_dtext.specs.Text.{erule_text, prule_text, rule_text}
use Rattle.hs_dtext_laws.specs.Writable.{IsShort, IsWritableRule, IsWritableProgramRule}
use Rattle.hs_dtext_laws.proofs.Fronts.{tail, tail_ends, tail_over, past_letter, run_back, behind_back, number_back}
use Rattle.hs_dtext_laws.proofs.Lists.{alone_back}
use Rattle.hs_dtext_laws.proofs.Formulas.{enclosed_back}

-- a word of a rule, behind a blank
front : (t : List ℕ) (v : RuleWord) (rest : List ℕ) → IsTrue (is_word t) → IsTrue (is_end rest) → rule_word t ≡ Some v → rule (32 ∷ (t ++ rest)) ≡ rule_by v rest
front t v rest is ends known =
    let spells = word_spells (2 ^ 126) t rest is ends in
    let past = past_letter t rest spells.0.first in
    let r = run_back is_in_name t rest past spells.0.run in
    let b = behind_back is_in_name t rest past spells.0.run in
    (λ i. rule_or (rule_word (r i)) (b i)) ∙ ap (λ o. rule_or o rest) known

plain : (b : Bool) (r : Rule) → without r (tail b) ≡ Ok r
plain b r = λ i. mapped (λ _. r) (if tail_over b i then Ok tt else Err Word)

one : (b : Bool) (n : ℕ) (f : ℕ → Rule) → IsShort n → with_one f (32 ∷ (decimal n ++ tail b)) ≡ Ok (f n)
one b n f h = ap (mapped f) (alone_back number n (32 ∷ (decimal n ++ tail b)) b (number_back n (tail b) h (tail_ends b)))

two : (b : Bool) (m n : ℕ) (f : ℕ → ℕ → Rule) → IsShort m → IsShort n → with_two f (32 ∷ (decimal m ++ (32 ∷ (decimal n ++ tail b)))) ≡ Ok (f m n)
two b m n f h g =
    let made : ℕ × ℕ → Rule = λ p. f p.0 p.1 in
    let pair : ℕ → ℕ → ℕ × ℕ = λ k l. (k, l) in
    let more : ℕ × List ℕ → Outcome (ℕ × ℕ) = λ r. mapped (pair r.0) (alone number r.1) in
    ap (λ o. mapped made (on_ok o more)) (number_back m (32 ∷ (decimal n ++ tail b)) h refl)
    ∙ ap (λ o. mapped made (mapped (pair m) o)) (alone_back number n (32 ∷ (decimal n ++ tail b)) b (number_back n (tail b) g (tail_ends b)))

two_shape : (b : Bool) (m n : ℕ) → (decimal m ++ (32 ∷ decimal n)) ++ tail b ≡ decimal m ++ (32 ∷ (decimal n ++ tail b))
two_shape b m n = append_assoc (decimal m) (32 ∷ decimal n) (tail b)

erule_back : (b : Bool) (r : ERule) → IsWritableRule r → rule (32 ∷ (erule_text r ++ tail b)) ≡ Ok (E r)
erule_back b e.LeftOr h = front (codes "leftor") w.LeftOr (tail b) refl (tail_ends b) refl ∙ plain b (E e.LeftOr)
erule_back b e.LeftExists h = front (codes "leftexists") w.LeftExists (tail b) refl (tail_ends b) refl ∙ plain b (E e.LeftExists)
erule_back b (e.False n) h = front (codes "false") w.False (32 ∷ (decimal n ++ tail b)) refl refl refl ∙ one b n (λ k. E (e.False k)) h
erule_back b (e.Split f) h =
    ap (λ t. rule (32 ∷ (codes "split (" ++ t))) (append_assoc (pure_text None f) (codes ")") (tail b))
    ∙ (front (codes "split") w.Split (32 ∷ 40 ∷ (pure_text None f ++ 41 ∷ tail b)) refl refl refl ∙ ap (mapped (λ g. E (e.Split g))) (enclosed_back b f h))
erule_back b (e.RightOr n) h = front (codes "rightor") w.RightOr (32 ∷ (decimal n ++ tail b)) refl refl refl ∙ one b n (λ k. E (e.RightOr k)) h
erule_back b e.RightExists h = front (codes "rightexists") w.RightExists (tail b) refl (tail_ends b) refl ∙ plain b (E e.RightExists)
erule_back b (e.Instantiate n) h = front (codes "instantiate") w.Instantiate (32 ∷ (decimal n ++ tail b)) refl refl refl ∙ one b n (λ k. E (e.Instantiate k)) h
erule_back b (e.Match m n) h =
    ap (λ t. rule (32 ∷ (codes "match " ++ t))) (two_shape b m n)
    ∙ (front (codes "match") w.Match (32 ∷ (decimal m ++ (32 ∷ (decimal n ++ tail b)))) refl refl refl ∙ two b m n (λ j k. E (e.Match j k)) h.0 h.1)
erule_back b (e.Unfold n) h = front (codes "unfold") w.Unfold (32 ∷ (decimal n ++ tail b)) refl refl refl ∙ one b n (λ k. E (e.Unfold k)) h
erule_back b (e.Fold m n) h =
    ap (λ t. rule (32 ∷ (codes "fold " ++ t))) (two_shape b m n)
    ∙ (front (codes "fold") w.Fold (32 ∷ (decimal m ++ (32 ∷ (decimal n ++ tail b)))) refl refl refl ∙ two b m n (λ j k. E (e.Fold j k)) h.0 h.1)
erule_back b (e.Empty n) h = front (codes "empty") w.Empty (32 ∷ (decimal n ++ tail b)) refl refl refl ∙ one b n (λ k. E (e.Empty k)) h
erule_back b (e.Lemma m n) h =
    ap (λ t. rule (32 ∷ (codes "lemma " ++ t))) (two_shape b m n)
    ∙ (front (codes "lemma") w.Lemma (32 ∷ (decimal m ++ (32 ∷ (decimal n ++ tail b)))) refl refl refl ∙ two b m n (λ j k. E (e.Lemma j k)) h.0 h.1)

prule_back : (b : Bool) (r : PRule) → IsWritableProgramRule r → rule (32 ∷ (prule_text r ++ tail b)) ≡ Ok (P r)
prule_back b p.Or h = front (codes "or") w.Or (tail b) refl (tail_ends b) refl ∙ plain b (P p.Or)
prule_back b p.Assign h = front (codes "assign") w.Assign (tail b) refl (tail_ends b) refl ∙ plain b (P p.Assign)
prule_back b p.New h = front (codes "new") w.New (tail b) refl (tail_ends b) refl ∙ plain b (P p.New)
prule_back b p.Get h = front (codes "get") w.Get (tail b) refl (tail_ends b) refl ∙ plain b (P p.Get)
prule_back b p.Set h = front (codes "set") w.Set (tail b) refl (tail_ends b) refl ∙ plain b (P p.Set)
prule_back b p.Branch h = front (codes "branch") w.Branch (tail b) refl (tail_ends b) refl ∙ plain b (P p.Branch)
prule_back b p.Jump h = front (codes "jump") w.Jump (tail b) refl (tail_ends b) refl ∙ plain b (P p.Jump)
prule_back b (p.Call n) h = front (codes "call") w.Call (32 ∷ (decimal n ++ tail b)) refl refl refl ∙ one b n (λ k. P (p.Call k)) h
prule_back b p.Return h = front (codes "return") w.Return (tail b) refl (tail_ends b) refl ∙ plain b (P p.Return)

-- a rule by itself
abbrev pub RuleIsWritable : Rule → Type 0
RuleIsWritable Inv = Unit {0}
RuleIsWritable (E r) = IsWritableRule r
RuleIsWritable (P r) = IsWritableProgramRule r

rule_back : (b : Bool) (r : Rule) → RuleIsWritable r → rule (32 ∷ (rule_text r ++ tail b)) ≡ Ok r
rule_back b Inv h = front (codes "inv") w.Inv (tail b) refl (tail_ends b) refl ∙ plain b Inv
rule_back b (E r) h = erule_back b r h
rule_back b (P r) h = prule_back b r h

pub head_back : (n : ℕ) (b : Bool) (r : Rule) → n < 2 ^ 32 → RuleIsWritable r → head n (decimal n ++ (32 ∷ (rule_text r ++ tail b))) ≡ Ok r
head_back n b r small h =
    let rest : List ℕ = 32 ∷ (rule_text r ++ tail b) in
    let done : Outcome (Unit {0} × List ℕ) = Ok (tt, rest) in
    let more : Unit {0} × List ℕ → Outcome Rule = λ x. rule x.1 in
    ap (λ o. on_ok (and_then o (λ k. λ rest. if nat_eq k n then Ok (tt, rest) else Err Number)) more) (number_back n rest small refl)
    ∙ ((λ i. on_ok (if eq-eqb n n refl i then done else Err Number) more) ∙ rule_back b r h)
