-- What is read of all the tokens of a text is spelled by them.
use Rattle.std.proofs.Common.{◌≡◌, List, ℕ, Result, Ok, Err, refl, sym, ap, subst}
use Rattle.std.specs.Prelude.{IfOk}
use Rattle.hs_lex.specs.declared.token.Token.{Token}
use Rattle.hs_words.specs.declared.error.ReadError.{ReadError}
use Rattle.hs_words.specs.declared.word.Word.{Word}
use Rattle.hs_words.specs.declared.word.Word.TheVariants as word
use Rattle.hs_words.specs.Input.{Input, Outcome, Parser, next_word, ended_by, ended, only, whole_of, whole, input, Gives}
use Rattle.hs_words.specs.Grammar.{Spells}
use Rattle.hs_words.proofs.Yields.{Accepts, Yields}

ended_at : (i : Input) (w : Word) → next_word i ≡ w → ended_by i w ≡ Ok tt → next_word i ≡ word.End
ended_at i word.End is e = is
ended_at i w is e = absurd cc

module _ {A : Type 0} (S : A → Input → Type 0) where
  only_at : (p : A × Input) (r : Result (Unit {0}) ReadError) (a : A) → S p.0 p.1 → ended p.1 ≡ r → only p.0 r ≡ Ok a → (j : Input) × S a j × (next_word j ≡ word.End)
  unfolding ended
  only_at p (Ok u) a s is e = let same : p.0 ≡ a = cc in (p.1, subst (λ x. S x p.1) same s, ended_at p.1 (next_word p.1) refl is)
  only_at p (Err d) a s is e = absurd cc

  whole_at : (r : Outcome A) (a : A) → Yields r S → whole_of r ≡ Ok a → (j : Input) × S a j × (next_word j ≡ word.End)
  whole_at (Ok p) a y e = only_at p (ended p.1) a (y.by p refl) refl e
  whole_at (Err d) a y e = absurd cc

pub whole_spells : {A : Type 0} (p : Parser A) (R : A → Input → Input → Type 0) → Accepts p R → (text : List ℕ) (tokens : List Token) (a : A)
    → whole p text tokens ≡ Ok a → Spells R text tokens a
unfolding whole
whole_spells p R accepts text tokens a e =
    let found = whole_at (λ x j. R x (input text tokens) j) (p (input text tokens)) a (accepts (input text tokens)) e in
    record { end = found.0; spelled = found.1; all = found.2 }

-- the same of what a function returned
pub given_spells : {A : Type 0} (p : Parser A) (R : A → Input → Input → Type 0) → Accepts p R → (text : List ℕ) (tokens : List Token) (r : Result A ReadError)
    → Gives (λ (tree : A). tree) r (whole p text tokens) → IfOk r (λ tree. Spells R text tokens tree)
given_spells p R accepts text tokens (Ok tree) given = whole_spells p R accepts text tokens tree given
given_spells p R accepts text tokens (Err e) given = tt
