-- A token that begins and ends with an ASCII byte is cut between characters.
use Rattle.std.proofs.Common.{◌≡◌, ◌-◌, ◌+◌, ℕ, List, [], ◌∷◌, subst, arith}
use Rattle.std.specs.List.{AllByRecursion}
use Rattle.std.specs.Str.{IsUtf8, IsCharBoundary}
use Rattle.std.proofs.lemmas.Str.{IsCharBoundary-before_ascii, IsCharBoundary-after_ascii}
use Rattle.hs_lex.specs.declared.token.Token.{Token}
use Rattle.hs_lex.specs.Tokens.{IsSpan}
use Rattle.hs_words.specs.Input.{IsSpelledIn}

spelled : (text : List ℕ) (t : Token) → IsUtf8 text → IsSpan text t → IsSpelledIn text t
spelled text t utf8 span =
    let last : t.end - 1 + 1 ≡ t.end = omega (arith, span.some) in (
      omega (arith, span.some),
      span.within,
      IsCharBoundary-before_ascii text t.at (omega (arith, span.some, span.within)) span.first,
      subst (IsCharBoundary text) last (IsCharBoundary-after_ascii text (t.end - 1) utf8 (omega (arith, span.some, span.within)) span.last),
    )

pub all_spelled : (text : List ℕ) (ts : List Token) → IsUtf8 text → AllByRecursion (IsSpan text) ts → AllByRecursion (IsSpelledIn text) ts
all_spelled text [] utf8 all = tt
all_spelled text (t ∷ ts) utf8 all = (spelled text t utf8 all.0, all_spelled text ts utf8 all.1)
