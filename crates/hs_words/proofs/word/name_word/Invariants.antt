use Rattle.std.proofs.Common.{◌≡◌, length, map}
use Rattle.hs_words.specs.Word.{word_among, name_word}
use Rattle.hs_words.proofs.word.name_word.Given as goal

abbrev pub invariant-loop-keywords : goal.invariant-loop-keywords
invariant-loop-keywords l = word_among (map (λ k. (k.0.now, k.1)) l.keywords) l.text ≡ name_word l.text

abbrev pub decreases-loop-keywords : goal.decreases-loop-keywords
decreases-loop-keywords l = length l.keywords
