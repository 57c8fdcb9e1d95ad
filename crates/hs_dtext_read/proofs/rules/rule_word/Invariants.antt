use Rattle.std.proofs.Common.{◌≡◌, length, map}
use Rattle.hs_dtext.specs.Parts.{word_among, rule_word}
use Rattle.hs_dtext_read.proofs.rules.rule_word.Given as goal

abbrev pub invariant-loop-words : goal.invariant-loop-words
invariant-loop-words l = word_among (map (λ k. (k.0.now, k.1)) l.words) l.text ≡ rule_word l.text

abbrev pub decreases-loop-words : goal.decreases-loop-words
decreases-loop-words l = length l.words
