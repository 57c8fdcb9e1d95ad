-- What is asked, and which of its variables are free.
use Rattle.hs_pure.specs.Assertion.{Assertion, negation, both}

-- whether a implies b: a and not b has no solution
abbrev pub question : Assertion → Assertion → Assertion
question a b = both a (negation b)
