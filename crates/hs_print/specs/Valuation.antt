-- The texts of valuations.
use Rattle.std.specs.Prelude.{ℕ, ℤ, Bool, true, false, List, ◌++◌, codes, is_some, filter}
use Rattle.std.specs.Fmt.{signed_decimal}
use Rattle.hs_pure.specs.declared.var.Var.{Var}
use Rattle.hs_pure.specs.declared.valuation.Valuation.{Valuation}
use Rattle.hs_pure.specs.Eval.{found, found_bag}
use Rattle.hs_numbering.specs.declared.names.Names.{Names}
use Rattle.hs_print.specs.Lists.{separated}
use Rattle.hs_print.specs.Variable.{named_text, source_name}

-- an element and how often it is there
abbrev pub element_text : ℤ × ℤ → List ℕ
element_text e = signed_decimal e.0 ++ (codes ":" ++ signed_decimal e.1)

abbrev pub by_kind : Valuation → Var → Bool → List ℕ
by_kind v x true = codes "{" ++ (separated (codes ", ") element_text (found_bag v.bags x) ++ codes "}")
by_kind v x false = signed_decimal (found v.numbers x)

abbrev pub value_text : Valuation → Var → List ℕ
value_text v x = by_kind v x x.bag

abbrev pub assignment_text : Names → Valuation → Var → List ℕ
assignment_text names v x = named_text names x ++ (codes "=" ++ value_text v x)

-- whether a variable has a source name
abbrev pub is_named : Names → Var → Bool
is_named names x = is_some (source_name names x.number)

-- the values of those that have a source name
abbrev pub valuation_text : Names → List Var → Valuation → List ℕ
valuation_text names of v = separated (codes ", ") (assignment_text names v) (filter (is_named names) of)
