-- The factor of a sign.
use Rattle.std.specs.Prelude.{ℤ, pos, negsuc}
use Rattle.hs_cooper_forms.specs.declared.sign.Sign.{Sign}
use Rattle.hs_cooper_forms.specs.declared.sign.Sign.TheVariants.{Plus, Minus}

abbrev pub sign : Sign → ℤ
sign Plus = pos 1
sign Minus = negsuc 0
