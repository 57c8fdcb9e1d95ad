-- What a `Cursor` shows, and what it keeps.
use Rattle.std.specs.Prelude.{◌<◌, ◌^◌, length}
use Rattle.std.specs.List.{AllByRecursion}
use Rattle.hs_words.specs.declared.cursor.Cursor.TheInside.{Inside}
use Rattle.hs_words.specs.Input.{Input, IsSpelledIn}

abbrev pub input_of : Inside → Input
input_of c = record { text = c.text.now; tokens = c.tokens.now }

abbrev pub IsInText : Inside → Type 0
IsInText c = (length c.text.now < 2 ^ 32) × AllByRecursion (IsSpelledIn c.text.now) c.tokens.now
