use Rattle.std.proofs.Common.{◌≡◌, ◌++◌, [], map, drop}
use denote.Shadow.{shadow}
use denote.Text.{Utf8}
use Rattle.std.specs.Option.{option_copied}
use Rattle.std.specs.String.{string_bytes}
use Rattle.hs_print.specs.Lists.{with_signs}
use Rattle.hs_print.specs.Pure.{text_at, printed, between}
use Rattle.hs_print.specs.declared.place.Place.TheVariants.{Member}
use Rattle.hs_print.proofs.pure_text.+formula.Given as goal

abbrev pub invariant-push_members-loop-p : goal.invariant-push_members-loop-p
invariant-push_members-loop-p l = shadow (Utf8 l.sign) ×
    (string_bytes l.out ++ with_signs l.sign (between l.signs) (text_at Member) (map (printed (option_copied l.names)) (drop l.p-index l.ps))
    ≡ string_bytes l.initial.out ++ with_signs [] (between l.signs) (text_at Member) (map (printed (option_copied l.names)) l.ps))
