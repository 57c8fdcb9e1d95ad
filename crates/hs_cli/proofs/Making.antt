-- Commands that are made by adding arguments and subcommands.
use Rattle.std.proofs.Common.{◌≡◌, ◌∙◌, ◌||◌, ℤ, Some, false, ap, ap₂, subst}
use Rattle.clap.specs.Words.{AddsArg, AddsSubcommand, NarrowsTo, App, Rule, Shape, app_of, rule_of, shape_of, with_rule, with_subcommand}
use Rattle.clap.specs.Simple.{app_of_fields, on_top}
use Rattle.clap.specs.declared.builder.Arg.{Arg}
use Rattle.clap.specs.declared.builder.ValueParser.{ValueParser}
use Rattle.clap.specs.declared.builder.command.Command.{Command}
use Rattle.clap.specs.declared.builder.command.Command.TheViews.{out-Command as fields_of}
use Rattle.clap.specs.declared.builder.command.Command.TheOpen.{Command-F}

-- a command that a parse reads as x, with no global argument
abbrev pub IsMade : Command → App → Type 0
IsMade c x = (app_of c ≡ x) × ((fields_of c).has_globals ≡ false)

-- a setting of the command itself
pub settled : (old new : Command) (x : App) (k : Shape → Shape) (f : Command-F Command → Command-F Command) → ((c : Command-F Command) → app_of_fields (f c) ≡ on_top k (app_of_fields c))
    → ((c : Command-F Command) → (f c).has_globals ≡ c.has_globals) → IsMade old x → fields_of new ≡ f (fields_of old) → IsMade new (on_top k x)
settled old new x k f sets keeps made is =
    (ap app_of_fields is ∙ (sets (fields_of old) ∙ ap (on_top k) made.0), ap (λ (c : Command-F Command). c.has_globals) is ∙ (keeps (fields_of old) ∙ made.1))

pub added : (old new : Command) (a : Arg) (x : App) (r : Rule) → IsMade old x → AddsArg old a new → rule_of a ≡ r → a.global ≡ false → IsMade new (with_rule x r)
added old new a x r made adds is local =
    (adds.shape local ∙ ap₂ with_rule made.0 is, adds.globals ∙ ap₂ (λ b d. b || d) made.1 local)

pub added_below : (old sub new : Command) (x : App) (s : Shape) → IsMade old x → AddsSubcommand old sub new → shape_of sub ≡ s → (fields_of sub).has_globals ≡ false
    → IsMade new (with_subcommand x s)
added_below old sub new x s made adds is local =
    (adds.shape local ∙ ap₂ with_subcommand made.0 is, adds.globals ∙ ap₂ (λ b d. b || d) made.1 local)

-- a range of known ends, on a parser that is known
pub narrows : (p q : ValueParser) (low a high b : ℤ) (r : ValueParser) → p ≡ q → low ≡ a → high ≡ b → NarrowsTo p (Some low) (Some high) r → NarrowsTo q (Some a) (Some b) r
narrows p q low a high b r parser least most h =
    subst (λ x. NarrowsTo x (Some a) (Some b) r) parser
    (subst (λ x. NarrowsTo p (Some x) (Some b) r) least (subst (λ x. NarrowsTo p (Some low) (Some x) r) most h))
