-- What the layers above use of a source in normal form.
use Rattle.std.specs.Prelude.{◌≡◌, length, Ok, ℕ, List}
use Rattle.std.specs.List.{All, AllZip, filter_map}
use Rattle.hs_lex.specs.declared.token.Token.{Token}
use Rattle.hs_words.specs.Grammar.{Spells}
use Rattle.hs_read.specs.Grammar.{IsSource}
use Rattle.hs_tree.specs.declared.source.Source.{Source}
use Rattle.hs_norm.specs.declared.resolved.Resolved.{Resolved}
use Rattle.hs_norm.specs.Items.{method_of}
use Rattle.hs_norm.specs.Normal.{normal_of}
use Rattle.hs_heap.specs.Sound.{IsSound}
use Rattle.hs_norm_sound.specs.Claims.{EntailmentIsNormal, PairIsNormal, HasDisjunct}
use Rattle.hs_norm_sound.specs.Entries.{DefinesSource}
use Rattle.hs_norm_sound.specs.Methods.{MethodIsDeclared}

-- the definitions and the methods have the names and kinds of the source, each name once
abbrev pub NamesAreKept : Type 0
NamesAreKept = (source : Source) (r : Resolved) → normal_of source ≡ Ok r → DefinesSource source r

-- each method's tree is of the method of the source, whose block uses what the source declares
abbrev pub MethodsAreDeclared : Type 0
MethodsAreDeclared = (source : Source) (r : Resolved) → normal_of source ≡ Ok r → AllZip (MethodIsDeclared r.defs (filter_map method_of source.items)) (filter_map method_of source.items) r.methods

-- the predicates and the lemmas are of the normal form
abbrev pub DefinitionsAreSound : Type 0
DefinitionsAreSound = (source : Source) (r : Resolved) → normal_of source ≡ Ok r → IsSound r.defs

-- the entailments are well formed over the definitions
abbrev pub GoalsAreWellFormed : Type 0
GoalsAreWellFormed = (source : Source) (r : Resolved) → normal_of source ≡ Ok r → All (EntailmentIsNormal r.defs) r.entailments

-- no side of an entailment of a source that tokens spell is empty
abbrev pub GoalsHaveDisjuncts : Type 0
GoalsHaveDisjuncts = (n : ℕ) (text : List ℕ) (tokens : List Token) (source : Source) (r : Resolved) → Spells (IsSource n) text tokens source → normal_of source ≡ Ok r → All (λ e. HasDisjunct e.left × HasDisjunct e.right) r.entailments

-- the pairs of the methods are well formed over the definitions, beside the variables of the parameters
abbrev pub PairsAreNormal : Type 0
PairsAreNormal = (source : Source) (r : Resolved) → normal_of source ≡ Ok r → All (λ m. All (PairIsNormal r.defs (length m.params)) m.pairs) r.methods

-- no precondition and no postcondition of such a source is empty
abbrev pub PairsHaveDisjuncts : Type 0
PairsHaveDisjuncts = (n : ℕ) (text : List ℕ) (tokens : List Token) (source : Source) (r : Resolved) → Spells (IsSource n) text tokens source → normal_of source ≡ Ok r → All (λ m. All (λ p. HasDisjunct p.pair_pre × HasDisjunct p.pair_post) m.pairs) r.methods
