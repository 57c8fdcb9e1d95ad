-- What comes of a job, and the report that says it.
use Rattle.std.specs.Prelude.{◌≡◌, ◌⊎◌, ℕ, ◌<◌, ◌≤◌, List, [], ◌∷◌, length, Option, IfSome}
use Rattle.hs_io.specs.Files.{bytes_of}
use Rattle.hs_tree.specs.declared.source.Source.{Source}
use Rattle.hs_norm.specs.declared.resolved.Resolved.{Resolved}
use Rattle.hs_source.specs.Resolved.{IsResolved, IsRefused}
use Rattle.hs_print.specs.declared.line.Line.{Line}
use Rattle.hs_print.specs.declared.line.Line.TheVariants as line
use Rattle.hs_print.specs.declared.refusal.Refusal.{Refusal}
use Rattle.hs_print.specs.declared.refusal.Refusal.TheVariants.{FileTooLarge}
use Rattle.hs_tool.specs.declared.fetching.Fetched.{Fetched}
use Rattle.hs_tool.specs.declared.fetching.Fetched.TheVariants.{Bytes, Missing}
use Rattle.hs_tool.specs.declared.reply.Reply.{Reply}
use Rattle.hs_tool.specs.declared.reply.Reply.TheVariants.{FileFault, Refused, Answered}

-- faults and refusals stand alone
abbrev pub lines_of : Reply → List Line
lines_of (FileFault name) = line.FileFault name ∷ []
lines_of (Refused cause) = line.Refused cause ∷ []
lines_of (Answered lines) = lines

-- the report says a reply of which this is true
pub record Says (IsRight : Reply → Type 0) (report : List Line) : Type 0 where
  pub reply : Reply
  pub right : IsRight reply
  pub lines : report ≡ lines_of reply

-- ---- files

-- the files by name, where they are known
abbrev pub Known : Type 0
Known = Option (List (List ℕ × List ℕ))

-- the file is longer than its limit
abbrev pub IsTooLarge : Known → ℕ → List ℕ → Type 0
IsTooLarge known limit name = IfSome known (λ files. limit < length (bytes_of files name))

-- the file has bytes of which this is true, within its limit; where files are not known, these are some bytes
pub record HasBytes (known : Known) (limit : ℕ) (name : List ℕ) (Are : List ℕ → Type 0) : Type 0 where
  pub bytes : List ℕ
  pub held : IfSome known (λ files. bytes ≡ bytes_of files name)
  pub within : length bytes ≤ limit
  pub are : Are bytes

-- the reply of a job that reads a file: the file cannot be had (rose), it is too large, or the reply is that to its
-- bytes, which may be that of a job that reads one more file
abbrev pub IsFileReply : Known → Type 0 → ℕ → List ℕ → (List ℕ → Reply → Type 0) → Reply → Type 0
IsFileReply known rose limit name Are (FileFault other) =
    ((other ≡ name) × rose) ⊎ HasBytes known limit name (λ bytes. Are bytes (FileFault other))
IsFileReply known rose limit name Are (Refused cause) =
    ((cause ≡ FileTooLarge) × IsTooLarge known limit name) ⊎ HasBytes known limit name (λ bytes. Are bytes (Refused cause))
IsFileReply known rose limit name Are (Answered lines) = HasBytes known limit name (λ bytes. Are bytes (Answered lines))

-- the reply of a job that needs a file which cannot be had (rose) or is too large
abbrev pub Lacks : Known → Type 0 → ℕ → List ℕ → Reply → Type 0
Lacks known rose limit name (FileFault other) = (other ≡ name) × rose
Lacks known rose limit name (Refused cause) = (cause ≡ FileTooLarge) × IsTooLarge known limit name
Lacks known rose limit name (Answered lines) = ⊥

-- what comes of the fetch of a file: its bytes within the limit, or a reply
abbrev pub IsFetched : Known → Type 0 → ℕ → List ℕ → Fetched → Type 0
IsFetched known rose limit name (Bytes bytes) = IfSome known (λ files. bytes.items ≡ bytes_of files name) × (length bytes.items ≤ limit)
IsFetched known rose limit name (Missing reply) = Lacks known rose limit name reply

-- ---- sources

-- the bytes are a source of whose normal form this is true
pub record HasSource (bytes : List ℕ) (Is : Resolved → Type 0) : Type 0 where
  pub tree : Source
  pub resolved : Resolved
  pub read : IsResolved bytes tree resolved
  pub is : Is resolved

-- the reply to the bytes of a source: they are refused for their first fault, or it is that to the source that they are
abbrev pub IsSourceReply : (Resolved → Reply → Type 0) → List ℕ → Reply → Type 0
IsSourceReply Is bytes (FileFault name) = HasSource bytes (λ r. Is r (FileFault name))
IsSourceReply Is bytes (Refused cause) = IsRefused bytes cause ⊎ HasSource bytes (λ r. Is r (Refused cause))
IsSourceReply Is bytes (Answered lines) = HasSource bytes (λ r. Is r (Answered lines))

-- no stage after the normal form finds a fault
abbrev pub IsFaultless : (Resolved → Refusal → Type 0) → Resolved → Type 0
IsFaultless HasFault r = (cause : Refusal) → HasFault r cause → ⊥

-- the reply of a command that serves all sources: one is refused for a fault that a later stage finds, then for one of
-- the stages of the command, or else it is answered
abbrev pub IsStagedReply : (HasFault HasOwnFault : Resolved → Refusal → Type 0) → (Resolved → List Line → Type 0) → Resolved → Reply → Type 0
IsStagedReply HasFault HasOwnFault IsAnswer r (FileFault name) = ⊥
IsStagedReply HasFault HasOwnFault IsAnswer r (Refused cause) = HasFault r cause ⊎ (IsFaultless HasFault r × HasOwnFault r cause)
IsStagedReply HasFault HasOwnFault IsAnswer r (Answered lines) = IsFaultless HasFault r × IsAnswer r lines
