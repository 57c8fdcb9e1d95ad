-- The texts of the lines of a report.
use Rattle.std.specs.Prelude.{ℕ, ◌+◌, ℤ, List, [], ◌∷◌, ◌++◌, length, codes, Option, Some, None}
use Rattle.std.specs.List.{flat_map}
use Rattle.std.specs.Fmt.{decimal, signed_decimal}
use Rattle.hs_print.specs.declared.word.Word.{Word}
use Rattle.hs_print.specs.declared.word.Word.TheVariants as word
use Rattle.hs_print.specs.declared.why.Why.{Why}
use Rattle.hs_print.specs.declared.why.Why.TheVariants as why
use Rattle.hs_print.specs.declared.why.Tried.{Tried}
use Rattle.hs_print.specs.declared.why.Tried.TheVariants as tried
use Rattle.hs_print.specs.declared.refusal.Refusal.{Refusal}
use Rattle.hs_print.specs.declared.refusal.Refusal.TheVariants as refusal
use Rattle.hs_print.specs.declared.line.Line.{Line}
use Rattle.hs_print.specs.declared.line.Line.TheVariants as line

-- a text and the end of its line
abbrev pub ended : List ℕ → List ℕ
ended text = text ++ 10 ∷ []

abbrev pub word_text : Word → List ℕ
word_text word.NumbersSpent = codes "numbers spent"
word_text word.AtomsSpent = codes "atoms spent"
word_text word.PastBits = codes "past 128 bits"
word_text word.Shape = codes "shape"
word_text word.Rule = codes "rule"
word_text word.Premise = codes "premise"
word_text word.Residue = codes "residue"
word_text word.Question = codes "question"

abbrev pub why_text : Why → List ℕ
why_text (why.Goals n) = codes "more than " ++ (decimal n ++ codes " goals")
why_text why.Numbers = codes "numbers spent"
why_text (why.Atoms right) = codes "atoms spent on: " ++ right
why_text (why.Wide right) = codes "past 128 bits on: " ++ right
why_text (why.Rank n) = codes "rank " ++ (decimal n ++ codes " spent")
why_text (why.NotImplied right valuation) = codes "not implied: " ++ (right ++ (codes " at " ++ valuation))
why_text (why.NoChoice atom) = codes "no choice for " ++ atom
why_text (why.OpenRoot name) = codes "open root " ++ name
why_text (why.OpenBag name) = codes "open bag " ++ name
why_text (why.Invariant pred) = codes "invariant of " ++ pred

abbrev pub tried_text : Tried → List ℕ
tried_text (tried.Pair k cause) = codes "  pair " ++ (decimal k ++ (codes ": " ++ ended (why_text cause)))
tried_text (tried.Get cause) = codes "  get: " ++ ended (why_text cause)
tried_text (tried.Set cause) = codes "  set: " ++ ended (why_text cause)
tried_text (tried.Return cause) = codes "  return: " ++ ended (why_text cause)
tried_text (tried.States n) = codes "  states: more than " ++ (decimal n ++ ended (codes " states"))
tried_text tried.Numbers = ended (codes "  numbers: numbers spent")

abbrev pub byte_text : ℕ → List ℕ → List ℕ
byte_text at what = codes "byte " ++ (decimal at ++ (codes ": " ++ what))

abbrev pub case_text : List ℕ → ℕ → List ℕ → List ℕ
case_text pred k what = codes "predicate " ++ (pred ++ (codes " case " ++ (decimal k ++ (codes ": " ++ what))))

abbrev pub proof_text : ℕ → List ℕ → List ℕ
proof_text n what = codes "proof line " ++ (decimal n ++ (codes ": " ++ what))

abbrev pub refusal_text : Refusal → List ℕ
refusal_text refusal.FileTooLarge = codes "file too large"
refusal_text (refusal.NotUtf8 at) = byte_text at (codes "not UTF-8")
refusal_text (refusal.BadByte at) = byte_text at (codes "bad byte")
refusal_text (refusal.LiteralWide at) = byte_text at (codes "literal too large")
refusal_text (refusal.NameLong at) = byte_text at (codes "name too long")
refusal_text (refusal.Unexpected at) = byte_text at (codes "unexpected token")
refusal_text (refusal.UnexpectedEnd at) = byte_text at (codes "unexpected end")
refusal_text (refusal.TooDeep at) = byte_text at (codes "too deep")
refusal_text (refusal.Unknown name) = codes "unknown name " ++ name
refusal_text (refusal.Twice name) = codes "name " ++ (name ++ codes " twice")
refusal_text (refusal.Kind at) = byte_text at (codes "wrong kind")
refusal_text (refusal.Arity at) = byte_text at (codes "wrong number of arguments")
refusal_text (refusal.TooMany at) = byte_text at (codes "too many")
refusal_text (refusal.Shape at) = byte_text at (codes "bad shape")
refusal_text (refusal.RootPredicate pred k) = case_text pred k (codes "predicate at the root")
refusal_text (refusal.NoRoot pred k) = case_text pred k (codes "no node at the root")
refusal_text (refusal.Unreached pred k root) = case_text pred k (codes "unreached root " ++ root)
refusal_text (refusal.BadType at) = byte_text at (codes "wrong type")
refusal_text (refusal.Unset at) = byte_text at (codes "not set")
refusal_text (refusal.NoReturn at) = byte_text at (codes "no return")
refusal_text (refusal.TooLong at) = byte_text at (codes "method too long")
refusal_text (refusal.RefTwice at) = byte_text at (codes "reference twice")
refusal_text (refusal.ReturnInLoop at) = byte_text at (codes "return in loop")
refusal_text (refusal.ProofVersion v) = codes "proof version " ++ decimal v
refusal_text (refusal.ProofForward n) = proof_text n (codes "premise not earlier")
refusal_text (refusal.ProofLine n) = proof_text n (codes "bad line")
refusal_text (refusal.HeapLine n) = codes "heap line " ++ (decimal n ++ codes ": bad line")
refusal_text (refusal.UnknownMethod name) = codes "unknown method " ++ name
refusal_text (refusal.MethodTakes name n) = codes "method " ++ (name ++ (codes " takes " ++ (decimal n ++ codes " arguments")))
refusal_text refusal.NotBuilt = codes "not built"

-- residues by number, a line each
abbrev pub residues_text : ℕ → List (List ℕ) → List ℕ
residues_text k [] = []
residues_text k (residue ∷ residues) = codes "  " ++ (decimal k ++ (codes ": " ++ (ended residue ++ residues_text (k + 1) residues)))

abbrev pub summary_text : ℕ → ℕ → List ℕ → ℕ → ℕ → List ℕ
summary_text shown preds what good claims =
    codes "summary: preds " ++ (decimal shown ++ (codes "/" ++ (decimal preds ++ (what ++ (decimal good ++ (codes "/" ++ ended (decimal claims)))))))

abbrev pub pair_text : List ℕ → ℕ → List ℕ → List ℕ
pair_text name k what = codes "method " ++ (name ++ (codes " pair " ++ (decimal k ++ (codes ": " ++ what))))

abbrev pub returned_text : Option ℤ → ℕ → List ℕ → List ℕ
returned_text None steps heap = codes "returned after " ++ (decimal steps ++ (ended (codes " steps") ++ heap))
returned_text (Some value) steps heap = codes "returned " ++ (signed_decimal value ++ (codes " after " ++ (decimal steps ++ (ended (codes " steps") ++ heap))))

abbrev pub stopped_text : List ℕ → Word → List ℕ
stopped_text pred cause = codes "pred " ++ (pred ++ (codes ": " ++ ended (word_text cause)))

abbrev pub valid_text : ℕ → List (List ℕ) → List ℕ
valid_text k residues = codes "entail " ++ (decimal k ++ (codes ": valid, residues " ++ (ended (decimal (length residues)) ++ residues_text 1 residues)))

abbrev pub unknown_text : ℕ → Why → List ℕ
unknown_text k cause = codes "entail " ++ (decimal k ++ (codes ": unknown: " ++ ended (why_text cause)))

abbrev pub rejected_text : List ℕ → ℕ → ℕ → List Tried → List ℕ
rejected_text name k point causes = pair_text name k (codes "unknown at " ++ (ended (decimal point) ++ flat_map tried_text causes))

abbrev pub node_text : List ℕ → ℕ → Word → List ℕ
node_text verdict node cause = verdict ++ (codes " at node " ++ (decimal node ++ (codes ": " ++ ended (word_text cause))))

abbrev pub refused_text : Refusal → List ℕ
refused_text cause = codes "refused: " ++ ended (refusal_text cause)

abbrev pub line_text : Line → List ℕ
line_text (line.Shown pred) = codes "pred " ++ (pred ++ ended (codes ": shown"))
line_text (line.Fails pred valuation) = codes "pred " ++ (pred ++ (codes ": fails at " ++ ended valuation))
line_text (line.InvStopped pred cause) = stopped_text pred cause
line_text (line.Valid k residues) = valid_text k residues
line_text (line.Unknown k cause) = unknown_text k cause
line_text (line.Accepted name k) = pair_text name k (ended (codes "accepted"))
line_text (line.Rejected name k point causes) = rejected_text name k point causes
line_text (line.PairInvariant name k pred) = pair_text name k (codes "unknown: invariant of " ++ ended pred)
line_text (line.SleekSummary shown preds valid entailments) = summary_text shown preds (codes ", entailments ") valid entailments
line_text (line.HipSummary shown preds accepted pairs) = summary_text shown preds (codes ", pairs ") accepted pairs
line_text (line.ProofAccepted nodes claims) = codes "accepted: " ++ (decimal nodes ++ (codes " nodes, " ++ (decimal claims ++ ended (codes " claims"))))
line_text (line.ProofRefused node cause) = node_text (codes "refused") node cause
line_text (line.ProofMissing claim) = codes "missing claim " ++ ended (decimal claim)
line_text (line.ProofStopped node cause) = node_text (codes "stopped") node cause
line_text (line.DerivationText text unproved) = text
line_text (line.CoreText text) = text
line_text (line.SourceText text) = text
line_text (line.Returned value steps heap) = returned_text value steps heap
line_text (line.Running steps) = codes "running after " ++ (decimal steps ++ ended (codes " steps"))
line_text (line.Fault name point location) =
    codes "fault in " ++ (name ++ (codes " at " ++ (decimal point ++ (codes ": location " ++ ended (signed_decimal location)))))
line_text (line.RunWide name point) = codes "past 128 bits in " ++ (name ++ (codes " at " ++ ended (decimal point)))
line_text line.RefusedWords = ended (codes "refused: words")
line_text (line.FileFault name) = codes "fault: file " ++ ended name
line_text (line.Refused cause) = refused_text cause

abbrev pub text_of : List Line → List ℕ
text_of report = flat_map line_text report
