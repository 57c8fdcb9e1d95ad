-- Formulas in a part of a line, in numbered form: their tokens, then their grammar, then their names, kinds and numbers of
-- arguments.
use Rattle.std.specs.Prelude.{ℕ, ◌^◌, Bool, true, false, ◌&&◌, if◌then◌else◌, nat_eq, List, [], ◌∷◌, codes, reverse, Option, Some, None, Result, Ok, Err}
use Rattle.std.specs.Str.{is_utf8, bytes_eq}
use Rattle.hs_lex.specs.declared.error.LexError.{LexError}
use Rattle.hs_lex.specs.declared.error.LexError.TheVariants.{NotUtf8, BadByte, LiteralWide, NameLong, Memory}
use Rattle.hs_lex.specs.declared.token.Token.{Token}
use Rattle.hs_lex.specs.Scan.{tokens_from}
use Rattle.hs_lex.specs.Tokens.{is_in_name}
use Rattle.hs_tree.specs.declared.item.PureTree.{PureTree}
use Rattle.hs_tree.specs.declared.formula.DisjunctTree.{DisjunctTree}
use Rattle.hs_tree.specs.declared.formula.FormulaTree.{FormulaTree}
use Rattle.hs_words.specs.declared.error.ReadError.{ReadError}
use Rattle.hs_words.specs.declared.error.ReadError.TheVariants as read
use Rattle.hs_words.specs.Input.{whole}
use Rattle.hs_read_pure.specs.Formula.{formula as formula_tree, pure_formula as pure_tree}
use Rattle.hs_pure.specs.declared.pure.Pure.{Pure}
use Rattle.hs_heap.specs.declared.formula.Atom.{Atom}
use Rattle.hs_heap.specs.declared.formula.Disjunct.{Disjunct}
use Rattle.hs_heap.specs.declared.formula.Formula.{Formula}
use Rattle.hs_heap.specs.declared.definitions.Defs.{Defs}
use Rattle.hs_numbering.specs.declared.numbering.Reading.TheVariants.{Numbered}
use Rattle.hs_numbering.specs.Numbering.{start}
use Rattle.hs_norm_formula.specs.declared.by_number.NormError.{NormError}
use Rattle.hs_norm_formula.specs.declared.by_number.NormError.TheVariants as error
use Rattle.hs_norm_formula.specs.Item.{disjunction}
use Rattle.hs_norm_formula.specs.Numbered.{answer, numbered}
use Rattle.hs_line.specs.declared.fault.Fault.{Fault}
use Rattle.hs_line.specs.declared.fault.Fault.TheVariants as fault
use Rattle.hs_line.specs.declared.fault.Stop.{Stop}
use Rattle.hs_line.specs.declared.fault.Stop.TheVariants as stop
use Rattle.hs_line.specs.Steps.{Outcome, on_ok, mapped}
use Rattle.hs_line.specs.Scan.{past_blanks, run, behind, is_over}

-- ---- tokens

-- the greatest literal
abbrev pub greatest : ℕ
greatest = 2 ^ 126

-- the tokens of a text
abbrev pub lexed : List ℕ → Result (List Token) LexError
lexed text = if is_utf8 text then tokens_from greatest 0 0 text else Err (NotUtf8 0)

-- what is wrong with a line where the lexer stops
abbrev pub lex_fault : LexError → Fault
lex_fault (NotUtf8 at) = fault.Formula
lex_fault (BadByte at) = fault.Formula
lex_fault (LiteralWide at) = fault.Number
lex_fault (NameLong at) = fault.Formula
lex_fault Memory = fault.Formula

-- the first byte is this
abbrev pub second_is : ℕ → List ℕ → Bool
second_is b [] = false
second_is b (c ∷ text) = nat_eq c b

-- two slashes stand side by side
abbrev pub has_comment : List ℕ → Bool
has_comment [] = false
has_comment (b ∷ text) = if nat_eq b 47 && second_is 47 text then true else has_comment text

-- tokens, where no comment stands between them
abbrev pub without_comment : List ℕ → List Token → Outcome (List Token)
without_comment text tokens = if has_comment text then Err fault.Formula else Ok tokens

-- the tokens of a text without comments
-- tokens, or what is wrong
abbrev pub tokens_by : List ℕ → Result (List Token) LexError → Outcome (List Token)
tokens_by text (Ok tokens) = without_comment text tokens
tokens_by text (Err e) = Err (lex_fault e)

unfoldable pub tokens : List ℕ → Outcome (List Token)
tokens text = tokens_by text (lexed text)

-- ---- trees

-- a tree, or what is wrong
abbrev pub grammatical : {A : Type 0} → Result A ReadError → Outcome A
grammatical (Ok a) = Ok a
grammatical (Err e) = Err fault.Formula

-- what stops a line where the grammar has no tree
abbrev pub read_stop : ReadError → Stop
read_stop (read.Expected at what) = stop.Fault fault.Formula
read_stop (read.TooDeep at) = stop.Fault fault.Formula
read_stop read.Memory = stop.Memory

-- what is wrong with a line where the normal form has a fault
abbrev pub norm_fault : NormError → Fault
norm_fault (error.Unknown x) = fault.Name
norm_fault (error.Twice x) = fault.Formula
norm_fault (error.Kind at) = fault.Formula
norm_fault (error.Arity at) = fault.Arity
norm_fault (error.TooMany at l) = fault.Formula
norm_fault (error.Shape at) = fault.Formula
norm_fault error.Memory = fault.Formula

-- the same, or want of memory
abbrev pub norm_stop : NormError → Stop
norm_stop (error.Unknown x) = stop.Fault fault.Name
norm_stop (error.Twice x) = stop.Fault fault.Formula
norm_stop (error.Kind at) = stop.Fault fault.Formula
norm_stop (error.Arity at) = stop.Fault fault.Arity
norm_stop (error.TooMany at l) = stop.Fault fault.Formula
norm_stop (error.Shape at) = stop.Fault fault.Formula
norm_stop error.Memory = stop.Memory

-- a normal form, or what is wrong
abbrev pub named : {A : Type 0} → Result A NormError → Outcome A
named (Ok a) = Ok a
named (Err e) = Err (norm_fault e)

-- the tree of a formula
abbrev pub tree_of : List ℕ → Outcome FormulaTree
tree_of text = on_ok (tokens text) (λ ts. grammatical (whole (formula_tree 256) text ts))

-- the word `none` alone
abbrev pub is_none : List ℕ → Bool
is_none text = bytes_eq (run is_in_name text) (codes "none") && is_over (behind is_in_name text)

-- a formula; `none` has no disjunct
abbrev pub formula : Defs → List ℕ → Outcome Formula
formula defs text = if is_none text then Ok (record { cases = [] }) else on_ok (tree_of text) (λ t. named (numbered defs t))

-- ---- atoms alone

-- none
abbrev pub is_empty : {A : Type 0} → List A → Bool
is_empty [] = true
is_empty (x ∷ xs) = false

-- one disjunct that has only atoms
abbrev pub has_atoms_alone : List DisjunctTree → Bool
has_atoms_alone [] = false
has_atoms_alone (d ∷ []) = is_empty d.bound && is_empty d.items
has_atoms_alone (d ∷ e ∷ ds) = false

-- the atoms of the first disjunct
abbrev pub first_atoms : List Disjunct → List Atom
first_atoms [] = []
first_atoms (d ∷ ds) = d.atoms

-- the atoms of a tree that has only these
abbrev pub heap_of : Defs → FormulaTree → Outcome (List Atom)
heap_of defs t = if has_atoms_alone t.cases then mapped (λ f. first_atoms f.cases) (named (numbered defs t)) else Err fault.Formula

-- atoms without binders and conjuncts
abbrev pub heap : Defs → List ℕ → Outcome (List Atom)
heap defs text = on_ok (tree_of text) (heap_of defs)

-- ---- pure formulas in parentheses

-- the tree of a pure formula
abbrev pub pure_tree_of : List ℕ → Outcome PureTree
pure_tree_of text = on_ok (tokens text) (λ ts. grammatical (whole (pure_tree 256) text ts))

-- the pure formula of a tree
abbrev pub pure_by_numbers : PureTree → Outcome Pure
pure_by_numbers t = named (answer (disjunction t false (start Numbered [])))

-- a pure formula
abbrev pub pure_of : List ℕ → Outcome Pure
pure_of text = on_ok (pure_tree_of text) pure_by_numbers

-- what stands before a last `)`, of the text turned round
abbrev pub opened : List ℕ → Option (List ℕ)
opened [] = None
opened (b ∷ text) = if nat_eq b 41 then Some (reverse text) else None

-- what stands before a last `)`, behind which only blanks stand
abbrev pub inside : List ℕ → Option (List ℕ)
inside text = opened (past_blanks (reverse text))

-- the pure formula between parentheses
abbrev pub pure_by : Option (List ℕ) → Outcome Pure
pure_by None = Err fault.Word
pure_by (Some text) = pure_of text

-- a pure formula in parentheses, of which the first comes first
abbrev pub enclosed_by : List ℕ → Outcome Pure
enclosed_by [] = Err fault.Word
enclosed_by (b ∷ text) = if nat_eq b 40 then pure_by (inside text) else Err fault.Word

-- a pure formula in parentheses
abbrev pub enclosed : List ℕ → Outcome Pure
enclosed text = enclosed_by (past_blanks text)
