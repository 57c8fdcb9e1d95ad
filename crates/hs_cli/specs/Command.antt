-- The command that the words of a command line are read as.
use Rattle.std.specs.Prelude.{[], ◌∷◌, Some, true, false, codes, pos}
use Rattle.clap.specs.Words.{App, Rule, Shape, Text, new_rule}
use Rattle.clap.specs.Simple.{new_shape}
use Rattle.clap.specs.declared.builder.ArgAction.TheVariants.{Set}
use Rattle.clap.specs.declared.builder.ValueParser.{ValueParser}
use Rattle.clap.specs.declared.builder.ValueParser.TheVariants.{Signed, Unsigned}

-- a positional of this name, which must be there
abbrev pub positional_rule : Text → Rule
positional_rule name = record (new_rule name) { required = true; action = Some Set }

-- the option `--name`, used once at most, with one value that passes the parser
abbrev pub option_rule : Text → ValueParser → Rule
option_rule name parser =
    record (new_rule name) { long = Some name; action = Some Set; parser = Some parser }

-- `--rank`, from 0 to 64
abbrev pub rank_rule : Rule
rank_rule = option_rule (codes "rank") (Signed (pos 0) (pos 64))

-- `--goals`, from 1 to 200000
abbrev pub goals_rule : Rule
goals_rule = option_rule (codes "goals") (Unsigned 1 200000)

-- `--atoms`, from 1 to 2000000
abbrev pub atoms_rule : Rule
atoms_rule = option_rule (codes "atoms") (Unsigned 1 2000000)

-- `--xpure`, from 0 to 3
abbrev pub xpure_rule : Rule
xpure_rule = option_rule (codes "xpure") (Signed (pos 0) (pos 3))

-- `--residues`, from 1 to 16
abbrev pub residues_rule : Rule
residues_rule = option_rule (codes "residues") (Signed (pos 1) (pos 16))

-- `--pieces`, from 1 to 64
abbrev pub pieces_rule : Rule
pieces_rule = option_rule (codes "pieces") (Signed (pos 1) (pos 64))

-- `--steps`, from 0 to 1000000
abbrev pub steps_rule : Rule
steps_rule = option_rule (codes "steps") (Unsigned 0 1000000)

-- `sleek` with its arguments, each number in its range
abbrev pub sleek_shape : Shape
sleek_shape = record (new_shape (codes "sleek")) {
  rules = positional_rule (codes "file")
      ∷ rank_rule
      ∷ goals_rule
      ∷ atoms_rule
      ∷ xpure_rule
      ∷ residues_rule
      ∷ [];
}

-- a command of this name that searches for one derivation
abbrev pub search_shape : Text → Shape
search_shape name = record (new_shape name) {
  rules = positional_rule (codes "file") ∷ rank_rule ∷ goals_rule ∷ atoms_rule ∷ xpure_rule ∷ [];
}

-- `hip` with its arguments
abbrev pub hip_shape : Shape
hip_shape = search_shape (codes "hip")

-- `prove` with its arguments
abbrev pub prove_shape : Shape
prove_shape = search_shape (codes "prove")

-- `check` with its source, its derivation, the bound on atoms and the number of pieces
abbrev pub check_shape : Shape
check_shape = record (new_shape (codes "check")) {
  rules = positional_rule (codes "file")
      ∷ positional_rule (codes "derivation")
      ∷ atoms_rule
      ∷ pieces_rule
      ∷ [];
}

-- `core` with its file
abbrev pub core_shape : Shape
core_shape = record (new_shape (codes "core")) { rules = positional_rule (codes "file") ∷ [] }

-- `run` with its file, its method, the file of its heap, and the bound on its steps
abbrev pub run_shape : Shape
run_shape = record (new_shape (codes "run")) {
  rules = positional_rule (codes "file")
      ∷ positional_rule (codes "method")
      ∷ positional_rule (codes "heap")
      ∷ steps_rule
      ∷ [];
}

-- `hipsleek`, which must have a subcommand; its words begin after the program's name
abbrev pub hipsleek_shape : Shape
hipsleek_shape = record (new_shape (codes "hipsleek")) {
  is_leaf = false;
  no_binary_name = true;
  subcommand_required = true;
  disable_help_subcommand = true;
}

-- the command with its subcommands
abbrev pub hipsleek_app : App
hipsleek_app = record {
  top = hipsleek_shape;
  subs = sleek_shape ∷ hip_shape ∷ prove_shape ∷ check_shape ∷ core_shape ∷ run_shape ∷ [];
}
