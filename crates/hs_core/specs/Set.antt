-- Set programs: on each path, each slot that an instruction reads is a parameter or was written before.
use Rattle.std.specs.Prelude.{◌≡◌, ℕ, suc, ◌≤◌, ◌⊎◌, List, [], ◌∷◌, ◌++◌, map, Option, Some, None, slice_get}
use Rattle.std.specs.List.{All, Contains, flat_map}
use Rattle.hs_pure.specs.declared.lin.Lin.{Lin}
use Rattle.hs_pure.specs.Rename.{sums}
use Rattle.hs_core.specs.declared.instr.Instr.{Instr}
use Rattle.hs_core.specs.declared.instr.Instr.TheVariants.{Assign, New, Get, Set, Branch, Jump, Call, Return}
use Rattle.hs_core.specs.declared.program.Method.{Method}
use Rattle.hs_core.specs.declared.program.Program.{Program}

abbrev pub optional : Option ℕ → List ℕ
optional None = []
optional (Some k) = k ∷ []

abbrev pub slots_in : Lin → List ℕ
slots_in a = map (λ t. t.0.number) a.terms

-- the slots that an instruction reads
abbrev pub reads : Instr → List ℕ
reads (Assign to term) = slots_in term
reads (New to kind args) = args
reads (Get to at kind field) = at ∷ []
reads (Set at kind field from) = at ∷ from ∷ []
reads (Branch condition other) = flat_map slots_in (sums condition)
reads (Jump target) = []
reads (Call to method args) = args
-- a return also gives the last values of the reference parameters, which are parameters
reads (Return from) = optional from

-- the slots that it writes, those of reference arguments not among them: they are read too
abbrev pub writes : Instr → List ℕ
writes (Assign to term) = to ∷ []
writes (New to kind args) = to ∷ []
writes (Get to at kind field) = to ∷ []
writes (Set at kind field from) = []
writes (Branch condition other) = []
writes (Jump target) = []
writes (Call to method args) = optional to
writes (Return from) = []

-- where the method goes on after the instruction at a point
abbrev pub GoesTo : Instr → ℕ → ℕ → Type 0
GoesTo (Branch condition other) i j = (j ≡ suc i) ⊎ (j ≡ other)
GoesTo (Jump target) i j = j ≡ target
GoesTo (Return from) i j = ⊥
GoesTo _ i j = j ≡ suc i

-- a path from the method's begin to a point, with the slots that it writes
pub data Path (m : Method) : ℕ → List ℕ → Type 0 where
  begin : Path m 0 []
  more : (i j : ℕ) (written : List ℕ) (instr : Instr) → Path m i written → slice_get m.code i ≡ Some instr → GoesTo instr i j → Path m j (writes instr ++ written)

-- a parameter, or written
abbrev pub IsGiven : Method → List ℕ → ℕ → Type 0
IsGiven m written k = (k ≤ m.params) ⊎ Contains written k

abbrev pub MethodIsSet : Method → Type 0
MethodIsSet m = (i : ℕ) (written : List ℕ) (instr : Instr) → Path m i written → slice_get m.code i ≡ Some instr → All (IsGiven m written) (reads instr)

pub record IsSet (program : Program) : Type 0 where
  pub methods : All MethodIsSet program.methods
