-- The numbers of the variables of one claim, in the order of the text, and the faults that are met.
use Rattle.std.specs.Prelude.{◌≡◌, ℕ, ◌+◌, ◌-◌, min, Bool, true, false, if◌then◌else◌, ◌&&◌, ◌||◌, not, nat_le, nat_eq, List, [], ◌∷◌, ◌++◌, length, take, Option, Some, None, is_some, Result, Ok, Err}
use Rattle.std.specs.List.{fold, list_any}
use Rattle.std.specs.Str.{bytes_eq}
use Rattle.hs_tree.specs.declared.ident.Ident.{Ident}
use Rattle.hs_pure.specs.declared.var.Var.{Var}
use Rattle.hs_pure.specs.declared.pure.Pure.{Pure}
use Rattle.hs_text.specs.declared.memory.NoMemory.{NoMemory}
use Rattle.hs_numbering.specs.declared.fault.Fault.{Fault}
use Rattle.hs_numbering.specs.declared.fault.Problem.{Problem}
use Rattle.hs_numbering.specs.declared.fault.Problem.TheVariants.{Unknown, Twice, TooMany, Shape}
use Rattle.hs_numbering.specs.declared.fault.Limit.TheVariants.{Vars}
use Rattle.hs_numbering.specs.declared.numbering.Named.{Named}
use Rattle.hs_numbering.specs.declared.numbering.Reading.{Reading}
use Rattle.hs_numbering.specs.declared.numbering.Reading.TheVariants.{Open, Closed, Numbered}
use Rattle.hs_numbering.specs.declared.numbering.Numbering.{Numbering}
use Rattle.hs_numbering.specs.Names.{is_upper, numbered_var}

-- What a part of a source gives, with the numbering after it.
abbrev pub Builder : Type 0 → Type 0
Builder A = Numbering → A × Numbering

infixl 10 ◌>>=◌
abbrev pub ◌>>=◌ : {A B : Type 0} → Builder A → (A → Builder B) → Builder B
p >>= f = λ n. f (p n).0 (p n).1

infixl 10 ◌>>◌
abbrev pub ◌>>◌ : {A B : Type 0} → Builder A → Builder B → Builder B
p >> q = p >>= (λ _. q)

infixl 20 ◌<$>◌
abbrev pub ◌<$>◌ : {A B : Type 0} → (A → B) → Builder A → Builder B
f <$> p = p >>= λ a n. (f a, n)

abbrev pub pure : {A : Type 0} → A → Builder A
pure a = λ n. (a, n)

-- from the left
abbrev pub each : {A B : Type 0} → (A → Builder B) → List A → Builder (List B)
each f xs = λ n. fold (λ done x. (done.0 ++ (f x done.1).0 ∷ [], (f x done.1).1)) ([], n) xs

-- from the left, each told how many are built so far
abbrev pub each_counted : {A B : Type 0} → (ℕ → A → Builder B) → List A → Builder (List B)
each_counted f xs = λ n. fold (λ done x. (done.0 ++ (f (length done.0) x done.1).0 ∷ [], (f (length done.0) x done.1).1)) ([], n) xs

-- the call built this, unless memory ran out
abbrev pub Builds : {A : Type 0} → A × Numbering → Result A NoMemory → Numbering → Type 0
Builds built (Ok a) new = (a, new) ≡ built
Builds built (Err e) new = Unit {0}

-- ---- a claim

abbrev pub start : Reading → List Fault → Numbering
start reading faults = record { reading = reading; names = []; fixed = []; known = []; around = []; flat = []; equations = []; faults = faults }

abbrev pub read_as : Reading → Builder (Unit {0})
read_as reading = λ n. (tt, record n { reading = reading })

-- the least number that is not given
abbrev pub next : Numbering → ℕ
next n = min (length n.names) 1000 + 1

abbrev pub is_numbered : Reading → Bool
is_numbered Open = false
is_numbered Closed = false
is_numbered Numbered = true

abbrev pub is_open : Reading → Bool
is_open Open = true
is_open Closed = false
is_open Numbered = false

-- ---- faults

abbrev pub blame : ℕ → Problem → Builder (Unit {0})
blame at problem = λ n. (tt, record n { faults = n.faults ++ record { at = at; problem = problem } ∷ [] })

-- what stands for a variable where there is a fault
abbrev pub no_var : Bool → Var
no_var bag = record { number = 0; bag = bag }

abbrev pub blame_unknown : Ident → Builder Var
blame_unknown x = blame x.at (Unknown x.text) >> pure (no_var (is_upper x.text))

abbrev pub blame_twice : Ident → Bool → Builder (Unit {0})
blame_twice x true = blame x.at (Twice x.text)
blame_twice x false = pure tt

-- ---- names and numbers

-- the variable that the name has in the list, the last one counts
abbrev pub last_named : List ℕ → List Named → Option Var
last_named name = fold (λ found m. if bytes_eq name m.name then Some m.var else found) None

abbrev pub has_number : ℕ → List Named → Bool
has_number k = list_any (λ m. nat_eq m.var.number k)

-- the next number, of a variable that is first met at this place; the numbered form gives none
abbrev pub give : Option (List ℕ) → ℕ → Bool → Builder Var
give name at bag = λ n.
    if is_numbered n.reading then (blame at Shape >> pure (no_var bag)) n
    else (if nat_le 1000 (length n.names) then (blame at (TooMany Vars) >> pure (no_var bag)) n
    else (record { number = length n.names + 1; bag = bag }, record n { names = n.names ++ name ∷ [] }))

abbrev pub give_named : Ident → Builder Var
give_named x = give (Some x.text) x.at (is_upper x.text)

-- a number for a name that no binder may have
abbrev pub fix : Ident → Builder Var
fix x = give_named x >>= λ v n. (v, record n { fixed = n.fixed ++ record { name = x.text; var = v } ∷ [] })

abbrev pub learn : Ident → Var → Builder (Unit {0})
learn x v = λ n. (tt, record n { known = n.known ++ record { name = x.text; var = v } ∷ [] })

-- the bytes of `self` and `res`
abbrev pub self_name : List ℕ
self_name = 115 ∷ 101 ∷ 108 ∷ 102 ∷ []

abbrev pub res_name : List ℕ
res_name = 114 ∷ 101 ∷ 115 ∷ []

-- a free name that is not known gets a number
abbrev pub takes_new : Reading → List ℕ → Bool
takes_new reading name = is_open reading && (not (bytes_eq name self_name) && not (bytes_eq name res_name))

abbrev pub resolve_free : Ident → Builder Var
resolve_free x = λ n. (if takes_new n.reading x.text then (do
  v ← give_named x
  learn x v
  pure v) else blame_unknown x) n

abbrev pub or_else : Option Var → Builder Var → Builder Var
or_else (Some v) other = pure v
or_else None other = other

-- the innermost binder of the name, or what it names outside, or a new variable
abbrev pub resolve_name : Ident → Builder Var
resolve_name x = λ n. or_else (last_named x.text n.around) (or_else (last_named x.text n.known) (or_else (last_named x.text n.fixed) (resolve_free x))) n

abbrev pub resolve_numbered : Ident → Builder Var
resolve_numbered x = or_else (numbered_var x.text) (blame_unknown x)

unfoldable pub resolve : Ident → Builder Var
resolve x = λ n. (if is_numbered n.reading then resolve_numbered x else resolve_name x) n

-- ---- binders

abbrev pub enter : Ident → Var → Builder (Unit {0})
enter x v = λ n. (tt, record n { around = n.around ++ record { name = x.text; var = v } ∷ [] })

-- a binder around has the name, or it is fixed
abbrev pub is_taken : List ℕ → Numbering → Bool
is_taken name n = is_some (last_named name n.around) || is_some (last_named name n.fixed)

abbrev pub bind_name : Ident → Builder Var
bind_name x = λ n. (do
  blame_twice x (is_taken x.text n)
  v ← give_named x
  enter x v
  pure v) n

abbrev pub bind_read : Ident → Option Var → Builder Var
bind_read x None = do
  v ← blame_unknown x
  enter x v
  pure v
bind_read x (Some v) = λ n. (do
  blame_twice x (has_number v.number n.around)
  enter x v
  pure v) n

abbrev pub bind_numbered : Ident → Builder Var
bind_numbered x = bind_read x (numbered_var x.text)

unfoldable pub bind : Ident → Builder Var
bind x = λ n. (if is_numbered n.reading then bind_numbered x else bind_name x) n

unfoldable pub leave : Builder (Unit {0})
leave = λ n. (tt, record n { around = take (length n.around - 1) n.around })

abbrev pub leave_all : List Ident → Builder (Unit {0})
leave_all names = λ n. (tt, fold (λ n x. (leave n).1) n names)

-- ---- what a disjunct binds besides

abbrev pub give_bound : ℕ → Bool → Builder Var
give_bound at bag = give None at bag >>= λ v n. (v, record n { flat = n.flat ++ v ∷ [] })

abbrev pub equate : Pure → Builder (Unit {0})
equate p = λ n. (tt, record n { equations = n.equations ++ p ∷ [] })

abbrev pub take_flat : Builder (List Var)
take_flat = λ n. (n.flat, record n { flat = [] })

abbrev pub take_equations : Builder (List Pure)
take_equations = λ n. (n.equations, record n { equations = [] })
