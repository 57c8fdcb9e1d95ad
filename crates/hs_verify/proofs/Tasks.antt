-- What the tasks that are left say: which states are to be visited, and from what the others are concluded.
use Rattle.std.proofs.Common.{◌≡◌, ℕ, suc, ◌-◌, List, [], ◌∷◌, ◌++◌, map, length, Option, Some, None, refl, sym, ap, subst, append_assoc, append-nil, arith}
use Rattle.std.specs.List.{AllByRecursion, AllZip}
use Rattle.std.proofs.lemmas.List.{length-append}
use Rattle.hs_goal.specs.declared.goal.Goal.{Goal}
use Rattle.hs_heap.specs.declared.formula.Formula.{Formula}
use Rattle.hs_heap.specs.declared.definitions.Defs.{Defs}
use Rattle.hs_goal.specs.declared.rule.Limits.{Limits}
use Rattle.hs_core.specs.declared.program.Program.{Program}
use Rattle.hs_core.specs.declared.state.At.{At}
use Rattle.hs_node.specs.declared.derivation.Node.{Node}
use Rattle.hs_node.specs.declared.judgement.Judgement.{Judgement}
use Rattle.hs_node.specs.declared.judgement.Judgement.TheVariants.{Entails, Runs}
use Rattle.hs_proof_nodes.specs.Placed.{Says}
use Rattle.hs_proof_nodes.proofs.Places.{get_before}
use Rattle.hs_program_rules.specs.Table.{goal_of}
use Rattle.hs_verify.specs.declared.task.Task.{Task}
use Rattle.hs_verify.specs.declared.task.Taken.{Taken}
use Rattle.hs_verify.specs.Visited.{GivesGoal, IsFit, IsTakenTo, to_visit}

-- ---- the states to be visited

abbrev pub agenda_with : Option Taken → At → List At → List At
agenda_with None at rest = at ∷ rest
agenda_with (Some taken) at rest = rest

-- of tasks, the next first
abbrev pub agenda : List Task → List At
agenda [] = []
agenda (t ∷ tasks) = agenda_with t.taken t.at (agenda tasks)

pub agenda_visits : (ps : List At) (tasks : List Task) → agenda (map to_visit ps ++ tasks) ≡ ps ++ agenda tasks
agenda_visits [] tasks = refl
agenda_visits (p ∷ ps) tasks = ap (λ (rest : List At). p ∷ rest) (agenda_visits ps tasks)

-- ---- how many states are to be concluded

abbrev pub waiting_with : Option Taken → ℕ → ℕ
waiting_with None n = n
waiting_with (Some taken) n = suc n

abbrev pub waiting : List Task → ℕ
waiting [] = 0
waiting (t ∷ tasks) = waiting_with t.taken (waiting tasks)

pub waiting_visits : (ps : List At) (tasks : List Task) → waiting (map to_visit ps ++ tasks) ≡ waiting tasks
waiting_visits [] tasks = refl
waiting_visits (p ∷ ps) tasks = waiting_visits ps tasks

-- ---- the states to be visited are well formed and prepared

module _ (defs : Defs) (program : Program) where
  abbrev pub IsTaskFit : Option Taken → At → Type 0
  IsTaskFit None at = IsFit defs program at
  IsTaskFit (Some taken) at = Unit {0}

  abbrev pub AreTasksFit : List Task → Type 0
  AreTasksFit tasks = AllByRecursion (λ (t : Task). IsTaskFit t.taken t.at) tasks

  pub fit_visits : (ps : List At) (tasks : List Task) → AllByRecursion (IsFit defs program) ps → AreTasksFit tasks → AreTasksFit (map to_visit ps ++ tasks)
  fit_visits [] tasks h k = k
  fit_visits (p ∷ ps) tasks h k = (h.0, fit_visits ps tasks h.1 k)

-- ---- numbers of nodes

-- the node of the number says that runs from the state are safe
abbrev pub Ends : List Node → ℕ → At → Type 0
Ends nodes k at = Says nodes k (Runs at)

pub says_more : (nodes more : List Node) (k : ℕ) (j : Judgement) → Says nodes k j → Says (nodes ++ more) k j
says_more nodes more k j h = record { first = h.first; node = h.node; there = get_before nodes more (k - 1) h.node h.there; says = h.says }

pub goal_more : (nodes more : List Node) (g : Option Goal) (k : Option ℕ) (residue : Formula) → GivesGoal nodes g k residue → GivesGoal (nodes ++ more) g k residue
goal_more nodes more None None residue h = h
goal_more nodes more None (Some k) residue h = h
goal_more nodes more (Some g) None residue h = h
goal_more nodes more (Some g) (Some k) residue h = says_more nodes more k (Entails g residue) h

pub ends_more : (nodes more : List Node) (ks : List ℕ) (ats : List At) → AllZip (Ends nodes) ks ats → AllZip (Ends (nodes ++ more)) ks ats
ends_more nodes more [] [] z = tt
ends_more nodes more [] (a ∷ ats) z = absurd z
ends_more nodes more (k ∷ ks) [] z = absurd z
ends_more nodes more (k ∷ ks) (a ∷ ats) z = (says_more nodes more k (Runs a) z.0, ends_more nodes more ks ats z.1)

pub ends_push : (nodes : List Node) (ks : List ℕ) (ats : List At) (k : ℕ) (at : At) → AllZip (Ends nodes) ks ats → Ends nodes k at → AllZip (Ends nodes) (ks ++ k ∷ []) (ats ++ at ∷ [])
ends_push nodes [] [] k at z h = (h, tt)
ends_push nodes [] (a ∷ ats) k at z h = absurd z
ends_push nodes (n ∷ ks) [] k at z h = absurd z
ends_push nodes (n ∷ ks) (a ∷ ats) k at z h = (z.0, ends_push nodes ks ats k at z.1 h)

pub zip_length : (nodes : List Node) (ks : List ℕ) (ats : List At) → AllZip (Ends nodes) ks ats → length ks ≡ length ats
zip_length nodes [] [] z = refl
zip_length nodes [] (a ∷ ats) z = absurd z
zip_length nodes (k ∷ ks) [] z = absurd z
zip_length nodes (k ∷ ks) (a ∷ ats) z = ap suc (zip_length nodes ks ats z.1)

-- both lists end in as many
pub ends_split : (nodes : List Node) (ks ls : List ℕ) (ats bs : List At) → length ls ≡ length bs → AllZip (Ends nodes) (ks ++ ls) (ats ++ bs) →
    AllZip (Ends nodes) ks ats × AllZip (Ends nodes) ls bs
ends_split nodes [] ls [] bs e z = (tt, z)
ends_split nodes [] ls (a ∷ ats) bs e z =
    let long = zip_length nodes ls (a ∷ ats ++ bs) z in
    absurd (omega (arith, length-append ats bs))
ends_split nodes (k ∷ ks) ls [] bs e z =
    let long = zip_length nodes (k ∷ ks ++ ls) bs z in
    absurd (omega (arith, length-append ks ls))
ends_split nodes (k ∷ ks) ls (a ∷ ats) bs e z =
    let both = ends_split nodes ks ls ats bs e z.1 in
    ((z.0, both.0), both.1)

-- ---- what the tasks come to

module _ (defs : Defs) (program : Program) (limits : Limits) where
  -- the last states that are concluded are the further premises of the state
  pub record Gathers (nodes : List Node) (at : At) (taken : Taken) (rest : List At → Type 0) (done : List At) : Type 0 where
    pub front : List At
    pub further : List At
    pub split : done ≡ front ++ further
    pub long : length further ≡ taken.further
    pub fit : IsFit defs program at
    pub is_taken : IsTakenTo defs program limits at nodes taken further
    pub after : rest (front ++ at ∷ [])

  abbrev pub ComesBy : List Node → Option Taken → At → (List At → Type 0) → List At → Type 0
  ComesBy nodes None at rest done = rest (done ++ at ∷ [])
  ComesBy nodes (Some taken) at rest done = Gathers nodes at taken rest done

  -- once the tasks are done, the next first, beside states that are concluded the start alone is concluded
  abbrev pub ComesTo : At → List Node → List Task → List At → Type 0
  ComesTo start nodes [] done = done ≡ start ∷ []
  ComesTo start nodes (t ∷ tasks) done = ComesBy nodes t.taken t.at (ComesTo start nodes tasks) done

  taken_more : (nodes more : List Node) (at : At) (taken : Taken) (ps : List At) → IsTakenTo defs program limits at nodes taken ps → IsTakenTo defs program limits at (nodes ++ more) taken ps
  taken_more nodes more at taken ps h = record {
    residue = h.residue;
    takes = h.takes;
    goal = goal_more nodes more (goal_of defs program at taken.rule) taken.goal h.residue h.goal;
    premises_are = h.premises_are;
  }

  comes_by_more : (nodes more : List Node) (taken : Option Taken) (at : At) (P Q : List At → Type 0) → ((done : List At) → P done → Q done) →
      (done : List At) → ComesBy nodes taken at P done → ComesBy (nodes ++ more) taken at Q done
  comes_by_more nodes more None at P Q f done h = f (done ++ at ∷ []) h
  comes_by_more nodes more (Some taken) at P Q f done h = record {
    front = h.front;
    further = h.further;
    split = h.split;
    long = h.long;
    fit = h.fit;
    is_taken = taken_more nodes more at taken h.further h.is_taken;
    after = f (h.front ++ at ∷ []) h.after;
  }

  -- more nodes change nothing
  pub comes_more : (start : At) (nodes more : List Node) (tasks : List Task) (done : List At) → ComesTo start nodes tasks done → ComesTo start (nodes ++ more) tasks done
  comes_more start nodes more [] done h = h
  comes_more start nodes more (t ∷ tasks) done h =
      comes_by_more nodes more t.taken t.at (ComesTo start nodes tasks) (ComesTo start (nodes ++ more) tasks) (comes_more start nodes more tasks) done h

  -- states to be visited are concluded before what comes after them
  pub comes_visits : (start : At) (nodes : List Node) (ps : List At) (tasks : List Task) (done : List At) → ComesTo start nodes tasks (done ++ ps) → ComesTo start nodes (map to_visit ps ++ tasks) done
  comes_visits start nodes [] tasks done h = subst (ComesTo start nodes tasks) (append-nil done) h
  comes_visits start nodes (p ∷ ps) tasks done h =
      comes_visits start nodes ps tasks (done ++ p ∷ []) (subst (ComesTo start nodes tasks) (sym (append_assoc done (p ∷ []) ps)) h)
