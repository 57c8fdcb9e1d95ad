-- Where there is room for a choice, and what a choice hands on.
use Rattle.std.proofs.Common.{◌≡◌, ◌≤◌, ◌^◌, nat_le, Bool, true, if◌then◌else◌, List, [], ◌∷◌, refl, ap}
use Rattle.std.specs.List.{All, list_all}
use Rattle.std.proofs.lemmas.Bool.{and_parts, and_from}
use Rattle.std.proofs.lemmas.List.Elements.{All-nil, All-cons, All-head, All-tail}
use Rattle.hs_heap.proofs.Tells.{tells_le}
use Rattle.hs_heap.specs.declared.definitions.Defs.{Defs}
use Rattle.hs_goal.specs.declared.goal.Goal.{Goal}
use Rattle.hs_goal.specs.declared.rule.ERule.{ERule}
use Rattle.hs_rules.specs.Subgoals.{subgoals_of}
use Rattle.hs_rules.specs.Questions.{question_of}
use Rattle.hs_choices.specs.Tests.{is_answered}
use Rattle.hs_search.specs.Entailments.{has_room, subgoals_with_room, holds}

abbrev HasRoom : List Goal → Type 0
HasRoom subs = All (λ (sub : Goal). sub.next ≤ 2 ^ 30) subs

abbrev room_of : List Goal → Bool
room_of subs = list_all (λ (sub : Goal). nat_le sub.next (2 ^ 30)) subs

room_read : (subs : List Goal) → room_of subs ≡ true → HasRoom subs
room_read [] e = All-nil (λ (sub : Goal). sub.next ≤ 2 ^ 30)
room_read (s ∷ subs) e =
    let parts = and_parts (nat_le s.next (2 ^ 30)) (room_of subs) e in
    All-cons (λ (sub : Goal). sub.next ≤ 2 ^ 30) s subs ((tells_le s.next (2 ^ 30)).0 parts.0) (room_read subs parts.1)

room_told : (subs : List Goal) → HasRoom subs → room_of subs ≡ true
room_told [] h = refl
room_told (s ∷ subs) h =
    and_from (nat_le s.next (2 ^ 30)) (room_of subs) ((tells_le s.next (2 ^ 30)).1 (All-head (λ (sub : Goal). sub.next ≤ 2 ^ 30) s subs h))
    (room_told subs (All-tail (λ (sub : Goal). sub.next ≤ 2 ^ 30) s subs h))

-- ---- of a rule

pub room_from : (defs : Defs) (g : Goal) (rule : ERule) → has_room defs g rule ≡ true → All (λ (sub : Goal). sub.next ≤ 2 ^ 30) (subgoals_of defs g rule)
room_from defs g rule e = room_read (subgoals_of defs g rule) e

pub room_to : (defs : Defs) (g : Goal) (rule : ERule) → All (λ (sub : Goal). sub.next ≤ 2 ^ 30) (subgoals_of defs g rule) → has_room defs g rule ≡ true
room_to defs g rule h = room_told (subgoals_of defs g rule) h

pub with_room : (defs : Defs) (g : Goal) (rule : ERule) → has_room defs g rule ≡ true → subgoals_with_room defs g rule ≡ subgoals_of defs g rule
with_room defs g rule e = ap (λ b. if b then subgoals_of defs g rule else []) e

pub holds_parts : (defs : Defs) (g : Goal) (rule : ERule) → holds defs g rule ≡ true → (has_room defs g rule ≡ true) × (is_answered (question_of defs g rule) ≡ true)
holds_parts defs g rule e = and_parts (has_room defs g rule) (is_answered (question_of defs g rule)) e
