-- Where the forms of the left side are 0, and whether those of the right side are as their kinds say.
use Rattle.std.proofs.Common.{◌≡◌, List, [], ◌∷◌, ◌++◌, ℤ, pos, ◌<ℤ◌, ◌≤ℤ◌}
use Rattle.hs_pure.specs.declared.lin.Lin.{Lin}
use Rattle.hs_elimination.proofs.Meaning.{Assignment, RisesFrom, value}
use Rattle.hs_unit.specs.declared.sides.Kind.{Kind}
use Rattle.hs_unit.specs.declared.sides.Kind.TheVariants.{Zero, Below, Most}
use Rattle.hs_unit.specs.Sides.{Comparison, forms}

abbrev pub AllRise : List Lin → Type 0
AllRise [] = Unit {0}
AllRise (a ∷ as') = RisesFrom 0 a.terms × AllRise as'

pub rise-append : (xs ys : List Lin) → AllRise xs → AllRise ys → AllRise (xs ++ ys)
rise-append [] ys h k = k
rise-append (x ∷ xs) ys h k = (h.0, rise-append xs ys h.1 k)

-- all forms are 0
abbrev pub Zeros : Assignment → List Lin → Type 0
Zeros s [] = Unit {0}
Zeros s (a ∷ as') = (value s a ≡ pos 0) × Zeros s as'

pub zeros-append : (s : Assignment) (xs ys : List Lin) → Zeros s xs → Zeros s ys → Zeros s (xs ++ ys)
zeros-append s [] ys h k = k
zeros-append s (x ∷ xs) ys h k = (h.0, zeros-append s xs ys h.1 k)

pub zeros-parts : (s : Assignment) (xs ys : List Lin) → Zeros s (xs ++ ys) → Zeros s xs × Zeros s ys
zeros-parts s [] ys h = (tt, h)
zeros-parts s (x ∷ xs) ys h = let ih = zeros-parts s xs ys h.1 in ((h.0, ih.0), ih.1)

-- the number is as the kind says
abbrev pub Meets : Kind → ℤ → Type 0
Meets Zero z = z ≡ pos 0
Meets Below z = z <ℤ pos 0
Meets Most z = z ≤ℤ pos 0

-- all forms are as their kinds say
abbrev pub AllMeet : Assignment → List Comparison → Type 0
AllMeet s [] = Unit {0}
AllMeet s (c ∷ cs) = Meets c.0 (value s c.1) × AllMeet s cs

pub meet-append : (s : Assignment) (xs ys : List Comparison) → AllMeet s xs → AllMeet s ys → AllMeet s (xs ++ ys)
meet-append s [] ys h k = k
meet-append s (x ∷ xs) ys h k = (h.0, meet-append s xs ys h.1 k)

pub meet-parts : (s : Assignment) (xs ys : List Comparison) → AllMeet s (xs ++ ys) → AllMeet s xs × AllMeet s ys
meet-parts s [] ys h = (tt, h)
meet-parts s (x ∷ xs) ys h = let ih = meet-parts s xs ys h.1 in ((h.0, ih.0), ih.1)

pub rise-forms : (xs ys : List Comparison) → AllRise (forms xs) → AllRise (forms ys) → AllRise (forms (xs ++ ys))
rise-forms [] ys h k = k
rise-forms (x ∷ xs) ys h k = (h.0, rise-forms xs ys h.1 k)
