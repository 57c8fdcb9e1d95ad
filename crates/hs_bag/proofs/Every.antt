-- Conjunctions that a loop makes.
use Rattle.std.proofs.Common.{◌≡◌, ℕ, zero, suc, ◌+◌, List, [], ◌∷◌, ◌++◌, length, map, refl, ap, ◌∙◌, arith}
use Rattle.std.specs.List.{fold}
use Rattle.hs_pure.specs.declared.pure.Pure.{Pure}
use Rattle.hs_pure.specs.declared.pure.Pure.TheVariants as pure_of
use Rattle.hs_pure.specs.Assertion.{Assertion, both, every, pure_level, assertion_of}
use Rattle.hs_pure.proofs.Views.{fold-And}
use Rattle.hs_reduction.specs.Reduction.{all_below}

fold-push : (op : Assertion → Assertion → Assertion) (q : Assertion) (qs : List Assertion) (p : Assertion) → fold op q (qs ++ p ∷ []) ≡ op (fold op q qs) p
fold-push op q [] p = refl
fold-push op q (r ∷ qs) p = fold-push op (op q r) qs p

map-push : (ps : List Pure) (p : Pure) → map assertion_of (ps ++ p ∷ []) ≡ map assertion_of ps ++ assertion_of p ∷ []
map-push [] p = refl
map-push (q ∷ ps) p = ap (λ rest. assertion_of q ∷ rest) (map-push ps p)

pushed : (qs : List Assertion) (p : Assertion) (n : ℕ) (f : ℕ → Assertion) → length qs ≡ n → every qs ≡ all_below n f → p ≡ f n → every (qs ++ p ∷ []) ≡ all_below (suc n) f
pushed [] p zero f size e is = is
pushed [] p (suc n) f size e is = absurd (omega arith)
pushed (q ∷ qs) p zero f size e is = absurd (omega arith)
pushed (q ∷ qs) p (suc n) f size e is = fold-push both q qs p ∙ (λ i. both (e i) (is i))

length-map : (ps : List Pure) → length (map assertion_of ps) ≡ length ps
length-map [] = refl
length-map (p ∷ ps) = ap suc (length-map ps)

pub every_push : (ps : List Pure) (p : Pure) (n : ℕ) (f : ℕ → Assertion) → length ps ≡ n → every (map assertion_of ps) ≡ all_below n f → assertion_of p ≡ f n →
    every (map assertion_of (ps ++ p ∷ [])) ≡ all_below (n + 1) f
every_push ps p n f size e is =
    ap every (map-push ps p) ∙ pushed (map assertion_of ps) (assertion_of p) n f (length-map ps ∙ size) e is ∙ ap (λ m. all_below m f) (let next : suc n ≡ n + 1 = omega arith in next)

pub every_none : (f : ℕ → Assertion) → every (map assertion_of []) ≡ all_below 0 f
every_none f = refl

pub every_and : (ps : List Pure) → assertion_of (pure_of.And ps) ≡ every (map assertion_of ps)
every_and ps = fold-And pure_level ps

-- ---- a loop's list

pub every_more : (ps now : List Pure) (p q : Pure) (n : ℕ) (f : ℕ → Assertion) → length ps ≡ n → every (map assertion_of ps) ≡ all_below n f → assertion_of q ≡ f n → p ≡ q → now ≡ ps ++ p ∷ [] →
    every (map assertion_of now) ≡ all_below (n + 1) f
every_more ps now p q n f size e is p_is now_is = ap (λ zs. every (map assertion_of zs)) now_is ∙ every_push ps p n f size e (ap assertion_of p_is ∙ is)

length-push : (ps : List Pure) (p : Pure) → length (ps ++ p ∷ []) ≡ length ps + 1
length-push [] p = refl
length-push (q ∷ ps) p = let rest = length-push ps p in omega arith

pub size_more : (ps now : List Pure) (p : Pure) (n : ℕ) → length ps ≡ n → now ≡ ps ++ p ∷ [] → length now ≡ n + 1
size_more ps now p n size now_is = ap length now_is ∙ length-push ps p ∙ ap (λ k. k + 1) size

pub map_more : (ps now : List Pure) (p q : Pure) → p ≡ q → now ≡ ps ++ p ∷ [] → map assertion_of now ≡ map assertion_of ps ++ assertion_of q ∷ []
map_more ps now p q p_is now_is = ap (map assertion_of) now_is ∙ map-push ps p ∙ ap (λ r. map assertion_of ps ++ assertion_of r ∷ []) p_is
