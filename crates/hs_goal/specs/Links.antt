-- Links from keys to smaller keys, and where they end.
use Rattle.std.specs.Prelude.{◌≡◌, ℕ, zero, suc, ◌<◌, ◌↔◌, ◌⊎◌, false, nat_eq, List, Option, Some, None}
use Rattle.std.specs.List.{list_any}
use Rattle.std.specs.Option.{option_map_or, unwrap_or}

-- the key to which each key is linked
abbrev pub Links : Type 0
Links = ℕ → Option ℕ

-- each link goes to a smaller key
abbrev pub AllFall : Links → Type 0
AllFall f = (k p : ℕ) → f k ≡ Some p → p < k

-- the key that at most n links lead to
abbrev pub follow : Links → ℕ → ℕ → ℕ
follow f zero k = k
follow f (suc n) k = option_map_or (λ p. follow f n p) (f k) k

-- the key at which the links from k end
abbrev pub end_of : Links → ℕ → ℕ
end_of f k = follow f k k

-- u and v end alike, or do so once i and j do
abbrev pub EndAlike : (ℕ → ℕ) → ℕ → ℕ → ℕ → ℕ → Type 0
EndAlike ends i j u v = (ends u ≡ ends v) ⊎ (((ends u ≡ ends i) × (ends v ≡ ends j)) ⊎ ((ends u ≡ ends j) × (ends v ≡ ends i)))

-- the links end where they did
pub record Shortens (f g : Links) : Type 0 where
  pub fall : AllFall g
  pub ends : (k : ℕ) → end_of g k ≡ end_of f k

-- i and j end alike, and else only what did
pub record Joins (f g : Links) (i j : ℕ) : Type 0 where
  pub fall : AllFall g
  pub alike : (u v : ℕ) → (end_of g u ≡ end_of g v) ↔ EndAlike (end_of f) i j u v

-- r is the end of the links from k, which end where they did
pub record Finds (f g : Links) (k r : ℕ) : Type 0 where
  pub shorter : Shortens f g
  pub found : r ≡ end_of f k

-- a table has, of these keys, the ends of the links from them
abbrev pub HasEnds : List ℕ → Links → Links → Type 0
HasEnds ks f table = (q : ℕ) → (table q ≡ Some (end_of f q)) ⊎ ((table q ≡ None) × (list_any (nat_eq q) ks ≡ false))

-- a table has the end of the links from each key, or nothing where that is the key itself
abbrev pub AreEnds : Links → Links → Type 0
AreEnds f table = (q : ℕ) → unwrap_or (table q) q ≡ end_of f q
