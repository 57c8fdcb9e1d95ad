-- Where links end, after a link is put.
use Rattle.std.proofs.Common.{◌≡◌, ℕ, zero, suc, ◌<◌, ◌≤◌, Bool, true, false, cond, eqb, ◌⊎◌, inl, inr, Option, Some, None, refl, sym, ap, ◌∙◌, subst, arith}
use Rattle.std.specs.Option.{option_map_or}
use Rattle.std.proofs.lemmas.Bool.{eqb-true, eq-eqb}
use Rattle.hs_goal.specs.Links.{Links, AllFall, follow, end_of, EndAlike, Shortens, Finds, Joins}

-- ---- to follow links

below : (P : ℕ → Type 0) → ((k : ℕ) → ((j : ℕ) → j < k → P j) → P k) → (n k : ℕ) → k < n → P k
below P step zero k less = absurd (omega arith)
below P step (suc n) k less = step k (λ j lower. below P step n j (omega arith))

-- what holds where it holds of all smaller numbers
by_smaller : (P : ℕ → Type 0) → ((k : ℕ) → ((j : ℕ) → j < k → P j) → P k) → (k : ℕ) → P k
by_smaller P step k = below P step (suc k) k (omega arith)

bool_cases : (b : Bool) → (b ≡ true) ⊎ (b ≡ false)
bool_cases true = inl refl
bool_cases false = inr refl

option_cases : {A : Type 0} (o : Option A) → (o ≡ None) ⊎ ((x : A) × (o ≡ Some x))
option_cases None = inl refl
option_cases (Some x) = inr (x, refl)

module _ (f : Links) (falls : AllFall f) where
  fuel : (n m k : ℕ) → k ≤ n → k ≤ m → follow f n k ≡ follow f m k
  fuel zero zero k a b = refl
  fuel zero (suc m) k a b = go (f k) refl
    where
      go : (o : Option ℕ) → f k ≡ o → k ≡ option_map_or (λ p. follow f m p) o k
      go None e = refl
      go (Some p) e = let less = falls k p e in absurd (omega arith)
  fuel (suc n) zero k a b = go (f k) refl
    where
      go : (o : Option ℕ) → f k ≡ o → option_map_or (λ p. follow f n p) o k ≡ k
      go None e = refl
      go (Some p) e = let less = falls k p e in absurd (omega arith)
  fuel (suc n) (suc m) k a b = go (λ p c d. fuel n m p c d) (f k) refl
    where
      go : ((p : ℕ) → p ≤ n → p ≤ m → follow f n p ≡ follow f m p) → (o : Option ℕ) → f k ≡ o → option_map_or (λ p. follow f n p) o k ≡ option_map_or (λ p. follow f m p) o k
      go less_fuel None e = refl
      go less_fuel (Some p) e = let less = falls k p e in less_fuel p (omega arith) (omega arith)

  pub end-None : (k : ℕ) → f k ≡ None → end_of f k ≡ k
  end-None zero e = refl
  end-None (suc n) e = ap (λ o. option_map_or (λ p. follow f n p) o (suc n)) e

  pub end-Some : (k p : ℕ) → f k ≡ Some p → end_of f k ≡ end_of f p
  end-Some zero p e = let less = falls zero p e in absurd (omega arith)
  end-Some (suc n) p e = let less = falls (suc n) p e in ap (λ o. option_map_or (λ p. follow f n p) o (suc n)) e ∙ fuel n p p (omega arith) (omega arith)

  -- no link leads on from an end
  pub at_end : (k : ℕ) → f (end_of f k) ≡ None
  at_end = by_smaller (λ k. f (end_of f k) ≡ None) (λ k smaller. elim (option_cases (f k)) [
    | inl none ↦ subst (λ j. f j ≡ None) (sym (end-None k none)) none
    | inr (p, is) ↦ subst (λ j. f j ≡ None) (sym (end-Some k p is)) (smaller p (falls k p is))
  ])

-- e goes with the links
record Respects (g : Links) (e : ℕ → ℕ) : Type 0 where
  stops : (k : ℕ) → g k ≡ None → e k ≡ k
  goes : (k p : ℕ) → g k ≡ Some p → e k ≡ e p

unique : (g : Links) → AllFall g → (e : ℕ → ℕ) → Respects g e → (k : ℕ) → end_of g k ≡ e k
unique g falls e r = by_smaller (λ k. end_of g k ≡ e k) (λ k smaller. elim (option_cases (g k)) [
  | inl none ↦ end-None g falls k none ∙ sym (r.stops k none)
  | inr (p, is) ↦ end-Some g falls k p is ∙ smaller p (falls k p is) ∙ sym (r.goes k p is)
])

pub shortens_itself : (f : Links) → AllFall f → Shortens f f
shortens_itself f falls = record { fall = falls; ends = λ k. refl }

pub shortens_again : (f g h : Links) → Shortens f g → Shortens g h → Shortens f h
shortens_again f g h s t = record { fall = t.fall; ends = λ k. t.ends k ∙ s.ends k }

-- ---- one link more

-- g is f with a link from k to w
abbrev pub Puts : Links → Links → ℕ → ℕ → Type 0
Puts f g k w = (q : ℕ) → g q ≡ cond (eqb k q) (Some w) (f q)

module _ (f g : Links) (k w : ℕ) (puts : Puts f g k w) where
  pub put_there : (q : ℕ) → eqb k q ≡ true → g q ≡ Some w
  put_there q e = puts q ∙ rw e refl

  pub put_other : (q : ℕ) → eqb k q ≡ false → g q ≡ f q
  put_other q e = puts q ∙ rw e refl

  pub put_falls : AllFall f → w < k → AllFall g
  put_falls falls less q p e = elim (bool_cases (eqb k q)) [
    | inl is ↦ let there = put_there q is in let same : k ≡ q = eqb-true k q is in let to : w ≡ p = cc in omega arith
    | inr isnt ↦ falls q p (sym (put_other q isnt) ∙ e)
  ]

-- to link a key further on leaves the ends
pub shortened : (f g : Links) (k p q : ℕ) → AllFall f → f k ≡ Some p → f p ≡ Some q → Puts f g k q → Shortens f g
shortened f g k p q falls is next puts =
    let less = falls k p is in
    let lower = falls p q next in
    let fall : AllFall g = put_falls f g k q puts falls (omega arith) in
    record {
      fall = fall;
      ends = unique g fall (end_of f) (record {
        stops = λ j none. elim (bool_cases (eqb k j)) [
          | inl here ↦ let there = put_there f g k q puts j here in absurd (cc)
          | inr isnt ↦ end-None f falls j (sym (put_other f g k q puts j isnt) ∙ none)
        ];
        goes = λ j r some. elim (bool_cases (eqb k j)) [
          | inl here ↦
              let there = put_there f g k q puts j here in
              let same : k ≡ j = eqb-true k j here in
              let to : q ≡ r = cc in
              ap (end_of f) (sym same) ∙ end-Some f falls k p is ∙ end-Some f falls p q next ∙ ap (end_of f) to
          | inr isnt ↦ end-Some f falls j r (sym (put_other f g k q puts j isnt) ∙ some)
        ];
      });
    }

-- to link a key to its end leaves the ends
pub shortened_to_end : (f g : Links) (k : ℕ) → AllFall f → end_of f k < k → Puts f g k (end_of f k) → Shortens f g
shortened_to_end f g k falls less puts =
    let fall : AllFall g = put_falls f g k (end_of f k) puts falls less in
    record {
      fall = fall;
      ends = unique g fall (end_of f) (record {
        stops = λ j none. elim (bool_cases (eqb k j)) [
          | inl here ↦ let there = put_there f g k (end_of f k) puts j here in absurd (cc)
          | inr isnt ↦ end-None f falls j (sym (put_other f g k (end_of f k) puts j isnt) ∙ none)
        ];
        goes = λ j r some. elim (bool_cases (eqb k j)) [
          | inl here ↦
              let there = put_there f g k (end_of f k) puts j here in
              let same : k ≡ j = eqb-true k j here in
              let to : end_of f k ≡ r = cc in
              ap (end_of f) (sym same) ∙ sym (end-None f falls (end_of f k) (at_end f falls k)) ∙ ap (end_of f) to
          | inr isnt ↦ end-Some f falls j r (sym (put_other f g k (end_of f k) puts j isnt) ∙ some)
        ];
      });
    }

-- after the end was found
pub shortened_at : (f f1 g : Links) (k r : ℕ) → Finds f f1 k r → r < k → Puts f1 g k r → Shortens f g
shortened_at f f1 g k r at less puts =
    let is : r ≡ end_of f1 k = at.found ∙ sym (at.shorter.ends k) in
    shortens_again f f1 g at.shorter (shortened_to_end f1 g k at.shorter.fall (subst (λ e. e < k) is less) (subst (λ e. Puts f1 g k e) is puts))

-- ---- to link one end to another

module _ (ends : ℕ → ℕ) (high low : ℕ) where
  abbrev moved : ℕ → ℕ
  moved v = cond (eqb (ends v) high) low (ends v)

  moved_high : (v : ℕ) → ends v ≡ high → moved v ≡ low
  moved_high v e = rw (eq-eqb (ends v) high e) refl

  moved_other : (v : ℕ) → eqb (ends v) high ≡ false → moved v ≡ ends v
  moved_other v e = rw e refl

  abbrev Alike : ℕ → ℕ → Type 0
  Alike u v = (ends u ≡ ends v) ⊎ (((ends u ≡ high) × (ends v ≡ low)) ⊎ ((ends u ≡ low) × (ends v ≡ high)))

  alike_forth : (u v : ℕ) → moved u ≡ moved v → Alike u v
  alike_forth u v e = elim (bool_cases (eqb (ends u) high)) [
    | inl at_u ↦ let u_is = eqb-true (ends u) high at_u in elim (bool_cases (eqb (ends v) high)) [
      | inl at_v ↦ inl (u_is ∙ sym (eqb-true (ends v) high at_v))
      | inr not_v ↦ inr (inl (u_is, sym (moved_other v not_v) ∙ sym e ∙ moved_high u u_is))
    ]
    | inr not_u ↦ elim (bool_cases (eqb (ends v) high)) [
      | inl at_v ↦ let v_is = eqb-true (ends v) high at_v in inr (inr (sym (moved_other u not_u) ∙ e ∙ moved_high v v_is, v_is))
      | inr not_v ↦ inl (sym (moved_other u not_u) ∙ e ∙ moved_other v not_v)
    ]
  ]

  moved_low : low < high → (v : ℕ) → ends v ≡ low → moved v ≡ low
  moved_low less v e = elim (bool_cases (eqb (ends v) high)) [
    | inl is ↦ moved_high v (eqb-true (ends v) high is)
    | inr isnt ↦ moved_other v isnt ∙ e
  ]

  alike_back : low < high → (u v : ℕ) → Alike u v → moved u ≡ moved v
  alike_back less u v (inl e) = ap (λ j. cond (eqb j high) low j) e
  alike_back less u v (inr (inl h)) = moved_high u h.0 ∙ sym (moved_low less v h.1)
  alike_back less u v (inr (inr h)) = moved_low less u h.0 ∙ sym (moved_high v h.1)

pub linked_ends : (f g : Links) (high low : ℕ) → AllFall f → f high ≡ None → f low ≡ None → low < high → Puts f g high low →
    AllFall g × ((k : ℕ) → end_of g k ≡ moved (end_of f) high low k)
linked_ends f g high low falls no_high no_low less puts =
    let fall : AllFall g = put_falls f g high low puts falls less in (
      fall,
      unique g fall (moved (end_of f) high low) (record {
        stops = λ j none. elim (bool_cases (eqb high j)) [
          | inl here ↦ let there = put_there f g high low puts j here in absurd (cc)
          | inr isnt ↦
              let stays : end_of f j ≡ j = end-None f falls j (sym (put_other f g high low puts j isnt) ∙ none) in
              elim (bool_cases (eqb (end_of f j) high)) [
                | inl is ↦ let same : j ≡ high = sym stays ∙ eqb-true (end_of f j) high is in let two : eqb high j ≡ true = eq-eqb high j (sym same) in absurd (cc)
                | inr not_high ↦ moved_other (end_of f) high low j not_high ∙ stays
              ]
        ];
        goes = λ j r some. elim (bool_cases (eqb high j)) [
          | inl here ↦
              let there = put_there f g high low puts j here in
              let same : high ≡ j = eqb-true high j here in
              let to : low ≡ r = cc in
              let stays : end_of f high ≡ high = end-None f falls high no_high in
              let below_stays : end_of f low ≡ low = end-None f falls low no_low in
              ap (moved (end_of f) high low) (sym same) ∙ moved_high (end_of f) high low high stays ∙ sym (moved_low (end_of f) high low less low below_stays) ∙ ap (moved (end_of f) high low) to
          | inr isnt ↦ ap (λ k. cond (eqb k high) low k) (end-Some f falls j r (sym (put_other f g high low puts j isnt) ∙ some))
        ];
      }),
    )

turned : (ends : ℕ → ℕ) (i j u v : ℕ) → EndAlike ends i j u v → EndAlike ends j i u v
turned ends i j u v (inl e) = inl e
turned ends i j u v (inr (inl h)) = inr (inr h)
turned ends i j u v (inr (inr h)) = inr (inl h)

-- the end of i is linked to that of j, or the other way round
pub linked : (f g : Links) (i j : ℕ) → AllFall f → end_of f j < end_of f i → Puts f g (end_of f i) (end_of f j) → Joins f g i j
linked f g i j falls less puts =
    let is = linked_ends f g (end_of f i) (end_of f j) falls (at_end f falls i) (at_end f falls j) less puts in
    record {
      fall = is.0;
      alike = λ u v. (
        λ e. alike_forth (end_of f) (end_of f i) (end_of f j) u v (sym (is.1 u) ∙ e ∙ is.1 v),
        λ h. is.1 u ∙ alike_back (end_of f) (end_of f i) (end_of f j) less u v h ∙ sym (is.1 v),
      );
    }

pub joins_turned : (f g : Links) (i j : ℕ) → Joins f g i j → Joins f g j i
joins_turned f g i j h = record {
  fall = h.fall;
  alike = λ u v. (λ e. turned (end_of f) i j u v ((h.alike u v).0 e), λ a. (h.alike u v).1 (turned (end_of f) j i u v a));
}

-- what ends alike needs no link
pub alike_already : (f : Links) (i j : ℕ) → AllFall f → end_of f i ≡ end_of f j → Joins f f i j
alike_already f i j falls e = record { fall = falls; alike = λ u v. (λ k. inl k, λ h. back u v h) }
  where
    back : (u v : ℕ) → EndAlike (end_of f) i j u v → end_of f u ≡ end_of f v
    back u v (inl k) = k
    back u v (inr (inl h)) = h.0 ∙ e ∙ sym h.1
    back u v (inr (inr h)) = h.0 ∙ sym e ∙ sym h.1

-- joins at links with the same ends
pub joins_after : (f f' g : Links) (i j : ℕ) → Shortens f f' → Joins f' g i j → Joins f g i j
joins_after f f' g i j s h = record {
  fall = h.fall;
  alike = λ u v. (λ e. forth u v ((h.alike u v).0 e), λ a. (h.alike u v).1 (back u v a));
}
  where
    forth : (u v : ℕ) → EndAlike (end_of f') i j u v → EndAlike (end_of f) i j u v
    forth u v h = subst (λ ends. EndAlike ends i j u v) (λ t k. s.ends k t) h

    back : (u v : ℕ) → EndAlike (end_of f) i j u v → EndAlike (end_of f') i j u v
    back u v h = subst (λ ends. EndAlike ends i j u v) (λ t k. sym (s.ends k) t) h

-- the links after both ends were found, and one linked to the other
module _ (f f1 f2 g : Links) (i j ri rj : ℕ) (at_i : Finds f f1 i ri) (at_j : Finds f1 f2 j rj) where
  shorter : Shortens f f2
  shorter = shortens_again f f1 f2 at_i.shorter at_j.shorter

  is_i : ri ≡ end_of f2 i
  is_i = at_i.found ∙ sym (shorter.ends i)

  is_j : rj ≡ end_of f2 j
  is_j = at_j.found ∙ sym (at_j.shorter.ends j)

  pub joined : rj < ri → Puts f2 g ri rj → Joins f g i j
  joined less puts = joins_after f f2 g i j shorter (linked f2 g i j shorter.fall (subst (λ k. end_of f2 j < k) is_i (subst (λ k. k < ri) is_j less)) (subst (λ k. Puts f2 g k (end_of f2 j)) is_i (subst (λ k. Puts f2 g ri k) is_j puts)))

  pub joined_other : ri < rj → Puts f2 g rj ri → Joins f g i j
  joined_other less puts = joins_after f f2 g i j shorter (joins_turned f2 g j i (linked f2 g j i shorter.fall (subst (λ k. end_of f2 i < k) is_j (subst (λ k. k < rj) is_i less)) (subst (λ k. Puts f2 g k (end_of f2 i)) is_j (subst (λ k. Puts f2 g rj k) is_i puts))))

  pub joined_already : ri ≡ rj → Joins f f2 i j
  joined_already e = joins_after f f2 f2 i j shorter (alike_already f2 i j shorter.fall (sym is_i ∙ e ∙ is_j))
