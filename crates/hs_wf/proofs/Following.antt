-- One pass over links.
use Rattle.std.proofs.Common.{◌≡◌, ◌⊎◌, inl, inr, ℕ, ◌+◌, ◌<◌, ◌≤◌, Bool, true, false, ◌||◌, List, [], ◌∷◌, ◌++◌, length, refl, sym, ap, ◌∙◌, subst, arith}
use Rattle.std.proofs.lemmas.List.{length_push}
use Rattle.std.specs.List.{Contains}
use Rattle.hs_pure.specs.declared.var.Var.{Var}
use Rattle.hs_pure.specs.Stack.{same}
use Rattle.hs_pure.proofs.Vars.{same-eq, same-refl}
use Rattle.hs_wf.specs.Links.{Link, IsLed, begins, leads, Followed}
use Rattle.hs_wf.proofs.Members.{none, is_last, in_left, in_either, parted}

or_cases : (a b : Bool) → (a || b) ≡ true → (a ≡ true) ⊎ (b ≡ true)
or_cases true b e = inl refl
or_cases false b e = inr e

or_left : (a b : Bool) → a ≡ true → (a || b) ≡ true
or_left true b e = refl
or_left false b e = absurd cc

or_right : (a b : Bool) → b ≡ true → (a || b) ≡ true
or_right true b e = refl
or_right false b e = e

-- more links lead to more
pub IsLed-more : (marked : Var → Bool) (links : List Link) (l : Link) (v : Var) → IsLed marked links v → IsLed marked (links ++ l ∷ []) v
IsLed-more marked links l v (begins e) = begins e
IsLed-more marked links l w (leads {v = v} there led) = leads (in_left (v, w) links (l ∷ []) there) (IsLed-more marked links l v led)

pub follow_nothing : (old : Var → Bool) → Followed old old [] []
follow_nothing old = record {
  kept = λ v e. e;
  sound = λ v e. begins e;
  given = λ l c. c;
  waits = λ l c. inl c;
  fewer = omega arith;
  stuck = λ e l c. absurd (none l c);
}

module _ (old new more : Var → Bool) (links waiting : List Link) (l : Link) (so_far : Followed old new links waiting) where
  -- the link begins at a marked variable, and its target is marked
  pub follow_marked : new l.0 ≡ true → ((w : Var) → more w ≡ (same w l.1 || new w)) → Followed old more (links ++ l ∷ []) waiting
  follow_marked source is =
      let kept : (v : Var) → new v ≡ true → more v ≡ true = λ v e. is v ∙ or_right (same v l.1) (new v) e in
      record {
        kept = λ v e. kept v (so_far.kept v e);
        sound = λ v e. elim (or_cases (same v l.1) (new v) (sym (is v) ∙ e)) [
          | inl here ↦ subst (IsLed old (links ++ l ∷ [])) (sym (same-eq v l.1 here)) (leads (is_last l links) (IsLed-more old links l l.0 (so_far.sound l.0 source)))
          | inr before ↦ IsLed-more old links l v (so_far.sound v before)
        ];
        given = λ k c. in_left k links (l ∷ []) (so_far.given k c);
        waits = λ k c. elim (in_either k links (l ∷ []) c) [
          | inl before ↦ elim (so_far.waits k before) [ inl w ↦ inl w | inr m ↦ inr (kept k.1 m) ]
          | inr last ↦ elim (parted k l [] last) [
            | inl e ↦ inr (is k.1 ∙ or_left (same k.1 l.1) (new k.1) (subst (λ (m : Link). same k.1 m.1 ≡ true) e (same-refl k.1)))
            | inr q ↦ absurd (none k q)
          ]
        ];
        fewer = let a = so_far.fewer in let b = length_push links l in omega arith;
        stuck = λ e. let a = so_far.fewer in let b = length_push links l in absurd (omega arith);
      }

  -- the link begins at no marked variable, and waits
  pub follow_unmarked : new l.0 ≡ false → Followed old new (links ++ l ∷ []) (waiting ++ l ∷ [])
  follow_unmarked source = record {
    kept = so_far.kept;
    sound = λ v e. IsLed-more old links l v (so_far.sound v e);
    given = λ k c. elim (in_either k waiting (l ∷ []) c) [
      | inl before ↦ in_left k links (l ∷ []) (so_far.given k before)
      | inr last ↦ elim (parted k l [] last) [ inl e ↦ subst (λ m. Contains (links ++ l ∷ []) m) (sym e) (is_last l links) | inr q ↦ absurd (none k q) ]
    ];
    waits = λ k c. elim (in_either k links (l ∷ []) c) [
      | inl before ↦ elim (so_far.waits k before) [ inl w ↦ inl (in_left k waiting (l ∷ []) w) | inr m ↦ inr m ]
      | inr last ↦ elim (parted k l [] last) [ inl e ↦ inl (subst (λ m. Contains (waiting ++ l ∷ []) m) (sym e) (is_last l waiting)) | inr q ↦ absurd (none k q) ]
    ];
    fewer = let a = so_far.fewer in let b = length_push links l in let c = length_push waiting l in omega arith;
    stuck = λ same_length k c.
        let b = length_push links l in let d = length_push waiting l in
        elim (in_either k links (l ∷ []) c) [
          | inl before ↦ so_far.stuck (omega arith) k before
          | inr last ↦ elim (parted k l [] last) [ inl e ↦ subst (λ (m : Link). new m.0 ≡ false) (sym e) source | inr q ↦ absurd (none k q) ]
        ];
  }

-- what is marked after some passes, and the links that still wait
pub record Spread (first : Var → Bool) (links : List Link) (marked : Var → Bool) (waiting : List Link) : Type 0 where
  pub starts : (v : Var) → first v ≡ true → marked v ≡ true
  pub sound : (v : Var) → marked v ≡ true → IsLed first links v
  pub given : (l : Link) → Contains waiting l → Contains links l
  pub waits : (l : Link) → Contains links l → Contains waiting l ⊎ (marked l.1 ≡ true)

pub spread_start : (first : Var → Bool) (links : List Link) → Spread first links first links
spread_start first links = record { starts = λ v e. e; sound = λ v e. begins e; given = λ l c. c; waits = λ l c. inl c }

module _ (first : Var → Bool) (links : List Link) (marked : Var → Bool) (rest : List Link) (so_far : Spread first links marked rest) where
  led_further : (v : Var) → IsLed marked rest v → IsLed first links v
  led_further v (begins e) = so_far.sound v e
  led_further w (leads {v = v} there led) = leads (so_far.given (v, w) there) (led_further v led)

  pub spread_step : (new : Var → Bool) (waiting : List Link) → Followed marked new rest waiting → Spread first links new waiting
  spread_step new waiting pass = record {
    starts = λ v e. pass.kept v (so_far.starts v e);
    sound = λ v e. led_further v (pass.sound v e);
    given = λ l c. so_far.given l (pass.given l c);
    waits = λ l c. elim (so_far.waits l c) [ inl w ↦ pass.waits l w | inr m ↦ inr (pass.kept l.1 m) ];
  }

  -- a pass in which all links wait leaves nothing to be led to
  pub spread_end : (new : Var → Bool) (waiting : List Link) → Followed marked new rest waiting → length waiting ≡ length rest → (v : Var) → IsLed first links v → new v ≡ true
  spread_end new waiting pass all v (begins e) = pass.kept v (so_far.starts v e)
  spread_end new waiting pass all w (leads {v = v} there led) =
      let source = spread_end new waiting pass all v led in
      elim (so_far.waits (v, w) there) [
        | inl still ↦ let unmarked = pass.stuck all (v, w) still in absurd (cc (source, unmarked))
        | inr m ↦ pass.kept w m
      ]
