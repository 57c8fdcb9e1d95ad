-- The classes that links have after each conjunct.
use Rattle.std.proofs.Common.{◌≡◌, ℕ, ◌+◌, ◌*◌, Bool, true, false, if◌then◌else◌, inl, inr, List, [], ◌∷◌, ◌++◌, Option, Some, None, Result, Ok, Err, OnOk, refl, sym, ap, ◌∙◌, subst, arith}
use Rattle.std.specs.List.{Contains}
use Rattle.std.specs.Option.{option_map_or}
use Rattle.std.proofs.lemmas.List.Elements.{Contains-append_left, Contains-push, Contains-push_cases}
use Rattle.hs_pure.specs.declared.var.Var.{Var}
use Rattle.hs_pure.specs.declared.pure.Pure.{Pure}
use Rattle.hs_pure.specs.Equated.{equated, equation}
use Rattle.hs_pure.proofs.Equating.{equated_is}
use Rattle.hs_goal.specs.Classes.{SameClass, itself, given, turned, through}
use Rattle.hs_goal.specs.Links.{Links, AllFall, end_of, EndAlike, Shortens, Joins}
use Rattle.hs_goal.specs.Keys.{key, HaveClasses}
use Rattle.hs_goal.proofs.Ends.{end-None}

-- ---- keys

same_key : (m n : ℕ) (a b : Bool) → 2 * m + (if a then 1 else 0) ≡ 2 * n + (if b then 1 else 0) → (m ≡ n) × (a ≡ b)
same_key m n true true e = (omega arith, refl)
same_key m n true false e = absurd (omega arith)
same_key m n false true e = absurd (omega arith)
same_key m n false false e = (omega arith, refl)

key_is : (a b : Var) → key a ≡ key b → a ≡ b
key_is a b e = let s = same_key a.number b.number a.bag b.bag e in λ i. record { number = s.0 i; bag = s.1 i }

-- ---- classes

none_joined : {a b : Var} → SameClass [] a b → a ≡ b
none_joined itself = refl
none_joined (given i) = let less = i.1 in absurd (omega arith)
none_joined (turned c) = sym (none_joined c)
none_joined (through c d) = none_joined c ∙ none_joined d

wider : (ps qs : List Pure) {u v : Var} → SameClass ps u v → SameClass (ps ++ qs) u v
wider ps qs itself = itself
wider ps qs (given {a = a} {b = b} i) = given (Contains-append_left ps qs (equation a b) i)
wider ps qs (turned c) = turned (wider ps qs c)
wider ps qs (through c d) = through (wider ps qs c) (wider ps qs d)

-- without links each variable stands alone
pub no_links : (f : Links) → ((k : ℕ) → f k ≡ None) → HaveClasses [] f
no_links f none =
    let fall : AllFall f = λ k p e. let c = none k in absurd (cc) in
    record {
      fall = fall;
      joined = λ a b. (
        λ e. subst (λ v. SameClass [] a v) (key_is a b (sym (end-None f fall (key a) (none (key a))) ∙ e ∙ end-None f fall (key b) (none (key b)))) itself,
        λ c. ap (λ v. end_of f (key v)) (none_joined c),
      );
    }

pub shorter_links : (ps : List Pure) (f g : Links) → HaveClasses ps f → Shortens f g → HaveClasses ps g
shorter_links ps f g h s = record {
  fall = s.fall;
  joined = λ a b. (
    λ e. (h.joined a b).0 (sym (s.ends (key a)) ∙ e ∙ s.ends (key b)),
    λ c. s.ends (key a) ∙ (h.joined a b).1 c ∙ sym (s.ends (key b)),
  );
}

pub on_ok : {A E P Q : Type 0} (r : Result A E) → (P → Q) → OnOk r P → OnOk r Q
on_ok (Ok x) f h = f h
on_ok (Err e) f h = h

none_some : {A : Type 0} (x : A) → Some x ≡ None → ⊥
none_some x e = cc

module _ (ps : List Pure) (p : Pure) where
  abbrev more : List Pure
  more = ps ++ p ∷ []

  -- a conjunct that equates nothing joins nothing
  joins_none : equated p ≡ None → {u v : Var} → SameClass more u v → SameClass ps u v
  joins_none e itself = itself
  joins_none e (given {a = a} {b = b} i) = elim (Contains-push_cases ps p (equation a b) i) [
    | inl before ↦ given before
    | inr last ↦ absurd (none_some {A = Var × Var} (a, b) (sym ((equated_is p a b).1 last) ∙ e))
  ]
  joins_none e (turned c) = turned (joins_none e c)
  joins_none e (through c d) = through (joins_none e c) (joins_none e d)

  pub none_more : (f : Links) → HaveClasses ps f → equated p ≡ None → HaveClasses more f
  none_more f h e = record {
    fall = h.fall;
    joined = λ a b. (λ k. wider ps (p ∷ []) ((h.joined a b).0 k), λ c. (h.joined a b).1 (joins_none e c));
  }

  module _ (f g : Links) (x y : Var) (h : HaveClasses ps f) (is : equated p ≡ Some (x, y)) (j : Joins f g (key x) (key y)) where
    new_link : SameClass more x y
    new_link = given (subst (λ q. Contains more q) ((equated_is p x y).0 is) (Contains-push ps p))

    old : (a b : Var) → end_of f (key a) ≡ end_of f (key b) → SameClass more a b
    old a b e = wider ps (p ∷ []) ((h.joined a b).0 e)

    forth : (a b : Var) → EndAlike (end_of f) (key x) (key y) (key a) (key b) → SameClass more a b
    forth a b (inl e) = old a b e
    forth a b (inr (inl e)) = through (old a x e.0) (through new_link (turned (old b y e.1)))
    forth a b (inr (inr e)) = through (old a y e.0) (through (turned new_link) (turned (old b x e.1)))

    abbrev ends : Var → ℕ
    ends v = end_of g (key v)

    same_pair : (a b : Var) → ◌≡◌ {A = Option (Var × Var)} (Some (x, y)) (Some (a, b)) → ends a ≡ ends b
    same_pair a b e =
        let first : x ≡ a = ap (λ o. option_map_or (λ (q : Var × Var). q.0) o x) e in
        let second : y ≡ b = ap (λ o. option_map_or (λ (q : Var × Var). q.1) o y) e in
        ap ends (sym first) ∙ (j.alike (key x) (key y)).1 (inr (inl (refl, refl))) ∙ ap ends second

    back : {a b : Var} → SameClass more a b → ends a ≡ ends b
    back itself = refl
    back (given {a = a} {b = b} i) = elim (Contains-push_cases ps p (equation a b) i) [
      | inl before ↦ (j.alike (key a) (key b)).1 (inl ((h.joined a b).1 (given before)))
      | inr last ↦ same_pair a b (sym is ∙ (equated_is p a b).1 last)
    ]
    back (turned c) = sym (back c)
    back (through c d) = back c ∙ back d

    pub one_more : HaveClasses more g
    one_more = record { fall = j.fall; joined = λ a b. (λ e. forth a b ((j.alike (key a) (key b)).0 e), back) }
