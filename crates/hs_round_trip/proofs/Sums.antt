-- Printed sums are read as trees that write them.
use Rattle.std.proofs.Common.{◌≡◌, ℕ, suc, ◌≤◌, ◌^◌, ℤ, pos, negsuc, Bool, true, false, not, ◌&&◌, nat_eq, nat_le, List, [], ◌∷◌, ◌++◌, None, refl, sym, ap, ◌∙◌, subst, arith, append_assoc, append-nil, if◌then◌else◌}
use Rattle.std.specs.Prelude.{IsTrue, codes, unsigned_abs}
use Rattle.std.specs.Fmt.{decimal}
use Rattle.std.specs.Ordering.{int_eq}
use Rattle.std.proofs.lemmas.Bool.{and_parts, eqb-true}
use Rattle.std.proofs.lemmas.Bool.Decides.{nat_tests}
use Rattle.hs_lex.specs.declared.token.Sign.TheVariants as sign
use Rattle.hs_lex.specs.declared.token.TokenKind.TheVariants as kinds
use Rattle.hs_tree.specs.declared.ident.Ident.{Ident}
use Rattle.hs_tree.specs.declared.expr.PartTree.{PartTree}
use Rattle.hs_tree.specs.declared.expr.PartTree.TheVariants as part
use Rattle.hs_tree.specs.declared.expr.ExprTree.{ExprTree}
use Rattle.hs_tree.specs.declared.expr.ExprKind.TheVariants as kind
use Rattle.hs_words.specs.declared.word.Word.TheVariants as word_kind
use Rattle.hs_words.specs.Input.{Input, next, next_word, place}
use Rattle.hs_words.specs.Grammar.{IsSign, Repeated, none, another}
use Rattle.hs_read_pure.specs.Expr.{ident, begins_var}
use Rattle.hs_read_pure.specs.Grammar as grammar
use Rattle.hs_pure.specs.declared.var.Var.{Var}
use Rattle.hs_pure.specs.declared.lin.Lin.{Lin}
use Rattle.hs_print.specs.Variable.{numbered_text}
use Rattle.hs_print.specs.Linear.{magnitude_text, later_sign, first_term, later_terms, later_constant, sum_text, linear_text}
use Rattle.hs_written.specs.Writable.{has_number, is_small, terms_fit, sum_fits}
use Rattle.hs_written.specs.Written as written
use Rattle.hs_round_trip.proofs.Pieces.{gap, word, Stands, done, past_gap, past_word}
use Rattle.hs_round_trip.proofs.Segments.{anything, is_end, is_start, Prints, Then, then_prints, as_prints, raw, retext}
use Rattle.hs_round_trip.proofs.Tokens.{sign_spells, minus_at, number_spells, number_start, variable_spells, variable_word, variable_start}

-- ---- what a reader takes

-- the variable by its number
abbrev pub NameAt : Var → Input → Input → Type 0
NameAt v i j = (x : Ident) × (written.Names v x × (grammar.IsName x i j × grammar.IsVar x i j))

abbrev pub PartAt : Var → ℕ → Input → Input → Type 0
PartAt v n i j = (p : PartTree) × (written.IsTimes v n p × grammar.IsPart p i j)

-- the first term with its sign
pub data FirstPart : Bool → PartTree → Input → Input → Type 0 where
  plain : {p : PartTree} {i j : Input} → grammar.IsPart p i j → FirstPart false p i j
  negative : {p : PartTree} {i j : Input} → IsSign sign.Minus i → grammar.IsPart p (next i) j → FirstPart true p i j

pub record FirstAt (t : Var × ℤ) (i j : Input) : Type 0 where
  pub minus : Bool
  pub size : ℕ
  pub part : PartTree
  pub amount : t.1 ≡ written.signed minus size
  pub times : written.IsTimes t.0 size part
  pub first : FirstPart minus part i j

-- the later parts
pub record RestAt (ts : List (Var × ℤ)) (c : ℤ) (i j : Input) : Type 0 where
  pub parts : List (Bool × PartTree)
  pub right : written.AreParts ts c parts
  pub read : Repeated grammar.IsSigned parts i j

abbrev pub SumAt : ℕ → Lin → Input → Input → Type 0
SumAt n a i j = (e : ExprTree) × (grammar.IsExpr n e i j × written.IsSum a e)

module _ (top : ℕ) (tall : 2 ^ 126 ≤ top) where
  -- ---- names and numbers

  name_of : (v : Var) → IsTrue (has_number v) → (i j : Input) → Stands (word kinds.Name (numbered_text v) ∷ []) i j → NameAt v i j
  name_of v h i j (past_word w e done) =
      let is : next_word i ≡ word_kind.Name = w ∙ variable_word v h in
      (ident i, (e, (grammar.named is, grammar.var (ap begins_var is))))

  pub name_prints : (v : Var) → IsTrue (has_number v) → Prints top is_end (numbered_text v) (NameAt v)
  name_prints v h = record {
    pieces = word kinds.Name (numbered_text v) ∷ [];
    is = append-nil (numbered_text v);
    fits = λ rest ends. (variable_spells top v rest h ends, tt);
    reads = name_of v h;
  }

  abbrev NumberAt : ℕ → Input → Input → Type 0
  NumberAt n i j = grammar.IsPart (part.Number n) i j

  pub number_stands : (n : ℕ) → n ≤ 2 ^ 126 → Prints top is_end (decimal n) (Stands (word (kinds.Number n) (decimal n) ∷ []))
  number_stands n small = record {
    pieces = word (kinds.Number n) (decimal n) ∷ [];
    is = append-nil (decimal n);
    fits = λ rest ends. (number_spells top n rest small (omega (arith, tall)) ends, tt);
    reads = λ i j s. s;
  }

  number_of : (n : ℕ) (i j : Input) → Stands (word (kinds.Number n) (decimal n) ∷ []) i j → NumberAt n i j
  number_of n i j (past_word w e done) = grammar.number w

  number_prints : (n : ℕ) → n ≤ 2 ^ 126 → Prints top is_end (decimal n) (NumberAt n)
  number_prints n small = as_prints top is_end (decimal n) (Stands (word (kinds.Number n) (decimal n) ∷ [])) (NumberAt n) (number_stands n small) (number_of n)

  -- ---- terms

  star : Prints top anything (codes "*") (Stands (word (kinds.Sign sign.Star) (codes "*") ∷ []))
  star = raw top anything (word (kinds.Sign sign.Star) (codes "*") ∷ []) (λ rest h. (sign_spells top sign.Star rest refl, tt))

  times_of : (v : Var) (n : ℕ) (i j : Input) → Then (Stands (word (kinds.Number n) (decimal n) ∷ [])) (Then (Stands (word (kinds.Sign sign.Star) (codes "*") ∷ [])) (NameAt v)) i j → PartAt v n i j
  times_of v n i j (k, (past_word w e done, (l, (past_word x f done, y)))) = (part.Times n y.0, (written.times y.1.0, grammar.times w x y.1.1.1))

  magnitude : (v : Var) (n : ℕ) (b : Bool) → nat_eq n 1 ≡ b → IsTrue (has_number v) → n ≤ 2 ^ 126
      → Prints top is_end (if b then numbered_text v else decimal n ++ (codes "*" ++ numbered_text v)) (PartAt v n)
  magnitude v n true e h small = as_prints top is_end (numbered_text v) (NameAt v) (PartAt v n) (name_prints v h) (λ i j y. (part.Name y.0, (written.once (one e) y.1.0, grammar.variable y.1.1.1)))
    where
      one : nat_eq n 1 ≡ true → n ≡ 1
      one e = grind (arith, nat_tests)
  magnitude v n false e h small = as_prints top is_end (decimal n ++ (codes "*" ++ numbered_text v)) _ (PartAt v n)
      (then_prints top is_end is_end (decimal n) (codes "*" ++ numbered_text v) _ _ (number_stands n small)
      (then_prints top anything is_end (codes "*") (numbered_text v) _ _ star (name_prints v h) (λ rest ends. refl)) (λ rest ends. refl))
      (times_of v n)

  minus : Prints top is_start (codes "-") (Stands (word (kinds.Sign sign.Minus) (codes "-") ∷ []))
  minus = raw top is_start (word (kinds.Sign sign.Minus) (codes "-") ∷ []) (λ rest h. (sign_spells top sign.Minus rest (minus_at rest h), tt))

  magnitude_start : (v : Var) (n : ℕ) (rest : List ℕ) → n ≤ 2 ^ 126 → IsTrue (is_start (magnitude_text None v n ++ rest))
  magnitude_start v n rest small = of (nat_eq n 1)
    where
      of : (b : Bool) → IsTrue (is_start ((if b then numbered_text v else decimal n ++ (codes "*" ++ numbered_text v)) ++ rest))
      of true = variable_start v rest
      of false = subst (λ (l : List ℕ). IsTrue (is_start l)) (sym (append_assoc (decimal n) (codes "*" ++ numbered_text v) rest)) (number_start n ((codes "*" ++ numbered_text v) ++ rest) small)

  pos_small : (n : ℕ) → IsTrue (is_small (pos n)) → n ≤ 2 ^ 126
  pos_small n h = grind (arith, nat_tests)

  neg_small : (n : ℕ) → IsTrue (is_small (negsuc n)) → suc n ≤ 2 ^ 126
  neg_small n h = grind (arith, nat_tests)

  first_prints : (v : Var) (c : ℤ) → IsTrue (has_number v) → IsTrue (is_small c) → Prints top is_end (first_term None (v, c)) (FirstAt (v, c))
  first_prints v (pos n) h small = as_prints top is_end (magnitude_text None v n) (PartAt v n) (FirstAt (v, pos n)) (magnitude v n (nat_eq n 1) refl h (pos_small n small))
      (λ i j y. record { minus = false; size = n; part = y.0; amount = refl; times = y.1.0; first = plain y.1.1 })
  first_prints v (negsuc n) h small = as_prints top is_end (codes "-" ++ magnitude_text None v (suc n)) _ (FirstAt (v, negsuc n))
      (then_prints top is_start is_end (codes "-") (magnitude_text None v (suc n)) _ _ minus (magnitude v (suc n) (nat_eq (suc n) 1) refl h (neg_small n small))
      (λ rest ends. magnitude_start v (suc n) rest (neg_small n small)))
      negated
    where
      negated : (i j : Input) → Then (Stands (word (kinds.Sign sign.Minus) (codes "-") ∷ [])) (PartAt v (suc n)) i j → FirstAt (v, negsuc n) i j
      negated i j (k, (past_word w e done, y)) = record { minus = true; size = suc n; part = y.0; amount = refl; times = y.1.0; first = negative w y.1.1 }

  -- ---- what follows the first term

  plus_gap : Prints top anything (codes " + ") (Stands (gap ∷ word (kinds.Sign sign.Plus) (codes "+") ∷ gap ∷ []))
  plus_gap = raw top anything (gap ∷ word (kinds.Sign sign.Plus) (codes "+") ∷ gap ∷ []) (λ rest h. (sign_spells top sign.Plus (32 ∷ rest) refl, tt))

  minus_gap : Prints top anything (codes " - ") (Stands (gap ∷ word (kinds.Sign sign.Minus) (codes "-") ∷ gap ∷ []))
  minus_gap = raw top anything (gap ∷ word (kinds.Sign sign.Minus) (codes "-") ∷ gap ∷ []) (λ rest h. (sign_spells top sign.Minus (32 ∷ rest) refl, tt))

  -- the sign of a later part stands there
  abbrev LaterSign : ℤ → Input → Input → Type 0
  LaterSign (pos n) = Stands (gap ∷ word (kinds.Sign sign.Plus) (codes "+") ∷ gap ∷ [])
  LaterSign (negsuc n) = Stands (gap ∷ word (kinds.Sign sign.Minus) (codes "-") ∷ gap ∷ [])

  later_sign_prints : (c : ℤ) → Prints top anything (later_sign c) (LaterSign c)
  later_sign_prints (pos n) = plus_gap
  later_sign_prints (negsuc n) = minus_gap

  record Signed (c : ℤ) (size : ℕ) (p : PartTree) (i j : Input) : Type 0 where
    is_minus : Bool
    amount : c ≡ written.signed is_minus size
    read : grammar.IsSigned (is_minus, p) i j

  signed_part : (c : ℤ) (p : PartTree) (i j k : Input) → LaterSign c i j → grammar.IsPart p j k → Signed c (unsigned_abs c) p i k
  signed_part (pos n) p i j k (past_gap (past_word w e (past_gap done))) is = record { is_minus = false; amount = refl; read = grammar.added w is }
  signed_part (negsuc n) p i j k (past_gap (past_word w e (past_gap done))) is = record { is_minus = true; amount = refl; read = grammar.taken w is }

  ends_sign : (c : ℤ) (t rest : List ℕ) → IsTrue (is_end ((later_sign c ++ t) ++ rest))
  ends_sign (pos n) t rest = refl
  ends_sign (negsuc n) t rest = refl

  ends_constant : (c : ℤ) (rest : List ℕ) → IsTrue (is_end rest) → IsTrue (is_end (later_constant c ++ rest))
  ends_constant c rest ends = of (nat_eq (unsigned_abs c) 0)
    where
      of : (b : Bool) → IsTrue (is_end ((if b then [] else later_sign c ++ decimal (unsigned_abs c)) ++ rest))
      of true = ends
      of false = ends_sign c (decimal (unsigned_abs c)) rest

  ends_later : (ts : List (Var × ℤ)) (c : ℤ) (rest : List ℕ) → IsTrue (is_end rest) → IsTrue (is_end ((later_terms None ts ++ later_constant c) ++ rest))
  ends_later [] c rest ends = ends_constant c rest ends
  ends_later (t ∷ ts) c rest ends = subst (λ (l : List ℕ). IsTrue (is_end l)) (sym (append_assoc (later_terms None (t ∷ ts)) (later_constant c) rest))
      (ends_sign t.1 (magnitude_text None t.0 (unsigned_abs t.1) ++ later_terms None ts) (later_constant c ++ rest))

  abs_small : (c : ℤ) → IsTrue (is_small c) → unsigned_abs c ≤ 2 ^ 126
  abs_small c h = grind (arith, nat_tests)

  zero_abs : (c : ℤ) → nat_eq (unsigned_abs c) 0 ≡ true → c ≡ pos 0
  zero_abs (pos n) e = ap pos (eqb-true n 0 e)
  zero_abs (negsuc n) e = absurd (omega (arith, eqb-true (suc n) 0 e))

  no_text : (E : List ℕ → Bool) → Prints top E [] (Stands [])
  no_text E = raw top E [] (λ rest h. tt)

  constant_prints : (c : ℤ) (b : Bool) → nat_eq (unsigned_abs c) 0 ≡ b → IsTrue (is_small c)
      → Prints top is_end (if b then [] else later_sign c ++ decimal (unsigned_abs c)) (RestAt [] c)
  constant_prints c true e small = as_prints top is_end [] (Stands []) (RestAt [] c) (no_text is_end) nothing
    where
      nothing : (i j : Input) → Stands [] i j → RestAt [] c i j
      nothing i j done = record { parts = []; right = written.nothing (zero_abs c e); read = none }
  constant_prints c false e small = as_prints top is_end (later_sign c ++ decimal (unsigned_abs c)) _ (RestAt [] c)
      (then_prints top anything is_end (later_sign c) (decimal (unsigned_abs c)) _ _ (later_sign_prints c) (number_prints (unsigned_abs c) (abs_small c small)) (λ rest ends. refl))
      (λ i j y. let s = signed_part c (part.Number (unsigned_abs c)) i y.0 j y.1.0 y.1.1 in
      record { parts = (s.is_minus, part.Number (unsigned_abs c)) ∷ []; right = written.constant s.amount; read = another s.read none })

  term_fits : (n : ℕ) (t : Var × ℤ) (ts : List (Var × ℤ)) → IsTrue (terms_fit n (t ∷ ts)) → IsTrue (has_number t.0) × IsTrue (is_small t.1) × IsTrue (terms_fit (suc t.0.number) ts)
  term_fits n t ts h =
      let both = and_parts (nat_le n t.0.number && (not t.0.bag && has_number t.0)) ((not (int_eq t.1 (pos 0)) && is_small t.1) && terms_fit (suc t.0.number) ts) h in
      let name = and_parts (nat_le n t.0.number) (not t.0.bag && has_number t.0) both.0 in
      let rest = and_parts (not (int_eq t.1 (pos 0)) && is_small t.1) (terms_fit (suc t.0.number) ts) both.1 in
      ((and_parts (not t.0.bag) (has_number t.0) name.1).1, (and_parts (not (int_eq t.1 (pos 0))) (is_small t.1) rest.0).1, rest.1)

  rest_prints : (n : ℕ) (ts : List (Var × ℤ)) (c : ℤ) → IsTrue (terms_fit n ts) → IsTrue (is_small c) → Prints top is_end (later_terms None ts ++ later_constant c) (RestAt ts c)
  rest_prints n [] c fits small = constant_prints c (nat_eq (unsigned_abs c) 0) refl small
  rest_prints n (t ∷ ts) c fits small =
      let of = term_fits n t ts fits in
      let size : ℕ = unsigned_abs t.1 in
      let mag : List ℕ = magnitude_text None t.0 size in
      let more : List ℕ = later_terms None ts ++ later_constant c in
      retext top is_end (later_sign t.1 ++ (mag ++ more)) (later_terms None (t ∷ ts) ++ later_constant c) (RestAt (t ∷ ts) c)
      (sym (append_assoc (later_sign t.1) (mag ++ later_terms None ts) (later_constant c) ∙ ap (λ l. later_sign t.1 ++ l) (append_assoc mag (later_terms None ts) (later_constant c))))
      (as_prints top is_end (later_sign t.1 ++ (mag ++ more)) _ (RestAt (t ∷ ts) c)
      (then_prints top anything is_end (later_sign t.1) (mag ++ more) _ _ (later_sign_prints t.1)
      (then_prints top is_end is_end mag more _ _ (magnitude t.0 size (nat_eq size 1) refl of.0 (abs_small t.1 of.1)) (rest_prints (suc t.0.number) ts c of.2 small)
      (λ rest ends. ends_later ts c rest ends)) (λ rest ends. refl))
      (λ i j y. let part = y.1.1.1.0 in
      let others = y.1.1.1.1 in
      let s = signed_part t.1 part.0 i y.0 y.1.1.0 y.1.0 part.1.1 in
      record { parts = (s.is_minus, part.0) ∷ others.parts; right = written.term s.amount part.1.0 others.right; read = another s.read others.read }))

  -- ---- whole sums

  abbrev PartsAt : List (Var × ℤ) → ℤ → Input → Input → Type 0
  PartsAt ts c i j = (ps : List (Bool × PartTree)) × (grammar.IsSum ps i j × written.AreParts ts c ps)

  first_and_rest : (t : Var × ℤ) (ts : List (Var × ℤ)) (c : ℤ) (i j k : Input) (f : FirstAt t i j) (r : RestAt ts c j k) → PartsAt (t ∷ ts) c i k
  first_and_rest t ts c i j k f r = ((f.minus, f.part) ∷ r.parts, (both f.first, written.term f.amount f.times r.right))
    where
      both : {m : Bool} {p : PartTree} → FirstPart m p i j → grammar.IsSum ((m, p) ∷ r.parts) i k
      both (plain is) = grammar.plain is r.read
      both (negative w is) = grammar.negative w is r.read

  parts_print : (ts : List (Var × ℤ)) (c : ℤ) → IsTrue (terms_fit 0 ts) → IsTrue (is_small c) → Prints top is_end (sum_text None ts c) (PartsAt ts c)
  parts_print [] (pos n) fits small = as_prints top is_end (decimal n) (NumberAt n) (PartsAt [] (pos n)) (number_prints n (pos_small n small))
      (λ i j is. ((false, part.Number n) ∷ [], (grammar.plain is none, written.constant refl)))
  parts_print [] (negsuc n) fits small = as_prints top is_end (codes "-" ++ decimal (suc n)) _ (PartsAt [] (negsuc n))
      (then_prints top is_start is_end (codes "-") (decimal (suc n)) _ _ minus (number_prints (suc n) (neg_small n small)) (λ rest ends. number_start (suc n) rest (neg_small n small)))
      negated
    where
      negated : (i j : Input) → Then (Stands (word (kinds.Sign sign.Minus) (codes "-") ∷ [])) (NumberAt (suc n)) i j → PartsAt [] (negsuc n) i j
      negated i j (k, (past_word w e done, is)) = ((true, part.Number (suc n)) ∷ [], (grammar.negative w is none, written.constant refl))
  parts_print (t ∷ ts) c fits small =
      let of = term_fits 0 t ts fits in
      as_prints top is_end (first_term None t ++ (later_terms None ts ++ later_constant c)) _ (PartsAt (t ∷ ts) c)
      (then_prints top is_end is_end (first_term None t) (later_terms None ts ++ later_constant c) _ _ (first_prints t.0 t.1 of.0 of.1) (rest_prints (suc t.0.number) ts c of.2 small)
      (λ rest ends. ends_later ts c rest ends))
      (λ i j y. first_and_rest t ts c i y.0 j y.1.0 y.1.1)

  pub sum_prints : (n : ℕ) (a : Lin) → IsTrue (sum_fits a) → Prints top is_end (linear_text None a) (SumAt n a)
  sum_prints n a h =
      let parts = and_parts (terms_fit 0 a.terms) (is_small a.constant) h in
      as_prints top is_end (linear_text None a) (PartsAt a.terms a.constant) (SumAt n a) (parts_print a.terms a.constant parts.0 parts.1)
      (λ i j y. (record { kind = kind.Sum y.0; at = place i }, (grammar.expr (grammar.sum y.1.0), written.sum y.1.1)))
