-- A text has at least as many bytes as tokens, and its tokens spell at most as many items.
use Rattle.std.proofs.Common.{◌≡◌, ℕ, zero, suc, ◌+◌, ◌<◌, ◌≤◌, Bool, true, false, if◌then◌else◌, List, [], ◌∷◌, ◌++◌, length, length-append, Result, Ok, Err, refl, sym, ap, ◌∙◌, subst, arith}
use Rattle.hs_lex.specs.declared.token.Token.{Token}
use Rattle.hs_lex.specs.declared.token.TokenKind.{TokenKind}
use Rattle.hs_lex.specs.declared.token.TokenKind.TheVariants as kinds
use Rattle.hs_lex.specs.declared.token.Sign.{Sign}
use Rattle.hs_lex.specs.declared.token.Sign.TheVariants.{ColonColon, Turnstile, EqEq, NotEq, LessEq, GreaterEq, AndAnd, OrOr, Arrow, OpenBrace, CloseBrace, OpenParen, CloseParen, Less, Greater, Comma, Semicolon, Dot, Colon, Equals, Plus, Minus, Star, Amp, Bar, Bang}
use Rattle.hs_lex.specs.Tokens.{Lexes, ended, gap, token, Spells, spelling, BeginsWith, is_letter, is_digit, HasTokens}
use Rattle.hs_words.specs.declared.error.ReadError.{ReadError}
use Rattle.hs_words.specs.Input.{Input, Outcome, Parser, ◌>>=◌, and_then, pure, repeat, comes, input, whole, whole_of, only}
use Rattle.hs_words.specs.Input as words
use Rattle.hs_tree.specs.declared.source.Source.{Source}
use Rattle.hs_tree.specs.declared.source.SourceItem.{SourceItem}
use Rattle.hs_read.specs.Declare.{source, source_item, begins_item}
use Rattle.std.specs.List.{fold, filter_map}
use Rattle.std.proofs.lemmas.List.{length-map}
use Rattle.hs_tree.specs.declared.source.SourceItem.TheVariants as kind
use Rattle.hs_heap.specs.declared.definitions.PredDef.{PredDef}
use Rattle.hs_numbering.specs.declared.names.Names.{Names}
use Rattle.hs_numbering.specs.declared.numbering.Numbering.{Numbering}
use Rattle.hs_numbering.specs.declared.numbering.Reading.TheVariants.{Closed}
use Rattle.hs_numbering.specs.Numbering.{Builder, start, each_counted}
use Rattle.hs_numbering.specs.Least.{least}
use Rattle.hs_norm_formula.proofs.Answered.{outcome-Ok}
use Rattle.hs_norm.specs.declared.resolved.Resolved.{Resolved}
use Rattle.hs_declared.specs.Declaring.{entries, blame_second}
use Rattle.hs_norm.specs.Items.{data_of, pred_of, entail_of}
use Rattle.hs_norm_item.specs.Definitions.{node, pred}
use Rattle.hs_norm_item.specs.Claims.{entailment}
use Rattle.hs_norm.specs.Normal.{items_normal, normal_of}
use Rattle.hs_source.specs.Resolved.{literal_limit}

-- ---- tokens

sign_long : (s : Sign) → 0 < length (spelling s)
sign_long ColonColon = omega arith
sign_long Turnstile = omega arith
sign_long EqEq = omega arith
sign_long NotEq = omega arith
sign_long LessEq = omega arith
sign_long GreaterEq = omega arith
sign_long AndAnd = omega arith
sign_long OrOr = omega arith
sign_long Arrow = omega arith
sign_long OpenBrace = omega arith
sign_long CloseBrace = omega arith
sign_long OpenParen = omega arith
sign_long CloseParen = omega arith
sign_long Less = omega arith
sign_long Greater = omega arith
sign_long Comma = omega arith
sign_long Semicolon = omega arith
sign_long Dot = omega arith
sign_long Colon = omega arith
sign_long Equals = omega arith
sign_long Plus = omega arith
sign_long Minus = omega arith
sign_long Star = omega arith
sign_long Amp = omega arith
sign_long Bar = omega arith
sign_long Bang = omega arith

begins_long : (is_in : ℕ → Bool) (text : List ℕ) → BeginsWith is_in text → 0 < length text
begins_long is_in [] h = absurd h
begins_long is_in (b ∷ text) h = omega arith

spells_long : (top : ℕ) (kind : TokenKind) (piece rest : List ℕ) → Spells top kind piece rest → 0 < length piece
spells_long top kinds.Name piece rest s = begins_long is_letter piece s.0.first
spells_long top kinds.Hole piece rest s = subst (λ (p : List ℕ). 0 < length p) (sym s) (omega arith)
spells_long top (kinds.Number n) piece rest s = begins_long is_digit piece s.0.first
spells_long top (kinds.Sign sign) piece rest s = subst (λ (p : List ℕ). 0 < length p) (sym s.spelt) (sign_long sign)

lexes_few : (top at : ℕ) (text : List ℕ) (tokens : List Token) → Lexes top at text tokens → length tokens ≤ length text
lexes_few top at text tokens (ended a) = omega arith
lexes_few top at text tokens (gap a piece rest ts g l) = let few = lexes_few top (a + length piece) rest ts l in omega (arith, length-append piece rest)
lexes_few top at text tokens (token a kind piece rest ts s l) =
    let few = lexes_few top (a + length piece) rest ts l in let long = spells_long top kind piece rest s in omega (arith, length-append piece rest)

tokens_few : (top : ℕ) (text : List ℕ) (tokens : List Token) → HasTokens top text tokens → length tokens ≤ length text
tokens_few top text tokens h = lexes_few top 0 text tokens h.lexes

-- ---- items

module _ {A : Type 0} (goes_on : Input → Bool) (p : Parser A) where
  abbrev count : Outcome (List A) → ℕ
  count (Ok q) = length q.0
  count (Err e) = 0

  abbrev go : ℕ → List A → A → Parser (List A)
  go n found x = repeat goes_on p n (found ++ x ∷ [])

  item_few : (n : ℕ) (found : List A) (o : Outcome A) (r : List A × Input) → ((x : A) (j : Input) → go n found x j ≡ Ok r → length r.0 ≤ n + length (found ++ x ∷ []))
      → and_then o (go n found) ≡ Ok r → length r.0 ≤ suc n + length found
  item_few n found (Err x) r rest e = absurd cc
  item_few n found (Ok q) r rest e = let few = rest q.0 q.1 e in omega (arith, length-append found (q.0 ∷ []))

  turn_few : (n : ℕ) (found : List A) (i : Input) (b : Bool) (r : List A × Input) → ((x : A) (j : Input) → go n found x j ≡ Ok r → length r.0 ≤ n + length (found ++ x ∷ []))
      → (if b then (p >>= go n found) else pure found) i ≡ Ok r → length r.0 ≤ suc n + length found
  turn_few n found i true r rest e = item_few n found (p i) r rest e
  turn_few n found i false r rest e = let same : length found ≡ length r.0 = ap count e in omega arith

  repeat_few : (n : ℕ) (found : List A) (i : Input) (r : List A × Input) → repeat goes_on p n found i ≡ Ok r → length r.0 ≤ n + length found
  unfolding repeat
  repeat_few zero found i r e = let same : length found ≡ length r.0 = ap count e in omega arith
  repeat_few (suc n) found i r e = turn_few n found i (goes_on i) r (λ x j. repeat_few n (found ++ x ∷ []) j r) e

abbrev items_of : Result Source ReadError → List SourceItem
items_of (Ok t) = t.items
items_of (Err e) = []

items_few : (text : List ℕ) (tokens : List Token) (tree : Source) → whole (source 64) text tokens ≡ Ok tree → length tree.items ≤ length tokens
unfolding whole source
items_few text tokens tree e = by_items (repeat (comes begins_item) (source_item 64) (length tokens) [] (input text tokens)) refl e
  where
    by_end : (items : List SourceItem) (o : Result (Unit {0}) ReadError) → only (record { items = items }) o ≡ Ok tree → items ≡ tree.items
    by_end items (Ok u) e = ap items_of e
    by_end items (Err x) e = absurd cc

    by_items : (o : Outcome (List SourceItem)) → repeat (comes begins_item) (source_item 64) (length tokens) [] (input text tokens) ≡ o
        → whole_of (and_then o (λ items. pure (record { items = items }))) ≡ Ok tree → length tree.items ≤ length tokens
    by_items (Err x) is e = absurd cc
    by_items (Ok q) is e =
        let few = repeat_few (comes begins_item) (source_item 64) (length tokens) [] (input text tokens) q is in
        let same = by_end q.0 (words.ended q.1) e in omega (arith, ap length same)

pub few_items : (text : List ℕ) (tokens : List Token) (tree : Source) → HasTokens literal_limit text tokens
    → whole (source 64) text tokens ≡ Ok tree → length tree.items ≤ length text
few_items text tokens tree has is = let a = tokens_few literal_limit text tokens has in let b = items_few text tokens tree is in omega arith

-- ---- entailments, predicates and data types

module _ {A B : Type 0} (f : ℕ → A → Builder B) where
  counted_long : (xs : List A) (ys : List B) (n : Numbering)
      → length (fold (λ (done : List B × Numbering) x. (done.0 ++ (f (length done.0) x done.1).0 ∷ [], (f (length done.0) x done.1).1)) (ys, n) xs).0 ≡ length ys + length xs
  counted_long [] ys n = omega arith
  counted_long (x ∷ xs) ys n =
      let more = counted_long xs (ys ++ (f (length ys) x n).0 ∷ []) (f (length ys) x n).1 in omega (arith, more, length-append ys ((f (length ys) x n).0 ∷ []))

entails_few : (items : List SourceItem) → length (filter_map entail_of items) ≤ length items
entails_few [] = omega arith
entails_few (kind.Node d ∷ items) = let few = entails_few items in omega arith
entails_few (kind.Pred d ∷ items) = let few = entails_few items in omega arith
entails_few (kind.Entail d ∷ items) = let few = entails_few items in omega arith
entails_few (kind.Method d ∷ items) = let few = entails_few items in omega arith
entails_few (kind.Lemma d ∷ items) = let few = entails_few items in omega arith

preds_few : (items : List SourceItem) → length (filter_map pred_of items) ≤ length items
preds_few [] = omega arith
preds_few (kind.Node d ∷ items) = let few = preds_few items in omega arith
preds_few (kind.Pred d ∷ items) = let few = preds_few items in omega arith
preds_few (kind.Entail d ∷ items) = let few = preds_few items in omega arith
preds_few (kind.Method d ∷ items) = let few = preds_few items in omega arith
preds_few (kind.Lemma d ∷ items) = let few = preds_few items in omega arith

nodes_few : (items : List SourceItem) → length (filter_map data_of items) ≤ length items
nodes_few [] = omega arith
nodes_few (kind.Node d ∷ items) = let few = nodes_few items in omega arith
nodes_few (kind.Pred d ∷ items) = let few = nodes_few items in omega arith
nodes_few (kind.Entail d ∷ items) = let few = nodes_few items in omega arith
nodes_few (kind.Method d ∷ items) = let few = nodes_few items in omega arith
nodes_few (kind.Lemma d ∷ items) = let few = nodes_few items in omega arith

module _ (items : List SourceItem) where
  abbrev after_second : Numbering
  after_second = (blame_second items (start Closed [])).1

  abbrev after_nodes : Numbering
  after_nodes = (each_counted (node (entries items)) (filter_map data_of items) after_second).1

  -- the numbering at which the entailments are built
  abbrev after_preds : Numbering
  after_preds = (each_counted (pred (entries items)) (filter_map pred_of items) after_nodes).1

pub few_entailments : (tree : Source) (r : Resolved) → normal_of tree ≡ Ok r → length r.entailments ≤ length tree.items
few_entailments tree r e =
    let same = (outcome-Ok (least (items_normal tree.items (start Closed [])).1.faults) (items_normal tree.items (start Closed [])).0 r e).1 in
    let long = counted_long (entailment (entries tree.items)) (filter_map entail_of tree.items) [] (after_preds tree.items) in
    let few = entails_few tree.items in
    omega (arith, ap (λ (x : Resolved). length x.entailments) same, long)

-- the predicates with their names
abbrev preds_built : List SourceItem → List (PredDef × Names)
preds_built items = (each_counted (pred (entries items)) (filter_map pred_of items) (after_nodes items)).0

pub few_preds : (tree : Source) (r : Resolved) → normal_of tree ≡ Ok r → length r.defs.preds ≤ length tree.items
few_preds tree r e =
    let same = (outcome-Ok (least (items_normal tree.items (start Closed [])).1.faults) (items_normal tree.items (start Closed [])).0 r e).1 in
    let long = counted_long (pred (entries tree.items)) (filter_map pred_of tree.items) [] (after_nodes tree.items) in
    let mapped = length-map (preds_built tree.items) (λ (p : PredDef × Names). p.0) in
    let few = preds_few tree.items in
    omega (arith, ap (λ (x : Resolved). length x.defs.preds) same, long, mapped)

pub few_nodes : (tree : Source) (r : Resolved) → normal_of tree ≡ Ok r → length r.defs.nodes ≤ length tree.items
few_nodes tree r e =
    let same = (outcome-Ok (least (items_normal tree.items (start Closed [])).1.faults) (items_normal tree.items (start Closed [])).0 r e).1 in
    let long = counted_long (node (entries tree.items)) (filter_map data_of tree.items) [] (after_second tree.items) in
    let few = nodes_few tree.items in
    omega (arith, ap (λ (x : Resolved). length x.defs.nodes) same, long)

pub named_preds : (tree : Source) (r : Resolved) → normal_of tree ≡ Ok r → length r.pred_names ≡ length r.defs.preds
named_preds tree r e =
    let same = (outcome-Ok (least (items_normal tree.items (start Closed [])).1.faults) (items_normal tree.items (start Closed [])).0 r e).1 in
    sym (ap (λ (x : Resolved). length x.pred_names) same)
    ∙ (length-map (preds_built tree.items) (λ (p : PredDef × Names). p.1) ∙ sym (length-map (preds_built tree.items) (λ (p : PredDef × Names). p.0)))
    ∙ ap (λ (x : Resolved). length x.defs.preds) same
