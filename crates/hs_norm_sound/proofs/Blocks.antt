-- A block that is checked without a fault uses what is declared.
use Rattle.std.proofs.Common.{◌≡◌, ℕ, ◌<◌, ◌≤◌, ◌^◌, Bool, true, false, nat_eq, nat_le, nat_lt, List, [], ◌∷◌, ◌++◌, length, map, Option, Some, None, slice_get, sum_by, if◌then◌else◌, refl, sym, ap, ◌∙◌, subst, arith}
use Rattle.std.specs.List.{flat_map, AllZip, Contains}
use Rattle.std.specs.Str.{bytes_eq}
use Rattle.std.proofs.lemmas.Bool.Decides.{nat_tests}
use Rattle.std.proofs.lemmas.Slice.Eq.{bytes_eq-Decides}
use Rattle.hs_tree.specs.declared.ident.Ident.{Ident}
use Rattle.hs_tree.specs.declared.expr.PartTree.{PartTree}
use Rattle.hs_tree.specs.declared.expr.PartTree.TheVariants as part
use Rattle.hs_tree.specs.declared.expr.ExprTree.{ExprTree}
use Rattle.hs_tree.specs.declared.expr.ExprKind.{ExprKind}
use Rattle.hs_tree.specs.declared.expr.ExprKind.TheVariants as expr
use Rattle.hs_tree.specs.declared.method.TypeTree.{TypeTree}
use Rattle.hs_tree.specs.declared.method.TypeTree.TheVariants as tree
use Rattle.hs_tree.specs.declared.method.CallTree.{CallTree}
use Rattle.hs_tree.specs.declared.method.ValueTree.{ValueTree}
use Rattle.hs_tree.specs.declared.method.ValueTree.TheVariants as value_of
use Rattle.hs_tree.specs.declared.method.CondTree.{CondTree, CondTree-F, map-CondTree, roll-CondTree, ind-CondTree, fold-roll-CondTree}
use Rattle.hs_tree.specs.declared.method.TestTree.{TestTree, TestTree-F, map-TestTree, roll-TestTree, fold-roll-TestTree}
use Rattle.hs_tree.specs.declared.method.TestKind.{TestKind, fold-TestKind, map-TestKind, roll-TestKind, fold-roll-TestKind}
use Rattle.hs_tree.specs.declared.method.TestKind.TheOpen.{TestKind-F}
use Rattle.hs_tree.specs.declared.method.BlockTree.{BlockTree, BlockTree-F, map-BlockTree, roll-BlockTree, ind-BlockTree, fold-roll-BlockTree}
use Rattle.hs_tree.specs.declared.method.StatementTree.{StatementTree, StatementTree-F, map-StatementTree, roll-StatementTree, fold-roll-StatementTree}
use Rattle.hs_tree.specs.declared.method.StatementKind.{StatementKind, fold-StatementKind, map-StatementKind, roll-StatementKind, fold-roll-StatementKind}
use Rattle.hs_tree.specs.declared.method.StatementKind.TheOpen.{StatementKind-F}
use Rattle.hs_numbering.specs.declared.fault.Problem.TheVariants.{Unknown, Kind, Shape, Arity}
use Rattle.hs_numbering.specs.Names.{is_upper}
use Rattle.hs_numbering.specs.Numbering.{◌>>◌, pure}
use Rattle.hs_norm_formula.specs.declared.table.Entry.{Entry}
use Rattle.hs_norm_formula.specs.Table.{entry}
use Rattle.hs_norm_formula.specs.Formula.{blame_arity}
use Rattle.hs_norm_formula.specs.Sum.{blame_kind}
use Rattle.hs_declared.specs.declared.declarations.Declarations.{Declarations}
use Rattle.hs_declared.specs.Names.{place, item_at}
use Rattle.hs_declared.specs.Types.{undeclared, as_node, type_by}
use Rattle.hs_norm_block.specs.Program.{Check, all, kind_locals, statement_locals, locals, is_before, part_weight, blame_heavy, call_by, node_by, optional, use_name, use_part, sum, expression_by, expression, call, value, test_kind, test, condition, local_type, statement_kind, statement, block}
use Rattle.hs_norm_sound.specs.Uses.{Use, Name, Call, New, Number, part_uses, names_in, number_uses, call_uses, value_uses, optional_uses, test_kind_uses, condition_uses, test_uses, statement_kind_uses, statement_uses, block_uses}
use Rattle.hs_norm_sound.specs.Uses as uses
use Rattle.hs_norm_sound.proofs.Passing.{Passes, nothing_passes, blame_passes, both_pass, all_pass, each_passes, no_more}
use Rattle.hs_norm_sound.proofs.Found.{found_at, get_contains, some_eq}

below : (m n : ℕ) → nat_lt m n ≡ true → m < n
below m n h = grind (arith, nat_tests)

up_to : (m n : ℕ) → nat_le m n ≡ true → m ≤ n
up_to m n h = grind (arith, nat_tests)

pub equal : (m n : ℕ) → nat_eq m n ≡ true → m ≡ n
equal m n h = grind (arith, nat_tests)

-- the name that is found first
pub named : (names : List Ident) (x : Ident) (y : Ident) → item_at names (place x.text names) ≡ Some y → Contains names y × (y.text ≡ x.text)
named names x y e = of (place x.text names) refl e
  where
    of : (o : Option ℕ) → place x.text names ≡ o → item_at names o ≡ Some y → Contains names y × (y.text ≡ x.text)
    of None p h = cc
    of (Some j) p h =
        let f = found_at (λ z. bytes_eq x.text z.text) names 0 j p in
        let at : j ≡ f.place = f.is ∙ omega arith in
        let is : f.item ≡ y = some_eq f.item y (sym f.got ∙ ap (slice_get names) (sym at) ∙ h) in
        let same : x.text ≡ f.item.text = (bytes_eq-Decides x.text f.item.text).0 f.passes in
        (get_contains names j y h, sym (same ∙ ap (λ z. z.text) is))

-- a check in a source with these declarations, in a method with these names, where F holds of what passes
module _ (d : Declarations) (names : List Ident) (F : Use → Type 0)
    (name_holds : (x y : Ident) → Contains names y → y.text ≡ x.text → y.at < x.at → F (Name x))
    (call_holds : (c : CallTree) (count : ℕ) → item_at d.counts (place c.name.text d.methods) ≡ Some count → count ≡ length c.args → F (Call c))
    (new_holds : (x : Ident) (count : ℕ) (found : ℕ × Entry) → as_node (entry x.text d.table) ≡ Some found → length found.1.kinds ≡ count → F (New x count))
    (int_holds : (at : ℕ) → F (uses.Kind (tree.Int at)))
    (kind_holds : (x : Ident) (found : ℕ × Entry) → as_node (entry x.text d.table) ≡ Some found → F (uses.Kind (tree.Named x)))
    (number_holds : (e : ExprTree) (parts : List (Bool × PartTree)) → e.kind ≡ expr.Sum parts → sum_by part_weight parts ≤ 2 ^ 126 → F (Number e)) where
  -- ---- names and expressions

  known : (x : Ident) → is_before x.at (item_at names (place x.text names)) ≡ true → F (Name x)
  known x e = of (item_at names (place x.text names)) refl e
    where
      of : (o : Option Ident) → item_at names (place x.text names) ≡ o → is_before x.at o ≡ true → F (Name x)
      of None p h = cc
      of (Some y) p h = let n = named names x y p in name_holds x y n.0 n.1 (below y.at x.at h)

  name_passes : (x : Ident) → Passes F (use_name d names x) (Name x ∷ [])
  name_passes x = of (is_before x.at (item_at names (place x.text names))) refl
    where
      of : (b : Bool) → is_before x.at (item_at names (place x.text names)) ≡ b → Passes F (if b then pure tt else undeclared x) (Name x ∷ [])
      of true e = λ n h. (h, (known x e, tt))
      of false e = blame_passes F x.at (Unknown x.text) (Name x ∷ [])

  part_passes : (p : Bool × PartTree) → Passes F (use_part d names p) (part_uses p)
  part_passes p = of p.1
    where
      of : (t : PartTree) → Passes F (use_part d names (p.0, t)) (part_uses (p.0, t))
      of (part.Number m) = nothing_passes F
      of (part.Times m x) = name_passes x
      of (part.Name x) = name_passes x
      of part.Null = nothing_passes F

  sum_passes : (e : ExprTree) (parts : List (Bool × PartTree)) → e.kind ≡ expr.Sum parts → Passes F (sum d names e.at parts) (Number e ∷ names_in (expr.Sum parts))
  sum_passes e parts is = of (nat_le (sum_by part_weight parts) (2 ^ 126)) refl
    where
      of : (b : Bool) → nat_le (sum_by part_weight parts) (2 ^ 126) ≡ b → Passes F (all (use_part d names) parts >> blame_heavy e.at b) (Number e ∷ flat_map part_uses parts)
      of true h = λ n clear.
          let passed = all_pass F (use_part d names) part_uses parts parts (each_passes F (use_part d names) part_uses part_passes parts) n clear in
          (passed.0, (number_holds e parts is (up_to (sum_by part_weight parts) (2 ^ 126) h), passed.1))
      of false h = λ n clear. absurd (blame_passes {X = Unit {0}} (λ _. ⊥) e.at Shape (tt ∷ []) (all (use_part d names) parts n).1 clear).1.0

  number_passes : (e : ExprTree) → Passes F (expression d names e) (number_uses e)
  number_passes e = of e.kind refl
    where
      of : (k : ExprKind) → e.kind ≡ k → Passes F (expression_by d names k e.at) (Number e ∷ names_in k)
      of (expr.Sum parts) is = sum_passes e parts is
      of k is = blame_passes F e.at Kind (Number e ∷ names_in k)

  numbers_pass : (es : List ExprTree) → Passes F (all (expression d names) es) (flat_map number_uses es)
  numbers_pass es = all_pass F (expression d names) number_uses es es (each_passes F (expression d names) number_uses number_passes es)

  -- ---- calls and values

  call_passes : (c : CallTree) → Passes F (call d names c) (call_uses c)
  call_passes c = both_pass F (call_by c (item_at d.counts (place c.name.text d.methods))) (all (expression d names) c.args) (Call c ∷ []) (flat_map number_uses c.args)
      (of (item_at d.counts (place c.name.text d.methods)) refl) (numbers_pass c.args)
    where
      arity : (count : ℕ) → item_at d.counts (place c.name.text d.methods) ≡ Some count → (b : Bool) → nat_eq count (length c.args) ≡ b → Passes F (blame_arity c.name.at b) (Call c ∷ [])
      arity count p true h = λ n clear. (clear, (call_holds c count p (equal count (length c.args) h), tt))
      arity count p false h = blame_passes F c.name.at Arity (Call c ∷ [])

      of : (o : Option ℕ) → item_at d.counts (place c.name.text d.methods) ≡ o → Passes F (call_by c o) (Call c ∷ [])
      of None p = blame_passes F c.name.at (Unknown c.name.text) (Call c ∷ [])
      of (Some count) p = arity count p (nat_eq count (length c.args)) refl

  new_passes : (at : ℕ) (x : Ident) (count : ℕ) → Passes F (node_by at x count (as_node (entry x.text d.table))) (New x count ∷ [])
  new_passes at x count = of (as_node (entry x.text d.table)) refl
    where
      arity : (found : ℕ × Entry) → as_node (entry x.text d.table) ≡ Some found → (b : Bool) → nat_eq (length found.1.kinds) count ≡ b → Passes F (blame_arity at b) (New x count ∷ [])
      arity found p true h = λ n clear. (clear, (new_holds x count found p (equal (length found.1.kinds) count h), tt))
      arity found p false h = blame_passes F at Arity (New x count ∷ [])

      of : (o : Option (ℕ × Entry)) → as_node (entry x.text d.table) ≡ o → Passes F (node_by at x count o) (New x count ∷ [])
      of None p = blame_passes F x.at (Unknown x.text) (New x count ∷ [])
      of (Some found) p = arity found p (nat_eq (length found.1.kinds) count) refl

  value_passes : (v : ValueTree) → Passes F (value d names v) (value_uses v)
  value_passes (value_of.New at x args) = both_pass F (node_by at x (length args) (as_node (entry x.text d.table))) (all (expression d names) args) (New x (length args) ∷ []) (flat_map number_uses args)
      (new_passes at x (length args)) (numbers_pass args)
  value_passes (value_of.Call c) = call_passes c
  value_passes (value_of.Load x f) = name_passes x
  value_passes (value_of.Value e) = number_passes e

  optional_passes : {A : Type 0} (f : A → Check) (g : A → List Use) → ((a : A) → Passes F (f a) (g a)) → (o : Option A) → Passes F (optional f o) (optional_uses g o)
  optional_passes f g h None = nothing_passes F
  optional_passes f g h (Some a) = h a

  type_passes : (t : TypeTree) → Passes F (local_type d names t) (uses.Kind t ∷ [])
  type_passes (tree.Int at) = λ n clear. (clear, (int_holds at, tt))
  type_passes (tree.Named x) = of (as_node (entry x.text d.table)) refl
    where
      of : (o : Option (ℕ × Entry)) → as_node (entry x.text d.table) ≡ o → Passes F (type_by x o >> pure tt) (uses.Kind (tree.Named x) ∷ [])
      of None p = blame_passes F x.at (Unknown x.text) (uses.Kind (tree.Named x) ∷ [])
      of (Some found) p = λ n clear. (clear, (kind_holds x found p, tt))

  -- ---- conditions

  abbrev Fits : Check × List Use → Type 0
  Fits b = Passes F b.0 b.1

  abbrev cond_level : CondTree-F Check Check Check → Check
  cond_level c = all (all (λ t. t)) c.cases

  abbrev cond_uses_level : CondTree-F (List Use) (List Use) (List Use) → List Use
  cond_uses_level c = flat_map (flat_map (λ t. t)) c.cases

  abbrev test_level : TestTree-F Check Check Check → Check
  test_level t = t.kind

  abbrev test_uses_level : TestTree-F (List Use) (List Use) (List Use) → List Use
  test_uses_level t = t.kind

  abbrev kind_check : TestKind → Check
  kind_check = fold-TestKind Check Check Check (test_kind d names) cond_level test_level

  abbrev kind_uses : TestKind → List Use
  kind_uses = fold-TestKind (List Use) (List Use) (List Use) test_kind_uses cond_uses_level test_uses_level

  abbrev PK : TestKind → Type 0
  PK k = Passes F (kind_check k) (kind_uses k)

  abbrev PC : CondTree → Type 0
  PC c = Passes F (condition d names c) (condition_uses c)

  abbrev PT : TestTree → Type 0
  PT t = Passes F (test d names t) (test_uses t)

  abbrev K : Type 0
  K = (k : TestKind) × PK k

  abbrev C : Type 0
  C = (c : CondTree) × PC c

  abbrev T : Type 0
  T = (t : TestTree) × PT t

  test_kind_passes : (k : TestKind-F K C T) → Passes F
      (test_kind d names (map-TestKind TestKind CondTree TestTree Check Check Check kind_check (condition d names) (test d names) (map-TestKind K C T TestKind CondTree TestTree (λ e. e.0) (λ e. e.0) (λ e. e.0) k)))
      (test_kind_uses (map-TestKind TestKind CondTree TestTree (List Use) (List Use) (List Use) kind_uses condition_uses test_uses (map-TestKind K C T TestKind CondTree TestTree (λ e. e.0) (λ e. e.0) (λ e. e.0) k)))
  test_kind_passes (TestKind-F.Not t) = t.1
  test_kind_passes (TestKind-F.Group c) = c.1
  test_kind_passes (TestKind-F.Rel r a b) = both_pass F (expression d names a) (expression d names b) (number_uses a) (number_uses b) (number_passes a) (number_passes b)

  tests_zip : (ts : List T) → AllZip (λ c us. Passes F c us) (map (test d names) (map (λ e. e.0) ts)) (map test_uses (map (λ e. e.0) ts))
  tests_zip [] = tt
  tests_zip (t ∷ ts) = (t.1, tests_zip ts)

  cases_zip : (cs : List (List T)) → AllZip (λ c us. Passes F (all (λ t. t) c) (flat_map (λ t. t) us)) (map (map (test d names)) (map (map (λ e. e.0)) cs)) (map (map test_uses) (map (map (λ e. e.0)) cs))
  cases_zip [] = tt
  cases_zip (c ∷ cs) = (all_pass F (λ t. t) (λ t. t) (map (test d names) (map (λ e. e.0) c)) (map test_uses (map (λ e. e.0) c)) (tests_zip c), cases_zip cs)

  all_test_kinds : (x : TestKind-F TestKind CondTree TestTree) (y : TestKind-F K C T) → map-TestKind K C T TestKind CondTree TestTree (λ e. e.0) (λ e. e.0) (λ e. e.0) y ≡ x → PK (roll-TestKind x)
  all_test_kinds x y is = subst Fits (λ i. (sym (fold-roll-TestKind Check Check Check (test_kind d names) cond_level test_level x) i, sym (fold-roll-TestKind (List Use) (List Use) (List Use) test_kind_uses cond_uses_level test_uses_level x) i))
      (subst (λ z. Passes F (test_kind d names (map-TestKind TestKind CondTree TestTree Check Check Check kind_check (condition d names) (test d names) z)) (test_kind_uses (map-TestKind TestKind CondTree TestTree (List Use) (List Use) (List Use) kind_uses condition_uses test_uses z))) is (test_kind_passes y))

  all_conditions : (x : CondTree-F TestKind CondTree TestTree) (y : CondTree-F K C T) → map-CondTree K C T TestKind CondTree TestTree (λ e. e.0) (λ e. e.0) (λ e. e.0) y ≡ x → PC (roll-CondTree x)
  all_conditions x y is = subst Fits (λ i. (sym (fold-roll-CondTree Check Check Check (test_kind d names) cond_level test_level x) i, sym (fold-roll-CondTree (List Use) (List Use) (List Use) test_kind_uses cond_uses_level test_uses_level x) i))
      (subst (λ z. Passes F (cond_level (map-CondTree TestKind CondTree TestTree Check Check Check kind_check (condition d names) (test d names) z)) (cond_uses_level (map-CondTree TestKind CondTree TestTree (List Use) (List Use) (List Use) kind_uses condition_uses test_uses z))) is
      (all_pass F (all (λ t. t)) (flat_map (λ t. t)) (map (map (test d names)) (map (map (λ e. e.0)) y.cases)) (map (map test_uses) (map (map (λ e. e.0)) y.cases)) (cases_zip y.cases)))

  all_tests : (x : TestTree-F TestKind CondTree TestTree) (y : TestTree-F K C T) → map-TestTree K C T TestKind CondTree TestTree (λ e. e.0) (λ e. e.0) (λ e. e.0) y ≡ x → PT (roll-TestTree x)
  all_tests x y is = subst Fits (λ i. (sym (fold-roll-TestTree Check Check Check (test_kind d names) cond_level test_level x) i, sym (fold-roll-TestTree (List Use) (List Use) (List Use) test_kind_uses cond_uses_level test_uses_level x) i))
      (subst (λ z. Passes F (test_level (map-TestTree TestKind CondTree TestTree Check Check Check kind_check (condition d names) (test d names) z)) (test_uses_level (map-TestTree TestKind CondTree TestTree (List Use) (List Use) (List Use) kind_uses condition_uses test_uses z))) is y.kind.1)

  condition_passes : (c : CondTree) → PC c
  condition_passes = ind-CondTree PK PC PT all_test_kinds all_conditions all_tests

  -- ---- statements

  abbrev G : Ident → Type 0
  G x = is_upper x.text ≡ false

  -- what a statement uses is declared, and its locals are of numbers
  abbrev Both : Check × (List Use × List Ident) → Type 0
  Both b = Passes F b.0 b.1.0 × Passes G b.0 b.1.1

  abbrev block_level : BlockTree-F Check Check Check → Check
  block_level b = all (λ s. s) b.statements

  abbrev block_uses_level : BlockTree-F (List Use) (List Use) (List Use) → List Use
  block_uses_level b = flat_map (λ s. s) b.statements

  abbrev block_locals_level : BlockTree-F (List Ident) (List Ident) (List Ident) → List Ident
  block_locals_level b = flat_map (λ xs. xs) b.statements

  abbrev statement_level : {A : Type 0} → StatementTree-F A A A → A
  statement_level s = s.kind

  abbrev made_check : StatementKind → Check
  made_check = fold-StatementKind Check Check Check (statement_kind d names) block_level statement_level

  abbrev made_uses : StatementKind → List Use
  made_uses = fold-StatementKind (List Use) (List Use) (List Use) statement_kind_uses block_uses_level statement_level

  abbrev made_locals : StatementKind → List Ident
  made_locals = fold-StatementKind (List Ident) (List Ident) (List Ident) kind_locals block_locals_level statement_level

  abbrev QK : StatementKind → Type 0
  QK k = Both (made_check k, (made_uses k, made_locals k))

  abbrev QB : BlockTree → Type 0
  QB b = Both (block d names b, (block_uses b, locals b))

  abbrev QS : StatementTree → Type 0
  QS s = Both (statement d names s, (statement_uses s, statement_locals s))

  abbrev L : Type 0
  L = (k : StatementKind) × QK k

  abbrev B : Type 0
  B = (b : BlockTree) × QB b

  abbrev S : Type 0
  S = (s : StatementTree) × QS s

  abbrev bare_kind : StatementKind-F L B S → StatementKind-F StatementKind BlockTree StatementTree
  bare_kind = map-StatementKind L B S StatementKind BlockTree StatementTree (λ e. e.0) (λ e. e.0) (λ e. e.0)

  abbrev kind_all : StatementKind-F StatementKind BlockTree StatementTree → Check × (List Use × List Ident)
  kind_all z = (
    statement_kind d names (map-StatementKind StatementKind BlockTree StatementTree Check Check Check made_check (block d names) (statement d names) z),
    (
      statement_kind_uses (map-StatementKind StatementKind BlockTree StatementTree (List Use) (List Use) (List Use) made_uses block_uses statement_uses z),
      kind_locals (map-StatementKind StatementKind BlockTree StatementTree (List Ident) (List Ident) (List Ident) made_locals locals statement_locals z),
    ),
  )

  lower_passes : (x : Ident) → Passes G (blame_kind x.at (is_upper x.text)) (x ∷ [])
  lower_passes x = of (is_upper x.text) refl
    where
      of : (b : Bool) → is_upper x.text ≡ b → Passes G (blame_kind x.at b) (x ∷ [])
      of true e = blame_passes G x.at Kind (x ∷ [])
      of false e = λ n clear. (clear, (e, tt))

  only : (c : Check) (us : List Use) → Passes F c us → Both (c, (us, []))
  only c us h = (h, no_more F G c us h)

  local_passes : (t : TypeTree) (x : Ident) (v : Option ValueTree) → Both (local_type d names t >> blame_kind x.at (is_upper x.text) >> optional (value d names) v, (uses.Kind t ∷ optional_uses value_uses v, x ∷ []))
  local_passes t x v =
      let typed = type_passes t in
      let given = optional_passes (value d names) value_uses value_passes v in (
        both_pass F (local_type d names t >> blame_kind x.at (is_upper x.text)) (optional (value d names) v) (uses.Kind t ∷ []) (optional_uses value_uses v)
            (both_pass F (local_type d names t) (blame_kind x.at (is_upper x.text)) (uses.Kind t ∷ []) [] typed (no_more G F (blame_kind x.at (is_upper x.text)) (x ∷ []) (lower_passes x))) given,
        both_pass G (local_type d names t >> blame_kind x.at (is_upper x.text)) (optional (value d names) v) (x ∷ []) []
            (both_pass G (local_type d names t) (blame_kind x.at (is_upper x.text)) [] (x ∷ []) (no_more F G (local_type d names t) (uses.Kind t ∷ []) typed) (lower_passes x))
            (no_more F G (optional (value d names) v) (optional_uses value_uses v) given),
      )

  branch_passes : (c : CondTree) (body : B) (other : Option B) → Both (kind_all (bare_kind (StatementKind-F.Branch c body other)))
  branch_passes c body None = (
    both_pass F (condition d names c >> block d names body.0) (pure tt) (condition_uses c ++ block_uses body.0) [] (both_pass F (condition d names c) (block d names body.0) (condition_uses c) (block_uses body.0) (condition_passes c) body.1.0) (nothing_passes F),
    both_pass G (condition d names c >> block d names body.0) (pure tt) (locals body.0) [] (both_pass G (condition d names c) (block d names body.0) [] (locals body.0) (no_more F G (condition d names c) (condition_uses c) (condition_passes c)) body.1.1) (nothing_passes G),
  )
  branch_passes c body (Some b) = (
    both_pass F (condition d names c >> block d names body.0) (block d names b.0) (condition_uses c ++ block_uses body.0) (block_uses b.0) (both_pass F (condition d names c) (block d names body.0) (condition_uses c) (block_uses body.0) (condition_passes c) body.1.0) b.1.0,
    both_pass G (condition d names c >> block d names body.0) (block d names b.0) (locals body.0) (locals b.0) (both_pass G (condition d names c) (block d names body.0) [] (locals body.0) (no_more F G (condition d names c) (condition_uses c) (condition_passes c)) body.1.1) b.1.1,
  )

  kind_passes : (k : StatementKind-F L B S) → Both (kind_all (bare_kind k))
  kind_passes (StatementKind-F.Local t x v) = local_passes t x v
  kind_passes (StatementKind-F.Assign x v) = only (use_name d names x >> value d names v) (Name x ∷ value_uses v) (both_pass F (use_name d names x) (value d names v) (Name x ∷ []) (value_uses v) (name_passes x) (value_passes v))
  kind_passes (StatementKind-F.Store x f e) = only (use_name d names x >> expression d names e) (Name x ∷ number_uses e) (both_pass F (use_name d names x) (expression d names e) (Name x ∷ []) (number_uses e) (name_passes x) (number_passes e))
  kind_passes (StatementKind-F.Call c) = only (call d names c) (call_uses c) (call_passes c)
  kind_passes (StatementKind-F.Branch c body other) = branch_passes c body other
  kind_passes (StatementKind-F.Return e) = only (optional (expression d names) e) (optional_uses number_uses e) (optional_passes (expression d names) number_uses number_passes e)

  uses_zip : (ss : List S) → AllZip (λ c us. Passes F c us) (map (statement d names) (map (λ e. e.0) ss)) (map statement_uses (map (λ e. e.0) ss))
  uses_zip [] = tt
  uses_zip (s ∷ ss) = (s.1.0, uses_zip ss)

  locals_zip : (ss : List S) → AllZip (λ c us. Passes G c us) (map (statement d names) (map (λ e. e.0) ss)) (map statement_locals (map (λ e. e.0) ss))
  locals_zip [] = tt
  locals_zip (s ∷ ss) = (s.1.1, locals_zip ss)

  all_kinds : (x : StatementKind-F StatementKind BlockTree StatementTree) (y : StatementKind-F L B S) → bare_kind y ≡ x → QK (roll-StatementKind x)
  all_kinds x y is = subst Both (λ i. (
    sym (fold-roll-StatementKind Check Check Check (statement_kind d names) block_level statement_level x) i,
    (
      sym (fold-roll-StatementKind (List Use) (List Use) (List Use) statement_kind_uses block_uses_level statement_level x) i,
      sym (fold-roll-StatementKind (List Ident) (List Ident) (List Ident) kind_locals block_locals_level statement_level x) i,
    ),
  ))
      (subst (λ z. Both (kind_all z)) is (kind_passes y))

  all_blocks : (x : BlockTree-F StatementKind BlockTree StatementTree) (y : BlockTree-F L B S) → map-BlockTree L B S StatementKind BlockTree StatementTree (λ e. e.0) (λ e. e.0) (λ e. e.0) y ≡ x → QB (roll-BlockTree x)
  all_blocks x y is = subst Both (λ i. (
    sym (fold-roll-BlockTree Check Check Check (statement_kind d names) block_level statement_level x) i,
    (
      sym (fold-roll-BlockTree (List Use) (List Use) (List Use) statement_kind_uses block_uses_level statement_level x) i,
      sym (fold-roll-BlockTree (List Ident) (List Ident) (List Ident) kind_locals block_locals_level statement_level x) i,
    ),
  ))
      (subst (λ z. Both (
        block_level (map-BlockTree StatementKind BlockTree StatementTree Check Check Check made_check (block d names) (statement d names) z),
        (
          block_uses_level (map-BlockTree StatementKind BlockTree StatementTree (List Use) (List Use) (List Use) made_uses block_uses statement_uses z),
          block_locals_level (map-BlockTree StatementKind BlockTree StatementTree (List Ident) (List Ident) (List Ident) made_locals locals statement_locals z),
        ),
      )) is (
        all_pass F (λ s. s) (λ s. s) (map (statement d names) (map (λ e. e.0) y.statements)) (map statement_uses (map (λ e. e.0) y.statements)) (uses_zip y.statements),
        all_pass G (λ s. s) (λ s. s) (map (statement d names) (map (λ e. e.0) y.statements)) (map statement_locals (map (λ e. e.0) y.statements)) (locals_zip y.statements),
      ))

  all_statements : (x : StatementTree-F StatementKind BlockTree StatementTree) (y : StatementTree-F L B S) → map-StatementTree L B S StatementKind BlockTree StatementTree (λ e. e.0) (λ e. e.0) (λ e. e.0) y ≡ x → QS (roll-StatementTree x)
  all_statements x y is = subst Both (λ i. (
    sym (fold-roll-StatementTree Check Check Check (statement_kind d names) block_level statement_level x) i,
    (
      sym (fold-roll-StatementTree (List Use) (List Use) (List Use) statement_kind_uses block_uses_level statement_level x) i,
      sym (fold-roll-StatementTree (List Ident) (List Ident) (List Ident) kind_locals block_locals_level statement_level x) i,
    ),
  ))
      (subst (λ z. Both (
        statement_level (map-StatementTree StatementKind BlockTree StatementTree Check Check Check made_check (block d names) (statement d names) z),
        (
          statement_level (map-StatementTree StatementKind BlockTree StatementTree (List Use) (List Use) (List Use) made_uses block_uses statement_uses z),
          statement_level (map-StatementTree StatementKind BlockTree StatementTree (List Ident) (List Ident) (List Ident) made_locals locals statement_locals z),
        ),
      )) is y.kind.1)

  pub block_passes : (b : BlockTree) → Both (block d names b, (block_uses b, locals b))
  block_passes = ind-BlockTree QK QB QS all_kinds all_blocks all_statements
