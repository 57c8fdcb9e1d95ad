-- A fault stays.
use Rattle.std.proofs.Common.{◌≡◌, ℕ, ◌+◌, Bool, true, false, nat_eq, nat_le, not, ◌&&◌, List, [], ◌∷◌, ◌++◌, length, map, Option, Some, None, if◌then◌else◌, refl}
use mathlib.Core.Bool.{beq}
use Rattle.std.specs.List.{zip}
use Rattle.hs_tree.specs.declared.ident.Ident.{Ident}
use Rattle.hs_tree.specs.declared.expr.ExprTree.{ExprTree}
use Rattle.hs_tree.specs.declared.item.ItemTree.{ItemTree}
use Rattle.hs_tree.specs.declared.formula.DisjunctTree.{DisjunctTree}
use Rattle.hs_tree.specs.declared.formula.FormulaTree.{FormulaTree}
use Rattle.hs_tree.specs.declared.method.TypeTree.{TypeTree}
use Rattle.hs_tree.specs.declared.method.TypeTree.TheVariants as tree
use Rattle.hs_tree.specs.declared.method.ParamTree.{ParamTree}
use Rattle.hs_tree.specs.declared.method.PairSource.{PairSource}
use Rattle.hs_tree.specs.declared.source.DataTree.{DataTree}
use Rattle.hs_tree.specs.declared.source.PredTree.{PredTree}
use Rattle.hs_tree.specs.declared.source.EntailTree.{EntailTree}
use Rattle.hs_tree.specs.declared.source.LemmaTree.{LemmaTree}
use Rattle.hs_pure.specs.declared.var.Var.{Var}
use Rattle.hs_heap.specs.declared.formula.Of.{Of}
use Rattle.hs_heap.specs.declared.formula.Of.TheVariants as of
use Rattle.hs_numbering.specs.declared.fault.Limit.{Limit}
use Rattle.hs_numbering.specs.declared.fault.Limit.TheVariants.{Nodes, Fields, Preds, Params, Lemmas, Entailments, Pairs, Vars}
use Rattle.hs_numbering.specs.declared.fault.Problem.TheVariants.{Unknown, Kind, Arity, TooMany, Shape}
use Rattle.hs_numbering.specs.declared.numbering.Numbering.{Numbering}
use Rattle.hs_numbering.specs.declared.numbering.Reading.TheVariants.{Open, Closed}
use Rattle.hs_numbering.specs.Names.{is_upper}
use Rattle.hs_numbering.specs.Numbering.{◌>>◌, pure, each, blame, no_var, give, fix, start, is_numbered}
use Rattle.hs_norm_formula.specs.declared.table.Entry.{Entry}
use Rattle.hs_norm_formula.specs.Table.{entry}
use Rattle.hs_norm_formula.specs.Sum.{blame_kind}
use Rattle.hs_norm_formula.specs.Expr.{number}
use Rattle.hs_norm_formula.specs.Item.{item, conjunction}
use Rattle.hs_norm_formula.specs.Formula.{blame_arity, limit, disjunct, formula}
use Rattle.hs_norm_item.specs.Claim.{fix_self, reserve, learn_res}
use Rattle.hs_declared.specs.Declaring.{blame_repeated}
use Rattle.hs_declared.specs.Types.{as_node, type_of, type_by, optional_type}
use Rattle.hs_norm_item.specs.Definitions.{field, node, param, params, invariant, pred, blame_param_kind, lemma_pred_of, lemma_pred_by, lemma_pred, lemma}
use Rattle.hs_norm_item.specs.Claims.{entailment, variant, pair}
use Rattle.hs_norm_sound.proofs.Passing.{KeepsFaults, pure_keeps, blame_keeps, each_keeps, counted_keeps, not_pushed}
use Rattle.hs_norm_sound.proofs.Apart.{repeated_keeps}

-- what the crate below says of its parts
pub record FaultsStay : Type 0 where
  pub numbers : (e : ExprTree) → KeepsFaults (number e)
  pub conjunctions : (items : List ItemTree) → KeepsFaults (conjunction (map item items))
  pub disjuncts : (entries : List Entry) (d : DisjunctTree) → KeepsFaults (disjunct entries d)
  pub formulas : (entries : List Entry) (f : FormulaTree) → KeepsFaults (formula entries f)

-- a limit that is not passed leaves everything as it is
pub limit_same : (most : ℕ) (l : Limit) (at count : ℕ) (n : Numbering) → (limit most l at count n).1.faults ≡ [] → (limit most l at count n).1 ≡ n
limit_same most l at count n e = go (nat_eq count most && not (is_numbered n.reading)) e
  where
    go : (b : Bool) → (if b then blame at (TooMany l) n else (tt {0}, n)).1.faults ≡ [] → (if b then blame at (TooMany l) n else (tt {0}, n)).1 ≡ n
    go true e = absurd (not_pushed n.faults (record { at = at; problem = TooMany l }) e)
    go false e = refl

pub limit_keeps : (most : ℕ) (l : Limit) (at count : ℕ) → KeepsFaults (limit most l at count)
limit_keeps most l at count = λ n e. go n (nat_eq count most && not (is_numbered n.reading)) e
  where
    go : (n : Numbering) (b : Bool) → (if b then blame at (TooMany l) n else (tt {0}, n)).1.faults ≡ [] → n.faults ≡ []
    go n true e = blame_keeps at (TooMany l) n e
    go n false e = e

pub kind_keeps : (at : ℕ) (b : Bool) → KeepsFaults (blame_kind at b)
kind_keeps at true = blame_keeps at Kind
kind_keeps at false = pure_keeps (tt {0})

pub arity_keeps : (at : ℕ) (b : Bool) → KeepsFaults (blame_arity at b)
arity_keeps at true = pure_keeps (tt {0})
arity_keeps at false = blame_keeps at Arity

pub give_keeps : (name : Option (List ℕ)) (at : ℕ) (bag : Bool) → KeepsFaults (give name at bag)
give_keeps name at bag = λ n e. go n (is_numbered n.reading) (nat_le 1000 (length n.names)) e
  where
    given : Numbering → Bool → Bool → Var × Numbering
    given n s b = if s then (blame at Shape >> pure (no_var bag)) n
        else (if b then (blame at (TooMany Vars) >> pure (no_var bag)) n else (record { number = length n.names + 1; bag = bag }, record n { names = n.names ++ name ∷ [] }))

    go : (n : Numbering) (s b : Bool) → (given n s b).1.faults ≡ [] → n.faults ≡ []
    go n true b e = blame_keeps at Shape n e
    go n false true e = blame_keeps at (TooMany Vars) n e
    go n false false e = e

pub fix_keeps : (x : Ident) → KeepsFaults (fix x)
fix_keeps x = λ n e. give_keeps (Some x.text) x.at (is_upper x.text) n e

-- ---- types

pub type_keeps : (entries : List Entry) (t : TypeTree) → KeepsFaults (type_of entries t)
type_keeps entries (tree.Int at) = λ n e. e
type_keeps entries (tree.Named x) = go (as_node (entry x.text entries))
  where
    go : (o : Option (ℕ × Entry)) → KeepsFaults (type_by x o)
    go None = λ n e. blame_keeps x.at (Unknown x.text) n e
    go (Some d) = λ n e. e

pub optional_type_keeps : (entries : List Entry) (o : Option TypeTree) → KeepsFaults (optional_type entries o)
optional_type_keeps entries None = λ n e. e
optional_type_keeps entries (Some t) = λ n e. type_keeps entries t n e

-- ---- data types

pub field_keeps : (entries : List Entry) (count : ℕ) (f : ParamTree) → KeepsFaults (field entries count f)
field_keeps entries count f = λ n e. limit_keeps 16 Fields f.at count n (type_keeps entries f.kind (limit 16 Fields f.at count n).1 e)

pub node_keeps : (entries : List Entry) (count : ℕ) (d : DataTree) → KeepsFaults (node entries count d)
node_keeps entries count d = λ n e.
    let s1 = (limit 256 Nodes d.at count n).1 in
    let s2 = (blame_repeated (map (λ f. f.name) d.fields) s1).1 in
    limit_keeps 256 Nodes d.at count n (repeated_keeps (map (λ f. f.name) d.fields) 0 (map (λ f. f.name) d.fields) s1
    (counted_keeps (field entries) (field_keeps entries) d.fields s2 e))

-- ---- predicates and lemmas

pub param_keeps : (count : ℕ) (x : Ident) → KeepsFaults (param count x)
param_keeps count x = λ n e. limit_keeps 16 Params x.at count n (fix_keeps x (limit 16 Params x.at count n).1 e)

pub params_keeps : (at : ℕ) (xs : List Ident) → KeepsFaults (params at xs)
params_keeps at xs = λ n e.
    let s1 = (fix_self at n).1 in
    let s2 = (blame_repeated xs s1).1 in
    give_keeps (Some (115 ∷ 101 ∷ 108 ∷ 102 ∷ [])) at false n (repeated_keeps xs 0 xs s1 (counted_keeps param param_keeps xs s2 e))

pub param_kind_keeps : (p : Bool × Ident) → KeepsFaults (blame_param_kind p)
param_kind_keeps p = kind_keeps p.1.at (not (beq p.0 (is_upper p.1.text)))

pub lemma_pred_keeps : (entries : List Entry) (l : LemmaTree) → KeepsFaults (lemma_pred entries l)
lemma_pred_keeps entries l = go (entry l.pred.text entries)
  where
    by : (e : Entry) (o : Of) → KeepsFaults (lemma_pred_of l e o)
    by e (of.Node k) = λ n h. blame_keeps l.pred.at (Unknown l.pred.text) n h
    by e (of.Pred k) = λ n h.
        arity_keeps l.pred.at (nat_eq (length e.kinds) (length l.params)) n
        (each_keeps blame_param_kind param_kind_keeps (zip e.kinds l.params) (blame_arity l.pred.at (nat_eq (length e.kinds) (length l.params)) n).1 h)

    go : (o : Option Entry) → KeepsFaults (lemma_pred_by l o)
    go None = λ n h. blame_keeps l.pred.at (Unknown l.pred.text) n h
    go (Some e) = by e e.of

pub learn_res_keeps : (has : Bool) (at : ℕ) (v : Var) → KeepsFaults (learn_res has at v)
learn_res_keeps true at v = λ n e. e
learn_res_keeps false at v = λ n e. e

module _ (stay : FaultsStay) where
  pub invariant_keeps : (o : Option (List ItemTree)) → KeepsFaults (invariant o)
  invariant_keeps None = λ n e. e
  invariant_keeps (Some items) = stay.conjunctions items

  pub pred_keeps : (entries : List Entry) (count : ℕ) (p : PredTree) → KeepsFaults (pred entries count p)
  pred_keeps entries count p = λ n e.
      let s1 = start Closed n.faults in
      let s2 = (limit 256 Preds p.at count s1).1 in
      let s3 = (params p.at p.params s2).1 in
      let s4 = (formula entries p.body s3).1 in
      limit_keeps 256 Preds p.at count s1 (params_keeps p.at p.params s2 (stay.formulas entries p.body s3 (invariant_keeps p.inv s4 e)))

  pub lemma_keeps : (entries : List Entry) (count : ℕ) (l : LemmaTree) → KeepsFaults (lemma entries count l)
  lemma_keeps entries count l = λ n e.
      let s1 = start Closed n.faults in
      let s2 = (limit 64 Lemmas l.at count s1).1 in
      let s3 = (lemma_pred entries l s2).1 in
      let s4 = (params l.at l.params s3).1 in
      limit_keeps 64 Lemmas l.at count s1 (lemma_pred_keeps entries l s2 (params_keeps l.at l.params s3 (stay.disjuncts entries l.right s4 e)))

  pub entailment_keeps : (entries : List Entry) (count : ℕ) (c : EntailTree) → KeepsFaults (entailment entries count c)
  entailment_keeps entries count c = λ n e.
      let s1 = start Open n.faults in
      let s2 = (limit 1024 Entailments c.at count s1).1 in
      let s3 = (formula entries c.left s2).1 in
      limit_keeps 1024 Entailments c.at count s1 (stay.formulas entries c.left s2 (stay.formulas entries c.right s3 e))

  pub variant_keeps : (o : Option ExprTree) → KeepsFaults (variant o)
  variant_keeps None = λ n e. e
  variant_keeps (Some t) = λ n e. stay.numbers t n e

  pub pair_keeps : (entries : List Entry) (ps : List ParamTree) (has_result : Bool) (count : ℕ) (p : PairSource) → KeepsFaults (pair entries ps has_result count p)
  pair_keeps entries ps has_result count p = λ n e.
      let s1 = start Open n.faults in
      let s2 = (limit 16 Pairs p.at count s1).1 in
      let s3 = (each (λ q. fix q.name) ps s2).1 in
      let s4 = (reserve p.at s3).1 in
      let s5 = (formula entries p.pre s4).1 in
      let s6 = record s5 { reading = Closed } in
      let s7 = (variant p.variant s6).1 in
      let s8 = (learn_res has_result p.at (reserve p.at s3).0 s7).1 in
      limit_keeps 16 Pairs p.at count s1 (each_keeps (λ q. fix q.name) (λ q. fix_keeps q.name) ps s2
      (give_keeps (Some (114 ∷ 101 ∷ 115 ∷ [])) p.at false s3 (stay.formulas entries p.pre s4 (variant_keeps p.variant s6
      (learn_res_keeps has_result p.at (reserve p.at s3).0 s7 (stay.formulas entries p.post s8 e))))))
