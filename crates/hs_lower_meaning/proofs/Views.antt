-- What is defined by levels over blocks, at each statement.
use Rattle.std.proofs.Common.{◌≡◌, ℕ, List, map, Option, Some, None, sym, ap, ◌∙◌}
use Rattle.hs_tree.specs.declared.ident.Ident.{Ident}
use Rattle.hs_tree.specs.declared.expr.ExprTree.{ExprTree}
use Rattle.hs_tree.specs.declared.method.TypeTree.{TypeTree}
use Rattle.hs_tree.specs.declared.method.CondTree.{CondTree}
use Rattle.hs_tree.specs.declared.method.CallTree.{CallTree}
use Rattle.hs_tree.specs.declared.method.ValueTree.{ValueTree}
use Rattle.hs_tree.specs.declared.method.BlockTree.{BlockTree, BlockTree-F, roll-BlockTree, fold-BlockTree, fold-roll-BlockTree}
use Rattle.hs_tree.specs.declared.method.StatementTree.{StatementTree, StatementTree-F, fold-StatementTree, fold-roll-StatementTree}
use Rattle.hs_tree.specs.declared.method.StatementKind.{StatementKind, fold-StatementKind, fold-roll-StatementKind}
use Rattle.hs_tree.specs.declared.method.StatementKind.TheOpen.{StatementKind-F}
use Rattle.hs_tree.specs.declared.method.StatementKind.TheVariants as kind

module _ {A : Type 0} (f : StatementKind-F A A A → A) (b : BlockTree-F A A A → A) (s : StatementTree-F A A A → A) where
  abbrev K : StatementKind → A
  K = fold-StatementKind A A A f b s

  abbrev B : BlockTree → A
  B = fold-BlockTree A A A f b s

  abbrev S : StatementTree → A
  S = fold-StatementTree A A A f b s

  pub fold-Local : (t : TypeTree) (x : Ident) (v : Option ValueTree) → K (kind.Local t x v) ≡ f (StatementKind-F.Local t x v)
  fold-Local t x v = ap K (sym (kind.rolls-Local t x v)) ∙ fold-roll-StatementKind A A A f b s (StatementKind-F.Local t x v)

  pub fold-Assign : (x : Ident) (v : ValueTree) → K (kind.Assign x v) ≡ f (StatementKind-F.Assign x v)
  fold-Assign x v = ap K (sym (kind.rolls-Assign x v)) ∙ fold-roll-StatementKind A A A f b s (StatementKind-F.Assign x v)

  pub fold-Store : (x g : Ident) (e : ExprTree) → K (kind.Store x g e) ≡ f (StatementKind-F.Store x g e)
  fold-Store x g e = ap K (sym (kind.rolls-Store x g e)) ∙ fold-roll-StatementKind A A A f b s (StatementKind-F.Store x g e)

  pub fold-Call : (c : CallTree) → K (kind.Call c) ≡ f (StatementKind-F.Call c)
  fold-Call c = ap K (sym (kind.rolls-Call c)) ∙ fold-roll-StatementKind A A A f b s (StatementKind-F.Call c)

  pub fold-Branch-None : (c : CondTree) (d : BlockTree) → K (kind.Branch c d None) ≡ f (StatementKind-F.Branch c (B d) None)
  fold-Branch-None c d = ap K (sym (kind.rolls-Branch c d None)) ∙ fold-roll-StatementKind A A A f b s (StatementKind-F.Branch c d None)

  pub fold-Branch-Some : (c : CondTree) (d e : BlockTree) → K (kind.Branch c d (Some e)) ≡ f (StatementKind-F.Branch c (B d) (Some (B e)))
  fold-Branch-Some c d e = ap K (sym (kind.rolls-Branch c d (Some e))) ∙ fold-roll-StatementKind A A A f b s (StatementKind-F.Branch c d (Some e))

  pub fold-Return : (e : Option ExprTree) → K (kind.Return e) ≡ f (StatementKind-F.Return e)
  fold-Return e = ap K (sym (kind.rolls-Return e)) ∙ fold-roll-StatementKind A A A f b s (StatementKind-F.Return e)

  pub fold-statement : (k : StatementKind) (at : ℕ) → S (record { kind = k; at = at }) ≡ s (record { kind = K k; at = at })
  fold-statement k at = fold-roll-StatementTree A A A f b s (record { kind = k; at = at })

  pub fold-block : (ss : List StatementTree) (at end : ℕ) → B (roll-BlockTree (record { statements = ss; at = at; end = end })) ≡ b (record { statements = map S ss; at = at; end = end })
  fold-block ss at end = fold-roll-BlockTree A A A f b s (record { statements = ss; at = at; end = end })
