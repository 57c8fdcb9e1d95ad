-- What the links of a case lead to is what is reached.
use Rattle.std.proofs.Common.{◌≡◌, ◌↔◌, ◌⊎◌, inl, inr, Bool, true, false, List, [], ◌∷◌, ◌++◌, map, Option, Some, None, refl, sym, ap, ◌∙◌, subst, if◌then◌else◌}
use Rattle.std.specs.List.{Contains, flat_map}
use Rattle.hs_pure.specs.declared.var.Var.{Var}
use Rattle.hs_pure.specs.declared.pure.Pure.{Pure}
use Rattle.hs_pure.specs.Equated.{equated, equation}
use Rattle.hs_pure.proofs.Equating.{equated_is}
use Rattle.hs_heap.specs.declared.formula.Atom.{Atom}
use Rattle.hs_heap.specs.declared.formula.Disjunct.{Disjunct}
use Rattle.hs_heap.specs.Meaning.{is_in}
use Rattle.hs_wf.specs.Founded.{is_node, IsReached, named, argument, equal, equated as by_equation}
use Rattle.hs_wf.specs.Links.{Link, IsLed, begins, leads, links_to, atom_links, pair_links, equation_links, case_links}
use Rattle.hs_wf.proofs.Members.{none, here, later, parted, in_left, in_right, in_either, in_flat_map, from_flat_map, in_map, from_map, listed, stands}

module _ (names : List Var) (d : Disjunct) where
  -- what a link of an atom leads to
  from_atom : (a : Atom) (v w : Var) → Contains d.atoms a → Contains (atom_links a) (v, w) → IsReached names d v → IsReached names d w
  from_atom a v w there link reached = go (is_node a.of) refl
    where
      go : (b : Bool) → is_node a.of ≡ b → IsReached names d w
      go true is =
          let inside : Contains (links_to a.root a.args) (v, w) = subst (λ b. Contains (if b then links_to a.root a.args else []) (v, w)) is link in
          let (u, arg, e) = from_map (λ u. (a.root, u)) (v, w) a.args inside in
          let root : a.root ≡ v = ap (λ (l : Link). l.0) e in
          let target : u ≡ w = ap (λ (l : Link). l.1) e in
          argument a there is (subst (IsReached names d) (sym root) reached) (subst (λ x. Contains a.args x) target arg)
      go false isnt =
          let inside : Contains [] (v, w) = subst (λ b. Contains (if b then links_to a.root a.args else []) (v, w)) isnt link in
          absurd (none (v, w) inside)

  from_conjunct : (p : Pure) (v w : Var) → Contains d.pure p → Contains (equation_links p) (v, w) → IsReached names d v → IsReached names d w
  from_conjunct p v w there link reached = go (equated p) refl
    where
      go : (o : Option Link) → equated p ≡ o → IsReached names d w
      go None is = absurd (none (v, w) (subst (λ o. Contains (pair_links o) (v, w)) is link))
      go (Some e) is =
          let inside : Contains ((e.0, e.1) ∷ (e.1, e.0) ∷ []) (v, w) = subst (λ o. Contains (pair_links o) (v, w)) is link in
          let stated : Contains d.pure (equation e.0 e.1) = subst (λ q. Contains d.pure q) ((equated_is p e.0 e.1).0 is) there in
          elim (parted (v, w) (e.0, e.1) ((e.1, e.0) ∷ []) inside) [
            | inl same ↦
                let source : v ≡ e.0 = ap (λ (l : Link). l.0) same in
                let target : w ≡ e.1 = ap (λ (l : Link). l.1) same in
                subst (IsReached names d) (sym target) (by_equation e.0 stated (subst (IsReached names d) source reached))
            | inr rest ↦ elim (parted (v, w) (e.1, e.0) [] rest) [
              | inl same ↦
                  let source : v ≡ e.1 = ap (λ (l : Link). l.0) same in
                  let target : w ≡ e.0 = ap (λ (l : Link). l.1) same in
                  subst (IsReached names d) (sym target) (equal e.1 stated (subst (IsReached names d) source reached))
              | inr nowhere ↦ absurd (none (v, w) nowhere)
            ]
          ]

  from_links : (v : Var) → IsLed (λ w. is_in w names) (case_links d) v → IsReached names d v
  from_links v (begins e) = named (stands v names e)
  from_links w (leads {v = v} link led) =
      let reached = from_links v led in
      elim (in_either (v, w) (flat_map atom_links d.atoms) (flat_map equation_links d.pure) link) [
        | inl l ↦ let (a, there, one) = from_flat_map atom_links (v, w) d.atoms l in from_atom a v w there one reached
        | inr r ↦ let (p, there, one) = from_flat_map equation_links (v, w) d.pure r in from_conjunct p v w there one reached
      ]

  by_pure : (p : Pure) (l : Link) → Contains d.pure p → Contains (equation_links p) l → Contains (case_links d) l
  by_pure p l there one = in_right l (flat_map atom_links d.atoms) (flat_map equation_links d.pure) (in_flat_map equation_links l p d.pure there one)

  equation_link : (u v : Var) (l : Link) → Contains ((u, v) ∷ (v, u) ∷ []) l → Contains (equation_links (equation u v)) l
  equation_link u v l c = subst (λ o. Contains (pair_links o) l) (sym ((equated_is (equation u v) u v).1 refl)) c

  to_links : (v : Var) → IsReached names d v → IsLed (λ w. is_in w names) (case_links d) v
  to_links v (named c) = begins (listed v names c)
  to_links v (argument a there is reached arg) =
      let inside : Contains (links_to a.root a.args) (a.root, v) = in_map (λ u. (a.root, u)) v a.args arg in
      let link : Contains (atom_links a) (a.root, v) = subst (λ b. Contains (if b then links_to a.root a.args else []) (a.root, v)) (sym is) inside in
      leads {v = a.root} (in_left (a.root, v) (flat_map atom_links d.atoms) (flat_map equation_links d.pure) (in_flat_map atom_links (a.root, v) a d.atoms there link)) (to_links a.root reached)
  to_links v (equal w there reached) =
      leads {v = w} (by_pure (equation v w) (w, v) there (equation_link v w (w, v) (later (w, v) (v, w) ((w, v) ∷ []) (here (w, v) [])))) (to_links w reached)
  to_links v (by_equation w there reached) =
      leads {v = w} (by_pure (equation w v) (w, v) there (equation_link w v (w, v) (here (w, v) ((v, w) ∷ [])))) (to_links w reached)

  pub led_is_reached : (v : Var) → IsLed (λ w. is_in w names) (case_links d) v ↔ IsReached names d v
  led_is_reached v = (from_links v, to_links v)
