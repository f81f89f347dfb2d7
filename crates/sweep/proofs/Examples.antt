-- What a table of a few versions needs to be whole. Assumes nothing.
use Rattle.std.proofs.Common.{◌≡◌, ℕ, zero, suc, true, List, [], ◌∷◌, Some, None, Option, slice_index_or, refl, sym, ap, ◌∙◌, subst, arith}
use Rattle.model.specs.Tree.{Node, leaf, two, three, gap, formed, count_node, count_run, count}
use Rattle.model.specs.Forms.{FormedNode, Formed}
use Rattle.model.specs.Forms.{Digit as Digits}
use Rattle.model.proofs.Forms.{decides_formed}
use Rattle.cells.specs.Cells.{body, leaf_of, node, nodes, rooted}
use Rattle.cells.specs.Chain.{Extends}
use Rattle.cells.specs.declared.cell.Cell.{Cell}
use Rattle.cells.specs.declared.cell.Body.TheVariants.{Item}
use Rattle.cells.specs.declared.cell.Root.{Root}
use Rattle.cells.proofs.Frames.{keep_node, keep_tree}
use Rattle.cells.proofs.Opened.{levels_read, tree_none}
use Rattle.sweep.specs.declared.version.Version.{Version}
use Rattle.sweep.specs.Kept.{vacant, KeptWhole}
use Rattle.sweep.specs.Swept.{Swept}

module _ {I T : Type 0} where
  abbrev pub Reads : List (Cell I T) → Root → Type 0
  Reads h r = formed r.levels 0 (rooted h 0 r) ≡ true

  pub reads_from : (h : List (Cell I T)) (r : Root) → Formed 0 (rooted h 0 r) → Reads h r
  reads_from h r f = (decides_formed r.levels 0 (rooted h 0 r)).1 (levels_read h r.levels 0 r.at f, f)

  pub one_item : (a : Node I T) → FormedNode 0 a → count_node a ≡ 1
  one_item (leaf x) w = refl
  one_item (two t n a b) w = elim w [ ]
  one_item (three t n a b c) w = elim w [ ]
  one_item gap w = elim w [ ]

  pub still_node : {h h' : List (Cell I T)} → Extends h h' → (p : ℕ) → FormedNode 0 (node h 0 p) → FormedNode 0 (node h' 0 p)
  still_node u p w = subst (FormedNode 0) (sym (keep_node u 0 p w)) w

  pub still : {h h' : List (Cell I T)} → Extends h h' → (r : Root) → Reads h r → Reads h' r
  still {h} u r w = ap (formed r.levels 0) (keep_tree u r.levels 0 r.at ((decides_formed r.levels 0 (rooted h 0 r)).0 w).1) ∙ w

  pub still_kept : {h h' : List (Cell I T)} {table : List Version} → Swept h table h' → (v : ℕ) (r : Root) → slice_index_or table v vacant ≡ record { root = Some r } → Reads h r → Reads h' r
  still_kept u v r e w = ap (formed r.levels 0) (u.reads v r (ap (λ (x : Version). x.root) e)) ∙ w

  pub whole_none : (h : List (Cell I T)) → KeptWhole h []
  whole_none h v r e = absurd (let z : ◌≡◌ {A = Option Root} None (Some r) = e in cc)

  pub whole_vacant : (h : List (Cell I T)) (table : List Version) → KeptWhole h table → KeptWhole h (record { root = None } ∷ table)
  whole_vacant h table w zero r e = absurd (let z : ◌≡◌ {A = Option Root} None (Some r) = e in cc)
  whole_vacant h table w (suc v) r e = w v r e

  pub whole_kept : (h : List (Cell I T)) (u : Version) (s : Root) (table : List Version) → u ≡ record { root = Some s } → Reads h s → KeptWhole h table → KeptWhole h (u ∷ table)
  whole_kept h u s table i x w zero r e =
      let z : ◌≡◌ {A = Option Root} (Some s) (Some r) = sym (ap (λ (v : Version). v.root) i) ∙ e in
      let same : s ≡ r = cc in
      subst (Reads h) same x
  whole_kept h u s table i x w (suc v) r e = w v r e

  pub item_at : (h : List (Cell I T)) (p : ℕ) (i : I) → body h p ≡ Item i → FormedNode 0 (node h 0 p)
  unfolding node
  item_at h p i e = subst (λ b. FormedNode 0 (leaf_of b)) (sym e) tt

  -- one finger, and a tree of two
  pub one_finger : (h : List (Cell I T)) (p : ℕ) (ps : List ℕ) → ps ≡ p ∷ [] → FormedNode 0 (node h 0 p) → Digits 0 (nodes h 0 ps) × (count_run (nodes h 0 ps) ≡ 1)
  one_finger h p ps e w = rw e ((omega arith, (omega arith, (w, tt))), omega (arith, one_item (node h 0 p) w))

  pub no_middle : (h : List (Cell I T)) → Formed 1 (rooted h 1 (record { levels = 0; at = 0 })) × (count (rooted h 1 (record { levels = 0; at = 0 })) ≡ 0)
  no_middle h = let e = tree_none h 0 1 0 refl in (subst (Formed 1) (sym e) tt, ap count e)
