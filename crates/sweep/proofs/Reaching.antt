-- The cells that the versions of a table stand on. Assumes nothing.
use Rattle.std.proofs.Common.{◌≡◌, ℕ, zero, suc, ◌<◌, ◌≤◌, true, cond, List, [], ◌∷◌, length, Some, None, Option, sym, refl, ap, subst, inl, ⊎_elim, le-leb}
use Rattle.std.proofs.lemmas.Bool.{both_ways, cases_lt}
use Rattle.std.proofs.lemmas.List.{get_or_past}
use Rattle.std.specs.List.{flat_map}
use Rattle.model.specs.Forms.{Formed}
use Rattle.model.proofs.Forms.{decides_formed}
use Rattle.cells.specs.Cells.{blank, body, is_free, rooted}
use Rattle.cells.specs.declared.cell.Cell.{Cell}
use Rattle.cells.specs.declared.cell.Root.{Root}
use Rattle.sweep.specs.declared.version.Version.{Version}
use Rattle.sweep.specs.Kept.{Kept, KeptWhole, tree_cells, version_cells}
use Rattle.sweep.specs.Marks.{In, children, first_of, root_cells, root_cell, AllNear}
use Rattle.sweep.proofs.Members.{in_left, in_right, in_either}
use Rattle.sweep.proofs.Standing.{Stands, stands_both, stands_none, stands_tree, first_in, all_tree}

module _ {I T : Type 0} (h : List (Cell I T)) where
  abbrev pub table_cells : List Version → List ℕ
  table_cells table = flat_map (λ v. version_cells h v.root) table

  abbrev pub FormedAll : List Version → Type 0
  FormedAll table = (v : ℕ) (r : Root) → Kept table v r → Formed 0 (rooted h 0 r)

  pub formed_all : (table : List Version) → KeptWhole h table → FormedAll table
  formed_all table w v r k = ((decides_formed r.levels 0 (rooted h 0 r)).0 (w v r k)).1

  stands_version : (o : Option Root) → ((r : Root) → o ≡ Some r → Formed 0 (rooted h 0 r)) → Stands h (version_cells h o)
  stands_version None w = stands_none h
  stands_version (Some r) w = stands_tree h r.levels 0 r.at (w r refl)

  pub stands_table : (table : List Version) → FormedAll table → Stands h (table_cells table)
  stands_table [] w = stands_none h
  stands_table (v ∷ table) w = stands_both h (version_cells h v.root) (table_cells table) (stands_version v.root (λ r e. w 0 r e)) (stands_table table (λ u r e. w (suc u) r e))

  first_stands : (o : Option Root) (q : ℕ) → In (first_of o) q → In (version_cells h o) q
  first_stands None q i = absurd i
  first_stands (Some r) q i = first_in h r r.levels 0 refl q i

  pub roots_stand : (table : List Version) (q : ℕ) → In (root_cells table) q → In (table_cells table) q
  roots_stand [] q i = absurd i
  roots_stand (v ∷ table) q i =
      ⊎_elim (λ a. in_left (version_cells h v.root) (table_cells table) q (first_stands v.root q a)) (λ a. in_right (version_cells h v.root) (table_cells table) q (roots_stand table q a)) (in_either (root_cell v) (root_cells table) q i)

  pub in_table : (table : List Version) (v : ℕ) (r : Root) → Kept table v r → (q : ℕ) → In (tree_cells h r.levels 0 r.at) q → In (table_cells table) q
  in_table [] v r e q i = absurd (let z : ◌≡◌ {A = Option Root} None (Some r) = e in cc)
  in_table (u ∷ table) zero r e q i = in_left (version_cells h u.root) (table_cells table) q (subst (λ o. In (version_cells h o) q) (sym e) i)
  in_table (u ∷ table) (suc v) r e q i = in_right (version_cells h u.root) (table_cells table) q (in_table table v r e q i)

  pub within : (ps : List ℕ) → Stands h ps → AllNear h ps
  within ps s q i =
      ⊎_elim (λ (l : q < length h). l) (λ (l : length h ≤ q). let free : is_free (body h q) ≡ true = ap (λ (x : Cell I T). is_free x.body) (get_or_past h q blank l) in absurd (both_ways _ (s.live q i) free)) (cases_lt q (length h))

  module _ (M : ℕ → Type 0) (further : (q : ℕ) → M q → (r : ℕ) → In (children (body h q)) r → M r) where
    all_version : (o : Option Root) → ((r : Root) → o ≡ Some r → Formed 0 (rooted h 0 r)) → ((q : ℕ) → In (first_of o) q → M q) → (q : ℕ) → In (version_cells h o) q → M q
    all_version None w m q i = absurd i
    all_version (Some r) w m q i =
        all_tree h M further r.levels 0 r.at (w r refl) (λ l. m r.at (subst (λ t. In (cond t (r.at ∷ []) []) r.at) (sym (le-leb 1 r.levels l)) (inl refl))) q i

    pub all_table : (table : List Version) → FormedAll table → ((q : ℕ) → In (root_cells table) q → M q) → (q : ℕ) → In (table_cells table) q → M q
    all_table [] w m q i = absurd i
    all_table (v ∷ table) w m q i =
        ⊎_elim (λ a. all_version v.root (λ r e. w 0 r e) (λ p j. m p (in_left (root_cell v) (root_cells table) p j)) q a)
        (λ a. all_table table (λ u r e. w (suc u) r e) (λ p j. m p (in_right (root_cell v) (root_cells table) p j)) q a) (in_either (version_cells h v.root) (table_cells table) q i)
