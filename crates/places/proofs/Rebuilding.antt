-- That a replacement in cells is one. Assumes nothing.
use Rattle.std.proofs.Common.{◌≡◌, ℕ, suc, ◌+◌, ◌-◌, ◌<◌, ◌≤◌, Bool, true, false, ltb, List, [], length, set, sym, refl, ap, ◌∙◌, subst, arith}
use borrow.Author.Tests.{lt-true, le-false}
use Rattle.std.proofs.lemmas.List.{length-set}
use Rattle.model.specs.Tree.{Node, Tree, single, front, items_node, items, count_run, count, levels}
use Rattle.kinds.specs.Algebra.{Algebra}
use Rattle.model.specs.Ends.{make}
use Rattle.model.specs.Append.{onto}
use Rattle.model.specs.Split.{choose}
use Rattle.model.specs.Replace.{swap, replaced_node, replaced}
use Rattle.model.specs.Forms.{FormedNode, Each, Formed}
use Rattle.model.proofs.Forms.{count_is}
use Rattle.model.proofs.Replacing.{replaced_well, node_keeps}
use Rattle.cells.specs.Cells.{node, nodes, rooted}
use Rattle.cells.specs.Chain.{Grown}
use Rattle.cells.specs.Fingers.{listed}
use Rattle.cells.specs.Made.{MadeNode, MadeTree, MadeRun, SeenDeep}
use Rattle.cells.specs.declared.cell.Cell.{Cell}
use Rattle.cells.specs.declared.cell.Root.{Root}
use Rattle.cells.specs.declared.fingers.Digit.{Digit as Filled}
use Rattle.cells.proofs.Frames.{keep_nodes, keep_tree, grown_more}
use Rattle.cells.proofs.Opened.{levels_read}
use Rattle.cells.proofs.Turned.{turned_nodes}

-- the parts of a level that is built anew
pub record Rebuilt {I T : Type 0} {Q : Type 0} (q : Algebra I T Q) (x : I) (h : List (Cell I T)) (k : ℕ) (root : Root) (i : ℕ) (h₁ : List (Cell I T)) (c : ℕ) (ps : List ℕ) (o : Root) (qs : List ℕ) : Type 0 where
  pub grown : Grown h h₁ c
  pub near : Each k (nodes h₁ k ps)
  pub middle : Formed (suc k) (rooted h₁ (suc k) o)
  pub far : Each k (nodes h₁ k qs)
  pub fits : count_run (nodes h₁ k ps) + (count (rooted h₁ (suc k) o) + count_run (nodes h₁ k qs)) ≡ count (rooted h k root)
  pub depth : suc o.levels ≡ root.levels
  pub is : make q (nodes h₁ k ps) (rooted h₁ (suc k) o) (nodes h₁ k qs) ≡ replaced q x k i (rooted h k root)

module _ {I T Q : Type 0} (q : Algebra I T Q) (x : I) (h : List (Cell I T)) (k : ℕ) (root : Root) (i : ℕ) (w : Formed k (rooted h k root)) (l : i < count (rooted h k root)) where
  -- a level of one finger, which was made anew
  module _ {h₁ : List (Cell I T)} {c y : ℕ} (a : ℕ) (e : rooted h k root ≡ single (node h k a)) (n : MadeNode h h₁ c k y (replaced_node q x k i (node h k a))) where
    kept : FormedNode k (replaced_node q x k i (node h k a)) × (items_node (replaced_node q x k i (node h k a)) ≡ set (items_node (node h k a)) i x)
    kept = node_keeps q x k i (node h k a) (subst (Formed k) e w) (omega (arith, ap count e, l))

    pub single_ready : FormedNode k (node h₁ k y)
    single_ready = subst (FormedNode k) (sym n.reads) kept.0

    pub single_made : {h₂ : List (Cell I T)} {z : Root} (d : ℕ) → c + 1 ≤ d → MadeTree h₁ h₂ 1 k z (single (node h₁ k y)) → MadeTree h h₂ d k z (replaced q x k i (rooted h k root))
    single_made d u m = record { grown = grown_more d n.grown m.grown u; reads = m.reads ∙ ap single n.reads ∙ sym (ap (replaced q x k i) e) }

    pub single_items : {h₂ : List (Cell I T)} {z : Root} → MadeTree h₁ h₂ 1 k z (single (node h₁ k y)) → items (rooted h₂ k z) ≡ set (items (rooted h k root)) i x
    single_items m = ap items m.reads ∙ ap items_node n.reads ∙ kept.1 ∙ sym (ap (λ t. set (items t) i x) e)

  pub rebuilt_made : {h₁ h₂ : List (Cell I T)} {c : ℕ} {ps qs : List ℕ} {o z : Root} (d : ℕ) → Rebuilt q x h k root i h₁ c ps o qs → c + 1 ≤ d → MadeTree h₁ h₂ 1 k z (make q (nodes h₁ k ps) (rooted h₁ (suc k) o) (nodes h₁ k qs)) → MadeTree h h₂ d k z (replaced q x k i (rooted h k root)) × (items (rooted h₂ k z) ≡ set (items (rooted h k root)) i x)
  rebuilt_made d r n m =
      let u : MadeTree _ _ d k _ (replaced q x k i (rooted h k root)) = record { grown = grown_more d r.grown m.grown n; reads = m.reads ∙ r.is } in
      (u, ap items u.reads ∙ (replaced_well q x k i (rooted h k root) w l).1.0)

  rebuilt : {h₁ : List (Cell I T)} {c : ℕ} (ps : List ℕ) (o : Root) (qs : List ℕ) (F : List (Node I T)) (M : Tree I T) (B : List (Node I T)) → Grown h h₁ c → make q F M B ≡ replaced q x k i (rooted h k root) → nodes h₁ k ps ≡ F → rooted h₁ (suc k) o ≡ M → nodes h₁ k qs ≡ B → Rebuilt q x h k root i h₁ c ps o qs
  rebuilt {h₁} ps o qs F M B g e a b d =
      let t = replaced_well q x k i (rooted h k root) w l in
      let v : Formed k (make q F M B) = subst (Formed k) (sym e) t.0 in
      let m : Formed (suc k) (rooted h₁ (suc k) o) = subst (Formed (suc k)) (sym b) v.1.1.0 in
      let n = count_is k (make q F M B) v ∙ ap items_long e ∙ ap length t.1.0 ∙ length-set (items (rooted h k root)) i x ∙ sym (count_is k (rooted h k root) w) in
      let y = levels_read h root.levels k root.at w in
      let z = levels_read h₁ o.levels (suc k) o.at m in
      record {
        grown = g;
        near = subst (Each k) (sym a) v.1.0.1.1;
        middle = m;
        far = subst (Each k) (sym d) v.1.1.1.1.1;
        fits = omega (arith, ap count_run a, ap count b, ap count_run d, n);
        depth = omega (arith, ap levels e, t.1.1, y, z, ap levels b);
        is = ap (λ F. make q F (rooted h₁ (suc k) o) (nodes h₁ k qs)) a ∙ ap (λ M. make q F M (nodes h₁ k qs)) b ∙ ap (make q F M) d ∙ e;
      }
    where
      items_long : Tree I T → ℕ
      items_long t = length (items t)

  module _ {near far : Filled} {m : Root} (seen : SeenDeep h k front root near m far) where
    abbrev F : List (Node I T)
    F = nodes h k (listed near)

    abbrev M : Tree I T
    M = rooted h (suc k) m

    abbrev B : List (Node I T)
    B = nodes h k (listed far)

    -- what the tests y and z make of the level
    abbrev changed : Bool → Bool → Tree I T
    changed y z = choose y (make q (swap (replaced_node q x k) i F) M B) (choose z (make q F (replaced q x (suc k) (i - count_run F) M) B) (make q F M (onto (swap (replaced_node q x k) (i - count_run F - count M) (onto B [])) [])))

    changed_is : (y z : Bool) → y ≡ ltb i (count_run F) → z ≡ ltb (i - count_run F) (count M) → changed y z ≡ replaced q x k i (rooted h k root)
    changed_is y z ey ez = ap (λ y. changed y z) ey ∙ ap (changed (ltb i (count_run F))) ez ∙ sym (ap (replaced q x k i) seen.is)

    module _ {h₁ : List (Cell I T)} {c : ℕ} (j : ℕ) where
      pub rebuilt_front : (i ≡ j) × (j < count_run F) → {ps : List ℕ} → MadeRun h h₁ c k ps (swap (replaced_node q x k) j F) → Rebuilt q x h k root i h₁ c ps m (listed far)
      rebuilt_front e {ps} u =
          rebuilt ps m (listed far) (swap (replaced_node q x k) i F) M B u.grown (changed_is true _ (lt-true i (count_run F) (omega (arith, e.0, e.1))) refl) (u.reads ∙ ap (λ n. swap (replaced_node q x k) n F) (sym e.0)) (keep_tree u.grown.extends m.levels (suc k) m.at seen.middle_formed) (keep_nodes u.grown.extends k (listed far) seen.far_formed)

      pub rebuilt_middle : (i ≡ count_run F + j) × (j < count M) → (up : ℕ) → suc k ≡ up → {o : Root} → MadeTree h h₁ c up o (replaced q x up j (rooted h up m)) → Rebuilt q x h k root i h₁ c (listed near) o (listed far)
      rebuilt_middle e up s {o} u =
          let same : j ≡ i - count_run F = omega (arith, e.0) in
          let r = subst (λ k. rooted h₁ k o ≡ replaced q x k j (rooted h k m)) (sym s) u.reads ∙ ap (λ n. replaced q x (suc k) n M) same in
          rebuilt (listed near) o (listed far) F (replaced q x (suc k) (i - count_run F) M) B u.grown (changed_is false true (le-false i (count_run F) (omega (arith, e.0))) (lt-true (i - count_run F) (count M) (omega (arith, same, e.1)))) (keep_nodes u.grown.extends k (listed near) seen.near_formed) r (keep_nodes u.grown.extends k (listed far) seen.far_formed)

      pub rebuilt_back : i ≡ count_run F + (count M + j) → {ts ps qs : List ℕ} → ts ≡ onto (listed far) [] → qs ≡ onto ps [] → MadeRun h h₁ c k ps (swap (replaced_node q x k) j (nodes h k ts)) → Rebuilt q x h k root i h₁ c (listed near) m qs
      rebuilt_back e {ts} {ps} {qs} turned again u =
          let same : j ≡ i - count_run F - count M = omega (arith, e) in
          let r = turned_nodes h₁ k ps qs again ∙ ap (λ ns. onto ns []) (u.reads ∙ ap (λ n. swap (replaced_node q x k) n (nodes h k ts)) same ∙ ap (swap (replaced_node q x k) (i - count_run F - count M)) (turned_nodes h k (listed far) ts turned)) in
          rebuilt (listed near) m qs F M _ u.grown (changed_is false false (le-false i (count_run F) (omega (arith, e))) (le-false (i - count_run F) (count M) (omega (arith, e)))) (keep_nodes u.grown.extends k (listed near) seen.near_formed) (keep_tree u.grown.extends m.levels (suc k) m.at seen.middle_formed) r
