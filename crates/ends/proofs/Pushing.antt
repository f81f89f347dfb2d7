-- That a push in cells is a push. Assumes nothing.
use Rattle.std.proofs.Common.{◌≡◌, ℕ, suc, ◌+◌, ◌-◌, ◌*◌, ◌<◌, ◌≤◌, List, [], ◌∷◌, length, get_or, sym, refl, ap, ◌∙◌, subst, inl, inr, arith}
use Rattle.std.proofs.lemmas.List.{length-map}
use Rattle.model.specs.Tree.{Node, Tree, none, single, deep, torn, Side, front, back, count_node, count_run, count, levels}
use Rattle.kinds.specs.Algebra.{Algebra}
use Rattle.model.specs.Ends.{three_at, deep_at, push}
use Rattle.model.specs.Replace.{regroup}
use Rattle.model.specs.Forms.{FormedNode, Each, Formed}
use Rattle.model.proofs.Sides.{levels_deep_at, formed_three_at}
use Rattle.model.proofs.Pushing.{push_formed, push_levels}
use Rattle.cells.specs.Cells.{in_order, node, nodes, tree, rooted}
use Rattle.cells.specs.Fingers.{listed, front_of}
use Rattle.cells.specs.Chain.{Extends}
use Rattle.cells.specs.Made.{MadeNode, MadeTree, deep_of, SeenDeep}
use Rattle.cells.specs.declared.cell.Cell.{Cell}
use Rattle.cells.specs.declared.cell.Root.{Root}
use Rattle.cells.specs.declared.fingers.Digit.{Digit as Filled}
use Rattle.cells.proofs.Frames.{keep_nodes, keep_tree, extends_more, grown_more, grown_most}
use Rattle.cells.proofs.Opened.{levels_read, tree_none}
use Rattle.cells.proofs.Fours.{listed_length}
use Rattle.ends.proofs.Counting.{push_count, count_three_at}

module _ {I T Q : Type 0} (q : Algebra I T Q) where
  push_room : (s : Side) (x : Node I T) (t : T) (n : ℕ) (ds : List (Node I T)) (m : Tree I T) (far : List (Node I T)) → length ds < 4 → push q s x (deep_of s t n ds m far) ≡ deep_at q s (x ∷ ds) m far
  push_room front x t n [] m far l = refl
  push_room front x t n (a ∷ []) m far l = refl
  push_room front x t n (a ∷ b ∷ []) m far l = refl
  push_room front x t n (a ∷ b ∷ c ∷ []) m far l = refl
  push_room front x t n (a ∷ b ∷ c ∷ d ∷ more) m far l = absurd (omega arith)
  push_room back x t n [] m far l = refl
  push_room back x t n (a ∷ []) m far l = refl
  push_room back x t n (a ∷ b ∷ []) m far l = refl
  push_room back x t n (a ∷ b ∷ c ∷ []) m far l = refl
  push_room back x t n (a ∷ b ∷ c ∷ d ∷ more) m far l = absurd (omega arith)

  push_full : (s : Side) (x : Node I T) (t : T) (n : ℕ) (a b c d : Node I T) (m : Tree I T) (far : List (Node I T)) → push q s x (deep_of s t n (a ∷ b ∷ c ∷ d ∷ []) m far) ≡ deep_at q s (x ∷ a ∷ []) (push q s (three_at q s b c d) m) far
  push_full front x t n a b c d m far = refl
  push_full back x t n a b c d m far = refl

  -- a push leaves no tree empty
  pub some_levels : (s : Side) (k : ℕ) (x : Node I T) (t : Tree I T) → Formed k t → 1 ≤ levels (push q s x t)
  some_levels s k x none w = omega arith
  some_levels s k x (single y) w = omega (arith, levels_deep_at q s (x ∷ []) none (y ∷ []))
  some_levels s k x (deep t n f m b) w = elim (push_levels q s k x (deep t n f m b) w) [ inl e ↦ omega (arith, e) | inr e ↦ omega (arith, e) ]
  some_levels s k x torn w = elim w [ ]

module _ {I T : Type 0} {h h' : List (Cell I T)} where
  -- as many levels as the tree has
  pub made_levels : {c k : ℕ} {r : Root} {t : Tree I T} → MadeTree h h' c k r t → Formed k t → r.levels ≡ levels t
  made_levels {c} {k} {r} {t} u w = sym (levels_read h' r.levels k r.at (subst (Formed k) (sym u.reads) w)) ∙ ap levels u.reads

  pub made_as : {c k : ℕ} {r : Root} {t : Tree I T} (e : ℕ) (u : Tree I T) → MadeTree h h' c k r t → t ≡ u → c ≤ e → MadeTree h h' e k r u
  made_as e u v i l = record { grown = grown_most e v.grown l; reads = v.reads ∙ i }

pub four_listed : (d : Filled) → 4 ≤ d.count → listed d ≡ get_or d.at 0 0 ∷ get_or d.at 1 0 ∷ get_or d.at 2 0 ∷ get_or d.at 3 0 ∷ []
four_listed d l = let e : d.count ≡ 4 = omega (arith, d.filled.1) in ap (λ n. front_of n d.at) e

-- the tree t, and the finger x that is pushed
module _ {I T Q : Type 0} (q : Algebra I T Q) (s : Side) (h : List (Cell I T)) (k x : ℕ) (root : Root) (v : FormedNode k (node h k x)) (w : Formed k (rooted h k root)) where
  pub push_some : 1 ≤ levels (push q s (node h k x) (rooted h k root))
  push_some = some_levels q s k (node h k x) (rooted h k root) w

  settled : {h' : List (Cell I T)} {c : ℕ} {r : Root} {u : Tree I T} → MadeTree h h' c k r u → u ≡ push q s (node h k x) (rooted h k root) → c ≤ 2 * levels u - 1 → MadeTree h h' (2 * r.levels - 1) k r (push q s (node h k x) (rooted h k root))
  settled {h'} {c} {r} {u} m e l =
      let z : c ≤ c = omega arith in
      let n = made_levels (made_as c _ m e z) (push_formed q s k _ _ v w) in
      let o = ap levels e in
      made_as (2 * r.levels - 1) _ m e (omega arith)

  pub push_empty : {h' : List (Cell I T)} {r : Root} → MadeTree h h' 1 k r (single (node h k x)) → rooted h k root ≡ none → MadeTree h h' (2 * r.levels - 1) k r (push q s (node h k x) (rooted h k root))
  push_empty m e = settled m (sym (ap (push q s (node h k x)) e)) (omega arith)

  pub push_single : {h' : List (Cell I T)} {r : Root} (y : ℕ) (ns fs : List ℕ) → MadeTree h h' 1 k r (deep_at q s (nodes h k ns) (tree h 0 (suc k) 0) (nodes h k fs)) → ns ≡ x ∷ [] → fs ≡ y ∷ [] → rooted h k root ≡ single (node h k y) → MadeTree h h' (2 * r.levels - 1) k r (push q s (node h k x) (rooted h k root))
  push_single y ns fs m a b e =
      let n = levels_deep_at q s (nodes h k ns) (tree h 0 (suc k) 0) (nodes h k fs) in
      settled m (rw (a, b, tree_none h 0 (suc k) 0 refl, e)) (omega arith)

  module _ {near far : Filled} {m : Root} (seen : SeenDeep h k s root near m far) where
    pub push_roomy : {h' : List (Cell I T)} {r : Root} (more : List ℕ) → MadeTree h h' 1 k r (deep_at q s (nodes h k more) (rooted h (suc k) m) (nodes h k (listed far))) → more ≡ x ∷ listed near → near.count < 4 → MadeTree h h' (2 * r.levels - 1) k r (push q s (node h k x) (rooted h k root))
    push_roomy more u e l =
        let n = levels_deep_at q s (nodes h k more) (rooted h (suc k) m) (nodes h k (listed far)) in
        let short : length (nodes h k (listed near)) < 4 = simp length-map (omega (arith, listed_length near)) in
        settled u (ap (λ ps. deep_at q s (nodes h k ps) (rooted h (suc k) m) (nodes h k (listed far))) e ∙ sym (ap (push q s (node h k x)) seen.is ∙ push_room q s (node h k x) seen.total seen.items (nodes h k (listed near)) _ _ short)) (omega arith)

    -- the last three of four fingers as one node
    module _ {a b c d : ℕ} (full : listed near ≡ a ∷ b ∷ c ∷ d ∷ []) where
      pub fingers_formed : Each k (nodes h k (a ∷ b ∷ c ∷ d ∷ []))
      fingers_formed = subst (λ ps. Each k (nodes h k ps)) full seen.near_formed

      pub fingers_count : count (rooted h k root) ≡ count_run (nodes h k (a ∷ b ∷ c ∷ d ∷ [])) + (count (rooted h (suc k) m) + count_run (nodes h k (listed far)))
      fingers_count = seen.counts ∙ ap (λ ps. count_run (nodes h k ps) + (count (rooted h (suc k) m) + count_run (nodes h k (listed far)))) full

      module _ {h₁ : List (Cell I T)} {p : ℕ} (three : MadeNode h h₁ 1 (suc k) p (three_at q s (node h k b) (node h k c) (node h k d))) {k' : ℕ} (i : suc k ≡ k') where
        kept_middle : tree h₁ m.levels k' m.at ≡ rooted h (suc k) m
        kept_middle = subst (λ j. rooted h₁ j m ≡ rooted h (suc k) m) i (keep_tree three.grown.extends m.levels (suc k) m.at seen.middle_formed)

        three_reads : node h₁ k' p ≡ three_at q s (node h k b) (node h k c) (node h k d)
        three_reads = subst (λ j. node h₁ j p ≡ three_at q s (node h k b) (node h k c) (node h k d)) i three.reads

        three_formed : FormedNode (suc k) (three_at q s (node h k b) (node h k c) (node h k d))
        three_formed = let e = fingers_formed in formed_three_at q s k _ _ _ e.1.0 e.1.1.0 e.1.1.1.0

        pub middle_ready : Formed k' (tree h₁ m.levels k' m.at)
        middle_ready = rw kept_middle (subst (λ j. Formed j (rooted h (suc k) m)) i seen.middle_formed)

        pub three_ready : FormedNode k' (node h₁ k' p)
        three_ready = rw three_reads (subst (λ j. FormedNode j (three_at q s (node h k b) (node h k c) (node h k d))) i three_formed)

        pub carried_count : count_node (node h₁ k' p) + count (tree h₁ m.levels k' m.at) ≤ count (rooted h k root)
        carried_count = rw (three_reads, kept_middle) (omega (arith, count_three_at q s (node h k b) (node h k c) (node h k d), fingers_count))

        full_is : push q s (node h k x) (rooted h k root) ≡ deep_at q s (nodes h k (x ∷ a ∷ [])) (push q s (three_at q s (node h k b) (node h k c) (node h k d)) (rooted h (suc k) m)) (nodes h k (listed far))
        full_is = ap (push q s (node h k x)) (seen.is ∙ ap (λ ps. deep_of s seen.total seen.items (nodes h k ps) (rooted h (suc k) m) (nodes h k (listed far))) full) ∙ push_full q s (node h k x) seen.total seen.items (node h k a) (node h k b) (node h k c) (node h k d) _ _

        -- the push goes one level further
        pub full_levels : levels (push q s (node h k x) (rooted h k root)) ≡ suc (levels (push q s (node h₁ k' p) (tree h₁ m.levels k' m.at)))
        full_levels = ap levels full_is ∙ levels_deep_at q s (nodes h k (x ∷ a ∷ [])) (push q s (three_at q s (node h k b) (node h k c) (node h k d)) (rooted h (suc k) m)) (nodes h k (listed far)) ∙ ap suc (sym (rw (three_reads, kept_middle)))

        module _ {h₂ : List (Cell I T)} {r : Root} (below : MadeTree h₁ h₂ (2 * r.levels - 1) k' r (push q s (node h₁ k' p) (tree h₁ m.levels k' m.at))) (two : List ℕ) (pair : two ≡ x ∷ a ∷ []) where
          below_reads : rooted h₂ (suc k) r ≡ push q s (three_at q s (node h k b) (node h k c) (node h k d)) (rooted h (suc k) m)
          below_reads = subst (λ j. rooted h₂ j r ≡ push q s (three_at q s (node h k b) (node h k c) (node h k d)) (rooted h (suc k) m)) (sym i) (below.reads ∙ rw (three_reads, kept_middle))

          after : Extends h h₂
          after = extends_more three.grown.extends below.grown.extends

          near_kept : nodes h₂ k two ≡ nodes h k (x ∷ a ∷ [])
          near_kept = ap (nodes h₂ k) pair ∙ keep_nodes after k (x ∷ a ∷ []) (v, (fingers_formed.0, tt))

          far_kept : nodes h₂ k (listed far) ≡ nodes h k (listed far)
          far_kept = keep_nodes after k (listed far) seen.far_formed

          pub near_ready : Each k (nodes h₂ k two)
          near_ready = subst (Each k) (sym near_kept) (v, (fingers_formed.0, tt))

          pub far_ready : Each k (nodes h₂ k (listed far))
          far_ready = subst (Each k) (sym far_kept) seen.far_formed

          pub below_ready : Formed (suc k) (rooted h₂ (suc k) r)
          below_ready = subst (Formed (suc k)) (sym below_reads) (push_formed q s (suc k) _ _ three_formed seen.middle_formed)

          pub below_some : 1 ≤ r.levels
          below_some =
              let e = sym (levels_read h₂ r.levels (suc k) r.at below_ready) ∙ ap levels below_reads in
              omega (arith, e, some_levels q s (suc k) (three_at q s (node h k b) (node h k c) (node h k d)) (rooted h (suc k) m) seen.middle_formed)

          pub below_exact : r.levels ≡ levels (push q s (node h₁ k' p) (tree h₁ m.levels k' m.at))
          below_exact = sym (levels_read h₂ r.levels (suc k) r.at below_ready) ∙ ap levels below_reads ∙ ap levels (sym (rw (three_reads, kept_middle)))

          pub below_levels : r.levels ≤ root.levels
          below_levels =
              let e = sym (levels_read h₂ r.levels (suc k) r.at below_ready) ∙ ap levels below_reads in
              let o = levels_read h m.levels (suc k) m.at seen.middle_formed in
              let z = seen.levels in
              elim (push_levels q s (suc k) (three_at q s (node h k b) (node h k c) (node h k d)) (rooted h (suc k) m) seen.middle_formed) [ inl y ↦ omega arith | inr y ↦ omega arith ]

          pub level_count : count_run (nodes h₂ k two) + (count (rooted h₂ (suc k) r) + count_run (nodes h₂ k (listed far))) ≡ count_node (node h k x) + count (rooted h k root)
          level_count = rw (near_kept, far_kept, below_reads) (omega (arith, push_count q s (suc k) (three_at q s (node h k b) (node h k c) (node h k d)) (rooted h (suc k) m) seen.middle_formed, count_three_at q s (node h k b) (node h k c) (node h k d), fingers_count))

          pub push_fuller : {h₃ : List (Cell I T)} {o : Root} → MadeTree h₂ h₃ 1 k o (deep_at q s (nodes h₂ k two) (rooted h₂ (suc k) r) (nodes h₂ k (listed far))) → MadeTree h h₃ (2 * o.levels - 1) k o (push q s (node h k x) (rooted h k root))
          push_fuller {h₃} {o} u =
              let n = levels_deep_at q s (nodes h₂ k two) (rooted h₂ (suc k) r) (nodes h₂ k (listed far)) in
              let y = levels_read h₂ r.levels (suc k) r.at below_ready in
              let one = below_some in
              let all : MadeTree h h₃ (2 * r.levels + 1) k o (deep_at q s (nodes h₂ k two) (rooted h₂ (suc k) r) (nodes h₂ k (listed far))) =
              record { grown = grown_more _ three.grown (grown_more (2 * r.levels) below.grown u.grown (omega arith)) (omega arith); reads = u.reads } in
              let some = below_some in
              settled all (rw (near_kept, far_kept, below_reads) (sym full_is)) (omega arith)

-- the fingers x, y and z of a side, listed from left to right
module _ {I T Q : Type 0} (q : Algebra I T Q) (h : List (Cell I T)) (k : ℕ) where
  pub sided_formed : (s : Side) (x y z : ℕ) (o : ℕ × ℕ) → o ≡ in_order s x z → (ps : List ℕ) → ps ≡ o.0 ∷ y ∷ o.1 ∷ [] → FormedNode k (node h k x) → FormedNode k (node h k y) → FormedNode k (node h k z) → Each k (nodes h k ps)
  sided_formed front x y z o i ps e u v w = rw (e, i) (u, (v, (w, tt)))
  sided_formed back x y z o i ps e u v w = rw (e, i) (w, (v, (u, tt)))

  pub sided_count : (s : Side) (x y z : ℕ) (o : ℕ × ℕ) → o ≡ in_order s x z → (ps : List ℕ) → ps ≡ o.0 ∷ y ∷ o.1 ∷ [] → count_run (nodes h k ps) ≡ count_node (node h k x) + (count_node (node h k y) + count_node (node h k z))
  sided_count front x y z o i ps e = rw (e, i) (omega arith)
  sided_count back x y z o i ps e = rw (e, i) (omega arith)

  pub sided_node : (s : Side) (x y z : ℕ) (o : ℕ × ℕ) → o ≡ in_order s x z → (ps : List ℕ) → ps ≡ o.0 ∷ y ∷ o.1 ∷ [] → regroup q (nodes h k ps) ≡ three_at q s (node h k x) (node h k y) (node h k z)
  sided_node front x y z o i ps e = rw (e, i) refl
  sided_node back x y z o i ps e = rw (e, i) refl
