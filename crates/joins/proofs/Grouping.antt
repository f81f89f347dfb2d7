-- That nodes made of a row are the groups of it. Assumes nothing.
use Rattle.std.proofs.Common.{◌≡◌, ℕ, suc, ◌+◌, ◌*◌, ◌≤◌, List, [], ◌∷◌, length, sym, refl, ap, ◌∙◌, subst, arith}
use Rattle.std.proofs.lemmas.List.{length-map}
use Rattle.model.proofs.Appending.{group_short}
use Rattle.model.specs.Tree.{count_run}
use Rattle.kinds.specs.Algebra.{Algebra}
use Rattle.model.specs.Ends.{make2, make3}
use Rattle.model.specs.Append.{group}
use Rattle.model.specs.Replace.{regroup}
use Rattle.model.specs.Forms.{FormedNode, Each}
use Rattle.cells.specs.Cells.{node, nodes}
use Rattle.cells.specs.Made.{MadeNode}
use Rattle.cells.specs.declared.cell.Cell.{Cell}
use Rattle.cells.proofs.Frames.{keep_node, keep_nodes, grown_more}
use Rattle.cells.specs.Made.{MadeRun}

module _ {I T Q : Type 0} (q : Algebra I T Q) (h : List (Cell I T)) (k : ℕ) where
  group_four : (a b c d : ℕ) (more : List ℕ) → length more ≡ 0 → group q (nodes h k (a ∷ b ∷ c ∷ d ∷ more)) ≡ make2 q (node h k a) (node h k b) ∷ make2 q (node h k c) (node h k d) ∷ []
  group_four a b c d [] l = refl
  group_four a b c d (e ∷ more) l = absurd (omega arith)

  group_more : (a b c : ℕ) (more : List ℕ) → 2 ≤ length more → group q (nodes h k (a ∷ b ∷ c ∷ more)) ≡ make3 q (node h k a) (node h k b) (node h k c) ∷ group q (nodes h k more)
  group_more a b c [] l = absurd (omega arith)
  group_more a b c (d ∷ []) l = absurd (omega arith)
  group_more a b c (d ∷ e ∷ more) l = refl

-- two and three fingers that were made one node
module _ {I T Q : Type 0} (q : Algebra I T Q) {h h' : List (Cell I T)} {k p : ℕ} where
  pub two_nodes : (a b : ℕ) (ls : List ℕ) → ls ≡ a ∷ b ∷ [] → MadeNode h h' 1 (suc k) p (regroup q (nodes h k ls)) → MadeNode h h' 1 (suc k) p (make2 q (node h k a) (node h k b))
  two_nodes a b ls e u = subst (λ ls. MadeNode h h' 1 (suc k) p (regroup q (nodes h k ls))) e u

  pub three_nodes : (a b c : ℕ) (ls : List ℕ) → ls ≡ a ∷ b ∷ c ∷ [] → MadeNode h h' 1 (suc k) p (regroup q (nodes h k ls)) → MadeNode h h' 1 (suc k) p (make3 q (node h k a) (node h k b) (node h k c))
  three_nodes a b c ls e u = subst (λ ls. MadeNode h h' 1 (suc k) p (regroup q (nodes h k ls))) e u

-- the row ps begins with a and b
module _ {I T Q : Type 0} (q : Algebra I T Q) (h : List (Cell I T)) (k : ℕ) (ps : List ℕ) (w : Each k (nodes h k ps)) (a : ℕ) (ps₁ : List ℕ) (e₁ : ps ≡ a ∷ ps₁) (b : ℕ) (ps₂ : List ℕ) (e₂ : ps₁ ≡ b ∷ ps₂) where
  two_of : ps ≡ a ∷ b ∷ ps₂
  two_of = e₁ ∙ ap (λ r. a ∷ r) e₂

  -- and goes on with c
  module _ (c : ℕ) (ps₃ : List ℕ) (e₃ : ps₂ ≡ c ∷ ps₃) where
    three_of : ps ≡ a ∷ b ∷ c ∷ ps₃
    three_of = two_of ∙ ap (λ r. a ∷ b ∷ r) e₃

    parts : Each k (nodes h k (a ∷ b ∷ c ∷ ps₃))
    parts = subst (λ ps. Each k (nodes h k ps)) three_of w

    counts : count_run (nodes h k ps) ≡ count_run (nodes h k (a ∷ b ∷ c ∷ ps₃))
    counts = ap (λ ps. count_run (nodes h k ps)) three_of

    pub row_lengths : length ps ≡ 3 + length ps₃
    row_lengths = omega (arith, ap length three_of)

    -- the first three are one node, and the rest is grouped
    module _ {h₁ : List (Cell I T)} {p : ℕ} (u : MadeNode h h₁ 1 (suc k) p (make3 q (node h k a) (node h k b) (node h k c))) where
      rest_kept : nodes h₁ k ps₃ ≡ nodes h k ps₃
      rest_kept = keep_nodes u.grown.extends k ps₃ parts.1.1.1

      pub rest_ready : Each k (nodes h₁ k ps₃)
      rest_ready = subst (Each k) (sym rest_kept) parts.1.1.1

      pub rest_count : count_run (nodes h₁ k ps₃) ≤ count_run (nodes h k ps)
      rest_count = omega (arith, ap count_run rest_kept, counts)

      module _ {h₂ : List (Cell I T)} (os : List ℕ) (v : MadeRun h₁ h₂ (length os) (suc k) os (group q (nodes h₁ k ps₃))) where
        pub others_few : 3 * length os ≤ length ps₃ + 2
        others_few =
            let l = sym (length-map os (node h₂ (suc k))) ∙ ap length v.reads in
            omega (arith, l, group_short q (nodes h₁ k ps₃), length-map ps₃ (node h₁ k))

        pub made_more : (ls : List ℕ) → ls ≡ p ∷ os → 2 ≤ length ps₃ → MadeRun h h₂ (length ls) (suc k) ls (group q (nodes h k ps))
        made_more ls l n =
            let first = keep_node v.grown.extends (suc k) p (subst (FormedNode (suc k)) (sym u.reads) (refl, (parts.0, (parts.1.0, parts.1.1.0)))) ∙ u.reads in
            rw l (record {
              grown = grown_more (suc (length os)) u.grown v.grown (omega arith);
              reads = rw (first, v.reads, rest_kept) (sym (ap (λ ps. group q (nodes h k ps)) three_of ∙ group_more q h k a b c ps₃ n));
            })

    -- and then d: four make two pairs
    module _ (d : ℕ) (ps₄ : List ℕ) (e₄ : ps₃ ≡ d ∷ ps₄) {h₁ : List (Cell I T)} {p : ℕ} (u : MadeNode h h₁ 1 (suc k) p (make2 q (node h k a) (node h k b))) where
      four_of : ps ≡ a ∷ b ∷ c ∷ d ∷ ps₄
      four_of = three_of ∙ ap (λ r. a ∷ b ∷ c ∷ r) e₄

      four_parts : Each k (nodes h k (a ∷ b ∷ c ∷ d ∷ ps₄))
      four_parts = subst (λ ps. Each k (nodes h k ps)) four_of w

      pair_kept : nodes h₁ k (c ∷ d ∷ []) ≡ nodes h k (c ∷ d ∷ [])
      pair_kept = keep_nodes u.grown.extends k (c ∷ d ∷ []) (four_parts.1.1.0, (four_parts.1.1.1.0, tt))

      pub pair_formed : (ls : List ℕ) → ls ≡ c ∷ d ∷ [] → Each k (nodes h₁ k ls)
      pair_formed ls e = rw e (subst (Each k) (sym pair_kept) (four_parts.1.1.0, (four_parts.1.1.1.0, tt)))

      pub pair_count : (ls : List ℕ) → ls ≡ c ∷ d ∷ [] → count_run (nodes h₁ k ls) ≤ count_run (nodes h k ps)
      pair_count ls e = omega (arith, ap (λ ls. count_run (nodes h₁ k ls)) e, ap count_run pair_kept, ap (λ ps. count_run (nodes h k ps)) four_of)

      pub made_pairs : {h₂ : List (Cell I T)} {r : ℕ} (ls : List ℕ) → MadeNode h₁ h₂ 1 (suc k) r (make2 q (node h₁ k c) (node h₁ k d)) → ls ≡ p ∷ r ∷ [] → length ps ≡ 4 → MadeRun h h₂ (length ls) (suc k) ls (group q (nodes h k ps))
      made_pairs ls v l n =
          let z : length ps₄ ≡ 0 = omega (arith, ap length four_of) in
          let first = keep_node v.grown.extends (suc k) p (subst (FormedNode (suc k)) (sym u.reads) (refl, (four_parts.0, four_parts.1.0))) ∙ u.reads in
          rw l (record {
            grown = grown_more 2 u.grown v.grown (omega arith);
            reads = rw (first, v.reads, keep_node u.grown.extends k c four_parts.1.1.0, keep_node u.grown.extends k d four_parts.1.1.1.0) (sym (ap (λ ps. group q (nodes h k ps)) four_of ∙ group_four q h k a b c d ps₄ z));
          })
