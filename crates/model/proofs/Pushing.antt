-- A push at either end. Assumes nothing.
use Rattle.std.proofs.Common.{◌≡◌, ℕ, suc, ◌⊎◌, List, [], ◌∷◌, sym, refl, ap, ◌∙◌, subst, inl, inr, arith}
use Rattle.model.specs.Tree.{Node, leaf, Tree, none, single, deep, torn, Side, along, items_node, run, items, levels}
use Rattle.kinds.specs.Algebra.{Algebra, Laws}
use Rattle.model.specs.Ends.{three_at, near, other, Fill, room, full, fill, grow, push}
use Rattle.model.specs.Forms.{FormedNode, Each, Digit, Formed}
use Rattle.model.proofs.Sides.{along_assoc, along_nil, nil_along, fill_full, fill_room, items_three_at, items_deep_at, items_sides, formed_three_at, formed_deep_at, levels_deep_at, near_of}
use Rattle.model.proofs.Totals.{WeighedNode, WeighedEach, Weighed, sound, weighed, weighed_three_at, weighed_deep_at}
use Rattle.model.specs.Statements.{PushForms, PushItems, PushMeasures}
use Rattle.model.proofs.Forms.{decides_formed}

module _ {I T Q : Type 0} (q : Algebra I T Q) (s : Side) where
  grow_items : (x : Node I T) (v : Fill (Node I T)) (ds : List (Node I T)) → fill ds ≡ v → (m : Tree I T) (far : List (Node I T)) (into : Node I T → Tree I T) → ((y : Node I T) → items (into y) ≡ along s (items_node y) (items m)) → items (grow q s x v ds m far into) ≡ along s (items_node x) (along s (run s ds) (along s (items m) (run (other s) far)))
  grow_items x room ds e m far into h = items_deep_at q s (x ∷ ds) m far ∙ along_assoc s _ _ _
  grow_items x (full a b c d) ds e m far into h = rw (fill_full ds a b c d e) (items_deep_at q s (x ∷ a ∷ []) (into (three_at q s b c d)) far ∙ simp (h, items_three_at, along_assoc, along_nil))

  pub push_items : (k : ℕ) (x : Node I T) (t : Tree I T) → Formed k t → items (push q s x t) ≡ along s (items_node x) (items t)
  push_items k x none w = sym (along_nil s _)
  push_items k x (single y) w = items_deep_at q s (x ∷ []) none (y ∷ []) ∙ simp (along_nil, nil_along)
  push_items k x (deep t n f m b) w = grow_items x (fill (near s f b)) (near s f b) refl m (near (other s) f b) (λ y. push q s y m) (λ y. push_items (suc k) y m w.1.1.0) ∙ ap (along s (items_node x)) (sym (items_sides s f m b))
  push_items k x torn w = elim w [ ]

  grow_formed : (k : ℕ) (x : Node I T) (v : Fill (Node I T)) (ds : List (Node I T)) → fill ds ≡ v → (m : Tree I T) (far : List (Node I T)) (into : Node I T → Tree I T) → ((y : Node I T) → FormedNode (suc k) y → Formed (suc k) (into y)) → FormedNode k x → Digit k ds → Formed (suc k) m → Digit k far → Formed k (grow q s x v ds m far into)
  grow_formed k x room ds e m far into h w u v o = formed_deep_at q s k (x ∷ ds) m far (omega arith, (fill_room ds e u.1.0, (w, u.1.1))) v o
  grow_formed k x (full a b c d) ds e m far into h w u v o =
      let each = subst (Each k) (fill_full ds a b c d e) u.1.1 in
      formed_deep_at q s k (x ∷ a ∷ []) (into (three_at q s b c d)) far (omega arith, (omega arith, (w, (each.0, tt)))) (h (three_at q s b c d) (formed_three_at q s k b c d each.1.0 each.1.1.0 each.1.1.1.0)) o

  pub push_formed : (k : ℕ) (x : Node I T) (t : Tree I T) → FormedNode k x → Formed k t → Formed k (push q s x t)
  push_formed k x none u w = u
  push_formed k x (single y) u w = formed_deep_at q s k (x ∷ []) none (y ∷ []) (omega arith, (omega arith, (u, tt))) tt (omega arith, (omega arith, (w, tt)))
  push_formed k x (deep t n f m b) u w = grow_formed k x (fill (near s f b)) (near s f b) refl m (near (other s) f b) (λ y. push q s y m) (λ y v. push_formed (suc k) y m v w.1.1.0) u (near_of (Digit k) s f b w.1.0 w.1.1.1) w.1.1.0 (near_of (Digit k) (other s) f b w.1.0 w.1.1.1)
  push_formed k x torn u w = elim w [ ]

  grow_levels : (x : Node I T) (v : Fill (Node I T)) (ds : List (Node I T)) (m : Tree I T) (far : List (Node I T)) (into : Node I T → Tree I T) → ((y : Node I T) → (levels (into y) ≡ levels m) ⊎ (levels (into y) ≡ suc (levels m))) → (levels (grow q s x v ds m far into) ≡ suc (levels m)) ⊎ (levels (grow q s x v ds m far into) ≡ suc (suc (levels m)))
  grow_levels x room ds m far into h = inl (levels_deep_at q s (x ∷ ds) m far)
  grow_levels x (full a b c d) ds m far into h =
      let l = levels_deep_at q s (x ∷ a ∷ []) (into (three_at q s b c d)) far in
      elim (h (three_at q s b c d)) [ inl e ↦ inl (l ∙ ap suc e) | inr e ↦ inr (l ∙ ap suc e) ]

  pub push_levels : (k : ℕ) (x : Node I T) (t : Tree I T) → Formed k t → (levels (push q s x t) ≡ levels t) ⊎ (levels (push q s x t) ≡ suc (levels t))
  push_levels k x none w = inr refl
  push_levels k x (single y) w = inl (levels_deep_at q s (x ∷ []) none (y ∷ []))
  push_levels k x (deep t n f m b) w = grow_levels x (fill (near s f b)) (near s f b) m (near (other s) f b) (λ y. push q s y m) (λ y. push_levels (suc k) y m w.1.1.0)
  push_levels k x torn w = elim w [ ]

module _ {I T Q : Type 0} {k : Algebra I T Q} (laws : Laws k) (s : Side) where
  grow_weighed : (x : Node I T) (v : Fill (Node I T)) (ds : List (Node I T)) → fill ds ≡ v → (m : Tree I T) (far : List (Node I T)) (into : Node I T → Tree I T) → ((y : Node I T) → WeighedNode k y → Weighed k (into y)) → WeighedNode k x → WeighedEach k ds → Weighed k m → WeighedEach k far → Weighed k (grow k s x v ds m far into)
  grow_weighed x room ds e m far into h w u v o = weighed_deep_at laws s (x ∷ ds) m far (w, u) v o
  grow_weighed x (full a b c d) ds e m far into h w u v o =
      let each = subst (WeighedEach k) (fill_full ds a b c d e) u in
      weighed_deep_at laws s (x ∷ a ∷ []) (into (three_at k s b c d)) far (w, (each.0, tt)) (h (three_at k s b c d) (weighed_three_at laws s b c d each.1.0 each.1.1.0 each.1.1.1.0)) o

  pub push_weighed : (x : Node I T) (t : Tree I T) → WeighedNode k x → Weighed k t → Weighed k (push k s x t)
  push_weighed x none u w = u
  push_weighed x (single y) u w = weighed_deep_at laws s (x ∷ []) none (y ∷ []) (u, tt) tt (w, tt)
  push_weighed x (deep t n f m b) u w = grow_weighed x (fill (near s f b)) (near s f b) refl m (near (other s) f b) (λ y. push k s y m) (λ y v. push_weighed y m v w.1.1.0) u (near_of (WeighedEach k) s f b w.1.0 w.1.1.1) w.1.1.0 (near_of (WeighedEach k) (other s) f b w.1.0 w.1.1.1)
  push_weighed x torn u w = tt

pub push_forms : {I T Q : Type 0} (q : Algebra I T Q) → PushForms q
push_forms q s x d t h =
    let w = (decides_formed d 0 t).0 h in
    let f = push_formed q s 0 (leaf x) t tt w.1 in
    elim (push_levels q s 0 (leaf x) t w.1) [ inl e ↦ inl ((decides_formed d 0 (push q s (leaf x) t)).1 (e ∙ w.0, f)) | inr e ↦ inr ((decides_formed (suc d) 0 (push q s (leaf x) t)).1 (e ∙ ap suc w.0, f)) ]

pub push_adds : {I T Q : Type 0} (q : Algebra I T Q) → PushItems q
push_adds q s x d t h = push_items q s 0 (leaf x) t ((decides_formed d 0 t).0 h).1

pub push_measures : {I T Q : Type 0} {k : Algebra I T Q} → Laws k → PushMeasures k
push_measures {k = k} laws s x t h w = sound k (push k s (leaf x) t) (push_weighed laws s (leaf x) t h (weighed k t w))
