-- Roots that are whole. Assumes nothing.
use Rattle.std.proofs.Common.{◌≡◌, ℕ, suc, ◌+◌, ◌-◌, ◌^◌, ◌<◌, ◌≤◌, List, length, sym, refl, ap, ◌∙◌, subst, ⊎_elim, arith, pow_mono}
use Rattle.std.proofs.lemmas.Bool.{cases_lt}
use Rattle.kinds.specs.Algebra.{Algebra}
use Rattle.model.specs.Tree.{Tree, count, items, levels}
use Rattle.model.specs.Forms.{Formed}
use Rattle.model.specs.Levels.{most_levels}
use Rattle.model.specs.Statements.{Sound}
use Rattle.model.proofs.Forms.{decides_formed, count_is}
use Rattle.model.proofs.Doubling.{most_is_largest, levels_within}
use Rattle.cells.specs.Chain.{Extends}
use Rattle.cells.specs.Made.{MadeTree}
use Rattle.cells.specs.declared.cell.Cell.{Cell}
use Rattle.cells.specs.declared.cell.Root.{Root}
use Rattle.cells.proofs.Frames.{keep_tree, grown_most}
use Rattle.cells.proofs.Opened.{levels_read}
use Rattle.lists.specs.Lists.{tree_at, list_at, Whole, Right, Made}

module _ {I T : Type 0} (h : List (Cell I T)) (r : Root) (w : Whole h r) where
  pub formed_at : Formed 0 (tree_at h r)
  formed_at = ((decides_formed r.levels 0 (tree_at h r)).0 w).1

  pub count_at : count (tree_at h r) ≡ length (list_at h r)
  count_at = count_is 0 (tree_at h r) formed_at

  pub low_at : r.levels ≤ most_levels (length (list_at h r))
  low_at = levels_within r.levels (tree_at h r) w

-- no list that a count holds has more levels
pub shallow : (n : ℕ) → n < 2 ^ 32 → most_levels n ≤ 31
shallow n small =
    ⊎_elim
    (λ (deep : 31 < most_levels n).
    let d = most_levels n - 1 in
    let is : most_levels n ≡ suc d = omega arith in
    let high : 31 ≤ d = omega arith in
    absurd (omega (arith, (most_is_largest n).0 d is, pow_mono high)))
    (λ (low : most_levels n ≤ 31). low)
    (cases_lt 31 (most_levels n))

-- a formed tree has at most the levels for its items
pub low_levels : {I T : Type 0} (t : Tree I T) → Formed 0 t → levels t ≤ most_levels (length (items t))
low_levels t w = levels_within (levels t) t ((decides_formed (levels t) 0 t).1 (refl, w))

pub whole_from : {I T : Type 0} (h : List (Cell I T)) (r : Root) → Formed 0 (tree_at h r) → Whole h r
whole_from h r f = (decides_formed r.levels 0 (tree_at h r)).1 (levels_read h r.levels 0 r.at f, f)

pub some_most : (n : ℕ) → 1 ≤ most_levels (n + 1)
some_most n = (most_is_largest (n + 1)).1 0 (omega arith)

module _ {I T : Type 0} {h h' : List (Cell I T)} where
  pub stays_from : Extends h h' → (old : Root) → Whole h old → tree_at h' old ≡ tree_at h old
  stays_from x old w = keep_tree x old.levels 0 old.at (formed_at h old w)

  -- what was made of a formed tree, as a list
  pub made_from : {c : ℕ} {r : Root} {t : Tree I T} (most : ℕ) (xs : List I) → MadeTree h h' c 0 r t → Formed 0 t → items t ≡ xs → c ≤ most → Made h h' most r xs
  made_from {c} {r} {t} most xs u w e l =
      record {
        grown = grown_most most u.grown l;
        stays = stays_from u.grown.extends;
        whole = whole_from h' r (subst (Formed 0) (sym u.reads) w);
        list = ap items u.reads ∙ e;
      }

  pub right_from : {Q : Type 0} (k : Algebra I T Q) {c : ℕ} {r : Root} {t : Tree I T} → MadeTree h h' c 0 r t → Sound k t → Right k h' r
  right_from k u s = subst (Sound k) (sym u.reads) s
