-- What the marks and the judging of the cells make together. Assumes nothing.
use Rattle.std.proofs.Common.{◌≡◌, ℕ, zero, suc, ◌+◌, ◌≤◌, Bool, true, false, cond, List, length, take, sym, refl, ap, ◌∙◌, arith, take_all}
use Rattle.std.proofs.lemmas.List.Sums.{sum_by_more}
use Rattle.cells.specs.Cells.{blank, body, marked, is_free}
use Rattle.cells.specs.Chain.{free_cells}
use Rattle.cells.specs.declared.cell.Cell.{Cell}
use Rattle.cells.specs.declared.cell.Body.TheVariants.{Free}
use Rattle.cells.specs.declared.cell.FreeList.{FreeList}
use Rattle.sweep.specs.declared.version.Version.{Version}
use Rattle.sweep.specs.Kept.{KeptWhole, stood_on}
use Rattle.sweep.specs.Marks.{Marked}
use Rattle.sweep.specs.Frees.{Judging}
use Rattle.sweep.specs.Swept.{left_over, Swept}
use Rattle.sweep.proofs.Members.{among_in, in_among}
use Rattle.sweep.proofs.Reaching.{table_cells, formed_all, stands_table, in_table}
use Rattle.sweep.proofs.Rereading.{same_tree}

module _ {I T : Type 0} (h : List (Cell I T)) (table : List Version) (whole : KeptWhole h table) where
  live : (q : ℕ) → stood_on h table q ≡ true → is_free (body h q) ≡ false
  live q e = (stands_table h table (formed_all h table whole)).live q (among_in (table_cells h table) q e)

  module _ (h1 : List (Cell I T)) (m : Marked h table h1) where
    pub marked_live : (q : ℕ) → marked h1 q ≡ true → is_free (body h1 q) ≡ false
    marked_live q black = ap is_free (m.same q) ∙ live q (sym (m.are q) ∙ black)

    module _ (h' : List (Cell I T)) (f' : FreeList) (long : length h' ≡ length h) (j : Judging h1 0 h' f') where
      now : (q : ℕ) → body h' q ≡ cond (stood_on h table q) (body h q) Free
      now q = j.high q (omega arith) ∙ ap (λ t. cond t (body h1 q) Free) (m.are q) ∙ ap (λ b. cond (stood_on h table q) b Free) (m.same q)

      kept : (q : ℕ) → stood_on h table q ≡ true → body h' q ≡ body h q
      kept q e = now q ∙ ap (λ t. cond t (body h q) Free) e

      freed : (q : ℕ) → stood_on h table q ≡ false → body h' q ≡ Free
      freed q e = now q ∙ ap (λ t. cond t (body h q) Free) e

      one : (q : ℕ) (t : Bool) → stood_on h table q ≡ t → ◌≡◌ {A = ℕ} (cond (is_free (body h' q)) 1 0) (cond t 0 1)
      one q true e = ap (λ b. cond b 1 0) (ap is_free (kept q e) ∙ live q e)
      one q false e = ap (λ b. cond b 1 0) (ap is_free (freed q e))

      counted : (n : ℕ) → n ≤ length h' → free_cells (take n h') ≡ left_over h table n
      counted zero l = refl
      counted (suc n) l =
          let up : suc n ≡ n + 1 = omega arith in
          let before = counted n (omega arith) in
          let more : free_cells (take (suc n) h') ≡ free_cells (take n h') + cond (is_free (body h' n)) 1 0 = ap (λ m. free_cells (take m h')) up ∙ sum_by_more (λ (c : Cell I T). cond (is_free c.body) 1 0) h' n blank (omega arith) in
          let here = one n (stood_on h table n) refl in
          omega (arith, more, before, here)

      pub swept : Swept h table h'
      swept = record {
        long = long;
        kept = kept;
        freed = freed;
        reads = λ v r k. same_tree h h' r.levels 0 r.at (λ q i. kept q (in_among (table_cells h table) q (in_table h table v r k q i)));
        free = ap free_cells (sym (take_all (length h') h' (omega arith))) ∙ counted (length h') (omega arith) ∙ ap (left_over h table) long;
      }
