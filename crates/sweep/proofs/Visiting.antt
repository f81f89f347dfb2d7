-- The visits, one after another, and what is marked when no cell waits. Assumes nothing.
use Rattle.std.proofs.Common.{◌≡◌, ℕ, ◌<◌, ◌^◌, true, false, not, ◌⊎◌, List, length, sym, ap, ◌∙◌, subst, inl, inr, ⊎_elim, arith}
use Rattle.std.proofs.lemmas.Bool.{both_ways}
use Rattle.std.proofs.lemmas.List.Sums.{count_by-le-length}
use Rattle.std.specs.Cmp.{both_ways as agree}
use Rattle.cells.specs.Cells.{body, marked}
use Rattle.cells.specs.Chain.{chain}
use Rattle.cells.specs.declared.cell.Cell.{Cell}
use Rattle.sweep.specs.declared.mark.WorkList.{WorkList}
use Rattle.sweep.specs.declared.version.Version.{Version}
use Rattle.sweep.specs.Kept.{KeptWhole, stood_on}
use Rattle.sweep.specs.Marks.{In, children, root_cells, AllNear, Waits, Ready, Marks, popped, Marked}
use Rattle.sweep.proofs.Members.{among_in, in_among}
use Rattle.sweep.proofs.Marking.{waits_first, waits_split}
use Rattle.sweep.proofs.Standing.{Stands}
use Rattle.sweep.proofs.Reaching.{table_cells, formed_all, stands_table, roots_stand, within, all_table}

-- each root is marked; a marked cell is one that a kept version stands on, and it waits or its children are marked
pub record Marking {I T : Type 0} (h0 : List (Cell I T)) (table : List Version) (h : List (Cell I T)) (w : WorkList) : Type 0 where
  pub ready : Ready h w
  pub long : length h ≡ length h0
  pub same : (q : ℕ) → body h q ≡ body h0 q
  pub roots : (q : ℕ) → In (root_cells table) q → marked h q ≡ true
  pub only : (q : ℕ) → marked h q ≡ true → In (table_cells h0 table) q
  pub closed : (q : ℕ) → marked h q ≡ true → Waits h w q ⊎ ((r : ℕ) → In (children (body h0 q)) r → marked h r ≡ true)

module _ {I T : Type 0} (h0 : List (Cell I T)) (table : List Version) where
  pub ready_first : (w : WorkList) → length h0 < 2 ^ 32 → w.count ≡ 0 → Ready h0 w
  ready_first w few e = record {
    few = few;
    room = omega (arith, count_by-le-length (λ (c : Cell I T). not c.marked) h0);
    listed = λ q i. absurd (subst (λ n. In (chain h0 n w.first) q) e i);
  }

  module _ (whole : KeptWhole h0 table) where
    stands : Stands h0 (table_cells h0 table)
    stands = stands_table h0 table (formed_all h0 table whole)

    pub roots_near : AllNear h0 (root_cells table)
    roots_near q i = within h0 (table_cells h0 table) stands q (roots_stand h0 table q i)

    pub begun : (w0 : WorkList) (h : List (Cell I T)) (w : WorkList) → ((q : ℕ) → marked h0 q ≡ false) → Marks h0 w0 (root_cells table) h w → Marking h0 table h w
    begun w0 h w none u = record {
      ready = u.ready;
      long = u.long;
      same = u.same;
      roots = u.here;
      only = λ q m. ⊎_elim (λ (a : marked h0 q ≡ true). absurd (both_ways _ (none q) a)) (λ x. roots_stand h0 table q x.0) (u.fresh q m);
      closed = λ q m. ⊎_elim (λ (a : marked h0 q ≡ true). absurd (both_ways _ (none q) a)) (λ x. inl x.1) (u.fresh q m);
    }

    module _ (h : List (Cell I T)) (w : WorkList) (some : 0 < w.count) (m : Marking h0 table h w) where
      first_stands : In (table_cells h0 table) w.first
      first_stands = m.only w.first (m.ready.listed w.first (waits_first h w some))

      children_stand : (r : ℕ) → In (children (body h w.first)) r → In (table_cells h0 table) r
      children_stand r j = stands.closed w.first first_stands r (subst (λ b. In (children b) r) (m.same w.first) j)

      pub children_near : AllNear h (children (body h w.first))
      children_near r j = let l = within h0 (table_cells h0 table) stands r (children_stand r j) in omega (arith, l, m.long)

      pub visited : (h' : List (Cell I T)) (w' : WorkList) → Marks h (popped h w) (children (body h w.first)) h' w' → Marking h0 table h' w'
      visited h' w' u = record {
        ready = u.ready;
        long = u.long ∙ m.long;
        same = λ q. u.same q ∙ m.same q;
        roots = λ q i. u.keeps q (m.roots q i);
        only = λ q n. ⊎_elim (λ (a : marked h q ≡ true). m.only q a) (λ x. children_stand q x.0) (u.fresh q n);
        closed = λ q n. ⊎_elim (λ (a : marked h q ≡ true). before q (m.closed q a)) (λ x. inl x.1) (u.fresh q n);
      }
        where
          before : (q : ℕ) → Waits h w q ⊎ ((r : ℕ) → In (children (body h0 q)) r → marked h r ≡ true) → Waits h' w' q ⊎ ((r : ℕ) → In (children (body h0 q)) r → marked h' r ≡ true)
          before q (inl i) =
              ⊎_elim (λ (e : w.first ≡ q). inr (λ r j. u.here r (subst (λ b. In (children b) r) (sym (ap (body h) e ∙ m.same q)) j))) (λ a. inl (u.waiting q a)) (waits_split h w.count w.first q i)
          before q (inr closed) = inr (λ r j. u.keeps r (closed r j))

    pub ended : (h : List (Cell I T)) (w : WorkList) → w.count ≡ 0 → Marking h0 table h w → Marked h0 table h
    ended h w e m = record { long = m.long; same = m.same; are = λ q. agree (marked h q) (stood_on h0 table q) (λ n. in_among (table_cells h0 table) q (m.only q n)) (λ n. all q (among_in (table_cells h0 table) q n)) }
      where
        further : (q : ℕ) → marked h q ≡ true → (r : ℕ) → In (children (body h0 q)) r → marked h r ≡ true
        further q n = ⊎_elim (λ (i : Waits h w q). absurd (subst (λ k. In (chain h k w.first) q) e i)) (λ (closed : (r : ℕ) → In (children (body h0 q)) r → marked h r ≡ true). closed) (m.closed q n)

        all : (q : ℕ) → In (table_cells h0 table) q → marked h q ≡ true
        all = all_table h0 (λ q. marked h q ≡ true) further table (formed_all h0 table whole) m.roots
