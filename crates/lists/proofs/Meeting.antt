-- A list cut by a question. Assumes nothing.
use Rattle.std.proofs.Common.{◌≡◌, ℕ, List, length, sym, refl, ap, ◌∙◌, subst, arith}
use Rattle.std.proofs.lemmas.List.{take_all, drop_all}
use Rattle.kinds.specs.Algebra.{Algebra}
use Rattle.model.specs.Tree.{none, items}
use Rattle.model.specs.Forms.{Formed}
use Rattle.model.specs.Seek.{missed, found, seek}
use Rattle.model.specs.Statements.{Sound}
use Rattle.cells.specs.declared.cell.Cell.{Cell}
use Rattle.cells.specs.declared.cell.Root.{Root}
use Rattle.cells.proofs.Opened.{tree_none}
use Rattle.cells.proofs.Frames.{grown_none}
use Rattle.lists.specs.Lists.{tree_at, list_at, Whole, Right, PartedBy, cut_place, place_of}
use Rattle.lists.proofs.Roots.{whole_from}

abbrev pub nothing_left : Root
nothing_left = record { levels = 0; at = 0 }

module _ {I T Q : Type 0} (k : Algebra I T Q) (h : List (Cell I T)) where
  none_at : tree_at h nothing_left ≡ none
  none_at = tree_none h 0 0 0 refl

  pub missed_made : (root : Root) (q : Q) (cost : ℕ) → Whole h root → (Right k h root → missed ≡ seek k q (list_at h root)) → PartedBy k h h cost q root (record { left = root; right = nothing_left })
  missed_made root q cost whole unmet =
      let n = length (list_at h root) in
      record {
        at = n;
        made = record {
          grown = grown_none cost;
          stays = λ old w. refl;
          left_whole = whole;
          left_list = sym (take_all n (list_at h root) (omega arith));
          right_whole = whole_from h nothing_left (subst (λ t. Formed 0 t) (sym none_at) tt);
          right_list = ap items none_at ∙ sym (drop_all n (list_at h root) (omega arith));
        };
        place = λ right. ap (place_of n) (unmet right);
      }

  pub missed_right : (root : Root) → Right k h root → Right k h root × Right k h nothing_left
  missed_right root right = (right, subst (Sound k) (sym none_at) (tt, tt))

pub met_place : {I T Q : Type 0} (k : Algebra I T Q) (q : Q) (xs : List I) (j : ℕ) (t : T) → found j t ≡ seek k q xs → j ≡ cut_place k q xs
met_place k q xs j t e = ap (place_of (length xs)) e
