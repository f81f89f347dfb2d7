-- Where a question is met in a row of items, in parts. Assumes nothing.
use Rattle.std.proofs.Common.{◌≡◌, ℕ, ◌+◌, true, false, List, [], ◌∷◌, ◌++◌, length, sym, refl, ap, ◌∙◌, ap₂, arith}
use Rattle.kinds.specs.Algebra.{Algebra, Laws}
use Rattle.model.specs.Tree.{Node, leaf, two, three, gap, single, items_node}
use Rattle.model.specs.Forms.{FormedNode}
use Rattle.model.specs.Measures.{Admitted, total}
use Rattle.model.specs.Split.{choose}
use Rattle.model.specs.Seek.{missed, found, seek_from}
use Rattle.model.specs.Statements.{Sound}
use Rattle.model.proofs.Totals.{WeighedEach, sound, weighed, fair_total, total_append}
use Rattle.model.proofs.Seeking.{seek_skips}
use Rattle.cells.specs.Made.{Weighed}
use Rattle.cells.specs.declared.cell.Weight.{Weight}
use Rattle.seeks.specs.Spots.{MetIn, SoundEach}

module _ {I T Q : Type 0} (k : Algebra I T Q) where
  pub each_weighed : (ds : List (Node I T)) → SoundEach k ds → WeighedEach k ds
  each_weighed [] s = tt
  each_weighed (a ∷ more) s = (weighed k (single a) s.0, each_weighed more s.1)

  pub each_sound : (ds : List (Node I T)) → WeighedEach k ds → SoundEach k ds
  each_sound [] w = tt
  each_sound (a ∷ more) w = (sound k (single a) w.0, each_sound more w.1)

  -- next is what p and the items xs after it come to
  abbrev pub Reached : Weight T → List I → Weight T → Type 0
  Reached p xs next = Weighed (k.joined p.total (total k xs)) (p.items + length xs) next

  -- w, which is what the items xs come to, is added to p
  pub added : {t : T} {n : ℕ} (p w next : Weight T) → Weighed t n w → Weighed (k.joined p.total w.total) (p.items + w.items) next → (xs : List I) → t ≡ total k xs → n ≡ length xs → Reached p xs next
  added p w next u v xs e l = record {
    total_is = v.total_is ∙ ap (k.joined p.total) (u.total_is ∙ e);
    items_are = omega (arith, v.items_are, u.items_are, l);
  }

module _ {I T Q : Type 0} {k : Algebra I T Q} (q : Q) (p : Weight T) where
  -- the whole row is the node
  pub met_here : (a : Node I T) → Sound k (single a) → k.fair p.total → k.met (k.joined p.total (total k (items_node a))) q ≡ true → MetIn k q p (items_node a) p a
  met_here a s f i = record { sound = s; fair = f; met = i; same = refl }

  module _ {xs : List I} {w : Weight T} {a : Node I T} where
    -- in the first part
    pub met_first : (ys : List I) → seek_from k q p.items p.total (xs ++ ys) ≡ seek_from k q p.items p.total xs → MetIn k q p xs w a → MetIn k q p (xs ++ ys) w a
    met_first ys e m = record { sound = m.sound; fair = m.fair; met = m.met; same = e ∙ m.same }

    -- in a node, and there in a part of it
    pub met_below : {v : Weight T} {b : Node I T} → MetIn k q p xs w a → MetIn k q w (items_node a) v b → MetIn k q p xs v b
    met_below m l = record { sound = l.sound; fair = l.fair; met = l.met; same = m.same ∙ l.same }

module _ {I T Q : Type 0} {k : Algebra I T Q} (laws : Laws k) (q : Q) (p : Weight T) (f : k.fair p.total) (xs ys : List I) (u : Admitted k xs) where
  joined_later : Admitted k ys → k.joined (k.joined p.total (total k xs)) (total k ys) ≡ k.joined p.total (total k (xs ++ ys))
  joined_later v = laws.assoc _ _ _ f (fair_total laws xs u) (fair_total laws ys v) ∙ ap (k.joined p.total) (sym (total_append laws xs ys u v))

  -- after a first part that does not meet the question
  module _ (next : Weight T) (r : Reached k p xs next) where
    pub fair_later : k.fair next.total
    fair_later = rw r.total_is (laws.closed _ _ f (fair_total laws xs u))

    pub ends_later : Admitted k ys → k.met (k.joined p.total (total k (xs ++ ys))) q ≡ true → k.met (k.joined next.total (total k ys)) q ≡ true
    ends_later v i = ap (λ z. k.met (k.joined z (total k ys)) q) r.total_is ∙ ap (λ z. k.met z q) (joined_later v) ∙ i

    pub met_later : {w : Weight T} {a : Node I T} → k.met next.total q ≡ false → MetIn k q next ys w a → MetIn k q p (xs ++ ys) w a
    met_later o m = record {
      sound = m.sound;
      fair = m.fair;
      met = m.met;
      same = seek_skips laws q p.items p.total xs ys f u (ap (λ z. k.met z q) (sym r.total_is) ∙ o) ∙ ap₂ (λ n z. seek_from k q n z ys) (sym r.items_are) (sym r.total_is) ∙ m.same;
    }

-- a node at level 0 is an item
pub met_item : {I T Q : Type 0} {k : Algebra I T Q} (laws : Laws k) (q : Q) (p : Weight T) (xs : List I) (w : Weight T) (a : Node I T) → FormedNode 0 a → MetIn k q p xs w a → found w.items w.total ≡ seek_from k q p.items p.total xs
met_item {k = k} laws q p xs w (leaf x) v m =
    let now : k.joined w.total (k.measure x) ≡ k.joined w.total (total k (x ∷ [])) = ap (k.joined w.total) (sym (laws.right _ (laws.single x m.sound.1.0))) in
    sym (m.same ∙ ap (λ b. choose b (found w.items w.total) missed) (ap (λ z. k.met z q) now ∙ m.met))
met_item laws q p xs w (two y c a b) v m = elim v [ ]
met_item laws q p xs w (three y c a b d) v m = elim v [ ]
met_item laws q p xs w gap v m = elim v [ ]
