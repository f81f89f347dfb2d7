-- What is sought in a row of items. Assumes nothing.
use Rattle.std.proofs.Common.{◌≡◌, ℕ, zero, suc, ◌+◌, ◌-◌, ◌<◌, ◌≤◌, Bool, true, false, List, [], ◌∷◌, ◌++◌, length, take, sym, refl, ap, ◌∙◌, subst, ap₂, true≢false, append-nil, arith, take_all}
use Rattle.std.proofs.ByRecursion.{All-take}
use Rattle.kinds.specs.Algebra.{Algebra, Laws}
use Rattle.model.specs.Measures.{Admitted, total}
use Rattle.model.specs.Split.{choose}
use Rattle.model.specs.Seek.{Sought, missed, found, seek_from, seek, Least, WellSought}
use Rattle.model.specs.Statements.{Between, SeekFinds, SeekDecides, SeekSkips, SeekLands, AlikeSeeks}
use Rattle.model.proofs.Totals.{fair_total}

module _ {I T Q : Type 0} {k : Algebra I T Q} (laws : Laws k) where
  -- what is not met by more is not met by less
  pub unmet_before : (x y : T) (q : Q) → k.fair x → k.met (k.joined x y) q ≡ false → k.met x q ≡ false
  unmet_before x y q f h = go (k.met x q) refl
    where
      go : (b : Bool) → k.met x q ≡ b → k.met x q ≡ false
      go true e = absurd (true≢false (sym (laws.grows x y q f e) ∙ h))
      go false e = e

  -- an item more
  fair_next : (acc : T) (x : I) → k.fair acc → k.admitted x ≡ true → k.fair (k.joined acc (k.measure x))
  fair_next acc x f h = laws.closed _ _ f (laws.single x h)

  regroup : (acc : T) (x : I) (xs : List I) → k.fair acc → k.admitted x ≡ true → Admitted k xs → k.joined (k.joined acc (k.measure x)) (total k xs) ≡ k.joined acc (total k (x ∷ xs))
  regroup acc x xs f h i = laws.assoc _ _ _ f (laws.single x h) (fair_total laws xs i)

  pub seek_skips : SeekSkips k
  seek_skips q n acc [] ys f h u = let same = laws.right acc f in ap₂ (λ m z. seek_from k q m z ys) (let e : n ≡ n + 0 = omega arith in e) (sym same)
  seek_skips q n acc (x ∷ xs) ys f h u =
      let next = k.joined acc (k.measure x) in
      let same = regroup acc x xs f h.0 h.1 in
      let later = ap (λ z. k.met z q) same ∙ u in
      let now = unmet_before next (total k xs) q (fair_next acc x f h.0) later in
      let e : suc n + length xs ≡ n + suc (length xs) = omega arith in
      ap (λ b. choose b (found n acc) (seek_from k q (suc n) next (xs ++ ys))) now ∙ seek_skips q (suc n) next xs ys (fair_next acc x f h.0) h.1 later ∙ ap₂ (λ m z. seek_from k q m z ys) e same

  pub seek_lands : SeekLands k
  seek_lands q n acc [] ys f h o i = absurd (true≢false (sym i ∙ ap (λ z. k.met z q) (laws.right acc f) ∙ o))
  seek_lands q n acc (x ∷ xs) ys f h o i = go (k.met next q) refl (λ e. seek_lands q (suc n) next xs ys (fair_next acc x f h.0) h.1 e (ap (λ z. k.met z q) (regroup acc x xs f h.0 h.1) ∙ i))
    where
      next : T
      next = k.joined acc (k.measure x)

      wider : (s : Sought T) → Between (suc n) (suc n + length xs) s → Between n (n + suc (length xs)) s
      wider missed w = w
      wider (found j t) w = (omega (arith, w.0), omega (arith, w.1))

      go : (b : Bool) → k.met next q ≡ b → (k.met next q ≡ false → (seek_from k q (suc n) next (xs ++ ys) ≡ seek_from k q (suc n) next xs) × Between (suc n) (suc n + length xs) (seek_from k q (suc n) next xs)) → (choose b (found n acc) (seek_from k q (suc n) next (xs ++ ys)) ≡ choose b (found n acc) (seek_from k q (suc n) next xs)) × Between n (n + suc (length xs)) (choose b (found n acc) (seek_from k q (suc n) next xs))
      go true e ih = (refl, (omega arith, omega arith))
      go false e ih = ((ih e).0, wider (seek_from k q (suc n) next xs) (ih e).1)

  -- a row that is not empty, and at whose end the question is met, is where it is met
  pub seek_stops : (q : Q) (n : ℕ) (acc : T) (xs ys : List I) → k.fair acc → Admitted k xs → 1 ≤ length xs → k.met (k.joined acc (total k xs)) q ≡ true → seek_from k q n acc (xs ++ ys) ≡ seek_from k q n acc xs
  seek_stops q n acc [] ys f h l i = absurd (omega arith)
  seek_stops q n acc (x ∷ xs) ys f h l i = go (k.met next q) refl
    where
      next : T
      next = k.joined acc (k.measure x)

      go : (b : Bool) → k.met next q ≡ b → choose b (found n acc) (seek_from k q (suc n) next (xs ++ ys)) ≡ choose b (found n acc) (seek_from k q (suc n) next xs)
      go true e = refl
      go false e = (seek_lands q (suc n) next xs ys (fair_next acc x f h.0) h.1 e (ap (λ z. k.met z q) (regroup acc x xs f h.0 h.1) ∙ i)).0

  -- what seek_from gives: the item at the offset o
  record From (q : Q) (n : ℕ) (acc : T) (xs : List I) (j : ℕ) (t : T) : Type 0 where
    o : ℕ
    place : j ≡ n + o
    within : o < length xs
    before : t ≡ k.joined acc (total k (take o xs))
    met : k.met (k.joined acc (total k (take (suc o) xs))) q ≡ true
    unmet : (i : ℕ) → i < o → k.met (k.joined acc (total k (take (suc i) xs))) q ≡ false

  abbrev WellFrom : Q → ℕ → T → List I → Sought T → Type 0
  WellFrom q n acc xs missed = (i : ℕ) → i < length xs → k.met (k.joined acc (total k (take (suc i) xs))) q ≡ false
  WellFrom q n acc xs (found j t) = From q n acc xs j t

  from : (q : Q) (n : ℕ) (acc : T) (xs : List I) → k.fair acc → Admitted k xs → WellFrom q n acc xs (seek_from k q n acc xs)
  from q n acc [] f h = λ i l. absurd (omega arith)
  from q n acc (x ∷ xs) f h = go (k.met next q) refl (seek_from k q (suc n) next xs) (from q (suc n) next xs (fair_next acc x f h.0) h.1)
    where
      next : T
      next = k.joined acc (k.measure x)

      step : (i : ℕ) → k.joined next (total k (take i xs)) ≡ k.joined acc (total k (take (suc i) (x ∷ xs)))
      step i = regroup acc x (take i xs) f h.0 (All-take (λ y. k.admitted y ≡ true) i xs h.1)

      one : k.joined acc (total k (take 1 (x ∷ xs))) ≡ next
      one = ap (k.joined acc) (laws.right _ (laws.single x h.0))

      below : (m : ℕ) → k.met next q ≡ false → ((i : ℕ) → i < m → k.met (k.joined next (total k (take (suc i) xs))) q ≡ false) → (i : ℕ) → i < suc m → k.met (k.joined acc (total k (take (suc i) (x ∷ xs)))) q ≡ false
      below m e w zero l = ap (λ z. k.met z q) one ∙ e
      below m e w (suc i) l = ap (λ z. k.met z q) (sym (step (suc i))) ∙ w i (omega arith)

      go : (b : Bool) → k.met next q ≡ b → (s : Sought T) → WellFrom q (suc n) next xs s → WellFrom q n acc (x ∷ xs) (choose b (found n acc) s)
      go true e s w = record { o = 0; place = omega arith; within = omega arith; before = sym (laws.right acc f); met = ap (λ z. k.met z q) one ∙ e; unmet = λ i l. absurd (omega arith) }
      go false e missed w = below (length xs) e w
      go false e (found j t) w = record { o = suc w.o; place = omega (arith, w.place); within = omega (arith, w.within); before = w.before ∙ step w.o; met = ap (λ z. k.met z q) (sym (step (suc w.o))) ∙ w.met; unmet = below w.o e w.unmet }

  pub seek_finds : SeekFinds k
  seek_finds q xs h = go (seek k q xs) (from q 0 k.nothing xs laws.none h)
    where
      whole : (i : ℕ) → k.joined k.nothing (total k (take i xs)) ≡ total k (take i xs)
      whole i = laws.left _ (fair_total laws (take i xs) (All-take (λ y. k.admitted y ≡ true) i xs h))

      go : (s : Sought T) → WellFrom q 0 k.nothing xs s → WellSought k q xs s
      go missed w = λ i l. ap (λ z. k.met z q) (sym (whole (suc i))) ∙ w i l
      go (found j t) w =
          let e : w.o ≡ j = omega (arith, w.place) in
          subst (λ j. Least k q xs j t) e (record { within = w.within; before = w.before ∙ whole w.o; met = ap (λ z. k.met z q) (sym (whole (suc w.o))) ∙ w.met; unmet = λ i l. ap (λ z. k.met z q) (sym (whole (suc i))) ∙ w.unmet i l })

  pub seek_decides : SeekDecides k
  seek_decides q xs h = (λ l e. hit l e (seek k q xs) (seek_finds q xs h), miss)
    where
      hit : 1 ≤ length xs → k.met (total k xs) q ≡ true → (s : Sought T) → WellSought k q xs s → Between 0 (length xs) s
      hit l e missed w =
          let n = length xs - 1 in
          let last : suc n ≡ length xs = omega arith in
          let all = take_all (suc n) xs (omega arith) in
          absurd (true≢false (sym e ∙ sym (ap (λ ys. k.met (total k ys) q) all) ∙ w n (omega arith)))
      hit l e (found j t) w = (omega arith, w.within)

      miss : k.met (total k xs) q ≡ false → seek k q xs ≡ missed
      miss e = ap (seek k q) (sym (append-nil xs)) ∙ seek_skips q 0 k.nothing xs [] laws.none h (ap (λ z. k.met z q) (laws.left _ (fair_total laws xs h)) ∙ e)

pub alike_seeks : {I T Q : Type 0} (k : Algebra I T Q) → AlikeSeeks k
alike_seeks k [] [] a = (refl, λ q n acc. refl)
alike_seeks k [] (y ∷ ys) a = absurd (omega (arith, a.long))
alike_seeks k (x ∷ xs) [] a = absurd (omega (arith, a.long))
alike_seeks k (x ∷ xs) (y ∷ ys) a =
    let e = a.same 0 x in
    let r = alike_seeks k xs ys (record { long = omega (arith, a.long); same = λ i d. a.same (suc i) d }) in
    (ap₂ k.joined e r.0, λ q n acc. ap (λ m. choose (k.met (k.joined acc m) q) (found n acc) (seek_from k q (suc n) (k.joined acc m) xs)) e ∙ ap (choose (k.met (k.joined acc (k.measure y)) q) (found n acc)) (r.1 q (suc n) (k.joined acc (k.measure y))))
