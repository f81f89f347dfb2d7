-- Sorted, the placed targets are in label order. Assumes nothing.
use Rattle.std.proofs.Common.{◌≡◌, ℕ, zero, suc, ◌+◌, ◌<◌, ◌≤◌, true, false, cond, List, ◌++◌, length, get_or, drop, sym, ◌∙◌, subst, ⊎_elim, add-one, arith}
use Rattle.std.specs.List.Sorted.{IsPermutation, IsSorted}
use Rattle.std.proofs.lemmas.List.{get_or_default, take_at, drop_at}
use Rattle.std.proofs.lemmas.List.Sorted.{length_permutation, sum_by-IsPermutation}
use Rattle.std.proofs.lemmas.Bool.{cases_order}
use Rattle.kinds.specs.declared.targets.Target.{Target}
use Rattle.labels.specs.declared.Label.{Label}
use Rattle.labels.specs.Labels.{placed, earlier, rank, Labelled, Written}
use Rattle.labels.proofs.Places.{length_placed, shuffled_stands, shuffled_apart}
use Rattle.labels.proofs.Counts.{count_first}
use Rattle.labels.proofs.Only.{one_order}
use Rattle.labels.proofs.Orders.{by_label, earlier_self, earlier_not_back, earlier_chain, sorted_earlier}

module _ (ls : List Label) (next : (k : ℕ) (d : Label) → k + 1 < length ls → earlier (get_or ls k d) (get_or ls (k + 1) d) ≡ true) where
  climbs : (i j : ℕ) (d : Label) → i < j → j < length ls → earlier (get_or ls i d) (get_or ls j d) ≡ true
  climbs i zero d l h = absurd (omega arith)
  climbs i (suc j) d l h =
      let step : earlier (get_or ls j d) (get_or ls (suc j) d) ≡ true = rw add-one at (next j d (omega arith)) in
      ⊎_elim
      (λ e. subst (λ m. earlier (get_or ls m d) (get_or ls (suc j) d) ≡ true) (sym e) step)
      (⊎_elim
      (λ m. earlier_chain (get_or ls i d) (get_or ls j d) (get_or ls (suc j) d) (climbs i j d m (omega arith)) step)
      (λ m. absurd (omega arith)))
      (cases_order i j)

  -- before the one at k come the k that stand there
  climbs_rank : (k : ℕ) (d : Label) → k < length ls → rank ls (get_or ls k d) ≡ k
  climbs_rank k d h =
      let x = get_or ls k d in
      count_first (λ y. earlier y x) ls k (omega arith)
      (λ i e l. subst (λ y. earlier y x ≡ true) (get_or_default ls i d e (omega arith)) (climbs i k d l h))
      (λ i e l m. subst (λ y. earlier y x ≡ false) (get_or_default ls i d e m)
      (⊎_elim
      (λ same. subst (λ j. earlier (get_or ls j d) x ≡ false) same (earlier_self x))
      (⊎_elim (λ less. earlier_not_back x (get_or ls i d) (climbs k i d less m)) (λ more. absurd (omega arith)))
      (cases_order k i)))

pub sorted_labelled : (ts : List Target) (ls : List Label) → IsPermutation (placed 0 ts) ls → IsSorted by_label ls → Labelled ts ls
sorted_labelled ts ls s up =
    let long : length ls ≡ length ts = length_permutation (placed 0 ts) ls s ∙ length_placed 0 ts in
    let next : (k : ℕ) (d : Label) → k + 1 < length ls → earlier (get_or ls k d) (get_or ls (k + 1) d) ≡ true = λ k d h. sorted_earlier (get_or ls k d) (get_or ls (k + 1) d) (shuffled_apart ts ls s k d h) (up k d (omega arith) h) in
    record {
      long = long;
      stands = λ k d h. shuffled_stands ts ls s k d (omega arith);
      ranked = λ k d h. sym (sum_by-IsPermutation (λ y. cond (earlier y (get_or ls k d)) 1 0) (placed 0 ts) ls s) ∙ climbs_rank ls next k d (omega arith);
    }

-- with the list as `fill` leaves it
pub arranged : (ts : List Target) (ps ls : List Label) → ps ≡ placed 0 ts → IsPermutation ps ls → IsSorted by_label ls → Labelled ts ls
arranged ts ps ls filled s up = sorted_labelled ts ls (subst (λ l. IsPermutation l ls) filled s) up

-- the output is what was arranged, and then what stood past it
pub written : (ts : List Target) (before ls : List Label) → length ts ≤ length before → Labelled ts ls → Written ts before (ls ++ drop (length ts) before)
written ts before ls fits done =
    let front = take_at ls (drop (length ts) before) (length ts) done.long in
    record {
      refused = λ short. absurd (omega arith);
      labelled = λ _. subst (Labelled ts) (sym front) done;
      only = λ _ ms other. front ∙ one_order ts ls ms done other;
      rest = λ _. drop_at ls (drop (length ts) before) (length ts) done.long;
    }
