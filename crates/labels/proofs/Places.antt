-- Where the placed targets stand, and that no two stand at one position. Assumes nothing.
use Rattle.std.proofs.Common.{◌≡◌, ℕ, zero, suc, ◌+◌, ◌<◌, ◌≤◌, Bool, false, cond, eqb, List, [], ◌∷◌, length, get_or, take, set, count_by, sym, refl, ap, ◌∙◌, ⊎_elim, add-zero, arith}
use Rattle.std.specs.List.Sorted.{IsPermutation}
use Rattle.std.proofs.ByRecursion.{All-from_get_or, All-get_or, all_shuffled}
use Rattle.std.proofs.lemmas.List.{get_or_default, take_all, take_more, take_more_set}
use Rattle.std.proofs.lemmas.List.Sorted.{sum_by-IsPermutation}
use Rattle.std.proofs.lemmas.List.Sums.{sum_by-cons, sum_by-drop_more, sum_by-take-drop}
use Rattle.std.proofs.lemmas.Bool.{cases_eq, eq-eqb, ne_eqb}
use Rattle.kinds.specs.declared.targets.Target.{Target}
use Rattle.labels.specs.declared.Label.{Label}
use Rattle.labels.specs.Labels.{label, placed, Stands}

abbrev nought : Target
nought = record { number = 0; range = 0 }

pub length_placed : (n : ℕ) (ts : List Target) → length (placed n ts) ≡ length ts
length_placed n [] = refl
length_placed n (t ∷ ts) = ap suc (length_placed (n + 1) ts)

pub get_or_placed : (n : ℕ) (ts : List Target) (k : ℕ) (d : Label) (e : Target) → k < length ts → get_or (placed n ts) k d ≡ label (n + k) (get_or ts k e)
get_or_placed n [] k d e h = absurd (omega arith)
get_or_placed n (t ∷ ts) zero d e h = ap (λ m. label m t) (sym (add-zero n))
get_or_placed n (t ∷ ts) (suc k) d e h =
    let on : n + 1 + k ≡ n + suc k = omega arith in
    get_or_placed (n + 1) ts k d e (omega arith) ∙ ap (λ m. label m (get_or ts k e)) on

-- one place more is filled
pub fill_more : (ts : List Target) (i : ℕ) (ls : List Label) (e : Target) (x : Label) → x ≡ label i (get_or ts i e) → i < length ts → length ls ≡ length ts → take i ls ≡ take i (placed 0 ts) → take (i + 1) (set ls i x) ≡ take (i + 1) (placed 0 ts)
fill_more ts i ls e x is h long same =
    let in-ls : i < length ls = omega arith in
    let in-ps : i < length (placed 0 ts) = omega (arith, length_placed 0 ts) in
    let from_0 : 0 + i ≡ i = omega arith in
    let here : get_or (placed 0 ts) i x ≡ x = get_or_placed 0 ts i x e h ∙ ap (λ m. label m (get_or ts i e)) from_0 ∙ sym is in
    take_more_set ls i x in-ls ∙ sym (take_more (placed 0 ts) i x in-ps ∙ rw (here, same))

-- every place is filled
pub fill_all : (ts : List Target) (i : ℕ) (ls : List Label) → length ts ≤ i → length ls ≡ length ts → take i ls ≡ take i (placed 0 ts) → ls ≡ placed 0 ts
fill_all ts i ls h long same =
    sym (take_all i ls (omega arith)) ∙ same ∙ take_all i (placed 0 ts) (omega (arith, length_placed 0 ts))

-- each placed target stands at its position
placed_stands : (ts : List Target) (k : ℕ) (d : Label) → k < length ts → Stands ts (get_or (placed 0 ts) k d)
placed_stands ts k d h =
    let is = get_or_placed 0 ts k d nought h in
    let at : (get_or (placed 0 ts) k d).position ≡ k = ap (λ x. x.position) is ∙ omega arith in
    record {
      within = omega arith;
      there = λ e. ap (λ p. get_or (placed 0 ts) p e) at ∙ get_or_default (placed 0 ts) k e d (omega (arith, length_placed 0 ts));
    }

-- and so does each of them in another order
pub shuffled_stands : (ts : List Target) (ls : List Label) → IsPermutation (placed 0 ts) ls → (k : ℕ) (d : Label) → k < length ls → Stands ts (get_or ls k d)
shuffled_stands ts ls s k d h =
    let here : (i : ℕ) → i < length (placed 0 ts) → Stands ts (get_or (placed 0 ts) i d) = λ i l. placed_stands ts i d (omega (arith, length_placed 0 ts)) in
    All-get_or (Stands ts) ls k d h (all_shuffled (Stands ts) (placed 0 ts) ls s (All-from_get_or (Stands ts) (placed 0 ts) d here))

abbrev at_position : ℕ → Label → Bool
at_position p x = eqb x.position p

none_at : (p n : ℕ) (ts : List Target) → p < n → count_by (at_position p) (placed n ts) ≡ 0
none_at p n [] h = refl
none_at p n (t ∷ ts) h =
    let off : eqb n p ≡ false = ne_eqb n p (λ e. omega arith) in
    let rest : count_by (at_position p) (placed (n + 1) ts) ≡ 0 = none_at p (n + 1) ts (omega arith) in
    sum_by-cons (λ x. cond (at_position p x) 1 0) (label n t) (placed (n + 1) ts) ∙ rw (off, rest)

one_at : (p n : ℕ) (ts : List Target) → count_by (at_position p) (placed n ts) ≤ 1
one_at p n [] = omega arith
one_at p n (t ∷ ts) =
    let first = sum_by-cons (λ x. cond (at_position p x) 1 0) (label n t) (placed (n + 1) ts) in
    let more = one_at p (n + 1) ts in
    ⊎_elim
    (λ e. let on = ap (λ b. cond {A = ℕ} b 1 0) (eq-eqb n p e) in
    omega (arith, first, on, none_at p (n + 1) ts (omega arith)))
    (λ e. let off = ap (λ b. cond {A = ℕ} b 1 0) (ne_eqb n p e) in
    omega (arith, first, off, more))
    (cases_eq n p)

-- in another order, neighbours have positions of their own
pub shuffled_apart : (ts : List Target) (ls : List Label) → IsPermutation (placed 0 ts) ls → (k : ℕ) (d : Label) → k + 1 < length ls → (get_or ls (k + 1) d).position ≡ (get_or ls k d).position → ⊥
shuffled_apart ts ls s k d h same =
    let p = (get_or ls k d).position in
    let f : Label → ℕ = λ x. cond (at_position p x) 1 0 in
    let here : f (get_or ls k d) ≡ 1 = ap (λ b. cond {A = ℕ} b 1 0) (eq-eqb p p refl) in
    let next : f (get_or ls (k + 1) d) ≡ 1 = ap (λ b. cond {A = ℕ} b 1 0) (eq-eqb (get_or ls (k + 1) d).position p same) in
    omega (arith, here, next, sum_by-take-drop f ls k, sum_by-drop_more f ls k d (omega arith), sum_by-drop_more f ls (k + 1) d h, sum_by-IsPermutation f (placed 0 ts) ls s, one_at p 0 ts)
