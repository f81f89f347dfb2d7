-- One target more, as a list of targets is gone through. Assumes nothing.
use Rattle.std.proofs.Common.{◌≡◌, ℕ, ◌+◌, ◌<◌, Bool, true, false, not, ◌||◌, eqb, List, ◌∷◌, ◌++◌, length, get_or, take, drop, sym, refl, ap, ◌∙◌, ⊎_elim, arith, take-append-drop}
use Rattle.std.proofs.lemmas.List.{drop_more, take_more}
use Rattle.std.proofs.lemmas.List.Elements.{All-get_or}
use Rattle.std.proofs.lemmas.List.Sums.{AllPass-from_list_all}
use Rattle.std.proofs.lemmas.Bool.{cases_Bool}
use Rattle.kinds.specs.Targets.{is_target}
use Rattle.kinds.specs.declared.targets.Target.{Target}
use Rattle.planfile.specs.declared.numbers.Numbers.{Numbers}
use Rattle.planfile.specs.Format.{numbered}
use Rattle.planfile.specs.Numbers.{has}
use Rattle.planfile.specs.Files.{all_targets, distinct}
use Rattle.planfile.proofs.Fronts.{low_number}
use Rattle.planfile.proofs.Returns.{new}
use Rattle.planfile.proofs.Rules.{distinct_more}
use Rattle.planfile.proofs.Walks.{noted}

parted : (ts : List Target) (i : ℕ) (d : Target) → i < length ts → ts ≡ take i ts ++ (get_or ts i d ∷ drop (i + 1) ts)
parted ts i d h = sym (take-append-drop i ts) ∙ ap (λ l. take i ts ++ l) (drop_more ts i d h)

-- what `insert` says of a number
pub old_number : (seen : Bool) {fresh : Bool} → fresh ≡ not seen → fresh ≡ false → seen ≡ true
old_number true is e = refl
old_number false is e = cc

pub new_number : (seen : Bool) {fresh : Bool} → fresh ≡ not seen → fresh ≡ true → seen ≡ false
new_number true is e = cc
new_number false is e = refl

-- each of the targets is within its limits
pub each_target : (ts : List Target) (i : ℕ) (d : Target) → i < length ts → all_targets ts ≡ true → is_target (get_or ts i d) ≡ true
each_target ts i d h ok = All-get_or (λ t. is_target t ≡ true) ts i d h (AllPass-from_list_all is_target ts ok)

-- where the search for a repeated number stands: the targets before i, and the numbers seen
pub record Sifted (ts : List Target) (i : ℕ) (seen : Numbers) : Type 0 where
  pub apart : distinct (take i ts) ≡ true
  pub table : (n : ℕ) → has seen n ≡ numbered n (take i ts)

pub sift_start : (ts : List Target) (seen : Numbers) → ((n : ℕ) → has seen n ≡ false) → Sifted ts 0 seen
sift_start ts seen none = record { apart = refl; table = none }

module _ (ts : List Target) (i : ℕ) (seen : Numbers) (h : i < length ts) (s : Sifted ts i seen) (d : Target) where
  abbrev here : Target
  here = get_or ts i d

  pub sift_more : has seen here.number ≡ false → (after : Numbers) → ((n : ℕ) → has after n ≡ (has seen n || eqb here.number n)) → Sifted ts (i + 1) after
  sift_more fresh after noted_all =
      let unseen : numbered here.number (take i ts) ≡ false = sym (s.table here.number) ∙ fresh in
      let more = take_more ts i d h in
      record {
        apart = rw more (distinct_more (take i ts) here s.apart unseen);
        table = λ n. noted seen after (take i ts) here noted_all s.table n ∙ sym (ap (numbered n) more);
      }

  pub sift_found : has seen here.number ≡ true → distinct ts ≡ false
  sift_found old =
      let there : numbered here.number (take i ts) ≡ true = sym (s.table here.number) ∙ old in
      ⊎_elim
      (λ (apart : distinct ts ≡ true).
      let none = new (take i ts) here (drop (i + 1) ts) (sym (ap distinct (parted ts i d h)) ∙ apart) in
      let z : ◌≡◌ {A = Bool} true false = sym there ∙ none in
      let w : ◌≡◌ {A = ℕ} 0 1 = cc in absurd (omega arith))
      (λ (twice : distinct ts ≡ false). twice)
      (cases_Bool (distinct ts))

pub sift_low : (ts : List Target) (i : ℕ) (d : Target) → i < length ts → all_targets ts ≡ true → (get_or ts i d).number < 10000
sift_low ts i d h ok = low_number (get_or ts i d) (each_target ts i d h ok)
