-- The order in which labels sort, and what it is to come earlier. Assumes nothing.
use Rattle.std.proofs.Common.{◌≡◌, true, false, ◌⊎◌, Ordering, arith}
use Rattle.std.specs.Ordering.{is_lt, nat_cmp, ordering_then}
use Rattle.std.proofs.lemmas.Bool.Decides.{nat_tests}
use Rattle.labels.specs.declared.Label.{Label}
use Rattle.labels.specs.Labels.{earlier}

-- labels sort by range, then position, then number
abbrev pub by_label : Label → Label → Ordering
by_label x y = ordering_then (nat_cmp x.range y.range) (ordering_then (nat_cmp x.position y.position) (nat_cmp x.number y.number))

pub earlier_self : (x : Label) → earlier x x ≡ false
earlier_self x = grind (arith, nat_tests)

pub earlier_not_back : (x y : Label) → earlier x y ≡ true → earlier y x ≡ false
earlier_not_back x y h = grind (arith, nat_tests)

pub earlier_chain : (x y z : Label) → earlier x y ≡ true → earlier y z ≡ true → earlier x z ≡ true
earlier_chain x y z h k = grind (arith, nat_tests)

-- of two labels at positions of their own, one that does not sort first is later
pub sorted_earlier : (x y : Label) → (y.position ≡ x.position → ⊥) → is_lt (by_label y x) ≡ false → earlier x y ≡ true
sorted_earlier x y apart h = grind (arith, nat_tests)

-- of two labels at positions of their own, one comes earlier
pub one_earlier : (x y : Label) → (x.position ≡ y.position → ⊥) → (earlier x y ≡ true) ⊎ (earlier y x ≡ true)
one_earlier x y apart = grind (arith, nat_tests)
