-- A kind with its items counted. Assumes nothing.
use Rattle.std.specs.Prelude.{ℕ, ◌+◌, ◌≤◌, min, Bool, nat_lt}
use Rattle.kinds.specs.Algebra.{Algebra}
use Rattle.kinds.specs.declared.counted.Tally.{Tally}
use Rattle.kinds.specs.declared.counted.Ask.{Ask}
use Rattle.kinds.specs.declared.counted.Ask.TheVariants.{Item, Inner}

abbrev pub tally : {T : Type 0} → ℕ → T → Tally T
tally n t = record { count = n; inner = t }

-- The count stops at 4,294,967,295.
abbrev pub sum : {T : Type 0} → (T → T → T) → Tally T → Tally T → Tally T
sum joined x y = tally (min (x.count + y.count) 4294967295) (joined x.inner y.inner)

-- More than k items, or what the kind below answers.
abbrev pub beyond : {T Q : Type 0} → (T → Q → Bool) → Tally T → Ask Q → Bool
beyond met x (Item k) = nat_lt k x.count
beyond met x (Inner q) = met x.inner q

abbrev pub Held : {T : Type 0} → (T → Type 0) → Tally T → Type 0
Held fair x = (x.count ≤ 4294967295) × fair x.inner

abbrev pub counted : {I T Q : Type 0} → Algebra I T Q → Algebra I (Tally T) (Ask Q)
counted k = record { admitted = k.admitted; nothing = tally 0 k.nothing; measure = λ i. tally 1 (k.measure i); joined = sum k.joined; met = beyond k.met; fair = Held k.fair; limit = k.limit }
