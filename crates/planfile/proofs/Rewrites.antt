-- Fields appended one after another. Assumes nothing.
use Rattle.std.proofs.Common.{◌≡◌, ℕ, ◌+◌, ◌<◌, ◌≤◌, Bool, true, false, filter, ltb, leb, List, [], ◌∷◌, ◌++◌, length, take, drop, Option, Some, None, Ok, Err, Result, sym, refl, ap, ◌∙◌, ap₂, append_assoc, arith, length-append, take-append-drop, length-take}
use Rattle.std.specs.List.{flat_map}
use Rattle.std.specs.Iterator.{AlwaysYields}
use Rattle.std.proofs.lemmas.List.{take_at, drop_at, drop-drop}
use Rattle.std.proofs.lemmas.Bool.{and_from, and_left, and_right, and_parts, le-leb, lt-leb, leb-true, ltb-false, cond-true, cond-false}
use Rattle.planfile.specs.declared.faults.Cause.TheVariants.{NoRoom}
use Rattle.planfile.specs.declared.faults.FileFault.{FileFault}
use Rattle.planfile.specs.declared.read.Summary.{Summary}
use Rattle.planfile.specs.Format.{Content, Meaning, piece, target, end, fields_in, verdict}
use Rattle.planfile.specs.Files.{piece_field, target_field, field_saying, file_of, all_lines, all_targets, distinct}
use Rattle.planfile.specs.Reading.{counts, counted, lines_in, targets_in}
use Rattle.planfile.specs.Writing.{fits, written, left_after, answer, rewritten, rewrite_answer, Puts, Appends, SaysSame}
use Rattle.planfile.proofs.Outcomes.{never, same_ok, cond_ok, cond_ok_else}
use Rattle.planfile.proofs.Returns.{long_joined, reads_back}
use Rattle.planfile.proofs.Rules.{keeps_rules}

fitting : (out : List ℕ) (at : ℕ) (f : List ℕ) → at + length f ≤ length out → at + length f ≤ 65535 → fits out at f ≡ true
fitting out at f p q = and_from _ _ (le-leb (at + length f) (length out) p) (le-leb (at + length f) 65535 q)

written_more : (out : List ℕ) (at : ℕ) (f g : List ℕ) → at + length f + length g ≤ length out → written (written out at f) (at + length f) g ≡ written out at (f ++ g)
written_more out at f g h =
    let p = take at out ++ f in
    let q = drop (at + length f) out in
    let long : length p ≡ at + length f = simp (length-append, length-take) (omega arith) in
    let split : written out at f ≡ p ++ q = sym (append_assoc (take at out) f q) in
    let front : take (at + length f) (written out at f) ≡ p = ap (take (at + length f)) split ∙ take_at p q (at + length f) long in
    let back : drop (at + length f + length g) (written out at f) ≡ drop (at + length (f ++ g)) out =
    ap (drop (at + length f + length g)) split
    ∙ sym (drop-drop (length g) (at + length f) (p ++ q))
    ∙ ap (drop (length g)) (drop_at p q (at + length f) long)
    ∙ drop-drop (length g) (at + length f) out
    ∙ ap (λ n. drop n out) (omega (arith, length-append f g)) in
    ap₂ (λ x y. x ++ (g ++ y)) front back ∙ simp append_assoc

-- what an iterator gives is the first of what it was to give
module _ {S A B : Type 0} (steps : S → Option A → S → Type 0) (v : A → B) (s t : S) where
  pub taken : (x : A) (all : List B) → AlwaysYields steps v s all → steps s (Some x) t → (more : List B) × (all ≡ v x ∷ more) × AlwaysYields steps v t more
  taken x [] always gave = absurd (always x t gave)
  taken x (y ∷ ys) always gave = let next = always.1 x t gave in (ys, ap (λ z. z ∷ ys) (sym next.0), next.1)

  pub none_left : (all : List B) → AlwaysYields steps v s all → steps s None t → all ≡ []
  none_left [] always gave = refl
  none_left (y ∷ ys) always gave = absurd (always.0 t gave)

-- what is to be put of a list, while some of it is put already
pub record Putting {X : Type 0} (f : X → List ℕ) (out_first : List ℕ) (at_first : ℕ) (xs_first : List X) (out : List ℕ) (at : ℕ) (xs : List X) : Type 0 where
  pub room : at + length (flat_map f xs) ≤ length out
  pub few : at + length (flat_map f xs) ≤ 65535
  pub place : at + length (flat_map f xs) ≡ at_first + length (flat_map f xs_first)
  pub same : written out at (flat_map f xs) ≡ written out_first at_first (flat_map f xs_first)

module _ {X : Type 0} (f : X → List ℕ) where
  pub put_fitting : (out : List ℕ) (at : ℕ) (xs : List X) → fits out at (flat_map f xs) ≡ true → Putting f out at xs out at xs
  put_fitting out at xs room =
      let both = and_parts (leb (at + length (flat_map f xs)) (length out)) (leb (at + length (flat_map f xs)) 65535) room in
      record { room = leb-true _ _ both.0; few = leb-true _ _ both.1; place = refl; same = refl }

  pub put_all : (out₀ : List ℕ) (at₀ : ℕ) (xs₀ : List X) (out : List ℕ) (at : ℕ) (all : List X) → all ≡ [] → Putting f out₀ at₀ xs₀ out at all → (at ≡ at₀ + length (flat_map f xs₀)) × (out ≡ written out₀ at₀ (flat_map f xs₀))
  put_all out₀ at₀ xs₀ out at all none u =
      let v : Putting f out₀ at₀ xs₀ out at [] = rw none at u in
      (omega (arith, v.place), sym (ap (λ n. take at out ++ drop n out) (omega arith) ∙ take-append-drop at out) ∙ v.same)

  module _ (out₀ : List ℕ) (at₀ : ℕ) (xs₀ : List X) (out : List ℕ) (at : ℕ) (x : X) (xs all : List X) (first : all ≡ x ∷ xs) (u : Putting f out₀ at₀ xs₀ out at all) where
    has_room : at + length (f x) + length (flat_map f xs) ≤ length out
    has_room = omega (arith, u.room, ap (λ l. length (flat_map f l)) first, length-append (f x) (flat_map f xs))

    has_few : at + length (f x) + length (flat_map f xs) ≤ 65535
    has_few = omega (arith, u.few, ap (λ l. length (flat_map f l)) first, length-append (f x) (flat_map f xs))

    put_fits : fits out at (f x) ≡ true
    put_fits = fitting out at (f x) (omega (arith, has_room)) (omega (arith, has_few))

    pub put_refused : (e : FileFault) → Err e ≡ answer out at (f x) → ⊥
    put_refused e is =
        let no_err : Err e ≡ Ok (at + length (f x)) = is ∙ cond-true (fits out at (f x)) _ _ put_fits in
        let z : ◌≡◌ {A = ℕ} 0 1 = cc in omega arith

    pub put_more : (after : List ℕ) (next : ℕ) → length after ≡ length out → after ≡ left_after out at (f x) → Ok next ≡ answer out at (f x) → Putting f out₀ at₀ xs₀ after next xs
    put_more after next long is-after is-next =
        let both = length-append (f x) (flat_map f xs) in
        let to : after ≡ written out at (f x) = is-after ∙ cond-true (fits out at (f x)) _ _ put_fits in
        let here : Ok next ≡ Ok (at + length (f x)) = is-next ∙ cond-true (fits out at (f x)) _ _ put_fits in
        let place : next ≡ at + length (f x) = cc in
        record {
          room = omega (arith, has_room);
          few = omega (arith, has_few);
          place = omega (arith, u.place, ap (λ l. length (flat_map f l)) first);
          same = rw (to, place) (written_more out at (f x) (flat_map f xs) has_room ∙ sym (ap (λ l. written out at (flat_map f l)) first) ∙ u.same);
        }

-- an accepted file: what it says, and how much room that takes
pub record Accepted (file : List ℕ) (sum : Summary) : Type 0 where
  pub content : Content
  pub is : verdict file ≡ Ok content
  pub count : sum.pieces + sum.targets ≡ fields_in content
  pub size : length (flat_map piece_field content.lines) + length (flat_map target_field content.targets) + 5 ≡ length file
  pub short : length file ≤ 65535
  pub few : fields_in content ≤ 65535

pub content_size : (c : Content) → length (file_of c.lines c.targets) ≡ length (flat_map piece_field c.lines) + length (flat_map target_field c.targets) + 5
content_size c = simp length-append (omega arith)

small : (file : List ℕ) (c : Content) → verdict file ≡ Ok c → length file ≤ 65535
small file c e = ltb-false 65535 (length file) (cond_ok_else (ltb 65535 (length file)) _ _ c e).0

by_verdict : (file : List ℕ) (sum : Summary) (v : Result Content FileFault) → verdict file ≡ v → Ok sum ≡ counted v → Accepted file sum
by_verdict file sum (Err f) is e = absurd (never _ _ (sym e))
by_verdict file sum (Ok c) is e =
    let same : sum ≡ counts c = cc in
    let rules = keeps_rules file c is in
    let sized : length (flat_map piece_field c.lines) + length (flat_map target_field c.targets) + 5 ≡ length file = sym (content_size c) ∙ rules.3 in
    let short = small file c is in
    let lines = long_joined piece_field (λ line. omega arith) c.lines in
    let targets = long_joined target_field (λ t. omega arith) c.targets in
    record { content = c; is = is; count = ap (λ s. s.pieces + s.targets) same; size = sized; short = short; few = omega arith }

pub accepted : (file : List ℕ) (sum : Summary) → Ok sum ≡ counted (verdict file) → Accepted file sum
accepted file sum e = by_verdict file sum (verdict file) refl e

-- what does not fit is refused, and leaves the output
pub record Unfit (out f : List ℕ) : Type 0 where
  pub answer : Err (record { cause = NoRoom; place = 0 }) ≡ answer out 0 f
  pub output : out ≡ left_after out 0 f

unfit : (out f : List ℕ) → fits out 0 f ≡ false → Unfit out f
unfit out f over = record { answer = sym (cond-false (fits out 0 f) _ _ over); output = sym (cond-false (fits out 0 f) _ _ over) }

pub unfit_short : (out f : List ℕ) → length out < length f → Unfit out f
unfit_short out f less = unfit out f (and_left _ _ (lt-leb (0 + length f) (length out) (omega arith)))

pub unfit_long : (out f : List ℕ) → 65535 < length f → Unfit out f
unfit_long out f more = unfit out f (and_right _ _ (lt-leb (0 + length f) 65535 (omega arith)))

pub no_room : (file out : List ℕ) (sum : Summary) → Accepted file sum → length out < length file → (Err (record { cause = NoRoom; place = 0 }) ≡ rewrite_answer (verdict file) out) × (out ≡ rewritten (verdict file) out)
no_room file out sum a less =
    let u = unfit_short out (file_of a.content.lines a.content.targets) (omega (arith, content_size a.content, a.size)) in
    (rw a.is u.answer, rw a.is u.output)

-- the items that are lines, and those that are targets
abbrev pub is_piece : Meaning → Bool
is_piece (piece line) = true
is_piece (target t) = false
is_piece (end count) = false

abbrev pub is_aim : Meaning → Bool
is_aim (piece line) = false
is_aim (target t) = true
is_aim (end count) = false

pub lines_put : (items : List Meaning) → flat_map field_saying (filter is_piece items) ≡ flat_map piece_field (lines_in items)
lines_put [] = refl
lines_put (piece line ∷ more) = ap (λ l. piece_field line ++ l) (lines_put more)
lines_put (target t ∷ more) = lines_put more
lines_put (end count ∷ more) = lines_put more

pub targets_put : (items : List Meaning) → flat_map field_saying (filter is_aim items) ≡ flat_map target_field (targets_in items)
targets_put [] = refl
targets_put (piece line ∷ more) = targets_put more
targets_put (target t ∷ more) = ap (λ l. target_field t ++ l) (targets_put more)
targets_put (end count ∷ more) = targets_put more

-- three runs of bytes, one after another
module _ (out p t e : List ℕ) (room : fits out 0 (p ++ (t ++ e)) ≡ true) (r₁ : Result ℕ FileFault) (out₁ : List ℕ) (first : Appends out 0 p r₁ out₁) where
  sizes : length (p ++ (t ++ e)) ≡ length p + (length t + length e)
  sizes = simp length-append

  long : length p + (length t + length e) ≤ length out
  long = omega (arith, sizes, leb-true (0 + length (p ++ (t ++ e))) (length out) (and_parts (leb (0 + length (p ++ (t ++ e))) (length out)) (leb (0 + length (p ++ (t ++ e))) 65535) room).0)

  few : length p + (length t + length e) ≤ 65535
  few = omega (arith, sizes, leb-true (0 + length (p ++ (t ++ e))) 65535 (and_parts (leb (0 + length (p ++ (t ++ e))) (length out)) (leb (0 + length (p ++ (t ++ e))) 65535) room).1)

  one : (r₁ ≡ Ok (0 + length p)) × (out₁ ≡ written out 0 p)
  one = first (fitting out 0 p (omega (arith, long)) (omega (arith, few)))

  pub first_put : (f : FileFault) → r₁ ≡ Err f → ⊥
  first_put f is = never f _ (sym is ∙ one.0)

  module _ (at₁ : ℕ) (ok : r₁ ≡ Ok at₁) (same : length out₁ ≡ length out) (r₂ : Result ℕ FileFault) (out₂ : List ℕ) (second : Appends out₁ at₁ t r₂ out₂) where
    place : at₁ ≡ 0 + length p
    place = same_ok (sym ok ∙ one.0)

    two : (r₂ ≡ Ok (at₁ + length t)) × (out₂ ≡ written out₁ at₁ t)
    two = second (fitting out₁ at₁ t (omega (arith, place, long)) (omega (arith, place, few)))

    pub second_put : (f : FileFault) → r₂ ≡ Err f → ⊥
    second_put f is = never f _ (sym is ∙ two.0)

    pub third_put : (at₂ : ℕ) → r₂ ≡ Ok at₂ → length out₂ ≡ length out → (r : Result ℕ FileFault) (out₃ : List ℕ) → Puts out₂ at₂ e r out₃ → (r ≡ Ok (0 + length (p ++ (t ++ e)))) × (out₃ ≡ written out 0 (p ++ (t ++ e)))
    third_put at₂ ok-two same-two r out₃ third =
        let is_at₁ : at₁ ≡ 0 + length p = place in
        let is_at₂ : at₂ ≡ at₁ + length t = same_ok (sym ok-two ∙ two.0) in
        let ends : at₂ + length e ≡ 0 + length (p ++ (t ++ e)) = omega (arith, sizes) in
        let last = fitting out₂ at₂ e (omega (arith, long)) (omega (arith, few)) in
        let pt : out₂ ≡ written out 0 (p ++ t) = two.1 ∙ ap₂ (λ o n. written o n t) one.1 is_at₁ ∙ written_more out 0 p t (omega (arith, long)) in
        let at_pt : at₂ ≡ 0 + length (p ++ t) = simp length-append (omega arith) in
        let room_pt : 0 + length (p ++ t) + length e ≤ length out = simp length-append (omega (arith, long)) in
        let pte : written out₂ at₂ e ≡ written out 0 (p ++ (t ++ e)) = ap₂ (λ o n. written o n e) pt at_pt ∙ written_more out 0 (p ++ t) e room_pt ∙ ap (written out 0) (append_assoc p t e) in
        (third.answered ∙ cond-true (fits out₂ at₂ e) _ _ last ∙ ap Ok ends, third.output ∙ cond-true (fits out₂ at₂ e) _ _ last ∙ pte)

-- bytes that fit and are written are put
pub put_fits_whole : (out : List ℕ) (f : List ℕ) (r : Result ℕ FileFault) (after : List ℕ) → 0 + length f ≤ length out → 0 + length f ≤ 65535 → Appends out 0 f r after → Puts out 0 f r after
put_fits_whole out f r after p q done =
    let whole = fitting out 0 f p q in
    let is = done whole in
    record { answered = is.0 ∙ sym (cond-true (fits out 0 f) _ _ whole); output = is.1 ∙ sym (cond-true (fits out 0 f) _ _ whole) }

-- a content within the rules, written where it fits, is read again
pub reads_as : (c : Content) (out : List ℕ) → all_lines c.lines ≡ true → all_targets c.targets ≡ true → distinct c.targets ≡ true → (r : Result ℕ FileFault) (after : List ℕ) → r ≡ answer out 0 (file_of c.lines c.targets) → after ≡ left_after out 0 (file_of c.lines c.targets) → SaysSame (Ok c) r after
reads_as c out lines targets apart (Err e) after is-r is-after = tt
reads_as c out lines targets apart (Ok p) after is-r is-after =
    let f = file_of c.lines c.targets in
    let g = cond_ok (fits out 0 f) _ _ p (sym is-r) in
    let to : after ≡ written out 0 f = is-after ∙ cond-true (fits out 0 f) _ _ g.0 in
    let front : take p after ≡ f = ap (take p) to ∙ take_at f _ p (omega (arith, same_ok g.1)) in
    let short : 0 + length f ≤ 65535 = leb-true (0 + length f) 65535 (and_parts (leb (0 + length f) (length out)) (leb (0 + length f) 65535) g.0).1 in
    let fair : length f ≤ 65535 = omega (arith, short) in
    ap verdict front ∙ reads_back c.lines c.targets lines targets apart fair

by_answer : (file out : List ℕ) (v : Result Content FileFault) → verdict file ≡ v → (r : Result ℕ FileFault) (after : List ℕ) → r ≡ rewrite_answer v out → after ≡ rewritten v out → SaysSame v r after
by_answer file out (Err f) is (Err e) after is-r is-after = tt
by_answer file out (Err f) is (Ok p) after is-r is-after = absurd (never _ _ (sym is-r))
by_answer file out (Ok c) is r after is-r is-after =
    let rules = keeps_rules file c is in
    reads_as c out rules.0 rules.1 rules.2 r after is-r is-after

-- what was written, read again
pub says_same : (file out : List ℕ) (r : Result ℕ FileFault) (after : List ℕ) → r ≡ rewrite_answer (verdict file) out → after ≡ rewritten (verdict file) out → SaysSame (verdict file) r after
says_same file out r after is-r is-after = by_answer file out (verdict file) refl r after is-r is-after
