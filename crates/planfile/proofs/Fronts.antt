-- The field that some bytes begin with. Assumes nothing.
use Rattle.std.proofs.Common.{◌≡◌, ℕ, ◌+◌, ◌-◌, ◌<◌, ◌≤◌, Bool, true, false, cond, ◌&&◌, eqb, leb, List, length, get_or, take, drop, Ok, Err, Result, sym, refl, ap, ◌∙◌, ap₂, arith, length-drop, length-take, take_all, drop-drop}
use Rattle.std.proofs.lemmas.Bool.{le-ltb, ltb-false, leb-true, eqb-true, and_parts}
use Rattle.kinds.specs.Targets.{is_target}
use Rattle.planfile.specs.declared.faults.Cause.TheVariants.{ShortHeader, ShortValue, UnknownTag}
use Rattle.planfile.specs.declared.faults.Cause.{Cause}
use Rattle.kinds.specs.declared.targets.Target.{Target}
use Rattle.planfile.specs.Format.{Meaning, piece, target, end, ◌then◌, two_at, is_empty, is_line, target_in, piece_meaning, target_meaning, end_meaning, meaning, before, front}
use Rattle.planfile.proofs.Outcomes.{never, same_ok, cond_ok, cond_ok_else}

pub front_whole : (bytes : List ℕ) → 3 + two_at bytes 1 ≤ length bytes → front bytes ≡ before (meaning (get_or bytes 0 0) (take (two_at bytes 1) (drop 3 bytes))) (drop (3 + two_at bytes 1) bytes)
front_whole bytes h =
    rw (le-ltb (length bytes) 3 (omega arith), le-ltb (length bytes) (3 + two_at bytes 1) h)

-- as a slice pattern and a split show it, with what the field says
pub front_split : (bytes value rest : List ℕ) (n : ℕ) (m : Result Meaning Cause) → n ≡ two_at bytes 1 → 3 ≤ length bytes → n ≤ length (take (length bytes - 3) (drop 3 bytes)) → value ≡ take n (take (length bytes - 3) (drop 3 bytes)) → rest ≡ drop n (take (length bytes - 3) (drop 3 bytes)) → m ≡ meaning (get_or bytes 0 0) value → before m rest ≡ front bytes
front_split bytes value rest n m size long fits is-value is_rest says =
    let all = take_all (length bytes - 3) (drop 3 bytes) (simp length-drop (omega arith)) in
    let room : 3 + two_at bytes 1 ≤ length bytes = omega (arith, rw all at fits, length-drop 3 bytes) in
    let same_value : value ≡ take (two_at bytes 1) (drop 3 bytes) = cc in
    let same_rest : rest ≡ drop (3 + two_at bytes 1) bytes = cc (drop-drop (two_at bytes 1) 3 bytes) in
    ap₂ before (says ∙ ap (meaning (get_or bytes 0 0)) same_value) same_rest ∙ sym (front_whole bytes room)

-- what is known of a field that was found
pub record Fronted (bytes : List ℕ) (m : Meaning) (rest : List ℕ) : Type 0 where
  pub long : 3 + two_at bytes 1 ≤ length bytes
  pub says : meaning (get_or bytes 0 0) (take (two_at bytes 1) (drop 3 bytes)) ≡ Ok m
  pub is_rest : rest ≡ drop (3 + two_at bytes 1) bytes

found : (short cut : Bool) (mm : Result Meaning Cause) (r : List ℕ) (m : Meaning) (rest : List ℕ) → cond short (Err ShortHeader) (cond cut (Err ShortValue) (before mm r)) ≡ Ok (m then rest) → (cut ≡ false) × (mm ≡ Ok m) × (rest ≡ r)
found true cut mm r m rest e = let z : ◌≡◌ {A = ℕ} 0 1 = cc in absurd (omega arith)
found false true mm r m rest e = let z : ◌≡◌ {A = ℕ} 0 1 = cc in absurd (omega arith)
found false false (Ok n) r m rest e = (refl, cc, cc)
found false false (Err n) r m rest e = let z : ◌≡◌ {A = ℕ} 0 1 = cc in absurd (omega arith)

pub fronted : (bytes : List ℕ) (m : Meaning) (rest : List ℕ) → front bytes ≡ Ok (m then rest) → Fronted bytes m rest
fronted bytes m rest e =
    let f = found _ _ _ _ m rest e in
    record { long = ltb-false (length bytes) (3 + two_at bytes 1) f.0; says = f.1; is_rest = f.2 }

pub fronted_length : (bytes : List ℕ) (m : Meaning) (rest : List ℕ) → Fronted bytes m rest → length rest + 3 + two_at bytes 1 ≡ length bytes
fronted_length bytes m rest f = omega (arith, f.long, simp length-drop at (ap length f.is_rest))

-- what a field that was read says of its value
abbrev Says : List ℕ → Meaning → Type 0
Says value (piece line) = (line ≡ value) × (is_line value ≡ true)
Says value (target t) = (length value ≡ 6) × (is_target t ≡ true)
Says value (end count) = length value ≡ 2

piece_says : (value : List ℕ) (m : Meaning) → piece_meaning value ≡ Ok m → Says value m
piece_says value m e =
    let some = cond_ok_else (is_empty value) _ _ m e in
    let line = cond_ok (is_line value) _ _ m some.1 in
    rw (← same_ok line.1) (refl, line.0)

target_says : (value : List ℕ) (m : Meaning) → target_meaning value ≡ Ok m → Says value m
target_says value m e =
    let six = cond_ok (eqb (length value) 6) _ _ m e in
    let fair = cond_ok (is_target (target_in value)) _ _ m six.1 in
    rw (← same_ok fair.1) (eqb-true (length value) 6 six.0, fair.0)

end_says : (value : List ℕ) (m : Meaning) → end_meaning value ≡ Ok m → Says value m
end_says value m e =
    let two = cond_ok (eqb (length value) 2) _ _ m e in
    rw (← same_ok two.1) (eqb-true (length value) 2 two.0)

by_tag : (two three last : Bool) (value : List ℕ) (m : Meaning) → cond two (piece_meaning value) (cond three (target_meaning value) (cond last (end_meaning value) (Err UnknownTag))) ≡ Ok m → Says value m
by_tag true three last value m e = piece_says value m e
by_tag false true last value m e = target_says value m e
by_tag false false true value m e = end_says value m e
by_tag false false false value m e = absurd (never _ _ e)

says : (tag : ℕ) (value : List ℕ) (m : Meaning) → meaning tag value ≡ Ok m → Says value m
says tag value m e = by_tag (eqb tag 2) (eqb tag 3) (eqb tag 127) value m e

abbrev value_in : List ℕ → List ℕ
value_in bytes = take (two_at bytes 1) (drop 3 bytes)

value_length : (bytes : List ℕ) → 3 + two_at bytes 1 ≤ length bytes → length (value_in bytes) ≡ two_at bytes 1
value_length bytes h = simp (length-take, length-drop) (omega arith)

pub fronted_piece : (bytes line rest : List ℕ) → Fronted bytes (piece line) rest → (length rest + 3 + length line ≡ length bytes) × (is_line line ≡ true)
fronted_piece bytes line rest f =
    let v = says (get_or bytes 0 0) (value_in bytes) (piece line) f.says in
    let n = ap length v.0 in
    (omega (arith, n, value_length bytes f.long, fronted_length bytes (piece line) rest f), rw v.0 v.1)

pub fronted_target : (bytes : List ℕ) (t : Target) (rest : List ℕ) → Fronted bytes (target t) rest → (length rest + 9 ≡ length bytes) × (is_target t ≡ true)
fronted_target bytes t rest f =
    let v = says (get_or bytes 0 0) (value_in bytes) (target t) f.says in
    (omega (arith, v.0, value_length bytes f.long, fronted_length bytes (target t) rest f), v.1)

pub fronted_end : (bytes : List ℕ) (count : ℕ) (rest : List ℕ) → Fronted bytes (end count) rest → length rest + 5 ≡ length bytes
fronted_end bytes count rest f =
    let v = says (get_or bytes 0 0) (value_in bytes) (end count) f.says in
    omega (arith, v, value_length bytes f.long, fronted_length bytes (end count) rest f)

pub low_number : (t : Target) → is_target t ≡ true → t.number < 10000
low_number t fair =
    let high = (and_parts (leb 1 t.number) (leb t.number 9999 && leb t.range 99999) fair).1 in
    omega (arith, leb-true t.number 9999 (and_parts (leb t.number 9999) (leb t.range 99999) high).0)
