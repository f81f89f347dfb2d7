-- A file that was made is read back. Assumes nothing.
use Rattle.std.proofs.Common.{◌≡◌, ℕ, suc, ◌+◌, ◌-◌, ◌*◌, ◌/◌, ◌%◌, ◌≤◌, true, false, cond, eqb, List, [], ◌∷◌, ◌++◌, length, take, drop, Ok, Err, sym, refl, ap, ◌∙◌, ap₂, append_assoc, append-nil, suc-add, zero-add, arith, length-append}
use Rattle.std.specs.List.{flat_map}
use Rattle.std.proofs.lemmas.Nat.{div-add-mod'}
use Rattle.std.proofs.lemmas.List.{take_at, drop_at, drop-drop}
use Rattle.std.proofs.lemmas.Bool.{eqb-false, ne_eqb, eq-eqb, and_parts, or_parts, or_from, not-true, cond-true}
use Rattle.kinds.specs.Targets.{is_target}
use Rattle.planfile.specs.declared.faults.Cause.TheVariants.{TargetOutside}
use Rattle.kinds.specs.declared.targets.Target.{Target}
use Rattle.planfile.specs.Format.{Content, nothing, with_line, with_target, fields_in, numbered, two_at, is_line, target_in, meaning, piece, target, ◌then◌, before, front, walk}
use Rattle.planfile.specs.Files.{two_bytes, four_bytes, field_of, piece_field, target_field, end_field, file_of, all_lines, all_targets, distinct, ReadsBack}
use Rattle.planfile.proofs.Fronts.{front_whole}
use Rattle.planfile.proofs.Lines.{line_some}
use Rattle.planfile.proofs.Walks.{whole}

-- a field that was made is the field that is read
front_field : (tag : ℕ) (value rest : List ℕ) → front (field_of tag value ++ rest) ≡ before (meaning tag value) rest
front_field tag value rest =
    let bytes = field_of tag value ++ rest in
    let n : two_at bytes 1 ≡ length value = div-add-mod' (length value) 256 in
    let long : 3 + two_at bytes 1 ≤ length bytes = omega (arith, n, length-append value rest) in
    let is_value : take (two_at bytes 1) (drop 3 bytes) ≡ value = take_at value rest (two_at bytes 1) (sym n) in
    let is_rest : drop (3 + two_at bytes 1) bytes ≡ rest = sym (drop-drop (two_at bytes 1) 3 bytes) ∙ drop_at value rest (two_at bytes 1) (sym n) in
    front_whole bytes long ∙ ap₂ (λ v r. before (meaning tag v) r) is_value is_rest

abbrev made_target : ℕ → ℕ → Target
made_target n r = record { number = n; range = r }

-- the bytes of a target say the target
target_back : (t : Target) → target_in (two_bytes t.number ++ four_bytes t.range) ≡ t
target_back t =
    let n : two_at (two_bytes t.number) 0 ≡ t.number = div-add-mod' t.number 256 in
    let hi : two_at (two_bytes (t.range / 65536)) 0 ≡ t.range / 65536 = div-add-mod' (t.range / 65536) 256 in
    let lo : two_at (two_bytes (t.range % 65536)) 0 ≡ t.range % 65536 = div-add-mod' (t.range % 65536) 256 in
    let r : two_at (two_bytes (t.range / 65536)) 0 * 65536 + two_at (two_bytes (t.range % 65536)) 0 ≡ t.range = rw (hi, lo) (div-add-mod' t.range 65536) in
    ap₂ (λ a b. made_target a b) n r

target_says : (t : Target) → is_target t ≡ true → meaning 3 (two_bytes t.number ++ four_bytes t.range) ≡ Ok (target t)
target_says t ok = ap (λ s. cond (is_target s) (Ok (target s)) (Err TargetOutside)) (target_back t) ∙ cond-true (is_target t) (Ok (target t)) (Err TargetOutside) ok

walk_lines : (size k : ℕ) (c : Content) (lines : List (List ℕ)) (rest : List ℕ) → all_lines lines ≡ true → walk size (length lines + k) c (flat_map piece_field lines ++ rest) ≡ walk size k (record { lines = c.lines ++ lines; targets = c.targets }) rest
walk_lines size k c [] rest ok = rw (zero-add k, append-nil c.lines)
walk_lines size k c (line ∷ more) rest ok =
    let p = and_parts (is_line line) (all_lines more) ok in
    let after = flat_map piece_field more ++ rest in
    let seen : front (piece_field line ++ after) ≡ Ok (piece line then after) = front_field 2 line after ∙ rw (line_some line p.0, p.0) in
    rw (suc-add (length more) k, append_assoc line (flat_map piece_field more) rest, seen)
    (walk_lines size k (with_line c line) more rest p.1 ∙ rw (append_assoc c.lines (line ∷ []) more))

among : (n : ℕ) (xs : List Target) (t : Target) (ys : List Target) → numbered n (xs ++ (t ∷ ys)) ≡ false → eqb t.number n ≡ false
among n [] t ys e = (or_parts _ _ e).0
among n (x ∷ xs) t ys e = among n xs t ys (or_parts _ _ e).1

pub new : (xs : List Target) (t : Target) (ys : List Target) → distinct (xs ++ (t ∷ ys)) ≡ true → numbered t.number xs ≡ false
new [] t ys e = refl
new (x ∷ xs) t ys e =
    let p = and_parts _ _ e in
    let other : eqb t.number x.number ≡ false = among x.number xs t ys (not-true _ p.0) in
    or_from _ _ (ne_eqb x.number t.number (λ s. eqb-false t.number x.number other (sym s))) (new xs t ys p.1)

walk_targets : (size k : ℕ) (c : Content) (targets : List Target) (rest : List ℕ) → all_targets targets ≡ true → distinct (c.targets ++ targets) ≡ true → walk size (length targets + k) c (flat_map target_field targets ++ rest) ≡ walk size k (record { lines = c.lines; targets = c.targets ++ targets }) rest
walk_targets size k c [] rest ok new-all = rw (zero-add k, append-nil c.targets)
walk_targets size k c (t ∷ more) rest ok new-all =
    let p = and_parts (is_target t) (all_targets more) ok in
    let after = flat_map target_field more ++ rest in
    let seen : front (target_field t ++ after) ≡ Ok (target t then after) = front_field 3 (two_bytes t.number ++ four_bytes t.range) after ∙ ap (λ m. before m after) (target_says t p.0) in
    let unseen = new c.targets t more new-all in
    let grown : distinct ((c.targets ++ (t ∷ [])) ++ more) ≡ true = rw (append_assoc c.targets (t ∷ []) more) new-all in
    rw (suc-add (length more) k, seen, unseen)
    (walk_targets size k (with_target c t) more rest p.1 grown ∙ rw (append_assoc c.targets (t ∷ []) more))

walk_end : (size k : ℕ) (c : Content) (n : ℕ) → n ≡ fields_in c → walk size (suc k) c (end_field n) ≡ Ok c
walk_end size k c n e = rw (div-add-mod' n 256, eq-eqb n (fields_in c) e)

-- as many bytes as fields, at least
pub long_joined : {X : Type 0} (f : X → List ℕ) → ((x : X) → 1 ≤ length (f x)) → (xs : List X) → length xs ≤ length (flat_map f xs)
long_joined f some [] = omega arith
long_joined f some (x ∷ xs) = simp length-append (omega (arith, some x, long_joined f some xs))

pub reads_back : ReadsBack
reads_back lines targets ok-lines ok-targets new-all short =
    let file = file_of lines targets in
    let n = length lines + length targets in
    let many : n + 5 ≤ length file = simp length-append (omega (arith, long_joined piece_field (λ line. omega arith) lines, long_joined target_field (λ t. omega arith) targets)) in
    let k = length file - n - 1 in
    let fuel : length file ≡ length lines + (length targets + suc k) = omega arith in
    let ends : walk (length file) (suc k) (record { lines = lines; targets = targets }) (end_field n) ≡ Ok (record { lines = lines; targets = targets }) = walk_end (length file) k _ n refl in
    sym (whole file short)
    ∙ ap (λ f. walk (length file) f nothing file) fuel
    ∙ walk_lines (length file) (length targets + suc k) nothing lines (flat_map target_field targets ++ end_field n) ok-lines
    ∙ walk_targets (length file) (suc k) (record { lines = lines; targets = [] }) targets (end_field n) ok-targets new-all
    ∙ ends
