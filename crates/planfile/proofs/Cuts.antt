-- Text cut into lines. Assumes nothing.
use Rattle.std.proofs.Common.{◌≡◌, ℕ, zero, suc, min, ◌+◌, ◌*◌, ◌<◌, Bool, true, false, cond, eqb, Option, List, [], ◌∷◌, ◌++◌, length, get_or, take, drop, sym, refl, ap, ◌∙◌, ap₂, subst, arith, length-append}
use Rattle.std.specs.List.{flat_map}
use Rattle.std.specs.List.{IsFirstMatchOrLen}
use Rattle.std.specs.Fn.{ComputesKey}
use Rattle.std.specs.Option.{MatchOption}
use Rattle.std.specs.Slice.Iter.{split_inclusive_rest, split_inclusive_callee}
use Rattle.std.specs.declared.slice.SplitInclusive.{SplitInclusive}
use denote.Param.Members.{Mut}
use denote.Ref.{Bor}
use Rattle.std.proofs.lemmas.Iterator.{YieldsList}
use Rattle.std.proofs.lemmas.Iterator.Splits.{YieldsList-from_shown_while}
use Rattle.std.proofs.lemmas.List.{take_at, drop_at, nil_from_length}
use Rattle.std.proofs.lemmas.Bool.{and_from, and_parts, or_right}
use Rattle.kinds.specs.declared.targets.Target.{Target}
use Rattle.planfile.specs.Format.{is_empty, is_line}
use Rattle.planfile.specs.Files.{piece_field, target_field, all_lines}
use Rattle.planfile.specs.Reading.{text_bytes}
use Rattle.planfile.specs.Text.{glued, lines_of}

-- how many bytes the first line has
abbrev line_end : List ℕ → ℕ
line_end [] = 0
line_end (b ∷ more) = cond (eqb b 10) 1 (suc (line_end more))

-- the first line, and the lines of the rest
by_newline : (newline : Bool) (b : ℕ) (more : List ℕ) → (0 < length more → lines_of more ≡ take (line_end more) more ∷ lines_of (drop (line_end more) more)) → cond newline ((b ∷ []) ∷ lines_of more) (glued b (lines_of more)) ≡ take (cond newline 1 (suc (line_end more))) (b ∷ more) ∷ lines_of (drop (cond newline 1 (suc (line_end more))) (b ∷ more))
by_newline true b more first = refl
by_newline false b [] first = refl
by_newline false b (c ∷ more) first = ap (glued b) (first (omega arith))

first_cut : (text : List ℕ) → 0 < length text → lines_of text ≡ take (line_end text) text ∷ lines_of (drop (line_end text) text)
first_cut [] some = absurd (omega arith)
first_cut (b ∷ more) some = by_newline (eqb b 10) b more (first_cut more)

end_at : (text : List ℕ) (i : ℕ) → ((k d : ℕ) → k < i → eqb (get_or text k d) 10 ≡ false) → (i < length text → (d : ℕ) → eqb (get_or text i d) 10 ≡ true) → line_end text ≡ min (i + 1) (length text)
end_at [] i before here = omega arith
end_at (b ∷ more) zero before here = rw (here (omega arith) 0) (omega arith)
end_at (b ∷ more) (suc i) before here =
    let rest = end_at more i (λ k d l. before (suc k) d (omega arith)) (λ l d. here (omega arith) d) in
    rw (before 0 0 (omega arith)) (omega (arith, rest))

-- up to the first newline, if there is one
cut_here : (text line rest : List ℕ) (i : ℕ) → text ≡ line ++ rest → length line ≡ min (i + 1) (length text) → IsFirstMatchOrLen (λ b. eqb b 10) text i → 0 < length text → lines_of text ≡ line ∷ lines_of rest
cut_here text line rest i is long first some =
    let size : length line ≡ line_end text = long ∙ sym (end_at text i (λ k d l. first.0 k d (omega arith) l) first.1) in
    let front : take (line_end text) text ≡ line = ap (take (line_end text)) is ∙ take_at line rest (line_end text) size in
    let back : drop (line_end text) text ≡ rest = ap (drop (line_end text)) is ∙ drop_at line rest (line_end text) size in
    first_cut text some ∙ ap₂ (λ l r. l ∷ lines_of r) front back

-- what `split_inclusive` gives: its own words
abbrev pub cuts : {F : Type 0} → Mut F (Bor ℕ × Unit {0}) Bool → SplitInclusive ℕ F → Option (Bor (List ℕ)) → SplitInclusive ℕ F → Type 0
cuts g s r t = MatchOption r ((length (split_inclusive_rest s) ≡ 0) × (t ≡ s)) (λ x. (split_inclusive_rest s ≡ x.now ++ split_inclusive_rest t) × ((i : ℕ) × (length x.now ≡ min (i + 1) (length (split_inclusive_rest s))) × ((p : ℕ → Bool) → ComputesKey g p (split_inclusive_callee s) → ComputesKey g p (split_inclusive_callee t) × IsFirstMatchOrLen p (split_inclusive_rest s) i)) × (0 < length (split_inclusive_rest s)))

-- split after each newline, a text gives its lines
pub split_lines : {F : Type 0} (g : Mut F (Bor ℕ × Unit {0}) Bool) (s : SplitInclusive ℕ F) (text : List ℕ) → split_inclusive_rest s ≡ text → ComputesKey g (λ b. eqb b 10) (split_inclusive_callee s) → YieldsList (cuts g) (λ x. x.now) s (lines_of text)
split_lines g s text is by =
    subst (λ l. YieldsList (cuts g) (λ x. x.now) s (lines_of l)) is
    (YieldsList-from_shown_while (cuts g) (λ x. x.now) (λ u. lines_of (split_inclusive_rest u)) (λ u. ComputesKey g (λ b. eqb b 10) (split_inclusive_callee u))
    (λ u t k e. ap (λ l. length (lines_of l)) (nil_from_length (split_inclusive_rest u) e.0))
    (λ u x t k e. let next = e.1.2 (λ b. eqb b 10) k in (next.0, cut_here (split_inclusive_rest u) x.now (split_inclusive_rest t) e.1.0 e.0 e.1.1 next.1 e.2))
    s by)

-- each is a line
all_glued : (b : ℕ) (lines : List (List ℕ)) → eqb b 10 ≡ false → all_lines lines ≡ true → all_lines (glued b lines) ≡ true
all_glued b [] other ok = refl
all_glued b (line ∷ more) other ok =
    let p = and_parts (is_line line) (all_lines more) ok in
    and_from _ _ (or_right (is_empty line) _ (rw other p.0)) p.1

all_by : (b : ℕ) (more : List (List ℕ)) (newline : Bool) → eqb b 10 ≡ newline → all_lines more ≡ true → all_lines (cond newline ((b ∷ []) ∷ more) (glued b more)) ≡ true
all_by b more true e ok = ok
all_by b more false e ok = all_glued b more e ok

pub all_cut : (text : List ℕ) → all_lines (lines_of text) ≡ true
all_cut [] = refl
all_cut (b ∷ more) = all_by b (lines_of more) (eqb b 10) refl (all_cut more)

-- and together they have as many bytes as the text
bytes_glued : (b : ℕ) (lines : List (List ℕ)) → text_bytes (glued b lines) ≡ suc (text_bytes lines)
bytes_glued b [] = refl
bytes_glued b (line ∷ more) = omega arith

bytes_by : (newline : Bool) (b : ℕ) (more : List (List ℕ)) → text_bytes (cond newline ((b ∷ []) ∷ more) (glued b more)) ≡ suc (text_bytes more)
bytes_by true b more = omega arith
bytes_by false b more = bytes_glued b more

pub bytes_cut : (text : List ℕ) → text_bytes (lines_of text) ≡ length text
bytes_cut [] = refl
bytes_cut (b ∷ more) = bytes_by (eqb b 10) b (lines_of more) ∙ ap suc (bytes_cut more)

-- how many bytes the fields take
pub pieces_size : (lines : List (List ℕ)) → length (flat_map piece_field lines) ≡ text_bytes lines + 3 * length lines
pieces_size [] = refl
pieces_size (line ∷ more) = simp length-append (omega (arith, pieces_size more))

pub targets_size : (targets : List Target) → length (flat_map target_field targets) ≡ 9 * length targets
targets_size [] = refl
targets_size (t ∷ more) = simp length-append (omega (arith, targets_size more))
