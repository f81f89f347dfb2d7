-- What is ahead of a reader is what the verdict has. Assumes nothing.
use Rattle.std.proofs.Common.{◌≡◌, ℕ, zero, suc, ◌-◌, ◌<◌, ◌≤◌, eqb, ltb, List, [], ◌∷◌, ◌++◌, length, Ok, Err, Result, sym, refl, ap, ◌∙◌, ap₂, append_assoc, append-nil, arith}
use Rattle.planfile.specs.declared.faults.Cause.TheVariants.{TrailingBytes}
use Rattle.planfile.specs.declared.faults.Cause.{Cause}
use Rattle.kinds.specs.declared.targets.Target.{Target}
use Rattle.planfile.specs.Format.{Content, nothing, with_line, with_target, fields_in, numbered, Meaning, piece, target, end, Front, ◌then◌, front, fault, closed, judged, walk, verdict}
use Rattle.planfile.specs.declared.fields.Item.{Item}
use Rattle.planfile.specs.declared.fields.Item.TheVariants.{Piece, Target as Aim}
use Rattle.planfile.specs.Reading.{gathered, ahead_by, ahead, content_in, item_said}
use Rattle.planfile.proofs.Outcomes.{never, same_ok, cond_ok, cond_ok_else}
use Rattle.planfile.proofs.Fronts.{fronted, fronted_length}

abbrev pub made_of : List (List ℕ) → List Target → Content
made_of ls ts = record { lines = ls; targets = ts }

-- one content after another
abbrev onto : Content → Content → Content
onto c d = made_of (c.lines ++ d.lines) (c.targets ++ d.targets)

shorter : (bytes rest : List ℕ) (m : Meaning) → front bytes ≡ Ok (m then rest) → length rest < length bytes
shorter bytes rest m e = omega (arith, fronted_length bytes m rest (fronted bytes m rest e))

-- more than enough changes nothing
same_front : (j k : ℕ) (bytes : List ℕ) (f : Result Front Cause) → front bytes ≡ f → length bytes ≤ suc j → length bytes ≤ suc k → ((rest : List ℕ) → length rest ≤ j → length rest ≤ k → ahead_by j rest ≡ ahead_by k rest) → gathered (ahead_by j) f ≡ gathered (ahead_by k) f
same_front j k bytes (Err cause) e p q below = refl
same_front j k bytes (Ok (piece line then rest)) e p q below =
    let s = shorter bytes rest (piece line) e in
    ap (λ ms. piece line ∷ ms) (below rest (omega arith) (omega arith))
same_front j k bytes (Ok (target t then rest)) e p q below =
    let s = shorter bytes rest (target t) e in
    ap (λ ms. target t ∷ ms) (below rest (omega arith) (omega arith))
same_front j k bytes (Ok (end count then rest)) e p q below = refl

ahead_same : (j k : ℕ) (bytes : List ℕ) → length bytes ≤ j → length bytes ≤ k → ahead_by j bytes ≡ ahead_by k bytes
ahead_same zero zero bytes p q = refl
ahead_same zero (suc k) [] p q = refl
ahead_same zero (suc k) (b ∷ more) p q = absurd (omega arith)
ahead_same (suc j) zero [] p q = refl
ahead_same (suc j) zero (b ∷ more) p q = absurd (omega arith)
ahead_same (suc j) (suc k) bytes p q = same_front j k bytes (front bytes) refl p q (ahead_same j k)

-- what is ahead, by its first field
first : (bytes rest : List ℕ) (m : Meaning) → front bytes ≡ Ok (m then rest) → ahead bytes ≡ gathered (ahead_by (length bytes - 1)) (Ok (m then rest))
first bytes rest m e =
    let some : length bytes ≡ suc (length bytes - 1) = omega (arith, shorter bytes rest m e) in
    ap (λ n. ahead_by n bytes) some ∙ ap (gathered (ahead_by (length bytes - 1))) e

ahead_piece : (bytes line rest : List ℕ) → front bytes ≡ Ok (piece line then rest) → ahead bytes ≡ piece line ∷ ahead rest
ahead_piece bytes line rest e =
    let s = shorter bytes rest (piece line) e in
    first bytes rest (piece line) e ∙ ap (λ ms. piece line ∷ ms) (ahead_same (length bytes - 1) (length rest) rest (omega arith) (omega arith))

ahead_target : (bytes : List ℕ) (t : Target) (rest : List ℕ) → front bytes ≡ Ok (target t then rest) → ahead bytes ≡ target t ∷ ahead rest
ahead_target bytes t rest e =
    let s = shorter bytes rest (target t) e in
    first bytes rest (target t) e ∙ ap (λ ms. target t ∷ ms) (ahead_same (length bytes - 1) (length rest) rest (omega arith) (omega arith))

pub ahead_item : (bytes : List ℕ) (item : Item) (rest : List ℕ) → front bytes ≡ Ok (item_said item then rest) → ahead bytes ≡ item_said item ∷ ahead rest
ahead_item bytes (Piece line) rest e = ahead_piece bytes line.now rest e
ahead_item bytes (Aim t) rest e = ahead_target bytes t rest e

-- the verdict's content is what came before, and then what is ahead
closed_same : (size : ℕ) (c : Content) (left : List ℕ) (count : ℕ) (rest : List ℕ) (d : Content) → closed size c left count rest ≡ Ok d → c ≡ d
closed_same size c left count [] d e = same_ok (cond_ok (eqb count (fields_in c)) (Ok c) _ d e).1
closed_same size c left count (b ∷ more) d e = absurd (never _ _ (cond_ok (eqb count (fields_in c)) (fault size TrailingBytes (b ∷ more)) _ d e).1)

judged_ahead : (size most : ℕ) (c : Content) (left : List ℕ) (f : Result Front Cause) (d : Content) → ((b : Content) (rest : List ℕ) → walk size most b rest ≡ Ok d → onto b (content_in (ahead_by most rest)) ≡ d) → judged size (walk size most) c left f ≡ Ok d → onto c (content_in (gathered (ahead_by most) f)) ≡ d
judged_ahead size most c left (Err cause) d below e = absurd (never _ _ e)
judged_ahead size most c left (Ok (piece line then rest)) d below e =
    let a = content_in (ahead_by most rest) in
    ap (λ ls. made_of ls (c.targets ++ a.targets)) (sym (append_assoc c.lines (line ∷ []) a.lines)) ∙ below (with_line c line) rest e
judged_ahead size most c left (Ok (target t then rest)) d below e =
    let a = content_in (ahead_by most rest) in
    ap (λ ts. made_of (c.lines ++ a.lines) ts) (sym (append_assoc c.targets (t ∷ []) a.targets))
    ∙ below (with_target c t) rest (cond_ok_else (numbered t.number c.targets) _ _ d e).1
judged_ahead size most c left (Ok (end count then rest)) d below e =
    ap₂ made_of (append-nil c.lines) (append-nil c.targets) ∙ closed_same size c left count rest d e

walk_ahead : (size most : ℕ) (c : Content) (left : List ℕ) (d : Content) → walk size most c left ≡ Ok d → onto c (content_in (ahead_by most left)) ≡ d
walk_ahead size zero c left d e = absurd (never _ _ e)
walk_ahead size (suc most) c [] d e = absurd (never _ _ e)
walk_ahead size (suc most) c (b ∷ more) d e = judged_ahead size most c (b ∷ more) (front (b ∷ more)) d (λ a rest. walk_ahead size most a rest d) e

pub verdict_ahead : (file : List ℕ) (c : Content) → verdict file ≡ Ok c → content_in (ahead file) ≡ c
verdict_ahead file c e = walk_ahead (length file) (length file) nothing file c (cond_ok_else (ltb 65535 (length file)) _ _ c e).1
