-- An accepted file keeps the rules, and has as many bytes as its content asks for. Assumes nothing.
use Rattle.std.proofs.Common.{◌≡◌, ℕ, zero, suc, ◌+◌, Bool, true, false, not, eqb, ltb, List, [], ◌∷◌, ◌++◌, length, Ok, Err, Result, sym, refl, ◌∙◌, arith, length-append}
use Rattle.std.specs.List.{flat_map, list_all}
use Rattle.std.proofs.lemmas.Grind.{flat_map-append}
use Rattle.std.proofs.lemmas.List.Folds.{list_all-append}
use Rattle.std.proofs.lemmas.Bool.{and_parts, and_from, or_parts, or_from, not-true, not_from_false, eqb-false, ne_eqb}
use Rattle.kinds.specs.Targets.{is_target}
use Rattle.planfile.specs.declared.faults.Cause.TheVariants.{TrailingBytes}
use Rattle.planfile.specs.declared.faults.Cause.{Cause}
use Rattle.kinds.specs.declared.targets.Target.{Target}
use Rattle.planfile.specs.Format.{Content, nothing, with_line, with_target, fields_in, numbered, is_line, piece, target, end, Front, ◌then◌, front, fault, closed, judged, walk}
use Rattle.planfile.specs.Files.{piece_field, target_field, all_lines, all_targets, distinct, KeepsRules}
use Rattle.planfile.proofs.Fronts.{fronted, fronted_piece, fronted_target, fronted_end}
use Rattle.planfile.proofs.Walks.{numbered_more}
use Rattle.planfile.proofs.Outcomes.{never, same_ok, cond_ok, cond_ok_else}

all_more : {X : Type 0} (p : X → Bool) (xs : List X) (x : X) → list_all p xs ≡ true → p x ≡ true → list_all p (xs ++ (x ∷ [])) ≡ true
all_more p xs x all one = list_all-append p xs (x ∷ []) ∙ and_from (list_all p xs) _ all (and_from (p x) true one refl)

pub distinct_more : (ts : List Target) (t : Target) → distinct ts ≡ true → numbered t.number ts ≡ false → distinct (ts ++ (t ∷ [])) ≡ true
distinct_more [] t p q = refl
distinct_more (x ∷ ts) t p q =
    let h = and_parts (not (numbered x.number ts)) (distinct ts) p in
    let o = or_parts (eqb x.number t.number) (numbered t.number ts) q in
    let other : eqb t.number x.number ≡ false = ne_eqb t.number x.number (λ e. eqb-false x.number t.number o.0 (sym e)) in
    let unlike : numbered x.number (ts ++ (t ∷ [])) ≡ false = numbered_more x.number ts t ∙ or_from (numbered x.number ts) (eqb t.number x.number) (not-true (numbered x.number ts) h.0) other in
    and_from (not (numbered x.number (ts ++ (t ∷ [])))) _ (not_from_false (numbered x.number (ts ++ (t ∷ []))) unlike) (distinct_more ts t h.1 o.1)

joined_longer : {X : Type 0} (f : X → List ℕ) (xs : List X) (x : X) → length (flat_map f (xs ++ (x ∷ []))) ≡ length (flat_map f xs) + length (f x)
joined_longer f xs x = simp (flat_map-append, length-append) (omega arith)

-- the bytes of a content, without the end field
abbrev bulk : Content → ℕ
bulk c = length (flat_map piece_field c.lines) + length (flat_map target_field c.targets)

record Ruled (c : Content) : Type 0 where
  lines : all_lines c.lines ≡ true
  targets : all_targets c.targets ≡ true
  apart : distinct c.targets ≡ true

with_line_ruled : (c : Content) (l : List ℕ) → Ruled c → is_line l ≡ true → Ruled (with_line c l)
with_line_ruled c l r h = record { lines = all_more is_line c.lines l r.lines h; targets = r.targets; apart = r.apart }

with_target_ruled : (c : Content) (t : Target) → Ruled c → is_target t ≡ true → numbered t.number c.targets ≡ false → Ruled (with_target c t)
with_target_ruled c t r h n = record { lines = r.lines; targets = all_more is_target c.targets t r.targets h; apart = distinct_more c.targets t r.apart n }

-- the content after what is left, and how long it is
record Goes (c : Content) (left : List ℕ) (d : Content) : Type 0 where
  ruled : Ruled d
  long : bulk c + length left ≡ bulk d + 5

goes_line : (c : Content) (left line rest : List ℕ) (d : Content) → length rest + 3 + length line ≡ length left → Goes (with_line c line) rest d → Goes c left d
goes_line c left line rest d h g = record { ruled = g.ruled; long = omega (arith, g.long, joined_longer piece_field c.lines line) }

goes_target : (c : Content) (left : List ℕ) (t : Target) (rest : List ℕ) (d : Content) → length rest + 9 ≡ length left → Goes (with_target c t) rest d → Goes c left d
goes_target c left t rest d h g = record { ruled = g.ruled; long = omega (arith, g.long, joined_longer target_field c.targets t) }

closed_goes : (size : ℕ) (c : Content) (left : List ℕ) (count : ℕ) (rest : List ℕ) (d : Content) → length rest + 5 ≡ length left → Ruled c → closed size c left count rest ≡ Ok d → Goes c left d
closed_goes size c left count [] d h r e =
    let same : c ≡ d = same_ok (cond_ok (eqb count (fields_in c)) (Ok c) _ d e).1 in
    record { ruled = rw (← same) r; long = rw (← same) (omega (arith, h)) }
closed_goes size c left count (b ∷ more) d h r e = absurd (never _ _ (cond_ok (eqb count (fields_in c)) (fault size TrailingBytes (b ∷ more)) _ d e).1)

judged_goes : (size most : ℕ) (c : Content) (left : List ℕ) (f : Result Front Cause) (d : Content) → front left ≡ f → Ruled c → ((b : Content) (rest : List ℕ) → Ruled b → walk size most b rest ≡ Ok d → Goes b rest d) → judged size (walk size most) c left f ≡ Ok d → Goes c left d
judged_goes size most c left (Err cause) d i r below e = absurd (never _ _ e)
judged_goes size most c left (Ok (piece line then rest)) d i r below e =
    let f = fronted_piece left line rest (fronted left (piece line) rest i) in
    goes_line c left line rest d f.0 (below (with_line c line) rest (with_line_ruled c line r f.1) e)
judged_goes size most c left (Ok (target t then rest)) d i r below e =
    let f = fronted_target left t rest (fronted left (target t) rest i) in
    let new = cond_ok_else (numbered t.number c.targets) _ _ d e in
    goes_target c left t rest d f.0 (below (with_target c t) rest (with_target_ruled c t r f.1 new.0) new.1)
judged_goes size most c left (Ok (end count then rest)) d i r below e = closed_goes size c left count rest d (fronted_end left count rest (fronted left (end count) rest i)) r e

walk_goes : (size most : ℕ) (c : Content) (left : List ℕ) (d : Content) → Ruled c → walk size most c left ≡ Ok d → Goes c left d
walk_goes size zero c left d r e = absurd (never _ _ e)
walk_goes size (suc most) c [] d r e = absurd (never _ _ e)
walk_goes size (suc most) c (b ∷ more) d r e = judged_goes size most c (b ∷ more) (front (b ∷ more)) d refl r (λ a rest q. walk_goes size most a rest d q) e

pub keeps_rules : KeepsRules
keeps_rules file c e =
    let g = walk_goes (length file) (length file) nothing file c (record { lines = refl; targets = refl; apart = refl }) (cond_ok_else (ltb 65535 (length file)) _ _ c e).1 in
    (g.ruled.lines, g.ruled.targets, g.ruled.apart, simp length-append (omega (arith, g.long)))
