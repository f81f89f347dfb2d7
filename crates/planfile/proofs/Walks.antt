-- One field more of a file, as the check goes through it. Assumes nothing.
use Rattle.std.proofs.Common.{◌≡◌, ℕ, zero, suc, ◌+◌, ◌-◌, ◌<◌, ◌≤◌, true, false, cond, ◌||◌, eqb, List, [], ◌∷◌, ◌++◌, length, Ok, Err, Result, sym, refl, ap, ◌∙◌, subst, arith, length-append}
use mathlib.Core.Bool.{or-false}
use Rattle.std.specs.Prelude.{◌==◌}
use Rattle.std.proofs.lemmas.List.Folds.{list_any-append}
use native.Mathlib.Nat.{sub-zero}
use Rattle.std.proofs.lemmas.Bool.{le-ltb, lt-ltb, eq-eqb, ne_eqb}
use Rattle.planfile.specs.declared.faults.Cause.TheVariants.{TooLong, RepeatedNumber, WrongCount, TrailingBytes, MissingEnd}
use Rattle.planfile.specs.declared.faults.Cause.{Cause}
use Rattle.planfile.specs.declared.faults.FileFault.{FileFault}
use Rattle.planfile.specs.declared.read.Field.{Field}
use Rattle.planfile.specs.declared.read.Step.{Step}
use Rattle.planfile.specs.declared.read.Summary.{Summary}
use Rattle.kinds.specs.declared.targets.Target.{Target}
use Rattle.planfile.specs.declared.numbers.Numbers.{Numbers}
use Rattle.planfile.specs.Format.{Content, nothing, with_line, with_target, fields_in, numbered, piece, target, end, ◌then◌, Front, front, fault, judged, walk, verdict}
use Rattle.planfile.specs.Faults.{fault_at}
use Rattle.planfile.specs.Files.{EnoughFields}
use Rattle.planfile.specs.Numbers.{has}
use Rattle.planfile.specs.Reading.{text_bytes, counts, counted, said, stepped}
use Rattle.std.specs.Result.{MatchResult, IsErrAnd}
use Rattle.planfile.proofs.Lines.{empty, not_empty}
use Rattle.planfile.proofs.Outcomes.{never, same_ok}
use Rattle.planfile.proofs.Fronts.{fronted, fronted_length, fronted_piece, fronted_target, low_number}

-- where the check stands: what is left of the file, the numbers seen, and the counts so far
pub record Under (file left : List ℕ) (seen : Numbers) (sum : Summary) : Type 0 where
  pub most : ℕ
  pub content : Content
  pub enough : length left ≤ most
  pub same : walk (length file) most content left ≡ verdict file
  pub fields : sum.pieces + sum.targets + length left ≤ length file
  pub bytes : sum.text + length left ≤ length file
  pub pieces : sum.pieces ≡ length content.lines
  pub targets : sum.targets ≡ length content.targets
  pub text : sum.text ≡ text_bytes content.lines
  pub table : (n : ℕ) → has seen n ≡ numbered n content.targets

pub whole : (file : List ℕ) → length file ≤ 65535 → walk (length file) (length file) nothing file ≡ verdict file
whole file h = rw (le-ltb 65535 (length file) h)

pub start : (file : List ℕ) → length file ≤ 65535 → (seen : Numbers) → ((n : ℕ) → has seen n ≡ false) → (sum : Summary) → (sum.pieces ≡ 0) × ((sum.targets ≡ 0) × (sum.text ≡ 0)) → Under file file seen sum
start file h seen none sum begun =
    record {
      most = length file;
      content = nothing;
      enough = omega arith;
      same = whole file h;
      fields = omega (arith, begun.0, begun.1.0);
      bytes = omega (arith, begun.1.1);
      pieces = begun.0;
      targets = begun.1.0;
      text = begun.1.1;
      table = none;
    }

-- a greater bound on the fields changes nothing
judged_same : (size j k : ℕ) (c : Content) (left : List ℕ) (f : Result Front Cause) → front left ≡ f → ((b : Content) (rest : List ℕ) → length rest < length left → walk size j b rest ≡ walk size k b rest) → judged size (walk size j) c left f ≡ judged size (walk size k) c left f
judged_same size j k c left (Err cause) e below = refl
judged_same size j k c left (Ok (piece line then rest)) e below = below (with_line c line) rest (omega (arith, fronted_length left (piece line) rest (fronted left (piece line) rest e)))
judged_same size j k c left (Ok (target t then rest)) e below = ap (cond (numbered t.number c.targets) (fault size RepeatedNumber left)) (below (with_target c t) rest (omega (arith, fronted_length left (target t) rest (fronted left (target t) rest e))))
judged_same size j k c left (Ok (end count then rest)) e below = refl

walk_same : (size j k : ℕ) (c : Content) (left : List ℕ) → length left ≤ j → length left ≤ k → walk size j c left ≡ walk size k c left
walk_same size zero zero c left p q = refl
walk_same size zero (suc k) c [] p q = refl
walk_same size zero (suc k) c (b ∷ more) p q = absurd (omega arith)
walk_same size (suc j) zero c [] p q = refl
walk_same size (suc j) zero c (b ∷ more) p q = absurd (omega arith)
walk_same size (suc j) (suc k) c [] p q = refl
walk_same size (suc j) (suc k) c (b ∷ more) p q = judged_same size j k c (b ∷ more) (front (b ∷ more)) refl (λ a rest l. walk_same size j k a rest (omega arith) (omega arith))

pub enough_fields : EnoughFields
enough_fields size c left most h = walk_same size most (length left) c left h (omega arith)

step : (size most : ℕ) (c : Content) (left : List ℕ) → 0 < length left → length left ≤ most → (k : ℕ) × (most ≡ suc k) × (walk size most c left ≡ judged size (walk size k) c left (front left))
step size most c [] some enough = absurd (omega arith)
step size zero c (b ∷ more) some enough = absurd (omega arith)
step size (suc k) c (b ∷ more) some enough = (k, refl, refl)

text_more : (lines : List (List ℕ)) (line : List ℕ) → text_bytes (lines ++ (line ∷ [])) ≡ text_bytes lines + length line
text_more [] line = omega arith
text_more (l ∷ lines) line = omega (arith, text_more lines line)

pub numbered_more : (n : ℕ) (ts : List Target) (t : Target) → numbered n (ts ++ (t ∷ [])) ≡ (numbered n ts || eqb t.number n)
numbered_more n ts t = list_any-append (λ s. s.number == n) ts (t ∷ []) ∙ ap (λ b. numbered n ts || b) (or-false (eqb t.number n))

-- one number more
pub noted : (seen after : Numbers) (ts : List Target) (t : Target) → ((n : ℕ) → has after n ≡ (has seen n || eqb t.number n)) → ((n : ℕ) → has seen n ≡ numbered n ts) → (n : ℕ) → has after n ≡ numbered n (ts ++ (t ∷ []))
noted seen after ts t more table n = more n ∙ ap (λ b. b || eqb t.number n) (table n) ∙ sym (numbered_more n ts t)

unended : (size most : ℕ) (c : Content) (left : List ℕ) → length left ≡ 0 → Err (fault_at MissingEnd size) ≡ counted (walk size most c left)
unended size zero c [] none = rw (sub-zero size)
unended size (suc most) c [] none = rw (sub-zero size)
unended size most c (b ∷ more) none = absurd (omega (arith, none))

-- what is known of a read, once its cause has a place
read_ok : (r : Result Step Cause) (m : Result Step FileFault) (P : Cause → FileFault → Type 0) (s : Step) → MatchResult r (λ x. m ≡ Ok x) (λ cause. IsErrAnd m (P cause)) → m ≡ Ok s → r ≡ Ok s
read_ok (Ok x) m P s cases is = ap Ok (same_ok (sym cases ∙ is))
read_ok (Err cause) m P s cases is = absurd (subst (λ n. IsErrAnd n (P cause)) is cases)

read_err : (r : Result Step Cause) (m : Result Step FileFault) (P : Cause → FileFault → Type 0) (f : FileFault) → MatchResult r (λ x. m ≡ Ok x) (λ cause. IsErrAnd m (P cause)) → m ≡ Err f → (cause : Cause) × (r ≡ Err cause) × P cause f
read_err (Ok x) m P f cases is = absurd (never f x (sym is ∙ cases))
read_err (Err cause) m P f cases is = (cause, refl, subst (λ n. IsErrAnd n (P cause)) is cases)

pub field_read : (left : List ℕ) (r : Result Step Cause) (m : Result Step FileFault) (P : Cause → FileFault → Type 0) (s : Step) (f : Field) → stepped r ≡ front left → MatchResult r (λ x. m ≡ Ok x) (λ cause. IsErrAnd m (P cause)) → m ≡ Ok s → s.field ≡ f → front left ≡ Ok (said f then s.rest.now)
field_read left r m P s f e cases is field = sym e ∙ ap stepped (read_ok r m P s cases is) ∙ ap (λ g. Ok (said g then s.rest.now)) field

pub fault_read : (left : List ℕ) (r : Result Step Cause) (m : Result Step FileFault) (P : Cause → FileFault → Type 0) (f : FileFault) → stepped r ≡ front left → MatchResult r (λ x. m ≡ Ok x) (λ cause. IsErrAnd m (P cause)) → m ≡ Err f → (cause : Cause) × (front left ≡ Err cause) × P cause f
fault_read left r m P f e cases is = let q = read_err r m P f cases is in (q.0, sym e ∙ ap stepped q.1, q.2)

module _ (file left : List ℕ) (seen : Numbers) (sum : Summary) (some : 0 < length left) (u : Under file left seen sum) where
  -- the verdict, by the field that comes next
  next : (k : ℕ) × (u.most ≡ suc k) × (judged (length file) (walk (length file) k) u.content left (front left) ≡ verdict file)
  next = let s = step (length file) u.most u.content left some u.enough in (s.0, s.1, sym s.2 ∙ u.same)

  pub at_fault : (cause : Cause) → front left ≡ Err cause → Err (fault_at cause (length file - length left)) ≡ counted (verdict file)
  at_fault cause e = ap counted (rw e at next.2)

  pub at_piece : (line rest : List ℕ) → front left ≡ Ok (piece line then rest) → Under file rest seen (record { pieces = sum.pieces + 1; targets = sum.targets; text = sum.text + length line })
  at_piece line rest e =
      let f = (fronted_piece left line rest (fronted left (piece line) rest e)).0 in
      record {
        most = next.0;
        content = with_line u.content line;
        enough = omega (arith, next.1, u.enough);
        same = rw e at next.2;
        fields = omega (arith, u.fields);
        bytes = omega (arith, u.bytes);
        pieces = simp length-append (omega (arith, u.pieces));
        targets = u.targets;
        text = omega (arith, text_more u.content.lines line, u.text);
        table = u.table;
      }

  pub at_target : (t : Target) (rest : List ℕ) → front left ≡ Ok (target t then rest) → has seen t.number ≡ false → (after : Numbers) → ((n : ℕ) → has after n ≡ (has seen n || eqb t.number n)) → Under file rest after (record { pieces = sum.pieces; targets = sum.targets + 1; text = sum.text })
  at_target t rest e new after more =
      let shorter = (fronted_target left t rest (fronted left (target t) rest e)).0 in
      let unseen : numbered t.number u.content.targets ≡ false = sym (u.table t.number) ∙ new in
      record {
        most = next.0;
        content = with_target u.content t;
        enough = omega (arith, next.1, u.enough);
        same = rw (e, unseen) at next.2;
        fields = omega (arith, u.fields);
        bytes = omega (arith, u.bytes);
        pieces = u.pieces;
        targets = simp length-append (omega (arith, u.targets));
        text = u.text;
        table = noted seen after u.content.targets t more u.table;
      }

  pub at_repeat : (t : Target) (rest : List ℕ) → front left ≡ Ok (target t then rest) → has seen t.number ≡ true → Err (fault_at RepeatedNumber (length file - length left)) ≡ counted (verdict file)
  at_repeat t rest e old =
      let there : numbered t.number u.content.targets ≡ true = sym (u.table t.number) ∙ old in
      ap counted (rw (e, there) at next.2)

  -- a number that was read fits the table
  pub low : (t : Target) (rest : List ℕ) → front left ≡ Ok (target t then rest) → t.number < 10000
  low t rest e = low_number t (fronted_target left t rest (fronted left (target t) rest e)).1

  pub at_wrong_count : (count : ℕ) (rest : List ℕ) → front left ≡ Ok (end count then rest) → (count ≡ sum.pieces + sum.targets → ⊥) → Err (fault_at WrongCount (length file - length left)) ≡ counted (verdict file)
  at_wrong_count count rest e wrong =
      let off : eqb count (fields_in u.content) ≡ false = ne_eqb count (fields_in u.content) (λ is. wrong (omega (arith, is, u.pieces, u.targets))) in
      ap counted (rw (e, off) at next.2)

  counts_all : (count : ℕ) → count ≡ sum.pieces + sum.targets → eqb count (fields_in u.content) ≡ true
  counts_all count is = eq-eqb count (fields_in u.content) (omega (arith, is, u.pieces, u.targets))

  pub at_more : (count : ℕ) (rest : List ℕ) → front left ≡ Ok (end count then rest) → count ≡ sum.pieces + sum.targets → 0 < length rest → Err (fault_at TrailingBytes (length file - length rest)) ≡ counted (verdict file)
  at_more count rest e right more = ap counted (rw (e, counts_all count right, not_empty rest more) at next.2)

  pub at_end : (count : ℕ) (rest : List ℕ) → front left ≡ Ok (end count then rest) → count ≡ sum.pieces + sum.targets → length rest ≡ 0 → Ok sum ≡ counted (verdict file)
  at_end count rest e right none =
      let same : ◌≡◌ {A = Summary} (record { pieces = sum.pieces; targets = sum.targets; text = sum.text }) (counts u.content) = cc in
      ap Ok same ∙ ap counted (rw (e, counts_all count right, empty rest none) at next.2)

pub at_nothing : (file left : List ℕ) (seen : Numbers) (sum : Summary) → length left ≡ 0 → Under file left seen sum → Err (fault_at MissingEnd (length file)) ≡ counted (verdict file)
at_nothing file left seen sum none u = unended (length file) u.most u.content left none ∙ ap counted u.same

pub too_long : (file : List ℕ) → 65535 < length file → Err (fault_at TooLong 0) ≡ counted (verdict file)
too_long file h = rw (lt-ltb 65535 (length file) h)
