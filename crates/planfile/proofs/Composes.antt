-- A file made of a text and targets. Assumes nothing.
use Rattle.std.proofs.Common.{◌≡◌, ℕ, ◌+◌, ◌*◌, true, List, length, Ok, Result, arith}
use Rattle.kinds.specs.declared.targets.Target.{Target}
use Rattle.planfile.specs.declared.faults.FileFault.{FileFault}
use Rattle.planfile.specs.Files.{file_of, all_targets, distinct}
use Rattle.planfile.specs.Text.{lines_of}
use Rattle.planfile.specs.Writing.{answer, left_after, content_of, write_answer, write_output, SaysSame}
use Rattle.planfile.proofs.Cuts.{all_cut, bytes_cut, pieces_size, targets_size}
use Rattle.planfile.proofs.Rewrites.{content_size, reads_as}

pub file_size : (text : List ℕ) (ts : List Target) → length (file_of (lines_of text) ts) ≡ length text + 3 * length (lines_of text) + 9 * length ts + 5
file_size text ts =
    omega (arith, content_size (content_of (lines_of text) ts), pieces_size (lines_of text), bytes_cut text, targets_size ts)

-- what was put of targets within the rules is what was to be written, and is read again
pub record Wrote (text : List ℕ) (ts : List Target) (out : List ℕ) (r : Result ℕ FileFault) (after : List ℕ) : Type 0 where
  pub answer : r ≡ write_answer (lines_of text) ts out
  pub output : after ≡ write_output (lines_of text) ts out
  pub same : SaysSame (Ok (content_of (lines_of text) ts)) r after

pub wrote : (text : List ℕ) (ts : List Target) (out : List ℕ) → all_targets ts ≡ true → distinct ts ≡ true → (r : Result ℕ FileFault) (after : List ℕ) → r ≡ answer out 0 (file_of (lines_of text) ts) → after ≡ left_after out 0 (file_of (lines_of text) ts) → Wrote text ts out r after
wrote text ts out ok apart r after is-r is-after =
    record {
      answer = rw (ok, apart) is-r;
      output = rw (ok, apart) is-after;
      same = reads_as (content_of (lines_of text) ts) out (all_cut text) ok apart r after is-r is-after;
    }
