use Rattle.std.proofs.Common.{◌≡◌, suc, ◌+◌, ◌<◌, ◌≤◌, [], ◌∷◌, ◌++◌, length, Some, ap, subst, arith, rules}
use Rattle.model.specs.Tree.{levels, count}
use Rattle.model.specs.Append.{onto}
use Rattle.model.specs.Forms.{Formed}
use Rattle.cells.specs.Cells.{nodes, rooted}
use Rattle.cells.specs.Fingers.{listed}
use Rattle.cells.specs.Chain.{free_cells}
use Rattle.cells.proofs.Fours.{listed_length}
use Rattle.cells.specs.Fingers.{listed_some}
use Rattle.joins.proofs.Rows.{row_length}
use Rattle.cells.proofs.Fours.{some_length}
use Rattle.cells.proofs.Turned.{turned_formed, turned_count}
use Rattle.joins.proofs.Joining.{base_room, base_made, onto_empty, onto_single, with_empty, with_single, row_formed, row_counts, row_long, joined_depth, inner_is, left_ready, right_ready, groups_ready, inner_count, below_ready, below_depth, front_ready, back_ready, joined_count, appended}
use Rattle.joins.proofs.append.+append.Goals as goal

-- the left tree is empty
pub push_run-requires-clause-room : goal.push_run-requires-clause-room
push_run-requires-clause-room g t c =
    let q = g.K.Kind.kind in
    let h = c.args.cells.now in
    let k = c.args.level in
    let ls = listed_some c.args.loose in
    base_room (free_cells h) ls _ _ (onto_empty q h k (rooted h k c.args.left) (nodes h k ls) (rooted h k c.args.right) c.in-Empty.ensures.0) (omega (arith, some_length c.args.loose)) c.requires.room

pub returns-in-Empty-clause-made : goal.returns-in-Empty-clause-made
returns-in-Empty-clause-made g t c =
    let q = g.K.Kind.kind in
    let h = c.args.cells.now in
    let k = c.args.level in
    let ls = listed_some c.args.loose in
    base_made ls _ _ (onto_empty q h k (rooted h k c.args.left) (nodes h k ls) (rooted h k c.args.right) c.in-Empty.ensures.0) (omega (arith, some_length c.args.loose)) c.push_run.ensures.made

-- the left tree is a single finger
pub push_after-requires-clause-room : goal.push_after-requires-clause-room
push_after-requires-clause-room g t c =
    let q = g.K.Kind.kind in
    let h = c.args.cells.now in
    let k = c.args.level in
    let ls = listed_some c.args.loose in
    let x = c.in-Single.finger in
    base_room (free_cells h) (x ∷ ls) _ _ (onto_single q h k (rooted h k c.args.left) x ls (rooted h k c.args.right) c.in-Single.ensures.0) (omega (arith, some_length c.args.loose)) c.requires.room

pub returns-in-Single-clause-made : goal.returns-in-Single-clause-made
returns-in-Single-clause-made g t c =
    let q = g.K.Kind.kind in
    let h = c.args.cells.now in
    let k = c.args.level in
    let ls = listed_some c.args.loose in
    let x = c.in-Single.finger in
    base_made (x ∷ ls) _ _ (onto_single q h k (rooted h k c.args.left) x ls (rooted h k c.args.right) c.in-Single.ensures.0) (omega (arith, some_length c.args.loose)) c.push_after.ensures.made

-- the right tree is empty
pub push_run-requires-in-Empty-view : goal.push_run-requires-in-Empty-view
push_run-requires-in-Empty-view g t c =
    let q = g.K.Kind.kind in
    let h = c.args.cells.now in
    let k = c.args.level in
    let ls = listed_some c.args.loose in
    let turned = listed_some c.reversed_some.result in
    let o = c.reversed_some.ensures in
    let e = with_empty q h k ls turned o (rooted h k c.args.left) _ _ _ _ _ (rooted h k c.args.right) c.in-Deep.ensures.is c.in-Empty-view.ensures.0 in
    record {
      room = base_room (free_cells c.args.cells.now) turned _ _ e (omega (arith, some_length c.reversed_some.result)) c.requires.room;
      sound = c.requires.sound;
      shallow = omega (arith, ap levels e, c.requires.shallow);
      formed = c.requires.left;
      run = turned_formed h k ls turned o c.requires.loose;
      fits = omega (arith, turned_count h k ls turned o, c.requires.fits);
    }

pub returns-in-Empty-view-clause-made : goal.returns-in-Empty-view-clause-made
returns-in-Empty-view-clause-made g t c =
    let q = g.K.Kind.kind in
    let h = c.args.cells.now in
    let k = c.args.level in
    let ls = listed_some c.args.loose in
    let turned = listed_some c.reversed_some.result in
    let e = with_empty q h k ls turned c.reversed_some.ensures (rooted h k c.args.left) _ _ _ _ _ (rooted h k c.args.right) c.in-Deep.ensures.is c.in-Empty-view.ensures.0 in
    base_made turned _ _ e (omega (arith, some_length c.reversed_some.result)) c.push_run-in-Empty-view.ensures.made

-- the right tree is a single finger
pub push_after-requires-in-Single-view : goal.push_after-requires-in-Single-view
push_after-requires-in-Single-view g t c =
    let q = g.K.Kind.kind in
    let h = c.args.cells.now in
    let k = c.args.level in
    let ls = listed_some c.args.loose in
    let turned = listed_some c.reversed_some-in-Single-view.result in
    let o = c.reversed_some-in-Single-view.ensures in
    let x = c.in-Single-view.only in
    let is = c.in-Single-view.ensures.0 in
    let e = with_single q h k ls turned o (rooted h k c.args.left) _ _ _ _ _ (rooted h k c.args.right) x c.in-Deep.ensures.is is in
    record {
      room = base_room (free_cells c.args.cells.now) (x ∷ turned) _ _ e (omega (arith, some_length c.reversed_some-in-Single-view.result)) c.requires.room;
      sound = c.requires.sound;
      shallow = omega (arith, ap levels e, c.requires.shallow);
      formed = c.requires.left;
      run = (subst (Formed k) is c.requires.right, turned_formed h k ls turned o c.requires.loose);
      fits = omega (arith, turned_count h k ls turned o, ap count is, c.requires.fits);
    }

pub returns-in-Single-view-clause-made : goal.returns-in-Single-view-clause-made
returns-in-Single-view-clause-made g t c =
    let q = g.K.Kind.kind in
    let h = c.args.cells.now in
    let k = c.args.level in
    let ls = listed_some c.args.loose in
    let turned = listed_some c.reversed_some-in-Single-view.result in
    let x = c.in-Single-view.only in
    let e = with_single q h k ls turned c.reversed_some-in-Single-view.ensures (rooted h k c.args.left) _ _ _ _ _ (rooted h k c.args.right) x c.in-Deep.ensures.is c.in-Single-view.ensures.0 in
    base_made (x ∷ turned) _ _ e (omega (arith, some_length c.reversed_some-in-Single-view.result)) c.push_after-in-Single-view.ensures.made

-- both trees have both ends
pub group_row-grouped-requires : goal.group_row-grouped-requires
group_row-grouped-requires g t c =
    let ls = listed_some c.args.loose in
    let ps = listed c.reversed.result ++ (ls ++ listed c.in-Deep-view.near) in
    let e : ps ≡ onto (listed c.in-Deep.back) [] ++ (ls ++ listed c.in-Deep-view.near) = ap (λ xs. xs ++ (ls ++ listed c.in-Deep-view.near)) c.reversed.ensures in
    record {
      room = omega (arith, row_length (record { first = Some c.reversed.result; second = c.args.loose; third = Some c.in-Deep-view.near }), joined_depth g.K.Kind.kind c.args.cells.now c.args.level c.args.left c.args.right ls c.requires.loose c.in-Deep.ensures c.in-Deep-view.ensures ps e, c.requires.room);
      sound = c.requires.sound;
      long = row_long g.K.Kind.kind c.args.cells.now c.args.level c.args.left c.args.right ls c.requires.loose c.in-Deep.ensures c.in-Deep-view.ensures ps e;
      formed = row_formed g.K.Kind.kind c.args.cells.now c.args.level c.args.left c.args.right ls c.requires.loose c.in-Deep.ensures c.in-Deep-view.ensures ps e;
      fits = omega (arith, row_counts g.K.Kind.kind c.args.cells.now c.args.level c.args.left c.args.right ls c.requires.loose c.in-Deep.ensures c.in-Deep-view.ensures ps e, c.in-Deep.ensures.counts, c.in-Deep-view.ensures.counts, c.requires.fits);
    }

pub append-below-requires : goal.append-below-requires
append-below-requires g t c κs within =
    let ls = listed_some c.args.loose in
    let ps = listed c.reversed.result ++ (ls ++ listed c.in-Deep-view.near) in
    let e : ps ≡ onto (listed c.in-Deep.back) [] ++ (ls ++ listed c.in-Deep-view.near) = ap (λ xs. xs ++ (ls ++ listed c.in-Deep-view.near)) c.reversed.ensures in
    let step : suc c.args.level ≡ c.args.level + 1 = omega arith in
    let spent = c.group_row-grouped.ensures.made.grown.spent in
    let gs = c.group_row-grouped.result in
    let short : length (listed gs) ≤ 4 = omega (arith, listed_length gs, gs.filled.1) in
    let depth = joined_depth g.K.Kind.kind c.args.cells.now c.args.level c.args.left c.args.right ls c.requires.loose c.in-Deep.ensures c.in-Deep-view.ensures ps e in
    let inner = ap levels (inner_is g.K.Kind.kind c.args.cells.now c.args.level c.args.left c.args.right ls c.requires.loose c.in-Deep.ensures c.in-Deep-view.ensures ps e gs c.group_row-grouped.ensures.made step) in
    let lower = c.in-Deep.ensures.levels in
    let less : c.in-Deep.inner.levels < c.args.left.levels = omega (arith, lower) in
    (search rules, (within.0, (within.1.0, (within.1.1.0, (within.1.1.1, (omega (arith, depth, inner, short, spent, c.requires.room), (c.group_row-grouped.ensures.sound, (omega (arith, depth, inner, c.requires.shallow), (left_ready g.K.Kind.kind c.args.cells.now c.args.level c.args.left c.args.right ls c.requires.loose c.in-Deep.ensures c.in-Deep-view.ensures ps e gs c.group_row-grouped.ensures.made step, (groups_ready g.K.Kind.kind c.args.cells.now c.args.level c.args.left c.args.right ls c.requires.loose c.in-Deep.ensures c.in-Deep-view.ensures ps e gs c.group_row-grouped.ensures.made step, (right_ready g.K.Kind.kind c.args.cells.now c.args.level c.args.left c.args.right ls c.requires.loose c.in-Deep.ensures c.in-Deep-view.ensures ps e gs c.group_row-grouped.ensures.made step, omega (arith, inner_count g.K.Kind.kind c.args.cells.now c.args.level c.args.left c.args.right ls c.requires.loose c.in-Deep.ensures c.in-Deep-view.ensures ps e gs c.group_row-grouped.ensures.made step, c.requires.fits))))))))))))

pub make_deep-requires : goal.make_deep-requires
make_deep-requires g t c =
    let ls = listed_some c.args.loose in
    let ps = listed c.reversed.result ++ (ls ++ listed c.in-Deep-view.near) in
    let e : ps ≡ onto (listed c.in-Deep.back) [] ++ (ls ++ listed c.in-Deep-view.near) = ap (λ xs. xs ++ (ls ++ listed c.in-Deep-view.near)) c.reversed.ensures in
    let step : suc c.args.level ≡ c.args.level + 1 = omega arith in
    let spent = c.group_row-grouped.ensures.made.grown.spent in
    let more = c.append-below.ensures.made.grown.spent in
    let gs = c.group_row-grouped.result in
    let short : length (listed gs) ≤ 4 = omega (arith, listed_length gs, gs.filled.1) in
    let depth = joined_depth g.K.Kind.kind c.args.cells.now c.args.level c.args.left c.args.right ls c.requires.loose c.in-Deep.ensures c.in-Deep-view.ensures ps e in
    let below = below_depth g.K.Kind.kind c.args.cells.now c.args.level c.args.left c.args.right ls c.requires.loose c.in-Deep.ensures c.in-Deep-view.ensures ps e gs c.group_row-grouped.ensures.made step c.append-below.ensures.made in
    record {
      room = omega (arith, depth, below, short, spent, more, c.requires.room);
      sound = c.append-below.ensures.sound;
      shallow = omega (arith, depth, below, c.requires.shallow);
      near = front_ready g.K.Kind.kind c.args.cells.now c.args.level c.args.left c.args.right ls c.requires.loose c.in-Deep.ensures c.in-Deep-view.ensures ps e gs c.group_row-grouped.ensures.made step c.append-below.ensures.made;
      middle = below_ready g.K.Kind.kind c.args.cells.now c.args.level c.args.left c.args.right ls c.requires.loose c.in-Deep.ensures c.in-Deep-view.ensures ps e gs c.group_row-grouped.ensures.made step c.append-below.ensures.made;
      far = back_ready g.K.Kind.kind c.args.cells.now c.args.level c.args.left c.args.right ls c.requires.loose c.in-Deep.ensures c.in-Deep-view.ensures ps e gs c.group_row-grouped.ensures.made step c.append-below.ensures.made;
      fits = omega (arith, joined_count g.K.Kind.kind c.args.cells.now c.args.level c.args.left c.args.right ls c.requires.loose c.in-Deep.ensures c.in-Deep-view.ensures ps e gs c.group_row-grouped.ensures.made step c.append-below.ensures.made, c.requires.fits);
    }

pub returns-in-Deep-view-clause-made : goal.returns-in-Deep-view-clause-made
returns-in-Deep-view-clause-made g t c =
    let ls = listed_some c.args.loose in
    let ps = listed c.reversed.result ++ (ls ++ listed c.in-Deep-view.near) in
    let e : ps ≡ onto (listed c.in-Deep.back) [] ++ (ls ++ listed c.in-Deep-view.near) = ap (λ xs. xs ++ (ls ++ listed c.in-Deep-view.near)) c.reversed.ensures in
    let step : suc c.args.level ≡ c.args.level + 1 = omega arith in
    let short = some_length c.args.loose in
    appended g.K.Kind.kind c.args.cells.now c.args.level c.args.left c.args.right ls c.requires.loose c.in-Deep.ensures c.in-Deep-view.ensures ps e c.group_row-grouped.result c.group_row-grouped.ensures.made step c.append-below.ensures.made c.requires.left c.requires.right short c.make_deep.ensures.made
