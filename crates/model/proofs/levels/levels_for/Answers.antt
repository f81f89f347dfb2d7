use Rattle.std.proofs.Common.{◌≡◌, suc, ◌+◌, ◌*◌, ◌^◌, ◌<◌, ◌≤◌, ◌∙◌, arith}
use Rattle.std.proofs.Math.Nat.{pow-succ'}
use Rattle.model.proofs.Doubling.{most_between}
use Rattle.model.proofs.levels.levels_for.Goals as goal

pub returns : goal.returns
returns c =
    let n = c.args.items in
    let d = c.ilog2.result in
    let low : 3 * 2 ^ d ≤ n + 2 = omega (arith, c.ilog2.ensures.power_le) in
    let high : n + 2 < 3 * 2 ^ suc d = omega (arith, c.ilog2.ensures.next_power_gt, pow-succ' 2 d) in
    let one : d + 1 ≡ suc d = omega arith in
    one ∙ most_between n d low high
