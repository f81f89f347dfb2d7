use Rattle.std.proofs.Common.{◌∷◌, refl, arith, rules}
use Rattle.cells.specs.Cells.{end}
use Rattle.cells.specs.Fingers.{listed_some}
use Rattle.joins.proofs.Runs.{others_ready, others_count, others_levels, others_room, others_depth, next_room, next_formed, first_ready, next_count, pushed_all}
use Rattle.joins.proofs.append.+pushing.Goals as goal

pub push_after-push_run-more-requires : goal.push_after-push_run-more-requires
push_after-push_run-more-requires g t c κs within =
    let room = others_room g.K.Kind.kind (end c.args.side) c.args.cells.now c.args.level c.args.root c.requires.formed (c.args.finger ∷ listed_some c.args.others) c.requires.run c.args.finger (listed_some c.args.others) refl _ c.requires.room in
    let levels = others_levels g.K.Kind.kind (end c.args.side) c.args.cells.now c.args.level c.args.root c.requires.formed (c.args.finger ∷ listed_some c.args.others) c.requires.run c.args.finger (listed_some c.args.others) refl in
    let run = others_ready g.K.Kind.kind (end c.args.side) c.args.cells.now c.args.level c.args.root c.requires.formed (c.args.finger ∷ listed_some c.args.others) c.requires.run c.args.finger (listed_some c.args.others) refl in
    let count = others_count g.K.Kind.kind (end c.args.side) c.args.cells.now c.args.level c.args.root c.requires.formed (c.args.finger ∷ listed_some c.args.others) c.requires.run c.args.finger (listed_some c.args.others) refl in
    search rules

pub push_after-push-requires : goal.push_after-push-requires
push_after-push-requires g t c = record {
  room = next_room g.K.Kind.kind (end c.args.side) c.args.cells.now c.args.level c.args.root c.requires.formed (c.args.finger ∷ listed_some c.args.others) c.requires.run c.args.finger (listed_some c.args.others) refl c.push_run-more.ensures.made c.requires.room;
  sound = c.push_run-more.ensures.sound;
  shallow = omega (arith, others_depth g.K.Kind.kind (end c.args.side) c.args.cells.now c.args.level c.args.root c.requires.formed (c.args.finger ∷ listed_some c.args.others) c.requires.run c.args.finger (listed_some c.args.others) refl c.push_run-more.ensures.made, others_levels g.K.Kind.kind (end c.args.side) c.args.cells.now c.args.level c.args.root c.requires.formed (c.args.finger ∷ listed_some c.args.others) c.requires.run c.args.finger (listed_some c.args.others) refl, c.requires.shallow);
  formed = next_formed g.K.Kind.kind (end c.args.side) c.args.cells.now c.args.level c.args.root c.requires.formed (c.args.finger ∷ listed_some c.args.others) c.requires.run c.args.finger (listed_some c.args.others) refl c.push_run-more.ensures.made;
  finger = first_ready g.K.Kind.kind (end c.args.side) c.args.cells.now c.args.level c.args.root c.requires.formed (c.args.finger ∷ listed_some c.args.others) c.requires.run c.args.finger (listed_some c.args.others) refl c.push_run-more.ensures.made;
  fits = omega (arith, next_count g.K.Kind.kind (end c.args.side) c.args.cells.now c.args.level c.args.root c.requires.formed (c.args.finger ∷ listed_some c.args.others) c.requires.run c.args.finger (listed_some c.args.others) refl c.push_run-more.ensures.made, c.requires.fits);
}

pub push_after-returns-clause-made : goal.push_after-returns-clause-made
push_after-returns-clause-made g t c = pushed_all g.K.Kind.kind (end c.args.side) c.args.cells.now c.args.level c.args.root c.requires.formed (c.args.finger ∷ listed_some c.args.others) c.requires.run c.args.finger (listed_some c.args.others) refl c.push_run-more.ensures.made c.push.ensures.made
