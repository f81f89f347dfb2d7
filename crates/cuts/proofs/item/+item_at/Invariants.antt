use Rattle.cuts.proofs.item.+item_at.Given as goal

abbrev pub decreases-item_at : goal.decreases-item_at
decreases-item_at g l = l.root.levels
