use Rattle.std.proofs.Common.{arith, refl}
use Rattle.tp_listings.specs.Owned.{usage_at}
use Rattle.tp_listings.proofs.Counts.{count_next}
use Rattle.tp_listings.proofs.owners.count_owners.Goals as goal

pub loop-i-preserved : goal.loop-i-preserved
loop-i-preserved c j lt =
    count_next _ (usage_at c.args.usages.now j) (usage_at c.loop-i.usages j) (usage_at c.count_owner.new.usages j) c.loop-i.i j _ refl (omega (arith, c.loop-i-test.true, c.requires.most)) (c.loop-i.invariant j lt)
    (c.count_owner.ensures j (omega (arith, lt, c.loop-i.auto.usages)))
