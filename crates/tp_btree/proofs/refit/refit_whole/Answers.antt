use Rattle.std.proofs.Common.{refl, ap}
use Rattle.tp_layout.specs.Node.{NodeValue}
use Rattle.tp_layout.specs.Value.{node_value}
use Rattle.tp_btree.proofs.Refits.{whole_refit}
use Rattle.tp_btree.proofs.refit.refit_whole.Goals as goal

pub returns-clause-refitted : goal.returns-clause-refitted
returns-clause-refitted g c honest opens held s k low high cr =
    let tm = c.args.tm.now in
    whole_refit tm.geometry.metadata_blocks tm (g.D.Disk.state c.args.disk.now) c.args.node.now.kind c.args.node.now.entries.items c.args.index (node_value c.args.part.now) opens held s k low high cr c.write.new.tm (g.D.Disk.state c.write.new.disk)
    c.number.result c.exchange_child.new.node.entries.items refl c.requires.inside c.requires.part c.requires.full c.in_ok-write.ensures.written c.number.ensures.value (ap (λ (x : NodeValue). x.entries) c.exchange_child.ensures.value)
