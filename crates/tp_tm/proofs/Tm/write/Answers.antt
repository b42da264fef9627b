use Rattle.std.proofs.Common.{◌≡◌, length, subst, ap, arith}
use Rattle.std.proofs.lemmas.Result.{on_ok_weaker}
use Rattle.tp_model.specs.Geometry.{metadata_sector}
use Rattle.tp_model.specs.Sectors.{sectors_of}
use Rattle.tp_model.specs.Disk.{Writes, after_write}
use Rattle.tp_layout.specs.Value.{node_value}
use Rattle.tp_tm.specs.Tm.{Tm}
use Rattle.tp_tm.proofs.Keeping.{block_kept}
use Rattle.tp_tm.proofs.Standing.{block_moments, block_outside, open_holds, written_holds}
use Rattle.tp_tm.proofs.Tm.write.Given.{Over}
use Rattle.tp_tm.proofs.Tm.write.Goals as goal
use Rattle.tp_tm.proofs.Tm.write.Goals.{After-write}

-- the write is of the node's block
of_block : (g : Over) (c : After-write g) → Writes (metadata_sector c.args.node.now.own) (sectors_of c.write_node.new.block) (g.D.Disk.state c.args.disk.now) (g.D.Disk.state c.write.new.self)
of_block g c = subst (λ at. Writes at (sectors_of c.write_node.new.block) (g.D.Disk.state c.args.disk.now) (g.D.Disk.state c.write.new.self)) c.first_sector.ensures c.write.ensures.any

pub returns-clause-holds : goal.returns-clause-holds
returns-clause-holds g c =
    let d = (goal.at.returns-clause-holds g c).After-write in
    let n = node_value c.args.node.now in
    let old = g.D.Disk.state c.args.disk.now in
    let new = g.D.Disk.state c.write.new.self in
    on_ok_weaker c.write.result
    (λ e opens held s h ranks.
    written_holds c.args.self.now old new opens held s n c.write_node.new.block c.requires.node c.write_node.ensures c.write_node.array_long c.requires.inside
    (g.met.D.Disk.well_formed c.args.disk.now) (omega (arith, c.requires.disk))
    (subst (λ at. new ≡ after_write at (sectors_of c.write_node.new.block) old) c.first_sector.ensures e)
    (block_outside n.own c.write_node.new.block c.write_node.array_long (of_block g d)) h ranks)
    c.write.ensures.ok

pub returns-clause-open : goal.returns-clause-open
returns-clause-open g c opens held s h =
    let d = (goal.at.returns-clause-open g c).After-write in
    let new = g.D.Disk.state c.write.new.self in
    open_holds c.args.self.now (g.D.Disk.state c.args.disk.now) new opens held s c.args.node.now.own
    (block_outside c.args.node.now.own c.write_node.new.block c.write_node.array_long (of_block g d)) h

pub returns-clause-any_moment : goal.returns-clause-any_moment
returns-clause-any_moment g c =
    let d = (goal.at.returns-clause-any_moment g c).After-write in
    block_moments c.args.node.now.own c.write_node.new.block c.write_node.array_long (of_block g d)

pub returns-clause-any_moment_kept : goal.returns-clause-any_moment_kept
returns-clause-any_moment_kept g c =
    let d = (goal.at.returns-clause-any_moment_kept g c).After-write in
    block_kept c.args.self.now.metadata_kept c.args.node.now.own
    (omega (arith, c.requires.inside, c.self.invariant.metadata_kept, ap (λ (t : Tm). t.geometry.metadata_blocks) c.self.view_is, ap (λ (t : Tm). length t.metadata_kept) c.self.view_is)) c.requires.unkept
    (block_moments c.args.node.now.own c.write_node.new.block c.write_node.array_long (of_block g d)) (block_outside c.args.node.now.own c.write_node.new.block c.write_node.array_long (of_block g d))
