use Rattle.std.proofs.Common.{ap, refl, subst}
use Rattle.tp_model.specs.Calls.{Done, LetGo}
use Rattle.tp_pool.specs.Held.{Held, PoolCalled}
use Rattle.tp_pool.proofs.Calling.{Laws}
use Rattle.tp_pool.proofs.Serving.{let_go_done}
use Rattle.tp_pool.proofs.Answering.{let_go_answers}
use Rattle.tp_pool.proofs.Flushing.{flushed_read}
use Rattle.tp_pool.proofs.pool.Pool.let_go.Goals as goal

pub returns-clause-called : goal.returns-clause-called
returns-clause-called g c =
    let met = g.met.M.Metadata in
    let laws : Laws g.M.Metadata.geometry g.M.Metadata.stands g.M.Metadata.marks g.M.Metadata.room = record { within = met.within; honest = met.honest; left = met.left; frame = met.frame } in
    let e = c.self.view_is in
    subst (λ (h : Held g.row.M.Denot). PoolCalled g.M.Metadata.geometry g.M.Metadata.stands h (record { disk = g.D.Disk.state c.self.inside.disk; metadata = c.self.inside.metadata; holders = c.release.new.holders.items; mode = c.self.inside.mode }) (LetGo c.args.id) Done) e
    (let_go_done laws (record { disk = g.D.Disk.state c.self.inside.disk; metadata = c.self.inside.metadata; holders = c.self.inside.holders.items; mode = c.self.inside.mode }) c.args.id c.release.new.holders.items c.release.ensures.holds c.release.ensures.blocks)

pub returns-clause-answered : goal.returns-clause-answered
returns-clause-answered g c =
    let e = c.self.view_is in
    let new : Held g.row.M.Denot = record { disk = g.D.Disk.state c.self.inside.disk; metadata = c.self.inside.metadata; holders = c.release.new.holders.items; mode = c.self.inside.mode } in
    let_go_answers g.M.Metadata.geometry g.M.Metadata.stands c.args.id c.args.self.now new (ap (λ (h : Held g.row.M.Denot). h.mode) e) (ap (λ (h : Held g.row.M.Denot). h.disk) e)

pub returns-clause-flushes : goal.returns-clause-flushes
returns-clause-flushes g c =
    let e = c.self.view_is in
    let new : Held g.row.M.Denot = record { disk = g.D.Disk.state c.self.inside.disk; metadata = c.self.inside.metadata; holders = c.release.new.holders.items; mode = c.self.inside.mode } in
    flushed_read g.M.Metadata.geometry g.M.Metadata.stands g.M.Metadata.marks g.M.Metadata.room g.M.Metadata.changed c.args.self.now new (LetGo c.args.id) Done (ap (λ (h : Held g.row.M.Denot). h.disk.flushes) e) (ap (λ (h : Held g.row.M.Denot). h.metadata) e) refl refl
