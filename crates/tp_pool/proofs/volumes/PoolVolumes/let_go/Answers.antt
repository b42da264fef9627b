use Rattle.std.proofs.Common.{ap, refl}
use Rattle.tp_model.specs.Calls.{Done, LetGo}
use Rattle.tp_pool.specs.Held.{Held}
use Rattle.tp_pool.proofs.Meeting.{meeting}
use Rattle.tp_pool.proofs.volumes.PoolVolumes.let_go.Goals as goal

pub returns : goal.returns
returns g c =
    meeting g.M.Metadata.geometry g.M.Metadata.stands g.M.Metadata.marks g.M.Metadata.room g.M.Metadata.changed c.args.self.now c.let_go.new.self (LetGo c.args.id)
    (ap (λ (h : Held g.row.M.Denot). g.M.Metadata.geometry h.metadata) c.let_go.ensures.held)
    Done refl c.let_go.ensures.holds (λ other was is. (c.let_go.ensures.sizes other is).1) c.let_go.ensures.called c.let_go.ensures.answered c.let_go.ensures.flushes
