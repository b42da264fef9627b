use Rattle.std.proofs.Common.{refl}
use Rattle.std.specs.Prelude.{take}
use Rattle.tp_model.specs.Calls.{Line, Status}
use Rattle.tp_pool.proofs.Meeting.{meeting, told_alike}
use Rattle.tp_pool.proofs.managed.PoolManaged.status.Goals as goal

pub returns-clause-met : goal.returns-clause-met
returns-clause-met g c =
    let pool = c.args.self.now in
    meeting g.M.Metadata.geometry g.M.Metadata.stands g.M.Metadata.marks g.M.Metadata.room g.M.Metadata.changed pool pool Status refl
    (Line (take c.status.result c.status.new.out)) refl refl (told_alike pool.holders pool.holders refl) c.status.ensures.called c.status.ensures.answered c.status.ensures.flushes
