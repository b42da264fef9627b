use Rattle.std.proofs.Common.{sym, subst, Option, Some}
use Rattle.tp_hub.specs.Places.{IsReadySlot}
use Rattle.tp_hub.specs.Flushed.{TakesFlushed}
use Rattle.nbd_session.specs.Session.{State}
use Rattle.tp_hub.proofs.Ending.{makes_some}
use Rattle.tp_hub.proofs.flushed.flush_slot.Goals as goal

pub returns : goal.returns
returns g c = λ p slot met.
    let view = g.V.Volumes.view in
    let f = c.flush_session in
    let ready = subst (λ s. IsReadySlot s (view.outline p) (view.more p)) c.in-Some.is slot in
    subst (λ (s : Option State). TakesFlushed view c.args.number c.args.piece.now s p f.result.events f.result.bytes c.args.out.now f.new.out (Some f.new.session) c.args.pool.now) (sym c.in-Some.is) (f.ensures p ready.0 ready.1 met)

pub unreachable-requires : goal.unreachable-requires
unreachable-requires g c = absurd (makes_some c.args.slot.now c.args.piece.now c.in-None.is c.requires.makes)
