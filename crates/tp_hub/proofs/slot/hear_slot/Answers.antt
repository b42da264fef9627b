use Rattle.std.proofs.Common.{◌≡◌, ◌∙◌, false, inl, subst, sym}
use Rattle.nbd_session.specs.Session.{is_at_work}
use Rattle.tp_hub.specs.Places.{IsReadySlot}
use Rattle.tp_hub.proofs.Taking.{brings_all, brings_end, brings_part, brings_parted, brings_to_none, idle_is_free}
use Rattle.tp_hub.proofs.slot.hear_slot.Goals as goal

pub returns-in-None-clause-takes : goal.returns-in-None-clause-takes
returns-in-None-clause-takes g c = brings_to_none g.V.Volumes.view c.args.number c.args.slot.now c.args.piece.now c.args.pool.now c.refuse.result.whole c.refuse.result.bytes c.args.out.now c.refuse.new.out c.in-None.is c.refuse.ensures.whole c.refuse.ensures.none c.refuse.ensures.full c.refuse.ensures.bytes

pub returns-in-Whole-clause-takes : goal.returns-in-Whole-clause-takes
returns-in-Whole-clause-takes g c =
    let view = g.V.Volumes.view in
    let ready = subst (λ s. IsReadySlot s (view.outline c.args.pool.now) (view.more c.args.pool.now)) c.in-Some.is c.requires in
    let idle : is_at_work c.in-Some.session.phase ≡ false = sym c.is_at_work.ensures ∙ c.if-is_at_work.false in
    let h = c.in-Whole.ensures.heard in
    brings_all view c.args.number c.args.slot.now c.in-Some.session c.hear.new.session c.args.piece.now c.args.pool.now c.hear.new.pool c.args.out.now c.hear.new.out c.in-Some.is ready.1 (idle_is_free c.in-Some.session.phase c.args.piece.now idle) h.0 h.2

pub returns-in-Stopped-clause-takes : goal.returns-in-Stopped-clause-takes
returns-in-Stopped-clause-takes g c =
    let view = g.V.Volumes.view in
    let ready = subst (λ s. IsReadySlot s (view.outline c.args.pool.now) (view.more c.args.pool.now)) c.in-Some.is c.requires in
    let idle : is_at_work c.in-Some.session.phase ≡ false = sym c.is_at_work.ensures ∙ c.if-is_at_work.false in
    let h = c.in-Stopped.ensures.heard in
    brings_part view c.args.number c.args.slot.now c.in-Some.session c.hear.new.session c.args.piece.now c.in-Stopped.bytes c.args.pool.now c.hear.new.pool c.args.out.now c.hear.new.out c.in-Some.is ready.1 idle h.0 h.1 h.2 h.3 (inl h.4)

pub returns-in-Over-clause-takes : goal.returns-in-Over-clause-takes
returns-in-Over-clause-takes g c =
    let view = g.V.Volumes.view in
    let ready = subst (λ s. IsReadySlot s (view.outline c.args.pool.now) (view.more c.args.pool.now)) c.in-Some.is c.requires in
    let idle : is_at_work c.in-Some.session.phase ≡ false = sym c.is_at_work.ensures ∙ c.if-is_at_work.false in
    let h = c.in-Over.ensures.heard in
    brings_end view c.args.number c.args.slot.now c.in-Some.session c.hear.new.session c.args.piece.now h.0 c.args.pool.now c.hear.new.pool c.args.out.now c.hear.new.out c.in-Some.is ready.1 (idle_is_free c.in-Some.session.phase c.args.piece.now idle) h.1 h.2 h.3

pub returns-in-Parted-clause-takes : goal.returns-in-Parted-clause-takes
returns-in-Parted-clause-takes g c =
    let view = g.V.Volumes.view in
    let ready = subst (λ s. IsReadySlot s (view.outline c.args.pool.now) (view.more c.args.pool.now)) c.in-Some.is c.requires in
    let idle : is_at_work c.in-Some.session.phase ≡ false = sym c.is_at_work.ensures ∙ c.if-is_at_work.false in
    let h = c.in-Parted.ensures.heard in
    brings_parted view c.args.number c.args.slot.now c.in-Some.session c.hear.new.session c.args.piece.now c.up_to.result.whole c.up_to.result.bytes c.in-Parted.bytes c.args.pool.now c.hear.new.pool c.args.out.now c.hear.new.out c.in-Some.is ready.1 idle c.up_to.ensures h.1 h.2 h.3 h.4 h.5 h.6
