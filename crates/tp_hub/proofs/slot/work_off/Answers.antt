use Rattle.std.proofs.Common.{◌≡◌, ◌∙◌, [], Some, true, false, sym, refl}
use Rattle.nbd_session.specs.Session.{has_ended, is_at_work}
use Rattle.tp_hub.proofs.Hearing.{hears_join, hears_none, hears_part, keeps_more, keeps_none, part_is_silent}
use Rattle.tp_hub.proofs.slot.work_off.Goals as goal

pub loop-out-init : goal.loop-out-init
loop-out-init g c =
    let view = g.V.Volumes.view in
    record {
      ready = c.requires.ready;
      goes_on = c.requires.goes_on;
      room = c.requires.room;
      hears = hears_none view c.args.number c.args.session.now c.args.pool.now [] c.args.out.now;
      keeps = keeps_none view c.args.number (Some c.args.session.now) c.args.pool.now;
    }

pub loop-out-preserved : goal.loop-out-preserved
loop-out-preserved g c =
    let view = g.V.Volumes.view in
    let e = c.hear.ensures in
    let work : is_at_work c.loop-out.session.phase ≡ true = sym c.is_at_work.ensures ∙ c.loop-out-test.true in
    let goes : has_ended c.hear.new.session.phase ≡ false = e.1.goes_on work in
    record {
      ready = e.1.ready;
      goes_on = goes;
      room = λ still. part_is_silent view c.args.number c.loop-out.session c.hear.new.session c.loop-out.pool c.hear.new.pool _ e.0 c.hear.result.taken c.hear.result.ended c.loop-out.out c.hear.new.self c.loop-out.invariant.goes_on e.1 e.2 still (c.loop-out.invariant.room work);
      hears = hears_join view c.args.number c.args.session.now c.loop-out.session c.hear.new.session c.args.pool.now c.loop-out.pool c.hear.new.pool [] [] c.args.out.now c.loop-out.out c.hear.new.self c.loop-out.invariant.hears
          (hears_part view c.args.number c.loop-out.session c.hear.new.session c.loop-out.pool c.hear.new.pool _ e.0 c.hear.result.taken c.hear.result.ended c.loop-out.out c.hear.new.self work c.loop-out.invariant.goes_on refl e.1 e.2);
      keeps = keeps_more view c.args.number c.args.session.now c.loop-out.session c.hear.new.session c.args.pool.now c.loop-out.pool c.hear.new.pool _ e.0 c.hear.result.taken c.hear.result.ended c.loop-out.invariant.keeps e.1 goes;
    }
