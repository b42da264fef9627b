use Rattle.tp_hub.specs.Serving.{sessions_of}
use Rattle.tp_users.proofs.Leading.{led_from_new, led_goes, traced_from_new}
use Rattle.tp_users.proofs.lives.led.Goals as goal

pub returns-clause-led : goal.returns-clause-led
returns-clause-led g c =
    let r = c.run-ran in
    record {
      at = sessions_of r.new.self.slots;
      mid = r.new.self.pool;
      runs = led_from_new g.V.Volumes.view g.met.V.Volumes.laws _ c.args.pool _ _ _ _ _ c.new-hub.ensures.pool c.new-hub.ensures.sessions r.ensures.runs;
      leaves = c.into_pool.ensures.leaves;
    }

pub returns-clause-traced : goal.returns-clause-traced
returns-clause-traced g c =
    let r = c.run-ran in
    let view = g.V.Volumes.view in
    led_goes view g.met.V.Volumes.laws (sessions_of r.new.self.slots) c.args.pool r.new.self.pool c.into_pool.result _ c.args.out.now r.new.out
    (traced_from_new view g.met.V.Volumes.laws _ c.args.pool _ _ _ _ _ c.new-hub.ensures.pool c.new-hub.ensures.sessions r.ensures.traced) c.into_pool.ensures.traced
