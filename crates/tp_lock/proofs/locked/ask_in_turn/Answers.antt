use Rattle.std.proofs.Common.{◌∙◌, ap}
use Rattle.tp_hub.specs.Runs.{incoming}
use Rattle.tp_hub.specs.Serving.{sessions_of}
use Rattle.tp_hub.specs.Staged.{Standing, slots_of}
use Rattle.tp_hub.proofs.Owing.{asked_only}
use Rattle.tp_lock.specs.Locked.{has_left}
use Rattle.tp_lock.proofs.Seeing.{seen_of}
use Rattle.tp_lock.proofs.locked.ask_in_turn.Goals as goal

-- the second time that the guard lends the hub, it is as the first one left it
pub returns : goal.returns
returns g c =
    let t = c.take-ran in
    let a = t.ensures.asked in
    let hearer = c.hearer_of-hearer.result in
    let work = c.look.ensures.work ∙ ap (λ (s : Standing _). has_left (sessions_of (slots_of s)) hearer) c.deref.ensures in
    let asked = asked_only g.V.Volumes.view a.0 a.1 (incoming c.args.event) t.result.events t.result.bytes c.args.out.now t.new.out a.4 in
    seen_of g.V.Volumes.view c.args.event c.look.result.0 t.result hearer a.0 a.1 t.new.self c.args.out.now t.new.out c.hearer_of-hearer.ensures.its c.look.ensures.ran work a.3 asked t.ensures.made
