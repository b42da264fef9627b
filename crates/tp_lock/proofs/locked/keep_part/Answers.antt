use Rattle.std.proofs.Common.{◌∙◌, ap}
use Rattle.tp_hub.specs.Serving.{sessions_of}
use Rattle.tp_hub.specs.Staged.{Standing, slots_of}
use Rattle.tp_lock.specs.Locked.{has_left}
use Rattle.tp_lock.proofs.Seeing.{asks_parted, seen_of}
use Rattle.tp_lock.proofs.locked.keep_part.Goals as goal

pub returns-in-None-clause-none : goal.returns-in-None-clause-none
returns-in-None-clause-none g c none = let old = c.keep.ensures.before in (c.in-None.ensures.kept old.0 old.1).1

pub returns-clause-seen : goal.returns-clause-seen
returns-clause-seen g c =
    let k = c.keep in
    let old = k.ensures.before in
    let kept = c.in-Some.ensures.kept old.0 old.1 in
    let hearer = c.hearer_of-hearer.result in
    let work = c.look.ensures.work ∙ ap (λ (s : Standing _). has_left (sessions_of (slots_of s)) hearer) c.deref.ensures in
    seen_of g.V.Volumes.view c.args.event.now c.look.result.0 c.in-Some.ran hearer old.0 kept.0 k.new.self c.args.out.now k.new.out c.hearer_of-hearer.ensures.its c.look.ensures.ran work kept.1 kept.3
    (λ n apart is some. absurd (asks_parted _ c.args.event.now c.in-Some.ensures.asks.0 n apart is))
