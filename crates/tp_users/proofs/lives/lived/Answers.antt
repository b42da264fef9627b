use Rattle.std.proofs.Common.{inl, map, subst}
use Rattle.std.proofs.lemmas.Result.{IfErr-weaker, IfOk-weaker}
use Rattle.tp_model.specs.Disk.{seen}
use Rattle.tp_disk.specs.Memory.{mem_state}
use Rattle.tp_hub.specs.declared.hub.Ran.{Ran}
use Rattle.tp_hub.specs.Runs.{incoming, taken_of}
use Rattle.tp_users.specs.Lived.{IsLived}
use Rattle.tp_users.proofs.Leading.{lived, shown_at_last}
use Rattle.tp_users.proofs.OnCaches.{All, laws_on, stopped_under}
use Rattle.tp_users.proofs.OnDisk.{stopped_as}
use Rattle.tp_users.proofs.lives.lived.Goals as goal

pub returns-clause-lived : goal.returns-clause-lived
returns-clause-lived c =
    IfOk-weaker c.left_beside.result _ _
    (λ r told.
    subst (λ (ran : Ran). IsLived All c.args.pool (taken_of (map incoming c.args.events.now) ran.events ran.bytes) c.args.out.now c.led-pool.new.out (seen (mem_state r.1).cells)) told.0
    (lived All laws_on c.args.pool c.led-pool.result.0 _ c.args.out.now c.led-pool.new.out (seen (mem_state r.1).cells) c.led-pool.ensures.led (stopped_as _ _ _ c.disk.ensures told.1).left)) c.left_beside.ensures.left

pub returns-clause-honest : goal.returns-clause-honest
returns-clause-honest c = IfOk-weaker c.left_beside.result _ _ (λ r told. told.1.honest) c.left_beside.ensures.left

pub returns-clause-settled : goal.returns-clause-settled
returns-clause-settled c = IfOk-weaker c.left_beside.result _ _ (λ r told. told.1.settled) c.left_beside.ensures.left

pub returns-clause-left : goal.returns-clause-left
returns-clause-left c =
    IfOk-weaker c.left_beside.result _ _
    (λ r told s from.
    let last = c.led-pool.result.0 in
    let shown = shown_at_last All laws_on s c.args.pool last _ c.args.out.now c.led-pool.new.out from c.led-pool.ensures.traced in
    stopped_under last shown.0 (mem_state r.1) c.facts.ensures shown.1 (stopped_as _ _ _ c.disk.ensures told.1)) c.left_beside.ensures.left

pub returns-clause-only : goal.returns-clause-only
returns-clause-only c = IfErr-weaker c.left_beside.result _ _ (λ reason memory. inl memory) c.left_beside.ensures.only
