use Rattle.std.proofs.Common.{◌<◌, ◌∙◌, [], refl, sym, arith}
use Rattle.tp_hub.specs.Runs.{AsksDeltaOf, AsksFlush, AsksLine, AsksLineOf, AsksMapOf, AsksSizeOf, Brings, Comes, Goes, Orders}
use Rattle.tp_hub.proofs.Asking.{pool_event}
use Rattle.tp_hub.specs.Places.{IsIdleSlot}
use Rattle.tp_hub.proofs.Idling.{idle_here, idle_set, not_there, same_session, same_text}
use Rattle.tp_hub.proofs.Taking.{read_slot, ready_slot, takes_event}
use Rattle.tp_hub.proofs.hub.take_event.Goals as goal

pub hear_slot-requires : goal.hear_slot-requires
hear_slot-requires g c =
    let there = rw c.in-Bytes.is at c.requires.number in
    let i = c.from-in-Bytes.result in
    let d = c.index-sessions-from-in-Bytes.result in
    let lt : i < 64 = omega (arith, there, c.from-in-Bytes.ensures) in
    ready_slot g.V.Volumes.view c.args.sessions.now i _ c.args.pool.now lt c.requires.serves (read_slot g.V.Volumes.view c.args.sessions.now i d lt c.requires.serves.count c.index-sessions-from-in-Bytes.is ∙ c.index-sessions-from-in-Bytes.is)

pub hear_slot-requires-in-Parted : goal.hear_slot-requires-in-Parted
hear_slot-requires-in-Parted g c =
    let there = rw c.in-Parted.is at c.requires.number in
    let i = c.from-in-Parted.result in
    let d = c.index-sessions-from-in-Parted.result in
    let lt : i < 64 = omega (arith, there, c.from-in-Parted.ensures) in
    ready_slot g.V.Volumes.view c.args.sessions.now i _ c.args.pool.now lt c.requires.serves (read_slot g.V.Volumes.view c.args.sessions.now i d lt c.requires.serves.count c.index-sessions-from-in-Parted.is ∙ c.index-sessions-from-in-Parted.is)

pub leave_slot-requires : goal.leave_slot-requires
leave_slot-requires g c =
    let there = rw c.in-Hangup.is at c.requires.number in
    let i = c.from-in-Hangup.result in
    let d = c.index-sessions-from-in-Hangup.result in
    let lt : i < 64 = omega (arith, there, c.from-in-Hangup.ensures) in
    ready_slot g.V.Volumes.view c.args.sessions.now i _ c.args.pool.now lt c.requires.serves (read_slot g.V.Volumes.view c.args.sessions.now i d lt c.requires.serves.count c.index-sessions-from-in-Hangup.is ∙ c.index-sessions-from-in-Hangup.is)

pub returns-in-Open-clause-takes : goal.returns-in-Open-clause-takes
returns-in-Open-clause-takes g c =
    let there = rw c.in-Open.is at c.requires.number in
    rw c.in-Open.is (takes_event g.V.Volumes.view (Comes c.in-Open.number c.in-Open.profile) c.args.sessions.now c.from.result c.index-sessions-from.result _ c.open_slot.new.slot c.args.pool.now c.args.pool.now c.open_slot.result.whole c.open_slot.result.bytes c.args.out.now c.open_slot.new.out
    c.from.ensures there c.requires.serves c.index-sessions-from.is (sym c.index-sessions-from.is) (c.open_slot.ensures.takes c.args.pool.now))

pub returns-in-Bytes-clause-takes : goal.returns-in-Bytes-clause-takes
returns-in-Bytes-clause-takes g c =
    let there = rw c.in-Bytes.is at c.requires.number in
    rw c.in-Bytes.is (takes_event g.V.Volumes.view (Brings c.in-Bytes.number c.in-Bytes.piece.now) c.args.sessions.now c.from-in-Bytes.result c.index-sessions-from-in-Bytes.result _ c.hear_slot.new.slot c.args.pool.now c.hear_slot.new.pool c.hear_slot.result.whole c.hear_slot.result.bytes c.args.out.now c.hear_slot.new.out
    c.from-in-Bytes.ensures there c.requires.serves c.index-sessions-from-in-Bytes.is (sym c.index-sessions-from-in-Bytes.is) c.hear_slot.ensures.takes)

pub returns-in-Parted-clause-takes : goal.returns-in-Parted-clause-takes
returns-in-Parted-clause-takes g c =
    let there = rw c.in-Parted.is at c.requires.number in
    rw c.in-Parted.is (takes_event g.V.Volumes.view (Brings c.in-Parted.number c.in-Parted.piece.now) c.args.sessions.now c.from-in-Parted.result c.index-sessions-from-in-Parted.result _ c.hear_slot-in-Parted.new.slot c.args.pool.now c.hear_slot-in-Parted.new.pool c.hear_slot-in-Parted.result.whole c.hear_slot-in-Parted.result.bytes c.args.out.now c.hear_slot-in-Parted.new.out
    c.from-in-Parted.ensures there c.requires.serves c.index-sessions-from-in-Parted.is (sym c.index-sessions-from-in-Parted.is) c.hear_slot-in-Parted.ensures.takes)

pub returns-in-Hangup-clause-takes : goal.returns-in-Hangup-clause-takes
returns-in-Hangup-clause-takes g c =
    let there = rw c.in-Hangup.is at c.requires.number in
    rw c.in-Hangup.is (takes_event g.V.Volumes.view (Goes c.in-Hangup.number) c.args.sessions.now c.from-in-Hangup.result c.index-sessions-from-in-Hangup.result _ c.leave_slot.new.slot c.args.pool.now c.leave_slot.new.pool c.leave_slot.result.whole c.leave_slot.result.bytes c.args.out.now c.leave_slot.new.out
    c.from-in-Hangup.ensures there c.requires.serves c.index-sessions-from-in-Hangup.is (sym c.index-sessions-from-in-Hangup.is) c.leave_slot.ensures.takes)

pub returns-in-Message-clause-takes : goal.returns-in-Message-clause-takes
returns-in-Message-clause-takes g c =
    rw c.in-Message.is (pool_event g.V.Volumes.view (Orders c.in-Message.line.now) c.args.sessions.now c.args.pool.now c.take_message.new.pool c.take_message.result.whole c.take_message.result.bytes c.args.out.now c.take_message.new.out c.requires.serves c.take_message.ensures)

pub returns-in-Status-clause-takes : goal.returns-in-Status-clause-takes
returns-in-Status-clause-takes g c =
    rw c.in-Status.is (pool_event g.V.Volumes.view AsksLine c.args.sessions.now c.args.pool.now c.take_status.new.pool c.take_status.result.whole c.take_status.result.bytes c.args.out.now c.take_status.new.out c.requires.serves c.take_status.ensures)

pub returns-in-ThinStatus-clause-takes : goal.returns-in-ThinStatus-clause-takes
returns-in-ThinStatus-clause-takes g c =
    rw c.in-ThinStatus.is (pool_event g.V.Volumes.view (AsksLineOf c.in-ThinStatus.volume) c.args.sessions.now c.args.pool.now c.take_thin_status.new.pool c.take_thin_status.result.whole c.take_thin_status.result.bytes c.args.out.now c.take_thin_status.new.out c.requires.serves c.take_thin_status.ensures)

pub returns-in-Size-clause-takes : goal.returns-in-Size-clause-takes
returns-in-Size-clause-takes g c =
    rw c.in-Size.is (pool_event g.V.Volumes.view (AsksSizeOf c.in-Size.volume) c.args.sessions.now c.args.pool.now c.take_size.new.pool c.take_size.result.whole c.take_size.result.bytes c.args.out.now c.take_size.new.out c.requires.serves c.take_size.ensures)

pub returns-in-Map-clause-takes : goal.returns-in-Map-clause-takes
returns-in-Map-clause-takes g c =
    rw c.in-Map.is (pool_event g.V.Volumes.view (AsksMapOf c.in-Map.volume c.in-Map.first) c.args.sessions.now c.args.pool.now c.take_map.new.pool c.take_map.result.whole c.take_map.result.bytes c.args.out.now c.take_map.new.out c.requires.serves c.take_map.ensures)

pub returns-in-Delta-clause-takes : goal.returns-in-Delta-clause-takes
returns-in-Delta-clause-takes g c =
    rw c.in-Delta.is (pool_event g.V.Volumes.view (AsksDeltaOf c.in-Delta.one c.in-Delta.other c.in-Delta.first) c.args.sessions.now c.args.pool.now c.take_delta.new.pool c.take_delta.result.whole c.take_delta.result.bytes c.args.out.now c.take_delta.new.out c.requires.serves c.take_delta.ensures)

pub returns-in-Flush-clause-takes : goal.returns-in-Flush-clause-takes
returns-in-Flush-clause-takes g c =
    rw c.in-Flush.is (pool_event g.V.Volumes.view AsksFlush c.args.sessions.now c.args.pool.now c.take_flush.new.pool c.take_flush.result.whole c.take_flush.result.bytes c.args.out.now c.take_flush.new.out c.requires.serves c.take_flush.ensures)

pub returns-in-Open-clause-idle : goal.returns-in-Open-clause-idle
returns-in-Open-clause-idle g c n parted idle =
    let there = rw c.in-Open.is at c.requires.number in
    idle_set c.args.sessions.now c.from.result c.in-Open.number n c.index-sessions-from.result _ c.open_slot.new.slot c.from.ensures there c.requires.serves.count c.index-sessions-from.is (sym c.index-sessions-from.is) (λ same. c.open_slot.ensures.idle) idle

pub returns-in-Open-clause-made : goal.returns-in-Open-clause-made
returns-in-Open-clause-made g c n parted is whole = let is_not = rw c.in-Open.is at is in absurd cc

pub returns-in-Bytes-clause-idle : goal.returns-in-Bytes-clause-idle
returns-in-Bytes-clause-idle g c n parted idle =
    let there = rw c.in-Bytes.is at c.requires.number in
    idle_set c.args.sessions.now c.from-in-Bytes.result c.in-Bytes.number n c.index-sessions-from-in-Bytes.result _ c.hear_slot.new.slot c.from-in-Bytes.ensures there c.requires.serves.count c.index-sessions-from-in-Bytes.is (sym c.index-sessions-from-in-Bytes.is) (λ same. c.hear_slot.ensures.idle refl) idle

pub returns-in-Bytes-clause-made : goal.returns-in-Bytes-clause-made
returns-in-Bytes-clause-made g c n parted is whole =
    let there = rw c.in-Bytes.is at c.requires.number in
    let brings = rw c.in-Bytes.is at is in
    idle_here c.args.sessions.now c.from-in-Bytes.result c.in-Bytes.number n c.hear_slot.new.slot c.from-in-Bytes.ensures there c.requires.serves.count (same_session c.in-Bytes.number n c.in-Bytes.piece.now [] brings)
    (c.hear_slot.ensures.made refl (same_text c.in-Bytes.number n c.in-Bytes.piece.now [] brings) whole)

pub returns-in-Parted-clause-idle : goal.returns-in-Parted-clause-idle
returns-in-Parted-clause-idle g c n parted idle =
    let there = rw c.in-Parted.is at c.requires.number in
    let apart = rw c.in-Parted.is at parted in
    idle_set c.args.sessions.now c.from-in-Parted.result c.in-Parted.number n c.index-sessions-from-in-Parted.result _ c.hear_slot-in-Parted.new.slot c.from-in-Parted.ensures there c.requires.serves.count c.index-sessions-from-in-Parted.is (sym c.index-sessions-from-in-Parted.is) (λ same was. not_there c.in-Parted.number n apart same (IsIdleSlot c.hear_slot-in-Parted.new.slot)) idle

pub returns-in-Parted-clause-made : goal.returns-in-Parted-clause-made
returns-in-Parted-clause-made g c n parted is whole =
    let brings = rw c.in-Parted.is at is in
    let apart = rw c.in-Parted.is at parted in
    not_there c.in-Parted.number n apart (same_session c.in-Parted.number n c.in-Parted.piece.now [] brings) _

pub returns-in-Hangup-clause-idle : goal.returns-in-Hangup-clause-idle
returns-in-Hangup-clause-idle g c n parted idle =
    let there = rw c.in-Hangup.is at c.requires.number in
    idle_set c.args.sessions.now c.from-in-Hangup.result c.in-Hangup.number n c.index-sessions-from-in-Hangup.result _ c.leave_slot.new.slot c.from-in-Hangup.ensures there c.requires.serves.count c.index-sessions-from-in-Hangup.is (sym c.index-sessions-from-in-Hangup.is) (λ same. c.leave_slot.ensures.idle) idle

pub returns-in-Hangup-clause-made : goal.returns-in-Hangup-clause-made
returns-in-Hangup-clause-made g c n parted is whole = let is_not = rw c.in-Hangup.is at is in absurd cc

pub returns-in-Message-clause-idle : goal.returns-in-Message-clause-idle
returns-in-Message-clause-idle g c n parted idle = idle

pub returns-in-Message-clause-made : goal.returns-in-Message-clause-made
returns-in-Message-clause-made g c n parted is whole = let is_not = rw c.in-Message.is at is in absurd cc

pub returns-in-Status-clause-idle : goal.returns-in-Status-clause-idle
returns-in-Status-clause-idle g c n parted idle = idle

pub returns-in-Status-clause-made : goal.returns-in-Status-clause-made
returns-in-Status-clause-made g c n parted is whole = let is_not = rw c.in-Status.is at is in absurd cc

pub returns-in-ThinStatus-clause-idle : goal.returns-in-ThinStatus-clause-idle
returns-in-ThinStatus-clause-idle g c n parted idle = idle

pub returns-in-ThinStatus-clause-made : goal.returns-in-ThinStatus-clause-made
returns-in-ThinStatus-clause-made g c n parted is whole = let is_not = rw c.in-ThinStatus.is at is in absurd cc

pub returns-in-Size-clause-idle : goal.returns-in-Size-clause-idle
returns-in-Size-clause-idle g c n parted idle = idle

pub returns-in-Size-clause-made : goal.returns-in-Size-clause-made
returns-in-Size-clause-made g c n parted is whole = let is_not = rw c.in-Size.is at is in absurd cc

pub returns-in-Map-clause-idle : goal.returns-in-Map-clause-idle
returns-in-Map-clause-idle g c n parted idle = idle

pub returns-in-Map-clause-made : goal.returns-in-Map-clause-made
returns-in-Map-clause-made g c n parted is whole = let is_not = rw c.in-Map.is at is in absurd cc

pub returns-in-Delta-clause-idle : goal.returns-in-Delta-clause-idle
returns-in-Delta-clause-idle g c n parted idle = idle

pub returns-in-Delta-clause-made : goal.returns-in-Delta-clause-made
returns-in-Delta-clause-made g c n parted is whole = let is_not = rw c.in-Delta.is at is in absurd cc

pub returns-in-Flush-clause-idle : goal.returns-in-Flush-clause-idle
returns-in-Flush-clause-idle g c n parted idle = idle

pub returns-in-Flush-clause-made : goal.returns-in-Flush-clause-made
returns-in-Flush-clause-made g c n parted is whole = let is_not = rw c.in-Flush.is at is in absurd cc
