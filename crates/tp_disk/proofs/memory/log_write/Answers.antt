use Rattle.std.specs.Prelude.{is_ok}
use Rattle.tp_disk.proofs.Replays.{held_push}
use Rattle.tp_disk.proofs.memory.log_write.Goals as goal

pub returns-in-Ok-clause-held : goal.returns-in-Ok-clause-held
returns-in-Ok-clause-held c = rw (c.is_ok.ensures.value, ← c.in-Ok.ensures.items) (held_push (is_ok c.push.result) (record { at = c.args.at; bytes = c.in-Ok.bytes }) _ _ c.push.ensures.items)
