use Rattle.std.proofs.Common.{inl}
use Rattle.tp_commands.proofs.Taking.{if_failed, looked_at}
use Rattle.tp_commands.proofs.devices.may_take.Goals as goal

pub returns-then-overwrites-clause-found : goal.returns-then-overwrites-clause-found
returns-then-overwrites-clause-found g c = λ honest. inl c.if-overwrites.true

pub returns-clause-found : goal.returns-clause-found
returns-clause-found g c = looked_at c.args.overwrites (g.D.Disk.state c.args.disk.now) c.is_free.result c.if-overwrites.false c.is_free.ensures.found

pub returns-clause-looked : goal.returns-clause-looked
returns-clause-looked g c = if_failed c.is_free.result c.if-overwrites.false
