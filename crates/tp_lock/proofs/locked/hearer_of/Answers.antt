use Rattle.std.proofs.Common.{refl}
use Rattle.tp_lock.proofs.locked.hearer_of.Goals as goal

pub returns-in-Bytes-clause-its : goal.returns-in-Bytes-clause-its
returns-in-Bytes-clause-its c = rw c.in-Bytes.is refl

pub returns-in-Parted-clause-its : goal.returns-in-Parted-clause-its
returns-in-Parted-clause-its c = rw c.in-Parted.is refl

pub returns-in-Open-clause-its : goal.returns-in-Open-clause-its
returns-in-Open-clause-its c = rw c.in-Open.is refl

pub returns-in-Hangup-clause-its : goal.returns-in-Hangup-clause-its
returns-in-Hangup-clause-its c = rw c.in-Hangup.is refl

pub returns-in-Message-clause-its : goal.returns-in-Message-clause-its
returns-in-Message-clause-its c = rw c.in-Message.is refl

pub returns-in-Status-clause-its : goal.returns-in-Status-clause-its
returns-in-Status-clause-its c = rw c.in-Status.is refl

pub returns-in-ThinStatus-clause-its : goal.returns-in-ThinStatus-clause-its
returns-in-ThinStatus-clause-its c = rw c.in-ThinStatus.is refl

pub returns-in-Size-clause-its : goal.returns-in-Size-clause-its
returns-in-Size-clause-its c = rw c.in-Size.is refl

pub returns-in-Map-clause-its : goal.returns-in-Map-clause-its
returns-in-Map-clause-its c = rw c.in-Map.is refl

pub returns-in-Delta-clause-its : goal.returns-in-Delta-clause-its
returns-in-Delta-clause-its c = rw c.in-Delta.is refl

pub returns-in-Flush-clause-its : goal.returns-in-Flush-clause-its
returns-in-Flush-clause-its c = rw c.in-Flush.is refl
