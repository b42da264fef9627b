use Rattle.std.proofs.lemmas.Result.{IfOk-weaker}
use Rattle.tp_users.proofs.held.read_and_leave.Goals as goal

pub returns : goal.returns
returns c =
    IfOk-weaker c.flush_and_leave.result _ _
    (λ disk kept s first second shown volume copy long_second long_first.
    let read = c.in_ok-read_with_copy.ensures.read s first second shown volume copy long_second long_first in
    (read.0, read.1, kept s read.2)) c.flush_and_leave.ensures.kept
