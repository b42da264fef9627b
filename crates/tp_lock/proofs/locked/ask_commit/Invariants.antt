use Rattle.std.proofs.Common.{◌≡◌}
use Rattle.tp_lock.proofs.locked.ask_commit.Given as goal

-- no part so far answered anything
abbrev pub invariant-loop-part : goal.invariant-loop-part
invariant-loop-part g l = l.out ≡ l.fn.out
