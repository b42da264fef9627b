use Rattle.tp_users.proofs.kept.flush_and_stop.Goals as goal

pub returns-clause-kept : goal.returns-clause-kept
returns-clause-kept c = c.flush_and_leave.ensures.kept

pub returns-clause-only : goal.returns-clause-only
returns-clause-only c = c.flush_and_leave.ensures.only
