use Rattle.tp_refs.proofs.Moves.{abandoned, shared, let_go, last_gone, opened, taken, written, written_frame}
use Rattle.tp_refs.proofs.Bounds.{unwritten}
use Rattle.tp_refs.proofs.laws.single_changes_keep_the_balance.Goals as goal

pub returns-clause-shared : goal.returns-clause-shared
returns-clause-shared c = shared

pub returns-clause-let_go : goal.returns-clause-let_go
returns-clause-let_go c = let_go

pub returns-clause-last_gone : goal.returns-clause-last_gone
returns-clause-last_gone c = last_gone

pub returns-clause-opened : goal.returns-clause-opened
returns-clause-opened c = opened

pub returns-clause-taken : goal.returns-clause-taken
returns-clause-taken c = taken

pub returns-clause-closed : goal.returns-clause-closed
returns-clause-closed c = written

pub returns-clause-frame : goal.returns-clause-frame
returns-clause-frame c = written_frame

pub returns-clause-unwritten : goal.returns-clause-unwritten
returns-clause-unwritten c = unwritten

pub returns-clause-abandoned : goal.returns-clause-abandoned
returns-clause-abandoned c = abandoned
