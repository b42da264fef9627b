use Rattle.tp_shown.proofs.Edited.{edits_are_listed}
use Rattle.tp_shown.proofs.Made.{create_makes, delete_makes, grow_makes, snapshot_makes}
use Rattle.tp_shown.proofs.Ranges.{read_gives}
use Rattle.tp_shown.proofs.Reserved.{release_makes, reserve_makes}
use Rattle.tp_shown.proofs.Trimmed.{trim_makes}
use Rattle.tp_shown.proofs.laws.calls_are_of_lists.Goals as goal

pub returns-clause-read : goal.returns-clause-read
returns-clause-read c = read_gives

pub returns-clause-edit : goal.returns-clause-edit
returns-clause-edit c = edits_are_listed

pub returns-clause-create : goal.returns-clause-create
returns-clause-create c = create_makes

pub returns-clause-snapshot : goal.returns-clause-snapshot
returns-clause-snapshot c = snapshot_makes

pub returns-clause-delete : goal.returns-clause-delete
returns-clause-delete c = delete_makes

pub returns-clause-trim : goal.returns-clause-trim
returns-clause-trim c = trim_makes

pub returns-clause-grow : goal.returns-clause-grow
returns-clause-grow c = grow_makes

pub returns-clause-reserve : goal.returns-clause-reserve
returns-clause-reserve c = reserve_makes

pub returns-clause-release : goal.returns-clause-release
returns-clause-release c = release_makes
