use Rattle.tp_image.proofs.SharedRoot.{volume_mapped, snapshot_mapped, two_reached}
use Rattle.tp_image.proofs.laws.snapshot_shares_the_root.Goals as goal

pub returns-clause-volume : goal.returns-clause-volume
returns-clause-volume c = volume_mapped

pub returns-clause-snapshot : goal.returns-clause-snapshot
returns-clause-snapshot c = snapshot_mapped

pub returns-clause-reachable : goal.returns-clause-reachable
returns-clause-reachable c = two_reached
