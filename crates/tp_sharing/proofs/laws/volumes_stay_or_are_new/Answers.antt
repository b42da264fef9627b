use Rattle.tp_sharing.proofs.Later.{content_stays, forest_after, forest_stays, low_blocks_stay, volume_kept, volumes_are_live, volumes_stay}
use Rattle.tp_sharing.proofs.laws.volumes_stay_or_are_new.Goals as goal

pub returns-clause-live : goal.returns-clause-live
returns-clause-live c = volumes_are_live

pub returns-clause-content : goal.returns-clause-content
returns-clause-content c = content_stays

pub returns-clause-volumes : goal.returns-clause-volumes
returns-clause-volumes c = volumes_stay

pub returns-clause-after : goal.returns-clause-after
returns-clause-after c = forest_after

pub returns-clause-all : goal.returns-clause-all
returns-clause-all c = forest_stays

pub returns-clause-low : goal.returns-clause-low
returns-clause-low c = low_blocks_stay

pub returns-clause-kept : goal.returns-clause-kept
returns-clause-kept c = volume_kept
