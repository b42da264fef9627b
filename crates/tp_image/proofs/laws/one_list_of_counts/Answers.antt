use Rattle.tp_image.proofs.AreaLaws.{HoldsCounts-one}
use Rattle.tp_image.proofs.laws.one_list_of_counts.Goals as goal

pub returns : goal.returns
returns c = HoldsCounts-one
