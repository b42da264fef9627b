use Rattle.tp_image.proofs.FreshImage.{fresh_chosen, fresh_reachable, fresh_stands, fresh_counts_true, fresh_data_counts_true}
use Rattle.tp_image.proofs.laws.fresh_image_stands_for_the_empty_pool.Goals as goal

pub returns-clause-stands : goal.returns-clause-stands
returns-clause-stands c = fresh_stands

pub returns-clause-chosen : goal.returns-clause-chosen
returns-clause-chosen c = fresh_chosen

pub returns-clause-reachable : goal.returns-clause-reachable
returns-clause-reachable c = fresh_reachable

pub returns-clause-counts : goal.returns-clause-counts
returns-clause-counts c = fresh_counts_true

pub returns-clause-data_counts : goal.returns-clause-data_counts
returns-clause-data_counts c = fresh_data_counts_true
