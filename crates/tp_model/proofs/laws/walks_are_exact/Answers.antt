use Rattle.tp_model.proofs.Walking.{piece_full, piece_onward, piece_ordered, piece_short}
use Rattle.tp_model.proofs.laws.walks_are_exact.Goals as goal

pub returns-clause-short : goal.returns-clause-short
returns-clause-short c = piece_short

pub returns-clause-full : goal.returns-clause-full
returns-clause-full c = piece_full

pub returns-clause-onward : goal.returns-clause-onward
returns-clause-onward c = piece_onward

pub returns-clause-ordered : goal.returns-clause-ordered
returns-clause-ordered c = piece_ordered
