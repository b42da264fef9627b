use Rattle.tp_model.proofs.Walking.{piece_ordered}
use Rattle.tp_listings.proofs.Turning.{pages_differ, pages_map, pages_onward, pages_upward, pages_within}
use Rattle.tp_listings.proofs.laws.pages_are_exact.Goals as goal

pub returns-clause-ordered : goal.returns-clause-ordered
returns-clause-ordered c s id from = piece_ordered s id from

pub returns-clause-differ : goal.returns-clause-differ
returns-clause-differ c s old new from most end extents page = pages_differ s old new from most end extents page

pub returns-clause-mapped : goal.returns-clause-mapped
returns-clause-mapped c s id from most end extents page = pages_map s id from most end extents page

pub returns-clause-onward : goal.returns-clause-onward
returns-clause-onward c s old new from most end extents m lt page = pages_onward s old new from most end extents m lt page

pub returns-clause-upward : goal.returns-clause-upward
returns-clause-upward c s id from most end extents m lt page = pages_upward s id from most end extents m lt page

pub returns-clause-within : goal.returns-clause-within
returns-clause-within c old new from most end extents page = pages_within old new from most end extents page
