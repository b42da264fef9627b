use Rattle.tp_image.proofs.FaultExamples.{bad_count, bad_mapped, bad_node, bad_order, bad_size, empty_bad, half_empty, no_faults, nonzero_size, out_of_place}
use Rattle.tp_image.proofs.laws.faults_of_small_images.Goals as goal

pub returns-clause-superblock : goal.returns-clause-superblock
returns-clause-superblock c = empty_bad

pub returns-clause-node : goal.returns-clause-node
returns-clause-node c = bad_node

pub returns-clause-order : goal.returns-clause-order
returns-clause-order c = bad_order

pub returns-clause-count : goal.returns-clause-count
returns-clause-count c = bad_count

pub returns-clause-place : goal.returns-clause-place
returns-clause-place c = out_of_place

pub returns-clause-filling : goal.returns-clause-filling
returns-clause-filling c = half_empty

pub returns-clause-mapped : goal.returns-clause-mapped
returns-clause-mapped c = bad_mapped

pub returns-clause-size : goal.returns-clause-size
returns-clause-size c = bad_size

pub returns-clause-nonzero : goal.returns-clause-nonzero
returns-clause-nonzero c = nonzero_size

pub returns-clause-none : goal.returns-clause-none
returns-clause-none c = λ image has version. no_faults image has version
