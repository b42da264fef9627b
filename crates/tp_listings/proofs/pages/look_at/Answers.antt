use Rattle.std.proofs.Common.{◌≤◌, arith}
use Rattle.tp_listings.specs.Seeking.{block_of}
use Rattle.tp_listings.proofs.Differing.{no_earlier}
use Rattle.tp_listings.proofs.Paging.{looked_alike, looked_differ, looked_same}
use Rattle.tp_listings.proofs.pages.look_at.Goals as goal

pub returns-clause-onward : goal.returns-clause-onward
returns-clause-onward c =
    let least = c.min-block.ensures in
    let here = c.block_of.ensures in
    let there = c.block_of-2.ensures in
    let a : c.args.from ≤ block_of c.first_slot-slot.result = no_earlier c.first_slot-slot.result c.args.from c.requires c.first_slot-slot.ensures.later in
    let b : c.args.from ≤ block_of c.first_slot-beside.result = no_earlier c.first_slot-beside.result c.args.from c.requires c.first_slot-beside.ensures.later in
    omega (arith, least, here, there, a, b)

pub returns-clause-alike : goal.returns-clause-alike
returns-clause-alike c one other =
    let least = c.min-block.ensures in
    let here = c.block_of.ensures in
    let there = c.block_of-2.ensures in
    let l : c.min-block.result ≤ block_of c.first_slot-slot.result = omega (arith, least, here) in
    let m : c.min-block.result ≤ block_of c.first_slot-beside.result = omega (arith, least, there) in
    looked_alike _ _ c.args.from c.min-block.result c.first_slot-slot.result c.first_slot-beside.result (c.first_slot-slot.ensures.first one) (c.first_slot-beside.ensures.first other) l m

pub returns-clause-differ : goal.returns-clause-differ
returns-clause-differ c so one other =
    let least = c.min-block.ensures in
    let here = c.block_of.ensures in
    let there = c.block_of-2.ensures in
    let l : c.min-block.result ≤ block_of c.first_slot-slot.result = omega (arith, least, here) in
    let m : c.min-block.result ≤ block_of c.first_slot-beside.result = omega (arith, least, there) in
    let a : c.args.from ≤ block_of c.first_slot-slot.result = no_earlier c.first_slot-slot.result c.args.from c.requires c.first_slot-slot.ensures.later in
    let b : c.args.from ≤ block_of c.first_slot-beside.result = no_earlier c.first_slot-beside.result c.args.from c.requires c.first_slot-beside.ensures.later in
    looked_differ _ _ c.args.from c.min-block.result c.first_slot-slot.result c.first_slot-beside.result (c.first_slot-slot.ensures.first one) (c.first_slot-beside.ensures.first other) l m
    (omega (arith, least, here, there, a, b)) c.place_at.result c.place_at-2.result c.place_at.ensures c.place_at-2.ensures (c.differ-is_other.ensures.differ so)

pub returns-clause-same : goal.returns-clause-same
returns-clause-same c so one other =
    let least = c.min-block.ensures in
    let here = c.block_of.ensures in
    let there = c.block_of-2.ensures in
    let l : c.min-block.result ≤ block_of c.first_slot-slot.result = omega (arith, least, here) in
    let m : c.min-block.result ≤ block_of c.first_slot-beside.result = omega (arith, least, there) in
    let a : c.args.from ≤ block_of c.first_slot-slot.result = no_earlier c.first_slot-slot.result c.args.from c.requires c.first_slot-slot.ensures.later in
    let b : c.args.from ≤ block_of c.first_slot-beside.result = no_earlier c.first_slot-beside.result c.args.from c.requires c.first_slot-beside.ensures.later in
    looked_same _ _ c.args.from c.min-block.result c.first_slot-slot.result c.first_slot-beside.result (c.first_slot-slot.ensures.first one) (c.first_slot-beside.ensures.first other) l m
    (omega (arith, least, here, there, a, b)) c.place_at.result c.place_at-2.result c.place_at.ensures c.place_at-2.ensures (c.differ-is_other.ensures.same so)
