use Rattle.std.proofs.Common.{◌≡◌, ◌≤◌, not, ◌&&◌, None, is_some}
use Rattle.std.specs.Prelude.{slice_index_or}
use Rattle.std.specs.List.{count_by, range_with_len}
use Rattle.tp_plain.specs.Room.{takes_slot}
use Rattle.tp_plain.specs.Slots.{is_alone}
use Rattle.tp_plain.proofs.room.count_new.Given as goal

abbrev pub invariant-loop-block : goal.invariant-loop-block
invariant-loop-block l = record {
  bound : l.count ≤ l.block;
  total : l.count ≡ count_by (λ b. takes_slot l.change l.block_sectors b (is_some (slice_index_or l.labels b None)) && not (is_alone l.slots l.volume b (slice_index_or l.labels b None))) (range_with_len 0 l.block);
}
