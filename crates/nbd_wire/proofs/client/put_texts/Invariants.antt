use Rattle.std.proofs.Common.{◌≡◌, ◌≤◌, length, map, take}
use Rattle.std.specs.List.{flat_map}
use Rattle.nbd_wire.specs.Replies.{Puts, server_data}
use Rattle.nbd_wire.proofs.client.put_texts.Given as goal

-- the texts so far stand at the place
abbrev pub invariant-loop-text : goal.invariant-loop-text
invariant-loop-text l = record {
  puts : Puts l.fn.out l.at (flat_map server_data (take l.text-index (map (λ text. text.now) l.texts))) l.out l.end;
  len : length l.out ≡ length l.fn.out;
  inside : l.text-index ≤ length l.texts;
}
