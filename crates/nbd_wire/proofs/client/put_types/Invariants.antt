use Rattle.std.proofs.Common.{◌≡◌, ◌+◌, ◌*◌, ◌≤◌, length, take}
use Rattle.std.specs.List.{flat_map}
use Rattle.nbd_wire.specs.Numbers.{bytes}
use Rattle.nbd_wire.specs.Replies.{Puts}
use Rattle.nbd_wire.proofs.client.put_types.Given as goal

-- the types so far stand at the place
abbrev pub invariant-loop-kind : goal.invariant-loop-kind
invariant-loop-kind l = record {
  puts : Puts l.fn.out l.at (flat_map (bytes 2) (take l.kind-index l.types)) l.out l.end;
  end_is : l.end ≡ l.at + 2 * l.kind-index;
  len : length l.out ≡ length l.fn.out;
  inside : l.kind-index ≤ length l.types;
}
