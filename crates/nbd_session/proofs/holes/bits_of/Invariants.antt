use Rattle.std.proofs.Common.{◌≡◌, ◌==◌, ◌&&◌, drop}
use Rattle.std.specs.List.{list_all}
use Rattle.nbd_session.proofs.holes.bits_of.Given as goal

-- all are zero where none seen has a bit and all that are left are zero
abbrev pub invariant-loop-byte : goal.invariant-loop-byte
invariant-loop-byte l = list_all (λ b. b == 0) l.bytes ≡ (l.seen == 0) && list_all (λ b. b == 0) (drop l.byte-index l.bytes)
