use Rattle.std.proofs.Common.{length, take, ◌<◌, ◌≡◌}
use Rattle.std.specs.Io.KnownBytes.{Consumes}
use Rattle.tp_lock.specs.Framing.{passed}
use Rattle.tp_crowd.proofs.sockets.read_frames.Given as goal

-- The buffer has room, and keeps its length, the frames are those of what was read, and it was read of the stream.
abbrev pub invariant-loop-turn : goal.invariant-loop-turn
invariant-loop-turn g l =
    (l.at < length l.buffer) × (length l.buffer ≡ length l.fn.buffer) × (l.frames ≡ passed l.fn.frames (take l.at l.buffer)) × Consumes (g.T.Read.remaining l.fn.stream) (g.T.Read.remaining l.stream) (take l.at l.buffer)
