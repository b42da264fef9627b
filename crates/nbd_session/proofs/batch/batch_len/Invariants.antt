use Rattle.std.proofs.Common.{◌≡◌, length, ◌<◌, ◌≤◌}
use Rattle.nbd_session.specs.Batches.{frames_end}
use Rattle.nbd_session.proofs.Batching.{AreJoined}
use Rattle.nbd_session.proofs.batch.batch_len.Given as goal

abbrev pub invariant-loop-count : goal.invariant-loop-count
invariant-loop-count l = (l.at ≡ frames_end l.fn.kind l.count l.fn.piece) × (l.at ≤ length l.fn.piece) × (0 < l.count → 0 < length l.fn.piece → 0 < l.at) × AreJoined l.fn.kind l.fn.piece l.count
