use Rattle.std.proofs.Common.{◌≡◌, drop}
use Rattle.tp_places.specs.Answered.{numbered}
use Rattle.tp_places.proofs.asker.numbered_in.Given as goal

abbrev pub invariant-loop-refusal : goal.invariant-loop-refusal
invariant-loop-refusal l = numbered l.refusals l.number ≡ numbered (drop l.refusal-index l.refusals) l.number
