use Rattle.std.proofs.Common.{[], ◌∷◌, ◌++◌, ◌∙◌, ap}
use Rattle.tp_hub.proofs.Streaming.{some_bytes}
use Rattle.tp_hub.proofs.stream.put_some.Goals as goal

pub returns-in-Wrote-clause-calls : goal.returns-in-Wrote-clause-calls
returns-in-Wrote-clause-calls g c = c.in-Wrote.ensures.calls ∙ ap (λ x. g.S.Stream.calls c.args.stream.now ++ x ∷ []) (some_bytes c.in-Wrote.count c.args.bytes.now c.in-Wrote.ensures.some.0)
