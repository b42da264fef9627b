use Rattle.std.proofs.Common.{inl, inr, refl}
use Rattle.tp_hub.specs.declared.client.Carried.TheVariants.{InUse}
use Rattle.tp_hub.proofs.Tracing.{serving_goes}
use Rattle.tp_hub.proofs.alone.serve.Goals as goal

pub returns-in-None-clause-served : goal.returns-in-None-clause-served
returns-in-None-clause-served g c = inl (c.in-None.ensures.none refl, refl, refl, refl)

pub returns-in-Some-clause-served : goal.returns-in-Some-clause-served
returns-in-Some-clause-served g c = inr (c.in-Some.number, c.in-Some.ensures.free, c.serve_as.ensures.served)

pub serve_as-requires-clause-number : goal.serve_as-requires-clause-number
serve_as-requires-clause-number g c = let free = c.in-Some.ensures.free in free.inside

pub returns-in-None-clause-traced : goal.returns-in-None-clause-traced
returns-in-None-clause-traced g c =
    let h = c.args.hub in
    let calls = g.S.Stream.calls c.args.stream.now in
    serving_goes g.V.Volumes.view g.met.V.Volumes.laws c.args.profile h h calls calls c.args.out.now InUse (inl (c.in-None.ensures.none refl, refl, refl, refl))

pub returns-in-Some-clause-traced : goal.returns-in-Some-clause-traced
returns-in-Some-clause-traced g c =
    serving_goes g.V.Volumes.view g.met.V.Volumes.laws c.args.profile c.args.hub c.serve_as.result.0 (g.S.Stream.calls c.args.stream.now) (g.S.Stream.calls c.serve_as.new.stream) c.serve_as.new.out c.serve_as.result.1
    (inr (c.in-Some.number, c.in-Some.ensures.free, c.serve_as.ensures.served))
