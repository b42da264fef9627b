use Rattle.std.proofs.Common.{◌≡◌, ◌+◌, false, ap, refl, subst, sym}
use Rattle.std.specs.Prelude.{MatchOption, OnOk, Option, Result}
use Rattle.tp_model.specs.declared.mode.Mode.TheVariants as mode
use Rattle.tp_model.specs.declared.refusal.Refusal.{Refusal}
use Rattle.tp_pool.specs.Flushes.{laws as served_laws}
use Rattle.tp_pool.specs.Held.{Held}
use Rattle.tp_pool.specs.Unkept.{IsBegun}
use Rattle.tp_pool.proofs.Begun.{flushed_behind, flushed_once}
use Rattle.tp_pool.proofs.Ranges.{law_within}
use Rattle.tp_pool.proofs.pool.Pool.keep_made.Goals as goal

pub returns-in-Some-clause-made : goal.returns-in-Some-clause-made
returns-in-Some-clause-made g c old call ends other begun =
    let M = g.M.Metadata in
    subst (λ (o : Option (Result (Unit {0}) Refusal)). IsBegun M.geometry M.stands M.marks M.room M.changed old c.args.self.now call o) c.in-Some.is begun

pub returns-in-None-clause-made : goal.returns-in-None-clause-made
returns-in-None-clause-made g c old call ends other begun =
    let M = g.M.Metadata in
    let met = g.met.M.Metadata in
    let u = subst (λ (o : Option (Result (Unit {0}) Refusal)). IsBegun M.geometry M.stands M.marks M.room M.changed old c.args.self.now call o) c.in-None.is begun in
    flushed_behind M.geometry M.stands M.marks M.room M.changed old c.args.self.now c.flush.new.self call u (served_laws M.geometry M.stands M.marks M.room M.changed met.trees (law_within met.within) met.bounded met.one)
    ends other c.flush.ensures.geometry (ap (λ (h : Held g.row.M.Denot). h.holders) c.flush.ensures.held) c.flush.result c.flush.ensures.called c.flush.ensures.answered c.flush.ensures.flushes

pub returns-in-Some-clause-flushed : goal.returns-in-Some-clause-flushed
returns-in-Some-clause-flushed g c =
    let M = g.M.Metadata in
    let h = c.args.self.now in
    subst (λ (o : Option (Result (Unit {0}) Refusal)). MatchOption o (h.mode ≡ mode.Writable → M.changed h.metadata ≡ false → OnOk c.in-Some.answer (h.disk.flushes ≡ h.disk.flushes + 1))
    (λ answer. c.in-Some.answer ≡ answer)) (sym c.in-Some.is) refl

pub returns-in-None-clause-flushed : goal.returns-in-None-clause-flushed
returns-in-None-clause-flushed g c =
    let M = g.M.Metadata in
    let h = c.args.self.now in
    subst (λ (o : Option (Result (Unit {0}) Refusal)). MatchOption o (h.mode ≡ mode.Writable → M.changed h.metadata ≡ false → OnOk c.flush.result (c.flush.new.self.disk.flushes ≡ h.disk.flushes + 1))
    (λ answer. c.flush.result ≡ answer)) (sym c.in-None.is)
    (λ works none. flushed_once M.geometry M.stands M.marks M.room M.changed h c.flush.new.self c.flush.result c.flush.ensures.flushes works none)
