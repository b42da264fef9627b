use Rattle.std.proofs.Common.{◌≡◌, refl, ap, subst, ◌∙◌, false}
use Rattle.std.specs.Prelude.{Err}
use Rattle.tp_model.specs.declared.refusal.Refusal.TheVariants.{Fault}
use Rattle.tp_pool.specs.Held.{Held, failed_by}
use Rattle.tp_pool.specs.Midway.{IsFlushed, IsMidFlush}
use Rattle.tp_pool.proofs.Calling.{Laws}
use Rattle.tp_pool.proofs.Parts.{flush_failed}
use Rattle.tp_pool.proofs.pool.Pool.begin_all.Goals as goal

pub returns-clause-held : goal.returns-clause-held
returns-clause-held g c =
    let new = g.D.Disk.state c.begin.new.disk in
    (λ i. record { disk = new; metadata = c.begin.ensures.unchanged i; holders = c.self.inside.holders.items; mode = c.self.inside.mode })
    ∙ ap (λ (h : Held g.row.M.Denot). record h { disk = new }) c.self.view_is

pub returns-in-Err-clause-held : goal.returns-in-Err-clause-held
returns-in-Err-clause-held g c =
    let new = g.D.Disk.state c.begin.new.disk in
    (λ i. record { disk = new; metadata = c.begin.ensures.unchanged i; holders = c.self.inside.holders.items; mode = c.self.inside.mode })
    ∙ ap (λ (h : Held g.row.M.Denot). record h { disk = new }) c.self.view_is

pub returns-clause-begun : goal.returns-clause-begun
returns-clause-begun g c =
    λ yes.
    let M = g.M.Metadata in
    let was : Held g.row.M.Denot = record { disk = g.D.Disk.state c.self.inside.disk; metadata = c.self.inside.metadata; holders = c.self.inside.holders.items; mode = c.self.inside.mode } in
    let new = g.D.Disk.state c.begin.new.disk in
    let t = c.in-Ok.ensures.begun yes in
    let here : IsMidFlush M.geometry M.stands M.tells M.midway was false new = record {
      works = ap (λ (h : Held g.row.M.Denot). h.mode) c.self.view_is ∙ c.requires.works;
      stage = t.1;
      between = t.2;
      formed = g.met.D.Disk.well_formed c.self.inside.disk;
      room = c.self.invariant.1;
    } in
    subst (λ (h : Held g.row.M.Denot). IsMidFlush M.geometry M.stands M.tells M.midway h false new) c.self.view_is here

pub returns-clause-none : goal.returns-clause-none
returns-clause-none g c =
    λ no.
    let t = c.in-Ok.ensures.none no in
    (λ i. record { disk = t.1 i; metadata = c.begin.ensures.unchanged i; holders = c.self.inside.holders.items; mode = c.self.inside.mode }) ∙ c.self.view_is

pub returns-in-Err-clause-failed : goal.returns-in-Err-clause-failed
returns-in-Err-clause-failed g c =
    let M = g.M.Metadata in
    let met = g.met.M.Metadata in
    let laws : Laws M.geometry M.stands M.marks M.room = record { within = met.within; honest = met.honest; left = met.left; frame = met.frame } in
    let was : Held g.row.M.Denot = record { disk = g.D.Disk.state c.self.inside.disk; metadata = c.self.inside.metadata; holders = c.self.inside.holders.items; mode = c.self.inside.mode } in
    let e = c.self.view_is in
    let new = g.D.Disk.state c.begin.new.disk in
    let mid : Held g.row.M.Denot = record was { disk = new; metadata = c.begin.new.self } in
    subst (λ (h : Held g.row.M.Denot). IsFlushed M.geometry M.stands M.marks M.room M.changed h (failed_by Fault mid) (Err Fault)) e
    (flush_failed laws M.changed was (ap (λ (h : Held g.row.M.Denot). h.mode) e ∙ c.requires.works) new c.begin.new.self (ap M.geometry c.begin.ensures.unchanged) _ c.in-Err.ensures.failed (failed_by Fault mid) refl)
