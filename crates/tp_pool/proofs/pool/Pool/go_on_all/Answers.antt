use Rattle.std.proofs.Common.{◌≡◌, refl, sym, ap, subst, ◌∙◌, false, true}
use Rattle.std.specs.Prelude.{Err}
use Rattle.tp_model.specs.Disk.{DiskState}
use Rattle.tp_model.specs.declared.refusal.Refusal.TheVariants.{Fault}
use Rattle.tp_disk.specs.declared.disk.Fault as faults
use Rattle.tp_meta.specs.Metadata.{IsBetween, IsCommitted}
use Rattle.tp_pool.specs.Held.{Held, failed_by}
use Rattle.tp_pool.proofs.Calling.{Laws}
use Rattle.tp_pool.proofs.Parts.{flush_failed}
use Rattle.tp_pool.proofs.pool.Pool.go_on_all.Goals as goal

pub returns-clause-held : goal.returns-clause-held
returns-clause-held g c =
    let new = g.D.Disk.state c.go_on.new.disk in
    (λ i. record { disk = new; metadata = c.go_on.ensures.unchanged i; holders = c.self.inside.holders.items; mode = c.self.inside.mode })
    ∙ ap (λ (h : Held g.row.M.Denot). record h { disk = new }) c.self.view_is

pub returns-in-Err-clause-held : goal.returns-in-Err-clause-held
returns-in-Err-clause-held g c =
    let new = g.D.Disk.state c.go_on.new.disk in
    (λ i. record { disk = new; metadata = c.go_on.ensures.unchanged i; holders = c.self.inside.holders.items; mode = c.self.inside.mode })
    ∙ ap (λ (h : Held g.row.M.Denot). record h { disk = new }) c.self.view_is

pub returns-clause-named : goal.returns-clause-named
returns-clause-named g c old is mid =
    let M = g.M.Metadata in
    let was : Held g.row.M.Denot = record { disk = g.D.Disk.state c.self.inside.disk; metadata = c.self.inside.metadata; holders = c.self.inside.holders.items; mode = c.self.inside.mode } in
    let e = c.self.view_is in
    let new = g.D.Disk.state c.go_on.new.disk in
    let own : was.metadata ≡ old.metadata = ap (λ (h : Held g.row.M.Denot). h.metadata) (e ∙ is) in
    let at : was.disk ≡ c.args.self.now.disk = ap (λ (h : Held g.row.M.Denot). h.disk) e in
    let here = subst (λ (m : g.row.M.Denot). M.midway m false old.disk was.disk) (sym own) (subst (λ (d : DiskState). M.midway old.metadata false old.disk d) (sym at) mid.stage) in
    let r = c.in-Ok.ensures.named old.disk here in
    record {
      works = mid.works;
      stage = subst (λ (m : g.row.M.Denot). M.midway m true old.disk new) own r.0;
      between = subst (λ (m : g.row.M.Denot). IsBetween M.geometry M.stands M.tells m old.disk new) own r.1;
      formed = mid.formed;
      room = mid.room;
    }

pub returns-in-Err-clause-failed : goal.returns-in-Err-clause-failed
returns-in-Err-clause-failed g c old is mid =
    let M = g.M.Metadata in
    let met = g.met.M.Metadata in
    let laws : Laws M.geometry M.stands M.marks M.room = record { within = met.within; honest = met.honest; left = met.left; frame = met.frame } in
    let was : Held g.row.M.Denot = record { disk = g.D.Disk.state c.self.inside.disk; metadata = c.self.inside.metadata; holders = c.self.inside.holders.items; mode = c.self.inside.mode } in
    let e = c.self.view_is in
    let new = g.D.Disk.state c.go_on.new.disk in
    let own : was.metadata ≡ old.metadata = ap (λ (h : Held g.row.M.Denot). h.metadata) (e ∙ is) in
    let at : was.disk ≡ c.args.self.now.disk = ap (λ (h : Held g.row.M.Denot). h.disk) e in
    let here = subst (λ (m : g.row.M.Denot). M.midway m false old.disk was.disk) (sym own) (subst (λ (d : DiskState). M.midway old.metadata false old.disk d) (sym at) mid.stage) in
    let after = c.go_on.new.self in
    let whole = subst (λ (m : g.row.M.Denot). IsCommitted M.geometry M.stands M.marks M.room M.changed {A = Unit {0}} {E = faults.Fault} m after (Err c.in-Err.field-0) old.disk new) own (c.in-Err.ensures.failed old.disk here) in
    flush_failed laws M.changed old mid.works new after (ap M.geometry c.go_on.ensures.unchanged ∙ ap M.geometry own) _ whole _
    (ap (λ (h : Held g.row.M.Denot). failed_by Fault (record h { disk = new; metadata = after })) (e ∙ is))
