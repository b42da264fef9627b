use Rattle.std.proofs.Common.{◌≡◌, sym, ap, subst, ◌∙◌, true}
use Rattle.std.specs.Prelude.{Err, Ok}
use Rattle.tp_model.specs.Disk.{DiskState}
use Rattle.tp_model.specs.declared.refusal.Refusal.TheVariants.{Fault}
use Rattle.tp_disk.specs.declared.disk.Fault as faults
use Rattle.tp_meta.specs.Metadata.{IsCommitted}
use Rattle.tp_pool.specs.Held.{Held, failed_by}
use Rattle.tp_pool.proofs.Calling.{Laws}
use Rattle.tp_pool.proofs.Parts.{flush_failed, flush_made}
use Rattle.tp_pool.proofs.pool.Pool.end_all.Goals as goal

pub returns-clause-done : goal.returns-clause-done
returns-clause-done g c old is mid =
    let M = g.M.Metadata in
    let met = g.met.M.Metadata in
    let laws : Laws M.geometry M.stands M.marks M.room = record { within = met.within; honest = met.honest; left = met.left; frame = met.frame } in
    let was : Held g.row.M.Denot = record { disk = g.D.Disk.state c.self.inside.disk; metadata = c.self.inside.metadata; holders = c.self.inside.holders.items; mode = c.self.inside.mode } in
    let e = c.self.view_is in
    let new = g.D.Disk.state c.end.new.disk in
    let own : was.metadata ≡ old.metadata = ap (λ (h : Held g.row.M.Denot). h.metadata) (e ∙ is) in
    let at : was.disk ≡ c.args.self.now.disk = ap (λ (h : Held g.row.M.Denot). h.disk) e in
    let here = subst (λ (m : g.row.M.Denot). M.midway m true old.disk was.disk) (sym own) (subst (λ (d : DiskState). M.midway old.metadata true old.disk d) (sym at) mid.stage) in
    let after = c.end.new.self in
    let whole = subst (λ (m : g.row.M.Denot). IsCommitted M.geometry M.stands M.marks M.room M.changed {A = Unit {0}} {E = faults.Fault} m after (Ok tt) old.disk new) own (c.in-Ok.ensures.committed old.disk here) in
    flush_made laws M.changed old mid.works new after (c.end.ensures.sizes ∙ ap M.geometry own) _ whole _
    (ap (λ (h : Held g.row.M.Denot). record h { disk = new; metadata = after }) (e ∙ is))

pub returns-in-Err-clause-failed : goal.returns-in-Err-clause-failed
returns-in-Err-clause-failed g c old is mid =
    let M = g.M.Metadata in
    let met = g.met.M.Metadata in
    let laws : Laws M.geometry M.stands M.marks M.room = record { within = met.within; honest = met.honest; left = met.left; frame = met.frame } in
    let was : Held g.row.M.Denot = record { disk = g.D.Disk.state c.self.inside.disk; metadata = c.self.inside.metadata; holders = c.self.inside.holders.items; mode = c.self.inside.mode } in
    let e = c.self.view_is in
    let new = g.D.Disk.state c.end.new.disk in
    let own : was.metadata ≡ old.metadata = ap (λ (h : Held g.row.M.Denot). h.metadata) (e ∙ is) in
    let at : was.disk ≡ c.args.self.now.disk = ap (λ (h : Held g.row.M.Denot). h.disk) e in
    let here = subst (λ (m : g.row.M.Denot). M.midway m true old.disk was.disk) (sym own) (subst (λ (d : DiskState). M.midway old.metadata true old.disk d) (sym at) mid.stage) in
    let after = c.end.new.self in
    let whole = subst (λ (m : g.row.M.Denot). IsCommitted M.geometry M.stands M.marks M.room M.changed {A = Unit {0}} {E = faults.Fault} m after (Err c.in-Err.field-0) old.disk new) own (c.in-Err.ensures.committed old.disk here) in
    flush_failed laws M.changed old mid.works new after (c.end.ensures.sizes ∙ ap M.geometry own) _ whole _
    (ap (λ (h : Held g.row.M.Denot). failed_by Fault (record h { disk = new; metadata = after })) (e ∙ is))
