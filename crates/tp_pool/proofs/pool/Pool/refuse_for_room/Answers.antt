use Rattle.std.proofs.Common.{inl, ◌≡◌, ap, refl, subst, sym, ◌∙◌}
use Rattle.std.specs.Prelude.{Result}
use Rattle.std.proofs.lemmas.Result.{err_from_is_err_and}
use Rattle.tp_model.specs.declared.mode.Mode.TheVariants as mode
use Rattle.tp_model.specs.declared.refusal.Refusal.{Refusal}
use Rattle.tp_model.specs.declared.refusal.Refusal.TheVariants.{NoMetadataSpace}
use Rattle.tp_model.specs.Calls.{Refused}
use Rattle.tp_pool.specs.Held.{EndsShort, Held, LacksRoom, PoolCalled, PoolTried}
use Rattle.tp_pool.proofs.Calling.{Laws}
use Rattle.tp_pool.proofs.Refusing.{no_room_is_no_fault, short_kept, short_unkept}
use Rattle.tp_pool.proofs.Serving.{exit_is}
use Rattle.tp_pool.proofs.pool.Pool.refuse_for_room.Goals as goal

pub returns-in_err-keep-clause-called : goal.returns-in_err-keep-clause-called
returns-in_err-keep-clause-called g c call lacks_now =
    let met = g.met.M.Metadata in
    let laws : Laws g.M.Metadata.geometry g.M.Metadata.stands g.M.Metadata.marks g.M.Metadata.room =
    record { within = met.within; honest = met.honest; left = met.left; frame = met.frame } in
    let e = c.self.view_is in
    let old : Held g.row.M.Denot =
    record {
      disk = g.D.Disk.state c.self.inside.disk;
      metadata = c.self.inside.metadata;
      holders = c.self.inside.holders.items;
      mode = c.self.inside.mode;
    } in
    let new : Held g.row.M.Denot = record old { disk = g.D.Disk.state c.keep.new.disk; metadata = c.keep.new.metadata } in
    let works : old.mode ≡ mode.Writable = ap (λ (h : Held g.row.M.Denot). h.mode) e ∙ c.requires.works in
    let lacks : LacksRoom g.M.Metadata.geometry g.M.Metadata.stands old call =
    subst (λ (h : Held g.row.M.Denot). LacksRoom g.M.Metadata.geometry g.M.Metadata.stands h call) (sym e) lacks_now in
    let p = err_from_is_err_and c.from_residual.result c.from_residual.ensures.1 in
    let x = c.in_err-keep.field-0.0 in
    subst (λ (h : Held g.row.M.Denot). PoolTried g.M.Metadata.geometry g.M.Metadata.stands h new call c.from_residual.result) e
    (exit_is (λ (r : Result (Unit {0}) Refusal). PoolTried g.M.Metadata.geometry g.M.Metadata.stands old new call r)
    c.from_residual.result x p.0 p.1 (sym p.2)
    (short_unkept laws call old lacks works c.set_needs_check.new.self c.set_needs_check.ensures.geometry
    c.set_needs_check.ensures.stands c.keep.new.metadata (g.D.Disk.state c.keep.new.disk)
    c.keep.ensures.geometry c.keep.ensures.ran.time c.keep.ensures.left x c.in_err-keep.ensures.only c.in_err-keep.ensures.ran.cause))

pub returns-clause-called : goal.returns-clause-called
returns-clause-called g c call lacks_now =
    let met = g.met.M.Metadata in
    let laws : Laws g.M.Metadata.geometry g.M.Metadata.stands g.M.Metadata.marks g.M.Metadata.room =
    record { within = met.within; honest = met.honest; left = met.left; frame = met.frame } in
    let e = c.self.view_is in
    let old : Held g.row.M.Denot =
    record {
      disk = g.D.Disk.state c.self.inside.disk;
      metadata = c.self.inside.metadata;
      holders = c.self.inside.holders.items;
      mode = c.self.inside.mode;
    } in
    let new : Held g.row.M.Denot = record old { disk = g.D.Disk.state c.keep.new.disk; metadata = c.keep.new.metadata; mode = mode.ReadOnly } in
    let works : old.mode ≡ mode.Writable = ap (λ (h : Held g.row.M.Denot). h.mode) e ∙ c.requires.works in
    let lacks : LacksRoom g.M.Metadata.geometry g.M.Metadata.stands old call =
    subst (λ (h : Held g.row.M.Denot). LacksRoom g.M.Metadata.geometry g.M.Metadata.stands h call) (sym e) lacks_now in
    subst (λ (h : Held g.row.M.Denot). PoolCalled g.M.Metadata.geometry g.M.Metadata.stands h new call (Refused NoMetadataSpace)) e
    (short_kept laws call old lacks works c.set_needs_check.new.self c.set_needs_check.ensures.geometry
    c.set_needs_check.ensures.stands c.keep.new.metadata (g.D.Disk.state c.keep.new.disk)
    c.keep.ensures.geometry c.keep.ensures.ran.time c.keep.ensures.left (c.in_ok-keep.ensures.ran.cause.none refl)
    (λ now kept st few. (c.in_ok-keep.ensures.kept now kept st few).0))

pub returns-in_err-keep-clause-committed : goal.returns-in_err-keep-clause-committed
returns-in_err-keep-clause-committed g c is =
    let p = err_from_is_err_and c.from_residual.result c.from_residual.ensures.1 in
    absurd (no_room_is_no_fault c.from_residual.result p.0 is p.1 (p.2 ∙ c.in_err-keep.ensures.only))

pub returns-in_err-keep-clause-ends : goal.returns-in_err-keep-clause-ends
returns-in_err-keep-clause-ends g c =
    let p = err_from_is_err_and c.from_residual.result c.from_residual.ensures.1 in
    let x = c.in_err-keep.field-0.0 in
    let new : Held g.row.M.Denot = record { disk = g.D.Disk.state c.keep.new.disk; metadata = c.keep.new.metadata; holders = c.self.inside.holders.items; mode = c.self.inside.mode } in
    exit_is (EndsShort c.args.self.now new) c.from_residual.result x p.0 p.1 (sym p.2) (inl (c.in_err-keep.ensures.only, (ap (λ (h : Held g.row.M.Denot). h.mode) c.self.view_is)))

pub returns-in_err-keep-clause-unchanged : goal.returns-in_err-keep-clause-unchanged
returns-in_err-keep-clause-unchanged g c is =
    let p = err_from_is_err_and c.from_residual.result c.from_residual.ensures.1 in
    absurd (no_room_is_no_fault c.from_residual.result p.0 is p.1 (p.2 ∙ c.in_err-keep.ensures.only))
