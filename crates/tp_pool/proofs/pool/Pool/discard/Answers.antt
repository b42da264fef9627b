use Rattle.std.proofs.Common.{Bool, Err, ap, refl, sym}
use Rattle.std.specs.Prelude.{Result, nat_lt, ◌&&◌}
use Rattle.std.proofs.lemmas.Result.{err_from_is_err_and}
use Rattle.tp_model.specs.declared.refusal.Refusal.{Refusal}
use Rattle.tp_model.specs.Calls.{Trim}
use Rattle.tp_counts.specs.declared.error.StoreError.{StoreError}
use Rattle.tp_counts.specs.StoreErrors.{refusal_of}
use Rattle.tp_counts.proofs.Refusing.{damaged_so, refused_so}
use Rattle.tp_pool.specs.Held.{Held, PoolTried}
use Rattle.tp_pool.proofs.Calling.{Laws}
use Rattle.tp_pool.proofs.Discarding.{trim_before, trim_behind, trim_done, trim_failed, trim_flushed_short, trim_refused, trim_requests, trim_then_kept, trim_unreclaimed}
use Rattle.tp_pool.proofs.Flushing.{changed_done, changed_failed, changed_kept, changed_short}
use Rattle.tp_pool.proofs.Requesting.{request_done, request_exit, request_kept, request_short}
use Rattle.tp_pool.proofs.Serving.{exit_is}
use Rattle.tp_pool.proofs.pool.Pool.discard.Goals as goal

pub returns-then-lacks-clause-called : goal.returns-then-lacks-clause-called
returns-then-lacks-clause-called g c there =
    let met = g.met.M.Metadata in
    let M = g.M.Metadata in
    let laws : Laws M.geometry M.stands M.marks M.room = record { within = met.within; honest = met.honest; left = met.left; frame = met.frame } in
    let old : Held g.row.M.Denot = record { disk = g.D.Disk.state c.self.inside.disk; metadata = c.self.inside.metadata; holders = c.self.inside.holders.items; mode = c.self.inside.mode } in
    trim_refused laws c.args.id c.args.sector c.args.count c.args.fua c.requires.most c.args.self.now old c.self.view_is c.requires.works c.requires.lies there c.requires.some c.lacks.result c.lacks.ensures c.refuse_for_room.new.self c.refuse_for_room.result c.if-lacks.true c.refuse_for_room.ensures.called

pub returns-in_err-reclaim_for-clause-called : goal.returns-in_err-reclaim_for-clause-called
returns-in_err-reclaim_for-clause-called g c there =
    let met = g.met.M.Metadata in
    let M = g.M.Metadata in
    let laws : Laws M.geometry M.stands M.marks M.room = record { within = met.within; honest = met.honest; left = met.left; frame = met.frame } in
    let old : Held g.row.M.Denot = record { disk = g.D.Disk.state c.self.inside.disk; metadata = c.self.inside.metadata; holders = c.self.inside.holders.items; mode = c.self.inside.mode } in
    let new : Held g.row.M.Denot = record old { disk = g.D.Disk.state c.reclaim_for.new.disk; metadata = c.reclaim_for.new.metadata } in
    let p = err_from_is_err_and c.from_residual.result c.from_residual.ensures.1 in
    let x = c.in_err-reclaim_for.field-0.0 in
    exit_is (λ (r : Result (Unit {0}) Refusal). PoolTried M.geometry M.stands c.args.self.now new (Trim c.args.id c.args.sector c.args.count c.args.fua) r) c.from_residual.result x p.0 p.1 (sym p.2)
    (trim_unreclaimed laws c.args.id c.args.sector c.args.count c.args.fua c.requires.most c.args.self.now old c.self.view_is c.requires.works c.requires.lies there c.requires.some c.lacks.result c.lacks.ensures c.if-lacks.false x c.reclaim_for.new.metadata (g.D.Disk.state c.reclaim_for.new.disk) c.reclaim_for.ensures.geometry c.reclaim_for.ensures.time c.in_err-reclaim_for.ensures.cause c.reclaim_for.ensures.left
    (λ is now kept st enough. c.in_err-reclaim_for.ensures.damaged (ap (λ (r : Refusal). Err r) is) now kept st enough) c.in_err-reclaim_for.ensures.only)

pub returns-in_err-unmap_covered-clause-called : goal.returns-in_err-unmap_covered-clause-called
returns-in_err-unmap_covered-clause-called g c there =
    let met = g.met.M.Metadata in
    let M = g.M.Metadata in
    let laws : Laws M.geometry M.stands M.marks M.room = record { within = met.within; honest = met.honest; left = met.left; frame = met.frame } in
    let old : Held g.row.M.Denot = record { disk = g.D.Disk.state c.self.inside.disk; metadata = c.self.inside.metadata; holders = c.self.inside.holders.items; mode = c.self.inside.mode } in
    let new : Held g.row.M.Denot = record old { disk = g.D.Disk.state c.unmap_covered.new.disk; metadata = c.unmap_covered.new.metadata } in
    let p = err_from_is_err_and c.from_residual-in_err-unmap_covered.result c.from_residual-in_err-unmap_covered.ensures.1 in
    let x = refusal_of c.in_err-unmap_covered.field-0.0 in
    exit_is (λ (r : Result (Unit {0}) Refusal). PoolTried M.geometry M.stands c.args.self.now new (Trim c.args.id c.args.sector c.args.count c.args.fua) r) c.from_residual-in_err-unmap_covered.result x p.0 p.1 (sym p.2)
    (trim_failed laws c.args.id c.args.sector c.args.count c.args.fua c.requires.most c.args.self.now old c.self.view_is c.requires.works c.requires.lies there c.requires.some c.lacks.result c.lacks.ensures c.if-lacks.false c.reclaim_for.new.metadata (g.D.Disk.state c.reclaim_for.new.disk) c.reclaim_for.ensures.geometry c.reclaim_for.ensures.time c.in_ok-reclaim_for.ensures.cause c.reclaim_for.ensures.left c.in_ok-reclaim_for.ensures.done c.unmap_covered.new.metadata (g.D.Disk.state c.unmap_covered.new.disk) c.unmap_covered.ensures.altered.changing x c.in_err-unmap_covered.ensures.altered.ran
    (λ is now kept st. c.in_err-unmap_covered.ensures.altered.damaged (ap (λ (r : StoreError). Err r) (damaged_so c.in_err-unmap_covered.field-0.0 is)) now kept st) (refused_so c.in_err-unmap_covered.field-0.0))

pub returns-then-not-fua-clause-called : goal.returns-then-not-fua-clause-called
returns-then-not-fua-clause-called g c there =
    let met = g.met.M.Metadata in
    let M = g.M.Metadata in
    let laws : Laws M.geometry M.stands M.marks M.room = record { within = met.within; honest = met.honest; left = met.left; frame = met.frame } in
    let old : Held g.row.M.Denot = record { disk = g.D.Disk.state c.self.inside.disk; metadata = c.self.inside.metadata; holders = c.self.inside.holders.items; mode = c.self.inside.mode } in
    trim_done laws c.args.id c.args.sector c.args.count c.args.fua c.requires.most c.args.self.now old c.self.view_is c.requires.works c.requires.lies there c.requires.some c.lacks.result c.lacks.ensures c.if-lacks.false c.reclaim_for.new.metadata (g.D.Disk.state c.reclaim_for.new.disk) c.reclaim_for.ensures.geometry c.reclaim_for.ensures.time c.in_ok-reclaim_for.ensures.cause c.reclaim_for.ensures.left c.in_ok-reclaim_for.ensures.done c.unmap_covered.new.metadata (g.D.Disk.state c.unmap_covered.new.disk) c.unmap_covered.ensures.altered.changing c.in_ok-unmap_covered.ensures.altered.ran c.in_ok-unmap_covered.ensures.spare c.in_ok-unmap_covered.ensures.altered.made c.if-not-fua.true

pub returns-clause-called : goal.returns-clause-called
returns-clause-called g c there =
    let met = g.met.M.Metadata in
    let M = g.M.Metadata in
    let laws : Laws M.geometry M.stands M.marks M.room = record { within = met.within; honest = met.honest; left = met.left; frame = met.frame } in
    let old : Held g.row.M.Denot = record { disk = g.D.Disk.state c.self.inside.disk; metadata = c.self.inside.metadata; holders = c.self.inside.holders.items; mode = c.self.inside.mode } in
    trim_then_kept laws c.args.id c.args.sector c.args.count c.args.fua c.requires.most c.args.self.now old c.self.view_is c.requires.works c.requires.lies there c.requires.some c.lacks.result c.lacks.ensures c.if-lacks.false c.reclaim_for.new.metadata (g.D.Disk.state c.reclaim_for.new.disk) c.reclaim_for.ensures.geometry c.reclaim_for.ensures.time c.in_ok-reclaim_for.ensures.cause c.reclaim_for.ensures.left c.in_ok-reclaim_for.ensures.done c.unmap_covered.new.metadata (g.D.Disk.state c.unmap_covered.new.disk) c.unmap_covered.ensures.altered.changing c.in_ok-unmap_covered.ensures.altered.ran c.in_ok-unmap_covered.ensures.spare c.in_ok-unmap_covered.ensures.altered.made
    c.keep.new.metadata (g.D.Disk.state c.keep.new.disk) c.keep.ensures.geometry c.keep.ensures.ran.time c.keep.ensures.left c.keep.result c.keep.ensures.kept c.keep.ensures.only c.keep.ensures.ran.cause

pub returns-then-lacks-clause-tried : goal.returns-then-lacks-clause-tried
returns-then-lacks-clause-tried g c =
    request_short (Trim c.args.id c.args.sector c.args.count c.args.fua) (trim_requests c.args.id c.args.sector c.args.count c.args.fua) c.args.self.now c.refuse_for_room.new.self c.requires.works c.refuse_for_room.result c.refuse_for_room.ensures.ends

pub returns-in_err-reclaim_for-clause-tried : goal.returns-in_err-reclaim_for-clause-tried
returns-in_err-reclaim_for-clause-tried g c =
    let new : Held g.row.M.Denot = record { disk = g.D.Disk.state c.reclaim_for.new.disk; metadata = c.reclaim_for.new.metadata; holders = c.self.inside.holders.items; mode = c.self.inside.mode } in
    let p = err_from_is_err_and c.from_residual.result c.from_residual.ensures.1 in
    request_exit (Trim c.args.id c.args.sector c.args.count c.args.fua) (trim_requests c.args.id c.args.sector c.args.count c.args.fua) c.args.self.now new c.requires.works c.from_residual.result c.in_err-reclaim_for.field-0.0 p.0 (ap (λ (h : Held g.row.M.Denot). h.mode) c.self.view_is) p.1 (sym p.2) c.in_err-reclaim_for.ensures.only

pub returns-in_err-unmap_covered-clause-tried : goal.returns-in_err-unmap_covered-clause-tried
returns-in_err-unmap_covered-clause-tried g c =
    let new : Held g.row.M.Denot = record { disk = g.D.Disk.state c.unmap_covered.new.disk; metadata = c.unmap_covered.new.metadata; holders = c.self.inside.holders.items; mode = c.self.inside.mode } in
    let p = err_from_is_err_and c.from_residual-in_err-unmap_covered.result c.from_residual-in_err-unmap_covered.ensures.1 in
    request_exit (Trim c.args.id c.args.sector c.args.count c.args.fua) (trim_requests c.args.id c.args.sector c.args.count c.args.fua) c.args.self.now new c.requires.works c.from_residual-in_err-unmap_covered.result (refusal_of c.in_err-unmap_covered.field-0.0) p.0 (ap (λ (h : Held g.row.M.Denot). h.mode) c.self.view_is) p.1 (sym p.2) (refused_so c.in_err-unmap_covered.field-0.0)

pub returns-then-not-fua-clause-tried : goal.returns-then-not-fua-clause-tried
returns-then-not-fua-clause-tried g c =
    let new : Held g.row.M.Denot = record { disk = g.D.Disk.state c.unmap_covered.new.disk; metadata = c.unmap_covered.new.metadata; holders = c.self.inside.holders.items; mode = c.self.inside.mode } in
    request_done (Trim c.args.id c.args.sector c.args.count c.args.fua) (trim_requests c.args.id c.args.sector c.args.count c.args.fua) c.args.self.now new c.requires.works (ap (λ (h : Held g.row.M.Denot). h.mode) c.self.view_is)

pub returns-clause-tried : goal.returns-clause-tried
returns-clause-tried g c =
    let new : Held g.row.M.Denot = record { disk = g.D.Disk.state c.keep.new.disk; metadata = c.keep.new.metadata; holders = c.self.inside.holders.items; mode = c.self.inside.mode } in
    request_kept (Trim c.args.id c.args.sector c.args.count c.args.fua) (trim_requests c.args.id c.args.sector c.args.count c.args.fua) c.args.self.now new c.requires.works c.keep.result (ap (λ (h : Held g.row.M.Denot). h.mode) c.self.view_is) c.keep.ensures.only

pub returns-then-lacks-clause-flushes : goal.returns-then-lacks-clause-flushes
returns-then-lacks-clause-flushes g c there =
    let met = g.met.M.Metadata in
    let M = g.M.Metadata in
    let laws : Laws M.geometry M.stands M.marks M.room = record { within = met.within; honest = met.honest; left = met.left; frame = met.frame } in
    let old : Held g.row.M.Denot = record { disk = g.D.Disk.state c.self.inside.disk; metadata = c.self.inside.metadata; holders = c.self.inside.holders.items; mode = c.self.inside.mode } in
    trim_flushed_short laws c.args.id c.args.sector c.args.count c.args.fua c.requires.most c.args.self.now old c.self.view_is c.requires.works c.requires.lies there c.requires.some c.lacks.result c.lacks.ensures c.refuse_for_room.new.self.disk c.if-lacks.true c.refuse_for_room.ensures.flushes

pub returns-in_err-reclaim_for-clause-flushes : goal.returns-in_err-reclaim_for-clause-flushes
returns-in_err-reclaim_for-clause-flushes g c there =
    let met = g.met.M.Metadata in
    let M = g.M.Metadata in
    let laws : Laws M.geometry M.stands M.marks M.room = record { within = met.within; honest = met.honest; left = met.left; frame = met.frame } in
    let old : Held g.row.M.Denot = record { disk = g.D.Disk.state c.self.inside.disk; metadata = c.self.inside.metadata; holders = c.self.inside.holders.items; mode = c.self.inside.mode } in
    trim_before laws c.args.id c.args.sector c.args.count c.args.fua c.requires.most c.args.self.now old c.self.view_is c.requires.works c.requires.lies there c.requires.some c.lacks.result c.lacks.ensures c.if-lacks.false c.reclaim_for.new.metadata (g.D.Disk.state c.reclaim_for.new.disk) c.reclaim_for.ensures.flushes c.reclaim_for.ensures.idle (g.D.Disk.state c.reclaim_for.new.disk) refl

pub returns-in_err-unmap_covered-clause-flushes : goal.returns-in_err-unmap_covered-clause-flushes
returns-in_err-unmap_covered-clause-flushes g c there =
    let met = g.met.M.Metadata in
    let M = g.M.Metadata in
    let laws : Laws M.geometry M.stands M.marks M.room = record { within = met.within; honest = met.honest; left = met.left; frame = met.frame } in
    let old : Held g.row.M.Denot = record { disk = g.D.Disk.state c.self.inside.disk; metadata = c.self.inside.metadata; holders = c.self.inside.holders.items; mode = c.self.inside.mode } in
    trim_before laws c.args.id c.args.sector c.args.count c.args.fua c.requires.most c.args.self.now old c.self.view_is c.requires.works c.requires.lies there c.requires.some c.lacks.result c.lacks.ensures c.if-lacks.false c.reclaim_for.new.metadata (g.D.Disk.state c.reclaim_for.new.disk) c.reclaim_for.ensures.flushes c.reclaim_for.ensures.idle (g.D.Disk.state c.unmap_covered.new.disk) c.in_err-unmap_covered.ensures.altered.ran.flushes

pub returns-then-not-fua-clause-flushes : goal.returns-then-not-fua-clause-flushes
returns-then-not-fua-clause-flushes g c there =
    let met = g.met.M.Metadata in
    let M = g.M.Metadata in
    let laws : Laws M.geometry M.stands M.marks M.room = record { within = met.within; honest = met.honest; left = met.left; frame = met.frame } in
    let old : Held g.row.M.Denot = record { disk = g.D.Disk.state c.self.inside.disk; metadata = c.self.inside.metadata; holders = c.self.inside.holders.items; mode = c.self.inside.mode } in
    trim_before laws c.args.id c.args.sector c.args.count c.args.fua c.requires.most c.args.self.now old c.self.view_is c.requires.works c.requires.lies there c.requires.some c.lacks.result c.lacks.ensures c.if-lacks.false c.reclaim_for.new.metadata (g.D.Disk.state c.reclaim_for.new.disk) c.reclaim_for.ensures.flushes c.reclaim_for.ensures.idle (g.D.Disk.state c.unmap_covered.new.disk) c.in_ok-unmap_covered.ensures.altered.ran.flushes

pub returns-clause-flushes : goal.returns-clause-flushes
returns-clause-flushes g c there =
    let met = g.met.M.Metadata in
    let M = g.M.Metadata in
    let laws : Laws M.geometry M.stands M.marks M.room = record { within = met.within; honest = met.honest; left = met.left; frame = met.frame } in
    let old : Held g.row.M.Denot = record { disk = g.D.Disk.state c.self.inside.disk; metadata = c.self.inside.metadata; holders = c.self.inside.holders.items; mode = c.self.inside.mode } in
    trim_behind laws c.args.id c.args.sector c.args.count c.args.fua c.requires.most c.args.self.now old c.self.view_is c.requires.works c.requires.lies there c.requires.some c.lacks.result c.lacks.ensures c.if-lacks.false c.reclaim_for.new.metadata (g.D.Disk.state c.reclaim_for.new.disk) c.reclaim_for.ensures.flushes c.reclaim_for.ensures.idle (g.D.Disk.state c.unmap_covered.new.disk) (g.D.Disk.state c.keep.new.disk) c.if-not-fua.false c.in_ok-unmap_covered.ensures.altered.ran.flushes c.keep.ensures.ran.flushes

pub returns-then-lacks-clause-changes : goal.returns-then-lacks-clause-changes
returns-then-lacks-clause-changes g c =
    changed_short g.M.Metadata.changed (Trim c.args.id c.args.sector c.args.count c.args.fua) c.args.self.now c.refuse_for_room.new.self c.args.self.now.metadata c.refuse_for_room.result c.refuse_for_room.ensures.ends c.refuse_for_room.ensures.unchanged

pub returns-in_err-reclaim_for-clause-changes : goal.returns-in_err-reclaim_for-clause-changes
returns-in_err-reclaim_for-clause-changes g c =
    let p = err_from_is_err_and c.from_residual.result c.from_residual.ensures.1 in
    changed_failed g.M.Metadata.changed c.args.self.now.metadata c.reclaim_for.new.metadata (Trim c.args.id c.args.sector c.args.count c.args.fua) c.from_residual.result c.in_err-reclaim_for.field-0.0 p.0 p.1 (sym p.2) c.in_err-reclaim_for.ensures.only

pub returns-in_err-unmap_covered-clause-changes : goal.returns-in_err-unmap_covered-clause-changes
returns-in_err-unmap_covered-clause-changes g c =
    let p = err_from_is_err_and c.from_residual-in_err-unmap_covered.result c.from_residual-in_err-unmap_covered.ensures.1 in
    changed_failed g.M.Metadata.changed c.args.self.now.metadata c.unmap_covered.new.metadata (Trim c.args.id c.args.sector c.args.count c.args.fua) c.from_residual-in_err-unmap_covered.result (refusal_of c.in_err-unmap_covered.field-0.0) p.0 p.1 (sym p.2) (refused_so c.in_err-unmap_covered.field-0.0)

pub returns-then-not-fua-clause-changes : goal.returns-then-not-fua-clause-changes
returns-then-not-fua-clause-changes g c =
    changed_done g.M.Metadata.changed c.args.self.now.metadata c.unmap_covered.new.metadata (Trim c.args.id c.args.sector c.args.count c.args.fua) (ap (λ (b : Bool). b && nat_lt 0 c.args.count) c.if-not-fua.true)

pub returns-clause-changes : goal.returns-clause-changes
returns-clause-changes g c =
    changed_kept g.M.Metadata.changed c.args.self.now.metadata c.keep.new.metadata (Trim c.args.id c.args.sector c.args.count c.args.fua) c.keep.result c.keep.ensures.unchanged c.keep.ensures.only
