use Rattle.std.proofs.Common.{Bool, Err, ◌≡◌, ◌+◌, ◌<◌, ◌≤◌, inl, inr, ap, refl, subst, sym}
use Rattle.std.specs.Prelude.{Result, nat_lt, ◌&&◌}
use Rattle.std.proofs.lemmas.Result.{err_from_is_err_and}
use Rattle.tp_model.specs.declared.refusal.Refusal.{Refusal}
use Rattle.tp_model.specs.Calls.{WriteZeroes}
use Rattle.tp_sharing.specs.Volumes.{used}
use Rattle.tp_counts.specs.declared.error.StoreError.{StoreError}
use Rattle.tp_counts.specs.StoreErrors.{refusal_of}
use Rattle.tp_counts.proofs.Refusing.{damaged_so, refused_so}
use Rattle.tp_shown.specs.Shown.{blocks_wanted_by, first_block}
use Rattle.tp_pool.specs.Held.{Held, PoolRefused, PoolTried, failed_by}
use Rattle.tp_pool.specs.Writing.{blocks_taken_by}
use Rattle.tp_pool.proofs.Calling.{Laws}
use Rattle.tp_pool.proofs.Flushing.{changed_done, changed_failed, changed_kept, changed_read, changed_short, counted_nothing, tested_commits}
use Rattle.tp_pool.proofs.Requesting.{request_done, request_exit, request_full, request_kept, request_short}
use Rattle.tp_pool.proofs.Rooms.{tested_by}
use Rattle.tp_pool.proofs.Serving.{exit_is}
use Rattle.tp_pool.proofs.Zeroes.{zeroes_before, zeroes_behind, zeroes_done, zeroes_failed, zeroes_flushed_short, zeroes_full, zeroes_refused, zeroes_requests, zeroes_then_kept, zeroes_unreclaimed}
use Rattle.tp_pool.proofs.pool.Pool.make_zero.Goals as goal

pub returns-then-lacks_metadata-clause-called : goal.returns-then-lacks_metadata-clause-called
returns-then-lacks_metadata-clause-called g c there =
    let met = g.met.M.Metadata in
    let M = g.M.Metadata in
    let laws : Laws M.geometry M.stands M.marks M.room = record { within = met.within; honest = met.honest; left = met.left; frame = met.frame } in
    let old : Held g.row.M.Denot = record { disk = g.D.Disk.state c.self.inside.disk; metadata = c.self.inside.metadata; holders = c.self.inside.holders.items; mode = c.self.inside.mode } in
    zeroes_refused laws c.args.id c.args.sector c.args.count c.args.no_hole c.args.fua c.requires.most c.args.self.now old c.self.view_is c.requires.works c.requires.lies there c.requires.some c.lacks_metadata.result c.lacks_metadata.ensures c.refuse_for_room.new.self c.refuse_for_room.result c.if-lacks_metadata.true c.refuse_for_room.ensures.called

pub returns-in_err-taken-clause-called : goal.returns-in_err-taken-clause-called
returns-in_err-taken-clause-called g c there =
    let met = g.met.M.Metadata in
    let M = g.M.Metadata in
    let laws : Laws M.geometry M.stands M.marks M.room = record { within = met.within; honest = met.honest; left = met.left; frame = met.frame } in
    let old : Held g.row.M.Denot = record { disk = g.D.Disk.state c.self.inside.disk; metadata = c.self.inside.metadata; holders = c.self.inside.holders.items; mode = c.self.inside.mode } in
    let gm = M.geometry old.metadata in
    let full = tested_by M.geometry M.stands M.marks old c.args.self.now c.self.view_is c.args.id c.args.sector c.args.count c.args.homes.now c.requires.homes c.requires.told
    (λ now n. gm.data_blocks < used now.volumes + blocks_wanted_by gm (WriteZeroes c.args.id c.args.sector c.args.count c.args.no_hole c.args.fua) c.args.id now.volumes (first_block gm c.args.sector) n)
    (λ now kept st told. c.in_err-taken.ensures.full (ap (λ (r : Refusal). Err r) c.in_err-taken.ensures.only) old.disk now kept c.args.fua c.args.id st told) in
    let p = err_from_is_err_and c.from_residual.result c.from_residual.ensures.1 in
    let x = c.in_err-taken.field-0.0 in
    subst (λ (h : Held g.row.M.Denot). PoolTried M.geometry M.stands c.args.self.now h (WriteZeroes c.args.id c.args.sector c.args.count c.args.no_hole c.args.fua) c.from_residual.result) c.self.view_is
    (exit_is (λ (r : Result (Unit {0}) Refusal). PoolTried M.geometry M.stands c.args.self.now old (WriteZeroes c.args.id c.args.sector c.args.count c.args.no_hole c.args.fua) r) c.from_residual.result x p.0 p.1 (sym p.2)
    (subst (λ (r : Refusal). PoolRefused M.geometry M.stands c.args.self.now (failed_by r old) (WriteZeroes c.args.id c.args.sector c.args.count c.args.no_hole c.args.fua) r) (sym c.in_err-taken.ensures.only)
    (zeroes_full laws c.args.id c.args.sector c.args.count c.args.no_hole c.args.fua c.requires.most c.args.self.now old c.self.view_is c.requires.works c.requires.lies there c.requires.some c.lacks_metadata.result c.lacks_metadata.ensures c.if-lacks_metadata.false full)))

pub returns-in_err-make_room-clause-called : goal.returns-in_err-make_room-clause-called
returns-in_err-make_room-clause-called g c there =
    let met = g.met.M.Metadata in
    let M = g.M.Metadata in
    let laws : Laws M.geometry M.stands M.marks M.room = record { within = met.within; honest = met.honest; left = met.left; frame = met.frame } in
    let old : Held g.row.M.Denot = record { disk = g.D.Disk.state c.self.inside.disk; metadata = c.self.inside.metadata; holders = c.self.inside.holders.items; mode = c.self.inside.mode } in
    let gm = M.geometry old.metadata in
    let tested = tested_by M.geometry M.stands M.marks old c.args.self.now c.self.view_is c.args.id c.args.sector c.args.count c.args.homes.now c.requires.homes c.requires.told
    (λ now n. (used now.volumes + blocks_wanted_by gm (WriteZeroes c.args.id c.args.sector c.args.count c.args.no_hole c.args.fua) c.args.id now.volumes (first_block gm c.args.sector) n ≤ gm.data_blocks)
    × (c.in_ok-taken.taken ≡ blocks_taken_by gm (WriteZeroes c.args.id c.args.sector c.args.count c.args.no_hole c.args.fua) c.args.id now.volumes (M.marks old.metadata) (first_block gm c.args.sector) n))
    (λ now kept st told. c.in_ok-taken.ensures.room old.disk now kept c.args.fua c.args.id st told) in
    let new : Held g.row.M.Denot = record old { disk = g.D.Disk.state c.make_room.new.disk; metadata = c.make_room.new.metadata } in
    let p = err_from_is_err_and c.from_residual-in_err-make_room.result c.from_residual-in_err-make_room.ensures.1 in
    let x = c.in_err-make_room.field-0.0 in
    exit_is (λ (r : Result (Unit {0}) Refusal). PoolTried M.geometry M.stands c.args.self.now new (WriteZeroes c.args.id c.args.sector c.args.count c.args.no_hole c.args.fua) r) c.from_residual-in_err-make_room.result x p.0 p.1 (sym p.2)
    (zeroes_unreclaimed laws c.args.id c.args.sector c.args.count c.args.no_hole c.args.fua c.requires.most c.args.self.now old c.self.view_is c.requires.works c.requires.lies there c.requires.some c.lacks_metadata.result c.lacks_metadata.ensures c.if-lacks_metadata.false c.in_ok-taken.taken tested x c.make_room.new.metadata (g.D.Disk.state c.make_room.new.disk) c.make_room.ensures.geometry c.make_room.ensures.time c.in_err-make_room.ensures.cause c.make_room.ensures.left
    (λ is now kept st enough. c.in_err-make_room.ensures.damaged (ap (λ (r : Refusal). Err r) is) now kept st enough) c.in_err-make_room.ensures.only)

pub returns-in_err-zero_range-clause-called : goal.returns-in_err-zero_range-clause-called
returns-in_err-zero_range-clause-called g c there =
    let met = g.met.M.Metadata in
    let M = g.M.Metadata in
    let laws : Laws M.geometry M.stands M.marks M.room = record { within = met.within; honest = met.honest; left = met.left; frame = met.frame } in
    let old : Held g.row.M.Denot = record { disk = g.D.Disk.state c.self.inside.disk; metadata = c.self.inside.metadata; holders = c.self.inside.holders.items; mode = c.self.inside.mode } in
    let gm = M.geometry old.metadata in
    let tested = tested_by M.geometry M.stands M.marks old c.args.self.now c.self.view_is c.args.id c.args.sector c.args.count c.args.homes.now c.requires.homes c.requires.told
    (λ now n. (used now.volumes + blocks_wanted_by gm (WriteZeroes c.args.id c.args.sector c.args.count c.args.no_hole c.args.fua) c.args.id now.volumes (first_block gm c.args.sector) n ≤ gm.data_blocks)
    × (c.in_ok-taken.taken ≡ blocks_taken_by gm (WriteZeroes c.args.id c.args.sector c.args.count c.args.no_hole c.args.fua) c.args.id now.volumes (M.marks old.metadata) (first_block gm c.args.sector) n))
    (λ now kept st told. c.in_ok-taken.ensures.room old.disk now kept c.args.fua c.args.id st told) in
    let new : Held g.row.M.Denot = record old { disk = g.D.Disk.state c.zero_range.new.disk; metadata = c.zero_range.new.metadata } in
    let p = err_from_is_err_and c.from_residual-in_err-zero_range.result c.from_residual-in_err-zero_range.ensures.1 in
    let x = refusal_of c.in_err-zero_range.field-0.0 in
    exit_is (λ (r : Result (Unit {0}) Refusal). PoolTried M.geometry M.stands c.args.self.now new (WriteZeroes c.args.id c.args.sector c.args.count c.args.no_hole c.args.fua) r) c.from_residual-in_err-zero_range.result x p.0 p.1 (sym p.2)
    (zeroes_failed laws c.args.id c.args.sector c.args.count c.args.no_hole c.args.fua c.requires.most c.args.self.now old c.self.view_is c.requires.works c.requires.lies there c.requires.some c.lacks_metadata.result c.lacks_metadata.ensures c.if-lacks_metadata.false c.in_ok-taken.taken tested c.make_room.new.metadata (g.D.Disk.state c.make_room.new.disk) c.make_room.ensures.geometry c.make_room.ensures.time c.in_ok-make_room.ensures.cause c.make_room.ensures.left c.in_ok-make_room.ensures.done c.zero_range.new.metadata (g.D.Disk.state c.zero_range.new.disk) c.zero_range.ensures.left x c.in_err-zero_range.ensures.ran
    (λ is now kept st device free. c.in_err-zero_range.ensures.damaged (ap (λ (r : StoreError). Err r) (damaged_so c.in_err-zero_range.field-0.0 is)) now kept st device free) (refused_so c.in_err-zero_range.field-0.0))

pub returns-then-not-fua-clause-called : goal.returns-then-not-fua-clause-called
returns-then-not-fua-clause-called g c there =
    let met = g.met.M.Metadata in
    let M = g.M.Metadata in
    let laws : Laws M.geometry M.stands M.marks M.room = record { within = met.within; honest = met.honest; left = met.left; frame = met.frame } in
    let old : Held g.row.M.Denot = record { disk = g.D.Disk.state c.self.inside.disk; metadata = c.self.inside.metadata; holders = c.self.inside.holders.items; mode = c.self.inside.mode } in
    let gm = M.geometry old.metadata in
    let tested = tested_by M.geometry M.stands M.marks old c.args.self.now c.self.view_is c.args.id c.args.sector c.args.count c.args.homes.now c.requires.homes c.requires.told
    (λ now n. (used now.volumes + blocks_wanted_by gm (WriteZeroes c.args.id c.args.sector c.args.count c.args.no_hole c.args.fua) c.args.id now.volumes (first_block gm c.args.sector) n ≤ gm.data_blocks)
    × (c.in_ok-taken.taken ≡ blocks_taken_by gm (WriteZeroes c.args.id c.args.sector c.args.count c.args.no_hole c.args.fua) c.args.id now.volumes (M.marks old.metadata) (first_block gm c.args.sector) n))
    (λ now kept st told. c.in_ok-taken.ensures.room old.disk now kept c.args.fua c.args.id st told) in
    zeroes_done laws c.args.id c.args.sector c.args.count c.args.no_hole c.args.fua c.requires.most c.args.self.now old c.self.view_is c.requires.works c.requires.lies there c.requires.some c.lacks_metadata.result c.lacks_metadata.ensures c.if-lacks_metadata.false c.in_ok-taken.taken tested c.make_room.new.metadata (g.D.Disk.state c.make_room.new.disk) c.make_room.ensures.geometry c.make_room.ensures.time c.in_ok-make_room.ensures.cause c.make_room.ensures.left c.in_ok-make_room.ensures.done c.zero_range.new.metadata (g.D.Disk.state c.zero_range.new.disk) c.zero_range.ensures.left c.in_ok-zero_range.ensures.ran c.in_ok-zero_range.ensures.spare c.in_ok-zero_range.ensures.blanked c.if-not-fua.true

pub returns-clause-called : goal.returns-clause-called
returns-clause-called g c there =
    let met = g.met.M.Metadata in
    let M = g.M.Metadata in
    let laws : Laws M.geometry M.stands M.marks M.room = record { within = met.within; honest = met.honest; left = met.left; frame = met.frame } in
    let old : Held g.row.M.Denot = record { disk = g.D.Disk.state c.self.inside.disk; metadata = c.self.inside.metadata; holders = c.self.inside.holders.items; mode = c.self.inside.mode } in
    let gm = M.geometry old.metadata in
    let tested = tested_by M.geometry M.stands M.marks old c.args.self.now c.self.view_is c.args.id c.args.sector c.args.count c.args.homes.now c.requires.homes c.requires.told
    (λ now n. (used now.volumes + blocks_wanted_by gm (WriteZeroes c.args.id c.args.sector c.args.count c.args.no_hole c.args.fua) c.args.id now.volumes (first_block gm c.args.sector) n ≤ gm.data_blocks)
    × (c.in_ok-taken.taken ≡ blocks_taken_by gm (WriteZeroes c.args.id c.args.sector c.args.count c.args.no_hole c.args.fua) c.args.id now.volumes (M.marks old.metadata) (first_block gm c.args.sector) n))
    (λ now kept st told. c.in_ok-taken.ensures.room old.disk now kept c.args.fua c.args.id st told) in
    zeroes_then_kept laws c.args.id c.args.sector c.args.count c.args.no_hole c.args.fua c.requires.most c.args.self.now old c.self.view_is c.requires.works c.requires.lies there c.requires.some c.lacks_metadata.result c.lacks_metadata.ensures c.if-lacks_metadata.false c.in_ok-taken.taken tested c.make_room.new.metadata (g.D.Disk.state c.make_room.new.disk) c.make_room.ensures.geometry c.make_room.ensures.time c.in_ok-make_room.ensures.cause c.make_room.ensures.left c.in_ok-make_room.ensures.done c.zero_range.new.metadata (g.D.Disk.state c.zero_range.new.disk) c.zero_range.ensures.left c.in_ok-zero_range.ensures.ran c.in_ok-zero_range.ensures.spare c.in_ok-zero_range.ensures.blanked
    c.keep.new.metadata (g.D.Disk.state c.keep.new.disk) c.keep.ensures.geometry c.keep.ensures.ran.time c.keep.ensures.left c.keep.result c.keep.ensures.kept c.keep.ensures.only c.keep.ensures.ran.cause

pub returns-then-lacks_metadata-clause-tried : goal.returns-then-lacks_metadata-clause-tried
returns-then-lacks_metadata-clause-tried g c =
    request_short (WriteZeroes c.args.id c.args.sector c.args.count c.args.no_hole c.args.fua) (zeroes_requests c.args.id c.args.sector c.args.count c.args.no_hole c.args.fua) c.args.self.now c.refuse_for_room.new.self c.requires.works c.refuse_for_room.result c.refuse_for_room.ensures.ends

pub returns-in_err-taken-clause-tried : goal.returns-in_err-taken-clause-tried
returns-in_err-taken-clause-tried g c =
    let p = err_from_is_err_and c.from_residual.result c.from_residual.ensures.1 in
    request_full (WriteZeroes c.args.id c.args.sector c.args.count c.args.no_hole c.args.fua) (zeroes_requests c.args.id c.args.sector c.args.count c.args.no_hole c.args.fua) c.args.self.now c.args.self.now c.requires.works (inr (inr (inl refl))) c.from_residual.result c.in_err-taken.field-0.0 p.0 refl p.1 (sym p.2) c.in_err-taken.ensures.only

pub returns-in_err-make_room-clause-tried : goal.returns-in_err-make_room-clause-tried
returns-in_err-make_room-clause-tried g c =
    let new : Held g.row.M.Denot = record { disk = g.D.Disk.state c.make_room.new.disk; metadata = c.make_room.new.metadata; holders = c.self.inside.holders.items; mode = c.self.inside.mode } in
    let p = err_from_is_err_and c.from_residual-in_err-make_room.result c.from_residual-in_err-make_room.ensures.1 in
    request_exit (WriteZeroes c.args.id c.args.sector c.args.count c.args.no_hole c.args.fua) (zeroes_requests c.args.id c.args.sector c.args.count c.args.no_hole c.args.fua) c.args.self.now new c.requires.works c.from_residual-in_err-make_room.result c.in_err-make_room.field-0.0 p.0 (ap (λ (h : Held g.row.M.Denot). h.mode) c.self.view_is) p.1 (sym p.2) c.in_err-make_room.ensures.only

pub returns-in_err-zero_range-clause-tried : goal.returns-in_err-zero_range-clause-tried
returns-in_err-zero_range-clause-tried g c =
    let new : Held g.row.M.Denot = record { disk = g.D.Disk.state c.zero_range.new.disk; metadata = c.zero_range.new.metadata; holders = c.self.inside.holders.items; mode = c.self.inside.mode } in
    let p = err_from_is_err_and c.from_residual-in_err-zero_range.result c.from_residual-in_err-zero_range.ensures.1 in
    request_exit (WriteZeroes c.args.id c.args.sector c.args.count c.args.no_hole c.args.fua) (zeroes_requests c.args.id c.args.sector c.args.count c.args.no_hole c.args.fua) c.args.self.now new c.requires.works c.from_residual-in_err-zero_range.result (refusal_of c.in_err-zero_range.field-0.0) p.0 (ap (λ (h : Held g.row.M.Denot). h.mode) c.self.view_is) p.1 (sym p.2) (refused_so c.in_err-zero_range.field-0.0)

pub returns-then-not-fua-clause-tried : goal.returns-then-not-fua-clause-tried
returns-then-not-fua-clause-tried g c =
    let new : Held g.row.M.Denot = record { disk = g.D.Disk.state c.zero_range.new.disk; metadata = c.zero_range.new.metadata; holders = c.self.inside.holders.items; mode = c.self.inside.mode } in
    request_done (WriteZeroes c.args.id c.args.sector c.args.count c.args.no_hole c.args.fua) (zeroes_requests c.args.id c.args.sector c.args.count c.args.no_hole c.args.fua) c.args.self.now new c.requires.works (ap (λ (h : Held g.row.M.Denot). h.mode) c.self.view_is)

pub returns-clause-tried : goal.returns-clause-tried
returns-clause-tried g c =
    let new : Held g.row.M.Denot = record { disk = g.D.Disk.state c.keep.new.disk; metadata = c.keep.new.metadata; holders = c.self.inside.holders.items; mode = c.self.inside.mode } in
    request_kept (WriteZeroes c.args.id c.args.sector c.args.count c.args.no_hole c.args.fua) (zeroes_requests c.args.id c.args.sector c.args.count c.args.no_hole c.args.fua) c.args.self.now new c.requires.works c.keep.result (ap (λ (h : Held g.row.M.Denot). h.mode) c.self.view_is) c.keep.ensures.only

pub returns-then-lacks_metadata-clause-flushes : goal.returns-then-lacks_metadata-clause-flushes
returns-then-lacks_metadata-clause-flushes g c there =
    let met = g.met.M.Metadata in
    let M = g.M.Metadata in
    let laws : Laws M.geometry M.stands M.marks M.room = record { within = met.within; honest = met.honest; left = met.left; frame = met.frame } in
    let old : Held g.row.M.Denot = record { disk = g.D.Disk.state c.self.inside.disk; metadata = c.self.inside.metadata; holders = c.self.inside.holders.items; mode = c.self.inside.mode } in
    zeroes_flushed_short laws c.args.id c.args.sector c.args.count c.args.no_hole c.args.fua c.requires.most c.args.self.now old c.self.view_is c.requires.works c.requires.lies there c.requires.some c.lacks_metadata.result c.lacks_metadata.ensures c.refuse_for_room.new.self.disk c.if-lacks_metadata.true c.refuse_for_room.ensures.flushes

pub returns-in_err-taken-clause-flushes : goal.returns-in_err-taken-clause-flushes
returns-in_err-taken-clause-flushes g c there =
    counted_nothing g.M.Metadata.geometry g.M.Metadata.stands g.M.Metadata.marks g.M.Metadata.room c.args.self.now c.args.self.now.disk (WriteZeroes c.args.id c.args.sector c.args.count c.args.no_hole c.args.fua) refl

pub returns-in_err-make_room-clause-flushes : goal.returns-in_err-make_room-clause-flushes
returns-in_err-make_room-clause-flushes g c there =
    let met = g.met.M.Metadata in
    let M = g.M.Metadata in
    let laws : Laws M.geometry M.stands M.marks M.room = record { within = met.within; honest = met.honest; left = met.left; frame = met.frame } in
    let old : Held g.row.M.Denot = record { disk = g.D.Disk.state c.self.inside.disk; metadata = c.self.inside.metadata; holders = c.self.inside.holders.items; mode = c.self.inside.mode } in
    let gm = M.geometry old.metadata in
    let tested = tested_by M.geometry M.stands M.marks old c.args.self.now c.self.view_is c.args.id c.args.sector c.args.count c.args.homes.now c.requires.homes c.requires.told
    (λ now n. (used now.volumes + blocks_wanted_by gm (WriteZeroes c.args.id c.args.sector c.args.count c.args.no_hole c.args.fua) c.args.id now.volumes (first_block gm c.args.sector) n ≤ gm.data_blocks)
    × (c.in_ok-taken.taken ≡ blocks_taken_by gm (WriteZeroes c.args.id c.args.sector c.args.count c.args.no_hole c.args.fua) c.args.id now.volumes (M.marks old.metadata) (first_block gm c.args.sector) n))
    (λ now kept st told. c.in_ok-taken.ensures.room old.disk now kept c.args.fua c.args.id st told) in
    zeroes_before laws c.args.id c.args.sector c.args.count c.args.no_hole c.args.fua c.requires.most c.args.self.now old c.self.view_is c.requires.works c.requires.lies there c.requires.some c.lacks_metadata.result c.lacks_metadata.ensures c.if-lacks_metadata.false c.in_ok-taken.taken tested c.make_room.new.metadata (g.D.Disk.state c.make_room.new.disk) c.make_room.ensures.flushes c.make_room.ensures.idle (g.D.Disk.state c.make_room.new.disk) refl

pub returns-in_err-zero_range-clause-flushes : goal.returns-in_err-zero_range-clause-flushes
returns-in_err-zero_range-clause-flushes g c there =
    let met = g.met.M.Metadata in
    let M = g.M.Metadata in
    let laws : Laws M.geometry M.stands M.marks M.room = record { within = met.within; honest = met.honest; left = met.left; frame = met.frame } in
    let old : Held g.row.M.Denot = record { disk = g.D.Disk.state c.self.inside.disk; metadata = c.self.inside.metadata; holders = c.self.inside.holders.items; mode = c.self.inside.mode } in
    let gm = M.geometry old.metadata in
    let tested = tested_by M.geometry M.stands M.marks old c.args.self.now c.self.view_is c.args.id c.args.sector c.args.count c.args.homes.now c.requires.homes c.requires.told
    (λ now n. (used now.volumes + blocks_wanted_by gm (WriteZeroes c.args.id c.args.sector c.args.count c.args.no_hole c.args.fua) c.args.id now.volumes (first_block gm c.args.sector) n ≤ gm.data_blocks)
    × (c.in_ok-taken.taken ≡ blocks_taken_by gm (WriteZeroes c.args.id c.args.sector c.args.count c.args.no_hole c.args.fua) c.args.id now.volumes (M.marks old.metadata) (first_block gm c.args.sector) n))
    (λ now kept st told. c.in_ok-taken.ensures.room old.disk now kept c.args.fua c.args.id st told) in
    zeroes_before laws c.args.id c.args.sector c.args.count c.args.no_hole c.args.fua c.requires.most c.args.self.now old c.self.view_is c.requires.works c.requires.lies there c.requires.some c.lacks_metadata.result c.lacks_metadata.ensures c.if-lacks_metadata.false c.in_ok-taken.taken tested c.make_room.new.metadata (g.D.Disk.state c.make_room.new.disk) c.make_room.ensures.flushes c.make_room.ensures.idle (g.D.Disk.state c.zero_range.new.disk) c.in_err-zero_range.ensures.ran.flushes

pub returns-then-not-fua-clause-flushes : goal.returns-then-not-fua-clause-flushes
returns-then-not-fua-clause-flushes g c there =
    let met = g.met.M.Metadata in
    let M = g.M.Metadata in
    let laws : Laws M.geometry M.stands M.marks M.room = record { within = met.within; honest = met.honest; left = met.left; frame = met.frame } in
    let old : Held g.row.M.Denot = record { disk = g.D.Disk.state c.self.inside.disk; metadata = c.self.inside.metadata; holders = c.self.inside.holders.items; mode = c.self.inside.mode } in
    let gm = M.geometry old.metadata in
    let tested = tested_by M.geometry M.stands M.marks old c.args.self.now c.self.view_is c.args.id c.args.sector c.args.count c.args.homes.now c.requires.homes c.requires.told
    (λ now n. (used now.volumes + blocks_wanted_by gm (WriteZeroes c.args.id c.args.sector c.args.count c.args.no_hole c.args.fua) c.args.id now.volumes (first_block gm c.args.sector) n ≤ gm.data_blocks)
    × (c.in_ok-taken.taken ≡ blocks_taken_by gm (WriteZeroes c.args.id c.args.sector c.args.count c.args.no_hole c.args.fua) c.args.id now.volumes (M.marks old.metadata) (first_block gm c.args.sector) n))
    (λ now kept st told. c.in_ok-taken.ensures.room old.disk now kept c.args.fua c.args.id st told) in
    zeroes_before laws c.args.id c.args.sector c.args.count c.args.no_hole c.args.fua c.requires.most c.args.self.now old c.self.view_is c.requires.works c.requires.lies there c.requires.some c.lacks_metadata.result c.lacks_metadata.ensures c.if-lacks_metadata.false c.in_ok-taken.taken tested c.make_room.new.metadata (g.D.Disk.state c.make_room.new.disk) c.make_room.ensures.flushes c.make_room.ensures.idle (g.D.Disk.state c.zero_range.new.disk) c.in_ok-zero_range.ensures.ran.flushes

pub returns-clause-flushes : goal.returns-clause-flushes
returns-clause-flushes g c there =
    let met = g.met.M.Metadata in
    let M = g.M.Metadata in
    let laws : Laws M.geometry M.stands M.marks M.room = record { within = met.within; honest = met.honest; left = met.left; frame = met.frame } in
    let old : Held g.row.M.Denot = record { disk = g.D.Disk.state c.self.inside.disk; metadata = c.self.inside.metadata; holders = c.self.inside.holders.items; mode = c.self.inside.mode } in
    let gm = M.geometry old.metadata in
    let tested = tested_by M.geometry M.stands M.marks old c.args.self.now c.self.view_is c.args.id c.args.sector c.args.count c.args.homes.now c.requires.homes c.requires.told
    (λ now n. (used now.volumes + blocks_wanted_by gm (WriteZeroes c.args.id c.args.sector c.args.count c.args.no_hole c.args.fua) c.args.id now.volumes (first_block gm c.args.sector) n ≤ gm.data_blocks)
    × (c.in_ok-taken.taken ≡ blocks_taken_by gm (WriteZeroes c.args.id c.args.sector c.args.count c.args.no_hole c.args.fua) c.args.id now.volumes (M.marks old.metadata) (first_block gm c.args.sector) n))
    (λ now kept st told. c.in_ok-taken.ensures.room old.disk now kept c.args.fua c.args.id st told) in
    zeroes_behind laws c.args.id c.args.sector c.args.count c.args.no_hole c.args.fua c.requires.most c.args.self.now old c.self.view_is c.requires.works c.requires.lies there c.requires.some c.lacks_metadata.result c.lacks_metadata.ensures c.if-lacks_metadata.false c.in_ok-taken.taken tested c.make_room.new.metadata (g.D.Disk.state c.make_room.new.disk) c.make_room.ensures.flushes c.make_room.ensures.idle (g.D.Disk.state c.zero_range.new.disk) (g.D.Disk.state c.keep.new.disk) c.if-not-fua.false c.in_ok-zero_range.ensures.ran.flushes c.keep.ensures.ran.flushes

pub returns-then-lacks_metadata-clause-changes : goal.returns-then-lacks_metadata-clause-changes
returns-then-lacks_metadata-clause-changes g c =
    changed_short g.M.Metadata.changed (WriteZeroes c.args.id c.args.sector c.args.count c.args.no_hole c.args.fua) c.args.self.now c.refuse_for_room.new.self c.args.self.now.metadata c.refuse_for_room.result c.refuse_for_room.ensures.ends c.refuse_for_room.ensures.unchanged

pub returns-in_err-taken-clause-changes : goal.returns-in_err-taken-clause-changes
returns-in_err-taken-clause-changes g c =
    let p = err_from_is_err_and c.from_residual.result c.from_residual.ensures.1 in
    let x = c.in_err-taken.field-0.0 in
    changed_read g.M.Metadata.changed c.args.self.now.metadata c.args.self.now.metadata (WriteZeroes c.args.id c.args.sector c.args.count c.args.no_hole c.args.fua) c.from_residual.result x p.0 p.1 (sym p.2) (tested_commits x (inr (inr c.in_err-taken.ensures.only))) refl

pub returns-in_err-make_room-clause-changes : goal.returns-in_err-make_room-clause-changes
returns-in_err-make_room-clause-changes g c =
    let p = err_from_is_err_and c.from_residual-in_err-make_room.result c.from_residual-in_err-make_room.ensures.1 in
    changed_failed g.M.Metadata.changed c.args.self.now.metadata c.make_room.new.metadata (WriteZeroes c.args.id c.args.sector c.args.count c.args.no_hole c.args.fua) c.from_residual-in_err-make_room.result c.in_err-make_room.field-0.0 p.0 p.1 (sym p.2) c.in_err-make_room.ensures.only

pub returns-in_err-zero_range-clause-changes : goal.returns-in_err-zero_range-clause-changes
returns-in_err-zero_range-clause-changes g c =
    let p = err_from_is_err_and c.from_residual-in_err-zero_range.result c.from_residual-in_err-zero_range.ensures.1 in
    changed_failed g.M.Metadata.changed c.args.self.now.metadata c.zero_range.new.metadata (WriteZeroes c.args.id c.args.sector c.args.count c.args.no_hole c.args.fua) c.from_residual-in_err-zero_range.result (refusal_of c.in_err-zero_range.field-0.0) p.0 p.1 (sym p.2) (refused_so c.in_err-zero_range.field-0.0)

pub returns-then-not-fua-clause-changes : goal.returns-then-not-fua-clause-changes
returns-then-not-fua-clause-changes g c =
    changed_done g.M.Metadata.changed c.args.self.now.metadata c.zero_range.new.metadata (WriteZeroes c.args.id c.args.sector c.args.count c.args.no_hole c.args.fua) (ap (λ (b : Bool). b && nat_lt 0 c.args.count) c.if-not-fua.true)

pub returns-clause-changes : goal.returns-clause-changes
returns-clause-changes g c =
    changed_kept g.M.Metadata.changed c.args.self.now.metadata c.keep.new.metadata (WriteZeroes c.args.id c.args.sector c.args.count c.args.no_hole c.args.fua) c.keep.result c.keep.ensures.unchanged c.keep.ensures.only
