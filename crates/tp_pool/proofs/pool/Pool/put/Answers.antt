use Rattle.std.proofs.Common.{Bool, ◌≡◌, ◌+◌, ◌/◌, ◌<◌, ◌≤◌, Err, inr, not, ap, arith, length, refl, subst, sym, ◌∙◌}
use Rattle.std.specs.Prelude.{IsSome, Result, nat_lt, ◌&&◌}
use Rattle.std.proofs.lemmas.Result.{err_from_is_err_and, on_ok_weaker}
use Rattle.tp_model.specs.declared.mode.Mode.TheVariants as mode
use Rattle.tp_model.specs.declared.refusal.Refusal.{Refusal}
use Rattle.tp_model.specs.Sectors.{sectors_of}
use Rattle.tp_model.specs.Calls.{Write}
use Rattle.tp_model.specs.Disk.{after_read}
use Rattle.tp_model.specs.Refusals.{is_fault_refusal, refusal_number}
use Rattle.tp_model.specs.declared.refusal.Refusal.TheVariants.{Damaged, NoDataSpace}
use Rattle.tp_model.proofs.DiskLaws.{length-sectors_of}
use Rattle.tp_sharing.specs.Volumes.{device_of, used}
use Rattle.tp_stored.specs.Contents.{Contents}
use Rattle.tp_shown.specs.Shown.{blocks_touched, blocks_wanted, first_block}
use Rattle.tp_counts.specs.declared.error.StoreError.{StoreError}
use Rattle.tp_counts.specs.StoreErrors.{refusal_of}
use Rattle.tp_counts.proofs.Refusing.{damaged_so, refused_so}
use Rattle.tp_pool.specs.Held.{Held, PoolTried, LiesIn}
use Rattle.tp_pool.specs.Writing.{LacksMetadata}
use Rattle.tp_pool.specs.Writing.{blocks_taken}
use Rattle.tp_pool.proofs.Calling.{Laws}
use Rattle.tp_pool.proofs.Rooms.{tested_by}
use Rattle.tp_pool.proofs.Create.{passes_room}
use Rattle.tp_pool.proofs.Putting.{put_short, put_tested, put_then_kept, put_unkept_done, put_unreclaimed, put_unwritten, values_are}
use Rattle.tp_pool.proofs.Serving.{exit_is}
use Rattle.tp_pool.proofs.Answering.{write_done, write_exit, write_failure, write_kept, write_short, write_tested}
use Rattle.tp_pool.proofs.Flushing.{changed_done, changed_failed, changed_kept, changed_read, changed_short, counted_nothing, counted_short, tested_commits, stays_kept, stays_unkept, write_before, write_behind}
use Rattle.std.proofs.lemmas.Bool.{lt-ltb}
use Rattle.tp_pool.proofs.pool.Pool.put.Goals as goal

-- no data block is free is not that the pool is damaged
full_no_damage : (x : Refusal) → x ≡ NoDataSpace → x ≡ Damaged → ⊥
full_no_damage x full damaged = absurd (omega (arith, ap refusal_number full, ap refusal_number damaged))

pub returns-then-lacks_metadata-clause-called : goal.returns-then-lacks_metadata-clause-called
returns-then-lacks_metadata-clause-called g c there_now =
    let met = g.met.M.Metadata in
    let laws : Laws g.M.Metadata.geometry g.M.Metadata.stands g.M.Metadata.marks g.M.Metadata.room =
    record { within = met.within; honest = met.honest; left = met.left; frame = met.frame } in
    let held = c.args.self.now in
    let xs = sectors_of c.args.bytes.now in
    let long : length xs ≡ length c.args.bytes.now / 512 = length-sectors_of c.args.bytes.now in
    let inside : LiesIn g.M.Metadata.geometry g.M.Metadata.stands held c.args.id (c.args.sector + length xs) = subst (λ n. LiesIn g.M.Metadata.geometry g.M.Metadata.stands held c.args.id (c.args.sector + n)) (sym long) c.requires.lies in
    let lacks : (now kept : Contents) → g.M.Metadata.stands held.metadata held.disk now kept → LacksMetadata (g.M.Metadata.geometry held.metadata) now =
    subst (λ (h : Held g.row.M.Denot). (now kept : Contents) → g.M.Metadata.stands h.metadata h.disk now kept
    → LacksMetadata (g.M.Metadata.geometry h.metadata) now) c.self.view_is
    (λ now kept st. (c.lacks_metadata.ensures (g.D.Disk.state c.self.inside.disk) now kept st).0 c.if-lacks_metadata.true) in
    c.refuse_for_room.ensures.called (Write c.args.id c.args.sector xs c.args.fua)
    (put_short laws c.args.id c.args.sector xs c.args.fua (omega (arith, c.requires.some, long)) held c.requires.works inside there_now lacks)

pub returns-in_err-taken-clause-called : goal.returns-in_err-taken-clause-called
returns-in_err-taken-clause-called g c there_now =
    let met = g.met.M.Metadata in
    let laws : Laws g.M.Metadata.geometry g.M.Metadata.stands g.M.Metadata.marks g.M.Metadata.room =
    record { within = met.within; honest = met.honest; left = met.left; frame = met.frame } in
    let e = c.self.view_is in
    let old : Held g.row.M.Denot = record { disk = g.D.Disk.state c.self.inside.disk; metadata = c.self.inside.metadata; holders = c.self.inside.holders.items; mode = c.self.inside.mode } in
    let xs = sectors_of c.args.bytes.now in
    let long : length xs ≡ length c.args.bytes.now / 512 = length-sectors_of c.args.bytes.now in
    let works : old.mode ≡ mode.Writable = ap (λ (h : Held g.row.M.Denot). h.mode) e ∙ c.requires.works in
    let range = subst (λ (h : Held g.row.M.Denot). LiesIn g.M.Metadata.geometry g.M.Metadata.stands h c.args.id (c.args.sector + length c.args.bytes.now / 512)) (sym e) c.requires.lies in
    let inside : LiesIn g.M.Metadata.geometry g.M.Metadata.stands old c.args.id (c.args.sector + length xs) = subst (λ n. LiesIn g.M.Metadata.geometry g.M.Metadata.stands old c.args.id (c.args.sector + n)) (sym long) range in
    let there = subst (λ (h : Held g.row.M.Denot). (now kept : Contents) → g.M.Metadata.stands h.metadata h.disk now kept → IsSome (device_of c.args.id now.volumes)) (sym e) there_now in
    let p = err_from_is_err_and c.from_residual.result c.from_residual.ensures.1 in
    let x = c.in_err-taken.field-0.0 in
    let gm = g.M.Metadata.geometry old.metadata in
    subst (λ (h : Held g.row.M.Denot). PoolTried g.M.Metadata.geometry g.M.Metadata.stands h h (Write c.args.id c.args.sector xs c.args.fua) c.from_residual.result) e
    (exit_is (λ (r : Result (Unit {0}) Refusal). PoolTried g.M.Metadata.geometry g.M.Metadata.stands old old (Write c.args.id c.args.sector xs c.args.fua) r) c.from_residual.result x p.0 p.1 (sym p.2)
    (put_tested laws c.args.id c.args.sector xs c.args.fua (omega (arith, c.requires.some, long)) old works inside there x (g.D.Disk.state c.self.inside.disk) (sym (ap (λ (r : Refusal). after_read (not (is_fault_refusal r)) old.disk) c.in_err-taken.ensures.only))
    (λ now kept st.
    passes_room (g.M.Metadata.geometry c.self.inside.metadata) now c.lacks_metadata.result
    (c.lacks_metadata.ensures (g.D.Disk.state c.self.inside.disk) now kept st) c.if-lacks_metadata.false)
    (λ is now kept st.
    subst (λ n. gm.data_blocks < used now.volumes + blocks_wanted c.args.id now.volumes (first_block gm c.args.sector) (blocks_touched gm c.args.sector n)) (sym long)
    (tested_by g.M.Metadata.geometry g.M.Metadata.stands g.M.Metadata.marks old c.args.self.now e c.args.id c.args.sector (length c.args.bytes.now / 512) c.args.homes.now c.requires.homes c.requires.told
    (λ now n. gm.data_blocks < used now.volumes + blocks_wanted c.args.id now.volumes (first_block gm c.args.sector) n)
    (λ now kept st told. c.in_err-taken.ensures.full (ap (λ (r : Refusal). Err r) is) old.disk now kept c.args.id (first_block gm c.args.sector) st told) now kept st))
    (λ is. absurd (full_no_damage x c.in_err-taken.ensures.only is)) (inr (inr c.in_err-taken.ensures.only))))

pub returns-in_err-make_room-clause-called : goal.returns-in_err-make_room-clause-called
returns-in_err-make_room-clause-called g c there_now =
    let met = g.met.M.Metadata in
    let laws : Laws g.M.Metadata.geometry g.M.Metadata.stands g.M.Metadata.marks g.M.Metadata.room =
    record { within = met.within; honest = met.honest; left = met.left; frame = met.frame } in
    let e = c.self.view_is in
    let old : Held g.row.M.Denot = record { disk = g.D.Disk.state c.self.inside.disk; metadata = c.self.inside.metadata; holders = c.self.inside.holders.items; mode = c.self.inside.mode } in
    let new : Held g.row.M.Denot = record old { disk = g.D.Disk.state c.make_room.new.disk; metadata = c.make_room.new.metadata } in
    let xs = sectors_of c.args.bytes.now in
    let long : length xs ≡ length c.args.bytes.now / 512 = length-sectors_of c.args.bytes.now in
    let works : old.mode ≡ mode.Writable = ap (λ (h : Held g.row.M.Denot). h.mode) e ∙ c.requires.works in
    let range = subst (λ (h : Held g.row.M.Denot). LiesIn g.M.Metadata.geometry g.M.Metadata.stands h c.args.id (c.args.sector + length c.args.bytes.now / 512)) (sym e) c.requires.lies in
    let inside : LiesIn g.M.Metadata.geometry g.M.Metadata.stands old c.args.id (c.args.sector + length xs) = subst (λ n. LiesIn g.M.Metadata.geometry g.M.Metadata.stands old c.args.id (c.args.sector + n)) (sym long) range in
    let there = subst (λ (h : Held g.row.M.Denot). (now kept : Contents) → g.M.Metadata.stands h.metadata h.disk now kept → IsSome (device_of c.args.id now.volumes)) (sym e) there_now in
    let gm = g.M.Metadata.geometry old.metadata in
    let tested = tested_by g.M.Metadata.geometry g.M.Metadata.stands g.M.Metadata.marks old c.args.self.now e c.args.id c.args.sector (length c.args.bytes.now / 512) c.args.homes.now c.requires.homes c.requires.told
    (λ now n. (used now.volumes + blocks_wanted c.args.id now.volumes (first_block (g.M.Metadata.geometry old.metadata) c.args.sector) n ≤ (g.M.Metadata.geometry old.metadata).data_blocks)
    × (c.in_ok-taken.taken ≡ blocks_taken c.args.id now.volumes (g.M.Metadata.marks old.metadata) (first_block (g.M.Metadata.geometry old.metadata) c.args.sector) n))
    (λ now kept st told. c.in_ok-taken.ensures.room old.disk now kept c.args.id (first_block (g.M.Metadata.geometry old.metadata) c.args.sector) st told) in
    let passed : (now kept : Contents) → g.M.Metadata.stands old.metadata old.disk now kept
    → (LacksMetadata gm now → ⊥) × (used now.volumes + blocks_wanted c.args.id now.volumes (first_block gm c.args.sector) (blocks_touched gm c.args.sector (length xs)) ≤ gm.data_blocks) =
    λ now kept st. (let t = tested now kept st in (
      passes_room (g.M.Metadata.geometry c.self.inside.metadata) now c.lacks_metadata.result
          (c.lacks_metadata.ensures (g.D.Disk.state c.self.inside.disk) now kept st) c.if-lacks_metadata.false,
      subst (λ n. used now.volumes + blocks_wanted c.args.id now.volumes (first_block gm c.args.sector) (blocks_touched gm c.args.sector n) ≤ gm.data_blocks) (sym long) t.0,
    )) in
    let p = err_from_is_err_and c.from_residual-in_err-make_room.result c.from_residual-in_err-make_room.ensures.1 in
    let x = c.in_err-make_room.field-0.0 in
    subst (λ (h : Held g.row.M.Denot). PoolTried g.M.Metadata.geometry g.M.Metadata.stands h new (Write c.args.id c.args.sector xs c.args.fua) c.from_residual-in_err-make_room.result) e
    (exit_is (λ (r : Result (Unit {0}) Refusal). PoolTried g.M.Metadata.geometry g.M.Metadata.stands old new (Write c.args.id c.args.sector xs c.args.fua) r) c.from_residual-in_err-make_room.result x p.0 p.1 (sym p.2)
    (put_unreclaimed laws c.args.id c.args.sector xs c.args.fua (omega (arith, c.requires.some, long)) old works inside there passed x c.make_room.new.metadata (g.D.Disk.state c.self.inside.disk) (g.D.Disk.state c.make_room.new.disk)
    refl c.make_room.ensures.geometry c.make_room.ensures.time c.in_err-make_room.ensures.cause c.make_room.ensures.left (λ is now kept st enough. c.in_err-make_room.ensures.damaged (ap (λ (r : Refusal). Err r) is) now kept st enough)
    c.in_err-make_room.ensures.only))

pub returns-in_err-put_blocks-clause-called : goal.returns-in_err-put_blocks-clause-called
returns-in_err-put_blocks-clause-called g c there_now =
    let met = g.met.M.Metadata in
    let laws : Laws g.M.Metadata.geometry g.M.Metadata.stands g.M.Metadata.marks g.M.Metadata.room =
    record { within = met.within; honest = met.honest; left = met.left; frame = met.frame } in
    let was : Held g.row.M.Denot = record { disk = g.D.Disk.state c.self.inside.disk; metadata = c.self.inside.metadata; holders = c.self.inside.holders.items; mode = c.self.inside.mode } in
    let bytes = c.args.bytes.now in
    let tested = tested_by g.M.Metadata.geometry g.M.Metadata.stands g.M.Metadata.marks was c.args.self.now c.self.view_is c.args.id c.args.sector (length bytes / 512) c.args.homes.now c.requires.homes c.requires.told
    (λ now n. (used now.volumes + blocks_wanted c.args.id now.volumes (first_block (g.M.Metadata.geometry was.metadata) c.args.sector) n ≤ (g.M.Metadata.geometry was.metadata).data_blocks)
    × (c.in_ok-taken.taken ≡ blocks_taken c.args.id now.volumes (g.M.Metadata.marks was.metadata) (first_block (g.M.Metadata.geometry was.metadata) c.args.sector) n))
    (λ now kept st told. c.in_ok-taken.ensures.room was.disk now kept c.args.id (first_block (g.M.Metadata.geometry was.metadata) c.args.sector) st told) in
    let p = err_from_is_err_and c.from_residual-in_err-put_blocks.result c.from_residual-in_err-put_blocks.ensures.1 in
    put_unwritten laws c.args.id c.args.sector (sectors_of bytes) c.args.fua (length bytes / 512) (length-sectors_of bytes) c.requires.some was c.args.self.now c.self.view_is c.requires.works c.requires.lies there_now
    (g.D.Disk.state c.self.inside.disk) refl
    c.lacks_metadata.result c.lacks_metadata.ensures c.if-lacks_metadata.false c.in_ok-taken.taken tested c.make_room.new.metadata (g.D.Disk.state c.make_room.new.disk) c.make_room.ensures.geometry c.make_room.ensures.time
    c.in_ok-make_room.ensures.cause c.make_room.ensures.left c.in_ok-make_room.ensures.done c.put_blocks.new.metadata (g.D.Disk.state c.put_blocks.new.disk) c.put_blocks.ensures.left
    (refusal_of c.in_err-put_blocks.field-0.0) p.0 c.from_residual-in_err-put_blocks.result p.1 (sym p.2) c.in_err-put_blocks.ensures.ran
    (λ is now kept st device free. c.in_err-put_blocks.ensures.damaged (ap (λ (r : StoreError). Err r) (damaged_so c.in_err-put_blocks.field-0.0 is)) now kept st device free) (refused_so c.in_err-put_blocks.field-0.0)

pub returns-then-not-fua-clause-called : goal.returns-then-not-fua-clause-called
returns-then-not-fua-clause-called g c there_now =
    let met = g.met.M.Metadata in
    let laws : Laws g.M.Metadata.geometry g.M.Metadata.stands g.M.Metadata.marks g.M.Metadata.room =
    record { within = met.within; honest = met.honest; left = met.left; frame = met.frame } in
    let was : Held g.row.M.Denot = record { disk = g.D.Disk.state c.self.inside.disk; metadata = c.self.inside.metadata; holders = c.self.inside.holders.items; mode = c.self.inside.mode } in
    let bytes = c.args.bytes.now in
    let tested = tested_by g.M.Metadata.geometry g.M.Metadata.stands g.M.Metadata.marks was c.args.self.now c.self.view_is c.args.id c.args.sector (length bytes / 512) c.args.homes.now c.requires.homes c.requires.told
    (λ now n. (used now.volumes + blocks_wanted c.args.id now.volumes (first_block (g.M.Metadata.geometry was.metadata) c.args.sector) n ≤ (g.M.Metadata.geometry was.metadata).data_blocks)
    × (c.in_ok-taken.taken ≡ blocks_taken c.args.id now.volumes (g.M.Metadata.marks was.metadata) (first_block (g.M.Metadata.geometry was.metadata) c.args.sector) n))
    (λ now kept st told. c.in_ok-taken.ensures.room was.disk now kept c.args.id (first_block (g.M.Metadata.geometry was.metadata) c.args.sector) st told) in
    put_unkept_done laws c.args.id c.args.sector (sectors_of bytes) c.args.fua (length bytes / 512) (length-sectors_of bytes) c.requires.some was c.args.self.now c.self.view_is c.requires.works c.requires.lies there_now
    (g.D.Disk.state c.self.inside.disk) refl
    c.lacks_metadata.result c.lacks_metadata.ensures c.if-lacks_metadata.false c.in_ok-taken.taken tested c.make_room.new.metadata (g.D.Disk.state c.make_room.new.disk) c.make_room.ensures.geometry c.make_room.ensures.time
    c.in_ok-make_room.ensures.cause c.make_room.ensures.left c.in_ok-make_room.ensures.done c.put_blocks.new.metadata (g.D.Disk.state c.put_blocks.new.disk) c.put_blocks.ensures.left
    c.in_ok-put_blocks.ensures.ran c.in_ok-make_room.ensures.room (λ now kept s st device has. c.in_ok-put_blocks.ensures.written now kept s st device has)
    (values_are bytes c.requires.whole c.requires.most) c.if-not-fua.true

pub returns-clause-called : goal.returns-clause-called
returns-clause-called g c there_now =
    let met = g.met.M.Metadata in
    let laws : Laws g.M.Metadata.geometry g.M.Metadata.stands g.M.Metadata.marks g.M.Metadata.room =
    record { within = met.within; honest = met.honest; left = met.left; frame = met.frame } in
    let was : Held g.row.M.Denot = record { disk = g.D.Disk.state c.self.inside.disk; metadata = c.self.inside.metadata; holders = c.self.inside.holders.items; mode = c.self.inside.mode } in
    let bytes = c.args.bytes.now in
    let tested = tested_by g.M.Metadata.geometry g.M.Metadata.stands g.M.Metadata.marks was c.args.self.now c.self.view_is c.args.id c.args.sector (length bytes / 512) c.args.homes.now c.requires.homes c.requires.told
    (λ now n. (used now.volumes + blocks_wanted c.args.id now.volumes (first_block (g.M.Metadata.geometry was.metadata) c.args.sector) n ≤ (g.M.Metadata.geometry was.metadata).data_blocks)
    × (c.in_ok-taken.taken ≡ blocks_taken c.args.id now.volumes (g.M.Metadata.marks was.metadata) (first_block (g.M.Metadata.geometry was.metadata) c.args.sector) n))
    (λ now kept st told. c.in_ok-taken.ensures.room was.disk now kept c.args.id (first_block (g.M.Metadata.geometry was.metadata) c.args.sector) st told) in
    put_then_kept laws c.args.id c.args.sector (sectors_of bytes) c.args.fua (length bytes / 512) (length-sectors_of bytes) c.requires.some was c.args.self.now c.self.view_is c.requires.works c.requires.lies there_now
    (g.D.Disk.state c.self.inside.disk) refl
    c.lacks_metadata.result c.lacks_metadata.ensures c.if-lacks_metadata.false c.in_ok-taken.taken tested c.make_room.new.metadata (g.D.Disk.state c.make_room.new.disk) c.make_room.ensures.geometry c.make_room.ensures.time
    c.in_ok-make_room.ensures.cause c.make_room.ensures.left c.in_ok-make_room.ensures.done c.put_blocks.new.metadata (g.D.Disk.state c.put_blocks.new.disk) c.put_blocks.ensures.left
    c.in_ok-put_blocks.ensures.ran c.in_ok-make_room.ensures.room (λ now kept s st device has. c.in_ok-put_blocks.ensures.written now kept s st device has)
    (values_are bytes c.requires.whole c.requires.most) c.keep.new.metadata (g.D.Disk.state c.keep.new.disk) c.keep.result c.keep.ensures.kept c.keep.ensures.left c.keep.ensures.only c.keep.ensures.geometry c.keep.ensures.ran.cause c.keep.ensures.ran.time

pub returns-then-lacks_metadata-clause-tried : goal.returns-then-lacks_metadata-clause-tried
returns-then-lacks_metadata-clause-tried g c = write_short c.args.self.now c.refuse_for_room.new.self c.requires.works c.args.id c.args.sector (sectors_of c.args.bytes.now) c.args.fua c.refuse_for_room.result c.refuse_for_room.ensures.ends

pub returns-in_err-taken-clause-tried : goal.returns-in_err-taken-clause-tried
returns-in_err-taken-clause-tried g c =
    let p = err_from_is_err_and c.from_residual.result c.from_residual.ensures.1 in
    let x = c.in_err-taken.field-0.0 in
    let new = c.args.self.now in
    write_exit c.args.self.now new c.requires.works c.args.id c.args.sector (sectors_of c.args.bytes.now) c.args.fua c.from_residual.result x p.0 refl p.1 (sym p.2) (write_tested c.args.self.now new c.requires.works c.args.id c.args.sector (sectors_of c.args.bytes.now) c.args.fua x (inr (inr c.in_err-taken.ensures.only)))

pub returns-in_err-make_room-clause-tried : goal.returns-in_err-make_room-clause-tried
returns-in_err-make_room-clause-tried g c =
    let p = err_from_is_err_and c.from_residual-in_err-make_room.result c.from_residual-in_err-make_room.ensures.1 in
    let x = c.in_err-make_room.field-0.0 in
    let new : Held g.row.M.Denot = record { disk = g.D.Disk.state c.make_room.new.disk; metadata = c.make_room.new.metadata; holders = c.self.inside.holders.items; mode = c.self.inside.mode } in
    write_exit c.args.self.now new c.requires.works c.args.id c.args.sector (sectors_of c.args.bytes.now) c.args.fua c.from_residual-in_err-make_room.result x p.0 (ap (λ (h : Held g.row.M.Denot). h.mode) c.self.view_is) p.1 (sym p.2) (write_failure c.args.self.now new c.requires.works c.args.id c.args.sector (sectors_of c.args.bytes.now) c.args.fua x c.in_err-make_room.ensures.only)

pub returns-in_err-put_blocks-clause-tried : goal.returns-in_err-put_blocks-clause-tried
returns-in_err-put_blocks-clause-tried g c =
    let p = err_from_is_err_and c.from_residual-in_err-put_blocks.result c.from_residual-in_err-put_blocks.ensures.1 in
    let x = refusal_of c.in_err-put_blocks.field-0.0 in
    let new : Held g.row.M.Denot = record { disk = g.D.Disk.state c.put_blocks.new.disk; metadata = c.put_blocks.new.metadata; holders = c.self.inside.holders.items; mode = c.self.inside.mode } in
    write_exit c.args.self.now new c.requires.works c.args.id c.args.sector (sectors_of c.args.bytes.now) c.args.fua c.from_residual-in_err-put_blocks.result x p.0 (ap (λ (h : Held g.row.M.Denot). h.mode) c.self.view_is) p.1 (sym p.2) (write_failure c.args.self.now new c.requires.works c.args.id c.args.sector (sectors_of c.args.bytes.now) c.args.fua x (refused_so c.in_err-put_blocks.field-0.0))

pub returns-then-not-fua-clause-tried : goal.returns-then-not-fua-clause-tried
returns-then-not-fua-clause-tried g c =
    let new : Held g.row.M.Denot = record { disk = g.D.Disk.state c.put_blocks.new.disk; metadata = c.put_blocks.new.metadata; holders = c.self.inside.holders.items; mode = c.self.inside.mode } in
    write_done c.args.self.now new c.requires.works c.args.id c.args.sector (sectors_of c.args.bytes.now) c.args.fua (ap (λ (h : Held g.row.M.Denot). h.mode) c.self.view_is)

pub returns-clause-tried : goal.returns-clause-tried
returns-clause-tried g c =
    let new : Held g.row.M.Denot = record { disk = g.D.Disk.state c.keep.new.disk; metadata = c.keep.new.metadata; holders = c.self.inside.holders.items; mode = c.self.inside.mode } in
    write_kept c.args.self.now new c.requires.works c.args.id c.args.sector (sectors_of c.args.bytes.now) c.args.fua c.keep.result (ap (λ (h : Held g.row.M.Denot). h.mode) c.self.view_is) c.keep.ensures.only

pub returns-then-lacks_metadata-clause-flushes : goal.returns-then-lacks_metadata-clause-flushes
returns-then-lacks_metadata-clause-flushes g c there_now =
    let met = g.met.M.Metadata in
    let laws : Laws g.M.Metadata.geometry g.M.Metadata.stands g.M.Metadata.marks g.M.Metadata.room = record { within = met.within; honest = met.honest; left = met.left; frame = met.frame } in
    let held = c.args.self.now in
    let xs = sectors_of c.args.bytes.now in
    let long : length xs ≡ length c.args.bytes.now / 512 = length-sectors_of c.args.bytes.now in
    let inside : LiesIn g.M.Metadata.geometry g.M.Metadata.stands held c.args.id (c.args.sector + length xs) = subst (λ n. LiesIn g.M.Metadata.geometry g.M.Metadata.stands held c.args.id (c.args.sector + n)) (sym long) c.requires.lies in
    let some : 0 < length xs = omega (arith, c.requires.some, long) in
    let lacks : (now kept : Contents) → g.M.Metadata.stands held.metadata held.disk now kept → LacksMetadata (g.M.Metadata.geometry held.metadata) now =
    subst (λ (h : Held g.row.M.Denot). (now kept : Contents) → g.M.Metadata.stands h.metadata h.disk now kept
    → LacksMetadata (g.M.Metadata.geometry h.metadata) now) c.self.view_is
    (λ now kept st. (c.lacks_metadata.ensures (g.D.Disk.state c.self.inside.disk) now kept st).0 c.if-lacks_metadata.true) in
    counted_short g.M.Metadata.geometry g.M.Metadata.stands g.M.Metadata.marks g.M.Metadata.room held (Write c.args.id c.args.sector xs c.args.fua) c.requires.works (lt-ltb 0 (length xs) some) c.refuse_for_room.new.self.disk
    (put_short laws c.args.id c.args.sector xs c.args.fua some held c.requires.works inside there_now lacks).refused c.refuse_for_room.ensures.flushes

pub returns-in_err-taken-clause-flushes : goal.returns-in_err-taken-clause-flushes
returns-in_err-taken-clause-flushes g c there_now =
    counted_nothing g.M.Metadata.geometry g.M.Metadata.stands g.M.Metadata.marks g.M.Metadata.room c.args.self.now c.args.self.now.disk (Write c.args.id c.args.sector (sectors_of c.args.bytes.now) c.args.fua) refl

pub returns-in_err-make_room-clause-flushes : goal.returns-in_err-make_room-clause-flushes
returns-in_err-make_room-clause-flushes g c there_now =
    let met = g.met.M.Metadata in
    let laws : Laws g.M.Metadata.geometry g.M.Metadata.stands g.M.Metadata.marks g.M.Metadata.room = record { within = met.within; honest = met.honest; left = met.left; frame = met.frame } in
    let was : Held g.row.M.Denot = record { disk = g.D.Disk.state c.self.inside.disk; metadata = c.self.inside.metadata; holders = c.self.inside.holders.items; mode = c.self.inside.mode } in
    let bytes = c.args.bytes.now in
    let tested = tested_by g.M.Metadata.geometry g.M.Metadata.stands g.M.Metadata.marks was c.args.self.now c.self.view_is c.args.id c.args.sector (length bytes / 512) c.args.homes.now c.requires.homes c.requires.told
    (λ now n. (used now.volumes + blocks_wanted c.args.id now.volumes (first_block (g.M.Metadata.geometry was.metadata) c.args.sector) n ≤ (g.M.Metadata.geometry was.metadata).data_blocks)
    × (c.in_ok-taken.taken ≡ blocks_taken c.args.id now.volumes (g.M.Metadata.marks was.metadata) (first_block (g.M.Metadata.geometry was.metadata) c.args.sector) n))
    (λ now kept st told. c.in_ok-taken.ensures.room was.disk now kept c.args.id (first_block (g.M.Metadata.geometry was.metadata) c.args.sector) st told) in
    write_before laws c.args.id c.args.sector (sectors_of bytes) c.args.fua (length bytes / 512) (length-sectors_of bytes) c.requires.some was c.args.self.now c.self.view_is c.requires.works c.requires.lies there_now
    (g.D.Disk.state c.self.inside.disk) refl c.lacks_metadata.result c.lacks_metadata.ensures c.if-lacks_metadata.false c.in_ok-taken.taken tested
    c.make_room.new.metadata (g.D.Disk.state c.make_room.new.disk) c.make_room.ensures.flushes c.make_room.ensures.idle (g.D.Disk.state c.make_room.new.disk) refl

pub returns-in_err-put_blocks-clause-flushes : goal.returns-in_err-put_blocks-clause-flushes
returns-in_err-put_blocks-clause-flushes g c there_now =
    let met = g.met.M.Metadata in
    let laws : Laws g.M.Metadata.geometry g.M.Metadata.stands g.M.Metadata.marks g.M.Metadata.room = record { within = met.within; honest = met.honest; left = met.left; frame = met.frame } in
    let was : Held g.row.M.Denot = record { disk = g.D.Disk.state c.self.inside.disk; metadata = c.self.inside.metadata; holders = c.self.inside.holders.items; mode = c.self.inside.mode } in
    let bytes = c.args.bytes.now in
    let tested = tested_by g.M.Metadata.geometry g.M.Metadata.stands g.M.Metadata.marks was c.args.self.now c.self.view_is c.args.id c.args.sector (length bytes / 512) c.args.homes.now c.requires.homes c.requires.told
    (λ now n. (used now.volumes + blocks_wanted c.args.id now.volumes (first_block (g.M.Metadata.geometry was.metadata) c.args.sector) n ≤ (g.M.Metadata.geometry was.metadata).data_blocks)
    × (c.in_ok-taken.taken ≡ blocks_taken c.args.id now.volumes (g.M.Metadata.marks was.metadata) (first_block (g.M.Metadata.geometry was.metadata) c.args.sector) n))
    (λ now kept st told. c.in_ok-taken.ensures.room was.disk now kept c.args.id (first_block (g.M.Metadata.geometry was.metadata) c.args.sector) st told) in
    write_before laws c.args.id c.args.sector (sectors_of bytes) c.args.fua (length bytes / 512) (length-sectors_of bytes) c.requires.some was c.args.self.now c.self.view_is c.requires.works c.requires.lies there_now
    (g.D.Disk.state c.self.inside.disk) refl c.lacks_metadata.result c.lacks_metadata.ensures c.if-lacks_metadata.false c.in_ok-taken.taken tested
    c.make_room.new.metadata (g.D.Disk.state c.make_room.new.disk) c.make_room.ensures.flushes c.make_room.ensures.idle (g.D.Disk.state c.put_blocks.new.disk) c.in_err-put_blocks.ensures.ran.flushes

pub returns-then-not-fua-clause-flushes : goal.returns-then-not-fua-clause-flushes
returns-then-not-fua-clause-flushes g c there_now =
    let met = g.met.M.Metadata in
    let laws : Laws g.M.Metadata.geometry g.M.Metadata.stands g.M.Metadata.marks g.M.Metadata.room = record { within = met.within; honest = met.honest; left = met.left; frame = met.frame } in
    let was : Held g.row.M.Denot = record { disk = g.D.Disk.state c.self.inside.disk; metadata = c.self.inside.metadata; holders = c.self.inside.holders.items; mode = c.self.inside.mode } in
    let bytes = c.args.bytes.now in
    let tested = tested_by g.M.Metadata.geometry g.M.Metadata.stands g.M.Metadata.marks was c.args.self.now c.self.view_is c.args.id c.args.sector (length bytes / 512) c.args.homes.now c.requires.homes c.requires.told
    (λ now n. (used now.volumes + blocks_wanted c.args.id now.volumes (first_block (g.M.Metadata.geometry was.metadata) c.args.sector) n ≤ (g.M.Metadata.geometry was.metadata).data_blocks)
    × (c.in_ok-taken.taken ≡ blocks_taken c.args.id now.volumes (g.M.Metadata.marks was.metadata) (first_block (g.M.Metadata.geometry was.metadata) c.args.sector) n))
    (λ now kept st told. c.in_ok-taken.ensures.room was.disk now kept c.args.id (first_block (g.M.Metadata.geometry was.metadata) c.args.sector) st told) in
    write_before laws c.args.id c.args.sector (sectors_of bytes) c.args.fua (length bytes / 512) (length-sectors_of bytes) c.requires.some was c.args.self.now c.self.view_is c.requires.works c.requires.lies there_now
    (g.D.Disk.state c.self.inside.disk) refl c.lacks_metadata.result c.lacks_metadata.ensures c.if-lacks_metadata.false c.in_ok-taken.taken tested
    c.make_room.new.metadata (g.D.Disk.state c.make_room.new.disk) c.make_room.ensures.flushes c.make_room.ensures.idle (g.D.Disk.state c.put_blocks.new.disk) c.in_ok-put_blocks.ensures.ran.flushes

pub returns-clause-flushes : goal.returns-clause-flushes
returns-clause-flushes g c there_now =
    let met = g.met.M.Metadata in
    let laws : Laws g.M.Metadata.geometry g.M.Metadata.stands g.M.Metadata.marks g.M.Metadata.room = record { within = met.within; honest = met.honest; left = met.left; frame = met.frame } in
    let was : Held g.row.M.Denot = record { disk = g.D.Disk.state c.self.inside.disk; metadata = c.self.inside.metadata; holders = c.self.inside.holders.items; mode = c.self.inside.mode } in
    let bytes = c.args.bytes.now in
    let tested = tested_by g.M.Metadata.geometry g.M.Metadata.stands g.M.Metadata.marks was c.args.self.now c.self.view_is c.args.id c.args.sector (length bytes / 512) c.args.homes.now c.requires.homes c.requires.told
    (λ now n. (used now.volumes + blocks_wanted c.args.id now.volumes (first_block (g.M.Metadata.geometry was.metadata) c.args.sector) n ≤ (g.M.Metadata.geometry was.metadata).data_blocks)
    × (c.in_ok-taken.taken ≡ blocks_taken c.args.id now.volumes (g.M.Metadata.marks was.metadata) (first_block (g.M.Metadata.geometry was.metadata) c.args.sector) n))
    (λ now kept st told. c.in_ok-taken.ensures.room was.disk now kept c.args.id (first_block (g.M.Metadata.geometry was.metadata) c.args.sector) st told) in
    write_behind laws c.args.id c.args.sector (sectors_of bytes) c.args.fua (length bytes / 512) (length-sectors_of bytes) c.requires.some was c.args.self.now c.self.view_is c.requires.works c.requires.lies there_now
    (g.D.Disk.state c.self.inside.disk) refl c.lacks_metadata.result c.lacks_metadata.ensures c.if-lacks_metadata.false c.in_ok-taken.taken tested
    c.make_room.new.metadata (g.D.Disk.state c.make_room.new.disk) c.make_room.ensures.flushes c.make_room.ensures.idle (g.D.Disk.state c.put_blocks.new.disk) (g.D.Disk.state c.keep.new.disk) c.if-not-fua.false c.in_ok-put_blocks.ensures.ran.flushes c.keep.ensures.ran.flushes

pub returns-then-lacks_metadata-clause-changes : goal.returns-then-lacks_metadata-clause-changes
returns-then-lacks_metadata-clause-changes g c =
    changed_short g.M.Metadata.changed (Write c.args.id c.args.sector (sectors_of c.args.bytes.now) c.args.fua) c.args.self.now c.refuse_for_room.new.self c.args.self.now.metadata c.refuse_for_room.result c.refuse_for_room.ensures.ends c.refuse_for_room.ensures.unchanged

pub returns-in_err-taken-clause-changes : goal.returns-in_err-taken-clause-changes
returns-in_err-taken-clause-changes g c =
    let p = err_from_is_err_and c.from_residual.result c.from_residual.ensures.1 in
    let x = c.in_err-taken.field-0.0 in
    changed_read g.M.Metadata.changed c.args.self.now.metadata c.args.self.now.metadata (Write c.args.id c.args.sector (sectors_of c.args.bytes.now) c.args.fua) c.from_residual.result x p.0 p.1 (sym p.2) (tested_commits x (inr (inr c.in_err-taken.ensures.only))) refl

pub returns-in_err-make_room-clause-changes : goal.returns-in_err-make_room-clause-changes
returns-in_err-make_room-clause-changes g c =
    let p = err_from_is_err_and c.from_residual-in_err-make_room.result c.from_residual-in_err-make_room.ensures.1 in
    changed_failed g.M.Metadata.changed c.args.self.now.metadata c.make_room.new.metadata (Write c.args.id c.args.sector (sectors_of c.args.bytes.now) c.args.fua) c.from_residual-in_err-make_room.result c.in_err-make_room.field-0.0 p.0 p.1 (sym p.2) c.in_err-make_room.ensures.only

pub returns-in_err-put_blocks-clause-changes : goal.returns-in_err-put_blocks-clause-changes
returns-in_err-put_blocks-clause-changes g c =
    let p = err_from_is_err_and c.from_residual-in_err-put_blocks.result c.from_residual-in_err-put_blocks.ensures.1 in
    changed_failed g.M.Metadata.changed c.args.self.now.metadata c.put_blocks.new.metadata (Write c.args.id c.args.sector (sectors_of c.args.bytes.now) c.args.fua) c.from_residual-in_err-put_blocks.result (refusal_of c.in_err-put_blocks.field-0.0) p.0 p.1 (sym p.2) (refused_so c.in_err-put_blocks.field-0.0)

pub returns-then-not-fua-clause-changes : goal.returns-then-not-fua-clause-changes
returns-then-not-fua-clause-changes g c =
    changed_done g.M.Metadata.changed c.args.self.now.metadata c.put_blocks.new.metadata (Write c.args.id c.args.sector (sectors_of c.args.bytes.now) c.args.fua) (ap (λ (b : Bool). b && nat_lt 0 (length (sectors_of c.args.bytes.now))) c.if-not-fua.true)

pub returns-clause-changes : goal.returns-clause-changes
returns-clause-changes g c =
    changed_kept g.M.Metadata.changed c.args.self.now.metadata c.keep.new.metadata (Write c.args.id c.args.sector (sectors_of c.args.bytes.now) c.args.fua) c.keep.result c.keep.ensures.unchanged c.keep.ensures.only

pub returns-then-not-fua-clause-in_place : goal.returns-then-not-fua-clause-in_place
returns-then-not-fua-clause-in_place g c there_now =
    let met = g.met.M.Metadata in
    let laws : Laws g.M.Metadata.geometry g.M.Metadata.stands g.M.Metadata.marks g.M.Metadata.room = record { within = met.within; honest = met.honest; left = met.left; frame = met.frame } in
    let was : Held g.row.M.Denot = record { disk = g.D.Disk.state c.self.inside.disk; metadata = c.self.inside.metadata; holders = c.self.inside.holders.items; mode = c.self.inside.mode } in
    let bytes = c.args.bytes.now in
    let tested = tested_by g.M.Metadata.geometry g.M.Metadata.stands g.M.Metadata.marks was c.args.self.now c.self.view_is c.args.id c.args.sector (length bytes / 512) c.args.homes.now c.requires.homes c.requires.told
    (λ now n. (used now.volumes + blocks_wanted c.args.id now.volumes (first_block (g.M.Metadata.geometry was.metadata) c.args.sector) n ≤ (g.M.Metadata.geometry was.metadata).data_blocks)
    × (c.in_ok-taken.taken ≡ blocks_taken c.args.id now.volumes (g.M.Metadata.marks was.metadata) (first_block (g.M.Metadata.geometry was.metadata) c.args.sector) n))
    (λ now kept st told. c.in_ok-taken.ensures.room was.disk now kept c.args.id (first_block (g.M.Metadata.geometry was.metadata) c.args.sector) st told) in
    stays_unkept laws c.args.id c.args.sector (sectors_of bytes) c.args.fua (length bytes / 512) (length-sectors_of bytes) c.requires.some was c.args.self.now c.self.view_is c.requires.works c.requires.lies there_now
    (g.D.Disk.state c.self.inside.disk) refl c.lacks_metadata.result c.lacks_metadata.ensures c.if-lacks_metadata.false c.in_ok-taken.taken tested
    c.make_room.new.metadata (g.D.Disk.state c.make_room.new.disk) c.make_room.ensures.flushes c.make_room.ensures.idle c.put_blocks.new.metadata (g.D.Disk.state c.put_blocks.new.disk) c.in_ok-put_blocks.ensures.ran.flushes
    c.in_ok-put_blocks.ensures.still g.M.Metadata.changed (record was { disk = g.D.Disk.state c.put_blocks.new.disk; metadata = c.put_blocks.new.metadata })
    c.if-not-fua.true refl refl

pub returns-clause-in_place : goal.returns-clause-in_place
returns-clause-in_place g c there_now =
    on_ok_weaker c.keep.result
    (λ more.
    let met = g.met.M.Metadata in
    let laws : Laws g.M.Metadata.geometry g.M.Metadata.stands g.M.Metadata.marks g.M.Metadata.room = record { within = met.within; honest = met.honest; left = met.left; frame = met.frame } in
    let was : Held g.row.M.Denot = record { disk = g.D.Disk.state c.self.inside.disk; metadata = c.self.inside.metadata; holders = c.self.inside.holders.items; mode = c.self.inside.mode } in
    let bytes = c.args.bytes.now in
    let tested = tested_by g.M.Metadata.geometry g.M.Metadata.stands g.M.Metadata.marks was c.args.self.now c.self.view_is c.args.id c.args.sector (length bytes / 512) c.args.homes.now c.requires.homes c.requires.told
    (λ now n. (used now.volumes + blocks_wanted c.args.id now.volumes (first_block (g.M.Metadata.geometry was.metadata) c.args.sector) n ≤ (g.M.Metadata.geometry was.metadata).data_blocks)
    × (c.in_ok-taken.taken ≡ blocks_taken c.args.id now.volumes (g.M.Metadata.marks was.metadata) (first_block (g.M.Metadata.geometry was.metadata) c.args.sector) n))
    (λ now kept st told. c.in_ok-taken.ensures.room was.disk now kept c.args.id (first_block (g.M.Metadata.geometry was.metadata) c.args.sector) st told) in
    stays_kept laws c.args.id c.args.sector (sectors_of bytes) c.args.fua (length bytes / 512) (length-sectors_of bytes) c.requires.some was c.args.self.now c.self.view_is c.requires.works c.requires.lies there_now
    (g.D.Disk.state c.self.inside.disk) refl c.lacks_metadata.result c.lacks_metadata.ensures c.if-lacks_metadata.false c.in_ok-taken.taken tested
    c.make_room.new.metadata (g.D.Disk.state c.make_room.new.disk) c.make_room.ensures.flushes c.make_room.ensures.idle c.put_blocks.new.metadata (g.D.Disk.state c.put_blocks.new.disk) c.in_ok-put_blocks.ensures.ran.flushes
    c.in_ok-put_blocks.ensures.still g.M.Metadata.changed (record was { disk = g.D.Disk.state c.keep.new.disk; metadata = c.keep.new.metadata }) c.if-not-fua.false more)
    c.keep.ensures.ran.flushed
