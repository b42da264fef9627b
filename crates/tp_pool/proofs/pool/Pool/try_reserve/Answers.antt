use Rattle.std.proofs.Common.{ap, refl, subst, sym, inl, inr, ◌≡◌, ◌∙◌, ◌+◌, ◌≤◌, false, Err, Ok}
use Rattle.std.specs.Prelude.{Result}
use Rattle.std.proofs.lemmas.Result.{err_from_is_err_and}
use Rattle.tp_model.specs.declared.refusal.Refusal.{Refusal}
use Rattle.tp_model.specs.declared.refusal.Refusal.TheVariants.{HeldRootExists}
use Rattle.tp_counts.specs.declared.error.StoreError.{StoreError}
use Rattle.tp_counts.specs.StoreErrors.{refusal_of}
use Rattle.tp_counts.proofs.Refusing.{damaged_so, refused_so}
use Rattle.tp_model.specs.Geometry.{Geometry, sectors_of_image}
use Rattle.tp_model.specs.Calls.{Call, Refused, ReserveMetadataSnap, is_failed, is_read_only}
use Rattle.tp_stored.specs.Contents.{Contents}
use Rattle.tp_pool.specs.Flushes.{HasFlushed}
use Rattle.tp_pool.specs.Held.{Held, IsTried, LacksRoom, PoolCalled, PoolRefused, PoolTried, failed_by}
use Rattle.tp_pool.proofs.Calling.{Laws}
use Rattle.tp_pool.proofs.Flushing.{changed_failed, changed_short, counted_nothing}
use Rattle.tp_pool.proofs.Putting.{writable_is}
use Rattle.tp_pool.proofs.Reserving.{reserve_accepted, reserve_exists, reserve_flushed_short, reserve_read_only_called, reserve_refused, reserve_snapped, reserve_snaps}
use Rattle.tp_pool.proofs.Rooms.{a_root, no_root}
use Rattle.tp_pool.proofs.Serving.{exit_is}
use Rattle.tp_pool.proofs.Snapping.{snap_broken, snap_fails, snap_kept, snap_read_only, snap_refused, snap_short, snap_unkept}
use Rattle.tp_pool.specs.Unkept.{IsUnkept, PoolBegun}
use Rattle.tp_pool.proofs.Begun.{begun_short, left_of}
use Rattle.tp_pool.proofs.pool.Pool.try_reserve.Goals as goal

pub returns-then-is_read_only-clause-called : goal.returns-then-is_read_only-clause-called
returns-then-is_read_only-clause-called g c =
    let M = g.M.Metadata in
    let met = g.met.M.Metadata in
    let laws : Laws M.geometry M.stands M.marks M.room = record { within = met.within; honest = met.honest; left = met.left; frame = met.frame } in
    reserve_read_only_called laws c.args.self.now c.requires.works (sym (ap (λ (h : Held g.row.M.Denot). is_read_only h.mode) c.self.view_is) ∙ sym c.is_read_only.ensures ∙ c.if-is_read_only.true)

pub returns-then-holds_root-clause-called : goal.returns-then-holds_root-clause-called
returns-then-holds_root-clause-called g c =
    let M = g.M.Metadata in
    let met = g.met.M.Metadata in
    let laws : Laws M.geometry M.stands M.marks M.room = record { within = met.within; honest = met.honest; left = met.left; frame = met.frame } in
    let old : Held g.row.M.Denot = record { disk = g.D.Disk.state c.self.inside.disk; metadata = c.self.inside.metadata; holders = c.self.inside.holders.items; mode = c.self.inside.mode } in
    let writes : is_read_only old.mode ≡ false = sym c.is_read_only.ensures ∙ c.if-is_read_only.false in
    let works = writable_is old.mode (ap (λ (h : Held g.row.M.Denot). is_failed h.mode) c.self.view_is ∙ c.requires.works) writes in
    subst (λ (h : Held g.row.M.Denot). PoolCalled M.geometry M.stands h h ReserveMetadataSnap (Refused HeldRootExists)) c.self.view_is
    (reserve_exists laws old works (λ now kept st. a_root now.held_root (sym (c.holds_root.ensures old.disk now kept st) ∙ c.if-holds_root.true)))

pub returns-then-lacks_metadata-clause-called : goal.returns-then-lacks_metadata-clause-called
returns-then-lacks_metadata-clause-called g c =
    let M = g.M.Metadata in
    let met = g.met.M.Metadata in
    let laws : Laws M.geometry M.stands M.marks M.room = record { within = met.within; honest = met.honest; left = met.left; frame = met.frame } in
    let old : Held g.row.M.Denot = record { disk = g.D.Disk.state c.self.inside.disk; metadata = c.self.inside.metadata; holders = c.self.inside.holders.items; mode = c.self.inside.mode } in
    let writes : is_read_only old.mode ≡ false = sym c.is_read_only.ensures ∙ c.if-is_read_only.false in
    let works = writable_is old.mode (ap (λ (h : Held g.row.M.Denot). is_failed h.mode) c.self.view_is ∙ c.requires.works) writes in
    let none : (now kept : Contents) → M.stands old.metadata old.disk now kept → now.held_root ≡ 0 =
    λ now kept st. no_root now.held_root (sym (c.holds_root.ensures old.disk now kept st) ∙ c.if-holds_root.false) in
    let new = c.refuse_for_room.new.self in
    let result = c.refuse_for_room.result in
    begun_short M.geometry M.stands M.marks M.room M.changed c.args.self.now c.args.self.now new ReserveMetadataSnap result c.refuse_for_room.ensures.ends
    (subst (λ (h : Held g.row.M.Denot). PoolTried M.geometry M.stands h new ReserveMetadataSnap result) c.self.view_is
    (reserve_refused laws old works none c.lacks_metadata.result c.lacks_metadata.ensures new result c.if-lacks_metadata.true
    (subst (λ (h : Held g.row.M.Denot). (any : Call) → LacksRoom M.geometry M.stands h any → PoolTried M.geometry M.stands h new any result) (sym c.self.view_is) c.refuse_for_room.ensures.called)))

pub returns-in_err-reserve-clause-called : goal.returns-in_err-reserve-clause-called
returns-in_err-reserve-clause-called g c =
    let M = g.M.Metadata in
    let met = g.met.M.Metadata in
    let laws : Laws M.geometry M.stands M.marks M.room = record { within = met.within; honest = met.honest; left = met.left; frame = met.frame } in
    let old : Held g.row.M.Denot = record { disk = g.D.Disk.state c.self.inside.disk; metadata = c.self.inside.metadata; holders = c.self.inside.holders.items; mode = c.self.inside.mode } in
    let writes : is_read_only old.mode ≡ false = sym c.is_read_only.ensures ∙ c.if-is_read_only.false in
    let works = writable_is old.mode (ap (λ (h : Held g.row.M.Denot). is_failed h.mode) c.self.view_is ∙ c.requires.works) writes in
    let altered = c.in_err-reserve.ensures.altered old.disk in
    let p = err_from_is_err_and c.from_residual.result c.from_residual.ensures.1 in
    let error = c.in_err-reserve.field-0.0 in
    let x = refusal_of error in
    let new : Held g.row.M.Denot = record old { metadata = c.reserve.new.self } in
    exit_is (λ (r : Result (Unit {0}) Refusal). PoolBegun M.geometry M.stands M.marks M.room M.changed c.args.self.now new ReserveMetadataSnap r) c.from_residual.result x p.0 p.1 (sym p.2)
    (subst (λ (h : Held g.row.M.Denot). PoolRefused M.geometry M.stands h (failed_by x new) ReserveMetadataSnap x) c.self.view_is
    (snap_broken laws ReserveMetadataSnap reserve_snaps old works c.reserve.new.self old.disk altered.ran.geometry altered.ran.time altered.changing x altered.ran.cause
    (λ e s now kept pool. altered.damaged (ap (λ (r : StoreError). Err r) (damaged_so error e)) now kept pool.standing
    (no_root now.held_root (sym (c.holds_root.ensures old.disk now kept pool.standing) ∙ c.if-holds_root.false))) (refused_so error)))

pub returns-clause-called : goal.returns-clause-called
returns-clause-called g c =
    let M = g.M.Metadata in
    let met = g.met.M.Metadata in
    let laws : Laws M.geometry M.stands M.marks M.room = record { within = met.within; honest = met.honest; left = met.left; frame = met.frame } in
    let old : Held g.row.M.Denot = record { disk = g.D.Disk.state c.self.inside.disk; metadata = c.self.inside.metadata; holders = c.self.inside.holders.items; mode = c.self.inside.mode } in
    let writes : is_read_only old.mode ≡ false = sym c.is_read_only.ensures ∙ c.if-is_read_only.false in
    let works = writable_is old.mode (ap (λ (h : Held g.row.M.Denot). is_failed h.mode) c.self.view_is ∙ c.requires.works) writes in
    let none : (now kept : Contents) → M.stands old.metadata old.disk now kept → now.held_root ≡ 0 =
    λ now kept st. no_root now.held_root (sym (c.holds_root.ensures old.disk now kept st) ∙ c.if-holds_root.false) in
    let altered = c.in_ok-reserve.ensures.altered old.disk in
    let accepted = reserve_accepted laws old works none c.lacks_metadata.result c.lacks_metadata.ensures c.if-lacks_metadata.false in
    let snapped = reserve_snapped laws old works none c.reserve.new.self altered.ran.geometry altered.ran.time altered.changing altered.made in
    let new : Held g.row.M.Denot = record old { metadata = c.reserve.new.self } in
    subst (λ (h : Held g.row.M.Denot). IsUnkept M.geometry M.stands M.marks M.room M.changed h new ReserveMetadataSnap) c.self.view_is
    (snap_unkept laws ReserveMetadataSnap reserve_snaps old works c.reserve.new.self old.disk altered.ran.geometry altered.ran.time altered.changing altered.ran.cause accepted snapped M.changed refl)

pub returns-then-is_read_only-clause-tried : goal.returns-then-is_read_only-clause-tried
returns-then-is_read_only-clause-tried g c =
    snap_read_only ReserveMetadataSnap reserve_snaps c.args.self.now (sym (ap (λ (h : Held g.row.M.Denot). is_read_only h.mode) c.self.view_is) ∙ sym c.is_read_only.ensures ∙ c.if-is_read_only.true)

pub returns-then-holds_root-clause-tried : goal.returns-then-holds_root-clause-tried
returns-then-holds_root-clause-tried g c =
    let old : Held g.row.M.Denot = record { disk = g.D.Disk.state c.self.inside.disk; metadata = c.self.inside.metadata; holders = c.self.inside.holders.items; mode = c.self.inside.mode } in
    let writes : is_read_only old.mode ≡ false = sym c.is_read_only.ensures ∙ c.if-is_read_only.false in
    let works = writable_is old.mode (ap (λ (h : Held g.row.M.Denot). is_failed h.mode) c.self.view_is ∙ c.requires.works) writes in
    subst (λ (h : Held g.row.M.Denot). IsTried h h ReserveMetadataSnap (Err HeldRootExists)) c.self.view_is (snap_refused ReserveMetadataSnap reserve_snaps old old works HeldRootExists refl (inl refl) refl)

pub returns-then-lacks_metadata-clause-tried : goal.returns-then-lacks_metadata-clause-tried
returns-then-lacks_metadata-clause-tried g c =
    let writes : is_read_only c.args.self.now.mode ≡ false = sym (ap (λ (h : Held g.row.M.Denot). is_read_only h.mode) c.self.view_is) ∙ sym c.is_read_only.ensures ∙ c.if-is_read_only.false in
    let works = writable_is c.args.self.now.mode c.requires.works writes in
    snap_short ReserveMetadataSnap reserve_snaps c.args.self.now c.refuse_for_room.new.self works (inr (inl refl)) c.refuse_for_room.result c.refuse_for_room.ensures.ends

pub returns-in_err-reserve-clause-tried : goal.returns-in_err-reserve-clause-tried
returns-in_err-reserve-clause-tried g c =
    let writes : is_read_only c.args.self.now.mode ≡ false = sym (ap (λ (h : Held g.row.M.Denot). is_read_only h.mode) c.self.view_is) ∙ sym c.is_read_only.ensures ∙ c.if-is_read_only.false in
    let works = writable_is c.args.self.now.mode c.requires.works writes in
    let p = err_from_is_err_and c.from_residual.result c.from_residual.ensures.1 in
    let error = c.in_err-reserve.field-0.0 in
    let new : Held g.row.M.Denot = record { disk = g.D.Disk.state c.self.inside.disk; metadata = c.reserve.new.self; holders = c.self.inside.holders.items; mode = c.self.inside.mode } in
    exit_is (λ (r : Result (Unit {0}) Refusal). IsTried c.args.self.now new ReserveMetadataSnap r) c.from_residual.result (refusal_of error) p.0 p.1 (sym p.2)
    (snap_fails ReserveMetadataSnap reserve_snaps c.args.self.now new works (refusal_of error) (ap (λ (h : Held g.row.M.Denot). h.mode) c.self.view_is) (refused_so error))

pub returns-clause-tried : goal.returns-clause-tried
returns-clause-tried g c =
    let writes : is_read_only c.args.self.now.mode ≡ false = sym (ap (λ (h : Held g.row.M.Denot). is_read_only h.mode) c.self.view_is) ∙ sym c.is_read_only.ensures ∙ c.if-is_read_only.false in
    let works = writable_is c.args.self.now.mode c.requires.works writes in
    let new : Held g.row.M.Denot = record { disk = g.D.Disk.state c.self.inside.disk; metadata = c.reserve.new.self; holders = c.self.inside.holders.items; mode = c.self.inside.mode } in
    snap_kept ReserveMetadataSnap reserve_snaps c.args.self.now new works (Ok tt) (ap (λ (h : Held g.row.M.Denot). h.mode) c.self.view_is) tt

pub returns-then-is_read_only-clause-flushes : goal.returns-then-is_read_only-clause-flushes
returns-then-is_read_only-clause-flushes g c =
    counted_nothing g.M.Metadata.geometry g.M.Metadata.stands g.M.Metadata.marks g.M.Metadata.room c.args.self.now c.args.self.now.disk ReserveMetadataSnap refl

pub returns-then-lacks_metadata-clause-flushes : goal.returns-then-lacks_metadata-clause-flushes
returns-then-lacks_metadata-clause-flushes g c =
    let M = g.M.Metadata in
    let met = g.met.M.Metadata in
    let laws : Laws M.geometry M.stands M.marks M.room = record { within = met.within; honest = met.honest; left = met.left; frame = met.frame } in
    let old : Held g.row.M.Denot = record { disk = g.D.Disk.state c.self.inside.disk; metadata = c.self.inside.metadata; holders = c.self.inside.holders.items; mode = c.self.inside.mode } in
    let writes : is_read_only old.mode ≡ false = sym c.is_read_only.ensures ∙ c.if-is_read_only.false in
    let works = writable_is old.mode (ap (λ (h : Held g.row.M.Denot). is_failed h.mode) c.self.view_is ∙ c.requires.works) writes in
    let none : (now kept : Contents) → M.stands old.metadata old.disk now kept → now.held_root ≡ 0 =
    λ now kept st. no_root now.held_root (sym (c.holds_root.ensures old.disk now kept st) ∙ c.if-holds_root.false) in
    let new = c.refuse_for_room.new.self.disk in
    subst (λ (h : Held g.row.M.Denot). HasFlushed M.geometry M.stands M.marks M.room h new ReserveMetadataSnap) c.self.view_is
    (reserve_flushed_short laws old works none c.lacks_metadata.result c.lacks_metadata.ensures new c.if-lacks_metadata.true
    (subst (λ (h : Held g.row.M.Denot). (h.disk.flushes ≤ new.flushes) × (new.flushes ≤ h.disk.flushes + 2)) (sym c.self.view_is) c.refuse_for_room.ensures.flushes))

pub returns-in_err-reserve-clause-flushes : goal.returns-in_err-reserve-clause-flushes
returns-in_err-reserve-clause-flushes g c =
    counted_nothing g.M.Metadata.geometry g.M.Metadata.stands g.M.Metadata.marks g.M.Metadata.room c.args.self.now (g.D.Disk.state c.self.inside.disk) ReserveMetadataSnap (ap (λ (h : Held g.row.M.Denot). h.disk.flushes) c.self.view_is)

pub returns-clause-flushes : goal.returns-clause-flushes
returns-clause-flushes g c =
    counted_nothing g.M.Metadata.geometry g.M.Metadata.stands g.M.Metadata.marks g.M.Metadata.room c.args.self.now (g.D.Disk.state c.self.inside.disk) ReserveMetadataSnap (ap (λ (h : Held g.row.M.Denot). h.disk.flushes) c.self.view_is)

pub returns-then-lacks_metadata-clause-changes : goal.returns-then-lacks_metadata-clause-changes
returns-then-lacks_metadata-clause-changes g c =
    left_of g.M.Metadata.changed c.args.self.now.metadata c.refuse_for_room.new.self.metadata ReserveMetadataSnap c.refuse_for_room.result
    (changed_short g.M.Metadata.changed ReserveMetadataSnap c.args.self.now c.refuse_for_room.new.self c.args.self.now.metadata c.refuse_for_room.result c.refuse_for_room.ensures.ends c.refuse_for_room.ensures.unchanged)

pub returns-in_err-reserve-clause-changes : goal.returns-in_err-reserve-clause-changes
returns-in_err-reserve-clause-changes g c =
    let p = err_from_is_err_and c.from_residual.result c.from_residual.ensures.1 in
    let error = c.in_err-reserve.field-0.0 in
    left_of g.M.Metadata.changed c.args.self.now.metadata c.reserve.new.self ReserveMetadataSnap c.from_residual.result
    (changed_failed g.M.Metadata.changed c.args.self.now.metadata c.reserve.new.self ReserveMetadataSnap c.from_residual.result (refusal_of error) p.0 p.1 (sym p.2) (refused_so error))

pub returns-clause-changes : goal.returns-clause-changes
returns-clause-changes g c = record { committed = tt; unchanged = tt }

pub invariant_of-self : goal.invariant_of-self
invariant_of-self g c =
    let at = g.D.Disk.state c.self.inside.disk in
    let same = (c.in_err-reserve.ensures.altered at).ran.geometry in
    (c.self.invariant.0 ∙ sym same, subst (λ (k : Geometry). sectors_of_image k ≤ at.size) (sym same) c.self.invariant.1)

pub invariant_of-self-2 : goal.invariant_of-self-2
invariant_of-self-2 g c =
    let at = g.D.Disk.state c.self.inside.disk in
    let same = (c.in_ok-reserve.ensures.altered at).ran.geometry in
    (c.self.invariant.0 ∙ sym same, subst (λ (k : Geometry). sectors_of_image k ≤ at.size) (sym same) c.self.invariant.1)

pub returns-in_err-reserve-clause-geometry : goal.returns-in_err-reserve-clause-geometry
returns-in_err-reserve-clause-geometry g c =
    (c.in_err-reserve.ensures.altered (g.D.Disk.state c.self.inside.disk)).ran.geometry ∙ ap (λ (h : Held g.row.M.Denot). g.M.Metadata.geometry h.metadata) c.self.view_is

pub returns-clause-geometry : goal.returns-clause-geometry
returns-clause-geometry g c =
    (c.in_ok-reserve.ensures.altered (g.D.Disk.state c.self.inside.disk)).ran.geometry ∙ ap (λ (h : Held g.row.M.Denot). g.M.Metadata.geometry h.metadata) c.self.view_is
