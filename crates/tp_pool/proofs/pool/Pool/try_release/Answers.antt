use Rattle.std.proofs.Common.{ap, refl, subst, sym, inl, ◌≡◌, ◌∙◌, ◌<◌, false, Err, Ok}
use Rattle.std.specs.Prelude.{Result}
use Rattle.std.proofs.lemmas.Result.{err_from_is_err_and}
use Rattle.tp_model.specs.declared.refusal.Refusal.{Refusal}
use Rattle.tp_model.specs.declared.refusal.Refusal.TheVariants.{NoHeldRoot}
use Rattle.tp_counts.specs.declared.error.StoreError.{StoreError}
use Rattle.tp_counts.specs.StoreErrors.{refusal_of}
use Rattle.tp_counts.proofs.Refusing.{damaged_so, refused_so}
use Rattle.tp_model.specs.Calls.{Refused, ReleaseMetadataSnap, is_failed, is_read_only}
use Rattle.tp_stored.specs.Contents.{Contents}
use Rattle.tp_pool.specs.Held.{Held, IsTried, PoolCalled, PoolRefused, failed_by}
use Rattle.tp_pool.proofs.Calling.{Laws}
use Rattle.tp_pool.proofs.Flushing.{changed_failed, counted_nothing}
use Rattle.tp_pool.proofs.Putting.{writable_is}
use Rattle.tp_pool.proofs.Reserving.{release_accepted, release_missing, release_read_only_called, release_snapped, release_snaps}
use Rattle.tp_pool.proofs.Rooms.{a_root, no_root}
use Rattle.tp_pool.proofs.Serving.{exit_is}
use Rattle.tp_pool.proofs.Snapping.{snap_broken, snap_fails, snap_kept, snap_read_only, snap_refused, snap_unkept}
use Rattle.tp_pool.specs.Unkept.{IsUnkept, PoolBegun}
use Rattle.tp_pool.proofs.Begun.{left_of}
use Rattle.tp_pool.proofs.pool.Pool.try_release.Goals as goal

pub returns-then-is_read_only-clause-called : goal.returns-then-is_read_only-clause-called
returns-then-is_read_only-clause-called g c =
    let M = g.M.Metadata in
    let met = g.met.M.Metadata in
    let laws : Laws M.geometry M.stands M.marks M.room = record { within = met.within; honest = met.honest; left = met.left; frame = met.frame } in
    release_read_only_called laws c.args.self.now c.requires.works (sym (ap (λ (h : Held g.row.M.Denot). is_read_only h.mode) c.self.view_is) ∙ sym c.is_read_only.ensures ∙ c.if-is_read_only.true)

pub returns-then-not-holds_root-clause-called : goal.returns-then-not-holds_root-clause-called
returns-then-not-holds_root-clause-called g c =
    let M = g.M.Metadata in
    let met = g.met.M.Metadata in
    let laws : Laws M.geometry M.stands M.marks M.room = record { within = met.within; honest = met.honest; left = met.left; frame = met.frame } in
    let old : Held g.row.M.Denot = record { disk = g.D.Disk.state c.self.inside.disk; metadata = c.self.inside.metadata; holders = c.self.inside.holders.items; mode = c.self.inside.mode } in
    let writes : is_read_only old.mode ≡ false = sym c.is_read_only.ensures ∙ c.if-is_read_only.false in
    let works = writable_is old.mode (ap (λ (h : Held g.row.M.Denot). is_failed h.mode) c.self.view_is ∙ c.requires.works) writes in
    subst (λ (h : Held g.row.M.Denot). PoolCalled M.geometry M.stands h h ReleaseMetadataSnap (Refused NoHeldRoot)) c.self.view_is
    (release_missing laws old works (λ now kept st. no_root now.held_root (sym (c.holds_root.ensures old.disk now kept st) ∙ c.if-not-holds_root.true)))

pub returns-in_err-release-clause-called : goal.returns-in_err-release-clause-called
returns-in_err-release-clause-called g c =
    let M = g.M.Metadata in
    let met = g.met.M.Metadata in
    let laws : Laws M.geometry M.stands M.marks M.room = record { within = met.within; honest = met.honest; left = met.left; frame = met.frame } in
    let old : Held g.row.M.Denot = record { disk = g.D.Disk.state c.self.inside.disk; metadata = c.self.inside.metadata; holders = c.self.inside.holders.items; mode = c.self.inside.mode } in
    let writes : is_read_only old.mode ≡ false = sym c.is_read_only.ensures ∙ c.if-is_read_only.false in
    let works = writable_is old.mode (ap (λ (h : Held g.row.M.Denot). is_failed h.mode) c.self.view_is ∙ c.requires.works) writes in
    let altered = c.in_err-release.ensures.altered in
    let last = g.D.Disk.state c.release.new.disk in
    let p = err_from_is_err_and c.from_residual.result c.from_residual.ensures.1 in
    let error = c.in_err-release.field-0.0 in
    let x = refusal_of error in
    let new : Held g.row.M.Denot = record old { disk = last; metadata = c.release.new.self } in
    exit_is (λ (r : Result (Unit {0}) Refusal). PoolBegun M.geometry M.stands M.marks M.room M.changed c.args.self.now new ReleaseMetadataSnap r) c.from_residual.result x p.0 p.1 (sym p.2)
    (subst (λ (h : Held g.row.M.Denot). PoolRefused M.geometry M.stands h (failed_by x new) ReleaseMetadataSnap x) c.self.view_is
    (snap_broken laws ReleaseMetadataSnap release_snaps old works c.release.new.self last altered.ran.geometry altered.ran.time altered.changing x altered.ran.cause
    (λ e s now kept pool. altered.damaged (ap (λ (r : StoreError). Err r) (damaged_so error e)) now kept pool.standing
    (a_root now.held_root (sym (c.holds_root.ensures old.disk now kept pool.standing) ∙ c.if-not-holds_root.false))) (refused_so error)))

pub returns-clause-called : goal.returns-clause-called
returns-clause-called g c =
    let M = g.M.Metadata in
    let met = g.met.M.Metadata in
    let laws : Laws M.geometry M.stands M.marks M.room = record { within = met.within; honest = met.honest; left = met.left; frame = met.frame } in
    let old : Held g.row.M.Denot = record { disk = g.D.Disk.state c.self.inside.disk; metadata = c.self.inside.metadata; holders = c.self.inside.holders.items; mode = c.self.inside.mode } in
    let writes : is_read_only old.mode ≡ false = sym c.is_read_only.ensures ∙ c.if-is_read_only.false in
    let works = writable_is old.mode (ap (λ (h : Held g.row.M.Denot). is_failed h.mode) c.self.view_is ∙ c.requires.works) writes in
    let some : (now kept : Contents) → M.stands old.metadata old.disk now kept → 0 < now.held_root =
    λ now kept st. a_root now.held_root (sym (c.holds_root.ensures old.disk now kept st) ∙ c.if-not-holds_root.false) in
    let altered = c.in_ok-release.ensures.altered in
    let last = g.D.Disk.state c.release.new.disk in
    let accepted = release_accepted laws old works some in
    let snapped = release_snapped laws old works some c.release.new.self last altered.ran.geometry altered.ran.time altered.changing altered.made in
    let new : Held g.row.M.Denot = record old { disk = last; metadata = c.release.new.self } in
    subst (λ (h : Held g.row.M.Denot). IsUnkept M.geometry M.stands M.marks M.room M.changed h new ReleaseMetadataSnap) c.self.view_is
    (snap_unkept laws ReleaseMetadataSnap release_snaps old works c.release.new.self last altered.ran.geometry altered.ran.time altered.changing altered.ran.cause accepted snapped M.changed altered.ran.flushes)

pub returns-then-is_read_only-clause-tried : goal.returns-then-is_read_only-clause-tried
returns-then-is_read_only-clause-tried g c =
    snap_read_only ReleaseMetadataSnap release_snaps c.args.self.now (sym (ap (λ (h : Held g.row.M.Denot). is_read_only h.mode) c.self.view_is) ∙ sym c.is_read_only.ensures ∙ c.if-is_read_only.true)

pub returns-then-not-holds_root-clause-tried : goal.returns-then-not-holds_root-clause-tried
returns-then-not-holds_root-clause-tried g c =
    let old : Held g.row.M.Denot = record { disk = g.D.Disk.state c.self.inside.disk; metadata = c.self.inside.metadata; holders = c.self.inside.holders.items; mode = c.self.inside.mode } in
    let writes : is_read_only old.mode ≡ false = sym c.is_read_only.ensures ∙ c.if-is_read_only.false in
    let works = writable_is old.mode (ap (λ (h : Held g.row.M.Denot). is_failed h.mode) c.self.view_is ∙ c.requires.works) writes in
    subst (λ (h : Held g.row.M.Denot). IsTried h h ReleaseMetadataSnap (Err NoHeldRoot)) c.self.view_is (snap_refused ReleaseMetadataSnap release_snaps old old works NoHeldRoot refl (inl refl) refl)

pub returns-in_err-release-clause-tried : goal.returns-in_err-release-clause-tried
returns-in_err-release-clause-tried g c =
    let writes : is_read_only c.args.self.now.mode ≡ false = sym (ap (λ (h : Held g.row.M.Denot). is_read_only h.mode) c.self.view_is) ∙ sym c.is_read_only.ensures ∙ c.if-is_read_only.false in
    let works = writable_is c.args.self.now.mode c.requires.works writes in
    let p = err_from_is_err_and c.from_residual.result c.from_residual.ensures.1 in
    let error = c.in_err-release.field-0.0 in
    let new : Held g.row.M.Denot = record { disk = g.D.Disk.state c.release.new.disk; metadata = c.release.new.self; holders = c.self.inside.holders.items; mode = c.self.inside.mode } in
    exit_is (λ (r : Result (Unit {0}) Refusal). IsTried c.args.self.now new ReleaseMetadataSnap r) c.from_residual.result (refusal_of error) p.0 p.1 (sym p.2)
    (snap_fails ReleaseMetadataSnap release_snaps c.args.self.now new works (refusal_of error) (ap (λ (h : Held g.row.M.Denot). h.mode) c.self.view_is) (refused_so error))

pub returns-clause-tried : goal.returns-clause-tried
returns-clause-tried g c =
    let writes : is_read_only c.args.self.now.mode ≡ false = sym (ap (λ (h : Held g.row.M.Denot). is_read_only h.mode) c.self.view_is) ∙ sym c.is_read_only.ensures ∙ c.if-is_read_only.false in
    let works = writable_is c.args.self.now.mode c.requires.works writes in
    let new : Held g.row.M.Denot = record { disk = g.D.Disk.state c.release.new.disk; metadata = c.release.new.self; holders = c.self.inside.holders.items; mode = c.self.inside.mode } in
    snap_kept ReleaseMetadataSnap release_snaps c.args.self.now new works (Ok tt) (ap (λ (h : Held g.row.M.Denot). h.mode) c.self.view_is) tt

pub returns-then-is_read_only-clause-flushes : goal.returns-then-is_read_only-clause-flushes
returns-then-is_read_only-clause-flushes g c =
    counted_nothing g.M.Metadata.geometry g.M.Metadata.stands g.M.Metadata.marks g.M.Metadata.room c.args.self.now c.args.self.now.disk ReleaseMetadataSnap refl

pub returns-in_err-release-clause-flushes : goal.returns-in_err-release-clause-flushes
returns-in_err-release-clause-flushes g c =
    counted_nothing g.M.Metadata.geometry g.M.Metadata.stands g.M.Metadata.marks g.M.Metadata.room c.args.self.now (g.D.Disk.state c.release.new.disk) ReleaseMetadataSnap (c.in_err-release.ensures.altered.ran.flushes ∙ ap (λ (h : Held g.row.M.Denot). h.disk.flushes) c.self.view_is)

pub returns-clause-flushes : goal.returns-clause-flushes
returns-clause-flushes g c =
    counted_nothing g.M.Metadata.geometry g.M.Metadata.stands g.M.Metadata.marks g.M.Metadata.room c.args.self.now (g.D.Disk.state c.release.new.disk) ReleaseMetadataSnap (c.in_ok-release.ensures.altered.ran.flushes ∙ ap (λ (h : Held g.row.M.Denot). h.disk.flushes) c.self.view_is)

pub returns-in_err-release-clause-changes : goal.returns-in_err-release-clause-changes
returns-in_err-release-clause-changes g c =
    let p = err_from_is_err_and c.from_residual.result c.from_residual.ensures.1 in
    let error = c.in_err-release.field-0.0 in
    left_of g.M.Metadata.changed c.args.self.now.metadata c.release.new.self ReleaseMetadataSnap c.from_residual.result
    (changed_failed g.M.Metadata.changed c.args.self.now.metadata c.release.new.self ReleaseMetadataSnap c.from_residual.result (refusal_of error) p.0 p.1 (sym p.2) (refused_so error))

pub returns-clause-changes : goal.returns-clause-changes
returns-clause-changes g c = record { committed = tt; unchanged = tt }
