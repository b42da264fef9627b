-- A change that is kept by the commit behind it, before that.
use Rattle.std.proofs.Common.{◌≡◌, inl, ℕ, Bool, None, List, []}
use Rattle.tp_model.specs.declared.mode.Mode.TheVariants as mode
use Rattle.tp_model.specs.Geometry.{Geometry}
use Rattle.tp_model.specs.Sectors.{Sector}
use Rattle.tp_model.specs.Pool.{PlainPool}
use Rattle.tp_model.specs.Calls.{Call, Done, Flush, Makes, refusal_of}
use Rattle.tp_model.specs.PoolStops.{Event, GivenBy}
use Rattle.tp_model.specs.Disk.{DiskState}
use Rattle.tp_model.specs.DiskStops.{LeavesOnly}
use Rattle.tp_model.proofs.DiskStopLaws.{weakens}
use Rattle.tp_stored.specs.Contents.{Contents}
use Rattle.tp_meta.specs.Metadata.{IsLater}
use Rattle.tp_pool.specs.Held.{Held, HasPool}
use Rattle.tp_pool.specs.Unkept.{HasReclaimed, IsUnkept}
use Rattle.tp_pool.proofs.Calling.{Laws}
use Rattle.tp_pool.proofs.Phases.{WriteStop, found_in_write}
use Rattle.tp_pool.proofs.Stops.{Given, IsLeft, nothing_given}
use Rattle.tp_pool.proofs.Unkeeping.{IsChanged, unkept_by}

module _ {M : Type 0} {geometry : M → Geometry} {stands : M → DiskState → Contents → Contents → Type 0} {marks : M → List Bool} {room : M → ℕ}
    (laws : Laws geometry stands marks room) (old : Held M) (works : old.mode ≡ mode.Writable) (call : Call) (metadata : M) (last : DiskState)
    (same_last : geometry metadata ≡ geometry old.metadata) (later : IsLater old.disk last) (none_failed : last.failures ≡ old.disk.failures) where
  abbrev g : Geometry
  g = geometry old.metadata

  -- what the change made of a pool, and what a stop leaves in it
  pub record Over (s : PlainPool) (now kept : Contents) : Type 0 where
    pub then : Contents
    pub before : Contents
    pub made : PlainPool
    pub accepted : refusal_of s call ≡ None
    pub makes : Makes s call made
    pub shown : HasPool geometry stands (record old { disk = last; metadata = metadata }) then before made
    pub left : LeavesOnly old.disk last (WriteStop g Flush 0 [] now kept old.disk)

  no_values : (e : Event) (i k : ℕ) (x : Sector) → Given g Flush 0 [] i k x → GivenBy e i k x
  no_values e i k x h = absurd (nothing_given g i k x h)

  module _ (over : (s : PlainPool) (now kept : Contents) → HasPool geometry stands old now kept s → Over s now kept) where
    changed_by : (s : PlainPool) (now kept : Contents) → HasPool geometry stands old now kept s → IsChanged laws old works call metadata last same_last later none_failed s
    changed_by s now kept pool =
        let w = over s now kept pool in
        let within = laws.within old.metadata old.disk now kept pool.standing in
        let e : Event = record { before = s; call = call; answer = Done; made = w.made } in
        record {
          made = w.made;
          accepted = w.accepted;
          makes = w.makes;
          shown = inl (w.then, w.before, w.shown);
          left =
              weakens {P = WriteStop g Flush 0 [] now kept old.disk} {Q = IsLeft g old e}
              (found_in_write g Flush 0 [] within.limits old e (no_values e) now kept within.volumes_now within.volumes_kept
              (laws.left old.metadata old.disk now kept pool.standing) pool.has) w.left;
        }

    pub unkept_before : (changed : M → Bool) → HasReclaimed geometry stands marks room old last call
        → IsUnkept geometry stands marks room changed old (record old { disk = last; metadata = metadata }) call
    unkept_before = unkept_by laws old works call metadata last same_last later none_failed changed_by
