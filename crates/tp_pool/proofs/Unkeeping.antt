-- A change that is made but for the commit behind it.
use Rattle.std.proofs.Common.{◌≡◌, inl, inr, ℕ, Bool, true, None, List, sym, ◌∙◌, ap}
use Rattle.std.proofs.lemmas.Bool.{false≢true}
use Rattle.tp_model.specs.declared.mode.Mode.TheVariants as mode
use Rattle.tp_model.specs.Geometry.{Geometry}
use Rattle.tp_model.specs.Pool.{PlainPool}
use Rattle.tp_model.specs.Calls.{Call, Done, Makes, is_failed, refusal_of}
use Rattle.tp_model.specs.PoolStops.{Event}
use Rattle.tp_model.specs.Clauses.{found_now}
use Rattle.tp_model.specs.Disk.{DiskState}
use Rattle.tp_model.specs.DiskStops.{LeavesOnly}
use Rattle.tp_model.proofs.DiskStopLaws.{stopped}
use Rattle.tp_model.proofs.PoolStopLaws.{During-map}
use Rattle.tp_stored.specs.Contents.{Contents}
use Rattle.tp_meta.specs.Metadata.{IsLater}
use Rattle.tp_holders.specs.Holders.{holds_of}
use Rattle.tp_pool.specs.Flushes.{served}
use Rattle.tp_pool.specs.Held.{Held, HasPool, IsPool, may_leave, more_held, shows}
use Rattle.tp_pool.specs.Unkept.{HasReclaimed, IsUnkept}
use Rattle.tp_pool.proofs.Calling.{Laws, opens_during, pools_left}
use Rattle.tp_pool.proofs.Images.{pool_there, some_pool}
use Rattle.tp_pool.proofs.Stops.{IsLeft}
use Rattle.tp_pool.proofs.Times.{goes_on}

module _ {M : Type 0} {geometry : M → Geometry} {stands : M → DiskState → Contents → Contents → Type 0} {marks : M → List Bool} {room : M → ℕ}
    (laws : Laws geometry stands marks room) (old : Held M) (works : old.mode ≡ mode.Writable) (call : Call) (metadata : M) (last : DiskState)
    (same_last : geometry metadata ≡ geometry old.metadata) (later : IsLater old.disk last) (none_failed : last.failures ≡ old.disk.failures) where
  abbrev changed_pool : Held M
  changed_pool = record old { disk = last; metadata = metadata }

  abbrev event_of : PlainPool → PlainPool → Event
  event_of s made = record { before = s; call = call; answer = Done; made = made }

  -- what the change made of a pool, and what a stop leaves in it
  pub record IsChanged (s : PlainPool) : Type 0 where
    pub made : PlainPool
    pub accepted : refusal_of s call ≡ None
    pub makes : Makes s call made
    pub shown : shows geometry stands (record old { disk = last; metadata = metadata }) made
    pub left : LeavesOnly old.disk last (IsLeft (geometry old.metadata) old (record { before = s; call = call; answer = Done; made = made }))

  module _ (change : (s : PlainPool) (now kept : Contents) → HasPool geometry stands old now kept s → IsChanged s) where
    changed_at : (s : PlainPool) → shows geometry stands old s → IsChanged s
    changed_at s (inl w) = change s w.0 w.1 w.2
    changed_at s (inr f) = absurd (false≢true (sym (ap is_failed works) ∙ ap is_failed f.failed))

    pools : (s : PlainPool) → shows geometry stands old s → LeavesOnly old.disk last (IsPool (geometry old.metadata))
    pools s shown = let c = changed_at s shown in opens_during laws old changed_pool (event_of s c.made) c.left

    pub unkept_by : (changed : M → Bool) → HasReclaimed geometry stands marks room old last call → IsUnkept geometry stands marks room changed old (record old { disk = last; metadata = metadata }) call
    unkept_by changed counted = record {
      unkept = record {
        works = works;
        outline = (λ i. record { geometry = same_last i; mode = old.mode; holds = holds_of old.holders });
        more = λ id held. ap (λ (g : Geometry). more_held g old.holders id) same_last;
        failures = none_failed;
        no_fewer = counted.no_fewer;
        most = counted.most;
        few = counted.few;
        time = let t = goes_on geometry stands old changed_pool later in record { later = t.later; still = t.still; earlier = t.earlier };
        opens = λ s shown image left.
            let is = some_pool (geometry old.metadata) image (stopped (pools s shown) image left) in
            let P = pool_there image is in
            (P.0, (is, P.1));
        meets = λ s shown.
            let c = changed_at s shown in (
              c.made,
              c.accepted,
              c.makes,
              c.shown,
              (λ P found.
                  During-map (may_leave old) (found_now (served geometry stands marks room changed) old) (event_of s c.made) P
                  (λ S l. (l.0, l.1, (some_pool (geometry old.metadata) l.0 (pools_left laws old s shown l.0 l.1), l.2)))
                  ((stopped c.left found.0 found.1).1 P found.2.1)),
            );
      };
      opens = λ s shown. pools s shown;
    }
