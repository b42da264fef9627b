-- The lives of a pool, from one image to the next.
use Rattle.std.proofs.Common.{◌≡◌, ℕ, Bool, false, List, [], ◌∷◌, Option, None, Some, subst, ◌∙◌}
use Rattle.tp_model.specs.Geometry.{Geometry}
use Rattle.tp_model.specs.Pool.{PlainPool}
use Rattle.tp_model.specs.PoolStops.{MayBeLeftSince, MayReopen, Nothing}
use Rattle.tp_model.specs.Clauses.{ViewLaws, Asked, HasTrace, IsOpened, OpensSince, Traced, events_of, found_now, last_of, traced}
use Rattle.tp_model.specs.Disk.{DiskState, seen}
use Rattle.tp_model.specs.DiskStops.{AfterStop}
use Rattle.tp_model.proofs.DiskStopLaws.{settled_keeps}
use Rattle.tp_model.proofs.PoolStopLaws.{MayBeLeftSince-none, MayBeLeftSince-settled}
use Rattle.tp_model.proofs.Running.{call_traced, calls_traced, last_traced, starts}
use Rattle.tp_image.specs.Stands.{StandsFor}
use Rattle.tp_stored.specs.Contents.{Contents}
use Rattle.tp_pool.proofs.Ranges.{law_within}
use Rattle.tp_pool.specs.Held.{Held, IsSomePool, moment_of, shows}
use Rattle.tp_pool.specs.Lives.{AreLives, AreRuns, IsFoundIn, IsReopenedFrom, Life, StopsIn}
use Rattle.tp_pool.specs.Flushes.{served, laws as served_laws}
use Rattle.tp_pool.specs.Shown as laws_of
use Rattle.tp_pool.proofs.Calling.{Laws, pools_left}
use Rattle.tp_pool.proofs.Images.{Image, pool_there, some_pool, stands_alike}
use Rattle.tp_model.proofs.Moments.{stopped_now}

-- ---- one life

module _ {M : Type 0} {geometry : M → Geometry} {stands : M → DiskState → Contents → Contents → Type 0} {marks : M → List Bool} {room : M → ℕ} (changed : M → Bool) (laws : Laws geometry stands marks room) (trees : laws_of.TreesLaw geometry stands) (bounded : laws_of.BoundLaw geometry stands) (one : laws_of.OneLaw geometry stands) where
  abbrev Shows : Held M → PlainPool → Type 0
  Shows = shows geometry stands

  view_laws : ViewLaws (served geometry stands marks room changed)
  view_laws = served_laws geometry stands marks room changed trees (law_within laws.within) bounded one

  settled_start : (image : Image) (h : Held M) (s : PlainPool) → IsSomePool image → StandsFor image s → IsReopenedFrom geometry stands image h
      → (S : PlainPool) → found_now (served geometry stands marks room changed) h S → MayReopen s Nothing S
  settled_start image h s is stands_s opening S left =
      let kept : left.0 ≡ seen h.disk.cells = settled_keeps (seen h.disk.cells) left.0 (subst (λ cells. AfterStop cells left.0) opening.settled left.1) in
      stands_alike image s S is stands_s (subst (λ (i : Image). StandsFor i S) (kept ∙ opening.image_is) left.2.1)

  -- what a stop leaves can be opened
  left_opens : (h : Held M) (s : PlainPool) → Shows h s → OpensSince (served geometry stands marks room changed) h (moment_of h)
  left_opens h s shown image stop =
      let is = some_pool (geometry h.metadata) image (pools_left laws h s shown image (stopped_now image h.disk stop)) in
      let P = pool_there image is in
      (P.0, (is, P.1))

  pub is_opened : (image : Image) (h : Held M) → IsReopenedFrom geometry stands image h → changed h.metadata ≡ false → IsOpened (served geometry stands marks room changed) image h
  is_opened image h opening unchanged = record {
    shows = λ s is. opening.shows_it is.0.0 s is.0.1 is.1;
    opens = λ s is. left_opens h s (opening.shows_it is.0.0 s is.0.1 is.1);
    left = λ s S is left. settled_start image h s is.0 is.1 opening S left;
    unchanged = unchanged;
  }

  -- the image of the stop is one of a commit
  left_pool : (last : Held M) (t : PlainPool) (current : Option (Asked (Held M))) (image : Image) → Shows last t → StopsIn geometry stands marks room changed last current image → IsSomePool image
  left_pool last t None image shown stop = some_pool (geometry last.metadata) image (pools_left laws last t shown image stop)
  left_pool last t (Some c) image shown stop = (stop.0.called.opens t shown image stop.1).1.0

  left_found : (from : Held M) (s : PlainPool) → ((S : PlainPool) → found_now (served geometry stands marks room changed) from S → MayReopen s Nothing S)
      → (last : Held M) (t : Traced) (current : Option (Asked (Held M))) (image : Image) (P : PlainPool) → HasTrace (served geometry stands marks room changed) from s last t
      → StopsIn geometry stands marks room changed last current image → IsSomePool image × StandsFor image P → IsFoundIn geometry stands marks room changed s t current P
  left_found from s settled last t None image P has stop st =
      MayBeLeftSince-settled (found_now (served geometry stands marks room changed) from) s (events_of t.trace) [] P settled
      (MayBeLeftSince-none (found_now (served geometry stands marks room changed) from) s (events_of t.trace) P (has.left P (image, stop, st)))
  left_found from s settled last t (Some c) image P has stop st =
      let m = call_traced (served geometry stands marks room changed) view_laws from s last c.after t c.call c.answer has stop.0 in (
        m.0,
        m.1,
        MayBeLeftSince-settled (found_now (served geometry stands marks room changed) from) s (events_of t.trace) (m.1.entry.event ∷ []) P settled
            (subst (λ es. MayBeLeftSince (found_now (served geometry stands marks room changed) from) s (events_of t.trace) (events_of es) P) m.4 (m.3.left P (image, stop.1, st))),
      )

  -- ---- many lives

  pub lives_are_runs : (image : Image) (s : PlainPool) (lives : List (Life M)) → IsSomePool image → StandsFor image s → AreLives geometry stands marks room changed image lives → AreRuns geometry stands marks room changed s lives
  lives_are_runs image s [] is stands_s are = tt
  lives_are_runs image s (l ∷ ls) is stands_s are =
      let life = are.0 in
      let shown = life.opening.shows_it is.0 s is.1 stands_s in
      let first : HasTrace (served geometry stands marks room changed) l.opened s l.opened (traced s []) =
      starts (served geometry stands marks room changed) view_laws l.opened s shown (left_opens l.opened s shown) in
      let ks = calls_traced (served geometry stands marks room changed) view_laws l.opened s l.opened (traced s []) l.calls first life.calling in
      let last = last_traced (served geometry stands marks room changed) view_laws l.opened s l.opened (traced s []) l.calls ks.0 first ks.1 in
      let t : Traced = last_of (traced s []) ks.0 in
      let is_pool = left_pool (last_of l.opened l.calls) t.pool l.current l.image last.shown life.stop in
      let found = pool_there l.image is_pool in
      record {
        plainly = ks.0;
        is_traced = ks.1;
        is_pool = is_pool;
        found = found.0;
        stands_for = found.1;
        left = left_found l.opened s (settled_start image l.opened s is stands_s life.opening) (last_of l.opened l.calls) t l.current l.image found.0 last life.stop (is_pool, found.1);
        goes_on = lives_are_runs l.image found.0 ls is_pool found.1 are.1;
      }
