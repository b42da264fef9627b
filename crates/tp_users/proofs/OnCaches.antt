-- A pool on caches that kept all, or was formatted or stopped, in words of the disk under them.
use Rattle.std.proofs.Common.{◌≡◌, List, Result, Ok, Err, sym, ap, subst, ◌∙◌}
use Rattle.std.specs.Prelude.{IsTrue, MatchResult, OnOk}
use Rattle.tp_model.specs.declared.mode.Mode.TheVariants as mode
use Rattle.tp_model.specs.declared.refusal.Refusal.{Refusal}
use Rattle.tp_model.specs.Sectors.{Sector}
use Rattle.tp_model.specs.Pool.{PlainPool}
use Rattle.tp_model.specs.Calls.{Call, Close, Done, Flush, Refused}
use Rattle.tp_model.specs.Geometry.{Geometry}
use Rattle.tp_model.specs.Clauses.{Called, IsOpened, Meets, View, ViewLaws}
use Rattle.tp_model.specs.PoolStops.{reopened}
use Rattle.tp_model.specs.Disk.{DiskState, IsSettled, seen}
use Rattle.tp_model.specs.DiskStops.{AfterStop, moment}
use Rattle.tp_model.proofs.DiskStopLaws.{AfterStop-seen}
use Rattle.tp_model.proofs.Found.{MayReopen-nothing}
use Rattle.tp_model.proofs.Moments.{stopped_at, stopped_longer}
use Rattle.tp_cache.specs.Line.{Line, begun}
use Rattle.tp_image.specs.Fresh.{IsFreshOf, empty_pool}
use Rattle.tp_image.specs.Stands.{StandsFor}
use Rattle.tp_meta.specs.declared.whole.Meta.{Meta}
use Rattle.tp_meta.specs.Standing as metadata
use Rattle.tp_meta.specs.Standing.{changed_of, geometry_of, marks_of, room_of}
use Rattle.tp_meta.specs.Framing.{stands_bounded, stands_one, stands_trees, stands_within}
use Rattle.tp_pool.specs.Held.{IsSomePool, shows}
use Rattle.tp_pool.proofs.Ranges.{law_within}
use Rattle.tp_served.specs.Served.{Cached, IsClosed, IsKnown, cached, disk_of, laws, on_cache}
use Rattle.tp_users.specs.Left.{IsLeftUnder, under_rest}
use Rattle.tp_users.specs.Lives.{IsOpenedAs, IsStopped}
use Rattle.tp_users.specs.Users.{IsKept}
use Rattle.tp_users.proofs.Given.{FreshLaw, Keeps, RestLaw, close_keeps, flush_keeps, formatted_stands, honest_yet, made_after, made_is}

abbrev pub ShowsOn : Cached Meta → PlainPool → Type 0
ShowsOn c s = shows geometry_of metadata.StandsFor (on_cache c) s

abbrev pub All : View (Cached Meta)
All = cached geometry_of metadata.StandsFor marks_of room_of changed_of

kept_there : (old new : Cached Meta) (call : Call) (s : PlainPool) (image : List Sector) → Keeps call → ShowsOn old s → Called All old new call Done → AfterStop (disk_of new).cells image
    → IsSomePool image × StandsFor image (reopened s)
kept_there old new call s image is was called stop =
    let m = called.meets s was in
    let same : m.0 ≡ s = made_is s call m.0 m.1 is m.2 in
    let since = stopped_longer image (disk_of new) (moment (disk_of old)) (moment (disk_of new)) called.time.later (stopped_at image (disk_of new) stop) in
    let there = called.opens s was image since in
    let found = MayReopen-nothing m.0 there.0 (m.4.kept is.keeps_it there.0 (image, stop, there.1)) in
    (there.1.0, subst (λ (P : PlainPool). StandsFor image P) (found ∙ ap reopened same) there.1.1)

pub flushed_there : (old new : Cached Meta) (r : Result (Unit {0}) Refusal) → MatchResult r (λ _. Meets All old new Flush Done) (λ reason. Meets All old new Flush (Refused reason))
    → OnOk r ((s : PlainPool) → ShowsOn old s → (image : List Sector) → AfterStop (disk_of new).cells image → IsSomePool image × StandsFor image (reopened s))
flushed_there old new (Ok x) met = λ s was image stop. kept_there old new Flush s image flush_keeps was met.called stop
flushed_there old new (Err reason) met = tt

closed_there : (old : Cached Meta) (disk : DiskState) (s : PlainPool) → s.mode ≡ mode.Writable → ShowsOn old s → IsClosed geometry_of metadata.StandsFor marks_of room_of changed_of old disk Done
    → IsSettled disk.cells → IsKept s disk
closed_there old disk s works was closed rests =
    let new = closed.new in
    let m = closed.called.meets s was in
    let same : m.0 ≡ s = made_is s Close m.0 m.1 close_keeps m.2 in
    let left = kept_there old new Close s (seen (disk_of new).cells) close_keeps was closed.called (AfterStop-seen (disk_of new).cells) in
    subst (λ (d : DiskState). IsKept s d) closed.disk_is (record {
      honest = subst IsTrue (sym closed.line.twin.is_honest) (honest_yet (on_cache new) m.1 (ap (λ (p : PlainPool). p.mode) (made_after s Close m.0 m.1 m.2 ∙ same) ∙ works) m.3);
      settled = subst (λ (d : DiskState). IsSettled d.cells) (sym closed.disk_is) rests;
      is_pool = left.0;
      stands = left.1;
    })

pub closed_kept_there : (r : Result (Unit {0}) Refusal) (old : Cached Meta) (disk : DiskState) (s : PlainPool)
    → MatchResult r (λ _. IsClosed geometry_of metadata.StandsFor marks_of room_of changed_of old disk Done) (λ reason. IsClosed geometry_of metadata.StandsFor marks_of room_of changed_of old disk (Refused reason))
    → OnOk r ((t : PlainPool) → ShowsOn old t → IsSettled disk.cells) → ShowsOn old s → s.mode ≡ mode.Writable → OnOk r (IsKept s disk)
closed_kept_there (Ok x) old disk s closed settled was works = closed_there old disk s works was closed (settled s was)
closed_kept_there (Err reason) old disk s closed settled was works = tt

-- ---- formatted, stopped

pub laws_on : ViewLaws All
laws_on = laws geometry_of metadata.StandsFor marks_of room_of changed_of (λ m disk now kept p st has. stands_trees m disk now kept p st has) (law_within stands_within) (λ m disk now kept st. stands_bounded m disk now kept st)
    (λ m disk now kept next last st then. stands_one m disk now kept next last st then)

-- a pool that was formatted is opened from the image that stands on the disk under it
pub opened_new : (c : Cached Meta) (g : Geometry) → FreshLaw → RestLaw → c.cache.line ≡ begun (disk_of c) → geometry_of c.besides.metadata ≡ g → IsFreshOf g (seen (disk_of c).cells) → ShowsOn c (empty_pool g)
    → IsOpened All (seen (disk_of c).cells) c → IsOpenedAs All (empty_pool g) c
opened_new c g fresh_law rest_law line same is_fresh shown opened =
    let image = seen (disk_of c).cells in
    let outer : c.cache.line.outer ≡ disk_of c = ap (λ (l : Line). l.outer) line in
    let stop : AfterStop c.cache.line.outer.cells image = subst (λ (d : DiskState). AfterStop d.cells image) (sym outer) (AfterStop-seen (disk_of c).cells) in
    record { image = image; stands = formatted_stands (on_cache c) g image fresh_law rest_law same is_fresh shown stop; opened = opened }

pub stopped_under : (c : Cached Meta) (s : PlainPool) (disk : DiskState) → IsKnown geometry_of c → ShowsOn c s → IsStopped (disk_of c) disk → IsLeftUnder geometry_of metadata.StandsFor marks_of room_of changed_of (seen disk.cells)
stopped_under c s disk known shown stopped = under_rest c s known shown stopped.left
