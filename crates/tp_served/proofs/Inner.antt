-- What is said of a call in words of the cache, said in words of the disk under it.
use Rattle.std.proofs.Common.{◌≡◌, ◌⊎◌, inl, inr, ℕ, zero, suc, ◌+◌, ◌-◌, ◌*◌, ◌<◌, ◌≤◌, Bool, true, false, List, [], ◌∷◌, ◌++◌, length, take, refl, sym, ◌∙◌, ap, subst, arith, Some, Result, Ok, Err}
use Rattle.std.proofs.lemmas.Bool.{cases_lt, true≢false}
use Rattle.std.proofs.lemmas.List.{length-append, length-map}
use Rattle.std.specs.Prelude.{◌%◌, IsSome, IsTrue, MatchResult, if◌then◌else◌}
use Rattle.tp_model.specs.declared.mode.Mode.{Mode}
use Rattle.tp_model.specs.declared.mode.Mode.TheVariants as mode
use Rattle.tp_model.specs.declared.refusal.Refusal.{Refusal}
use Rattle.tp_model.specs.Geometry.{Geometry, data_sector}
use Rattle.tp_model.specs.Sectors.{Sector, sector_at}
use Rattle.tp_model.specs.Pool.{PlainPool}
use Rattle.tp_model.specs.Calls.{Answer, Call, Read, Write, Trim, WriteZeroes, Flush, CreateThin, CreateSnap, Delete, SetTransactionId, Grow, Hold, LetGo, Status, ThinStatus, NextId, VolumeBlocks, Walk, Close, HeldRead, ReserveMetadataSnap, ReleaseMetadataSnap, Done, HasCause, Refused, commits, is_failed, is_flush, is_silent, is_writing, may_reclaim, most_flushes, refusal_of}
use Rattle.tp_model.specs.PoolStops.{During, Event, GivenBy, MayReopen, Nothing, StopsWithin, keeps, reopened}
use Rattle.tp_model.specs.Clauses.{Called, Flushes, GoesOn, IsAnswered, IsQuiet, IsOpened, Meets, Unkept, View, found_now, found_since}
use Rattle.tp_model.specs.Disk.{Cell, DiskState, MayLeave, cell_at, newest, seen}
use Rattle.tp_model.specs.DiskStops.{AfterStop, Leaves, StoppedSince, moment, moments}
use Rattle.tp_model.proofs.DiskStopLaws.{AfterStop-seen}
use Rattle.tp_model.proofs.Moments.{stopped_now}
use Rattle.tp_model.proofs.PoolStopLaws.{During-map, MayReopen-reopened, StopsWithin-map}
use Rattle.tp_cache.specs.Line.{IsLine, Line, all_of, begun}
use Rattle.tp_cache.specs.Table.{Since}
use Rattle.tp_cache.proofs.Lives.{between_of}
use Rattle.tp_cache.proofs.Moments.{StoppedSince-between, inner_joined}
use Rattle.tp_image.specs.Stands.{HasSectors, StandsFor}
use Rattle.tp_stored.specs.Contents.{Contents, HasContents, HoldsContents}
use Rattle.tp_stored.specs.Contents as contents
use Rattle.tp_stored.proofs.Opened.{stands_for_opened}
use Rattle.tp_pool.specs.Flushes.{served}
use Rattle.tp_pool.specs.Held.{HasPool, Held, IsSomePool, shows}
use Rattle.tp_pool.specs.Shown as laws_of
use Rattle.tp_pool.proofs.Times.{stopped_earlier, stopped_still}
use Rattle.tp_served.specs.Served.{Cached, IsKnown, cached, disk_of, on_cache}

abbrev Cells : Type 0
Cells = List Cell

abbrev Image : Type 0
Image = List Sector

-- ---- an image of the cache, with the metadata blocks that the disk under it kept

merged : ℕ → Cells → Image → Image
merged zero cells image = image
merged (suc n) [] image = image
merged (suc n) (c ∷ cells) [] = []
merged (suc n) (c ∷ cells) (x ∷ image) = c.kept ∷ merged n cells image

merged_length : (n : ℕ) (cells : Cells) (image : Image) → length (merged n cells image) ≡ length image
unfolding merged
merged_length zero cells image = refl
merged_length (suc n) [] image = refl
merged_length (suc n) (c ∷ cells) [] = refl
merged_length (suc n) (c ∷ cells) (x ∷ image) = ap suc (merged_length n cells image)

merged_high : (n : ℕ) (cells : Cells) (image : Image) (i : ℕ) → n ≤ i → sector_at (merged n cells image) i ≡ sector_at image i
unfolding merged
merged_high zero cells image i le = refl
merged_high (suc n) [] image i le = refl
merged_high (suc n) (c ∷ cells) [] i le = refl
merged_high (suc n) (c ∷ cells) (x ∷ image) zero le = absurd (omega (arith, le))
merged_high (suc n) (c ∷ cells) (x ∷ image) (suc i) le = merged_high n cells image i (omega (arith, le))

merged_low : (n : ℕ) (cells : Cells) (image : Image) (i : ℕ) → length image ≡ length cells → i < n → sector_at (merged n cells image) i ≡ (cell_at cells i).kept
unfolding merged
merged_low zero cells image i long lt = absurd (omega (arith, lt))
merged_low (suc n) [] [] i long lt = refl
merged_low (suc n) [] (x ∷ image) i long lt = absurd (omega (arith, long))
merged_low (suc n) (c ∷ cells) [] i long lt = absurd (omega (arith, long))
merged_low (suc n) (c ∷ cells) (x ∷ image) zero long lt = refl
merged_low (suc n) (c ∷ cells) (x ∷ image) (suc i) long lt = merged_low n cells image i (omega (arith, long)) (omega (arith, lt))

merged_stop : (n : ℕ) (outer inner : Cells) (image : Image) → length outer ≡ length inner → ((i : ℕ) → n ≤ i → cell_at inner i ≡ cell_at outer i) → AfterStop outer image → AfterStop inner (merged n inner image)
merged_stop n outer inner image long same stop = record {
  same_length = merged_length n inner image ∙ stop.same_length ∙ long;
  each = λ i. elim (cases_lt i n) [
    | inl lt ↦ inl (merged_low n inner image i (stop.same_length ∙ long) lt)
    | inr past ↦ subst (λ (c : Cell). MayLeave c (sector_at (merged n inner image) i)) (sym (same i past))
        (subst (λ (v : Sector). MayLeave (cell_at outer i) v) (sym (merged_high n inner image i past)) (stop.each i))
  ];
}

-- ---- the pool of such an image

data_high : (g : Geometry) (place k : ℕ) → 8 * g.metadata_blocks ≤ data_sector g place + k
data_high g place k = omega arith

same_sectors : (g : Geometry) (p : PlainPool) (a b : Image) → ((i : ℕ) → 8 * g.metadata_blocks ≤ i → sector_at b i ≡ sector_at a i) → HasSectors a g p → HasSectors b g p
same_sectors g p a b same h = record {
  mapped = λ id k place size is lt slot. h.mapped id k place size is lt slot ∙ ap Some (sym (same (data_sector g place + k % g.block_sectors) (data_high g place (k % g.block_sectors))));
  unmapped = h.unmapped;
}

same_opened : (g : Geometry) (c : Contents) (p : PlainPool) (a b : Image) → ((i : ℕ) → 8 * g.metadata_blocks ≤ i → sector_at b i ≡ sector_at a i) → contents.IsOpened g c a p → contents.IsOpened g c b p
same_opened g c p a b same o =
    let h = o.has in
    record {
      has = record {
        geometry = h.geometry;
        transaction_id = h.transaction_id;
        needs_check = h.needs_check;
        meta_used = h.meta_used;
        held_root = h.held_root;
        sizes = h.sizes;
        slots = h.slots;
        sectors = same_sectors g p a b same h.sectors;
      };
      mode = o.mode;
      holds = o.holds;
    }

module _ {M : Type 0} (geometry : M → Geometry) (stands : M → DiskState → Contents → Contents → Type 0) (marks : M → List Bool) (room : M → ℕ) (changed : M → Bool) where
  -- a stop leaves what the last commit kept
  abbrev pub LeftLaw : Type 0
  LeftLaw = (metadata : M) (disk : DiskState) (now kept : Contents) → stands metadata disk now kept → Leaves (HoldsContents (geometry metadata) kept) disk.cells

  abbrev Outer : View (Held M)
  Outer = served geometry stands marks room changed

  abbrev Inner : View (Cached M)
  Inner = cached geometry stands marks room changed

  -- What a stop may leave of the cache, a stop may leave of the disk under it, as a pool.
  found_under : LeftLaw → (c : Cached M) → IsKnown geometry c → (now kept : Contents) (s : PlainPool) → HasPool geometry stands (on_cache c) now kept s
      → (S : PlainPool) → found_now Outer (on_cache c) S → found_now Inner c S
  found_under left c known now kept s pool S found =
      let g = geometry c.besides.metadata in
      let line = c.cache.line in
      let n = 8 * length c.cache.index in
      let image = found.0 in
      let image' = merged n line.inner.cells image in
      let long : length line.outer.cells ≡ length line.inner.cells
      = sym (known.line.moments.now (seen line.inner.cells) (AfterStop-seen line.inner.cells)).same_length ∙ length-map line.inner.cells newest in
      let stop : AfterStop line.inner.cells image' = merged_stop n line.outer.cells line.inner.cells image long known.behind found.1 in
      let kept_there : (i : Image) → AfterStop line.outer.cells i → HoldsContents g kept i = λ i. left c.besides.metadata line.outer now kept pool.standing i in
      let was : HoldsContents g kept image = kept_there image found.1 in
      let is : HoldsContents g kept image' = kept_there image' (known.line.moments.now image' stop) in
      let opened : contents.IsOpened g kept image S = (stands_for_opened g kept image was S).0 found.2.1 in
      let again : contents.IsOpened g kept image' S
      = same_opened g kept S image image' (λ i high. merged_high n line.inner.cells image i (omega (arith, high, known.blocks))) opened in
      (image', stop, ((g, (kept, is)), (stands_for_opened g kept image' is S).1 again))

-- ---- time

first_of_cells : Cells → List Cells → Cells
first_of_cells d [] = d
first_of_cells d (x ∷ xs) = x

still_cells : (between : List Cells) (old new : DiskState) → moments new ≡ between ++ moments old → moment new ≡ moment old → new.cells ≡ old.cells
unfolding first_of_cells
still_cells [] old new joined same = ap (λ (l : List Cells). first_of_cells old.cells l) joined
still_cells (b ∷ bs) old new joined same =
    let n = ap length joined in
    let m = length-append bs (moments old) in
    absurd (omega (arith, n, m, same))

past_of_cells : List Cells → List Cells
past_of_cells [] = []
past_of_cells (x ∷ xs) = xs

still_past : (between : List Cells) (old new : DiskState) → moments new ≡ between ++ moments old → moment new ≡ moment old → new.past ≡ old.past
unfolding past_of_cells
still_past [] old new joined same = ap past_of_cells joined
still_past (b ∷ bs) old new joined same =
    let n = ap length joined in
    let m = length-append bs (moments old) in
    absurd (omega (arith, n, m, same))

failed_silent : (m : Mode) (call : Call) → m ≡ mode.Failed → IsTrue (is_silent m call)
failed_silent m call e = subst (λ (k : Mode). IsTrue (is_silent k call)) (sym e) refl

module _ {M : Type 0} {geometry : M → Geometry} (old new : Cached M) (was : IsKnown geometry old) (is : IsLine new.cache.line) (since : Since old.cache new.cache) where
  abbrev from : Line
  from = old.cache.line

  abbrev to : Line
  to = new.cache.line

  abbrev more : List Cells
  more = all_of since.time.later ++ since.time.more

  joined : moments to.inner ≡ more ++ moments from.inner
  joined = inner_joined from to was.line.moments is.moments since.time

  -- what a stop since then left of the disk under the cache, it left of the cache
  under : (image : Image) → StoppedSince (moment from.inner) to.inner image → StoppedSince (moment from.outer) to.outer image
  under image stop =
      StoppedSince-between from to was.line.moments is.moments since.time (take (length (moments to.outer) - length (moments from.outer)) (moments to.outer))
      (between_of (moments from.outer) (moments to.outer) since.along.joined) image stop

  failures_from : from.inner.failures ≡ from.outer.failures
  failures_from = was.line.twin.failures

  failures_to : to.inner.failures ≡ to.outer.failures
  failures_to = is.twin.failures

  cause_under : (answer : Answer) → HasCause from.outer.failures answer to.outer.failures → HasCause from.inner.failures answer to.inner.failures
  cause_under answer h = subst (λ n. HasCause from.inner.failures answer n) (sym failures_to) (subst (λ n. HasCause n answer to.outer.failures) (sym failures_from) h)

  -- as many flushes more
  flushes_most : (n : ℕ) → to.outer.flushes ≤ from.outer.flushes + n → to.inner.flushes ≤ from.inner.flushes + n
  flushes_most n h = let most = since.flushed.no_more in omega (arith, h, most)

  -- where nothing was done to the cache, nothing was done to the disk under it
  pub same_under : to.outer ≡ from.outer → to.inner ≡ from.inner
  same_under same =
      let failures : to.outer.failures ≡ from.outer.failures = ap (λ (d : DiskState). d.failures) same in
      let flushes : to.outer.flushes ≡ from.outer.flushes = ap (λ (d : DiskState). d.flushes) same in
      let rests : moment to.inner ≡ moment from.inner = since.along.still (ap (λ (d : DiskState). moment d) same) flushes in
      let most = since.flushed.no_more in
      let least = since.flushed.no_fewer in
      let flushed : to.inner.flushes ≡ from.inner.flushes = omega (arith, flushes, most, least) in
      let size : to.inner.size ≡ from.inner.size = is.twin.size ∙ ap (λ (d : DiskState). d.size) same ∙ sym was.line.twin.size in
      let honest : to.inner.is_honest ≡ from.inner.is_honest = is.twin.is_honest ∙ ap (λ (d : DiskState). d.is_honest) same ∙ sym was.line.twin.is_honest in
      let failed : to.inner.failures ≡ from.inner.failures = failures_to ∙ failures ∙ sym failures_from in
      let cells = still_cells more from.inner to.inner joined rests in
      let past = still_past more from.inner to.inner joined rests in
      (λ i. record { size = size i; is_honest = honest i; cells = cells i; past = past i; failures = failed i; flushes = flushed i })

  pub flushes_exact : (n : ℕ) → to.outer.failures ≡ from.outer.failures → to.outer.flushes ≡ from.outer.flushes + n → to.inner.flushes ≡ from.inner.flushes + n
  flushes_exact n none h = let most = since.flushed.no_more in let least = since.flushed.but_failed in omega (arith, none, h, most, least)

-- a call that is no writing one flushes nothing
reads_flush_not : (m : Mode) (call : Call) → is_writing call ≡ false → most_flushes m call ≡ 0
reads_flush_not mode.ReadOnly call writes = refl
reads_flush_not mode.Failed call writes = refl
reads_flush_not mode.Writable (Read id sector count) writes = refl
reads_flush_not mode.Writable (Write id sector sectors fua) writes = absurd (true≢false writes)
reads_flush_not mode.Writable (Trim id sector count fua) writes = absurd (true≢false writes)
reads_flush_not mode.Writable (WriteZeroes id sector count no_hole fua) writes = absurd (true≢false writes)
reads_flush_not mode.Writable Flush writes = absurd (true≢false writes)
reads_flush_not mode.Writable (CreateThin id) writes = absurd (true≢false writes)
reads_flush_not mode.Writable (CreateSnap id origin) writes = absurd (true≢false writes)
reads_flush_not mode.Writable (Delete id) writes = absurd (true≢false writes)
reads_flush_not mode.Writable (SetTransactionId current next) writes = absurd (true≢false writes)
reads_flush_not mode.Writable (Grow id blocks) writes = absurd (true≢false writes)
reads_flush_not mode.Writable (Hold id) writes = refl
reads_flush_not mode.Writable (LetGo id) writes = refl
reads_flush_not mode.Writable Status writes = refl
reads_flush_not mode.Writable (ThinStatus id) writes = refl
reads_flush_not mode.Writable (NextId first) writes = refl
reads_flush_not mode.Writable (VolumeBlocks id) writes = refl
reads_flush_not mode.Writable (Walk id from) writes = refl
reads_flush_not mode.Writable Close writes = absurd (true≢false writes)
reads_flush_not mode.Writable (HeldRead id sector count) writes = refl
reads_flush_not mode.Writable ReserveMetadataSnap writes = absurd (true≢false writes)
reads_flush_not mode.Writable ReleaseMetadataSnap writes = absurd (true≢false writes)

module _ {M : Type 0} (geometry : M → Geometry) (stands : M → DiskState → Contents → Contents → Type 0) (marks : M → List Bool) (room : M → ℕ) (changed : M → Bool)
    (left : LeftLaw geometry stands marks room changed) (old new : Cached M) (was : IsKnown geometry old) (is : IsLine new.cache.line) (since : Since old.cache new.cache) (call : Call) (answer : Answer) where
  abbrev On : View (Held M)
  On = served geometry stands marks room changed

  abbrev In : View (Cached M)
  In = cached geometry stands marks room changed

  quiet : IsQuiet On (on_cache old) (on_cache new) → IsQuiet In old new
  quiet q =
      let f = q.flushes in
      let no_more = since.flushed.no_more in
      let no_fewer = since.flushed.no_fewer in
      record {
        failures = failures_to old new was is since ∙ q.failures ∙ sym (failures_from old new was is since);
        flushes = omega (arith, f, no_more, no_fewer);
        moment = since.along.still q.moment f;
      }

  -- a call that is no writing one does not flush, so the disk under the cache is at rest where the cache is
  reads_under : IsAnswered On (on_cache old) (on_cache new) call answer → Flushes On (on_cache old) (on_cache new) call answer → is_writing call ≡ false
      → moment new.cache.line.inner ≡ moment old.cache.line.inner
  reads_under a f writes =
      let none = reads_flush_not old.besides.mode call writes in
      since.along.still (a.reads writes) (omega (arith, f.no_fewer, f.most, none))

  pub answers_under : Flushes On (on_cache old) (on_cache new) call answer → IsAnswered On (on_cache old) (on_cache new) call answer → IsAnswered In old new call answer
  answers_under f a = record { may = a.may; mode = a.mode; reads = reads_under a f; silent = λ yes. quiet (a.silent yes) }

  pub flushes_under : HasCause old.cache.line.outer.failures answer new.cache.line.outer.failures → Flushes On (on_cache old) (on_cache new) call answer → Flushes In old new call answer
  flushes_under cause f = record {
    no_fewer = since.flushed.no_fewer;
    most = flushes_most old new was is since (most_flushes old.besides.mode call) f.most;
    few = λ s shown room_there. flushes_most old new was is since (if commits s call then 2 else 0) (f.few s shown room_there);
    exact = λ flush writable done. flushes_exact old new was is since (if changed old.besides.metadata then 2 else 1)
        (subst (λ (a : Answer). HasCause old.cache.line.outer.failures a new.cache.line.outer.failures) done cause) (f.exact flush writable done);
    committed = f.committed;
    unchanged = f.unchanged;
  }

  time_under : GoesOn In old new
  time_under =
      let between = more old new was is since in
      let e = joined old new was is since in
      record {
        later = omega (arith, ap length e, length-append between (moments old.cache.line.inner));
        still = λ t image le h. stopped_still image old.cache.line.inner new.cache.line.inner between e t le h;
        earlier = λ t image le h. stopped_earlier image old.cache.line.inner new.cache.line.inner between e t le h;
      }

  -- where no call of the disk was made
  still_under : (e : Event) → IsQuiet In old new → (IsTrue (keeps e.call e.answer) → (P : PlainPool) → found_now In new P → MayReopen e.made Nothing P)
      → StopsWithin (found_now In old) e (found_since In new (moment old.cache.line.inner)) (found_now In new)
  still_under e q kept =
      let cells : new.cache.line.inner.cells ≡ old.cache.line.inner.cells
      = still_cells (more old new was is since) old.cache.line.inner new.cache.line.inner (joined old new was is since) q.moment in
      let here : (P : PlainPool) → found_now In new P → During (found_now In old) e P
      = λ P found.
      let rest = laws_of.at_rest found.0 P found.2 in
      inl (
        P,
        inl (found.0, subst (λ (c : Cells). AfterStop c found.0) cells found.1, found.2),
        subst (λ (Q : PlainPool). MayReopen P (GivenBy e) Q) (sym rest) (MayReopen-reopened P (GivenBy e)),
      ) in
      record {
        any_moment = λ P found. here P (
          found.0,
          stopped_now found.0 new.cache.line.inner (subst (λ t. StoppedSince t new.cache.line.inner found.0) (sym q.moment) found.1),
          found.2,
        );
        now = here;
        kept = kept;
      }

  now_under : (P : PlainPool) → found_now In new P → found_now On (on_cache new) P
  now_under P found = (found.0, is.moments.now found.0 found.1, found.2)

  since_under : (P : PlainPool) → found_since In new (moment old.cache.line.inner) P → found_since On (on_cache new) (moment old.cache.line.outer) P
  since_under P found = (found.0, under old new was is since found.0 found.1, found.2)

  stops_under : (s made : PlainPool) → IsAnswered On (on_cache old) (on_cache new) call answer → shows geometry stands (on_cache old) s
      → StopsWithin (found_now On (on_cache old)) (record { before = s; call = call; answer = answer; made = made }) (found_since On (on_cache new) (moment old.cache.line.outer)) (found_now On (on_cache new))
      → StopsWithin (found_now In old) (record { before = s; call = call; answer = answer; made = made }) (found_since In new (moment old.cache.line.inner)) (found_now In new)
  stops_under s made answered (inl w) stops =
      StopsWithin-map (found_now On (on_cache old)) (found_now In old) (found_since On (on_cache new) (moment old.cache.line.outer)) (found_since In new (moment old.cache.line.inner))
      (found_now On (on_cache new)) (found_now In new) (record { before = s; call = call; answer = answer; made = made })
      (found_under geometry stands marks room changed left old was w.0 w.1 s w.2) since_under now_under stops
  stops_under s made answered (inr f) stops =
      still_under (record { before = s; call = call; answer = answer; made = made }) (quiet (answered.silent (failed_silent old.besides.mode call f.failed)))
      (λ yes P found. stops.kept yes P (now_under P found))

  pub called_under : IsAnswered On (on_cache old) (on_cache new) call answer → Called On (on_cache old) (on_cache new) call answer → Called In old new call answer
  called_under answered c = record {
    time = time_under;
    cause = cause_under old new was is since answer c.cause;
    opens = λ s shown image stop. c.opens s shown image (under old new was is since image stop);
    meets = λ s shown. let m = c.meets s shown in (m.0, m.1, m.2, m.3, stops_under s m.0 answered shown m.4);
  }

  pub meets_under : Meets On (on_cache old) (on_cache new) call answer → Meets In old new call answer
  meets_under m = record {
    geometry = m.geometry;
    holds = m.holds;
    more = m.more;
    told = m.told;
    answered = answers_under m.flushes m.answered;
    flushes = flushes_under m.called.cause m.flushes;
    called = called_under m.answered m.called;
  }

  -- ---- a call that is made but for its commit

  during_under : (s made P : PlainPool) → shows geometry stands (on_cache old) s → old.besides.mode ≡ mode.Writable
      → During (found_now On (on_cache old)) (record { before = s; call = call; answer = Done; made = made }) P → During (found_now In old) (record { before = s; call = call; answer = Done; made = made }) P
  during_under s made P (inl w) works during =
      During-map (found_now On (on_cache old)) (found_now In old) (record { before = s; call = call; answer = Done; made = made }) P (found_under geometry stands marks room changed left old was w.0 w.1 s w.2) during
  during_under s made P (inr f) works during = absurd (true≢false (sym (ap is_failed f.failed) ∙ ap is_failed works))

  pub unkept_under : Unkept On (on_cache old) (on_cache new) call → Unkept In old new call
  unkept_under u = record {
    works = u.works;
    outline = u.outline;
    more = u.more;
    failures = failures_to old new was is since ∙ u.failures ∙ sym (failures_from old new was is since);
    no_fewer = since.flushed.no_fewer;
    most = flushes_most old new was is since (if may_reclaim call then 2 else 0) u.most;
    few = λ s shown enough.
        let f : new.cache.line.outer.flushes ≡ old.cache.line.outer.flushes = u.few s shown enough in
        let no_more = since.flushed.no_more in
        let no_fewer = since.flushed.no_fewer in
        omega (arith, f, no_more, no_fewer);
    time = time_under;
    opens = λ s shown image stop. u.opens s shown image (under old new was is since image stop);
    meets = λ s shown. let m = u.meets s shown in (m.0, m.1, m.2, m.3, (λ P found. during_under s m.0 P shown u.works (m.4 P (since_under P found))));
  }

-- ---- opening

-- A pool on a cache that keeps nothing is opened from an image where the pool on the cache is.
module _ {M : Type 0} (geometry : M → Geometry) (stands : M → DiskState → Contents → Contents → Type 0) (marks : M → List Bool) (room : M → ℕ) (changed : M → Bool) where
  pub opened_under : (image : Image) (c : Cached M) → c.cache.line ≡ begun (disk_of c) → IsOpened (served geometry stands marks room changed) image (on_cache c) → IsOpened (cached geometry stands marks room changed) image c
  opened_under image c start is =
      let same : c.cache.line.outer ≡ disk_of c = ap (λ (l : Line). l.outer) start in
      record {
        shows = is.shows;
        opens = λ s it. subst (λ (d : DiskState). (left : Image) → StoppedSince (moment d) d left → (P : PlainPool) × (IsSomePool left × StandsFor left P)) same (is.opens s it);
        left = λ s S it found. is.left s S it (found.0, subst (λ (d : DiskState). AfterStop d.cells found.0) (sym same) found.1, found.2);
        unchanged = is.unchanged;
      }

  module _ (c opened : Cached M) (p : Held M) (is_it : c ≡ opened) (same : on_cache opened ≡ p) where
    pub shows_on : (s : PlainPool) → shows geometry stands p s → shows geometry stands (on_cache c) s
    shows_on s shown = subst (λ (o : Cached M). shows geometry stands (on_cache o) s) (sym is_it) (subst (λ (h : Held M). shows geometry stands h s) (sym same) shown)

    module _ (line : opened.cache.line ≡ begun p.disk) where
      pub opened_on : (image : Image) → IsOpened (served geometry stands marks room changed) image p → IsOpened (cached geometry stands marks room changed) image c
      opened_on image is =
          subst (λ (o : Cached M). IsOpened (cached geometry stands marks room changed) image o) (sym is_it)
          (opened_under image opened (line ∙ ap begun (sym (ap (λ (l : Line). l.inner) line))) (subst (λ (h : Held M). IsOpened (served geometry stands marks room changed) image h) (sym same) is))

      -- from the image that stands on the disk
      pub opened_here : IsOpened (served geometry stands marks room changed) (seen p.disk.cells) p → IsOpened (cached geometry stands marks room changed) (seen (disk_of c).cells) c
      opened_here is =
          let under : disk_of c ≡ p.disk = ap (λ (o : Cached M). disk_of o) is_it ∙ ap (λ (l : Line). l.inner) line in
          subst (λ (d : DiskState). IsOpened (cached geometry stands marks room changed) (seen d.cells) c) (sym under) (opened_on (seen p.disk.cells) is)
