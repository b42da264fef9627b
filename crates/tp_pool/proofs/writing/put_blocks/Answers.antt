use Rattle.std.proofs.Common.{[], ℕ, ◌≡◌, ◌⊎◌, ◌+◌, ◌/◌, ◌%◌, ◌<◌, ◌≤◌, length, Err, None, Some, ◌-◌, ◌*◌, ap, ◌∙◌, sym, refl, subst, arith, inl, inr, take, drop}
use Rattle.std.specs.Prelude.{Option, false, true, slice_index_or}
use Rattle.std.proofs.lemmas.List.{get_or_default}
use Rattle.std.proofs.lemmas.Result.{err_from_is_err_and}
use Rattle.tp_model.specs.Calls.{Write}
use Rattle.tp_model.specs.Geometry.{Geometry, IsWithinLimits, sectors_of_image}
use Rattle.tp_model.specs.Sectors.{sectors_of}
use Rattle.tp_counts.specs.declared.error.StoreError.{StoreError}
use Rattle.tp_counts.specs.declared.error.StoreError.TheVariants.{Damaged}
use Rattle.tp_model.proofs.DiskLaws.{length-sectors_of}
use Rattle.tp_stored.specs.Contents.{Contents}
use Rattle.tp_mapping.specs.Mapping.{free_places}
use Rattle.tp_shown.specs.Shown.{blocks_touched}
use Rattle.tp_meta.specs.Metadata.{IsInside, Ran}
use Rattle.tp_meta.specs.declared.metadata.Home.{Home}
use Rattle.tp_pool.specs.Held.{most_sectors}
use Rattle.tp_pool.specs.Writing.{AreInBlocks, HasWrittenPart, IsKnown, own_place, takes_block, told_taken}
use Rattle.tp_pool.proofs.Halves.{half_starts}
use Rattle.tp_pool.proofs.Looping.{are_free, begins, begun_more, half_more, known_still, part_length, part_sectors, reached_part, written_all}
use Rattle.tp_pool.proofs.Rooms.{all_taken_at, index_is, known_at, run_fits, taken_is}
use Rattle.tp_pool.proofs.Rounds.{ends_at, few_touched, in_blocks, touched_few, touched_sum}
use Rattle.tp_pool.proofs.Taken.{none_passes, not_own_if_told}
use Rattle.tp_counts.proofs.Refusing.{fault_is, refusal_is}
use Rattle.tp_pool.proofs.Runs.{at_rest_ran, ran_at_most, ran_joins}
use Rattle.tp_pool.proofs.writing.put_blocks.Goals as goal

pub loop-done-init : goal.loop-done-init
loop-done-init g c =
    let M = g.M.Metadata in
    let size = M.geometry c.args.metadata.now in
    let old = g.D.Disk.state c.args.disk.now in
    record {
      blocks = refl;
      most = omega arith;
      ends = inl refl;
      few = omega arith;
      ran = ran_at_most (at_rest_ran old) (omega arith);
      left = λ now kept stood device. half_starts size (Write c.args.id c.args.sector (sectors_of c.args.bytes.now) false) c.args.id [] kept old (g.met.M.Metadata.left c.args.metadata.now old now kept stood);
      stays = λ all. refl;
      begun = λ now kept stood device. begins M.geometry M.stands M.marks c.args.id c.args.sector (sectors_of c.args.bytes.now) (length c.args.bytes.now / 512) c.args.metadata.now old now kept stood;
    }

pub blocks_together-run-requires-clause-inside : goal.blocks_together-run-requires-clause-inside
blocks_together-run-requires-clause-inside g c =
    let size = g.M.Metadata.geometry c.args.metadata.now in
    let limits : IsWithinLimits size = subst IsWithinLimits c.geometry-geometry.ensures c.index_of-index.ensures.limits in
    let pos : 0 < size.block_sectors = omega (arith, limits.block_least) in
    let done = c.loop-done.done in
    let count = length c.args.bytes.now / 512 in
    let homes = c.args.homes.now in
    let index : c.index_of-index.result ≡ (c.args.sector + done) / size.block_sectors - c.args.sector / size.block_sectors =
    c.index_of-index.ensures.index ∙ ap (λ (x : Geometry). (c.args.sector + done) / x.block_sectors - c.args.sector / x.block_sectors) c.geometry-geometry.ensures in
    let among = index_is size homes c.args.sector done count pos c.loop-done-test.true c.requires.homes in
    omega (arith, among.0, index)

pub bounds-homes-index : goal.bounds-homes-index
bounds-homes-index g c =
    let size = g.M.Metadata.geometry c.args.metadata.now in
    let limits : IsWithinLimits size = subst IsWithinLimits c.geometry-geometry.ensures c.index_of-index.ensures.limits in
    let pos : 0 < size.block_sectors = omega (arith, limits.block_least) in
    let done = c.loop-done.done in
    let count = length c.args.bytes.now / 512 in
    let homes = c.args.homes.now in
    let index : c.index_of-index.result ≡ (c.args.sector + done) / size.block_sectors - c.args.sector / size.block_sectors =
    c.index_of-index.ensures.index ∙ ap (λ (x : Geometry). (c.args.sector + done) / x.block_sectors - c.args.sector / x.block_sectors) c.geometry-geometry.ensures in
    let among = index_is size homes c.args.sector done count pos c.loop-done-test.true c.requires.homes in
    omega (arith, among.0, index)

pub part_of-part-requires-clause-few : goal.part_of-part-requires-clause-few
part_of-part-requires-clause-few g c = omega (arith, c.blocks_together-run.ensures.most, c.requires.few)

pub put_part-requires-clause-blocks : goal.put_part-requires-clause-blocks
put_part-requires-clause-blocks g c = c.loop-done.invariant.blocks ∙ (c.requires.blocks ∙ sym c.loop-done.invariant.ran.geometry)

pub put_part-requires-clause-disk : goal.put_part-requires-clause-disk
put_part-requires-clause-disk g c =
    subst (λ (x : Geometry). sectors_of_image x ≤ (g.D.Disk.state c.loop-done.disk).size) (sym c.loop-done.invariant.ran.geometry)
    (omega (arith, c.requires.disk, c.loop-done.invariant.ran.same_disk.size))

pub put_part-requires-clause-most : goal.put_part-requires-clause-most
put_part-requires-clause-most g c =
    let size = g.M.Metadata.geometry c.args.metadata.now in
    let limits : IsWithinLimits size = subst IsWithinLimits c.geometry-geometry.ensures c.index_of-index.ensures.limits in
    let pos : 0 < size.block_sectors = omega (arith, limits.block_least) in
    let done = c.loop-done.done in
    let count = length c.args.bytes.now / 512 in
    let homes = c.args.homes.now in
    let index : c.index_of-index.result ≡ (c.args.sector + done) / size.block_sectors - c.args.sector / size.block_sectors =
    c.index_of-index.ensures.index ∙ ap (λ (x : Geometry). (c.args.sector + done) / x.block_sectors - c.args.sector / x.block_sectors) c.geometry-geometry.ensures in
    let among = index_is size homes c.args.sector done count pos c.loop-done-test.true c.requires.homes in
    let n = c.part_of-part.result in
    let bytes = c.args.bytes.now in
    let fits : done + n ≤ count = omega (arith, c.part_of-part.ensures.most, c.loop-done-test.true) in
    let part_long : length (take (512 * (done + n) - 512 * done) (drop (512 * done) bytes)) / 512 ≡ n = let l = part_length bytes done n c.requires.whole fits in omega (arith, l) in
    omega (arith, part_long, fits, c.requires.most)

pub put_part-requires-clause-alone : goal.put_part-requires-clause-alone
put_part-requires-clause-alone g c none =
    let size = g.M.Metadata.geometry c.args.metadata.now in
    let limits : IsWithinLimits size = subst IsWithinLimits c.geometry-geometry.ensures c.index_of-index.ensures.limits in
    let pos : 0 < size.block_sectors = omega (arith, limits.block_least) in
    let done = c.loop-done.done in
    let count = length c.args.bytes.now / 512 in
    let homes = c.args.homes.now in
    let index : c.index_of-index.result ≡ (c.args.sector + done) / size.block_sectors - c.args.sector / size.block_sectors =
    c.index_of-index.ensures.index ∙ ap (λ (x : Geometry). (c.args.sector + done) / x.block_sectors - c.args.sector / x.block_sectors) c.geometry-geometry.ensures in
    let among = index_is size homes c.args.sector done count pos c.loop-done-test.true c.requires.homes in
    let n = c.part_of-part.result in
    let run = c.blocks_together-run.result in
    let place = (c.args.sector + done) / size.block_sectors - c.args.sector / size.block_sectors in
    let most : place + run ≤ length homes = omega (arith, c.blocks_together-run.ensures.most, index) in
    let part_fits : (c.args.sector + done) % size.block_sectors + n ≤ run * size.block_sectors =
    subst (λ (x : Geometry). (c.args.sector + done) % x.block_sectors + n ≤ run * x.block_sectors) c.geometry-geometry.ensures c.part_of-part.ensures.inside in
    let runs : (p : ℕ) → own_place (slice_index_or homes place None) ≡ Some p → (j : ℕ) → j < run → own_place (slice_index_or homes (place + j) None) ≡ Some (p + j) =
    subst (λ (k : ℕ). (p : ℕ) → own_place (slice_index_or homes k None) ≡ Some p → (j : ℕ) → j < run → own_place (slice_index_or homes (k + j) None) ≡ Some (p + j)) index c.blocks_together-run.ensures.run in
    let is : c.index-homes-index.result ≡ slice_index_or homes place None =
    c.index-homes-index.is ∙ (get_or_default homes c.index_of-index.result c.index-homes-index.result None (omega (arith, index, among.0)) ∙ ap (λ k. slice_index_or homes k None) index) in
    let bytes = c.args.bytes.now in
    let fits : done + n ≤ count = omega (arith, c.part_of-part.ensures.most, c.loop-done-test.true) in
    let part_long : length (take (512 * (done + n) - 512 * done) (drop (512 * done) bytes)) / 512 ≡ n = let l = part_length bytes done n c.requires.whole fits in omega (arith, l) in
    let part_ends : (n ≡ count - done) ⊎ ((c.args.sector + done) % size.block_sectors + n ≡ run * size.block_sectors) =
    subst (λ (x : Geometry). (n ≡ count - done) ⊎ ((c.args.sector + done) % x.block_sectors + n ≡ run * x.block_sectors)) c.geometry-geometry.ensures c.part_of-part.ensures.ends in
    let whole : own_place (slice_index_or homes place None) ≡ None → (run ≡ 1) ⊎ (((c.args.sector + done) % size.block_sectors ≡ 0) × (run * size.block_sectors ≤ count - done)) =
    subst (λ (k : ℕ). own_place (slice_index_or homes k None) ≡ None → (run ≡ 1) ⊎ (((c.args.sector + done) % size.block_sectors ≡ 0) × (run * size.block_sectors ≤ count - done))) index
    (subst (λ (x : Geometry). own_place (slice_index_or homes c.index_of-index.result None) ≡ None → (run ≡ 1) ⊎ (((c.args.sector + done) % x.block_sectors ≡ 0) × (run * x.block_sectors ≤ count - done))) c.geometry-geometry.ensures
    c.blocks_together-run.ensures.whole) in
    let blocks : AreInBlocks size (c.args.sector + done) n = in_blocks size pos (c.args.sector + done) n run (count - done) part_fits part_ends (whole (sym (ap own_place is) ∙ none)) in
    subst (λ (x : Geometry). AreInBlocks x (c.args.sector + done) (length (take (512 * (done + n) - 512 * done) (drop (512 * done) bytes)) / 512)) (sym c.loop-done.invariant.ran.geometry)
    (subst (AreInBlocks size (c.args.sector + done)) (sym part_long) blocks)

pub put_part-requires-clause-inside : goal.put_part-requires-clause-inside
put_part-requires-clause-inside g c at own =
    let size = g.M.Metadata.geometry c.args.metadata.now in
    let limits : IsWithinLimits size = subst IsWithinLimits c.geometry-geometry.ensures c.index_of-index.ensures.limits in
    let pos : 0 < size.block_sectors = omega (arith, limits.block_least) in
    let done = c.loop-done.done in
    let count = length c.args.bytes.now / 512 in
    let homes = c.args.homes.now in
    let index : c.index_of-index.result ≡ (c.args.sector + done) / size.block_sectors - c.args.sector / size.block_sectors =
    c.index_of-index.ensures.index ∙ ap (λ (x : Geometry). (c.args.sector + done) / x.block_sectors - c.args.sector / x.block_sectors) c.geometry-geometry.ensures in
    let among = index_is size homes c.args.sector done count pos c.loop-done-test.true c.requires.homes in
    let n = c.part_of-part.result in
    let run = c.blocks_together-run.result in
    let place = (c.args.sector + done) / size.block_sectors - c.args.sector / size.block_sectors in
    let most : place + run ≤ length homes = omega (arith, c.blocks_together-run.ensures.most, index) in
    let part_fits : (c.args.sector + done) % size.block_sectors + n ≤ run * size.block_sectors =
    subst (λ (x : Geometry). (c.args.sector + done) % x.block_sectors + n ≤ run * x.block_sectors) c.geometry-geometry.ensures c.part_of-part.ensures.inside in
    let runs : (p : ℕ) → own_place (slice_index_or homes place None) ≡ Some p → (j : ℕ) → j < run → own_place (slice_index_or homes (place + j) None) ≡ Some (p + j) =
    subst (λ (k : ℕ). (p : ℕ) → own_place (slice_index_or homes k None) ≡ Some p → (j : ℕ) → j < run → own_place (slice_index_or homes (k + j) None) ≡ Some (p + j)) index c.blocks_together-run.ensures.run in
    let is : c.index-homes-index.result ≡ slice_index_or homes place None =
    c.index-homes-index.is ∙ (get_or_default homes c.index_of-index.result c.index-homes-index.result None (omega (arith, index, among.0)) ∙ ap (λ k. slice_index_or homes k None) index) in
    let bytes = c.args.bytes.now in
    let fits : done + n ≤ count = omega (arith, c.part_of-part.ensures.most, c.loop-done-test.true) in
    let part_long : length (take (512 * (done + n) - 512 * done) (drop (512 * done) bytes)) / 512 ≡ n = let l = part_length bytes done n c.requires.whole fits in omega (arith, l) in
    let last = run_fits size homes c.args.sector done count pos c.loop-done-test.true c.requires.homes n run c.blocks_together-run.ensures.some most part_fits runs c.requires.places at (sym (ap own_place is) ∙ own) in
    subst (λ (x : Geometry). at * x.block_sectors + (c.args.sector + done) % x.block_sectors + length (take (512 * (done + n) - 512 * done) (drop (512 * done) bytes)) / 512 ≤ x.data_blocks * x.block_sectors) (sym c.loop-done.invariant.ran.geometry)
    (omega (arith, last, part_long))

pub put_part-requires-clause-within : goal.put_part-requires-clause-within
put_part-requires-clause-within g c =
    let done = c.loop-done.done in
    let count = length c.args.bytes.now / 512 in
    let n = c.part_of-part.result in
    let bytes = c.args.bytes.now in
    let fits : done + n ≤ count = omega (arith, c.part_of-part.ensures.most, c.loop-done-test.true) in
    let part_long : length (take (512 * (done + n) - 512 * done) (drop (512 * done) bytes)) / 512 ≡ n = let l = part_length bytes done n c.requires.whole fits in omega (arith, l) in
    subst (λ (x : Geometry). c.args.sector + done + length (take (512 * (done + n) - 512 * done) (drop (512 * done) bytes)) / 512 ≤ most_sectors x) (sym c.loop-done.invariant.ran.geometry) (omega (arith, c.requires.within, part_long, fits))

pub put_part-requires-clause-place : goal.put_part-requires-clause-place
put_part-requires-clause-place g c =
    let size = g.M.Metadata.geometry c.args.metadata.now in
    let limits : IsWithinLimits size = subst IsWithinLimits c.geometry-geometry.ensures c.index_of-index.ensures.limits in
    let pos : 0 < size.block_sectors = omega (arith, limits.block_least) in
    let done = c.loop-done.done in
    let count = length c.args.bytes.now / 512 in
    let homes = c.args.homes.now in
    let index : c.index_of-index.result ≡ (c.args.sector + done) / size.block_sectors - c.args.sector / size.block_sectors =
    c.index_of-index.ensures.index ∙ ap (λ (x : Geometry). (c.args.sector + done) / x.block_sectors - c.args.sector / x.block_sectors) c.geometry-geometry.ensures in
    let among = index_is size homes c.args.sector done count pos c.loop-done-test.true c.requires.homes in
    let n = c.part_of-part.result in
    let run = c.blocks_together-run.result in
    let place = (c.args.sector + done) / size.block_sectors - c.args.sector / size.block_sectors in
    let most : place + run ≤ length homes = omega (arith, c.blocks_together-run.ensures.most, index) in
    let part_fits : (c.args.sector + done) % size.block_sectors + n ≤ run * size.block_sectors =
    subst (λ (x : Geometry). (c.args.sector + done) % x.block_sectors + n ≤ run * x.block_sectors) c.geometry-geometry.ensures c.part_of-part.ensures.inside in
    let runs : (p : ℕ) → own_place (slice_index_or homes place None) ≡ Some p → (j : ℕ) → j < run → own_place (slice_index_or homes (place + j) None) ≡ Some (p + j) =
    subst (λ (k : ℕ). (p : ℕ) → own_place (slice_index_or homes k None) ≡ Some p → (j : ℕ) → j < run → own_place (slice_index_or homes (k + j) None) ≡ Some (p + j)) index c.blocks_together-run.ensures.run in
    let is : c.index-homes-index.result ≡ slice_index_or homes place None =
    c.index-homes-index.is ∙ (get_or_default homes c.index_of-index.result c.index-homes-index.result None (omega (arith, index, among.0)) ∙ ap (λ k. slice_index_or homes k None) index) in
    subst (λ (x : Geometry). IsInside x.data_blocks c.index-homes-index.result) (sym c.loop-done.invariant.ran.geometry)
    (subst (λ (o : Option Home). IsInside size.data_blocks o) (sym is) (c.requires.places place among.0))

pub put_part-requires-clause-room : goal.put_part-requires-clause-room
put_part-requires-clause-room g c =
    let M = g.M.Metadata in
    let inv = c.loop-done.invariant in
    let size = g.M.Metadata.geometry c.args.metadata.now in
    let limits : IsWithinLimits size = subst IsWithinLimits c.geometry-geometry.ensures c.index_of-index.ensures.limits in
    let pos : 0 < size.block_sectors = omega (arith, limits.block_least) in
    let done = c.loop-done.done in
    let count = length c.args.bytes.now / 512 in
    let homes = c.args.homes.now in
    let index : c.index_of-index.result ≡ (c.args.sector + done) / size.block_sectors - c.args.sector / size.block_sectors =
    c.index_of-index.ensures.index ∙ ap (λ (x : Geometry). (c.args.sector + done) / x.block_sectors - c.args.sector / x.block_sectors) c.geometry-geometry.ensures in
    let among = index_is size homes c.args.sector done count pos c.loop-done-test.true c.requires.homes in
    let n = c.part_of-part.result in
    let bytes = c.args.bytes.now in
    let fits : done + n ≤ count = omega (arith, c.part_of-part.ensures.most, c.loop-done-test.true) in
    let part_long : length (take (512 * (done + n) - 512 * done) (drop (512 * done) bytes)) / 512 ≡ n = let l = part_length bytes done n c.requires.whole fits in omega (arith, l) in
    let starts : (done ≡ 0) ⊎ ((c.args.sector + done) % size.block_sectors ≡ 0) = elim inv.ends [ inl e ↦ inl e | inr (inl e) ↦ absurd (omega (arith, e, c.loop-done-test.true)) | inr (inr e) ↦ inr e ] in
    let sum = touched_sum size pos c.args.sector done n starts c.part_of-part.ensures.some in
    let few = few_touched size pos c.args.sector (done + n) limits.block_least (omega (arith, c.requires.most, fits)) in
    let here : blocks_touched (M.geometry c.loop-done.metadata) (c.args.sector + done) (length (take (512 * (done + n) - 512 * done) (drop (512 * done) bytes)) / 512) ≡ blocks_touched size (c.args.sector + done) n =
    (λ i. blocks_touched (inv.ran.geometry i) (c.args.sector + done) (part_long i)) in
    omega (arith, c.requires.room, inv.ran.room, here, sum, few)

pub returns-in_err-put_part-clause-left : goal.returns-in_err-put_part-clause-left
returns-in_err-put_part-clause-left g c now kept stood device =
    let M = g.M.Metadata in
    let inv = c.loop-done.invariant in
    let size = g.M.Metadata.geometry c.args.metadata.now in
    let limits : IsWithinLimits size = subst IsWithinLimits c.geometry-geometry.ensures c.index_of-index.ensures.limits in
    let pos : 0 < size.block_sectors = omega (arith, limits.block_least) in
    let done = c.loop-done.done in
    let count = length c.args.bytes.now / 512 in
    let homes = c.args.homes.now in
    let index : c.index_of-index.result ≡ (c.args.sector + done) / size.block_sectors - c.args.sector / size.block_sectors =
    c.index_of-index.ensures.index ∙ ap (λ (x : Geometry). (c.args.sector + done) / x.block_sectors - c.args.sector / x.block_sectors) c.geometry-geometry.ensures in
    let among = index_is size homes c.args.sector done count pos c.loop-done-test.true c.requires.homes in
    let n = c.part_of-part.result in
    let run = c.blocks_together-run.result in
    let place = (c.args.sector + done) / size.block_sectors - c.args.sector / size.block_sectors in
    let most : place + run ≤ length homes = omega (arith, c.blocks_together-run.ensures.most, index) in
    let part_fits : (c.args.sector + done) % size.block_sectors + n ≤ run * size.block_sectors =
    subst (λ (x : Geometry). (c.args.sector + done) % x.block_sectors + n ≤ run * x.block_sectors) c.geometry-geometry.ensures c.part_of-part.ensures.inside in
    let runs : (p : ℕ) → own_place (slice_index_or homes place None) ≡ Some p → (j : ℕ) → j < run → own_place (slice_index_or homes (place + j) None) ≡ Some (p + j) =
    subst (λ (k : ℕ). (p : ℕ) → own_place (slice_index_or homes k None) ≡ Some p → (j : ℕ) → j < run → own_place (slice_index_or homes (k + j) None) ≡ Some (p + j)) index c.blocks_together-run.ensures.run in
    let is : c.index-homes-index.result ≡ slice_index_or homes place None =
    c.index-homes-index.is ∙ (get_or_default homes c.index_of-index.result c.index-homes-index.result None (omega (arith, index, among.0)) ∙ ap (λ k. slice_index_or homes k None) index) in
    let bytes = c.args.bytes.now in
    let fits : done + n ≤ count = omega (arith, c.part_of-part.ensures.most, c.loop-done-test.true) in
    let part_long : length (take (512 * (done + n) - 512 * done) (drop (512 * done) bytes)) / 512 ≡ n = let l = part_length bytes done n c.requires.whole fits in omega (arith, l) in
    let marks = M.marks c.args.metadata.now in
    let before : (now kept : Contents) → M.stands c.args.metadata.now (g.D.Disk.state c.args.disk.now) now kept → IsKnown size c.args.id (c.args.sector + done) n now.volumes marks c.index-homes-index.result =
    λ now kept stood. subst (λ (o : Option Home). IsKnown size c.args.id (c.args.sector + done) n now.volumes marks o) (sym is)
    (known_at size homes c.args.sector done count pos c.loop-done-test.true c.requires.homes n run c.blocks_together-run.ensures.some most part_fits runs c.args.id now.volumes marks
    (g.met.M.Metadata.within c.args.metadata.now (g.D.Disk.state c.args.disk.now) now kept stood).volumes_now (c.requires.told now kept stood)) in
    let old = g.D.Disk.state c.args.disk.now in
    let between = g.D.Disk.state c.loop-done.disk in
    let new = g.D.Disk.state c.put_part.new.disk in
    let begun = inv.begun now kept stood device in
    half_more M.geometry M.stands M.marks c.args.id c.args.sector (sectors_of bytes) count (length-sectors_of bytes) done n c.part_of-part.ensures.some fits c.args.metadata.now c.loop-done.metadata c.put_part.new.metadata old between new now kept inv.ran.geometry
    (sectors_of (take (512 * (done + n) - 512 * done) (drop (512 * done) bytes))) (part_sectors bytes done n c.requires.whole fits) (inv.left now kept stood device)
    (c.put_part.ensures.left (record now { volumes = begun.volumes; meta_used = begun.meta_used }) kept begun.standing (reached_part M.geometry M.stands M.marks c.args.id c.args.sector (sectors_of bytes) count (length-sectors_of bytes) done n c.part_of-part.ensures.some fits c.args.metadata.now c.loop-done.metadata c.put_part.new.metadata old between new now kept inv.ran.geometry begun (sectors_of (take (512 * (done + n) - 512 * done) (drop (512 * done) bytes))) (part_sectors bytes done n c.requires.whole fits) device)
    (subst (λ k. IsKnown (M.geometry c.loop-done.metadata) c.args.id (c.args.sector + done) k begun.volumes (M.marks c.loop-done.metadata) c.index-homes-index.result) (sym part_long)
    (known_still M.geometry M.stands M.marks c.args.id c.args.sector (sectors_of bytes) count (length-sectors_of bytes) done n c.part_of-part.ensures.some fits c.args.metadata.now c.loop-done.metadata c.put_part.new.metadata old between new now kept inv.ran.geometry
    pos begun c.index-homes-index.result (before now kept stood))))

pub returns-in_err-put_part-clause-damaged : goal.returns-in_err-put_part-clause-damaged
returns-in_err-put_part-clause-damaged g c e now kept stood device free =
    let M = g.M.Metadata in
    let inv = c.loop-done.invariant in
    let size = g.M.Metadata.geometry c.args.metadata.now in
    let limits : IsWithinLimits size = subst IsWithinLimits c.geometry-geometry.ensures c.index_of-index.ensures.limits in
    let pos : 0 < size.block_sectors = omega (arith, limits.block_least) in
    let done = c.loop-done.done in
    let count = length c.args.bytes.now / 512 in
    let homes = c.args.homes.now in
    let index : c.index_of-index.result ≡ (c.args.sector + done) / size.block_sectors - c.args.sector / size.block_sectors =
    c.index_of-index.ensures.index ∙ ap (λ (x : Geometry). (c.args.sector + done) / x.block_sectors - c.args.sector / x.block_sectors) c.geometry-geometry.ensures in
    let among = index_is size homes c.args.sector done count pos c.loop-done-test.true c.requires.homes in
    let n = c.part_of-part.result in
    let run = c.blocks_together-run.result in
    let place = (c.args.sector + done) / size.block_sectors - c.args.sector / size.block_sectors in
    let most : place + run ≤ length homes = omega (arith, c.blocks_together-run.ensures.most, index) in
    let part_fits : (c.args.sector + done) % size.block_sectors + n ≤ run * size.block_sectors =
    subst (λ (x : Geometry). (c.args.sector + done) % x.block_sectors + n ≤ run * x.block_sectors) c.geometry-geometry.ensures c.part_of-part.ensures.inside in
    let runs : (p : ℕ) → own_place (slice_index_or homes place None) ≡ Some p → (j : ℕ) → j < run → own_place (slice_index_or homes (place + j) None) ≡ Some (p + j) =
    subst (λ (k : ℕ). (p : ℕ) → own_place (slice_index_or homes k None) ≡ Some p → (j : ℕ) → j < run → own_place (slice_index_or homes (k + j) None) ≡ Some (p + j)) index c.blocks_together-run.ensures.run in
    let is : c.index-homes-index.result ≡ slice_index_or homes place None =
    c.index-homes-index.is ∙ (get_or_default homes c.index_of-index.result c.index-homes-index.result None (omega (arith, index, among.0)) ∙ ap (λ k. slice_index_or homes k None) index) in
    let bytes = c.args.bytes.now in
    let fits : done + n ≤ count = omega (arith, c.part_of-part.ensures.most, c.loop-done-test.true) in
    let part_long : length (take (512 * (done + n) - 512 * done) (drop (512 * done) bytes)) / 512 ≡ n = let l = part_length bytes done n c.requires.whole fits in omega (arith, l) in
    let part_ends : (n ≡ count - done) ⊎ ((c.args.sector + done) % size.block_sectors + n ≡ run * size.block_sectors) =
    subst (λ (x : Geometry). (n ≡ count - done) ⊎ ((c.args.sector + done) % x.block_sectors + n ≡ run * x.block_sectors)) c.geometry-geometry.ensures c.part_of-part.ensures.ends in
    let ends : (n ≡ count - done) ⊎ ((c.args.sector + done + n) % size.block_sectors ≡ 0) = elim part_ends [ inl e ↦ inl e | inr e ↦ inr (ends_at size pos (c.args.sector + done) n run e) ] in
    let few_here = touched_few size pos (c.args.sector + done) n run c.part_of-part.ensures.some part_fits in
    let news : own_place (slice_index_or homes place None) ≡ None → (j : ℕ) → j < run → own_place (slice_index_or homes (place + j) None) ≡ None =
    subst (λ (k : ℕ). own_place (slice_index_or homes k None) ≡ None → (j : ℕ) → j < run → own_place (slice_index_or homes (k + j) None) ≡ None) index c.blocks_together-run.ensures.new in
    let taken : (now kept : Contents) → M.stands c.args.metadata.now (g.D.Disk.state c.args.disk.now) now kept → told_taken c.index-homes-index.result ≡ true
    → (j : ℕ) → j < blocks_touched size (c.args.sector + done) n → takes_block c.args.id now.volumes (M.marks c.args.metadata.now) ((c.args.sector + done) / size.block_sectors + j) ≡ true =
    λ now kept stood told j lt.
    let none = not_own_if_told (slice_index_or homes place None) (ap told_taken (sym is) ∙ told) in
    all_taken_at size homes c.args.sector done count pos c.loop-done-test.true c.requires.homes n run c.blocks_together-run.ensures.some most part_fits runs none (news none) c.args.id now.volumes (M.marks c.args.metadata.now)
    (g.met.M.Metadata.within c.args.metadata.now (g.D.Disk.state c.args.disk.now) now kept stood).volumes_now (c.requires.told now kept stood) j (omega (arith, lt, few_here)) in
    let p = err_from_is_err_and c.from_residual.result c.from_residual.ensures.1 in
    let old = g.D.Disk.state c.args.disk.now in
    let between = g.D.Disk.state c.loop-done.disk in
    let new = g.D.Disk.state c.put_part.new.disk in
    let begun = inv.begun now kept stood device in
    c.in_err-put_part.ensures.damaged (ap (λ (z : StoreError). Err z) (refusal_is c.from_residual.result p.0 c.in_err-put_part.field-0.0 Damaged p.1 p.2 e))
    (record now { volumes = begun.volumes; meta_used = begun.meta_used }) kept begun.standing (reached_part M.geometry M.stands M.marks c.args.id c.args.sector (sectors_of bytes) count (length-sectors_of bytes) done n c.part_of-part.ensures.some fits c.args.metadata.now c.loop-done.metadata c.put_part.new.metadata old between new now kept inv.ran.geometry begun (sectors_of (take (512 * (done + n) - 512 * done) (drop (512 * done) bytes))) (part_sectors bytes done n c.requires.whole fits) device)
    (λ takes.
    subst (λ k. blocks_touched (M.geometry c.loop-done.metadata) (c.args.sector + done) k ≤ free_places (M.geometry c.loop-done.metadata) begun.volumes kept.volumes) (sym part_long)
    (are_free M.geometry M.stands M.marks c.args.id c.args.sector (sectors_of bytes) count (length-sectors_of bytes) done n c.part_of-part.ensures.some fits c.args.metadata.now c.loop-done.metadata c.put_part.new.metadata
    (g.D.Disk.state c.args.disk.now) (g.D.Disk.state c.loop-done.disk) (g.D.Disk.state c.put_part.new.disk) now kept inv.ran.geometry pos begun free (taken now kept stood takes) ends))

pub returns-in_err-put_part-clause-ran : goal.returns-in_err-put_part-clause-ran
returns-in_err-put_part-clause-ran g c =
    let M = g.M.Metadata in
    let inv = c.loop-done.invariant in
    let size = g.M.Metadata.geometry c.args.metadata.now in
    let limits : IsWithinLimits size = subst IsWithinLimits c.geometry-geometry.ensures c.index_of-index.ensures.limits in
    let pos : 0 < size.block_sectors = omega (arith, limits.block_least) in
    let done = c.loop-done.done in
    let count = length c.args.bytes.now / 512 in
    let homes = c.args.homes.now in
    let index : c.index_of-index.result ≡ (c.args.sector + done) / size.block_sectors - c.args.sector / size.block_sectors =
    c.index_of-index.ensures.index ∙ ap (λ (x : Geometry). (c.args.sector + done) / x.block_sectors - c.args.sector / x.block_sectors) c.geometry-geometry.ensures in
    let among = index_is size homes c.args.sector done count pos c.loop-done-test.true c.requires.homes in
    let n = c.part_of-part.result in
    let bytes = c.args.bytes.now in
    let fits : done + n ≤ count = omega (arith, c.part_of-part.ensures.most, c.loop-done-test.true) in
    let part_long : length (take (512 * (done + n) - 512 * done) (drop (512 * done) bytes)) / 512 ≡ n = let l = part_length bytes done n c.requires.whole fits in omega (arith, l) in
    let starts : (done ≡ 0) ⊎ ((c.args.sector + done) % size.block_sectors ≡ 0) = elim inv.ends [ inl e ↦ inl e | inr (inl e) ↦ absurd (omega (arith, e, c.loop-done-test.true)) | inr (inr e) ↦ inr e ] in
    let sum = touched_sum size pos c.args.sector done n starts c.part_of-part.ensures.some in
    let few = few_touched size pos c.args.sector (done + n) limits.block_least (omega (arith, c.requires.most, fits)) in
    let here : blocks_touched (M.geometry c.loop-done.metadata) (c.args.sector + done) (length (take (512 * (done + n) - 512 * done) (drop (512 * done) bytes)) / 512) ≡ blocks_touched size (c.args.sector + done) n =
    (λ i. blocks_touched (inv.ran.geometry i) (c.args.sector + done) (part_long i)) in
    let p = err_from_is_err_and c.from_residual.result c.from_residual.ensures.1 in
    subst (λ b. Ran 272 b (M.room c.args.metadata.now) (M.room c.put_part.new.metadata) size (M.geometry c.put_part.new.metadata) (g.D.Disk.state c.args.disk.now) (g.D.Disk.state c.put_part.new.disk))
    (sym (fault_is c.from_residual.result p.0 c.in_err-put_part.field-0.0 p.1 p.2))
    (ran_at_most (ran_joins inv.ran c.in_err-put_part.ensures.ran refl) (omega (arith, here, sum, few)))

pub returns-in_err-put_part-clause-blocks : goal.returns-in_err-put_part-clause-blocks
returns-in_err-put_part-clause-blocks g c = c.put_part.ensures.blocks ∙ c.loop-done.invariant.blocks

pub loop-done-preserved : goal.loop-done-preserved
loop-done-preserved g c =
    let M = g.M.Metadata in
    let inv = c.loop-done.invariant in
    let size = g.M.Metadata.geometry c.args.metadata.now in
    let limits : IsWithinLimits size = subst IsWithinLimits c.geometry-geometry.ensures c.index_of-index.ensures.limits in
    let pos : 0 < size.block_sectors = omega (arith, limits.block_least) in
    let done = c.loop-done.done in
    let count = length c.args.bytes.now / 512 in
    let homes = c.args.homes.now in
    let index : c.index_of-index.result ≡ (c.args.sector + done) / size.block_sectors - c.args.sector / size.block_sectors =
    c.index_of-index.ensures.index ∙ ap (λ (x : Geometry). (c.args.sector + done) / x.block_sectors - c.args.sector / x.block_sectors) c.geometry-geometry.ensures in
    let among = index_is size homes c.args.sector done count pos c.loop-done-test.true c.requires.homes in
    let n = c.part_of-part.result in
    let run = c.blocks_together-run.result in
    let place = (c.args.sector + done) / size.block_sectors - c.args.sector / size.block_sectors in
    let most : place + run ≤ length homes = omega (arith, c.blocks_together-run.ensures.most, index) in
    let part_fits : (c.args.sector + done) % size.block_sectors + n ≤ run * size.block_sectors =
    subst (λ (x : Geometry). (c.args.sector + done) % x.block_sectors + n ≤ run * x.block_sectors) c.geometry-geometry.ensures c.part_of-part.ensures.inside in
    let runs : (p : ℕ) → own_place (slice_index_or homes place None) ≡ Some p → (j : ℕ) → j < run → own_place (slice_index_or homes (place + j) None) ≡ Some (p + j) =
    subst (λ (k : ℕ). (p : ℕ) → own_place (slice_index_or homes k None) ≡ Some p → (j : ℕ) → j < run → own_place (slice_index_or homes (k + j) None) ≡ Some (p + j)) index c.blocks_together-run.ensures.run in
    let is : c.index-homes-index.result ≡ slice_index_or homes place None =
    c.index-homes-index.is ∙ (get_or_default homes c.index_of-index.result c.index-homes-index.result None (omega (arith, index, among.0)) ∙ ap (λ k. slice_index_or homes k None) index) in
    let bytes = c.args.bytes.now in
    let fits : done + n ≤ count = omega (arith, c.part_of-part.ensures.most, c.loop-done-test.true) in
    let part_long : length (take (512 * (done + n) - 512 * done) (drop (512 * done) bytes)) / 512 ≡ n = let l = part_length bytes done n c.requires.whole fits in omega (arith, l) in
    let marks = M.marks c.args.metadata.now in
    let before : (now kept : Contents) → M.stands c.args.metadata.now (g.D.Disk.state c.args.disk.now) now kept → IsKnown size c.args.id (c.args.sector + done) n now.volumes marks c.index-homes-index.result =
    λ now kept stood. subst (λ (o : Option Home). IsKnown size c.args.id (c.args.sector + done) n now.volumes marks o) (sym is)
    (known_at size homes c.args.sector done count pos c.loop-done-test.true c.requires.homes n run c.blocks_together-run.ensures.some most part_fits runs c.args.id now.volumes marks
    (g.met.M.Metadata.within c.args.metadata.now (g.D.Disk.state c.args.disk.now) now kept stood).volumes_now (c.requires.told now kept stood)) in
    let few_here = touched_few size pos (c.args.sector + done) n run c.part_of-part.ensures.some part_fits in
    let news : own_place (slice_index_or homes place None) ≡ None → (j : ℕ) → j < run → own_place (slice_index_or homes (place + j) None) ≡ None =
    subst (λ (k : ℕ). own_place (slice_index_or homes k None) ≡ None → (j : ℕ) → j < run → own_place (slice_index_or homes (k + j) None) ≡ None) index c.blocks_together-run.ensures.new in
    let taken : (now kept : Contents) → M.stands c.args.metadata.now (g.D.Disk.state c.args.disk.now) now kept → told_taken c.index-homes-index.result ≡ true
    → (j : ℕ) → j < blocks_touched size (c.args.sector + done) n → takes_block c.args.id now.volumes (M.marks c.args.metadata.now) ((c.args.sector + done) / size.block_sectors + j) ≡ true =
    λ now kept stood told j lt.
    let none = not_own_if_told (slice_index_or homes place None) (ap told_taken (sym is) ∙ told) in
    all_taken_at size homes c.args.sector done count pos c.loop-done-test.true c.requires.homes n run c.blocks_together-run.ensures.some most part_fits runs none (news none) c.args.id now.volumes (M.marks c.args.metadata.now)
    (g.met.M.Metadata.within c.args.metadata.now (g.D.Disk.state c.args.disk.now) now kept stood).volumes_now (c.requires.told now kept stood) j (omega (arith, lt, few_here)) in
    let old = g.D.Disk.state c.args.disk.now in
    let between = g.D.Disk.state c.loop-done.disk in
    let new = g.D.Disk.state c.put_part.new.disk in
    let part_ends : (n ≡ count - done) ⊎ ((c.args.sector + done) % size.block_sectors + n ≡ run * size.block_sectors) =
    subst (λ (x : Geometry). (n ≡ count - done) ⊎ ((c.args.sector + done) % x.block_sectors + n ≡ run * x.block_sectors)) c.geometry-geometry.ensures c.part_of-part.ensures.ends in
    let ends : (n ≡ count - done) ⊎ ((c.args.sector + done + n) % size.block_sectors ≡ 0) = elim part_ends [ inl e ↦ inl e | inr e ↦ inr (ends_at size pos (c.args.sector + done) n run e) ] in
    let at : c.args.sector + done + n ≡ c.args.sector + (done + n) = omega arith in
    let starts : (done ≡ 0) ⊎ ((c.args.sector + done) % size.block_sectors ≡ 0) = elim inv.ends [ inl e ↦ inl e | inr (inl e) ↦ absurd (omega (arith, e, c.loop-done-test.true)) | inr (inr e) ↦ inr e ] in
    let sum = touched_sum size pos c.args.sector done n starts c.part_of-part.ensures.some in
    let few = few_touched size pos c.args.sector (done + n) limits.block_least (omega (arith, c.requires.most, fits)) in
    let here : blocks_touched (M.geometry c.loop-done.metadata) (c.args.sector + done) (length (take (512 * (done + n) - 512 * done) (drop (512 * done) bytes)) / 512) ≡ blocks_touched size (c.args.sector + done) n =
    (λ i. blocks_touched (inv.ran.geometry i) (c.args.sector + done) (part_long i)) in
    let part = sectors_of (take (512 * (done + n) - 512 * done) (drop (512 * done) bytes)) in
    let part_is = part_sectors bytes done n c.requires.whole fits in
    record {
      blocks = c.put_part.ensures.blocks ∙ inv.blocks;
      most = fits;
      ends = elim ends [ inl e ↦ inr (inl (omega (arith, e, fits))) | inr e ↦ inr (inr (ap (λ k. k % size.block_sectors) (sym at) ∙ e)) ];
      few = few;
      ran = ran_at_most (ran_joins inv.ran c.in_ok-put_part.ensures.ran refl) (omega (arith, here, sum));
      stays = λ all. c.put_part.ensures.still (ap told_taken is ∙ all place among.0) ∙ inv.stays all;
      left = λ now kept stood device.
          let begun = inv.begun now kept stood device in
          half_more M.geometry M.stands M.marks c.args.id c.args.sector (sectors_of bytes) count (length-sectors_of bytes) done n c.part_of-part.ensures.some fits c.args.metadata.now c.loop-done.metadata c.put_part.new.metadata old between new now kept
          inv.ran.geometry part part_is (inv.left now kept stood device)
          (c.put_part.ensures.left (record now { volumes = begun.volumes; meta_used = begun.meta_used }) kept begun.standing (reached_part M.geometry M.stands M.marks c.args.id c.args.sector (sectors_of bytes) count (length-sectors_of bytes) done n c.part_of-part.ensures.some fits c.args.metadata.now c.loop-done.metadata c.put_part.new.metadata old between new now kept inv.ran.geometry begun (sectors_of (take (512 * (done + n) - 512 * done) (drop (512 * done) bytes))) (part_sectors bytes done n c.requires.whole fits) device)
          (subst (λ k. IsKnown (M.geometry c.loop-done.metadata) c.args.id (c.args.sector + done) k begun.volumes (M.marks c.loop-done.metadata) c.index-homes-index.result) (sym part_long)
          (known_still M.geometry M.stands M.marks c.args.id c.args.sector (sectors_of bytes) count (length-sectors_of bytes) done n c.part_of-part.ensures.some fits c.args.metadata.now c.loop-done.metadata c.put_part.new.metadata old between new now kept inv.ran.geometry
          pos begun c.index-homes-index.result (before now kept stood))));
      begun = λ now kept stood device.
          let begun = inv.begun now kept stood device in
          begun_more M.geometry M.stands M.marks c.args.id c.args.sector (sectors_of bytes) count (length-sectors_of bytes) done n c.part_of-part.ensures.some fits c.args.metadata.now c.loop-done.metadata c.put_part.new.metadata old between new now kept
          inv.ran.geometry pos begun part part_is (told_taken c.index-homes-index.result) (taken now kept stood)
          (subst (λ k. HasWrittenPart M.geometry M.stands M.marks c.args.id ((c.args.sector + done) / (M.geometry c.loop-done.metadata).block_sectors) (blocks_touched (M.geometry c.loop-done.metadata) (c.args.sector + done) k) (c.args.sector + done) part
          (told_taken c.index-homes-index.result) c.loop-done.metadata c.put_part.new.metadata between new (record now { volumes = begun.volumes; meta_used = begun.meta_used }) kept) part_long
          (c.in_ok-put_part.ensures.written (record now { volumes = begun.volumes; meta_used = begun.meta_used }) kept begun.standing (reached_part M.geometry M.stands M.marks c.args.id c.args.sector (sectors_of bytes) count (length-sectors_of bytes) done n c.part_of-part.ensures.some fits c.args.metadata.now c.loop-done.metadata c.put_part.new.metadata old between new now kept inv.ran.geometry begun (sectors_of (take (512 * (done + n) - 512 * done) (drop (512 * done) bytes))) (part_sectors bytes done n c.requires.whole fits) device)
          (subst (λ k. IsKnown (M.geometry c.loop-done.metadata) c.args.id (c.args.sector + done) k begun.volumes (M.marks c.loop-done.metadata) c.index-homes-index.result) (sym part_long)
          (known_still M.geometry M.stands M.marks c.args.id c.args.sector (sectors_of bytes) count (length-sectors_of bytes) done n c.part_of-part.ensures.some fits c.args.metadata.now c.loop-done.metadata c.put_part.new.metadata old between new now kept inv.ran.geometry
          pos begun c.index-homes-index.result (before now kept stood))))) ends;
    }

pub returns-clause-written : goal.returns-clause-written
returns-clause-written g c now kept s stood device has =
    let M = g.M.Metadata in
    let inv = c.loop-done.invariant in
    let old = g.D.Disk.state c.args.disk.now in
    let new = g.D.Disk.state c.loop-done.disk in
    let within = g.met.M.Metadata.within c.args.metadata.now old now kept stood in
    written_all M.geometry M.stands M.marks c.args.id c.args.sector (sectors_of c.args.bytes.now) (length c.args.bytes.now / 512) c.loop-done.done c.args.metadata.now c.loop-done.metadata old new now kept s
    (inv.begun now kept stood device) (omega (arith, inv.most, c.loop-done-test.false, length-sectors_of c.args.bytes.now)) device.0 has inv.ran.geometry within.limits

pub returns-clause-left : goal.returns-clause-left
returns-clause-left g c = c.loop-done.invariant.left

pub returns-clause-ran : goal.returns-clause-ran
returns-clause-ran g c = ran_at_most c.loop-done.invariant.ran (omega (arith, c.loop-done.invariant.few))

pub returns-clause-blocks : goal.returns-clause-blocks
returns-clause-blocks g c = c.loop-done.invariant.blocks

pub returns-clause-still : goal.returns-clause-still
returns-clause-still g c now kept stood device none =
    let size = g.M.Metadata.geometry c.args.metadata.now in
    let first = c.args.sector / size.block_sectors in
    let marks = g.M.Metadata.marks c.args.metadata.now in
    let within = (g.met.M.Metadata.within c.args.metadata.now (g.D.Disk.state c.args.disk.now) now kept stood).volumes_now in
    c.loop-done.invariant.stays (λ j lt.
    taken_is size c.args.id (first + j) now.volumes marks within (slice_index_or c.args.homes.now j None) (c.requires.told now kept stood j lt)
    ∙ none_passes (takes_block c.args.id now.volumes marks) first (blocks_touched size c.args.sector (length c.args.bytes.now / 512)) j none (omega (arith, lt, c.requires.homes)))
