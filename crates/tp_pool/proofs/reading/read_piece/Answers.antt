use Rattle.std.proofs.Common.{◌≡◌, ◌+◌, ◌-◌, ◌*◌, ◌/◌, ◌%◌, ◌<◌, ◌≤◌, ℕ, None, Some, Option, length, take, drop, arith, sym, ap, subst, ◌∙◌}
use Rattle.std.specs.Prelude.{IfSome, IsTrue, slice_index_or}
use Rattle.std.specs.List.{concat}
use Rattle.std.proofs.lemmas.List.{get_or_default}
use Rattle.tp_model.specs.Geometry.{Geometry}
use Rattle.tp_model.specs.Disk.{DiskState, seen}
use Rattle.tp_shown.specs.Shown.{blocks_touched, values_at}
use Rattle.tp_meta.specs.declared.metadata.Home.{Home}
use Rattle.tp_pool.specs.Reading.{IsRun, id_read}
use Rattle.tp_pool.specs.Writing.{old_place}
use Rattle.tp_pool.proofs.Fetching.{part_is, same_length, read_more}
use Rattle.tp_pool.proofs.Rooms.{are_run, index_is, read_fits, read_inside}
use Rattle.tp_pool.proofs.reading.read_piece.Goals as goal

pub together-requires-clause-inside : goal.together-requires-clause-inside
together-requires-clause-inside g c =
    let M = g.M.Metadata in
    let inv = c.loop-done.invariant in
    let gm = M.geometry c.args.metadata.now in
    let done = c.loop-done.done in
    let count = length c.args.out.now / 512 in
    let homes = c.look_up_places.new.homes in
    let pos : 0 < gm.block_sectors = omega (arith, inv.limits.block_least) in
    let long = inv.touched ∙ ap (blocks_touched gm c.args.sector) inv.counted in
    let index : c.index_of-index.result ≡ (c.args.sector + done) / gm.block_sectors - c.args.sector / gm.block_sectors =
    c.index_of-index.ensures.index ∙ ap (λ (x : Geometry). (c.args.sector + done) / x.block_sectors - c.args.sector / x.block_sectors) inv.sizes in
    let among = index_is gm homes c.args.sector done count pos c.loop-done-test.true long in
    omega (arith, among.0, index)

pub bounds-homes-index : goal.bounds-homes-index
bounds-homes-index g c =
    let M = g.M.Metadata in
    let inv = c.loop-done.invariant in
    let gm = M.geometry c.args.metadata.now in
    let done = c.loop-done.done in
    let count = length c.args.out.now / 512 in
    let homes = c.look_up_places.new.homes in
    let pos : 0 < gm.block_sectors = omega (arith, inv.limits.block_least) in
    let long = inv.touched ∙ ap (blocks_touched gm c.args.sector) inv.counted in
    let index : c.index_of-index.result ≡ (c.args.sector + done) / gm.block_sectors - c.args.sector / gm.block_sectors =
    c.index_of-index.ensures.index ∙ ap (λ (x : Geometry). (c.args.sector + done) / x.block_sectors - c.args.sector / x.block_sectors) inv.sizes in
    let among = index_is gm homes c.args.sector done count pos c.loop-done-test.true long in
    omega (arith, among.0, index)

pub part_of-part-requires-clause-few : goal.part_of-part-requires-clause-few
part_of-part-requires-clause-few g c = omega (arith, c.together.ensures.most, c.loop-done.invariant.few)

pub read_part-requires-clause-inside : goal.read_part-requires-clause-inside
read_part-requires-clause-inside g c =
    let M = g.M.Metadata in
    let inv = c.loop-done.invariant in
    let gm = M.geometry c.args.metadata.now in
    let done = c.loop-done.done in
    let count = length c.args.out.now / 512 in
    let homes = c.look_up_places.new.homes in
    let pos : 0 < gm.block_sectors = omega (arith, inv.limits.block_least) in
    let long = inv.touched ∙ ap (blocks_touched gm c.args.sector) inv.counted in
    let index : c.index_of-index.result ≡ (c.args.sector + done) / gm.block_sectors - c.args.sector / gm.block_sectors =
    c.index_of-index.ensures.index ∙ ap (λ (x : Geometry). (c.args.sector + done) / x.block_sectors - c.args.sector / x.block_sectors) inv.sizes in
    let among = index_is gm homes c.args.sector done count pos c.loop-done-test.true long in
    let place = (c.args.sector + done) / gm.block_sectors - c.args.sector / gm.block_sectors in
    let n = c.part_of-part.result in
    let run = c.together.result in
    let most : place + run ≤ length homes = omega (arith, c.together.ensures.most, index) in
    let part_fits : (c.args.sector + done) % gm.block_sectors + n ≤ run * gm.block_sectors =
    subst (λ (x : Geometry). (c.args.sector + done) % x.block_sectors + n ≤ run * x.block_sectors) inv.sizes c.part_of-part.ensures.inside in
    let alone : old_place (slice_index_or homes place None) ≡ None → run ≡ 1 =
    subst (λ (k : ℕ). old_place (slice_index_or homes k None) ≡ None → run ≡ 1) index c.together.ensures.alone in
    let runs : (p : ℕ) → old_place (slice_index_or homes place None) ≡ Some p → (j : ℕ) → j < run → old_place (slice_index_or homes (place + j) None) ≡ Some (p + j) =
    subst (λ (k : ℕ). (p : ℕ) → old_place (slice_index_or homes k None) ≡ Some p → (j : ℕ) → j < run → old_place (slice_index_or homes (k + j) None) ≡ Some (p + j)) index c.together.ensures.run in
    let is : c.index-homes-index.result ≡ slice_index_or homes place None =
    c.index-homes-index.is ∙ (get_or_default homes c.index_of-index.result c.index-homes-index.result None (omega (arith, index, among.0)) ∙ ap (λ k. slice_index_or homes k None) index) in
    let fits : done + n ≤ length c.loop-done.out / 512 = omega (arith, c.part_of-part.ensures.most, inv.long) in
    let part_long : length (take (512 * (done + n) - 512 * done) (drop (512 * done) c.loop-done.out)) / 512 ≡ n = part_is c.loop-done.out done n fits in
    subst (λ (x : Geometry). IfSome c.index-homes-index.result (λ home. home.place * x.block_sectors + (c.args.sector + done) % x.block_sectors + length (take (512 * (done + n) - 512 * done) (drop (512 * done) c.loop-done.out)) / 512 ≤ x.data_blocks * x.block_sectors))
    (sym inv.sizes)
    (subst (λ (k : ℕ). IfSome c.index-homes-index.result (λ home. home.place * gm.block_sectors + (c.args.sector + done) % gm.block_sectors + k ≤ gm.data_blocks * gm.block_sectors)) (sym part_long)
    (read_fits gm homes c.args.sector done count pos c.loop-done-test.true long n run c.together.ensures.some most part_fits alone runs inv.inside c.index-homes-index.result is))

pub read_part-requires-clause-place : goal.read_part-requires-clause-place
read_part-requires-clause-place g c =
    let M = g.M.Metadata in
    let inv = c.loop-done.invariant in
    let gm = M.geometry c.args.metadata.now in
    let done = c.loop-done.done in
    let count = length c.args.out.now / 512 in
    let homes = c.look_up_places.new.homes in
    let pos : 0 < gm.block_sectors = omega (arith, inv.limits.block_least) in
    let long = inv.touched ∙ ap (blocks_touched gm c.args.sector) inv.counted in
    let index : c.index_of-index.result ≡ (c.args.sector + done) / gm.block_sectors - c.args.sector / gm.block_sectors =
    c.index_of-index.ensures.index ∙ ap (λ (x : Geometry). (c.args.sector + done) / x.block_sectors - c.args.sector / x.block_sectors) inv.sizes in
    let among = index_is gm homes c.args.sector done count pos c.loop-done-test.true long in
    let place = (c.args.sector + done) / gm.block_sectors - c.args.sector / gm.block_sectors in
    let n = c.part_of-part.result in
    let run = c.together.result in
    let most : place + run ≤ length homes = omega (arith, c.together.ensures.most, index) in
    let part_fits : (c.args.sector + done) % gm.block_sectors + n ≤ run * gm.block_sectors =
    subst (λ (x : Geometry). (c.args.sector + done) % x.block_sectors + n ≤ run * x.block_sectors) inv.sizes c.part_of-part.ensures.inside in
    let alone : old_place (slice_index_or homes place None) ≡ None → run ≡ 1 =
    subst (λ (k : ℕ). old_place (slice_index_or homes k None) ≡ None → run ≡ 1) index c.together.ensures.alone in
    let runs : (p : ℕ) → old_place (slice_index_or homes place None) ≡ Some p → (j : ℕ) → j < run → old_place (slice_index_or homes (place + j) None) ≡ Some (p + j) =
    subst (λ (k : ℕ). (p : ℕ) → old_place (slice_index_or homes k None) ≡ Some p → (j : ℕ) → j < run → old_place (slice_index_or homes (k + j) None) ≡ Some (p + j)) index c.together.ensures.run in
    let is : c.index-homes-index.result ≡ slice_index_or homes place None =
    c.index-homes-index.is ∙ (get_or_default homes c.index_of-index.result c.index-homes-index.result None (omega (arith, index, among.0)) ∙ ap (λ k. slice_index_or homes k None) index) in
    let fits : done + n ≤ length c.loop-done.out / 512 = omega (arith, c.part_of-part.ensures.most, inv.long) in
    let part_long : length (take (512 * (done + n) - 512 * done) (drop (512 * done) c.loop-done.out)) / 512 ≡ n = part_is c.loop-done.out done n fits in
    subst (λ (x : Geometry). IfSome c.index-homes-index.result (λ home. home.place < x.data_blocks)) (sym inv.sizes)
    (read_inside gm homes c.args.sector done count pos c.loop-done-test.true long n run c.together.ensures.some most part_fits alone runs inv.inside c.index-homes-index.result is)

pub loop-done-preserved : goal.loop-done-preserved
loop-done-preserved g c =
    let M = g.M.Metadata in
    let inv = c.loop-done.invariant in
    let gm = M.geometry c.args.metadata.now in
    let done = c.loop-done.done in
    let count = length c.args.out.now / 512 in
    let homes = c.look_up_places.new.homes in
    let pos : 0 < gm.block_sectors = omega (arith, inv.limits.block_least) in
    let long = inv.touched ∙ ap (blocks_touched gm c.args.sector) inv.counted in
    let index : c.index_of-index.result ≡ (c.args.sector + done) / gm.block_sectors - c.args.sector / gm.block_sectors =
    c.index_of-index.ensures.index ∙ ap (λ (x : Geometry). (c.args.sector + done) / x.block_sectors - c.args.sector / x.block_sectors) inv.sizes in
    let among = index_is gm homes c.args.sector done count pos c.loop-done-test.true long in
    let place = (c.args.sector + done) / gm.block_sectors - c.args.sector / gm.block_sectors in
    let n = c.part_of-part.result in
    let run = c.together.result in
    let most : place + run ≤ length homes = omega (arith, c.together.ensures.most, index) in
    let part_fits : (c.args.sector + done) % gm.block_sectors + n ≤ run * gm.block_sectors =
    subst (λ (x : Geometry). (c.args.sector + done) % x.block_sectors + n ≤ run * x.block_sectors) inv.sizes c.part_of-part.ensures.inside in
    let alone : old_place (slice_index_or homes place None) ≡ None → run ≡ 1 =
    subst (λ (k : ℕ). old_place (slice_index_or homes k None) ≡ None → run ≡ 1) index c.together.ensures.alone in
    let runs : (p : ℕ) → old_place (slice_index_or homes place None) ≡ Some p → (j : ℕ) → j < run → old_place (slice_index_or homes (place + j) None) ≡ Some (p + j) =
    subst (λ (k : ℕ). (p : ℕ) → old_place (slice_index_or homes k None) ≡ Some p → (j : ℕ) → j < run → old_place (slice_index_or homes (k + j) None) ≡ Some (p + j)) index c.together.ensures.run in
    let is : c.index-homes-index.result ≡ slice_index_or homes place None =
    c.index-homes-index.is ∙ (get_or_default homes c.index_of-index.result c.index-homes-index.result None (omega (arith, index, among.0)) ∙ ap (λ k. slice_index_or homes k None) index) in
    let fits : done + n ≤ length c.loop-done.out / 512 = omega (arith, c.part_of-part.ensures.most, inv.long) in
    let part_long : length (take (512 * (done + n) - 512 * done) (drop (512 * done) c.loop-done.out)) / 512 ≡ n = part_is c.loop-done.out done n fits in
    let disk = g.D.Disk.state c.args.disk.now in
    let sector = c.args.sector + done in
    let id = id_read c.args.is_copy c.args.id in
    record {
      counted = inv.counted;
      within = omega (arith, c.part_of-part.ensures.most);
      sizes = inv.sizes;
      limits = inv.limits;
      few = inv.few;
      long = same_length c.loop-done.out c.read_part.new.out done n fits c.read_part.ensures.length ∙ inv.long;
      touched = inv.touched;
      state = c.in_ok-read_part.ensures.state ∙ inv.state;
      there = inv.there;
      told = inv.told;
      inside = inv.inside;
      bytes = λ now kept stands.
          let told = inv.told (omega (arith, c.loop-done-test.true)) now kept stands in
          let are = are_run gm homes c.args.sector done count pos c.loop-done-test.true long n run c.together.ensures.some most part_fits alone runs id now.volumes told in
          let run_is : IsRun c.geometry-geometry.result id sector (length (take (512 * (done + n) - 512 * done) (drop (512 * done) c.loop-done.out)) / 512) now.volumes (old_place c.index-homes-index.result) =
          subst (λ (o : Option Home). IsRun c.geometry-geometry.result id sector (length (take (512 * (done + n) - 512 * done) (drop (512 * done) c.loop-done.out)) / 512) now.volumes (old_place o)) (sym is)
          (subst (λ (k : ℕ). IsRun c.geometry-geometry.result id sector k now.volumes (old_place (slice_index_or homes place None))) (sym part_long)
          (subst (λ (x : Geometry). IsRun x id sector n now.volumes (old_place (slice_index_or homes place None))) (sym inv.sizes) are)) in
          let honest : IsTrue (g.D.Disk.state c.loop-done.disk).is_honest = subst (λ (d : DiskState). IsTrue d.is_honest) (sym inv.state) (g.met.M.Metadata.told_honest c.args.metadata.now disk now kept stands) in
          let whole = 512 * (done + n) - 512 * done in
          read_more c.loop-done.out c.read_part.new.out done n fits c.read_part.ensures.length gm now.volumes (seen disk.cells) id c.args.sector (inv.bytes now kept stands)
          (c.in_ok-read_part.ensures.bytes honest id now.volumes run_is
          ∙ (λ j. concat (values_at (inv.sizes j) now.volumes (seen (inv.state j).cells) id sector (length (take whole (drop (512 * done) c.loop-done.out)) / 512))));
    }
