use Rattle.std.proofs.Common.{◌%◌, ◌*◌, ◌+◌, ◌-◌, ◌/◌, ◌<◌, [], ◌^◌, ap, arith, drop, Err, false, length, List, refl, rules, subst, sym, take, true, ◌∙◌, ◌≡◌, ◌≤◌}
use Rattle.std.proofs.lemmas.Nat.{div-add-mod'}
use Rattle.std.proofs.lemmas.Result.{err_from_is_err_and, on_ok_weaker}
use Rattle.tp_model.specs.Calls.{Write}
use Rattle.tp_model.specs.Geometry.{Geometry, IsWithinLimits, data_sector, sectors_of_image}
use Rattle.tp_model.specs.Sectors.{Sector, sectors_of}
use Rattle.tp_model.specs.Disk.{FaultHasCause, Writes, after_write}
use Rattle.tp_model.proofs.DiskLaws.{length-sectors_of}
use Rattle.tp_stored.specs.Contents.{Contents}
use Rattle.tp_counts.specs.declared.error.StoreError.{StoreError}
use Rattle.tp_counts.specs.StoreErrors.{is_fault}
use Rattle.tp_counts.proofs.Refusing.{err_is_fault, fault_is}
use Rattle.tp_meta.specs.Metadata.{Ran}
use Rattle.tp_counts.specs.declared.error.StoreError.TheVariants.{Damaged}
use Rattle.tp_mapping.specs.Mapping.{free_places}
use Rattle.tp_pool.specs.Writing.{HasBlock, Mapped}
use Rattle.tp_pool.proofs.Halves.{half_changing}
use Rattle.tp_pool.proofs.NewRun.{block_inside, goes_on_joined, goes_on_written, IsMapping, last_written, left_before, left_last, left_mapped, mapping_begins, next_has, run_sectors, some_whole}
use Rattle.tp_pool.proofs.Ranges.{block_has}
use Rattle.tp_pool.proofs.Runs.{ran_at_most, ran_joins, write_ran}
use Rattle.tp_pool.proofs.writing.put_new_run.Goals.{else-number-mapped, then-number-mapped+in_ok-put_run}
use Rattle.tp_pool.proofs.writing.put_new_run.Goals as goal

pub returns-in_err-start-clause-left : goal.returns-in_err-start-clause-left
returns-in_err-start-clause-left g c now kept stood device =
    half_changing (g.M.Metadata.geometry c.args.metadata.now) (Write c.args.id c.args.sector (sectors_of c.args.bytes.now) false) c.args.id [] kept (g.D.Disk.state c.args.disk.now) (g.D.Disk.state c.map_new.new.disk)
    (c.map_new.ensures.changing now kept stood).any_moment

pub loop-mapped-init : goal.loop-mapped-init
loop-mapped-init g c =
    let M = g.M.Metadata in
    let size = M.geometry c.args.metadata.now in
    let count = length c.args.bytes.now / 512 in
    let n = count / size.block_sectors in
    let first : c.new.result ≡ c.args.sector / size.block_sectors =
    c.new.ensures ∙ (c.number-first.ensures.value ∙ (c.block_of.ensures.block ∙ ap (λ (x : Geometry). c.args.sector / x.block_sectors) c.geometry-geometry.ensures)) in
    let all : n * size.block_sectors + count % size.block_sectors ≡ count = div-add-mod' count size.block_sectors in
    mapping_begins M.geometry M.stands M.marks M.room c.args.id c.args.sector (sectors_of c.args.bytes.now) n c.args.metadata.now (g.D.Disk.state c.args.disk.now)
    (λ metadata d x kept s. (g.met.M.Metadata.within metadata d x kept s).volumes_now.ascend) c.in_ok-start.start c.map_new.new.metadata (g.D.Disk.state c.map_new.new.disk)
    (some_whole n size.block_sectors (count % size.block_sectors) count all c.requires.ends c.requires.some) c.in_ok-start.ensures.inside c.in_ok-start.ensures.ran c.map_new.ensures.changing
    (λ now kept stood device. subst (λ b. Mapped M.geometry M.stands M.marks c.args.id b c.in_ok-start.start c.args.metadata.now c.map_new.new.metadata (g.D.Disk.state c.map_new.new.disk) now kept) first
    (c.in_ok-start.ensures.mapped now kept stood
    (block_has size c.geometry-geometry.result c.geometry-geometry.ensures c.block_of.ensures.limits c.args.id c.args.sector (length (sectors_of c.args.bytes.now)) c.new.result now.volumes (c.new.ensures ∙ (c.number-first.ensures.value ∙ c.block_of.ensures.block)) (omega (arith, c.requires.some, length-sectors_of c.args.bytes.now)) device)))

pub new-requires-in-loop-mapped : goal.new-requires-in-loop-mapped
new-requires-in-loop-mapped g c =
    let M = g.M.Metadata in
    let size = M.geometry c.args.metadata.now in
    let limits : IsWithinLimits size = subst IsWithinLimits c.geometry-geometry.ensures c.block_of.ensures.limits in
    let pos : 0 < size.block_sectors = omega (arith, limits.block_least) in
    let count = length c.args.bytes.now / 512 in
    let n = count / size.block_sectors in
    let bs : c.block_sectors-block_sectors.result ≡ size.block_sectors = c.block_sectors-block_sectors.ensures.value ∙ ap (λ (x : Geometry). x.block_sectors) c.geometry-geometry.ensures in
    let more : c.loop-mapped.mapped < n = subst (λ k. c.loop-mapped.mapped < count / k) bs c.loop-mapped-test.true in
    let first : c.number-first.result ≡ c.args.sector / size.block_sectors =
    c.number-first.ensures.value ∙ (c.block_of.ensures.block ∙ ap (λ (x : Geometry). c.args.sector / x.block_sectors) c.geometry-geometry.ensures) in
    let all : n * size.block_sectors + count % size.block_sectors ≡ count = div-add-mod' count size.block_sectors in
    let inside = block_inside size pos c.args.sector n (2 ^ 24) c.loop-mapped.mapped c.requires.starts (omega (arith, all, c.requires.within)) more in
    omega (arith, inside, first)

pub returns-in_err-place-clause-left : goal.returns-in_err-place-clause-left
returns-in_err-place-clause-left g c =
    let M = g.M.Metadata in
    let size = M.geometry c.args.metadata.now in
    let limits : IsWithinLimits size = subst IsWithinLimits c.geometry-geometry.ensures c.block_of.ensures.limits in
    let pos : 0 < size.block_sectors = omega (arith, limits.block_least) in
    let count = length c.args.bytes.now / 512 in
    let n = count / size.block_sectors in
    let bs : c.block_sectors-block_sectors.result ≡ size.block_sectors = c.block_sectors-block_sectors.ensures.value ∙ ap (λ (x : Geometry). x.block_sectors) c.geometry-geometry.ensures in
    let inv = c.loop-mapped.invariant in
    let old = g.D.Disk.state c.args.disk.now in
    let between = g.D.Disk.state c.loop-mapped.disk in
    let new = g.D.Disk.state c.map_new-in-loop-mapped.new.disk in
    let after = c.map_new-in-loop-mapped.new.metadata in
    left_mapped M.geometry M.stands M.marks M.room c.args.id c.args.sector (sectors_of c.args.bytes.now) n c.args.metadata.now old c.loop-mapped.start c.loop-mapped.written c.loop-mapped.mapped c.loop-mapped.metadata between inv after new c.map_new-in-loop-mapped.ensures.changing

pub returns-in_err-place-clause-ran : goal.returns-in_err-place-clause-ran
returns-in_err-place-clause-ran g c =
    let M = g.M.Metadata in
    let size = M.geometry c.args.metadata.now in
    let limits : IsWithinLimits size = subst IsWithinLimits c.geometry-geometry.ensures c.block_of.ensures.limits in
    let pos : 0 < size.block_sectors = omega (arith, limits.block_least) in
    let count = length c.args.bytes.now / 512 in
    let n = count / size.block_sectors in
    let bs : c.block_sectors-block_sectors.result ≡ size.block_sectors = c.block_sectors-block_sectors.ensures.value ∙ ap (λ (x : Geometry). x.block_sectors) c.geometry-geometry.ensures in
    let more : c.loop-mapped.mapped < n = subst (λ k. c.loop-mapped.mapped < count / k) bs c.loop-mapped-test.true in
    let inv = c.loop-mapped.invariant in
    let old = g.D.Disk.state c.args.disk.now in
    let between = g.D.Disk.state c.loop-mapped.disk in
    let new = g.D.Disk.state c.map_new-in-loop-mapped.new.disk in
    let after = c.map_new-in-loop-mapped.new.metadata in
    let p = err_from_is_err_and c.from_residual-in_err-place.result c.from_residual-in_err-place.ensures.1 in
    subst (λ b. Ran (16 * n) b (M.room c.args.metadata.now) (M.room after) size (M.geometry after) old new) (sym (fault_is c.from_residual-in_err-place.result p.0 c.in_err-place.field-0.0 p.1 p.2))
    (ran_at_most (ran_joins inv.ran c.in_err-place.ensures.ran refl) (omega (arith, more)))

pub put_run-requires-clause-inside : goal.put_run-requires-clause-inside
put_run-requires-clause-inside g c =
    let M = g.M.Metadata in
    let size = M.geometry c.args.metadata.now in
    let limits : IsWithinLimits size = subst IsWithinLimits c.geometry-geometry.ensures c.block_of.ensures.limits in
    let pos : 0 < size.block_sectors = omega (arith, limits.block_least) in
    let count = length c.args.bytes.now / 512 in
    let n = count / size.block_sectors in
    let bs : c.block_sectors-block_sectors.result ≡ size.block_sectors = c.block_sectors-block_sectors.ensures.value ∙ ap (λ (x : Geometry). x.block_sectors) c.geometry-geometry.ensures in
    let inv = c.loop-mapped.invariant in
    let fits = run_sectors size c.loop-mapped.start c.loop-mapped.written c.loop-mapped.mapped (omega (arith, inv.low)) inv.fits in
    subst (λ (x : Geometry). c.loop-mapped.start * x.block_sectors + (c.block_sectors-block_sectors.result * c.loop-mapped.mapped - c.block_sectors-block_sectors.result * c.loop-mapped.written) ≤ x.data_blocks * x.block_sectors) (sym c.requires.blocks)
    (subst (λ k. c.loop-mapped.start * size.block_sectors + (k * c.loop-mapped.mapped - k * c.loop-mapped.written) ≤ size.data_blocks * size.block_sectors) (sym bs) fits)

pub returns-in_err-put_run-clause-left : goal.returns-in_err-put_run-clause-left
returns-in_err-put_run-clause-left g c =
    let M = g.M.Metadata in
    let size = M.geometry c.args.metadata.now in
    let limits : IsWithinLimits size = subst IsWithinLimits c.geometry-geometry.ensures c.block_of.ensures.limits in
    let pos : 0 < size.block_sectors = omega (arith, limits.block_least) in
    let count = length c.args.bytes.now / 512 in
    let n = count / size.block_sectors in
    let bs : c.block_sectors-block_sectors.result ≡ size.block_sectors = c.block_sectors-block_sectors.ensures.value ∙ ap (λ (x : Geometry). x.block_sectors) c.geometry-geometry.ensures in
    let more : c.loop-mapped.mapped < n = subst (λ k. c.loop-mapped.mapped < count / k) bs c.loop-mapped-test.true in
    let first : c.number-first.result ≡ c.args.sector / size.block_sectors =
    c.number-first.ensures.value ∙ (c.block_of.ensures.block ∙ ap (λ (x : Geometry). c.args.sector / x.block_sectors) c.geometry-geometry.ensures) in
    let sectors = sectors_of c.args.bytes.now in
    let all : n * size.block_sectors + count % size.block_sectors ≡ count = div-add-mod' count size.block_sectors in
    let long : length sectors ≡ n * size.block_sectors = omega (arith, length-sectors_of c.args.bytes.now, all, c.requires.ends) in
    let inv = c.loop-mapped.invariant in
    let old = g.D.Disk.state c.args.disk.now in
    let between = g.D.Disk.state c.loop-mapped.disk in
    let new = g.D.Disk.state c.map_new-in-loop-mapped.new.disk in
    let after = c.map_new-in-loop-mapped.new.metadata in
    let end = g.D.Disk.state c.put_run.new.disk in
    let block : c.new-in-loop-mapped.result ≡ c.args.sector / size.block_sectors + c.loop-mapped.mapped = c.new-in-loop-mapped.ensures ∙ ap (λ k. k + c.loop-mapped.mapped) first in
    let given : (now kept : Contents) → M.stands c.loop-mapped.metadata between now kept → HasBlock (M.geometry c.loop-mapped.metadata) c.args.id (c.args.sector / size.block_sectors + c.loop-mapped.mapped) now.volumes
    → Mapped M.geometry M.stands M.marks c.args.id (c.args.sector / size.block_sectors + c.loop-mapped.mapped) c.in_ok-place.place c.loop-mapped.metadata after new now kept =
    λ now kept stood device. subst (λ b. Mapped M.geometry M.stands M.marks c.args.id b c.in_ok-place.place c.loop-mapped.metadata after new now kept) block (c.in_ok-place.ensures.mapped now kept stood (subst (λ b. HasBlock (M.geometry c.loop-mapped.metadata) c.args.id b now.volumes) (sym block) device)) in
    let below : c.in_ok-place.place < size.data_blocks = subst (λ (x : Geometry). c.in_ok-place.place < x.data_blocks) inv.ran.geometry c.in_ok-place.ensures.inside in
    let part : List Sector = take (size.block_sectors * c.loop-mapped.mapped - size.block_sectors * c.loop-mapped.written) (drop (size.block_sectors * c.loop-mapped.written) sectors) in
    let at : data_sector c.args.blocks.now c.loop-mapped.start ≡ data_sector size c.loop-mapped.start = ap (λ (x : Geometry). data_sector x c.loop-mapped.start) c.requires.blocks in
    let writes : Writes (data_sector size c.loop-mapped.start) part new end =
    subst (λ k. Writes (data_sector size c.loop-mapped.start) (take (k * c.loop-mapped.mapped - k * c.loop-mapped.written) (drop (k * c.loop-mapped.written) sectors)) new end) bs
    (subst (λ a. Writes a (take (c.block_sectors-block_sectors.result * c.loop-mapped.mapped - c.block_sectors-block_sectors.result * c.loop-mapped.written) (drop (c.block_sectors-block_sectors.result * c.loop-mapped.written) sectors)) new end) at c.put_run.ensures.any) in
    left_before M.geometry M.stands M.marks M.room c.args.id c.args.sector sectors n c.args.metadata.now old c.loop-mapped.start c.loop-mapped.written c.loop-mapped.mapped c.loop-mapped.metadata between inv after new c.map_new-in-loop-mapped.ensures.changing
    (λ metadata d x kept s. (g.met.M.Metadata.within metadata d x kept s).volumes_now.ascend) c.in_ok-place.place below c.in_ok-place.ensures.ran given more pos c.requires.starts long end writes

pub returns-in_err-put_run-clause-ran : goal.returns-in_err-put_run-clause-ran
returns-in_err-put_run-clause-ran g c =
    let M = g.M.Metadata in
    let size = M.geometry c.args.metadata.now in
    let limits : IsWithinLimits size = subst IsWithinLimits c.geometry-geometry.ensures c.block_of.ensures.limits in
    let pos : 0 < size.block_sectors = omega (arith, limits.block_least) in
    let count = length c.args.bytes.now / 512 in
    let n = count / size.block_sectors in
    let bs : c.block_sectors-block_sectors.result ≡ size.block_sectors = c.block_sectors-block_sectors.ensures.value ∙ ap (λ (x : Geometry). x.block_sectors) c.geometry-geometry.ensures in
    let more : c.loop-mapped.mapped < n = subst (λ k. c.loop-mapped.mapped < count / k) bs c.loop-mapped-test.true in
    let inv = c.loop-mapped.invariant in
    let old = g.D.Disk.state c.args.disk.now in
    let between = g.D.Disk.state c.loop-mapped.disk in
    let new = g.D.Disk.state c.map_new-in-loop-mapped.new.disk in
    let after = c.map_new-in-loop-mapped.new.metadata in
    let end = g.D.Disk.state c.put_run.new.disk in
    let p = err_from_is_err_and c.from_residual-in_err-put_run.result c.from_residual-in_err-put_run.ensures.1 in
    let faulted : is_fault c.from_residual-in_err-put_run.result ≡ true =
    fault_is c.from_residual-in_err-put_run.result p.0 c.in_err-put_run.field-0.0 p.1 p.2 ∙ ap (λ (z : StoreError). is_fault {T = Unit {0}} (Err z)) c.in_err-put_run.ensures.only in
    subst (λ b. Ran (16 * n) b (M.room c.args.metadata.now) (M.room after) size (M.geometry after) old end) (sym faulted)
    (ran_at_most (ran_joins (ran_joins inv.ran c.in_ok-place.ensures.ran refl) (write_ran c.put_run.ensures.any c.in_err-put_run.ensures.cause) refl) (omega (arith, more)))

pub loop-mapped-preserved : goal.loop-mapped-preserved
loop-mapped-preserved g c =
    let M = g.M.Metadata in
    let size = M.geometry c.args.metadata.now in
    let limits : IsWithinLimits size = subst IsWithinLimits c.geometry-geometry.ensures c.block_of.ensures.limits in
    let pos : 0 < size.block_sectors = omega (arith, limits.block_least) in
    let count = length c.args.bytes.now / 512 in
    let n = count / size.block_sectors in
    let bs : c.block_sectors-block_sectors.result ≡ size.block_sectors = c.block_sectors-block_sectors.ensures.value ∙ ap (λ (x : Geometry). x.block_sectors) c.geometry-geometry.ensures in
    let more : c.loop-mapped.mapped < n = subst (λ k. c.loop-mapped.mapped < count / k) bs c.loop-mapped-test.true in
    let first : c.number-first.result ≡ c.args.sector / size.block_sectors =
    c.number-first.ensures.value ∙ (c.block_of.ensures.block ∙ ap (λ (x : Geometry). c.args.sector / x.block_sectors) c.geometry-geometry.ensures) in
    let sectors = sectors_of c.args.bytes.now in
    let all : n * size.block_sectors + count % size.block_sectors ≡ count = div-add-mod' count size.block_sectors in
    let long : length sectors ≡ n * size.block_sectors = omega (arith, length-sectors_of c.args.bytes.now, all, c.requires.ends) in
    let inv = c.loop-mapped.invariant in
    let old = g.D.Disk.state c.args.disk.now in
    let between = g.D.Disk.state c.loop-mapped.disk in
    let new = g.D.Disk.state c.map_new-in-loop-mapped.new.disk in
    let after = c.map_new-in-loop-mapped.new.metadata in
    let block : c.new-in-loop-mapped.result ≡ c.args.sector / size.block_sectors + c.loop-mapped.mapped = c.new-in-loop-mapped.ensures ∙ ap (λ k. k + c.loop-mapped.mapped) first in
    let given : (now kept : Contents) → M.stands c.loop-mapped.metadata between now kept → HasBlock (M.geometry c.loop-mapped.metadata) c.args.id (c.args.sector / size.block_sectors + c.loop-mapped.mapped) now.volumes
    → Mapped M.geometry M.stands M.marks c.args.id (c.args.sector / size.block_sectors + c.loop-mapped.mapped) c.in_ok-place.place c.loop-mapped.metadata after new now kept =
    λ now kept stood device. subst (λ b. Mapped M.geometry M.stands M.marks c.args.id b c.in_ok-place.place c.loop-mapped.metadata after new now kept) block (c.in_ok-place.ensures.mapped now kept stood (subst (λ b. HasBlock (M.geometry c.loop-mapped.metadata) c.args.id b now.volumes) (sym block) device)) in
    let below : c.in_ok-place.place < size.data_blocks = subst (λ (x : Geometry). c.in_ok-place.place < x.data_blocks) inv.ran.geometry c.in_ok-place.ensures.inside in
    elim c.if-number-mapped.branch [
      | then-number-mapped+in_ok-put_run w ↦
          let end = g.D.Disk.state w.put_run.new.disk in
          let part : List Sector = take (size.block_sectors * c.loop-mapped.mapped - size.block_sectors * c.loop-mapped.written) (drop (size.block_sectors * c.loop-mapped.written) sectors) in
          let at : data_sector c.args.blocks.now c.loop-mapped.start ≡ data_sector size c.loop-mapped.start = ap (λ (x : Geometry). data_sector x c.loop-mapped.start) c.requires.blocks in
          let writes : Writes (data_sector size c.loop-mapped.start) part new end =
          subst (λ k. Writes (data_sector size c.loop-mapped.start) (take (k * c.loop-mapped.mapped - k * c.loop-mapped.written) (drop (k * c.loop-mapped.written) sectors)) new end) bs
          (subst (λ a. Writes a (take (c.block_sectors-block_sectors.result * c.loop-mapped.mapped - c.block_sectors-block_sectors.result * c.loop-mapped.written) (drop (c.block_sectors-block_sectors.result * c.loop-mapped.written) sectors)) new end) at w.put_run.ensures.any) in
          let space : sectors_of_image size ≤ new.size = omega (arith, c.requires.disk, inv.ran.same_disk.size, c.in_ok-place.ensures.ran.same_disk.size) in
          let done : end ≡ after_write (data_sector size c.loop-mapped.start) part new =
          w.in_ok-put_run.ensures.ok ∙ (λ i. after_write (at i) (take (bs i * c.loop-mapped.mapped - bs i * c.loop-mapped.written) (drop (bs i * c.loop-mapped.written) sectors)) new) in
          subst (λ d. IsMapping M.geometry M.stands M.marks M.room c.args.id c.args.sector sectors n c.args.metadata.now old c.if-number-mapped.start c.if-number-mapped.written (c.loop-mapped.mapped + 1) after d) (ap g.D.Disk.state (sym w.disk-is))
          (subst (λ k. IsMapping M.geometry M.stands M.marks M.room c.args.id c.args.sector sectors n c.args.metadata.now old c.if-number-mapped.start k (c.loop-mapped.mapped + 1) after end) (sym w.written-is)
          (subst (λ k. IsMapping M.geometry M.stands M.marks M.room c.args.id c.args.sector sectors n c.args.metadata.now old k c.loop-mapped.mapped (c.loop-mapped.mapped + 1) after end) (sym w.start-is)
          (goes_on_written M.geometry M.stands M.marks M.room c.args.id c.args.sector sectors n c.args.metadata.now old c.loop-mapped.start c.loop-mapped.written c.loop-mapped.mapped c.loop-mapped.metadata between inv after new c.map_new-in-loop-mapped.ensures.changing
          (λ metadata d x kept s. (g.met.M.Metadata.within metadata d x kept s).volumes_now.ascend) c.in_ok-place.place below c.in_ok-place.ensures.ran given more pos c.requires.starts long end writes
          (λ metadata a b x kept k s. g.met.M.Metadata.frame metadata a b x kept k s) done w.in_ok-put_run.ensures.cause (g.met.D.Disk.well_formed c.map_new-in-loop-mapped.new.disk) space)))
      | else-number-mapped w ↦
          let follows : c.in_ok-place.place ≡ c.loop-mapped.start + (c.loop-mapped.mapped - c.loop-mapped.written) = omega (arith, w.if-number-mapped.false, c.number.ensures.value, c.number-in-loop-mapped.ensures.value) in
          subst (λ d. IsMapping M.geometry M.stands M.marks M.room c.args.id c.args.sector sectors n c.args.metadata.now old c.if-number-mapped.start c.if-number-mapped.written (c.loop-mapped.mapped + 1) after d) (ap g.D.Disk.state (sym w.disk-is))
          (subst (λ k. IsMapping M.geometry M.stands M.marks M.room c.args.id c.args.sector sectors n c.args.metadata.now old c.if-number-mapped.start k (c.loop-mapped.mapped + 1) after new) (sym w.written-is)
          (subst (λ k. IsMapping M.geometry M.stands M.marks M.room c.args.id c.args.sector sectors n c.args.metadata.now old k c.loop-mapped.written (c.loop-mapped.mapped + 1) after new) (sym w.start-is)
          (goes_on_joined M.geometry M.stands M.marks M.room c.args.id c.args.sector sectors n c.args.metadata.now old c.loop-mapped.start c.loop-mapped.written c.loop-mapped.mapped c.loop-mapped.metadata between inv after new c.map_new-in-loop-mapped.ensures.changing
          (λ metadata d x kept s. (g.met.M.Metadata.within metadata d x kept s).volumes_now.ascend) c.in_ok-place.place below c.in_ok-place.ensures.ran given more pos c.requires.starts long follows)))
    ]

pub put_run-requires-2-clause-inside : goal.put_run-requires-2-clause-inside
put_run-requires-2-clause-inside g c =
    let M = g.M.Metadata in
    let size = M.geometry c.args.metadata.now in
    let limits : IsWithinLimits size = subst IsWithinLimits c.geometry-geometry.ensures c.block_of.ensures.limits in
    let pos : 0 < size.block_sectors = omega (arith, limits.block_least) in
    let count = length c.args.bytes.now / 512 in
    let n = count / size.block_sectors in
    let bs : c.block_sectors-block_sectors.result ≡ size.block_sectors = c.block_sectors-block_sectors.ensures.value ∙ ap (λ (x : Geometry). x.block_sectors) c.geometry-geometry.ensures in
    let inv = c.loop-mapped.invariant in
    let last : c.loop-mapped.mapped ≡ n = let past : n ≤ c.loop-mapped.mapped = subst (λ k. count / k ≤ c.loop-mapped.mapped) bs c.loop-mapped-test.false in omega (arith, past, inv.most) in
    let fits = run_sectors size c.loop-mapped.start c.loop-mapped.written n (omega (arith, inv.low, last)) (subst (λ k. c.loop-mapped.start + (k - c.loop-mapped.written) ≤ size.data_blocks) last inv.fits) in
    subst (λ (x : Geometry). c.loop-mapped.start * x.block_sectors + (c.block_sectors-block_sectors.result * (count / c.block_sectors-block_sectors.result) - c.block_sectors-block_sectors.result * c.loop-mapped.written) ≤ x.data_blocks * x.block_sectors)
    (sym c.requires.blocks)
    (subst (λ k. c.loop-mapped.start * size.block_sectors + (k * (count / k) - k * c.loop-mapped.written) ≤ size.data_blocks * size.block_sectors) (sym bs) fits)

pub returns-clause-written : goal.returns-clause-written
returns-clause-written g c =
    on_ok_weaker c.put_run-2.result
    (λ is now kept stood device.
    let M = g.M.Metadata in
    let size = M.geometry c.args.metadata.now in
    let limits : IsWithinLimits size = subst IsWithinLimits c.geometry-geometry.ensures c.block_of.ensures.limits in
    let pos : 0 < size.block_sectors = omega (arith, limits.block_least) in
    let count = length c.args.bytes.now / 512 in
    let n = count / size.block_sectors in
    let bs : c.block_sectors-block_sectors.result ≡ size.block_sectors = c.block_sectors-block_sectors.ensures.value ∙ ap (λ (x : Geometry). x.block_sectors) c.geometry-geometry.ensures in
    let sectors = sectors_of c.args.bytes.now in
    let all : n * size.block_sectors + count % size.block_sectors ≡ count = div-add-mod' count size.block_sectors in
    let long : length sectors ≡ n * size.block_sectors = omega (arith, length-sectors_of c.args.bytes.now, all, c.requires.ends) in
    let inv = c.loop-mapped.invariant in
    let old = g.D.Disk.state c.args.disk.now in
    let between = g.D.Disk.state c.loop-mapped.disk in
    let end = g.D.Disk.state c.put_run-2.new.disk in
    let last : c.loop-mapped.mapped ≡ n = let past : n ≤ c.loop-mapped.mapped = subst (λ k. count / k ≤ c.loop-mapped.mapped) bs c.loop-mapped-test.false in omega (arith, past, inv.most) in
    let at : data_sector c.args.blocks.now c.loop-mapped.start ≡ data_sector size c.loop-mapped.start = ap (λ (x : Geometry). data_sector x c.loop-mapped.start) c.requires.blocks in
    let writes_all : Writes (data_sector size c.loop-mapped.start) (take (size.block_sectors * n - size.block_sectors * c.loop-mapped.written) (drop (size.block_sectors * c.loop-mapped.written) sectors)) between end =
    subst (λ k. Writes (data_sector size c.loop-mapped.start) (take (k * (count / k) - k * c.loop-mapped.written) (drop (k * c.loop-mapped.written) sectors)) between end) bs
    (subst (λ a. Writes a (take (c.block_sectors-block_sectors.result * (count / c.block_sectors-block_sectors.result) - c.block_sectors-block_sectors.result * c.loop-mapped.written) (drop (c.block_sectors-block_sectors.result * c.loop-mapped.written) sectors)) between end) at
    c.put_run-2.ensures.any) in
    let writes : Writes (data_sector size c.loop-mapped.start) (take (size.block_sectors * c.loop-mapped.mapped - size.block_sectors * c.loop-mapped.written) (drop (size.block_sectors * c.loop-mapped.written) sectors)) between end =
    subst (λ k. Writes (data_sector size c.loop-mapped.start) (take (size.block_sectors * k - size.block_sectors * c.loop-mapped.written) (drop (size.block_sectors * c.loop-mapped.written) sectors)) between end) (sym last) writes_all in
    let done : end ≡ after_write (data_sector size c.loop-mapped.start) (take (size.block_sectors * c.loop-mapped.mapped - size.block_sectors * c.loop-mapped.written) (drop (size.block_sectors * c.loop-mapped.written) sectors)) between =
    is ∙ ((λ i. after_write (at i) (take (bs i * (count / bs i) - bs i * c.loop-mapped.written) (drop (bs i * c.loop-mapped.written) sectors)) between)
    ∙ ap (λ k. after_write (data_sector size c.loop-mapped.start) (take (size.block_sectors * k - size.block_sectors * c.loop-mapped.written) (drop (size.block_sectors * c.loop-mapped.written) sectors)) between) (sym last)) in
    last_written M.geometry M.stands M.marks M.room c.args.id c.args.sector sectors n c.args.metadata.now old c.loop-mapped.start c.loop-mapped.written c.loop-mapped.mapped c.loop-mapped.metadata between inv last long end writes (λ metadata a b x kept k s. g.met.M.Metadata.frame metadata a b x kept k s) done
    (g.met.D.Disk.well_formed c.loop-mapped.disk) (omega (arith, c.requires.disk, inv.ran.same_disk.size)) pos c.requires.starts now kept stood device)
    c.put_run-2.ensures.ok

pub returns-clause-left : goal.returns-clause-left
returns-clause-left g c =
    let M = g.M.Metadata in
    let size = M.geometry c.args.metadata.now in
    let limits : IsWithinLimits size = subst IsWithinLimits c.geometry-geometry.ensures c.block_of.ensures.limits in
    let pos : 0 < size.block_sectors = omega (arith, limits.block_least) in
    let count = length c.args.bytes.now / 512 in
    let n = count / size.block_sectors in
    let bs : c.block_sectors-block_sectors.result ≡ size.block_sectors = c.block_sectors-block_sectors.ensures.value ∙ ap (λ (x : Geometry). x.block_sectors) c.geometry-geometry.ensures in
    let sectors = sectors_of c.args.bytes.now in
    let all : n * size.block_sectors + count % size.block_sectors ≡ count = div-add-mod' count size.block_sectors in
    let long : length sectors ≡ n * size.block_sectors = omega (arith, length-sectors_of c.args.bytes.now, all, c.requires.ends) in
    let inv = c.loop-mapped.invariant in
    let old = g.D.Disk.state c.args.disk.now in
    let between = g.D.Disk.state c.loop-mapped.disk in
    let end = g.D.Disk.state c.put_run-2.new.disk in
    let last : c.loop-mapped.mapped ≡ n = let past : n ≤ c.loop-mapped.mapped = subst (λ k. count / k ≤ c.loop-mapped.mapped) bs c.loop-mapped-test.false in omega (arith, past, inv.most) in
    let at : data_sector c.args.blocks.now c.loop-mapped.start ≡ data_sector size c.loop-mapped.start = ap (λ (x : Geometry). data_sector x c.loop-mapped.start) c.requires.blocks in
    let writes_all : Writes (data_sector size c.loop-mapped.start) (take (size.block_sectors * n - size.block_sectors * c.loop-mapped.written) (drop (size.block_sectors * c.loop-mapped.written) sectors)) between end =
    subst (λ k. Writes (data_sector size c.loop-mapped.start) (take (k * (count / k) - k * c.loop-mapped.written) (drop (k * c.loop-mapped.written) sectors)) between end) bs
    (subst (λ a. Writes a (take (c.block_sectors-block_sectors.result * (count / c.block_sectors-block_sectors.result) - c.block_sectors-block_sectors.result * c.loop-mapped.written) (drop (c.block_sectors-block_sectors.result * c.loop-mapped.written) sectors)) between end) at
    c.put_run-2.ensures.any) in
    let writes : Writes (data_sector size c.loop-mapped.start) (take (size.block_sectors * c.loop-mapped.mapped - size.block_sectors * c.loop-mapped.written) (drop (size.block_sectors * c.loop-mapped.written) sectors)) between end =
    subst (λ k. Writes (data_sector size c.loop-mapped.start) (take (size.block_sectors * k - size.block_sectors * c.loop-mapped.written) (drop (size.block_sectors * c.loop-mapped.written) sectors)) between end) (sym last) writes_all in
    left_last M.geometry M.stands M.marks M.room c.args.id c.args.sector sectors n c.args.metadata.now old c.loop-mapped.start c.loop-mapped.written c.loop-mapped.mapped c.loop-mapped.metadata between inv last long end writes

pub returns-clause-ran : goal.returns-clause-ran
returns-clause-ran g c =
    let M = g.M.Metadata in
    let size = M.geometry c.args.metadata.now in
    let limits : IsWithinLimits size = subst IsWithinLimits c.geometry-geometry.ensures c.block_of.ensures.limits in
    let pos : 0 < size.block_sectors = omega (arith, limits.block_least) in
    let count = length c.args.bytes.now / 512 in
    let n = count / size.block_sectors in
    let bs : c.block_sectors-block_sectors.result ≡ size.block_sectors = c.block_sectors-block_sectors.ensures.value ∙ ap (λ (x : Geometry). x.block_sectors) c.geometry-geometry.ensures in
    let inv = c.loop-mapped.invariant in
    let between = g.D.Disk.state c.loop-mapped.disk in
    let end = g.D.Disk.state c.put_run-2.new.disk in
    let last : c.loop-mapped.mapped ≡ n = let past : n ≤ c.loop-mapped.mapped = subst (λ k. count / k ≤ c.loop-mapped.mapped) bs c.loop-mapped-test.false in omega (arith, past, inv.most) in
    let ran : Ran 0 (is_fault c.put_run-2.result) (M.room c.loop-mapped.metadata) (M.room c.loop-mapped.metadata) (M.geometry c.loop-mapped.metadata) (M.geometry c.loop-mapped.metadata) between end =
    write_ran c.put_run-2.ensures.any (subst (λ b. FaultHasCause b between end) (err_is_fault c.put_run-2.result c.put_run-2.ensures.only) c.put_run-2.ensures.cause) in
    ran_at_most (ran_joins inv.ran ran refl) (omega (arith, last))

pub returns-in_err-start-clause-damaged : goal.returns-in_err-start-clause-damaged
returns-in_err-start-clause-damaged g c e now kept stood device free =
    let size = g.M.Metadata.geometry c.args.metadata.now in
    let count = length c.args.bytes.now / 512 in
    let n = count / size.block_sectors in
    let f : c.map_new.result ≡ Err Damaged = search (rules, e) in
    let all : n * size.block_sectors + count % size.block_sectors ≡ count = div-add-mod' count size.block_sectors in
    let some = some_whole n size.block_sectors (count % size.block_sectors) count all c.requires.ends c.requires.some in
    c.map_new.ensures.damaged f now kept stood
    (block_has size c.geometry-geometry.result c.geometry-geometry.ensures c.block_of.ensures.limits c.args.id c.args.sector (length (sectors_of c.args.bytes.now)) c.new.result now.volumes (c.new.ensures ∙ (c.number-first.ensures.value ∙ c.block_of.ensures.block)) (omega (arith, c.requires.some, length-sectors_of c.args.bytes.now)) device) (omega (arith, some, free))

pub returns-in_err-place-clause-damaged : goal.returns-in_err-place-clause-damaged
returns-in_err-place-clause-damaged g c e now kept stood device free =
    let M = g.M.Metadata in
    let size = M.geometry c.args.metadata.now in
    let limits : IsWithinLimits size = subst IsWithinLimits c.geometry-geometry.ensures c.block_of.ensures.limits in
    let pos : 0 < size.block_sectors = omega (arith, limits.block_least) in
    let count = length c.args.bytes.now / 512 in
    let n = count / size.block_sectors in
    let bs : c.block_sectors-block_sectors.result ≡ size.block_sectors = c.block_sectors-block_sectors.ensures.value ∙ ap (λ (x : Geometry). x.block_sectors) c.geometry-geometry.ensures in
    let more : c.loop-mapped.mapped < n = subst (λ k. c.loop-mapped.mapped < count / k) bs c.loop-mapped-test.true in
    let first : c.number-first.result ≡ c.args.sector / size.block_sectors =
    c.number-first.ensures.value ∙ (c.block_of.ensures.block ∙ ap (λ (x : Geometry). c.args.sector / x.block_sectors) c.geometry-geometry.ensures) in
    let sectors = sectors_of c.args.bytes.now in
    let all : n * size.block_sectors + count % size.block_sectors ≡ count = div-add-mod' count size.block_sectors in
    let long : length sectors ≡ n * size.block_sectors = omega (arith, length-sectors_of c.args.bytes.now, all, c.requires.ends) in
    let inv = c.loop-mapped.invariant in
    let block : c.new-in-loop-mapped.result ≡ c.args.sector / size.block_sectors + c.loop-mapped.mapped = c.new-in-loop-mapped.ensures ∙ ap (λ k. k + c.loop-mapped.mapped) first in
    let a = inv.blocks now kept stood device in
    let has = next_has M.geometry M.stands M.marks M.room c.args.id c.args.sector sectors n c.args.metadata.now (g.D.Disk.state c.args.disk.now) c.loop-mapped.start c.loop-mapped.written c.loop-mapped.mapped c.loop-mapped.metadata
    (g.D.Disk.state c.loop-mapped.disk) inv pos c.requires.starts long more now kept stood device in
    let f : c.map_new-in-loop-mapped.result ≡ Err Damaged = search (rules, e) in
    let still : 0 < free_places size a.volumes kept.volumes = omega (arith, more, free, a.free) in
    c.map_new-in-loop-mapped.ensures.damaged f (record now { volumes = a.volumes; meta_used = a.meta_used }) kept a.standing
    (subst (λ b. HasBlock (M.geometry c.loop-mapped.metadata) c.args.id b a.volumes) (sym block) has)
    (subst (λ (x : Geometry). 0 < free_places x a.volumes kept.volumes) (sym inv.ran.geometry) still)
