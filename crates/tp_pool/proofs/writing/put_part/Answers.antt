use Rattle.std.proofs.Common.{◌≡◌, ◌+◌, ◌*◌, ◌/◌, ◌%◌, ◌<◌, ◌≤◌, inl, inr, length, refl, ap, ◌∙◌, sym, subst, true≢false, arith}
use Rattle.std.proofs.lemmas.Result.{on_ok_weaker}
use Rattle.tp_model.specs.Geometry.{Geometry, IsWithinLimits}
use Rattle.tp_model.specs.Sectors.{sectors_of}
use Rattle.tp_model.specs.Disk.{DiskState}
use Rattle.tp_model.proofs.DiskLaws.{length-sectors_of}
use Rattle.tp_shown.specs.Shown.{blocks_touched}
use Rattle.tp_pool.specs.Writing.{HasWrittenPart, IsOwnRun, told_taken}
use Rattle.tp_pool.proofs.InPlace.{after_same, half_in_place, writes_same, written_in_place}
use Rattle.tp_pool.proofs.Rounds.{touched_one, touched_whole}
use Rattle.tp_pool.proofs.Runs.{no_fault, one_fault, ran_at_most, write_ran}
use Rattle.tp_pool.proofs.Taken.{told_if_not_own}
use Rattle.tp_pool.proofs.writing.put_part.Goals as goal

pub write_part-requires-clause-inside : goal.write_part-requires-clause-inside
write_part-requires-clause-inside g c =
    let size = g.M.Metadata.geometry c.args.metadata.now in
    let place = c.in-Some.place in
    let n = length c.args.bytes.now / 512 in
    let sectors_is : c.block_sectors-block_sectors.result ≡ size.block_sectors = c.block_sectors-block_sectors.ensures.value ∙ ap (λ (x : Geometry). x.block_sectors) c.geometry-geometry.ensures in
    subst (λ (x : Geometry). place * x.block_sectors + c.args.sector % c.block_sectors-block_sectors.result + n ≤ x.data_blocks * x.block_sectors) (sym c.requires.blocks)
    (subst (λ r. place * size.block_sectors + c.args.sector % r + n ≤ size.data_blocks * size.block_sectors) (sym sectors_is) (c.requires.inside place (sym c.own_place.ensures ∙ c.in-Some.is)))

pub returns-in-Ok-clause-written : goal.returns-in-Ok-clause-written
returns-in-Ok-clause-written g c now kept stood device known =
    let M = g.M.Metadata in
    let size = M.geometry c.args.metadata.now in
    let old = g.D.Disk.state c.args.disk.now in
    let new = g.D.Disk.state c.write_part.new.disk in
    let place = c.in-Some.place in
    let sectors = sectors_of c.args.bytes.now in
    let count = length-sectors_of c.args.bytes.now in
    let offset : c.args.sector % c.block_sectors-block_sectors.result ≡ c.args.sector % size.block_sectors =
    ap (λ n. c.args.sector % n) (c.block_sectors-block_sectors.ensures.value ∙ ap (λ (x : Geometry). x.block_sectors) c.geometry-geometry.ensures) in
    let within = g.met.M.Metadata.within c.args.metadata.now old now kept stood in
    let own : IsOwnRun size c.args.id c.args.sector (length sectors) now.volumes (M.marks c.args.metadata.now) place =
    subst (λ n. IsOwnRun size c.args.id c.args.sector n now.volumes (M.marks c.args.metadata.now) place) (sym count) (known.run place (sym c.own_place.ensures ∙ c.in-Some.is)) in
    written_in_place M.geometry M.stands M.marks c.args.id c.args.sector place sectors c.args.metadata.now old new now kept (omega (arith, within.limits.block_least)) own
    (writes_same c.args.blocks.now size (c.args.sector % c.block_sectors-block_sectors.result) (c.args.sector % size.block_sectors) place sectors old old new c.requires.blocks offset refl c.write_part.ensures.any)
    (blocks_touched size c.args.sector (length c.args.bytes.now / 512)) (told_taken c.args.home)
    (λ x a b k s. g.met.M.Metadata.frame c.args.metadata.now a b x kept k s) stood
    (after_same c.args.blocks.now size (c.args.sector % c.block_sectors-block_sectors.result) (c.args.sector % size.block_sectors) place sectors old old new c.requires.blocks offset refl c.in-Ok.ensures.ok)
    within.volumes_now (g.met.D.Disk.well_formed c.args.disk.now) c.requires.disk

pub returns-in-Ok-clause-left : goal.returns-in-Ok-clause-left
returns-in-Ok-clause-left g c now kept stood device known =
    let M = g.M.Metadata in
    let size = M.geometry c.args.metadata.now in
    let old = g.D.Disk.state c.args.disk.now in
    let new = g.D.Disk.state c.write_part.new.disk in
    let place = c.in-Some.place in
    let sectors = sectors_of c.args.bytes.now in
    let count = length-sectors_of c.args.bytes.now in
    let offset : c.args.sector % c.block_sectors-block_sectors.result ≡ c.args.sector % size.block_sectors =
    ap (λ n. c.args.sector % n) (c.block_sectors-block_sectors.ensures.value ∙ ap (λ (x : Geometry). x.block_sectors) c.geometry-geometry.ensures) in
    let within = g.met.M.Metadata.within c.args.metadata.now old now kept stood in
    let own : IsOwnRun size c.args.id c.args.sector (length sectors) now.volumes (M.marks c.args.metadata.now) place =
    subst (λ n. IsOwnRun size c.args.id c.args.sector n now.volumes (M.marks c.args.metadata.now) place) (sym count) (known.run place (sym c.own_place.ensures ∙ c.in-Some.is)) in
    half_in_place M.geometry M.stands M.marks c.args.id c.args.sector place sectors c.args.metadata.now old new now kept (omega (arith, within.limits.block_least)) own
    (writes_same c.args.blocks.now size (c.args.sector % c.block_sectors-block_sectors.result) (c.args.sector % size.block_sectors) place sectors old old new c.requires.blocks offset refl c.write_part.ensures.any)
    within.tracked (g.met.M.Metadata.left c.args.metadata.now old now kept stood)

pub returns-in-Ok-clause-ran : goal.returns-in-Ok-clause-ran
returns-in-Ok-clause-ran g c =
    let same : (g.D.Disk.state c.write_part.new.disk).failures ≡ (g.D.Disk.state c.args.disk.now).failures = ap (λ (d : DiskState). d.failures) c.in-Ok.ensures.ok in
    ran_at_most (write_ran c.write_part.ensures.any (no_fault same)) (omega arith)

pub returns-in-Err-clause-left : goal.returns-in-Err-clause-left
returns-in-Err-clause-left g c now kept stood device known =
    let M = g.M.Metadata in
    let size = M.geometry c.args.metadata.now in
    let old = g.D.Disk.state c.args.disk.now in
    let new = g.D.Disk.state c.write_part.new.disk in
    let place = c.in-Some.place in
    let sectors = sectors_of c.args.bytes.now in
    let count = length-sectors_of c.args.bytes.now in
    let offset : c.args.sector % c.block_sectors-block_sectors.result ≡ c.args.sector % size.block_sectors =
    ap (λ n. c.args.sector % n) (c.block_sectors-block_sectors.ensures.value ∙ ap (λ (x : Geometry). x.block_sectors) c.geometry-geometry.ensures) in
    let within = g.met.M.Metadata.within c.args.metadata.now old now kept stood in
    let own : IsOwnRun size c.args.id c.args.sector (length sectors) now.volumes (M.marks c.args.metadata.now) place =
    subst (λ n. IsOwnRun size c.args.id c.args.sector n now.volumes (M.marks c.args.metadata.now) place) (sym count) (known.run place (sym c.own_place.ensures ∙ c.in-Some.is)) in
    half_in_place M.geometry M.stands M.marks c.args.id c.args.sector place sectors c.args.metadata.now old new now kept (omega (arith, within.limits.block_least)) own
    (writes_same c.args.blocks.now size (c.args.sector % c.block_sectors-block_sectors.result) (c.args.sector % size.block_sectors) place sectors old old new c.requires.blocks offset refl c.write_part.ensures.any)
    within.tracked (g.met.M.Metadata.left c.args.metadata.now old now kept stood)

pub returns-in-Err-clause-ran : goal.returns-in-Err-clause-ran
returns-in-Err-clause-ran g c = ran_at_most (write_ran c.write_part.ensures.any (one_fault c.in-Err.ensures.err)) (omega arith)

pub put_new_run-requires-clause-room : goal.put_new_run-requires-clause-room
put_new_run-requires-clause-room g c =
    let M = g.M.Metadata in
    let size = M.geometry c.args.metadata.now in
    let count = length c.args.bytes.now / 512 in
    let limits : IsWithinLimits size = subst IsWithinLimits c.geometry-geometry.ensures c.block_sectors-block_sectors.ensures.within in
    let pos : 0 < size.block_sectors = omega (arith, limits.block_least) in
    let bs : c.block_sectors-block_sectors.result ≡ size.block_sectors = c.block_sectors-block_sectors.ensures.value ∙ ap (λ (x : Geometry). x.block_sectors) c.geometry-geometry.ensures in
    let none = sym c.own_place.ensures ∙ c.in-None.is in
    let more : size.block_sectors < c.args.sector % size.block_sectors + count = subst (λ k. k < c.args.sector % k + count) bs c.if-offset-bytes.true in
    let whole : (c.args.sector % size.block_sectors ≡ 0) × (count % size.block_sectors ≡ 0) = elim (c.requires.alone none) [ inl fits ↦ absurd (omega (arith, fits, more)) | inr w ↦ w ] in
    let are : blocks_touched size c.args.sector count ≡ count / size.block_sectors = touched_whole size pos c.args.sector count c.requires.some whole.0 whole.1 in
    omega (arith, are, c.requires.room)

pub returns-then-offset-bytes-clause-written : goal.returns-then-offset-bytes-clause-written
returns-then-offset-bytes-clause-written g c =
    on_ok_weaker c.put_new_run.result
    (λ done now kept stood device known.
    let M = g.M.Metadata in
    let size = M.geometry c.args.metadata.now in
    let count = length c.args.bytes.now / 512 in
    let limits : IsWithinLimits size = subst IsWithinLimits c.geometry-geometry.ensures c.block_sectors-block_sectors.ensures.within in
    let pos : 0 < size.block_sectors = omega (arith, limits.block_least) in
    let bs : c.block_sectors-block_sectors.result ≡ size.block_sectors = c.block_sectors-block_sectors.ensures.value ∙ ap (λ (x : Geometry). x.block_sectors) c.geometry-geometry.ensures in
    let none = sym c.own_place.ensures ∙ c.in-None.is in
    let more : size.block_sectors < c.args.sector % size.block_sectors + count = subst (λ k. k < c.args.sector % k + count) bs c.if-offset-bytes.true in
    let whole : (c.args.sector % size.block_sectors ≡ 0) × (count % size.block_sectors ≡ 0) = elim (c.requires.alone none) [ inl fits ↦ absurd (omega (arith, fits, more)) | inr w ↦ w ] in
    let are : blocks_touched size c.args.sector count ≡ count / size.block_sectors = touched_whole size pos c.args.sector count c.requires.some whole.0 whole.1 in
    subst (λ n. HasWrittenPart M.geometry M.stands M.marks c.args.id (c.args.sector / size.block_sectors) n c.args.sector (sectors_of c.args.bytes.now) (told_taken c.args.home) c.args.metadata.now c.put_new_run.new.metadata
    (g.D.Disk.state c.args.disk.now) (g.D.Disk.state c.put_new_run.new.disk) now kept) (sym are)
    (subst (λ t. HasWrittenPart M.geometry M.stands M.marks c.args.id (c.args.sector / size.block_sectors) (count / size.block_sectors) c.args.sector (sectors_of c.args.bytes.now) t c.args.metadata.now c.put_new_run.new.metadata
    (g.D.Disk.state c.args.disk.now) (g.D.Disk.state c.put_new_run.new.disk) now kept) (sym (told_if_not_own c.args.home none))
    (done now kept stood device)))
    c.put_new_run.ensures.written

pub returns-then-offset-bytes-clause-damaged : goal.returns-then-offset-bytes-clause-damaged
returns-then-offset-bytes-clause-damaged g c e now kept stood device free =
    let M = g.M.Metadata in
    let size = M.geometry c.args.metadata.now in
    let count = length c.args.bytes.now / 512 in
    let limits : IsWithinLimits size = subst IsWithinLimits c.geometry-geometry.ensures c.block_sectors-block_sectors.ensures.within in
    let pos : 0 < size.block_sectors = omega (arith, limits.block_least) in
    let bs : c.block_sectors-block_sectors.result ≡ size.block_sectors = c.block_sectors-block_sectors.ensures.value ∙ ap (λ (x : Geometry). x.block_sectors) c.geometry-geometry.ensures in
    let none = sym c.own_place.ensures ∙ c.in-None.is in
    let more : size.block_sectors < c.args.sector % size.block_sectors + count = subst (λ k. k < c.args.sector % k + count) bs c.if-offset-bytes.true in
    let whole : (c.args.sector % size.block_sectors ≡ 0) × (count % size.block_sectors ≡ 0) = elim (c.requires.alone none) [ inl fits ↦ absurd (omega (arith, fits, more)) | inr w ↦ w ] in
    let are : blocks_touched size c.args.sector count ≡ count / size.block_sectors = touched_whole size pos c.args.sector count c.requires.some whole.0 whole.1 in
    let enough = free (told_if_not_own c.args.home none) in
    c.put_new_run.ensures.damaged e now kept stood device (omega (arith, are, enough))

pub returns-then-offset-bytes-clause-ran : goal.returns-then-offset-bytes-clause-ran
returns-then-offset-bytes-clause-ran g c =
    let M = g.M.Metadata in
    let size = M.geometry c.args.metadata.now in
    let count = length c.args.bytes.now / 512 in
    let limits : IsWithinLimits size = subst IsWithinLimits c.geometry-geometry.ensures c.block_sectors-block_sectors.ensures.within in
    let pos : 0 < size.block_sectors = omega (arith, limits.block_least) in
    let bs : c.block_sectors-block_sectors.result ≡ size.block_sectors = c.block_sectors-block_sectors.ensures.value ∙ ap (λ (x : Geometry). x.block_sectors) c.geometry-geometry.ensures in
    let none = sym c.own_place.ensures ∙ c.in-None.is in
    let more : size.block_sectors < c.args.sector % size.block_sectors + count = subst (λ k. k < c.args.sector % k + count) bs c.if-offset-bytes.true in
    let whole : (c.args.sector % size.block_sectors ≡ 0) × (count % size.block_sectors ≡ 0) = elim (c.requires.alone none) [ inl fits ↦ absurd (omega (arith, fits, more)) | inr w ↦ w ] in
    let are : blocks_touched size c.args.sector count ≡ count / size.block_sectors = touched_whole size pos c.args.sector count c.requires.some whole.0 whole.1 in
    ran_at_most c.put_new_run.ensures.ran (omega (arith, are))

pub returns-else-offset-bytes-clause-written : goal.returns-else-offset-bytes-clause-written
returns-else-offset-bytes-clause-written g c =
    on_ok_weaker c.put_new.result
    (λ done now kept stood device known.
    let M = g.M.Metadata in
    let size = M.geometry c.args.metadata.now in
    let count = length c.args.bytes.now / 512 in
    let limits : IsWithinLimits size = subst IsWithinLimits c.geometry-geometry.ensures c.block_sectors-block_sectors.ensures.within in
    let pos : 0 < size.block_sectors = omega (arith, limits.block_least) in
    let bs : c.block_sectors-block_sectors.result ≡ size.block_sectors = c.block_sectors-block_sectors.ensures.value ∙ ap (λ (x : Geometry). x.block_sectors) c.geometry-geometry.ensures in
    let none = sym c.own_place.ensures ∙ c.in-None.is in
    let fits : c.args.sector % size.block_sectors + count ≤ size.block_sectors = subst (λ k. c.args.sector % k + count ≤ k) bs c.if-offset-bytes.false in
    let one : blocks_touched size c.args.sector count ≡ 1 = touched_one size pos c.args.sector count c.requires.some fits in
    subst (λ n. HasWrittenPart M.geometry M.stands M.marks c.args.id (c.args.sector / size.block_sectors) n c.args.sector (sectors_of c.args.bytes.now) (told_taken c.args.home) c.args.metadata.now c.put_new.new.metadata
    (g.D.Disk.state c.args.disk.now) (g.D.Disk.state c.put_new.new.disk) now kept) (sym one)
    (subst (λ t. HasWrittenPart M.geometry M.stands M.marks c.args.id (c.args.sector / size.block_sectors) 1 c.args.sector (sectors_of c.args.bytes.now) t c.args.metadata.now c.put_new.new.metadata
    (g.D.Disk.state c.args.disk.now) (g.D.Disk.state c.put_new.new.disk) now kept) (sym (told_if_not_own c.args.home none))
    (done now kept stood device (c.old_place.ensures ∙ known.has))))
    c.put_new.ensures.written

pub returns-else-offset-bytes-clause-damaged : goal.returns-else-offset-bytes-clause-damaged
returns-else-offset-bytes-clause-damaged g c e now kept stood device free =
    let M = g.M.Metadata in
    let size = M.geometry c.args.metadata.now in
    let count = length c.args.bytes.now / 512 in
    let limits : IsWithinLimits size = subst IsWithinLimits c.geometry-geometry.ensures c.block_sectors-block_sectors.ensures.within in
    let pos : 0 < size.block_sectors = omega (arith, limits.block_least) in
    let bs : c.block_sectors-block_sectors.result ≡ size.block_sectors = c.block_sectors-block_sectors.ensures.value ∙ ap (λ (x : Geometry). x.block_sectors) c.geometry-geometry.ensures in
    let none = sym c.own_place.ensures ∙ c.in-None.is in
    let fits : c.args.sector % size.block_sectors + count ≤ size.block_sectors = subst (λ k. c.args.sector % k + count ≤ k) bs c.if-offset-bytes.false in
    let one : blocks_touched size c.args.sector count ≡ 1 = touched_one size pos c.args.sector count c.requires.some fits in
    let enough = free (told_if_not_own c.args.home none) in
    c.put_new.ensures.damaged e now kept stood device (omega (arith, one, enough))

pub returns-then-offset-bytes-clause-still : goal.returns-then-offset-bytes-clause-still
returns-then-offset-bytes-clause-still g c none_taken = absurd (true≢false (sym (told_if_not_own c.args.home (sym c.own_place.ensures ∙ c.in-None.is)) ∙ none_taken))

pub returns-else-offset-bytes-clause-still : goal.returns-else-offset-bytes-clause-still
returns-else-offset-bytes-clause-still g c none_taken = absurd (true≢false (sym (told_if_not_own c.args.home (sym c.own_place.ensures ∙ c.in-None.is)) ∙ none_taken))
