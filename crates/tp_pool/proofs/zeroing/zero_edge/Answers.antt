use Rattle.std.proofs.Common.{◌≡◌, ◌/◌, ◌%◌, ◌<◌, true, false, not, length, inl, inr, refl, sym, ◌∙◌, ap, subst, arith, ◌+◌}
use Rattle.std.specs.Option.{is_some}
use Rattle.std.proofs.lemmas.Result.{on_ok_weaker}
use Rattle.tp_model.specs.Calls.{WriteZeroes}
use Rattle.tp_model.specs.Sectors.{sectors_of}
use Rattle.tp_sharing.specs.Volumes.{slot_of}
use Rattle.tp_model.proofs.DiskLaws.{length-sectors_of}
use Rattle.tp_pool.proofs.Ranges.{reached_still}
use Rattle.tp_pool.specs.Writing.{HasWrittenPart, IsKnown, told_taken}
use Rattle.tp_pool.specs.Zeroing.{HasZeroed, edge_takes}
use Rattle.tp_pool.proofs.Halves.{half_starts}
use Rattle.tp_pool.proofs.Rounds.{touched_one}
use Rattle.tp_pool.proofs.Runs.{at_rest_ran, ran_at_most}
use Rattle.tp_pool.proofs.Zeroed.{edge_inside, effect_here, no_home, taken_of, takes_none, there_of, zeroed_nothing, zeroed_written, zeroes_left}
use Rattle.tp_pool.proofs.zeroing.zero_edge.Goals as goal

pub put_part-requires-clause-whole : goal.put_part-requires-clause-whole
put_part-requires-clause-whole g c = omega (arith, c.zeros.ensures.length)

pub put_part-requires-clause-some : goal.put_part-requires-clause-some
put_part-requires-clause-some g c = omega (arith, c.zeros.ensures.length, c.if-count-eq0.false)

pub put_part-requires-clause-alone : goal.put_part-requires-clause-alone
put_part-requires-clause-alone g c own = inl (omega (arith, c.zeros.ensures.length, c.requires.inside))

pub put_part-requires-clause-inside : goal.put_part-requires-clause-inside
put_part-requires-clause-inside g c place own =
    edge_inside (g.M.Metadata.geometry c.args.metadata.now) c.args.home place (c.args.sector % (g.M.Metadata.geometry c.args.metadata.now).block_sectors) (length c.zeros.result.now / 512) own c.requires.place
    (omega (arith, c.zeros.ensures.length, c.requires.inside))

pub returns-then-count-eq0-clause-zeroed : goal.returns-then-count-eq0-clause-zeroed
returns-then-count-eq0-clause-zeroed g c now kept stood device known =
    let M = g.M.Metadata in
    let size = M.geometry c.args.metadata.now in
    let old = g.D.Disk.state c.args.disk.now in
    let within = g.met.M.Metadata.within c.args.metadata.now old now kept stood in
    let pos : 0 < size.block_sectors = omega (arith, within.limits.block_least) in
    subst (λ b. HasZeroed M.geometry M.stands M.marks c.args.id (c.args.sector / size.block_sectors) c.args.sector c.args.count b c.args.metadata.now c.args.metadata.now old old now kept) (sym (takes_none c.args.home c.args.count (inl c.if-count-eq0.true)))
    (zeroed_nothing size pos c.args.id c.args.sector c.args.count c.requires.inside c.requires.part M.geometry M.stands M.marks now kept c.args.metadata.now old refl stood (inl c.if-count-eq0.true))

pub returns-then-count-eq0-clause-left : goal.returns-then-count-eq0-clause-left
returns-then-count-eq0-clause-left g c now kept stood device known =
    let M = g.M.Metadata in
    let size = M.geometry c.args.metadata.now in
    let old = g.D.Disk.state c.args.disk.now in
    let within = g.met.M.Metadata.within c.args.metadata.now old now kept stood in
    let pos : 0 < size.block_sectors = omega (arith, within.limits.block_least) in
    half_starts size (WriteZeroes c.args.id c.args.sector c.args.count false false) c.args.id now.volumes kept old (g.met.M.Metadata.left c.args.metadata.now old now kept stood)

pub returns-then-count-eq0-clause-ran : goal.returns-then-count-eq0-clause-ran
returns-then-count-eq0-clause-ran g c = ran_at_most (at_rest_ran (g.D.Disk.state c.args.disk.now)) (omega arith)

pub returns-then-is_none-clause-zeroed : goal.returns-then-is_none-clause-zeroed
returns-then-is_none-clause-zeroed g c now kept stood device known =
    let M = g.M.Metadata in
    let size = M.geometry c.args.metadata.now in
    let old = g.D.Disk.state c.args.disk.now in
    let within = g.met.M.Metadata.within c.args.metadata.now old now kept stood in
    let pos : 0 < size.block_sectors = omega (arith, within.limits.block_least) in
    let some : 0 < c.args.count = omega (arith, c.if-count-eq0.false) in
    let none : is_some c.args.home ≡ false = c.is_none.ensures ∙ ap not c.if-is_none.true in
    subst (λ b. HasZeroed M.geometry M.stands M.marks c.args.id (c.args.sector / size.block_sectors) c.args.sector c.args.count b c.args.metadata.now c.args.metadata.now old old now kept) (sym (takes_none c.args.home c.args.count (inr none)))
    (zeroed_nothing size pos c.args.id c.args.sector c.args.count c.requires.inside c.requires.part M.geometry M.stands M.marks now kept c.args.metadata.now old refl stood (inr (sym (known some).has ∙ no_home c.args.home none)))

pub returns-then-is_none-clause-left : goal.returns-then-is_none-clause-left
returns-then-is_none-clause-left g c now kept stood device known =
    let M = g.M.Metadata in
    let size = M.geometry c.args.metadata.now in
    let old = g.D.Disk.state c.args.disk.now in
    let within = g.met.M.Metadata.within c.args.metadata.now old now kept stood in
    let pos : 0 < size.block_sectors = omega (arith, within.limits.block_least) in
    half_starts size (WriteZeroes c.args.id c.args.sector c.args.count false false) c.args.id now.volumes kept old (g.met.M.Metadata.left c.args.metadata.now old now kept stood)

pub returns-then-is_none-clause-ran : goal.returns-then-is_none-clause-ran
returns-then-is_none-clause-ran g c = ran_at_most (at_rest_ran (g.D.Disk.state c.args.disk.now)) (omega arith)

pub returns-clause-zeroed : goal.returns-clause-zeroed
returns-clause-zeroed g c =
    on_ok_weaker c.put_part.result
    (λ done now kept stood device known.
    let M = g.M.Metadata in
    let size = M.geometry c.args.metadata.now in
    let old = g.D.Disk.state c.args.disk.now in
    let within = g.met.M.Metadata.within c.args.metadata.now old now kept stood in
    let pos : 0 < size.block_sectors = omega (arith, within.limits.block_least) in
    let some : 0 < c.args.count = omega (arith, c.if-count-eq0.false) in
    let there : is_some c.args.home ≡ true = c.is_none.ensures ∙ ap not c.if-is_none.false in
    let long : length c.zeros.result.now / 512 ≡ c.args.count = omega (arith, c.zeros.ensures.length) in
    let known_it = known some in
    let mapped = there_of c.args.home there (slot_of c.args.id (c.args.sector / size.block_sectors) now.volumes) known_it.has in
    let known_all = subst (λ n. IsKnown size c.args.id c.args.sector n now.volumes (M.marks c.args.metadata.now) c.args.home) (sym long) known_it in
    zeroed_written size pos c.args.id c.args.sector c.args.count c.requires.inside c.requires.part M.geometry M.stands M.marks now kept some mapped c.args.metadata.now c.put_part.new.metadata old (g.D.Disk.state c.put_part.new.disk)
    (told_taken c.args.home) (edge_takes c.args.count c.args.home) (sectors_of c.zeros.result.now) refl c.zeros.ensures.sectors (taken_of c.args.home c.args.count there some)
    (subst (λ n. HasWrittenPart M.geometry M.stands M.marks c.args.id (c.args.sector / size.block_sectors) n c.args.sector (sectors_of c.zeros.result.now) (told_taken c.args.home) c.args.metadata.now c.put_part.new.metadata
    old (g.D.Disk.state c.put_part.new.disk) now kept) (touched_one size pos c.args.sector (length c.zeros.result.now / 512) (omega (arith, long, some)) (omega (arith, long, c.requires.inside)))
    (done now kept stood
    (reached_still (g.M.Metadata.geometry c.args.metadata.now) c.args.id (c.args.sector + c.args.count) (c.args.sector + length (sectors_of c.zeros.result.now)) now.volumes now.volumes (omega (arith, length-sectors_of c.zeros.result.now, c.zeros.ensures.length)) (λ s. s) refl device) known_all)))
    c.put_part.ensures.written

pub returns-clause-left : goal.returns-clause-left
returns-clause-left g c now kept stood device known =
    let M = g.M.Metadata in
    let size = M.geometry c.args.metadata.now in
    let old = g.D.Disk.state c.args.disk.now in
    let within = g.met.M.Metadata.within c.args.metadata.now old now kept stood in
    let pos : 0 < size.block_sectors = omega (arith, within.limits.block_least) in
    let some : 0 < c.args.count = omega (arith, c.if-count-eq0.false) in
    let there : is_some c.args.home ≡ true = c.is_none.ensures ∙ ap not c.if-is_none.false in
    let long : length c.zeros.result.now / 512 ≡ c.args.count = omega (arith, c.zeros.ensures.length) in
    let known_it = known some in
    let mapped = there_of c.args.home there (slot_of c.args.id (c.args.sector / size.block_sectors) now.volumes) known_it.has in
    let known_all = subst (λ n. IsKnown size c.args.id c.args.sector n now.volumes (M.marks c.args.metadata.now) c.args.home) (sym long) known_it in
    zeroes_left size pos c.args.id c.args.sector c.args.count false now.volumes kept (sectors_of c.zeros.result.now) c.zeros.ensures.sectors
    (λ block t. effect_here size pos c.args.id c.args.sector c.args.count c.requires.inside c.requires.part now.volumes block t mapped) old (g.D.Disk.state c.put_part.new.disk)
    (c.put_part.ensures.left now kept stood
    (reached_still (g.M.Metadata.geometry c.args.metadata.now) c.args.id (c.args.sector + c.args.count) (c.args.sector + length (sectors_of c.zeros.result.now)) now.volumes now.volumes (omega (arith, length-sectors_of c.zeros.result.now, c.zeros.ensures.length)) (λ s. s) refl device) known_all)

pub returns-clause-damaged : goal.returns-clause-damaged
returns-clause-damaged g c e now kept stood device free =
    let M = g.M.Metadata in
    let size = M.geometry c.args.metadata.now in
    let within = g.met.M.Metadata.within c.args.metadata.now (g.D.Disk.state c.args.disk.now) now kept stood in
    let pos : 0 < size.block_sectors = omega (arith, within.limits.block_least) in
    let there : is_some c.args.home ≡ true = c.is_none.ensures ∙ ap not c.if-is_none.false in
    let some : 0 < c.args.count = omega (arith, c.if-count-eq0.false) in
    let long : length c.zeros.result.now / 512 ≡ c.args.count = omega (arith, c.zeros.ensures.length) in
    let one = touched_one size pos c.args.sector (length c.zeros.result.now / 512) (omega (arith, long, some)) (omega (arith, long, c.requires.inside)) in
    c.put_part.ensures.damaged e now kept stood
    (reached_still (g.M.Metadata.geometry c.args.metadata.now) c.args.id (c.args.sector + c.args.count) (c.args.sector + length (sectors_of c.zeros.result.now)) now.volumes now.volumes (omega (arith, length-sectors_of c.zeros.result.now, c.zeros.ensures.length)) (λ s. s) refl device) (λ takes. let enough = free (sym (taken_of c.args.home c.args.count there some) ∙ takes) in omega (arith, one, enough))
