use Rattle.std.proofs.Common.{Err, ◌≡◌, ◌+◌, ◌-◌, ◌/◌, ◌%◌, ◌<◌, ◌≤◌, Option, None, length, refl, sym, ◌∙◌, ap, subst, arith}
use Rattle.std.specs.Prelude.{IsTrue, slice_index_or}
use Rattle.std.proofs.lemmas.List.{get_or_default}
use Rattle.std.proofs.lemmas.Result.{err_from_is_err_and, on_ok_weaker}
use Rattle.tp_model.specs.Geometry.{Geometry, IsWithinLimits}
use Rattle.tp_model.specs.DiskStops.{LeavesOnly}
use Rattle.tp_counts.specs.declared.error.StoreError.{StoreError}
use Rattle.tp_counts.specs.declared.error.StoreError.TheVariants.{Damaged}
use Rattle.tp_counts.proofs.Refusing.{fault_is, refusal_is}
use Rattle.tp_stored.specs.Contents.{Contents, IsStill}
use Rattle.tp_meta.specs.Metadata.{IsInside, Ran}
use Rattle.tp_meta.specs.declared.metadata.Home.{Home}
use Rattle.tp_pool.specs.Writing.{Reaches}
use Rattle.tp_pool.proofs.Ranges.{reached_still}
use Rattle.tp_pool.specs.Zeroing.{AreEdges, HasCleared, HasZeroed, KnowsEdge, edge_takes}
use Rattle.tp_pool.proofs.Cleared.{cleared_all, end_is, free_first, free_last, head_fits, head_left, head_small, known_first, known_last, left_second, left_third, tail_fits}
use Rattle.tp_pool.proofs.Rounds.{some_touched}
use Rattle.tp_pool.proofs.Runs.{ran_at_most, ran_joins}
use Rattle.tp_pool.proofs.zeroing.clear_range.Goals as goal

pub bounds-homes-first : goal.bounds-homes-first
bounds-homes-first g c =
    let size = g.M.Metadata.geometry c.args.metadata.now in
    let homes = c.args.homes.now in
    let head = c.edges-head.result.0 in
    let tail = c.edges-head.result.1 in
    let limits : IsWithinLimits size = subst IsWithinLimits c.geometry-geometry.ensures c.edges-head.ensures.limits in
    let pos : 0 < size.block_sectors = omega (arith, limits.block_least) in
    let e : AreEdges size c.args.sector c.args.count head tail = subst (λ (x : Geometry). AreEdges x c.args.sector c.args.count head tail) c.geometry-geometry.ensures c.edges-head.ensures.edges in
    let some_homes : 0 < length homes = let t = some_touched size pos c.args.sector c.args.count c.requires.some in omega (arith, t, c.requires.homes) in
    some_homes

pub bounds-homes-last : goal.bounds-homes-last
bounds-homes-last g c =
    let size = g.M.Metadata.geometry c.args.metadata.now in
    let homes = c.args.homes.now in
    let head = c.edges-head.result.0 in
    let tail = c.edges-head.result.1 in
    let limits : IsWithinLimits size = subst IsWithinLimits c.geometry-geometry.ensures c.edges-head.ensures.limits in
    let pos : 0 < size.block_sectors = omega (arith, limits.block_least) in
    let e : AreEdges size c.args.sector c.args.count head tail = subst (λ (x : Geometry). AreEdges x c.args.sector c.args.count head tail) c.geometry-geometry.ensures c.edges-head.ensures.edges in
    let some_homes : 0 < length homes = let t = some_touched size pos c.args.sector c.args.count c.requires.some in omega (arith, t, c.requires.homes) in
    omega (arith, some_homes)

pub zero_edge-requires-clause-inside : goal.zero_edge-requires-clause-inside
zero_edge-requires-clause-inside g c =
    let size = g.M.Metadata.geometry c.args.metadata.now in
    let homes = c.args.homes.now in
    let head = c.edges-head.result.0 in
    let tail = c.edges-head.result.1 in
    let limits : IsWithinLimits size = subst IsWithinLimits c.geometry-geometry.ensures c.edges-head.ensures.limits in
    let pos : 0 < size.block_sectors = omega (arith, limits.block_least) in
    let e : AreEdges size c.args.sector c.args.count head tail = subst (λ (x : Geometry). AreEdges x c.args.sector c.args.count head tail) c.geometry-geometry.ensures c.edges-head.ensures.edges in
    let some_homes : 0 < length homes = let t = some_touched size pos c.args.sector c.args.count c.requires.some in omega (arith, t, c.requires.homes) in
    head_fits size pos c.args.sector c.args.count head tail c.requires.some e

pub zero_edge-requires-clause-part : goal.zero_edge-requires-clause-part
zero_edge-requires-clause-part g c =
    let size = g.M.Metadata.geometry c.args.metadata.now in
    let homes = c.args.homes.now in
    let head = c.edges-head.result.0 in
    let tail = c.edges-head.result.1 in
    let limits : IsWithinLimits size = subst IsWithinLimits c.geometry-geometry.ensures c.edges-head.ensures.limits in
    let pos : 0 < size.block_sectors = omega (arith, limits.block_least) in
    let e : AreEdges size c.args.sector c.args.count head tail = subst (λ (x : Geometry). AreEdges x c.args.sector c.args.count head tail) c.geometry-geometry.ensures c.edges-head.ensures.edges in
    let some_homes : 0 < length homes = let t = some_touched size pos c.args.sector c.args.count c.requires.some in omega (arith, t, c.requires.homes) in
    head_small size pos c.args.sector c.args.count head tail c.requires.some e

pub zero_edge-requires-clause-place : goal.zero_edge-requires-clause-place
zero_edge-requires-clause-place g c =
    let size = g.M.Metadata.geometry c.args.metadata.now in
    let homes = c.args.homes.now in
    let head = c.edges-head.result.0 in
    let tail = c.edges-head.result.1 in
    let limits : IsWithinLimits size = subst IsWithinLimits c.geometry-geometry.ensures c.edges-head.ensures.limits in
    let pos : 0 < size.block_sectors = omega (arith, limits.block_least) in
    let e : AreEdges size c.args.sector c.args.count head tail = subst (λ (x : Geometry). AreEdges x c.args.sector c.args.count head tail) c.geometry-geometry.ensures c.edges-head.ensures.edges in
    let some_homes : 0 < length homes = let t = some_touched size pos c.args.sector c.args.count c.requires.some in omega (arith, t, c.requires.homes) in
    let is : c.index-homes-first.result ≡ slice_index_or homes 0 None = c.index-homes-first.is ∙ get_or_default homes 0 c.index-homes-first.result None some_homes in
    subst (IsInside size.data_blocks) (sym is) (c.requires.places 0 some_homes)

pub zero_edge-requires-2-clause-inside : goal.zero_edge-requires-2-clause-inside
zero_edge-requires-2-clause-inside g c =
    let size = g.M.Metadata.geometry c.args.metadata.now in
    let homes = c.args.homes.now in
    let head = c.edges-head.result.0 in
    let tail = c.edges-head.result.1 in
    let limits : IsWithinLimits size = subst IsWithinLimits c.geometry-geometry.ensures c.edges-head.ensures.limits in
    let pos : 0 < size.block_sectors = omega (arith, limits.block_least) in
    let e : AreEdges size c.args.sector c.args.count head tail = subst (λ (x : Geometry). AreEdges x c.args.sector c.args.count head tail) c.geometry-geometry.ensures c.edges-head.ensures.edges in
    let some_homes : 0 < length homes = let t = some_touched size pos c.args.sector c.args.count c.requires.some in omega (arith, t, c.requires.homes) in
    subst (λ (x : Geometry). (c.args.sector + c.args.count - tail) % x.block_sectors + tail ≤ x.block_sectors) (sym c.in_ok-zero_edge.ensures.ran.geometry) (tail_fits size pos c.args.sector c.args.count head tail c.requires.some e)

pub zero_edge-requires-2-clause-part : goal.zero_edge-requires-2-clause-part
zero_edge-requires-2-clause-part g c =
    let size = g.M.Metadata.geometry c.args.metadata.now in
    let homes = c.args.homes.now in
    let head = c.edges-head.result.0 in
    let tail = c.edges-head.result.1 in
    let limits : IsWithinLimits size = subst IsWithinLimits c.geometry-geometry.ensures c.edges-head.ensures.limits in
    let pos : 0 < size.block_sectors = omega (arith, limits.block_least) in
    let e : AreEdges size c.args.sector c.args.count head tail = subst (λ (x : Geometry). AreEdges x c.args.sector c.args.count head tail) c.geometry-geometry.ensures c.edges-head.ensures.edges in
    let some_homes : 0 < length homes = let t = some_touched size pos c.args.sector c.args.count c.requires.some in omega (arith, t, c.requires.homes) in
    subst (λ (x : Geometry). tail < x.block_sectors) (sym c.in_ok-zero_edge.ensures.ran.geometry) e.last

pub zero_edge-requires-2-clause-place : goal.zero_edge-requires-2-clause-place
zero_edge-requires-2-clause-place g c =
    let size = g.M.Metadata.geometry c.args.metadata.now in
    let homes = c.args.homes.now in
    let head = c.edges-head.result.0 in
    let tail = c.edges-head.result.1 in
    let limits : IsWithinLimits size = subst IsWithinLimits c.geometry-geometry.ensures c.edges-head.ensures.limits in
    let pos : 0 < size.block_sectors = omega (arith, limits.block_least) in
    let e : AreEdges size c.args.sector c.args.count head tail = subst (λ (x : Geometry). AreEdges x c.args.sector c.args.count head tail) c.geometry-geometry.ensures c.edges-head.ensures.edges in
    let some_homes : 0 < length homes = let t = some_touched size pos c.args.sector c.args.count c.requires.some in omega (arith, t, c.requires.homes) in
    let last = length homes - 1 in
    let small : last < length homes = omega (arith, some_homes) in
    let is : c.index-homes-last.result ≡ slice_index_or homes last None = c.index-homes-last.is ∙ get_or_default homes last c.index-homes-last.result None small in
    subst (λ (x : Geometry). IsInside x.data_blocks c.index-homes-last.result) (sym c.in_ok-zero_edge.ensures.ran.geometry) (subst (IsInside size.data_blocks) (sym is) (c.requires.places last small))

pub returns-in_err-zero_edge-clause-left : goal.returns-in_err-zero_edge-clause-left
returns-in_err-zero_edge-clause-left g c now kept stood device =
    let M = g.M.Metadata in
    let size = M.geometry c.args.metadata.now in
    let homes = c.args.homes.now in
    let head = c.edges-head.result.0 in
    let tail = c.edges-head.result.1 in
    let d0 = g.D.Disk.state c.args.disk.now in
    let within = g.met.M.Metadata.within c.args.metadata.now d0 now kept stood in
    let pos : 0 < size.block_sectors = omega (arith, within.limits.block_least) in
    let e : AreEdges size c.args.sector c.args.count head tail = subst (λ (x : Geometry). AreEdges x c.args.sector c.args.count head tail) c.geometry-geometry.ensures c.edges-head.ensures.edges in
    let some_homes : 0 < length homes = let t = some_touched size pos c.args.sector c.args.count c.requires.some in omega (arith, t, c.requires.homes) in
    let is_first : c.index-homes-first.result ≡ slice_index_or homes 0 None = c.index-homes-first.is ∙ get_or_default homes 0 c.index-homes-first.result None some_homes in
    let known = subst (λ (h : Option Home). KnowsEdge size c.args.id c.args.sector head now.volumes (M.marks c.args.metadata.now) h) (sym is_first) (known_first M.geometry M.stands M.marks c.args.id c.args.sector c.args.count head tail homes c.args.metadata.now d0 now kept pos c.requires.some e within.volumes_now c.requires.homes (c.requires.told now kept stood) (length homes - 1) refl some_homes) in
    head_left M.geometry M.stands M.marks c.args.id c.args.sector c.args.count head tail homes c.args.metadata.now d0 now kept pos c.requires.some e within.volumes_now c.requires.homes (c.requires.told now kept stood) (length homes - 1) refl some_homes (g.D.Disk.state c.zero_edge.new.disk) (c.zero_edge.ensures.left now kept stood (reached_still size c.args.id (c.args.sector + c.args.count) (c.args.sector + head) now.volumes now.volumes (omega (arith, e.fits)) (λ s. s) refl device) known)

pub returns-in_err-zero_edge-clause-damaged : goal.returns-in_err-zero_edge-clause-damaged
returns-in_err-zero_edge-clause-damaged g c is now kept stood device free =
    let M = g.M.Metadata in
    let size = M.geometry c.args.metadata.now in
    let homes = c.args.homes.now in
    let head = c.edges-head.result.0 in
    let tail = c.edges-head.result.1 in
    let d0 = g.D.Disk.state c.args.disk.now in
    let within = g.met.M.Metadata.within c.args.metadata.now d0 now kept stood in
    let pos : 0 < size.block_sectors = omega (arith, within.limits.block_least) in
    let e : AreEdges size c.args.sector c.args.count head tail = subst (λ (x : Geometry). AreEdges x c.args.sector c.args.count head tail) c.geometry-geometry.ensures c.edges-head.ensures.edges in
    let some_homes : 0 < length homes = let t = some_touched size pos c.args.sector c.args.count c.requires.some in omega (arith, t, c.requires.homes) in
    let is_first : c.index-homes-first.result ≡ slice_index_or homes 0 None = c.index-homes-first.is ∙ get_or_default homes 0 c.index-homes-first.result None some_homes in
    let p = err_from_is_err_and c.from_residual.result c.from_residual.ensures.1 in
    c.in_err-zero_edge.ensures.damaged (ap (λ (r : StoreError). Err r) (refusal_is c.from_residual.result p.0 c.in_err-zero_edge.field-0.0 Damaged p.1 p.2 is)) now kept stood
    (reached_still size c.args.id (c.args.sector + c.args.count) (c.args.sector + head) now.volumes now.volumes (omega (arith, e.fits)) (λ s. s) refl device)
    (λ takes. free_first M.geometry M.stands M.marks c.args.id c.args.sector c.args.count head tail homes c.args.metadata.now d0 now kept pos c.requires.some e within.volumes_now c.requires.homes (c.requires.told now kept stood) (length homes - 1) refl some_homes free (subst (λ (h : Option Home). IsTrue (edge_takes head h)) is_first takes))

pub returns-in_err-zero_edge-2-clause-left : goal.returns-in_err-zero_edge-2-clause-left
returns-in_err-zero_edge-2-clause-left g c now kept stood device =
    let M = g.M.Metadata in
    let size = M.geometry c.args.metadata.now in
    let homes = c.args.homes.now in
    let head = c.edges-head.result.0 in
    let tail = c.edges-head.result.1 in
    let d0 = g.D.Disk.state c.args.disk.now in
    let within = g.met.M.Metadata.within c.args.metadata.now d0 now kept stood in
    let pos : 0 < size.block_sectors = omega (arith, within.limits.block_least) in
    let e : AreEdges size c.args.sector c.args.count head tail = subst (λ (x : Geometry). AreEdges x c.args.sector c.args.count head tail) c.geometry-geometry.ensures c.edges-head.ensures.edges in
    let some_homes : 0 < length homes = let t = some_touched size pos c.args.sector c.args.count c.requires.some in omega (arith, t, c.requires.homes) in
    let is_first : c.index-homes-first.result ≡ slice_index_or homes 0 None = c.index-homes-first.is ∙ get_or_default homes 0 c.index-homes-first.result None some_homes in
    let known = subst (λ (h : Option Home). KnowsEdge size c.args.id c.args.sector head now.volumes (M.marks c.args.metadata.now) h) (sym is_first) (known_first M.geometry M.stands M.marks c.args.id c.args.sector c.args.count head tail homes c.args.metadata.now d0 now kept pos c.requires.some e within.volumes_now c.requires.homes (c.requires.told now kept stood) (length homes - 1) refl some_homes) in
    let d1 = g.D.Disk.state c.zero_edge.new.disk in
    let m1 = c.zero_edge.new.metadata in
    let same = c.zero_edge.ensures.ran.geometry in
    let x : HasZeroed M.geometry M.stands M.marks c.args.id (c.args.sector / size.block_sectors) c.args.sector head (edge_takes head (slice_index_or homes 0 None)) c.args.metadata.now m1 d0 d1 now kept =
    subst (λ (h : Option Home). HasZeroed M.geometry M.stands M.marks c.args.id (c.args.sector / size.block_sectors) c.args.sector head (edge_takes head h) c.args.metadata.now m1 d0 d1 now kept) is_first
    (c.in_ok-zero_edge.ensures.zeroed now kept stood
    (reached_still size c.args.id (c.args.sector + c.args.count) (c.args.sector + head) now.volumes now.volumes (omega (arith, e.fits)) (λ s. s) refl device) known) in
    let mid : Contents = record now { volumes = x.cleared.volumes; meta_used = x.cleared.meta_used } in
    let device_mid =
    subst (λ (k : Geometry). Reaches k c.args.id (c.args.sector + c.args.count - tail + tail) x.cleared.volumes) (sym same)
    (reached_still size c.args.id (c.args.sector + c.args.count) (c.args.sector + c.args.count - tail + tail) now.volumes x.cleared.volumes (omega (arith, e.fits)) (x.cleared.edits.still c.args.id) (x.cleared.edits.sizes c.args.id) device) in
    let end = c.args.sector + c.args.count - tail in
    let is_last : c.index-homes-last.result ≡ slice_index_or homes (length homes - 1) None = c.index-homes-last.is ∙ get_or_default homes (length homes - 1) c.index-homes-last.result None (omega (arith, some_homes)) in
    let known_too = subst (λ (h : Option Home). KnowsEdge (M.geometry m1) c.args.id end tail mid.volumes (M.marks m1) h) (sym is_last) (known_last M.geometry M.stands M.marks c.args.id c.args.sector c.args.count head tail homes c.args.metadata.now d0 now kept pos c.requires.some e within.volumes_now c.requires.homes (c.requires.told now kept stood) (length homes - 1) refl some_homes m1 d1 same x) in
    let d2 = g.D.Disk.state c.zero_edge-2.new.disk in
    let both = left_second M.geometry M.stands M.marks c.args.id c.args.sector c.args.count head tail homes c.args.metadata.now d0 now kept pos c.requires.some e within.volumes_now c.requires.homes (c.requires.told now kept stood) (length homes - 1) refl some_homes m1 d1 same x d2 (c.zero_edge.ensures.left now kept stood (reached_still size c.args.id (c.args.sector + c.args.count) (c.args.sector + head) now.volumes now.volumes (omega (arith, e.fits)) (λ s. s) refl device) known) (c.zero_edge-2.ensures.left mid kept x.cleared.standing device_mid known_too) in
    both

pub returns-in_err-zero_edge-2-clause-damaged : goal.returns-in_err-zero_edge-2-clause-damaged
returns-in_err-zero_edge-2-clause-damaged g c is now kept stood device free =
    let M = g.M.Metadata in
    let size = M.geometry c.args.metadata.now in
    let homes = c.args.homes.now in
    let head = c.edges-head.result.0 in
    let tail = c.edges-head.result.1 in
    let d0 = g.D.Disk.state c.args.disk.now in
    let within = g.met.M.Metadata.within c.args.metadata.now d0 now kept stood in
    let pos : 0 < size.block_sectors = omega (arith, within.limits.block_least) in
    let e : AreEdges size c.args.sector c.args.count head tail = subst (λ (x : Geometry). AreEdges x c.args.sector c.args.count head tail) c.geometry-geometry.ensures c.edges-head.ensures.edges in
    let some_homes : 0 < length homes = let t = some_touched size pos c.args.sector c.args.count c.requires.some in omega (arith, t, c.requires.homes) in
    let is_first : c.index-homes-first.result ≡ slice_index_or homes 0 None = c.index-homes-first.is ∙ get_or_default homes 0 c.index-homes-first.result None some_homes in
    let known = subst (λ (h : Option Home). KnowsEdge size c.args.id c.args.sector head now.volumes (M.marks c.args.metadata.now) h) (sym is_first) (known_first M.geometry M.stands M.marks c.args.id c.args.sector c.args.count head tail homes c.args.metadata.now d0 now kept pos c.requires.some e within.volumes_now c.requires.homes (c.requires.told now kept stood) (length homes - 1) refl some_homes) in
    let d1 = g.D.Disk.state c.zero_edge.new.disk in
    let m1 = c.zero_edge.new.metadata in
    let same = c.zero_edge.ensures.ran.geometry in
    let x : HasZeroed M.geometry M.stands M.marks c.args.id (c.args.sector / size.block_sectors) c.args.sector head (edge_takes head (slice_index_or homes 0 None)) c.args.metadata.now m1 d0 d1 now kept =
    subst (λ (h : Option Home). HasZeroed M.geometry M.stands M.marks c.args.id (c.args.sector / size.block_sectors) c.args.sector head (edge_takes head h) c.args.metadata.now m1 d0 d1 now kept) is_first
    (c.in_ok-zero_edge.ensures.zeroed now kept stood
    (reached_still size c.args.id (c.args.sector + c.args.count) (c.args.sector + head) now.volumes now.volumes (omega (arith, e.fits)) (λ s. s) refl device) known) in
    let mid : Contents = record now { volumes = x.cleared.volumes; meta_used = x.cleared.meta_used } in
    let device_mid =
    subst (λ (k : Geometry). Reaches k c.args.id (c.args.sector + c.args.count - tail + tail) x.cleared.volumes) (sym same)
    (reached_still size c.args.id (c.args.sector + c.args.count) (c.args.sector + c.args.count - tail + tail) now.volumes x.cleared.volumes (omega (arith, e.fits)) (x.cleared.edits.still c.args.id) (x.cleared.edits.sizes c.args.id) device) in
    let end = c.args.sector + c.args.count - tail in
    let is_last : c.index-homes-last.result ≡ slice_index_or homes (length homes - 1) None = c.index-homes-last.is ∙ get_or_default homes (length homes - 1) c.index-homes-last.result None (omega (arith, some_homes)) in
    let known_too = subst (λ (h : Option Home). KnowsEdge (M.geometry m1) c.args.id end tail mid.volumes (M.marks m1) h) (sym is_last) (known_last M.geometry M.stands M.marks c.args.id c.args.sector c.args.count head tail homes c.args.metadata.now d0 now kept pos c.requires.some e within.volumes_now c.requires.homes (c.requires.told now kept stood) (length homes - 1) refl some_homes m1 d1 same x) in
    let p = err_from_is_err_and c.from_residual-in_err-zero_edge-2.result c.from_residual-in_err-zero_edge-2.ensures.1 in
    c.in_err-zero_edge-2.ensures.damaged (ap (λ (r : StoreError). Err r) (refusal_is c.from_residual-in_err-zero_edge-2.result p.0 c.in_err-zero_edge-2.field-0.0 Damaged p.1 p.2 is)) mid kept x.cleared.standing device_mid
    (λ takes. free_last M.geometry M.stands M.marks c.args.id c.args.sector c.args.count head tail homes c.args.metadata.now d0 now kept pos c.requires.some e within.volumes_now c.requires.homes (c.requires.told now kept stood) (length homes - 1) refl some_homes m1 d1 same x free (subst (λ (h : Option Home). IsTrue (edge_takes tail h)) is_last takes))

pub returns-clause-left : goal.returns-clause-left
returns-clause-left g c now kept stood device =
    let M = g.M.Metadata in
    let size = M.geometry c.args.metadata.now in
    let homes = c.args.homes.now in
    let head = c.edges-head.result.0 in
    let tail = c.edges-head.result.1 in
    let d0 = g.D.Disk.state c.args.disk.now in
    let within = g.met.M.Metadata.within c.args.metadata.now d0 now kept stood in
    let pos : 0 < size.block_sectors = omega (arith, within.limits.block_least) in
    let e : AreEdges size c.args.sector c.args.count head tail = subst (λ (x : Geometry). AreEdges x c.args.sector c.args.count head tail) c.geometry-geometry.ensures c.edges-head.ensures.edges in
    let some_homes : 0 < length homes = let t = some_touched size pos c.args.sector c.args.count c.requires.some in omega (arith, t, c.requires.homes) in
    let is_first : c.index-homes-first.result ≡ slice_index_or homes 0 None = c.index-homes-first.is ∙ get_or_default homes 0 c.index-homes-first.result None some_homes in
    let known = subst (λ (h : Option Home). KnowsEdge size c.args.id c.args.sector head now.volumes (M.marks c.args.metadata.now) h) (sym is_first) (known_first M.geometry M.stands M.marks c.args.id c.args.sector c.args.count head tail homes c.args.metadata.now d0 now kept pos c.requires.some e within.volumes_now c.requires.homes (c.requires.told now kept stood) (length homes - 1) refl some_homes) in
    let d1 = g.D.Disk.state c.zero_edge.new.disk in
    let m1 = c.zero_edge.new.metadata in
    let same = c.zero_edge.ensures.ran.geometry in
    let x : HasZeroed M.geometry M.stands M.marks c.args.id (c.args.sector / size.block_sectors) c.args.sector head (edge_takes head (slice_index_or homes 0 None)) c.args.metadata.now m1 d0 d1 now kept =
    subst (λ (h : Option Home). HasZeroed M.geometry M.stands M.marks c.args.id (c.args.sector / size.block_sectors) c.args.sector head (edge_takes head h) c.args.metadata.now m1 d0 d1 now kept) is_first
    (c.in_ok-zero_edge.ensures.zeroed now kept stood
    (reached_still size c.args.id (c.args.sector + c.args.count) (c.args.sector + head) now.volumes now.volumes (omega (arith, e.fits)) (λ s. s) refl device) known) in
    let mid : Contents = record now { volumes = x.cleared.volumes; meta_used = x.cleared.meta_used } in
    let device_mid =
    subst (λ (k : Geometry). Reaches k c.args.id (c.args.sector + c.args.count - tail + tail) x.cleared.volumes) (sym same)
    (reached_still size c.args.id (c.args.sector + c.args.count) (c.args.sector + c.args.count - tail + tail) now.volumes x.cleared.volumes (omega (arith, e.fits)) (x.cleared.edits.still c.args.id) (x.cleared.edits.sizes c.args.id) device) in
    let end = c.args.sector + c.args.count - tail in
    let is_last : c.index-homes-last.result ≡ slice_index_or homes (length homes - 1) None = c.index-homes-last.is ∙ get_or_default homes (length homes - 1) c.index-homes-last.result None (omega (arith, some_homes)) in
    let known_too = subst (λ (h : Option Home). KnowsEdge (M.geometry m1) c.args.id end tail mid.volumes (M.marks m1) h) (sym is_last) (known_last M.geometry M.stands M.marks c.args.id c.args.sector c.args.count head tail homes c.args.metadata.now d0 now kept pos c.requires.some e within.volumes_now c.requires.homes (c.requires.told now kept stood) (length homes - 1) refl some_homes m1 d1 same x) in
    let d2 = g.D.Disk.state c.zero_edge-2.new.disk in
    let both = left_second M.geometry M.stands M.marks c.args.id c.args.sector c.args.count head tail homes c.args.metadata.now d0 now kept pos c.requires.some e within.volumes_now c.requires.homes (c.requires.told now kept stood) (length homes - 1) refl some_homes m1 d1 same x d2 (c.zero_edge.ensures.left now kept stood (reached_still size c.args.id (c.args.sector + c.args.count) (c.args.sector + head) now.volumes now.volumes (omega (arith, e.fits)) (λ s. s) refl device) known) (c.zero_edge-2.ensures.left mid kept x.cleared.standing device_mid known_too) in
    let m2 = c.zero_edge-2.new.metadata in
    let d3 = g.D.Disk.state c.unmap_covered.new.disk in
    let same_too : M.geometry m2 ≡ size = c.zero_edge-2.ensures.ran.geometry ∙ same in
    let block = end / (M.geometry m1).block_sectors in
    let w = subst (λ (h : Option Home). HasZeroed M.geometry M.stands M.marks c.args.id block end tail (edge_takes tail h) m1 m2 d1 d2 mid kept) is_last (c.in_ok-zero_edge-2.ensures.zeroed mid kept x.cleared.standing device_mid known_too) in
    let y : HasCleared M.geometry M.stands M.marks c.args.id (c.args.sector + head + (c.args.count - head - tail)) tail m1 m2 d1 d2 mid kept =
    subst (λ k. HasCleared M.geometry M.stands M.marks c.args.id k tail m1 m2 d1 d2 mid kept) (end_is size pos c.args.sector c.args.count head tail c.requires.some e) w.cleared in
    let then : Contents = record now { volumes = y.volumes; meta_used = y.meta_used } in
    let changing = c.unmap_covered.ensures.altered.changing then kept y.standing in
    left_third M.geometry M.stands M.marks c.args.id c.args.sector c.args.count head tail homes c.args.metadata.now d0 now kept pos c.requires.some e within.volumes_now c.requires.homes (c.requires.told now kept stood) (length homes - 1) refl some_homes d2 d3 both (subst (λ (k : Geometry). LeavesOnly d2 d3 (IsStill k kept d2.cells)) same_too changing.any_moment)

pub returns-clause-cleared : goal.returns-clause-cleared
returns-clause-cleared g c =
    on_ok_weaker c.unmap_covered.result
    (λ done now kept stood device.
    let M = g.M.Metadata in
    let size = M.geometry c.args.metadata.now in
    let homes = c.args.homes.now in
    let head = c.edges-head.result.0 in
    let tail = c.edges-head.result.1 in
    let d0 = g.D.Disk.state c.args.disk.now in
    let within = g.met.M.Metadata.within c.args.metadata.now d0 now kept stood in
    let pos : 0 < size.block_sectors = omega (arith, within.limits.block_least) in
    let e : AreEdges size c.args.sector c.args.count head tail = subst (λ (x : Geometry). AreEdges x c.args.sector c.args.count head tail) c.geometry-geometry.ensures c.edges-head.ensures.edges in
    let some_homes : 0 < length homes = let t = some_touched size pos c.args.sector c.args.count c.requires.some in omega (arith, t, c.requires.homes) in
    let is_first : c.index-homes-first.result ≡ slice_index_or homes 0 None = c.index-homes-first.is ∙ get_or_default homes 0 c.index-homes-first.result None some_homes in
    let known = subst (λ (h : Option Home). KnowsEdge size c.args.id c.args.sector head now.volumes (M.marks c.args.metadata.now) h) (sym is_first) (known_first M.geometry M.stands M.marks c.args.id c.args.sector c.args.count head tail homes c.args.metadata.now d0 now kept pos c.requires.some e within.volumes_now c.requires.homes (c.requires.told now kept stood) (length homes - 1) refl some_homes) in
    let d1 = g.D.Disk.state c.zero_edge.new.disk in
    let m1 = c.zero_edge.new.metadata in
    let same = c.zero_edge.ensures.ran.geometry in
    let x : HasZeroed M.geometry M.stands M.marks c.args.id (c.args.sector / size.block_sectors) c.args.sector head (edge_takes head (slice_index_or homes 0 None)) c.args.metadata.now m1 d0 d1 now kept =
    subst (λ (h : Option Home). HasZeroed M.geometry M.stands M.marks c.args.id (c.args.sector / size.block_sectors) c.args.sector head (edge_takes head h) c.args.metadata.now m1 d0 d1 now kept) is_first
    (c.in_ok-zero_edge.ensures.zeroed now kept stood
    (reached_still size c.args.id (c.args.sector + c.args.count) (c.args.sector + head) now.volumes now.volumes (omega (arith, e.fits)) (λ s. s) refl device) known) in
    let mid : Contents = record now { volumes = x.cleared.volumes; meta_used = x.cleared.meta_used } in
    let device_mid =
    subst (λ (k : Geometry). Reaches k c.args.id (c.args.sector + c.args.count - tail + tail) x.cleared.volumes) (sym same)
    (reached_still size c.args.id (c.args.sector + c.args.count) (c.args.sector + c.args.count - tail + tail) now.volumes x.cleared.volumes (omega (arith, e.fits)) (x.cleared.edits.still c.args.id) (x.cleared.edits.sizes c.args.id) device) in
    let end = c.args.sector + c.args.count - tail in
    let is_last : c.index-homes-last.result ≡ slice_index_or homes (length homes - 1) None = c.index-homes-last.is ∙ get_or_default homes (length homes - 1) c.index-homes-last.result None (omega (arith, some_homes)) in
    let known_too = subst (λ (h : Option Home). KnowsEdge (M.geometry m1) c.args.id end tail mid.volumes (M.marks m1) h) (sym is_last) (known_last M.geometry M.stands M.marks c.args.id c.args.sector c.args.count head tail homes c.args.metadata.now d0 now kept pos c.requires.some e within.volumes_now c.requires.homes (c.requires.told now kept stood) (length homes - 1) refl some_homes m1 d1 same x) in
    let d2 = g.D.Disk.state c.zero_edge-2.new.disk in
    let m2 = c.zero_edge-2.new.metadata in
    let d3 = g.D.Disk.state c.unmap_covered.new.disk in
    let same_too : M.geometry m2 ≡ size = c.zero_edge-2.ensures.ran.geometry ∙ same in
    let block = end / (M.geometry m1).block_sectors in
    let w = subst (λ (h : Option Home). HasZeroed M.geometry M.stands M.marks c.args.id block end tail (edge_takes tail h) m1 m2 d1 d2 mid kept) is_last (c.in_ok-zero_edge-2.ensures.zeroed mid kept x.cleared.standing device_mid known_too) in
    let y : HasCleared M.geometry M.stands M.marks c.args.id (c.args.sector + head + (c.args.count - head - tail)) tail m1 m2 d1 d2 mid kept =
    subst (λ k. HasCleared M.geometry M.stands M.marks c.args.id k tail m1 m2 d1 d2 mid kept) (end_is size pos c.args.sector c.args.count head tail c.requires.some e) w.cleared in
    let then : Contents = record now { volumes = y.volumes; meta_used = y.meta_used } in
    let changing = c.unmap_covered.ensures.altered.changing then kept y.standing in
    cleared_all M.geometry M.stands M.marks c.args.id c.args.sector c.args.count head tail homes c.args.metadata.now d0 now kept pos c.requires.some e within.volumes_now c.requires.homes (c.requires.told now kept stood) (length homes - 1) refl some_homes m1 d1 same x m2 c.unmap_covered.new.metadata d2 d3 same_too y (done then kept y.standing) changing.same_data)
    c.unmap_covered.ensures.altered.made

pub returns-clause-damaged : goal.returns-clause-damaged
returns-clause-damaged g c is now kept stood device free =
    let M = g.M.Metadata in
    let size = M.geometry c.args.metadata.now in
    let homes = c.args.homes.now in
    let head = c.edges-head.result.0 in
    let tail = c.edges-head.result.1 in
    let d0 = g.D.Disk.state c.args.disk.now in
    let within = g.met.M.Metadata.within c.args.metadata.now d0 now kept stood in
    let pos : 0 < size.block_sectors = omega (arith, within.limits.block_least) in
    let e : AreEdges size c.args.sector c.args.count head tail = subst (λ (x : Geometry). AreEdges x c.args.sector c.args.count head tail) c.geometry-geometry.ensures c.edges-head.ensures.edges in
    let some_homes : 0 < length homes = let t = some_touched size pos c.args.sector c.args.count c.requires.some in omega (arith, t, c.requires.homes) in
    let is_first : c.index-homes-first.result ≡ slice_index_or homes 0 None = c.index-homes-first.is ∙ get_or_default homes 0 c.index-homes-first.result None some_homes in
    let known = subst (λ (h : Option Home). KnowsEdge size c.args.id c.args.sector head now.volumes (M.marks c.args.metadata.now) h) (sym is_first) (known_first M.geometry M.stands M.marks c.args.id c.args.sector c.args.count head tail homes c.args.metadata.now d0 now kept pos c.requires.some e within.volumes_now c.requires.homes (c.requires.told now kept stood) (length homes - 1) refl some_homes) in
    let d1 = g.D.Disk.state c.zero_edge.new.disk in
    let m1 = c.zero_edge.new.metadata in
    let same = c.zero_edge.ensures.ran.geometry in
    let x : HasZeroed M.geometry M.stands M.marks c.args.id (c.args.sector / size.block_sectors) c.args.sector head (edge_takes head (slice_index_or homes 0 None)) c.args.metadata.now m1 d0 d1 now kept =
    subst (λ (h : Option Home). HasZeroed M.geometry M.stands M.marks c.args.id (c.args.sector / size.block_sectors) c.args.sector head (edge_takes head h) c.args.metadata.now m1 d0 d1 now kept) is_first
    (c.in_ok-zero_edge.ensures.zeroed now kept stood
    (reached_still size c.args.id (c.args.sector + c.args.count) (c.args.sector + head) now.volumes now.volumes (omega (arith, e.fits)) (λ s. s) refl device) known) in
    let mid : Contents = record now { volumes = x.cleared.volumes; meta_used = x.cleared.meta_used } in
    let device_mid =
    subst (λ (k : Geometry). Reaches k c.args.id (c.args.sector + c.args.count - tail + tail) x.cleared.volumes) (sym same)
    (reached_still size c.args.id (c.args.sector + c.args.count) (c.args.sector + c.args.count - tail + tail) now.volumes x.cleared.volumes (omega (arith, e.fits)) (x.cleared.edits.still c.args.id) (x.cleared.edits.sizes c.args.id) device) in
    let end = c.args.sector + c.args.count - tail in
    let is_last : c.index-homes-last.result ≡ slice_index_or homes (length homes - 1) None = c.index-homes-last.is ∙ get_or_default homes (length homes - 1) c.index-homes-last.result None (omega (arith, some_homes)) in
    let known_too = subst (λ (h : Option Home). KnowsEdge (M.geometry m1) c.args.id end tail mid.volumes (M.marks m1) h) (sym is_last) (known_last M.geometry M.stands M.marks c.args.id c.args.sector c.args.count head tail homes c.args.metadata.now d0 now kept pos c.requires.some e within.volumes_now c.requires.homes (c.requires.told now kept stood) (length homes - 1) refl some_homes m1 d1 same x) in
    let d2 = g.D.Disk.state c.zero_edge-2.new.disk in
    let m2 = c.zero_edge-2.new.metadata in
    let d3 = g.D.Disk.state c.unmap_covered.new.disk in
    let same_too : M.geometry m2 ≡ size = c.zero_edge-2.ensures.ran.geometry ∙ same in
    let block = end / (M.geometry m1).block_sectors in
    let w = subst (λ (h : Option Home). HasZeroed M.geometry M.stands M.marks c.args.id block end tail (edge_takes tail h) m1 m2 d1 d2 mid kept) is_last (c.in_ok-zero_edge-2.ensures.zeroed mid kept x.cleared.standing device_mid known_too) in
    let y : HasCleared M.geometry M.stands M.marks c.args.id (c.args.sector + head + (c.args.count - head - tail)) tail m1 m2 d1 d2 mid kept =
    subst (λ k. HasCleared M.geometry M.stands M.marks c.args.id k tail m1 m2 d1 d2 mid kept) (end_is size pos c.args.sector c.args.count head tail c.requires.some e) w.cleared in
    let then : Contents = record now { volumes = y.volumes; meta_used = y.meta_used } in
    c.unmap_covered.ensures.altered.damaged is then kept y.standing

pub returns-in_err-zero_edge-clause-ran : goal.returns-in_err-zero_edge-clause-ran
returns-in_err-zero_edge-clause-ran g c =
    let M = g.M.Metadata in
    let p = err_from_is_err_and c.from_residual.result c.from_residual.ensures.1 in
    subst (λ b. Ran 288 b (M.room c.args.metadata.now) (M.room c.zero_edge.new.metadata) (M.geometry c.args.metadata.now) (M.geometry c.zero_edge.new.metadata) (g.D.Disk.state c.args.disk.now) (g.D.Disk.state c.zero_edge.new.disk))
    (sym (fault_is c.from_residual.result p.0 c.in_err-zero_edge.field-0.0 p.1 p.2))
    (ran_at_most c.in_err-zero_edge.ensures.ran (omega arith))

pub returns-in_err-zero_edge-2-clause-ran : goal.returns-in_err-zero_edge-2-clause-ran
returns-in_err-zero_edge-2-clause-ran g c =
    let M = g.M.Metadata in
    let p = err_from_is_err_and c.from_residual-in_err-zero_edge-2.result c.from_residual-in_err-zero_edge-2.ensures.1 in
    subst (λ b. Ran 288 b (M.room c.args.metadata.now) (M.room c.zero_edge-2.new.metadata) (M.geometry c.args.metadata.now) (M.geometry c.zero_edge-2.new.metadata) (g.D.Disk.state c.args.disk.now) (g.D.Disk.state c.zero_edge-2.new.disk))
    (sym (fault_is c.from_residual-in_err-zero_edge-2.result p.0 c.in_err-zero_edge-2.field-0.0 p.1 p.2))
    (ran_at_most (ran_joins c.in_ok-zero_edge.ensures.ran c.in_err-zero_edge-2.ensures.ran refl) (omega arith))

pub returns-clause-ran : goal.returns-clause-ran
returns-clause-ran g c = ran_joins (ran_joins c.in_ok-zero_edge.ensures.ran c.in_ok-zero_edge-2.ensures.ran refl) c.unmap_covered.ensures.altered.ran refl
