use Rattle.std.proofs.Common.{ap, sym, ◌∙◌}
use Rattle.std.proofs.lemmas.Result.{IfErr-weaker, err_from_is_err_and, on_ok_weaker}
use Rattle.tp_model.specs.Disk.{DiskState, seen}
use Rattle.tp_stored.proofs.Opened.{stands_for_opened}
use Rattle.tp_pool.proofs.Checking.{cleared_at, clears_at, clears_nothing_read, flushed_once}
use Rattle.tp_pool.proofs.modes.Pool+D+Meta.clear_needs_check.Goals as goal

pub returns-in_err-metadata-clause-any_moment : goal.returns-in_err-metadata-clause-any_moment
returns-in_err-metadata-clause-any_moment g c honest settled k s is stands =
    clears_nothing_read k is.0 s (g.D.Disk.state c.args.disk.now) settled is.1 stands _ (g.D.Disk.state c.open.new.disk) c.open.ensures.state

pub returns-in_err-metadata-clause-refused : goal.returns-in_err-metadata-clause-refused
returns-in_err-metadata-clause-refused g c =
    let p = err_from_is_err_and c.from_residual.result c.from_residual.ensures.1 in
    rw (p.1, p.2) (λ no_fault no_memory honest. (c.in_err-metadata.ensures.why no_fault no_memory honest, c.in_err-metadata.ensures.refused no_fault no_memory honest))

pub returns-clause-any_moment : goal.returns-clause-any_moment
returns-clause-any_moment g c honest settled k s is stands =
    let mid = g.D.Disk.state c.open.new.disk in
    let done = c.in_ok-metadata.ensures in
    let made = done.stands honest settled k is.0 is.1 in
    let clear = c.clear_needs_check.ensures in
    clears_at k is.0 s (g.D.Disk.state c.args.disk.now) settled is.1 stands c.clear_needs_check.new.self mid (g.D.Disk.state c.keep.new.disk) done.state
    (clear.geometry ∙ made.1) (clear.stands mid is.0 is.0 made.0) c.keep.ensures.left

pub returns-clause-refused : goal.returns-clause-refused
returns-clause-refused g c = IfErr-weaker c.keep.result _ _ (λ refusal fault no_fault no_memory honest. absurd (no_fault fault)) c.keep.ensures.only

pub returns-clause-cleared : goal.returns-clause-cleared
returns-clause-cleared g c =
    on_ok_weaker c.keep.result
    (λ kept honest settled k s is stands.
    let mid = g.D.Disk.state c.open.new.disk in
    let done = c.in_ok-metadata.ensures in
    let made = done.stands honest settled k is.0 is.1 in
    let clear = c.clear_needs_check.ensures in
    cleared_at k is.0 s (g.D.Disk.state c.args.disk.now) settled is.1 stands c.clear_needs_check.new.self mid (g.D.Disk.state c.keep.new.disk) done.state
    (clear.geometry ∙ made.1) (clear.stands mid is.0 is.0 made.0) c.keep.new.metadata kept) c.keep.ensures.kept

pub returns-clause-flushed : goal.returns-clause-flushed
returns-clause-flushed g c =
    on_ok_weaker c.keep.result
    (λ flushed honest settled k s is stands clear.
    let old = g.D.Disk.state c.args.disk.now in
    let mid = g.D.Disk.state c.open.new.disk in
    let done = c.in_ok-metadata.ensures in
    let made = done.stands honest settled k is.0 is.1 in
    let opened = (stands_for_opened k is.0 (seen old.cells) is.1 s).0 stands in
    flushed_once _ _ _ old.flushes mid.flushes (g.D.Disk.state c.keep.new.disk).flushes c.clear_needs_check.ensures.changed done.unchanged
    (made.0.needs_check ∙ sym opened.has.needs_check ∙ clear) (ap (λ (d : DiskState). d.flushes) done.state) flushed) c.keep.ensures.ran.flushed

pub returns-clause-untouched : goal.returns-clause-untouched
returns-clause-untouched g c = IfErr-weaker c.keep.result _ _ (λ refusal fault no_fault. absurd (no_fault fault)) c.keep.ensures.only
