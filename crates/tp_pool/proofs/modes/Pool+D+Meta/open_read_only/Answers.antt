use Rattle.std.proofs.Common.{subst, sym}
use Rattle.std.proofs.lemmas.Result.{err_from_is_err_and}
use Rattle.tp_model.specs.declared.mode.Mode.TheVariants as mode
use Rattle.tp_model.specs.Disk.{seen}
use Rattle.tp_stored.proofs.Opened.{stands_for_opened}
use Rattle.tp_meta.specs.Standing.{StandsFor, geometry_of}
use Rattle.tp_meta.specs.declared.whole.Meta.{Meta}
use Rattle.tp_pool.specs.Checked.{read_only}
use Rattle.tp_pool.specs.Held.{Held, shows}
use Rattle.tp_pool.proofs.Checking.{is_only_read}
use Rattle.tp_pool.proofs.modes.Pool+D+Meta.open_read_only.Goals as goal

pub returns-in_err-pool-clause-why : goal.returns-in_err-pool-clause-why
returns-in_err-pool-clause-why g c =
    let p = err_from_is_err_and c.from_residual.result c.from_residual.ensures.1 in rw (p.1, p.2) c.in_err-pool.ensures.why

pub returns-in_err-pool-clause-refused : goal.returns-in_err-pool-clause-refused
returns-in_err-pool-clause-refused g c =
    let p = err_from_is_err_and c.from_residual.result c.from_residual.ensures.1 in rw (p.1, p.2) c.in_err-pool.ensures.refused

pub returns-clause-shows : goal.returns-clause-shows
returns-clause-shows g c honest settled k s is stands =
    let old = g.D.Disk.state c.args.disk in
    let was = c.in_ok-pool.pool in
    let done = c.in_ok-pool.ensures in
    let shown = done.shows honest settled k is.0 s is.1 ((stands_for_opened k is.0 (seen old.cells) is.1 s).0 stands) in
    subst (λ (h : Held Meta). shows geometry_of StandsFor (record h { mode = mode.ReadOnly }) (read_only s)) (sym c.pool.view_is)
    (is_only_read was old k is.0 s done.state (done.stands honest settled k is.0 is.1) settled is.1 stands shown)
