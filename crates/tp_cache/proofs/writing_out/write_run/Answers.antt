use Rattle.std.proofs.Common.{ℕ, List, sym, subst}
use Rattle.tp_cache.specs.Table.{IsRun}
use Rattle.tp_cache.proofs.Outs.{run_newest, run_out}
use Rattle.tp_cache.proofs.writing_out.write_run.Goals as goal

pub returns-in-Err-clause-holds : goal.returns-in-Err-clause-holds
returns-in-Err-clause-holds g c outer well h =
    let is_run = subst (λ (l : List ℕ). IsRun c.args.index.now c.args.slots.now c.args.block c.gather-count.result l) (sym c.deref.ensures.value) c.gather-count.ensures.is_run in
    run_out c.args.index.now c.args.slots.now outer (g.D.Disk.state c.args.disk.now) (g.D.Disk.state c.write.new.self) c.args.block c.gather-count.result c.deref.result.now well h c.requires.within c.gather-count.ensures.ends
    is_run c.write.ensures.any

pub returns-in-Ok-clause-holds : goal.returns-in-Ok-clause-holds
returns-in-Ok-clause-holds g c outer well h =
    let is_run = subst (λ (l : List ℕ). IsRun c.args.index.now c.args.slots.now c.args.block c.gather-count.result l) (sym c.deref.ensures.value) c.gather-count.ensures.is_run in
    run_out c.args.index.now c.args.slots.now outer (g.D.Disk.state c.args.disk.now) (g.D.Disk.state c.write.new.self) c.args.block c.gather-count.result c.deref.result.now well h c.requires.within c.gather-count.ensures.ends
    is_run c.write.ensures.any

pub returns-in-Ok-clause-out : goal.returns-in-Ok-clause-out
returns-in-Ok-clause-out g c outer well h =
    let is_run = subst (λ (l : List ℕ). IsRun c.args.index.now c.args.slots.now c.args.block c.gather-count.result l) (sym c.deref.ensures.value) c.gather-count.ensures.is_run in
    run_newest c.args.index.now c.args.slots.now outer (g.D.Disk.state c.args.disk.now) (g.D.Disk.state c.write.new.self) c.args.block c.gather-count.result c.deref.result.now well h c.requires.within c.gather-count.ensures.ends
    is_run c.write.ensures.any c.in-Ok.ensures.ok
