use Rattle.std.proofs.Common.{◌≡◌, true, [], ◌∷◌, ◌∙◌, ap}
use Rattle.std.specs.Prelude.{Result, Ok, Err, OnOk, is_ok}
use Rattle.std.proofs.lemmas.Result.{on_ok_weaker}
use Rattle.tp_model.specs.Disk.{DiskState, seen, after_write, after_flush}
use Rattle.tp_model.proofs.DiskStopLaws.{flush_settles, goes_on_flush, leaves_settled}
use Rattle.tp_disk.specs.declared.disk.Fault.{Fault}
use Rattle.tp_layout.specs.Super.{super_bytes}
use Rattle.tp_image.specs.Slots.{Chooses}
use Rattle.tp_super.specs.Store.{super_sector}
use Rattle.tp_super.proofs.storing.store.Goals as goal

pub returns-in_err-put-clause-any_moment : goal.returns-in_err-put-clause-any_moment
returns-in_err-put-clause-any_moment g c slot one good is before = c.put.ensures.any_moment slot one good is before

pub returns-in_err-put-clause-outside : goal.returns-in_err-put-clause-outside
returns-in_err-put-clause-outside g c = c.put.ensures.outside

pub returns-clause-any_moment : goal.returns-clause-any_moment
returns-clause-any_moment g c slot one good is before = goes_on_flush (is_ok c.flush.result) (c.put.ensures.any_moment slot one good is before) c.flush.ensures

pub returns-clause-outside : goal.returns-clause-outside
returns-clause-outside g c = goes_on_flush (is_ok c.flush.result) c.put.ensures.outside c.flush.ensures

flushed : (result : Result (Unit {0}) Fault) (old mid new : DiskState) → mid ≡ old → new ≡ after_flush (is_ok result) mid → OnOk result (new ≡ after_flush true old)
flushed (Ok done) old mid new e f = f ∙ ap (after_flush true) e
flushed (Err fault) old mid new e f = tt

pub returns-clause-ok : goal.returns-clause-ok
returns-clause-ok g c =
    let old = g.D.Disk.state c.args.disk.now in
    let next = c.args.next.now in
    flushed c.flush.result (after_write (super_sector next) (super_bytes next ∷ []) old) (g.D.Disk.state c.put.new.disk) (g.D.Disk.state c.flush.new.self) c.in_ok-put.ensures.ok c.flush.ensures

pub returns-clause-stored : goal.returns-clause-stored
returns-clause-stored g c =
    let mid = g.D.Disk.state c.put.new.disk in
    let new = g.D.Disk.state c.flush.new.self in
    let next = c.args.next.now in
    on_ok_weaker c.flush.result
    (λ settled slot one good is before. leaves_settled (λ image. Chooses image (Ok next)) (seen mid.cells) new.cells settled (c.in_ok-put.ensures.chosen slot one good is before))
    (flush_settles c.flush.result mid new c.flush.ensures)
