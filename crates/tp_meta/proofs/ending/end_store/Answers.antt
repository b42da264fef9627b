use Rattle.std.proofs.Common.{◌≡◌, ◌+◌, ◌<◌, ◌^◌, arith, ap, ◌∙◌, true, false}
use Rattle.std.specs.Prelude.{Ok}
use Rattle.tp_model.specs.Disk.{DiskState, seen}
use Rattle.tp_model.specs.DiskStops.{IsFrom}
use Rattle.tp_model.proofs.DiskStopLaws.{goes_on_flush, leaves_settled}
use Rattle.tp_image.specs.Slots.{Chooses}
use Rattle.tp_super.specs.Store.{IsStoring, super_sector}
use Rattle.tp_tm.specs.Tm.{Tm}
use Rattle.tp_meta.proofs.Contents.{is_settled}
use Rattle.tp_meta.proofs.Midway.{named_failed, named_kept}
use Rattle.tp_meta.proofs.ending.end_store.Goals as goal

pub returns-in-Err-clause-committed : goal.returns-in-Err-clause-committed
returns-in-Err-clause-committed g c before named =
    let next = c.args.next in
    let mid = named.mid in
    let old = g.D.Disk.state c.args.disk.now in
    let new = g.D.Disk.state c.flush.new.self in
    let is = c.in-Err.ensures in
    let small : next.transaction_id < 2 ^ 64 = omega arith in
    let failures : new.failures ≡ mid.failures + 1 = ap (λ (d : DiskState). d.failures) is ∙ ap (λ (d : DiskState). d.failures + 1) named.is in
    let flushes : new.flushes ≡ mid.flushes + 1 = ap (λ (d : DiskState). d.flushes) is ∙ ap (λ (d : DiskState). d.flushes + 1) named.is in
    named_failed c.args.tm.now c.args.stale.now next before mid named.written named.settled named.whole small new
    (λ slot one good after was. goes_on_flush {P = IsStoring one next mid.cells} false (named.any_moment slot one good after was) is)
    (goes_on_flush {P = IsFrom (super_sector next) 1 mid.cells} false named.outside is)
    (record { size = ap (λ (d : DiskState). d.size) is ∙ ap (λ (d : DiskState). d.size) named.is; is_honest = ap (λ (d : DiskState). d.is_honest) is ∙ ap (λ (d : DiskState). d.is_honest) named.is })
    _ (omega (arith, failures)) (omega (arith, flushes)) (omega (arith, flushes))

pub returns-clause-committed : goal.returns-clause-committed
returns-clause-committed g c before named =
    let next = c.args.next in
    let mid = named.mid in
    let old = g.D.Disk.state c.args.disk.now in
    let new = g.D.Disk.state c.flush.new.self in
    let is = c.in-Ok.ensures in
    let small : next.transaction_id < 2 ^ 64 = omega arith in
    let failures : new.failures ≡ mid.failures = ap (λ (d : DiskState). d.failures) is ∙ ap (λ (d : DiskState). d.failures) named.is in
    let flushes : new.flushes ≡ mid.flushes + 1 = ap (λ (d : DiskState). d.flushes) is ∙ ap (λ (d : DiskState). d.flushes + 1) named.is in
    named_kept c.args.tm.now c.args.stale.now next before mid named.written named.settled named.whole small new
    (λ slot one good after was. goes_on_flush {P = IsStoring one next mid.cells} true (named.any_moment slot one good after was) is)
    (goes_on_flush {P = IsFrom (super_sector next) 1 mid.cells} true named.outside is)
    (record { size = ap (λ (d : DiskState). d.size) is ∙ ap (λ (d : DiskState). d.size) named.is; is_honest = ap (λ (d : DiskState). d.is_honest) is ∙ ap (λ (d : DiskState). d.is_honest) named.is })
    (λ slot one good after was. leaves_settled (λ image. Chooses image (Ok next)) (seen old.cells) new.cells (ap (λ (d : DiskState). d.cells) is) (named.chosen slot one good after was))
    c.keep.new.self c.kept_in.new.self c.changed_in-changed.result c.slot.result c.slot.ensures c.keep.ensures.kept c.changed_in-changed.ensures.same c.kept_in.ensures.others
    tt (is_settled old new is) failures flushes
