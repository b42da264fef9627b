use Rattle.std.proofs.Common.{rules, ◌≡◌, ℕ, Err, Option, arith, subst}
use Rattle.std.specs.Prelude.{MatchOption}
use Rattle.tp_counts.specs.declared.error.StoreError.TheVariants.{Damaged}
use Rattle.tp_sharing.specs.Volumes.{slot_of, with_slot}
use Rattle.tp_mapping.specs.Mapping.{IsLeastFree, NoneIsFree}
use Rattle.tp_meta.specs.Metadata.{StandsWith, marked}
use Rattle.tp_pool.proofs.NewBlock.{none_match}
use Rattle.tp_pool.proofs.Ranges.{told_below}
use Rattle.tp_pool.proofs.Taken.{none_free}
use Rattle.tp_pool.proofs.writing.map_new.Goals as goal

pub returns-in_err-place-clause-damaged : goal.returns-in_err-place-clause-damaged
returns-in_err-place-clause-damaged g c e now kept stood device some =
    let f : c.map.result ≡ Err Damaged = search (rules, e) in
    c.map.ensures.altered.damaged f now kept stood device.0 (λ size told. told_below (g.M.Metadata.geometry c.args.metadata.now) now.volumes c.args.id c.args.block size device told)

pub returns-in-Some-clause-mapped : goal.returns-in-Some-clause-mapped
returns-in-Some-clause-mapped g c now kept stood device =
    let M = g.M.Metadata in
    let size = M.geometry c.args.metadata.now in
    let made =
    subst
    (λ (o : Option ℕ). MatchOption o (NoneIsFree size now.volumes kept.volumes) (λ place. IsLeastFree size now.volumes kept.volumes place
    × StandsWith M.stands M.marks c.map.new.self (g.D.Disk.state c.map.new.disk) now kept
    (with_slot c.args.id (record { block = c.args.block; place = place }) now.volumes) (marked (slot_of c.args.id c.args.block now.volumes) (M.marks c.args.metadata.now))))
    c.in-Some.is
    (c.in_ok-place.ensures.altered.made now kept stood device.0 (λ size told. told_below (g.M.Metadata.geometry c.args.metadata.now) now.volumes c.args.id c.args.block size device told)) in
    (made.0, made.1.0, made.1.1)

pub returns-in-None-clause-damaged : goal.returns-in-None-clause-damaged
returns-in-None-clause-damaged g c e now kept stood device some =
    let none = none_free (g.M.Metadata.geometry c.args.metadata.now) now.volumes kept.volumes (none_match _ _ c.in_ok-place.field-0 c.in-None.is (c.in_ok-place.ensures.altered.made now kept stood device.0 (λ size told. told_below (g.M.Metadata.geometry c.args.metadata.now) now.volumes c.args.id c.args.block size device told))) in
    absurd (omega (arith, some, none))
