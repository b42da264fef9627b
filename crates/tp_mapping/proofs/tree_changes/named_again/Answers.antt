use Rattle.std.proofs.Common.{rules, ◌≡◌, [], Err, sym, subst, arith}
use Rattle.std.proofs.lemmas.Result.{err_from_is_err_and}
use Rattle.tp_counts.specs.declared.error.StoreError.TheVariants.{Damaged}
use Rattle.tp_btree.specs.Inserts.{Ran}
use Rattle.tp_counts.proofs.Refusing.{fault_is}
use Rattle.tp_mapping.specs.Held.{entry_of}
use Rattle.tp_mapping.proofs.Between.{read_then}
use Rattle.tp_mapping.proofs.Holding.{size_told}
use Rattle.tp_mapping.proofs.tree_changes.named_again.Goals as goal

pub returns-in_err-volume-clause-damaged : goal.returns-in_err-volume-clause-damaged
returns-in_err-volume-clause-damaged g c e honest geo now h some =
    let f : c.known_at.result ≡ Err Damaged = search (rules, e) in c.known_at.ensures.damaged f honest geo [] now h some

pub returns-in_err-same_volume-clause-damaged : goal.returns-in_err-same_volume-clause-damaged
returns-in_err-same_volume-clause-damaged g c e honest geo now h some =
    let f : c.same_volume.result ≡ Err Damaged = search (rules, e) in
    c.same_volume.ensures.damaged f (g.D.Disk.state c.known_at.new.disk) geo c.args.root now c.args.device (c.in_ok-volume.ensures.told honest geo [] now h)

pub returns-in_err-same_volume-clause-ran : goal.returns-in_err-same_volume-clause-ran
returns-in_err-same_volume-clause-ran g c =
    let p = err_from_is_err_and c.from_residual-in_err-same_volume.result c.from_residual-in_err-same_volume.ensures.1 in
    let d = g.D.Disk.state c.args.disk.now in
    let d1 = g.D.Disk.state c.known_at.new.disk in
    subst (λ b. Ran 1 b c.args.tm.now c.same_volume.new.tm d d1) (sym (fault_is c.from_residual-in_err-same_volume.result p.0 c.in_err-same_volume.field-0.0 p.1 p.2))
    (read_then 1 1 _ c.args.tm.now c.same_volume.new.tm d d1 d1 (omega arith) c.in_ok-volume.ensures.state (c.in_err-same_volume.ensures.ran d1))

pub returns-clause-held : goal.returns-clause-held
returns-clause-held g c honest geo now h slots is = c.in_ok-same_volume.ensures.shared (g.D.Disk.state c.known_at.new.disk) geo c.args.root now c.args.device slots (c.in_ok-volume.ensures.told honest geo [] now h) is

pub returns-clause-ran : goal.returns-clause-ran
returns-clause-ran g c =
    let d1 = g.D.Disk.state c.known_at.new.disk in
    read_then 1 1 _ c.args.tm.now c.same_volume.new.tm (g.D.Disk.state c.args.disk.now) d1 d1 (omega arith) c.in_ok-volume.ensures.state (c.in_ok-same_volume.ensures.ran d1)

pub returns-clause-used : goal.returns-clause-used
returns-clause-used g c honest geo now h = c.in_ok-same_volume.ensures.used (g.D.Disk.state c.known_at.new.disk) geo c.args.root now c.args.device (c.in_ok-volume.ensures.told honest geo [] now h)

pub returns-clause-told : goal.returns-clause-told
returns-clause-told g c honest geo now h =
    let v = c.in_ok-volume.ensures.told honest geo [] now h in
    size_told geo c.args.tm.now (g.D.Disk.state c.known_at.new.disk) c.args.root [] now v.trees c.args.device (entry_of c.args.device c.in_ok-volume.volume) v.told
