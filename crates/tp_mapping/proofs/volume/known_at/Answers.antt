use Rattle.std.proofs.Common.{rules, ◌≡◌, Err, subst, sym}
use Rattle.tp_counts.specs.declared.error.StoreError.TheVariants.{Damaged}
use Rattle.tp_model.specs.Disk.{DiskState}
use Rattle.tp_mapping.specs.Held.{HasVolume, TellsVolume}
use Rattle.tp_mapping.proofs.Holding.{none_known, now_root}
use Rattle.tp_mapping.proofs.volume.known_at.Goals as goal

pub returns-in_err-there-clause-damaged : goal.returns-in_err-there-clause-damaged
returns-in_err-there-clause-damaged g c e honest geo more now h some = let f : c.volume_at.result ≡ Err Damaged = search (rules, e) in
    c.volume_at.ensures.looked.damaged f honest geo _ h.store (now_root geo c.args.tm.now (g.D.Disk.state c.args.disk.now) c.args.root more now h)

pub returns-in-Some-clause-told : goal.returns-in-Some-clause-told
returns-in-Some-clause-told g c honest geo more now h =
    subst (λ (z : DiskState). HasVolume geo c.args.tm.now z c.args.root more now c.args.device c.in-Some.there.volume) (sym c.in_ok-there.ensures.looked.state)
    (record { trees = h; told = (subst (TellsVolume c.args.device h.store c.args.root) c.in-Some.is (c.in_ok-there.ensures.looked.told honest geo _ h.store (now_root geo c.args.tm.now (g.D.Disk.state c.args.disk.now) c.args.root more now h))).0 })

pub returns-in-None-clause-damaged : goal.returns-in-None-clause-damaged
returns-in-None-clause-damaged g c e honest geo more now h some =
    let none = subst (TellsVolume c.args.device h.store c.args.root) c.in-None.is (c.in_ok-there.ensures.looked.told honest geo _ h.store (now_root geo c.args.tm.now (g.D.Disk.state c.args.disk.now) c.args.root more now h)) in
    none_known geo c.args.tm.now (g.D.Disk.state c.args.disk.now) c.args.root more now h c.args.device none.0 none.1 some
