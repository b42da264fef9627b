use Rattle.std.proofs.Common.{◌≡◌, Bool, false, replicate, [], sym, ap, subst, ◌∙◌}
use Rattle.std.specs.Prelude.{IsTrue, is_err}
use Rattle.std.proofs.lemmas.Bool.{false≢true}
use Rattle.std.proofs.lemmas.Result.{err_from_is_err_and}
use Rattle.tp_model.specs.declared.refusal.Refusal.TheVariants.{Fault, Memory}
use Rattle.tp_model.specs.Disk.{DiskState, seen}
use Rattle.tp_model.specs.DiskStops.{Leaves}
use Rattle.tp_layout.specs.declared.superblock.Superblock.{Superblock}
use Rattle.tp_stored.specs.Commit.{IsCommit, held_by}
use Rattle.tp_stored.specs.Contents.{Contents, contents_of}
use Rattle.tp_tm.specs.Tm.{Tm}
use Rattle.tp_tm.specs.Holds.{Holds}
use Rattle.tp_meta.specs.Opening.{IsOpenedFrom}
use Rattle.tp_meta.specs.Standing.{StandsFor}
use Rattle.tp_meta.proofs.Clearing.{err_is}
use Rattle.tp_meta.proofs.Numbered.{counted_stands}
use Rattle.tp_meta.proofs.Standing.{settled_leaves}
use Rattle.tp_meta.proofs.whole.Meta.open.Goals as goal

pub returns-clause-stands : goal.returns-clause-stands
returns-clause-stands g c honest settled sizes contents holds =
    let old = g.D.Disk.state c.args.disk.now in
    let mid = g.D.Disk.state c.open_store.new.disk in
    let new = g.D.Disk.state c.count_devices.new.disk in
    let opened = c.in_ok-opened.opened in
    let done = c.in_ok-opened.ensures in
    let found = done.holds honest holds.0 holds.1 holds.2 in
    let same = found.0 in
    let stays = done.state in
    let commit = subst (λ (x : Superblock). IsCommit (seen old.cells) x holds.1) (sym same) holds.2 in
    let left = subst (λ (d : DiskState). Leaves (λ image. IsCommit image opened.superblock holds.1) d.cells) (sym stays) (settled_leaves opened.superblock holds.1 old.cells settled commit) in
    let still : IsTrue mid.is_honest = ap (λ (d : DiskState). d.is_honest) stays ∙ honest in
    let stands = c.unchanged-meta.ensures.stands mid holds.1 still left (subst (λ (x : Superblock). Holds opened.tm mid [] (held_by x.geometry x.root x.held_root) holds.1) (sym same) found.1) done.alike.0 done.held done.alike.1 (c.in-Ok.ensures.marks ∙ ap (λ n. replicate {A = Bool} n false) c.data_blocks-blocks.ensures.value) c.in-Ok.ensures.stale in
    let is : contents_of opened.superblock holds.1 ≡ contents = ap (λ (x : Superblock). contents_of x holds.1) same ∙ sym holds.4 in
    let meta = c.unchanged-meta.result in
    let devices = c.in-Ok-count_devices.devices in
    let here : StandsFor meta mid contents contents = subst (λ (k : Contents). StandsFor meta mid k k) is stands in
    let all = counted_stands meta devices mid contents contents here (c.in-Ok-count_devices.ensures.counted still contents.volumes contents.volumes here.mapping) in
    let back : new ≡ mid = c.in-Ok-count_devices.ensures.state in (
      subst (λ (d : DiskState). StandsFor (record meta { devices = devices }) d contents contents) (sym back) all,
      ap (λ (t : Tm). t.geometry) c.unchanged-meta.ensures.tm ∙ done.alike.0 ∙ ap (λ (x : Superblock). x.geometry) same ∙ holds.3,
    )

pub returns-clause-told : goal.returns-clause-told
returns-clause-told g c honest =
    let image = seen (g.D.Disk.state c.args.disk.now).cells in
    let opened = c.in_ok-opened.opened in
    let made = c.unchanged-meta.ensures in
    subst (λ (t : Tm). IsOpenedFrom image (record { tm = t; superblock = c.unchanged-meta.result.last })) (sym made.tm)
    (subst (λ (b : Superblock). IsOpenedFrom image (record { tm = opened.tm; superblock = b })) (sym made.last) (c.in_ok-opened.ensures.told (λ e. false≢true (ap is_err e)) (λ e. false≢true (ap is_err e)) honest))

pub returns-in_err-opened-clause-why : goal.returns-in_err-opened-clause-why
returns-in_err-opened-clause-why g c =
    let p = err_from_is_err_and c.from_residual.result c.from_residual.ensures.1 in
    rw (p.1, p.2) (λ no_fault no_memory honest. c.in_err-opened.ensures.told (λ e. no_fault (err_is _ Fault e)) (λ e. no_memory (err_is _ Memory e)) honest)
