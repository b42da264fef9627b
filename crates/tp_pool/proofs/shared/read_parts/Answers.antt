use Rattle.std.proofs.Common.{◌≡◌, ◌/◌, Bool, Ok, Result, length, sym, subst, ◌∙◌}
use Rattle.std.specs.Prelude.{IfOk, is_some}
use Rattle.std.specs.List.{concat}
use Rattle.tp_model.specs.Disk.{DiskState, seen}
use Rattle.tp_disk.specs.Shared.{for_reader}
use Rattle.tp_counts.specs.declared.error.StoreError.{StoreError}
use Rattle.tp_sharing.specs.Volumes.{device_of}
use Rattle.tp_stored.specs.Contents.{Contents}
use Rattle.tp_shown.specs.Shown.{values_at}
use Rattle.tp_pool.proofs.Calling.{Laws}
use Rattle.tp_pool.proofs.Looking.{shared_read, was_yes}
use Rattle.tp_pool.proofs.Serving.{is_some_to}
use Rattle.tp_pool.proofs.shared.read_parts.Goals as goal

pub returns-clause-told : goal.returns-clause-told
returns-clause-told g c =
    λ yes now kept tells.
    let M = g.M.Metadata in
    let metadata = c.args.metadata.now in
    let disk = g.D.Disk.state c.args.disk.now in
    let n = length c.args.out.now / 512 in
    let out = c.read_told.new.out in
    let reader = for_reader (g.D.Disk.state c.new-reader.result.disk.now) c.new-reader.result.shadow.state in
    let same : reader ≡ disk = c.new-reader.ensures in
    let is : c.read_told.result ≡ Ok _ = was_yes c.read_told.result (sym c.unwrap_or.ensures ∙ yes) in
    let there = subst (λ (r : Result Bool StoreError). IfOk r (λ is_there. (now kept : Contents) → M.tells metadata reader now kept → is_there ≡ is_some (device_of c.args.id now.volumes))) is c.read_told.ensures.looked.told in
    let here = subst (λ (d : DiskState). M.tells metadata d now kept) (sym same) tells in (
      is_some_to (device_of c.args.id now.volumes) (there now kept here),
      subst (λ (d : DiskState). out ≡ concat (values_at (M.geometry metadata) now.volumes (seen d.cells) c.args.id c.args.sector n)) same (c.read_told.ensures.bytes is now kept here),
    )

pub returns-clause-read : goal.returns-clause-read
returns-clause-read g c =
    λ yes holders lies.
    let M = g.M.Metadata in
    let met = g.met.M.Metadata in
    let laws : Laws M.geometry M.stands M.marks M.room = record { within = met.within; honest = met.honest; left = met.left; frame = met.frame } in
    let metadata = c.args.metadata.now in
    let disk = g.D.Disk.state c.args.disk.now in
    let n = length c.args.out.now / 512 in
    let told = returns-clause-told g c yes in
    shared_read laws M.changed (record { disk = disk; metadata = metadata; holders = holders; mode = c.args.mode }) c.args.id c.args.sector n c.read_told.new.out
    (sym c.is_failed.ensures ∙ c.if-is_failed.false)
    (λ now kept st. (told now kept (met.told metadata disk now kept st)).0)
    lies (g.met.D.Disk.well_formed c.args.disk.now) c.requires.disk
    (λ now kept st. (told now kept (met.told metadata disk now kept st)).1)
