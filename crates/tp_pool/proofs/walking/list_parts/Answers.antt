use Rattle.std.proofs.Common.{rules, ◌≡◌, Bool, Ok, Result, take, sym, subst, ◌∙◌}
use Rattle.std.specs.Prelude.{IfOk, is_some}
use Rattle.tp_model.specs.Disk.{DiskState}
use Rattle.tp_disk.specs.Shared.{for_reader}
use Rattle.tp_counts.specs.declared.error.StoreError.{StoreError}
use Rattle.tp_sharing.specs.Volumes.{device_of}
use Rattle.tp_stored.specs.Contents.{Contents}
use Rattle.tp_mapping.specs.Mapping.{from_block, slots_of}
use Rattle.tp_pool.proofs.Calling.{Laws}
use Rattle.tp_pool.proofs.Looking.{was_yes}
use Rattle.tp_pool.proofs.Pieces.{shared_walk}
use Rattle.tp_pool.proofs.Serving.{is_some_from, is_some_to}
use Rattle.tp_pool.proofs.walking.list_parts.Goals as goal

pub returns-clause-told : goal.returns-clause-told
returns-clause-told g c =
    λ yes now kept tells.
    let M = g.M.Metadata in
    let metadata = c.args.metadata.now in
    let disk = g.D.Disk.state c.args.disk.now in
    let slots = c.list_slots.new.slots.items in
    let reader = for_reader (g.D.Disk.state c.new-reader.result.disk.now) c.new-reader.result.shadow.state in
    let same : reader ≡ disk = c.new-reader.ensures in
    let is : c.list_slots.result ≡ Ok _ = was_yes c.list_slots.result (sym c.unwrap_or.ensures ∙ yes) in
    let there = subst (λ (r : Result Bool StoreError). IfOk r (λ is_there. (now kept : Contents) → M.tells metadata reader now kept → (is_there ≡ is_some (device_of c.args.id now.volumes))
    × (slots ≡ take 252 (from_block c.args.from (slots_of c.args.id now.volumes))))) is c.list_slots.ensures.read.told in
    let here = subst (λ (d : DiskState). M.tells metadata d now kept) (sym same) tells in
    let told = there now kept here in
    (is_some_to (device_of c.args.id now.volumes) told.0, told.1)

pub returns-clause-listed : goal.returns-clause-listed
returns-clause-listed g c =
    λ yes holders.
    let M = g.M.Metadata in
    let met = g.met.M.Metadata in
    let laws : Laws M.geometry M.stands M.marks M.room = record { within = met.within; honest = met.honest; left = met.left; frame = met.frame } in
    let metadata = c.args.metadata.now in
    let disk = g.D.Disk.state c.args.disk.now in
    let told = returns-clause-told g c yes in
    shared_walk laws M.changed (record { disk = disk; metadata = metadata; holders = holders; mode = c.args.mode }) c.args.id c.args.from c.list_slots.new.slots.items (search rules)
    (sym c.is_failed.ensures ∙ c.if-is_failed.false)
    (λ now kept st. sym (is_some_from (device_of c.args.id now.volumes) (told now kept (met.told metadata disk now kept st)).0))
    (λ now kept st. (told now kept (met.told metadata disk now kept st)).1)
