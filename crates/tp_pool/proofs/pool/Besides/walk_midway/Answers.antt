use Rattle.std.proofs.Common.{rules, ◌≡◌, ap, subst, sym, take, ◌∙◌}
use Rattle.std.specs.Prelude.{IsSome}
use Rattle.tp_sharing.specs.Volumes.{device_of}
use Rattle.tp_stored.specs.Contents.{Contents}
use Rattle.tp_mapping.specs.Mapping.{from_block, slots_of}
use Rattle.tp_pool.specs.Besides.{Besides}
use Rattle.tp_pool.proofs.Calling.{Laws}
use Rattle.tp_pool.proofs.Pieces.{shared_walk}
use Rattle.tp_model.specs.Calls.{is_failed}
use Rattle.tp_pool.proofs.Serving.{is_some_from}
use Rattle.tp_pool.proofs.pool.Besides.walk_midway.Goals as goal

pub returns : goal.returns
returns g c =
    λ yes old is_named besides mid.
    let M = g.M.Metadata in
    let met = g.met.M.Metadata in
    let laws : Laws M.geometry M.stands M.marks M.room = record { within = met.within; honest = met.honest; left = met.left; frame = met.frame } in
    let disk = g.D.Disk.state c.args.disk.now in
    let slots = c.list_parts.new.slots.items in
    let own : c.self.inside.metadata ≡ old.metadata = ap (λ (b : Besides g.row.M.Denot). b.metadata) (c.self.view_is ∙ sym besides) in
    let told = subst (λ (m : g.row.M.Denot). (now kept : Contents) → M.tells m disk now kept → IsSome (device_of c.args.id now.volumes) × (slots ≡ take 252 (from_block c.args.from (slots_of c.args.id now.volumes)))) own
    (c.list_parts.ensures.told yes) in
    shared_walk laws M.changed old c.args.id c.args.from slots (search rules) (ap is_failed mid.works)
    (λ now kept st. sym (is_some_from (device_of c.args.id now.volumes) (told now kept (mid.between.told now kept st)).0))
    (λ now kept st. (told now kept (mid.between.told now kept st)).1)
