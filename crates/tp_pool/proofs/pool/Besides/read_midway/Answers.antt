use Rattle.std.proofs.Common.{rules, ◌≡◌, ◌+◌, ◌/◌, length, ap, subst, sym, ◌∙◌}
use Rattle.std.specs.Prelude.{IsSome}
use Rattle.std.specs.List.{concat}
use Rattle.tp_model.specs.Disk.{seen}
use Rattle.tp_sharing.specs.Volumes.{device_of}
use Rattle.tp_stored.specs.Contents.{Contents}
use Rattle.tp_shown.specs.Shown.{values_at}
use Rattle.tp_pool.specs.Besides.{Besides}
use Rattle.tp_pool.specs.Held.{Fits}
use Rattle.tp_pool.proofs.Calling.{Laws}
use Rattle.tp_pool.proofs.Parts.{read_between}
use Rattle.tp_pool.proofs.Ranges.{law_within, lies_in}
use Rattle.tp_pool.proofs.pool.Besides.read_midway.Goals as goal

pub returns-clause-read : goal.returns-clause-read
returns-clause-read g c =
    λ yes old is_named besides mid range.
    let M = g.M.Metadata in
    let met = g.met.M.Metadata in
    let laws : Laws M.geometry M.stands M.marks M.room = record { within = met.within; honest = met.honest; left = met.left; frame = met.frame } in
    let disk = g.D.Disk.state c.args.disk.now in
    let n = length c.args.out.now / 512 in
    let out = c.read_parts.new.out in
    let own : c.self.inside.metadata ≡ old.metadata = ap (λ (b : Besides g.row.M.Denot). b.metadata) (c.self.view_is ∙ sym besides) in
    let told = subst (λ (m : g.row.M.Denot). (now kept : Contents) → M.tells m disk now kept → IsSome (device_of c.args.id now.volumes) × (out ≡ concat (values_at (M.geometry m) now.volumes (seen disk.cells) c.args.id c.args.sector n))) own
    (c.read_parts.ensures.told yes) in
    read_between laws M.changed M.tells M.midway old is_named disk c.args.id c.args.sector n out mid
    (lies_in M.geometry M.stands (law_within met.within) old c.args.id (c.args.sector + n) (search rules) range) told

pub read_parts-requires-clause-within : goal.read_parts-requires-clause-within
read_parts-requires-clause-within g c limits =
    let M = g.M.Metadata in
    subst (λ (b : Besides g.row.M.Denot). Fits (M.geometry b.metadata) (c.args.sector + length c.args.out.now / 512)) (sym c.self.view_is) c.requires.within limits
