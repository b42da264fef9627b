use Rattle.std.proofs.Common.{◌∙◌, ◌*◌, ap, arith}
use Rattle.std.proofs.lemmas.Result.{on_ok_weaker}
use Rattle.tp_layout.specs.Node.{NodeValue, node_bytes}
use Rattle.tp_meta.proofs.Contents.{leaf_outside, leaf_stops, leaf_written}
use Rattle.tp_model.specs.Geometry.{fixed_part}
use Rattle.tp_meta.proofs.formatting.write_leaf.Goals as goal

pub returns-clause-any_moment : goal.returns-clause-any_moment
returns-clause-any_moment g c =
    let here = c.first_sector.ensures ∙ ap (λ (n : NodeValue). 8 * n.own) c.empty_leaf-node.ensures.value in
    leaf_stops c.first_sector.result (fixed_part c.args.geometry) c.write_node.new.block (g.D.Disk.state c.args.disk.now) (g.D.Disk.state c.write.new.self) here c.write_node.array_long c.write.ensures.any

pub returns-clause-outside : goal.returns-clause-outside
returns-clause-outside g c =
    let here = c.first_sector.ensures ∙ ap (λ (n : NodeValue). 8 * n.own) c.empty_leaf-node.ensures.value in
    leaf_outside c.first_sector.result (fixed_part c.args.geometry) c.write_node.new.block (g.D.Disk.state c.args.disk.now) (g.D.Disk.state c.write.new.self) here c.write_node.array_long c.write.ensures.any

pub returns-clause-written : goal.returns-clause-written
returns-clause-written g c =
    let here = c.first_sector.ensures ∙ ap (λ (n : NodeValue). 8 * n.own) c.empty_leaf-node.ensures.value in
    on_ok_weaker c.write.result
    (λ new. leaf_written c.first_sector.result (fixed_part c.args.geometry) c.write_node.new.block (g.D.Disk.state c.args.disk.now) (g.D.Disk.state c.write.new.self) here c.write_node.array_long
    (g.met.D.Disk.well_formed c.args.disk.now) (omega (arith, c.requires, c.empty_leaf-node.ensures.within.metadata_least)) new
    ∙ c.write_node.ensures ∙ ap node_bytes c.empty_leaf-node.ensures.value) c.write.ensures.ok
