use Rattle.std.proofs.Common.{rules, ◌∙◌, ap, arith, sym}
use Rattle.std.specs.Prelude.{is_some}
use Rattle.std.proofs.lemmas.Bool.{false≢true}
use Rattle.std.proofs.lemmas.Result.{IfErr-at_err}
use Rattle.tp_model.specs.Told.{told_blocks}
use Rattle.tp_sharing.specs.Volumes.{device_of, resized}
use Rattle.tp_list_mapping.specs.List.{volumes}
use Rattle.tp_mapping.specs.Mapping.{size_for}
use Rattle.tp_mapping.proofs.Between.{size_there, some_there}
use Rattle.tp_list_mapping.proofs.Changing.{on_ok_two}
use Rattle.tp_mapping.proofs.Holding.{for_more}
use Rattle.tp_list_mapping.proofs.Holding.{for_most}
use Rattle.tp_list_mapping.proofs.Stands.{size_put}
use Rattle.tp_list_mapping.proofs.list.ListMappingMapping.grow.Goals as goal

pub returns : goal.returns
returns g c = record {
  made =
      on_ok_two c.resize.result
      (λ v r honest now kept s some may more.
      let m = c.args.self.now in
      let slots = some_there (device_of c.args.device now) some in
      let old = size_there c.args.device now slots.0 slots.1 in (
        size_put m now kept s (record { geometry = m.geometry; most_blocks = m.most_blocks; devices = c.resize.new.devices; spare = m.spare; kept = m.kept }) c.args.device old.0
            (size_for m.geometry c.args.blocks) some old.1 may (for_more m.geometry c.args.blocks (told_blocks m.geometry old.0) (more old.0 old.1)) (for_most m.geometry c.args.blocks m.most_blocks s.least c.requires.most)
            (v ∙ ap (λ n. resized c.args.device n (volumes m.devices.items)) c.size_for-size.ensures) r c.resize.ensures.capacity,
        omega arith,
      )) c.resize.ensures.value c.resize.ensures.room;
  damaged = λ e honest now kept s some may more.
      let p = IfErr-at_err _ e c.resize.ensures.err in
      false≢true (ap is_some (sym (ap (device_of c.args.device) s.listed ∙ p.1)) ∙ some);
  ran = search rules;
  used = search rules;
  same_kept = search rules;
  same_held = search rules;
}
