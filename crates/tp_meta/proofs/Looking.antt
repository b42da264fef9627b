-- What a mapping tells is told by the metadata that it is part of.
use Rattle.std.specs.Prelude.{Result}
use Rattle.std.proofs.lemmas.Result.{IfOk-weaker}
use Rattle.tp_model.specs.Disk.{DiskState}
use Rattle.tp_counts.specs.declared.error.StoreError.{StoreError}
use Rattle.tp_sharing.specs.Volumes.{Volumes}
use Rattle.tp_mapping.specs.Mapping as mapping
use Rattle.tp_mapping.specs.Trees.{StandForVolumes}
use Rattle.tp_meta.specs.Metadata.{LooksUp}
use Rattle.tp_meta.specs.Midway.{TellsFor}
use Rattle.tp_meta.specs.Standing.{StandsFor}
use Rattle.tp_meta.specs.declared.whole.Meta.{Meta}

pub looks_up : {A : Type 0} {before after : DiskState} {result : Result A StoreError} {Told : A → Volumes → Type 0} (m : Meta)
    → mapping.LooksUp (StandForVolumes m.mapping) before after result Told → LooksUp (StandsFor m) before after result (λ answer now. Told answer now.volumes)
looks_up {A} {before} {after} {result} m looked = record {
  told = IfOk-weaker result _ _ (λ answer told now kept st. told st.honest now.volumes kept.volumes st.mapping) looked.told;
  damaged = λ e now kept st. looked.damaged e st.honest now.volumes kept.volumes st.mapping;
  state = looked.state;
}

pub reads_up : {A : Type 0} {before after : DiskState} {result : Result A StoreError} {Told : A → Volumes → Type 0} (m : Meta)
    → mapping.LooksUp (StandForVolumes m.mapping) before after result Told → LooksUp (TellsFor m) before after result (λ answer now. Told answer now.volumes)
reads_up {A} {before} {after} {result} m looked = record {
  told = IfOk-weaker result _ _ (λ answer told now kept t. told t.honest now.volumes kept.volumes t.mapping) looked.told;
  damaged = λ e now kept t. looked.damaged e t.honest now.volumes kept.volumes t.mapping;
  state = looked.state;
}
