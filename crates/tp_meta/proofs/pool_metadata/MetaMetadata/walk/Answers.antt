use Rattle.std.proofs.Common.{rules, ◌≡◌, ℕ, Option, None, Some, Err, List, is_some, length, sym, ap, subst, ◌∙◌}
use Rattle.std.specs.Prelude.{IsTrue}
use Rattle.std.specs.Option.{option_map}
use Rattle.tp_model.specs.Disk.{DiskState}
use Rattle.tp_counts.specs.declared.error.StoreError.TheVariants.{Damaged}
use Rattle.tp_sharing.specs.Volumes.{BlockSlot, device_of}
use Rattle.tp_mapping.specs.Trees.{StandForVolumes}
use Rattle.tp_meta.proofs.pool_metadata.MetaMetadata.walk.Goals as goal

-- a device is there where its slots are counted
counted_there : (n : Option ℕ) (o : Option (List BlockSlot)) → n ≡ option_map length o → is_some n ≡ is_some o
counted_there n None e = ap (λ (m : Option ℕ). is_some m) e
counted_there n (Some xs) e = ap (λ (m : Option ℕ). is_some m) e

pub returns-in_err-mapped-clause-looked : goal.returns-in_err-mapped-clause-looked
returns-in_err-mapped-clause-looked g c = record {
  told = search rules;
  damaged = λ e now kept st.
      let f : c.mapped.result ≡ Err Damaged = search (rules, e) in c.mapped.ensures.damaged f st.honest now.volumes kept.volumes st.mapping;
  state = search rules;
}

pub returns-in_err-mapped-clause-read : goal.returns-in_err-mapped-clause-read
returns-in_err-mapped-clause-read g c = record {
  told = search rules;
  damaged = λ e now kept st.
      let f : c.mapped.result ≡ Err Damaged = search (rules, e) in c.mapped.ensures.damaged f st.honest now.volumes kept.volumes st.mapping;
  state = search rules;
}

pub returns-in_err-walk-clause-looked : goal.returns-in_err-walk-clause-looked
returns-in_err-walk-clause-looked g c = record {
  told = search rules;
  damaged = λ e now kept st.
      let stays = sym c.in_ok-mapped.ensures.state in
      let f : c.walk.result ≡ Err Damaged = search (rules, e) in
      c.walk.ensures.looked.damaged f (subst (λ (z : DiskState). IsTrue z.is_honest) stays st.honest) now.volumes kept.volumes
      (subst (λ (z : DiskState). StandForVolumes c.args.self.now.mapping z now.volumes kept.volumes) stays st.mapping);
  state = search rules;
}

pub returns-in_err-walk-clause-read : goal.returns-in_err-walk-clause-read
returns-in_err-walk-clause-read g c = record {
  told = search rules;
  damaged = λ e now kept st.
      let stays = sym c.in_ok-mapped.ensures.state in
      let f : c.walk.result ≡ Err Damaged = search (rules, e) in
      c.walk.ensures.looked.damaged f (subst (λ (z : DiskState). IsTrue z.is_honest) stays st.honest) now.volumes kept.volumes
      (subst (λ (z : DiskState). StandForVolumes c.args.self.now.mapping z now.volumes kept.volumes) stays st.mapping);
  state = search rules;
}

pub returns-clause-looked : goal.returns-clause-looked
returns-clause-looked g c = record {
  told = λ now kept st.
      let stays = sym c.in_ok-mapped.ensures.state in (
        c.is_some.ensures ∙ counted_there c.in_ok-mapped.mapped (device_of c.args.device now.volumes) (c.in_ok-mapped.ensures.told st.honest now.volumes kept.volumes st.mapping),
        c.in_ok-walk.ensures.looked.told (subst (λ (z : DiskState). IsTrue z.is_honest) stays st.honest) now.volumes kept.volumes
            (subst (λ (z : DiskState). StandForVolumes c.args.self.now.mapping z now.volumes kept.volumes) stays st.mapping),
      );
  damaged = search rules;
  state = search rules;
}

pub returns-clause-read : goal.returns-clause-read
returns-clause-read g c = record {
  told = λ now kept st.
      let stays = sym c.in_ok-mapped.ensures.state in (
        c.is_some.ensures ∙ counted_there c.in_ok-mapped.mapped (device_of c.args.device now.volumes) (c.in_ok-mapped.ensures.told st.honest now.volumes kept.volumes st.mapping),
        c.in_ok-walk.ensures.looked.told (subst (λ (z : DiskState). IsTrue z.is_honest) stays st.honest) now.volumes kept.volumes
            (subst (λ (z : DiskState). StandForVolumes c.args.self.now.mapping z now.volumes kept.volumes) stays st.mapping),
      );
  damaged = search rules;
  state = search rules;
}
