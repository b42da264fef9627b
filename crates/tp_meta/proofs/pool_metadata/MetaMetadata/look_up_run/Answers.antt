use Rattle.std.proofs.Common.{rules, ◌≡◌, ◌+◌, ℕ, Bool, Option, None, Some, Err, List, arith, refl, sym, subst}
use Rattle.std.specs.Prelude.{slice_index_or}
use Rattle.tp_counts.specs.declared.error.StoreError.TheVariants.{Damaged}
use Rattle.tp_sharing.specs.Volumes.{Volumes}
use Rattle.tp_mapping.specs.Mapping as mapping
use Rattle.tp_mapping.specs.declared.mapped.Mapped.{Mapped}
use Rattle.tp_meta.specs.Framing.{marks_are, marks_whole}
use Rattle.tp_meta.specs.Metadata.{IsTold, home_of}
use Rattle.tp_meta.specs.Standing.{marks_of}
use Rattle.tp_meta.specs.declared.metadata.Home.{Home}
use Rattle.tp_meta.proofs.pool_metadata.MetaMetadata.look_up_run.Goals as goal

told_of : (id block : ℕ) (volumes : Volumes) (marks : List Bool) (o : Option Mapped) → mapping.IsTold id block volumes o → IsTold id block volumes marks (home_of marks o)
told_of id block volumes marks None t = t
told_of id block volumes marks (Some at) t = (t.0, t.1, refl)

pub returns-in_err-is_there-clause-looked : goal.returns-in_err-is_there-clause-looked
returns-in_err-is_there-clause-looked g c = record {
  told = search rules;
  damaged = λ e now kept st.
      let f : c.look_up_run.result ≡ Err Damaged = search (rules, e) in c.look_up_run.ensures.looked.damaged f st.honest now.volumes kept.volumes st.mapping;
  state = search rules;
}

pub returns-clause-looked : goal.returns-clause-looked
returns-clause-looked g c = record {
  told = λ now kept st.
      let m = c.args.self.now in
      let same : m.marks ≡ marks_of m = sym (marks_are m (g.D.Disk.state c.args.disk.now) now kept st) in
      let told = c.in_ok-is_there.ensures.looked.told st.honest now.volumes kept.volumes st.mapping in (
        told.0,
        λ i lt.
            let place = slice_index_or c.look_up_run.new.places i None in
            subst (λ (o : Option Home). IsTold c.args.device (c.args.first + i) now.volumes (marks_of m) o) (sym (c.homes_in.ensures.value i lt))
            (subst (λ (l : List Bool). IsTold c.args.device (c.args.first + i) now.volumes (marks_of m) (home_of l place)) (sym same)
            (told_of c.args.device (c.args.first + i) now.volumes (marks_of m) place (told.1 i (omega (arith, lt, c.requires.few))))),
      );
  damaged = search rules;
  state = search rules;
}

pub returns-in_err-is_there-clause-read : goal.returns-in_err-is_there-clause-read
returns-in_err-is_there-clause-read g c = record {
  told = search rules;
  damaged = λ e now kept st.
      let f : c.look_up_run.result ≡ Err Damaged = search (rules, e) in c.look_up_run.ensures.looked.damaged f st.honest now.volumes kept.volumes st.mapping;
  state = search rules;
}

pub returns-clause-read : goal.returns-clause-read
returns-clause-read g c = record {
  told = λ now kept st.
      let m = c.args.self.now in
      let same : m.marks ≡ marks_of m = sym (marks_whole m st.marks_long) in
      let told = c.in_ok-is_there.ensures.looked.told st.honest now.volumes kept.volumes st.mapping in (
        told.0,
        λ i lt.
            let place = slice_index_or c.look_up_run.new.places i None in
            subst (λ (o : Option Home). IsTold c.args.device (c.args.first + i) now.volumes (marks_of m) o) (sym (c.homes_in.ensures.value i lt))
            (subst (λ (l : List Bool). IsTold c.args.device (c.args.first + i) now.volumes (marks_of m) (home_of l place)) (sym same)
            (told_of c.args.device (c.args.first + i) now.volumes (marks_of m) place (told.1 i (omega (arith, lt, c.requires.few))))),
      );
  damaged = search rules;
  state = search rules;
}
