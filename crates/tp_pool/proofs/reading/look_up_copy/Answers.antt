use Rattle.std.proofs.Common.{rules, ◌≡◌, Option, None, Err, arith, sym, ap, subst, ◌∙◌}
use Rattle.std.specs.Prelude.{slice_index_or}
use Rattle.tp_counts.specs.declared.error.StoreError.TheVariants.{Damaged}
use Rattle.tp_meta.specs.Metadata.{IsInside}
use Rattle.tp_meta.specs.declared.metadata.Home.{Home}
use Rattle.tp_pool.specs.Writing.{old_place}
use Rattle.tp_pool.proofs.Copied.{copied_inside, copied_place}
use Rattle.tp_pool.proofs.reading.look_up_copy.Goals as goal

pub returns-in_err-is_there-clause-looked : goal.returns-in_err-is_there-clause-looked
returns-in_err-is_there-clause-looked g c = record {
  told = search rules;
  damaged = λ e now kept st.
      let f : c.held_run.result ≡ Err Damaged = search (rules, e) in c.held_run.ensures.read.damaged f now kept st;
  state = search rules;
}

pub returns-clause-looked : goal.returns-clause-looked
returns-clause-looked g c = record {
  told = λ now kept st.
      let told = c.in_ok-is_there.ensures.read.told now kept st in (
        told.0,
        λ i lt.
            let place = slice_index_or c.held_run.new.places i None in
            sym (told.1 i (omega (arith, lt, c.requires.few))) ∙ (sym (copied_place place) ∙ ap old_place (sym (c.copied_homes.ensures.value i lt))),
      );
  damaged = search rules;
  state = search rules;
}

pub returns-clause-inside : goal.returns-clause-inside
returns-clause-inside g c i lt =
    let blocks = (g.M.Metadata.geometry c.args.metadata.now).data_blocks in
    let place = slice_index_or c.held_run.new.places i None in
    subst (λ (o : Option Home). IsInside blocks o) (sym (c.copied_homes.ensures.value i lt)) (copied_inside blocks place (c.in_ok-is_there.ensures.inside i (omega (arith, lt, c.requires.few))))
