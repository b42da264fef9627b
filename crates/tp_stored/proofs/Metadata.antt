-- A commit stands in any image with the same metadata blocks.
use Rattle.std.proofs.Common.{◌*◌, ◌<◌, List, [], length, sym, subst, ◌∙◌, arith, inl}
use Rattle.std.proofs.lemmas.List.{get_or_past}
use Rattle.tp_model.specs.Geometry.{Geometry}
use Rattle.tp_model.specs.Sectors.{Sector}
use Rattle.tp_model.specs.DiskStops.{SameOutside}
use Rattle.tp_model.proofs.DiskStopLaws.{bytes_at-outside}
use Rattle.tp_layout.specs.declared.superblock.SlotId.TheVariants.{Zero, One}
use Rattle.tp_layout.specs.declared.superblock.Superblock.{Superblock}
use Rattle.tp_image.proofs.AreaLaws.{HoldsCounts-outside, counts_fixed}
use Rattle.tp_super.proofs.Choice.{SlotIs-same}
use Rattle.tp_refs.specs.Store.{Store}
use Rattle.tp_trees.proofs.Trees.{rank_inside}
use Rattle.tp_stored.specs.Commit.{IsCommit, counts_of_part}
use Rattle.tp_stored.specs.Contents.{SameMetadata}
use Rattle.tp_stored.specs.Laws.{CommitsAreMetadata}

-- nothing changes outside the sectors behind the metadata blocks
outside : (g : Geometry) (old new : List Sector) → SameMetadata g old new → SameOutside (8 * g.metadata_blocks) (length old) old new
outside g old new same = record {
  same_length = same.same_length;
  below = same.same;
  above = λ i past. get_or_past new i [] (omega (arith, past, same.same_length)) ∙ sym (get_or_past old i [] (omega (arith, past)));
}

pub commit_stays : (old new : List Sector) (b : Superblock) (s : Store) → SameMetadata b.geometry old new → IsCommit old b s → IsCommit new b s
commit_stays old new b s same c =
    let g = b.geometry in
    let out = outside g old new same in
    record {
      chosen = record {
        first = c.chosen.first;
        second = c.chosen.second;
        first_is = SlotIs-same Zero old new c.chosen.first same.same_length (same.same 0 (omega (arith, c.sound.limits.metadata_least))) c.chosen.first_is;
        second_is = SlotIs-same One old new c.chosen.second same.same_length (same.same 8 (omega (arith, c.sound.limits.metadata_least))) c.chosen.second_is;
        choice_is = c.chosen.choice_is;
      };
      whole = omega (arith, c.whole, same.same_length);
      sound = c.sound;
      of_version = c.of_version;
      kept = c.kept;
      counts = λ part area is.
          HoldsCounts-outside g part area (counts_of_part g part s.counts) out (inl (omega (arith, (counts_fixed g part area).1, c.sound.limits.metadata_least))) (c.counts part area is);
      nodes = λ x live inner.
          let t = c.nodes x live inner in
          let at = t.1.0 in
          let low : x < g.metadata_blocks = omega (arith, rank_inside s x inner, c.sound.sized) in
          (t.0, (record { good = at.good; own = at.own; bytes = bytes_at-outside (8 * x) 8 out (inl (omega (arith, low))) ∙ at.bytes }, t.1.1));
      spare = c.spare;
    }

pub commits_are_metadata : CommitsAreMetadata
commits_are_metadata g c old new same h =
    (h.0, h.1, commit_stays old new h.0 h.1 (subst (λ (x : Geometry). SameMetadata x old new) (sym h.3) same) h.2, h.3, h.4)
