-- How many blocks are free, and how many are in use.
use Rattle.std.proofs.Common.{◌≤◌, sym, subst}
use Rattle.tp_model.specs.Geometry.{Geometry}
use Rattle.tp_counts.specs.Counts.{free_in, used_in}
use Rattle.tp_counts.proofs.Free.{none_taken}
use Rattle.tp_tm.proofs.Used.{none_used}
use Rattle.tp_tm.specs.Tm.{Tm, NoneTaken, free_data, free_metadata, used_metadata}

-- the free metadata blocks of two stores
pub untaken_free : (t u : Tm) → NoneTaken t u → free_metadata t ≤ free_metadata u
untaken_free t u h =
    subst (λ (g : Geometry). free_metadata t ≤ free_in g.metadata_blocks u.metadata_now u.metadata_kept) (sym h.geometry)
    (subst (λ l. free_metadata t ≤ free_in t.geometry.metadata_blocks u.metadata_now l) (sym h.metadata_kept)
    (none_taken t.geometry.metadata_blocks t.metadata_now u.metadata_now t.metadata_kept h.metadata))

-- and the free data blocks
pub untaken_data : (t u : Tm) → NoneTaken t u → free_data t ≤ free_data u
untaken_data t u h =
    subst (λ (g : Geometry). free_data t ≤ free_in g.data_blocks u.data_now u.data_kept) (sym h.geometry)
    (subst (λ l. free_data t ≤ free_in t.geometry.data_blocks u.data_now l) (sym h.data_kept)
    (none_taken t.geometry.data_blocks t.data_now u.data_now t.data_kept h.others))

-- the metadata blocks in use
pub untaken_used : (t u : Tm) → NoneTaken t u → used_metadata u ≤ used_metadata t
untaken_used t u h =
    subst (λ (g : Geometry). used_in g.metadata_blocks u.metadata_now ≤ used_metadata t) (sym h.geometry) (none_used t.geometry.metadata_blocks t.metadata_now u.metadata_now h.metadata)
