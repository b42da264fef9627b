use Rattle.tp_meta.proofs.pool_metadata.MetaMetadata.free_data.Goals as goal

pub returns : goal.returns
returns c disk now kept st = c.free_data.ensures disk now.volumes kept.volumes st.mapping
