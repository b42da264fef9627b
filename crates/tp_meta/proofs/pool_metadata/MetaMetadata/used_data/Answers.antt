use Rattle.tp_meta.proofs.pool_metadata.MetaMetadata.used_data.Goals as goal

pub returns : goal.returns
returns c disk now kept st = c.used.ensures disk now.volumes kept.volumes st.mapping
