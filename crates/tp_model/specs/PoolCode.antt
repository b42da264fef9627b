-- Internal: by this code a plain pool can be the value of a type.
use Rattle.std.specs.Prelude.{ℕ, Bool, List, refl}
use Rattle.std.specs.Coded.{Coded, code_by, coded×, coded_ℕ, coded_bool, coded_list}
use Rattle.std.specs.Ordering.{nat_cmp}
use Rattle.std.specs.FinMap.{FinMap, code}
use Rattle.tp_model.specs.declared.mode.Mode.{Mode}
use Rattle.tp_model.specs.contracts.mode.Mode as mode
use Rattle.tp_model.specs.Geometry.{Geometry}
use Rattle.tp_model.specs.Sectors.{Sector}
use Rattle.tp_model.specs.Pool.{Volume, PlainPool}

abbrev pub geometry_code : Coded Geometry
geometry_code =
    code_by (ℕ × (ℕ × (ℕ × ℕ))) (coded× coded_ℕ (coded× coded_ℕ (coded× coded_ℕ coded_ℕ)))
    (λ g. (g.block_sectors, (g.virtual_blocks, (g.metadata_blocks, g.data_blocks))))
    (λ c. record { block_sectors = c.0; virtual_blocks = c.1.0; metadata_blocks = c.1.1.0; data_blocks = c.1.1.1 })
    (λ _. refl)

abbrev pub volume_code : Coded Volume
volume_code =
    code_by (List Sector × FinMap nat_cmp ℕ) (coded× (coded_list (coded_list coded_ℕ)) (code coded_ℕ coded_ℕ))
    (λ v. (v.sectors, v.slots)) (λ c. record { sectors = c.0; slots = c.1 }) (λ _. refl)

abbrev pub pool_code : Coded PlainPool
pool_code =
    code_by (Geometry × (FinMap nat_cmp Volume × (ℕ × (Bool × (Mode × (FinMap nat_cmp ℕ × (ℕ × ℕ)))))))
    (coded× geometry_code (coded× (code coded_ℕ volume_code) (coded× coded_ℕ (coded× coded_bool (coded× mode.the_row.coded (coded× (code coded_ℕ coded_ℕ) (coded× coded_ℕ coded_ℕ)))))))
    (λ p. (p.geometry, (p.volumes, (p.transaction_id, (p.needs_check, (p.mode, (p.holds, (p.meta_used, p.held_root))))))))
    (λ c. record { geometry = c.0; volumes = c.1.0; transaction_id = c.1.1.0; needs_check = c.1.1.1.0; mode = c.1.1.1.1.0; holds = c.1.1.1.1.1.0; meta_used = c.1.1.1.1.1.1.0; held_root = c.1.1.1.1.1.1.1 })
    (λ _. refl)
