-- A write of nothing changes nothing.
use Rattle.std.proofs.Common.{◌≡◌, ℕ, ◌+◌, ◌-◌, Bool, true, false, cond, List, [], ◌∷◌, map, Option, Some, refl, sym, ap, ◌∙◌, length}
use Rattle.std.specs.Prelude.{slice_index_or}
use Rattle.std.specs.Option.{option_map_or}
use Rattle.std.specs.List.{enumerate_from}
use Rattle.std.specs.FinMap.{get, empty}
use Rattle.tp_model.specs.Sectors.{Sector}
use Rattle.tp_model.specs.Pool.{Volume, PlainPool, volume_sectors, volume_slots}
use Rattle.tp_model.specs.Calls.{Write, is_within, Edits}

-- a pass over numbered sectors that changes none
no_pass : (f : ℕ × Sector → Sector) → ((k : ℕ) (s : Sector) → f (k, s) ≡ s) → (n : ℕ) (xs : List Sector) → map f (enumerate_from n xs) ≡ xs
no_pass f same n [] = refl
no_pass f same n (x ∷ xs) = λ i. same n x i ∷ no_pass f same (n + 1) xs i

-- sector k once values are written from a sector on
abbrev written : ℕ → List Sector → ℕ → Sector → Sector
written sector xs k old = cond (is_within sector (length xs) k) (slice_index_or xs (k - sector) old) old

unchanged_by : (t : Bool) (old : Sector) → cond t old old ≡ old
unchanged_by true old = refl
unchanged_by false old = refl

pub Edits-nothing : (p : PlainPool) (id sector : ℕ) (fua : Bool) (v : Volume) → get p.volumes id ≡ Some v → Edits p (Write id sector [] fua) id p
Edits-nothing p id sector fua v is = record {
  rest = refl;
  others = λ i apart. refl;
  volume =
      let as_found : Some v ≡ Some (record { sectors = volume_sectors p id; slots = volume_slots p id })
      = ap (λ (o : Option Volume). Some (record { sectors = option_map_or (λ v. v.sectors) o []; slots = option_map_or (λ v. v.slots) o empty })) (sym is) in
      is ∙ as_found
      ∙ ap (λ (l : List Sector). Some (record { sectors = l; slots = volume_slots p id })) (sym (no_pass (λ e. written sector [] e.0 e.1) (λ k s. unchanged_by (is_within sector 0 k) s) 0 (volume_sectors p id)));
  slots = λ block. refl;
  untouched = λ keeps. refl;
}
