-- A pool that was not made.
use Rattle.std.proofs.Common.{◌≡◌, ◌≢◌, ◌⊎◌, ◌<◌, ◌≤◌, inl, inr, refl, List, Err, sym, subst, ⊎_elim, arith}
use Rattle.tp_model.specs.declared.refusal.Refusal.{Refusal}
use Rattle.tp_model.specs.declared.refusal.Refusal.TheVariants.{BadGeometry, Fault, Memory}
use Rattle.tp_model.specs.Geometry.{Geometry, sectors_of_image}
use Rattle.tp_model.specs.Disk.{DiskState, IsSameDisk}
use Rattle.tp_hub.specs.Streams.{StreamCall}
use Rattle.tp_model.specs.Refusals.{is_fault_refusal}
use Rattle.tp_commands.specs.Images.{Formats, FormatsOn}

too_small : {P : Type 0} (g : Geometry) (disk : DiskState) → sectors_of_image g ≤ disk.size → disk.size < sectors_of_image g → P
too_small g disk e lt = absurd (omega (arith, e, lt))

pub unmade : (g : Geometry) (calls : List StreamCall) (reason told : Refusal) (before after : DiskState) → told ≡ reason → sectors_of_image g ≤ before.size
    → (reason ≡ Memory) ⊎ (reason ≡ BadGeometry) ⊎ (reason ≡ Fault) → (reason ≡ BadGeometry → before.size < sectors_of_image g) → (reason ≢ Fault → after ≡ before)
    → Formats g (is_fault_refusal reason) before after → IsSameDisk before after
    → FormatsOn g calls calls (Err told) before after
unmade g calls reason told before after e size only small untouched made same =
    subst (λ (r : Refusal). FormatsOn g calls calls (Err r) before after) (sym e)
    (inl (reason, refl, ⊎_elim (λ h. inr h) (λ h. ⊎_elim (λ bad. too_small g before size (small bad)) (λ fault. inl fault) h) only, untouched, made, same, refl))
