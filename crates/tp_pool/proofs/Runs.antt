-- Changes of the metadata and the disk one after another.
use Rattle.std.proofs.Common.{◌≡◌, ◌⊎◌, inl, inr, ℕ, ◌+◌, ◌≤◌, Bool, true, false, List, [], ◌∷◌, refl, ap, ◌∙◌, arith}
use Rattle.std.proofs.lemmas.Bool.{false≢true}
use Rattle.tp_model.specs.Geometry.{Geometry}
use Rattle.tp_model.specs.Sectors.{Sector}
use Rattle.tp_model.specs.Disk.{Cell, DiskState, FaultHasCause, IsSameDisk, Writes}
use Rattle.tp_meta.specs.Metadata.{IsLater, Ran}
use Rattle.tp_pool.proofs.Times.{at_once, then_later}

pub ran_joins : {n m k r s t : ℕ} {faulted : Bool} {g h i : Geometry} {a b c : DiskState} → Ran n false r s g h a b → Ran m faulted s t h i b c → k ≡ n + m → Ran k faulted r t g i a c
ran_joins x y e = record {
  geometry = y.geometry ∙ x.geometry;
  room = omega (arith, x.room, y.room, e);
  same_disk = record { size = y.same_disk.size ∙ x.same_disk.size; is_honest = y.same_disk.is_honest ∙ x.same_disk.is_honest };
  cause = record {
    no_fewer = omega (arith, x.cause.no_fewer, y.cause.no_fewer);
    more = λ f. omega (arith, x.cause.no_fewer, y.cause.more f);
    none = λ f. y.cause.none f ∙ x.cause.none refl;
  };
  flushes = y.flushes ∙ x.flushes;
  time = then_later x.time y.time;
}

-- it took no more than that
pub ran_at_most : {n m r s : ℕ} {faulted : Bool} {g h : Geometry} {a b : DiskState} → Ran n faulted r s g h a b → n ≤ m → Ran m faulted r s g h a b
ran_at_most x le = record { geometry = x.geometry; room = omega (arith, x.room, le); same_disk = x.same_disk; cause = x.cause; flushes = x.flushes; time = x.time }

-- the disk alone was changed
pub disk_ran : {r : ℕ} {faulted : Bool} {g : Geometry} {a b : DiskState} → IsSameDisk a b → FaultHasCause faulted a b → b.flushes ≡ a.flushes → IsLater a b → Ran 0 faulted r r g g a b
disk_ran same cause flushes time = record { geometry = refl; room = omega arith; same_disk = same; cause = cause; flushes = flushes; time = time }

pub no_fault : {a b : DiskState} → b.failures ≡ a.failures → FaultHasCause false a b
no_fault e = record { no_fewer = omega (arith, e); more = λ t. absurd (false≢true t); none = λ t. e }

pub one_fault : {a b : DiskState} → b.failures ≡ a.failures + 1 → FaultHasCause true a b
one_fault e = record { no_fewer = omega (arith, e); more = λ t. omega (arith, e); none = λ t. absurd (false≢true t) }

pub writes_later : {at : ℕ} {values : List Sector} {a b : DiskState} → Writes at values a b → IsLater a b
writes_later {at} {values} {a} {b} w = later w.past
  where
    later : (b.past ≡ a.cells ∷ a.past) ⊎ ((b.past ≡ a.past) × (b.cells ≡ a.cells)) → IsLater a b
    later (inl e) = record { between = b.cells ∷ []; joined = ap (λ (p : List (List Cell)). b.cells ∷ p) e }
    later (inr e) = record { between = []; joined = λ i. e.1 i ∷ e.0 i }

-- a write, whether it succeeded or not
pub write_ran : {at r : ℕ} {values : List Sector} {faulted : Bool} {g : Geometry} {a b : DiskState} → Writes at values a b → FaultHasCause faulted a b → Ran 0 faulted r r g g a b
write_ran w cause = disk_ran (record { size = w.size; is_honest = w.is_honest }) cause w.flushes (writes_later w)

-- nothing was done
pub at_rest_ran : {r : ℕ} {g : Geometry} (a : DiskState) → Ran 0 false r r g g a a
at_rest_ran a = disk_ran (record { size = refl; is_honest = refl }) (no_fault refl) refl (at_once a)
