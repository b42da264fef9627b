-- A shared read of a pool.
use Rattle.std.proofs.Common.{◌≡◌, ℕ, ◌+◌, ◌≤◌, Bool, true, false, List, Result, Ok, Err, ap, refl}
use Rattle.std.specs.Prelude.{IsSome, is_ok}
use Rattle.std.specs.List.{concat}
use Rattle.std.specs.Result.{result_unwrap_or}
use Rattle.std.proofs.lemmas.Bool.{false≢true, true≢false}
use Rattle.tp_model.specs.declared.refusal.Refusal.{Refusal}
use Rattle.tp_model.specs.Geometry.{Geometry, sectors_of_image}
use Rattle.tp_model.specs.Sectors.{Sector, sectors_of}
use Rattle.tp_model.specs.Calls.{Gave, Read, is_failed}
use Rattle.tp_model.specs.Clauses.{Meets}
use Rattle.tp_model.specs.Disk.{DiskState, IsWellFormed, seen}
use Rattle.tp_sharing.specs.Volumes.{device_of}
use Rattle.tp_stored.specs.Contents.{Contents}
use Rattle.tp_shown.specs.Shown.{values_at}
use Rattle.tp_pool.specs.Flushes.{served}
use Rattle.tp_pool.specs.Held.{Held, LiesIn}
use Rattle.tp_pool.specs.Shared.{IsSharedRead}
use Rattle.tp_pool.proofs.Answering.{read_answers}
use Rattle.tp_pool.proofs.Calling.{Laws}
use Rattle.tp_pool.proofs.Flushing.{read_flushes}
use Rattle.tp_pool.proofs.Meeting.{meeting}
use Rattle.tp_pool.proofs.Serving.{read_by}

-- an answer that was yes
pub was_yes : {E : Type 0} (r : Result Bool E) → result_unwrap_or r false ≡ true → r ≡ Ok true
was_yes (Ok answer) e = ap Ok e
was_yes (Err error) e = absurd (false≢true e)

module _ {M : Type 0} {geometry : M → Geometry} {stands : M → DiskState → Contents → Contents → Type 0} {marks : M → List Bool} {room : M → ℕ} (laws : Laws geometry stands marks room) (changed : M → Bool) where
  pub shared_read : (h : Held M) (id sector n : ℕ) (out : List ℕ) → is_failed h.mode ≡ false
      → ((now kept : Contents) → stands h.metadata h.disk now kept → IsSome (device_of id now.volumes)) → LiesIn geometry stands h id (sector + n)
      → IsWellFormed h.disk.size h.disk.cells → sectors_of_image (geometry h.metadata) ≤ h.disk.size
      → ((now kept : Contents) → stands h.metadata h.disk now kept → out ≡ concat (values_at (geometry h.metadata) now.volumes (seen h.disk.cells) id sector n))
      → IsSharedRead geometry stands marks room changed h id sector n (sectors_of out)
  shared_read h id sector n out works there lies formed fits bytes =
      let accepted : Result (Unit {0}) Refusal = Ok tt in
      record {
        called = read_by laws h h.disk h.disk id sector n out accepted works refl there lies formed fits refl bytes (λ e. absurd (true≢false (ap is_ok e))) tt;
        answered = read_answers geometry stands id sector n (sectors_of out) h h works refl refl accepted tt;
        flushes = read_flushes geometry stands marks room changed id sector n (sectors_of out) h h refl refl accepted tt;
      }

-- what it is to those who are served
module _ {M : Type 0} (geometry : M → Geometry) (stands : M → DiskState → Contents → Contents → Type 0) (marks : M → List Bool) (room : M → ℕ) (changed : M → Bool) where
  pub met_shared : (h : Held M) (id sector n : ℕ) (sectors : List Sector) → IsSharedRead geometry stands marks room changed h id sector n sectors
      → Meets (served geometry stands marks room changed) h h (Read id sector n) (Gave sectors)
  met_shared h id sector n sectors r = meeting geometry stands marks room changed h h (Read id sector n) refl (Gave sectors) refl refl (λ i a b. refl) r.called r.answered r.flushes
