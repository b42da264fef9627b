-- Bringing an image up to date with a log, one write after another.
use Rattle.std.proofs.Common.{◌≡◌, ℕ, ◌+◌, ◌*◌, ◌/◌, ◌<◌, ◌≤◌, List, ◌++◌, length, take, drop, sym, ◌∙◌, subst, arith}
use Rattle.std.specs.Prelude.{◌%◌, ◌^◌, slice_index_or}
use Rattle.std.specs.List.{All, concat}
use Rattle.std.proofs.lemmas.List.{take_at}
use Rattle.std.proofs.lemmas.List.Elements.{All-take, All-get_or}
use Rattle.tp_model.specs.Sectors.{sectors_of}
use Rattle.tp_model.specs.Disk.{Cell, IsWellFormed, seen, settled}
use Rattle.tp_model.proofs.DiskLaws.{IsWellFormed-settled, length-sectors_of, whole-sectors_of}
use Rattle.tp_disk.specs.Log.{IsWithin, replayed}
use Rattle.tp_disk.specs.declared.memory.Logged.{Logged}
use Rattle.tp_disk.proofs.Currents.{current_after_write}
use Rattle.tp_disk.proofs.Replays.{replayed-more, IsWellFormed-replayed}

-- the write at a place of the log
pub within_at : {size : ℕ} (writes : List Logged) (k : ℕ) (write : Logged) → All (IsWithin size) writes → k < length writes → write ≡ slice_index_or writes k write → IsWithin size write
within_at {size} writes k write within lt is = subst (IsWithin size) (sym is) (All-get_or (IsWithin size) writes k write lt within)

-- a slice of a whole vector, written back into it
pub whole_back : {X : Type 0} (new old : List X) (n : ℕ) → length new ≡ length old → n ≡ length old → take n (new ++ drop (length new) old) ≡ new
whole_back new old n e f = take_at new (drop (length new) old) n (e ∙ sym f)

module _ (first : List ℕ) (writes : List Logged) (within : All (IsWithin (length first / 512)) writes) (whole : length first % 512 ≡ 0) (fits : length first ≤ 2 ^ 63) where
  abbrev cells_at : ℕ → List Cell
  cells_at k = replayed (take k writes) (settled (sectors_of first))

  well_at : (k : ℕ) → IsWellFormed (length first / 512) (cells_at k)
  well_at k =
      IsWellFormed-replayed (length first / 512) (take k writes) (settled (sectors_of first)) (All-take (IsWithin (length first / 512)) k writes within)
      (IsWellFormed-settled (length first / 512) (sectors_of first) (omega (arith, fits)) (length-sectors_of first) (whole-sectors_of first whole))

  pub settle_more : (k : ℕ) (write : Logged) (bytes image image' : List ℕ) → k < length writes → write ≡ slice_index_or writes k write → bytes ≡ write.bytes.items → image ≡ concat (seen (cells_at k))
      → image' ≡ take (512 * write.at) image ++ bytes ++ drop (512 * write.at + length bytes) image → image' ≡ concat (seen (cells_at (k + 1)))
  settle_more k write bytes image image' lt is same now put =
      let here = within_at writes k write within lt is in
      let put' = subst (λ b. image' ≡ take (512 * write.at) image ++ b ++ drop (512 * write.at + length b) image) same put in
      (current_after_write (length first / 512) write.at write.bytes.items image image' (cells_at k) (cells_at (k + 1)) (well_at k) now here.whole here.ends
      (replayed-more writes k write (settled (sectors_of first)) lt is) put').current
