-- Following the picks of a stop over a log.
use Rattle.std.proofs.Common.{◌≡◌, ℕ, ◌+◌, ◌*◌, ◌<◌, ◌≤◌, Option, None, List, [], length, take, sym, ap, ◌∙◌, subst}
use Rattle.std.specs.Prelude.{slice_index_or, slice_get}
use Rattle.std.proofs.lemmas.List.{length-map, take_all}
use Rattle.tp_model.specs.Sectors.{chopped, sectors_of}
use Rattle.tp_model.specs.Disk.{Cell, settled_cell, settled, written}
use Rattle.tp_model.proofs.DiskLaws.{length-chopped}
use Rattle.tp_disk.specs.Log.{replayed}
use Rattle.tp_disk.specs.Picks.{picked}
use Rattle.tp_disk.specs.Picking.{Picking}
use Rattle.tp_disk.specs.declared.memory.Logged.{Logged}
use Rattle.tp_disk.proofs.Picking.{picking_first, picking_all}
use Rattle.tp_disk.proofs.Replays.{replayed-more, length-replayed}

module _ (size : ℕ) (kept : List ℕ) (writes : List Logged) (picks : List ℕ) where
  abbrev cells_at : ℕ → List Cell
  cells_at k = replayed (take k writes) (settled (chopped size kept))

  pub stop_long : (k : ℕ) → length (cells_at k) ≡ size
  stop_long k = length-replayed (take k writes) (settled (chopped size kept)) ∙ length-map (chopped size kept) settled_cell ∙ length-chopped size kept

  pub stop_first : (image : List ℕ) (left : List (Option ℕ)) → image ≡ kept → length kept ≡ 512 * size → length left ≡ size → ((i : ℕ) → i < size → slice_index_or left i None ≡ slice_get picks i)
      → Picking picks (replayed [] (settled (chopped size kept))) image left
  unfolding replayed
  stop_first image left same long many are = subst (λ l. Picking picks (settled (chopped size kept)) l left) (sym same) (picking_first size picks kept left long many are)

  -- one write more
  pub stop_more : (k : ℕ) (write : Logged) (bytes image image' : List ℕ) (left left' : List (Option ℕ)) → k < length writes → write ≡ slice_index_or writes k write → bytes ≡ write.bytes.items
      → image' ≡ image → left' ≡ left → Picking picks (written write.at (sectors_of bytes) (cells_at k)) image left → Picking picks (cells_at (k + 1)) image' left'
  stop_more k write bytes image image' left left' lt is same sameᵢ sameₗ h =
      let more = replayed-more writes k write (settled (chopped size kept)) lt is in
      let h₁ = subst (λ (l : List Cell). Picking picks l image left) (ap (λ b. written write.at (sectors_of b) (cells_at k)) same ∙ sym more) h in
      subst (λ (l : List (Option ℕ)). Picking picks (cells_at (k + 1)) image' l) (sym sameₗ) (subst (λ l. Picking picks (cells_at (k + 1)) l left) (sym sameᵢ) h₁)

  -- after the last
  pub stop_all : (k : ℕ) (cells : List Cell) (image : List ℕ) (left : List (Option ℕ)) → length writes ≤ k → cells ≡ replayed writes (settled (chopped size kept)) → Picking picks (cells_at k) image left
      → chopped size image ≡ picked cells picks
  stop_all k cells image left end are h =
      let all : cells_at k ≡ cells = ap (λ (l : List Logged). replayed l (settled (chopped size kept))) (take_all k writes end) ∙ sym are in
      picking_all (ap length (sym all) ∙ stop_long k) (subst (λ (l : List Cell). Picking picks l image left) all h)
