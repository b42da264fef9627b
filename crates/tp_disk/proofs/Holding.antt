-- What a `MemDisk` holds is what its state says, after each call.
use Rattle.std.proofs.Common.{◌≡◌, ℕ, ◌+◌, ◌*◌, ◌/◌, ◌≤◌, Bool, true, List, [], ◌++◌, length, take, drop, refl, sym, ap, ◌∙◌, subst, arith}
use Rattle.std.specs.Prelude.{◌%◌, ◌^◌}
use Rattle.std.specs.List.{All, concat}
use Rattle.std.proofs.lemmas.List.Elements.{All-nil}
use Rattle.tp_model.specs.Sectors.{chopped, sectors_of}
use Rattle.tp_model.specs.Disk.{Cell, DiskState, IsWellFormed, fresh, settled, seen, written, after_flush}
use Rattle.tp_model.proofs.DiskLaws.{IsWellFormed-settled, IsWellFormed-flushed, length-chopped, whole-chopped, concat-chopped, chopped-concat, seen-settled, whole-seen, length-seen}
use Rattle.tp_disk.specs.Log.{IsWithin, replayed}
use Rattle.tp_disk.specs.Shadow.{after_newest}
use Rattle.tp_disk.specs.declared.memory.Logged.{Logged}
use Rattle.tp_disk.specs.declared.memory.MemDisk.{MemDisk}
use Rattle.tp_disk.proofs.Currents.{current_after_write, long_if_current}

pub record Holds (size : ℕ) (kept newest : List ℕ) (writes : List Logged) (state : DiskState) : Type 0 where
  pub size_is : state.size ≡ size
  pub honest : state.is_honest ≡ true
  pub well_formed : IsWellFormed state.size state.cells
  pub cells_are : state.cells ≡ replayed writes (settled (chopped size kept))
  pub within : All (IsWithin size) writes
  pub kept_long : length kept ≡ 512 * size
  pub newest_is : newest ≡ concat (seen state.cells)
  pub newest_long : length newest ≡ 512 * size

pub holds_now : (disk : MemDisk) → Holds disk.size disk.kept.items disk.newest.items disk.writes.items disk.shadow.state
holds_now disk = record {
  size_is = disk.size_is;
  honest = disk.honest;
  well_formed = disk.well_formed;
  cells_are = disk.cells_are;
  within = disk.within;
  kept_long = disk.kept_long;
  newest_is = disk.newest_is;
  newest_long = disk.newest_long;
}

pub holds_first : (size : ℕ) (kept newest : List ℕ) (writes : List Logged) (state : DiskState) → size ≤ 2 ^ 54 → length kept ≡ 512 * size → writes ≡ [] → newest ≡ kept → state ≡ fresh (chopped size kept)
    → Holds size kept newest writes state
unfolding replayed
holds_first size kept newest writes state fits long none same e =
    let image = chopped size kept in
    let count : length image ≡ size = length-chopped size kept in
    let well : IsWellFormed (length image) (settled image) = IsWellFormed-settled (length image) image (omega (arith, count, fits)) refl (whole-chopped size kept long) in record {
      size_is = ap (λ (s : DiskState). s.size) e ∙ count;
      honest = ap (λ (s : DiskState). s.is_honest) e;
      well_formed = subst (λ (s : DiskState). IsWellFormed s.size s.cells) (sym e) well;
      cells_are = ap (λ (s : DiskState). s.cells) e ∙ sym (ap (λ (l : List Logged). replayed l (settled image)) none);
      within = subst (λ (l : List Logged). All (IsWithin size) l) (sym none) (All-nil (IsWithin size));
      kept_long = long;
      newest_is = same ∙ sym (concat-chopped size kept long) ∙ sym (ap concat (seen-settled image)) ∙ sym (ap (λ (s : DiskState). concat (seen s.cells)) e);
      newest_long = ap length same ∙ long;
    }

pub holds_write : {size : ℕ} {kept newest newest' : List ℕ} {writes writes' : List Logged} {state state' : DiskState} (at : ℕ) (bytes : List ℕ) (ok : Bool) → Holds size kept newest writes state
    → length bytes % 512 ≡ 0 → at + length bytes / 512 ≤ size → replayed writes' (settled (chopped size kept)) ≡ written at (sectors_of bytes) (replayed writes (settled (chopped size kept)))
    → All (IsWithin size) writes' → newest' ≡ take (512 * at) newest ++ bytes ++ drop (512 * at + length bytes) newest → state' ≡ after_newest at (sectors_of bytes) ok state
    → Holds size kept newest' writes' state'
holds_write {size} {kept} {newest} {newest'} {writes} {writes'} {state} {state'} at bytes ok h whole fits more within put e =
    let cells' : state'.cells ≡ written at (sectors_of bytes) state.cells = ap (λ (s : DiskState). s.cells) e in
    let size' : state'.size ≡ state.size = ap (λ (s : DiskState). s.size) e in
    let now = current_after_write state.size at bytes newest newest' state.cells state'.cells h.well_formed h.newest_is whole (omega (arith, fits, h.size_is)) cells' put in record {
      size_is = size' ∙ h.size_is;
      honest = ap (λ (s : DiskState). s.is_honest) e ∙ h.honest;
      well_formed = subst (λ n. IsWellFormed n state'.cells) (sym size') now.well;
      cells_are = cells' ∙ ap (λ (l : List Cell). written at (sectors_of bytes) l) h.cells_are ∙ sym more;
      within = within;
      kept_long = h.kept_long;
      newest_is = now.current;
      newest_long = now.long ∙ ap (λ n. 512 * n) h.size_is;
    }

pub holds_flush : {size : ℕ} {kept kept' newest : List ℕ} {writes writes' : List Logged} {state state' : DiskState} → Holds size kept newest writes state → writes' ≡ []
    → kept' ≡ concat (seen (replayed writes (settled (sectors_of kept)))) → state' ≡ after_flush true state → Holds size kept' newest writes' state'
unfolding replayed
holds_flush {size} {kept} {kept'} {newest} {writes} {writes'} {state} {state'} h none put e =
    let count : length kept / 512 ≡ size = omega (arith, h.kept_long) in
    let kept_is : kept' ≡ concat (seen state.cells) = put ∙ ap (λ n. concat (seen (replayed writes (settled (chopped n kept))))) count ∙ sym (ap (λ (l : List Cell). concat (seen l)) h.cells_are) in
    let whole = whole-seen h.well_formed in
    let image : chopped size kept' ≡ seen state.cells = ap (chopped size) kept_is ∙ chopped-concat (seen state.cells) size (length-seen h.well_formed ∙ h.size_is) whole in
    let cells' : state'.cells ≡ settled (seen state.cells) = ap (λ (s : DiskState). s.cells) e in
    record {
      size_is = ap (λ (s : DiskState). s.size) e ∙ h.size_is;
      honest = ap (λ (s : DiskState). s.is_honest) e ∙ h.honest;
      well_formed = subst (λ (s : DiskState). IsWellFormed s.size s.cells) (sym e) (IsWellFormed-flushed h.well_formed);
      cells_are = cells' ∙ sym (ap settled image) ∙ sym (ap (λ (l : List Logged). replayed l (settled (chopped size kept'))) none);
      within = subst (λ (l : List Logged). All (IsWithin size) l) (sym none) (All-nil (IsWithin size));
      kept_long = long_if_current state.size state.cells kept' h.well_formed kept_is ∙ ap (λ n. 512 * n) h.size_is;
      newest_is = h.newest_is ∙ sym (ap concat (seen-settled (seen state.cells))) ∙ sym (ap (λ (l : List Cell). concat (seen l)) cells');
      newest_long = h.newest_long;
    }

-- what reads give, as the image of a disk that is handed out anew
pub renewed_image : {size : ℕ} {kept newest : List ℕ} {writes : List Logged} {state : DiskState} → Holds size kept newest writes state → chopped size newest ≡ seen state.cells
renewed_image {size} {kept} {newest} {writes} {state} h =
    ap (chopped size) h.newest_is ∙ chopped-concat (seen state.cells) size (length-seen h.well_formed ∙ h.size_is) (whole-seen h.well_formed)

pub holds_renewed : {size : ℕ} {kept kept' newest : List ℕ} {writes writes' : List Logged} {state state' : DiskState} → Holds size kept newest writes state → kept' ≡ newest → writes' ≡ []
    → state' ≡ fresh (chopped size newest) → Holds size kept' newest writes' state'
holds_renewed {size} {kept} {kept'} {newest} {writes} {writes'} {state} {state'} h same none e =
    let fits : size ≤ 2 ^ 54 = omega (arith, h.size_is, h.well_formed.fits) in
    holds_first size kept' newest writes' state' fits (ap length same ∙ h.newest_long) none (sym same) (e ∙ sym (ap (λ l. fresh (chopped size l)) same))
