-- Writes of a log, one after another.
use Rattle.std.proofs.Common.{◌≡◌, ℕ, zero, suc, ◌+◌, ◌<◌, Bool, true, false, List, [], ◌∷◌, ◌++◌, length, take, refl, sym, ap, ◌∙◌, arith}
use Rattle.std.specs.Prelude.{if◌then◌else◌, slice_index_or}
use Rattle.std.specs.Bool.{OnTrue}
use Rattle.std.specs.List.{All}
use Rattle.std.proofs.lemmas.List.{take_more}
use Rattle.std.proofs.lemmas.List.Elements.{All-head, All-tail}
use Rattle.tp_model.specs.Sectors.{sector_at, sectors_of}
use Rattle.tp_model.specs.Disk.{Cell, IsWellFormed, written, appended}
use Rattle.tp_model.proofs.DiskLaws.{length-written, IsWellFormed-written, whole-sectors_of}
use Rattle.tp_disk.specs.Log.{IsWithin, replayed}
use Rattle.tp_disk.specs.declared.memory.Logged.{Logged}

pub replayed-push : (writes : List Logged) (write : Logged) (cells : List Cell) → replayed (writes ++ write ∷ []) cells ≡ written write.at (sectors_of write.bytes.items) (replayed writes cells)
unfolding replayed
replayed-push [] write cells = refl
replayed-push (w ∷ writes) write cells = replayed-push writes write (written w.at (sectors_of w.bytes.items) cells)

pub held_push : (ok : Bool) (write : Logged) (old new : List Logged) → new ≡ (if ok then old ++ write ∷ [] else old)
    → OnTrue ok ((cells : List Cell) → replayed new cells ≡ written write.at (sectors_of write.bytes.items) (replayed old cells))
held_push true write old new e = λ cells. ap (λ (l : List Logged). replayed l cells) e ∙ replayed-push old write cells
held_push false write old new e = tt

-- one write more
pub replayed-more : (writes : List Logged) (k : ℕ) (write : Logged) (cells : List Cell) → k < length writes → write ≡ slice_index_or writes k write
    → replayed (take (k + 1) writes) cells ≡ written write.at (sectors_of write.bytes.items) (replayed (take k writes) cells)
replayed-more writes k write cells h is =
    ap (λ (l : List Logged). replayed l cells) (take_more writes k write h ∙ ap (λ (w : Logged). take k writes ++ w ∷ []) (sym is)) ∙ replayed-push (take k writes) write cells

pub length-replayed : (writes : List Logged) (cells : List Cell) → length (replayed writes cells) ≡ length cells
unfolding replayed
length-replayed [] cells = refl
length-replayed (w ∷ writes) cells = length-replayed writes (written w.at (sectors_of w.bytes.items) cells) ∙ length-written w.at (sectors_of w.bytes.items) cells

pub IsWellFormed-replayed : (size : ℕ) (writes : List Logged) (cells : List Cell) → All (IsWithin size) writes → IsWellFormed size cells → IsWellFormed size (replayed writes cells)
unfolding replayed
IsWellFormed-replayed size [] cells within well = well
IsWellFormed-replayed size (w ∷ writes) cells within well =
    IsWellFormed-replayed size writes (written w.at (sectors_of w.bytes.items) cells) (All-tail (IsWithin size) w writes within)
    (IsWellFormed-written w.at (sectors_of w.bytes.items) (whole-sectors_of w.bytes.items (All-head (IsWithin size) w writes within).whole) well)

-- one sector more of a write
pub written-more : (at : ℕ) (values : List (List ℕ)) (cells : List Cell) (k n : ℕ) → n ≡ at + k → k < length values
    → written at (take (suc k) values) cells ≡ written n (sector_at values k ∷ []) (written at (take k values) cells)
unfolding written
written-more at [] cells k n e h = absurd (omega arith)
written-more zero (v ∷ vs) [] zero zero e h = refl
written-more zero (v ∷ vs) [] zero (suc n) e h = absurd (omega arith)
written-more zero (v ∷ vs) [] (suc k) zero e h = refl
written-more zero (v ∷ vs) [] (suc k) (suc n) e h = refl
written-more zero (v ∷ vs) (c ∷ cells) zero zero e h = refl
written-more zero (v ∷ vs) (c ∷ cells) zero (suc n) e h = absurd (omega arith)
written-more zero (v ∷ vs) (c ∷ cells) (suc k) zero e h = absurd (omega arith)
written-more zero (v ∷ vs) (c ∷ cells) (suc k) (suc n) e h = ap (λ (l : List Cell). appended c v ∷ l) (written-more zero vs cells k n (omega arith) (omega arith))
written-more (suc at) vs [] k zero e h = refl
written-more (suc at) vs [] k (suc n) e h = refl
written-more (suc at) vs (c ∷ cells) k zero e h = absurd (omega arith)
written-more (suc at) vs (c ∷ cells) k (suc n) e h = ap (λ (l : List Cell). c ∷ l) (written-more at vs cells k n (omega arith) (omega arith))
