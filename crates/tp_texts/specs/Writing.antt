-- Internal: lines that wait in a buffer, and what was written of them.
use Rattle.std.specs.Prelude.{◌≡◌, ℕ, Bool, true, false, List, ◌++◌}
use Rattle.tp_hub.specs.Streams.{StreamCall, Writes}

-- A front of what waited was written, and the rest waits still; or the stream failed.
abbrev pub MovesOn : List StreamCall → List StreamCall → List ℕ → List ℕ → Bool → Type 0
MovesOn old new before after true = (text : List ℕ) × Writes old new text true × (text ++ after ≡ before)
MovesOn old new before after false = Writes old new before false
