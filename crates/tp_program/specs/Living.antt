-- Internal: a hub over an open pool, asked by many, before it is known of which plain pools its life is one (own).
use Rattle.std.specs.Prelude.{◌≡◌, ℕ, ◌≤◌, Bool, List, Some, Result}
use Rattle.tp_model.specs.declared.refusal.Refusal.{Refusal}
use Rattle.tp_model.specs.Disk.{DiskState}
use Rattle.tp_hub.specs.Desks.{Exchange}
use Rattle.tp_meta.specs.declared.whole.Meta.{Meta}
use Rattle.tp_served.specs.Served.{Cached}
use Rattle.tp_commands.specs.Lives.{closing_of}
use Rattle.tp_commands.specs.Living.{IsLived}
use Rattle.tp_commands.specs.Serving.{told_behind, told_of_clients}
use Rattle.tp_program.specs.Staying.{told_of_threads}

-- Clients and control lines asked a hub over an open pool, which was then closed.
abbrev pub ServesPool : Cached Meta → ℕ → Result (Unit {0}) Refusal → DiskState → Type 0
ServesPool opened wanted result after =
    (asks : List Exchange) × (came : ℕ) × (refused : ℕ) × (closing : Result (Unit {0}) Refusal) × (came ≤ wanted) × (refused ≤ came)
    × (result ≡ told_behind closing (told_of_clients wanted came refused)) × IsLived opened asks (Some (closing_of closing)) after

-- The same of clients without end.
abbrev pub StaysPool : Cached Meta → Result (Unit {0}) Refusal → DiskState → Type 0
StaysPool opened result after =
    (asks : List Exchange) × (manned : Bool) × (closing : Result (Unit {0}) Refusal)
    × (result ≡ told_behind closing (told_of_threads manned)) × IsLived opened asks (Some (closing_of closing)) after
