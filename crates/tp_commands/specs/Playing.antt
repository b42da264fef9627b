-- Internal: a script over an open pool, before it is known of which plain pools its life is one (own).
use Rattle.std.specs.Prelude.{◌≡◌, ℕ, List, MatchBool, None, Some, Result, Err}
use Rattle.tp_model.specs.declared.refusal.Refusal.{Refusal}
use Rattle.tp_model.specs.Disk.{DiskState}
use Rattle.nbd_session.specs.declared.phase.Profile.{Profile}
use Rattle.tp_hub.specs.Desks.{Exchange}
use Rattle.tp_hub.specs.Serving.{HubState}
use Rattle.tp_hub.specs.Streams.{Makes, StreamCall}
use Rattle.tp_lines.specs.declared.play.Stopped.{Stopped}
use Rattle.tp_lines.specs.Plays.{PlaysScript}
use Rattle.tp_lines.specs.ReadLines.{one_more}
use Rattle.tp_meta.specs.declared.whole.Meta.{Meta}
use Rattle.tp_served.specs.Served.{Cached}
use Rattle.tp_commands.specs.declared.scripts.Unplayed.{Unplayed}
use Rattle.tp_commands.specs.declared.scripts.Unplayed.TheVariants.{BadLine}
use Rattle.tp_commands.specs.Lives.{closing_of}
use Rattle.tp_commands.specs.Living.{IsLived, IsOver}
use Rattle.tp_commands.specs.Scripts.{IsTold, is_bad}

-- A hub was ended behind a script.
abbrev pub EndsScript : HubState (Cached Meta) → Result (Unit {0}) Stopped → ℕ → Result (Unit {0}) Unplayed → DiskState → Type 0
EndsScript hub ended played result after = MatchBool (is_bad ended)
    ((result ≡ Err (BadLine (one_more played))) × IsOver hub None after)
    ((closing : Result (Unit {0}) Refusal) × IsTold ended closing result × IsOver hub (Some (closing_of closing)) after)

-- A script was played over an open pool.
abbrev pub PlaysPool : Profile → Cached Meta → List StreamCall → List StreamCall → Result (Unit {0}) Unplayed → DiskState → Type 0
PlaysPool profile opened calls calls' result after =
    (asks : List Exchange) × (played : ℕ) × (ended : Result (Unit {0}) Stopped) × Makes calls calls' (λ did. PlaysScript profile asks did played ended)
    × MatchBool (is_bad ended)
    ((result ≡ Err (BadLine (one_more played))) × IsLived opened asks None after)
    ((closing : Result (Unit {0}) Refusal) × IsTold ended closing result × IsLived opened asks (Some (closing_of closing)) after)
