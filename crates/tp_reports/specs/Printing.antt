-- Trusted reading: what it is to print a text (own).
use Rattle.std.specs.Prelude.{◌≡◌, List, ℕ, Result, MatchResult, false, true}
use Rattle.tp_model.specs.declared.refusal.Refusal.{Refusal}
use Rattle.tp_model.specs.declared.refusal.Refusal.TheVariants.{Fault}
use Rattle.tp_hub.specs.Streams.{IsSent, Makes, StreamCall}

-- A text is written to the stream and flushed; or the stream failed, which is a fault.
abbrev pub Prints : List StreamCall → List StreamCall → List ℕ → Result (Unit {0}) Refusal → Type 0
Prints calls calls' text result = Makes calls calls' (λ did. MatchResult result (λ _. IsSent text did true) (λ reason. (reason ≡ Fault) × IsSent text did false))
