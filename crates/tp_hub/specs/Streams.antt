-- Trusted reading: the calls of a client's stream with what they answered, and what it is to write a text to it (own).
use Rattle.std.specs.Prelude.{◌≡◌, ℕ, ◌-◌, ◌^◌, ◌<◌, ◌≤◌, Bool, true, false, List, [], ◌∷◌, ◌++◌, length, take, ◌⊎◌, zero, suc, Option, None, Some}
use Rattle.tp_hub.specs.declared.stream.Received.{Received}
use Rattle.tp_hub.specs.declared.stream.Received.TheVariants.{Got, NotNow, End, Broken}
use Rattle.tp_hub.specs.declared.stream.Put.{Put}
use Rattle.tp_hub.specs.declared.stream.Put.TheVariants.{Wrote, Interrupted, Failed}

-- one call of a stream, and its answer
pub data StreamCall : Type 0 where
  -- a read gave these bytes
  Gave : (bytes : List ℕ) → StreamCall
  -- a read was interrupted
  GaveAgain : StreamCall
  -- a read came to the end
  GaveEnd : StreamCall
  -- a read failed
  GaveNone : StreamCall
  -- a write took these bytes
  Took : (bytes : List ℕ) → StreamCall
  -- a write was interrupted
  TookAgain : StreamCall
  -- a write failed, or took nothing
  TookNone : StreamCall
  -- a flush succeeded, or it failed
  Flushes : (done : Bool) → StreamCall

abbrev pub read_call : Received → List ℕ → StreamCall
read_call (Got count) buffer = Gave (take count buffer)
read_call NotNow buffer = GaveAgain
read_call End buffer = GaveEnd
read_call Broken buffer = GaveNone

abbrev pub write_call : Put → List ℕ → StreamCall
write_call (Wrote count) bytes = Took (take count bytes)
write_call Interrupted bytes = TookAgain
write_call Failed bytes = TookNone

-- the same, where none of the bytes were taken for an interruption
abbrev pub some_call : Option ℕ → List ℕ → StreamCall
some_call None bytes = TookNone
some_call (Some zero) bytes = TookAgain
some_call (Some (suc n)) bytes = Took (take (suc n) bytes)

-- one byte at least, and no more than there is room for
abbrev pub GivesSome : Received → ℕ → Type 0
GivesSome (Got count) room = (0 < count) × (count ≤ room)
GivesSome NotNow room = Unit {0}
GivesSome End room = Unit {0}
GivesSome Broken room = Unit {0}

abbrev pub TakesSome : Put → ℕ → Type 0
TakesSome (Wrote count) offered = (0 < count) × (count ≤ offered)
TakesSome Interrupted offered = Unit {0}
TakesSome Failed offered = Unit {0}

-- The calls are writes, which take this text in order and once, up to the rest of it.
abbrev pub WritesTo : List ℕ → List StreamCall → List ℕ → Type 0
WritesTo text [] rest = text ≡ rest
WritesTo text (Took bytes ∷ calls) rest = (behind : List ℕ) × (text ≡ bytes ++ behind) × WritesTo behind calls rest
WritesTo text (TookAgain ∷ calls) rest = WritesTo text calls rest
WritesTo text (TookNone ∷ calls) rest = ⊥
WritesTo text (Gave bytes ∷ calls) rest = ⊥
WritesTo text (GaveAgain ∷ calls) rest = ⊥
WritesTo text (GaveEnd ∷ calls) rest = ⊥
WritesTo text (GaveNone ∷ calls) rest = ⊥
WritesTo text (Flushes done ∷ calls) rest = ⊥

-- A text is written: all of it; or up to some place, where a write failed or took nothing, or 2^64 - 1 writes were made at least.
abbrev pub IsPut : List ℕ → List StreamCall → Bool → Type 0
IsPut text did true = WritesTo text did []
IsPut text did false =
    (writes : List StreamCall) × (rest : List ℕ) × WritesTo text writes rest × ((did ≡ writes ++ TookNone ∷ []) ⊎ ((did ≡ writes) × (2 ^ 64 - 1 ≤ length did)))

-- A text is written, and then flushed.
abbrev pub IsSent : List ℕ → List StreamCall → Bool → Type 0
IsSent text did true = (writes : List StreamCall) × WritesTo text writes [] × (did ≡ writes ++ Flushes true ∷ [])
IsSent text did false = IsPut text did false ⊎ ((writes : List StreamCall) × WritesTo text writes [] × (did ≡ writes ++ Flushes false ∷ []))

-- calls were made, and they are such
abbrev pub Makes : List StreamCall → List StreamCall → (List StreamCall → Type 0) → Type 0
Makes old new Are = (did : List StreamCall) × (new ≡ old ++ did) × Are did

-- all of a text was written, or a beginning of it, up to a write that failed
abbrev pub Writes : List StreamCall → List StreamCall → List ℕ → Bool → Type 0
Writes old new text all = Makes old new (λ did. IsPut text did all)
