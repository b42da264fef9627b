-- Trusted reading: lines that are read from a stream and done, one after another (own).
use Rattle.std.specs.Prelude.{◌≡◌, ℕ, ◌+◌, ◌-◌, ◌^◌, ◌≤◌, ◌⊎◌, min, ◌==◌, if◌then◌else◌, List, [], ◌∷◌, ◌++◌, length, nat_lt, Option, None, Some, Result, Ok, Err, MatchResult}
use Rattle.tp_hub.specs.Told.{Answer}
use Rattle.tp_hub.specs.Runs.{Incoming}
use Rattle.tp_hub.specs.Desks.{AreAsked, Exchange}
use Rattle.tp_hub.specs.Streams.{Gave, GaveAgain, GaveEnd, GaveNone, StreamCall}

-- ---- lines

-- A line with one byte more: its first 16400 bytes are kept, which no line has but a message that is too long to be one.
abbrev pub longer : List ℕ → ℕ → List ℕ
longer line byte = if nat_lt (length line) 16400 then line ++ byte ∷ [] else line

-- the lines that end in a text, where the first has begun so; and the one that it leaves
abbrev pub lines_from : List ℕ → List ℕ → List (List ℕ)
lines_from line [] = []
lines_from line (byte ∷ bytes) = if byte == 10 then line ∷ lines_from [] bytes else lines_from (longer line byte) bytes

abbrev pub left_from : List ℕ → List ℕ → List ℕ
left_from line [] = line
left_from line (byte ∷ bytes) = if byte == 10 then left_from [] bytes else left_from (longer line byte) bytes

-- how many lines were done, at most 2^64 - 1
abbrev pub one_more : ℕ → ℕ
one_more n = min (n + 1) (2 ^ 64 - 1)

-- what is answered
abbrev pub answered : List Exchange → List Answer
answered [] = []
answered (x ∷ xs) = x.answers ++ answered xs

-- ---- asks and calls

-- These asks were made of a desk, and these calls of a stream, and they are such.
pub record Leads {D : Type 0} (Did : D → List Incoming → List Answer → D → Type 0) (Are : List Exchange → List StreamCall → Type 0) (old new : D) (told told' : List StreamCall) : Type 0 where
  pub asks : List Exchange
  pub asked : AreAsked Did old asks new
  pub did : List StreamCall
  pub made : told' ≡ told ++ did
  pub are : Are asks did

-- ---- what they do. Line: the asks and calls that one line leads to, and whether it was done or why no more lines are.

module _ {E : Type 0} (Line : List ℕ → List Exchange → List StreamCall → Result (Unit {0}) E → Type 0) where
  -- Lines are done one after another, up to the first that is not. count: how many were done before; count': and since.
  abbrev pub AreDone : List (List ℕ) → ℕ → List Exchange → List StreamCall → ℕ → Result (Unit {0}) E → Type 0
  AreDone [] count asks calls count' result = (asks ≡ []) × (calls ≡ []) × (count' ≡ count) × (result ≡ Ok tt)
  AreDone (text ∷ texts) count asks calls count' result = (ys : List Exchange) × (zs : List Exchange) × (first : List StreamCall) × (later : List StreamCall) × (one : Result (Unit {0}) E)
      × (asks ≡ ys ++ zs) × (calls ≡ first ++ later) × Line text ys first one
      × MatchResult one (λ done. AreDone texts (one_more count) zs later count' result) (λ why. (zs ≡ []) × (later ≡ []) × (count' ≡ count) × (result ≡ Err why))

-- failed: why no more lines are done where a read failed. last: the lines that the end of what is read ends.
module _ {E : Type 0} (Line : List ℕ → List Exchange → List StreamCall → Result (Unit {0}) E → Type 0) (failed : E) (last : List ℕ → List (List ℕ)) where
  -- What is read behind a line that has begun so: the lines that end in what a read gave are done before more is read. reads: how many were made before.
  pub data AreRead : (reads : ℕ) (line : List ℕ) (count : ℕ) (asks : List Exchange) (calls : List StreamCall) (count' : ℕ) (result : Result (Unit {0}) E) → Type 0 where
    -- their lines were done, and more is read
    ReadOn : {reads : ℕ} {line : List ℕ} {count count' : ℕ} {result : Result (Unit {0}) E} (piece : List ℕ) (mid : ℕ) (asks more : List Exchange) (calls later : List StreamCall)
        → AreDone Line (lines_from line piece) count asks calls mid (Ok tt) → AreRead (reads + 1) (left_from line piece) mid more later count' result → AreRead reads line count (asks ++ more) (Gave piece ∷ (calls ++ later)) count' result
    -- one of them was the last
    ReadStop : {reads : ℕ} {line : List ℕ} {count count' : ℕ} {asks : List Exchange} {calls : List StreamCall} {why : E} (piece : List ℕ)
        → AreDone Line (lines_from line piece) count asks calls count' (Err why) → AreRead reads line count asks (Gave piece ∷ calls) count' (Err why)
    -- an interrupted read is made again
    ReadAgain : {reads : ℕ} {line : List ℕ} {count count' : ℕ} {asks : List Exchange} {calls : List StreamCall} {result : Result (Unit {0}) E}
        → AreRead (reads + 1) line count asks calls count' result → AreRead reads line count asks (GaveAgain ∷ calls) count' result
    -- there is no more
    ReadEnd : {reads : ℕ} {line : List ℕ} {count count' : ℕ} {asks : List Exchange} {calls : List StreamCall} {result : Result (Unit {0}) E}
        → AreDone Line (last line) count asks calls count' result → AreRead reads line count asks (GaveEnd ∷ calls) count' result
    -- the read failed
    ReadFail : {reads : ℕ} {line : List ℕ} {count : ℕ} → AreRead reads line count [] (GaveNone ∷ []) count (Err failed)
    -- 2^64 - 1 reads were made
    ReadTire : {reads : ℕ} {line : List ℕ} {count : ℕ} → 2 ^ 64 - 1 ≤ reads → AreRead reads line count [] [] count (Err failed)

  -- one read, behind which line' has begun and more is read (None), or not
  abbrev pub IsReadOnce : List ℕ → ℕ → List Exchange → List StreamCall → List ℕ → ℕ → Option (Result (Unit {0}) E) → Type 0
  IsReadOnce line count asks did line' count' None =
      ((piece : List ℕ) × (calls : List StreamCall) × (did ≡ Gave piece ∷ calls) × (line' ≡ left_from line piece) × AreDone Line (lines_from line piece) count asks calls count' (Ok tt))
      ⊎ ((did ≡ GaveAgain ∷ []) × (asks ≡ []) × (line' ≡ line) × (count' ≡ count))
  IsReadOnce line count asks did line' count' (Some result) = (reads : ℕ) → AreRead reads line count asks did count' result
