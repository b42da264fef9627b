-- Trusted reading: a reader and a writer as one stream: what its calls are of both (own).
use Rattle.std.specs.Prelude.{◌≡◌, ℕ, Bool, true, false, List, [], ◌∷◌, ◌++◌, take, Option, None, Some}
use Rattle.std.specs.Coded.{Coded-set, Unit-prop, coded_list, coded_ℕ}
use Rattle.std.specs.Io.KnownBytes.{Appends, Consumes, IsAtEnd}
use mathlib.Core.Path.{refl}
use Rattle.tp_hub.specs.declared.stream.Received.{Received}
use Rattle.tp_hub.specs.declared.stream.Received.TheVariants.{Got, NotNow, End, Broken}
use Rattle.tp_hub.specs.declared.stream.Put.{Put}
use Rattle.tp_hub.specs.declared.stream.Put.TheVariants.{Wrote, Interrupted, Failed}
use Rattle.tp_hub.specs.Streams.{Flushes, Gave, GaveAgain, GaveEnd, GaveNone, StreamCall, Took, TookAgain, TookNone}

-- the bytes that reads gave, one after another
abbrev pub given : List StreamCall → List ℕ
given [] = []
given (Gave bytes ∷ calls) = bytes ++ given calls
given (GaveAgain ∷ calls) = given calls
given (GaveEnd ∷ calls) = given calls
given (GaveNone ∷ calls) = given calls
given (Took bytes ∷ calls) = given calls
given (TookAgain ∷ calls) = given calls
given (TookNone ∷ calls) = given calls
given (Flushes done ∷ calls) = given calls

-- the bytes that writes took, one after another
abbrev pub taken : List StreamCall → List ℕ
taken [] = []
taken (Gave bytes ∷ calls) = taken calls
taken (GaveAgain ∷ calls) = taken calls
taken (GaveEnd ∷ calls) = taken calls
taken (GaveNone ∷ calls) = taken calls
taken (Took bytes ∷ calls) = bytes ++ taken calls
taken (TookAgain ∷ calls) = taken calls
taken (TookNone ∷ calls) = taken calls
taken (Flushes done ∷ calls) = taken calls

-- whether the newest read came to the end, where the one before these calls did so or not
abbrev pub is_over : Bool → List StreamCall → Bool
is_over was [] = was
is_over was (Gave bytes ∷ calls) = is_over false calls
is_over was (GaveAgain ∷ calls) = is_over false calls
is_over was (GaveEnd ∷ calls) = is_over true calls
is_over was (GaveNone ∷ calls) = is_over false calls
is_over was (Took bytes ∷ calls) = is_over was calls
is_over was (TookAgain ∷ calls) = is_over was calls
is_over was (TookNone ∷ calls) = is_over was calls
is_over was (Flushes done ∷ calls) = is_over was calls

-- Calls were made of a reader and a writer: the reader lost what reads gave, and is at its end where the newest one came to the end; the writer gained what writes took, and
-- nothing else. left: the bytes that the reader has left. told: those that the writer holds. Both where they are known.
pub record IsPiped (left left' told told' : Option (List ℕ)) (did : List StreamCall) : Type 0 where
  pub read : Consumes left left' (given did)
  pub ends : is_over false did ≡ true → IsAtEnd left'
  pub wrote : Appends told told' (taken did)

-- one read of a reader, to the front of a buffer
abbrev pub IsRead : Received → Option (List ℕ) → Option (List ℕ) → List ℕ → Type 0
IsRead (Got count) left left' buffer = Consumes left left' (take count buffer)
IsRead NotNow left left' buffer = Consumes left left' []
IsRead End left left' buffer = Consumes left left' [] × IsAtEnd left'
IsRead Broken left left' buffer = Consumes left left' []

-- one write of a writer
abbrev pub IsWritten : Put → Option (List ℕ) → Option (List ℕ) → List ℕ → Type 0
IsWritten (Wrote count) told told' bytes = Appends told told' (take count bytes)
IsWritten Interrupted told told' bytes = Appends told told' []
IsWritten Failed told told' bytes = Appends told told' []

-- where a pipe begins: the names of the references to its reader and its writer, and what these have
pub record Opening : Type 0 where
  pub reader : ℕ
  pub writer : ℕ
  pub left : Option (List ℕ)
  pub told : Option (List ℕ)

-- ---- each of these facts has one proof at most

pub Consumes-prop : (old new : Option (List ℕ)) (bytes : List ℕ) → IsProp (Consumes old new bytes)
Consumes-prop None new bytes = Unit-prop
Consumes-prop (Some xs) None bytes = λ p q. absurd p
Consumes-prop (Some xs) (Some ys) bytes = Coded-set (coded_list coded_ℕ) xs (bytes ++ ys)

pub Appends-prop : (old new : Option (List ℕ)) (bytes : List ℕ) → IsProp (Appends old new bytes)
Appends-prop None new bytes = Unit-prop
Appends-prop (Some xs) None bytes = λ p q. absurd p
Appends-prop (Some xs) (Some ys) bytes = Coded-set (coded_list coded_ℕ) ys (xs ++ bytes)

pub IsAtEnd-prop : (b : Bool) (left : Option (List ℕ)) → IsProp (b ≡ true → IsAtEnd left)
IsAtEnd-prop b None = λ p q. refl
IsAtEnd-prop b (Some xs) = λ p q. λ i is. Coded-set (coded_list coded_ℕ) xs [] (p is) (q is) i
