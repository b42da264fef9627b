-- Who is served, seat by seat, and as a line.
use Rattle.std.proofs.Common.{◌≡◌, ℕ, ◌+◌, ◌<◌, Bool, List, [], ◌∷◌, ◌++◌, length, drop, get_or, slice_index_or, inl, inr, ap, sym, ◌∙◌, arith, append_assoc}
use Rattle.std.specs.Prelude.{slice_set}
use Rattle.std.proofs.lemmas.Bool.{cases_eq}
use Rattle.std.proofs.lemmas.List.{at_drop_more, get_or-set_same, get_or-set_other}
use mir.Val.{bool_byte}
use Rattle.std.specs.Fmt.{decimal}
use Rattle.tp_hub.specs.declared.seat.Seat.{Seat}
use Rattle.tp_hub.specs.declared.seat.Seat.TheVariants.{Free, Waits, Holds}
use Rattle.tp_hub.specs.Seats.{seat_at}
use Rattle.tp_hub.specs.Serving.{Slots}
use Rattle.tp_lock.specs.Census.{held_in, held_of, ids_text, is_there, there_in}

pub there_next : (count : ℕ) (seat : Seat) (there : Bool) (rest : List Seat) → there ≡ is_there seat → (count + bool_byte there) + there_in rest ≡ count + there_in (seat ∷ rest)
there_next count Free there rest is = ap (λ b. (count + bool_byte b) + there_in rest) is ∙ omega arith
there_next count Waits there rest is = ap (λ b. (count + bool_byte b) + there_in rest) is ∙ omega arith
there_next count (Holds id) there rest is = ap (λ b. (count + bool_byte b) + there_in rest) is ∙ omega arith

pub held_next : (ids : List ℕ) (id : ℕ) (rest : List Seat) → (ids ++ id ∷ []) ++ held_in rest ≡ ids ++ held_in (Holds id ∷ rest)
held_next ids id rest = append_assoc ids (id ∷ []) (held_in rest)

pub ids_next : (front : List ℕ) (id : ℕ) (rest now : List ℕ) → now ≡ (front ++ 32 ∷ []) ++ decimal id → now ++ ids_text rest ≡ front ++ ids_text (id ∷ rest)
ids_next front id rest now is = ap (λ l. l ++ ids_text rest) is ∙ (append_assoc (front ++ 32 ∷ []) (decimal id) (ids_text rest) ∙ append_assoc front (32 ∷ []) (decimal id ++ ids_text rest))

-- one more of a list
pub there_more : (seats : List Seat) (i count : ℕ) (d : Seat) (there : Bool) (all : ℕ) → i < length seats → there ≡ is_there (get_or seats i d) → count + there_in (drop i seats) ≡ all
    → (count + bool_byte there) + there_in (drop (i + 1) seats) ≡ all
there_more seats i count d there all lt is so = there_next count (get_or seats i d) there (drop (i + 1) seats) is ∙ (sym (at_drop_more (λ l. count + there_in l) seats i d lt) ∙ so)

pub held_more : (seats : List Seat) (i : ℕ) (d : Seat) (ids : List ℕ) (id : ℕ) (all : List ℕ) → i < length seats → get_or seats i d ≡ Holds id → ids ++ held_in (drop i seats) ≡ all
    → (ids ++ id ∷ []) ++ held_in (drop (i + 1) seats) ≡ all
held_more seats i d ids id all lt is so =
    held_next ids id (drop (i + 1) seats)
    ∙ (sym (at_drop_more (λ l. ids ++ held_in l) seats i d lt ∙ ap (λ (s : Seat). ids ++ held_in (s ∷ drop (i + 1) seats)) is) ∙ so)

pub held_same : (seats : List Seat) (i : ℕ) (d : Seat) (ids all : List ℕ) → i < length seats → held_of (get_or seats i d) ≡ [] → ids ++ held_in (drop i seats) ≡ all → ids ++ held_in (drop (i + 1) seats) ≡ all
held_same seats i d ids all lt none so =
    sym (at_drop_more (λ l. ids ++ held_in l) seats i d lt ∙ ap (λ l. ids ++ (l ++ held_in (drop (i + 1) seats))) none) ∙ so

pub text_more : (ids : List ℕ) (i d : ℕ) (front now all : List ℕ) → i < length ids → now ≡ (front ++ 32 ∷ []) ++ decimal (get_or ids i d) → front ++ ids_text (drop i ids) ≡ all → now ++ ids_text (drop (i + 1) ids) ≡ all
text_more ids i d front now all lt is so = ids_next front (get_or ids i d) (drop (i + 1) ids) now is ∙ (sym (at_drop_more (λ l. front ++ ids_text l) ids i d lt) ∙ so)

-- the first so many were looked at
abbrev pub AreSeen : Slots → List Seat → ℕ → Type 0
AreSeen slots seats n = (k : ℕ) → k < n → slice_index_or seats k Free ≡ seat_at slots k

pub seats_next : (slots : Slots) (seats : List Seat) (n i : ℕ) (seat : Seat) → AreSeen slots seats n → i ≡ n → n < length seats → seat ≡ seat_at slots n → AreSeen slots (slice_set seats i seat) (n + 1)
seats_next slots seats n i seat seen is lt seat_is k less = elim (cases_eq k n) [
  | inl e ↦
      ap (λ j. slice_index_or (slice_set seats j seat) k Free) is
      ∙ (ap (λ j. slice_index_or (slice_set seats n seat) j Free) e ∙ (get_or-set_same seats n seat Free lt ∙ (seat_is ∙ sym (ap (seat_at slots) e))))
  | inr ne ↦ ap (λ j. slice_index_or (slice_set seats j seat) k Free) is ∙ (get_or-set_other seats n k seat Free ne ∙ seen k (omega (arith, less, ne)))
]
