-- The least number that is not open.
use Rattle.std.proofs.Common.{◌≡◌, ℕ, ◌+◌, ◌<◌, ◌≤◌, Bool, true, false, length, Option, Some, None, get_or, inl, inr, refl, sym, ap, subst, ◌∙◌, arith}
use Rattle.std.specs.Prelude.{IfSome, IsSome, is_some}
use Rattle.std.proofs.lemmas.Bool.{cases_eq}
use Rattle.std.proofs.lemmas.List.{get_or_read}
use Rattle.nbd_session.specs.Session.{State}
use Rattle.tp_hub.specs.Serving.{HubState, Slots, slot_at}
use Rattle.tp_hub.specs.Serve.{AreAllOpen, IsLeastFree}

-- the place that was read
pub read_at : (slots : Slots) (i n : ℕ) (d : Option State) → i ≡ n → n < 64 → length slots ≡ 64 → d ≡ get_or slots i d → slot_at slots n ≡ d
read_at slots i n d is lt count read = ap (slot_at slots) (sym is) ∙ sym (get_or_read slots i d (omega (arith, is, lt, count)) read None)

none_of : (o : Option State) → is_some o ≡ false → o ≡ None
none_of None e = refl
none_of (Some s) e = absurd cc

abbrev pub AreOpenBelow : Slots → ℕ → Type 0
AreOpenBelow slots n = (k : ℕ) → k < n → IsSome (slot_at slots k)

pub open_more : (slots : Slots) (n : ℕ) (b : Bool) → AreOpenBelow slots n → b ≡ is_some (slot_at slots n) → b ≡ true → AreOpenBelow slots (n + 1)
open_more slots n b below is test k lt = elim (cases_eq k n) [
  | inl e ↦ ap (λ j. is_some (slot_at slots j)) e ∙ (sym is ∙ test)
  | inr ne ↦ below k (omega (arith, lt, ne))
]

pub least_found : (slots : Slots) (n : ℕ) (b : Bool) → n < 64 → AreOpenBelow slots n → b ≡ is_some (slot_at slots n) → b ≡ false → IsLeastFree slots n
least_found slots n b lt below is test = record { inside = lt; free = none_of (slot_at slots n) (sym is ∙ test); least = below }

pub all_open : (slots : Slots) (n : ℕ) → 64 ≤ n → AreOpenBelow slots n → AreAllOpen slots
all_open slots n le below k lt = below k (omega (arith, lt, le))

-- what is said of the places is said of what the hub shows
pub least_shown : {D : Type 0} (s t : HubState D) (r : Option ℕ) → s ≡ t → IfSome r (λ n. IsLeastFree s.slots n) → IfSome r (λ n. IsLeastFree t.slots n)
least_shown {D} s t r same h = subst (λ (x : HubState D). IfSome r (λ n. IsLeastFree x.slots n)) same h

pub open_shown : {D : Type 0} (s t : HubState D) → s ≡ t → AreAllOpen s.slots → AreAllOpen t.slots
open_shown {D} s t same h = subst (λ (x : HubState D). AreAllOpen x.slots) same h
