-- A snapshot that is made is of an id that no volume has, and what changes one volume leaves all others.
use Rattle.std.proofs.Common.{◌≡◌, ◌≢◌, ℕ, ◌<◌, Bool, true, false, cond, [], Option, Some, None, inl, inr, refl, sym, ap, ◌∙◌, arith}
use Rattle.std.specs.Prelude.{slice_get}
use Rattle.std.specs.Option.{option_map_or}
use Rattle.std.specs.Ordering.{nat_cmp}
use Rattle.std.specs.FinMap.{FinMap, get, insert, remove}
use Rattle.std.proofs.lemmas.Bool.{cases_lt, eq-eqb, ne_eqb, true≢false}
use Rattle.std.proofs.lemmas.Option.{MatchOption-at_none, MatchOption-at_some}
use Rattle.tp_model.specs.declared.refusal.Refusal.{Refusal}
use Rattle.tp_model.specs.Sectors.{Sector}
use Rattle.tp_model.specs.Pool.{FindsHeld, PlainPool, Volume, hold_count, volume_sector}
use Rattle.tp_model.specs.Calls.{Answer, Done, Gave, Line, Found, Sized, Listed, Refused, CreateSnap, Delete, Makes, Snaps, Step, Takes, refusal_of, volume_of}
use Rattle.tp_model.proofs.HeldSizes.{new_snap, not_there}
use Rattle.tp_model.proofs.Maps.{get_insert, get_remove}
use Rattle.tp_model.proofs.Steps.{other_of_insert}

abbrev is_refused : Answer → Bool
is_refused Done = false
is_refused (Gave sectors) = false
is_refused (Line bytes) = false
is_refused (Found least) = false
is_refused (Sized blocks) = false
is_refused (Listed slots) = false
is_refused (Refused reason) = true

-- no test refused it, and it is what it is to be
step_made : (p q : PlainPool) (id origin : ℕ) (o : Option Refusal) → refusal_of p (CreateSnap id origin) ≡ o → Step p (CreateSnap id origin) Done q
    → (refusal_of p (CreateSnap id origin) ≡ None) × Snaps p id origin q
step_made p q id origin None is h = (is, (MatchOption-at_none _ _ is h).1)
step_made p q id origin (Some reason) is h = absurd (true≢false (sym (ap is_refused (MatchOption-at_some _ _ reason is h).0)))

was_made : (p made q : PlainPool) (id origin : ℕ) → Takes p (CreateSnap id origin) Done made q → (refusal_of p (CreateSnap id origin) ≡ None) × Snaps p id origin q
was_made p made q id origin (inl h) = step_made p q id origin (refusal_of p (CreateSnap id origin)) refl h.0
was_made p made q id origin (inr fault) = absurd (true≢false (sym (ap is_refused fault.0)))

pub snap_unheld : (p made q : PlainPool) (id origin : ℕ) → Takes p (CreateSnap id origin) Done made q → FindsHeld p → hold_count p.holds id ≡ 0
snap_unheld p made q id origin takes found =
    let free = not_there p id found (new_snap p id origin (was_made p made q id origin takes).0) in
    elim (cases_lt 0 (hold_count p.holds id)) [
      | inl lt ↦ absurd (free id lt refl)
      | inr le ↦ omega (arith, le)
    ]

snap_volumes : (p made q : PlainPool) (id origin : ℕ) → Takes p (CreateSnap id origin) Done made q → q.volumes ≡ insert p.volumes id (volume_of p origin)
snap_volumes p made q id origin takes = let snaps = (was_made p made q id origin takes).1 in ap (λ (r : PlainPool). r.volumes) snaps.is

abbrev sector_in : ℕ → Option Volume → Option Sector
sector_in k o = slice_get (option_map_or (λ (v : Volume). v.sectors) o []) k

pub snap_same : (p made q : PlainPool) (id origin k : ℕ) → Takes p (CreateSnap id origin) Done made q → volume_sector q id k ≡ volume_sector p origin k
snap_same p made q id origin k takes =
    ap (λ (m : FinMap nat_cmp Volume). sector_in k (get m id)) (snap_volumes p made q id origin takes)
    ∙ ap (sector_in k) (get_insert p.volumes id (volume_of p origin) id ∙ ap (λ (b : Bool). cond b (Some (volume_of p origin)) (get p.volumes id)) (eq-eqb id id refl))

pub snap_others : (p made q : PlainPool) (id origin other : ℕ) → Takes p (CreateSnap id origin) Done made q → other ≢ id → get q.volumes other ≡ get p.volumes other
snap_others p made q id origin other takes apart =
    ap (λ (m : FinMap nat_cmp Volume). get m other) (snap_volumes p made q id origin takes) ∙ other_of_insert p.volumes id (volume_of p origin) other apart

pub removed_others : (p q : PlainPool) (id other : ℕ) → Makes p (Delete id) q → other ≢ id → get q.volumes other ≡ get p.volumes other
removed_others p q id other h apart =
    let volumes : q.volumes ≡ remove p.volumes id = ap (λ (r : PlainPool). r.volumes) h.is in
    ap (λ (m : FinMap nat_cmp Volume). get m other) volumes ∙ (get_remove p.volumes id other ∙ ap (λ (b : Bool). cond b None (get p.volumes other)) (ne_eqb other id apart))
