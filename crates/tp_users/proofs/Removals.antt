-- What a removal leaves, and what it gives back.
use Rattle.std.proofs.Common.{◌≡◌, ◌⊎◌, inl, inr, ℕ, ◌+◌, ◌/◌, ◌<◌, ◌≤◌, ◌==◌, Bool, true, false, cond, Option, Some, None, Result, Ok, Err, List, [], ◌∷◌, length, refl, sym, ap, subst, ◌∙◌, arith}
use Rattle.std.specs.Prelude.{◌≢◌, MatchOption, OnOk, not, nat_lt, ◌&&◌, if◌then◌else◌}
use Rattle.std.specs.Option.{is_some, option_map_or}
use Rattle.std.specs.List.{count_by, range_with_len}
use Rattle.std.specs.FinMap.{get, remove}
use Rattle.std.proofs.lemmas.Bool.{and_parts, eq-eqb, false≢true, leb-false}
use Rattle.tp_model.specs.declared.mode.Mode.TheVariants as mode
use Rattle.tp_model.specs.declared.refusal.Refusal.{Refusal}
use Rattle.tp_model.specs.declared.refusal.Refusal.TheVariants.{Busy, Failed, NoDataSpace, NoMetadataSpace, NoSuchDevice, ReadOnly}
use Rattle.tp_model.specs.Geometry.{Geometry}
use Rattle.tp_model.specs.Refusals.{refusal_number}
use Rattle.tp_model.specs.Sectors.{Sector, sectors_of}
use Rattle.tp_model.specs.Pool.{PlainPool, Volume, hold_count, is_exclusive, is_now, used, volume_sectors}
use Rattle.tp_model.specs.Calls.{Answer, Call, Delete, Done, Keeps, Owns, Makes, Refused, Step, Takes, Write, after_refusal, effect_at, exists, first_failed, has_data_room, has_metadata_room, is_failed, is_owning, is_read_only, need, refusal_of, reply, touches}
use Rattle.tp_model.specs.Clauses.{Called, View, found_now, found_since}
use Rattle.tp_model.specs.PoolStops.{During, Event, GivenBy, MayReopen, Nothing, reopened}
use Rattle.tp_model.proofs.DiskLaws.{length-sectors_of}
use Rattle.tp_model.proofs.Found.{MayReopen-nothing}
use Rattle.tp_model.proofs.Maps.{get_remove}
use Rattle.tp_model.proofs.Removing.{count_less, used_without, without}
use Rattle.tp_stored.specs.Contents.{Contents}
use Rattle.tp_model.specs.Disk.{DiskState}
use Rattle.tp_pool.specs.Held.{Held, PoolAnswered, PoolCalled, PoolRefused, shows}
use Rattle.tp_users.specs.Users.{IsWholeOrGone, blocks_touched, own_blocks, short}
use Rattle.tp_users.proofs.Plain.{done_makes, is_refused, reason_of}

-- ---- all or nothing

abbrev IsAfter : ℕ → PlainPool → PlainPool → Type 0
IsAfter id s q = (meta_used : ℕ) × (q ≡ record s { volumes = remove s.volumes id; meta_used = meta_used })

-- refused for want of metadata room, which it is only where a root is held
abbrev IsShort : PlainPool → PlainPool → Type 0
IsShort s q = (s.held_root ≢ 0) × (q ≡ short s)

-- what it makes: nothing, the pool behind it, or that one
abbrev IsMade : ℕ → PlainPool → PlainPool → Type 0
IsMade id s q = (q ≡ s) ⊎ IsShort s q ⊎ IsAfter id s q

held_if_short : (root : ℕ) (none short_of : Bool) → (root ≡ 0 → none ≡ true) → (not none && short_of) ≡ true → root ≢ 0
held_if_short root true short_of is t zero = false≢true t
held_if_short root false short_of is t zero = false≢true (is zero)

by_tests : (a b c d e : Bool) (s after : PlainPool) (answer : Answer) (A : Type 0) → (e ≡ true → s.held_root ≢ 0)
    → MatchOption (first_failed ((a, Failed) ∷ (b, ReadOnly) ∷ (c, NoSuchDevice) ∷ (d, Busy) ∷ (e, NoMetadataSpace) ∷ [])) A (λ reason. (answer ≡ Refused reason) × (after ≡ after_refusal reason s))
    → A ⊎ (after ≡ s) ⊎ IsShort s after
by_tests true b c d e s after answer A held h = inr (inl h.1)
by_tests false true c d e s after answer A held h = inr (inl h.1)
by_tests false false true d e s after answer A held h = inr (inl h.1)
by_tests false false false true e s after answer A held h = inr (inl h.1)
by_tests false false false false true s after answer A held h = inr (inr (held refl, h.1))
by_tests false false false false false s after answer A held h = inl h

from_step : (id : ℕ) (s after : PlainPool) (answer : Answer) → Step s (Delete id) answer after → IsMade id s after
from_step id s after answer step =
    let short_of : Bool = not (has_metadata_room s 256) in
    let held : (not (s.held_root == 0) && short_of) ≡ true → s.held_root ≢ 0 = held_if_short s.held_root (s.held_root == 0) short_of (eq-eqb s.held_root 0) in
    elim (by_tests (is_failed s.mode) (is_read_only s.mode) (not (exists s id)) (nat_lt 0 (hold_count s.holds id)) (not (s.held_root == 0) && short_of) s after answer
    ((answer ≡ reply s (Delete id)) × Makes s (Delete id) after) held step) [
      | inl h ↦ inr (inr (after.meta_used, h.1.is))
      | inr (inl e) ↦ inl e
      | inr (inr w) ↦ inr (inl w)
    ]

-- what a removal makes, or would have made
made_by : (id : ℕ) (s made after : PlainPool) (answer : Answer) → Takes s (Delete id) answer made after → IsMade id s made
made_by id s made after answer (inl step) = subst (λ (q : PlainPool). IsMade id s q) (sym step.1) (from_step id s after answer step.0)
made_by id s made after answer (inr fault) = failed fault.1
  where
    failed : ((meant : Answer) × Step s (Delete id) meant made) × (after ≡ record made { mode = mode.Failed }) → IsMade id s made
    failed w = from_step id s made w.0.0 w.0.1

none_given : (S P : PlainPool) (e : Event) (id : ℕ) → e.call ≡ Delete id → MayReopen S (GivenBy e) P → MayReopen S Nothing P
none_given S P e id is h = record {
  geometry = h.geometry;
  ids_and_sizes = h.ids_and_sizes;
  slots = h.slots;
  transaction_id = h.transaction_id;
  needs_check = h.needs_check;
  meta_used = h.meta_used;
  held_root = h.held_root;
  mode = h.mode;
  holds = h.holds;
  sectors = λ i k. elim (h.sectors i k) [
    | inl same ↦ inl same
    | inr w ↦ absurd (gives_none w.0 i k w.3)
  ];
}
  where
    gives_none : (x : Sector) (i k : ℕ) → GivenBy e i k x → ⊥
    gives_none x i k g = (subst (λ (c : Call). GivenBy (record e { call = c }) i k x) is g).1

pub left_by : (id : ℕ) (s q made after P : PlainPool) (answer : Answer) (Older : PlainPool → Type 0) → ((S : PlainPool) → Older S → S ≡ reopened s) → Takes s (Delete id) answer made after
    → During Older (record { before = s; call = Delete id; answer = answer; made = made }) P → IsWholeOrGone id s P
left_by id s q made after P answer Older only takes (inl w) =
    let found : P ≡ reopened w.0 = MayReopen-nothing w.0 P (none_given w.0 P (record { before = s; call = Delete id; answer = answer; made = made }) id refl w.2) in
    inl (found ∙ was w.1)
  where
    was : Older w.0 ⊎ (w.0 ≡ s) → reopened w.0 ≡ reopened s
    was (inl older) = ap reopened (only w.0 older)
    was (inr e) = ap reopened e
left_by id s q made after P answer Older only takes (inr h) =
    elim (made_by id s made after answer takes) [
      | inl e ↦ inl (MayReopen-nothing made P h ∙ ap reopened e)
      | inr (inl w) ↦ inr (inl (w.0, MayReopen-nothing made P h ∙ ap reopened w.1))
      | inr (inr w) ↦ inr (inr (w.0, MayReopen-nothing made P h ∙ ap reopened w.1))
    ]

module _ {D : Type 0} (v : View D) where
  pub all_or_nothing : (old new : D) (s : PlainPool) (id : ℕ) (answer : Answer) → v.shows old s → ((P : PlainPool) → found_now v old P → P ≡ reopened s) → Called v old new (Delete id) answer
      → (P : PlainPool) → found_since v new (v.moment old) P → IsWholeOrGone id s P
  all_or_nothing old new s id answer shown only called P found =
      let m = called.meets s shown in
      left_by id s m.1 m.0 m.1 P answer (found_now v old) only m.2 (m.4.any_moment P found)

-- ---- room

-- a request needs no more blocks than it touches
need_is_touched : (s : PlainPool) (id sector : ℕ) (xs : List Sector) → (k : ℕ) → (is_owning (effect_at s (Write id sector xs false) id k) && not (is_exclusive s id k)) ≡ true → touches s.geometry sector (length xs) k ≡ true
need_is_touched s id sector xs k h = touched (touches s.geometry sector (length xs) k) refl
  where
    touched : (t : Bool) → touches s.geometry sector (length xs) k ≡ t → touches s.geometry sector (length xs) k ≡ true
    touched true is = is
    touched false is = absurd (false≢true (sym (ap (λ (b : Bool). is_owning (if b then Owns else Keeps)) is) ∙ (and_parts (is_owning (effect_at s (Write id sector xs false) id k)) (not (is_exclusive s id k)) h).0))

-- which tests a write passed that is refused for want of data blocks
no_data : (a b c d e : Bool)
    → first_failed ((a, Failed) ∷ (not b, NoSuchDevice) ∷ (c, ReadOnly) ∷ (d, NoMetadataSpace) ∷ (not e, NoDataSpace) ∷ []) ≡ Some NoDataSpace → (b ≡ true) × (e ≡ false)
no_data true b c d e h = absurd (omega (arith, ap (λ (o : Option Refusal). option_map_or refusal_number o 0) h))
no_data false false c d e h = absurd (omega (arith, ap (λ (o : Option Refusal). option_map_or refusal_number o 0) h))
no_data false true true d e h = absurd (omega (arith, ap (λ (o : Option Refusal). option_map_or refusal_number o 0) h))
no_data false true false true e h = absurd (omega (arith, ap (λ (o : Option Refusal). option_map_or refusal_number o 0) h))
no_data false true false false true h = absurd (omega (arith, ap (λ (o : Option Refusal). option_map_or refusal_number o 0) h))
no_data false true false false false h = (refl, refl)

refused_so : (s after : PlainPool) (call : Call) (o : Option Refusal) → is_refused (reply s call) ≡ false
    → MatchOption o ((Refused NoDataSpace ≡ reply s call) × Makes s call after) (λ r. (Refused NoDataSpace ≡ Refused r) × (after ≡ after_refusal r s)) → o ≡ Some NoDataSpace
refused_so s after call None accepts h = absurd (false≢true (sym accepts ∙ ap is_refused (sym h.0)))
refused_so s after call (Some r) accepts h = ap (λ (x : Refusal). Some x) (sym (ap reason_of h.0))

refused_by : (s made after : PlainPool) (id sector : ℕ) (xs : List Sector) → Takes s (Write id sector xs false) (Refused NoDataSpace) made after
    → refusal_of s (Write id sector xs false) ≡ Some NoDataSpace
refused_by s made after id sector xs (inl step) = refused_so s after (Write id sector xs false) (refusal_of s (Write id sector xs false)) refl step.0
refused_by s made after id sector xs (inr fault) = absurd (omega (arith, ap (λ a. refusal_number (reason_of a)) fault.0))

another_is : (t : Bool) (o : Option Volume) → is_some (cond t None o) ≡ true → cond t None o ≡ o
another_is true o h = absurd (false≢true h)
another_is false o h = refl

room_behind : (s q : PlainPool) (id other sector : ℕ) (xs : List Sector) → Makes s (Delete id) q → exists q other ≡ true → has_data_room q (Write other sector xs false) other ≡ false
    → s.geometry.data_blocks + own_blocks s id < used s + blocks_touched s other sector (length xs)
room_behind s q id other sector xs is there full =
    let call = Write other sector xs false in
    let at : get q.volumes other ≡ cond (other == id) None (get s.volumes other) = ap (λ (p : PlainPool). get p.volumes other) is.is ∙ get_remove s.volumes id other in
    let listed : is_some (get q.volumes other) ≡ true = (and_parts (is_now other) (is_some (get q.volumes other)) there).1 in
    let volume : get q.volumes other ≡ get s.volumes other = at ∙ another_is (other == id) (get s.volumes other) (sym (ap is_some at) ∙ listed) in
    let sizes : q.geometry ≡ s.geometry = ap (λ (p : PlainPool). p.geometry) is.is in
    let long : length (volume_sectors q other) ≡ length (volume_sectors s other) = ap (λ (o : Option Volume). length (option_map_or (λ v. v.sectors) o [])) volume in
    let touched : blocks_touched q other sector (length xs) ≡ blocks_touched s other sector (length xs)
    = λ i. count_by (touches (sizes i) sector (length xs)) (range_with_len 0 (long i / (sizes i).block_sectors)) in
    let blocks = range_with_len 0 (length (volume_sectors q other) / q.geometry.block_sectors) in
    let needed : need q call other ≤ blocks_touched q other sector (length xs)
    = count_less (λ k. is_owning (effect_at q call other k) && not (is_exclusive q other k)) (touches q.geometry sector (length xs)) blocks (need_is_touched q other sector xs) in
    let short : q.geometry.data_blocks < used q + need q call other = leb-false (used q + need q call other) q.geometry.data_blocks full in
    let rest : used q ≡ used (without s id) = ap used is.is in
    let back : used (without s id) + own_blocks s id ≤ used s = used_without s id (length (volume_sectors s id) / s.geometry.block_sectors) in
    let most : q.geometry.data_blocks ≡ s.geometry.data_blocks = ap (λ (g : Geometry). g.data_blocks) sizes in
    omega (arith, touched, needed, short, rest, back, most)

module _ {M : Type 0} (geometry : M → Geometry) (stands : M → DiskState → Contents → Contents → Type 0) where
  pub used_again : (old between new : Held M) (id other sector : ℕ) (bytes : List ℕ) (s : PlainPool) → shows geometry stands old s
      → PoolCalled geometry stands old between (Delete id) Done → PoolRefused geometry stands between new (Write other sector (sectors_of bytes) false) NoDataSpace
      → s.geometry.data_blocks + own_blocks s id < used s + blocks_touched s other sector (length bytes / 512)
  used_again old between new id other sector bytes s shown removal write =
      let xs = sectors_of bytes in
      let m = removal.called.meets s shown in
      let q = m.1 in
      let made : Makes s (Delete id) q = done_makes s (Delete id) m.0 q m.2 in
      let n = write.called.meets q m.3 in
      let tests = no_data (is_failed q.mode) (exists q other) (is_read_only q.mode) (nat_lt 0 (length xs) && not (has_metadata_room q 512)) (has_data_room q (Write other sector xs false) other)
      (refused_by q n.0 n.1 other sector xs n.2) in
      subst (λ (k : ℕ). s.geometry.data_blocks + own_blocks s id < used s + blocks_touched s other sector k) (length-sectors_of bytes)
      (room_behind s q id other sector xs made tests.0 tests.1)

  -- what both calls make
  pub both_make : (old between new : Held M) (id other sector : ℕ) (xs : List Sector) (s : PlainPool) → shows geometry stands old s → PoolCalled geometry stands old between (Delete id) Done
      → (result : Result (Unit {0}) Refusal) → PoolAnswered geometry stands between new (Write other sector xs false) result
      → OnOk result ((without : PlainPool) × (after : PlainPool) × Makes s (Delete id) without × Makes without (Write other sector xs false) after × shows geometry stands new after)
  both_make old between new id other sector xs s shown removal (Ok u) write =
      let m = removal.called.meets s shown in
      let n = write.called.meets m.1 m.3 in
      (m.1, n.1, done_makes s (Delete id) m.0 m.1 m.2, done_makes m.1 (Write other sector xs false) n.0 n.1 n.2, n.3)
  both_make old between new id other sector xs s shown removal (Err reason) write = tt
