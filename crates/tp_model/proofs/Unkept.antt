-- A call that was made but for its commit, and the FLUSH behind it, are that call.
use Rattle.std.proofs.Common.{◌≡◌, ℕ, ◌+◌, ◌<◌, ◌≤◌, ◌⊎◌, Bool, true, false, cond, List, [], ◌∷◌, length, take, drop, Option, Some, None, inl, inr, refl, sym, ap, ap₂, subst, ◌∙◌, arith, true≢false}
use Rattle.std.specs.Prelude.{IsSome, IsTrue, MatchOption, ◌&&◌, ◌-◌, ◌^◌, if◌then◌else◌, nat_lt, not}
use Rattle.std.specs.Bool.{MatchBool}
use Rattle.std.specs.Option.{option_map_or}
use Rattle.std.specs.Ordering.{nat_cmp}
use Rattle.std.specs.FinMap.{FinMap, contains_key, empty, entries, get, insert}
use Rattle.std.proofs.lemmas.Bool.{and_parts, ne_eqb}
use Rattle.tp_model.specs.declared.mode.Mode.{Mode}
use Rattle.tp_model.specs.declared.mode.Mode.TheVariants as mode
use Rattle.tp_model.specs.declared.refusal.Refusal.{Refusal}
use Rattle.tp_model.specs.declared.refusal.Refusal.TheVariants.{Damaged, Failed, Fault, NoSuchDevice}
use Rattle.tp_model.specs.Sectors.{Sector}
use Rattle.tp_model.specs.Pool.{FindsHeld, Outline, PlainPool, Volume, hold_count, is_now, volume_sectors, volume_slots}
use Rattle.tp_model.specs.Calls.{Answer, Call, Read, Write, Trim, WriteZeroes, Flush, CreateThin, CreateSnap, Delete, SetTransactionId, Grow, Hold, LetGo, Status, ThinStatus, NextId, VolumeBlocks, Walk, Close, HeldRead, ReserveMetadataSnap, ReleaseMetadataSnap, Done, Edits, Gave, HasCause, IsOneOf, Listed, Makes, MayAnswer, Refused, Step, Takes, accepted_commits, after_refusal, changes_nothing, commits, ends_in_commit, first_failed, grown, holds_after, is_failed, is_flush, is_in_memory, is_message, is_read_only, is_silent, is_writing, may_accept, may_reclaim, most_flushes, new_volume, piece_from, refusal_of, refusals_in_writable, refused_commits, reply, is_failure, volume_of}
use Rattle.tp_model.specs.PoolStops.{During, Event, GivenBy, MayReopen, Nothing, StopsWithin, keeps}
use Rattle.tp_model.specs.Clauses.{Called, Flushes, GoesOn, IsQuiet, Meets, OpensSince, Unkept, View, ViewLaws, found_now, found_since}
use Rattle.tp_model.proofs.Found.{MayReopen-nothing}
use Rattle.tp_model.proofs.HeldSizes.{new_snap, new_thin, none_holds, not_busy, not_there}
use Rattle.tp_model.proofs.Holds.{not_held}
use Rattle.tp_model.proofs.Maps.{get_remove, get_retain}
use Rattle.tp_model.proofs.PoolStopLaws.{MayReopen-reopened, MayReopen-weaken}
use Rattle.tp_model.proofs.Running.{more_time}
use Rattle.tp_model.proofs.Steps.{other_of_insert, step_accepted}

abbrev reason_or : Answer → Refusal
reason_or (Refused reason) = reason
reason_or answer = Fault

abbrev event_of : PlainPool → Call → Answer → PlainPool → Event
event_of s call answer made = record { before = s; call = call; answer = answer; made = made }

-- ---- a FLUSH of the plain pool

-- one that is done changes nothing
flushed_by : (p made after : PlainPool) → Takes p Flush Done made after → (made ≡ p) × (after ≡ p)
flushed_by p made after (inr fault) = let wrong : Done ≡ Refused Fault = fault.0 in absurd cc
flushed_by p made after (inl step) = let is : after ≡ p = by_test (refusal_of p Flush) step.0 in (step.1 ∙ is, is)
  where
    by_test : (o : Option Refusal) → MatchOption o ((Done ≡ reply p Flush) × Makes p Flush after) (λ reason. (Done ≡ Refused reason) × (after ≡ after_refusal reason p)) → after ≡ p
    by_test None h = h.1
    by_test (Some reason) h = let wrong : Done ≡ Refused reason = h.0 in absurd cc

-- a pool that works refuses one by no test
no_test : (p : PlainPool) → p.mode ≡ mode.Writable → refusal_of p Flush ≡ None
no_test p works = ap (λ (m : Mode). cond (is_failed m) (Some Failed) None) works

made_by : (p made : PlainPool) (meant : Answer) → p.mode ≡ mode.Writable → Step p Flush meant made → (meant ≡ Done) × (made ≡ p)
made_by p made meant works step =
    subst (λ (o : Option Refusal). MatchOption o ((meant ≡ reply p Flush) × Makes p Flush made) (λ reason. (meant ≡ Refused reason) × (made ≡ after_refusal reason p))) (no_test p works) step

-- so the disk failed in one that is refused, and then the pool is failed
refused_by : (p made after : PlainPool) (reason : Refusal) → p.mode ≡ mode.Writable → Takes p Flush (Refused reason) made after → (reason ≡ Fault) × (made ≡ p) × (after ≡ record p { mode = mode.Failed })
refused_by p made after reason works (inl step) = let wrong : Refused reason ≡ Done = (made_by p after (Refused reason) works step.0).0 in absurd cc
refused_by p made after reason works (inr fault) =
    let is : made ≡ p = (made_by p made fault.1.0.0 works fault.1.0.1).1 in
    (ap reason_or fault.0, is, fault.1.1 ∙ ap (λ (q : PlainPool). record q { mode = mode.Failed }) is)

-- and it may be refused for a fault or for damage
fault_or_damage : (m : Mode) (reason : Refusal) → m ≡ mode.Writable → MayAnswer m Flush (Refused reason) → (reason ≡ Fault) ⊎ (reason ≡ Damaged)
fault_or_damage mode.Writable reason works (inl is) = inl is
fault_or_damage mode.Writable reason works (inr (inl is)) = inr is
fault_or_damage mode.Writable reason works (inr (inr none)) = absurd none
fault_or_damage mode.ReadOnly reason works may = absurd cc
fault_or_damage mode.Failed reason works may = absurd cc

-- ---- the calls that end in a commit

record IsCommitting (call : Call) : Type 0 where
  pub writes : is_writing call ≡ true
  pub loud : is_in_memory call ≡ false
  pub says : (s : PlainPool) → reply s call ≡ Done
  pub held : (holds : FinMap nat_cmp ℕ) → holds_after holds call Done ≡ holds
  pub held_still : (holds : FinMap nat_cmp ℕ) (reason : Refusal) → holds_after holds call (Refused reason) ≡ holds
  pub untold : (id : ℕ) → call ≡ VolumeBlocks id → ⊥
  pub faults : IsOneOf Fault (refusals_in_writable call)
  pub damages : IsOneOf Damaged (refusals_in_writable call)
  pub keeps_not : keeps call (Refused Fault) ≡ false

-- one of no size is none of the calls that tell one
abbrev is_sizing : Call → Bool
is_sizing (VolumeBlocks id) = true
is_sizing call = false

no_size : (call : Call) → is_sizing call ≡ false → (id : ℕ) → call ≡ VolumeBlocks id → ⊥
no_size call none id is = true≢false (sym (ap is_sizing is) ∙ none)

committing : (call : Call) → ends_in_commit call ≡ true → IsCommitting call
committing (Write id sector sectors fua) ends = record {
  writes = refl;
  loud = refl;
  says = λ s. refl;
  held = λ holds. refl;
  held_still = λ holds reason. refl;
  untold = no_size (Write id sector sectors fua) refl;
  faults = inr (inr (inr (inl refl)));
  damages = inr (inr (inr (inr (inl refl))));
  keeps_not = refl;
}
committing (Trim id sector count fua) ends = record {
  writes = refl;
  loud = refl;
  says = λ s. refl;
  held = λ holds. refl;
  held_still = λ holds reason. refl;
  untold = no_size (Trim id sector count fua) refl;
  faults = inr (inr (inl refl));
  damages = inr (inr (inr (inl refl)));
  keeps_not = refl;
}
committing (WriteZeroes id sector count no_hole fua) ends = record {
  writes = refl;
  loud = refl;
  says = λ s. refl;
  held = λ holds. refl;
  held_still = λ holds reason. refl;
  untold = no_size (WriteZeroes id sector count no_hole fua) refl;
  faults = inr (inr (inr (inl refl)));
  damages = inr (inr (inr (inr (inl refl))));
  keeps_not = refl;
}
committing Flush ends = record {
  writes = refl;
  loud = refl;
  says = λ s. refl;
  held = λ holds. refl;
  held_still = λ holds reason. refl;
  untold = no_size Flush refl;
  faults = inl refl;
  damages = inr (inl refl);
  keeps_not = refl;
}
committing Close ends = record {
  writes = refl;
  loud = refl;
  says = λ s. refl;
  held = λ holds. refl;
  held_still = λ holds reason. refl;
  untold = no_size Close refl;
  faults = inl refl;
  damages = inr (inl refl);
  keeps_not = refl;
}
committing (CreateThin id) ends = record {
  writes = refl;
  loud = refl;
  says = λ s. refl;
  held = λ holds. refl;
  held_still = λ holds reason. refl;
  untold = no_size (CreateThin id) refl;
  faults = inr (inr (inr (inl refl)));
  damages = inr (inr (inr (inr (inl refl))));
  keeps_not = refl;
}
committing (CreateSnap id origin) ends = record {
  writes = refl;
  loud = refl;
  says = λ s. refl;
  held = λ holds. refl;
  held_still = λ holds reason. refl;
  untold = no_size (CreateSnap id origin) refl;
  faults = inr (inr (inr (inr (inl refl))));
  damages = inr (inr (inr (inr (inr (inl refl)))));
  keeps_not = refl;
}
committing (Delete id) ends = record {
  writes = refl;
  loud = refl;
  says = λ s. refl;
  held = λ holds. refl;
  held_still = λ holds reason. refl;
  untold = no_size (Delete id) refl;
  faults = inr (inr (inr (inl refl)));
  damages = inr (inr (inr (inr (inl refl))));
  keeps_not = refl;
}
committing (SetTransactionId current next) ends = record {
  writes = refl;
  loud = refl;
  says = λ s. refl;
  held = λ holds. refl;
  held_still = λ holds reason. refl;
  untold = no_size (SetTransactionId current next) refl;
  faults = inr (inl refl);
  damages = inr (inr (inl refl));
  keeps_not = refl;
}
committing (Grow id blocks) ends = record {
  writes = refl;
  loud = refl;
  says = λ s. refl;
  held = λ holds. refl;
  held_still = λ holds reason. refl;
  untold = no_size (Grow id blocks) refl;
  faults = inr (inr (inr (inr (inl refl))));
  damages = inr (inr (inr (inr (inr (inl refl)))));
  keeps_not = refl;
}
committing ReserveMetadataSnap ends = record {
  writes = refl;
  loud = refl;
  says = λ s. refl;
  held = λ holds. refl;
  held_still = λ holds reason. refl;
  untold = no_size ReserveMetadataSnap refl;
  faults = inr (inr (inl refl));
  damages = inr (inr (inr (inl refl)));
  keeps_not = refl;
}
committing ReleaseMetadataSnap ends = record {
  writes = refl;
  loud = refl;
  says = λ s. refl;
  held = λ holds. refl;
  held_still = λ holds reason. refl;
  untold = no_size ReleaseMetadataSnap refl;
  faults = inr (inl refl);
  damages = inr (inr (inl refl));
  keeps_not = refl;
}
committing (Read id sector count) ends = absurd (true≢false (sym ends))
committing (Hold id) ends = absurd (true≢false (sym ends))
committing (LetGo id) ends = absurd (true≢false (sym ends))
committing Status ends = absurd (true≢false (sym ends))
committing (ThinStatus id) ends = absurd (true≢false (sym ends))
committing (NextId from) ends = absurd (true≢false (sym ends))
committing (VolumeBlocks id) ends = absurd (true≢false (sym ends))
committing (Walk id from) ends = absurd (true≢false (sym ends))
committing (HeldRead id sector count) ends = absurd (true≢false (sym ends))

-- ---- how often they flush

summed : (a b c r : ℕ) → b ≤ a + r → c ≤ b + 2 → c ≤ a + (r + 2)
summed a b c r one two = omega (arith, one, two)

no_more : (a b r : ℕ) → b ≤ a + (r + 0) → b ≤ a + r
no_more a b r h = omega (arith, h)

within : (a b : ℕ) → a ≤ a + b
within a b = omega arith

most_of : (call : Call) → ends_in_commit call ≡ true → most_flushes mode.Writable call ≡ (if may_reclaim call then 2 else 0) + 2
most_of call ends = ap (λ (b : Bool). (if may_reclaim call then 2 else 0) + (if b then 2 else 0)) ends

commits_is : (s : PlainPool) (call : Call) → ends_in_commit call ≡ true → refusal_of s call ≡ None → s.mode ≡ mode.Writable → commits s call ≡ true
commits_is s call ends none is =
    ap (λ (o : Option Refusal). option_map_or refused_commits o (accepted_commits s call)) none ∙ ap₂ (λ (b : Bool) (m : Mode). b && not (is_read_only m)) ends is

-- ---- a call and the FLUSH behind it

module _ {D : Type 0} (v : View D) (laws : ViewLaws v) (old mid new : D) (call : Call) (ends : ends_in_commit call ≡ true) (other : is_flush call ≡ false) (u : Unkept v old mid call) where
  facts : IsCommitting call
  facts = committing call ends

  same_mode : (v.outline mid).mode ≡ (v.outline old).mode
  same_mode = ap (λ (o : Outline). o.mode) u.outline

  same_holds : (v.outline mid).holds ≡ (v.outline old).holds
  same_holds = ap (λ (o : Outline). o.holds) u.outline

  still_works : (v.outline mid).mode ≡ mode.Writable
  still_works = same_mode ∙ u.works

  held_between : (i : ℕ) → 0 < hold_count (v.outline old).holds i → 0 < hold_count (v.outline mid).holds i
  held_between i h = subst (λ (m : FinMap nat_cmp ℕ). 0 < hold_count m i) (sym same_holds) h

  works_in : (s : PlainPool) → v.shows old s → s.mode ≡ mode.Writable
  works_in s shown = ap (λ (o : Outline). o.mode) (laws.shown old s shown) ∙ u.works

  works_between : (s : PlainPool) → v.shows mid s → s.mode ≡ mode.Writable
  works_between s shown = ap (λ (o : Outline). o.mode) (laws.shown mid s shown) ∙ still_works

  step_of : (s made : PlainPool) → refusal_of s call ≡ None → Makes s call made → Step s call Done made
  step_of s made none makes = subst (λ (a : Answer). Step s call a made) (facts.says s) (step_accepted s call made none makes)

  failing : (s made after : PlainPool) → Step s call Done made → after ≡ record made { mode = mode.Failed }
      → MatchBool (is_writing call) (((meant : Answer) × Step s call meant made) × (after ≡ record made { mode = mode.Failed })) ((made ≡ s) × (after ≡ s))
  failing s made after step is =
      subst (λ (b : Bool). MatchBool b (((meant : Answer) × Step s call meant made) × (after ≡ record made { mode = mode.Failed })) ((made ≡ s) × (after ≡ s))) (sym facts.writes) ((Done, step), is)

  -- what a stop between the two leaves is left since the first began
  found_between : (S : PlainPool) → found_now v mid S → found_since v mid (v.moment old) S
  found_between S found = (found.0, laws.wider mid (v.moment old) (v.moment mid) found.0 u.time.later (laws.at_now mid found.0 found.1), found.2)

  module _ (s made : PlainPool) (any : (P : PlainPool) → found_since v mid (v.moment old) P → During (found_now v old) (event_of s call Done made) P)
      (told answer : Answer) (flushed : PlainPool) (same : flushed ≡ made) where
    in_call : (P : PlainPool) → During (found_now v old) (event_of s call Done made) P → During (found_now v old) (event_of s call answer made) P
    in_call P (inl (S, from, r)) = inl (S, from, MayReopen-weaken S P (GivenBy (event_of s call Done made)) (GivenBy (event_of s call answer made)) (λ i k x g. g) r)
    in_call P (inr r) = inr r

    nothing_given : (S P : PlainPool) → MayReopen S (GivenBy (event_of made Flush told flushed)) P → MayReopen S Nothing P
    nothing_given S P r = MayReopen-weaken S P (GivenBy (event_of made Flush told flushed)) Nothing (λ i k x g. absurd g.1) r

    in_flush : (P : PlainPool) → During (found_now v mid) (event_of made Flush told flushed) P → During (found_now v old) (event_of s call answer made) P
    in_flush P (inl (S, inl found, r)) =
        let is : P ≡ S = MayReopen-nothing S P (nothing_given S P r) ∙ sym (laws.at_rest found.0 S found.2) in
        in_call P (subst (λ (Q : PlainPool). During (found_now v old) (event_of s call Done made) Q) (sym is) (any S (found_between S found)))
    in_flush P (inl (S, inr is, r)) = inr (subst (λ (q : PlainPool). MayReopen q Nothing P) is (nothing_given S P r))
    in_flush P (inr r) = inr (subst (λ (q : PlainPool). MayReopen q Nothing P) same r)

    both_stop : GoesOn v mid new → StopsWithin (found_now v mid) (event_of made Flush told flushed) (found_since v new (v.moment mid)) (found_now v new)
        → (IsTrue (keeps call answer) → (P : PlainPool) → found_now v new P → MayReopen made Nothing P)
        → StopsWithin (found_now v old) (event_of s call answer made) (found_since v new (v.moment old)) (found_now v new)
    both_stop second then_ keeping = record {
      any_moment = λ P found. elim (second.earlier (v.moment old) found.0 u.time.later found.1) [
        | inl x ↦ in_call P (any P (found.0, x, found.2))
        | inr x ↦ in_flush P (then_.any_moment P (found.0, x, found.2))
      ];
      now = λ P found. in_flush P (then_.now P found);
      kept = keeping;
    }

  both_open : GoesOn v mid new → ((s : PlainPool) → v.shows mid s → OpensSince v new (v.moment mid)) → (s : PlainPool) → v.shows old s → OpensSince v new (v.moment old)
  both_open second opens s shown image left =
      let one = u.meets s shown in
      elim (second.earlier (v.moment old) image u.time.later left) [
        | inl x ↦ u.opens s shown image x
        | inr x ↦ opens one.0 one.3 image x
      ]

  both_called : Called v mid new Flush Done → Called v old new call Done
  both_called f = record {
    time = more_time v laws old mid new u.time f.time;
    cause = f.cause ∙ u.failures;
    opens = both_open f.time f.opens;
    meets = λ s shown.
        let one = u.meets s shown in
        let two = f.meets one.0 one.3 in
        let is = flushed_by one.0 two.0 two.1 two.2 in
        let step : Step s call Done two.1 = subst (λ (q : PlainPool). Step s call Done q) (sym is.1) (step_of s one.0 one.1 one.2) in (
          one.0,
          two.1,
          inl (step, sym is.1),
          two.3,
          both_stop s one.0 one.4 Done Done two.0 is.0 f.time two.4 (λ keeping P found. subst (λ (q : PlainPool). MayReopen q Nothing P) is.0 (two.4.kept refl P found)),
        );
  }

  both_failed : (reason : Refusal) → (reason ≡ Fault) ⊎ (reason ≡ Damaged) → Called v mid new Flush (Refused reason) → Called v old new call (Refused reason)
  both_failed reason why f = record {
    time = more_time v laws old mid new u.time f.time;
    cause = cause_of why f.cause;
    opens = both_open f.time f.opens;
    meets = λ s shown.
        let one = u.meets s shown in
        let two = f.meets one.0 one.3 in
        let is = refused_by one.0 two.0 two.1 reason (works_between one.0 one.3) two.2 in
        let step : Step s call Done one.0 = step_of s one.0 one.1 one.2 in (
          one.0,
          two.1,
          inr (ap Refused is.0, failing s one.0 two.1 step is.2),
          two.3,
          both_stop s one.0 one.4 (Refused reason) (Refused reason) two.0 is.1 f.time two.4
              (λ keeping P found. absurd (true≢false (sym keeping ∙ (ap (λ (r : Refusal). keeps call (Refused r)) is.0 ∙ facts.keeps_not)))),
        );
  }
    where
      cause_of : (reason ≡ Fault) ⊎ (reason ≡ Damaged) → HasCause (v.failures mid) (Refused reason) (v.failures new) → HasCause (v.failures old) (Refused reason) (v.failures new)
      cause_of (inl is) h =
          let rose : v.failures mid < v.failures new = subst (λ (r : Refusal). HasCause (v.failures mid) (Refused r) (v.failures new)) is h in
          let before : v.failures mid ≡ v.failures old = u.failures in
          let all : v.failures old < v.failures new = omega (arith, rose, before) in
          subst (λ (r : Refusal). HasCause (v.failures old) (Refused r) (v.failures new)) (sym is) all
      cause_of (inr is) h =
          let same : v.failures new ≡ v.failures mid = subst (λ (r : Refusal). HasCause (v.failures mid) (Refused r) (v.failures new)) is h in
          let all : v.failures new ≡ v.failures old = same ∙ u.failures in
          subst (λ (r : Refusal). HasCause (v.failures old) (Refused r) (v.failures new)) (sym is) all

  -- no call of it is silent, and none is one that reads
  quiet_not : IsTrue (is_silent (v.outline old).mode call) → IsQuiet v old new
  quiet_not silent = let wrong : true ≡ false = sym silent ∙ (ap (λ (m : Mode). is_silent m call) u.works ∙ facts.loud) in absurd (true≢false wrong)

  module _ (answer : Answer) (f : Flushes v mid new Flush answer) where
    flushed_on : v.flushes mid ≤ v.flushes new
    flushed_on = f.no_fewer

    flushed_twice : v.flushes new ≤ v.flushes mid + 2
    flushed_twice = subst (λ (m : Mode). v.flushes new ≤ v.flushes mid + most_flushes m Flush) still_works f.most

    all_flushed : v.flushes old ≤ v.flushes new
    all_flushed = let a = u.no_fewer in let b = flushed_on in omega (arith, a, b)

    most_flushed : v.flushes new ≤ v.flushes old + most_flushes (v.outline old).mode call
    most_flushed =
        let all : v.flushes new ≤ v.flushes old + ((if may_reclaim call then 2 else 0) + 2) = summed (v.flushes old) (v.flushes mid) (v.flushes new) (if may_reclaim call then 2 else 0) u.most flushed_twice in
        subst (λ (m : Mode). v.flushes new ≤ v.flushes old + most_flushes m call) (sym u.works) (subst (λ (n : ℕ). v.flushes new ≤ v.flushes old + n) (sym (most_of call ends)) all)

    few_flushed : (s : PlainPool) → v.shows old s → (v.lacks old call → ⊥) ⊎ IsSome (refusal_of s call) → v.flushes new ≤ v.flushes old + (if commits s call then 2 else 0)
    few_flushed s shown (inl enough) =
        let none = (u.meets s shown).1 in
        let first : v.flushes mid ≡ v.flushes old = u.few s shown enough in
        let second : v.flushes new ≤ v.flushes mid + 2 = flushed_twice in
        let all : v.flushes new ≤ v.flushes old + 2 = omega (arith, first, second) in
        subst (λ (b : Bool). v.flushes new ≤ v.flushes old + (if b then 2 else 0)) (sym (commits_is s call ends none (works_in s shown))) all
    few_flushed s shown (inr refused) = let none = (u.meets s shown).1 in absurd (true≢false (sym (subst (λ (o : Option Refusal). IsSome o) none refused)))

  pub flushed : Meets v mid new Flush Done → Meets v old new call Done
  flushed f = record {
    geometry = f.geometry ∙ ap (λ (o : Outline). o.geometry) u.outline;
    holds = f.holds ∙ (same_holds ∙ sym (facts.held (v.outline old).holds));
    more = λ i before after. f.more i (held_between i before) after ∙ u.more i before;
    told = λ i blocks is tells holds. absurd (facts.untold i is);
    answered = record {
      may = subst (λ (m : Mode). IsTrue (may_accept m call)) (sym u.works) refl;
      mode = f.answered.mode ∙ same_mode;
      reads = λ is. absurd (true≢false (sym facts.writes ∙ is));
      silent = quiet_not;
    };
    flushes = record {
      no_fewer = all_flushed Done f.flushes;
      most = most_flushed Done f.flushes;
      few = few_flushed Done f.flushes;
      exact = λ is. absurd (true≢false (sym is ∙ other));
      committed = λ works is. f.flushes.committed still_works refl;
      unchanged = λ is. absurd (true≢false (sym is ∙ ap not facts.writes));
    };
    called = both_called f.called;
  }

  pub flush_failed : (reason : Refusal) → Meets v mid new Flush (Refused reason) → Meets v old new call (Refused reason)
  flush_failed reason f =
      let why = fault_or_damage (v.outline mid).mode reason still_works f.answered.may in
      record {
        geometry = f.geometry ∙ ap (λ (o : Outline). o.geometry) u.outline;
        holds = f.holds ∙ (same_holds ∙ sym (facts.held_still (v.outline old).holds reason));
        more = λ i before after. f.more i (held_between i before) after ∙ u.more i before;
        told = λ i blocks is tells holds. absurd (facts.untold i is);
        answered = record {
          may = subst (λ (m : Mode). MayAnswer m call (Refused reason)) (sym u.works) (may_fail why);
          mode = f.answered.mode ∙ ap₂ (λ (m : Mode) (b : Bool). if is_failure reason && b then mode.Failed else (if refused_commits reason then mode.ReadOnly else m)) same_mode (sym facts.writes);
          reads = λ is. absurd (true≢false (sym facts.writes ∙ is));
          silent = quiet_not;
        };
        flushes = record {
          no_fewer = all_flushed (Refused reason) f.flushes;
          most = most_flushed (Refused reason) f.flushes;
          few = few_flushed (Refused reason) f.flushes;
          exact = λ is. absurd (true≢false (sym is ∙ other));
          committed = λ works is. f.flushes.committed still_works is;
          unchanged = λ is. absurd (never_same why is);
        };
        called = both_failed reason why f.called;
      }
    where
      may_fail : (reason ≡ Fault) ⊎ (reason ≡ Damaged) → MayAnswer mode.Writable call (Refused reason)
      may_fail (inl is) = subst (λ (r : Refusal). IsOneOf r (refusals_in_writable call)) (sym is) facts.faults
      may_fail (inr is) = subst (λ (r : Refusal). IsOneOf r (refusals_in_writable call)) (sym is) facts.damages

      never_same : (reason ≡ Fault) ⊎ (reason ≡ Damaged) → IsTrue (changes_nothing call (Refused reason)) → ⊥
      never_same (inl is) h = true≢false (sym h ∙ (ap (λ (r : Refusal). changes_nothing call (Refused r)) is ∙ ap not facts.writes))
      never_same (inr is) h = true≢false (sym h ∙ (ap (λ (r : Refusal). changes_nothing call (Refused r)) is ∙ ap not facts.writes))

-- ---- a WRITE that was done is one with FUA, made but for its commit

module _ {D : Type 0} (v : View D) (id sector : ℕ) (sectors : List Sector) (old mid : D) (lacks : v.lacks old (Write id sector sectors false) → v.lacks old (Write id sector sectors true))
    (wrote : Meets v old mid (Write id sector sectors false) Done) where
  abbrev plain : Call
  plain = Write id sector sectors false

  abbrev kept : Call
  kept = Write id sector sectors true

  writable : (m : Mode) → IsTrue (may_accept m plain) → m ≡ mode.Writable
  writable mode.Writable may = refl
  writable mode.ReadOnly may = absurd (true≢false (sym may))
  writable mode.Failed may = absurd (true≢false (sym may))

  works_before : (v.outline old).mode ≡ mode.Writable
  works_before = writable (v.outline old).mode wrote.answered.may

  held_behind : (i : ℕ) → 0 < hold_count (v.outline old).holds i → 0 < hold_count (v.outline mid).holds i
  held_behind i h = subst (λ (m : FinMap nat_cmp ℕ). 0 < hold_count m i) (sym wrote.holds) h

  outline_is : v.outline mid ≡ v.outline old
  outline_is =
      let geometry : (v.outline mid).geometry ≡ (v.outline old).geometry = wrote.geometry in
      let modes : (v.outline mid).mode ≡ (v.outline old).mode = wrote.answered.mode in
      let holds : (v.outline mid).holds ≡ (v.outline old).holds = wrote.holds in
      λ i. record { geometry = geometry i; mode = modes i; holds = holds i }

  wrote_by : (s made after : PlainPool) → Takes s plain Done made after → (refusal_of s plain ≡ None) × Edits s plain id after × (made ≡ after)
  wrote_by s made after (inr fault) = let wrong : Done ≡ Refused Fault = fault.0 in absurd cc
  wrote_by s made after (inl step) = let did = by_test (refusal_of s plain) refl step.0 in (did.0, did.1, step.1)
    where
      by_test : (o : Option Refusal) → refusal_of s plain ≡ o → MatchOption o ((Done ≡ reply s plain) × Makes s plain after) (λ reason. (Done ≡ Refused reason) × (after ≡ after_refusal reason s))
          → (refusal_of s plain ≡ None) × Edits s plain id after
      by_test None is h = (is, h.1)
      by_test (Some reason) is h = let wrong : Done ≡ Refused reason = h.0 in absurd cc

  -- FUA changes nothing of what is written
  kept_edits : (s q : PlainPool) → Edits s plain id q → Edits s kept id q
  kept_edits s q e = record { rest = e.rest; others = e.others; volume = e.volume; slots = e.slots; untouched = e.untouched }

  in_write : (s made after : PlainPool) → made ≡ after → (P : PlainPool) → During (found_now v old) (event_of s plain Done made) P → During (found_now v old) (event_of s kept Done after) P
  in_write s made after is P (inl (S, from, r)) = inl (S, from, MayReopen-weaken S P (GivenBy (event_of s plain Done made)) (GivenBy (event_of s kept Done after)) (λ i k x g. g) r)
  in_write s made after is P (inr r) = inr (subst (λ (q : PlainPool). MayReopen q Nothing P) is r)

  plain_commits_not : (s : PlainPool) → refusal_of s plain ≡ None → commits s plain ≡ false
  plain_commits_not s none = ap (λ (o : Option Refusal). option_map_or refused_commits o (accepted_commits s plain)) none

  none_flushed : (s : PlainPool) → v.shows old s → (v.lacks old kept → ⊥) → v.flushes mid ≡ v.flushes old
  none_flushed s shown enough =
      let one = wrote.called.meets s shown in
      let none = (wrote_by s one.0 one.1 one.2).0 in
      let most : v.flushes mid ≤ v.flushes old + 0 =
      subst (λ (b : Bool). v.flushes mid ≤ v.flushes old + (if b then 2 else 0)) (plain_commits_not s none) (wrote.flushes.few s shown (inl (λ l. enough (lacks l)))) in
      let least : v.flushes old ≤ v.flushes mid = wrote.flushes.no_fewer in
      omega (arith, most, least)

  pub written : Unkept v old mid kept
  written = record {
    works = works_before;
    outline = outline_is;
    more = λ i holds. wrote.more i holds (held_behind i holds);
    failures = wrote.called.cause;
    no_fewer = wrote.flushes.no_fewer;
    most = no_more (v.flushes old) (v.flushes mid) (if nat_lt 0 (length sectors) then 2 else 0)
        (subst (λ (m : Mode). v.flushes mid ≤ v.flushes old + most_flushes m plain) works_before wrote.flushes.most);
    few = none_flushed;
    time = wrote.called.time;
    opens = wrote.called.opens;
    meets = λ s shown.
        let one = wrote.called.meets s shown in
        let did = wrote_by s one.0 one.1 one.2 in
        (one.1, did.0, kept_edits s one.1 did.1, one.3, λ P found. in_write s one.0 one.1 did.2 P (one.4.any_moment P found));
  }

-- ---- a message changes no volume that is held

inserted : (p q : PlainPool) (id : ℕ) (v : Volume) → q.volumes ≡ insert p.volumes id v → (i : ℕ) → (i ≡ id → ⊥) → get q.volumes i ≡ get p.volumes i
inserted p q id v volumes i apart = ap (λ (m : FinMap nat_cmp Volume). get m i) volumes ∙ other_of_insert p.volumes id v i apart

here : (p : PlainPool) (i : ℕ) → FindsHeld p → 0 < hold_count p.holds i → is_now i ≡ true
here p i found held = (and_parts (is_now i) (contains_key p.volumes i) (found i held)).0

spared : (p : PlainPool) (call : Call) (q : PlainPool) → is_message call ≡ true → refusal_of p call ≡ None → Makes p call q → FindsHeld p → (i : ℕ) → 0 < hold_count p.holds i → get q.volumes i ≡ get p.volumes i
spared p (CreateThin id) q message none h found i held = inserted p q id (new_volume p.geometry) (ap (λ r. r.volumes) h.is) i (not_there p id found (new_thin p id none) i held)
spared p (CreateSnap id origin) q message none h found i held = inserted p q id (volume_of p origin) (ap (λ r. r.volumes) h.is) i (not_there p id found (new_snap p id origin none) i held)
spared p (Delete id) q message none h found i held =
    ap (λ (r : PlainPool). get r.volumes i) h.is ∙ (get_remove p.volumes id i ∙ ap (λ b. cond b None (get p.volumes i)) (ne_eqb i id (none_holds p id (not_held p id none) i held)))
spared p (SetTransactionId current next) q message none h found i held = ap (λ (r : PlainPool). get r.volumes i) h
spared p (Grow id blocks) q message none h found i held =
    inserted p q id (grown p.geometry blocks (volume_of p id)) (ap (λ r. r.volumes) h.is) i (none_holds p id (not_busy p id blocks none) i held)
spared p ReserveMetadataSnap q message none h found i held = h.volumes i ∙ ap (λ b. get p.volumes (cond b i (i - 2 ^ 24))) (here p i found held)
spared p ReleaseMetadataSnap q message none h found i held =
    ap (λ (r : PlainPool). get r.volumes i) h.is ∙ (get_retain p.volumes is_now i ∙ ap (λ b. cond b (get p.volumes i) None) (here p i found held))
spared p (Read id sector count) q message none h found i held = absurd (true≢false (sym message))
spared p (Write id sector sectors fua) q message none h found i held = absurd (true≢false (sym message))
spared p (Trim id sector count fua) q message none h found i held = absurd (true≢false (sym message))
spared p (WriteZeroes id sector count no_hole fua) q message none h found i held = absurd (true≢false (sym message))
spared p Flush q message none h found i held = absurd (true≢false (sym message))
spared p (Hold id) q message none h found i held = absurd (true≢false (sym message))
spared p (LetGo id) q message none h found i held = absurd (true≢false (sym message))
spared p Status q message none h found i held = absurd (true≢false (sym message))
spared p (ThinStatus id) q message none h found i held = absurd (true≢false (sym message))
spared p (NextId from) q message none h found i held = absurd (true≢false (sym message))
spared p (VolumeBlocks id) q message none h found i held = absurd (true≢false (sym message))
spared p (Walk id from) q message none h found i held = absurd (true≢false (sym message))
spared p Close q message none h found i held = absurd (true≢false (sym message))
spared p (HeldRead id sector count) q message none h found i held = absurd (true≢false (sym message))

-- ---- so a READ between the two stands before it

module _ {D : Type 0} (v : View D) (laws : ViewLaws v) (old mid : D) (call : Call) (id sector count : ℕ) (sectors : List Sector) (message : is_message call ≡ true)
    (held : 0 < hold_count (v.outline old).holds id) (u : Unkept v old mid call) where
  abbrev read : Call
  read = Read id sector count

  works_at : (s : PlainPool) → v.shows old s → s.mode ≡ mode.Writable
  works_at s shown = ap (λ (o : Outline). o.mode) (laws.shown old s shown) ∙ u.works

  held_in : (s : PlainPool) → v.shows old s → 0 < hold_count s.holds id
  held_in s shown = subst (λ (o : Outline). 0 < hold_count o.holds id) (sym (laws.shown old s shown)) held

  finds : (s : PlainPool) → v.shows old s → FindsHeld s
  finds s shown = (laws.consistent old s shown (ap is_failed (works_at s shown))).held

  none_refuses : (s : PlainPool) → v.shows old s → refusal_of s read ≡ None
  none_refuses s shown =
      ap₂ (λ (m : Mode) (b : Bool). first_failed ((is_failed m, Failed) ∷ (not b, NoSuchDevice) ∷ [])) (works_at s shown) (finds s shown id (held_in s shown))

  gave_by : (p made after : PlainPool) → Takes p read (Gave sectors) made after → Gave sectors ≡ Gave (take count (drop sector (volume_sectors p id)))
  gave_by p made after (inr fault) = let wrong : Gave sectors ≡ Refused Fault = fault.0 in absurd cc
  gave_by p made after (inl step) = by_test (refusal_of p read) step.0
    where
      by_test : (o : Option Refusal) → MatchOption o ((Gave sectors ≡ reply p read) × Makes p read after) (λ reason. (Gave sectors ≡ Refused reason) × (after ≡ after_refusal reason p))
          → Gave sectors ≡ Gave (take count (drop sector (volume_sectors p id)))
      by_test None h = h.0
      by_test (Some reason) h = let wrong : Gave sectors ≡ Refused reason = h.0 in absurd cc

  step_in : (s made : PlainPool) → v.shows old s → refusal_of s call ≡ None → Makes s call made → Gave sectors ≡ Gave (take count (drop sector (volume_sectors made id))) → Step s read (Gave sectors) s
  step_in s made shown none makes gave =
      let volume : get made.volumes id ≡ get s.volumes id = spared s call made message none makes (finds s shown) id (held_in s shown) in
      let same : volume_sectors made id ≡ volume_sectors s id = ap (λ (o : Option Volume). option_map_or (λ (x : Volume). x.sectors) o []) volume in
      let is : Gave sectors ≡ reply s read = gave ∙ ap (λ (xs : List Sector). Gave (take count (drop sector xs))) same in
      subst (λ (a : Answer). Step s read a s) (sym is) (step_accepted s read s (none_refuses s shown) refl)

  -- a stop in a READ leaves what it left before
  left_alone : (s P : PlainPool) → found_now v old P → During (found_now v old) (event_of s read (Gave sectors) s) P
  left_alone s P found =
      let given : ℕ → ℕ → Sector → Type 0 = GivenBy (event_of s read (Gave sectors) s) in
      inl (P, inl found, subst (λ (Q : PlainPool). MayReopen P given Q) (sym (laws.at_rest found.0 P found.2)) (MayReopen-reopened P given))

  stops_alone : (s : PlainPool) → StopsWithin (found_now v old) (event_of s read (Gave sectors) s) (found_since v old (v.moment old)) (found_now v old)
  stops_alone s = record {
    any_moment = λ P found. left_alone s P (found.0, laws.only_now old found.0 found.1, found.2);
    now = λ P found. left_alone s P found;
    kept = λ keeping. absurd (true≢false (sym keeping));
  }

  no_time : GoesOn v old old
  no_time = record {
    later = omega arith;
    still = λ t image before left. left;
    earlier = λ t image before left. inl left;
  }

  pub read_before : Meets v mid mid read (Gave sectors) → Meets v old old read (Gave sectors)
  read_before r = record {
    geometry = refl;
    holds = refl;
    more = λ i before after. refl;
    told = λ i blocks is tells holds. absurd (no_size read refl i is);
    answered = record {
      may = subst (λ (m : Mode). IsTrue (may_accept m read)) (sym u.works) refl;
      mode = refl;
      reads = λ is. refl;
      silent = λ silent. record { failures = refl; flushes = refl; moment = refl };
    };
    flushes = record {
      no_fewer = omega arith;
      most = within (v.flushes old) (most_flushes (v.outline old).mode read);
      few = λ s shown any. within (v.flushes old) (if commits s read then 2 else 0);
      exact = λ is. absurd (true≢false (sym is));
      committed = λ works is. absurd (true≢false (sym is));
      unchanged = λ is. refl;
    };
    called = record {
      time = no_time;
      cause = refl;
      opens = λ s shown image left. let now : v.moment old ≤ v.moment old = omega arith in u.opens s shown image (u.time.still (v.moment old) image now left);
      meets = λ s shown.
          let one = u.meets s shown in
          let two = r.called.meets one.0 one.3 in
          (s, s, inl (step_in s one.0 shown one.1 one.2 (gave_by one.0 two.0 two.1 two.2), refl), shown, stops_alone s);
    };
  }

-- ---- and so does a walk over one that is held

module _ {D : Type 0} (v : View D) (laws : ViewLaws v) (old mid : D) (call : Call) (id from : ℕ) (slots : List (ℕ × ℕ)) (message : is_message call ≡ true)
    (held : 0 < hold_count (v.outline old).holds id) (u : Unkept v old mid call) where
  abbrev walk : Call
  walk = Walk id from

  still_held : (s : PlainPool) → v.shows old s → 0 < hold_count s.holds id
  still_held s shown = held_in v laws old mid call id 0 0 [] message held u s shown

  found_held : (s : PlainPool) → v.shows old s → FindsHeld s
  found_held s shown = finds v laws old mid call id 0 0 [] message held u s shown

  no_walk_refused : (s : PlainPool) → v.shows old s → refusal_of s walk ≡ None
  no_walk_refused s shown =
      ap₂ (λ (m : Mode) (b : Bool). first_failed ((is_failed m, Failed) ∷ (not b, NoSuchDevice) ∷ [])) (works_at v laws old mid call id 0 0 [] message held u s shown) (found_held s shown id (still_held s shown))

  listed_by : (p made after : PlainPool) → Takes p walk (Listed slots) made after → Listed slots ≡ Listed (piece_from from (entries (volume_slots p id)))
  listed_by p made after (inr fault) = let wrong : Listed slots ≡ Refused Fault = fault.0 in absurd cc
  listed_by p made after (inl step) = by_test (refusal_of p walk) step.0
    where
      by_test : (o : Option Refusal) → MatchOption o ((Listed slots ≡ reply p walk) × Makes p walk after) (λ reason. (Listed slots ≡ Refused reason) × (after ≡ after_refusal reason p))
          → Listed slots ≡ Listed (piece_from from (entries (volume_slots p id)))
      by_test None h = h.0
      by_test (Some reason) h = let wrong : Listed slots ≡ Refused reason = h.0 in absurd cc

  walk_in : (s made : PlainPool) → v.shows old s → refusal_of s call ≡ None → Makes s call made → Listed slots ≡ Listed (piece_from from (entries (volume_slots made id))) → Step s walk (Listed slots) s
  walk_in s made shown none makes told =
      let volume : get made.volumes id ≡ get s.volumes id = spared s call made message none makes (found_held s shown) id (still_held s shown) in
      let same : volume_slots made id ≡ volume_slots s id = ap {B = FinMap nat_cmp ℕ} (λ (o : Option Volume). option_map_or (λ (x : Volume). x.slots) o empty) volume in
      let is : Listed slots ≡ reply s walk = told ∙ ap (λ (m : FinMap nat_cmp ℕ). Listed (piece_from from (entries m))) same in
      subst (λ (a : Answer). Step s walk a s) (sym is) (step_accepted s walk s (no_walk_refused s shown) refl)

  left_by_walk : (s P : PlainPool) → found_now v old P → During (found_now v old) (event_of s walk (Listed slots) s) P
  left_by_walk s P found =
      let given : ℕ → ℕ → Sector → Type 0 = GivenBy (event_of s walk (Listed slots) s) in
      inl (P, inl found, subst (λ (Q : PlainPool). MayReopen P given Q) (sym (laws.at_rest found.0 P found.2)) (MayReopen-reopened P given))

  stops_of_walk : (s : PlainPool) → StopsWithin (found_now v old) (event_of s walk (Listed slots) s) (found_since v old (v.moment old)) (found_now v old)
  stops_of_walk s = record {
    any_moment = λ P found. left_by_walk s P (found.0, laws.only_now old found.0 found.1, found.2);
    now = λ P found. left_by_walk s P found;
    kept = λ keeping. absurd (true≢false (sym keeping));
  }

  pub walk_before : Meets v mid mid walk (Listed slots) → Meets v old old walk (Listed slots)
  walk_before r = record {
    geometry = refl;
    holds = refl;
    more = λ i before after. refl;
    told = λ i blocks is tells holds. absurd (no_size walk refl i is);
    answered = record {
      may = subst (λ (m : Mode). IsTrue (may_accept m walk)) (sym u.works) refl;
      mode = refl;
      reads = λ is. refl;
      silent = λ silent. record { failures = refl; flushes = refl; moment = refl };
    };
    flushes = record {
      no_fewer = omega arith;
      most = within (v.flushes old) (most_flushes (v.outline old).mode walk);
      few = λ s shown any. within (v.flushes old) (if commits s walk then 2 else 0);
      exact = λ is. absurd (true≢false (sym is));
      committed = λ works is. absurd (true≢false (sym is));
      unchanged = λ is. refl;
    };
    called = record {
      time = no_time v laws old mid call id 0 0 [] message held u;
      cause = refl;
      opens = λ s shown image left. let now : v.moment old ≤ v.moment old = omega arith in u.opens s shown image (u.time.still (v.moment old) image now left);
      meets = λ s shown.
          let one = u.meets s shown in
          let two = r.called.meets one.0 one.3 in
          (s, s, inl (walk_in s one.0 shown one.1 one.2 (listed_by one.0 two.0 two.1 two.2), refl), shown, stops_of_walk s);
    };
  }
