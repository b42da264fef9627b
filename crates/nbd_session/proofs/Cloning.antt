-- Snapshots that are asked for under one id after the other, and what an option does that makes a clone, by what the calls for it told.
use Rattle.std.proofs.Common.{◌≡◌, ℕ, zero, suc, ◌+◌, ◌<◌, Bool, true, false, List, [], Option, Some, None, refl, sym, subst, ◌∙◌, arith, true≢false}
use Rattle.std.specs.Prelude.{Err, MatchResult, Ok, Result, if◌then◌else◌}
use Rattle.std.specs.Option.{option_map_or}
use Rattle.tp_model.specs.declared.mode.Mode.{Mode}
use Rattle.tp_model.specs.declared.refusal.Refusal.{Refusal}
use Rattle.tp_model.specs.Geometry.{Geometry}
use Rattle.tp_model.specs.Pool.{Outline}
use Rattle.tp_model.specs.Calls.{Answer, Call, CreateSnap, Delete, Done, Hold, LetGo, Refused, Sized, is_read_only}
use Rattle.nbd_session.specs.declared.clones.Made.{Made}
use Rattle.nbd_session.specs.declared.clones.Made.TheVariants.{Held, NotMade, GivenUp}
use Rattle.nbd_session.specs.declared.phase.Phase.{Phase}
use Rattle.nbd_session.specs.declared.phase.Phase.TheVariants.{Ended}
use Rattle.nbd_session.specs.declared.phase.Terms.{Terms}
use Rattle.nbd_session.specs.Requests.{bytes_of_blocks}
use Rattle.nbd_session.specs.Looking.{AnswersSize, IsEntered, IsTold, Learns, MakesClone, TakesClone, TakesHoldOfClone, Tries}
use Rattle.nbd_session.specs.Session.{AsksFor, Clones, Deletes, GivesUp, HoldsClone, IsOutcome, Outcome, Passes, Snaps, VolumeOption, clone_flags, export_name, is_of_failure, is_of_none, is_of_other, is_taken, outcome, transmission_flags, uncloned}

-- the flags of a clone, in a pool of this mode
pub flags_are : (z : Terms) (p : Outline) (mode : Mode) (plain flags : ℕ) → mode ≡ p.mode → plain ≡ (if is_read_only mode then 0x6f else 0x6d) → flags ≡ clone_flags z plain
    → flags ≡ clone_flags z (transmission_flags p)
flags_are z p mode plain flags same is e =
    let P : Mode → Type 0 = λ k. flags ≡ clone_flags z (if is_read_only k then 0x6f else 0x6d) in
    let Q : ℕ → Type 0 = λ n. flags ≡ clone_flags z n in
    subst P same (subst Q is e)

-- an option that has no errors ends the session, whyever no clone was made
ends_by : (none failure : Bool) (x : Outcome) → (if none then x else (if failure then x else x)) ≡ x
ends_by true failure x = refl
ends_by false true x = refl
ends_by false false x = refl

pub export_ends : (z : Terms) (reason : Refusal) → IsOutcome (uncloned (export_name z) reason) [] Ended
export_ends z reason = subst (λ (x : Outcome). IsOutcome x [] Ended) (sym (ends_by (is_of_none reason) (is_of_failure reason) (outcome [] Ended))) (refl, refl)

module _ {S : Type 0} (outline : S → Outline) (Calls : S → Call → Answer → S → Type 0) where
  -- one id more was that of a volume
  passes_next : (origin from n at : ℕ) (p q p' : S) (answer : Answer) → Passes outline Calls origin from n p q → is_taken answer ≡ true → at ≡ from + n → Calls q (CreateSnap at origin) answer p'
      → Passes outline Calls origin from (suc n) p p'
  passes_next origin from zero at p q p' answer h taken is call =
      let here : at ≡ from = omega (arith, is) in
      let P : S → Type 0 = λ d. Calls d (CreateSnap at origin) answer p' in
      let Q : ℕ → Type 0 = λ i. Calls p (CreateSnap i origin) answer p' in
      (answer, p', taken, subst Q here (subst P h call), refl)
  passes_next origin from (suc n) at p q p' answer h taken is call =
      let further : at ≡ from + 1 + n = omega (arith, is) in
      (h.0, h.1, h.2, h.3, passes_next origin (from + 1) n at h.1 q p' answer h.4 taken further call)

  pub passes_more : (origin n : ℕ) (p q p' : S) (answer : Answer) → Passes outline Calls origin 8388608 n p q → is_taken answer ≡ true → Calls q (CreateSnap (8388608 + n) origin) answer p'
      → Passes outline Calls origin 8388608 (n + 1) p p'
  passes_more origin n p q p' answer h taken call =
      let next : suc n ≡ n + 1 = omega arith in
      let P : ℕ → Type 0 = λ k. Passes outline Calls origin 8388608 k p p' in
      subst P next (passes_next origin 8388608 n (8388608 + n) p q p' answer h taken refl call)

  -- the last id that was tried: a snapshot was made under it, or refused for another reason than that a volume has it
  pub snap_made : (origin n id : ℕ) (p q p' : S) → n < 64 → Passes outline Calls origin 8388608 n p q → (id ≡ 8388608 + n) × Calls q (CreateSnap (8388608 + n) origin) Done p'
      → Snaps outline Calls origin id Done p p'
  snap_made origin n id p q p' few passes h =
      let P : ℕ → Type 0 = λ i. Calls q (CreateSnap i origin) Done p' in
      record { passed = n; few = few; id_is = h.0; tried = q; passes = passes; calls = subst P (sym h.0) h.1; all = λ e. absurd (true≢false (sym e)) }

  pub snap_refused : (origin n : ℕ) (p q p' : S) (reason : Refusal) → n < 64 → Passes outline Calls origin 8388608 n p q → is_of_other reason ≡ false
      → Calls q (CreateSnap (8388608 + n) origin) (Refused reason) p' → (id : ℕ) × Snaps outline Calls origin id (Refused reason) p p'
  snap_refused origin n p q p' reason few passes other call =
      (8388608 + n, record { passed = n; few = few; id_is = refl; tried = q; passes = passes; calls = call; all = λ e. absurd (true≢false (sym e ∙ other)) })

  -- or it is the last one that is tried at all
  pub snap_last : (origin n : ℕ) (r : Result ℕ Refusal) (p q p' : S) → n ≡ 63 → Passes outline Calls origin 8388608 n p q → Tries outline Calls origin 63 r q p'
      → MatchResult r (λ id. Snaps outline Calls origin id Done p p') (λ reason. (id : ℕ) × Snaps outline Calls origin id (Refused reason) p p')
  snap_last origin n (Ok id) p q p' is passes tries =
      let P : ℕ → Type 0 = λ k. Passes outline Calls origin 8388608 k p q in
      snap_made origin 63 id p q p' (omega arith) (subst P is passes) tries
  snap_last origin n (Err reason) p q p' is passes tries =
      let P : ℕ → Type 0 = λ k. Passes outline Calls origin 8388608 k p q in
      let few : 63 < 64 = omega arith in
      (8388608 + 63, record { passed = 63; few = few; id_is = refl; tried = q; passes = subst P is passes; calls = tries; all = λ e. refl })

  -- a clone is let go and deleted, whatever is answered to that
  pub gives_up : (id : ℕ) (p q p' : S) (r : Result (Unit {0}) Refusal) → Calls p (LetGo id) Done q
      → MatchResult r (λ done. Calls q (Delete id) Done p') (λ reason. Calls q (Delete id) (Refused reason) p') → GivesUp outline Calls id p p'
  gives_up id p q p' (Ok done) lets_go deleted = record { let_go = q; lets_go = lets_go; answer = Done; deletes = deleted }
  gives_up id p q p' (Err reason) lets_go deleted = record { let_go = q; lets_go = lets_go; answer = Refused reason; deletes = deleted }

  deletes_so : (id : ℕ) (p p' : S) (r : Result (Unit {0}) Refusal) (sent : List ℕ) (next : Phase)
      → MatchResult r (λ done. Calls p (Delete id) Done p') (λ reason. Calls p (Delete id) (Refused reason) p') → sent ≡ [] → next ≡ Ended → Deletes outline Calls id p sent next p'
  deletes_so id p p' (Ok done) sent next deleted none over = record { answer = Done; calls = deleted; sent_is = none; next_is = over }
  deletes_so id p p' (Err reason) sent next deleted none over = record { answer = Refused reason; calls = deleted; sent_is = none; next_is = over }

  -- the size of one that is held, and of one that is to be held
  pub size_told : (g : Geometry) (id size : ℕ) (p p' : S) → IsTold outline Calls g id (Ok size) p p' → TakesClone outline Calls g id (Ok size) p p'
  size_told g id size p p' (blocks, is, calls) found sent next told =
      let P : ℕ → Type 0 = λ n. IsOutcome (found n) sent next in
      let so = subst P is told in
      record { answer = Sized blocks; asked = p'; calls = calls; is_sized = (so.0, so.1, refl) }

  pub size_refused : (g : Geometry) (id : ℕ) (reason : Refusal) (p q p' : S) → IsTold outline Calls g id (Err reason) p q → GivesUp outline Calls id q p' → TakesClone outline Calls g id (Err reason) p p'
  size_refused g id reason p q p' calls gives found sent next told = record { answer = Refused reason; asked = q; calls = calls; is_sized = (told.0, told.1, gives) }

  pub held_told : (g : Geometry) (id : ℕ) (p q p' : S) (result : Result ℕ Refusal) → Calls p (Hold id) Done q → TakesClone outline Calls g id result q p' → TakesHoldOfClone outline Calls g id result p p'
  held_told g id p q p' result calls takes found sent next told = record { answer = Done; held = q; calls = calls; is_held = takes found sent next told }

  pub held_refused : (g : Geometry) (id : ℕ) (reason : Refusal) (p q p' : S) (r : Result (Unit {0}) Refusal) → Calls p (Hold id) (Refused reason) q
      → MatchResult r (λ done. Calls q (Delete id) Done p') (λ refused. Calls q (Delete id) (Refused refused) p') → TakesHoldOfClone outline Calls g id (Err reason) p p'
  held_refused g id reason p q p' r calls deleted found sent next told =
      record { answer = Refused reason; held = q; calls = calls; is_held = deletes_so id q p' r sent next deleted told.0 told.1 }

  -- a clone was made, and holding it told this, in a pool of this geometry and these flags before
  cloned : (o : VolumeOption) (origin id : ℕ) (g : Geometry) (p q p' : S) (result : Result ℕ Refusal) (sent : List ℕ) (next : Phase) → g ≡ (outline p).geometry
      → Snaps outline Calls origin id Done p q → TakesHoldOfClone outline Calls g id result q p' → AnswersSize (λ size. o.cloned origin id size (transmission_flags (outline p))) result sent next
      → Clones outline Calls o origin p sent next p'
  cloned o origin id g p q p' result sent next same made takes told =
      let found : Geometry → ℕ → Outcome = λ x blocks. o.cloned origin id (bytes_of_blocks x blocks) (transmission_flags (outline p)) in
      let P : Geometry → Type 0 = λ x. HoldsClone outline Calls (found x) id q sent next p' in
      record {
        id = id;
        answer = Done;
        made = q;
        snaps = made;
        is_cloned = subst P same (takes (λ size. o.cloned origin id size (transmission_flags (outline p))) sent next told);
      }

  -- none was made
  not_cloned : (o : VolumeOption) (origin id : ℕ) (p p' : S) (reason : Refusal) (sent : List ℕ) (next : Phase) → Snaps outline Calls origin id (Refused reason) p p'
      → IsOutcome (uncloned o reason) sent next → Clones outline Calls o origin p sent next p'
  not_cloned o origin id p p' reason sent next refused told =
      record { id = id; answer = Refused reason; made = p'; snaps = refused; is_cloned = (told.0, told.1, refl) }

  -- what became of it, whatever the option
  pub clone_held : (origin id size : ℕ) (g : Geometry) (p q p' : S) → g ≡ (outline p).geometry → Snaps outline Calls origin id Done p q → TakesHoldOfClone outline Calls g id (Ok size) q p'
      → MakesClone outline Calls origin (Held id size) p p'
  clone_held origin id size g p q p' same made takes o sent next told = cloned o origin id g p q p' (Ok size) sent next same made takes told

  pub clone_given_up : (origin id : ℕ) (reason : Refusal) (g : Geometry) (p q p' : S) → g ≡ (outline p).geometry → Snaps outline Calls origin id Done p q
      → TakesHoldOfClone outline Calls g id (Err reason) q p' → MakesClone outline Calls origin GivenUp p p'
  clone_given_up origin id reason g p q p' same made takes o sent next told = cloned o origin id g p q p' (Err reason) sent next same made takes told

  pub clone_not_made : (origin id : ℕ) (reason : Refusal) (p p' : S) → Snaps outline Calls origin id (Refused reason) p p' → MakesClone outline Calls origin (NotMade reason) p p'
  clone_not_made origin id reason p p' refused o sent next told = not_cloned o origin id p p' reason sent next refused told

  -- an option that makes one, by what became of it
  pub entered : (o : VolumeOption) (origin : ℕ) (shown made : Made) (p p' : S) (sent : List ℕ) (next : Phase) → shown ≡ made → MakesClone outline Calls origin shown p p'
      → IsEntered o origin (transmission_flags (outline p)) made sent next → Clones outline Calls o origin p sent next p'
  entered o origin shown made p p' sent next is makes told = let P : Made → Type 0 = λ m. MakesClone outline Calls origin m p p' in subst P is makes o sent next told

  -- an option that holds nothing, by what was told of the volume that it looked for
  pub learnt : (o : VolumeOption) (id size : ℕ) (found : Option ℕ) (p p' : S) (sent : List ℕ) (next : Phase) → o.holds ≡ false → Learns outline Calls false id (Ok found) p p' → found ≡ Some size
      → IsOutcome (o.found id size (transmission_flags (outline p))) sent next → AsksFor outline Calls o id p sent next p'
  learnt o id size found p p' sent next holds learns is told =
      let P : Option ℕ → Type 0 = λ x. IsOutcome (option_map_or (λ n. o.found id n (transmission_flags (outline p))) x o.missing) sent next in
      learns o sent next holds (subst P (sym is) told)

  pub learnt_none : (o : VolumeOption) (id : ℕ) (found : Option ℕ) (p p' : S) (sent : List ℕ) (next : Phase) → o.holds ≡ false → Learns outline Calls false id (Ok found) p p' → found ≡ None
      → IsOutcome o.missing sent next → AsksFor outline Calls o id p sent next p'
  learnt_none o id found p p' sent next holds learns is told =
      let P : Option ℕ → Type 0 = λ x. IsOutcome (option_map_or (λ n. o.found id n (transmission_flags (outline p))) x o.missing) sent next in
      learns o sent next holds (subst P (sym is) told)

  pub learnt_nothing : (o : VolumeOption) (id : ℕ) (reason : Refusal) (p p' : S) → o.holds ≡ false → Learns outline Calls false id (Err reason) p p' → AsksFor outline Calls o id p [] Ended p'
  learnt_nothing o id reason p p' holds learns = learns o [] Ended holds (refl, refl)
