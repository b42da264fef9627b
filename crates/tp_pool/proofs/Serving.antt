-- Calls that read: what their answers mean.
use Rattle.std.proofs.Common.{◌≡◌, ◌⊎◌, inl, inr, ℕ, ◌+◌, ◌^◌, ◌≤◌, ◌<◌, Bool, true, false, not, Option, None, Some, is_some, Result, Ok, Err, List, [], ◌∷◌, ◌++◌, refl, sym, ◌∙◌, ap, subst, arith}
use Rattle.std.specs.Prelude.{IfErr, IsSome, MatchResult, OnOk}
use Rattle.std.specs.List.{concat}
use Rattle.std.proofs.lemmas.Bool.{false≢true}
use Rattle.std.specs.Option.{option_map}
use Rattle.std.proofs.lemmas.Option.{none-some, same_Some}
use Rattle.tp_model.specs.declared.mode.Mode.TheVariants as mode
use Rattle.tp_model.specs.declared.refusal.Refusal.{Refusal}
use Rattle.tp_model.specs.declared.refusal.Refusal.TheVariants.{Damaged, Failed, Fault, NoMetadataSpace, NoSuchDevice}
use Rattle.tp_model.specs.Geometry.{Geometry, sectors_of_image}
use Rattle.tp_model.specs.Told.{told_blocks, told_sectors}
use Rattle.tp_model.specs.Sectors.{sectors_of}
use Rattle.tp_model.specs.Pool.{FindsHeld, PlainPool}
use Rattle.tp_model.specs.Refusals.{is_fault, is_fault_refusal}
use Rattle.tp_model.specs.Calls.{Call, Answer, Done, Gave, Hold, LetGo, Read, Refused, Step, HasCause, Makes, refusal_of, reply, after_refusal, exists, first_failed, holds_after, is_failed, is_writing}
use Rattle.tp_model.specs.PoolStops.{keeps}
use Rattle.tp_model.specs.Disk.{DiskState, IsWellFormed, after_read, seen}
use Rattle.tp_model.proofs.Holds.{Makes-FindsHeld}
use Rattle.tp_model.proofs.Possible.{Makes-possible}
use Rattle.tp_model.proofs.Steps.{step_accepted, step_refused}
use Rattle.tp_sharing.specs.Volumes.{Volumes, device_of, size_of}
use Rattle.tp_sharing.proofs.Told.{size_changes}
use Rattle.tp_stored.specs.Contents.{Contents}
use Rattle.tp_meta.specs.Metadata.{IsLater}
use Rattle.tp_holders.specs.Holders.{Holding, LeftTold, holds_of}
use Rattle.tp_holders.proofs.Rows.{holds_pushed}
use Rattle.tp_pool.specs.Held.{Held, HasPool, KnowsSizes, LiesIn, PoolCalled, PoolRefused, failed_by, shows}
use Rattle.std.specs.Ordering.{nat_cmp}
use Rattle.std.specs.FinMap.{FinMap}
use Rattle.tp_model.proofs.DiskLaws.{length-seen, sectors_of-concat, whole-seen}
use Rattle.tp_shown.specs.Shown.{values_at}
use Rattle.tp_shown.proofs.Ranges.{read_gives}
use Rattle.tp_shown.proofs.Values.{no_value, some_value}
use Rattle.tp_pool.proofs.Fetching.{values_whole}
use Rattle.tp_pool.proofs.Ranges.{known_pushed, known_released}
use Rattle.tp_pool.proofs.Times.{at_once}
use Rattle.tp_shown.proofs.Tests.{exists_is_listed}
use Rattle.tp_pool.proofs.Calling.{Laws, Met, called, called_refused, called_unread, called_working, met_answered, met_fault, pool_left, rests}

-- a request of a pool that works is refused first where there is no such volume
pub no_device : (s : PlainPool) (id : ℕ) → is_failed s.mode ≡ false → exists s id ≡ false
    → first_failed ((is_failed s.mode, Failed) ∷ (not (exists s id), NoSuchDevice) ∷ []) ≡ Some NoSuchDevice
no_device s id works none = (λ i. first_failed ((works i, Failed) ∷ (not (none i), NoSuchDevice) ∷ []))

pub a_device : (s : PlainPool) (id : ℕ) → is_failed s.mode ≡ false → exists s id ≡ true → first_failed ((is_failed s.mode, Failed) ∷ (not (exists s id), NoSuchDevice) ∷ []) ≡ None
a_device s id works some = (λ i. first_failed ((works i, Failed) ∷ (not (some i), NoSuchDevice) ∷ []))

-- ---- what a call would have made

-- the call changes neither the geometry nor who holds what
abbrev pub KeepsOutline : Call → Type 0
KeepsOutline call = (s q : PlainPool) → Makes s call q → (q.geometry ≡ s.geometry) × (q.holds ≡ s.holds)

after_outline : (r : Refusal) (s : PlainPool) → ((after_refusal r s).geometry ≡ s.geometry) × ((after_refusal r s).holds ≡ s.holds)
after_outline NoMetadataSpace s = (refl, refl)
after_outline r s = (refl, refl)

pub record Possible (s : PlainPool) (call : Call) : Type 0 where
  pub meant : Answer
  pub made : PlainPool
  pub step : Step s call meant made
  pub geometry : made.geometry ≡ s.geometry
  pub holds : made.holds ≡ s.holds

possible_by : (s : PlainPool) (call : Call) → KeepsOutline call → 0 < s.geometry.block_sectors → (o : Option Refusal) → refusal_of s call ≡ o → Possible s call
possible_by s call keeps_it some None is =
    let m = Makes-possible s call some in
    let same = keeps_it s m.0 m.1 in
    record { meant = reply s call; made = m.0; step = step_accepted s call m.0 is m.1; geometry = same.0; holds = same.1 }
possible_by s call keeps_it some (Some r) is =
    let same = after_outline r s in
    record { meant = Refused r; made = after_refusal r s; step = step_refused s call r is; geometry = same.0; holds = same.1 }

pub possible : (s : PlainPool) (call : Call) → KeepsOutline call → 0 < s.geometry.block_sectors → Possible s call
possible s call keeps_it some = possible_by s call keeps_it some (refusal_of s call) refl

pub is_some_from : {A : Type 0} (o : Option A) → IsSome o → is_some o ≡ true
is_some_from {A} None is = absurd (no_value {A = A} None refl is)
is_some_from (Some x) is = refl

pub is_some_to : {A : Type 0} (o : Option A) → true ≡ is_some o → IsSome o
is_some_to None e = absurd (false≢true (sym e))
is_some_to (Some x) e = some_value (Some x) x refl

-- the refusal at the exit of a `?`
pub exit_is : {T : Type 0} (P : Result T Refusal → Type 0) (r : Result T Refusal) (x y : Refusal) → r ≡ Err y → x ≡ y → P (Err x) → P r
exit_is P r x y e f p = subst P (sym (e ∙ ap (λ (z : Refusal). Err z) (sym f))) p

module _ {M : Type 0} {geometry : M → Geometry} {stands : M → DiskState → Contents → Contents → Type 0} {marks : M → List Bool} {room : M → ℕ} (laws : Laws geometry stands marks room) where
  -- an answer that no pool gives that shows anything
  pub called_never : (old new : Held M) (call : Call) (reason : Refusal) → is_failed old.mode ≡ false → IsLater old.disk new.disk → HasCause old.disk.failures (Refused reason) new.disk.failures
      → ((now kept : Contents) → stands old.metadata old.disk now kept → ⊥) → PoolCalled geometry stands old new call (Refused reason)
  called_never old new call reason works later cause never = called_working laws old new call (Refused reason) works later cause (λ s now kept pool. absurd (never now kept pool.standing))

  pub block_some : (old : Held M) (now kept : Contents) (s : PlainPool) → HasPool geometry stands old now kept s → 0 < s.geometry.block_sectors
  block_some old now kept s pool =
      let limits = (laws.within old.metadata old.disk now kept pool.standing).limits in
      let same : s.geometry.block_sectors ≡ (geometry old.metadata).block_sectors = ap (λ (g : Geometry). g.block_sectors) pool.has.geometry in
      omega (arith, limits.block_least, same)

  -- the disk failed, or was none of a pool's, before a call changed anything
  pub read_refused : (old : Held M) (call : Call) (reason : Refusal) → is_failed old.mode ≡ false → is_writing call ≡ false → keeps call (Refused Fault) ≡ false → (reason ≡ Fault) ⊎ (reason ≡ Damaged)
      → (reason ≡ Damaged → (now kept : Contents) → stands old.metadata old.disk now kept → ⊥)
      → PoolRefused geometry stands old (record old { disk = after_read (not (is_fault_refusal reason)) old.disk }) call reason
  read_refused old call reason works reads keeps_not (inl e) never =
      subst (λ (r : Refusal). PoolRefused geometry stands old (record old { disk = after_read (not (is_fault_refusal r)) old.disk }) call r) (sym e) (called_unread laws old call reads keeps_not)
  read_refused old call reason works reads keeps_not (inr e) never =
      subst (λ (r : Refusal). PoolRefused geometry stands old (record old { disk = after_read (not (is_fault_refusal r)) old.disk }) call r) (sym e)
      (called_never old old call Damaged works (record { between = []; joined = refl }) refl (never e))

  pub write_refused : (old : Held M) (call : Call) (reason : Refusal) → is_failed old.mode ≡ false → is_writing call ≡ true → keeps call (Refused Fault) ≡ false → KeepsOutline call → (reason ≡ Fault) ⊎ (reason ≡ Damaged)
      → (reason ≡ Damaged → (now kept : Contents) → stands old.metadata old.disk now kept → ⊥)
      → PoolRefused geometry stands old (failed_by reason (record old { disk = after_read (not (is_fault_refusal reason)) old.disk })) call reason
  write_refused old call reason works writes keeps_not outline (inl e) never =
      let new : Held M = record old { disk = after_read false old.disk; mode = mode.Failed } in
      subst (λ (r : Refusal). PoolRefused geometry stands old (failed_by r (record old { disk = after_read (not (is_fault_refusal r)) old.disk })) call r) (sym e)
      (called_working laws old new call (Refused Fault) works (record { between = []; joined = refl }) (omega arith) (λ s now kept pool.
      let p = possible s call outline (block_some old now kept s pool) in
      met_fault laws old new s p.made call p.meant writes keeps_not p.step refl refl (p.geometry ∙ pool.has.geometry) (p.holds ∙ pool.holds)
      (rests laws old new (record { before = s; call = call; answer = Refused Fault; made = p.made }) refl (pool_left laws old now kept s pool))))
  write_refused old call reason works writes keeps_not outline (inr e) never =
      let new : Held M = record old { mode = mode.Failed } in
      subst (λ (r : Refusal). PoolRefused geometry stands old (failed_by r (record old { disk = after_read (not (is_fault_refusal r)) old.disk })) call r) (sym e)
      (called_never old new call Damaged works (record { between = []; joined = refl }) refl (never e))

  -- ---- there is a volume or none

  pub exists_is : (old : Held M) (s : PlainPool) (now kept : Contents) (id : ℕ) (answer : Bool) → id < 2 ^ 24 → HasPool geometry stands old now kept s → answer ≡ is_some (device_of id now.volumes) → exists s id ≡ answer
  exists_is old s now kept id answer low pool told = exists_is_listed (geometry old.metadata) now (seen old.disk.cells) s id low pool.has ∙ sym told

  pub works_is : (old : Held M) (s : PlainPool) (now kept : Contents) → is_failed old.mode ≡ false → HasPool geometry stands old now kept s → is_failed s.mode ≡ false
  works_is old s now kept works pool = ap is_failed pool.mode_is ∙ works

  -- a call that is refused for a reason that the tests give a pool that works
  pub called_tested : (old : Held M) (call : Call) (reason : Refusal) → is_failed old.mode ≡ false → HasCause old.disk.failures (Refused reason) old.disk.failures → ((s : PlainPool) → after_refusal reason s ≡ s)
      → keeps call (Refused reason) ≡ false → ((s : PlainPool) (now kept : Contents) → HasPool geometry stands old now kept s → refusal_of s call ≡ Some reason) → PoolCalled geometry stands old old call (Refused reason)
  called_tested old call reason works cause same keeps_not refuses =
      called_refused laws old call reason cause same keeps_not (λ s shown.
      elim shown [
        | inl w ↦ refuses s w.0 w.1 w.2
        | inr f ↦ absurd (false≢true (sym works ∙ ap is_failed f.failed))
      ])

  -- ---- a read

  pub read_by : (old : Held M) (mid disk : DiskState) (id sector n : ℕ) (out : List ℕ) (result : Result (Unit {0}) Refusal) → is_failed old.mode ≡ false → mid ≡ old.disk
      → ((now kept : Contents) → stands old.metadata old.disk now kept → IsSome (device_of id now.volumes)) → LiesIn geometry stands old id (sector + n)
      → IsWellFormed old.disk.size old.disk.cells → sectors_of_image (geometry old.metadata) ≤ old.disk.size → disk ≡ after_read (not (is_fault result)) mid
      → OnOk result ((now kept : Contents) → stands old.metadata mid now kept → out ≡ concat (values_at (geometry old.metadata) now.volumes (seen mid.cells) id sector n))
      → (result ≡ Err Damaged → (now kept : Contents) → stands old.metadata mid now kept → ⊥) → IfErr result (λ refusal. (refusal ≡ Fault) ⊎ (refusal ≡ Damaged))
      → MatchResult result (λ _. PoolCalled geometry stands old (record old { disk = disk }) (Read id sector n) (Gave (sectors_of out)))
      (λ reason. PoolRefused geometry stands old (record old { disk = disk }) (Read id sector n) reason)
  read_by old mid disk id sector n out (Ok x) works same there lies formed room state bytes damaged only =
      let is : disk ≡ old.disk = state ∙ same in
      subst (λ (d : DiskState). PoolCalled geometry stands old (record old { disk = d }) (Read id sector n) (Gave (sectors_of out))) (sym is)
      (called_working laws old old (Read id sector n) (Gave (sectors_of out)) works (at_once old.disk) refl (λ s now kept pool.
      let g = geometry old.metadata in
      let within = laws.within old.metadata old.disk now kept pool.standing in
      let device = there now kept pool.standing in
      let works_s = works_is old s now kept works pool in
      let some : exists s id ≡ true = exists_is_listed g now (seen old.disk.cells) s id lies.0 pool.has ∙ is_some_from (device_of id now.volumes) device in
      let values = values_at g now.volumes (seen old.disk.cells) id sector n in
      let out_is : out ≡ concat values =
      subst (λ (d : DiskState). stands old.metadata d now kept → out ≡ concat (values_at g now.volumes (seen d.cells) id sector n)) same (bytes now kept) pool.standing in
      let whole = values_whole g now.volumes (seen old.disk.cells) id sector n within.limits within.volumes_now (whole-seen formed) (omega (arith, room, length-seen formed)) in
      let gives : reply s (Read id sector n) ≡ Gave (sectors_of out) =
      ap (λ (l : List (List ℕ)). Gave l) (read_gives g now (seen old.disk.cells) s within.limits pool.has id sector n device (lies.1 now kept s pool device) ∙ sym (ap sectors_of out_is ∙ sectors_of-concat values whole)) in
      subst (λ (a : Answer). Met laws old old s (Read id sector n) a) gives
      (met_answered laws old old s s (Read id sector n) (inl (now, kept, pool)) (a_device s id works_s some) refl (inl (now, kept, pool)) refl refl)))
  read_by old mid disk id sector n out (Err reason) works same there lies formed room state bytes damaged only =
      let is : disk ≡ after_read (not (is_fault_refusal reason)) old.disk = state ∙ ap (after_read (not (is_fault_refusal reason))) same in
      subst (λ (d : DiskState). PoolRefused geometry stands old (record old { disk = d }) (Read id sector n) reason) (sym is)
      (read_refused old (Read id sector n) reason works refl refl only (λ e now kept st. damaged (ap (λ (r : Refusal). Err r) e) now kept (subst (λ (d : DiskState). stands old.metadata d now kept) (sym same) st)))

  -- ---- there is no such volume

  pub none_there : (old : Held M) (call : Call) (id : ℕ) → id < 2 ^ 24 → is_failed old.mode ≡ false → keeps call (Refused NoSuchDevice) ≡ false → ((now kept : Contents) → stands old.metadata old.disk now kept → false ≡ is_some (device_of id now.volumes))
      → ((s : PlainPool) → is_failed s.mode ≡ false → exists s id ≡ false → refusal_of s call ≡ Some NoSuchDevice) → PoolCalled geometry stands old old call (Refused NoSuchDevice)
  none_there old call id low works keeps_not none refuses =
      called_tested old call NoSuchDevice works refl (λ s. refl) keeps_not (λ s now kept pool.
      refuses s (works_is old s now kept works pool) (exists_is old s now kept id false low pool (none now kept pool.standing)))

  -- ---- holds

  -- no size is told, so there is no device
  pub no_size : (g : Geometry) (volumes : Volumes) (id : ℕ) (told : Option ℕ) → told ≡ None → told ≡ option_map (told_blocks g) (size_of id volumes) → false ≡ is_some (device_of id volumes)
  no_size g volumes id told none is = by (size_of id volumes) refl where
    by : (o : Option ℕ) → size_of id volumes ≡ o → false ≡ is_some (device_of id volumes)
    by (Some size) e = absurd (none-some (told_blocks g size) (sym none ∙ (is ∙ ap (option_map (told_blocks g)) e)))
    by None e = sym (ap is_some e) ∙ size_changes.told id volumes

  -- the size that is told of a device
  pub size_told : (g : Geometry) (volumes : Volumes) (id blocks : ℕ) → Some blocks ≡ option_map (told_blocks g) (size_of id volumes) → (size : ℕ) × (size_of id volumes ≡ Some size) × (blocks ≡ told_blocks g size)
  size_told g volumes id blocks told = by (size_of id volumes) refl where
    by : (o : Option ℕ) → size_of id volumes ≡ o → (size : ℕ) × (size_of id volumes ≡ Some size) × (blocks ≡ told_blocks g size)
    by (Some size) is = (size, is, same_Some blocks (told_blocks g size) (told ∙ ap (option_map (told_blocks g)) is))
    by None is = absurd (none-some blocks (sym (told ∙ ap (option_map (told_blocks g)) is)))

  -- the same with other holders
  reshown : (old : Held M) (now kept : Contents) (s : PlainPool) (holders : List Holding) (holds : FinMap nat_cmp ℕ) → holds ≡ holds_of holders → HasPool geometry stands old now kept s
      → FindsHeld (record s { holds = holds }) → KnowsSizes (geometry old.metadata) holders (record s { holds = holds }) → HasPool geometry stands (record old { holders = holders }) now kept (record s { holds = holds })
  reshown old now kept s holders holds is pool found known = record {
    standing = pool.standing;
    has = record {
      geometry = pool.has.geometry;
      transaction_id = pool.has.transaction_id;
      needs_check = pool.has.needs_check;
      meta_used = pool.has.meta_used;
      held_root = pool.has.held_root;
      sizes = pool.has.sizes;
      slots = pool.has.slots;
      sectors = record { mapped = pool.has.sectors.mapped; unmapped = pool.has.sectors.unmapped };
    };
    mode_is = pool.mode_is;
    holds = is;
    spare = pool.spare;
    works = pool.works;
    check = pool.check;
    settled = λ read_only. record { contents = (pool.settled read_only).contents; cells = (pool.settled read_only).cells };
    sound = record {
      block_sectors = pool.sound.block_sectors;
      shaped = pool.sound.shaped;
      lawful = record { unmapped = pool.sound.lawful.unmapped; shared = pool.sound.lawful.shared };
    };
    found = found;
    known = known;
  }

  pub hold_done : (old : Held M) (id blocks : ℕ) → id < 2 ^ 24 → is_failed old.mode ≡ false
      → ((now kept : Contents) → stands old.metadata old.disk now kept → Some blocks ≡ option_map (told_blocks (geometry old.metadata)) (size_of id now.volumes))
      → PoolCalled geometry stands old (record old { holders = old.holders ++ (record { volume = id; blocks = blocks }) ∷ [] }) (Hold id) Done
  hold_done old id blocks low works told =
      let h : Holding = record { volume = id; blocks = blocks } in
      let holders : List Holding = old.holders ++ h ∷ [] in
      let new : Held M = record old { holders = holders } in
      called_working laws old new (Hold id) Done works (at_once old.disk) refl (λ s now kept pool.
      let g = geometry old.metadata in
      let within = laws.within old.metadata old.disk now kept pool.standing in
      let size = size_told g now.volumes id blocks (told now kept pool.standing) in
      let some = exists_is old s now kept id true low pool (sym (ap is_some size.1) ∙ size_changes.told id now.volumes) in
      let made : PlainPool = record s { holds = holds_after s.holds (Hold id) Done } in
      let accepted = a_device s id (works_is old s now kept works pool) some in
      let holds = ap (λ (m : FinMap nat_cmp ℕ). holds_after m (Hold id) Done) pool.holds ∙ sym (holds_pushed old.holders h) in
      let known = known_pushed g within.limits old.holders id blocks size.0 s made.holds pool.holds holds (within.volumes_now.sized.told id size.0 size.1) size.2
      (pool.has.sizes id ∙ ap (option_map (told_sectors g)) size.1) pool.known in
      met_answered laws old new s made (Hold id) (inl (now, kept, pool)) accepted refl
      (inl (now, kept, reshown old now kept s holders made.holds holds pool (Makes-FindsHeld s (Hold id) made accepted refl pool.found) known)) refl refl)

  let_go_shown : (old : Held M) (s : PlainPool) (id : ℕ) (holders : List Holding) → holds_of holders ≡ holds_after (holds_of old.holders) (LetGo id) Done
      → LeftTold old.holders holders → shows geometry stands old s
      → shows geometry stands (record old { holders = holders }) (record s { holds = holds_after s.holds (LetGo id) Done })
  let_go_shown old s id holders holds left (inl w) =
      inl (
        w.0,
        w.1,
        reshown old w.0 w.1 s holders (holds_after s.holds (LetGo id) Done) (ap (λ (h : FinMap nat_cmp ℕ). holds_after h (LetGo id) Done) w.2.holds ∙ sym holds) w.2
            (Makes-FindsHeld s (LetGo id) (record s { holds = holds_after s.holds (LetGo id) Done }) refl refl w.2.found)
            (known_released (geometry old.metadata) old.holders holders s (holds_after s.holds (LetGo id) Done) w.2.holds
            (ap (λ (h : FinMap nat_cmp ℕ). holds_after h (LetGo id) Done) w.2.holds ∙ sym holds) left w.2.known),
      )
  let_go_shown old s id holders holds left (inr f) =
      inr (record { failed = f.failed; mode_is = f.mode_is; geometry_is = f.geometry_is; holds = ap (λ (h : FinMap nat_cmp ℕ). holds_after h (LetGo id) Done) f.holds ∙ sym holds; left = f.left })

  pub let_go_done : (old : Held M) (id : ℕ) (holders : List Holding) → holds_of holders ≡ holds_after (holds_of old.holders) (LetGo id) Done → LeftTold old.holders holders
      → PoolCalled geometry stands old (record old { holders = holders }) (LetGo id) Done
  let_go_done old id holders holds left =
      let new : Held M = record old { holders = holders } in
      called laws old new (LetGo id) Done (at_once old.disk) refl (λ s shown.
      let made : PlainPool = record s { holds = holds_after s.holds (LetGo id) Done } in
      met_answered laws old new s made (LetGo id) shown refl refl (let_go_shown old s id holders holds left shown) refl refl)
