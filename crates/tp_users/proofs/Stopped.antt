-- What a stop leaves is clean, and what is clean is opened.
use Rattle.std.proofs.Common.{◌≡◌, ◌≢◌, ◌⊎◌, ◌+◌, Bool, true, false, inl, inr, List, Result, Ok, Err, refl, sym, ap, ◌∙◌, subst, arith}
use Rattle.std.specs.Prelude.{IfErr, IfOk, IsTrue, MatchResult, not}
use Rattle.std.proofs.lemmas.Bool.{false≢true}
use Rattle.tp_model.specs.Geometry.{Geometry}
use Rattle.tp_model.specs.Sectors.{Sector}
use Rattle.tp_model.specs.Pool.{PlainPool}
use Rattle.tp_model.specs.declared.refusal.Refusal.{Refusal}
use Rattle.tp_model.specs.declared.refusal.Refusal.TheVariants as refusals
use Rattle.tp_model.specs.Refusals.{is_fault_refusal}
use Rattle.tp_model.specs.Disk.{DiskState, FaultHasCause, IsSettled, after_read, fresh, seen}
use Rattle.tp_model.specs.DiskStops.{AfterStop}
use Rattle.tp_model.proofs.DiskLaws.{seen-settled}
use Rattle.tp_layout.specs.declared.superblock.Superblock.{Superblock}
use Rattle.tp_image.specs.Clean.{IsClean}
use Rattle.tp_image.specs.Stands as images
use Rattle.tp_check.specs.declared.error.CheckError.{CheckError}
use Rattle.tp_check.specs.declared.error.CheckError.TheVariants.{BadCount, BadMapped, BadNode, BadOrder, BadRecordSize, BadSuper, Fault, HalfEmpty, Memory, OutOfPlace}
use Rattle.tp_check.specs.Errors.{is_fault_error, refusal_of}
use Rattle.tp_refs.specs.Store.{Store}
use Rattle.tp_stored.specs.Commit.{IsCommit}
use Rattle.tp_stored.specs.Contents.{Contents, HoldsContents}
use Rattle.tp_stored.specs.Laws.{CleanStandForOpened}
use Rattle.tp_meta.specs.Standing.{StandsFor, changed_of, geometry_of, marks_of, room_of}
use Rattle.tp_meta.specs.declared.whole.Meta.{Meta}
use Rattle.tp_pool.specs.Held.{Held, IsPool, IsSomePool, shows}
use Rattle.tp_users.specs.Left.{IsFormatted, IsLeft, SaysNoPool, at_rest}
use Rattle.tp_users.specs.Users.{IsOutside, StandsForOne}
use Rattle.tp_users.proofs.Outside.{outside}

abbrev pub CommitsAreClean : Type 0
CommitsAreClean = (image : List Sector) (superblock : Superblock) (s : Store) → IsCommit image superblock s → IsClean image

pub pool_is_clean : CommitsAreClean → (g : Geometry) (image : List Sector) → IsPool g image → IsClean image
pool_is_clean law g image p = law image p.1.0 p.1.1 p.1.2

-- where formatting leaves a pool, it is a clean one
pub between_is_clean : CommitsAreClean → (g made : Geometry) (s : PlainPool) (image : List Sector) → IsFormatted g s made image → (SaysNoPool image → ⊥) → IsClean image
between_is_clean law g made s image (inl old) some = pool_is_clean law g image old.0
between_is_clean law g made s image (inr (inl none)) some = absurd (some none)
between_is_clean law g made s image (inr (inr new)) some = pool_is_clean law made image new.0

abbrev IsLeftOnTrees : List Sector → Type 0
IsLeftOnTrees image = IsLeft geometry_of StandsFor marks_of room_of changed_of image

-- a disk with the image that a stop left
pub stopped_is_left : (h : Held Meta) (s : PlainPool) (image : List Sector) (disk : DiskState) → disk ≡ fresh image → shows geometry_of StandsFor h s → AfterStop h.disk.cells image
    → IsTrue disk.is_honest × IsLeftOnTrees (seen disk.cells)
stopped_is_left h s image disk is shown stop =
    subst (λ (d : DiskState). IsTrue d.is_honest × IsLeftOnTrees (seen d.cells)) (sym is) (refl, subst IsLeftOnTrees (sym (seen-settled image)) (at_rest h s shown stop))

-- what a check tells of a clean image on an honest disk
pub clean_told : {Honest Clean : Type 0} (r : Result (Unit {0}) CheckError) → IfErr r (λ e. Honest → Clean → (e ≡ Fault) ⊎ (e ≡ Memory)) → Honest → Clean
    → IfErr r (λ e. (e ≡ Fault) ⊎ (e ≡ Memory))
clean_told (Ok x) told honest clean = tt
clean_told (Err e) told honest clean = told honest clean

-- ---- opening what was checked

pub any_ok : {A E : Type 0} {Q : A → Type 0} (r : Result A E) → ((a : A) → Q a) → IfOk r Q
any_ok (Ok a) f = f a
any_ok (Err e) f = tt

abbrev OnePool : Type 0
OnePool = (image : List Sector) (P Q : PlainPool) → (g : Geometry) × IsPool g image → images.StandsFor image P → images.StandsFor image Q → P ≡ Q

abbrev Finds : (PlainPool → Type 0) → DiskState → Type 0
Finds Shown d = IsTrue d.is_honest → IsSettled d.cells → IsSomePool (seen d.cells) → (s : PlainPool) × images.StandsFor (seen d.cells) s × Shown s

-- A clean image stands for one pool, which opening finds.
pub found_alone : (Shown : PlainPool → Type 0) (old d : DiskState) → CleanStandForOpened → OnePool → d ≡ old → (IsTrue old.is_honest → IsClean (seen old.cells)) → Finds Shown d
    → IsTrue old.is_honest → IsSettled old.cells → (s : PlainPool) × StandsForOne (seen old.cells) s × Shown s
found_alone Shown old d law one same clean found honest settled =
    let is = law (seen old.cells) (clean honest) in
    let some : IsSomePool (seen old.cells) = (is.0, (is.1, is.2)) in
    let f = subst (Finds Shown) same found honest settled some in
    (f.0, record { stands = f.1; alone = λ other stands. one (seen old.cells) other f.0 some stands f.1 }, f.2)

abbrev IsNotThere : Refusal → DiskState → Type 0
IsNotThere r d = r ≢ refusals.Fault → r ≢ refusals.Memory → IsTrue d.is_honest → (g : Geometry) (c : Contents) → HoldsContents g c (seen d.cells) → ⊥

-- Opening refuses a clean image for no fault of its own.
pub opened_if_clean : (r : Refusal) (old d : DiskState) → CleanStandForOpened → d ≡ old → IsNotThere r d → IsTrue old.is_honest → IsClean (seen old.cells) → IsOutside r
opened_if_clean r old d law same refused honest clean =
    let is = law (seen old.cells) clean in
    let bad = subst (IsNotThere r) same refused in
    outside r (λ no_fault some. bad no_fault some honest is.0 is.1 is.2)

pub told_outside : (e : CheckError) (r : Refusal) → r ≡ refusal_of e → (e ≡ Fault) ⊎ (e ≡ Memory) → IsOutside r
told_outside e r is (inl fault) = inr (is ∙ ap refusal_of fault)
told_outside e r is (inr memory) = inl (is ∙ ap refusal_of memory)

fault_alike : (e : CheckError) → is_fault_error e ≡ is_fault_refusal (refusal_of e)
fault_alike Fault = refl
fault_alike Memory = refl
fault_alike BadSuper = refl
fault_alike BadNode = refl
fault_alike BadOrder = refl
fault_alike BadCount = refl
fault_alike OutOfPlace = refl
fault_alike HalfEmpty = refl
fault_alike BadMapped = refl
fault_alike BadRecordSize = refl

pub error_cause : (e : CheckError) (r : Refusal) (old new : DiskState) → r ≡ refusal_of e → FaultHasCause (is_fault_error e) old new → FaultHasCause (is_fault_refusal r) old new
error_cause e r old new is cause = subst (λ b. FaultHasCause b old new) (fault_alike e ∙ ap is_fault_refusal (sym is)) cause

read_cause : (b : Bool) (old new : DiskState) → new ≡ after_read (not b) old → FaultHasCause b old new
read_cause true old new is =
    let more : new.failures ≡ old.failures + 1 = ap (λ (d : DiskState). d.failures) is in
    record { no_fewer = omega (arith, more); more = λ yes. omega (arith, more); none = λ other. absurd (false≢true other) }
read_cause false old new is =
    let same : new.failures ≡ old.failures = ap (λ (d : DiskState). d.failures) is in
    record { no_fewer = omega (arith, same); more = λ other. absurd (false≢true other); none = λ unused. same }

pub either_cause : {A D : Type 0} (disk_of : A → DiskState) (state : D → DiskState) (r : Result A (Refusal × D)) (old new : DiskState) → new ≡ old → IfOk r (λ a. disk_of a ≡ new)
    → IfErr r (λ back. state back.1 ≡ after_read (not (is_fault_refusal back.0)) new) → MatchResult r (λ a. FaultHasCause false old (disk_of a)) (λ back. FaultHasCause (is_fault_refusal back.0) old (state back.1))
either_cause disk_of state (Ok a) old new same there back = read_cause false old (disk_of a) (there ∙ same)
either_cause disk_of state (Err e) old new same there back = read_cause (is_fault_refusal e.0) old (state e.1) (back ∙ ap (after_read (not (is_fault_refusal e.0))) same)
