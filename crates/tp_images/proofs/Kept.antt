-- What images in memory answer, and what they keep behind each call.
use Rattle.std.proofs.Common.{◌≡◌, ℕ, Bool, true, false, List, ◌∷◌, None, Some, Result, Ok, Err, refl, sym, ◌∙◌, ap, subst}
use Rattle.std.specs.Prelude.{IsTrue, bytes_eq, replicate}
use Rattle.std.specs.Bool.{OnFalse, OnTrue}
use Rattle.tp_model.specs.Sectors.{Sector, zero_sector}
use Rattle.tp_model.specs.Disk.{DiskState, fresh, seen, settled}
use Rattle.tp_model.proofs.DiskLaws.{seen-settled}
use Rattle.tp_model.proofs.DiskStopLaws.{AfterStop-seen}
use Rattle.tp_disk.specs.HandedOut.{IsHandedOut}
use Rattle.tp_disk.specs.Memory.{mem_state}
use Rattle.tp_disk.specs.declared.memory.MemDisk.{MemDisk}
use Rattle.tp_disk.specs.declared.opening.OpenError.{OpenError}
use Rattle.tp_images.specs.Deeds.{Answers, AreHonest, Closes, Deed, IsLeftBy, left_at}
use Rattle.tp_images.specs.Logs.{answer_deed}
use Rattle.tp_images.specs.Memory.{AreKept, AreShelved, HandsOver, IsHeldFor, IsNew, Puts, found}
use Rattle.tp_images.specs.declared.shelf.Stored.{Stored}
use Rattle.tp_images.specs.declared.way.Way.{Way}
use Rattle.tp_images.specs.declared.way.Way.TheVariants.{ToWrite, ToRead, ToMake}
use Rattle.tp_images.proofs.Shelved.{held_fresh, held_through, kept_closed, kept_taken, left_put, no_chosen, no_disk}

-- what is handed out
fresh_is_handed_out : (image : List Sector) (disk : DiskState) → disk ≡ fresh image → IsHandedOut disk
fresh_is_handed_out image disk e =
    subst IsHandedOut (sym e) (record { past = refl; failures = refl; flushes = refl; settled = λ honest. ap settled (sym (seen-settled image)) })

-- a call that is to open an image lets nothing be known of others that was not known before
other_before : (way : Way) (name : List ℕ) (answer : Result MemDisk OpenError) (deeds : List Deed) (n : List ℕ) (closed : DiskState) → bytes_eq n name ≡ false
    → left_at n (answer_deed way name mem_state answer ∷ deeds) ≡ Some closed → left_at n deeds ≡ Some closed
unfolding left_at
other_before way name (Ok disk) deeds n closed differ e = sym (no_chosen (bytes_eq n name) None (left_at n deeds) differ) ∙ e
other_before ToWrite name (Err error) deeds n closed differ e = e
other_before ToRead name (Err error) deeds n closed differ e = e
other_before ToMake name (Err error) deeds n closed differ e = sym (no_chosen (bytes_eq n name) None (left_at n deeds) differ) ∙ e

module _ (name : List ℕ) (deeds deeds' : List Deed) (old new : List Stored) (answer : Result MemDisk OpenError) (kept : AreKept deeds old) where
  pub kept_opened : (way : Way) (bytes : List ℕ) → bytes ≡ name → deeds' ≡ answer_deed way name mem_state answer ∷ deeds → HandsOver bytes old new answer → AreKept deeds' new
  kept_opened way bytes same e over =
      kept_taken deeds deeds' name old new (subst (λ b. Puts b None old new) same over.0) kept
      (λ n closed no left. other_before way name answer deeds n closed no (sym (ap (left_at n) e) ∙ left))

lasts_kept : (name : List ℕ) (deeds : List Deed) (old : List Stored) (disk stored : MemDisk) (closed : DiskState) → AreKept deeds old → found name old ≡ Some stored
    → mem_state disk ≡ fresh (seen (mem_state stored).cells) → left_at name deeds ≡ Some closed → IsTrue closed.is_honest → IsLeftBy closed (mem_state disk)
lasts_kept name deeds old disk stored closed kept there is left honest =
    let held : IsHeldFor closed (mem_state disk) = held_through (kept name stored closed there left honest) (held_fresh stored (seen (mem_state stored).cells) (mem_state disk) is (AfterStop-seen (mem_state stored).cells)) in
    record { honest = held.honest; size = held.size; image = held.leaves (seen (mem_state disk).cells) (AfterStop-seen (mem_state disk).cells) }

pub answers_to_write : (name bytes : List ℕ) (deeds deeds' : List Deed) (old new : List Stored) (answer : Result MemDisk OpenError) → AreKept deeds old → bytes ≡ name
    → deeds' ≡ answer_deed ToWrite name mem_state answer ∷ deeds → HandsOver bytes old new answer → Answers ToWrite name deeds deeds' mem_state answer
answers_to_write name bytes deeds deeds' old new (Err error) kept same e over = e
answers_to_write name bytes deeds deeds' old new (Ok disk) kept same e over =
    record {
      deeds = e;
      handed_out = fresh_is_handed_out (seen (mem_state over.1.0).cells) (mem_state disk) over.1.2;
      lasts = λ closed left honest. lasts_kept name deeds old disk over.1.0 closed kept (ap (λ b. found b old) (sym same) ∙ over.1.1) over.1.2 left honest;
    }

pub answers_to_read : (name bytes : List ℕ) (deeds deeds' : List Deed) (old new : List Stored) (answer : Result MemDisk OpenError) → AreKept deeds old → bytes ≡ name
    → deeds' ≡ answer_deed ToRead name mem_state answer ∷ deeds → HandsOver bytes old new answer → Answers ToRead name deeds deeds' mem_state answer
answers_to_read name bytes deeds deeds' old new (Err error) kept same e over = e
answers_to_read name bytes deeds deeds' old new (Ok disk) kept same e over =
    record {
      deeds = e;
      handed_out = fresh_is_handed_out (seen (mem_state over.1.0).cells) (mem_state disk) over.1.2;
      lasts = λ closed left honest. lasts_kept name deeds old disk over.1.0 closed kept (ap (λ b. found b old) (sym same) ∙ over.1.1) over.1.2 left honest;
    }

pub answers_to_make : (name bytes : List ℕ) (deeds deeds' : List Deed) (old new : List Stored) (sectors : ℕ) (answer : Result MemDisk OpenError)
    → deeds' ≡ answer_deed ToMake name mem_state answer ∷ deeds → IsNew bytes old new sectors answer → Answers ToMake name deeds deeds' mem_state answer
answers_to_make name bytes deeds deeds' old new sectors (Err error) e is = e
answers_to_make name bytes deeds deeds' old new sectors (Ok disk) e is = record { deeds = e; handed_out = fresh_is_handed_out (replicate sectors zero_sector) (mem_state disk) is.1; lasts = tt }

pub kept_made : (name bytes : List ℕ) (deeds deeds' : List Deed) (old new : List Stored) (sectors : ℕ) (answer : Result MemDisk OpenError) → AreKept deeds old → bytes ≡ name
    → deeds' ≡ answer_deed ToMake name mem_state answer ∷ deeds → IsNew bytes old new sectors answer → AreKept deeds' new
unfolding left_at
kept_made name bytes deeds deeds' old new sectors (Ok disk) kept same e is =
    kept_taken deeds deeds' name old new (subst (λ b. Puts b None old new) same is.0) kept
    (λ n closed no left. other_before ToMake name (Ok disk) deeds n closed no (sym (ap (left_at n) e) ∙ left))
kept_made name bytes deeds deeds' old new sectors (Err error) kept same e is = λ n disk closed at left honest.
    left_put (bytes_eq n name) None (left_at n deeds) closed (sym (ap (left_at n) e) ∙ left) (λ yes none. no_disk closed none)
    (λ no there. kept n disk closed (sym (ap (found n) is) ∙ at) there honest)

pub kept_given_back : (name bytes also : List ℕ) (deeds deeds' : List Deed) (old between new : List Stored) (disk : MemDisk) (done : Bool) → AreKept deeds old → bytes ≡ name → also ≡ name
    → deeds' ≡ Closes name (mem_state disk) ∷ deeds → Puts bytes None old between → OnTrue done (Puts also (Some disk) between new) → OnFalse done (new ≡ between) → AreKept deeds' new
unfolding left_at
kept_given_back name bytes also deeds deeds' old between new disk true kept same again e takes puts full =
    let taken = kept_taken deeds deeds name old between (subst (λ b. Puts b None old between) same takes) kept (λ n closed no left. left) in
    subst (λ (d : List Deed). AreKept d new) (sym e) (kept_closed deeds name disk between new (subst (λ b. Puts b (Some disk) between new) again puts) taken)
kept_given_back name bytes also deeds deeds' old between new disk false kept same again e takes puts full =
    subst (λ (l : List Stored). AreKept deeds' l) (sym full) (kept_taken deeds deeds' name old between (subst (λ b. Puts b None old between) same takes) kept
    (λ n closed no left. sym (no_chosen (bytes_eq n name) (Some (mem_state disk)) (left_at n deeds) no) ∙ sym (ap (left_at n) e) ∙ left))

-- ---- and what was handed out is honest

honest_answer : (way : Way) (name : List ℕ) (answer : Result MemDisk OpenError) (deeds : List Deed) → AreHonest deeds → AreHonest (answer_deed way name mem_state answer ∷ deeds)
honest_answer way name (Ok disk) deeds all = (disk.honest, all)
honest_answer way name (Err error) deeds all = (tt, all)

pub shelved_answered : (way : Way) (name : List ℕ) (answer : Result MemDisk OpenError) (deeds deeds' : List Deed) (old new : List Stored) → deeds' ≡ answer_deed way name mem_state answer ∷ deeds → AreShelved deeds old
    → AreKept deeds' new → AreShelved deeds' new
shelved_answered way name answer deeds deeds' old new e was kept = record { kept = kept; honest = subst AreHonest (sym e) (honest_answer way name answer deeds was.honest) }

pub shelved_closed : (name : List ℕ) (disk : DiskState) (deeds deeds' : List Deed) (old new : List Stored) → deeds' ≡ Closes name disk ∷ deeds → AreShelved deeds old → AreKept deeds' new → AreShelved deeds' new
shelved_closed name disk deeds deeds' old new e was kept = record { kept = kept; honest = subst AreHonest (sym e) (tt, was.honest) }
