-- The life of a pool that is open is that of each plain pool that it is just.
use Rattle.std.proofs.Common.{◌≡◌, inl, inr, ◌≤◌, false, List, [], Option, Some, None, refl, sym, ap, subst, ◌∙◌}
use Rattle.std.specs.Prelude.{IsTrue}
use Rattle.std.proofs.lemmas.Option.{none-some, same_Some}
use Rattle.tp_model.specs.Sectors.{Sector}
use Rattle.tp_model.specs.Pool.{PlainPool}
use Rattle.tp_model.specs.declared.mode.Mode.{Mode}
use Rattle.tp_model.specs.declared.mode.Mode.TheVariants as mode
use Rattle.std.proofs.lemmas.Bool.{false≢true}
use Rattle.tp_cache.specs.Line.{IsLine}
use Rattle.tp_model.specs.Calls.{Answer, Close, Done, MayAnswer, is_failed, may_accept, mode_after}
use Rattle.tp_model.specs.PoolStops.{MayBeLeftSince, keeps, reopened}
use Rattle.tp_model.specs.Clauses.{Continues, Entry, HasTrace, IsAnswered, IsOpened, Traced, View, ViewLaws, events_of, found_now, traced}
use Rattle.tp_model.specs.Disk.{Cell, DiskState, IsSettled, seen}
use Rattle.tp_model.specs.DiskStops.{AfterStop, StoppedSince, moment}
use Rattle.tp_model.proofs.DiskStopLaws.{AfterStop-seen, settled_keeps}
use Rattle.tp_model.proofs.Moments.{stopped_at, stopped_longer}
use Rattle.tp_model.proofs.Running.{goes_on, starts, stays}
use Rattle.tp_model.proofs.PoolStopLaws.{MayBeLeftSince-settled}
use Rattle.nbd_session.specs.Turns.{closed}
use Rattle.tp_hub.specs.Serving.{HubState, Slots, sessions_of}
use Rattle.tp_images.specs.Deeds.{IsLeftBy}
use Rattle.tp_hub.specs.Desks.{AreAsked, Exchange}
use Rattle.tp_hub.specs.Serve.{HubRuns}
use Rattle.tp_hub.proofs.Tracing.{asks_go}
use Rattle.tp_meta.specs.declared.whole.Meta.{Meta}
use Rattle.tp_meta.specs.Standing.{StandsFor, changed_of, geometry_of, marks_of, room_of}
use Rattle.tp_meta.specs.Framing.{stands_bounded, stands_one, stands_trees, stands_within}
use Rattle.tp_pool.specs.Held.{shows}
use Rattle.tp_pool.proofs.Ranges.{law_within}
use Rattle.tp_served.specs.Served.{Cached, cached, disk_of, laws, on_cache}
use Rattle.tp_commands.specs.First.{IsFirst}
use Rattle.tp_commands.specs.Opening.{IsOpenedOn}
use Rattle.tp_commands.specs.Lives.{EndsPlainly, HandsBack, IsFirstLife, IsFoundAs, IsKept, IsLifeOn, IsPlainLife}
use Rattle.tp_commands.specs.Living.{IsJust, IsLived, IsOfClosing, IsOver}
use Rattle.tp_commands.proofs.Ending.{close_traced}

abbrev said : View (Cached Meta)
said = cached geometry_of StandsFor marks_of room_of changed_of

-- the laws of all that is said of the program's pools
pub said_laws : ViewLaws (cached geometry_of StandsFor marks_of room_of changed_of)
said_laws = laws geometry_of StandsFor marks_of room_of changed_of (λ m disk now kept p st has. stands_trees m disk now kept p st has) (law_within stands_within)
    (λ m disk now kept st. stands_bounded m disk now kept st) (λ m disk now kept next last st then. stands_one m disk now kept next last st then)

-- ---- how it ends

-- What is known behind the last call: that closing keeps, where it was done.
abbrev Keeps : Option Answer → Traced → DiskState → Type 0
Keeps answer over after = answer ≡ Some Done → IsKept over.pool after

record Ended (opened last : Cached Meta) (s : PlainPool) (t : Traced) (answer : Option Answer) (after : DiskState) : Type 0 where
  pub new : Cached Meta
  pub disk_is : disk_of new ≡ after
  pub over : Traced
  pub ends : EndsPlainly t answer over
  pub has : HasTrace said opened s new over
  pub goes : Continues said opened s last t new over
  pub line : IsLine new.cache.line
  pub kept : Keeps answer over after

-- a pool that has not failed has an honest disk
pub honest_at : (new : Cached Meta) (s : PlainPool) → IsLine new.cache.line → said.shows new s → is_failed s.mode ≡ false → IsTrue (disk_of new).is_honest
honest_at new s line (inl (now, kept, pool)) works = let twin = line.twin in twin.is_honest ∙ pool.standing.honest
honest_at new s line (inr failed) works = absurd (false≢true (sym works ∙ ap is_failed failed.mode_is))

-- closing is not done in a failed pool
not_failed : (m m' : Mode) (answer : Answer) → answer ≡ Done → MayAnswer m Close answer → m' ≡ mode_after m Close answer → m' ≡ mode.Failed → ⊥
not_failed m m' answer done may after failed =
    let may_it : IsTrue (may_accept m Close) = subst (λ (a : Answer). MayAnswer m Close a) done may in
    let same : m' ≡ m = subst (λ (a : Answer). m' ≡ mode_after m Close a) done after in
    let none : IsTrue (may_accept mode.Failed Close) = subst (λ (k : Mode). IsTrue (may_accept k Close)) (sym same ∙ failed) may_it in
    false≢true none

-- where closing was done the disk is honest
honest_behind : (last new : Cached Meta) (s : PlainPool) (answer : Answer) → answer ≡ Done → IsLine new.cache.line → IsAnswered said last new Close answer → said.shows new s
    → IsTrue (disk_of new).is_honest
honest_behind last new s answer done line answered (inl (now, kept, pool)) = let twin = line.twin in twin.is_honest ∙ pool.standing.honest
honest_behind last new s answer done line answered (inr failed) =
    absurd (not_failed (said.outline last).mode (said.outline new).mode answer done answered.may answered.mode failed.failed)

-- the image on a disk of which nothing is lost by a stop
found_there : (opened new : Cached Meta) (s : PlainPool) (over : Traced) (after : DiskState) → disk_of new ≡ after → HasTrace said opened s new over
    → ((P : PlainPool) → found_now said new P → P ≡ reopened over.pool) → IsFoundAs (λ P. P ≡ reopened over.pool) (seen after.cells)
found_there opened new s over after is has only =
    let stop : said.may_leave new (seen after.cells) = subst (λ (d : DiskState). AfterStop d.cells (seen after.cells)) (sym is) (AfterStop-seen after.cells) in
    let opens = has.opens (seen after.cells) (said_laws.at_now new (seen after.cells) stop) in
    record {
      is_pool = opens.1.0;
      found = opens.0;
      stands_for = opens.1.1;
      only = λ P stands. only P (seen after.cells, stop, (opens.1.0, stands));
    }

ends_so : (opened last : Cached Meta) (s : PlainPool) (t : Traced) (answer : Option Answer) (after : DiskState) → HasTrace said opened s last t → HandsBack last answer after
    → IsOfClosing answer → (answer ≡ None → IsLine last.cache.line) → (answer ≡ Some Done → (p : PlainPool) → shows geometry_of StandsFor (on_cache last) p → IsSettled after.cells) → Ended opened last s t answer after
ends_so opened last s t None after has back known line settled = record {
  new = last;
  disk_is = sym back;
  over = t;
  ends = refl;
  has = has;
  goes = stays said said_laws opened s last t has;
  line = line refl;
  kept = λ same. absurd (none-some Done same);
}
ends_so opened last s t (Some answer) after has back known line settled =
    let x = close_traced said said_laws opened s last back.new t Close answer known has back.called back.answered in
    record {
      new = back.new;
      disk_is = back.disk_is;
      over = x.0;
      ends = x.1;
      has = x.2;
      goes = x.3;
      line = back.line;
      kept = λ same.
          let done = same_Some answer Done same in
          record {
            honest = subst (λ (d : DiskState). IsTrue d.is_honest) back.disk_is (honest_behind last back.new x.0.pool answer done back.line back.answered x.2.shown);
            settled = settled same t.pool has.shown;
            found = found_there opened back.new s x.0 after back.disk_is x.2 (x.4 (subst (λ (a : Answer). IsTrue (keeps Close a)) (sym done) refl));
          };
    }

-- ---- a whole life

module _ (begun ended : HubState (Cached Meta)) (asks : List Exchange) (answer : Option Answer) (after : DiskState) (asked : AreAsked (HubRuns said) begun asks ended)
    (over : IsOver ended answer after) where
  plainly : (s : PlainPool) → IsJust said begun.pool s → IsPlainLife s begun.slots ended.slots asks answer (disk_of begun.pool) after
  plainly s just =
      let start = begun.pool in
      let first = starts said said_laws start s just.shown just.opens in
      let one = asks_go said said_laws begun ended asks asked start s (traced s []) first in
      let two = over.traced start s one.0 one.2 in
      let three = ends_so start over.last s two.0 answer after two.2 over.back over.known over.line over.settled in
      let far = goes_on said said_laws start s start ended.pool over.last (traced s []) one.0 two.0 one.3 two.3 in
      let all = goes_on said said_laws start s start over.last three.new (traced s []) two.0 three.over far three.goes in
      let behind : (image : List Sector) → StoppedSince (moment (disk_of start)) after image → said.left_since three.new (said.moment start) image =
      λ image stop. subst (λ (d : DiskState). StoppedSince (moment (disk_of start)) d image) (sym three.disk_is) stop in
      record {
        mid = one.0;
        left = two.0;
        over = three.over;
        asked = one.1;
        leave = two.1;
        ends = three.ends;
        is_trace = three.has.is_trace;
        failures = ap (λ (d : DiskState). d.failures) (sym three.disk_is) ∙ three.has.failures_are;
        later = subst (λ (d : DiskState). moment (disk_of start) ≤ moment d) three.disk_is all.time.later;
        any_moment = λ image stop.
            let opens = all.opens image (behind image stop) in
            record {
              is_pool = opens.1.0;
              found = opens.0;
              stands_for = opens.1.1;
              only = λ P stands. subst (λ (es : List Entry). MayBeLeftSince (λ S. ⊥) s [] (events_of es) P) (sym all.trace_is)
                  (MayBeLeftSince-settled (found_now said start) s [] (events_of all.since) P just.left (all.left P (image, behind image stop, (opens.1.0, stands))));
            };
        honest = λ works. subst (λ (d : DiskState). IsTrue d.is_honest) three.disk_is (honest_at three.new three.over.pool three.line three.has.shown works);
        kept = three.kept;
      }

  pub lived : (opened : Cached Meta) → begun.pool ≡ opened → sessions_of begun.slots ≡ closed → IsLived opened asks answer after
  lived opened is none = record {
    life = record { begun = begun; pool_is = is; no_session = none; ended = ended; asked = asked; last = over.last; leave = over.leave; back = over.back };
    plainly = λ s just. subst (λ (p : Cached Meta). IsPlainLife s begun.slots ended.slots asks answer (disk_of p) after) is
        (plainly s (subst (λ (p : Cached Meta). IsJust said p s) (sym is) just));
  }

-- a pool that was opened from an image is just each pool for which that stands
pub just_opened : {D : Type 0} (view : View D) (image : view.Image) (pool : D) (s : PlainPool) → IsOpened view image pool → view.stands_for image s → IsJust view pool s
just_opened view image pool s is stands = record { shown = is.shows s stands; opens = is.opens s stands; left = λ S found. is.left s S stands found }

-- what lived where it was opened on a disk
pub lived_on : (before after : DiskState) (asks : List Exchange) (answer : Option Answer) (opened : Cached Meta) → IsOpenedOn before opened → IsLived opened asks answer after → IsLifeOn before after asks answer
lived_on before after asks answer opened opening l = record {
  opened = opened;
  opening = opening;
  life = l.life;
  plainly = λ honest s is stands. subst (λ (d : DiskState). IsPlainLife s l.life.begun.slots l.life.ended.slots asks answer d after) opening.disk_is
      (l.plainly s (just_opened said (seen before.cells) opened s (opening.opened honest) (is, stands)));
}

-- and where it was the first pool
pub lived_first : (after : DiskState) (asks : List Exchange) (answer : Option Answer) (opened : Cached Meta) (s : PlainPool) → IsFirst s → IsJust said opened s → IsLived opened asks answer after
    → IsFirstLife asks answer
lived_first after asks answer opened s first just l = record { opened = opened; after = after; life = l.life; s = s; first = first; plainly = l.plainly s just }

-- ---- from one opening to the next

-- what a life left is opened as what may be found behind it
pub found_again : (s : PlainPool) (begun ended : Slots) (asks : List Exchange) (answer : Option Answer) (before after disk : DiskState) → (l : IsPlainLife s begun ended asks answer before after)
    → IsLeftBy after disk → IsFoundAs (MayBeLeftSince (λ S. ⊥) s [] (events_of l.over.trace)) (seen disk.cells)
found_again s begun ended asks answer before after disk l left =
    l.any_moment (seen disk.cells) (stopped_longer (seen disk.cells) after (moment before) (moment after) l.later (stopped_at (seen disk.cells) after left.image))

-- and what closing kept is found
pub kept_again : (s : PlainPool) (shut disk : DiskState) → IsKept s shut → IsLeftBy shut disk → IsFoundAs (λ P. P ≡ reopened s) (seen disk.cells)
kept_again s shut disk kept left =
    let same : seen disk.cells ≡ seen shut.cells = settled_keeps (seen shut.cells) (seen disk.cells) (subst (λ (cells : List Cell). AfterStop cells (seen disk.cells)) kept.settled left.image) in
    subst (λ (image : List Sector). IsFoundAs (λ P. P ≡ reopened s) image) (sym same) kept.found
