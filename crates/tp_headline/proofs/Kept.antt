-- From one command on an image to the next: the plain pool for which the image stands.
use Rattle.std.proofs.Common.{◌≡◌, ◌≢◌, ◌⊎◌, inl, inr, ℕ, Bool, true, false, List, ◌∷◌, Option, Some, None, Result, Ok, Err, refl, sym, ap, subst, ◌∙◌}
use Rattle.std.specs.Prelude.{IsTrue, MatchBool, MatchResult, bytes_eq, is_ok, if◌then◌else◌}
use Rattle.std.proofs.lemmas.Bool.{false≢true}
use Rattle.std.proofs.lemmas.Slice.Eq.{bytes_eq-Decides}
use Rattle.tp_model.specs.declared.refusal.Refusal.{Refusal}
use Rattle.tp_model.specs.declared.refusal.Refusal.TheVariants.{Fault, Memory, NoMetadataSpace}
use Rattle.tp_model.specs.Sectors.{Sector}
use Rattle.tp_model.specs.Geometry.{Geometry, IsWithinLimits}
use Rattle.tp_model.specs.Pool.{PlainPool}
use Rattle.tp_model.specs.Status.{pool_line, volume_line}
use Rattle.tp_model.specs.Calls.{Answer, Call, Done, Line, Refused, Status, after_refusal, is_failed, reply}
use Rattle.tp_model.specs.PoolStops.{MayReopen, Nothing, keeps, reopened}
use Rattle.tp_model.specs.Clauses.{Meets, OpensSince, View, found_now}
use Rattle.tp_model.specs.Disk.{Cell, DiskState, seen}
use Rattle.tp_model.specs.DiskStops.{AfterStop}
use Rattle.tp_model.proofs.DiskStopLaws.{settled_keeps}
use Rattle.tp_model.proofs.Found.{MayReopen-nothing}
use Rattle.tp_image.specs.Fresh.{IsFreshOf, empty_pool}
use Rattle.tp_image.specs.Stands as images
use Rattle.tp_msg.specs.Messages.{reading}
use Rattle.tp_msg.specs.declared.message.Message.{Message}
use Rattle.tp_msg.specs.declared.message.Message.TheVariants as orders
use Rattle.tp_hub.specs.Desks.{Exchange}
use Rattle.tp_msg.specs.Asked.{call_of}
use Rattle.tp_hub.specs.Streams.{Makes, StreamCall}
use Rattle.tp_hub.specs.declared.client.Carried.{Carried}
use Rattle.tp_images.specs.Deeds.{Closes, Deed, IsLeftBy, Opens, left_at}
use Rattle.tp_images.specs.declared.way.Way.TheVariants.{ToMake, ToRead, ToWrite}
use Rattle.tp_tasks.specs.declared.task.Sizes.{Sizes}
use Rattle.tp_meta.specs.declared.whole.Meta.{Meta}
use Rattle.tp_meta.specs.Standing.{StandsFor, changed_of, geometry_of, marks_of, room_of}
use Rattle.tp_pool.specs.Held.{IsSomePool}
use Rattle.tp_served.specs.Served.{Cached, cached, disk_of}
use Rattle.tp_commands.specs.Images.{FormatsOn, FormatsOver, GivesOn, IsFormatted, IsLetGo, IsMadeOn, IsMessageGiven, IsStatusTold, TellsOn, sizes_asked}
use Rattle.tp_commands.specs.Lives.{IsFoundAs, IsLifeOn, closing_of}
use Rattle.tp_commands.specs.Opening.{IsOpenedOn, IsRefusedOn}
use Rattle.tp_commands.specs.Printing.{IsTextOf, PrintsCall, status_call}
use Rattle.tp_lines.specs.declared.play.Stopped.{Stopped}
use Rattle.tp_lines.specs.declared.play.Stopped.TheVariants as stopped
use Rattle.nbd_session.specs.declared.phase.Profile.{Profile}
use Rattle.tp_lines.specs.Plays.{PlaysScript}
use Rattle.tp_lines.specs.ReadLines.{one_more}
use Rattle.tp_commands.specs.declared.scripts.Unplayed.TheVariants.{BadLine}
use Rattle.tp_commands.specs.Scripts.{IsTold, PlaysImage, PlaysOn, is_bad}
use Rattle.tp_commands.specs.Serving.{FeedsImage, FeedsOn, IsFed, ServesImage, ServesOn, told_behind, told_of, told_of_clients}
use Rattle.tp_headline.specs.Users.{IsAccepted, IsLivedOn, IsMadeHonest, IsTurnedDown, IsUnread, KeepsPool}
use Rattle.tp_headline.proofs.Accepted.{IsNoRefusal, Stays, accepted, rested, turned}
use Rattle.tp_commands.proofs.Living.{just_opened, said_laws}

abbrev said : View (Cached Meta)
said = cached geometry_of StandsFor marks_of room_of changed_of

-- ---- small

pub refused_ok : {A E P : Type 0} (x : A) (reason : E) → Ok x ≡ Err reason → P
refused_ok {A} {E} x reason e = absurd (false≢true (sym (ap (λ (r : Result A E). is_ok r) e)))

chosen : {A : Type 0} (b : Bool) (x y : A) → b ≡ true → (if b then x else y) ≡ x
chosen true x y e = refl
chosen false x y e = absurd (false≢true e)

-- what was closed last is what was left
left_closed : (name : List ℕ) (disk : DiskState) (old new : List Deed) → new ≡ Closes name disk ∷ old → left_at name new ≡ Some disk
unfolding left_at
left_closed name disk old new e = ap (left_at name) e ∙ chosen (bytes_eq name name) (Some disk) (left_at name old) ((bytes_eq-Decides name name).1 refl)

-- what has a text is no refusal
text_accepts : (answer : Answer) (text : List ℕ) → IsTextOf answer text → IsNoRefusal answer
text_accepts answer text h reason e = subst (λ (a : Answer). IsTextOf a text) e h

-- closing was done, where all was
closed_done : (closing told : Result (Unit {0}) Refusal) → Ok (tt {0}) ≡ told_behind closing told → closing_of closing ≡ Done
closed_done (Ok done) told e = refl
closed_done (Err reason) told e = refused_ok tt reason e

-- which refusal it is
abbrev refusal_or : Result (Unit {0}) Refusal → Refusal → Refusal
refusal_or (Ok done) other = other
refusal_or (Err reason) other = reason

refusals_same : (reason other : Refusal) → ◌≡◌ {A = Result (Unit {0}) Refusal} (Err reason) (Err other) → reason ≡ other
refusals_same reason other e = ap (λ (r : Result (Unit {0}) Refusal). refusal_or r reason) e

-- what is told of an accepted call is no refusal
abbrev is_refusal : Answer → Bool
is_refusal (Refused reason) = true
is_refusal answer = false

done_stands : IsNoRefusal Done
done_stands reason e = false≢true (ap is_refusal e)

line_stands : (bytes : List ℕ) → IsNoRefusal (Line bytes)
line_stands bytes reason e = false≢true (ap is_refusal e)

message_plain : (s : PlainPool) (m : Message) → IsNoRefusal (reply s (call_of m)) × IsTrue (keeps (call_of m) (Refused NoMetadataSpace))
message_plain s (orders.CreateThin id) = (done_stands, refl)
message_plain s (orders.CreateSnap id origin) = (done_stands, refl)
message_plain s (orders.Delete id) = (done_stands, refl)
message_plain s (orders.SetTransactionId current next) = (done_stands, refl)
message_plain s (orders.Grow id blocks) = (done_stands, refl)
message_plain s orders.ReserveMetadataSnap = (done_stands, refl)
message_plain s orders.ReleaseMetadataSnap = (done_stands, refl)

status_plain : (s : PlainPool) (id : Option ℕ) → IsNoRefusal (reply s (status_call id)) × IsTrue (keeps (status_call id) (Refused NoMetadataSpace))
status_plain s None = (line_stands (pool_line s), refl)
status_plain s (Some id) = (line_stands (volume_line s id), refl)

-- ---- what stays

status_stays : (s : PlainPool) (id : Option ℕ) → Stays s (status_call id)
status_stays s None = inr (λ q h. h, λ id k x g. g)
status_stays s (Some id) = inr (λ q h. h, λ id k x g. g)

message_stays : (s : PlainPool) (m : Message) → Stays s (call_of m)
message_stays s (orders.CreateThin id) = inl refl
message_stays s (orders.CreateSnap id origin) = inl refl
message_stays s (orders.Delete id) = inl refl
message_stays s (orders.SetTransactionId current next) = inl refl
message_stays s (orders.Grow id blocks) = inl refl
message_stays s orders.ReserveMetadataSnap = inl refl
message_stays s orders.ReleaseMetadataSnap = inl refl

-- ---- one call, and the disk that is let go behind it

-- the image behind a call that made this
kept_behind : (name : List ℕ) (deeds : List Deed) (new : Cached Meta) (made : PlainPool) (after : DiskState) → said.shows new made → is_failed made.mode ≡ false → OpensSince said new (said.moment new)
    → ((P : PlainPool) → found_now said new P → P ≡ reopened made) → IsLetGo new after → left_at name deeds ≡ Some after → KeepsPool name deeds (reopened made)
kept_behind name deeds new made after shown works opens only gone last = record {
  closed = after;
  last = last;
  honest = gone.honest made shown works;
  found = λ image stop.
      let here : AfterStop (disk_of new).cells image = subst (λ (d : DiskState). AfterStop d.cells image) gone.disk_is stop in
      let found = opens image (said_laws.at_now new image here) in
      record {
        is_pool = found.1.0;
        found = found.0;
        stands_for = found.1.1;
        only = λ P stands. only P (image, here, (found.1.0, stands));
      };
}

-- what is known of a command behind a call that was accepted
printed_behind : (name : List ℕ) (deeds : List Deed) (old new : Cached Meta) (s : PlainPool) (call : Call) (calls calls' : List StreamCall) (after : DiskState) → s ≡ reopened s → said.shows old s
    → ((S : PlainPool) → found_now said old S → MayReopen s Nothing S) → Stays s call → PrintsCall said old new call calls calls' (Ok (tt {0})) → IsLetGo new after → left_at name deeds ≡ Some after
    → IsAccepted name deeds s call calls calls'
printed_behind name deeds old new s call calls calls' after rest shown older stays (inl (answer, text, is_text, met, prints)) gone last =
    let is = accepted said said_laws old new s call answer rest shown older (text_accepts answer text is_text) met stays in
    record {
      passes = is.passes;
      made = is.made;
      makes = is.makes;
      text = text;
      text_is = subst (λ (a : Answer). IsTextOf a text) is.answer_is is_text;
      prints = prints;
      keeps = kept_behind name deeds new is.made after is.shown is.works is.opens is.only gone last;
    }
printed_behind name deeds old new s call calls calls' after rest shown older stays (inr (reason, e, met, same)) gone last = refused_ok tt reason e

-- and behind one that a test refused
printed_refused : (name : List ℕ) (deeds : List Deed) (old new : Cached Meta) (s : PlainPool) (call : Call) (reason : Refusal) (calls calls' : List StreamCall) (after : DiskState) → s ≡ reopened s → said.shows old s
    → ((S : PlainPool) → found_now said old S → MayReopen s Nothing S) → IsNoRefusal (reply s call) × IsTrue (keeps call (Refused NoMetadataSpace)) → reason ≢ Fault
    → PrintsCall said old new call calls calls' (Err reason) → IsLetGo new after → left_at name deeds ≡ Some after → IsTurnedDown name deeds s call reason calls calls'
printed_refused name deeds old new s call reason calls calls' after rest shown older plain whole (inl (answer, text, is_text, met, prints)) gone last = absurd (whole prints.2.0)
printed_refused name deeds old new s call reason calls calls' after rest shown older plain whole (inr (other, e, met, same)) gone last =
    let met_so = subst (λ (r : Refusal). Meets said old new call (Refused r)) (sym (refusals_same reason other e)) met in
    let is = turned said said_laws old new s call reason rest shown older whole plain.0 plain.1 met_so in
    record { fails = is.fails; unprinted = same; keeps = kept_behind name deeds new (after_refusal reason s) after is.shown is.works is.opens is.only gone last }

-- ---- a command on an image that stands for a plain pool

-- how the image was opened, where it lasts
abbrev LastsSince : List ℕ → List Deed → DiskState → Type 0
LastsSince name deeds disk = (closed : DiskState) → left_at name deeds ≡ Some closed → IsTrue closed.is_honest → IsLeftBy closed disk

module _ (name : List ℕ) (old new : List Deed) (s : PlainPool) (kept : KeepsPool name old s) (before after : DiskState) (lasts : LastsSince name old before) (last : left_at name new ≡ Some after) where
  -- what stands on the disk
  stands : said.stands_for (seen before.cells) s
  stands =
      let left = lasts kept.closed kept.last kept.honest in
      let found = kept.found (seen before.cells) left.image in
      (found.is_pool, subst (λ (P : PlainPool). images.StandsFor (seen before.cells) P) (found.only found.found found.stands_for) found.stands_for)

  called : (opened gone : Cached Meta) (call : Call) (calls calls' : List StreamCall) → IsOpenedOn before opened → Stays s call → PrintsCall said opened gone call calls calls' (Ok (tt {0})) → IsLetGo gone after
      → IsAccepted name new s call calls calls'
  called opened gone call calls calls' opening stays prints let_go =
      let left = lasts kept.closed kept.last kept.honest in
      let just = just_opened said (seen before.cells) opened s (opening.opened left.honest) stands in
      printed_behind name new opened gone s call calls calls' after (said_laws.at_rest (seen before.cells) s stands) just.shown just.left stays prints let_go last

  refused_call : (opened gone : Cached Meta) (call : Call) (reason : Refusal) (calls calls' : List StreamCall) → IsOpenedOn before opened → IsNoRefusal (reply s call) × IsTrue (keeps call (Refused NoMetadataSpace))
      → reason ≢ Fault → PrintsCall said opened gone call calls calls' (Err reason) → IsLetGo gone after → IsTurnedDown name new s call reason calls calls'
  refused_call opened gone call reason calls calls' opening plain whole prints let_go =
      let left = lasts kept.closed kept.last kept.honest in
      let just = just_opened said (seen before.cells) opened s (opening.opened left.honest) stands in
      printed_refused name new opened gone s call reason calls calls' after (said_laws.at_rest (seen before.cells) s stands) just.shown just.left plain whole prints let_go last

  -- an image that stands for a pool is opened
  not_unopened : {A : Type 0} (reason other : Refusal) → ◌≡◌ {A = Result (Unit {0}) Refusal} (Err reason) (Err other) → reason ≢ Fault → reason ≢ Memory → IsRefusedOn before after other → A
  not_unopened reason other e whole roomy refused =
      let left = lasts kept.closed kept.last kept.honest in
      let same = refusals_same reason other e in
      absurd (refused.none (λ f. whole (same ∙ f)) (λ f. roomy (same ∙ f)) left.honest stands.0)

  -- and one of which nothing was asked is as it was
  unasked : (opened gone : Cached Meta) → IsOpenedOn before opened → gone ≡ opened → IsLetGo gone after → KeepsPool name new s
  unasked opened gone opening same let_go =
      let left = lasts kept.closed kept.last kept.honest in
      let just = just_opened said (seen before.cells) opened s (opening.opened left.honest) stands in
      let rest = said_laws.at_rest (seen before.cells) s stands in
      subst (λ (p : PlainPool). KeepsPool name new p) (sym rest)
      (kept_behind name new opened s after just.shown (rested s rest) just.opens (λ P found. MayReopen-nothing s P (just.left P found)) (subst (λ (c : Cached Meta). IsLetGo c after) same let_go) last)

  untold_on : (id : Option ℕ) (reason : Refusal) (calls calls' : List StreamCall) → reason ≢ Fault → reason ≢ Memory → TellsOn id calls calls' (Err reason) before after
      → IsTurnedDown name new s (status_call id) reason calls calls'
  untold_on id reason calls calls' whole roomy (inl (other, e, refused, same)) = not_unopened reason other e whole roomy refused
  untold_on id reason calls calls' whole roomy (inr (opened, gone, opening, prints, let_go)) = refused_call opened gone (status_call id) reason calls calls' opening (status_plain s id) whole prints let_go

  ungiven_line : (line : List ℕ) (reason : Refusal) (opened gone : Cached Meta) (calls calls' : List StreamCall) → reason ≢ Fault → IsOpenedOn before opened → IsLetGo gone after → (r : Result Message Refusal) → reading line ≡ r
      → MatchResult r (λ m. PrintsCall said opened gone (call_of m) calls calls' (Err reason)) (λ other. (◌≡◌ {A = Result (Unit {0}) Refusal} (Err reason) (Err other)) × (gone ≡ opened) × (calls' ≡ calls))
      → IsUnread name line new s reason calls calls' ⊎ ((m : Message) × (reading line ≡ Ok m) × IsTurnedDown name new s (call_of m) reason calls calls')
  ungiven_line line reason opened gone calls calls' whole opening let_go (Ok m) e prints = inr (m, e, refused_call opened gone (call_of m) reason calls calls' opening (message_plain s m) whole prints let_go)
  ungiven_line line reason opened gone calls calls' whole opening let_go (Err other) e nothing =
      inl (record { unread = e ∙ ap (λ (r : Refusal). Err r) (sym (refusals_same reason other nothing.0)); unprinted = nothing.2; keeps = unasked opened gone opening nothing.1 let_go })

  ungiven_on : (line : List ℕ) (reason : Refusal) (calls calls' : List StreamCall) → reason ≢ Fault → reason ≢ Memory → GivesOn line calls calls' (Err reason) before after
      → IsUnread name line new s reason calls calls' ⊎ ((m : Message) × (reading line ≡ Ok m) × IsTurnedDown name new s (call_of m) reason calls calls')
  ungiven_on line reason calls calls' whole roomy (inl (other, e, refused, same)) = not_unopened reason other e whole roomy refused
  ungiven_on line reason calls calls' whole roomy (inr (opened, gone, opening, given, let_go)) = ungiven_line line reason opened gone calls calls' whole opening let_go (reading line) refl given

  told_on : (id : Option ℕ) (calls calls' : List StreamCall) → TellsOn id calls calls' (Ok (tt {0})) before after → IsAccepted name new s (status_call id) calls calls'
  told_on id calls calls' (inl (reason, e, refused, same)) = refused_ok tt reason e
  told_on id calls calls' (inr (opened, gone, opening, prints, let_go)) = called opened gone (status_call id) calls calls' opening (status_stays s id) prints let_go

  given_line : (line : List ℕ) (opened gone : Cached Meta) (calls calls' : List StreamCall) → IsOpenedOn before opened → IsLetGo gone after → (r : Result Message Refusal) → reading line ≡ r
      → MatchResult r (λ m. PrintsCall said opened gone (call_of m) calls calls' (Ok (tt {0}))) (λ reason. (Ok (tt {0}) ≡ Err reason) × (gone ≡ opened) × (calls' ≡ calls))
      → (m : Message) × (reading line ≡ Ok m) × IsAccepted name new s (call_of m) calls calls'
  given_line line opened gone calls calls' opening let_go (Ok m) e prints = (m, e, called opened gone (call_of m) calls calls' opening (message_stays s m) prints let_go)
  given_line line opened gone calls calls' opening let_go (Err reason) e nothing = refused_ok tt reason nothing.0

  given_on : (line : List ℕ) (calls calls' : List StreamCall) → GivesOn line calls calls' (Ok (tt {0})) before after → (m : Message) × (reading line ≡ Ok m) × IsAccepted name new s (call_of m) calls calls'
  given_on line calls calls' (inl (reason, e, refused, same)) = refused_ok tt reason e
  given_on line calls calls' (inr (opened, gone, opening, given, let_go)) = given_line line opened gone calls calls' opening let_go (reading line) refl given

  lived : (asks : List Exchange) → IsLifeOn before after asks (Some Done) → IsLivedOn name new s asks
  lived asks l =
      let left = lasts kept.closed kept.last kept.honest in
      let plain = l.plainly left.honest s stands.0 stands.1 in
      let shut = plain.kept refl in
      let life = l.life in
      record {
        begun = life.begun.slots;
        ended = life.ended.slots;
        before = before;
        after = after;
        no_session = life.no_session;
        last = last;
        life = plain;
        keeps = record {
          closed = after;
          last = last;
          honest = shut.honest;
          found = λ image stop.
              let same : image ≡ seen after.cells = settled_keeps (seen after.cells) image (subst (λ (cells : List Cell). AfterStop cells image) shut.settled stop) in
              subst (λ (l : List Sector). IsFoundAs (λ P. P ≡ reopened plain.over.pool) l) (sym same) shut.found;
        };
      }

  fed_on : (profile : Profile) (calls calls' : List StreamCall) → FeedsOn profile calls calls' (Ok (tt {0})) before after → (asks : List Exchange) × (ending : Carried) × IsFed profile asks calls calls' ending × IsLivedOn name new s asks
  fed_on profile calls calls' (inl (reason, e, refused, same)) = refused_ok tt reason e
  fed_on profile calls calls' (inr (asks, ending, closing, fed, told, life)) =
      (asks, ending, fed, lived asks (subst (λ (a : Answer). IsLifeOn before after asks (Some a)) (closed_done closing (told_of ending) told) life))

  served_on : (wanted : ℕ) → ServesOn wanted (Ok (tt {0})) before after → (asks : List Exchange) × IsLivedOn name new s asks
  served_on wanted (inl (reason, e, refused)) = refused_ok tt reason e
  served_on wanted (inr (inl (e, same))) = refused_ok tt _ e
  served_on wanted (inr (inr (asks, came, refused, closing, few, fewer, told, life))) =
      (asks, lived asks (subst (λ (a : Answer). IsLifeOn before after asks (Some a)) (closed_done closing (told_of_clients wanted came refused) told) life))

  played_so : (asks : List Exchange) (ended : Result (Unit {0}) Stopped) (n : ℕ) → MatchBool (is_bad ended) ((Ok (tt {0}) ≡ Err (BadLine n)) × IsLifeOn before after asks None)
      ((closing : Result (Unit {0}) Refusal) × IsTold ended closing (Ok (tt {0})) × IsLifeOn before after asks (Some (closing_of closing))) → IsLivedOn name new s asks
  played_so asks (Ok done) n (Ok closed, told, life) = lived asks life
  played_so asks (Ok done) n (Err reason, told, life) = refused_ok tt _ told.1
  played_so asks (Err stopped.BadLine) n bad = refused_ok tt _ bad.0
  played_so asks (Err stopped.Memory) n (Ok closed, told, life) = refused_ok tt _ told.1
  played_so asks (Err stopped.Memory) n (Err reason, told, life) = refused_ok tt _ told.1
  played_so asks (Err stopped.Output) n (Ok closed, told, life) = refused_ok tt _ told.1
  played_so asks (Err stopped.Output) n (Err reason, told, life) = refused_ok tt _ told.1
  played_so asks (Err stopped.Script) n (Ok closed, told, life) = refused_ok tt _ told.1
  played_so asks (Err stopped.Script) n (Err reason, told, life) = refused_ok tt _ told.1

  played_on : (profile : Profile) (calls calls' : List StreamCall) → PlaysOn profile calls calls' (Ok (tt {0})) before after
      → (asks : List Exchange) × (played : ℕ) × (ended : Result (Unit {0}) Stopped) × Makes calls calls' (λ did. PlaysScript profile asks did played ended) × IsLivedOn name new s asks
  played_on profile calls calls' (inl (why, e, refused, same)) = refused_ok tt _ e
  played_on profile calls calls' (inr (asks, played, ended, makes, rest)) = (asks, played, ended, makes, played_so asks ended (one_more played) rest)

pub told_goes_on : (name : List ℕ) (id : Option ℕ) (old new : List Deed) (calls calls' : List StreamCall) (s : PlainPool) → KeepsPool name old s → IsStatusTold name id old new calls calls' (Ok (tt {0}))
    → IsAccepted name new s (status_call id) calls calls'
told_goes_on name id old new calls calls' s kept (inl (e, refused, same)) = refused_ok tt _ refused
told_goes_on name id old new calls calls' s kept (inr on) =
    told_on name old new s kept on.before on.after on.lasts (left_closed name on.after (Opens ToRead name on.before ∷ old) new on.deeds) id calls calls' on.does

pub given_goes_on : (name line : List ℕ) (old new : List Deed) (calls calls' : List StreamCall) (s : PlainPool) → KeepsPool name old s → IsMessageGiven name line old new calls calls' (Ok (tt {0}))
    → (m : Message) × (reading line ≡ Ok m) × IsAccepted name new s (call_of m) calls calls'
given_goes_on name line old new calls calls' s kept (inl (e, refused, same)) = refused_ok tt _ refused
given_goes_on name line old new calls calls' s kept (inr on) =
    given_on name old new s kept on.before on.after on.lasts (left_closed name on.after (Opens ToWrite name on.before ∷ old) new on.deeds) line calls calls' on.does

pub untold_goes_on : (name : List ℕ) (id : Option ℕ) (reason : Refusal) (old new : List Deed) (calls calls' : List StreamCall) (s : PlainPool) → KeepsPool name old s → reason ≢ Fault → reason ≢ Memory
    → IsStatusTold name id old new calls calls' (Err reason) → IsTurnedDown name new s (status_call id) reason calls calls'
untold_goes_on name id reason old new calls calls' s kept whole roomy (inl (e, refused, same)) = absurd (whole (refusals_same reason Fault refused))
untold_goes_on name id reason old new calls calls' s kept whole roomy (inr on) =
    untold_on name old new s kept on.before on.after on.lasts (left_closed name on.after (Opens ToRead name on.before ∷ old) new on.deeds) id reason calls calls' whole roomy on.does

pub ungiven_goes_on : (name line : List ℕ) (reason : Refusal) (old new : List Deed) (calls calls' : List StreamCall) (s : PlainPool) → KeepsPool name old s → reason ≢ Fault → reason ≢ Memory
    → IsMessageGiven name line old new calls calls' (Err reason)
    → IsUnread name line new s reason calls calls' ⊎ ((m : Message) × (reading line ≡ Ok m) × IsTurnedDown name new s (call_of m) reason calls calls')
ungiven_goes_on name line reason old new calls calls' s kept whole roomy (inl (e, refused, same)) = absurd (whole (refusals_same reason Fault refused))
ungiven_goes_on name line reason old new calls calls' s kept whole roomy (inr on) =
    ungiven_on name old new s kept on.before on.after on.lasts (left_closed name on.after (Opens ToWrite name on.before ∷ old) new on.deeds) line reason calls calls' whole roomy on.does

pub fed_goes_on : (profile : Profile) (name : List ℕ) (old new : List Deed) (calls calls' : List StreamCall) (s : PlainPool) → KeepsPool name old s → FeedsImage profile name old new calls calls' (Ok (tt {0}))
    → (asks : List Exchange) × (ending : Carried) × IsFed profile asks calls calls' ending × IsLivedOn name new s asks
fed_goes_on profile name old new calls calls' s kept (inl (e, refused, same)) = refused_ok tt _ refused
fed_goes_on profile name old new calls calls' s kept (inr on) =
    fed_on name old new s kept on.before on.after on.lasts (left_closed name on.after (Opens ToWrite name on.before ∷ old) new on.deeds) profile calls calls' on.does

pub played_goes_on : (profile : Profile) (name : List ℕ) (old new : List Deed) (calls calls' : List StreamCall) (s : PlainPool) → KeepsPool name old s → PlaysImage profile name old new calls calls' (Ok (tt {0}))
    → (asks : List Exchange) × (played : ℕ) × (ended : Result (Unit {0}) Stopped) × Makes calls calls' (λ did. PlaysScript profile asks did played ended) × IsLivedOn name new s asks
played_goes_on profile name old new calls calls' s kept (inl (e, refused, same)) = refused_ok tt _ refused.1
played_goes_on profile name old new calls calls' s kept (inr on) =
    played_on name old new s kept on.before on.after on.lasts (left_closed name on.after (Opens ToWrite name on.before ∷ old) new on.deeds) profile calls calls' on.does

pub served_goes_on : (name : List ℕ) (wanted : ℕ) (old new : List Deed) (s : PlainPool) → KeepsPool name old s → ServesImage name wanted old new (Ok (tt {0})) → (asks : List Exchange) × IsLivedOn name new s asks
served_goes_on name wanted old new s kept (inl (e, refused)) = refused_ok tt _ refused
served_goes_on name wanted old new s kept (inr on) =
    served_on name old new s kept on.before on.after on.lasts (left_closed name on.after (Opens ToWrite name on.before ∷ old) new on.deeds) wanted on.does

-- ---- an image that was made

abbrev FreshLaw : Type 0
FreshLaw = (g : Geometry) (image : List Sector) → IsWithinLimits g → IsFreshOf g image → images.StandsFor image (empty_pool g)

-- what a stop leaves of it
left_fresh : FreshLaw → (g : Geometry) (before : DiskState) (c : Cached Meta) → IsWithinLimits g → IsMadeOn g before c → IsTrue before.is_honest → (S : PlainPool) → found_now said c S → MayReopen (empty_pool g) Nothing S
left_fresh fresh g before c limits made honest S found =
    let image = seen (disk_of c).cells in
    let same : found.0 ≡ image = settled_keeps image found.0 (subst (λ (cells : List Cell). AfterStop cells found.0) made.settled found.1) in
    let is_pool : IsSomePool image = subst IsSomePool same found.2.0 in
    let opened = made.opened honest in
    opened.left (empty_pool g) S (is_pool, fresh g image limits made.fresh) found

made_on : FreshLaw → (name : List ℕ) (new : List Deed) (g : Geometry) (calls calls' : List StreamCall) (before after : DiskState) → IsWithinLimits g → IsTrue before.is_honest → left_at name new ≡ Some after
    → FormatsOn g calls calls' (Ok (tt {0})) before after → IsAccepted name new (empty_pool g) Status calls calls'
made_on fresh name new g calls calls' before after limits honest last (inl (reason, e, refused, untouched, made, same, unprinted)) = refused_ok tt reason e
made_on fresh name new g calls calls' before after limits honest last (inr (made, gone, is, prints, let_go)) =
    printed_behind name new made gone (empty_pool g) Status calls calls' after refl (is.shows_it honest) (left_fresh fresh g before made limits is honest) (status_stays (empty_pool g) None) prints let_go last

-- of a device, whatever it held
over_on : FreshLaw → (name : List ℕ) (new : List Deed) (overwrites : Bool) (g : Geometry) (calls calls' : List StreamCall) (before after : DiskState) → IsWithinLimits g → IsTrue before.is_honest
    → left_at name new ≡ Some after → FormatsOver overwrites g calls calls' (Ok (tt {0})) before after → IsAccepted name new (empty_pool g) Status calls calls'
over_on fresh name new overwrites g calls calls' before after limits honest last (inl (small, e, same, unprinted)) = refused_ok tt _ e
over_on fresh name new overwrites g calls calls' before after limits honest last (inr (inl (large, not, inl (e, same, unprinted)))) = refused_ok tt _ e
over_on fresh name new overwrites g calls calls' before after limits honest last (inr (inl (large, not, inr (e, other, same, unprinted)))) = refused_ok tt _ e
over_on fresh name new overwrites g calls calls' before after limits honest last (inr (inr (large, may, on))) = made_on fresh name new g calls calls' before after limits honest last on

pub made_goes_on : FreshLaw → (name : List ℕ) (sizes : Sizes) (overwrites : Bool) (old new : List Deed) (calls calls' : List StreamCall) → IsMadeHonest name old new → IsFormatted name sizes overwrites old new calls calls' (Ok (tt {0}))
    → IsAccepted name new (empty_pool (sizes_asked sizes)) Status calls calls'
made_goes_on fresh name sizes overwrites old new calls calls' honest (inl (beyond, e, same, unprinted)) = refused_ok tt _ e
made_goes_on fresh name sizes overwrites old new calls calls' honest (inr (limits, inl (inl (e, refused, same)))) = refused_ok tt _ refused
made_goes_on fresh name sizes overwrites old new calls calls' honest (inr (limits, inl (inr on))) =
    made_on fresh name new (sizes_asked sizes) calls calls' on.before on.after limits (honest ToMake on.before on.after on.deeds)
    (left_closed name on.after (Opens ToMake name on.before ∷ old) new on.deeds) on.does.1
made_goes_on fresh name sizes overwrites old new calls calls' honest (inr (limits, inr (inl (e, refused, same)))) = refused_ok tt _ refused
made_goes_on fresh name sizes overwrites old new calls calls' honest (inr (limits, inr (inr on))) =
    over_on fresh name new overwrites (sizes_asked sizes) calls calls' on.before on.after limits (honest ToWrite on.before on.after on.deeds)
    (left_closed name on.after (Opens ToWrite name on.before ∷ old) new on.deeds) on.does
