-- What a call is to those who are served.
use Rattle.std.proofs.Common.{◌≡◌, ℕ, ◌<◌, Bool, true, false, List, Result, Ok, Err, ap, refl, sym, ◌∙◌}
use Rattle.std.proofs.lemmas.Bool.{false≢true}
use Rattle.std.specs.Prelude.{MatchResult, OnErr, OnOk}
use Rattle.tp_model.specs.declared.refusal.Refusal.{Refusal}
use Rattle.tp_model.specs.Geometry.{Geometry}
use Rattle.tp_model.specs.Sectors.{Sector}
use Rattle.tp_model.specs.Calls.{Answer, Call, Done, Gave, Line, Read, Refused, Sized, holds_after}
use Rattle.tp_model.specs.Pool.{hold_count}
use Rattle.tp_model.specs.Clauses.{Called, Flushes, IsAnswered, Meets, View}
use Rattle.tp_model.specs.Disk.{DiskState}
use Rattle.tp_stored.specs.Contents.{Contents}
use Rattle.tp_holders.specs.Holders.{Holding, blocks_held, holds_of}
use Rattle.tp_pool.specs.Flushes.{FlushesSo, served}
use Rattle.tp_pool.specs.Held.{AnswersSo, Held, PoolAnswered, PoolCalled, PoolRefused, more_held, view}
use Rattle.tp_pool.proofs.Ranges.{more_alike}

-- an answer that tells a size
abbrev pub is_sized : Answer → Bool
is_sized (Sized blocks) = true
is_sized answer = false

-- a volume that was held and is held still has as many blocks as before
abbrev pub StillTold : List Holding → List Holding → Type 0
StillTold before after = (id : ℕ) → 0 < hold_count (holds_of before) id → 0 < hold_count (holds_of after) id → blocks_held after id ≡ blocks_held before id

pub told_alike : (before after : List Holding) → after ≡ before → StillTold before after
told_alike before after same id was is = ap (λ (l : List Holding). blocks_held l id) same

module _ {M : Type 0} (geometry : M → Geometry) (stands : M → DiskState → Contents → Contents → Type 0) (marks : M → List Bool) (room : M → ℕ) (changed : M → Bool) where
  abbrev Whole : View (Held M)
  Whole = served geometry stands marks room changed

  abbrev AllSo : Held M → Held M → Call → Result (Unit {0}) Refusal → Type 0
  AllSo = FlushesSo geometry stands marks room changed

  -- what is said of a call does not hang on what is changed
  pub of_served : (old new : Held M) (call : Call) (answer : Answer) → Called (view geometry stands) old new call answer → Called Whole old new call answer
  of_served old new call answer c = record {
    time = record { later = c.time.later; still = c.time.still; earlier = c.time.earlier };
    cause = c.cause;
    opens = c.opens;
    meets = λ s shown. c.meets s shown;
  }

  pub answers_of_served : (old new : Held M) (call : Call) (answer : Answer) → IsAnswered (view geometry stands) old new call answer → IsAnswered Whole old new call answer
  answers_of_served old new call answer a = record {
    may = a.may;
    mode = a.mode;
    reads = a.reads;
    silent = λ yes. let q = a.silent yes in record { failures = q.failures; flushes = q.flushes; moment = q.moment };
  }

  abbrev pub Meeting : Held M → Held M → Call → Answer → Type 0
  Meeting old new call answer = Meets Whole old new call answer

  -- so as many sectors are known of it
  pub more_told : (old new : Held M) → geometry new.metadata ≡ geometry old.metadata → StillTold old.holders new.holders → (id : ℕ) → 0 < hold_count (holds_of old.holders) id → 0 < hold_count (holds_of new.holders) id
      → more_held (geometry new.metadata) new.holders id ≡ more_held (geometry old.metadata) old.holders id
  more_told old new same told id was is =
      ap (λ (g : Geometry). more_held g new.holders id) same ∙ more_alike (geometry old.metadata) new.holders old.holders id (told id was is)

  module _ (old new : Held M) (call : Call) (same : geometry new.metadata ≡ geometry old.metadata) where
    pub meeting : (answer : Answer) → is_sized answer ≡ false → holds_of new.holders ≡ holds_after (holds_of old.holders) call answer → StillTold old.holders new.holders
        → PoolCalled geometry stands old new call answer → IsAnswered (view geometry stands) old new call answer
        → Flushes Whole old new call answer → Meeting old new call answer
    meeting answer plain holds told c answered flushes = record {
      geometry = same;
      holds = holds;
      more = λ id was is. more_told old new same told id was is;
      told = λ id blocks asked sized some. absurd (false≢true (sym plain ∙ ap is_sized sized));
      answered = answers_of_served old new call answer answered;
      flushes = flushes;
      called = of_served old new call answer c.called;
    }

    -- refused calls change no holds
    pub met_by : (result : Result (Unit {0}) Refusal)
        → ((reason : Refusal) → holds_after (holds_of old.holders) call (Refused reason) ≡ holds_of old.holders)
        → OnOk result (holds_of new.holders ≡ holds_after (holds_of old.holders) call Done) → OnErr result (new.holders ≡ old.holders) → StillTold old.holders new.holders
        → PoolAnswered geometry stands old new call result → AnswersSo geometry stands old new call result → AllSo old new call result
        → MatchResult result (λ _. Meeting old new call Done) (λ reason. Meeting old new call (Refused reason))
    met_by (Ok x) no_holds done refused told c answered flushes = meeting Done refl done told c answered flushes
    met_by (Err reason) no_holds done refused told c answered flushes = meeting (Refused reason) refl (ap holds_of refused ∙ sym (no_holds reason)) told c answered flushes

    -- a call that changes no holds at all
    pub met_same : (result : Result (Unit {0}) Refusal) → ((answer : Answer) → holds_after (holds_of old.holders) call answer ≡ holds_of old.holders)
        → new.holders ≡ old.holders → PoolAnswered geometry stands old new call result → AnswersSo geometry stands old new call result → AllSo old new call result
        → MatchResult result (λ _. Meeting old new call Done) (λ reason. Meeting old new call (Refused reason))
    met_same (Ok x) no_holds holders c answered flushes = meeting Done refl (ap holds_of holders ∙ sym (no_holds Done)) (told_alike old.holders new.holders holders) c answered flushes
    met_same (Err reason) no_holds holders c answered flushes = meeting (Refused reason) refl (ap holds_of holders ∙ sym (no_holds (Refused reason))) (told_alike old.holders new.holders holders) c answered flushes

    -- a call that tells a line, from the number that it answers
    pub met_line : (line : ℕ → List ℕ) → ((answer : Answer) → holds_after (holds_of old.holders) call answer ≡ holds_of old.holders)
        → new.holders ≡ old.holders → (result : Result ℕ Refusal)
        → MatchResult result (λ n. PoolCalled geometry stands old new call (Line (line n))) (λ reason. PoolRefused geometry stands old new call reason)
        → MatchResult result (λ n. IsAnswered (view geometry stands) old new call (Line (line n))) (λ reason. IsAnswered (view geometry stands) old new call (Refused reason))
        → MatchResult result (λ n. Flushes Whole old new call (Line (line n))) (λ reason. Flushes Whole old new call (Refused reason))
        → MatchResult result (λ n. Meeting old new call (Line (line n))) (λ reason. Meeting old new call (Refused reason))
    met_line line no_holds holders (Ok n) c answered flushes = meeting (Line (line n)) refl (ap holds_of holders ∙ sym (no_holds (Line (line n)))) (told_alike old.holders new.holders holders) c answered flushes
    met_line line no_holds holders (Err reason) c answered flushes = meeting (Refused reason) refl (ap holds_of holders ∙ sym (no_holds (Refused reason))) (told_alike old.holders new.holders holders) c answered flushes

    -- a call that tells something
    pub met_told : (told : Answer) → is_sized told ≡ false → ((answer : Answer) → holds_after (holds_of old.holders) call answer ≡ holds_of old.holders)
        → new.holders ≡ old.holders → (result : Result (Unit {0}) Refusal)
        → MatchResult result (λ _. PoolCalled geometry stands old new call told) (λ reason. PoolRefused geometry stands old new call reason)
        → MatchResult result (λ _. IsAnswered (view geometry stands) old new call told) (λ reason. IsAnswered (view geometry stands) old new call (Refused reason))
        → MatchResult result (λ _. Flushes Whole old new call told) (λ reason. Flushes Whole old new call (Refused reason))
        → MatchResult result (λ _. Meeting old new call told) (λ reason. Meeting old new call (Refused reason))
    met_told told plain no_holds holders (Ok x) c answered flushes = meeting told plain (ap holds_of holders ∙ sym (no_holds told)) (told_alike old.holders new.holders holders) c answered flushes
    met_told told plain no_holds holders (Err reason) c answered flushes = meeting (Refused reason) refl (ap holds_of holders ∙ sym (no_holds (Refused reason))) (told_alike old.holders new.holders holders) c answered flushes

  pub met_read : (old new : Held M) (id sector n : ℕ) (sectors : List Sector)
      → geometry new.metadata ≡ geometry old.metadata → new.holders ≡ old.holders
      → (result : Result (Unit {0}) Refusal)
      → MatchResult result (λ _. PoolCalled geometry stands old new (Read id sector n) (Gave sectors))
      (λ reason. PoolRefused geometry stands old new (Read id sector n) reason)
      → MatchResult result (λ _. IsAnswered (view geometry stands) old new (Read id sector n) (Gave sectors))
      (λ reason. IsAnswered (view geometry stands) old new (Read id sector n) (Refused reason))
      → MatchResult result (λ _. Flushes Whole old new (Read id sector n) (Gave sectors))
      (λ reason. Flushes Whole old new (Read id sector n) (Refused reason))
      → MatchResult result (λ _. Meeting old new (Read id sector n) (Gave sectors))
      (λ reason. Meeting old new (Read id sector n) (Refused reason))
  met_read old new id sector n sectors same holders (Ok x) c answered flushes = meeting old new (Read id sector n) same (Gave sectors) refl (ap holds_of holders) (told_alike old.holders new.holders holders) c answered flushes
  met_read old new id sector n sectors same holders (Err reason) c answered flushes = meeting old new (Read id sector n) same (Refused reason) refl (ap holds_of holders) (told_alike old.holders new.holders holders) c answered flushes
