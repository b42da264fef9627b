-- Lines that are answered by those who serve.
use Rattle.std.proofs.Common.{◌≡◌, ◌∙◌, ℕ, zero, suc, ◌≤◌, true, List, [], ◌∷◌, inl, inr, refl, ap, append-nil, sym, arith}
use Rattle.std.specs.Prelude.{Err, IsOk, Ok, Result, is_err}
use Rattle.std.proofs.lemmas.Bool.{true≢false}
use Rattle.tp_model.specs.Clauses.{View}
use Rattle.tp_hub.specs.declared.seat.Seat.{Seat}
use Rattle.tp_hub.specs.Told.{Answer, HasRoom, KeepsRoom, Lines, Told}
use Rattle.tp_hub.specs.Runs.{AsksFlush, Orders}
use Rattle.tp_hub.specs.Desks.{IsAsked}
use Rattle.tp_hub.specs.Serving.{Slots}
use Rattle.tp_hub.proofs.Turning.{grows_behind}
use Rattle.tp_crowd.specs.declared.ruling.Command.{Command}
use Rattle.tp_crowd.specs.declared.ruling.Command.TheVariants as variants
use Rattle.tp_lock.specs.Census.{AreSeats}
use Rattle.tp_lock.specs.declared.health.Health.{Health}
use Rattle.tp_lock.specs.Locked.{SomeRuns}
use Rattle.tp_crowd.specs.Ruling.{IsCommand, IsRuled, IsToldHow, IsToldOf, Obeys, TellsHow, TellsSo, TellsWho}

-- who is served was told in the place of a line
pub clients_told : (line : List ℕ) (slots : Slots) (seats : List Seat) (before mid after : Told) → AreSeats slots seats → mid.list ≡ before.list → KeepsRoom before mid → before.marks ≤ mid.marks → IsToldOf seats mid after
    → IsAsked (λ took answers. TellsSo line TellsWho took answers) (Orders line) 1 0 before after
clients_told line slots seats before mid after are same room marks (answer, grows, which) = record {
  answers = answer ∷ [];
  did = inr (refl, elim which [ inl it ↦ inl (slots, seats, it.0, are, it.1, ap (λ (a : Answer). a ∷ []) it.2) | inr refused ↦ inr (ap (λ (a : Answer). a ∷ []) refused) ]);
  adds = grows_behind before mid after (answer ∷ []) same room marks grows;
  cut = (refl, refl);
  silent = λ none nothing. absurd (omega (arith, none));
  begun = λ fits. omega arith;
}

-- how the pool is was told in the place of a line
pub health_told : (line : List ℕ) (how : Health) (before mid after : Told) → mid.list ≡ before.list → KeepsRoom before mid → before.marks ≤ mid.marks → IsToldHow how mid after
    → IsAsked (λ took answers. TellsSo line (TellsHow how) took answers) (Orders line) 1 0 before after
health_told line how before mid after same room marks (text, grows, is) = record {
  answers = Lines text ∷ [];
  did = inr (refl, (text, is, refl));
  adds = grows_behind before mid after (Lines text ∷ []) same room marks grows;
  cut = (refl, refl);
  silent = λ none nothing. absurd (omega (arith, none));
  begun = λ fits. omega arith;
}

-- it was told of some record
pub some_health_told : {D : Type 0} (view : View D) (line : List ℕ) (how : Health) (events bytes : ℕ) (before after : Told) → IsAsked (λ took answers. TellsSo line (TellsHow how) took answers) (Orders line) events bytes before after
    → IsAsked (λ took answers. TellsSo line (Obeys view variants.Health) took answers) (Orders line) events bytes before after
some_health_told view line how events bytes before after a = record {
  answers = a.answers;
  did = elim a.did [ inl none ↦ inl none | inr told ↦ inr (told.0, (how, told.1)) ];
  adds = a.adds;
  cut = a.cut;
  silent = a.silent;
  begun = a.begun;
}

-- there was no memory for an answer
pub nothing_told : {A E : Type 0} (line : List ℕ) (Are : List Answer → Type 0) (before mid : Told) (made : Result A E) → is_err made ≡ true → mid.list ≡ before.list → KeepsRoom before mid → before.marks ≤ mid.marks → (HasRoom before → IsOk made)
    → IsAsked (λ took answers. TellsSo line Are took answers) (Orders line) 0 0 before mid
nothing_told line Are before mid (Ok done) err same room marks there = absurd (true≢false (sym err))
nothing_told line Are before mid (Err e) err same room marks there = record {
  answers = [];
  did = inl (refl, refl);
  adds = record { list = same ∙ sym (append-nil before.list); room = room; marks = marks };
  cut = refl;
  silent = λ none nothing. refl;
  begun = λ fits. absurd (true≢false (sym (there fits)));
}

module _ {D : Type 0} (view : View D) (line : List ℕ) where
  -- a flush was asked in its place
  pub flush_asked : (events bytes : ℕ) (before after : Told) → IsAsked (λ took answers. SomeRuns view took answers) AsksFlush events bytes before after
      → IsAsked (λ took answers. TellsSo line (λ told. SomeRuns view (AsksFlush ∷ []) told) took answers) (Orders line) events bytes before after
  flush_asked zero bytes before after a = record {
    answers = a.answers;
    did = inl (refl, a.silent refl a.cut);
    adds = a.adds;
    cut = a.cut;
    silent = a.silent;
    begun = a.begun;
  }
  flush_asked (suc zero) bytes before after a = record {
    answers = a.answers;
    did = inr (refl, a.did);
    adds = a.adds;
    cut = a.cut;
    silent = a.silent;
    begun = a.begun;
  }
  flush_asked (suc (suc n)) bytes before after a = let none = a.cut.0 in absurd (omega (arith, none))

  -- it is a command
  pub commanded : (command : Command) (events bytes : ℕ) (before after : Told) → IsCommand line command → IsAsked (λ took answers. TellsSo line (Obeys view command) took answers) (Orders line) events bytes before after
      → IsAsked (λ took answers. IsRuled view took answers) (Orders line) events bytes before after
  commanded command events bytes before after is a = record {
    answers = a.answers;
    did = inr (line, command, is, a.did);
    adds = a.adds;
    cut = a.cut;
    silent = a.silent;
    begun = a.begun;
  }
