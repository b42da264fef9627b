use Rattle.std.proofs.Common.{◌≡◌, ℕ, ◌<◌, List, [], ◌++◌, ◌∙◌, length, refl, subst, ap}
use Rattle.tp_model.specs.Pool.{PlainPool}
use Rattle.nbd_session.specs.declared.phase.Phase.TheVariants.{Flags}
use Rattle.nbd_session.specs.declared.phase.Profile.TheVariants.{Strict}
use Rattle.nbd_session.specs.Session.{State, state}
use Rattle.nbd_session.specs.Talk.{Converses, Talks}
use Rattle.tp_pool.specs.Held.{HasUse}
use Rattle.tp_holders.specs.Holders.{Holding, holds_of}
use Rattle.tp_holders.proofs.Rows.{holds_none}
use Rattle.nbd_session.specs.Clauses.{HoldsBeside}
use Rattle.nbd_session.proofs.Counting.{none_beside}
use Rattle.tp_users.specs.First.{Counted, CountedCall, FirstIsAnswered, IsFirstAnswer, counted, first_text, outline_of_counted}
use Rattle.tp_users.specs.Users.{IsBlank}
use Rattle.tp_users.proofs.first.serve_first.Goals as goal

none_held : (holders : List Holding) → holders ≡ [] → HoldsBeside [] (holds_of holders)
none_held holders none = none_beside (holds_of holders) (ap (λ (hs : List Holding). holds_of hs) none ∙ holds_none)

-- what a session that was just opened talks of this text is a first answer
answered : (payload text before after : List ℕ) (s : PlainPool) (was failures : ℕ) (c : Counted) (old new : State) → FirstIsAnswered → length payload ≡ 512 → text ≡ first_text payload → IsBlank 0 s → HasUse s
    → old ≡ state (Flags Strict) [] → Converses outline_of_counted CountedCall old text (counted s was) before after new c → was ≡ 0 → c.failures ≡ failures
    → (sent : List ℕ) × (after ≡ before ++ sent) × IsFirstAnswer payload (0 < failures) sent
answered payload text before after s was failures c old new law long is blank bounded opened talk none same =
    let talks : Talks outline_of_counted CountedCall (Flags Strict) text (counted s was) talk.0 new c =
    subst (λ (t : State). Talks outline_of_counted CountedCall t.phase (t.held ++ text) (counted s was) talk.0 new c) opened talk.2 in
    let first = law payload talk.0 (counted s was) c new long blank bounded (subst (λ (x : List ℕ). Talks outline_of_counted CountedCall (Flags Strict) x (counted s was) talk.0 new c) is talks) in
    (talk.0, talk.1, subst (λ n. IsFirstAnswer payload (0 < n) talk.0) same (subst (λ n. IsFirstAnswer payload (n < c.failures) talk.0) none first))

pub converse_anew-requires : goal.converse_anew-requires
converse_anew-requires c = none_held c.in_ok-pool.pool.holders c.in_ok-pool.ensures.holders

pub returns-clause-answered : goal.returns-clause-answered
returns-clause-answered c = λ payload long is.
    let w = c.in_ok-pool.ensures.shows in
    let talk = c.in_ok-converse_anew.ensures.talks w.0 w.2 in
    answered payload c.args.text.now c.args.out.now.items c.converse_anew.new.out.items w.0 c.in_ok-pool.pool.disk.failures c.converse_anew.new.pool.disk.failures talk.1 (state (Flags Strict) []) talk.0 c.first_session_is_answered.ensures long is
    (subst (λ (n : ℕ). IsBlank n w.0) c.new.ensures w.1) (c.images_use_bounded_metadata.ensures.shown c.in_ok-pool.pool w.0 w.2) refl talk.2 c.in_ok-pool.ensures.failures talk.3
