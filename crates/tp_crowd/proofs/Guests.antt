-- The calls of a stream but for its ends.
use Rattle.std.proofs.Common.{◌≡◌, ℕ, Bool, List, [], ◌∷◌, ◌++◌, append_assoc, append-nil, refl, ap, sym, ◌∙◌}
use Rattle.nbd_session.specs.declared.phase.Profile.{Profile}
use Rattle.tp_hub.specs.Told.{Answer}
use Rattle.tp_hub.specs.Runs.{Incoming}
use Rattle.tp_hub.specs.Streams.{StreamCall}
use Rattle.tp_lines.specs.ReadLines.{Leads}
use Rattle.tp_crowd.specs.Guests.{IsGuest, IsVisit, but_end, but_ends}

but_append : (xs ys : List StreamCall) → but_ends (xs ++ ys) ≡ but_ends xs ++ but_ends ys
but_append [] ys = refl
but_append (x ∷ xs) ys = ap (λ l. but_end x ++ l) (but_append xs ys) ∙ sym (append_assoc (but_end x) (but_ends xs) (but_ends ys))

-- what one call more is
pub but_more : (calls : List StreamCall) (call : StreamCall) → but_ends (calls ++ call ∷ []) ≡ but_ends calls ++ but_end call
but_more calls call = but_append calls (call ∷ []) ∙ ap (λ l. but_ends calls ++ l) (append-nil (but_end call))

-- A call that a stream tells was made, or it was an end.
pub told_more : (told told' made made' : List StreamCall) (call : StreamCall) → but_ends told ≡ but_ends made → told' ≡ told ++ call ∷ [] → but_ends made' ≡ but_ends made ++ but_end call → but_ends told' ≡ but_ends made'
told_more told told' made made' call same t m = ap but_ends t ∙ (but_more told call ∙ (ap (λ l. l ++ but_end call) same ∙ sym m))

-- what was told between two such moments was made
pub guest_led : {D : Type 0} (Did : D → List Incoming → List Answer → D → Type 0) (n : ℕ) (profile : Profile) (carried : Bool) (a b : D) (told told' made made' : List StreamCall)
    → but_ends told ≡ but_ends made → but_ends told' ≡ but_ends made' → Leads Did (λ asks did. IsVisit n profile asks did carried) a b told told' → Leads Did (λ asks did. IsGuest n profile asks did) a b (but_ends made) (but_ends made')
guest_led Did n profile carried a b told told' made made' before after p = record {
  asks = p.asks;
  asked = p.asked;
  did = but_ends p.did;
  made = sym after ∙ (ap but_ends p.made ∙ (but_append told p.did ∙ ap (λ l. l ++ but_ends p.did) before));
  are = (p.did, carried, refl, p.are);
}
