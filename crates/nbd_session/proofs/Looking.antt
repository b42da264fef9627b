-- What an option does that holds the volume it looks for, and one that asks since an older one, by what the calls for it told.
use Rattle.std.proofs.Common.{◌≡◌, ℕ, ◌<◌, Bool, true, false, List, inl, inr, sym, subst}
use Rattle.std.specs.Prelude.{Ok, Err, MatchBool, Some, if◌then◌else◌}
use Rattle.tp_model.specs.declared.refusal.Refusal.{Refusal}
use Rattle.tp_model.specs.Geometry.{Geometry}
use Rattle.tp_model.specs.Pool.{Outline}
use Rattle.tp_model.specs.Calls.{Answer, Call, Found, Refused}
use Rattle.nbd_session.specs.declared.phase.Phase.{Phase}
use Rattle.nbd_session.specs.Requests.{bytes_of_blocks}
use Rattle.nbd_wire.specs.Contexts.{IsQuery, since_of}
use Rattle.nbd_session.specs.Session.{AsksFor, Enters, Holds, IsNameOf, IsQueried, LooksFor, Outcome, SeeksFor, Tells, VolumeOption, is_there, transmission_flags}
use Rattle.nbd_session.specs.Looking.{Learns, LooksUp, Sought, TakesHold}

module _ {S : Type 0} (outline : S → Outline) (Calls : S → Call → Answer → S → Type 0) where
  there_by : (b : Bool) (o : VolumeOption) (found : ℕ → Outcome) (id : ℕ) (p p' : S) (sent : List ℕ) (next : Phase) → b ≡ true → Enters outline Calls o.holds found id p sent next p'
      → MatchBool b (Enters outline Calls o.holds found id p sent next p') (Tells outline Calls o.missing p sent next p')
  there_by true o found id p p' sent next is enters = enters
  there_by false o found id p p' sent next is enters = absurd cc

  module _ (g : Geometry) (id : ℕ) (p q p' : S) (same : g ≡ (outline p).geometry) where
    -- the volume is there, and was held, or that was refused
    is_found : (o : VolumeOption) (sent : List ℕ) (next : Phase) → LooksUp outline Calls id (Ok true) p q
        → Enters outline Calls o.holds (λ blocks. o.found id (bytes_of_blocks g blocks) (transmission_flags (outline p))) id q sent next p' → AsksFor outline Calls o id p sent next p'
    is_found o sent next (least, is, calls) enters =
        let P : Geometry → Type 0 = λ x. Enters outline Calls o.holds (λ blocks. o.found id (bytes_of_blocks x blocks) (transmission_flags (outline p))) id q sent next p' in
        record {
          answer = Found least;
          looked = q;
          calls = calls;
          finds = there_by (is_there id least) o (λ blocks. o.found id (bytes_of_blocks (outline p).geometry blocks) (transmission_flags (outline p))) id q p' sent next (sym is) (subst P same enters);
        }

    enters_held : (b : Bool) (found : ℕ → Outcome) (sent : List ℕ) (next : Phase) → b ≡ true → Holds outline Calls found id q sent next p' → Enters outline Calls b found id q sent next p'
    enters_held true found sent next is h = h
    enters_held false found sent next is h = absurd cc

    pub learns_held : (size : ℕ) → LooksUp outline Calls id (Ok true) p q → TakesHold outline Calls g id (Ok size) q p' → Learns outline Calls true id (Ok (Some size)) p p'
    learns_held size looks takes o sent next h out =
        is_found o sent next looks (enters_held o.holds _ sent next h (takes (λ n. o.found id n (transmission_flags (outline p))) sent next out))

    pub hold_refused : (reason : Refusal) → LooksUp outline Calls id (Ok true) p q → TakesHold outline Calls g id (Err reason) q p' → Learns outline Calls true id (Err reason) p p'
    hold_refused reason looks takes o sent next h out =
        is_found o sent next looks (enters_held o.holds _ sent next h (takes (λ n. o.found id n (transmission_flags (outline p))) sent next out))

  -- an older volume that is asked since: what a query said names none, or one that is there, or one that is not; or it was refused to look for it
  pub unsought : (limit : ℕ) (text : List ℕ) (p : S) → ((id : ℕ) → IsNameOf text id → id < limit → ⊥) → Sought outline Calls limit text (Ok 16777216) p p
  unsought limit text p none o name sent next q same looks = inl (record { no_id = λ id named small. none id named (subst (λ (n : ℕ). id < n) same small); looks = looks })

  pub sought : (there : Bool) (limit : ℕ) (text : List ℕ) (id : ℕ) (p p' : S) → IsNameOf text id × (id < limit) → LooksUp outline Calls id (Ok there) p p'
      → Sought outline Calls limit text (Ok (if there then id else 16777216)) p p'
  sought there limit text id p p' is (least, found, calls) o name sent next q same looks =
      let P : Bool → Type 0 = λ b. LooksFor outline Calls (o (if b then id else 16777216)) name p' sent next q in
      inr (record { id = id; text_is = is.0; below = subst (λ (n : ℕ). id < n) (sym same) is.1; answer = Found least; looked = p'; calls = calls; seeks = subst P found looks })

  pub sought_refused : (limit : ℕ) (text : List ℕ) (id : ℕ) (p p' : S) (reason : Refusal) → IsNameOf text id × (id < limit) → LooksUp outline Calls id (Err reason) p p'
      → Sought outline Calls limit text (Err reason) p p'
  sought_refused limit text id p p' reason is calls o name sent next q same tells =
      inr (record { id = id; text_is = is.0; below = subst (λ (n : ℕ). id < n) (sym same) is.1; answer = Refused reason; looked = p'; calls = calls; seeks = tells })

  -- an option with queries, by what was read of them
  pub queried : (asks : List (List ℕ) → Bool) (o : Bool → ℕ → VolumeOption) (payload name text : List ℕ) (b : Bool) (queries : List (List ℕ)) (p p' : S) (sent : List ℕ) (next : Phase)
      → IsQuery payload name queries → b ≡ asks queries → text ≡ since_of queries → SeeksFor outline Calls (o b) text name p sent next p' → IsQueried outline Calls asks o payload p sent next p'
  queried asks o payload name text b queries p p' sent next query b_is text_is seeks = record {
    name = name;
    queries = queries;
    query = query;
    seeks =
        subst (λ (x : Bool). SeeksFor outline Calls (o x) (since_of queries) name p sent next p') b_is
        (subst (λ (t : List ℕ). SeeksFor outline Calls (o b) t name p sent next p') text_is seeks);
  }
