-- Ids that are found one after another, and the replies that name them.
use Rattle.std.proofs.Common.{◌≡◌, ℕ, ◌+◌, ◌*◌, ◌<◌, ◌≤◌, List, [], ◌∷◌, ◌++◌, length, take, Some, None, refl, sym, ap, subst, ◌∙◌, arith, inl, inr, append_assoc}
use Rattle.std.specs.Prelude.{All, MatchOption, Option, nat_lt}
use Rattle.std.specs.Fmt.{decimal}
use Rattle.std.specs.List.{flat_map}
use Rattle.std.proofs.lemmas.Bool.{le-ltb, lt-ltb}
use Rattle.std.proofs.lemmas.Fmt.{length-decimal-le}
use Rattle.std.proofs.lemmas.List.{append-nil, length-append}
use Rattle.std.proofs.lemmas.List.Elements.{All-nil, All-push}
use Rattle.tp_model.specs.declared.refusal.Refusal.{Refusal}
use Rattle.tp_model.specs.Pool.{Outline}
use Rattle.tp_model.specs.Calls.{Answer, Call, Found, NextId, Refused}
use Rattle.nbd_wire.specs.declared.TheConstants.{OPTION_LIST}
use Rattle.nbd_wire.specs.declared.writing.ReplyType.TheVariants.{Acknowledged, Server}
use Rattle.nbd_wire.specs.Replies.{option_reply, server_data}
use Rattle.nbd_session.specs.declared.phase.Terms.{Terms}
use Rattle.nbd_session.specs.declared.phase.Phase.TheVariants.{Ended, Options}
use Rattle.nbd_session.proofs.Serving.{matched, unmatched}
use Rattle.nbd_session.specs.Session.{Finding, FindsNone, IsBehind, IsEnough, IsLast, IsRefused, NamesAll, NamesNone, limit_of, list_reply, name_reply}

names-append : (xs ys : List ℕ) → flat_map name_reply (xs ++ ys) ≡ flat_map name_reply xs ++ flat_map name_reply ys
names-append [] ys = refl
names-append (x ∷ xs) ys = ap (λ l. name_reply x ++ l) (names-append xs ys) ∙ sym (append_assoc (name_reply x) (flat_map name_reply xs) (flat_map name_reply ys))

pub named_by : (id : ℕ) (name front now : List ℕ) → name ≡ decimal id → now ≡ front ++ option_reply OPTION_LIST Server (server_data name) → now ≡ front ++ name_reply id
unfolding name_reply
named_by id name front now is e = e ∙ ap (λ n. front ++ option_reply OPTION_LIST Server (server_data n)) is

-- a name has 8 digits at most
pub name_short : (id : ℕ) (name : List ℕ) → name ≡ decimal id → id < 16777216 → length name ≤ 8
name_short id name e h = let l = length-decimal-le 8 id (omega arith) (omega (arith, h)) (omega (arith, h)) in omega (arith, l, ap length e)

-- what was told of an id, and of none
pub found_one : (o : Option ℕ) (id : ℕ) (P : Type 0) (Q : ℕ → Type 0) → MatchOption o P Q → o ≡ Some id → Q id
found_one o id P Q h e = subst (λ (x : Option ℕ). MatchOption x P Q) e h

pub none_left : (o : Option ℕ) (P : Type 0) (Q : ℕ → Type 0) → MatchOption o P Q → o ≡ None → P
none_left o P Q h e = subst (λ (x : Option ℕ). MatchOption x P Q) e h

module _ {D : Type 0} (outline : D → Outline) (Calls : D → Call → Answer → D → Type 0) where
  -- none is asked for from the limit on
  pub none_asked : (told limit from : ℕ) (p : D) → told ≡ limit → told ≤ from → IsLast outline Calls limit from p p
  none_asked told limit from p same le =
      let over : limit ≤ from = omega (arith, same, le) in
      unmatched (FindsNone outline Calls limit from p p) (p ≡ p) (nat_lt from limit) (le-ltb from limit over) refl

  -- the least one from there on is none below the limit
  last_found : (limit from id : ℕ) (found : Option ℕ) (p p' : D) → from < limit → id ≡ from → IsBehind limit found → Calls p (NextId id) (Found found) p' → IsLast outline Calls limit from p p'
  last_found limit from id found p p' lt is behind call =
      let P : ℕ → Type 0 = λ n. Calls p (NextId n) (Found found) p' in
      matched (FindsNone outline Calls limit from p p') (p' ≡ p) (nat_lt from limit) (lt-ltb from limit lt) (record { found = found; behind = behind; calls = subst P is call })

  pub none_found : (limit from id : ℕ) (found : Option ℕ) (p p' : D) → from < limit → id ≡ from → found ≡ None → Calls p (NextId id) (Found found) p' → IsLast outline Calls limit from p p'
  none_found limit from id found p p' lt is none call =
      let P : Option ℕ → Type 0 = λ o. Calls p (NextId id) (Found o) p' in
      last_found limit from id None p p' lt is tt (subst P none call)

  -- it is, or is not
  pub some_found : (told limit from id volume : ℕ) (found r : Option ℕ) (p p' : D) → told ≡ limit → from < limit → id ≡ from → found ≡ Some volume → Calls p (NextId id) (Found found) p'
      → MatchOption r (told ≤ volume) (λ i. (i ≡ volume) × (i < told)) → MatchOption r (IsLast outline Calls limit from p p') (λ i. (i < limit) × Calls p (NextId from) (Found (Some i)) p')
  some_found told limit from id volume found None p p' same lt is some call h =
      let P : Option ℕ → Type 0 = λ o. Calls p (NextId id) (Found o) p' in
      let over : limit ≤ volume = omega (arith, same, h) in
      last_found limit from id (Some volume) p p' lt is over (subst P some call)
  some_found told limit from id volume found (Some i) p p' same lt is some call h =
      let P : ℕ → Type 0 = λ n. Calls p (NextId n) (Found found) p' in
      let Q : Option ℕ → Type 0 = λ o. Calls p (NextId from) (Found o) p' in
      let this : Some volume ≡ Some i = ap (λ (n : ℕ). Some n) (sym h.0) in
      let under = h.1 in
      (omega (arith, same, under), subst Q (some ∙ this) (subst P is call))

  -- the search goes on from this id
  abbrev pub IsHere : ℕ → ℕ → D → D → Type 0
  IsHere here from p p' = (from ≡ here) × (p' ≡ p)

  pub finding_ends : (End : ℕ → D → D → Type 0) (from here : ℕ) (ids : List ℕ) (p q p' : D) → Finding outline Calls (IsHere here) from ids p q → End here q p' → Finding outline Calls End from ids p p'
  finding_ends End from here [] p q p' h e = subst (λ n. End n p p') (sym h.0) (subst (λ d. End here d p') h.1 e)
  finding_ends End from here (id ∷ ids) p q p' h e = (h.0, h.1, finding_ends End (id + 1) here ids h.0 q p' h.2 e)

  pub finding_goes : (from here id : ℕ) (ids : List ℕ) (p q p' : D) → Finding outline Calls (IsHere here) from ids p q → Calls q (NextId here) (Found (Some id)) p'
      → Finding outline Calls (IsHere (id + 1)) from (ids ++ id ∷ []) p p'
  finding_goes from here id [] p q p' h call = (p', subst (λ n. Calls p (NextId n) (Found (Some id)) p') (sym h.0) (subst (λ d. Calls d (NextId here) (Found (Some id)) p') h.1 call), (refl, refl))
  finding_goes from here id (x ∷ ids) p q p' h call = (h.0, h.1, finding_goes (x + 1) here id ids h.0 q p' h.2 call)

  -- So many ids were found up to here, and named.
  pub record Named (limit : ℕ) (start now : D) (here count at : ℕ) (out : List ℕ) : Type 0 where
    pub ids : List ℕ
    pub many : length ids ≡ count
    pub below : All (λ id. id < limit) ids
    pub finding : Finding outline Calls (IsHere here) 0 ids start now
    pub names : take at out ≡ flat_map name_reply ids
    pub room : at ≤ 32 * count

  pub none_named : (limit : ℕ) (start : D) (out : List ℕ) → Named limit start start 0 0 0 out
  none_named limit start out = record { ids = []; many = refl; below = All-nil (λ id. id < limit); finding = (refl, refl); names = refl; room = omega arith }

  pub one_named : (limit : ℕ) (start now after : D) (here count at end id : ℕ) (out new : List ℕ) → Named limit start now here count at out → id < limit → Calls now (NextId here) (Found (Some id)) after
      → take end new ≡ take at out ++ name_reply id → end ≤ at + 32 → Named limit start after (id + 1) (count + 1) end new
  one_named limit start now after here count at end id out new h small call reply few = record {
    ids = h.ids ++ id ∷ [];
    many = omega (arith, h.many, length-append h.ids (id ∷ []));
    below = All-push (λ i. i < limit) h.ids id h.below small;
    finding = finding_goes 0 here id h.ids start now after h.finding call;
    names = reply ∙ (ap (λ l. l ++ name_reply id) h.names ∙ (ap (λ l. flat_map name_reply h.ids ++ l) (sym (append-nil (name_reply id))) ∙ sym (names-append h.ids (id ∷ []))));
    room = omega (arith, h.room, few);
  }

  pub all_named : (start now after : D) (here count at end : ℕ) (out new : List ℕ) (z : Terms) → Named (limit_of z.profile) start now here count at out → count ≤ 65536 → IsLast outline Calls (limit_of z.profile) here now after
      → take end new ≡ take at out ++ option_reply OPTION_LIST Acknowledged [] → NamesAll outline Calls z start (take end new) (Options z) after
  unfolding list_reply
  all_named start now after here count at end out new z h few last reply = record {
    ids = h.ids;
    few = omega (arith, h.many, few);
    below = h.below;
    finding = finding_ends (IsLast outline Calls (limit_of z.profile)) 0 here h.ids start now after h.finding last;
    sent_is = reply ∙ ap (λ l. l ++ option_reply OPTION_LIST Acknowledged []) h.names;
    next_is = refl;
  }

  pub refused_named : (limit : ℕ) (start now after : D) (here count at : ℕ) (out sent : List ℕ) (reason : Refusal) → Named limit start now here count at out → count ≤ 65536 → Calls now (NextId here) (Refused reason) after
      → sent ≡ [] → NamesNone outline Calls start sent Ended after
  refused_named limit start now after here count at out sent reason h few call none = record {
    ids = h.ids;
    few = omega (arith, h.many, few);
    finding = inl (finding_ends (IsRefused outline Calls) 0 here h.ids start now after h.finding (reason, call));
    sent_is = none;
    next_is = refl;
  }

  pub too_many_named : (limit : ℕ) (start now after : D) (here count at id : ℕ) (out sent : List ℕ) → Named limit start now here count at out → count ≡ 65536 → Calls now (NextId here) (Found (Some id)) after
      → sent ≡ [] → NamesNone outline Calls start sent Ended after
  too_many_named limit start now after here count at id out sent h most call none =
      let many : length (h.ids ++ id ∷ []) ≡ 65537 = omega (arith, h.many, most, length-append h.ids (id ∷ [])) in
      record {
        ids = h.ids ++ id ∷ [];
        few = omega (arith, many);
        finding = inr (many, finding_ends (IsEnough outline Calls) 0 (id + 1) (h.ids ++ id ∷ []) start after after (finding_goes 0 here id h.ids start now after h.finding call) refl);
        sent_is = none;
        next_is = refl;
      }
