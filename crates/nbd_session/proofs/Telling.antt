-- Replies that tell contexts, and the chunks that tell of a volume in them.
use Rattle.std.proofs.Common.{◌≡◌, ℕ, ◌+◌, ◌*◌, ◌<◌, ◌≤◌, Bool, true, false, List, [], ◌++◌, refl, sym, ap, subst, ◌∙◌, arith}
use Rattle.std.specs.Prelude.{if◌then◌else◌, nat_lt}
use Rattle.std.specs.Fmt.{decimal}
use Rattle.std.proofs.lemmas.Bool.{false≢true, lt-ltb, ltb-true, true≢false}
use Rattle.std.proofs.lemmas.List.{append-nil}
use Rattle.tp_listings.specs.declared.extent.Extent.{Extent}
use Rattle.tp_listings.specs.Pages.{AreOrdered, IsPage}
use Rattle.nbd_wire.specs.declared.Request.{Request}
use Rattle.nbd_wire.specs.declared.contexts.MetaContext.{MetaContext}
use Rattle.nbd_wire.specs.declared.contexts.MetaContext.TheVariants.{Since}
use Rattle.nbd_wire.specs.declared.writing.ReplyType.TheVariants.{Acknowledged, Context}
use Rattle.nbd_wire.specs.Contexts.{context_data, since, since_name, status_chunk}
use Rattle.nbd_wire.specs.Replies.{option_reply, option_reply_head}
use Rattle.nbd_session.specs.Session.{allocation_reply, context_reply, since_reply}
use Rattle.nbd_session.specs.Status.{IsAllocation, IsSince, IsStatus, TellsSince, between, blocks_to, cut_to_one, extents_in, first_block, wants_one}

-- ---- the reply that tells since which older volume

abbrev reply_by : Bool → ℕ → ℕ → ℕ → List ℕ
reply_by b option code id = if b then option_reply option Context (context_data code (since_name id)) else []

none_by : (b : Bool) (option code id : ℕ) (front : List ℕ) → nat_lt id 16777216 ≡ b → 16777216 ≤ id → front ≡ front ++ reply_by b option code id
none_by true option code id front e le = let lt : id < 16777216 = ltb-true id 16777216 e in absurd (omega (arith, lt, le))
none_by false option code id front e le = sym (append-nil front)

pub none_told : (option code id : ℕ) (front : List ℕ) → 16777216 ≤ id → front ≡ front ++ since_reply option code id
none_told option code id front le = none_by (nat_lt id 16777216) option code id front refl le

pub one_told : (option code id : ℕ) (front sent : List ℕ) → id < 16777216 → sent ≡ front ++ option_reply option Context (context_data code (since_name id)) → sent ≡ front ++ since_reply option code id
one_told option code id front sent lt is = is ∙ ap (λ (b : Bool). front ++ reply_by b option code id) (sym (lt-ltb id 16777216 lt))

-- whose id was given in decimal
pub id_told : (option code id : ℕ) (text front sent : List ℕ) → text ≡ decimal id → sent ≡ front ++ option_reply option Context (context_data code (since ++ text))
    → sent ≡ front ++ option_reply option Context (context_data code (since_name id))
id_told option code id text front sent is e = e ∙ ap (λ (t : List ℕ). front ++ option_reply option Context (context_data code (since ++ t))) is

-- ---- the whole answer

pub contexts_told : (option first second id : ℕ) (is_asked : Bool) (one both sent : List ℕ) → one ≡ allocation_reply option first is_asked → both ≡ one ++ since_reply option second id
    → sent ≡ both ++ option_reply_head option Acknowledged 0 → sent ≡ context_reply option first second is_asked id
unfolding context_reply
contexts_told option first second id is_asked one both sent one_is both_is sent_is =
    let head : List ℕ = option_reply_head option Acknowledged 0 in
    let a : List ℕ = allocation_reply option first is_asked in
    let b : List ℕ = since_reply option second id in
    let ack : head ≡ option_reply option Acknowledged [] = sym (append-nil head) in
    let front : both ≡ a ++ b = both_is ∙ ap (λ (l : List ℕ). l ++ b) one_is in
    sent_is ∙ (ap (λ (l : List ℕ). l ++ head) front ∙ ap (λ (l : List ℕ). (a ++ b) ++ l) ack)

-- ---- the chunks

module _ (is_last : Bool) (context : MetaContext) (unit : ℕ) (r : Request) (old new : List (ℕ × ℕ)) where
  abbrev text_of : ℕ → List Extent → List ℕ
  text_of blocks runs = status_chunk is_last context r.cookie (cut_to_one (wants_one r) (extents_in context unit r.offset (between r.offset (r.offset + r.len) (unit * blocks)) runs))

  -- a chunk, by a page of what walks listed
  pub status_told : (from most blocks : ℕ) (runs shown : List Extent) (sent : List ℕ) → from ≡ first_block unit r → most ≡ blocks_to unit r → shown ≡ runs
      → (AreOrdered old → AreOrdered new → IsPage old new from most runs blocks) → sent ≡ text_of blocks shown → IsStatus is_last context unit r old new sent
  status_told from most blocks runs shown sent from_is most_is same page is = record {
    runs = runs;
    blocks = blocks;
    page = λ one other.
        subst (λ (n : ℕ). IsPage old new n (blocks_to unit r) runs blocks) from_is (subst (λ (n : ℕ). IsPage old new from n runs blocks) most_is (page one other));
    sent_is = is ∙ ap (λ (l : List Extent). text_of blocks l) same;
  }

module _ (unit : ℕ) (r : Request) (old new : List (ℕ × ℕ)) where
  abbrev since_text : ℕ → List Extent → List ℕ
  since_text blocks runs = status_chunk true Since r.cookie (cut_to_one (wants_one r) (extents_in Since unit r.offset (between r.offset (r.offset + r.len) (unit * blocks)) runs))

  -- the last one, behind what was put before
  pub since_told : (from most blocks : ℕ) (runs shown : List Extent) (front sent : List ℕ) → from ≡ first_block unit r → most ≡ blocks_to unit r → shown ≡ runs
      → (AreOrdered old → AreOrdered new → IsPage old new from most runs blocks) → sent ≡ front ++ since_text blocks shown
      → (part : List ℕ) × (sent ≡ front ++ part) × IsSince unit r old new part
  since_told from most blocks runs shown front sent from_is most_is same page is =
      (since_text blocks shown, is, status_told true Since unit r old new from most blocks runs shown (since_text blocks shown) from_is most_is same page refl)

  -- it stands alone, and behind the other one
  pub since_alone : (b : Bool) (sent : List ℕ) → b ≡ false → ((part : List ℕ) × (sent ≡ [] ++ part) × IsSince unit r old new part) → TellsSince b unit r old new sent
  since_alone true sent e h = absurd (true≢false e)
  since_alone false sent e (part, is, told) = subst (λ (l : List ℕ). IsSince unit r old new l) (sym is) told

  pub both_told : (b : Bool) (first sent : List ℕ) → b ≡ true → IsAllocation false unit r new first → ((part : List ℕ) × (sent ≡ first ++ part) × IsSince unit r old new part)
      → TellsSince b unit r old new sent
  both_told true first sent e allocation (part, is, told) = record { first = first; second = part; allocation = allocation; since = told; sent_is = is }
  both_told false first sent e allocation h = absurd (false≢true e)
