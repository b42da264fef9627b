-- Where the parts of a long request end, and what is told of one.
use Rattle.std.proofs.Common.{◌≡◌, ℕ, ◌-◌, ◌*◌, ◌/◌, ◌%◌, ◌<◌, ◌≤◌, Bool, true, false, None, List, [], refl, sym, ap, subst, ◌∙◌, arith, inl, inr}
use Rattle.std.specs.Prelude.{◌&&◌, if◌then◌else◌}
use Rattle.std.proofs.Math.Nat.{div-add-mod, div-mul-le_self, mod-lt, mod-mod_of_dvd, mul-pos}
use Rattle.std.proofs.lemmas.Bool.{cases_lt}
use Rattle.std.proofs.lemmas.Nat.Gcd.{dvd_of_mod-eq-zero}
use Rattle.tp_model.specs.Requests.{is_flush, is_trim}
use Rattle.tp_model.specs.Clauses.{Meets, PoolCall, View}
use Rattle.tp_model.specs.Geometry.{Geometry}
use Rattle.tp_model.specs.declared.refusal.Refusal.{Refusal}
use Rattle.tp_model.specs.Pool.{Outline}
use Rattle.tp_model.specs.Calls.{Answer, Call, Done, Flush, Refused, Trim, WriteZeroes}
use Rattle.nbd_wire.specs.declared.Request.{Request}
use Rattle.nbd_session.specs.declared.phase.Course.TheVariants.{Listens, Works}
use Rattle.nbd_session.specs.declared.phase.Manner.{Manner}
use Rattle.nbd_session.specs.declared.phase.Phase.{Phase}
use Rattle.nbd_session.specs.declared.phase.Phase.TheVariants.{Ended, Flags, Options, Transmission}
use Rattle.nbd_session.specs.Requests.{IsLeft, IsWhole, behind, form_of, has_no_hole, is_last, len_of_part, long_call, part_call, rest_of, to_keep, up_to_cut, wants_fua}
use Rattle.nbd_session.specs.Session.{Begins, IsMade, MakesPart, is_to_flush, kind_of, reply_to}

-- as many whole blocks as 2048 sectors have are one at least
pub blocks_fit : (block : ℕ) → 0 < block → block ≤ 2048 → (1 ≤ 2048 / block * block) × (2048 / block * block ≤ 2048)
blocks_fit block some most =
    let all = div-add-mod 2048 block in
    let less = mod-lt 2048 some in
    let one : 0 < 2048 / block = elim (cases_lt 0 (2048 / block)) [
      | inl lt ↦ lt
      | inr le ↦
          let none : 2048 / block ≡ 0 = omega (arith, le) in
          let nothing : block * (2048 / block) ≡ block * 0 = ap (λ (n : ℕ). block * n) none in
          absurd (omega (arith, all, less, nothing, most))
    ] in
    (mul-pos one some, div-mul-le_self 2048 block)

-- what is left up to a place where parts are cut has whole sectors, as both have
pub cut_whole : (offset most : ℕ) → offset % 512 ≡ 0 → most % 512 ≡ 0 → 512 ≤ most → (512 ≤ most - offset % most) × ((most - offset % most) % 512 ≡ 0)
cut_whole offset most o m some =
    let same : offset % most % 512 ≡ offset % 512 = mod-mod_of_dvd 512 offset (dvd_of_mod-eq-zero 512 m) in
    let lt : offset % most < most = mod-lt offset (omega (arith, some)) in
    (omega (arith, same, o, m, lt), omega (arith, same, o, m, lt))

-- ---- the call of a part

both_calls : (m : Manner) (id : ℕ) (g : Geometry) (r : Request) (count : ℕ) (fua : Bool) (b : Bool) → count ≡ len_of_part g r / 512 → fua ≡ (wants_fua m r && is_last g r)
    → (if b then Trim id (r.offset / 512) count fua else WriteZeroes id (r.offset / 512) count (has_no_hole r) fua)
    ≡ (if b then Trim id (r.offset / 512) (len_of_part g r / 512) (wants_fua m r && is_last g r) else WriteZeroes id (r.offset / 512) (len_of_part g r / 512) (has_no_hole r) (wants_fua m r && is_last g r))
both_calls m id g r count fua true c f = ap (λ (n : ℕ). Trim id (r.offset / 512) n fua) c ∙ ap (λ (x : Bool). Trim id (r.offset / 512) (len_of_part g r / 512) x) f
both_calls m id g r count fua false c f =
    ap (λ (n : ℕ). WriteZeroes id (r.offset / 512) n (has_no_hole r) fua) c ∙ ap (λ (x : Bool). WriteZeroes id (r.offset / 512) (len_of_part g r / 512) (has_no_hole r) x) f

by_kind : (b : Bool) (trim zeroes : Call) → b ≡ true → trim ≡ (if b then trim else zeroes)
by_kind true trim zeroes e = refl
by_kind false trim zeroes e = absurd cc

by_other : (b : Bool) (trim zeroes : Call) → b ≡ false → zeroes ≡ (if b then trim else zeroes)
by_other false trim zeroes e = refl
by_other true trim zeroes e = absurd cc

pub trim_is : (m : Manner) (id : ℕ) (g : Geometry) (r : Request) (count : ℕ) (fua : Bool) → is_trim (form_of r) ≡ true → count ≡ len_of_part g r / 512 → fua ≡ (wants_fua m r && is_last g r) → Trim id (r.offset / 512) count fua ≡ long_call m id g r
trim_is m id g r count fua is c f = by_kind (is_trim (form_of r)) _ (WriteZeroes id (r.offset / 512) count (has_no_hole r) fua) is ∙ both_calls m id g r count fua (is_trim (form_of r)) c f

pub zeroes_are : (m : Manner) (id : ℕ) (g : Geometry) (r : Request) (count : ℕ) (no_hole fua : Bool) → is_trim (form_of r) ≡ false → count ≡ len_of_part g r / 512 → no_hole ≡ has_no_hole r → fua ≡ (wants_fua m r && is_last g r)
    → WriteZeroes id (r.offset / 512) count no_hole fua ≡ long_call m id g r
zeroes_are m id g r count no_hole fua is c n f =
    ap (λ (x : Bool). WriteZeroes id (r.offset / 512) count x fua) n
    ∙ (by_other (is_trim (form_of r)) (Trim id (r.offset / 512) count fua) _ is ∙ both_calls m id g r count fua (is_trim (form_of r)) c f)

-- ---- what is left of a change that is kept apart

-- a FLUSH that counts as a sector of it
pub left_to_keep : (size : ℕ) (r : Request) → IsWhole size r → 0 < r.len → IsLeft size (to_keep r)
left_to_keep size r whole some =
    let len = whole.len in
    let inside = whole.inside in
    record {
      some = omega arith;
      few = omega arith;
      offset = whole.offset;
      len = omega arith;
      inside = omega (arith, len, inside, some);
    }

-- ---- what is told of it

module _ {D : Type 0} (outline : D → Outline) (Calls : D → Call → Answer → D → Type 0) (id size : ℕ) (m : Manner) (r : Request) (p p' : D) where
  -- a change that is kept apart, of which a FLUSH is left where it is done
  pub begun_done : (call : Call) (next : Phase) → Calls p call Done p' → next ≡ Transmission id size (Works m (to_keep r)) → Begins outline Calls call id size m r p [] next p'
  begun_done call next calls is = record { answer = Done; calls = calls; is_begun = (refl, is) }

  pub begun_refused : (call : Call) (reason : Refusal) (sent : List ℕ) (next : Phase) → Calls p call (Refused reason) p' → sent ≡ reply_to r.cookie (Refused reason) → next ≡ Transmission id size (Listens m)
      → Begins outline Calls call id size m r p sent next p'
  begun_refused call reason sent next calls sent_is is = record { answer = Refused reason; calls = calls; is_begun = (sent_is, is) }

  pub part_refused : (reason : Refusal) (sent : List ℕ) → Calls p (part_call m id (outline p).geometry r) (Refused reason) p' → sent ≡ reply_to r.cookie (Refused reason) → MakesPart outline Calls id size m r p sent (Transmission id size (Listens m)) p'
  part_refused reason sent call sent_is = record { answer = Refused reason; calls = call; is_made = (sent_is, refl) }

  made_last : (last : Bool) (rest : Request) (sent : List ℕ) → last ≡ true → sent ≡ reply_to r.cookie Done → IsMade id size m r rest last Done sent (Transmission id size (Listens m))
  made_last true rest sent e is = (is, refl)
  made_last false rest sent e is = absurd cc

  made_more : (last : Bool) (rest : Request) (sent : List ℕ) → last ≡ false → sent ≡ [] → IsMade id size m r rest last Done sent (Transmission id size (Works m rest))
  made_more false rest sent e is = (is, refl)
  made_more true rest sent e is = absurd cc

  pub part_last : (last : Bool) (sent : List ℕ) → Calls p (part_call m id (outline p).geometry r) Done p' → last ≡ is_last (outline p).geometry r → last ≡ true → sent ≡ reply_to r.cookie Done
      → MakesPart outline Calls id size m r p sent (Transmission id size (Listens m)) p'
  part_last last sent call is yes_ sent_is = record { answer = Done; calls = call; is_made = made_last (is_last (outline p).geometry r) _ sent (sym is ∙ yes_) sent_is }

  pub part_more : (last : Bool) (len : ℕ) (sent : List ℕ) → Calls p (part_call m id (outline p).geometry r) Done p' → last ≡ is_last (outline p).geometry r → last ≡ false → len ≡ up_to_cut (outline p).geometry r → sent ≡ []
      → MakesPart outline Calls id size m r p sent (Transmission id size (Works m (behind r len))) p'
  part_more last len sent call is more cut sent_is =
      let P : ℕ → Type 0 = λ n. MakesPart outline Calls id size m r p sent (Transmission id size (Works m (behind r n))) p' in
      subst P (sym cut) (record { answer = Done; calls = call; is_made = made_more (is_last (outline p).geometry r) (rest_of (outline p).geometry r) sent (sym is ∙ more) sent_is })

-- A request of which a FLUSH is left is answered by a flush that was made elsewhere.
pub ended_by : {D : Type 0} (view : View D) (volume size : ℕ) (manner : Manner) (r : Request) (g : Geometry) (p q : D) (answer : Answer) (sent : List ℕ) (next : Phase) → (view.outline p).geometry ≡ g → is_flush (form_of r) ≡ true
    → Meets view p q Flush answer → IsMade volume size manner r (rest_of g r) (is_last g r) answer sent next → MakesPart view.outline (PoolCall view) volume size manner r p sent next q
ended_by view volume size manner r g p q answer sent next same flush met made = record {
  answer = answer;
  calls = subst (λ (b : Bool). PoolCall view p (if b then Flush else long_call manner volume (view.outline p).geometry r) answer q) (sym flush) met;
  is_made = subst (λ (h : Geometry). IsMade volume size manner r (rest_of h r) (is_last h r) answer sent next) (sym same) made;
}

pub flushing_deaf : (phase : Phase) → is_to_flush phase ≡ true → kind_of phase ≡ None
flushing_deaf (Flags a) w = absurd cc
flushing_deaf (Options z) w = absurd cc
flushing_deaf (Transmission v n (Listens x)) w = absurd cc
flushing_deaf (Transmission v n (Works m r)) w = refl
flushing_deaf Ended w = absurd cc
