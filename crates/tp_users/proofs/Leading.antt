-- Lives of a hub, one behind the other, as the plain hub has them.
use Rattle.std.proofs.Common.{◌≡◌, List, [], ◌∷◌, refl, sym, ap, subst, ◌∙◌, None}
use Rattle.std.specs.FinMap.{empty}
use Rattle.tp_model.specs.Pool.{Outline, PlainPool}
use Rattle.tp_model.specs.Clauses.{HasTrace, IsOpened, PoolCall, Traced, TracedCall, View, ViewLaws, outline_of_traced, traced}
use Rattle.tp_model.proofs.Running.{starts}
use Rattle.nbd_session.specs.Clauses.{GoesWithTrace}
use Rattle.nbd_session.specs.Turns.{AreTurns, Sessions, closed, pool_after, sessions_after}
use Rattle.tp_hub.specs.Told.{Told}
use Rattle.tp_hub.specs.Runs.{Incoming, Runs, turns_in}
use Rattle.tp_hub.specs.Serving.{AllLeaveSo, AreLeaving, HubState, sessions_of}
use Rattle.tp_hub.specs.Lives.{AreHubLives, ArePlainLives, HubLife, IsHubLife}
use Rattle.tp_users.specs.Lived.{IsFirstLife, IsLived, IsNextLife}
use Rattle.tp_users.specs.Lives.{AreTwoLives, IsLed, IsOpenedAs, Tells}
use Rattle.tp_hub.proofs.Tracing.{goes_join}

module _ {D : Type 0} (view : View D) (laws : ViewLaws view) where
  -- nobody holds a volume of a pool that was opened
  pub free_of : (image : view.Image) (d : D) (s : PlainPool) → view.stands_for image s → IsOpened view image d → (view.outline d).holds ≡ empty
  free_of image d s stands opened = sym (ap (λ (o : Outline). o.holds) (laws.shown d s (opened.shows s stands))) ∙ ap (λ (p : PlainPool). p.holds) (laws.at_rest image s stands)

  pub free_as : (s : PlainPool) (d : D) → IsOpenedAs view s d → (view.outline d).holds ≡ empty
  free_as s d from = free_of from.image d s from.stands from.opened

  abbrev pub Led : D → List Incoming → Told → Told → D → Type 0
  Led = IsLed view.outline (PoolCall view)

  abbrev pub LedPlainly : Traced → List Incoming → Told → Told → Traced → Type 0
  LedPlainly = IsLed outline_of_traced (TracedCall view.has_use)

  -- the first run of a hub that was made of a pool
  pub led_from_new : (h : HubState D) (pool new : D) (at : Sessions) (events : List Incoming) (before after : Told) → h.pool ≡ pool → sessions_of h.slots ≡ closed → Runs view.outline (PoolCall view) (sessions_of h.slots) h.pool events before after at new
      → Runs view.outline (PoolCall view) closed pool events before after at new
  led_from_new h pool new at events before after is none run =
      subst (λ (p : D). Runs view.outline (PoolCall view) closed p events before after at new) is (subst (λ (a : Sessions). Runs view.outline (PoolCall view) a h.pool events before after at new) none run)

  pub traced_from_new : (h : HubState D) (pool new : D) (at : Sessions) (events : List Incoming) (before after : Told) → h.pool ≡ pool → sessions_of h.slots ≡ closed
      → GoesWithTrace view h.pool new (λ t t'. Runs outline_of_traced (TracedCall view.has_use) (sessions_of h.slots) t events before after at t')
      → GoesWithTrace view pool new (λ t t'. Runs outline_of_traced (TracedCall view.has_use) closed t events before after at t')
  traced_from_new h pool new at events before after is none goes =
      subst (λ (p : D). GoesWithTrace view p new (λ t t'. Runs outline_of_traced (TracedCall view.has_use) closed t events before after at t')) is
      (subst (λ (a : Sessions). GoesWithTrace view h.pool new (λ t t'. Runs outline_of_traced (TracedCall view.has_use) a t events before after at t')) none goes)

  -- a run of a hub, and the end of all, go with the trace
  pub led_goes : (at : Sessions) (pool mid new : D) (events : List Incoming) (before after : Told) → GoesWithTrace view pool mid (λ t t'. Runs outline_of_traced (TracedCall view.has_use) closed t events before after at t')
      → GoesWithTrace view mid new (λ t t'. AllLeaveSo outline_of_traced (TracedCall view.has_use) at t t') → GoesWithTrace view pool new (λ t t'. LedPlainly t events before after t')
  led_goes at pool mid new events before after run leave =
      goes_join view laws pool mid new (λ t u. Runs outline_of_traced (TracedCall view.has_use) closed t events before after at u) (λ u w. AllLeaveSo outline_of_traced (TracedCall view.has_use) at u w)
      (λ t w. LedPlainly t events before after w) (λ t u w one two. record { at = at; mid = u; runs = one; leaves = two }) run leave

  -- what is shown in the end
  pub shown_at_last : (s : PlainPool) (d new : D) (events : List Incoming) (before after : Told) → IsOpenedAs view s d → GoesWithTrace view d new (λ t t'. LedPlainly t events before after t') → (t : PlainPool) × view.shows new t
  shown_at_last s d new events before after from goes =
      let x = goes d s (traced s []) (starts view laws d s (from.opened.shows s from.stands) (from.opened.opens s from.stands)) in
      let has = x.2 in
      (x.0.pool, has.shown)

  -- ---- one life

  pub record IsOneLife (image : view.Image) (events : List Incoming) (before after : Told) (left : view.Image) (l : HubLife D view.Image) : Type 0 where
    pub is : IsHubLife view image l
    pub tells : Tells l events before after
    pub left_is : l.image ≡ left

  pub one_life : (image left : view.Image) (d new : D) (events : List Incoming) (before after : Told) → IsOpened view image d → Led d events before after new → view.may_leave new left
      → (l : HubLife D view.Image) × IsOneLife image events before after left l
  one_life image left d new events before after opened led stop =
      let run = led.runs in
      let leave = led.leaves in
      let at : Sessions = sessions_after closed (turns_in run.served) in
      let mid : D = pool_after d (turns_in run.served) in
      let end : pool_after mid leave.turns ≡ new = ap (λ (p : D). pool_after p leave.turns) run.pool_is ∙ leave.pool_is in
      let l : HubLife D view.Image = record { opened = d; served = run.served; turns = leave.turns; current = None; image = left } in (
        l,
        record {
          is = record {
            opening = opened;
            serving = run.are;
            turning = subst (λ (p : D). AreTurns view.outline (PoolCall view) at p leave.turns) (sym run.pool_is) (subst (λ (a : Sessions). AreTurns view.outline (PoolCall view) a led.mid leave.turns) (sym run.sessions_are) leave.are);
            stop = subst (λ (p : D). view.may_leave p left) (sym end) stop;
          };
          tells = record {
            took = run.events_are;
            told = run.adds;
            ends = subst (λ (a : Sessions). AreLeaving a leave.turns) (sym run.sessions_are) leave.leaving;
            done = refl;
          };
          left_is = refl;
        },
      )

  -- ---- two of them

  abbrev pub HubLaw : Type 0
  HubLaw = (image : view.Image) (s : PlainPool) (lives : List (HubLife D view.Image)) → view.stands_for image s → AreHubLives view image lives → ArePlainLives view s lives

  -- what the first one's stop left is opened as some pool
  pub found_behind : HubLaw → (s : PlainPool) (d new : D) (events : List Incoming) (before after : Told) (left : view.Image) → IsOpenedAs view s d → Led d events before after new → view.may_leave new left
      → (found : PlainPool) × view.stands_for left found
  found_behind law s d new events before after left from led stop =
      let x = one_life from.image left d new events before after from.opened led stop in
      let l = x.0 in
      let plain = law from.image s (l ∷ []) from.stands (x.1.is, tt) in
      (plain.found, subst (λ (i : view.Image). view.stands_for i plain.found) x.1.left_is plain.stands_for)

  pub two_lives : HubLaw → (s : PlainPool) (d mid e new : D) (events more : List Incoming) (before after again last : Told) (left image : view.Image) → IsOpenedAs view s d → Led d events before after mid → view.may_leave mid left
      → IsOpened view left e → Led e more again last new → view.may_leave new image → AreTwoLives view s events more before after again last image
  two_lives law s d mid e new events more before after again last left image from one stop opened two last_stop =
      let x = one_life from.image left d mid events before after from.opened one stop in
      let y = one_life left image e new more again last opened two last_stop in
      let behind = subst (λ (i : view.Image). IsHubLife view i y.0) (sym x.1.left_is) y.1.is in
      record {
        first = x.0;
        second = y.0;
        plain = law from.image s (x.0 ∷ y.0 ∷ []) from.stands (x.1.is, (behind, tt));
        first_tells = x.1.tells;
        second_tells = y.1.tells;
        image_is = y.1.left_is;
      }

  -- ---- the same by what is known of each life

  pub lived : (d last : D) (events : List Incoming) (before after : Told) (image : view.Image) → Led d events before after last → view.may_leave last image → IsLived view d events before after image
  lived d last events before after image led stop = record { last = last; led = led; left = stop }

  pub first_lived : (s : PlainPool) (d : D) (events : List Incoming) (before after : Told) (image : view.Image) → IsOpenedAs view s d → IsLived view d events before after image → IsFirstLife view s events before after image
  first_lived s d events before after image opened life = record { pool = d; opened = opened; life = life }

  pub next_lived : (from : view.Image) (d : D) (events : List Incoming) (before after : Told) (image : view.Image) → IsOpened view from d → IsLived view d events before after image
      → IsNextLife view from events before after image
  next_lived from d events before after image opened life = record { pool = d; opened = opened; life = life }

  pub found_after : HubLaw → (s : PlainPool) (events : List Incoming) (before after : Told) (image : view.Image) → IsFirstLife view s events before after image → (found : PlainPool) × view.stands_for image found
  found_after law s events before after image l = found_behind law s l.pool l.life.last events before after image l.opened l.life.led l.life.left

  pub two_lived : HubLaw → (s : PlainPool) (events more : List Incoming) (before after again last : Told) (left image : view.Image) → IsFirstLife view s events before after left
      → IsNextLife view left more again last image → AreTwoLives view s events more before after again last image
  two_lived law s events more before after again last left image one two =
      two_lives law s one.pool one.life.last two.pool two.life.last events more before after again last left image one.opened one.life.led one.life.left two.opened two.life.led two.life.left
