-- What was found of a pool is printed.
use Rattle.std.proofs.Common.{◌≡◌, ◌≢◌, inl, inr, ℕ, Bool, true, false, List, refl, sym, ap, subst, ◌∙◌}
use Rattle.std.specs.Prelude.{◌⊎◌, MatchBool, MatchResult, Result, Ok, Err, not, ◌==◌}
use Rattle.std.proofs.lemmas.Bool.{eqb-true, false≢true}
use Rattle.tp_model.specs.declared.refusal.Refusal.{Refusal}
use Rattle.tp_model.specs.declared.refusal.Refusal.TheVariants.{Fault, HeldRootExists}
use Rattle.tp_model.specs.Geometry.{Geometry}
use Rattle.tp_model.specs.Pool.{Outline, PlainPool}
use Rattle.tp_model.specs.Calls.{Refused, Sized, VolumeBlocks}
use Rattle.tp_model.specs.Clauses.{Meets, View, ViewLaws}
use Rattle.tp_hub.specs.Streams.{IsSent, Makes, StreamCall}
use Rattle.tp_listings.specs.declared.extent.Extent.{Extent}
use Rattle.tp_listings.specs.declared.extent.Usage.{Usage}
use Rattle.tp_listings.specs.Listings.{IsDelta, IsFreeList, IsListOfVolumes, IsMap}
use Rattle.tp_listings.specs.Looks.{LooksOver, ShowsStill}
use Rattle.tp_listings.specs.Refusing.{IsRefusal, IsRefusalOfAll}
use Rattle.tp_listings.proofs.Looked.{blocks_refusal, blocks_still, both, gives, refuses, sized, still_both, told, was_refused}
use Rattle.tp_reports.specs.declared.report.Report.{Report}
use Rattle.tp_reports.specs.declared.report.Report.TheVariants.{Delta, Free, Map, Volumes}
use Rattle.tp_reports.specs.Printing.{Prints}
use Rattle.tp_reports.specs.Reports.{IsRefusalOf, IsText, Reports, data_offset, delta_in, runs_in, unit_of, usages_in}

-- how a text was sent is how it was printed
prints_so : (calls calls' : List StreamCall) (text : List ℕ) (b : Bool) (result : Result (Unit {0}) Refusal) → Makes calls calls' (λ did. IsSent text did b) → MatchBool b (result ≡ Ok tt) (result ≡ Err Fault)
    → Prints calls calls' text result
prints_so calls calls' text true result m e =
    (m.0, m.1, subst (λ (r : Result (Unit {0}) Refusal). MatchResult r (λ _. IsSent text m.0 true) (λ reason. (reason ≡ Fault) × IsSent text m.0 false)) (sym e) m.2)
prints_so calls calls' text false result m e =
    (m.0, m.1, subst (λ (r : Result (Unit {0}) Refusal). MatchResult r (λ _. IsSent text m.0 true) (λ reason. (reason ≡ Fault) × IsSent text m.0 false)) (sym e) (refl, m.2))

not_false : (b : Bool) → false ≡ not b → b ≡ true
not_false true e = refl
not_false false e = absurd (false≢true e)

is_zero : (n : ℕ) → false ≡ not (n == 0) → n ≡ 0
is_zero n e = eqb-true n 0 (not_false (n == 0) e)

is_some : (n : ℕ) → true ≡ not (n == 0) → n ≢ 0
is_some n e z = absurd (false≢true (sym (subst (λ (k : ℕ). true ≡ not (k == 0)) z e)))

module _ {D : Type 0} (view : View D) (laws : ViewLaws view) where
  -- the pool that is shown has the sizes that are told
  geometry_is : (d : D) (s : PlainPool) (g : Geometry) → view.shows d s → g ≡ (view.outline d).geometry → g ≡ s.geometry
  geometry_is d s g shown e = e ∙ sym (ap (λ (o : Outline). o.geometry) (laws.shown d s shown))

  -- a text was found and printed
  prints : {A : Type 0} (old new : D) (report : Report) (is_json : Bool) (calls calls' : List StreamCall) (a : A) (text : List ℕ) (b : Bool) (result : Result (Unit {0}) Refusal) → LooksOver view old new {A = A} (Ok a)
      → ShowsStill view old new → ((s : PlainPool) → view.shows old s → IsText s report is_json text) → Makes calls calls' (λ did. IsSent text did b) → MatchBool b (result ≡ Ok tt) (result ≡ Err Fault)
      → Reports view old new report is_json calls calls' result
  prints old new report is_json calls calls' a text b result looks still exact sent e =
      (still, inl (text, gives view old new a text looks, exact, prints_so calls calls' text b result sent e))

  pub refused : {A : Type 0} (old new : D) (report : Report) (is_json : Bool) (calls : List StreamCall) (reason : Refusal) → LooksOver view old new {A = A} (Err reason) → ShowsStill view old new
      → ((s : PlainPool) → view.shows old s → IsRefusalOf s report reason) → Reports view old new report is_json calls calls (Err reason)
  refused old new report is_json calls reason looks still why = (still, inr (inl (reason, refl, refuses view old new reason looks, why, refl)))

  pub refused_behind : {A B : Type 0} (old mid new : D) (report : Report) (is_json : Bool) (calls : List StreamCall) (a : A) (reason : Refusal) → LooksOver view old mid {A = A} (Ok a) → ShowsStill view old mid
      → LooksOver view mid new {A = B} (Err reason) → ShowsStill view mid new → ((s : PlainPool) → view.shows mid s → IsRefusalOf s report reason) → Reports view old new report is_json calls calls (Err reason)
  refused_behind old mid new report is_json calls a reason one still_one two still_two why =
      refused old new report is_json calls reason (both view old mid new a (Err reason) one two) (still_both view old mid new still_one still_two) (λ s shown. why s (still_one s shown))

  pub map_told : {A : Type 0} (old new : D) (id : ℕ) (is_json : Bool) (calls calls' : List StreamCall) (a : A) (items slice : List Extent) (g : Geometry) (u : ℕ) (b : Bool) (result : Result (Unit {0}) Refusal)
      → LooksOver view old new {A = A} (Ok a) → ShowsStill view old new → ((s : PlainPool) → view.shows old s → IsMap s id items) → slice ≡ items → g ≡ (view.outline new).geometry → u ≡ unit_of g
      → Makes calls calls' (λ did. IsSent (runs_in is_json 0 u slice) did b) → MatchBool b (result ≡ Ok tt) (result ≡ Err Fault) → Reports view old new (Map id) is_json calls calls' result
  map_told old new id is_json calls calls' a items slice g u b result looks still exact same e is sent done =
      prints old new (Map id) is_json calls calls' a (runs_in is_json 0 u slice) b result looks still (λ s shown.
      let unit = is ∙ ap unit_of (geometry_is new s g (still s shown) e) in (items, exact s shown, (λ i. runs_in is_json 0 (unit i) (same i)))) sent done

  pub delta_unsized : (old mid : D) (older newer : ℕ) (is_json : Bool) (calls : List StreamCall) (reason : Refusal) → Meets view old mid (VolumeBlocks newer) (Refused reason)
      → Reports view old mid (Delta older newer) is_json calls calls (Err reason)
  delta_unsized old mid older newer is_json calls reason met =
      refused old mid (Delta older newer) is_json calls reason (was_refused {A = ℕ} view old mid (VolumeBlocks newer) reason refl met) (blocks_still view old mid newer (Refused reason) met)
      (λ s shown. inr (blocks_refusal view old mid newer reason met s shown))

  pub delta_refused : {A : Type 0} (old mid new : D) (older newer blocks : ℕ) (is_json : Bool) (calls : List StreamCall) (reason : Refusal) → Meets view old mid (VolumeBlocks newer) (Sized blocks)
      → LooksOver view mid new {A = A} (Err reason) → ShowsStill view mid new → ((s : PlainPool) → view.shows mid s → IsRefusal s older reason ⊎ IsRefusal s newer reason)
      → Reports view old new (Delta older newer) is_json calls calls (Err reason)
  delta_refused old mid new older newer blocks is_json calls reason met looks still why =
      refused_behind old mid new (Delta older newer) is_json calls blocks reason (told view old mid (VolumeBlocks newer) (Sized blocks) blocks refl met) (blocks_still view old mid newer (Sized blocks) met) looks still why

  pub delta_told : {A : Type 0} (old mid new : D) (older newer blocks : ℕ) (is_json : Bool) (calls calls' : List StreamCall) (a : A) (items slice : List Extent) (g : Geometry) (u : ℕ) (b : Bool)
      (result : Result (Unit {0}) Refusal) → Meets view old mid (VolumeBlocks newer) (Sized blocks) → LooksOver view mid new {A = A} (Ok a) → ShowsStill view mid new
      → ((s : PlainPool) → view.shows mid s → IsDelta s older newer items) → slice ≡ items → g ≡ (view.outline new).geometry → u ≡ unit_of g
      → Makes calls calls' (λ did. IsSent (delta_in is_json u blocks slice) did b) → MatchBool b (result ≡ Ok tt) (result ≡ Err Fault) → Reports view old new (Delta older newer) is_json calls calls' result
  delta_told old mid new older newer blocks is_json calls calls' a items slice g u b result met looks still exact same e is sent done =
      let first = blocks_still view old mid newer (Sized blocks) met in
      prints old new (Delta older newer) is_json calls calls' a (delta_in is_json u blocks slice) b result
      (both view old mid new blocks (Ok a) (told view old mid (VolumeBlocks newer) (Sized blocks) blocks refl met) looks) (still_both view old mid new first still) (λ s shown.
      let unit = is ∙ ap unit_of (geometry_is new s g (still s (first s shown)) e) in
      let long = sized view old mid s newer blocks shown met in
      (items, exact s (first s shown), (λ i. delta_in is_json (unit i) (long i) (same i)))) sent done

  pub volumes_told : {A : Type 0} (old mid new : D) (held : Bool) (is_json : Bool) (calls calls' : List StreamCall) (a : A) (items slice : List Usage) (g : Geometry) (u : ℕ) (b : Bool) (result : Result (Unit {0}) Refusal)
      → LooksOver view old mid {A = Bool} (Ok held) → ShowsStill view old mid → ((s : PlainPool) → view.shows old s → held ≡ not (s.held_root == 0)) → LooksOver view mid new {A = A} (Ok a)
      → ShowsStill view mid new → ((s : PlainPool) → view.shows mid s → IsListOfVolumes s items) → slice ≡ items → g ≡ (view.outline new).geometry → u ≡ unit_of g
      → Makes calls calls' (λ did. IsSent (usages_in is_json u held slice) did b) → MatchBool b (result ≡ Ok tt) (result ≡ Err Fault) → Reports view old new Volumes is_json calls calls' result
  volumes_told old mid new held is_json calls calls' a items slice g u b result probed first holds looks still exact same e is sent done =
      prints old new Volumes is_json calls calls' a (usages_in is_json u held slice) b result (both view old mid new held (Ok a) probed looks) (still_both view old mid new first still) (λ s shown.
      let unit = is ∙ ap unit_of (geometry_is new s g (still s (first s shown)) e) in
      let kept = holds s shown in (items, exact s (first s shown), (λ i. usages_in is_json (unit i) (kept i) (same i)))) sent done

  pub free_told : {A : Type 0} (old mid new : D) (is_json : Bool) (calls calls' : List StreamCall) (a : A) (items slice : List Extent) (g : Geometry) (at u : ℕ) (b : Bool) (result : Result (Unit {0}) Refusal) (held : Bool)
      → held ≡ false → LooksOver view old mid {A = Bool} (Ok held) → ShowsStill view old mid → ((s : PlainPool) → view.shows old s → held ≡ not (s.held_root == 0)) → LooksOver view mid new {A = A} (Ok a)
      → ShowsStill view mid new → ((s : PlainPool) → view.shows mid s → IsFreeList s items) → slice ≡ items → g ≡ (view.outline new).geometry → at ≡ data_offset g → u ≡ unit_of g
      → Makes calls calls' (λ did. IsSent (runs_in is_json at u slice) did b) → MatchBool b (result ≡ Ok tt) (result ≡ Err Fault) → Reports view old new Free is_json calls calls' result
  free_told old mid new is_json calls calls' a items slice g at u b result held not_held probed first holds looks still exact same e begins is sent done =
      prints old new Free is_json calls calls' a (runs_in is_json at u slice) b result (both view old mid new held (Ok a) probed looks) (still_both view old mid new first still) (λ s shown.
      let sizes = geometry_is new s g (still s (first s shown)) e in
      let unit = is ∙ ap unit_of sizes in
      let place = begins ∙ ap data_offset sizes in
      (is_zero s.held_root (sym not_held ∙ holds s shown), items, exact s (first s shown), (λ i. runs_in is_json (place i) (unit i) (same i)))) sent done

  pub free_held : (old new : D) (is_json : Bool) (calls : List StreamCall) (held : Bool) → held ≡ true → LooksOver view old new {A = Bool} (Ok held) → ShowsStill view old new
      → ((s : PlainPool) → view.shows old s → held ≡ not (s.held_root == 0)) → Reports view old new Free is_json calls calls (Err HeldRootExists)
  free_held old new is_json calls held is looks still holds =
      (still, inr (inr (refl, refl, gives view old new held tt looks, (λ s shown. is_some s.held_root (sym is ∙ holds s shown)), refl)))
