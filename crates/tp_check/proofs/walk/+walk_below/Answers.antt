use Rattle.std.proofs.Common.{rules, ◌≡◌, ℕ, List, ◌<◌, Bool, false, Some, get_or, length, refl, sym, ap, ◌∙◌, subst, arith}
use Rattle.std.specs.Prelude.{if◌then◌else◌, not, slice_get}
use Rattle.std.proofs.lemmas.Option.{slice_get-get_or}
use Rattle.std.proofs.lemmas.Result.{err_from_is_err_and}
use Rattle.tp_model.specs.Disk.{DiskState, after_read, seen}
use Rattle.tp_model.specs.Geometry.{Geometry, IsTreeBlock}
use Rattle.tp_layout.specs.declared.entry.Entry.{Entry}
use Rattle.tp_layout.specs.declared.superblock.Version.{Version}
use Rattle.tp_image.specs.Counts.{is_naming_data}
use Rattle.tp_check.specs.declared.error.CheckError.{CheckError}
use Rattle.tp_check.specs.declared.summary.Demand.{Demand}
use Rattle.tp_check.specs.declared.summary.Summary.{Summary}
use Rattle.tp_check.specs.Walk.{AreRecorded, Closes, Comes, HasTreeFault, IsBegun, IsInside, IsSame, Passes, Progress, demand_under}
use Rattle.tp_check.proofs.Passing.{err_passed, no_fault}
use Rattle.tp_image.proofs.Uniqueness.{contains_at}
use Rattle.tp_check.proofs.Walking.{child_begun, child_fault, inner_place, node_comes, none_below, walks_next}
use Rattle.tp_check.proofs.walk.+walk_below.Given.{Over}
use Rattle.tp_check.proofs.walk.+walk_below.Goals as goal
use Rattle.tp_check.proofs.walk.+walk_below.Goals.{After-demand_under-child}

pub returns-in-Some-clause-comes : goal.returns-in-Some-clause-comes
returns-in-Some-clause-comes g t c = search rules

pub returns-in_err-node-clause-state : goal.returns-in_err-node-clause-state
returns-in_err-node-clause-state g t c =
    let p = err_from_is_err_and c.from_residual-in_err-node.result c.from_residual-in_err-node.ensures.1 in
    let q = no_fault c.from_residual-in_err-node.result p.0 c.in_err-node.field-0.0 p.1 p.2 c.in_err-node.ensures.only in
    c.in_ok-read.ensures.state ∙ ap (λ (b : Bool). after_read (not b) (g.D.Disk.state c.args.disk.now)) (sym q)

pub demand_under-child-requires-clause-place : goal.demand_under-child-requires-clause-place
demand_under-child-requires-clause-place g t c e at =
    inner_place c.geometry-geometry.result c.in_ok-node.node e c.in_ok-node.ensures.good.2 (c.names_of-i-end.ensures.inner (omega (arith, c.loop-i-test.true))) (contains_at c.in_ok-node.node.entries c.loop-i.i e at)

-- the entry that the loop is at, and the name that it has
blank : Entry
blank = record { key = 0; value = 0; mapped = 0; size = 0 }

record Here (g : Over) (t : ℕ) (c : After-demand_under-child g t) : Type 0 where
  pub entry : Entry
  pub at : slice_get c.in_ok-node.node.entries c.loop-i.i ≡ Some entry
  pub is : c.demand_under-child.result ≡ demand_under c.args.walk.now.geometry c.args.demand.now c.in_ok-node.node c.loop-i.i entry
  pub inner : is_naming_data c.in_ok-node.node.kind c.in_ok-node.node.level ≡ false
  pub place : IsTreeBlock c.args.walk.now.geometry c.demand_under-child.result.block

here : (g : Over) (t : ℕ) (c : After-demand_under-child g t) → Here g t c
here g t c =
    let n = c.in_ok-node.node in
    let e = get_or n.entries c.loop-i.i blank in
    let at = slice_get-get_or n.entries c.loop-i.i blank (omega (arith, c.loop-i-test.true, c.names_of-i-end.ensures.inside)) in
    record {
      entry = e;
      at = at;
      is = c.demand_under-child.ensures.value e at ∙ ap (λ (x : Geometry). demand_under x c.args.demand.now n c.loop-i.i e) c.geometry-geometry.ensures.value;
      inner = c.names_of-i-end.ensures.inner (omega (arith, c.loop-i-test.true));
      place = subst (λ (x : Geometry). IsTreeBlock x c.demand_under-child.result.block) c.geometry-geometry.ensures.value c.demand_under-child.ensures.place;
    }

begun_here : (g : Over) (t : ℕ) (c : After-demand_under-child g t) → IsBegun (g.D.Disk.state c.args.disk.now) c.args.walk.now c.args.demand.now → IsBegun (g.D.Disk.state c.loop-i.disk) c.loop-i.walk c.demand_under-child.result
begun_here g t c begun =
    let h = here g t c in
    subst (λ (z : DiskState). IsBegun z c.loop-i.walk c.demand_under-child.result) (sym c.loop-i.invariant.state)
    (child_begun (g.D.Disk.state c.args.disk.now) c.args.walk.now c.loop-i.walk c.args.demand.now c.demand_under-child.result c.read.new.block c.in_ok-node.node c.loop-i.i h.entry begun c.requires.place
    (c.in_ok-read.ensures.bytes begun.0) c.in_ok-node.ensures.good.0 c.in_ok-node.ensures.good.1 h.inner h.at h.is c.loop-i.invariant.same (c.loop-i.invariant.on begun).walked)

pub returns-in_err-summary-clause-fault : goal.returns-in_err-summary-clause-fault
returns-in_err-summary-clause-fault g t c =
    let p = err_from_is_err_and c.from_residual-in_err-summary.result c.from_residual-in_err-summary.ensures.1 in
    let disk = g.D.Disk.state c.args.disk.now in
    let same = c.loop-i.invariant.same in
    let err = c.in_err-summary.field-0.0 in
    err_passed (λ (e : CheckError). IsBegun disk c.args.walk.now c.args.demand.now → HasTreeFault (seen disk.cells) c.args.walk.now.version c.args.walk.now.geometry c.args.walk.now.roots e)
    c.from_residual-in_err-summary.result p.0 err p.1 p.2 (λ begun.
    let told = c.in_err-summary.ensures.fault (begun_here g t (goal.at.returns-in_err-summary-clause-fault g t c).After-demand_under-child begun) in
    subst (λ (v : Version). HasTreeFault (seen disk.cells) v c.args.walk.now.geometry c.args.walk.now.roots err) same.version
    (subst (λ (x : List ℕ). HasTreeFault (seen disk.cells) c.loop-i.walk.version c.args.walk.now.geometry x err) same.roots
    (subst (λ (x : Geometry). HasTreeFault (seen disk.cells) c.loop-i.walk.version x c.loop-i.walk.roots err) same.geometry
    (subst (λ (z : DiskState). HasTreeFault (seen z.cells) c.loop-i.walk.version c.loop-i.walk.geometry c.loop-i.walk.roots err) c.loop-i.invariant.state told))))

pub returns-in_err-test-clause-fault : goal.returns-in_err-test-clause-fault
returns-in_err-test-clause-fault g t c =
    let p = err_from_is_err_and c.from_residual-in_err-test.result c.from_residual-in_err-test.ensures.1 in
    let disk = g.D.Disk.state c.args.disk.now in
    err_passed (λ (e : CheckError). IsBegun disk c.args.walk.now c.args.demand.now → HasTreeFault (seen disk.cells) c.args.walk.now.version c.args.walk.now.geometry c.args.walk.now.roots e)
    c.from_residual-in_err-test.result p.0 c.in_err-test.field-0.0 p.1 p.2 (λ begun.
    let a = (goal.at.returns-in_err-test-clause-fault g t c).After-demand_under-child in
    let h = here g t a in
    let comes = subst (λ (z : DiskState). Comes (seen z.cells) c.loop-i.walk c.walk_below.new.walk c.demand_under-child.result c.in_ok-summary.summary) c.loop-i.invariant.state (c.in_ok-summary.ensures.comes (begun_here g t a begun)) in
    child_fault disk c.args.walk.now c.loop-i.walk c.args.demand.now c.demand_under-child.result c.read.new.block c.in_ok-node.node c.loop-i.i h.entry begun c.requires.place
    (c.in_ok-read.ensures.bytes begun.0) c.in_ok-node.ensures.good.0 c.in_ok-node.ensures.good.1 h.inner h.at h.is c.loop-i.invariant.same c.walk_below.new.walk c.in_ok-summary.summary c.in_err-test.field-0.0 h.place comes c.in_err-test.ensures.fails)

same_through : (a b c : Progress) → IsSame a b → IsSame b c → IsSame a c
same_through a b c f h = record {
  version = h.version ∙ f.version;
  geometry = h.geometry ∙ f.geometry;
  roots = h.roots ∙ f.roots;
  known_long = h.known_long ∙ f.known_long;
  metadata_long = h.metadata_long ∙ f.metadata_long;
  others_long = h.others_long ∙ f.others_long;
}

pub loop-i-preserved : goal.loop-i-preserved
loop-i-preserved g t c = record {
  state = c.in_ok-summary.ensures.state ∙ c.loop-i.invariant.state;
  same = same_through c.args.walk.now c.loop-i.walk c.walk_below.new.walk c.loop-i.invariant.same c.in_ok-summary.ensures.same;
  on = λ begun.
      let a = (goal.at.loop-i-preserved g t c).After-demand_under-child in
      let h = here g t a in
      let disk = g.D.Disk.state c.args.disk.now in
      let comes = subst (λ (z : DiskState). Comes (seen z.cells) c.loop-i.walk c.walk_below.new.walk c.demand_under-child.result c.in_ok-summary.summary) c.loop-i.invariant.state (c.in_ok-summary.ensures.comes (begun_here g t a begun)) in
      walks_next (seen disk.cells) c.args.walk.now c.loop-i.walk c.walk_below.new.walk c.args.demand.now c.in_ok-node.node c.loop-i.i c.loop-i.last c.loop-i.below c.saturating_add-below.result h.entry c.in_ok-summary.summary
      c.loop-i.invariant.same c.in_ok-node.ensures.good.0 c.in_ok-node.ensures.good.1.kind_is h.at (c.loop-i.invariant.on begun)
      (subst (λ (x : Demand). Comes (seen disk.cells) c.loop-i.walk c.walk_below.new.walk x c.in_ok-summary.summary) h.is comes)
      (subst (λ (x : Demand). Passes c.in_ok-summary.summary x) h.is c.in_ok-test.ensures.passes) (λ small. omega (arith, small, c.saturating_add-below.ensures));
}

pub loop-i-init : goal.loop-i-init
loop-i-init g t c = record {
  state = c.in_ok-read.ensures.state;
  same = record { version = refl; geometry = refl; roots = refl; known_long = refl; metadata_long = refl; others_long = refl };
  on = λ begun. record {
    walked = begun.2;
    grows = λ b kept. kept;
    kept = λ k e lt at. absurd (omega (arith, lt));
    under = none_below (seen (g.D.Disk.state c.args.disk.now).cells) c.args.walk.now.geometry c.args.walk.now.roots c.args.demand.now c.in_ok-node.node;
  };
}

pub returns-clause-comes : goal.returns-clause-comes
returns-clause-comes g t c begun =
    let disk = g.D.Disk.state c.args.disk.now in
    let old = c.args.walk.now in
    let n = c.in_ok-node.node in
    let inside = subst (λ (x : Geometry). IsInside x n) c.geometry-geometry.ensures.value c.in_ok-node.ensures.good.2 in
    let recorded = subst (λ (v : Version). AreRecorded v old.geometry n) c.version-version.ensures (subst (λ (x : Geometry). AreRecorded c.version-version.result x n) c.geometry-geometry.ensures.value c.in_ok-node.ensures.good.3) in
    let closes = subst (λ (s : Summary). Closes n s c.loop-i.walk c.close.new.self) c.summary_of-summary.ensures c.close.ensures in
    let form = c.in_ok-node.ensures.good.1 in
    let room : n.own < length c.loop-i.walk.known = omega (arith, form.own_is, c.requires.place.1, c.loop-i.invariant.same.known_long, c.geometry-geometry.ensures.long) in
    let count : c.loop-i.i ≡ (if is_naming_data n.kind n.level then 0 else length n.entries) = omega (arith, c.loop-i-test.false, c.loop-i.auto.i-end) ∙ c.names_of-i-end.ensures.value in
    subst (λ (s : Summary). Comes (seen disk.cells) old c.close.new.self c.args.demand.now s) (sym c.summary_of-summary.ensures)
    (node_comes (seen disk.cells) old c.loop-i.walk c.close.new.self c.args.demand.now c.read.new.block n c.loop-i.i c.loop-i.last c.loop-i.below c.requires.place (c.in_ok-read.ensures.bytes begun.0) c.in_ok-node.ensures.good.0
    form inside recorded begun.1 c.loop-i.invariant.same room count (c.loop-i.invariant.on begun) closes)
