use Rattle.std.proofs.Common.{◌≡◌, true, sym, ap, subst, ◌∙◌, arith}
use Rattle.std.specs.Prelude.{Bool, MatchOption, Option, Result}
use Rattle.tp_model.specs.declared.refusal.Refusal.{Refusal}
use Rattle.tp_served.specs.Served.{Cached}
use Rattle.tp_served.specs.Midway.{IsFlushed, IsMidway, Midst, parts_left}
use Rattle.tp_served.proofs.flushing.MidServed.go_on.Goals as goal

pub go_on_flush_on-after-requires-clause-midway : goal.go_on_flush_on-after-requires-clause-midway
go_on_flush_on-after-requires-clause-midway g c =
    let M = g.M.Metadata in
    let old : Cached g.row.M.Denot = record { cache = c.self.inside.past.held; besides = c.self.inside.inside.besides } in
    subst (λ (b : Bool). IsMidway M.geometry M.stands M.tells M.midway old b c.self.inside.inside) c.if-is_named.false c.self.invariant

pub returns-then-is_named-clause-flushing : goal.returns-then-is_named-clause-flushing
returns-then-is_named-clause-flushing g c =
    let M = g.M.Metadata in
    let answer = c.end_flush_on-after.result.1 in
    subst (λ (i : Midst g.row.M.Denot). IsFlushed M.geometry M.stands M.marks M.room M.changed i.was c.of.result answer) c.self.view_is
    (subst (λ (n : Cached g.row.M.Denot). IsFlushed M.geometry M.stands M.marks M.room M.changed (record { cache = c.self.inside.past.held; besides = c.self.inside.inside.besides }) n answer) (sym c.of.ensures) c.end_flush_on-after.ensures)

pub returns-in-Some-clause-flushing : goal.returns-in-Some-clause-flushing
returns-in-Some-clause-flushing g c =
    let M = g.M.Metadata in
    let old : Cached g.row.M.Denot = record { cache = c.self.inside.past.held; besides = c.self.inside.inside.besides } in
    let new = c.go_on_flush_on-after.result.0 in
    let told = subst (λ (o : Option (Result (Unit {0}) Refusal)). MatchOption o (IsMidway M.geometry M.stands M.tells M.midway old true new) (λ answer. IsFlushed M.geometry M.stands M.marks M.room M.changed old new answer)) c.in-Some.is c.go_on_flush_on-after.ensures in
    subst (λ (i : Midst g.row.M.Denot). IsFlushed M.geometry M.stands M.marks M.room M.changed i.was c.of-in-Some.result c.in-Some.answer) c.self.view_is
    (subst (λ (n : Cached g.row.M.Denot). IsFlushed M.geometry M.stands M.marks M.room M.changed old n c.in-Some.answer) (sym c.of-in-Some.ensures) told)

pub so_far-requires : goal.so_far-requires
so_far-requires g c =
    let M = g.M.Metadata in
    let old : Cached g.row.M.Denot = record { cache = c.self.inside.past.held; besides = c.self.inside.inside.besides } in
    let new = c.go_on_flush_on-after.result.0 in
    let mid = subst (λ (o : Option (Result (Unit {0}) Refusal)). MatchOption o (IsMidway M.geometry M.stands M.tells M.midway old true new) (λ answer. IsFlushed M.geometry M.stands M.marks M.room M.changed old new answer)) c.in-None.is c.go_on_flush_on-after.ensures in
    let begun : Cached g.row.M.Denot = record { cache = c.self.inside.past.held; besides = new.besides } in
    let same : begun ≡ old = (λ i. record { cache = c.self.inside.past.held; besides = mid.besides i }) in
    subst (λ (o : Cached g.row.M.Denot). IsMidway M.geometry M.stands M.tells M.midway o true new) (sym same) mid

pub returns-in-None-clause-flushing : goal.returns-in-None-clause-flushing
returns-in-None-clause-flushing g c =
    let M = g.M.Metadata in
    let old : Cached g.row.M.Denot = record { cache = c.self.inside.past.held; besides = c.self.inside.inside.besides } in
    let new = c.go_on_flush_on-after.result.0 in
    let mid = subst (λ (o : Option (Result (Unit {0}) Refusal)). MatchOption o (IsMidway M.geometry M.stands M.tells M.midway old true new) (λ answer. IsFlushed M.geometry M.stands M.marks M.room M.changed old new answer)) c.in-None.is c.go_on_flush_on-after.ensures in
    let begun : Cached g.row.M.Denot = record { cache = c.self.inside.past.held; besides = new.besides } in
    let same : begun ≡ old = (λ i. record { cache = c.self.inside.past.held; besides = mid.besides i }) in
    c.so_far.ensures.was ∙ (same ∙ ap (λ (i : Midst g.row.M.Denot). i.was) c.self.view_is)

pub returns-in-None-clause-fewer : goal.returns-in-None-clause-fewer
returns-in-None-clause-fewer g c =
    let before : c.args.self.left ≡ 2 = sym (ap (λ (i : Midst g.row.M.Denot). i.left) c.self.view_is) ∙ ap parts_left c.if-is_named.false in
    let after : c.so_far.result.left ≡ 1 = c.so_far.ensures.left in
    omega (arith, before, after)
