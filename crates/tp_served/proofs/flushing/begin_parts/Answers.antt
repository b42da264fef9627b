use Rattle.std.proofs.Common.{◌≡◌, ℕ, ◌<◌, false, sym, subst, ◌∙◌, arith}
use Rattle.std.specs.Prelude.{MatchOption, Option, Result}
use Rattle.tp_model.specs.declared.refusal.Refusal.{Refusal}
use Rattle.tp_served.specs.Served.{Cached}
use Rattle.tp_served.specs.Midway.{IsFlushed, IsMidway}
use Rattle.tp_served.proofs.flushing.begin_parts.Goals as goal

pub returns-in-Some-clause-flushing : goal.returns-in-Some-clause-flushing
returns-in-Some-clause-flushing g c =
    let M = g.M.Metadata in
    let new = c.begin_flush_on-after.result.0 in
    let told = subst (λ (o : Option (Result (Unit {0}) Refusal)). MatchOption o (IsMidway M.geometry M.stands M.tells M.midway c.args.inside false new) (λ answer. IsFlushed M.geometry M.stands M.marks M.room M.changed c.args.inside new answer)) c.in-Some.is c.begin_flush_on-after.ensures in
    subst (λ (n : Cached g.row.M.Denot). IsFlushed M.geometry M.stands M.marks M.room M.changed c.args.inside n c.in-Some.answer) (sym c.of.ensures) told

pub so_far-requires : goal.so_far-requires
so_far-requires g c =
    let M = g.M.Metadata in
    let new = c.begin_flush_on-after.result.0 in
    let mid = subst (λ (o : Option (Result (Unit {0}) Refusal)). MatchOption o (IsMidway M.geometry M.stands M.tells M.midway c.args.inside false new) (λ answer. IsFlushed M.geometry M.stands M.marks M.room M.changed c.args.inside new answer)) c.in-None.is c.begin_flush_on-after.ensures in
    let old : Cached g.row.M.Denot = record { cache = c.past-past.result.held; besides = new.besides } in
    let same : old ≡ c.args.inside = (λ i. record { cache = c.past-past.ensures i; besides = mid.besides i }) in
    subst (λ (o : Cached g.row.M.Denot). IsMidway M.geometry M.stands M.tells M.midway o false new) (sym same) mid

pub returns-in-None-clause-flushing : goal.returns-in-None-clause-flushing
returns-in-None-clause-flushing g c =
    let M = g.M.Metadata in
    let new = c.begin_flush_on-after.result.0 in
    let mid = subst (λ (o : Option (Result (Unit {0}) Refusal)). MatchOption o (IsMidway M.geometry M.stands M.tells M.midway c.args.inside false new) (λ answer. IsFlushed M.geometry M.stands M.marks M.room M.changed c.args.inside new answer)) c.in-None.is c.begin_flush_on-after.ensures in
    let old : Cached g.row.M.Denot = record { cache = c.past-past.result.held; besides = new.besides } in
    let same : old ≡ c.args.inside = (λ i. record { cache = c.past-past.ensures i; besides = mid.besides i }) in
    c.so_far.ensures.was ∙ same

pub returns-in-None-clause-few : goal.returns-in-None-clause-few
returns-in-None-clause-few g c = subst (λ (n : ℕ). n < 3) (sym c.so_far.ensures.left) (omega arith)
