use Rattle.std.proofs.Common.{Err, Ok, Result, false, subst}
use Rattle.std.specs.Prelude.{OnOk}
use Rattle.tp_model.specs.Pool.{PlainPool}
use Rattle.tp_model.specs.declared.refusal.Refusal.{Refusal}
use Rattle.tp_model.specs.Calls.{Delete, Makes, Write}
use Rattle.tp_model.specs.Sectors.{sectors_of}
use Rattle.tp_pool.specs.Held.{PoolAnswered, shows}
use Rattle.tp_users.proofs.Removals.{both_make, used_again}
use Rattle.tp_users.proofs.removed.removed_blocks_are_used_again.Goals as goal

pub returns-clause-again : goal.returns-clause-again
returns-clause-again g c = λ refused s shown.
    let G = g.M.Metadata.geometry in
    let S = g.M.Metadata.stands in
    let write = subst (λ (r : Result _ Refusal). PoolAnswered G S c.delete.new.self c.write.new.self (Write c.args.other c.args.sector (sectors_of c.args.bytes.now) false) r) refused c.write.ensures.called in
    used_again G S c.args.pool.now c.delete.new.self c.write.new.self c.args.removed c.args.other c.args.sector c.args.bytes.now s shown c.in_ok-delete.ensures.called write

pub returns-clause-done : goal.returns-clause-done
returns-clause-done g c = done c.write.result c.write.ensures.called
  where
    done : (result : Result (Unit {0}) Refusal) → PoolAnswered g.M.Metadata.geometry g.M.Metadata.stands c.delete.new.self c.write.new.self (Write c.args.other c.args.sector (sectors_of c.args.bytes.now) false) result
        → OnOk result ((s : PlainPool) → shows g.M.Metadata.geometry g.M.Metadata.stands c.args.pool.now s
        → (without : PlainPool) × (after : PlainPool) × Makes s (Delete c.args.removed) without × Makes without (Write c.args.other c.args.sector (sectors_of c.args.bytes.now) false) after
        × shows g.M.Metadata.geometry g.M.Metadata.stands c.write.new.self after)
    done (Ok u) called = λ s shown. both_make g.M.Metadata.geometry g.M.Metadata.stands c.args.pool.now c.delete.new.self c.write.new.self c.args.removed c.args.other c.args.sector (sectors_of c.args.bytes.now) s shown
        c.in_ok-delete.ensures.called (Ok u) called
    done (Err reason) called = tt
