use Rattle.std.proofs.Common.{◌+◌, ℕ, [], refl, sym, subst, ◌∙◌, arith, inl, inr}
use Rattle.tp_model.specs.Clauses.{PoolCall}
use Rattle.nbd_session.specs.Session.{limit_of}
use Rattle.nbd_session.proofs.Naming.{Named, all_named, found_one, none_left, one_named, refused_named, too_many_named}
use Rattle.nbd_session.proofs.listing.name_all.Goals as goal

pub loop-named-preserved : goal.loop-named-preserved
loop-named-preserved g c =
    let p = g.V.Volumes in
    let l = c.loop-named in
    let limit = limit_of c.args.terms.profile in
    let found = found_one c.in-Ok-Some.field-0 c.in-Ok-Some.volume _ _ c.in-Ok-Some.ensures c.in-Ok-Some.field-0-is in
    record {
      most = omega (arith, c.loop-named-test.true);
      len = c.put_name-at.ensures.len ∙ l.invariant.len;
      ids =
          subst (λ (n : ℕ). Named p.view.outline (PoolCall p.view) limit c.args.pool.now c.next_from.new.pool (n + 1) (l.named + 1) c.put_name-at.result c.put_name-at.new.out) (sym c.number-from.ensures.value)
          (one_named p.view.outline (PoolCall p.view) limit c.args.pool.now l.pool c.next_from.new.pool l.from l.named l.at c.put_name-at.result c.in-Ok-Some.volume l.out c.put_name-at.new.out l.invariant.ids found.0 found.1
          c.put_name-at.ensures.reply c.put_name-at.ensures.end);
    }

pub returns-in-Ok-None-clause-answer : goal.returns-in-Ok-None-clause-answer
returns-in-Ok-None-clause-answer g c =
    let p = g.V.Volumes in
    let l = c.loop-named in
    inl (all_named p.view.outline (PoolCall p.view) c.args.pool.now l.pool c.next_from.new.pool l.from l.named l.at c.put_end.result l.out c.put_end.new.out c.args.terms l.invariant.ids l.invariant.most
    (none_left c.in-Ok-None.field-0 _ _ c.in-Ok-None.ensures c.in-Ok-None.field-0-is) c.put_end.ensures.reply)

pub returns-in-Err-clause-answer : goal.returns-in-Err-clause-answer
returns-in-Err-clause-answer g c =
    let p = g.V.Volumes in
    let l = c.loop-named in
    inr (refused_named p.view.outline (PoolCall p.view) (limit_of c.args.terms.profile) c.args.pool.now l.pool c.next_from.new.pool l.from l.named l.at l.out [] c.in-Err.field-0 l.invariant.ids l.invariant.most c.in-Err.ensures refl)

pub returns-in-Ok-None-next_from-clause-answer : goal.returns-in-Ok-None-next_from-clause-answer
returns-in-Ok-None-next_from-clause-answer g c =
    let p = g.V.Volumes in
    let l = c.loop-named in
    inl (all_named p.view.outline (PoolCall p.view) c.args.pool.now l.pool c.next_from-2.new.pool l.from l.named l.at c.put_end-in-Ok-None-next_from.result l.out c.put_end-in-Ok-None-next_from.new.out c.args.terms
    l.invariant.ids l.invariant.most (none_left c.in-Ok-None-next_from.field-0 _ _ c.in-Ok-None-next_from.ensures c.in-Ok-None-next_from.field-0-is) c.put_end-in-Ok-None-next_from.ensures.reply)

pub returns-in-Ok-Some-next_from-clause-answer : goal.returns-in-Ok-Some-next_from-clause-answer
returns-in-Ok-Some-next_from-clause-answer g c =
    let p = g.V.Volumes in
    let l = c.loop-named in
    let call = (found_one c.in-Ok-Some-next_from.field-0 c.in-Ok-Some-next_from.field-0-0 _ _ c.in-Ok-Some-next_from.ensures c.in-Ok-Some-next_from.field-0-is).1 in
    inr (too_many_named p.view.outline (PoolCall p.view) (limit_of c.args.terms.profile) c.args.pool.now l.pool c.next_from-2.new.pool l.from l.named l.at c.in-Ok-Some-next_from.field-0-0 l.out [] l.invariant.ids
    (omega (arith, l.invariant.most, c.loop-named-test.false)) call refl)

pub returns-in-Err-next_from-clause-answer : goal.returns-in-Err-next_from-clause-answer
returns-in-Err-next_from-clause-answer g c =
    let p = g.V.Volumes in
    let l = c.loop-named in
    inr (refused_named p.view.outline (PoolCall p.view) (limit_of c.args.terms.profile) c.args.pool.now l.pool c.next_from-2.new.pool l.from l.named l.at l.out [] c.in-Err-next_from.field-0 l.invariant.ids l.invariant.most c.in-Err-next_from.ensures refl)
