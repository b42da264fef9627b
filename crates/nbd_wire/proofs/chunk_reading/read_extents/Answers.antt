use Rattle.std.proofs.Common.{rules, ◌≡◌, ◌≢◌, ◌∙◌, ◌≤◌, ℕ, List, length, take, sym, arith}
use Rattle.nbd_wire.specs.Contexts.{extents_text}
use Rattle.std.proofs.lemmas.Bool.{eqb-false, eqb-true}
use Rattle.std.proofs.lemmas.List.{length-set, length-take-le}
use Rattle.nbd_wire.proofs.Extents.{extent_none, length-left, read_all, reads_one_more}
use Rattle.nbd_wire.proofs.chunk_reading.read_extents.Goals as goal

pub returns-then-count-out-clause-none : goal.returns-then-count-out-clause-none
returns-then-count-out-clause-none c = λ extents le is.
    let l = c.loop-rest in
    let some : length l.rest.now ≢ 0 = eqb-false (length l.rest.now) 0 (sym c.is_empty.ensures ∙ c.loop-rest-test.true) in
    omega (arith, length-left c.args.text.now l.rest.now (take l.count l.out) extents l.invariant.text_is is, length-take-le l.count l.out l.invariant.inside, le, l.invariant.len, c.if-count-out.true, some)

pub returns-in_err-extent-clause-none : goal.returns-in_err-extent-clause-none
returns-in_err-extent-clause-none c =
    let l = c.loop-rest in
    let some : length l.rest.now ≢ 0 = eqb-false (length l.rest.now) 0 (sym c.is_empty.ensures ∙ c.loop-rest-test.true) in
    let none : (extents : List (ℕ × ℕ)) → length extents ≤ length c.args.out.now → c.args.text.now ≡ extents_text extents → ⊥ = λ extents le is.
    omega (arith, length-left c.args.text.now l.rest.now (take l.count l.out) extents l.invariant.text_is is, extent_none l.rest.now (sym c.in_err-extent.ensures), some) in
    search (rules, none)

pub loop-rest-smaller : goal.loop-rest-smaller
loop-rest-smaller c =
    let l = c.loop-rest in
    (reads_one_more c.args.text.now l.rest.now c.in_ok-extent.behind.now l.out l.count c.in_ok-extent.extent (λ i. omega (arith, c.type_inv.text i)) (omega (arith, l.invariant.inside, c.if-count-out.false))
    l.invariant.fit l.invariant.text_is (sym c.in_ok-extent.ensures)).shorter

pub loop-rest-preserved : goal.loop-rest-preserved
loop-rest-preserved c =
    let l = c.loop-rest in
    let more = reads_one_more c.args.text.now l.rest.now c.in_ok-extent.behind.now l.out l.count c.in_ok-extent.extent (λ i. omega (arith, c.type_inv.text i)) (omega (arith, l.invariant.inside, c.if-count-out.false))
    l.invariant.fit l.invariant.text_is (sym c.in_ok-extent.ensures) in
    record {
      text_is = more.text_is;
      fit = more.fit;
      len = omega (arith, length-set l.out l.count c.in_ok-extent.extent, l.invariant.len);
      inside = omega (arith, length-set l.out l.count c.in_ok-extent.extent, l.invariant.inside, c.if-count-out.false);
    }

pub returns-clause-again : goal.returns-clause-again
returns-clause-again c = λ extents fit is.
    let l = c.loop-rest in
    read_all c.args.text.now l.rest.now l.out extents l.count l.invariant.inside (eqb-true (length l.rest.now) 0 (sym c.is_empty.ensures ∙ c.loop-rest-test.false)) l.invariant.fit fit l.invariant.text_is is
