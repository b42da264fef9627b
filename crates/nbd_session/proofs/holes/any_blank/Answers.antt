use Rattle.std.proofs.Common.{◌≡◌, ◌-◌, ◌+◌, ◌∙◌, ap, false, length, min, sym, take, arith}
use Rattle.nbd_session.specs.Holes.{any_blank, is_blank}
use Rattle.nbd_session.proofs.Holing.{blank_found, blank_more, blank_none}
use Rattle.nbd_session.proofs.holes.any_blank.Goals as goal

pub loop-preserved : goal.loop-preserved
loop-preserved c =
    let l = c.loop in
    let rest = l.rest.now in
    let none : is_blank (take (min l.part (length rest)) rest) ≡ false = sym (c.is_blank.ensures ∙ ap is_blank c.cut_at.ensures.front) ∙ c.if-is_blank.false in
    l.invariant ∙ (blank_more (17 - l.counter) (17 - (l.counter + 1)) l.part rest (omega (arith, c.loop-test.true)) none
    ∙ ap (any_blank (17 - (l.counter + 1)) 65536) (sym c.cut_at.ensures.back))

pub returns-then-is_blank : goal.returns-then-is_blank
returns-then-is_blank c =
    let l = c.loop in
    let rest = l.rest.now in
    sym (l.invariant ∙ blank_found (17 - l.counter) (17 - (l.counter + 1)) l.part rest (omega (arith, c.loop-test.true)) (sym (c.is_blank.ensures ∙ ap is_blank c.cut_at.ensures.front) ∙ c.if-is_blank.true))

pub returns : goal.returns
returns c =
    let l = c.loop in
    sym (l.invariant ∙ blank_none (17 - l.counter) l.part l.rest.now (omega (arith, c.loop-test.false)))
