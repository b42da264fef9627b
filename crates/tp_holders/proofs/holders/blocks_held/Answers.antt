use Rattle.std.proofs.Common.{◌≡◌, ap, arith, sym, ◌∙◌, ◌<◌, length}
use Rattle.std.proofs.lemmas.Bool.{eq-eqb, eqb-true, false≢true}
use Rattle.tp_holders.specs.Holders.{Holding}
use Rattle.tp_holders.proofs.Rows.{at_index, first_blocks, none_yet, nowhere, somewhere, volume_at}
use Rattle.tp_holders.proofs.holders.blocks_held.Goals as goal

pub returns-then-eq : goal.returns-then-eq
returns-then-eq c =
    let hs = c.args.holders.now in
    let i = c.loop-i.i in
    let holder = c.index-holders-i.result in
    let inside : i < length hs = omega (arith, c.loop-i-test.true) in
    let there : volume_at hs i ≡ c.args.volume =
    at_index hs i holder inside ∙ (ap (λ (h : Holding). h.volume) (sym c.index-holders-i.is) ∙ (sym c.volume.ensures ∙ eqb-true c.volume.result c.args.volume (sym c.eq.ensures ∙ c.if-eq.true))) in
    let last = c.index-holders-i-then-eq.result in (
      somewhere hs c.args.volume i inside there,
      c.blocks-then-eq.ensures ∙ (ap (λ (h : Holding). h.blocks) c.index-holders-i-then-eq.is ∙ first_blocks hs c.args.volume i last c.loop-i.invariant inside there),
    )

pub loop-i-preserved : goal.loop-i-preserved
loop-i-preserved c =
    let hs = c.args.holders.now in
    let i = c.loop-i.i in
    let inside : i < length hs = omega (arith, c.loop-i-test.true) in
    let here : volume_at hs i ≡ c.volume.result =
    at_index hs i c.index-holders-i.result inside ∙ (ap (λ (h : Holding). h.volume) (sym c.index-holders-i.is) ∙ sym c.volume.ensures) in
    none_yet hs c.args.volume i c.loop-i.invariant
    (λ is. false≢true (sym c.if-eq.false ∙ (c.eq.ensures ∙ eq-eqb c.volume.result c.args.volume (sym here ∙ is))))

pub returns : goal.returns
returns c = nowhere c.args.holders.now c.args.volume (λ j lt. c.loop-i.invariant j (omega (arith, lt, c.loop-i-test.false)))
