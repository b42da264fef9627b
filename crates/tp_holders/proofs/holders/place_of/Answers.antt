use Rattle.std.proofs.Common.{◌≡◌, ap, arith, subst, sym, ◌∙◌, ◌+◌, ◌<◌, length}
use Rattle.std.proofs.lemmas.Bool.{eq-eqb, eqb-true, false≢true}
use Rattle.tp_holders.specs.Holders.{Holding}
use Rattle.tp_holders.proofs.Rows.{IsLastBelow, at_index, no_place, place_before, place_found, place_here, volume_at}
use Rattle.tp_holders.proofs.holders.place_of.Goals as goal
use Rattle.tp_holders.proofs.holders.place_of.Goals.{then-eq, else-eq}

pub loop-i-init : goal.loop-i-init
loop-i-init c = no_place c.args.holders.now c.args.volume

pub loop-i-preserved : goal.loop-i-preserved
loop-i-preserved c =
    let hs = c.args.holders.now in
    let i = c.loop-i.i in
    let inside : i < length hs = omega (arith, c.loop-i-test.true) in
    let here : volume_at hs i ≡ c.volume.result =
    at_index hs i c.index-holders-i.result inside ∙ (ap (λ (h : Holding). h.volume) (sym c.index-holders-i.is) ∙ sym c.volume.ensures) in
    elim c.if-eq.branch [
      | then-eq w ↦
          subst (IsLastBelow hs c.args.volume (i + 1)) (sym w.place-is)
          (place_here hs c.args.volume i (here ∙ eqb-true c.volume.result c.args.volume (sym c.eq.ensures ∙ w.if-eq.true)))
      | else-eq w ↦
          subst (IsLastBelow hs c.args.volume (i + 1)) (sym w.place-is)
          (place_before hs c.args.volume i c.loop-i.place c.loop-i.invariant
          (λ is. false≢true (sym w.if-eq.false ∙ (c.eq.ensures ∙ eq-eqb c.volume.result c.args.volume (sym here ∙ is)))))
    ]

pub returns : goal.returns
returns c =
    let hs = c.args.holders.now in
    place_found hs c.args.volume c.loop-i.place c.requires
    (subst (λ n. IsLastBelow hs c.args.volume n c.loop-i.place) (omega (arith, c.loop-i-test.false, c.loop-i.auto)) c.loop-i.invariant)
