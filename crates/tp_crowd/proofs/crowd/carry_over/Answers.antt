use Rattle.std.proofs.Common.{[], refl, sym, append-nil, inl, inr, ◌∙◌}
use Rattle.tp_crowd.proofs.crowd.carry_over.Goals as goal

pub returns-in_default : goal.returns-in_default
returns-in_default g c = record { asks = []; asked = refl; did = []; made = sym (append-nil (g.S.Stream.calls c.args.stream.now)); are = inl (refl, refl, refl) }

pub returns : goal.returns
returns g c =
    let e = c.carry-ending.ensures.carried in
    record { asks = e.0; asked = e.1; did = e.2.0; made = e.2.1; are = inr (c.carry-ending.new.out, c.carry-ending.result, c.carry-ending.ensures.wide.most ∙ c.of_a_turn-out.ensures.most, e.2.2, c.was_carried.ensures) }
