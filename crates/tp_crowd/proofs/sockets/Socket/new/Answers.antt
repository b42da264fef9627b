use Rattle.std.proofs.Common.{◌≡◌, IfSome, subst, sym, ap, ◌∙◌}
use Rattle.tp_lock.specs.Framing.{at_first, given_in, passed}
use Rattle.tp_crowd.proofs.sockets.Socket.new.Goals as goal

pub invariant_of-result : goal.invariant_of-result
invariant_of-result g c = record {
  follows = c.new-2.ensures ∙ ap (λ calls. passed at_first (given_in calls)) (sym c.new.ensures);
  beside = subst (λ u. IfSome u (λ f. f.handle.promise.frames ≡ c.new-2.result)) (sym c.new-4.ensures) tt;
}
