use Rattle.std.proofs.Common.{◌≡◌, ◌∙◌, ◌+◌, ◌*◌, ◌/◌, ◌≤◌, length, sym, ap, subst, arith}
use Rattle.tp_cache.specs.Table.{mixed_bytes}
use Rattle.tp_cache.proofs.Overlays.{bytes_beyond, mixed_all}
use Rattle.tp_cache.proofs.overlay.lay_over.Goals as goal

pub loop-k-preserved : goal.loop-k-preserved
loop-k-preserved c =
    let was = c.loop-k.invariant in
    let at = c.args.at in
    let k = c.loop-k.k in
    let n : length c.loop-k.out / 512 ≡ length c.args.out.now / 512 = ap (λ m. m / 512) was.long in
    record {
      long = c.lay_sector.ensures.long ∙ was.long;
      mixed = λ size index owners outer inner wo wi fits t h e.
          c.lay_sector.ensures.mixed size index owners outer inner wo wi (subst (λ m. at + m ≤ size) (sym n) fits) t h (was.mixed size index owners outer inner wo wi fits t h e ∙ ap (λ m. mixed_bytes outer inner at m k) (sym n))
          ∙ ap (λ m. mixed_bytes outer inner at m (k + 1)) n;
    }

pub returns : goal.returns
returns c size index owners outer inner wo wi fits t h e =
    let n = length c.args.out.now / 512 in
    let all : c.loop-k.k ≡ n = omega (arith, c.loop-k-test.false, c.loop-k.auto.k-end) in
    c.loop-k.invariant.mixed size index owners outer inner wo wi fits t h e ∙ mixed_all outer inner c.args.at n c.loop-k.k all

pub returns-then-at-held : goal.returns-then-at-held
returns-then-at-held c size index owners outer inner wo wi fits t h e =
    let long = h.same_length in
    let far : 8 * length index ≤ c.args.at = omega (arith, c.if-at-held.true, long) in
    e ∙ bytes_beyond index size c.args.at (length c.args.out.now / 512) outer inner wo wi t far
