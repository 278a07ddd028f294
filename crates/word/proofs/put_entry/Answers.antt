use mathlib.Core.Path.{◌≡◌, refl, ap, ◌∙◌}
use Prim.Native.Nat.{ℕ, ◌+◌, ◌-◌, ◌*◌, ◌/◌, ◌%◌, ◌^◌, ◌<◌}
use native.Mathlib.Omega.{arith}
use lib.ListN.{get_or}
use Rattle.word.specs.Lanes.{lane}
use Rattle.word.proofs.Putting.{shares_next, share-put}
use Rattle.word.proofs.put_entry.Goals as goal

pub loop-s-preserved : goal.loop-s-preserved
unfolding lane
loop-s-preserved c =
    let l = c.loop-s in
    let x = c.args in
    let put-lt : get_or x.v.now l.s 0 < 256 = omega (arith, c.type_inv.v l.s) in
    let w : ℕ = get_or l.row (x.e / 8 * x.n + l.s) 0 in
    let e : c.byte_of.result ≡ lane w (7 - x.e % 8) = c.byte_of.ensures ∙ ap (λ (k : ℕ). w / 2 ^ k % 256) l.invariant.1 in (
      refl,
      l.invariant.1,
      shares_next x.n x.e l.s x.v.now x.row.now l.row _ (omega arith) l.invariant.2
          (rw (c.from.ensures, e, l.invariant.1) (share-put x.n x.e l.s (get_or x.v.now l.s 0) l.row (omega arith) (omega arith) put-lt)),
    )
