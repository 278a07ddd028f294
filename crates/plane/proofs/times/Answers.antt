use mathlib.Core.Path.{◌≡◌, sym, ap, ap₂, ◌∙◌}
use mathlib.Core.List.{List}
use Prim.Native.Nat.{ℕ, suc, ◌<◌, ◌-◌, ◌+◌}
use native.Mathlib.Omega.{arith}
use lib.Bits.{bit_xor, bit_and, xor_zero_r}
use lib.ListN.{get_or}
use Rattle.field.proofs.Xor.{xor_assoc}
use Rattle.plane.specs.Code.Products.{dot}
use Rattle.plane.proofs.times.Goals as goal

-- the turn's code is the definition's step
turn : (bits : ℕ) (masks : List ℕ) (a : ℕ) (other : List ℕ) (b v t : ℕ) → t < bits
    → bit_xor (bit_xor v (bit_and (get_or masks (a + t) 0) (get_or other (b + t) 0))) (dot (bits - (t + 1)) masks (a + (t + 1)) other (b + (t + 1)))
    ≡ bit_xor v (dot (bits - t) masks (a + t) other (b + t))
unfolding dot
turn bits masks a other b v t l =
    let e : suc (bits - (t + 1)) ≡ bits - t = omega arith in
    let f : a + (t + 1) ≡ a + t + 1 = omega arith in
    let g : b + (t + 1) ≡ b + t + 1 = omega arith in
    let x : ℕ = bit_and (get_or masks (a + t) 0) (get_or other (b + t) 0) in
    xor_assoc v x (dot (bits - (t + 1)) masks (a + (t + 1)) other (b + (t + 1)))
    ∙ ap₂ (λ (i j : ℕ). bit_xor v (bit_xor x (dot (bits - (t + 1)) masks i other j))) f g
    ∙ ap (λ (k : ℕ). bit_xor v (dot k masks (a + t) other (b + t))) e

pub loop-t-preserved : goal.loop-t-preserved
loop-t-preserved g c =
    let l = c.loop-t in
    let x = c.args in
    turn g.row.BITS x.masks.now x.a x.other.now x.b l.v l.t (omega arith) ∙ l.invariant

pub returns : goal.returns
unfolding dot
returns g c =
    let l = c.loop-t in
    let x = c.args in
    let e : g.row.BITS - l.t ≡ 0 = omega arith in
    sym (xor_zero_r l.v) ∙ ap (λ (k : ℕ). bit_xor l.v (dot k x.masks.now (x.a + l.t) x.other.now (x.b + l.t))) (sym e) ∙ l.invariant
