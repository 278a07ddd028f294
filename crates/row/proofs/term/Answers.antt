-- `row::term` meets its contract. The loop's invariant: what is summed and what is left to add are the whole sum.
-- Assumes nothing.
use mathlib.Core.Path.{◌≡◌, sym, ap, ◌∙◌}
use Prim.Native.Nat.{ℕ, ◌-◌, ◌+◌, ◌*◌}
use native.Mathlib.Omega.{arith}
use lib.Bits.{bit_xor, xor_zero_r}
use Rattle.row.specs.Code.Products.{term}
use Rattle.row.proofs.TermLaw.{term_next}
use Rattle.row.proofs.term.Goals as goal

pub loop-t-preserved : goal.loop-t-preserved
loop-t-preserved c =
    let s = c.loop-t in
    let x = c.args in
    term_next x.bits x.r x.m.now s.v s.h x.g s.t (omega arith) ∙ s.invariant

pub returns : goal.returns
unfolding term
returns c =
    let s = c.loop-t in
    let x = c.args in
    let e : x.bits - s.t ≡ 0 = omega arith in
    sym (xor_zero_r s.v) ∙ ap (λ (k : ℕ). bit_xor s.v (term x.m.now x.r k (s.t * x.r + x.g) s.h)) (sym e) ∙ s.invariant
