-- What is added is 0.
use mathlib.Core.Path.{◌≡◌}
use Prim.Native.Nat.{◌+◌, ◌^◌, ◌<◌}
use native.Mathlib.Omega.{arith}
use lib.Bits.{bit_xor, xor_lt}
use Rattle.plane.proofs.crossed.Goals as goal

pub overflow_add-result : goal.overflow_add-result
overflow_add-result c = let x = c.args in record { fits = omega (arith, xor_lt 64 x.z x.first (omega arith) (omega arith)) }

pub overflow_add-result-2 : goal.overflow_add-result-2
overflow_add-result-2 c =
    let x = c.args in
    let none : bit_xor x.z x.first + x.hidden ≡ bit_xor x.z x.first = omega arith in
    let small : bit_xor x.z x.first < 2 ^ 64 = xor_lt 64 x.z x.first (omega arith) (omega arith) in
    rw none (record { fits = omega (arith, xor_lt 64 (bit_xor x.z x.first) x.second small (omega arith)) })
