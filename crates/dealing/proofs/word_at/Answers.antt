use Prim.Native.Nat.{ℕ, ◌+◌, ◌*◌, ◌<◌}
use native.Mathlib.Omega.{arith}
use lib.Dec.{lit<}
use lib.ListN.{get_or}
use Rattle.dealing.proofs.Lanes.{eight_lanes}
use Rattle.dealing.proofs.word_at.Goals as goal

pub returns : goal.returns
returns g c =
    let x = c.args in
    let i : ℕ → ℕ = λ l. x.o + l * g.row.N in
    let at = λ (k : ℕ) (h : k < 8). c.loop-l.invariant.1 k (omega arith) in
    rw c.from_le_bytes.ensures
    (eight_lanes (λ l. get_or x.d.now (i l) 0) (λ l. omega (arith, c.type_inv.d (i l))) _ _ _ _ _ _ _ _
    (at 0 (lit< tt)) (at 1 (lit< tt)) (at 2 (lit< tt)) (at 3 (lit< tt)) (at 4 (lit< tt)) (at 5 (lit< tt)) (at 6 (lit< tt)) (at 7 (lit< tt)))
