use mathlib.Core.Path.{◌≡◌}
use Prim.Native.Nat.{ℕ, ◌+◌, ◌*◌, ◌/◌}
use native.Mathlib.Omega.{arith}
use Rattle.dealing.specs.Code.Words.{kept_byte}
use Rattle.dealing.proofs.Writing.{written-two, written_all, moved, cut}
use Rattle.dealing.proofs.pairs_word.Goals as goal

pub loop-p-preserved : goal.loop-p-preserved
loop-p-preserved g c =
    let l = c.loop-p in
    let x = c.args in
    let n = g.row.N in
    let t = c.two_at-x in
    let k : ℕ = 2 * l.p in
    let next : k + 2 ≡ 2 * (l.p + 1) = omega arith in
    written_all x.at (k + 2) (2 * (l.p + 1)) (kept_byte x.low n x.d.now x.o (x.shift / 8)) _ _
    (written-two x.at k (kept_byte x.low n x.d.now x.o (x.shift / 8)) _ l.row _ _ (x.at + k) (x.at + k + 1) l.invariant (omega arith) (omega arith) (omega arith)
    (cut x.low n x.d.now x.o (x.shift / 8) k _
    (moved n x.d.now x.o (x.o + k) k x.shift t.result.0 (omega arith) (omega arith) t.ensures.lanes))
    (cut x.low n x.d.now x.o (x.shift / 8) (k + 1) _
    (moved n x.d.now x.o (x.o + k + 1) (k + 1) x.shift t.result.1 (omega arith) (omega arith) t.ensures.lanes_2)))
    next
