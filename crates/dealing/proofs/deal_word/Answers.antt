use mathlib.Core.Path.{◌≡◌}
use Prim.Native.Nat.{ℕ, ◌+◌, ◌-◌, ◌*◌, ◌/◌}
use native.Mathlib.Omega.{arith}
use Rattle.dealing.specs.Code.Words.{kept_byte}
use Rattle.dealing.proofs.Writing.{written_last, moved, cut}
use Rattle.dealing.proofs.deal_word.Goals as goal

pub returns-then-this-eq1 : goal.returns-then-this-eq1
returns-then-this-eq1 g c =
    let x = c.args in
    let n = g.row.N in
    let k : ℕ = n / 2 * 2 in
    let odd : k + 1 ≡ n = omega arith in
    written_last x.at k n (kept_byte x.low n x.d.now x.o (x.shift / 8)) _ _ _ (x.at + n - 1) c.pairs_word.ensures odd (omega arith) (omega arith)
    (cut x.low n x.d.now x.o (x.shift / 8) k _
    (moved n x.d.now x.o (x.o + n - 1) k x.shift c.word_at.result (omega arith) (omega arith) c.word_at.ensures))
