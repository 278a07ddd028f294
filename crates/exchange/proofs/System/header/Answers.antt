-- `header` meets its contract: the sixteen bytes, one by one.
-- Assumes nothing.
use mathlib.Core.Path.{◌≡◌}
use native.Mathlib.Omega.{arith}
use Prim.Native.Nat.{ℕ, ◌/◌, ◌%◌, ◌≤◌}
use Rattle.exchange.specs.Record.{tagged}
use Rattle.exchange.specs.Code.Header.{header_of}
use Rattle.exchange.proofs.System.header.Goals as goal

high : (k : ℕ) → k ≤ 65535 → k / 256 % 256 ≡ k / 256
high k h = omega (arith, h)

pub returns : goal.returns
unfolding header_of tagged
returns c =
    let s = c.args.self in
    rw (c.to_be_bytes-f.ensures, c.to_be_bytes-k.ensures, high s.field c.requires.0, high s.length c.requires.3)
