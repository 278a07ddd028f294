-- `choice::live_lanes` meets its contract: a test over the eight shifts.
-- Assumes nothing.
use native.Mathlib.Omega.{arith}
use Prim.Native.Nat.{◌+◌, ◌-◌, ◌%◌}
use Rattle.choice.proofs.Live.{live}
use Rattle.choice.proofs.live_lanes.Goals as goal

pub returns : goal.returns
returns c = record { at = live (7 - (c.args.columns + 7) % 8) (omega arith) }
