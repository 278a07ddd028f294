-- How many pivots a record's slots hold: as many as were found.
-- Assumes nothing.
use mathlib.Core.Path.{◌≡◌}
use Prim.Native.Nat.{◌≤◌}
use native.Mathlib.Omega.{arith}
use lib.ListN.{length}
use lib.Seq.{length-take-le}
use Rattle.sharing.specs.Bounds.{most_rows}
use Rattle.pattern.specs.declared.Pivots.{Pivots}
use Rattle.pattern.specs.Pivots.{listed}

pub used : (v : Pivots) → v.found ≤ most_rows → length v.columns ≡ most_rows → length (listed v) ≡ v.found
used v l e = length-take-le v.found v.columns (omega arith)
