-- `system_in` meets its contract: where the five fields stand, so do the bytes that it reads.
-- Assumes nothing.
use native.Mathlib.Omega.{arith}
use Rattle.std.proofs.Common.{rules}
use Rattle.exchange.specs.Record.{system_in}
use Rattle.exchange.proofs.Fields.{room}
use Rattle.exchange.proofs.system_in.Goals as goal

pub number_at-requires : goal.number_at-requires
number_at-requires c = (omega arith, omega (arith, room _ c.requires))

pub bounds-input-8 : goal.bounds-input-8
bounds-input-8 c = omega (arith, room _ c.requires)

pub bounds-input-12 : goal.bounds-input-12
bounds-input-12 c = omega (arith, room _ c.requires)

pub number_at-requires-2 : goal.number_at-requires-2
number_at-requires-2 c = (omega arith, omega (arith, room _ c.requires))

pub returns : goal.returns
unfolding system_in
returns c = search rules
