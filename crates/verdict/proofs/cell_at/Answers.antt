-- `cell_at` meets its contract: the entry of a share is the place over n, and over the width that is the place over both.
-- Assumes nothing.
use native.Mathlib.Nat.{div-le_self, mod-le, div-div-eq-div-mul}
use native.Mathlib.Omega.{arith}
use borrow.Author.Rules.{rules}
use Rattle.verdict.specs.Cells.{cell_at}
use Rattle.verdict.proofs.cell_at.Goals as goal

pub nonzero_div-entry : goal.nonzero_div-entry
nonzero_div-entry c = (rw c.in-Shared.is at c.requires.non_empty).0

pub nonzero_rem-share : goal.nonzero_rem-share
nonzero_rem-share c = (rw c.in-Shared.is at c.requires.non_empty).0

pub overflow_add-share : goal.overflow_add-share
overflow_add-share c = record { fits = omega (arith, mod-le c.args.place c.in-Shared.shares) }

pub cell_in-requires : goal.cell_in-requires
cell_in-requires c = (
  (rw c.in-Shared.is at c.requires.non_empty).1,
  omega (arith, div-le_self c.args.place c.in-Shared.shares),
)

pub cell_in-requires-in-Values : goal.cell_in-requires-in-Values
cell_in-requires-in-Values c = (rw c.in-Values.is at c.requires.non_empty, search rules)

pub returns-in-Shared : goal.returns-in-Shared
unfolding cell_at
returns-in-Shared c =
    rw (c.in-Shared.is, ← (div-div-eq-div-mul c.args.place c.in-Shared.shares c.in-Shared.width)) c.cell_in.ensures

pub returns-in-Values : goal.returns-in-Values
unfolding cell_at
returns-in-Values c = rw c.in-Values.is c.cell_in-in-Values.ensures
