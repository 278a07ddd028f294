-- `words::place_of` meets its contract: the numbers are those of the definition's list, and past its end there is no place.
-- Assumes nothing.
use mathlib.Core.Path.{◌∙◌, sym}
use Prim.Native.Nat.{◌≤◌}
use Rattle.host.specs.Words.{place_of, places, nowhere}
use lib.ListN.{get_or-eq_default}
use native.Mathlib.Omega.{arith}
use Rattle.host.proofs.words.place_of.Goals as goal

pub returns-in-0 : goal.returns-in-0
unfolding place_of
returns-in-0 c = rw c.in-0.is

pub returns-in-1 : goal.returns-in-1
unfolding place_of
returns-in-1 c = rw (c.in-1.is, c.carrying_no.ensures)

pub returns-in-2 : goal.returns-in-2
unfolding place_of
returns-in-2 c = rw (c.in-2.is, c.carrying_no-in-2.ensures)

pub returns-in-3 : goal.returns-in-3
unfolding place_of
returns-in-3 c = rw c.in-3.is

pub returns-in-4 : goal.returns-in-4
unfolding place_of
returns-in-4 c = rw (c.in-4.is, c.carrying_no-in-4.ensures)

pub returns-in-5 : goal.returns-in-5
unfolding place_of
returns-in-5 c = rw (c.in-5.is, c.carrying_no-in-5.ensures)

pub returns-in-6 : goal.returns-in-6
unfolding place_of
returns-in-6 c = rw (c.in-6.is, c.carrying_no-in-6-2.ensures, c.carrying_no-in-6.ensures)

pub returns-in-7 : goal.returns-in-7
unfolding place_of
returns-in-7 c = rw (c.in-7.is, c.carrying_no-in-7.ensures)

pub returns-in_default : goal.returns-in_default
unfolding place_of
returns-in_default c =
    let past : 8 ≤ c.args.step = omega arith in
    c.no_place.ensures ∙ sym (get_or-eq_default (places c.args.j c.args.k) nowhere past)
