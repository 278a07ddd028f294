-- What the wide `wanted` says is what the next call must be lent: a call with these lengths is not refused 7 or 14, nor 8 or 15.
-- Assumes nothing.
use mathlib.Core.Path.{◌≡◌, sym, ap, ◌∙◌}
use native.Mathlib.Nat.{le_of_eq}
use lib.ListN.{length}
use Rattle.course.specs.declared.Draws.{Draws}
use Rattle.verdict.specs.Refusals.{no7, no8, no14, no15}
use Rattle.verdict.specs.Calls.{gives}
use Rattle.verdict.proofs.Passes.{long_enough}
use Rattle.wide.specs.WideRefusals.{cost_at, wanted_order}
use Rattle.wide.specs.WideCalls.{wanted_call}
use Rattle.trace.specs.Driving.{Beside}
use Rattle.trace.proofs.Wanted.{told}
use Rattle.wide_trace.specs.WideTrace.{Host, order_in, Never}
use Rattle.wide_trace.proofs.Run.{never}

module _ (h : Host) (c : Beside) (d : Draws) (says : (wanted_call h.progress).says ≡ gives d) where
  wants : d ≡ cost_at (order_in h) h.progress.place
  unfolding wanted_call
  wants = told (wanted_order h.progress) (cost_at (order_in h) h.progress.place) d _ _ says

  pub wanted-mask : length c.mask ≡ d.mask → Never 7 h c × Never 14 h c
  unfolding no7 no14
  wanted-mask l =
      let e = l ∙ ap (λ (x : Draws). x.mask) wants in
      (never h c 7 (long_enough 7 _ (le_of_eq (sym e))), never h c 14 (long_enough 14 _ (le_of_eq e)))

  pub wanted-nonzero : length c.nonzero ≡ d.nonzero → Never 8 h c × Never 15 h c
  unfolding no8 no15
  wanted-nonzero l =
      let e = l ∙ ap (λ (x : Draws). x.nonzero) wants in
      (never h c 8 (long_enough 8 _ (le_of_eq (sym e))), never h c 15 (long_enough 15 _ (le_of_eq e)))
