-- What `wanted` says is what the next call must be lent: a call with these lengths is not refused 7 or 14, nor 8 or 15.
-- Assumes nothing.
use mathlib.Core.Path.{◌≡◌, sym, ap, ◌∙◌}
use Prim.Native.Nat.{ℕ}
use native.Mathlib.Nat.{le_of_eq}
use native.Mathlib.Omega.{arith}
use lib.ListN.{length}
use Rattle.course.specs.declared.Draws.{Draws}
use Rattle.verdict.specs.Told.{Told, passed, refused}
use Rattle.verdict.specs.Refusals.{no7, no8, no14, no15}
use Rattle.solver.specs.Refusals.{cost_at, wanted_order}
use Rattle.verdict.specs.Calls.{gives, after, call}
use Rattle.solver.specs.Calls.{wanted_call}
use Rattle.trace.specs.Driving.{Beside}
use Rattle.trace.specs.Trace.{Host, order_in, Never}
use Rattle.verdict.proofs.Passes.{long_enough}
use Rattle.trace.proofs.Trace.{never}

-- a call that gives no refusal gives what it does
pub told : {A L : Type 0} (w : Told) (a d : A) (found left : L) → (call w found (after (gives a) left)).says ≡ gives d → d ≡ a
unfolding call
told passed a d found left g = cc
told (refused l) a d found left g = let z : ◌≡◌ {A = ℕ} 0 1 = cc in absurd (let n : ⊥ = omega arith in n)

module _ (h : Host) (c : Beside) (d : Draws) where
  module _ (says : (wanted_call h.progress).says ≡ gives d) where
    wants : d ≡ cost_at (order_in h) h.progress.place
    unfolding wanted_call
    wants = told (wanted_order h.progress) (cost_at (order_in h) h.progress.place) d _ _ says

    pub wanted-mask : length c.mask ≡ d.mask → Never 7 h c × Never 14 h c
    unfolding no7 no14
    wanted-mask l =
        let e = l ∙ ap (λ (x : Draws). x.mask) wants in
        (never h c 7 (long_enough 7 _ (le_of_eq (sym e))), never h c 14 (long_enough 14 _ (le_of_eq e)))

    pub wanted-nonzero : length c.nonzero ≡ d.nonzero → Never 8 h c × Never 15 h c
    unfolding no8 no15
    wanted-nonzero l =
        let e = l ∙ ap (λ (x : Draws). x.nonzero) wants in
        (never h c 8 (long_enough 8 _ (le_of_eq (sym e))), never h c 15 (long_enough 15 _ (le_of_eq e)))
