-- A record written and read again; words that name no place.
-- Assumes nothing.
use mathlib.Core.List.{[], ◌∷◌}
use mathlib.Core.Path.{◌≡◌, refl, ap}
use Prim.Native.Nat.{ℕ}
use Rattle.course.specs.declared.Place.{Place}
use Rattle.course.specs.declared.Place.TheVariants.{At, Stopped, Done}
use Rattle.course.specs.declared.Progress.{Progress}
use Rattle.course.specs.declared.Step.TheVariants.{Mix, Check, Scale, Clear, Open, Lift}
use Rattle.course.specs.StepList.{in_list}
use Rattle.verdict.specs.Told.{refused, line}
use Rattle.solver.specs.Refusals.{placed, no10}
use Rattle.host.specs.Words.{nowhere, without, place_of, spot_of, step_spot, progress_of, words_of}

-- a place written and read again is the same
pub place_again : (p : Place) → place_of (spot_of p).step (spot_of p).j (spot_of p).k ≡ p
unfolding place_of spot_of step_spot without
place_again (At (Mix j k)) = refl
place_again (At (Check j)) = refl
place_again (At (Scale j)) = refl
place_again (At (Clear j k)) = refl
place_again (At (Open j)) = refl
place_again (At (Lift j)) = refl
place_again (Stopped j) = refl
place_again Done = refl

-- and so is a record
pub record_again : (p : Progress) → progress_of (words_of p) ≡ p
unfolding progress_of words_of
record_again p =
    ap (λ (q : Place). record { field = p.field; shares = p.shares; size = p.size; place = q; mask = p.mask; nonzero = p.nonzero }) (place_again p.place)

-- words that name no place are read as one that every size refuses, by 10
pub nowhere_refused : (m : ℕ) → no10 m nowhere ≡ refused (line 10 (0 ∷ []))
unfolding no10 placed in_list
nowhere_refused m = refl
