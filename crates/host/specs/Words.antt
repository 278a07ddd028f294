-- The record as eight words, as include/hostozaro.h numbers them: field, shares, size, step, j, k, and the mask and nonzero draws taken. Any
-- eight words are read; those that name no place are read as a place outside every list.
-- Assumes nothing.
use Rattle.std.specs.Prelude.{List, [], ◌∷◌, ℕ, eqb, get_or}
use Rattle.field.specs.Field.{pick}
use Rattle.course.specs.declared.Step.{Step}
use Rattle.course.specs.declared.Step.TheVariants.{Mix, Check, Scale, Clear, Open, Lift}
use Rattle.course.specs.declared.Place.{Place}
use Rattle.course.specs.declared.Place.TheVariants.{At, Stopped, Done}
use Rattle.course.specs.declared.Progress.{Progress}
use Rattle.host.specs.declared.words.Spot.{Spot}

-- in no list: a j and a k are 1 or more
abbrev pub nowhere : Place
nowhere = At (Mix 0 0)

-- a place that does not carry this word, which must be 0
unfoldable pub without : ℕ → Place → Place
without word p = pick (eqb word 0) p nowhere

-- the places by number, with these words for j and k
abbrev pub places : ℕ → ℕ → List Place
places j k =
    At (Mix j k)
    ∷ without k (At (Check j))
    ∷ without k (At (Scale j))
    ∷ At (Clear j k)
    ∷ without k (At (Open j))
    ∷ without k (Stopped j)
    ∷ without j (without k Done)
    ∷ without k (At (Lift j))
    ∷ []

unfoldable pub place_of : ℕ → ℕ → ℕ → Place
place_of step j k = get_or (places j k) step nowhere

abbrev pub spot : ℕ → ℕ → ℕ → Spot
spot step j k = record { step = step; j = j; k = k }

unfoldable pub step_spot : Step → Spot
step_spot (Mix j k) = spot 0 j k
step_spot (Check j) = spot 1 j 0
step_spot (Scale j) = spot 2 j 0
step_spot (Clear j k) = spot 3 j k
step_spot (Open j) = spot 4 j 0
step_spot (Lift j) = spot 7 j 0

unfoldable pub spot_of : Place → Spot
spot_of (At s) = step_spot s
spot_of (Stopped j) = spot 5 j 0
spot_of Done = spot 6 0 0

-- the record of eight words
unfoldable pub progress_of : List ℕ → Progress
progress_of w =
    record {
      field = get_or w 0 0;
      shares = get_or w 1 0;
      size = get_or w 2 0;
      place = place_of (get_or w 3 0) (get_or w 4 0) (get_or w 5 0);
      mask = get_or w 6 0;
      nonzero = get_or w 7 0;
    }

-- the eight words of a record
unfoldable pub words_of : Progress → List ℕ
words_of p =
    let s = spot_of p.place in
    p.field ∷ p.shares ∷ p.size ∷ s.step ∷ s.j ∷ s.k ∷ p.mask ∷ p.nonzero ∷ []
