-- 02, R-8: the wide record as 106 words, as include/hostozaro.h numbers them: field, shares, rows, columns, step, j, k, the mask and nonzero draws
-- taken, how many pivots are found, and 96 slots for these. Any 106 words are read; those that name no place are read as a place outside every list,
-- and a slot that is no byte as 255, which is no column.
-- Assumes nothing.
use Rattle.std.specs.Prelude.{◌&&◌, List, [], ◌∷◌, ◌++◌, map, ℕ, eqb, leb, get_or, drop}
use Rattle.field.specs.Field.{pick}
use Rattle.course.specs.declared.Step.TheVariants.{Mix}
use Rattle.course.specs.declared.Place.{Place}
use Rattle.course.specs.declared.Place.TheVariants as Square
use Rattle.pattern.specs.declared.WideOrder.{WideOrder}
use Rattle.pattern.specs.declared.WidePlace.{WidePlace}
use Rattle.pattern.specs.declared.WidePlace.TheVariants.{At, Short, Done}
use Rattle.pattern.specs.declared.WideProgress.{WideProgress}
use Rattle.host.specs.declared.words.Spot.{Spot}
use Rattle.host.specs.Words.{place_of, spot, step_spot}

-- a place as the square record numbers it; no column of a wide system stops
unfoldable pub widened : Place → WidePlace
widened (Square.At s) = At s
widened (Square.Stopped j) = At (Mix 0 0)
widened Square.Done = Done

-- 8 is short, and carries no j and no k
unfoldable pub wide_place_of : ℕ → ℕ → ℕ → WidePlace
wide_place_of step j k = pick (eqb step 8 && (eqb j 0 && eqb k 0)) Short (widened (place_of step j k))

unfoldable pub wide_spot_of : WidePlace → Spot
wide_spot_of (At s) = step_spot s
wide_spot_of Short = spot 8 0 0
wide_spot_of Done = spot 6 0 0

unfoldable pub byte_of : ℕ → ℕ
byte_of word = pick (leb word 255) word 255

abbrev pub bytes_of : List ℕ → List ℕ
bytes_of slots = map byte_of slots

-- the wide record of 106 words
unfoldable pub wide_of : List ℕ → WideProgress
wide_of w =
    record {
      order = record { field = get_or w 0 0; shares = get_or w 1 0; rows = get_or w 2 0; columns = get_or w 3 0 };
      place = wide_place_of (get_or w 4 0) (get_or w 5 0) (get_or w 6 0);
      mask = get_or w 7 0;
      nonzero = get_or w 8 0;
      pivots = record { found = get_or w 9 0; columns = bytes_of (drop 10 w) };
    }

-- the 106 words of a wide record
unfoldable pub head_of : WideOrder → Spot → ℕ → ℕ → ℕ → List ℕ
head_of o s mask nonzero found =
    o.field ∷ o.shares ∷ o.rows ∷ o.columns ∷ s.step ∷ s.j ∷ s.k ∷ mask ∷ nonzero ∷ found ∷ []

unfoldable pub wide_words_of : WideProgress → List ℕ
wide_words_of p =
    head_of p.order (wide_spot_of p.place) p.mask p.nonzero p.pivots.found ++ p.pivots.columns
