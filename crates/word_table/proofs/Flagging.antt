-- The shares of a zero flag are 0 or 1.
-- Assumes nothing.
use Prim.Native.Nat.{ℕ, zero, suc, ◌%◌, ◌<◌}
use mathlib.Core.List.{List, [], ◌∷◌, map}
use native.Mathlib.Nat.{mod-lt}
use lib.Dec.{lit<}
use lib.ListN.{length, get_or}
use Rattle.sharing.specs.Lists.{Below}
use Rattle.field.specs.Field.{field_of}
use Rattle.sharing.specs.Run.{run}
use Rattle.flag.specs.Flag.{folds, complemented, fold_turn, low_bits, zero_flag}

low_at : (s : List ℕ) (i : ℕ) → get_or (map (λ x. x % 2) s) i 0 < 2
low_at [] i = lit< tt
low_at (x ∷ s) zero = mod-lt x (lit< tt)
low_at (x ∷ s) (suc i) = low_at s i

pub flag_bits : (f : ℕ) (ds s : List ℕ) → Below 2 (zero_flag f ds s)
unfolding zero_flag low_bits
flag_bits f ds s = record { at = low_at (run (fold_turn f ds (length s)) (folds f) (complemented (field_of f) s)) }
