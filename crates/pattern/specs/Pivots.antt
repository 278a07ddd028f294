-- 02, R-8: the pivots that a wide solve has found, as a list of columns, ascending. "The pivots are exactly those columns that the columns before
-- them don't combine to."
-- Assumes nothing.
use Rattle.std.specs.Prelude.{Bool, true, ◌&&◌, List, [], ◌∷◌, ℕ, ◌+◌, ltb, leb, eqb, get_or, set, take, drop}
use Rattle.field.specs.Field.{pick}
use Rattle.pattern.specs.declared.Pivots.{Pivots}

-- how many pivots stand before column j
unfoldable pub before : List ℕ → ℕ → ℕ
before [] j = 0
before (p ∷ ps) j = pick (ltb p j) 1 0 + before ps j

-- "j is the column, its row stands for row j": each pivot before column j has taken a row, and the next is column j's
unfoldable pub row_of : List ℕ → ℕ → ℕ
row_of ps j = before ps j + 1

-- the last pivot found; 0 where there is none
unfoldable pub last : List ℕ → ℕ
last [] = 0
last (p ∷ []) = p
last (p ∷ q ∷ ps) = last (q ∷ ps)

-- column j is one of the pivots
unfoldable pub has : List ℕ → ℕ → Bool
has ps j = leb 1 j && eqb (get_or ps (before ps j) 0) j

-- each is above the one before it, the first above low, and none is above high
unfoldable pub ascends : ℕ → ℕ → List ℕ → Bool
ascends low high [] = true
ascends low high (p ∷ ps) = (ltb low p && leb p high) && ascends p high ps

unfoldable pub zeros : List ℕ → Bool
zeros [] = true
zeros (x ∷ xs) = eqb x 0 && zeros xs

-- ---- as a record keeps them: the first `found` of its slots; the others are 0

abbrev pub listed : Pivots → List ℕ
listed v = take v.found v.columns

abbrev pub unused : Pivots → List ℕ
unused v = drop v.found v.columns

-- one more is found
unfoldable pub with : Pivots → ℕ → Pivots
with v j = record { found = v.found + 1; columns = set v.columns v.found j }
