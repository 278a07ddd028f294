-- 01's table of refusals, with R-2's rows and details and the rows of R-3, R-5, R-7 and R-8: the number and detail of each, and a definition for
-- each of 1 to 9, 14, 15 and 21, which need no more than the numbers and bytes that they are about. 10 to 12, 19 and 20 are about a progress
-- record, 16 to 18 about an exchange record, and stand with the calls.
-- Assumes nothing.
use Rattle.std.specs.Prelude.{Bool, true, false, not, ◌||◌, ◌&&◌, List, [], ◌∷◌, ℕ, suc, eqb, ltb, leb, length, take, get_or}
use Rattle.field.specs.Field.{draw, field_of}
use Rattle.sharing.specs.Bounds.{most_rows}
use Rattle.verdict.specs.declared.Rows.{Rows}
use Rattle.verdict.specs.declared.Refusal.{Refusal}
use Rattle.verdict.specs.declared.Refusal.TheVariants as R
use Rattle.verdict.specs.declared.Report.{Report}
use Rattle.verdict.specs.Told.{Told, Line, line, refuse, ◌or◌}
use Rattle.verdict.specs.Cells.{three, cell_at}

-- the paper's number and detail of each case of the enum
abbrev pub paper : Refusal → Line
paper (R.Field q) = line 1 (q ∷ [])
paper (R.Shares n) = line 2 (n ∷ [])
paper (R.Size m) = line 3 (m ∷ [])
paper (R.Input wanted) = line 4 (wanted ∷ [])
paper (R.Target wanted) = line 5 (wanted ∷ [])
paper (R.Entry c) = line 6 (three c)
paper (R.MaskShort wanted) = line 7 (wanted ∷ [])
paper (R.NonzeroShort wanted) = line 8 (wanted ∷ [])
paper (R.ZeroDraw place) = line 9 (place ∷ [])
paper R.OffList = line 10 (0 ∷ [])
paper R.Ended = line 11 (0 ∷ [])
paper (R.ZeroPivot c) = line 12 (three c)
paper (R.MaskLong wanted) = line 14 (wanted ∷ [])
paper (R.NonzeroLong wanted) = line 15 (wanted ∷ [])
paper (R.BadTag at) = line 16 (at ∷ [])
paper (R.CutField at) = line 17 (at ∷ [])
paper (R.PastEnd at) = line 18 (at ∷ [])
paper R.Counters = line 19 (0 ∷ [])
paper (R.LiftByte j) = line 20 (j ∷ [])
paper (R.Columns c) = line 21 (c ∷ [])

-- the same as numbers: what a detail has not is 0
abbrev pub report_of : Line → Report
report_of l =
    record { number = l.number; a = get_or l.detail 0 0; b = get_or l.detail 1 0; c = get_or l.detail 2 0 }

-- ---- what the table's words mean

unfoldable pub outside : ℕ → ℕ → ℕ → Bool
outside low high x = ltb x low || ltb high x

abbrev pub differs : ℕ → ℕ → Bool
differs a b = not (eqb a b)

abbrev pub or_next : Bool → ℕ → ℕ
or_next true i = 0
or_next false i = suc i

-- the first place, from 0, whose byte meets the test; the length where there is none
unfoldable pub first_place : (ℕ → Bool) → List ℕ → ℕ
first_place test [] = 0
first_place test (x ∷ xs) = or_next (test x) (first_place test xs)

abbrev pub any_place : (ℕ → Bool) → List ℕ → Bool
any_place test xs = ltb (first_place test xs) (length xs)

-- an entry that is no element of the field: 16 or more in F16
unfoldable pub too_large : ℕ → ℕ → Bool
too_large f x = leb (field_of f).q x

-- a byte whose draw is 0
unfoldable pub zero_draw : ℕ → ℕ → Bool
zero_draw f x = eqb (draw (field_of f) x) 0

-- ---- the table: number, meaning, detail

-- field neither 16 nor 256: the number
unfoldable pub no1 : ℕ → Told
no1 field = refuse 1 (differs field 16 && differs field 256) (field ∷ [])

-- shares below 2 or above 4 (0 is a blank box): the number
unfoldable pub no2 : ℕ → Told
no2 shares = refuse 2 (outside 2 4 shares) (shares ∷ [])

-- size below 1 or above 96: the number
unfoldable pub no3 : ℕ → Told
no3 size = refuse 3 (outside 1 most_rows size) (size ∷ [])

-- input table or value list of wrong length: length wanted
unfoldable pub no4 : ℕ → ℕ → Told
no4 wanted length = refuse 4 (differs length wanted) (wanted ∷ [])

-- solution or target of wrong length: length wanted
unfoldable pub no5 : ℕ → ℕ → Told
no5 wanted length = refuse 5 (differs length wanted) (wanted ∷ [])

-- entry 16 or more in F16: row, column and share of the first such place
unfoldable pub no6 : ℕ → Rows → List ℕ → Told
no6 field rows input = refuse 6 (any_place (too_large field) input) (three (cell_at rows (first_place (too_large field) input)))

-- mask tape too short: length wanted
unfoldable pub no7 : ℕ → ℕ → Told
no7 wanted length = refuse 7 (ltb length wanted) (wanted ∷ [])

-- nonzero tape too short: length wanted
unfoldable pub no8 : ℕ → ℕ → Told
no8 wanted length = refuse 8 (ltb length wanted) (wanted ∷ [])

-- one of the nonzero draws is 0: first such place, from 0
unfoldable pub no9 : ℕ → List ℕ → Told
no9 field draws = refuse 9 (any_place (zero_draw field) draws) (first_place (zero_draw field) draws ∷ [])

-- in a step, mask tape too long: length wanted
unfoldable pub no14 : ℕ → ℕ → Told
no14 wanted length = refuse 14 (ltb wanted length) (wanted ∷ [])

-- in a step, nonzero tape too long: length wanted
unfoldable pub no15 : ℕ → ℕ → Told
no15 wanted length = refuse 15 (ltb wanted length) (wanted ∷ [])

-- wide: columns below the rows or above 144: the number
unfoldable pub no21 : ℕ → ℕ → Told
no21 rows columns = refuse 21 (outside rows 144 columns) (columns ∷ [])

-- ---- how they follow each other

-- 1 to 3
unfoldable pub numbers : ℕ → ℕ → ℕ → Told
numbers field shares size = no1 field or no2 shares or no3 size

-- 4 to 6, of what is read, and of what is written
unfoldable pub buffers : ℕ → Rows → ℕ → List ℕ → ℕ → ℕ → Told
buffers field rows wanted input target length' = no4 wanted (length input) or no5 target length' or no6 field rows input

-- 7, 14, 8, 15, 9: a step wants exactly so many draws of each tape
unfoldable pub exactly : ℕ → ℕ → ℕ → ℕ → List ℕ → Told
exactly field wantedMask wantedNonzero mask nonzero =
    no7 wantedMask mask
    or no14 wantedMask mask
    or no8 wantedNonzero (length nonzero)
    or no15 wantedNonzero (length nonzero)
    or no9 field nonzero

-- 7 to 9: a whole solve wants at least so many
unfoldable pub at_least : ℕ → ℕ → ℕ → ℕ → List ℕ → Told
at_least field wantedMask wantedNonzero mask nonzero =
    no7 wantedMask mask or no8 wantedNonzero (length nonzero) or no9 field (take wantedNonzero nonzero)
