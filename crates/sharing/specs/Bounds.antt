-- 01, "Sizes and layout": the limits, and what follows from them for costs and for the room that the code keeps. The prover multiplies them
-- out, so another limit is another number here and in the constants of sharing/src.
-- Assumes nothing.
use Rattle.std.specs.Prelude.{ℕ, ◌+◌, ◌-◌, ◌*◌, ◌/◌}

-- the size of a square system is 1 to 96; its row has an entry for each column of A, and one of b. `row` has room for so many at one time
abbrev pub most_rows : ℕ
most_rows = 96

abbrev pub most_width : ℕ
most_width = 97

-- a row of R-8's wide systems: 144 columns and b
abbrev pub most_columns : ℕ
most_columns = 145

abbrev pub most_entries : ℕ
most_entries = most_rows * most_width

-- m²+3m-1 steps
abbrev pub most_steps : ℕ
most_steps = most_rows * (most_rows + 3) - 1

-- the draws of a Scale of a whole row in four shares; no step takes more
abbrev pub most_draws : ℕ
most_draws = 15 + 12 * most_columns

-- the bytes of a row in four shares, and room for it in whole blocks of 16
abbrev pub most_row_bytes : ℕ
most_row_bytes = most_width * 4

abbrev pub row_room : ℕ
row_room = (most_row_bytes + 15) / 16 * 16

-- room for n work rows: n bytes an entry, in whole blocks of 48, or of 16 for n = 4
abbrev pub work_room2 : ℕ
work_room2 = 2 * ((most_width * 2 + 47) / 48 * 48)

abbrev pub work_room3 : ℕ
work_room3 = 3 * ((most_width * 3 + 47) / 48 * 48)

abbrev pub work_room4 : ℕ
work_room4 = 4 * row_room
