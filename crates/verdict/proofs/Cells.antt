-- R-2's figures; and the cell that is told of a byte is the one whose byte it is in 01's layout, for any number of shares and any width.
-- Assumes nothing.
use mathlib.Core.List.{[], ◌∷◌}
use mathlib.Core.Path.{◌≡◌, refl, ap, ◌∙◌}
use Prim.Native.Nat.{ℕ, ◌+◌, ◌-◌, ◌*◌, ◌/◌, ◌%◌, ◌<◌}
use native.Mathlib.Nat.{add-sub_cancel, div-div-eq-div-mul, div-add-mod', div-lt_iff_lt-mul, mod-lt, mod-eq_of_lt, div-eq_of_lt, mul-add-div_right, mul-add-mod_self_right}
use native.Mathlib.Omega.{arith}
use Rattle.verdict.specs.declared.Cell.{Cell}
use Rattle.verdict.specs.declared.Rows.{Rows}
use Rattle.verdict.specs.declared.Rows.TheVariants.{Shared, Values}
use Rattle.verdict.specs.Cells.{three, cell_at, NonEmpty, byte_at, bytes_of, CellOf}

-- R-2's figures: shares, width and place, and the cell; the last is one of Deal's values
pub figures : three (cell_at (Shared 2 2) 0) ∷ three (cell_at (Shared 2 2) 3) ∷ three (cell_at (Shared 4 97) 20143) ∷ three (cell_at (Shared 3 97) 20143) ∷ three (cell_at (Shared 2 3) 11) ∷ three (cell_at (Values 3) 5) ∷ []
    ≡ (1 ∷ 1 ∷ 1 ∷ []) ∷ (1 ∷ 2 ∷ 2 ∷ []) ∷ (52 ∷ 89 ∷ 4 ∷ []) ∷ (70 ∷ 22 ∷ 2 ∷ []) ∷ (2 ∷ 3 ∷ 2 ∷ []) ∷ (2 ∷ 3 ∷ 0 ∷ []) ∷ []
unfolding cell_at
figures = refl

-- from the byte to its cell and back
pub cell_byte : (rows : Rows) (place : ℕ) → byte_at rows (cell_at rows place) ≡ place
unfolding cell_at byte_at
cell_byte (Shared n w) place =
    rw (add-sub_cancel (place / (n * w)) 1, add-sub_cancel (place / n % w) 1, add-sub_cancel (place % n) 1, ← (div-div-eq-div-mul place n w), div-add-mod' (place / n) w)
    (div-add-mod' place n)
cell_byte (Values w) place = rw (add-sub_cancel (place / w) 1, add-sub_cancel (place % w) 1) (div-add-mod' place w)

-- the byte of m rows has a cell of m rows
pub cell_of : (rows : Rows) (m place : ℕ) → NonEmpty rows → place < bytes_of rows m → CellOf rows m (cell_at rows place)
unfolding cell_at bytes_of CellOf
cell_of (Shared n w) m place some l =
    let row : place / (n * w) < m = rw (← (div-div-eq-div-mul place n w)) ((div-lt_iff_lt-mul some.1).1 ((div-lt_iff_lt-mul some.0).1 l)) in
    (omega arith, omega arith, omega arith, omega (arith, mod-lt (place / n) some.1), omega arith, omega (arith, mod-lt place some.0))
cell_of (Values w) m place some l =
    let row : place / w < m = (div-lt_iff_lt-mul some).1 l in
    (omega arith, omega arith, omega arith, omega (arith, mod-lt place some), refl)

-- and from a cell to its byte and back
digit : (a b k : ℕ) → b < k → ((a * k + b) / k ≡ a) × ((a * k + b) % k ≡ b)
digit a b k l = (
  mul-add-div_right {m = k} (omega arith) a b ∙ ap (◌+◌ a) (div-eq_of_lt l) ∙ omega arith,
  mul-add-mod_self_right a k b ∙ mod-eq_of_lt l,
)

pub byte_cell : (rows : Rows) (m : ℕ) (c : Cell) → CellOf rows m c → cell_at rows (byte_at rows c) ≡ c
unfolding cell_at byte_at CellOf
byte_cell (Shared n w) m c of =
    let a : ℕ = (c.row - 1) * w + (c.column - 1) in
    let one = digit a (c.share - 1) n (omega arith) in
    let two = digit (c.row - 1) (c.column - 1) w (omega arith) in
    let r : c.row - 1 + 1 ≡ c.row = omega arith in
    let k : c.column - 1 + 1 ≡ c.column = omega arith in
    let s : c.share - 1 + 1 ≡ c.share = omega arith in
    rw (← (div-div-eq-div-mul (a * n + (c.share - 1)) n w), one.0, one.1, two.0, two.1, r, k, s)
byte_cell (Values w) m c of =
    let two = digit (c.row - 1) (c.column - 1) w (omega arith) in
    let r : c.row - 1 + 1 ≡ c.row = omega arith in
    let k : c.column - 1 + 1 ≡ c.column = omega arith in
    let s : 0 ≡ c.share = omega arith in
    rw (two.0, two.1, r, k, s)
