-- The numbers that the passes of a row are made for: bits of an element, n shares, products by blocks of l bytes and sums by blocks of w, and room for
-- the stream of the factor's shares and for the n work rows.
-- Assumes nothing.
use Rattle.std.specs.Prelude.{◌≡◌, ℕ, ◌+◌, ◌-◌, ◌*◌, ◌/◌, ◌≤◌, ◌⊎◌}
use Rattle.sharing.specs.Bounds.{most_width, row_room}

-- the bytes of a work row, for a row that begins with `columns` entries: whole blocks of w
abbrev pub span_of : ℕ → ℕ → ℕ → ℕ
span_of n w columns = (columns * n + (w - 1)) / w * w

pub record Shape (bits n l w stream room : ℕ) : Type 0 where
  pub field : (bits ≡ 4) ⊎ (bits ≡ 8)
  pub least : 2 ≤ n
  pub most : n ≤ 4
  pub block : (1 ≤ l) × (l ≤ 48) × (l ≡ l / n * n)
  pub wide : (1 ≤ w) × (w ≡ w / n * n) × (w ≡ w / l * l)
  pub stream_is : stream ≡ bits * (l + 16)
  pub room_is : room ≡ n * span_of n w most_width
  pub row_is : span_of n w most_width ≤ row_room
