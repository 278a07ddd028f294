-- How words of a row come to be: what the passes of dealing do, a word and then a row of words.
-- Assumes nothing.
use Rattle.std.specs.Prelude.{◌≡◌, ℕ, ◌+◌, ◌-◌, ◌*◌, ◌%◌, ◌<◌, List, ltb, get_or}
use Rattle.std.specs.Int.Bits.{bit_and}
use Rattle.field.specs.Field.{pick}
use Rattle.word.specs.Lanes.{lane}
use Rattle.word.specs.Rows.{byte_of}

-- lane l of the word of byte s of the eight columns from place o on, moved up by so many lanes
unfoldable pub column_byte : ℕ → List ℕ → ℕ → ℕ → ℕ → ℕ → ℕ
column_byte n d o up s l = pick (ltb l up) 0 (get_or d (o + s + (l - up) * n) 0)

-- the same with some bits of each lane left away
unfoldable pub kept_byte : ℕ → ℕ → List ℕ → ℕ → ℕ → ℕ → ℕ → ℕ
kept_byte low n d o up s l = bit_and (column_byte n d o up s l) (lane low l)

-- k words from a place on have become words with the lanes g 0, g 1, .., and those before them stayed
pub record Written (from k : ℕ) (g : ℕ → ℕ → ℕ) (row new : List ℕ) : Type 0 where
  pub at : (s l : ℕ) → s < k → l < 8 → lane (get_or new (from + s) 0) l ≡ g s l
  pub before : (p : ℕ) → p < from → get_or new p 0 ≡ get_or row p 0

-- the first words of a row have been dealt, with the bits that low has in each lane; lanes past the columns are 0
pub record DealtWords (low n columns words : ℕ) (bytes row : List ℕ) : Type 0 where
  pub at : (e s : ℕ) → e < 8 * words → s < n
      → byte_of n row e s ≡ pick (ltb e columns) (bit_and (get_or bytes ((columns - 1 - e) * n + s) 0) (lane low (7 - e % 8))) 0
