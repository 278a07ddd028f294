-- The draws of a row, spread over n rows of span bytes: row 0 takes what Product takes from share i, and row d what joins share i + d.
-- Assumes nothing.
use Rattle.std.specs.Prelude.{ℕ, ◌+◌, ◌-◌, ◌*◌, List, get_or}
use Rattle.sharing.specs.Run.{run, pairs, over_pairs}
use Rattle.sharing.specs.Code.Bytes.{xor_at}

-- pair number k, i < j, of the column whose first byte is at a and whose first draw is z's number b
unfoldable pub spread_turn : ℕ → List ℕ → ℕ → ℕ → ℕ → ℕ → ℕ → List ℕ → List ℕ
spread_turn span z a b k i j c =
    xor_at ((j - i) * span + (a + j)) (get_or z (b + k) 0) (xor_at (a + i) (get_or z (b + k) 0) c)

unfoldable pub spread_column : ℕ → ℕ → List ℕ → ℕ → List ℕ → List ℕ
spread_column n span z u c = over_pairs (spread_turn span z (u * n) (u * pairs n)) n c

unfoldable pub spread_all : ℕ → ℕ → ℕ → List ℕ → List ℕ → List ℕ
spread_all n columns span z c = run (spread_column n span z) columns c
