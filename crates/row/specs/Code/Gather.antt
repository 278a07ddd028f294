-- From the n rows of span bytes, the shares of the products: byte o of row 0, joined by the pairs that end at its share.
-- Assumes nothing.
use Rattle.std.specs.Prelude.{ℕ, ◌+◌, ◌-◌, ◌*◌, ◌%◌, List, leb, get_or, set}
use Rattle.std.specs.Int.Bits.{bit_xor, bit_and}
use Rattle.field.specs.Field.{pick}
use Rattle.sharing.specs.Run.{run}

-- byte q of a block, whose columns have n bytes each: all ones where the byte d before is of the same column, and else 0
unfoldable pub later : ℕ → ℕ → ℕ → ℕ
later n d q = pick (leb d (q % n)) 255 0

-- the pair of byte o's share and the share d = n - 1 - i before it, where there is one; o is byte q of its block
unfoldable pub gather_turn : ℕ → ℕ → List ℕ → ℕ → ℕ → ℕ → ℕ → ℕ
gather_turn n span c o q i v =
    let d = n - 1 - i in
    bit_xor v (bit_and (bit_xor (get_or c (d * span + o) 0) (get_or c ((i + 1) * span + o - d) 0)) (later n d q))

unfoldable pub gathered_byte : ℕ → ℕ → List ℕ → ℕ → ℕ → ℕ
gathered_byte n span c o q = run (gather_turn n span c o q) (n - 1) (get_or c o 0)

-- byte q of the block that begins at `at`
abbrev pub block_turn : ℕ → ℕ → List ℕ → ℕ → ℕ → List ℕ → List ℕ
block_turn n span c at q out = set out (at + q) (gathered_byte n span c (at + q) q)

unfoldable pub gather_block : ℕ → ℕ → ℕ → List ℕ → ℕ → List ℕ → List ℕ
gather_block n l span c u out = run (block_turn n span c (u * l)) l out

unfoldable pub gather_all : ℕ → ℕ → ℕ → ℕ → List ℕ → List ℕ → List ℕ
gather_all n l blocks span c out = run (gather_block n l span c) blocks out
