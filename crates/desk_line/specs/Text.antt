-- Text as bytes: the ASCII codes of a quoted text, and a number in decimal.
-- Assumes nothing.
use Rattle.std.specs.Prelude.{Bool, true, false, List, [], ◌∷◌, ◌++◌, ℕ, zero, suc, ◌+◌, ◌/◌, ◌%◌, ltb}
use Prim.Native.Char.{code}
use Prim.Native.String.{String, [] as none, ◌∷◌ as ◌then◌}

-- the bytes of a text of ASCII characters
unfoldable pub ascii : String → List ℕ
ascii none = []
ascii (c then s) = code c ∷ ascii s

-- the byte of a digit below 10
abbrev pub digit : ℕ → ℕ
digit d = 48 + d

-- the digits of n, the most significant first: the one digit where n is below 10, which the second argument tells; else those of
-- n / 10, and then the last. The first argument bounds how many, for antt to see that this ends
unfoldable pub spelled : ℕ → Bool → ℕ → List ℕ
spelled zero small n = []
spelled (suc k) true n = digit n ∷ []
spelled (suc k) false n = spelled k (ltb (n / 10) 10) (n / 10) ++ (digit (n % 10) ∷ [])

-- n in decimal: no leading zeros, and 0 is "0". The bound is enough: `proofs/Decimal.antt` proves the rule at every n
unfoldable pub decimal : ℕ → List ℕ
decimal n = spelled (suc n) (ltb n 10) n
