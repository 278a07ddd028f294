-- How the code does a fold of the zero flag, pass by pass: what each pass stores. Sums are plain exclusive or here; the last pass reduces.
-- Assumes nothing.
use Rattle.std.specs.Prelude.{ℕ, ◌%◌, List, map, length, get_or, set}
use Rattle.std.specs.Int.Bits.{bit_xor, bit_and}
use Rattle.field.specs.Field.{Ops}
use Rattle.sharing.specs.Run.{tab, over_pairs}
use Rattle.sharing.specs.Code.Bytes.{xor_at}

-- pair number k, i < j: what stands for it in z, and the term of a_i and b_j
unfoldable pub cross_turn : List ℕ → List ℕ → List ℕ → ℕ → ℕ → ℕ → List ℕ → List ℕ
cross_turn z a b k i j y = set y k (bit_xor (get_or z k 0) (bit_and (get_or a i 0) (get_or b j 0)))

abbrev pub cross_terms : ℕ → List ℕ → List ℕ → List ℕ → List ℕ → List ℕ
cross_terms n z a b y = over_pairs (cross_turn z a b) n y

-- the terms of share i and share i
unfoldable pub own_terms : List ℕ → List ℕ → List ℕ
own_terms s t = tab (length s) (λ i. bit_and (get_or s i 0) (get_or t i 0))

-- pair number k, i < j: its draw joins share i, and what stands for the pair in y joins share j; in the refresh of t that is the draw again
unfoldable pub sum_turn : List ℕ → List ℕ → ℕ → ℕ → ℕ → List ℕ → List ℕ
sum_turn z y k i j out = xor_at j (get_or y k 0) (xor_at i (get_or z k 0) out)

-- each share modulo q
unfoldable pub reduced : Ops → List ℕ → List ℕ
reduced F s = map (λ x. x % F.q) s

-- all that is left of a fold once each first cross term has joined its draw, in x
abbrev pub summed : Ops → ℕ → List ℕ → List ℕ → List ℕ → List ℕ → List ℕ → List ℕ
summed F n z s t x y = reduced F (over_pairs (sum_turn z (cross_terms n x t s y)) n (own_terms s t))
