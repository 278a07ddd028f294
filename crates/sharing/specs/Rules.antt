-- 01, "Small rules on sharings", but for And and the Zero flag, which stand in crate flag. A sharing is the list of its n shares: share s of
-- the paper stands at place s - 1.
-- F is the field, and ds the part of the mask tape that begins at the rule's own first draw. Where 01 adds a draw to a second share, the
-- draw is taken from it here: in F16 and F256 that is the same.
-- Assumes nothing.
use Rattle.std.specs.Prelude.{ℕ, ◌+◌, ◌-◌, ◌*◌, ◌≤◌, List, [], ◌∷◌, ◌++◌, map, length, get_or, set, drop}
use Rattle.field.specs.Field.{Ops, sub, draw, inv}
use Rattle.sharing.specs.Run.{run, tab, pairs, over_pairs}

-- the value of a sharing: the sum of its shares
unfoldable pub sum : Ops → List ℕ → ℕ
sum F [] = 0
sum F (x ∷ s) = F.add x (sum F s)

-- draw number k of a tape, from 0
abbrev pub draw_at : Ops → List ℕ → ℕ → ℕ
draw_at F ds k = draw F (get_or ds k 0)

-- v added to the share at place i, and taken from it
abbrev pub add_at : Ops → ℕ → ℕ → List ℕ → List ℕ
add_at F i v s = set s i (F.add (get_or s i 0) v)

abbrev pub sub_at : Ops → ℕ → ℕ → List ℕ → List ℕ
sub_at F i v s = set s i (sub F (get_or s i 0) v)

-- Refresh (n-1 draws): for s = 2..n, draw r, add r to share s and to share 1
unfoldable pub refresh_turn : Ops → List ℕ → ℕ → List ℕ → List ℕ
refresh_turn F ds k s = sub_at F 0 (draw_at F ds k) (add_at F (k + 1) (draw_at F ds k) s)

unfoldable pub refresh : Ops → List ℕ → List ℕ → List ℕ
refresh F ds s = run (refresh_turn F ds) (length s - 1) s

-- Product (N draws): out_i = a_i·b_i; then for i < j in order, draw z, put z' = (a_i·b_j + z) + a_j·b_i, add z to out_i and z' to out_j.
-- Z k is draw number k, and P i j is a_i·b_j
unfoldable pub product_turn : Ops → (ℕ → ℕ) → (ℕ → ℕ → ℕ) → ℕ → ℕ → ℕ → List ℕ → List ℕ
product_turn F Z P k i j out =
    add_at F j (F.add (F.add (P i j) (Z k)) (P j i)) (sub_at F i (Z k) out)

unfoldable pub product_over : Ops → (ℕ → ℕ) → (ℕ → ℕ → ℕ) → ℕ → List ℕ
product_over F Z P n = over_pairs (product_turn F Z P) n (tab n (λ i. P i i))

abbrev pub crossed : (ℕ → ℕ → ℕ) → List ℕ → List ℕ → ℕ → ℕ → ℕ
crossed mul a b i j = mul (get_or a i 0) (get_or b j 0)

unfoldable pub product : Ops → List ℕ → List ℕ → List ℕ → List ℕ
product F ds a b = product_over F (draw_at F ds) (crossed F.mul a b) (length a)

-- Opening (N draws): for i < j in order, draw r, add r to shares i and j; then sum the shares
unfoldable pub pair_refresh_turn : Ops → List ℕ → ℕ → ℕ → ℕ → List ℕ → List ℕ
pair_refresh_turn F ds k i j s = sub_at F j (draw_at F ds k) (add_at F i (draw_at F ds k) s)

unfoldable pub pair_refresh : Ops → List ℕ → List ℕ → List ℕ
pair_refresh F ds s = over_pairs (pair_refresh_turn F ds) (length s) s

unfoldable pub opening : Ops → List ℕ → List ℕ → ℕ
opening F ds s = sum F (pair_refresh F ds s)

-- Inversion of a nonzero value (n-1 nonzero draws, (n-1)²+N mask draws): for s = 1..n-1, take nonzero z_s, multiply every share by z_s, refresh
unfoldable pub scaled : Ops → ℕ → List ℕ → List ℕ
scaled F z s = map (F.mul z) s

unfoldable pub blind_turn : Ops → List ℕ → List ℕ → ℕ → List ℕ → List ℕ
blind_turn F nz ds k s = refresh F (drop (k * (length s - 1)) ds) (scaled F (draw_at F nz k) s)

unfoldable pub blinded : Ops → List ℕ → List ℕ → List ℕ → List ℕ
blinded F nz ds s = run (blind_turn F nz ds) (length s - 1) s

-- open to u
unfoldable pub blinded_value : Ops → List ℕ → List ℕ → List ℕ → ℕ
blinded_value F nz ds s = opening F (drop ((length s - 1) * (length s - 1)) ds) (blinded F nz ds s)

-- the n factors: z_1..z_(n-1) and the inverse of u
unfoldable pub factors : Ops → List ℕ → List ℕ → List ℕ → List ℕ
factors F nz ds s = tab (length s - 1) (draw_at F nz) ++ (inv F (blinded_value F nz ds s) ∷ [])

-- the record's array of four: the factors, and 0 in each place that is not in use
unfoldable pub four_of : List ℕ → List ℕ
four_of fs = tab 4 (λ k. get_or fs k 0)

-- the draws of an Inversion from the mask tape
unfoldable pub inversion_draws : ℕ → ℕ
inversion_draws n = (n - 1) * (n - 1) + pairs n

-- an Inversion of s may be asked: it has 2 to 4 shares, and each tape reaches as far as it takes
abbrev pub InversionFits : List ℕ → List ℕ → List ℕ → Type 0
InversionFits s nz ds = (2 ≤ length s) × (length s ≤ 4) × (length s - 1 ≤ length nz) × (inversion_draws (length s) ≤ length ds)
