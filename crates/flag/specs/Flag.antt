-- 01, "Small rules on sharings": And, and the Zero flag with R-6's refresh. A sharing is the list of its n shares; F is the field, which f names
-- by its number, and ds the part of the mask tape that begins at the rule's own first draw.
-- Assumes nothing.
use Rattle.std.specs.Prelude.{ℕ, ◌+◌, ◌-◌, ◌*◌, ◌/◌, ◌%◌, ◌^◌, List, map, length, drop, eqb}
use Rattle.field.specs.Field.{Ops, field_of, bits, bitwise, pick}
use Rattle.sharing.specs.Run.{run, pairs}
use Rattle.sharing.specs.Rules.{draw_at, add_at, crossed, product_over, pair_refresh}

-- And is Product with bitwise and
unfoldable pub and_of : Ops → List ℕ → List ℕ → List ℕ → List ℕ
and_of F ds a b = product_over F (draw_at F ds) (crossed (bitwise F).mul a b) (length a)

-- Zero flag (f·2N draws, by R-6; f = 2 for F16, 3 for F256)
unfoldable pub folds : ℕ → ℕ
folds f = pick (eqb f 16) 2 3

-- the draws of one fold: one for every pair to refresh t, and an And's
unfoldable pub fold_draws : ℕ → ℕ
fold_draws n = 2 * pairs n

abbrev pub flag_draws : ℕ → ℕ → ℕ
flag_draws f n = folds f * fold_draws n

-- complement all w bits of share 1, that is, add the word of ones
abbrev pub complemented : Ops → List ℕ → List ℕ
complemented F s = add_at F 0 (F.q - 1) s

-- each share, its w bits, shifted right by h
unfoldable pub shifted : Ops → ℕ → List ℕ → List ℕ
shifted F h s = map (λ x. x % F.q / 2 ^ h) s

-- t is each share shifted right by h, then refreshed as Opening does: for every pair in order, one draw added to both
unfoldable pub fresh_shift : Ops → ℕ → List ℕ → List ℕ → List ℕ
fresh_shift F h ds s = pair_refresh F ds (shifted F h s)

-- the sharing becomes And(sharing, t)
unfoldable pub fold : Ops → ℕ → List ℕ → List ℕ → List ℕ
fold F h ds s = and_of F (drop (pairs (length s)) ds) s (fresh_shift F h ds s)

-- for h = w/2, halving down to 1
abbrev pub fold_turn : ℕ → List ℕ → ℕ → ℕ → List ℕ → List ℕ
fold_turn f ds n i s =
    fold (field_of f) (bits f / 2 ^ (i + 1)) (drop (i * fold_draws n) ds) s

-- at last keep bit 0 of each share
unfoldable pub low_bits : List ℕ → List ℕ
low_bits s = map (λ x. x % 2) s

unfoldable pub zero_flag : ℕ → List ℕ → List ℕ → List ℕ
zero_flag f ds s =
    low_bits (run (fold_turn f ds (length s)) (folds f) (complemented (field_of f) s))

-- the flag of a value: 1 for 0, and 0 for any other
unfoldable pub flag_of : ℕ → ℕ
flag_of v = pick (eqb v 0) 1 0
