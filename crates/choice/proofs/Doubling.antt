-- The doubles of eight lanes at a time: both sides are sums of shifted bits, so a test at each power of two is enough.
-- Assumes nothing.
use mathlib.Core.Path.{◌≡◌, refl, ap₂, ◌∙◌}
use mathlib.Core.Bool.{Bool, true, false}
use Prim.Native.Nat.{ℕ, ◌+◌, ◌*◌, ◌/◌, ◌%◌, ◌^◌, ◌<◌}
use native.Mathlib.Numerals.{add-one}
use lib.Bits.{bit_xor, bit_and, and_comm}
use lib.Dec.{T, eqb, eqb→eq}
use borrow.Author.Tests.{ne_eqb}
use Rattle.field.specs.Field.{pick}
use Rattle.field.proofs.Xor.{and_xor}
use Rattle.field.proofs.Linear.{Additive, after, plus, shifted, high, low, lowest_times, agree, all, all-at}
use Rattle.row.specs.Code.Streams.{doubled}
use Rattle.word.specs.Lanes.{lane, multiple}
use Rattle.word.proofs.Lanes.{lane_xor}

-- ---- what respects sums

pub masked : (c : ℕ) → Additive (λ a. bit_and a c)
masked c = record { sum = λ a b. and_comm (bit_xor a b) c ∙ and_xor c a b ∙ ap₂ bit_xor (and_comm c a) (and_comm c b) }

lane-sum : (l : ℕ) → Additive (λ a. lane a l)
lane-sum l = record { sum = λ a b. lane_xor a b l }

-- a shift to the left in a word
left : (k : ℕ) → Additive (λ a. a * 2 ^ k % 18446744073709551616)
left k = after (low 64) (shifted k)

doubled-sum_16 : Additive (doubled 4)
unfolding doubled
doubled-sum_16 = plus (after (low 4) (shifted 1)) (after (lowest_times 3) (high 3))

doubled-sum_256 : Additive (doubled 8)
unfolding doubled
doubled-sum_256 = plus (after (low 8) (shifted 1)) (after (lowest_times 27) (high 7))

-- ---- what the code does

abbrev pub high_16 : ℕ → ℕ
high_16 x = bit_and (x / 8) 72340172838076673

abbrev pub word_16 : ℕ → ℕ
word_16 x =
    bit_xor (bit_xor (bit_and x 506381209866536711 * 2 ^ 1 % 18446744073709551616) (high_16 x))
    (high_16 x * 2 ^ 1 % 18446744073709551616)

word-sum_16 : Additive word_16
word-sum_16 =
    let h : Additive high_16 = after (masked 72340172838076673) (high 3) in
    plus (plus (after (left 1) (masked 506381209866536711)) h) (after (left 1) h)

abbrev pub high_256 : ℕ → ℕ
high_256 x = bit_and (x / 128) 72340172838076673

abbrev pub word_256 : ℕ → ℕ
word_256 x =
    bit_xor
    (bit_xor
    (bit_xor (bit_xor (bit_and x 9187201950435737471 * 2 ^ 1 % 18446744073709551616) (high_256 x))
    (high_256 x * 2 ^ 1 % 18446744073709551616))
    (high_256 x * 2 ^ 3 % 18446744073709551616))
    (high_256 x * 2 ^ 4 % 18446744073709551616)

word-sum_256 : Additive word_256
word-sum_256 =
    let h : Additive high_256 = after (masked 72340172838076673) (high 7) in
    plus (plus (plus (plus (after (left 1) (masked 9187201950435737471)) h) (after (left 1) h)) (after (left 3) h)) (after (left 4) h)

-- ---- the tests

same? : (ℕ → ℕ) → ℕ → ℕ → ℕ → Bool
same? f bits l i = eqb (lane (f (2 ^ i)) l) (doubled bits (lane (2 ^ i) l))

test_16 : T (all 8 (λ l. all 64 (same? word_16 4 l)))
unfolding same? lane doubled
test_16 = tt

test_256 : T (all 8 (λ l. all 64 (same? word_256 8 l)))
unfolding same? lane doubled
test_256 = tt

by_test : (f : ℕ → ℕ) (bits : ℕ) → Additive f → Additive (doubled bits) → T (all 8 (λ l. all 64 (same? f bits l)))
    → (x : ℕ) → x < 2 ^ 64 → (l : ℕ) → l < 8 → lane (f x) l ≡ doubled bits (lane x l)
unfolding same?
by_test f bits p q t x hx l hl =
    agree (after (lane-sum l) p) (after q (lane-sum l)) 64
    (λ i hi. eqb→eq (lane (f (2 ^ i)) l) (doubled bits (lane (2 ^ i) l)) (all-at 64 (same? f bits l) (all-at 8 (λ l. all 64 (same? f bits l)) t l hl) i hi))
    x hx

-- what stays in the lanes is low, and h is what leaves them
pub double_16 : (x low h : ℕ) → low ≡ bit_and x 506381209866536711 * 2 ^ 1 % 18446744073709551616 → h ≡ high_16 x → x < 2 ^ 64
    → (l : ℕ) → l < 8 → lane (bit_xor (bit_xor low h) (h * 2 ^ 1 % 18446744073709551616)) l ≡ doubled 4 (lane x l)
double_16 x low h e g hx l hl = rw (e, g) (by_test word_16 4 word-sum_16 doubled-sum_16 test_16 x hx l hl)

pub double_256 : (x low h : ℕ) → low ≡ bit_and x 9187201950435737471 * 2 ^ 1 % 18446744073709551616 → h ≡ high_256 x → x < 2 ^ 64
    → (l : ℕ) → l < 8
    → lane (bit_xor (bit_xor (bit_xor (bit_xor low h) (h * 2 ^ 1 % 18446744073709551616)) (h * 2 ^ 3 % 18446744073709551616)) (h * 2 ^ 4 % 18446744073709551616)) l
    ≡ doubled 8 (lane x l)
double_256 x low h e g hx l hl = rw (e, g) (by_test word_256 8 word-sum_256 doubled-sum_256 test_256 x hx l hl)

-- ---- which field

pub doubled_other : (bits a : ℕ) → (bits ≡ 4 → ⊥) → doubled bits a ≡ doubled 8 a
unfolding doubled
doubled_other bits a h = rw (ne_eqb bits 4 h)

pub doubled-zero : (bits : ℕ) → doubled bits 0 ≡ 0
unfolding doubled
doubled-zero bits = go (eqb bits 4)
  where
    go : (b : Bool) → pick b (bit_xor (0 * 2 % 16) (0 / 8 % 2 * 3)) (bit_xor (0 * 2 % 256) (0 / 128 % 2 * 27)) ≡ 0
    go true = refl
    go false = refl

-- ---- once more

pub multiple-next : (bits t a : ℕ) → doubled bits (multiple bits t a) ≡ multiple bits (t + 1) a
unfolding multiple
multiple-next bits t a = rw (add-one t)
