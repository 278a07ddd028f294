-- The Zero flag: its shares add to 1 exactly where the value was 0. Each fold does on the value what its word rule says, so that the flag of
-- a value is a number worked out from the value alone, and one test of all q values tells what that number is.
-- Assumes nothing.
use mathlib.Core.Path.{◌≡◌, refl, sym, ap, ap₂, ◌∙◌}
use mathlib.Core.Bool.{Bool, true, false}
use Prim.Native.Nat.{ℕ, ◌+◌, ◌-◌, ◌*◌, ◌/◌, ◌%◌, ◌^◌, ◌<◌}
use mathlib.Core.List.{List, [], ◌∷◌, map}
use native.Mathlib.Omega.{arith}
use native.Mathlib.Nat.{mod-lt, mod-eq_of_lt, div-le_self, mod-le, lt_of_le_of_lt}
use lib.ListN.{length, drop}
use lib.Bits.{bit_xor, bit_and, xor_mod}
use lib.Pow.{mod-mod-pow}
use lib.Dec.{T, eqb, eqb→eq}
use borrow.Author.Tests.{ne_eqb}
use Rattle.field.specs.Field.{Ops, Ring, Binary, pick, F16, F256, field_of, bits, bitwise}
use Rattle.field.proofs.Linear.{Additive, at_zero, high, low, all, all-at}
use Rattle.field.proofs.Fields.{field_of_lem, binary_of, bitwise_of}
use Rattle.sharing.specs.Run.{run, pairs}
use Rattle.sharing.specs.Rules.{sum, draw_at, product_turn, product_over}
use Rattle.sharing.proofs.Pairs.{run_holds}
use Rattle.sharing.proofs.Sums.{sum_lt, sum-add_at, sum-pair_refresh, sum-product_over}
use Rattle.flag.specs.Flag.{and_of, folds, fold_draws, complemented, shifted, fresh_shift, fold, fold_turn, low_bits, zero_flag, flag_of}
use Rattle.flag.proofs.Lengths.{fresh_shift-length}

-- ---- And: Product's law, in the ring of words with bitwise and

sum-bitwise : (F : Ops) (s : List ℕ) → sum (bitwise F) s ≡ sum F s
unfolding sum bitwise
sum-bitwise F [] = refl
sum-bitwise F (x ∷ s) = ap (F.add x) (sum-bitwise F s)

sum-and_of : (F : Ops) → Ring (bitwise F) → (ds a b : List ℕ) → length b ≡ length a
    → sum F (and_of F ds a b) ≡ bit_and (sum F a) (sum F b) % F.q
unfolding and_of bitwise product_over product_turn
sum-and_of F B ds a b e =
    sym (sum-bitwise F (and_of F ds a b)) ∙ sum-product_over (bitwise F) B (draw_at F ds) a b e
    ∙ ap₂ (bitwise F).mul (sum-bitwise F a) (sum-bitwise F b)

-- ---- the folds

-- the elements are the words of w bits, and their sum is exclusive or
record Words (F : Ops) (w : ℕ) : Type 0 where
  size : F.q ≡ 2 ^ w
  adds : (a b : ℕ) → F.add a b ≡ bit_xor a b % 2 ^ w
  some : 0 < w

words : (t : Bool) → Words (pick t F16 F256) (pick t 4 8)
unfolding F16 F256
words true = record { size = refl; adds = λ a b. refl; some = omega arith }
words false = record { size = refl; adds = λ a b. refl; some = omega arith }

words_of : {f : ℕ} → Binary f → Words (field_of f) (bits f)
words_of B = rw (B.is, B.has) (words B.sixteen)

-- what a fold by h does to the value
folded : Ops → ℕ → ℕ → ℕ
folded F h v = bit_and v (v / 2 ^ h) % F.q

module _ (F : Ops) (R : Ring F) (w : ℕ) (W : Words F w) where
  xor-sum : (x : ℕ) {y : ℕ} → y < F.q → F.add x y ≡ bit_xor (x % F.q) y
  xor-sum x {y} h =
      W.adds x y ∙ xor_mod x y w
      ∙ ap₂ bit_xor (ap (λ (q : ℕ). x % q) (sym W.size)) (ap (λ (q : ℕ). y % q) (sym W.size) ∙ mod-eq_of_lt h)

  -- a word rule that respects exclusive or and gives elements for elements, on each share, is done on the value
  sum_mapped : {g : ℕ → ℕ} → Additive g → ((x : ℕ) → x < F.q → g x < F.q) → (h : ℕ → ℕ) → ((x : ℕ) → h x ≡ g (x % F.q))
      → (s : List ℕ) → sum F (map h s) ≡ g (sum F s)
  unfolding sum
  sum_mapped p l h e [] = sym (at_zero p)
  sum_mapped {g} p l h e (x ∷ s) =
      ap₂ F.add (e x) (sum_mapped p l h e s) ∙ xor-sum (g (x % F.q)) (l (sum F s) (sum_lt F R s))
      ∙ ap (λ (y : ℕ). bit_xor y (g (sum F s))) (mod-eq_of_lt (l (x % F.q) (mod-lt x R.pos)))
      ∙ sym (p.sum (x % F.q) (sum F s))
      ∙ ap g (sym (xor-sum x (sum_lt F R s)))

  sum_shifted : (h : ℕ) (s : List ℕ) → sum F (shifted F h s) ≡ sum F s / 2 ^ h
  unfolding shifted
  sum_shifted h s =
      sum_mapped (high h) (λ x l. lt_of_le_of_lt (div-le_self x (2 ^ h)) l) (λ x. x % F.q / 2 ^ h) (λ x. refl) s

  sum-fresh_shift : (h : ℕ) (ds s : List ℕ) → sum F (fresh_shift F h ds s) ≡ sum F s / 2 ^ h
  unfolding fresh_shift
  sum-fresh_shift h ds s = sum-pair_refresh F R ds (shifted F h s) ∙ sum_shifted h s

  sum-low_bits : (s : List ℕ) → sum F (low_bits s) ≡ sum F s % 2
  unfolding low_bits
  sum-low_bits s =
      let e : w - 1 + 1 ≡ w = omega (arith, W.some) in
      sum_mapped (low 1) (λ x l. lt_of_le_of_lt (mod-le x 2) l) (λ x. x % 2)
      (λ x. sym (rw (W.size, ← e) (mod-mod-pow x (w - 1) 1))) s

  sum-fold : Ring (bitwise F) → (h : ℕ) (ds s : List ℕ) → sum F (fold F h ds s) ≡ folded F h (sum F s)
  unfolding fold folded
  sum-fold B h ds s =
      sum-and_of F B (drop (pairs (length s)) ds) s (fresh_shift F h ds s) (fresh_shift-length F h ds s)
      ∙ ap (λ (v : ℕ). bit_and (sum F s) v % F.q) (sum-fresh_shift h ds s)

-- the flag of the value v, in words of w bits and by k folds
flagged : Ops → ℕ → ℕ → ℕ → ℕ
flagged F w k v = run (λ i. folded F (w / 2 ^ (i + 1))) k (F.add v (F.q - 1)) % 2

flag_runs : (f : ℕ) (ds s : List ℕ) → 0 < length s → sum (field_of f) (zero_flag f ds s) ≡ flagged (field_of f) (bits f) (folds f) (sum (field_of f) s)
unfolding zero_flag flagged run
flag_runs f ds s h =
    let F : Ops = field_of f in
    let R : Ring F = (field_of_lem f).ring in
    let turn : ℕ → ℕ → ℕ = λ i. folded F (bits f / 2 ^ (i + 1)) in
    let s₀ : List ℕ = complemented F s in
    sum-low_bits F R (bits f) (words_of (binary_of f)) (run (fold_turn f ds (length s)) (folds f) s₀)
    ∙ ap (λ (v : ℕ). v % 2)
    (run_holds (λ (k : ℕ) (t : List ℕ). sum F t ≡ run turn k (sum F s₀)) (fold_turn f ds (length s)) (folds f)
    (λ k l t e. sum-fold F R (bits f) (words_of (binary_of f)) (bitwise_of (binary_of f)) (bits f / 2 ^ (k + 1)) (drop (k * fold_draws (length s)) ds) t ∙ ap (turn k) e)
    s₀ refl
    ∙ ap (run turn (folds f)) (sum-add_at F R 0 (F.q - 1) s h))

right : Ops → ℕ → ℕ → ℕ → Bool
right F w k v = eqb (flagged F w k v) (flag_of v)

tests : (t : Bool) → T (all (pick t F16 F256).q (right (pick t F16 F256) (pick t 4 8) (pick t 2 3)))
unfolding F16 F256 right flagged flag_of folded run
tests true = tt
tests false = tt

test_of : (f : ℕ) → T (all (field_of f).q (right (field_of f) (bits f) (folds f)))
unfolding field_of bits folds
test_of f = tests (eqb f 16)

module _ (f : ℕ) (ds s : List ℕ) (h : 0 < length s) where
  pub sum-zero_flag : sum (field_of f) (zero_flag f ds s) ≡ flag_of (sum (field_of f) s)
  unfolding right
  sum-zero_flag =
      flag_runs f ds s h
      ∙ eqb→eq _ _ (all-at (field_of f).q (right (field_of f) (bits f) (folds f)) (test_of f) (sum (field_of f) s) (sum_lt (field_of f) (field_of_lem f).ring s))

  pub zero_flag-zero : sum (field_of f) s ≡ 0 → sum (field_of f) (zero_flag f ds s) ≡ 1
  unfolding flag_of
  zero_flag-zero e = sum-zero_flag ∙ ap flag_of e

  pub zero_flag_other : (sum (field_of f) s ≡ 0 → ⊥) → sum (field_of f) (zero_flag f ds s) ≡ 0
  unfolding flag_of
  zero_flag_other n =
      sum-zero_flag ∙ ap (λ (t : Bool). pick {A = ℕ} t 1 0) (ne_eqb (sum (field_of f) s) 0 n)
