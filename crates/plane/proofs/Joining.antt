-- The two passes one after the other: the products, and their sums with the draws.
-- Assumes nothing.
use mathlib.Core.Path.{◌≡◌, refl, ap, ◌∙◌}
use Prim.Native.Nat.{ℕ, ◌+◌, ◌*◌, ◌≤◌}
use mathlib.Core.List.{List}
use native.Mathlib.Omega.{arith}
use native.Mathlib.Nat.{add-mul, mul_assoc}
use lib.Bits.{bit_xor}
use lib.ListN.{length, get_or}
use Rattle.field.proofs.Linear.{same}
use Rattle.sharing.specs.Run.{pairs}
use Rattle.row.proofs.Places.{place_in}
use Rattle.plane.specs.Code.Products.{dot, all_products}
use Rattle.plane.specs.Code.Sums.{all_sums}
use Rattle.plane.specs.Code.Words.{JoinedWords}
use Rattle.plane.proofs.Sharewise.{share_of}
use Rattle.plane.proofs.Producing.{products_at}
use Rattle.plane.proofs.Summing.{sums_at, sums-beyond}

-- the products of the words of eight columns stand side by side
place : (n u j i : ℕ) → u * (n * n) + (j * n + i) ≡ (u * n + j) * n + i
place n u j i = omega (arith, mul_assoc u n n, add-mul (u * n) j n)

pub joined_words : (bits n words : ℕ) (masks other z row p q new : List ℕ) → words * n * n ≤ length p → words * n ≤ length row
    → q ≡ all_products bits n (words * n) masks other p → new ≡ all_sums n words q z row
    → JoinedWords bits n words masks other z row new
joined_words bits n words masks other z row p q new hp hr e d =
    record {
      at = λ u s hu hs. ap (λ (r : List ℕ). get_or r (u * n + s) 0) d ∙ sums_at n words q z u s hu hs row hr
          ∙ ap (bit_xor (get_or row (u * n + s) 0))
          (share_of same n (λ k. get_or z (u * pairs n + k) 0) (λ k. get_or z (u * pairs n + k) 0) (λ i j. get_or q (u * (n * n) + (j * n + i)) 0)
          (λ i j. dot bits masks (i * bits) other ((u * n + j) * bits)) s hs (λ k hk. refl)
          (λ i j hi hj. ap (λ (o : ℕ). get_or q o 0) (place n u j i) ∙ ap (λ (r : List ℕ). get_or r ((u * n + j) * n + i) 0) e
          ∙ products_at bits n (words * n) masks other (u * n + j) i (place_in words n u j hu hj) hi p hp));
      beyond = λ o h. ap (λ (r : List ℕ). get_or r o 0) d ∙ sums-beyond n words q z row o h;
    }
