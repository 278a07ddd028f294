-- What `join` promises, word by word, as plain exclusive or of words: proofs/JoinLaw takes it to the shares of Product.
-- Assumes nothing.
use Rattle.std.specs.Prelude.{◌≡◌, ℕ, ◌+◌, ◌*◌, ◌<◌, ◌≤◌, List, get_or}
use Rattle.std.specs.Int.Bits.{bit_xor}
use Rattle.sharing.specs.Run.{pairs}
use Rattle.row.specs.Code.Shares.{share_sum}
use Rattle.plane.specs.Code.Products.{dot}

-- the word of share s, of the first `words` words of each share, has been joined by what Product has for it; the words past them stayed
pub record JoinedWords (bits n words : ℕ) (masks other z row new : List ℕ) : Type 0 where
  pub at : (u s : ℕ) → u < words → s < n
      → get_or new (u * n + s) 0
      ≡ bit_xor (get_or row (u * n + s) 0) (share_sum n (λ k. get_or z (u * pairs n + k) 0) (λ i j. dot bits masks (i * bits) other ((u * n + j) * bits)) s)
  pub beyond : (o : ℕ) → words * n ≤ o → get_or new o 0 ≡ get_or row o 0
