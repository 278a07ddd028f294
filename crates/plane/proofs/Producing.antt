-- What `products` leaves: at place i of word g, the word times share i of the factor.
-- Assumes nothing.
use mathlib.Core.Path.{◌≡◌, sym, ◌∙◌}
use Prim.Native.Nat.{ℕ, ◌+◌, ◌*◌, ◌<◌, ◌≤◌}
use mathlib.Core.List.{List}
use native.Mathlib.Omega.{arith}
use lib.ListN.{length, get_or, length-set}
use lib.Seq.{get_or-set_same, get_or-set_other}
use Rattle.row.proofs.Places.{place_in, same_row, same_place}
use Rattle.row.proofs.OneTurn.{run_keeps, run_one}
use Rattle.plane.proofs.Standing.{Has}
use Rattle.plane.specs.Code.Products.{dot, share_turn, word_turn, all_products}

module _ (bits n count : ℕ) (masks other : List ℕ) (g i : ℕ) (hg : g < count) (hi : i < n) where
  abbrev Room : List ℕ → Type 0
  Room p = count * n ≤ length p

  abbrev Stands : List ℕ → Type 0
  Stands = Has (count * n) (g * n + i) (dot bits masks (i * bits) other (g * bits))

  share_room : (b q k : ℕ) (p : List ℕ) → Room p → Room (share_turn bits masks other b q k p)
  unfolding share_turn
  share_room b q k p h = simp length-set h

  word_room : (t : ℕ) (p : List ℕ) → Room p → Room (word_turn bits n masks other t p)
  unfolding word_turn
  word_room t p h =
      run_keeps Room (share_turn bits masks other (t * bits) (t * n)) n (λ k hk p h. share_room (t * bits) (t * n) k p h) p h

  -- another place
  share_keeps : (t k : ℕ) → (g * n + i ≡ t * n + k → ⊥) → (p : List ℕ) → Stands p → Stands (share_turn bits masks other (t * bits) (t * n) k p)
  unfolding share_turn
  share_keeps t k e p H =
      record { size = simp length-set H.size; at = get_or-set_other p (t * n + k) (g * n + i) _ 0 e ∙ H.at }

  word_keeps : (t : ℕ) → (t ≡ g → ⊥) → (p : List ℕ) → Stands p → Stands (word_turn bits n masks other t p)
  unfolding word_turn
  word_keeps t e p H =
      run_keeps Stands (share_turn bits masks other (t * bits) (t * n)) n
      (λ k hk p H. share_keeps t k (λ z. e (sym (same_row n g i t k hi hk z))) p H) p H

  -- and its own
  share_hits : (p : List ℕ) → Room p → Stands (share_turn bits masks other (g * bits) (g * n) i p)
  unfolding share_turn
  share_hits p h =
      record { size = simp length-set h; at = get_or-set_same p (g * n + i) _ 0 (omega (arith, place_in count n g i hg hi)) }

  word_hits : (p : List ℕ) → Room p → Stands (word_turn bits n masks other g p)
  unfolding word_turn
  word_hits p h =
      run_one Room Stands (share_turn bits masks other (g * bits) (g * n)) n i hi
      (λ k hk e p h. share_room (g * bits) (g * n) k p h)
      (λ k hk e p H. share_keeps g k (λ z. e (sym (same_place n g i g k hi hk z))) p H)
      share_hits p h

  pub products_at : (p : List ℕ) → Room p → get_or (all_products bits n count masks other p) (g * n + i) 0 ≡ dot bits masks (i * bits) other (g * bits)
  unfolding all_products
  products_at p h =
      (run_one Room Stands (word_turn bits n masks other) count g hg (λ t ht e p h. word_room t p h) (λ t ht e p H. word_keeps t e p H) word_hits p h).at
