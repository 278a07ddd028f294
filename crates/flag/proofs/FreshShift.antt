-- The code refreshes the shifted copy of a fold with the pass that And ends with: there a pair's draw joins both its shares.
-- Assumes nothing.
use mathlib.Core.Path.{◌≡◌, sym}
use Prim.Native.Nat.{ℕ, suc, ◌+◌, ◌-◌, ◌/◌, ◌%◌, ◌^◌, ◌<◌}
use mathlib.Core.List.{List}
use native.Mathlib.Omega.{arith}
use native.Mathlib.Nat.{mod-lt, mod-mod, mod-eq_of_lt, div-le_self, lt_of_le_of_lt}
use lib.ListN.{length, get_or, length-map}
use Rattle.field.specs.Field.{Binary, field_of}
use Rattle.field.proofs.Fields.{field_of_lem}
use Rattle.sharing.specs.Run.{before, over_pairs}
use Rattle.sharing.specs.Rules.{pair_refresh_turn, pair_refresh}
use Rattle.flag.specs.Flag.{shifted, fresh_shift}
use Rattle.flag.specs.Code.Passes.{sum_turn, reduced}
use Rattle.flag.proofs.Lengths.{shifted-length}
use Rattle.flag.proofs.Words.{Same, same_add, same_sub, over_same, reduced_same, map_at}

module _ {f : ℕ} (B : Binary f) where
  -- each draw joins both shares of its pair
  both_same : (ds : List ℕ) (n i v : ℕ) → i < n → v < n - suc i → (s t : List ℕ) → Same B n s t
      → Same B n (sum_turn ds ds (before n i + v) i (i + 1 + v) s) (pair_refresh_turn (field_of f) ds (before n i + v) i (i + 1 + v) t)
  unfolding sum_turn pair_refresh_turn
  both_same ds n i v hi hv s t S =
      let d : ℕ = get_or ds (before n i + v) 0 in
      let e : d % (field_of f).q ≡ d % (field_of f).q % (field_of f).q = sym (mod-mod d (field_of f).q) in
      same_sub B (same_add B S i d (d % (field_of f).q) hi e) (i + 1 + v) d (d % (field_of f).q) (omega arith) e

  shifted_same : (h : ℕ) (s : List ℕ) → Same B (length s) (shifted (field_of f) h s) (shifted (field_of f) h s)
  unfolding shifted
  shifted_same h s =
      let q : ℕ = (field_of f).q in
      record {
        size = length-map s _;
        other = length-map s _;
        at = λ m l. rw (map_at (λ x. x % q / 2 ^ h) s m l)
            (mod-eq_of_lt (lt_of_le_of_lt (div-le_self (get_or s m 0 % q) (2 ^ h)) (mod-lt (get_or s m 0) (field_of_lem f).ring.pos)));
      }

  pub refreshed : (h n : ℕ) (ds s : List ℕ) → n ≡ length s
      → reduced (field_of f) (over_pairs (sum_turn ds ds) n (shifted (field_of f) h s)) ≡ fresh_shift (field_of f) h ds s
  unfolding fresh_shift pair_refresh
  refreshed h n ds s e =
      rw (e, shifted-length (field_of f) h s) (reduced_same B
      (over_same B (sum_turn ds ds) (pair_refresh_turn (field_of f) ds) (length s) (both_same ds (length s)) _ _ (shifted_same h s)))
