-- What stands in the rows of repeated and doubled shares.
-- Assumes nothing.
use mathlib.Core.Path.{◌≡◌, refl, sym, ap, ◌∙◌}
use Prim.Native.Nat.{ℕ, suc, ◌+◌, ◌-◌, ◌*◌, ◌<◌, ◌≤◌}
use mathlib.Core.List.{List}
use native.Mathlib.Omega.{arith}
use native.Mathlib.Decide.{ℕ_discrete}
use native.Mathlib.Nat.{suc-mul, mul-le-mul_right}
use lib.ListN.{length, get_or, length-set}
use lib.Seq.{get_or-set_same, get_or-set_other}
use Rattle.sharing.specs.Run.{run}
use Rattle.sharing.proofs.Loops.{run_length}
use Rattle.sharing.proofs.Pairs.{run_holds}
use Rattle.row.specs.Code.Streams.{doubled, once_turn, repeat_turn, repeated, double_turn, doubled_rows}

-- ---- the factor's shares, over and over

pub repeat_turn-length : (n : ℕ) (a : List ℕ) (u : ℕ) (m : List ℕ) → length (repeat_turn n a u m) ≡ length m
unfolding repeat_turn
repeat_turn-length n a u m = run_length (once_turn a (u * n)) (λ k s. length-set s (u * n + k) _) n m

pub repeated-length : (n turns : ℕ) (a m : List ℕ) → length (repeated n turns a m) ≡ length m
unfolding repeated
repeated-length n turns a m = run_length (repeat_turn n a) (λ u s. repeat_turn-length n a u s) turns m

module _ (n : ℕ) (a : List ℕ) where
  -- after s shares of those that begin at `at`
  record Once (at : ℕ) (m₀ : List ℕ) (s : ℕ) (m : List ℕ) : Type 0 where
    size : length m ≡ length m₀
    done : (k : ℕ) → k < s → get_or m (at + k) 0 ≡ get_or a k 0
    left : (k : ℕ) → k < at → get_or m k 0 ≡ get_or m₀ k 0

  once : (at : ℕ) (m₀ : List ℕ) → at + n ≤ length m₀ → Once at m₀ n (run (once_turn a at) n m₀)
  once at m₀ h =
      run_holds (Once at m₀) (once_turn a at) n
      (λ s l m O.
      record {
        size = length-set m (at + s) _ ∙ O.size;
        done = λ k g. elim (ℕ_discrete k s) [
          | yes e ↦ rw e (get_or-set_same m (at + s) (get_or a s 0) 0 (omega (arith, O.size)))
          | no e ↦ get_or-set_other m (at + s) (at + k) (get_or a s 0) 0 (λ z. e (omega arith)) ∙ O.done k (omega arith)
        ];
        left = λ k g. get_or-set_other m (at + s) k (get_or a s 0) 0 (λ z. omega arith) ∙ O.left k g;
      })
      m₀
      (record { size = refl; done = λ k g. absurd (omega arith); left = λ k g. refl })

  record Again (m₀ : List ℕ) (turns : ℕ) (m : List ℕ) : Type 0 where
    size : length m ≡ length m₀
    done : (u s : ℕ) → u < turns → s < n → get_or m (u * n + s) 0 ≡ get_or a s 0

  pub repeated-at : (turns : ℕ) (m : List ℕ) → turns * n ≤ length m → (u s : ℕ) → u < turns → s < n
      → get_or (repeated n turns a m) (u * n + s) 0 ≡ get_or a s 0
  unfolding repeated repeat_turn
  repeated-at turns m h =
      (run_holds (Again m) (repeat_turn n a) turns
      (λ t l y A.
      let room : suc t * n ≤ turns * n = mul-le-mul_right n l in
      let O : Once (t * n) y n (run (once_turn a (t * n)) n y) = once (t * n) y (omega (arith, suc-mul t n, A.size)) in
      record {
        size = O.size ∙ A.size;
        done = λ u s g k. elim (ℕ_discrete u t) [
          | yes e ↦ rw e (O.done s k)
          | no e ↦
              let before : suc u * n ≤ t * n = mul-le-mul_right n (omega arith) in
              O.left (u * n + s) (omega (arith, suc-mul u n)) ∙ A.done u s (omega arith) k
        ];
      })
      m
      (record { size = refl; done = λ u s g k. absurd (omega arith) })
      ).done

-- ---- their doubles

module _ (bits r : ℕ) (m₀ : List ℕ) (hr : 1 ≤ r) (room : (bits - 1) * r + r ≤ length m₀) where
  -- after k turns
  record Doubling (k : ℕ) (m : List ℕ) : Type 0 where
    size : length m ≡ length m₀
    done : (q : ℕ) → q < k → get_or m (q + r) 0 ≡ doubled bits (get_or m q 0)
    first : (q : ℕ) → q < r → get_or m q 0 ≡ get_or m₀ q 0

  doubling : Doubling ((bits - 1) * r) (doubled_rows bits r m₀)
  unfolding doubled_rows double_turn
  doubling =
      run_holds Doubling (double_turn bits r) ((bits - 1) * r)
      (λ k l m D.
      let v : ℕ = doubled bits (get_or m k 0) in
      record {
        size = length-set m (k + r) v ∙ D.size;
        done = λ q g. elim (ℕ_discrete q k) [
          | yes e ↦
              rw e (get_or-set_same m (k + r) v 0 (omega (arith, D.size))
              ∙ ap (doubled bits) (sym (get_or-set_other m (k + r) k v 0 (λ z. omega arith))))
          | no e ↦
              get_or-set_other m (k + r) (q + r) v 0 (λ z. e (omega arith)) ∙ D.done q (omega arith)
              ∙ ap (doubled bits) (sym (get_or-set_other m (k + r) q v 0 (λ z. omega arith)))
        ];
        first = λ q g. get_or-set_other m (k + r) q v 0 (λ z. omega arith) ∙ D.first q g;
      })
      m₀
      (record { size = refl; done = λ q g. absurd (omega arith); first = λ q g. refl })

  pub doubled-first : (q : ℕ) → q < r → get_or (doubled_rows bits r m₀) q 0 ≡ get_or m₀ q 0
  doubled-first = doubling.first

  -- t rows below g, and one more
  pub doubled-next : (g t : ℕ) → g < r → t + 1 < bits
      → get_or (doubled_rows bits r m₀) (g + (t + 1) * r) 0 ≡ doubled bits (get_or (doubled_rows bits r m₀) (g + t * r) 0)
  doubled-next g t hg ht =
      let e : g + (t + 1) * r ≡ g + t * r + r = omega (arith, suc-mul t r) in
      let l : suc t * r ≤ (bits - 1) * r = mul-le-mul_right r (omega arith) in
      ap (λ (y : ℕ). get_or (doubled_rows bits r m₀) y 0) e ∙ doubling.done (g + t * r) (omega (arith, suc-mul t r))

-- ---- both together: with them a product is a choice for each bit

module _ (bits n turns r : ℕ) (a m : List ℕ) (hr : 1 ≤ r) (room : (bits - 1) * r + r ≤ length m) (fits : turns * n ≤ r) where
  unfoldable pub stream : List ℕ
  stream = doubled_rows bits r (repeated n turns a m)

  inside : (bits - 1) * r + r ≤ length (repeated n turns a m)
  inside = omega (arith, repeated-length n turns a m)

  pub stream_at : (x i : ℕ) → x < turns → i < n → get_or stream (x * n + i) 0 ≡ get_or a i 0
  unfolding stream
  stream_at x i hx hi =
      let l : suc x * n ≤ turns * n = mul-le-mul_right n hx in
      doubled-first bits r (repeated n turns a m) hr inside (x * n + i) (omega (arith, suc-mul x n))
      ∙ repeated-at n a turns m (omega arith) x i hx hi

  pub stream-next : (g t : ℕ) → g < r → t + 1 < bits → get_or stream (g + (t + 1) * r) 0 ≡ doubled bits (get_or stream (g + t * r) 0)
  unfolding stream
  stream-next = doubled-next bits r (repeated n turns a m) hr inside
