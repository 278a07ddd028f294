use mathlib.Core.Path.{◌≡◌, ap, ◌∙◌}
use Prim.Native.Nat.{ℕ, ◌+◌, ◌-◌, ◌*◌, ◌/◌, ◌%◌, ◌^◌, ◌<◌, ◌≤◌}
use native.Mathlib.Omega.{arith}
use native.Mathlib.Nat.{mod-eq_of_lt}
use lib.Pow.{pow-add, pow_mono}
use lib.ListN.{get_or}
use Rattle.dealing.proofs.Lanes.{pair_lanes}
use Rattle.dealing.proofs.four_at.Goals as goal

-- a word that takes in two bytes below what it holds
grown : (v r k m : ℕ) → v < 2 ^ k → r < 65536 → m ≡ k + 16 → v * 65536 + r < 2 ^ m
grown v r k m h g e = rw (e, pow-add 2 k 16) (omega arith)

pub loop-q-preserved : goal.loop-q-preserved
loop-q-preserved c =
    let x = c.args in
    let l = c.loop-q in
    let e : ℕ = l.q - 1 in
    let p : ℕ = x.o + e * x.m in
    let g : ℕ → ℕ = λ i. get_or x.d.now (x.o + (2 * e + i) / 2 * x.m + (2 * e + i) % 2) 0 in
    let k : ℕ = 16 * (4 - l.q) in
    let small : 2 ^ k ≤ 2 ^ 48 = pow_mono {i = k} {j = 48} (omega arith) in
    let whole : l.v * 65536 % 2 ^ 64 ≡ l.v * 65536 = mod-eq_of_lt (omega (arith, l.invariant.0)) in
    let r : c.from.result ≡ get_or x.d.now p 0 + get_or x.d.now (p + 1) 0 * 256 = c.from.ensures ∙ c.from_le_bytes-pair.ensures in
    let a : p ≡ x.o + (2 * e + 0) / 2 * x.m + (2 * e + 0) % 2 = omega (arith, ap (λ (i : ℕ). i * x.m) (half e 0 (omega arith))) in
    let b : p + 1 ≡ x.o + (2 * e + 1) / 2 * x.m + (2 * e + 1) % 2 = omega (arith, ap (λ (i : ℕ). i * x.m) (half e 1 (omega arith))) in
    let held = λ (i : ℕ) (h : i < 8 - 2 * l.q). l.invariant.1 i (omega arith) ∙ ap (λ (j : ℕ). get_or x.d.now (x.o + j / 2 * x.m + j % 2) 0) (above l.q i (omega arith)) in
    rw whole (
      grown l.v c.from.result k _ l.invariant.0 (omega arith) (omega arith),
      λ i h. rw r (pair_lanes g _ _ l.v (8 - 2 * l.q) (8 - 2 * e) (omega (arith, c.type_inv.d p)) (omega (arith, c.type_inv.d (p + 1))) (omega arith)
          (ap (λ (j : ℕ). get_or x.d.now j 0) a) (ap (λ (j : ℕ). get_or x.d.now j 0) b) held i (omega arith)),
    )
  where
    half : (e i : ℕ) → i < 2 → e ≡ (2 * e + i) / 2
    half e i h = omega arith

    above : (q i : ℕ) → 0 < q → 2 * q + i ≡ 2 * (q - 1) + (i + 2)
    above q i h = omega arith
