-- The passes over the pairs, one after another, are the And of 01: each pair's place holds its draw and both cross terms, and exclusive or in
-- all passes but the last leaves what the field's sums leave, modulo q.
-- Assumes nothing.
use mathlib.Core.Path.{◌≡◌, refl, sym, ap, ◌∙◌}
use Prim.Native.Nat.{ℕ, suc, ◌+◌, ◌-◌, ◌%◌, ◌<◌, ◌≤◌}
use mathlib.Core.List.{List}
use native.Mathlib.Omega.{arith}
use native.Mathlib.Decide.{ℕ_discrete, dec_lt}
use native.Mathlib.Nat.{mod-mod, mod-eq_of_lt}
use lib.Bits.{bit_xor, bit_and}
use lib.ListN.{length, get_or, length-set}
use lib.Seq.{get_or-set_same, get_or-set_other}
use Rattle.field.specs.Field.{Ring, Binary, field_of, bitwise}
use Rattle.field.proofs.Fields.{field_of_lem, bitwise_of}
use Rattle.sharing.specs.Run.{tab, before, pairs, pair_turn, pairs_of, over_pairs}
use Rattle.sharing.specs.Rules.{draw_at, crossed, product_turn, product_over}
use Rattle.flag.specs.Flag.{and_of}
use Rattle.flag.specs.Code.Passes.{cross_turn, cross_terms, own_terms, sum_turn, summed}
use Rattle.sharing.proofs.Pairs.{tab-length, tab-at, before_mono, pair_lt, run_holds}
use Rattle.flag.proofs.Words.{Same, add_same, same_add, same_sub, over_same, reduced_same}

-- ---- each pair's place

pair_same : (n i v j u : ℕ) → i < n → v < n - suc i → j < n → u < n - suc j → before n i + v ≡ before n j + u → i ≡ j
pair_same n i v j u hi hv hj hu e = elim (dec_lt i j) [
  | yes l ↦ absurd (omega (arith, before_mono n (suc i) j l))
  | no l ↦ elim (dec_lt j i) [
    | yes m ↦ absurd (omega (arith, before_mono n (suc j) i m))
    | no m ↦ omega arith
  ]
]

module _ (n : ℕ) (z a b y : List ℕ) (ly : pairs n ≤ length y) where
  stored : ℕ → ℕ → ℕ → ℕ
  stored k i j = bit_xor (get_or z k 0) (bit_and (get_or a i 0) (get_or b j 0))

  -- after q pairs
  record Done (q : ℕ) (w : List ℕ) : Type 0 where
    size : length w ≡ length y
    done : (i v : ℕ) → i < n → v < n - suc i → before n i + v < q
        → get_or w (before n i + v) 0 ≡ stored (before n i + v) i (i + 1 + v)

  next : (i v : ℕ) → i < n → v < n - suc i → (q : ℕ) → q ≡ before n i + v + 1 → (w : List ℕ) → Done (before n i + v) w
      → Done q (cross_turn z a b (before n i + v) i (i + 1 + v) w)
  unfolding cross_turn stored
  next i v hi hv q e w D =
      record {
        size = length-set w (before n i + v) _ ∙ D.size;
        done = λ j u hj hu l. elim (ℕ_discrete (before n j + u) (before n i + v)) [
          | yes m ↦
              let c : j ≡ i = pair_same n j u i v hj hu hi hv m in
              let d : before n j ≡ before n i = ap (before n) c in
              let g : u ≡ v = omega arith in
              rw (c, g) (get_or-set_same w (before n i + v) _ 0 (omega (arith, D.size, pair_lt n i v hi hv)))
          | no m ↦ get_or-set_other w (before n i + v) (before n j + u) _ 0 m ∙ D.done j u hj hu (omega arith)
        ];
      }

  all : Done (pairs n) (over_pairs (cross_turn z a b) n y)
  unfolding over_pairs
  all =
      run_holds (λ (i : ℕ) (w : List ℕ). Done (before n i) w) (pairs_of (cross_turn z a b) n) n
      (λ i hi w D.
      run_holds (λ (v : ℕ) (w : List ℕ). Done (before n i + v) w) (pair_turn (cross_turn z a b) n i) (n - suc i)
      (λ v hv w D. next i v hi hv (before n i + suc v) (omega arith) w D) w
      (let e : before n i + 0 ≡ before n i = omega arith in rw e D))
      y
      (record { size = refl; done = λ i v hi hv l. absurd (omega arith) })

  pub cross_at : (i v : ℕ) → i < n → v < n - suc i
      → get_or (over_pairs (cross_turn z a b) n y) (before n i + v) 0 ≡ bit_xor (get_or z (before n i + v) 0) (bit_and (get_or a i 0) (get_or b (i + 1 + v) 0))
  unfolding stored
  cross_at i v hi hv = all.done i v hi hv (pair_lt n i v hi hv)

-- ---- the draws and the terms of the pairs, summed

module _ {f : ℕ} (B : Binary f) where
  R : Ring (field_of f)
  R = (field_of_lem f).ring

  module _ (ds a b x y : List ℕ) (lx : pairs (length a) ≤ length x) (ly : pairs (length a) ≤ length y) where
    abbrev n : ℕ
    n = length a

    abbrev P : ℕ → ℕ → ℕ
    P = crossed (bitwise (field_of f)).mul a b

    -- what stands for the pairs after the first pass, and after the second
    abbrev x₁ : List ℕ
    x₁ = over_pairs (cross_turn ds a b) n x

    abbrev y₁ : List ℕ
    y₁ = over_pairs (cross_turn x₁ b a) n y

    first : (u v : ℕ) → bit_and u v % (field_of f).q ≡ (bitwise (field_of f)).mul u v % (field_of f).q
    unfolding bitwise
    first u v = sym (mod-mod (bit_and u v) (field_of f).q)

    second : (u v : ℕ) → bit_and u v % (field_of f).q ≡ (bitwise (field_of f)).mul v u % (field_of f).q
    second u v = first u v ∙ ap (λ (w : ℕ). w % (field_of f).q) ((bitwise_of B).mul_comm u v)

    own : (u v : ℕ) → bit_and u v % (field_of f).q ≡ (bitwise (field_of f)).mul u v
    unfolding bitwise
    own u v = refl

    turn_same : (i v : ℕ) → i < n → v < n - suc i → (s t : List ℕ) → Same B n s t
        → Same B n (sum_turn ds y₁ (before n i + v) i (i + 1 + v) s) (product_turn (field_of f) (draw_at (field_of f) ds) P (before n i + v) i (i + 1 + v) t)
    unfolding sum_turn product_turn
    turn_same i v hi hv s t S =
        let k : ℕ = before n i + v in
        let j : ℕ = i + 1 + v in
        let Z : ℕ = get_or ds k 0 % (field_of f).q in
        let stands : get_or y₁ k 0 ≡ bit_xor (bit_xor (get_or ds k 0) (bit_and (get_or a i 0) (get_or b j 0))) (bit_and (get_or b i 0) (get_or a j 0)) =
        cross_at n x₁ b a y ly i v hi hv ∙ ap (λ (w : ℕ). bit_xor w (bit_and (get_or b i 0) (get_or a j 0))) (cross_at n ds a b x lx i v hi hv) in
        same_add B (same_sub B S i (get_or ds k 0) Z hi (sym (mod-mod (get_or ds k 0) (field_of f).q))) j (get_or y₁ k 0) ((field_of f).add ((field_of f).add (P i j) Z) (P j i)) (omega arith)
        (ap (λ (w : ℕ). w % (field_of f).q) stands
        ∙ add_same B (bit_xor (get_or ds k 0) (bit_and (get_or a i 0) (get_or b j 0))) (bit_and (get_or b i 0) (get_or a j 0)) ((field_of f).add (P i j) Z) (P j i)
        (add_same B (get_or ds k 0) (bit_and (get_or a i 0) (get_or b j 0)) Z (P i j) refl (first (get_or a i 0) (get_or b j 0)) ∙ R.add_comm Z (P i j))
        (second (get_or b i 0) (get_or a j 0))
        ∙ sym (mod-eq_of_lt (R.add_lt ((field_of f).add (P i j) Z) (P j i))))

    pairs_same : Same B n (over_pairs (sum_turn ds y₁) n (own_terms a b)) (product_over (field_of f) (draw_at (field_of f) ds) P n)
    unfolding product_over own_terms
    pairs_same =
        over_same B (sum_turn ds y₁) (product_turn (field_of f) (draw_at (field_of f) ds) P) n turn_same
        (tab n (λ i. bit_and (get_or a i 0) (get_or b i 0))) (tab n (λ i. P i i))
        (record {
          size = tab-length n _;
          other = tab-length n _;
          at = λ m h. ap (λ (w : ℕ). w % (field_of f).q) (tab-at n (λ i. bit_and (get_or a i 0) (get_or b i 0)) m h) ∙ own (get_or a m 0) (get_or b m 0) ∙ sym (tab-at n (λ i. P i i) m h);
        })

    passes_and : summed (field_of f) n ds a b x₁ y ≡ and_of (field_of f) ds a b
    unfolding and_of
    passes_and = reduced_same B pairs_same

  -- by what each of the two calls has left
  pub passes_done : (n : ℕ) (z s u x₀ y₀ t x s₁ : List ℕ) → n ≡ length s → pairs n ≤ length x₀ → pairs n ≤ length y₀
      → t ≡ u
      → x ≡ cross_terms n z s t x₀
      → s₁ ≡ summed (field_of f) n z s t x y₀
      → s₁ ≡ and_of (field_of f) z s u
  passes_done n z s u x₀ y₀ t x s₁ e lx ly ht hx h =
      h ∙ rw (hx, ht, e) (passes_and z s u x₀ y₀ (rw (← e) lx) (rw (← e) ly))
