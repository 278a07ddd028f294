-- Where the entries and the rows of a table stand: within it, in order and apart, so that what is put at some columns of a row is there and
-- leaves every other entry its shares.
-- Assumes nothing.
use mathlib.Core.Path.{◌≡◌, sym, ap, ◌∙◌}
use mathlib.Core.Logic.{◌⊎◌, inl, inr, ⊎_elim}
use Prim.Native.Nat.{ℕ, suc, ◌+◌, ◌-◌, ◌*◌, ◌<◌, ◌≤◌}
use mathlib.Core.List.{List}
use native.Mathlib.Omega.{arith}
use native.Mathlib.Decide.{ℕ_discrete, dec_lt}
use native.Mathlib.Nat.{le_refl, suc-mul, add-mul, one-mul, mul-le-mul_right}
use lib.ListN.{length}
use Rattle.table.specs.Layout.{cell, table_bytes, part, put, entry, columns_from, row_from, put_row, Inside}
use Rattle.table.proofs.Parts.{part_length, part-part, part_inside, part_same, part-before, part-behind, put-length}

-- column u of several
pub column_in : (n : ℕ) {u columns : ℕ} → u < columns → u * n + n ≤ columns * n
column_in n {u} h = omega (arith, suc-mul u n, mul-le-mul_right n h)

-- the entries of a row stand one after another
pub cell-next : (n w r c u : ℕ) → 1 ≤ c → cell n w r (c + u) ≡ cell n w r c + u * n
unfolding cell
cell-next n w r c u h =
    let e : (r - 1) * w + (c + u - 1) ≡ (r - 1) * w + (c - 1) + u = omega arith in rw (e, add-mul ((r - 1) * w + (c - 1)) u n)

-- a place of the same row
pub in_row : {rows w r c : ℕ} → Inside rows w r c → (d : ℕ) → 1 ≤ d → d ≤ w → Inside rows w r d
in_row P d h k =
    record { row_low = P.row_low; row_high = P.row_high; column_low = h; column_high = k }

-- some columns of a row lie within the table
pub columns_in : (n : ℕ) {rows w r j : ℕ} → Inside rows w r j → (columns : ℕ) → j + columns ≤ w + 1
    → cell n w r j + columns * n ≤ table_bytes n rows w
unfolding cell table_bytes
columns_in n {rows} {w} {r} {j} P columns h =
    let x : ℕ = (r - 1) * w + (j - 1) in
    let row : suc (r - 1) * w ≤ rows * w = mul-le-mul_right w (omega arith) in
    let all : (x + columns) * n ≤ rows * w * n = mul-le-mul_right n (omega (arith, suc-mul (r - 1) w)) in
    omega (arith, add-mul x columns n)

pub row_in : (n : ℕ) {rows w r j : ℕ} → Inside rows w r j → cell n w r j + columns_from w j * n ≤ table_bytes n rows w
row_in n {w = w} {j = j} P = columns_in n P (columns_from w j) (omega arith)

pub cell_in : (n : ℕ) {rows w r c : ℕ} → Inside rows w r c → cell n w r c + n ≤ table_bytes n rows w
cell_in n P = omega (arith, columns_in n P 1 (omega arith), one-mul n)

-- some columns of a row stand before every later column of it and before every later row
columns-order : (n : ℕ) {rows w r j s d : ℕ} → Inside rows w r j → Inside rows w s d → (columns : ℕ) → j + columns ≤ w + 1
    → (r < s) ⊎ ((s ≡ r) × (j + columns ≤ d)) → cell n w r j + columns * n ≤ cell n w s d
unfolding cell
columns-order n {w = w} {r = r} {j = j} {s = s} {d = d} P Q columns h o =
    let x : ℕ = (r - 1) * w + (j - 1) in
    let y : ℕ = (s - 1) * w + (d - 1) in
    let le : x + columns ≤ y =
    ⊎_elim
    (λ (g : r < s).
    let row : suc (r - 1) * w ≤ (s - 1) * w = mul-le-mul_right w (omega arith) in
    omega (arith, suc-mul (r - 1) w))
    (λ (g : (s ≡ r) × (j + columns ≤ d)). rw g.0 (omega arith)) o in
    omega (arith, mul-le-mul_right n le, add-mul x columns n)

-- two rows do not meet
row-order : (n : ℕ) {rows w r s j : ℕ} → Inside rows w r j → Inside rows w s j → r < s
    → cell n w r j + columns_from w j * n ≤ cell n w s j
row-order n {w = w} {j = j} P Q h =
    columns-order n P Q (columns_from w j) (omega arith) (inl h)

-- a row begins with another or before it, or else behind it
pub row_apart : (n : ℕ) {rows w r s j : ℕ} → Inside rows w r j → Inside rows w s j
    → (cell n w r j ≤ cell n w s j) ⊎ (cell n w s j + columns_from w j * n ≤ cell n w r j)
row_apart n {w = w} {r = r} {s = s} {j = j} P Q = elim (dec_lt s r) [
  | yes h ↦ inr (row-order n Q P h)
  | no h ↦ elim (dec_lt r s) [
    | yes g ↦ inl (omega (arith, row-order n P Q g))
    | no g ↦ let e : r ≡ s = omega arith in inl (rw e (le_refl (cell n w s j)))
  ]
]

module _ (n rows w : ℕ) (t : List ℕ) (lt : length t ≡ table_bytes n rows w) where
  pub entry_length : {r c : ℕ} → Inside rows w r c → length (entry n w r c t) ≡ n
  entry_length {r} {c} P = part_length n (cell n w r c) t (omega (arith, cell_in n P))

  pub row_from-length : {r j : ℕ} → Inside rows w r j → length (row_from n w r j t) ≡ columns_from w j * n
  row_from-length {r} {j} P =
      part_length (columns_from w j * n) (cell n w r j) t (omega (arith, row_in n P))

  -- a column of a row
  pub entry_row : {r j : ℕ} → Inside rows w r j → (u : ℕ) → u < columns_from w j
      → part n (u * n) (row_from n w r j t) ≡ entry n w r (j + u) t
  entry_row {r} {j} P u h =
      part-part n (u * n) (columns_from w j * n) (cell n w r j) t (column_in n h)
      ∙ ap (λ (p : ℕ). part n p t) (sym (cell-next n w r j u P.column_low))

  -- ---- after some columns of row r were put

  module _ {r j : ℕ} (P : Inside rows w r j) (columns : ℕ) (h : j + columns ≤ w + 1) (x : List ℕ) (lx : length x ≡ columns * n) where
    fits : cell n w r j + columns * n ≤ length t
    fits = omega (arith, columns_in n P columns h)

    columns-length : length (put (columns * n) (cell n w r j) x t) ≡ table_bytes n rows w
    columns-length = put-length (columns * n) (cell n w r j) x t lx fits ∙ lt

    columns_other : {s d : ℕ} → Inside rows w s d → (s ≡ r → (d < j) ⊎ (j + columns ≤ d))
        → entry n w s d (put (columns * n) (cell n w r j) x t) ≡ entry n w s d t
    columns_other {s} {d} Q o = elim (dec_lt r s) [
      | yes l ↦ behind (inl l)
      | no m ↦ elim (ℕ_discrete s r) [
        | yes e ↦ ⊎_elim (λ (g : d < j). ahead (inr (sym e, omega arith))) (λ (g : j + columns ≤ d). behind (inr (e, g))) (o e)
        | no k ↦ ahead (inl (omega arith))
      ]
    ]
      where
        behind : (r < s) ⊎ ((s ≡ r) × (j + columns ≤ d)) → entry n w s d (put (columns * n) (cell n w r j) x t) ≡ entry n w s d t
        behind a =
            part-behind (columns * n) (cell n w r j) x t lx fits n (cell n w s d) (columns-order n P Q columns h a)

        ahead : (s < r) ⊎ ((r ≡ s) × (d + 1 ≤ j)) → entry n w s d (put (columns * n) (cell n w r j) x t) ≡ entry n w s d t
        ahead a =
            part-before (columns * n) (cell n w r j) x t lx fits n (cell n w s d)
            (omega (arith, columns-order n Q P 1 (omega arith) a, one-mul n))

  -- one entry was put
  module _ {r c : ℕ} (P : Inside rows w r c) (x : List ℕ) (lx : length x ≡ n) where
    one : length x ≡ 1 * n
    one = lx ∙ sym (one-mul n)

    as_one : put n (cell n w r c) x t ≡ put (1 * n) (cell n w r c) x t
    as_one = ap (λ (k : ℕ). put k (cell n w r c) x t) (sym (one-mul n))

    pub put-entry-length : length (put n (cell n w r c) x t) ≡ table_bytes n rows w
    put-entry-length = ap length as_one ∙ columns-length P 1 (omega arith) x one

    pub put-entry_same : entry n w r c (put n (cell n w r c) x t) ≡ x
    put-entry_same = part_same n (cell n w r c) x t lx (omega (arith, cell_in n P))

    pub put-entry_other : {s d : ℕ} → Inside rows w s d → (s ≡ r → d ≡ c → ⊥) → entry n w s d (put n (cell n w r c) x t) ≡ entry n w s d t
    put-entry_other {s} {d} Q ne =
        ap (entry n w s d) as_one ∙ columns_other P 1 (omega arith) x one Q (λ e. side e)
      where
        side : s ≡ r → (d < c) ⊎ (c + 1 ≤ d)
        side e = elim (dec_lt d c) [
          | yes l ↦ inl l
          | no m ↦ elim (ℕ_discrete d c) [
            | yes f ↦ absurd (ne e f)
            | no k ↦ inr (omega arith)
          ]
        ]

  -- row r from column j on was put
  module _ {r j : ℕ} (P : Inside rows w r j) (row : List ℕ) (lr : length row ≡ columns_from w j * n) where
    pub put_row-length : length (put_row n w r j row t) ≡ table_bytes n rows w
    put_row-length = columns-length P (columns_from w j) (omega arith) row lr

    pub put_row_same : (u : ℕ) → u < columns_from w j → entry n w r (j + u) (put_row n w r j row t) ≡ part n (u * n) row
    put_row_same u h =
        ap (λ (p : ℕ). part n p (put_row n w r j row t)) (cell-next n w r j u P.column_low)
        ∙ part_inside (columns_from w j * n) (cell n w r j) row t lr (omega (arith, row_in n P)) n (u * n) (column_in n h)

    pub put_row_other : {s d : ℕ} → Inside rows w s d → (s ≡ r → d < j) → entry n w s d (put_row n w r j row t) ≡ entry n w s d t
    put_row_other Q o = columns_other P (columns_from w j) (omega arith) row lr Q (λ e. inl (o e))
