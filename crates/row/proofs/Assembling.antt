-- The passes one after another leave a row of Products.
-- Assumes nothing.
use mathlib.Core.Path.{◌≡◌, sym, ap, ap₂, ◌∙◌}
use Prim.Native.Nat.{ℕ, suc, ◌+◌, ◌-◌, ◌*◌, ◌/◌, ◌%◌, ◌<◌, ◌≤◌}
use mathlib.Core.List.{List}
use native.Mathlib.Omega.{arith}
use native.Mathlib.Nat.{suc-mul, mul-le-mul_right, add_comm, mod-lt, mod-mod, mod-eq_of_lt, add-mul-mod_self_right}
use lib.Bits.{bit_xor}
use lib.ListN.{length, get_or, take, drop}
use lib.Seq.{get_or-take, get_or-drop}
use Rattle.field.specs.Field.{Binary, field_of, bits}
use Rattle.sharing.specs.Run.{before, pairs}
use Rattle.sharing.specs.Rules.{draw_at, crossed, product_over, product}
use Rattle.row.specs.Code.Streams.{repeated, doubled_rows}
use Rattle.row.specs.Code.Spread.{spread_all}
use Rattle.row.specs.Code.Products.{term, all_products}
use Rattle.row.specs.Code.Gather.{gathered_byte, gather_all}
use Rattle.sharing.specs.Lists.{Below}
use Rattle.row.specs.Code.Shares.{own_draws}
use Rattle.row.specs.Rows.{Products}
use Rattle.row.proofs.Streaming.{stream, stream_at, stream-next}
use Rattle.row.proofs.Spreading.{spread_own, spread_pair, spread_none, spread-length}
use Rattle.row.proofs.Producing.{products_at}
use Rattle.row.proofs.TermLaw.{term-mul}
use Rattle.row.proofs.Gathering.{gather_at}
use Rattle.row.proofs.GatherLaw.{gathered-sum}
use Rattle.row.proofs.ShareLaw.{share_law}
use Rattle.row.proofs.Cells.{in_block, byte_in_block, block_there, own-term, first-term, second-term}

-- share s of a column, wherever the column stands
share_of : (n x s : ℕ) → s < n → (x * n + s) % n ≡ s
share_of n x s h = ap (λ (y : ℕ). y % n) (add_comm (x * n) s) ∙ add-mul-mod_self_right s x n ∙ mod-eq_of_lt h

module _ {f : ℕ} (B : Binary f) (n columns turns r j blocks e wide span : ℕ) (ds a row c m : List ℕ)
    (few : 1 ≤ n) (long : 1 ≤ r) (room : (bits f - 1) * r + r ≤ length m) (fits : turns * n ≤ r)
    (hj : 1 ≤ j) (again : j < turns) (he : 1 ≤ e)
    (all_blocks : columns * n ≤ blocks * (j * n)) (blocks-in : blocks * (j * n) ≤ span)
    (all-wide : columns * n ≤ wide * (e * n)) (wide-in : wide * (e * n) ≤ span)
    (rows_in : n * span ≤ length c) (row_in : span ≤ length row)
    (none : (o : ℕ) → get_or c o 0 ≡ 0) (small : Below (field_of f).q a) (shares : length a ≡ n)
  where
    unfoldable pub M : List ℕ
    M = stream (bits f) n turns r a m long room fits

    unfoldable pub C : List ℕ
    C = spread_all n columns span ds c

    unfoldable pub D : List ℕ
    D = all_products (bits f) n (j * n) r blocks span row M C

    unfoldable Z : ℕ → ℕ → ℕ
    Z u x = get_or ds (u * pairs n + x) 0

    unfoldable entry : ℕ → List ℕ
    entry u = take n (drop (u * n) row)

    unfoldable P : ℕ → ℕ → ℕ → ℕ
    P u = crossed (field_of f).mul a (entry u)

    -- what joins row d at share s of column u
    unfoldable T : ℕ → ℕ → ℕ → ℕ
    T u s d = term M r (bits f) (u % j * n + s + n - d) (get_or row (u * n + s) 0)

    entry_at : (u s : ℕ) → s < n → get_or (entry u) s 0 ≡ get_or row (u * n + s) 0
    unfolding entry
    entry_at u s hs = get_or-take n (drop (u * n) row) s 0 hs ∙ get_or-drop (u * n) row s 0

    single : (u s d i x : ℕ) → s < n → i < n → x < turns → u % j * n + s + n - d ≡ x * n + i → T u s d ≡ P u i s
    unfolding T P M stream
    single u s d i x hs hi hx g =
        let l : suc x * n ≤ turns * n = mul-le-mul_right n hx in
        ap (λ (y : ℕ). term M r (bits f) y (get_or row (u * n + s) 0)) g
        ∙ term-mul B M r (x * n + i) (get_or a i 0) (get_or row (u * n + s) 0) (small.at i)
        (stream_at (bits f) n turns r a m long room fits x i hx hi)
        (λ t ht. stream-next (bits f) n turns r a m long room fits (x * n + i) t (omega (arith, suc-mul x n)) ht)
        ∙ ap ((field_of f).mul (get_or a i 0)) (sym (entry_at u s hs))

    inside : (u : ℕ) → u % j < turns
    inside u = omega (arith, mod-lt u hj)

    near : (u s d i : ℕ) → u < columns → s < n → i + d ≡ s → T u s d ≡ P u i s
    near u s d i hu hs h =
        single u s d i (suc (u % j)) hs (omega arith) (omega (arith, mod-lt u hj)) (omega (arith, suc-mul (u % j) n))

    far : (u s d i : ℕ) → u < columns → s < n → s < d → d < n → i + d ≡ s + n → T u s d ≡ P u i s
    far u s d i hu hs l hd h = single u s d i (u % j) hs (omega arith) (inside u) (omega arith)

    columns_in : columns * n ≤ span
    columns_in = omega arith

    joins : (u s d : ℕ) → u < columns → s < n → d < n → get_or D (d * span + (u * n + s)) 0 ≡ bit_xor (get_or C (d * span + (u * n + s)) 0) (T u s d)
    unfolding D C T
    joins u s d hu hs hd =
        let g : u / j * (j * n) + (u % j * n + s) ≡ u * n + s = in_block n j u s in
        let e : d * span + (u * n + s) ≡ d * span + (u / j * (j * n) + (u % j * n + s)) = omega arith in
        ap (λ (y : ℕ). get_or D y 0) e
        ∙ products_at (bits f) n (j * n) r blocks span row M C (omega (arith, spread-length n columns span ds c)) blocks-in
        d (u / j) (u % j * n + s) hd (block_there n j u s columns blocks hj hs hu all_blocks) (byte_in_block n j u s hj hs)
        ∙ ap₂ bit_xor (ap (λ (y : ℕ). get_or C y 0) (sym e))
        (ap (λ (y : ℕ). term M r (bits f) (u % j * n + s + n - d) (get_or row y 0)) g)

    pair : (u s d i : ℕ) → u < columns → s < n → 1 ≤ d → i + d ≡ s → get_or C (d * span + (u * n + s)) 0 ≡ Z u (before n i + (d - 1))
    unfolding C Z
    pair u s d i hu hs l h =
        let e : s - d ≡ i = omega arith in
        spread_pair n columns span ds c rows_in columns_in none u s d hu hs l (omega arith)
        ∙ ap (λ (y : ℕ). get_or ds (u * pairs n + (before n y + (d - 1))) 0) e

    own : (u s : ℕ) → u < columns → s < n → get_or C (u * n + s) 0 ≡ own_draws n (Z u) s
    unfolding C Z
    own = spread_own n columns span ds c rows_in columns_in none

    nothing : (u s d : ℕ) → u < columns → s < n → s < d → d < n → get_or C (d * span + (u * n + s)) 0 ≡ 0
    unfolding C
    nothing u s d hu hs l hd = spread_none n columns span ds c rows_in columns_in none u s d hu l hd

    -- a byte of the gathered row
    byte : (u s : ℕ) → u < columns → s < n → get_or (gather_all n (e * n) wide span D row) (u * n + s) 0 ≡ gathered_byte n span D (u * n + s) (u % e * n + s)
    byte u s hu hs =
        let g : u / e * (e * n) + (u % e * n + s) ≡ u * n + s = in_block n e u s in
        ap (λ (y : ℕ). get_or (gather_all n (e * n) wide span D row) y 0) (sym g)
        ∙ gather_at n (e * n) wide span D row (omega arith) (u / e) (u % e * n + s)
        (block_there n e u s columns wide he hs hu all-wide) (byte_in_block n e u s he hs)
        ∙ ap (λ (y : ℕ). gathered_byte n span D y (u % e * n + s)) g

    pub passes_products : Products (field_of f) n columns ds a row (gather_all n (e * n) wide span D row)
    unfolding product Z P entry
    passes_products =
        record {
          at = λ u s hu hs.
              let q : ℕ = u % e * n + s in
              ap (λ (y : ℕ). y % (field_of f).q) (byte u s hu hs)
              ∙ gathered-sum B n span D (u * n + s) q s (Z u) (P u) hs
              (own-term n span columns C D Z P T own pair nothing joins near far u s hu hs)
              (λ i hi. first-term n span columns C D Z P T own pair nothing joins near far u s i hu hs hi)
              (λ i hi. second-term n span columns C D Z P T own pair nothing joins near far u s i hu hs hi)
              (share_of n (u % e) s hs)
              ∙ share_law B n (draw_at (field_of f) (drop (u * pairs n) ds)) (Z u) (P u)
              (λ x h. ap (λ (y : ℕ). y % (field_of f).q) (sym (get_or-drop (u * pairs n) ds x 0)) ∙ sym (mod-mod _ (field_of f).q)) s hs
              ∙ ap (λ (y : ℕ). get_or (product_over (field_of f) (draw_at (field_of f) (drop (u * pairs n) ds)) (P u) y) s 0 % (field_of f).q) (sym shares);
        }

    -- the same of what each pass leaves, as a caller has it: replaced here, where few facts stand by, and not in each caller's goal
    pub passes_left : (c₁ m₁ m₂ c₂ out : List ℕ)
        → c₁ ≡ spread_all n columns span ds c → m₁ ≡ repeated n turns a m → m₂ ≡ doubled_rows (bits f) r m₁
        → c₂ ≡ all_products (bits f) n (j * n) r blocks span row m₂ c₁ → out ≡ gather_all n (e * n) wide span c₂ row
        → Products (field_of f) n columns ds a row out
    unfolding D C M stream
    passes_left c₁ m₁ m₂ c₂ out ec em ed ep eg = rw (eg, ep, ed, em, ec) passes_products
