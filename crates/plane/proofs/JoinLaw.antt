-- What `join` does word by word is, column by column, Product: the lanes that hold columns take its shares, and the others stay.
-- Assumes nothing.
use mathlib.Core.Path.{◌≡◌, refl, sym, ap, ap₂, ◌∙◌}
use mathlib.Core.Bool.{Bool, true, false}
use Prim.Native.Nat.{ℕ, ◌+◌, ◌-◌, ◌*◌, ◌/◌, ◌%◌, ◌<◌, ◌≤◌}
use mathlib.Core.List.{List}
use native.Mathlib.Omega.{arith}
use native.Mathlib.Decide.{dec_lt}
use native.Mathlib.Nat.{mod-mod, mod-eq_of_lt, mul-le-mul_right}
use lib.Bits.{bit_xor, xor_zero_r}
use lib.ListN.{length, get_or, drop}
use lib.Seq.{get_or-drop}
use borrow.Author.Tests.{lt-ltb, le-ltb}
use Rattle.field.specs.Field.{pick, Ring, Binary, field_of, F16, F256}
use Rattle.field.proofs.Linear.{Additive, low}
use Rattle.field.proofs.Fields.{field_of_lem, add-xor, xor_same}
use Rattle.sharing.specs.Run.{tab, pairs}
use Rattle.sharing.specs.Rules.{draw_at, crossed, product}
use Rattle.sharing.proofs.Pairs.{tab-at}
use Rattle.row.specs.Code.Shares.{share_sum}
use Rattle.row.proofs.ShareLaw.{share_law}
use Rattle.word.specs.Lanes.{lane, multiple}
use Rattle.word.specs.Rows.{byte_of, words_of, Dealt, Prepared, Masked, Joined}
use Rattle.word.proofs.Lanes.{lane_xor}
use Rattle.plane.specs.Code.Products.{dot}
use Rattle.plane.specs.Code.Words.{JoinedWords}
use Rattle.plane.proofs.Sharewise.{share_of}
use Rattle.plane.proofs.Choosing.{lane_additive, lane_none, lane-product, Taken}

-- what is left modulo q, and 0, respect sums
lows : (b : Bool) → Additive (λ x. x % (pick b F16 F256).q)
unfolding F16 F256
lows true = low 4
lows false = low 8

mod_additive : {f : ℕ} → Binary f → Additive (λ x. x % (field_of f).q)
mod_additive B = rw B.is (lows B.sixteen)

share_none : (n s : ℕ) → s < n → share_sum n (λ k. 0) (λ i j. 0) s ≡ 0
share_none n s hs =
    sym (share_of {L = λ x. 0} (record { sum = λ a b. refl }) n (λ k. 0) (λ k. 0) (λ i j. 0) (λ i j. 0) s hs (λ k hk. refl) (λ i j hi hj. refl))

-- the last columns of a row are elements
abbrev Elements : ℕ → ℕ → ℕ → List ℕ → Type 0
Elements q n columns row = (e s : ℕ) → e < columns → s < n → byte_of n row e s < q

module _ {f : ℕ} (B : Binary f) (bits n columns : ℕ) (ds factor masks other_row other z row new : List ℕ)
    (J : JoinedWords bits n (words_of columns) masks other z row new)
    (D : Dealt (field_of f).q (pairs n) columns ds z)
    (O : Prepared bits n columns other_row other)
    (M : Masked bits n factor masks)
    (lf : length factor ≡ n)
    (er : Elements (field_of f).q n columns row)
    (eo : Elements (field_of f).q n columns other_row)
    (way : (i : ℕ) → i < n → Taken f bits (get_or factor i 0))
  where
    R : Ring (field_of f)
    R = (field_of_lem f).ring

    -- what stands e columns before the last, in a word
    module _ (e s : ℕ) (he : e < 8 * words_of columns) (hs : s < n) where
      abbrev u : ℕ
      u = e / 8

      abbrev l : ℕ
      l = 7 - e % 8

      abbrev Z : ℕ → ℕ
      Z k = get_or z (u * pairs n + k) 0

      abbrev P : ℕ → ℕ → ℕ
      P i j = dot bits masks (i * bits) other ((u * n + j) * bits)

      lane-sum : byte_of n new e s ≡ bit_xor (byte_of n row e s) (lane (share_sum n Z P s) l)
      unfolding byte_of
      lane-sum =
          ap (λ (w : ℕ). lane w l) (J.at u s (omega arith) hs) ∙ lane_xor (get_or row (u * n + s) 0) (share_sum n Z P s) l

      -- a lane past the columns
      module _ (dead : columns ≤ e) where
        dead_draw : (k : ℕ) → k < pairs n → lane (Z k) l ≡ 0
        unfolding byte_of
        dead_draw k hk = D.at e k he hk ∙ ap (λ (t : Bool). pick t (get_or ds ((columns - 1 - e) * pairs n + k) 0 % (field_of f).q) 0) (le-ltb e columns dead)

        dead_term : (i j : ℕ) → i < n → j < n → lane (P i j) l ≡ 0
        dead_term i j hi hj =
            lane_none masks other l (omega arith) bits (i * bits) ((u * n + j) * bits) (get_or factor i 0) (λ t ht. M.at i t hi ht)
            (λ t ht. O.at e j t he hj ht ∙ ap (λ (c : Bool). pick c (multiple bits t (byte_of n other_row e j)) 0) (le-ltb e columns dead))

        stays : byte_of n new e s ≡ byte_of n row e s
        stays =
            lane-sum
            ∙ ap (bit_xor (byte_of n row e s))
            (share_of (lane_additive l) n Z (λ k. 0) P (λ i j. 0) s hs dead_draw dead_term ∙ share_none n s hs)
            ∙ xor_zero_r (byte_of n row e s)

      -- a column's
      module _ (live : e < columns) where
        abbrev tape : List ℕ
        tape = drop ((columns - 1 - e) * pairs n) ds

        abbrev Z' : ℕ → ℕ
        Z' = draw_at (field_of f) tape

        abbrev P' : ℕ → ℕ → ℕ
        P' = crossed (field_of f).mul factor (tab n (byte_of n other_row e))

        live_draw : (k : ℕ) → k < pairs n → lane (Z k) l ≡ Z' k
        unfolding byte_of
        live_draw k hk =
            D.at e k he hk ∙ ap (λ (t : Bool). pick t (get_or ds ((columns - 1 - e) * pairs n + k) 0 % (field_of f).q) 0) (lt-ltb e columns live)
            ∙ ap (λ (x : ℕ). x % (field_of f).q) (sym (get_or-drop ((columns - 1 - e) * pairs n) ds k 0))

        live_term : (i j : ℕ) → i < n → j < n → lane (P i j) l ≡ P' i j
        live_term i j hi hj =
            lane-product B (get_or factor i 0) (byte_of n other_row e j) (eo e j live hj) masks other l (omega arith) bits (way i hi)
            (i * bits) ((u * n + j) * bits) (λ t ht. M.at i t hi ht)
            (λ t ht. O.at e j t he hj ht ∙ ap (λ (c : Bool). pick c (multiple bits t (byte_of n other_row e j)) 0) (lt-ltb e columns live))
            ∙ ap ((field_of f).mul (get_or factor i 0)) (sym (tab-at n (byte_of n other_row e) j hj))

        abbrev S : ℕ
        S = share_sum n Z' P' s

        -- the sum is an element
        small : S % (field_of f).q ≡ S
        small =
            share_of (mod_additive B) n Z' Z' P' P' s hs (λ k hk. mod-mod (get_or tape k 0) (field_of f).q) (λ i j hi hj. mod-eq_of_lt (R.mul-lt _ _))

        abbrev share : ℕ
        share = get_or (product (field_of f) tape factor (tab n (byte_of n other_row e))) s 0

        law : S % (field_of f).q ≡ share % (field_of f).q
        unfolding product
        law = rw lf (share_law B n Z' Z' P' (λ k hk. refl) s hs)

        joins : byte_of n new e s ≡ (field_of f).add (byte_of n row e s) share
        joins =
            let r : ℕ = byte_of n row e s in
            lane-sum ∙ ap (bit_xor r) (share_of (lane_additive l) n Z Z' P P' s hs live_draw live_term)
            ∙ ap₂ bit_xor (sym (mod-eq_of_lt (er e s live hs))) (sym small) ∙ sym ((mod_additive B).sum r S)
            ∙ xor_same B r S r share refl law ∙ sym (add-xor B r share)

    -- a word past those that were joined
    past : (e s : ℕ) → 8 * words_of columns ≤ e → byte_of n new e s ≡ byte_of n row e s
    unfolding byte_of
    past e s h =
        ap (λ (w : ℕ). lane w (7 - e % 8))
        (J.beyond (e / 8 * n + s) (let g : words_of columns * n ≤ e / 8 * n = mul-le-mul_right n (omega arith) in omega arith))

    join_lanes : Joined (field_of f) n columns ds factor other_row row new
    join_lanes =
        record {
          at = λ e s h hs. joins e s (omega arith) hs h;
          beyond = λ e s h hs. elim (dec_lt e (8 * words_of columns)) [
            | yes l ↦ stays e s l hs h
            | no l ↦ past e s (omega arith)
          ];
        }

-- by what the callees of a join have left
pub join_law : {f : ℕ} → Binary f → (bits n columns : ℕ) (ds factor masks other_row other z row new : List ℕ)
    → JoinedWords bits n (words_of columns) masks other z row new
    → Dealt (field_of f).q (pairs n) columns ds z → Prepared bits n columns other_row other → Masked bits n factor masks
    → length factor ≡ n
    → ((e s : ℕ) → e < columns → s < n → byte_of n row e s < (field_of f).q)
    → ((e s : ℕ) → e < columns → s < n → byte_of n other_row e s < (field_of f).q)
    → ((i : ℕ) → i < n → Taken f bits (get_or factor i 0))
    → Joined (field_of f) n columns ds factor other_row row new
join_law B bits n columns ds factor masks other_row other z row new J D O M lf er eo way =
    join_lanes B bits n columns ds factor masks other_row other z row new J D O M lf er eo way
