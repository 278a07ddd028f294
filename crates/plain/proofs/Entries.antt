-- What each row operation does to the values, entry by entry, in algebra's words; and that a table of elements stays one.
-- Assumes nothing.
use mathlib.Core.List.{List, [], ◌∷◌}
use mathlib.Core.Path.{◌≡◌, refl, sym, ap, ap₂, ◌∙◌}
use Prim.Native.Nat.{ℕ, zero, suc, ◌+◌, ◌-◌, ◌*◌, ◌<◌, ◌≤◌}
use native.Mathlib.Decide.{ℕ_discrete}
use native.Mathlib.Nat.{mul-one}
use native.Mathlib.Omega.{arith}
use lib.ListN.{length, get_or}
use Rattle.field.specs.Field.{Ops, Ring, sub, inv, field_of}
use Rattle.field.proofs.Fields.{field_of_lem}
use Rattle.sharing.specs.Rules.{scaled}
use Rattle.sharing.specs.Lists.{joined, Below}
use Rattle.sharing.proofs.Pairs.{tab-at}
use Rattle.sharing.proofs.Lengths.{joined_length, scaled-length}
use Rattle.sharing.proofs.Elements.{scaled_below, joined_below}
use Rattle.table.specs.Layout.{cell, table_bytes, entry, columns_from, row_from, put_row, Inside}
use Rattle.table.specs.Steps.{lift}
use Rattle.table.proofs.Parts.{part_at}
use Rattle.table.proofs.Cells.{entry_length, row_from-length, in_row, put_row-length, put_row_same, put_row_other}
use Rattle.table.proofs.Entries.{lift-kept, lift-at}
use Rattle.table.proofs.Lengths.{lift-length}
use Rattle.table.proofs.Elements.{part_below, put_below, lift_below}
use Rattle.algebra.specs.Steps.{In, RowIs, Exchanges, Scales, Clears, Lifts}
use Rattle.plain.specs.Elimination.{at, exchange, scale, clear}

-- ---- a byte of a list

scaled_at : (F : Ops) (z : ℕ) (s : List ℕ) (i : ℕ) → i < length s → get_or (scaled F z s) i 0 ≡ F.mul z (get_or s i 0)
unfolding scaled
scaled_at F z [] i h = absurd (omega arith)
scaled_at F z (x ∷ s) zero h = refl
scaled_at F z (x ∷ s) (suc i) h = unfold scaled in scaled_at F z s i (omega arith)

joined_at : (op : ℕ → ℕ → ℕ) (s v : List ℕ) (i : ℕ) → i < length s → get_or (joined op s v) i 0 ≡ op (get_or s i 0) (get_or v i 0)
unfolding joined
joined_at op s v i h = tab-at (length s) _ i h

-- ---- a value as the one byte of its entry

at_entry : (w r c : ℕ) (t : List ℕ) → at w t r c ≡ get_or (entry 1 w r c t) 0 0
unfolding at cell
at_entry w r c t =
    let e : ((r - 1) * w + (c - 1)) * 1 + 0 ≡ (r - 1) * w + (c - 1) = omega (arith, mul-one ((r - 1) * w + (c - 1))) in
    sym (part_at 1 (((r - 1) * w + (c - 1)) * 1) t 0 (omega arith) ∙ ap (λ (i : ℕ). get_or t i 0) e)

at_same : (w r c s d : ℕ) (t u : List ℕ) → entry 1 w r c t ≡ entry 1 w s d u → at w t r c ≡ at w u s d
at_same w r c s d t u e = at_entry w r c t ∙ ap (λ (x : List ℕ). get_or x 0 0) e ∙ sym (at_entry w s d u)

-- column c of a row that begins at column j
pub row_at : (w r j c : ℕ) (t : List ℕ) → 1 ≤ j → j ≤ c → c ≤ w → get_or (row_from 1 w r j t) (c - j) 0 ≡ at w t r c
unfolding at cell
row_at w r j c t a b d =
    let e : ((r - 1) * w + (j - 1)) * 1 + (c - j) ≡ (r - 1) * w + (c - 1) = omega (arith, mul-one ((r - 1) * w + (j - 1))) in
    part_at (columns_from w j * 1) (((r - 1) * w + (j - 1)) * 1) t (c - j) (omega (arith, mul-one (columns_from w j)))
    ∙ ap (λ (i : ℕ). get_or t i 0) e

-- ---- a table of m rows and w columns of elements

pub record Elements (f m w : ℕ) (t : List ℕ) : Type 0 where
  pub size : length t ≡ table_bytes 1 m w
  pub below : Below (field_of f).q t

module _ (f m w : ℕ) (t : List ℕ) (E : Elements f m w t) where
  abbrev F : Ops
  F = field_of f

  R : Ring (field_of f)
  R = (field_of_lem f).ring

  place : {r c : ℕ} → In m w r c → Inside m w r c
  place P = record { row_low = P.0; row_high = P.1; column_low = P.2; column_high = P.3 }

  row_long : {r j : ℕ} → In m w r j → length (row_from 1 w r j t) ≡ columns_from w j
  row_long {j = j} P = row_from-length 1 m w t E.size (place P) ∙ mul-one (columns_from w j)

  -- a row is put
  module _ {r j : ℕ} (P : In m w r j) (s : List ℕ) (ls : length s ≡ columns_from w j) where
    long : length s ≡ columns_from w j * 1
    long = ls ∙ sym (mul-one (columns_from w j))

    put_is : RowIs m w r j (λ c. get_or s (c - j) 0) (at w t) (at w (put_row 1 w r j s t))
    put_is =
        record {
          new = λ c a b.
              let e : c ≡ j + (c - j) = omega arith in
              let g : (c - j) * 1 + 0 ≡ c - j = omega (arith, mul-one (c - j)) in
              at_entry w r c (put_row 1 w r j s t)
              ∙ ap (λ (i : ℕ). get_or (entry 1 w r i (put_row 1 w r j s t)) 0 0) e
              ∙ ap (λ (x : List ℕ). get_or x 0 0) (put_row_same 1 m w t E.size (place P) s long (c - j) (omega arith))
              ∙ part_at 1 ((c - j) * 1) s 0 (omega arith)
              ∙ ap (λ (i : ℕ). get_or s i 0) g;
          kept = λ q c Q h. at_same w q c q c _ t (put_row_other 1 m w t E.size (place P) s long (place Q) h);
        }

    put_elements : Below F.q s → Elements f m w (put_row 1 w r j s t)
    put_elements b =
        record { size = put_row-length 1 m w t E.size (place P) s long; below = put_below R.pos _ _ s t b E.below }

  row_below : (r j : ℕ) → Below F.q (row_from 1 w r j t)
  row_below r j = part_below R.pos _ _ t E.below

  -- ---- scale and clear

  module _ {j : ℕ} (P : In m w j j) where
    new_row : List ℕ
    new_row = scaled F (inv F (at w t j j)) (row_from 1 w j j t)

    new_long : length new_row ≡ columns_from w j
    unfolding new_row
    new_long = scaled-length F _ _ ∙ row_long P

    pub scale-is : Scales m w F j j (at w t) (at w (scale f w j t))
    unfolding scale new_row
    scale-is =
        let p = put_is P new_row new_long in
        record {
          new = λ c a b.
              p.new c a b ∙ scaled_at F _ (row_from 1 w j j t) (c - j) (omega (arith, row_long P))
              ∙ ap (F.mul (inv F (at w t j j))) (row_at w j j c t P.2 a b);
          kept = p.kept;
        }

    pub scale_elements : Elements f m w (scale f w j t)
    unfolding scale new_row
    scale_elements = put_elements P new_row new_long (scaled_below F R _ _)

    module _ {k : ℕ} (Q : In m w k j) where
      lost : List ℕ
      lost = scaled F (at w t k j) (row_from 1 w j j t)

      rest : List ℕ
      rest = joined (sub F) (row_from 1 w k j t) lost

      rest_long : length rest ≡ columns_from w j
      unfolding rest
      rest_long = joined_length (sub F) _ _ ∙ row_long Q

      pub clear-is : Clears m w F j j k (at w t) (at w (clear f w j k t))
      unfolding clear rest lost
      clear-is =
          let p = put_is Q rest rest_long in
          record {
            new = λ c a b.
                p.new c a b ∙ joined_at (sub F) (row_from 1 w k j t) lost (c - j) (omega (arith, row_long Q))
                ∙ ap₂ (sub F) (row_at w k j c t P.2 a b)
                (scaled_at F _ (row_from 1 w j j t) (c - j) (omega (arith, row_long P)) ∙ ap (F.mul (at w t k j)) (row_at w j j c t P.2 a b));
            kept = p.kept;
          }

      pub clear_elements : Elements f m w (clear f w j k t)
      unfolding clear rest lost
      clear_elements = put_elements Q rest rest_long (joined_below F R (sub F) (λ a b. R.add_lt a (F.neg b)) _ _)

  -- ---- lift

  module _ {j : ℕ} (P : In m w j j) (x : ℕ) where
    pub lift_is : Lifts m w F j j x (at w t) (at w (lift f 1 w j j x t))
    lift_is =
        record {
          new = λ r a b.
              let Q : Inside m w r w = record { row_low = a; row_high = omega arith; column_low = omega arith; column_high = omega arith } in
              let S : Inside m w r j = in_row Q j P.2 P.3 in
              at_entry w r w _ ∙ ap (λ (y : List ℕ). get_or y 0 0) (lift-at 1 m w t E.size f (place P) x Q b)
              ∙ joined_at (sub F) (entry 1 w r w t) _ 0 (omega (arith, entry_length 1 m w t E.size Q))
              ∙ ap₂ (sub F) (sym (at_entry w r w t))
              (scaled_at F x (entry 1 w r j t) 0 (omega (arith, entry_length 1 m w t E.size S)) ∙ ap (F.mul x) (sym (at_entry w r j t)));
          kept = λ r c Q h. at_same w r c r c _ t (lift-kept 1 m w t E.size f (place P) x (place Q) h);
        }

    pub lift_elements : Elements f m w (lift f 1 w j j x t)
    lift_elements = record { size = lift-length 1 m w t E.size f (place P) x; below = lift_below f 1 w j j x t E.below }

-- ---- exchange: the second row is put after the first

module _ (f m w : ℕ) (t : List ℕ) (E : Elements f m w t) {a b j : ℕ} (P : In m w a j) (Q : In m w b j) where
  first : List ℕ
  first = put_row 1 w a j (row_from 1 w b j t) t

  first_elements : Elements f m w first
  unfolding first
  first_elements = put_elements f m w t E P _ (row_long f m w t E Q) (row_below f m w t E b j)

  pub exchange_is : Exchanges m w a b j (at w t) (at w (exchange w a b j t))
  unfolding exchange first
  exchange_is =
      let p = put_is f m w t E P (row_from 1 w b j t) (row_long f m w t E Q) in
      let q = put_is f m w first first_elements Q (row_from 1 w a j t) (row_long f m w t E P) in
      record {
        up = λ c h l. elim (ℕ_discrete a b) [
          | yes e ↦
              ap (λ (i : ℕ). at w (exchange w a b j t) i c) e ∙ q.new c h l ∙ row_at w a j c t P.2 h l ∙ ap (λ (i : ℕ). at w t i c) e
          | no n ↦ q.kept a c (omega arith) (λ e. absurd (n e)) ∙ p.new c h l ∙ row_at w b j c t P.2 h l
        ];
        down = λ c h l. q.new c h l ∙ row_at w a j c t P.2 h l;
        kept = λ r c S ea eb. q.kept r c S eb ∙ p.kept r c S ea;
      }

  pub exchange_elements : Elements f m w (exchange w a b j t)
  unfolding exchange first
  exchange_elements = put_elements f m w first first_elements Q _ (row_long f m w t E P) (row_below f m w t E a j)
