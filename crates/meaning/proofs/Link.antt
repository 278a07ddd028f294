-- What each step does to the values is what algebra says of it, whatever the shares and the draws are.
-- Assumes nothing.
use mathlib.Core.Path.{◌≡◌}
use Prim.Native.Nat.{ℕ, ◌-◌, ◌<◌}
use mathlib.Core.List.{List}
use native.Mathlib.Omega.{arith}
use lib.ListN.{length}
use Rattle.field.specs.Field.{field_of}
use Rattle.field.proofs.Fields.{field_of_lem}
use Rattle.sharing.specs.Rules.{draw_at}
use Rattle.flag.specs.Flag.{flag_of}
use Rattle.sharing.proofs.Sums.{sum_lt}
use Rattle.table.specs.Layout.{table_bytes, entry, Inside}
use Rattle.table.specs.Steps.{mix, check, scale, clear, unknown_at, lift}
use Rattle.table.specs.Values.{value}
use Rattle.table.proofs.Entries.{mix-kept, clear_kept, scale_kept, lift-kept}
use Rattle.table.proofs.Values.{kept-value, mix-value, check-value, clear-value, opens_value, lift-value, scale-value}
use Rattle.algebra.specs.Steps.{In, Mixes, Scales, Clears, Lifts}
use Rattle.course.specs.declared.Order.{Order}
use Rattle.meaning.specs.Meaning.{value_of}

-- a value is an element
pub value-lt : (o : Order) (t : List ℕ) (r c : ℕ) → value_of o t r c < (field_of o.field).q
unfolding value_of
value-lt o t r c = sum_lt (field_of o.field) (field_of_lem o.field).ring _

-- field f, n shares, and rows of w columns
module _ (f n rows w : ℕ) (some : 0 < n) (t : List ℕ) (lt : length t ≡ table_bytes n rows w) where
  abbrev val : List ℕ → ℕ → ℕ → ℕ
  val = value (field_of f) n w

  place : {r c : ℕ} → In rows w r c → Inside rows w r c
  place P = record { row_low = P.0; row_high = P.1; column_low = P.2; column_high = P.3 }

  kept : (t' : List ℕ) (s d : ℕ) → entry n w s d t' ≡ entry n w s d t → val t' s d ≡ val t s d
  kept t' s d e = kept-value (field_of f) n w t t' s d e

  -- row r takes column j's pivot
  module _ {r j : ℕ} (P : Inside rows w r j) where
    pub mix_link : {k : ℕ} → Inside rows w k j → (ds : List ℕ) → Mixes rows w (field_of f) r j k (val t) (val (mix f n w r j k ds t))
    mix_link {k} Q ds =
        record {
          new = mix-value f n rows w t lt some P Q ds;
          kept = λ s d R h. kept (mix f n w r j k ds t) s d (mix-kept n rows w t lt f P k ds (place R) h);
        }

    pub check_link : (ds : List ℕ) → check f n w r j ds t ≡ flag_of (val t r j)
    check_link ds = check-value f n rows w t lt some P ds

    pub scale_link : (nz ds : List ℕ) → ((k : ℕ) → k < n - 1 → draw_at (field_of f) nz k ≡ 0 → ⊥)
        → Scales rows w (field_of f) r j (val t) (val (scale f n w r j nz ds t))
    scale_link nz ds nonzero =
        record {
          new = scale-value f n rows w t lt P nz ds nonzero some;
          kept = λ s d R h. kept (scale f n w r j nz ds t) s d (scale_kept n rows w t lt f P nz ds (place R) h);
        }

    pub clear_link : {k : ℕ} → Inside rows w k j → (ds : List ℕ) → Clears rows w (field_of f) r j k (val t) (val (clear f n w r j k ds t))
    clear_link {k} Q ds =
        record {
          new = clear-value f n rows w t lt Q P ds;
          kept = λ s d R h. kept (clear f n w r j k ds t) s d (clear_kept n rows w t lt f Q r ds (place R) h);
        }

    -- what Open opens is the value of its row's last entry
    pub opens_link : (ds : List ℕ) → unknown_at f n w r ds t ≡ val t r w
    opens_link ds = opens_value f n rows w t lt r ds

    pub lift_link : (x : ℕ) → Lifts rows w (field_of f) r j x (val t) (val (lift f n w r j x t))
    lift_link x =
        record {
          new = λ s a b.
              lift-value f n rows w t lt P x (record { row_low = a; row_high = omega arith; column_low = omega arith; column_high = omega arith }) b;
          kept = λ s d R h. kept (lift f n w r j x t) s d (lift-kept n rows w t lt f P x (place R) h);
        }
