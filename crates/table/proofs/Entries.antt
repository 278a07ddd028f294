-- What each step makes of the table, entry by entry: the shares that it puts, and that every entry that it does not name keeps its shares.
-- Assumes nothing.
use mathlib.Core.Path.{◌≡◌, refl, ◌∙◌, subst⁻¹}
use mathlib.Core.Bool.{Bool, true, false}
use Prim.Native.Nat.{ℕ, suc, ◌+◌, ◌-◌, ◌*◌, ◌<◌, ◌≤◌}
use mathlib.Core.List.{List}
use native.Mathlib.Omega.{arith}
use native.Mathlib.Decide.{dec_lt}
use lib.ListN.{length, drop}
use Rattle.field.specs.Field.{Ops, sub, field_of}
use Rattle.sharing.specs.Run.{pairs, run}
use Rattle.sharing.specs.Rules.{product, scaled}
use Rattle.sharing.specs.Lists.{joined}
use Rattle.sharing.proofs.Pairs.{run_holds}
use Rattle.table.specs.Layout.{table_bytes, entry, columns_from, row_from, Inside}
use Rattle.table.specs.Steps.{signed, join_turn, join_row, join_rows, mix, scale, clear, lift_turn, lift}
use Rattle.table.proofs.Cells.{in_row, row_from-length, entry_row, put-entry_same, put-entry_other, put_row_same, put_row_other}
use Rattle.table.proofs.Columns.{over_columns-at}
use Rattle.table.proofs.Lengths.{join_keeps, join_row-length, scale_all-length, above, lifted-length, lift_turn-length}

module _ (n rows w : ℕ) (t : List ℕ) (lt : length t ≡ table_bytes n rows w) where
  -- ---- row a += or -= Product(factor, row b), columns j and up

  module _ (F : Ops) (minus : Bool) {a j : ℕ} (P : Inside rows w a j) (b : ℕ) (factor ds : List ℕ) where
    new_length : length (join_row F minus n (columns_from w j) ds factor (row_from n w b j t) (row_from n w a j t)) ≡ columns_from w j * n
    new_length = join_row-length F n _ _ (row_from-length n rows w t lt P) minus ds factor (row_from n w b j t)

    pub join_rows-kept : {s d : ℕ} → Inside rows w s d → (s ≡ a → d < j)
        → entry n w s d (join_rows F minus n w a b j factor ds t) ≡ entry n w s d t
    unfolding join_rows
    join_rows-kept Q o = put_row_other n rows w t lt P _ new_length Q o

    -- column j + u
    pub join_rows-at : Inside rows w b j → (u : ℕ) → u < columns_from w j
        → entry n w a (j + u) (join_rows F minus n w a b j factor ds t)
        ≡ joined (signed F minus) (entry n w a (j + u) t) (product F (drop (u * pairs n) ds) factor (entry n w b (j + u) t))
    unfolding join_rows join_row join_turn
    join_rows-at Q u h =
        put_row_same n rows w t lt P _ new_length u h
        ∙ over_columns-at n _ (join_keeps F n minus ds factor (row_from n w b j t)) _ _ (row_from-length n rows w t lt P) u h
        ∙ rw (entry_row n rows w t lt P u h, entry_row n rows w t lt Q u h)

  -- ---- what the steps leave as it was

  pub mix-kept : (f : ℕ) {r j : ℕ} → Inside rows w r j → (k : ℕ) (ds : List ℕ) {s d : ℕ} → Inside rows w s d → (s ≡ r → d < j)
      → entry n w s d (mix f n w r j k ds t) ≡ entry n w s d t
  unfolding mix
  mix-kept f P k ds Q o = join_rows-kept (field_of f) false P k _ _ Q o

  pub clear_kept : (f : ℕ) {k j : ℕ} → Inside rows w k j → (r : ℕ) (ds : List ℕ) {s d : ℕ} → Inside rows w s d → (s ≡ k → d < j)
      → entry n w s d (clear f n w r j k ds t) ≡ entry n w s d t
  unfolding clear
  clear_kept f P r ds Q o = join_rows-kept (field_of f) true P r _ ds Q o

  pub scale_kept : (f : ℕ) {r j : ℕ} → Inside rows w r j → (nz ds : List ℕ) {s d : ℕ} → Inside rows w s d → (s ≡ r → d < j)
      → entry n w s d (scale f n w r j nz ds t) ≡ entry n w s d t
  unfolding scale
  scale_kept f P nz ds Q o =
      put_row_other n rows w t lt P _ (scale_all-length (field_of f) n _ _ (row_from-length n rows w t lt P) _ _) Q o

  -- ---- the lift: the rows above row r, in the last column

  module _ (F : Ops) {r j : ℕ} (P : Inside rows w r j) (x : ℕ) where
    made : ℕ → List ℕ
    made s = joined (sub F) (entry n w s w t) (scaled F x (entry n w s j t))

    -- after k rows: each turn reads and puts in its own row only
    record Lifted (k : ℕ) (t' : List ℕ) : Type 0 where
      size : length t' ≡ table_bytes n rows w
      kept : {s d : ℕ} → Inside rows w s d → (d ≡ w → k < s) → entry n w s d t' ≡ entry n w s d t
      done : {s : ℕ} → Inside rows w s w → s ≤ k → entry n w s w t' ≡ made s

    next : (k : ℕ) → k < r - 1 → (t' : List ℕ) → Lifted k t' → Lifted (suc k) (lift_turn F n w j x k t')
    unfolding lift_turn made
    next k h t' L =
        record {
          size = lift_turn-length n rows w t' L.size F P x k h;
          kept = λ {s} {d} Q o. put-entry_other n rows w t' L.size Q₀ e le Q (λ p q. let g : suc k < s = o q in omega arith)
              ∙ L.kept Q (λ q. let g : suc k < s = o q in omega arith);
          done = λ {s} Q g. elim (dec_lt k s) [
            | yes m ↦
                let same : s ≡ k + 1 = omega arith in
                subst⁻¹ (λ (i : ℕ). entry n w i w (lift_turn F n w j x k t') ≡ made i) same
                (put-entry_same n rows w t' L.size Q₀ e le
                ∙ rw (L.kept Q₀ (λ q. omega arith), L.kept (in_row Q₀ j P.column_low P.column_high) (λ q. omega arith)))
            | no m ↦ put-entry_other n rows w t' L.size Q₀ e le Q (λ p q. omega arith) ∙ L.done Q (omega arith)
          ];
        }
      where
        Q₀ : Inside rows w (k + 1) w
        Q₀ = above P k h

        e : List ℕ
        e = joined (sub F) (entry n w (k + 1) w t') (scaled F x (entry n w (k + 1) j t'))

        le : length e ≡ n
        le = lifted-length n rows w t' L.size F Q₀ x (entry n w (k + 1) j t')

    lifted : Lifted (r - 1) (run (lift_turn F n w j x) (r - 1) t)
    lifted =
        run_holds (λ (k : ℕ) (t' : List ℕ). Lifted k t') (lift_turn F n w j x) (r - 1) next t
        (record { size = lt; kept = λ Q o. refl; done = λ Q g. let z = Q.row_low in absurd (omega arith) })

  pub lift-kept : (f : ℕ) {r j : ℕ} → Inside rows w r j → (x : ℕ) {s d : ℕ} → Inside rows w s d → (d ≡ w → r ≤ s)
      → entry n w s d (lift f n w r j x t) ≡ entry n w s d t
  unfolding lift
  lift-kept f {r} P x {s} Q o =
      (lifted (field_of f) P x).kept Q (λ q. let g : r ≤ s = o q in omega arith)

  pub lift-at : (f : ℕ) {r j : ℕ} → Inside rows w r j → (x : ℕ) {s : ℕ} → Inside rows w s w → s < r
      → entry n w s w (lift f n w r j x t) ≡ joined (sub (field_of f)) (entry n w s w t) (scaled (field_of f) x (entry n w s j t))
  unfolding lift made
  lift-at f P x Q h = (lifted (field_of f) P x).done Q (omega arith)
