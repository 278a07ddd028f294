-- Each call's promise is about the bytes that the one before left, and they are a table of one row.
use mathlib.Core.Path.{◌≡◌, ◌∙◌}
use Prim.Native.Nat.{ℕ, ◌+◌, ◌-◌, ◌*◌}
use native.Mathlib.Omega.{arith}
use Rattle.table.specs.Layout.{table_bytes}
use Rattle.word_table.proofs.Scaling.{scaled-bytes}
use Rattle.word_table.proofs.scale_words.Goals as goal

one_row : (n rows w : ℕ) → rows ≡ 1 → w * n ≡ table_bytes n rows w
unfolding table_bytes
one_row n rows w e = rw e (omega arith)

pub scale-requires : goal.scale-requires
scale-requires c =
    let q = c.requires in
    let s = c.args.shape in
    let l : s.columns + 1 - 1 ≡ s.columns = omega arith in
    record {
      shaped = record { bounded = q.bounded; bytes = c.take_row.auto.bytes ∙ q.alone.2 ∙ one_row s.shares s.rows s.columns q.alone.0 };
      inside = record { row_low = omega arith; row_high = omega (arith, q.alone.0); column_low = omega arith; column_high = q.alone.1 };
      draws = (rw l q.draws.0, q.draws.1);
    }

pub returns : goal.returns
returns c =
    let x = c.args in
    let s = x.shape in
    let e = c.scale.ensures ∙ scaled-bytes s.field s.shares s.columns x.nonzero.now x.mask.now c.take_row.new.bytes (c.take_row.auto.bytes ∙ c.requires.alone.2) in
    rw (e, c.take_row.ensures) at c.give_row.ensures
