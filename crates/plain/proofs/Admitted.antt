-- What a pass of the plain call's checks says, and what passes.
-- Assumes nothing.
use mathlib.Core.List.{List}
use mathlib.Core.Logic.{◌⊎◌}
use mathlib.Core.Path.{◌≡◌, sym, ◌∙◌}
use Prim.Native.Nat.{ℕ, ◌+◌, ◌*◌, ◌≤◌}
use native.Mathlib.Nat.{mul-one}
use lib.ListN.{length}
use Rattle.field.specs.Field.{field_of}
use Rattle.sharing.specs.Lists.{Below}
use Rattle.sharing.specs.Bounds.{most_rows}
use Rattle.table.specs.Layout.{table_bytes}
use Rattle.verdict.specs.declared.Rows.TheVariants.{Values}
use Rattle.verdict.specs.Told.{passed, ◌or◌}
use Rattle.verdict.specs.Refusals.{no1, no3, buffers}
use Rattle.verdict.proofs.Told.{left, right}
use Rattle.verdict.proofs.Passes.{one_says, one_passes, three-says, three_passes, Buffers, buffered, buffers_pass, ◌and◌}
use Rattle.plain.specs.Calls.{plain_order}

module _ (f m : ℕ) (values : List ℕ) (long : ℕ) where
  pub record Admitted : Type 0 where
    pub field : (f ≡ 16) ⊎ (f ≡ 256)
    pub some : 1 ≤ m
    pub most : m ≤ most_rows
    pub entries : length values ≡ m * (m + 1)
    pub room : long ≡ m
    pub elements : Below (field_of f).q values

  pub admitted : plain_order f m values long ≡ passed → Admitted
  unfolding plain_order
  admitted e =
      let b = buffers f (Values (m + 1)) (m * (m + 1)) values m long in
      let n = left (no1 f or no3 m) b e in
      let three = three-says m (right (no1 f) (no3 m) n) in
      let lent : Buffers f (m * (m + 1)) values m long = buffered f (m * (m + 1)) values m long (Values (m + 1)) (right (no1 f or no3 m) b e) in
      record {
        field = one_says f (left (no1 f) (no3 m) n);
        some = three.0;
        most = three.1;
        entries = lent.whole;
        room = lent.room;
        elements = lent.elements;
      }

  pub admits : Admitted → plain_order f m values long ≡ passed
  unfolding plain_order
  admits a =
      one_passes f a.field and three_passes m a.some a.most
      and buffers_pass f (m * (m + 1)) values m long (Values (m + 1)) a.entries a.room a.elements

-- a table of values is one of one byte an entry
pub one_byte : (m : ℕ) (t : List ℕ) → length t ≡ m * (m + 1) → length t ≡ table_bytes 1 m (m + 1)
unfolding table_bytes
one_byte m t e = e ∙ sym (mul-one (m * (m + 1)))
