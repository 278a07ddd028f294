-- What a pass of the checks of each call says, and what passes.
-- Assumes nothing.
use mathlib.Core.List.{List, []}
use mathlib.Core.Logic.{⊎_elim}
use mathlib.Core.Path.{◌≡◌, refl, ap}
use Prim.Native.Nat.{ℕ, ◌+◌, ◌*◌, ◌≤◌}
use native.Mathlib.Nat.{mul-le-mul}
use native.Mathlib.Omega.{arith}
use lib.ListN.{length}
use Rattle.field.specs.Field.{field_of}
use Rattle.sharing.specs.Lists.{Below}
use Rattle.sharing.specs.Bounds.{most_rows, most_width}
use Rattle.verdict.specs.Told.{Told, Line, passed, refused}
use Rattle.verdict.specs.Cells.{bytes_of}
use Rattle.verdict.specs.Calls.{Outcome, refuses, gives, after, call, Nothing}
use Rattle.verdict.proofs.Told.{left, right}
use Rattle.verdict.proofs.Passes.{Numbers, numbered, numbers_pass, long_enough, buffered, buffers_pass, ◌and◌}
use Rattle.exchange.specs.declared.System.{System}
use Rattle.exchange.specs.Record.{rows, table_length, record_length, end_at, stretch, system_in}
use Rattle.exchange.specs.Calls.{write_order, no18, read_order, read_call, handed, table_in}
use Rattle.exchange.proofs.Fields.{table_room}

pub entries_few : (m : ℕ) → m ≤ most_rows → m * (m + 1) ≤ 9312
entries_few m h = mul-le-mul {n₁ = m} {m₁ = m + 1} {n₂ = most_rows} {m₂ = most_width} h (omega (arith, h))

-- a table has 37,248 bytes at most, which two bytes tell
pub table_few : (n m : ℕ) → n ≤ 4 → m ≤ most_rows → table_length n m ≤ 37248
unfolding bytes_of
table_few n m a b =
    mul-le-mul {n₁ = m * (m + 1)} {m₁ = n} {n₂ = 9312} {m₂ = 4} (entries_few m b) a

-- a system as 01 admits it
module _ (f n m : ℕ) (t : List ℕ) where
  pub record Admitted : Type 0 where
    pub numbers : Numbers f n m
    pub whole : length t ≡ table_length n m
    pub elements : Below (field_of f).q t

  -- its numbers and its table's length fit the bytes of a record
  pub record Fits : Type 0 where
    pub field : f ≤ 65535
    pub shares : n ≤ 255
    pub size : m ≤ 255
    pub table : length t ≤ 65535

  pub fits : Admitted → Fits
  fits a =
      let z = a.numbers in
      record {
        field = ⊎_elim (λ (e : f ≡ 16). omega (arith, e)) (λ (e : f ≡ 256). omega (arith, e)) z.field;
        shares = omega (arith, z.four);
        size = omega (arith, z.most);
        table = omega (arith, a.whole, table_few n m z.four z.most);
      }

  module _ (target : ℕ) where
    pub write_says_lem : write_order f n m t target ≡ passed → Admitted × (target ≡ record_length n m)
    unfolding write_order
    write_says_lem e =
        let b = buffered f (table_length n m) t (record_length n m) target (rows n m) (right _ _ e) in
        (record { numbers = numbered f n m (left _ _ e); whole = b.whole; elements = b.elements }, b.room)

    pub write_passes : Admitted → target ≡ record_length n m → write_order f n m t target ≡ passed
    unfolding write_order
    write_passes a e =
        numbers_pass f n m a.numbers
        and buffers_pass f (table_length n m) t (record_length n m) target (rows n m) a.whole e a.elements

-- ---- reading

module _ (input : List ℕ) where
  pub nothing_after : length input ≤ 3 + end_at input → no18 input ≡ passed
  unfolding no18
  nothing_after h = long_enough 18 {long = 3 + end_at input} {wanted = length input} _ h

  -- the table of an input that is read is the stretch
  pub tables : read_order input ≡ passed → table_in input ≡ stretch input
  unfolding table_in
  tables e = rw e

-- what `read` answers, back to its order
given : (o : Told) (x y : System) → after (gives x) (tt {0}) ≡ call o tt (after (gives y) tt) → (o ≡ passed) × (x ≡ y)
unfolding call
given passed x y e = let w : gives x ≡ gives y = ap (λ (u : Outcome System Nothing). u.says) e in (refl, cc)
given (refused l) x y e = let w : gives x ≡ refuses l = ap (λ (u : Outcome System Nothing). u.says) e in absurd (cc)

kept : (o : Told) (l : Line) (y : System) (t : List ℕ) → after (refuses l) (tt {0}) ≡ call o tt (after (gives y) tt) → handed o t ≡ []
unfolding call
kept passed l y t e = let w : refuses l ≡ gives y = ap (λ (u : Outcome System Nothing). u.says) e in absurd (cc)
kept (refused k) l y t e = refl

module _ (input : List ℕ) where
  pub read_gives : (s : System) → after (gives s) tt ≡ read_call input → (read_order input ≡ passed) × (s ≡ system_in input)
  unfolding read_call
  read_gives s e = given (read_order input) s (system_in input) e

  pub read_refuses : (l : Line) → after (refuses l) tt ≡ read_call input → table_in input ≡ []
  unfolding read_call table_in
  read_refuses l e = kept (read_order input) l (system_in input) (stretch input) e

  -- the table's bytes stand in what is read
  pub read_room : (s : System) → after (gives s) tt ≡ read_call input → (16 + s.length ≤ length input) × (s.length ≤ 65535)
  unfolding read_order
  read_room s e = let g = read_gives s e in table_room input s g.1 (left _ _ g.0)
