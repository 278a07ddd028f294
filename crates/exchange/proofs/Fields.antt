-- A field of a record that is read: what a pass of its checks says, and what passes; and a whole record at the front.
-- Assumes nothing.
use mathlib.Core.List.{List}
use mathlib.Core.Path.{◌≡◌, ap}
use Prim.Native.Nat.{ℕ, ◌+◌, ◌-◌, ◌≤◌}
use native.Mathlib.Omega.{arith}
use lib.ListN.{length, get_or, take, drop, length-drop}
use lib.Seq.{length-take-le}
use Rattle.verdict.specs.Told.{passed, ◌or◌}
use Rattle.verdict.specs.Refusals.{numbers, no4, no6}
use Rattle.verdict.proofs.Told.{left, right, not_then}
use Rattle.verdict.proofs.Passes.{unmet, inside, within, same, right-length, enough, long_enough, ◌and◌}
use Rattle.exchange.specs.declared.System.{System}
use Rattle.exchange.specs.Record.{rows, table_length, length_at, end_at, ends, no16, unsuited, field_at, stretch, framed, system_in, holding}

module _ (input : List ℕ) (at tag least most : ℕ) where
  pub record Stands : Type 0 where
    pub tag_is : get_or input at 0 ≡ tag
    pub long : least ≤ length_at input at
    pub short : length_at input at ≤ most
    pub whole : at + (3 + length_at input at) ≤ length input

  pub field_says : field_at input at tag least most ≡ passed → Stands
  unfolding field_at ends no16 unsuited
  field_says e =
      let b = right _ _ e in
      let d = right _ _ (right _ _ b) in
      let suits = inside least most (length_at input at) (not_then _ _ (left _ _ d)) in
      record {
        tag_is = same 16 _ (left _ _ b);
        long = suits.0;
        short = suits.1;
        whole = enough 17 _ (right _ _ d);
      }

  pub field_passes : Stands → field_at input at tag least most ≡ passed
  unfolding field_at ends no16 unsuited
  field_passes s =
      long_enough 17 {long = length input} {wanted = at + 1} _ (omega (arith, s.whole))
      and (right-length 16 {long = get_or input at 0} {wanted = tag} _ s.tag_is
      and (long_enough 17 {long = length input} {wanted = at + 3} _ (omega (arith, s.whole))
      and (unmet 17 _ (within least most (length_at input at) s.long s.short)
      and long_enough 17 {long = length input} {wanted = at + (3 + length_at input at)} _ s.whole)))

module _ (input : List ℕ) where
  -- the five fields
  pub record Framed : Type 0 where
    pub field : Stands input 0 1 2 2
    pub shares : Stands input 5 2 1 1
    pub size : Stands input 9 3 1 1
    pub table : Stands input 13 4 0 65535
    pub end : Stands input (end_at input) 255 0 0

  pub framed-says : framed input ≡ passed → Framed
  unfolding framed
  framed-says e =
      let b = right _ _ e in
      let c = right _ _ b in
      let d = right _ _ c in
      record {
        field = field_says input 0 1 2 2 (left _ _ e);
        shares = field_says input 5 2 1 1 (left _ _ b);
        size = field_says input 9 3 1 1 (left _ _ c);
        table = field_says input 13 4 0 65535 (left _ _ d);
        end = field_says input (end_at input) 255 0 0 (right _ _ d);
      }

  pub framed_passes : Framed → framed input ≡ passed
  unfolding framed
  framed_passes f =
      field_passes input 0 1 2 2 f.field
      and (field_passes input 5 2 1 1 f.shares
      and (field_passes input 9 3 1 1 f.size
      and (field_passes input 13 4 0 65535 f.table
      and field_passes input (end_at input) 255 0 0 f.end)))

  -- where it passes the table stands whole, and three bytes follow it
  pub room : framed input ≡ passed → 3 + end_at input ≤ length input
  room e = let f = framed-says e in omega (arith, f.end.whole)

  pub stretch_long : framed input ≡ passed → length (stretch input) ≡ length_at input 13
  unfolding stretch
  stretch_long e = length-take-le (length_at input 13) (drop 16 input) (omega (arith, length-drop 16 input, room e))

  pub stretch-at : (k : ℕ) → k ≡ length_at input 13 → take (16 + k - 16) (drop 16 input) ≡ stretch input
  unfolding stretch
  stretch-at k e = let l : 16 + k - 16 ≡ length_at input 13 = omega (arith, e) in rw l

  -- the table's bytes, by what the fields hold
  module _ (s : System) (e : s ≡ system_in input) where
    long_is : s.length ≡ length_at input 13
    unfolding system_in
    long_is = ap (λ (u : System). u.length) e

    pub holding_by : holding input
        ≡ (numbers s.field s.shares s.size
        or (no4 (table_length s.shares s.size) s.length or no6 s.field (rows s.shares s.size) (stretch input)))
    unfolding holding
    holding_by = rw e

    pub stretch_by : take (16 + s.length - 16) (drop 16 input) ≡ stretch input
    stretch_by = stretch-at s.length long_is

    pub table_room : framed input ≡ passed → (16 + s.length ≤ length input) × (s.length ≤ 65535)
    table_room f =
        let short : length_at input 13 ≤ 65535 = (framed-says f).table.short in
        (omega (arith, long_is, room f), omega (arith, long_is, short))
