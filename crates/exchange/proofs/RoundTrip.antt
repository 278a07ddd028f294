-- R-3's two sentences. "Writing then reading gives the system back": `write_read`. "Reading then writing gives the same bytes": `read-write`. So
-- `read` takes the records of admitted systems, and nothing else.
-- Assumes nothing.
use mathlib.Core.List.{List, [], ◌∷◌, ◌++◌, append-nil}
use mathlib.Core.Path.{◌≡◌, refl, sym, ap, ◌∙◌}
use Prim.Native.Nat.{ℕ, suc, ◌+◌, ◌/◌, ◌%◌, ◌<◌, ◌≤◌}
use native.Mathlib.Nat.{le_antisymm}
use native.Mathlib.Omega.{arith}
use lib.ListN.{length, get_or, take, drop, length-drop, take-append-drop, drop_of_length-le}
use lib.Seq.{length-take-le, drop-cons, drop-drop, take_at, drop_at, get_or-append-add}
use Rattle.sharing.specs.Lists.{Below}
use Rattle.verdict.specs.Told.{passed}
use Rattle.verdict.specs.Refusals.{no4}
use Rattle.verdict.specs.Calls.{after, gives}
use Rattle.verdict.proofs.Told.{left, right}
use Rattle.verdict.proofs.Calls.{call_goes}
use Rattle.verdict.proofs.Passes.{numbered, numbers_pass, same, right-length, enough, six_says, six_passes, ◌and◌}
use Rattle.exchange.specs.declared.System.{System}
use Rattle.exchange.specs.Record.{pair, tagged, record_of, rows, table_length, number_at, length_at, end_at, stretch, framed, system, system_in, holding}
use Rattle.exchange.specs.Calls.{write_order, write_call, no18, read_order, read_call, table_in}
use Rattle.exchange.specs.Code.Header.{header_of}
use Rattle.exchange.proofs.Fields.{Stands, framed-says, framed_passes, stretch_long, holding_by}
use Rattle.exchange.proofs.Admitted.{Admitted, fits, write_says_lem, write_passes, nothing_after, tables}
use Rattle.exchange.proofs.Parts.{parts, header_length, record_length_lem}

-- ---- reading then writing

module _ (input : List ℕ) (bytes : Below 256 input) where
  next : (at : ℕ) → at < length input → drop at input ≡ get_or input at 0 ∷ drop (at + 1) input
  next at l = let e : suc at ≡ at + 1 = omega arith in drop-cons input at 0 l ∙ rw e

  -- two bytes are the number that is read of them
  module _ (at k : ℕ) (e : number_at input at ≡ k) where
    high : k / 256 ≡ get_or input at 0
    unfolding number_at
    high = omega (arith, e, bytes.at (at + 1))

    low : k % 256 ≡ get_or input (at + 1) 0
    unfolding number_at
    low = omega (arith, e, bytes.at (at + 1))

  one_byte : (at : ℕ) → at < length input → take 1 (drop at input) ≡ get_or input at 0 ∷ []
  one_byte at l = rw (next at l)

  two_bytes : (at : ℕ) → at + 1 < length input → take 2 (drop at input) ≡ pair (number_at input at)
  two_bytes at l =
      rw (next at (omega arith), next (at + 1) l, high at (number_at input at) refl, low at (number_at input at) refl)

  -- a field that is read is the field that is written of its body
  module _ (at tag least most : ℕ) (s : Stands input at tag least most) (k : ℕ) (e : length_at input at ≡ k) where
    abbrev body : List ℕ
    body = take k (drop (at + 3) input)

    body_long : length body ≡ k
    body_long = length-take-le k (drop (at + 3) input) (omega (arith, length-drop (at + 3) input, s.whole, e))

    follows : body ++ drop (at + (3 + k)) input ≡ drop (at + 3) input
    follows =
        let i : at + 3 + k ≡ at + (3 + k) = omega arith in
        ap (λ (l : List ℕ). body ++ l) (sym (drop-drop k (at + 3) input ∙ ap (λ (j : ℕ). drop j input) i))
        ∙ take-append-drop k (drop (at + 3) input)

    pub field_is : drop at input ≡ tagged tag body ++ drop (at + (3 + k)) input
    unfolding tagged
    field_is =
        let i : at + 1 + 1 + 1 ≡ at + 3 = omega arith in
        rw (body_long, high (at + 1) k e, low (at + 1) k e, follows)
        (next at (omega (arith, s.whole))
        ∙ rw (s.tag_is, next (at + 1) (omega (arith, s.whole)), next (at + 1 + 1) (omega (arith, s.whole)), i))

  exactly : (at tag k : ℕ) → Stands input at tag k k → length_at input at ≡ k
  exactly at tag k s = le_antisymm s.short s.long

  -- an input that is read is the record of what was read
  pub record_is : read_order input ≡ passed
      → input ≡ record_of (system_in input).field (system_in input).shares (system_in input).size (stretch input)
  unfolding read_order no18 system_in stretch record_of
  record_is e =
      let f = framed-says input (left _ _ e) in
      let nothing : length input ≤ 3 + end_at input = enough 18 _ (left _ _ (right _ _ e)) in
      let all : 3 + end_at input ≤ length input = omega (arith, f.end.whole) in
      let end : drop (end_at input) input ≡ tagged 255 [] =
      field_is (end_at input) 255 0 0 f.end 0 (exactly (end_at input) 255 0 f.end)
      ∙ ap (λ (l : List ℕ). tagged 255 [] ++ l) (drop_of_length-le input {i = end_at input + 3} (omega (arith, nothing)))
      ∙ append-nil (tagged 255 []) in
      let k : 13 + (3 + length_at input 13) ≡ end_at input = omega arith in
      let table : drop 13 input ≡ tagged 4 (take (length_at input 13) (drop 16 input)) ++ tagged 255 [] =
      field_is 13 4 0 65535 f.table (length_at input 13) refl ∙ rw (k, end) in
      let size : drop 9 input ≡ tagged 3 (get_or input 12 0 ∷ []) ++ drop 13 input =
      field_is 9 3 1 1 f.size 1 (exactly 9 3 1 f.size) ∙ rw (one_byte 12 (omega (arith, all))) in
      let shares : drop 5 input ≡ tagged 2 (get_or input 8 0 ∷ []) ++ drop 9 input =
      field_is 5 2 1 1 f.shares 1 (exactly 5 2 1 f.shares) ∙ rw (one_byte 8 (omega (arith, all))) in
      let field : drop 0 input ≡ tagged 1 (pair (number_at input 3)) ++ drop 5 input =
      field_is 0 1 2 2 f.field 2 (exactly 0 1 2 f.field) ∙ rw (two_bytes 3 (omega (arith, all))) in
      field ∙ rw (shares, size, table)

  pub read_admits : read_order input ≡ passed
      → Admitted (system_in input).field (system_in input).shares (system_in input).size (stretch input)
  unfolding read_order system_in holding no4
  read_admits e =
      let h = right _ _ (right _ _ e) in
      let z = right _ _ h in
      record {
        numbers = numbered _ _ _ (left _ _ h);
        whole = stretch_long input (left _ _ e) ∙ same 4 _ (left _ _ z);
        elements = six_says _ _ _ (right _ _ z);
      }

  -- "Reading then writing gives the same bytes"
  pub read-write : read_order input ≡ passed → (target : List ℕ) → length target ≡ length input
      → let s = system_in input in write_call s.field s.shares s.size (table_in input) target ≡ after (gives tt) input
  unfolding write_call
  read-write e target l =
      let s = system_in input in
      let a = read_admits e in
      let is = record_is e in
      let room = l ∙ ap length is ∙ record_length_lem s.field s.shares s.size (stretch input) in
      rw (tables input e, call_goes _ _ _ (write_passes s.field s.shares s.size (stretch input) (length target) a (omega (arith, room, a.whole))))
      (ap (λ (y : List ℕ). after (gives tt) y) (sym is))

-- ---- writing then reading

module _ (f n m : ℕ) (t : List ℕ) (a : Admitted f n m t) where
  abbrev written : List ℕ
  written = record_of f n m t

  -- the bytes after the table
  after_table : (i : ℕ) → get_or written (16 + (length t + i)) 0 ≡ get_or (255 ∷ 0 ∷ 0 ∷ []) i 0
  after_table i =
      rw (parts f n m t, ← (header_length f n m (length t)))
      (get_or-append-add (header_of f n m (length t)) (t ++ (255 ∷ 0 ∷ 0 ∷ [])) (length t + i) 0
      ∙ get_or-append-add t (255 ∷ 0 ∷ 0 ∷ []) i 0)

  told_long : length_at written 13 ≡ length t
  unfolding number_at tagged record_of
  told_long = omega arith

  field_told : number_at written 3 ≡ f
  unfolding number_at tagged record_of
  field_told = omega arith

  holds : system_in written ≡ system f n m (length t)
  unfolding system_in tagged record_of
  holds = rw (field_told, told_long) refl

  stretch_is : stretch written ≡ t
  unfolding stretch
  stretch_is =
      rw (told_long, parts f n m t, drop_at (header_of f n m (length t)) (t ++ (255 ∷ 0 ∷ 0 ∷ [])) 16 (header_length f n m (length t)))
      (take_at t (255 ∷ 0 ∷ 0 ∷ []) (length t) refl)

  -- the five fields stand
  at-end : (i at : ℕ) → at ≡ 16 + (length t + i) → get_or written at 0 ≡ get_or (255 ∷ 0 ∷ 0 ∷ []) i 0
  at-end i at e = rw e (after_table i)

  end-told : length_at written (end_at written) ≡ 0
  unfolding number_at
  end-told =
      rw (at-end 1 (end_at written + 1) (omega (arith, told_long)), at-end 2 (end_at written + 1 + 1) (omega (arith, told_long))) refl

  field_stands : Stands written 0 1 2 2
  unfolding number_at tagged record_of
  field_stands = record { tag_is = refl; long = omega arith; short = omega arith; whole = omega (arith, record_length_lem f n m t) }

  shares_stand : Stands written 5 2 1 1
  unfolding number_at tagged record_of
  shares_stand = record { tag_is = refl; long = omega arith; short = omega arith; whole = omega (arith, record_length_lem f n m t) }

  size_stands : Stands written 9 3 1 1
  unfolding number_at tagged record_of
  size_stands = record { tag_is = refl; long = omega arith; short = omega arith; whole = omega (arith, record_length_lem f n m t) }

  fourth : get_or written 13 0 ≡ 4
  unfolding tagged record_of
  fourth = refl

  table-stands : Stands written 13 4 0 65535
  table-stands =
      record {
        tag_is = fourth;
        long = omega arith;
        short = omega (arith, told_long, (fits f n m t a).table);
        whole = omega (arith, told_long, record_length_lem f n m t);
      }

  end-stands : Stands written (end_at written) 255 0 0
  end-stands =
      record {
        tag_is = at-end 0 (end_at written) (omega (arith, told_long));
        long = omega arith;
        short = omega (arith, end-told);
        whole = omega (arith, end-told, told_long, record_length_lem f n m t);
      }

  framed-written : framed written ≡ passed
  framed-written =
      framed_passes written (record { field = field_stands; shares = shares_stand; size = size_stands; table = table-stands; end = end-stands })

  held-written : holding written ≡ passed
  unfolding no4
  held-written =
      holding_by written (system f n m (length t)) (sym holds)
      ∙ (numbers_pass f n m a.numbers
      and (right-length 4 {long = length t} {wanted = table_length n m} _ a.whole
      and six_passes f (rows n m) (stretch written) (rw stretch_is a.elements)))

  pub reads : read_order written ≡ passed
  unfolding read_order
  reads = framed-written and (nothing_after written (omega (arith, told_long, record_length_lem f n m t)) and held-written)

-- "Writing then reading gives the system back"
pub write_read : (f n m : ℕ) (t target : List ℕ) → write_order f n m t (length target) ≡ passed
    → let y = (write_call f n m t target).left in (read_call y ≡ after (gives (system f n m (length t))) tt) × (table_in y ≡ t)
unfolding write_call read_call
write_read f n m t target e =
    let a = (write_says_lem f n m t (length target) e).0 in
    let r = reads f n m t a in
    rw (call_goes _ target (after (gives (tt {0})) (record_of f n m t)) e)
    (call_goes _ _ _ r ∙ ap (λ (s : System). after (gives s) (tt {0})) (holds f n m t a), tables (record_of f n m t) r ∙ stretch_is f n m t a)
