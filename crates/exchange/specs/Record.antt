-- R-3's record, as it is written and as it is read. "One record of tagged fields, each a one-byte tag and a two-byte length, high byte first: 1
-- field (2 bytes, high first), 2 shares (1), 3 size (1), 4 the shared table, 255 end (length 0). All five appear once, in that order."
-- Assumes nothing.
use Rattle.std.specs.Prelude.{List, [], ◌∷◌, ◌++◌, ℕ, ◌+◌, ◌*◌, ◌/◌, ◌%◌, ltb, length, get_or, take, drop}
use Rattle.exchange.specs.declared.System.{System}
use Rattle.verdict.specs.declared.Rows.{Rows}
use Rattle.verdict.specs.declared.Rows.TheVariants.{Shared}
use Rattle.verdict.specs.Told.{Told, refuse, ◌or◌}
use Rattle.verdict.specs.Cells.{bytes_of}
use Rattle.verdict.specs.Refusals.{differs, outside, no4, no6, numbers}

-- ---- written

-- two bytes, high byte first
abbrev pub pair : ℕ → List ℕ
pair k = k / 256 ∷ k % 256 ∷ []

-- a field: its tag, the length of its body, and its body
unfoldable pub tagged : ℕ → List ℕ → List ℕ
tagged tag body = tag ∷ (pair (length body) ++ body)

-- the record of a system: field, shares, size, table
unfoldable pub record_of : ℕ → ℕ → ℕ → List ℕ → List ℕ
record_of f n m t = tagged 1 (pair f) ++ (tagged 2 (n ∷ []) ++ (tagged 3 (m ∷ []) ++ (tagged 4 t ++ tagged 255 [])))

-- the rows of the table, and its bytes: m(m+1)n
abbrev pub rows : ℕ → ℕ → Rows
rows n m = Shared n (m + 1)

abbrev pub table_length : ℕ → ℕ → ℕ
table_length n m = bytes_of (rows n m) m

-- the record has 19 more: three a field, and the bodies of the first three
abbrev pub record_length : ℕ → ℕ → ℕ
record_length n m = table_length n m + 19

-- ---- read: one record at the front of the input, whatever follows it. Offsets count from 0

-- the number that two bytes are, high byte first
unfoldable pub number_at : List ℕ → ℕ → ℕ
number_at input at = get_or input at 0 * 256 + get_or input (at + 1) 0

-- the length that a field tells, by its first offset
abbrev pub length_at : List ℕ → ℕ → ℕ
length_at input at = number_at input (at + 1)

-- "17 the input ends inside a field": before so many of its bytes
unfoldable pub ends : List ℕ → ℕ → ℕ → Told
ends input at bytes = refuse 17 (ltb (length input) (at + bytes)) (at ∷ [])

-- "16 bad tag or order"
unfoldable pub no16 : List ℕ → ℕ → ℕ → Told
no16 input at tag = refuse 16 (differs (get_or input at 0) tag) (at ∷ [])

-- "or a length doesn't suit its tag": what suits stands between two bounds
unfoldable pub unsuited : List ℕ → ℕ → ℕ → ℕ → Told
unsuited input at least most = refuse 17 (outside least most (length_at input at)) (at ∷ [])

-- the field at an offset, "in the order met": that it begins, its tag, its length, its body. Parentheses mark stages: what stands in one is
-- looked at only once the stage before has passed
unfoldable pub field_at : List ℕ → ℕ → ℕ → ℕ → ℕ → Told
field_at input at tag least most =
    ends input at 1
    or (no16 input at tag
    or (ends input at 3
    or (unsuited input at least most
    or ends input at (3 + length_at input at))))

-- the table's bytes, and the offset of the end after them
unfoldable pub stretch : List ℕ → List ℕ
stretch input = take (length_at input 13) (drop 16 input)

abbrev pub end_at : List ℕ → ℕ
end_at input = 16 + length_at input 13

-- "all five appear once, in that order", each by its offset, its tag, and the least and the most length that suit it; "any length suits tag 4",
-- up to the largest that two bytes tell
unfoldable pub framed : List ℕ → Told
framed input =
    field_at input 0 1 2 2
    or (field_at input 5 2 1 1
    or (field_at input 9 3 1 1
    or (field_at input 13 4 0 65535
    or field_at input (end_at input) 255 0 0)))

abbrev pub system : ℕ → ℕ → ℕ → ℕ → System
system f n m long = record { field = f; shares = n; size = m; length = long }

-- what the fields hold, and the table's length
unfoldable pub system_in : List ℕ → System
system_in input = system (number_at input 3) (get_or input 8 0) (get_or input 12 0) (length_at input 13)

-- "then 01's 1 to 4 and 6", of what the fields hold
unfoldable pub holding : List ℕ → Told
holding input =
    let s = system_in input in
    numbers s.field s.shares s.size
    or (no4 (table_length s.shares s.size) s.length
    or no6 s.field (rows s.shares s.size) (stretch input))
