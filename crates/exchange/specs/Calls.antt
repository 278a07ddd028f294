-- The calls of R-3: what each answers, and every lent byte afterwards, for every input.
-- Assumes nothing.
use Rattle.std.specs.Prelude.{List, [], ◌∷◌, ℕ, ◌+◌, ltb, length}
use Rattle.verdict.specs.Told.{Told, passed, refused, refuse, ◌or◌}
use Rattle.verdict.specs.Refusals.{numbers, buffers}
use Rattle.verdict.specs.Calls.{gives, Outcome, after, call, Nothing}
use Rattle.exchange.specs.declared.System.{System}
use Rattle.exchange.specs.Record.{rows, table_length, record_length, record_of, stretch, end_at, framed, system_in, holding}

-- ---- Write

-- "When writing: 01's 1 to 6, where 5 is a target that isn't exactly the record's length"
unfoldable pub write_order : ℕ → ℕ → ℕ → List ℕ → ℕ → Told
write_order f n m t target = numbers f n m or buffers f (rows n m) (table_length n m) t (record_length n m) target

unfoldable pub write_call : ℕ → ℕ → ℕ → List ℕ → List ℕ → Outcome Nothing (List ℕ)
write_call f n m t target = call (write_order f n m t (length target)) target (after (gives tt) (record_of f n m t))

-- ---- Read: the input could not change

-- "18 bytes after the end": the first byte after
unfoldable pub no18 : List ℕ → Told
no18 input = let next = 3 + end_at input in refuse 18 (ltb next (length input)) (next ∷ [])

-- "16 to 18 in the order met, .. then 01's 1 to 4 and 6"
unfoldable pub read_order : List ℕ → Told
read_order input = framed input or (no18 input or holding input)

unfoldable pub read_call : List ℕ → Outcome System Nothing
read_call input = call (read_order input) tt (after (gives (system_in input)) tt)

-- "The reader hands the table on as the stretch of the caller's own bytes"; where it refuses there is none
abbrev pub handed : Told → List ℕ → List ℕ
handed passed t = t
handed (refused l) t = []

unfoldable pub table_in : List ℕ → List ℕ
table_in input = handed (read_order input) (stretch input)
