-- A host that makes step calls one after the other, whatever record it has: what each call is lent, which of it is used up, and the run of such
-- calls. Trace has the square record's host, and wide_trace the wide one's.
-- Assumes nothing.
use Rattle.std.specs.Prelude.{List, [], ◌∷◌, ◌++◌, ◌≡◌, ℕ, zero, suc, ◌<◌, length}
use Rattle.field.specs.Field.{field_of}
use Rattle.sharing.specs.Rules.{draw_at}
use Rattle.sharing.specs.Lists.{SameDraws}
use Rattle.verdict.specs.Calls.{Says, refuses, gives}

-- what a call is lent beside the record, the table and the solution
pub record Beside : Type 0 where
  pub mask : List ℕ
  pub nonzero : List ℕ

-- a refused call is not counted, and uses up none of its draws
abbrev pub accepts : {A : Type 0} → Says A → ℕ
accepts (refuses l) = 0
accepts (gives a) = 1

abbrev pub uses : {A : Type 0} → Says A → List ℕ → List ℕ
uses (refuses l) ds = []
uses (gives a) ds = ds

-- no draw of a tape's part is 0, in field f
abbrev pub NoneZero : ℕ → List ℕ → Type 0
NoneZero f ds = (k : ℕ) → k < length ds → draw_at (field_of f) ds k ≡ 0 → ⊥

-- a tape that begins with the draws ds: the same draws, and not the same bytes
abbrev pub Begins : ℕ → List ℕ → List ℕ → Type 0
Begins f ds tape = SameDraws (field_of f) (length ds) ds tape

module _ {H : Type 0} (after : H → Beside → H) where
  -- any calls, one after the other
  unfoldable pub drive_by : H → List Beside → H
  drive_by h [] = h
  drive_by h (c ∷ cs) = drive_by (after h c) cs

  -- k calls of a host that lends what `lend` makes of what it has
  unfoldable pub calls_by : (H → Beside) → ℕ → H → List Beside
  calls_by lend zero h = []
  calls_by lend (suc k) h = let cs = calls_by lend k h in cs ++ (lend (drive_by h cs) ∷ [])

  unfoldable pub driven_by : (H → Beside) → ℕ → H → H
  driven_by lend k h = drive_by h (calls_by lend k h)
