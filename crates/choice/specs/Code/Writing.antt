-- Words that are written side by side, and what each of them is: a double of a word, lane by lane, or a mask.
-- Assumes nothing.
use Rattle.std.specs.Prelude.{◌≡◌, ℕ, ◌+◌, ◌-◌, ◌*◌, ◌/◌, ◌%◌, ◌^◌, ◌<◌, ◌≤◌, List, ltb, get_or}
use Rattle.std.specs.Int.Bits.{bit_and}
use Rattle.field.specs.Field.{pick}
use Rattle.sharing.specs.Bounds.{most_columns}
use Rattle.row.specs.Code.Streams.{doubled}
use Rattle.word.specs.Lanes.{lane, Lanes, ones, multiple}
use Rattle.word.specs.Rows.{words_of}

-- the words of the widest row of four shares
abbrev pub most_words : ℕ
most_words = words_of most_columns * 4

-- the k places from `at` hold what P says, and the others stayed
pub record Wrote (at k : ℕ) (P : ℕ → ℕ → Type 0) (old new : List ℕ) : Type 0 where
  pub holds : (t : ℕ) → t < k → P t (get_or new (at + t) 0)
  pub beside : (p : ℕ) → (at ≤ p → p < at + k → ⊥) → get_or new p 0 ≡ get_or old p 0

-- groups from..to of k places each hold what P says, and the other groups stayed
pub record WroteGroups (k from to : ℕ) (P : ℕ → ℕ → ℕ → Type 0) (old new : List ℕ) : Type 0 where
  pub holds : (g t : ℕ) → from ≤ g → g < to → t < k → P g t (get_or new (g * k + t) 0)
  pub beside : (g t : ℕ) → (from ≤ g → g < to → ⊥) → t < k → get_or new (g * k + t) 0 ≡ get_or old (g * k + t) 0

-- w has the doubles of x
abbrev pub IsDouble : ℕ → ℕ → ℕ → Type 0
IsDouble bits x w = Lanes w (λ l. doubled bits (lane x l))

-- w is x, doubled t times
abbrev pub IsMultiple : ℕ → ℕ → ℕ → ℕ → Type 0
IsMultiple bits x t w = Lanes w (λ l. multiple bits t (lane x l))

-- w is word g of the row in the live lanes, doubled t times
abbrev pub IsMultipleOf : ℕ → ℕ → List ℕ → ℕ → ℕ → ℕ → Type 0
IsMultipleOf bits live row g t w = IsMultiple bits (bit_and (get_or row g 0) live) t w

-- w is all ones or all zeros, by bit t of a
abbrev pub IsMask : ℕ → ℕ → ℕ → Type 0
IsMask a t w = w ≡ a / 2 ^ t % 2 * ones

-- the same by bit t of share i of a factor
abbrev pub IsMaskOf : List ℕ → ℕ → ℕ → ℕ → Type 0
IsMaskOf factor i t w = IsMask (get_or factor i 0) t w

-- the last word's lanes before the last `columns` columns are zeros, and those of the columns are ones
abbrev pub IsLive : ℕ → ℕ → Type 0
IsLive columns w = Lanes w (λ l. pick (ltb l (7 - (columns + 7) % 8)) 0 255)
