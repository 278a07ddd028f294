-- 01: "Deal: values m(m+1) in row order; for each, shares 2..n are draws in that order and share 1 is the value plus their sum. Gather: the
-- sums, in the same row order." The n bytes of entry e, from 0, begin at e·n.
-- Assumes nothing.
use Rattle.std.specs.Prelude.{List, ◌∷◌, ℕ, ◌-◌, ◌*◌, get_or, drop}
use Rattle.field.specs.Field.{Ops, sub, field_of}
use Rattle.sharing.specs.Run.{tab}
use Rattle.sharing.specs.Rules.{sum, draw_at}
use Rattle.table.specs.Layout.{part}
use Rattle.table.specs.Steps.{over_columns}

-- share 1 is the value less the sum of the draws: in F16 and F256 that is the same as plus
unfoldable pub dealt_entry : Ops → ℕ → List ℕ → ℕ → List ℕ
dealt_entry F n ds v =
    let xs = tab (n - 1) (draw_at F ds) in
    sub F v (sum F xs) ∷ xs

unfoldable pub deal_turn : ℕ → ℕ → List ℕ → List ℕ → ℕ → List ℕ → List ℕ
deal_turn f n vs ds e old = dealt_entry (field_of f) n (drop (e * (n - 1)) ds) (get_or vs e 0)

-- the first count values, into a table
unfoldable pub dealt : ℕ → ℕ → ℕ → List ℕ → List ℕ → List ℕ → List ℕ
dealt f n count vs ds t = over_columns n (deal_turn f n vs ds) count t

-- the values of the first count entries
unfoldable pub gathered : ℕ → ℕ → ℕ → List ℕ → List ℕ
gathered f n count t = tab count (λ e. sum (field_of f) (part n (e * n) t))
