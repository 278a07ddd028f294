use mathlib.Core.Path.{◌≡◌, sym, ap, ◌∙◌}
use Prim.Native.Nat.{ℕ, ◌+◌, ◌-◌, ◌*◌}
use mathlib.Core.List.{List}
use lib.ListN.{take, drop}
use Rattle.sharing.specs.Run.{tab}
use Rattle.word.specs.Rows.{byte_of}
use Rattle.table.proofs.Parts.{part-lent}
use Rattle.word_table.specs.Table.{row_at, row_words}
use Rattle.word_table.proofs.Entering.{entry_of}
use Rattle.word_table.proofs.entry.Goals as goal

-- the row that is lent
left : (n w r : ℕ) (words : List ℕ) (size e : ℕ) → size ≡ row_words n w
    → tab n (byte_of n (take ((r - 1) * size + size - (r - 1) * size) (drop ((r - 1) * size) words)) e) ≡ tab n (byte_of n (row_at n w r words) e)
unfolding row_at
left n w r words size e h = ap (λ (row : List ℕ). tab n (byte_of n row e)) (part-lent size ((r - 1) * size) words ∙ rw h)

pub returns : goal.returns
returns c =
    let x = c.args in
    let s = x.shape in
    c.entry.ensures ∙ left s.shares s.columns x.r x.words.now c.row_words-size.result (s.columns - x.j) c.row_words-size.ensures.0
    ∙ sym (entry_of s.shares s.columns s.rows x.words.now c.requires.inside)
