use mathlib.Core.Path.{◌≡◌, ap, ◌∙◌}
use Prim.Native.Nat.{ℕ, ◌+◌, ◌-◌, ◌≤◌}
use mathlib.Core.List.{List, ◌++◌}
use native.Mathlib.Omega.{arith}
use lib.ListN.{length, drop, get_or-append}
use lib.Seq.{length-take-le}
use Rattle.word.specs.Lanes.{lane}
use Rattle.dealing.specs.Code.Words.{kept_byte, Written}
use Rattle.dealing.proofs.Writing.{written_more, cut}
use Rattle.dealing.proofs.few.Goals as goal

-- a row whose first n words were lent
part : (n k : ℕ) (g : ℕ → ℕ → ℕ) (row words old : List ℕ) → n ≤ length words → n ≤ k → Written 0 k g old words → Written 0 n g row (words ++ drop n row)
part n k g row words old h e W =
    record {
      at = λ s l hs hl. ap (λ (x : ℕ). lane x l) (get_or-append words (drop n row) 0 (0 + s) (omega arith)) ∙ W.at s l (omega arith) hl;
      before = λ p h. absurd (omega arith);
    }

pub loop-k-preserved : goal.loop-k-preserved
loop-k-preserved c =
    let l = c.loop-k in
    let x = c.args in
    written_more 0 l.k (kept_byte x.low x.n x.d.now 0 (8 - x.columns)) _ l.words _ l.k l.invariant (omega arith) (omega arith)
    (cut x.low x.n x.d.now 0 (8 - x.columns) l.k c.few_at.result c.few_at.ensures)

pub returns : goal.returns
returns c =
    let l = c.loop-k in
    let x = c.args in
    let size = length-take-le x.n x.row.now (omega arith) in
    part x.n l.k (kept_byte x.low x.n x.d.now 0 (8 - x.columns)) x.row.now l.words _ (omega (arith, size)) (omega (arith, size)) l.invariant
