use mathlib.Core.Path.{sym, ap, ◌∙◌}
use Prim.Native.Nat.{ℕ}
use Rattle.row.specs.Code.Streams.{doubled}
use Rattle.word.specs.Lanes.{lane}
use Rattle.choice.proofs.Doubling.{double_16, double_256, doubled_other}
use borrow.Author.Rules.{rules}
use Rattle.choice.proofs.double.Goals as goal

pub returns-then-this-eq4 : goal.returns-then-this-eq4
returns-then-this-eq4 g c =
    let x : ℕ = c.args.x in
    let m = c.moved-low.ensures in
    record { at = λ l h. double_16 x _ _ m.0 m.1 (search rules) l h ∙ ap (λ (k : ℕ). doubled k (lane x l)) (sym c.if-this-eq4.true) }

pub returns-else-this-eq4 : goal.returns-else-this-eq4
returns-else-this-eq4 g c =
    let x : ℕ = c.args.x in
    let m = c.moved-low-else-this-eq4.ensures in
    record { at = λ l h. double_256 x _ _ m.0 m.1 (search rules) l h ∙ sym (doubled_other g.row.BITS (lane x l) c.if-this-eq4.false) }
