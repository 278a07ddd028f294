-- T[k,j] is copied before its row changes, and the copy is the factor.
use mathlib.Core.Path.{◌≡◌, refl, subst, ◌∙◌}
use Prim.Native.Nat.{ℕ}
use mathlib.Core.List.{List}
use native.Mathlib.Omega.{arith}
use lib.ListN.{length}
use lib.Seq.{length-take-le, take_at}
use borrow.Author.Tests.{ne_eqb}
use Rattle.field.specs.Field.{bits}
use Rattle.table.specs.Steps.{clear}
use Rattle.table.specs.Costs.{clear_cost}
use Rattle.word_table.specs.Table.{Told, by_all}
use Rattle.word_table.proofs.Joined.{join_rows_sign}
use Rattle.word_table.proofs.clear.Goals as goal

-- all bits of an element of F16, and of F256
told_16 : (f : ℕ) (factor : List ℕ) → f ≡ 16 → Told f factor 4
unfolding bits
told_16 f factor e = rw e by_all

told_256 : (f : ℕ) (factor : List ℕ) → (f ≡ 16 → ⊥) → Told f factor 8
unfolding bits
told_256 f factor e = let b : bits f ≡ 8 = rw (ne_eqb f 16 e) refl in subst (λ (w : ℕ). Told f factor w) b by_all

pub join_rows-requires : goal.join_rows-requires
unfolding clear_cost
join_rows-requires c =
    let q = c.requires in
    let s = c.args.shape in
    let copied : length c.entry.new.out ≡ s.shares = c.entry.auto.out ∙ length-take-le _ _ (omega arith) in
    rw (take_at _ _ _ copied)
    (record { worded = q.worded; inside = (q.inside.1, q.inside.0); draws = (copied, q.draws); room = (q.room.0, q.room.1, told_16 s.field _ c.if-shape-eq16.true); below = q.below })

pub join_rows-requires-else-shape-eq16 : goal.join_rows-requires-else-shape-eq16
unfolding clear_cost
join_rows-requires-else-shape-eq16 c =
    let q = c.requires in
    let s = c.args.shape in
    let copied : length c.entry.new.out ≡ s.shares = c.entry.auto.out ∙ length-take-le _ _ (omega arith) in
    rw (take_at _ _ _ copied)
    (record { worded = q.worded; inside = (q.inside.1, q.inside.0); draws = (copied, q.draws); room = (q.room.0, q.room.1, told_256 s.field _ c.if-shape-eq16.false); below = q.below })

pub returns-then-shape-eq16 : goal.returns-then-shape-eq16
unfolding clear
returns-then-shape-eq16 c =
    let x = c.args in
    let s = x.shape in
    let copied : length c.entry.new.out ≡ s.shares = c.entry.auto.out ∙ length-take-le _ _ (omega arith) in
    rw (take_at _ _ _ copied, c.entry.ensures) at c.join_rows.ensures ∙ join_rows_sign s.field s.shares s.columns x.k x.r x.j _ x.mask.now _

pub returns-else-shape-eq16 : goal.returns-else-shape-eq16
unfolding clear
returns-else-shape-eq16 c =
    let x = c.args in
    let s = x.shape in
    let copied : length c.entry.new.out ≡ s.shares = c.entry.auto.out ∙ length-take-le _ _ (omega arith) in
    rw (take_at _ _ _ copied, c.entry.ensures) at c.join_rows-else-shape-eq16.ensures ∙ join_rows_sign s.field s.shares s.columns x.k x.r x.j _ x.mask.now _
