-- "On a square system it is short exactly where the base stops, and solves to the same x": of the same table, whatever the tapes of both are.
-- Assumes nothing.
use mathlib.Core.List.{List}
use mathlib.Core.Logic.{inl}
use mathlib.Core.Path.{◌≡◌, ◌∙◌, subst}
use Prim.Native.Nat.{ℕ, ◌+◌}
use Rattle.field.specs.Field.{field_of}
use Rattle.table.specs.Values.{value}
use Rattle.algebra.specs.Wide.{on_square, WideLeft, WideMeans}
use Rattle.algebra.proofs.Square.{square_wide}
use Rattle.course.proofs.Sums.{nonzero_count}
use Rattle.walk.specs.Act.{held}
use Rattle.walk.specs.Walk as W
use Rattle.meaning.specs.Meaning as M
use Rattle.meaning.specs.Claims as C
use Rattle.meaning.proofs.Meant as B
use Rattle.pattern.specs.declared.WideOrder.{WideOrder}
use Rattle.pattern.specs.PatternList.{wanted}
use Rattle.wide_walk.specs.WideWalk.{solved, pattern_of}
use Rattle.wide_meaning.specs.WideMeaning.{answer_of, Given, square_of}
use Rattle.wide_meaning.proofs.Meant.{meant, left}

module _ (o : WideOrder) (same : o.columns ≡ o.rows) where
  -- what a wide solve is lent serves the base's
  pub given_square : (zs t x : List ℕ) → Given o zs t x → C.Given (square_of o) zs t x
  unfolding wanted
  given_square zs t x l =
      record {
        sizes = record {
          field = inl l.sizes.field;
          two = l.sizes.two;
          four = l.sizes.four;
          some = l.sizes.some;
          most = l.sizes.most;
        };
        table = rw same at l.table;
        solution = l.solution ∙ same;
        nonzero = λ k a. l.nonzero k (rw nonzero_count at a);
      }

  pub square : (ms zs t x ns ys y : List ℕ) → Given o zs t x → C.Given (square_of o) ys t y
      → (answer_of (solved o ms zs (held t x)).answer ≡ on_square (M.answer_of (W.solved (square_of o) ns ys (held t y)).answer))
      × ((solved o ms zs (held t x)).left.solution ≡ (W.solved (square_of o) ns ys (held t y)).left.solution)
  unfolding M.value_of value
  square ms zs t x ns ys y l k =
      let a = answer_of (solved o ms zs (held t x)).answer in
      let ps = pattern_of o ms zs (held t x) in
      let v = (solved o ms zs (held t x)).left.solution in
      square_wide (field_of o.field) o.rows (M.value_of (square_of o) t) (M.answer_of (W.solved (square_of o) ns ys (held t y)).answer) a ps
      (W.solved (square_of o) ns ys (held t y)).left.solution v (B.meant (square_of o) ns ys t y k) (B.left (square_of o) ns ys t y k)
      (subst (λ (c : ℕ). WideMeans (field_of o.field) o.rows (value (field_of o.field) o.shares (c + 1) t) c a ps v) same (meant o ms zs t x l))
      (subst (λ (c : ℕ). WideLeft c a v) same (left o ms zs t x l))
