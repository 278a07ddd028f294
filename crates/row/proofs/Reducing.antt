-- A factor whose shares are taken modulo q gives the same Products.
-- Assumes nothing.
use mathlib.Core.Path.{◌≡◌, refl, ap, ◌∙◌}
use mathlib.Core.Bool.{Bool}
use Prim.Native.Nat.{ℕ, ◌*◌, ◌%◌}
use mathlib.Core.List.{List}
use lib.ListN.{length, get_or, take, drop}
use borrow.Author.Tests.{ne_eqb}
use Rattle.field.specs.Field.{Ops, Field, F16, F256, field_of, pick}
use Rattle.field.proofs.Inverses.{mul_left}
use Rattle.sharing.specs.Run.{tab, pairs}
use Rattle.sharing.specs.Rules.{draw_at, product}
use Rattle.sharing.proofs.Pairs.{tab-at, tab-length}
use Rattle.sharing.specs.Lists.{Below}
use Rattle.sharing.proofs.Draws.{product_over_ext}
use Rattle.sharing.proofs.Elements.{draw-lt, tab_below}
use Rattle.row.specs.Rows.{Products}

module _ (F : Ops) (L : Field F) (factor : List ℕ) where
  pub reduced_below : Below F.q (tab (length factor) (draw_at F factor))
  reduced_below = tab_below L.ring.pos (length factor) (draw_at F factor) (draw-lt F L.ring factor)

  product-reduced : (ds e : List ℕ) → product F ds (tab (length factor) (draw_at F factor)) e ≡ product F ds factor e
  unfolding product
  product-reduced ds e =
      rw (tab-length (length factor) (draw_at F factor))
      (product_over_ext F (length factor) (λ k h. refl)
      (λ i j hi hj. ap (λ (x : ℕ). F.mul x (get_or e j 0)) (tab-at (length factor) (draw_at F factor) i hi) ∙ mul_left F L (get_or factor i 0) (get_or e j 0)))

  pub products_reduced : {n columns : ℕ} {ds row out : List ℕ}
      → Products F n columns ds (tab (length factor) (draw_at F factor)) row out → Products F n columns ds factor row out
  products_reduced {n} {columns} {ds} {row} {out} p =
      record {
        at = λ u s hu hs. p.at u s hu hs ∙ ap (λ (y : List ℕ). get_or y s 0 % F.q) (product-reduced (drop (u * pairs n) ds) (take n (drop (u * n) row)));
      }

-- ---- the two fields

pub field_256 : (f : ℕ) → (f ≡ 16 → ⊥) → field_of f ≡ field_of 256
unfolding field_of
field_256 f h = ap (λ (t : Bool). pick t F16 F256) (ne_eqb f 16 h)
