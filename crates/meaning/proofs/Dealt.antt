-- Deal and Gather: what was dealt is gathered again, and is what a solve of the dealt table works on. So dealings of the same values, by
-- whatever draws and into however many shares, are solved alike.
-- Assumes nothing.
use mathlib.Core.Path.{◌≡◌, sym, ap, ap₂, ◌∙◌}
use Prim.Native.Nat.{ℕ, suc, ◌+◌, ◌-◌, ◌*◌, ◌%◌, ◌<◌, ◌≤◌}
use mathlib.Core.List.{List}
use native.Mathlib.Omega.{arith}
use native.Mathlib.Nat.{mod-eq_of_lt, suc-mul, mul-le-mul_right}
use lib.ListN.{length, get_or, drop}
use Rattle.field.specs.Field.{Ring, field_of}
use Rattle.field.proofs.Fields.{field_of_lem}
use Rattle.sharing.specs.Run.{tab}
use Rattle.sharing.specs.Rules.{sum, draw_at}
use Rattle.sharing.specs.Lists.{Below}
use Rattle.sharing.proofs.Pairs.{tab-length, tab_ext, tab_list}
use Rattle.sharing.proofs.Elements.{cons_below, tab_below, draw-lt}
use Rattle.sharing.proofs.Sums.{sum-dealt}
use Rattle.table.specs.Layout.{cell, table_bytes, part}
use Rattle.table.proofs.Elements.{columns_anew}
use Rattle.table.proofs.Columns.{Keeps, over_columns-length, over_columns-at}
use Rattle.course.specs.declared.Order.{Order}
use Rattle.walk.specs.Act.{held}
use Rattle.walk.specs.Walk.{solved}
use Rattle.walk.specs.Dealing.{dealt_entry, deal_turn, dealt, gathered}
use Rattle.meaning.specs.Meaning.{value_of, answer_of}
use Rattle.meaning.specs.Claims.{Given, SameValues, dealt_for}
use Rattle.meaning.proofs.Alike.{alike}

module _ (f n : ℕ) (some : 0 < n) (vs ds : List ℕ) where
  turn_keeps : Keeps n (deal_turn f n vs ds)
  unfolding deal_turn dealt_entry
  turn_keeps =
      record {
        shares = λ e old l.
            let z : suc (n - 1) ≡ n = omega arith in
            ap suc (tab-length (n - 1) (draw_at (field_of f) (drop (e * (n - 1)) ds))) ∙ z;
      }

  module _ (k : ℕ) (t : List ℕ) (lt : length t ≡ k * n) where
    pub dealt-length : length (dealt f n k vs ds t) ≡ k * n
    unfolding dealt
    dealt-length = over_columns-length n (deal_turn f n vs ds) turn_keeps k t lt

    -- entry e of what was dealt
    pub dealt-sum : (e : ℕ) → e < k → sum (field_of f) (part n (e * n) (dealt f n k vs ds t)) ≡ get_or vs e 0 % (field_of f).q
    unfolding dealt deal_turn dealt_entry
    dealt-sum e h =
        ap (sum (field_of f)) (over_columns-at n (deal_turn f n vs ds) turn_keeps k t lt e h)
        ∙ sum-dealt (field_of f) (field_of_lem f).ring (get_or vs e 0) (tab (n - 1) (draw_at (field_of f) (drop (e * (n - 1)) ds)))

    -- Deal gives a table of elements, whatever its target held
    pub dealt_below : Below (field_of f).q (dealt f n k vs ds t)
    unfolding dealt deal_turn dealt_entry
    dealt_below =
        let R : Ring (field_of f) = (field_of_lem f).ring in
        columns_anew R.pos n some (deal_turn f n vs ds) turn_keeps
        (λ e old. cons_below (R.add_lt _ _) (tab_below R.pos (n - 1) _ (draw-lt (field_of f) R (drop (e * (n - 1)) ds))))
        k t lt

    -- Gather after Deal gives the values back
    pub gather_deal : length vs ≡ k → ((e : ℕ) → e < k → get_or vs e 0 < (field_of f).q) → gathered f n k (dealt f n k vs ds t) ≡ vs
    unfolding gathered
    gather_deal lv below =
        tab_ext k (λ e h. dealt-sum e h ∙ mod-eq_of_lt (below e h)) ∙ ap (λ (i : ℕ). tab i (λ e. get_or vs e 0)) (sym lv) ∙ tab_list vs

module _ (o : Order) (some : 0 < o.shares) (vs ds t : List ℕ) (lt : length t ≡ table_bytes o.shares o.size (o.size + 1)) where
  -- entry ((r-1)(m+1)+(c-1)) of the values is the value of row r, column c
  pub dealt_for-value : (r c : ℕ) → 1 ≤ r → r ≤ o.size → 1 ≤ c → c ≤ o.size + 1
      → value_of o (dealt_for o vs ds t) r c ≡ get_or vs ((r - 1) * (o.size + 1) + (c - 1)) 0 % (field_of o.field).q
  unfolding value_of cell table_bytes
  dealt_for-value r c a b d e =
      let w : ℕ = o.size + 1 in
      let row : suc (r - 1) * w ≤ o.size * w = mul-le-mul_right w (omega arith) in
      dealt-sum o.field o.shares some vs ds (o.size * w) t lt ((r - 1) * w + (c - 1)) (omega (arith, suc-mul (r - 1) w))

  dealt_for-length : length (dealt_for o vs ds t) ≡ table_bytes o.shares o.size (o.size + 1)
  unfolding table_bytes
  dealt_for-length = dealt-length o.field o.shares some vs ds (o.size * (o.size + 1)) t lt

-- a dealt table is one that a solve is lent
lent-dealt : (o : Order) (vs ds zs t x : List ℕ) → Given o zs t x → Given o zs (dealt_for o vs ds t) x
lent-dealt o vs ds zs t x l =
    record {
      sizes = l.sizes;
      table = dealt_for-length o (omega (arith, l.sizes.two)) vs ds t l.table;
      solution = l.solution;
      nonzero = l.nonzero;
    }

module _ (o p : Order) (field : o.field ≡ p.field) (size : o.size ≡ p.size) (vs ds zs t x es ys u y : List ℕ) (l : Given o zs t x)
    (k : Given p ys u y) where
  dealt_same : SameValues o p (dealt_for o vs ds t) (dealt_for p vs es u)
  dealt_same =
      record {
        field = field;
        size = size;
        values = λ r c a b d e.
            dealt_for-value o (omega (arith, l.sizes.two)) vs ds t l.table r c a b d e
            ∙ ap₂ (λ (m f : ℕ). get_or vs ((r - 1) * (m + 1) + (c - 1)) 0 % (field_of f).q) size field
            ∙ sym (dealt_for-value p (omega (arith, k.sizes.two)) vs es u k.table r c a (omega arith) d (omega arith));
      }

  -- two dealings of the values vs, by the draws ds into t and by the draws es into u
  pub dealt_alike : (ms ns : List ℕ)
      → (answer_of (solved o ms zs (held (dealt_for o vs ds t) x)).answer ≡ answer_of (solved p ns ys (held (dealt_for p vs es u) y)).answer)
      × ((solved o ms zs (held (dealt_for o vs ds t) x)).left.solution ≡ (solved p ns ys (held (dealt_for p vs es u) y)).left.solution)
  dealt_alike ms ns =
      alike o p ms zs (dealt_for o vs ds t) x ns ys (dealt_for p vs es u) y (lent-dealt o vs ds zs t x l) (lent-dealt p vs es ys u y k)
      dealt_same
