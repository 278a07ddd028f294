-- Calls one after the other: what Deal leaves is admitted by Gather, which gives the values back, and by Solve, whose equations are the values.
-- Assumes nothing.
use mathlib.Core.List.{List}
use mathlib.Core.Path.{◌≡◌, refl, ap, ◌∙◌}
use Prim.Native.Nat.{ℕ, ◌+◌, ◌-◌, ◌*◌, ◌<◌, ◌≤◌}
use native.Mathlib.Nat.{mod-eq_of_lt}
use native.Mathlib.Omega.{arith}
use lib.ListN.{length, get_or}
use Rattle.field.specs.Field.{field_of}
use Rattle.sharing.specs.Lists.{Below}
use Rattle.table.specs.Layout.{table_bytes}
use Rattle.course.specs.declared.Order.{Order}
use Rattle.course.specs.StepList.{full_mask, full_nonzero}
use Rattle.walk.specs.Dealing.{dealt, gathered}
use Rattle.meaning.specs.Meaning.{value_of}
use Rattle.meaning.specs.Claims.{NoZero}
use Rattle.meaning.proofs.Dealt.{dealt-length, dealt_below, gather_deal, dealt_for-value}
use Rattle.verdict.specs.Told.{Told, passed, refused}
use Rattle.solver.specs.Refusals.{entries, whole_table, deal_order, solve_order}
use Rattle.verdict.specs.Calls.{refuses, gives, after, call}
use Rattle.solver.specs.Calls.{deal_call, gather_call}
use Rattle.solver.proofs.Ready.{Dealing, dealing}
use Rattle.trace.proofs.Admitted.{gather_passes, solve_passes}

module _ (o : Order) (values mask table : List ℕ) where
  abbrev checks : Told
  checks = deal_order o values (length table) (length mask)

  answered : (w : Told) → checks ≡ w → (deal_call o values mask table).says ≡ gives tt → checks ≡ passed
  unfolding deal_call call
  answered passed e h = e
  answered (refused l) e h =
      let g : refuses l ≡ gives tt = rw e at h in
      let z : ◌≡◌ {A = ℕ} 0 1 = cc in
      absurd (let n : ⊥ = omega arith in n)

  -- Deal answered filled
  module _ (fills : (deal_call o values mask table).says ≡ gives tt) where
    passes : checks ≡ passed
    passes = answered checks refl fills

    lent : Dealing o values (length table) (length mask)
    lent = dealing o values (length table) (length mask) passes

    some : 0 < o.shares
    some = omega (arith, lent.sizes.two)

    left : (deal_call o values mask table).left ≡ dealt o.field o.shares (entries o.size) values mask table
    unfolding deal_call call
    left = rw passes

    size : length table ≡ entries o.size * o.shares
    unfolding table_bytes entries
    size = lent.lent.room

    whole : length (dealt o.field o.shares (entries o.size) values mask table) ≡ whole_table o
    unfolding table_bytes entries
    whole = dealt-length o.field o.shares some values mask (o.size * (o.size + 1)) table size

    elements : Below (field_of o.field).q (dealt o.field o.shares (entries o.size) values mask table)
    elements = dealt_below o.field o.shares some values mask (entries o.size) table size

    -- the sums of what Deal left are the values
    pub gathered_values : gathered o.field o.shares (entries o.size) (deal_call o values mask table).left ≡ values
    gathered_values =
        rw left (gather_deal o.field o.shares some values mask (entries o.size) table size lent.lent.whole (λ i l. lent.lent.elements.at i))

    -- Gather then answers filled, with the values
    pub gather_after_deal : (out : List ℕ) → length out ≡ entries o.size
        → gather_call o (deal_call o values mask table).left out ≡ after (gives tt) values
    unfolding gather_call call
    gather_after_deal out e =
        rw (gathered_values, gather_passes o lent.sizes (deal_call o values mask table).left (ap length left ∙ whole) (rw left elements) (length out) e)

    -- Solve then is admitted, with any tapes that are long enough and have no nonzero draw that is 0
    pub solve-after_deal : (x ms zs : List ℕ) → length x ≡ o.size → full_mask o ≤ length ms → full_nonzero o ≤ length zs → NoZero o zs
        → solve_order o (deal_call o values mask table).left (length x) (length ms) zs ≡ passed
    solve-after_deal x ms zs l a b drawn = rw left (solve_passes o lent.sizes _ whole elements (length x) (length ms) zs l a b drawn)

    -- and the equations that it solves are those of the values
    pub dealt_values : (r c : ℕ) → 1 ≤ r → r ≤ o.size → 1 ≤ c → c ≤ o.size + 1
        → value_of o (deal_call o values mask table).left r c ≡ get_or values ((r - 1) * (o.size + 1) + (c - 1)) 0
    unfolding entries
    dealt_values r c a b d e =
        rw left (dealt_for-value o some values mask table lent.lent.room r c a b d e ∙ mod-eq_of_lt (lent.lent.elements.at _))
