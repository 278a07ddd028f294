-- What holds at every place of a wide solve: its record is one that 10 and 19 pass, and what was lent keeps its lengths. So it ends, on draws that
-- it was lent, and its counters at the end are those of the pattern's list.
-- Assumes nothing.
use mathlib.Core.List.{List, [], ◌∷◌}
use mathlib.Core.Path.{◌≡◌, refl, sym, ap, ◌∙◌, subst}
use Prim.Native.Nat.{ℕ, zero, suc, ◌≤◌, ◌+◌}
use native.Mathlib.Omega.{arith}
use lib.ListN.{length, length-append, length-replicate}
use borrow.Author.Tests.{eq-eqb, ne_eqb}
use Rattle.table.specs.Layout.{table_bytes}
use Rattle.course.specs.declared.Step.{Step}
use Rattle.course.specs.declared.Step.TheVariants.{Mix, Check, Scale, Clear, Open, Lift}
use Rattle.course.specs.StepList.{column_of}
use Rattle.walk.specs.Act.{Held, OtherRow}
use Rattle.walk.proofs.Acted.{leaves_sized, leaves-places}
use Rattle.pattern.specs.declared.WideOrder.{WideOrder}
use Rattle.pattern.specs.declared.WidePlace.{WidePlace}
use Rattle.pattern.specs.declared.WidePlace.TheVariants.{At, Short, Done}
use Rattle.pattern.specs.Pivots.{row_of, listed}
use Rattle.pattern.specs.PatternList.{Sizes, pattern_list, sums, steps_before, taken_at}
use Rattle.pattern.proofs.Placed.{Below}
use Rattle.pattern.proofs.Moving.{Standing, steps_of, standing_start, steps_after, standing-after, room_at, places-at}
use Rattle.wide_walk.specs.WideWalk.{Tally, acted, opened_at, spent, walk, most_steps, counts_of, ending_at, conclude, begun, ended, solved, pattern_of, Counters, Ended}

-- row k of a step is one of the table's
pub other_row : (rows r : ℕ) (s : Step) → Below rows r s → OtherRow rows s
other_row rows r (Mix j k) b = (omega (arith, b.0), b.1)
other_row rows r (Check j) b = tt
other_row rows r (Scale j) b = tt
other_row rows r (Clear j k) b = (omega (arith, b.0), b.1)
other_row rows r (Open j) b = tt
other_row rows r (Lift j) b = tt

pub record Sound (o : WideOrder) (t : Tally) : Type 0 where
  pub standing : Standing o t.progress
  pub steps : t.steps ≡ length (steps_of o t.progress)
  pub table : length t.left.table ≡ table_bytes o.shares o.rows (o.columns + 1)
  pub places : length t.left.solution ≡ o.columns

module _ (o : WideOrder) (z : Sizes o) where
  pub sound_start : (h : Held) → length h.table ≡ table_bytes o.shares o.rows (o.columns + 1) → length h.solution ≡ o.columns
      → Sound o (begun o h)
  sound_start h lt lx =
      let first = standing_start o z in
      record {
        standing = first.0;
        steps = sym (ap length first.1);
        table = lt;
        places = length-replicate (length h.solution) 0 ∙ lx;
      }

  module _ (ms zs : List ℕ) where
    -- a step is taken
    pub sound_step : {t : Tally} (s : Step) → t.progress.place ≡ At s → Sound o t → Sound o (spent ms zs (At s) t)
    unfolding acted
    sound_step {t} s e g =
        let ps = listed t.progress.pivots in
        let x : ℕ = opened_at ms zs s t in
        let places = places-at o z s e g.standing in
        record {
          standing = standing-after o z s e g.standing x;
          steps =
              omega (arith, g.steps, ap length (steps_after o z s e g.standing x), length-append (steps_of o t.progress) (s ∷ []));
          table =
              rw g.standing.order
              (leaves_sized o.field o.shares (o.columns + 1) (row_of ps (column_of s)) (places.row_low, places.row_high) s
              (other_row _ _ s places.other) places.column_low (omega (arith, places.column_high)) _ _ t.left g.table);
          places = leaves-places _ _ _ _ s _ _ t.left ∙ g.places;
        }

    sound_by : {t : Tally} → Sound o t → (p : WidePlace) → t.progress.place ≡ p → Sound o (spent ms zs p t)
    sound_by g (At s) e = sound_step s e g
    sound_by g Short e = g
    sound_by g Done e = g

    pub sound_turn : {t : Tally} → Sound o t → Sound o (spent ms zs t.progress.place t)
    sound_turn {t} g = sound_by g t.progress.place refl

    pub sound_walk : (n : ℕ) {t : Tally} → Sound o t → Sound o (walk ms zs n t)
    unfolding walk
    sound_walk zero g = g
    sound_walk (suc n) g = sound_walk n (sound_turn g)

    -- ---- the end

    still : (t : Tally) (p : WidePlace) → Ended p → spent ms zs p t ≡ t
    still t (At s) d = absurd d
    still t Short d = refl
    still t Done d = refl

    -- an ended solve stays
    pub stays : (n : ℕ) (t : Tally) → Ended t.progress.place → walk ms zs n t ≡ t
    unfolding walk
    stays zero t e = refl
    stays (suc n) t e = rw (still t t.progress.place e) (stays n t e)

    none_left : (t : Tally) → Sound o t → most_steps o ≤ t.steps → (p : WidePlace) → t.progress.place ≡ p → Ended p
    unfolding most_steps
    none_left t g l (At s) e = let r = (room_at o z s e g.standing).0 in absurd (let n : ⊥ = omega (arith, g.steps) in n)
    none_left t g l Short e = tt
    none_left t g l Done e = tt

    one_left : (n : ℕ) (t : Tally) → Sound o t → most_steps o ≤ t.steps + suc n
        → ((u : Tally) → Sound o u → most_steps o ≤ u.steps + n → Ended (walk ms zs n u).progress.place) → (p : WidePlace) → t.progress.place ≡ p
        → Ended (walk ms zs n (spent ms zs p t)).progress.place
    one_left n t g l more (At s) e = more (spent ms zs (At s) t) (sound_step s e g) (omega arith)
    one_left n t g l more Short e = rw (stays n t (subst Ended (sym e) tt), e) tt
    one_left n t g l more Done e = rw (stays n t (subst Ended (sym e) tt), e) tt

    -- with as many steps left as it has yet to take at most, it ends
    pub ends : (n : ℕ) (t : Tally) → Sound o t → most_steps o ≤ t.steps + n → Ended (walk ms zs n t).progress.place
    unfolding walk
    ends zero t g l = none_left t g (omega arith) t.progress.place refl
    ends (suc n) t g l = one_left n t g l (λ u h b. ends n u h b) t.progress.place refl

  -- ---- the counters of the end

  module _ (ms zs : List ℕ) (h : Held) (lt : length h.table ≡ table_bytes o.shares o.rows (o.columns + 1)) (lx : length h.solution ≡ o.columns) where
    pub sound_end : Sound o (ended o ms zs h)
    sound_end = sound_walk ms zs (most_steps o) (sound_start h lt lx)

    pub end-ended : Ended (ended o ms zs h).progress.place
    end-ended = ends ms zs (most_steps o) (begun o h) (sound_start h lt lx) (omega arith)

    counted-at : (t : Tally) → Sound o t → (p : WidePlace) → t.progress.place ≡ p → Ended p
        → Counters o (listed t.progress.pivots) (ending_at p (counts_of t))
    unfolding sums taken_at steps_before pattern_list
    counted-at t g (At s) e d = absurd d
    counted-at t g Short e d =
        let st = rw e at g.standing.stood in
        rw (ne_eqb (length (listed t.progress.pivots)) o.rows (omega arith), g.steps, g.standing.mask, g.standing.nonzero, e)
    counted-at t g Done e d =
        let st = rw e at g.standing.stood in
        (st, rw (eq-eqb (length (listed t.progress.pivots)) o.rows st, g.steps, g.standing.mask, g.standing.nonzero, e))

    -- "Mask draws follow a sum over the public pivot pattern"
    pub solved_counters : Counters o (pattern_of o ms zs h) (solved o ms zs h).answer
    unfolding solved conclude pattern_of
    solved_counters = counted-at (ended o ms zs h) sound_end (ended o ms zs h).progress.place refl end-ended
