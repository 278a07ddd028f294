-- 02, R-8: the record of a wide solve, which "also keeps the pivots found", its next place, and the places that its pivots can have.
-- Assumes nothing.
use Rattle.std.specs.Prelude.{Bool, ◌&&◌, List, [], ℕ, ◌+◌, ◌-◌, ltb, leb, eqb, length, get_or, replicate}
use Rattle.field.specs.Field.{pick}
use Rattle.sharing.specs.Bounds.{most_rows}
use Rattle.course.specs.declared.Step.{Step}
use Rattle.course.specs.declared.Step.TheVariants.{Mix, Check, Scale, Clear, Open, Lift}
use Rattle.pattern.specs.declared.Pivots.{Pivots}
use Rattle.pattern.specs.declared.WideOrder.{WideOrder}
use Rattle.pattern.specs.declared.WidePlace.{WidePlace}
use Rattle.pattern.specs.declared.WidePlace.TheVariants.{At, Short, Done}
use Rattle.pattern.specs.declared.WideProgress.{WideProgress}
use Rattle.pattern.specs.Pivots.{before, last, has, ascends, zeros, listed, unused, with}
use Rattle.pattern.specs.PatternList.{mask_cost, nonzero_cost, taken_at}

-- where a column is done and j is next: "on the next row without a pivot, until rows or columns run out"
unfoldable pub next_column : ℕ → ℕ → List ℕ → ℕ → WidePlace
next_column rows columns ps j =
    pick (leb rows (length ps)) (At (Open (last ps)))
    (pick (ltb columns j) Short (pick (ltb (length ps + 1) rows) (At (Mix j (length ps + 2))) (At (Check j))))

-- the place after a step that opened x, by the pivots found up to and with it. "A column whose Check opens 1 is passed over"; after the last
-- step of a column comes the next column; "Open and Lift take the pivot columns from the last back (no Lift for the first)"
unfoldable pub following : ℕ → ℕ → List ℕ → Step → ℕ → WidePlace
following rows columns ps (Mix j k) x = pick (ltb k rows) (At (Mix j (k + 1))) (At (Check j))
following rows columns ps (Check j) x = pick (eqb x 1) (next_column rows columns ps (j + 1)) (At (Scale j))
following rows columns ps (Scale j) x = pick (ltb (length ps) rows) (At (Clear j (length ps + 1))) (next_column rows columns ps (j + 1))
following rows columns ps (Clear j k) x = pick (ltb k rows) (At (Clear j (k + 1))) (next_column rows columns ps (j + 1))
following rows columns ps (Open j) x = pick (eqb (before ps j) 0) Done (At (Lift j))
following rows columns ps (Lift j) x = At (Open (get_or ps (before ps j - 1) 0))

-- column j is a pivot once its Check opened 0
unfoldable pub found_by : Step → ℕ → Pivots → Pivots
found_by (Mix j k) x v = v
found_by (Check j) x v = pick (eqb x 1) v (with v j)
found_by (Scale j) x v = v
found_by (Clear j k) x v = v
found_by (Open j) x v = v
found_by (Lift j) x v = v

-- a fresh record: no pivot is found, and nothing is taken
unfoldable pub start_of : WideOrder → WideProgress
start_of o =
    record {
      order = o;
      place = next_column o.rows o.columns [] 1;
      mask = 0;
      nonzero = 0;
      pivots = record { found = 0; columns = replicate most_rows 0 };
    }

-- moved on from step s, which opened x: the step's draws are added
unfoldable pub moved_on : WideProgress → Step → ℕ → WideProgress
moved_on p s x =
    let o = p.order in
    let v = found_by s x p.pivots in
    record {
      order = o;
      place = following o.rows o.columns (listed v) s x;
      mask = p.mask + mask_cost o s;
      nonzero = p.nonzero + nonzero_cost o s;
      pivots = v;
    }

-- ---- refusal 10: "10 covers pivots that its place can't have"

-- pivots that some place has: no more than there are rows, ascending among the columns, and 0 in the slots that are not used
unfoldable pub kept : WideOrder → Pivots → Bool
kept o v = (leb v.found o.rows && ascends 0 o.columns (listed v)) && zeros (unused v)

-- and the places of such pivots, which are ps: before column j has its pivot all found stand before it and there is a row left; from Scale on it
-- is the last of them; and Open and Lift have a pivot for each row
unfoldable pub stands : WideOrder → List ℕ → WidePlace → Bool
stands o ps (At (Mix j k)) =
    (ltb (last ps) j && leb j o.columns) && (ltb (length ps + 1) k && leb k o.rows)
stands o ps (At (Check j)) = (ltb (last ps) j && leb j o.columns) && ltb (length ps) o.rows
stands o ps (At (Scale j)) = leb 1 j && eqb (last ps) j
stands o ps (At (Clear j k)) = (leb 1 j && eqb (last ps) j) && (ltb (length ps) k && leb k o.rows)
stands o ps (At (Open j)) = eqb (length ps) o.rows && has ps j
stands o ps (At (Lift j)) = eqb (length ps) o.rows && (has ps j && leb 1 (before ps j))
stands o ps Short = ltb (length ps) o.rows
stands o ps Done = eqb (length ps) o.rows

unfoldable pub placed : WideProgress → Bool
placed p = kept p.order p.pivots && stands p.order (listed p.pivots) p.place

-- ---- refusal 19: the counters match the pattern so far

unfoldable pub counted : WideProgress → Bool
counted p =
    let d = taken_at p.order (listed p.pivots) p.place in
    eqb p.mask d.mask && eqb p.nonzero d.nonzero
