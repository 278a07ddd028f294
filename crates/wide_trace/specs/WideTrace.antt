-- 02, R-8: demand 3 of the wide calls. Its host has a record from Start, a table and one solution, and all three are touched by step calls alone. It
-- makes as many calls as it likes, each with whatever it lends beside these three, and refused ones among them. Here is what it has after such
-- calls, and what is then true of it; proofs/Run.antt and proofs/Progress.antt prove it. "Mask draws follow a sum over the public pivot pattern,
-- and that takes demand 3's stopping column's place."
-- Assumes nothing.
use Rattle.std.specs.Prelude.{true, false, List, [], ◌++◌, ◌≡◌, ℕ, ◌+◌, ◌-◌, ◌≤◌, ◌<◌, length, get_or, replicate}
use Rattle.field.specs.Field.{field_of}
use Rattle.sharing.specs.Lists.{Below}
use Rattle.course.specs.declared.Step.{Step}
use Rattle.course.specs.declared.Counts.{Counts}
use Rattle.course.specs.StepList.{revealed_by}
use Rattle.walk.specs.Act.{Held, held, written}
use Rattle.pattern.specs.declared.WideOrder.{WideOrder}
use Rattle.pattern.specs.declared.WidePlace.{WidePlace}
use Rattle.pattern.specs.declared.WidePlace.TheVariants.{At, Short, Done}
use Rattle.pattern.specs.declared.WideProgress.{WideProgress}
use Rattle.pattern.specs.Pivots.{has, listed}
use Rattle.pattern.specs.PatternList.{mask_cost, nonzero_cost, pattern_list, sums, before_step}
use Rattle.pattern.specs.Next.{start_of, moved_on, placed, counted}
use Rattle.wide_walk.specs.declared.WideEnding.{WideEnding}
use Rattle.wide_walk.specs.declared.WideEnding.TheVariants as E
use Rattle.wide_walk.specs.WideWalk.{opened, acted}
use Rattle.verdict.specs.Told.{Line, passed}
use Rattle.verdict.specs.Calls.{refuses, gives, Outcome}
use Rattle.wide.specs.WideRefusals.{whole_table, no20}
use Rattle.wide.specs.declared.WideStride.{WideStride}
use Rattle.wide.specs.WideCalls.{tells, Lent, lent, step_call}
use Rattle.trace.specs.Driving.{Beside, accepts, uses, NoneZero, drive_by, driven_by}
use Rattle.trace.specs.Numbers.{Among}

-- what a host has: the record, the table and the solution; how many calls were accepted; and the draws lent to those calls, in order
pub record Host : Type 0 where
  pub progress : WideProgress
  pub table : List ℕ
  pub solution : List ℕ
  pub steps : ℕ
  pub mask : List ℕ
  pub nonzero : List ℕ

-- a record from Start, any table, and any solution
abbrev pub begin : WideOrder → List ℕ → List ℕ → Host
begin o t x = record { progress = start_of o; table = t; solution = x; steps = 0; mask = []; nonzero = [] }

abbrev pub lends : Host → Held
lends h = held h.table h.solution

-- one step call
unfoldable pub called : Host → Beside → Outcome WideStride Lent
called h c = step_call h.progress (lends h) c.mask c.nonzero

abbrev pub noted : Host → Beside → Outcome WideStride Lent → Host
noted h c r =
    record {
      progress = r.left.progress;
      table = r.left.held.table;
      solution = r.left.held.solution;
      steps = h.steps + accepts r.says;
      mask = h.mask ++ uses r.says c.mask;
      nonzero = h.nonzero ++ uses r.says c.nonzero;
    }

unfoldable pub host_after : Host → Beside → Host
host_after h c = noted h c (called h c)

-- any calls, one after the other; and k calls of a host that lends what `lend` makes of what it has
abbrev pub drive : Host → List Beside → Host
drive h cs = drive_by host_after h cs

abbrev pub driven : (Host → Beside) → ℕ → Host → Host
driven lend k h = driven_by host_after lend k h

abbrev pub order_in : Host → WideOrder
order_in h = h.progress.order

-- the pivots found so far
abbrev pub pivots_in : Host → List ℕ
pivots_in h = listed h.progress.pivots

-- what a call at step s opens
abbrev pub opened_in : Host → Beside → Step → ℕ
opened_in h c s = opened (order_in h) (pivots_in h) s c.mask (lends h)

-- the record after step s
abbrev pub moved_in : Host → Beside → Step → WideProgress
moved_in h c s = moved_on h.progress s (opened_in h c s)

-- step s done on the lent parts: the table share for share, and of the solution no more than `written` says
abbrev pub stepped : Host → Beside → Step → Host
stepped h c s =
    record {
      progress = moved_in h c s;
      table = (acted (order_in h) (pivots_in h) s c.mask c.nonzero (lends h)).table;
      solution = written (revealed_by s) (opened_in h c s) h.solution;
      steps = h.steps + 1;
      mask = h.mask ++ c.mask;
      nonzero = h.nonzero ++ c.nonzero;
    }

-- 1. A call that was refused has changed nothing. One that was accepted did the step of the record's place, which its pivots can have and whose
-- draws its counters had, on a whole table of which every byte is an element, on exactly the step's draws, and on nonzero draws that are not 0;
-- and a Lift on an element
pub record Refused (h : Host) (c : Beside) : Type 0 where
  pub line : Line
  pub says : (called h c).says ≡ refuses line
  pub left : (called h c).left ≡ lent h.progress (lends h)
  pub after : host_after h c ≡ h

pub record Accepted (h : Host) (c : Beside) (s : Step) : Type 0 where
  pub place : h.progress.place ≡ At s
  pub listed : placed h.progress ≡ true
  pub matched : counted h.progress ≡ true
  pub table : length h.table ≡ whole_table (order_in h)
  pub elements : Below (field_of (order_in h).field).q h.table
  pub solution : length h.solution ≡ (order_in h).columns
  pub lifts : no20 (order_in h) (At s) h.solution ≡ passed
  pub mask : length c.mask ≡ mask_cost (order_in h) s
  pub nonzero : length c.nonzero ≡ nonzero_cost (order_in h) s
  pub drawn : NoneZero (order_in h).field c.nonzero
  pub says : (called h c).says ≡ gives (tells (revealed_by s) (opened_in h c s) (moved_in h c s).place)
  pub after : host_after h c ≡ stepped h c s

-- the accepted calls and the draws that they were lent
abbrev pub counts_in : Host → Counts
counts_in h = record { steps = h.steps; mask = length h.mask; nonzero = length h.nonzero }

-- 2. They are the sums over the pattern's list, by the pivots ps found so far: over the steps before the place; and where it has ended, over the
-- whole list of the pattern, which is short or has a pivot for each row
abbrev pub Counted : WideOrder → Counts → List ℕ → WidePlace → Type 0
Counted o c ps (At s) = c ≡ sums o (before_step o.rows ps s)
Counted o c ps Short = (length ps < o.rows) × (c ≡ sums o (pattern_list o.rows o.columns ps))
Counted o c ps Done = (length ps ≡ o.rows) × (c ≡ sums o (pattern_list o.rows o.columns ps))

-- and the record's own counters are the draws that were lent
pub record Recorded (h : Host) : Type 0 where
  pub mask : h.progress.mask ≡ length h.mask
  pub nonzero : h.progress.nonzero ≡ length h.nonzero

-- 3. At an end, a whole solve leaves the host's table, and reports its counts, Short or Solved. "On short the whole solve writes zeros; single
-- steps write no solution [..]. Otherwise they write pivot places only": y is the solution that the host began with
pub record Shorts (o : WideOrder) (y : List ℕ) (h : Host) (r : Outcome WideEnding Held) : Type 0 where
  pub table : r.left.table ≡ h.table
  pub zeros : r.left.solution ≡ replicate o.columns 0
  pub unwritten : h.solution ≡ y
  pub says : r.says ≡ gives (E.Short (counts_in h))

pub record Solves (y : List ℕ) (h : Host) (r : Outcome WideEnding Held) : Type 0 where
  pub table : r.left.table ≡ h.table
  pub pivots : (c : ℕ) → has (pivots_in h) c ≡ true → get_or r.left.solution (c - 1) 0 ≡ get_or h.solution (c - 1) 0
  pub zeros : (c : ℕ) → 1 ≤ c → has (pivots_in h) c ≡ false → get_or r.left.solution (c - 1) 0 ≡ 0
  pub unwritten : (c : ℕ) → 1 ≤ c → has (pivots_in h) c ≡ false → get_or h.solution (c - 1) 0 ≡ get_or y (c - 1) 0
  pub says : r.says ≡ gives (E.Solved (counts_in h))

abbrev pub Agrees : WideOrder → List ℕ → Host → Outcome WideEnding Held → WidePlace → Type 0
Agrees o y h r (At s) = Unit
Agrees o y h r Short = Shorts o y h r
Agrees o y h r Done = Solves y h r

-- 4. A call that is refused has one of these numbers; or it has not the number k
abbrev pub Only : List ℕ → Host → Beside → Type 0
Only ns h c = (l : Line) → (called h c).says ≡ refuses l → Among ns l

abbrev pub Never : ℕ → Host → Beside → Type 0
Never k h c = (l : Line) → (called h c).says ≡ refuses l → l.number ≡ k → ⊥

-- 5. What a first table and solution, and what a call at step s, must be to be admitted: the table is whole and of elements; the solution has a
-- byte for each column, any; the tapes' parts are exactly the step's draws, and no nonzero one is 0
pub record Admitted (o : WideOrder) (t x : List ℕ) : Type 0 where
  pub whole : length t ≡ whole_table o
  pub elements : Below (field_of o.field).q t
  pub places : length x ≡ o.columns

pub record Fit (o : WideOrder) (s : Step) (c : Beside) : Type 0 where
  pub mask : length c.mask ≡ mask_cost o s
  pub nonzero : length c.nonzero ≡ nonzero_cost o s
  pub drawn : NoneZero o.field c.nonzero

-- a host that lends what the step asks for, at each step that it comes to
pub record Supplies (o : WideOrder) (first : Host) (lend : Host → Beside) : Type 0 where
  pub fit : (k : ℕ) (s : Step) → (driven lend k first).progress.place ≡ At s → Fit o s (lend (driven lend k first))
