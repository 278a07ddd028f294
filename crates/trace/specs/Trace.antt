-- Demand 3's host. It has a record from Start and a table, and both are touched only by step calls; and 02, R-7: "those step calls all lend one
-- solution, which nothing else touches". It makes as many calls as it likes, each with whatever it lends beside these three, and refused ones
-- among them. Its tapes need not be one piece: what counts is the draws that it lends to accepted calls. Here is what it has after such calls,
-- and what is then true of it; proofs/Trace.antt and proofs/Progress.antt prove it.
-- Assumes nothing.
use Rattle.std.specs.Prelude.{true, List, [], ◌∷◌, ◌++◌, ◌≡◌, ℕ, ◌+◌, ◌≤◌, length}
use Rattle.field.specs.Field.{field_of}
use Rattle.sharing.specs.Lists.{Below}
use Rattle.course.specs.declared.Step.{Step}
use Rattle.course.specs.declared.Place.{Place}
use Rattle.course.specs.declared.Place.TheVariants.{At, Stopped, Done}
use Rattle.course.specs.declared.Order.{Order}
use Rattle.course.specs.declared.Progress.{Progress}
use Rattle.course.specs.declared.Counts.{Counts}
use Rattle.course.specs.StepList.{in_list, mask_cost, nonzero_cost, revealed_by, step_list, up_to, sums}
use Rattle.course.specs.Next.{order_of, moved_on, start_of, counted}
use Rattle.walk.specs.declared.Ending.{Ending}
use Rattle.walk.specs.declared.Ending.TheVariants as E
use Rattle.walk.specs.Act.{Held, held, opened, written, acted}
use Rattle.verdict.specs.Told.{Line, passed}
use Rattle.solver.specs.Refusals.{whole_table, no20}
use Rattle.verdict.specs.Calls.{refuses, gives, Outcome}
use Rattle.solver.specs.declared.Stride.{Stride}
use Rattle.solver.specs.Calls.{tells, Lent, lent, step_call}
use Rattle.trace.specs.Driving.{Beside, accepts, uses, drive_by, calls_by, driven_by, NoneZero}
use Rattle.trace.specs.Numbers.{Among}

-- what a host has: the record, the table and the solution; how many calls were accepted; and the draws lent to those calls, in order
pub record Host : Type 0 where
  pub progress : Progress
  pub table : List ℕ
  pub solution : List ℕ
  pub steps : ℕ
  pub mask : List ℕ
  pub nonzero : List ℕ

-- a record from Start, any table, and any solution
abbrev pub begin : Order → List ℕ → List ℕ → Host
begin o t x = record { progress = start_of o; table = t; solution = x; steps = 0; mask = []; nonzero = [] }

abbrev pub lends : Host → Held
lends h = held h.table h.solution

-- one step call
unfoldable pub called : Host → Beside → Outcome Stride Lent
called h c = step_call h.progress (lends h) c.mask c.nonzero

abbrev pub noted : Host → Beside → Outcome Stride Lent → Host
noted h c r =
    record {
      progress = r.left.progress;
      table = r.left.held.table;
      solution = r.left.held.solution;
      steps = h.steps + accepts r.says;
      mask = h.mask ++ uses r.says c.mask;
      nonzero = h.nonzero ++ uses r.says c.nonzero;
    }

unfoldable pub host_after : Host → Beside → Host
host_after h c = noted h c (called h c)

-- any calls, one after the other
abbrev pub drive : Host → List Beside → Host
drive h cs = drive_by host_after h cs

abbrev pub order_in : Host → Order
order_in h = order_of h.progress

-- what a call at step s opens
abbrev pub opened_in : Host → Beside → Step → ℕ
opened_in h c s = opened (order_in h) s c.mask (lends h)

-- step s done on the lent parts, by the rules of the paper: the table share for share, and of the solution no more than `written` says
abbrev pub stepped : Host → Beside → Step → Host
stepped h c s =
    record {
      progress = moved_on h.progress s (opened_in h c s);
      table = (acted (order_in h) s c.mask c.nonzero (lends h)).table;
      solution = written (revealed_by s) (opened_in h c s) h.solution;
      steps = h.steps + 1;
      mask = h.mask ++ c.mask;
      nonzero = h.nonzero ++ c.nonzero;
    }

-- 1. A call that was refused has changed nothing. One that was accepted did the step of the record's place, whose draws its counters had, on a
-- whole table of which every byte is an element, on exactly the step's draws, and on nonzero draws that are not 0; and a Lift on an element
pub record Refused (h : Host) (c : Beside) : Type 0 where
  pub line : Line
  pub says : (called h c).says ≡ refuses line
  pub left : (called h c).left ≡ lent h.progress (lends h)
  pub after : host_after h c ≡ h

pub record Accepted (h : Host) (c : Beside) (s : Step) : Type 0 where
  pub place : h.progress.place ≡ At s
  pub listed : in_list h.progress.size s ≡ true
  pub matched : counted h.progress ≡ true
  pub table : length h.table ≡ whole_table (order_in h)
  pub elements : Below (field_of (order_in h).field).q h.table
  pub solution : length h.solution ≡ (order_in h).size
  pub lifts : no20 (order_in h) (At s) h.solution ≡ passed
  pub mask : length c.mask ≡ mask_cost (order_in h) s
  pub nonzero : length c.nonzero ≡ nonzero_cost (order_in h) s
  pub drawn : NoneZero (order_in h).field c.nonzero
  pub says : (called h c).says ≡ gives (tells (revealed_by s) (opened_in h c s))
  pub after : host_after h c ≡ stepped h c s

-- the accepted calls and the draws that they were lent
abbrev pub counts_in : Host → Counts
counts_in h = record { steps = h.steps; mask = length h.mask; nonzero = length h.nonzero }

-- 2. They are 01's sums: over the steps of the list before the place, up to and including the Check that stopped, or over the whole list
abbrev pub Counted : Order → Counts → Place → Type 0
Counted o c (At s) =
    (done : List Step) × (left : List Step) × (step_list o.size ≡ done ++ (s ∷ left)) × (c ≡ sums o done)
Counted o c (Stopped j) = (1 ≤ j) × (j ≤ o.size) × (c ≡ sums o (up_to o.size j))
Counted o c Done = c ≡ sums o (step_list o.size)

-- and the record's own counters are the draws that were lent
pub record Recorded (h : Host) : Type 0 where
  pub mask : h.progress.mask ≡ length h.mask
  pub nonzero : h.progress.nonzero ≡ length h.nonzero

-- 3. At an end, a whole solve leaves the host's table, and reports its counts and its stop; at done it leaves the host's solution too, byte for
-- byte
abbrev pub Agrees : Host → Outcome Ending Held → Place → Type 0
Agrees h r (At s) = Unit
Agrees h r (Stopped j) = (r.left.table ≡ h.table) × (r.says ≡ gives (E.Stopped j (counts_in h)))
Agrees h r Done = (r.left.table ≡ h.table) × (r.left.solution ≡ h.solution) × (r.says ≡ gives (E.Solved (counts_in h)))

-- 4. A call that is refused has one of these numbers; or it has not the number k
abbrev pub Only : List ℕ → Host → Beside → Type 0
Only ns h c = (l : Line) → (called h c).says ≡ refuses l → Among ns l

-- those by which a call of such a run can be refused, in Step's order: for what it lends, or because the record has ended
abbrev pub possible : List ℕ
possible = 4 ∷ 5 ∷ 11 ∷ 6 ∷ 7 ∷ 14 ∷ 8 ∷ 15 ∷ 9 ∷ []

abbrev pub Never : ℕ → Host → Beside → Type 0
Never k h c = (l : Line) → (called h c).says ≡ refuses l → l.number ≡ k → ⊥

-- 5. What a first table and solution, and what a call at step s, must be to be admitted: the table is whole and of elements; the solution has m
-- bytes, any; the tapes' parts are exactly the step's draws, and no nonzero one is 0
pub record Admitted (o : Order) (t x : List ℕ) : Type 0 where
  pub whole : length t ≡ whole_table o
  pub elements : Below (field_of o.field).q t
  pub places : length x ≡ o.size

pub record Fit (o : Order) (s : Step) (c : Beside) : Type 0 where
  pub mask : length c.mask ≡ mask_cost o s
  pub nonzero : length c.nonzero ≡ nonzero_cost o s
  pub drawn : NoneZero o.field c.nonzero

-- k calls of a host that lends what `lend` makes of what it has
abbrev pub calls : (Host → Beside) → ℕ → Host → List Beside
calls lend k h = calls_by host_after lend k h

abbrev pub driven : (Host → Beside) → ℕ → Host → Host
driven lend k h = driven_by host_after lend k h

-- a host that lends what the step asks for, at each step that it comes to
pub record Supplies (o : Order) (first : Host) (lend : Host → Beside) : Type 0 where
  pub fit : (k : ℕ) (s : Step) → (driven lend k first).progress.place ≡ At s → Fit o s (lend (driven lend k first))

abbrev pub Ended : Place → Type 0
Ended (At s) = ⊥
Ended (Stopped j) = Unit
Ended Done = Unit
