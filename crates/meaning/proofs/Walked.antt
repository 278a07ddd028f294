-- The walk over the step list performs it on the values, whatever the shares and the tapes are.
-- Assumes nothing.
use mathlib.Core.Path.{◌≡◌, sym, ap, ◌∙◌}
use mathlib.Core.Bool.{Bool, true, false}
use Prim.Native.Nat.{ℕ, ◌+◌, ◌-◌, ◌<◌, ◌≤◌}
use mathlib.Core.List.{List, [], ◌∷◌}
use native.Mathlib.Omega.{arith}
use native.Mathlib.Decide.{ℕ_discrete}
use lib.ListN.{length, get_or, drop}
use lib.Seq.{get_or-drop, get_or-set_same, get_or-set_other}
use lib.Dec.{eqb}
use borrow.Author.Tests.{eq-eqb, ne_eqb}
use Rattle.field.specs.Field.{pick, draw, field_of}
use Rattle.sharing.specs.Rules.{draw_at}
use Rattle.table.specs.Costs.{scale_nonzero}
use Rattle.table.specs.Layout.{table_bytes}
use Rattle.table.specs.Values.{value}
use Rattle.algebra.proofs.Column.{flag_yes, flag_no}
use Rattle.course.specs.declared.Step.{Step}
use Rattle.course.specs.declared.Step.TheVariants.{Mix, Check, Scale, Clear, Open, Lift}
use Rattle.course.specs.declared.Order.{Order}
use Rattle.course.specs.StepList.{step_list, cost_of, cost_in, nonzero_cost, revealed_by, sum_over, full_nonzero}
use Rattle.course.proofs.Within.{Within, within}
use Rattle.course.proofs.Members.{AllIn, all_in}
use Rattle.walk.specs.Act.{held, step_opens, step_leaves, opened, acted}
use Rattle.walk.specs.Walk.{Tally, Course, running, stopped, opened_at, spent, then, walk, fresh}
use Rattle.walk.proofs.Acted.{pivot, under, acted_sized, acted-places}
use Rattle.walk.proofs.Walked.{settle, then_settled}
use Rattle.meaning.specs.Meaning.{value_of}
use Rattle.meaning.specs.Claims.{NoZero}
use Rattle.meaning.proofs.Link.{value-lt, mix_link, check_link, scale_link, clear_link, opens_link, lift_link}
use Rattle.meaning.proofs.Listed as P
use Rattle.meaning.proofs.Listed.{Acts, Performs}

module _ (o : Order) where
  -- what holds before the steps l: the lengths, and that their nonzero draws are among those of a full solve
  pub record Sound (l : List Step) (t : Tally) : Type 0 where
    pub table : length t.left.table ≡ table_bytes o.shares o.size (o.size + 1)
    pub places : length t.left.solution ≡ o.size
    pub room : t.nonzero + sum_over (nonzero_cost o) l ≤ full_nonzero o

  -- the same of a walk that may have stopped
  abbrev pub SoundIn : List Step → Course → Type 0
  SoundIn l (running t) = Sound l t
  SoundIn l (stopped j t) = length t.left.solution ≡ o.size

  -- the walk's values, and the unknowns in its solution
  abbrev pub values_of : Course → P.Run
  values_of (running t) = P.going (value_of o t.left.table) (λ c. get_or t.left.solution (c - 1) 0)
  values_of (stopped j t) = P.halted j

module _ (o : Order) (some : 0 < o.shares) (ms zs : List ℕ) (nonzero : NoZero o zs) where
  abbrev m : ℕ
  m = o.size

  abbrev f : ℕ
  f = o.field

  abbrev n : ℕ
  n = o.shares

  -- one step

  drawn : (s : Step) (l : List Step) (t : Tally) → Sound o (s ∷ l) t → (k : ℕ) → k < nonzero_cost o s
      → draw_at (field_of f) (drop t.nonzero zs) k ≡ 0 → ⊥
  unfolding sum_over
  drawn s l t g k h e =
      nonzero (t.nonzero + k) (omega (arith, g.room)) (ap (draw (field_of f)) (sym (get_or-drop t.nonzero zs k 0)) ∙ e)

  after_sound : (s : Step) (l : List Step) → Within m s → (t : Tally) → Sound o (s ∷ l) t → Sound o l (spent o ms zs s t)
  unfolding sum_over
  after_sound s l u t g =
      record {
        table = acted_sized o s u (drop t.mask ms) (drop t.nonzero zs) t.left g.table;
        places = acted-places o s (drop t.mask ms) (drop t.nonzero zs) t.left ∙ g.places;
        room = omega (arith, g.room);
      }

  settle_sound : (s : Step) (l : List Step) (x : ℕ) (t : Tally) → Sound o l t → SoundIn o l (settle (revealed_by s) x t)
  unfolding revealed_by
  settle_sound (Mix j k) l x t g = g
  settle_sound (Check j) l x t g = go (eqb x 1)
    where
      go : (b : Bool) → SoundIn o l (pick b (stopped j t) (running t))
      go true = g.places
      go false = g
  settle_sound (Scale j) l x t g = g
  settle_sound (Clear j k) l x t g = g
  settle_sound (Open j) l x t g = g
  settle_sound (Lift j) l x t g = g

  next_sound : (s : Step) (l : List Step) → Within m s → (c : Course) → SoundIn o (s ∷ l) c → SoundIn o l (then o ms zs s c)
  next_sound s l u (running t) g =
      rw (then_settled o ms zs s t) (settle_sound s l (opened_at o ms zs s t) (spent o ms zs s t) (after_sound s l u t g))
  next_sound s l u (stopped j t) g = g

  step_acts : (s : Step) (l : List Step) → Within m s → (t : Tally) → Sound o (s ∷ l) t
      → Acts (field_of f) m s (values_of o (running t)) (values_of o (settle (revealed_by s) (opened_at o ms zs s t) (spent o ms zs s t)))
  unfolding acted opened step_leaves step_opens revealed_by cost_of cost_in scale_nonzero value_of value
  step_acts (Mix j k) l u t g =
      P.mixed (value-lt o _)
      (mix_link f n m (m + 1) some t.left.table g.table (pivot u.0 (omega arith)) (under u.0 u.1 u.2) (drop t.mask ms))
  step_acts (Check j) l u t g =
      let e = check_link f n m (m + 1) some t.left.table g.table (pivot u.0 u.1) (drop t.mask ms) in
      elim (ℕ_discrete (value_of o t.left.table j j) 0) [
        | yes z ↦ rw (eq-eqb (opened_at o ms zs (Check j) t) 1 (e ∙ flag_yes z)) (P.halts z)
        | no n ↦
            let x : opened_at o ms zs (Check j) t ≡ 0 = e ∙ flag_no n in
            rw (ne_eqb (opened_at o ms zs (Check j) t) 1 (λ y. omega arith)) (P.passed n)
      ]
  step_acts (Scale j) l u t g =
      P.scaled (value-lt o _)
      (scale_link f n m (m + 1) some t.left.table g.table (pivot u.0 u.1) (drop t.nonzero zs) (drop t.mask ms) (drawn (Scale j) l t g))
  step_acts (Clear j k) l u t g =
      P.cleared (value-lt o _)
      (clear_link f n m (m + 1) some t.left.table g.table (pivot u.0 (omega arith)) (under u.0 u.1 u.2) (drop t.mask ms))
  step_acts (Open j) l u t g =
      let x : ℕ = opened_at o ms zs (Open j) t in
      let e : x ≡ value_of o t.left.table j (m + 1) =
      opens_link f n m (m + 1) some t.left.table g.table (pivot u.0 u.1) (drop t.mask ms) in
      P.opened (get_or-set_same t.left.solution (j - 1) x 0 (omega (arith, u.0, u.1, g.places)) ∙ e)
      (λ i a b. get_or-set_other t.left.solution (j - 1) (i - 1) x 0 (omega (arith, u.0)))
  step_acts (Lift j) l u t g = P.lifted (lift_link f n m (m + 1) some t.left.table g.table (pivot (omega arith) u.1) (get_or t.left.solution (j - 1) 0))

  next_acts : (s : Step) (l : List Step) → Within m s → (c : Course) → SoundIn o (s ∷ l) c
      → Acts (field_of f) m s (values_of o c) (values_of o (then o ms zs s c))
  next_acts s l u (running t) g = rw (then_settled o ms zs s t) (step_acts s l u t g)
  next_acts s l u (stopped j t) g = P.over

  -- a list of steps

  walk_performs : (l : List Step) → AllIn m l → (c : Course) → SoundIn o l c
      → Performs (field_of f) m l (values_of o c) (values_of o (walk o ms zs l c))
  unfolding walk
  walk_performs [] a c g = P.none
  walk_performs (s ∷ l) a c g =
      let u : Within m s = within m s a.0 in
      P.more (next_acts s l u c g) (walk_performs l a.1 (then o ms zs s c) (next_sound s l u c g))

  walk_sound : (l : List Step) → AllIn m l → (c : Course) → SoundIn o l c → SoundIn o [] (walk o ms zs l c)
  unfolding walk
  walk_sound [] a c g = g
  walk_sound (s ∷ l) a c g = walk_sound l a.1 (then o ms zs s c) (next_sound s l (within m s a.0) c g)

  -- the whole list

  module _ (t x : List ℕ) (lt : length t ≡ table_bytes o.shares m (m + 1)) (lx : length x ≡ m) where
    begin : SoundIn o (step_list m) (running (fresh (held t x)))
    begin = record { table = lt; places = lx; room = omega arith }

    pub walked : Performs (field_of f) m (step_list m) (values_of o (running (fresh (held t x))))
        (values_of o (walk o ms zs (step_list m) (running (fresh (held t x)))))
    walked = walk_performs (step_list m) (all_in m) (running (fresh (held t x))) begin

    pub walked_sound : SoundIn o [] (walk o ms zs (step_list m) (running (fresh (held t x))))
    walked_sound = walk_sound (step_list m) (all_in m) (running (fresh (held t x))) begin
