-- What one step call leaves a host with: all as it was, where it is refused; else the work of the record's step, and the next record.
-- Assumes nothing.
use mathlib.Core.Bool.{true}
use mathlib.Core.List.{List, append-nil}
use mathlib.Core.Logic.{◌⊎◌, inl, inr}
use mathlib.Core.Path.{◌≡◌, refl}
use Prim.Native.Nat.{ℕ}
use native.Mathlib.Nat.{add-zero}
use native.Mathlib.Omega.{arith}
use lib.ListN.{length}
use Rattle.course.specs.declared.Step.{Step}
use Rattle.course.specs.declared.Place.{Place}
use Rattle.course.specs.declared.Place.TheVariants.{At, Stopped, Done}
use Rattle.course.specs.declared.Order.{Order}
use Rattle.course.specs.StepList.{revealed_by}
use Rattle.course.specs.Next.{counted}
use Rattle.walk.specs.Act.{Held, step_leaves, opened, written, acted}
use Rattle.verdict.specs.Told.{Told, passed, refused, Line}
use Rattle.solver.specs.Refusals.{placed, ended, cost_at, no20, step_order}
use Rattle.verdict.specs.Calls.{refuses, call}
use Rattle.solver.specs.Calls.{step_does, step_call}
use Rattle.trace.specs.Driving.{Beside}
use Rattle.trace.specs.Trace.{Host, called, lends, host_after, order_in, Refused, Accepted}
use Rattle.verdict.proofs.Passes.{nine_says}
use Rattle.solver.proofs.Ready.{Going, going, going_matched, going_lifts}

-- a step writes the solution as 01 says
pub acted-written : (o : Order) (s : Step) (ds nz : List ℕ) (h : Held) → (acted o s ds nz h).solution ≡ written (revealed_by s) (opened o s ds h) h.solution
unfolding acted opened step_leaves
acted-written o s ds nz h = refl

module _ (h : Host) (c : Beside) where
  -- what the call's checks say
  abbrev pub verdict : Told
  verdict =
      step_order h.progress h.table h.solution (length c.mask) c.nonzero

  refused_says : (l : Line) → verdict ≡ refused l → (called h c).says ≡ refuses l
  unfolding called step_call call
  refused_says l e = rw e

  refused_call : (l : Line) → verdict ≡ refused l → Refused h c
  unfolding called step_call call host_after
  refused_call l e =
      record {
        line = l;
        says = refused_says l e;
        left = rw e;
        after = rw (e, add-zero, append-nil h.mask, append-nil h.nonzero);
      }

  accepted_at : (p : Place) → h.progress.place ≡ p → Going (order_in h) p h.table (length h.solution) (length c.mask) c.nonzero
      → counted h.progress ≡ true → no20 (order_in h) p h.solution ≡ passed → verdict ≡ passed → (s : Step) × Accepted h c s
  unfolding called step_call call step_does host_after placed ended cost_at
  accepted_at (At s) e w k b v = (
    s,
    record {
      place = e;
      listed = w.at.listed;
      matched = k;
      table = w.at.whole;
      elements = w.elements;
      solution = w.at.room;
      lifts = b;
      mask = w.lent.masks;
      nonzero = w.lent.others;
      drawn = nine_says (order_in h).field c.nonzero w.lent.nonzeros;
      says = rw (v, e);
      after = rw (v, e, acted-written (order_in h) s c.mask c.nonzero (lends h));
    },
  )
  accepted_at (Stopped j) e w k b v =
      let g = w.at.going in
      let z : ◌≡◌ {A = ℕ} 0 1 = cc in
      absurd (let n : ⊥ = omega arith in n)
  accepted_at Done e w k b v =
      let g = w.at.going in
      let z : ◌≡◌ {A = ℕ} 0 1 = cc in
      absurd (let n : ⊥ = omega arith in n)

  pub accepted_call : verdict ≡ passed → (s : Step) × Accepted h c s
  accepted_call e =
      accepted_at h.progress.place refl
      (going h.progress h.table h.solution (length c.mask) c.nonzero e)
      (going_matched h.progress h.table h.solution (length c.mask) c.nonzero e)
      (going_lifts h.progress h.table h.solution (length c.mask) c.nonzero e) e

  by_verdict : (v : Told) → verdict ≡ v → Refused h c ⊎ ((s : Step) × Accepted h c s)
  by_verdict passed e = inr (accepted_call e)
  by_verdict (refused l) e = inl (refused_call l e)

  -- there is no other call
  pub each-call : Refused h c ⊎ ((s : Step) × Accepted h c s)
  each-call = by_verdict verdict refl

  refusal_by : (v : Told) → verdict ≡ v → (l : Line) → (called h c).says ≡ refuses l → v ≡ refused l
  refusal_by passed e l g =
      let a = (accepted_call e).1.says in
      let z : ◌≡◌ {A = ℕ} 0 1 = cc in
      absurd (let n : ⊥ = omega arith in n)
  refusal_by (refused k) e l g = let r = refused_says k e in cc

  -- what a call is refused with is what its checks say
  pub refusal : (l : Line) → (called h c).says ≡ refuses l → verdict ≡ refused l
  refusal l g = refusal_by verdict refl l g
