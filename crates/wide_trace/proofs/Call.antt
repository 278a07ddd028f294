-- What one wide step call leaves a host with: all as it was, where it is refused; else the work of the record's step, and the next record.
-- Assumes nothing.
use mathlib.Core.List.{List, append-nil}
use mathlib.Core.Logic.{◌⊎◌, inl, inr}
use mathlib.Core.Path.{◌≡◌, refl}
use Prim.Native.Nat.{ℕ}
use native.Mathlib.Nat.{add-zero}
use native.Mathlib.Omega.{arith}
use lib.ListN.{length}
use Rattle.course.specs.declared.Step.{Step}
use Rattle.course.specs.StepList.{revealed_by}
use Rattle.walk.specs.Act.{Held, step_leaves, written}
use Rattle.pattern.specs.declared.WideOrder.{WideOrder}
use Rattle.pattern.specs.declared.WidePlace.{WidePlace}
use Rattle.pattern.specs.declared.WidePlace.TheVariants.{At, Short, Done}
use Rattle.wide_walk.specs.WideWalk.{opened, acted}
use Rattle.verdict.specs.Told.{Told, passed, refused, Line}
use Rattle.verdict.specs.Calls.{refuses, call}
use Rattle.verdict.proofs.Passes.{nine_says}
use Rattle.wide.specs.WideRefusals.{ended, cost_at, step_order}
use Rattle.wide.specs.WideCalls.{step_does, step_call}
use Rattle.wide.proofs.Ready.{Going, going}
use Rattle.trace.specs.Driving.{Beside}
use Rattle.wide_trace.specs.WideTrace.{Host, called, lends, host_after, order_in, Refused, Accepted}

-- a step writes the solution as 01 says
pub acted-written : (o : WideOrder) (ps : List ℕ) (s : Step) (ds nz : List ℕ) (h : Held)
    → (acted o ps s ds nz h).solution ≡ written (revealed_by s) (opened o ps s ds h) h.solution
unfolding acted opened step_leaves
acted-written o ps s ds nz h = refl

module _ (h : Host) (c : Beside) where
  -- what the call's checks say
  abbrev pub verdict : Told
  verdict = step_order h.progress h.table h.solution (length c.mask) c.nonzero

  refused_says : (l : Line) → verdict ≡ refused l → (called h c).says ≡ refuses l
  unfolding called step_call call
  refused_says l e = rw e

  steps_kept : {k : ℕ} → k ≡ h.steps
      → ◌≡◌ {A = Host} (record { progress = h.progress; table = h.table; solution = h.solution; steps = k; mask = h.mask; nonzero = h.nonzero }) h
  steps_kept e = rw e

  refused_call : (l : Line) → verdict ≡ refused l → Refused h c
  unfolding called step_call call host_after
  refused_call l e =
      record {
        line = l;
        says = refused_says l e;
        left = rw e;
        after = rw (e, append-nil h.mask, append-nil h.nonzero) (steps_kept (add-zero h.steps));
      }

  accepted_at : (p : WidePlace) → h.progress.place ≡ p → Going h.progress h.table h.solution (length c.mask) c.nonzero
      → verdict ≡ passed → (s : Step) × Accepted h c s
  unfolding called step_call call step_does host_after ended cost_at
  accepted_at (At s) e w v = (
    s,
    record {
      place = e;
      listed = w.at.stood.listed;
      matched = w.at.stood.matched;
      table = w.at.whole;
      elements = w.elements;
      solution = w.at.room;
      lifts = rw e at w.lifts;
      mask = rw e at w.lent.masks;
      nonzero = rw e at w.lent.others;
      drawn = nine_says (order_in h).field c.nonzero w.lent.nonzeros;
      says = rw (v, e);
      after = rw (v, e, acted-written (order_in h) _ s c.mask c.nonzero (lends h));
    },
  )
  accepted_at Short e w v =
      let g = rw e at w.at.stood.going in
      let z : ◌≡◌ {A = ℕ} 0 1 = cc in
      absurd (let n : ⊥ = omega arith in n)
  accepted_at Done e w v =
      let g = rw e at w.at.stood.going in
      let z : ◌≡◌ {A = ℕ} 0 1 = cc in
      absurd (let n : ⊥ = omega arith in n)

  pub accepted_call : verdict ≡ passed → (s : Step) × Accepted h c s
  accepted_call e =
      accepted_at h.progress.place refl (going h.progress h.table h.solution (length c.mask) c.nonzero e) e

  by_verdict : (v : Told) → verdict ≡ v → Refused h c ⊎ ((s : Step) × Accepted h c s)
  by_verdict passed e = inr (accepted_call e)
  by_verdict (refused l) e = inl (refused_call l e)

  -- there is no other call
  pub each-call : Refused h c ⊎ ((s : Step) × Accepted h c s)
  each-call = by_verdict verdict refl

  refusal_by : (v : Told) → verdict ≡ v → (l : Line) → (called h c).says ≡ refuses l → v ≡ refused l
  refusal_by passed e l g =
      let a = (accepted_call e).1.says in
      let z : ◌≡◌ {A = ℕ} 0 1 = cc in
      absurd (let n : ⊥ = omega arith in n)
  refusal_by (refused k) e l g = let r = refused_says k e in cc

  -- what a call is refused with is what its checks say
  pub refusal : (l : Line) → (called h c).says ≡ refuses l → verdict ≡ refused l
  refusal l g = refusal_by verdict refl l g
