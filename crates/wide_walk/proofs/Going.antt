-- What holds at every turn of the code's loop: the solve is sound, and with the steps that are left it comes to the end of the whole solve.
-- Assumes nothing.
use mathlib.Core.Bool.{true}
use mathlib.Core.List.{List}
use mathlib.Core.Path.{◌≡◌, sym, ap, ◌∙◌, subst}
use Prim.Native.Nat.{ℕ, suc, ◌<◌, ◌≤◌, ◌+◌, ◌-◌, ◌*◌}
use native.Mathlib.Omega.{arith}
use native.Mathlib.Nat.{mul-le-mul}
use lib.ListN.{length, drop, replicate, length-replicate}
use Rattle.table.specs.Layout.{table_bytes}
use Rattle.course.specs.declared.Step.{Step}
use Rattle.walk.specs.Act.{Held, held}
use Rattle.pattern.specs.declared.WideOrder.{WideOrder}
use Rattle.pattern.specs.declared.WidePlace.{WidePlace}
use Rattle.pattern.specs.declared.WidePlace.TheVariants.{At}
use Rattle.pattern.specs.declared.WideProgress.{WideProgress}
use Rattle.pattern.specs.Pivots.{listed}
use Rattle.pattern.specs.PatternList.{Sizes, mask_cost, nonzero_cost, wanted}
use Rattle.pattern.specs.Next.{start_of, moved_on, kept, stands}
use Rattle.pattern.proofs.Standing.{kept_so, stands_so}
use Rattle.pattern.proofs.Moving.{Standing, room_at}
use Rattle.wide_walk.specs.WideWalk.{Tally, opened, acted, spent, walk, most_steps, counts_of, ending_at, leaves, conclude, begun, ended, Ended}
use Rattle.wide_walk.proofs.Walked.{Sound, sound_start, sound_step, stays}

abbrev pub tally : WideProgress → Held → ℕ → Tally
tally p h k = record { progress = p; left = h; steps = k }

pub record Going (o : WideOrder) (ms zs : List ℕ) (goal : Tally) (t : Tally) : Type 0 where
  pub sound : Sound o t
  pub same : walk ms zs (most_steps o - t.steps) t ≡ goal

module _ (o : WideOrder) (z : Sizes o) (ms zs : List ℕ) where
  pub begin : (h : Held) → length h.table ≡ table_bytes o.shares o.rows (o.columns + 1) → length h.solution ≡ o.columns
      → Going o ms zs (ended o ms zs h) (begun o h)
  begin h lt lx =
      record { sound = sound_start o z h lt lx; same = let e : most_steps o - 0 ≡ most_steps o = omega arith in rw e }

  module _ {goal t : Tally} (g : Going o ms zs goal t) where
    -- a step has its draws, and is one of the most that there can be
    pub room : (s : Step) → t.progress.place ≡ At s
        → (t.steps < most_steps o) × (t.progress.mask + mask_cost o s ≤ (wanted o).mask) × (t.progress.nonzero + nonzero_cost o s ≤ (wanted o).nonzero)
    unfolding most_steps
    room s e = let r = room_at o z s e g.sound.standing in (omega (arith, r.0, g.sound.steps), r.1, r.2)

    one_more : (s : Step) → t.progress.place ≡ At s → (n : ℕ) → walk ms zs (suc n) t ≡ walk ms zs n (spent ms zs (At s) t)
    unfolding walk
    one_more s e n = rw e

    turn : (s : Step) → t.progress.place ≡ At s → Going o ms zs goal (spent ms zs (At s) t)
    turn s e =
        let k : most_steps o - t.steps ≡ suc (most_steps o - (t.steps + 1)) = let r = (room s e).0 in omega arith in
        record { sound = sound_step o z ms zs s e g.sound; same = sym (one_more s e (most_steps o - (t.steps + 1))) ∙ rw k at g.same }

    -- a step is taken, each part of it by an equation
    pub moved : (s : Step) → t.progress.place ≡ At s → {x : ℕ} {q : WideProgress} {u : Held}
        → x ≡ opened o (listed t.progress.pivots) s (drop t.progress.mask ms) t.left → q ≡ moved_on t.progress s x
        → u ≡ acted o (listed t.progress.pivots) s (drop t.progress.mask ms) (drop t.progress.nonzero zs) t.left
        → Going o ms zs goal (tally q u (t.steps + 1))
    moved s e x q u =
        rw (q, u, x)
        (subst (λ (r : WideOrder). Going o ms zs goal (tally (moved_on t.progress s (opened r (listed t.progress.pivots) s (drop t.progress.mask ms) t.left)) (acted r (listed t.progress.pivots) s (drop t.progress.mask ms) (drop t.progress.nonzero zs) t.left) (t.steps + 1)))
        g.sound.standing.order (turn s e))

    -- the end
    pub halted : Ended t.progress.place → t ≡ goal
    halted d = sym (stays o z ms zs (most_steps o - t.steps) t d) ∙ g.same

-- what the code asks of a sound solve's record at a step
pub tests : (o : WideOrder) (p : WideProgress) (s : Step) → p.place ≡ At s → Standing o p
    → (kept o p.pivots ≡ true) × (stands o (listed p.pivots) (At s) ≡ true)
tests o p s e g = (kept_so o p.pivots g.kept, stands_so o (listed p.pivots) (At s) (rw e at g.stood))

-- no count is large
pub most_few : (o : WideOrder) → Sizes o → most_steps o ≤ 145 * 192
unfolding most_steps
most_few o z = mul-le-mul {n₁ = o.columns + 1} {m₁ = 2 * o.rows} {n₂ = 145} {m₂ = 192} (omega (arith, z.widest)) (omega (arith, z.most))

-- an ended solve answers by its place
pub concluded : (t : Tally) (p : WidePlace) → t.progress.place ≡ p → leaves (ending_at p (counts_of t)) t.left.table t.left.solution ≡ conclude t
unfolding conclude
concluded t p e = rw e

-- and the solution that it was lent does not matter
pub wiped : (o : WideOrder) (ms zs t x y : List ℕ) → y ≡ replicate (length x) 0 → ended o ms zs (held t y) ≡ ended o ms zs (held t x)
wiped o ms zs t x y e =
    ap (λ (k : ℕ). walk ms zs (most_steps o) (tally (start_of o) (held t (replicate k 0)) 0)) (ap length e ∙ length-replicate (length x) 0)
