-- `wide::step` meets its contract: a pass gives the work of the place's step what it asks for, and a place that is no step is left as it is.
-- Assumes nothing.
use mathlib.Core.Path.{◌≡◌, sym, ap}
use native.Mathlib.Omega.{arith}
use lib.ListN.{length}
use Rattle.std.proofs.Common.{rules}
use Rattle.sharing.specs.Bounds.{most_rows}
use Rattle.pattern.proofs.Counting.{wanted_few}
use Rattle.pattern.proofs.Moving.{standing-says, room_at}
use Rattle.verdict.specs.Calls.{call}
use Rattle.wide.specs.WideRefusals.{cost_at}
use Rattle.wide.specs.WideCalls.{step_does, step_call}
use Rattle.wide.proofs.Ready.{going, kept_and_stands}
use Rattle.wide.proofs.step.Goals as goal

pub returns-in_err-step : goal.returns-in_err-step
unfolding step_call call
returns-in_err-step c = search rules

pub returns-in_default : goal.returns-in_default
unfolding step_call step_does call
returns-in_default c = search rules

pub act-x-requires : goal.act-x-requires
unfolding cost_at
act-x-requires c =
    let g = going _ _ _ _ _ (sym c.in_ok-step.ensures) in
    let t = kept_and_stands _ g.at.stood.listed in
    let m = ap (λ p. (cost_at c.args.p.order p).mask) c.in-At.is in
    let k = ap (λ p. (cost_at c.args.p.order p).nonzero) c.in-At.is in
    record {
      sizes = g.sizes;
      v_value = (t.0, rw c.in-At.is at t.1);
      table_len = (g.at.whole, g.at.room);
      s_in_bounds = (omega (arith, g.lent.masks, m), omega (arith, g.lent.others, k));
    }

pub next-next-requires : goal.next-next-requires
next-next-requires c =
    let g = going _ _ _ _ _ (sym c.in_ok-step.ensures) in
    let p = c.args.p in
    let slots : length p.pivots.columns ≡ most_rows = search rules in
    let r = room_at p.order g.sizes c.in-At.s c.in-At.is (standing-says p slots g.at.stood.listed g.at.stood.matched) in
    let few = wanted_few p.order g.sizes in
    record {
      sizes = g.sizes;
      self_value = (g.at.stood.listed, c.in-At.is);
      s_bound = (omega (arith, r.1, few.0), omega (arith, r.2, few.1));
    }

pub returns : goal.returns
unfolding step_call step_does call
returns c = search rules
