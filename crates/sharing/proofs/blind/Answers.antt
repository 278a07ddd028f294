-- `sharing::blind` meets its contract: a turn of the loop is 01's, of the nonzero tape's own draw.
-- Assumes nothing.
use Rattle.std.proofs.Common.{◌≡◌, ℕ, List, ◌+◌, ◌*◌, ◌-◌, ◌≤◌, ◌<◌, length, take, refl, arith, length-drop}
use Rattle.std.proofs.lemmas.List.{get_or-take, length-take-le}
use Rattle.sharing.specs.Rules.{blind_turn, blinded, InversionFits, inversion_draws}
use Rattle.sharing.proofs.Loops.{run_none, run-next, run_done, rest, taken_room}
use Rattle.sharing.proofs.blind.Goals as goal

-- a turn's draws are within the mask tape
room : (s nz ds : List ℕ) (k : ℕ) → InversionFits s nz ds → k < length (take (length s - 1) nz) → k * (length s - 1) + (length s - 1) ≤ length ds
unfolding inversion_draws
room s nz ds k h l =
    let m = length s - 1 in
    taken_room (k * m) k m m refl (omega (arith, length-take-le m nz (omega arith))) (omega arith)

pub slice_bounds-refresh-count : goal.slice_bounds-refresh-count
slice_bounds-refresh-count c = let x = c.args in omega (arith, room x.s.now x.nz.now x.ds.now c.loop-k.k c.requires c.loop-k-test.true)

pub slice_bounds-refresh-start : goal.slice_bounds-refresh-start
slice_bounds-refresh-start c = let x = c.args in omega (arith, room x.s.now x.nz.now x.ds.now c.loop-k.k c.requires c.loop-k-test.true)

pub loop-k-init : goal.loop-k-init
loop-k-init c = run_none _ _

pub refresh-requires : goal.refresh-requires
refresh-requires c =
    let x = c.args in
    let r = room x.s.now x.nz.now x.ds.now c.loop-k.k c.requires c.loop-k-test.true in
    rw (rest, length-drop) (omega arith, omega (arith, r))

pub loop-k-preserved : goal.loop-k-preserved
unfolding blind_turn
loop-k-preserved c =
    let l = c.loop-k in
    let nz = c.args.nz.now in
    let m = length c.args.s.now - 1 in
    let d = get_or-take m nz l.k 0 (omega (arith, length-take-le m nz (omega arith))) in
    run-next _ _ _ _ _ l.invariant (rw (rest, c.scale.ensures, c.draw.ensures, d, ← l.auto.s) at c.refresh.ensures)

pub returns : goal.returns
unfolding blinded
returns c =
    let n = length c.args.s.now - 1 in
    let e : c.loop-k.k ≡ n = omega (arith, length-take-le n c.args.nz.now (omega arith)) in
    run_done _ _ _ _ _ c.loop-k.invariant e
