use mathlib.Core.Path.{◌≡◌, refl, ap, ◌∙◌}
use Prim.Native.Nat.{ℕ, ◌+◌, ◌-◌, ◌*◌, ◌/◌, ◌%◌, ◌<◌}
use mathlib.Core.List.{List}
use native.Mathlib.Omega.{arith}
use lib.Arith.{digits_div, digits_mod}
use Rattle.sharing.proofs.Loops.{taken_more, taken_room}
use Rattle.row.proofs.Filling.{Filled, filled_all}
use Rattle.word.specs.Rows.{byte_of, bytes_of}
use Rattle.word.proofs.Parts.{filled_part}
use Rattle.word.proofs.take_row.Invariants.{byte_at}
use Rattle.word.proofs.take_row.Goals as goal

-- share j of column u
at-share : (n columns e u j : ℕ) (row : List ℕ) → e + (u + 1) ≡ columns → j < n → byte_of n row e j ≡ byte_at n columns row (u * n + j)
at-share n columns e u j row h g =
    let a : (u * n + j) / n ≡ u = digits_div u g in
    let b : (u * n + j) % n ≡ j = digits_mod u g in
    let d : columns - 1 - u ≡ e = omega arith in
    rw (a, b, d)

-- the same list, with the places counted in another way
as_far : (g : ℕ → ℕ) (k m : ℕ) (t : List ℕ) → k ≡ m → Filled g k t → Filled g m t
as_far g k m t e F = record { at = λ i h. F.at i (omega arith) }

pub loop-e-preserved : goal.loop-e-preserved
loop-e-preserved c =
    let x = c.args in
    let l = c.loop-e in
    let e : ℕ = l.e - 1 in
    let u : ℕ = x.columns - 1 - e in
    let so_far : x.columns - l.e ≡ u = omega arith in
    let next : u + 1 ≡ x.columns - e = omega arith in
    as_far _ (u * x.n + x.n) _ _ (taken_more (u * x.n) u x.n refl ∙ ap (λ (k : ℕ). k * x.n) next)
    (filled_part (byte_at x.n x.columns x.row.now) (byte_of x.n x.row.now e) (u * x.n) x.n _ l.bytes c.entry.ensures
    (taken_room (u * x.n) u x.n x.columns refl (omega arith) (omega arith)) (rw so_far at l.invariant)
    (λ j h. at-share x.n x.columns e u j x.row.now (omega arith) h))

pub returns : goal.returns
unfolding bytes_of
returns c =
    let l = c.loop-e in
    let e : c.args.columns - l.e ≡ c.args.columns = omega arith in
    filled_all _ ((c.args.columns - l.e) * c.args.n) _ l.bytes (omega arith) (ap (λ (k : ℕ). k * c.args.n) e) l.invariant
