-- `plain::solve` meets its contract: a pass gives the work what it asks for, the copy is the values, and what meets the equation has its meaning.
-- Assumes nothing.
use mathlib.Core.List.{List}
use mathlib.Core.Path.{◌≡◌, sym}
use Prim.Native.Nat.{ℕ, ◌+◌, ◌*◌, ◌≤◌}
use native.Mathlib.Nat.{mul-le-mul}
use native.Mathlib.Omega.{arith}
use lib.ListN.{length}
use lib.Seq.{length-take-le}
use Rattle.std.proofs.Common.{rules}
use Rattle.sharing.specs.Bounds.{most_rows, most_width, most_entries}
use Rattle.verdict.specs.Calls.{gives, after, call}
use Rattle.plain.specs.Calls.{answer, plain_call}
use Rattle.plain.proofs.Admitted.{Admitted, admitted, one_byte}
use Rattle.plain.proofs.Meaning.{means}
use Rattle.plain.proofs.solve.Goals as goal

-- the values fit the copy
few : {f m long : ℕ} {values : List ℕ} → Admitted f m values long → length values ≤ most_entries
few {m = m} a =
    let all : m * (m + 1) ≤ most_entries = mul-le-mul {n₁ = m} {m₁ = m + 1} {n₂ = most_rows} {m₂ = most_width} a.most (omega (arith, a.most)) in
    rw a.entries all

pub returns-in_err-check-clause-outcome : goal.returns-in_err-check-clause-outcome
unfolding plain_call call
returns-in_err-check-clause-outcome c = search rules

pub slice_bounds-copy-end : goal.slice_bounds-copy-end
slice_bounds-copy-end c = few (admitted _ _ _ _ (sym c.in_ok-check.ensures))

pub slice_bounds-t-end : goal.slice_bounds-t-end
slice_bounds-t-end c = sym (length-take-le _ _ (few (admitted _ _ _ _ (sym c.in_ok-check.ensures))))

pub copy_from_slice-requires : goal.copy_from_slice-requires
copy_from_slice-requires c = length-take-le _ _ (few (admitted _ _ _ _ (sym c.in_ok-check.ensures)))

pub work-requires : goal.work-requires
work-requires c =
    let a = admitted _ _ _ _ (sym c.in_ok-check.ensures) in
    rw c.copy_from_slice.ensures.after ((a.most, one_byte c.args.size c.args.values.now a.entries), a.room)

pub returns-clause-outcome : goal.returns-clause-outcome
unfolding plain_call call
returns-clause-outcome c = rw (← c.in_ok-check.ensures) (rw c.copy_from_slice.ensures.after at c.work.ensures)

pub returns-clause-meaning : goal.returns-clause-meaning
unfolding plain_call call
returns-clause-meaning c =
    let x = c.args in
    let e : after (gives (answer c.work.result)) c.work.new.solution ≡ plain_call x.field x.size x.values.now x.solution.now =
    rw (← c.in_ok-check.ensures) (rw c.copy_from_slice.ensures.after at c.work.ensures) in
    means x.field x.size x.values.now x.solution.now _ _ e
