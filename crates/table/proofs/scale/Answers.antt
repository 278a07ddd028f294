-- `table::scale` meets its contract: what it lends are the pivot and the row, the factors are those of the pivot's inversion, and d is how many
-- draws that took. Assumes nothing.
use mathlib.Core.Path.{◌≡◌, ap}
use Prim.Native.Nat.{ℕ, ◌+◌, ◌-◌, ◌*◌, ◌≤◌}
use mathlib.Core.List.{List, ◌++◌}
use native.Mathlib.Omega.{arith}
use lib.ListN.{length, take, drop}
use Rattle.field.specs.Field.{field_of}
use Rattle.sharing.specs.Rules.{factors, four_of, inversion_draws}
use Rattle.sharing.proofs.Loops.{rest}
use Rattle.table.specs.Layout.{cell, table_bytes, entry, columns_from, row_from, put_row, Inside}
use Rattle.table.specs.Costs.{scale_nonzero}
use Rattle.table.specs.Steps.{scale, scale_all}
use Rattle.table.proofs.Parts.{part-lent, put-lent}
use Rattle.table.proofs.Cells.{cell_in, row_in, entry_length}
use Rattle.table.proofs.Lent.{lent_length, rest_room}
use Rattle.table.proofs.Draws.{scale_cost_is}
use Rattle.table.proofs.Scaling.{scale_all-four}
use Rattle.table.proofs.scale.Goals as goal

-- what it asks

asked : (n rows w r j p d k : ℕ) (ds t : List ℕ) → Inside rows w r j → length t ≡ table_bytes n rows w → p ≡ cell n w r j
    → d ≡ inversion_draws n → k ≡ n → inversion_draws n + n * (columns_from w j * (n - 1)) ≤ length ds
    → (length (take (p + columns_from w j * n - p) (drop p t)) ≡ columns_from w j * k) × (k * (columns_from w j * (k - 1)) ≤ length (take (length ds - d) (drop d ds)))
asked n rows w r j p d k ds t P et ep ed ek h =
    rw (ek, ep, ed) (lent_length (columns_from w j * n) (cell n w r j) t (omega (arith, row_in n P)), rest_room (inversion_draws n) _ ds h)

-- what it leaves
left : (f n w r j p d k : ℕ) (nz ds t fs y : List ℕ) → n ≤ 4 → p ≡ cell n w r j → d ≡ inversion_draws n → k ≡ n
    → fs ≡ four_of (factors (field_of f) nz ds (entry n w r j t))
    → y ≡ scale_all (field_of f) k (columns_from w j) fs (take (length ds - d) (drop d ds)) (take (p + columns_from w j * n - p) (drop p t))
    → take p t ++ (y ++ drop (p + columns_from w j * n - p) (drop p t)) ≡ scale f n w r j nz ds t
unfolding scale
left f n w r j p d k nz ds t fs y h ep ed ek ef ey =
    let l : ℕ = columns_from w j * n in
    rw (put-lent l p y t, ey, ek, ef, rest d ds, part-lent l p t, ep, ed)
    (ap (λ (row : List ℕ). put_row n w r j row t) (scale_all-four (field_of f) n (columns_from w j) (factors (field_of f) nz ds (entry n w r j t)) (drop (inversion_draws n) ds) (row_from n w r j t) h))

pub overflow_add-p : goal.overflow_add-p
overflow_add-p c =
    let pivot-within : c.cell-p.result + c.args.shape.shares ≤ length c.args.table.now =
    omega (arith, c.cell-p.ensures, cell_in c.args.shape.shares c.requires.inside, c.requires.shaped.bytes) in
    omega (arith, pivot-within)

pub slice_bounds-inversion-end : goal.slice_bounds-inversion-end
slice_bounds-inversion-end c =
    let pivot-within : c.cell-p.result + c.args.shape.shares ≤ length c.args.table.now =
    omega (arith, c.cell-p.ensures, cell_in c.args.shape.shares c.requires.inside, c.requires.shaped.bytes) in
    omega (arith, pivot-within)

pub inversion-factors-requires : goal.inversion-factors-requires
unfolding scale_nonzero
inversion-factors-requires c =
    let room : inversion_draws c.args.shape.shares + c.args.shape.shares * (columns_from c.args.shape.columns c.args.j * (c.args.shape.shares - 1)) ≤ length c.args.mask.now =
    omega (arith, scale_cost_is c.args.shape.shares (columns_from c.args.shape.columns c.args.j), c.requires.draws) in
    rw (part-lent, c.cell-p.ensures, entry_length _ _ _ _ c.requires.shaped.bytes c.requires.inside)
    (omega (arith, room))

pub slice_bounds-scale_all-end : goal.slice_bounds-scale_all-end
slice_bounds-scale_all-end c =
    let row_within : c.cell-p.result + columns_from c.args.shape.columns c.args.j * c.args.shape.shares ≤ length c.args.table.now =
    omega (arith, c.cell-p.ensures, row_in c.args.shape.shares c.requires.inside, c.requires.shaped.bytes) in
    omega (arith, row_within)

pub slice_bounds-scale_all-count-2 : goal.slice_bounds-scale_all-count-2
slice_bounds-scale_all-count-2 c =
    let room : inversion_draws c.args.shape.shares + c.args.shape.shares * (columns_from c.args.shape.columns c.args.j * (c.args.shape.shares - 1)) ≤ length c.args.mask.now =
    omega (arith, scale_cost_is c.args.shape.shares (columns_from c.args.shape.columns c.args.j), c.requires.draws) in
    omega (arith, c.inversion_draws-d.ensures.0, room)

pub slice_bounds-scale_all-start-2 : goal.slice_bounds-scale_all-start-2
slice_bounds-scale_all-start-2 c =
    let room : inversion_draws c.args.shape.shares + c.args.shape.shares * (columns_from c.args.shape.columns c.args.j * (c.args.shape.shares - 1)) ≤ length c.args.mask.now =
    omega (arith, scale_cost_is c.args.shape.shares (columns_from c.args.shape.columns c.args.j), c.requires.draws) in
    omega (arith, c.inversion_draws-d.ensures.0, room)

pub scale_all-requires-clause-row_len : goal.scale_all-requires-clause-row_len
scale_all-requires-clause-row_len c =
    let room : inversion_draws c.args.shape.shares + c.args.shape.shares * (columns_from c.args.shape.columns c.args.j * (c.args.shape.shares - 1)) ≤ length c.args.mask.now =
    omega (arith, scale_cost_is c.args.shape.shares (columns_from c.args.shape.columns c.args.j), c.requires.draws) in
    let found : (c.inversion-factors.result.n ≡ c.args.shape.shares) × (c.inversion-factors.result.f ≡ four_of (factors (field_of c.args.shape.field) c.args.nonzero.now c.args.mask.now (entry c.args.shape.shares c.args.shape.columns c.args.r c.args.j c.args.table.now))) =
    rw (part-lent, c.cell-p.ensures, entry_length _ _ _ _ c.requires.shaped.bytes c.requires.inside) at c.inversion-factors.ensures in
    let x = c.args in
    asked x.shape.shares x.shape.rows x.shape.columns x.r x.j c.cell-p.result _ _ x.mask.now x.table.now
    c.requires.inside c.requires.shaped.bytes c.cell-p.ensures c.inversion_draws-d.ensures.0 found.0 room

pub returns : goal.returns
returns c =
    let found : (c.inversion-factors.result.n ≡ c.args.shape.shares) × (c.inversion-factors.result.f ≡ four_of (factors (field_of c.args.shape.field) c.args.nonzero.now c.args.mask.now (entry c.args.shape.shares c.args.shape.columns c.args.r c.args.j c.args.table.now))) =
    rw (part-lent, c.cell-p.ensures, entry_length _ _ _ _ c.requires.shaped.bytes c.requires.inside) at c.inversion-factors.ensures in
    let x = c.args in
    left x.shape.field x.shape.shares x.shape.columns x.r x.j c.cell-p.result _ _ x.nonzero.now x.mask.now x.table.now _ _
    c.requires.shaped.bounded.fits.shares_high c.cell-p.ensures c.inversion_draws-d.ensures.0 found.0 found.1 c.scale_all.ensures
