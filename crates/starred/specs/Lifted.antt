-- R-7's example: 2x + y = 1, x + y = 0 over F16 in two shares, with tapes 3+5i to deal, 7+9i to mask and 1 + (2+3i) mod 15 for the nonzero
-- draws, and EE EE for the solution. Open(2) leaves the table and writes x_2; Lift(2) takes the byte that it finds in the solution.
-- Assumes nothing.
use Rattle.std.specs.Prelude.{List, [], ◌∷◌, ◌++◌, refl, ℕ, zero, suc, ◌+◌, ◌*◌, ◌%◌, take, drop, replicate, set}
use Rattle.course.specs.declared.Order.{Order}
use Rattle.course.specs.declared.Step.TheVariants.{Open, Lift}
use Rattle.course.specs.StepList.{step_list}
use Rattle.walk.specs.Act.{Held, held, opened, acted}
use Rattle.walk.specs.Walk.{Course, running, stopped, walk, fresh}
use Rattle.walk.specs.Dealing.{dealt}
use Rattle.starred.specs.Rows.{Row, row, Holds, order, definitions}
use Rattle.starred.specs.Vectors.{bytes}

-- f a, f (a + 1), .., n bytes of them
unfoldable pub tape : (ℕ → ℕ) → ℕ → ℕ → List ℕ
tape f a zero = []
tape f a (suc n) = f a % 256 ∷ tape f (a + 1) n

abbrev pub two : Order
two = order 16 2 2

unfoldable pub mask : List ℕ
mask = tape (λ i. 7 + 9 * i) 0 36

unfoldable pub nonzero : List ℕ
nonzero = tape (λ i. 1 + (2 + 3 * i) % 15) 0 2

unfoldable pub dealing : List ℕ
dealing = dealt 16 2 6 (2 ∷ 1 ∷ 1 ∷ 1 ∷ 1 ∷ 0 ∷ []) (tape (λ i. 3 + 5 * i) 0 6) (replicate 12 0)

abbrev pub left_by : Course → Held
left_by (running t) = t.left
left_by (stopped j t) = t.left

-- the table and the solution after the first k steps
unfoldable pub after_steps : ℕ → Held
after_steps k = left_by (walk two mask nonzero (take k (step_list 2)) (running (fresh (held dealing (0xee ∷ 0xee ∷ [])))))

abbrev pub both : Held → List ℕ
both h = h.table ++ h.solution

-- after Open(2) the host sets x_2 to this
unfoldable pub lifted : ℕ → Held
lifted x = let h = after_steps 7 in acted two (Lift 2) [] [] (held h.table (set h.solution 1 x))

unfoldable pub rows : List Row
rows =
    -- after Open(2), after Lift(2), and at the end
    row (both (after_steps 7)) (bytes 12 0x0d0c_0a03_0d04_0c0c_0c0d_0e00 ++ (0xee ∷ 0x0e ∷ []))
    ∷ row (both (after_steps 8)) (bytes 12 0x0d0c_0a03_0b05_0c0c_0c0d_0e00 ++ (0xee ∷ 0x0e ∷ []))
    ∷ row (both (after_steps 9)) (bytes 12 0x0d0c_0a03_0b05_0c0c_0c0d_0e00 ++ (14 ∷ 14 ∷ []))
    -- with x_2 set to 5 before Lift(2), and then x_1
    ∷ row (both (lifted 5)) (bytes 12 0x0d0c_0a03_090b_0c0c_0c0d_0e00 ++ (0xee ∷ 5 ∷ []))
    ∷ row (opened two (Open 1) (drop 35 mask) (lifted 5) ∷ []) (2 ∷ [])
    ∷ []

pub lifts : Holds rows
unfolding rows bytes tape mask nonzero dealing after_steps lifted definitions
lifts = refl
