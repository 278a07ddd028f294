-- 01, "Examples": the starred ones. Each row has what the definitions give, worked out, and what 01 says, or 02 where it overrules 01.
-- Assumes nothing.
use Rattle.std.specs.Prelude.{List, [], ◌∷◌, ◌++◌, refl, ℕ, ◌+◌, ◌*◌, replicate}
use Rattle.field.specs.Field.{F16, F256}
use Rattle.sharing.specs.Rules.{refresh, product}
use Rattle.flag.specs.Flag.{zero_flag}
use Rattle.course.specs.StepList.{step_list, sums}
use Rattle.walk.specs.declared.Ending.{Ending}
use Rattle.walk.specs.declared.Ending.TheVariants.{Solved, Stopped}
use Rattle.walk.specs.Act.{held}
use Rattle.walk.specs.Walk.{Solution, solved}
use Rattle.walk.specs.Dealing.{dealt}
use Rattle.starred.specs.Rows.{Row, row, Holds, order, counted, definitions}

-- 0 and x where it is solved, and j where it is stopped at j
abbrev pub saying : Solution → List ℕ
saying s = word s.answer ++ s.left.solution
  where
    word : Ending → List ℕ
    word (Solved c) = 0 ∷ []
    word (Stopped j c) = j ∷ []

-- the system [A | b] with the values vs, in row order, dealt into two shares and solved; the tapes hold some draws or others
unfoldable pub system : ℕ → List ℕ → List ℕ
system m vs =
    let k = m * (m + 1) in
    let t = dealt 16 2 k vs (replicate k 6) (replicate (k * 2) 0) in
    saying (solved (order 16 2 m) (replicate 36 11) (replicate m 7) (held t (replicate m 0)))

pub rows : List Row
rows =
    -- products: 2·8=3, 15·15=10, 2·9=1; F256: 57·83=c1
    row (F16.mul 2 8 ∷ []) (3 ∷ [])
    ∷ row (F16.mul 15 15 ∷ []) (10 ∷ [])
    ∷ row (F16.mul 2 9 ∷ []) (1 ∷ [])
    ∷ row (F256.mul 0x57 0x83 ∷ []) (0xc1 ∷ [])
    -- Refresh (1,2), draw 5: (4,7)
    ∷ row (refresh F16 (5 ∷ []) (1 ∷ 2 ∷ [])) (4 ∷ 7 ∷ [])
    -- Product of (1,2) and (2,0), draw 4: (6,0)
    ∷ row (product F16 (4 ∷ []) (1 ∷ 2 ∷ []) (2 ∷ 0 ∷ [])) (6 ∷ 0 ∷ [])
    -- flag of (3,3), draws all 0: shares (0,1)
    ∷ row (zero_flag 16 (0 ∷ 0 ∷ 0 ∷ 0 ∷ []) (3 ∷ 3 ∷ [])) (0 ∷ 1 ∷ [])
    -- [2]x=[3]: 8
    ∷ row (system 1 (2 ∷ 3 ∷ [])) (0 ∷ 8 ∷ [])
    -- [0]: stopped 1, whatever b is
    ∷ row (system 1 (0 ∷ 0 ∷ [])) (1 ∷ 0 ∷ [])
    ∷ row (system 1 (0 ∷ 3 ∷ [])) (1 ∷ 0 ∷ [])
    -- rows (0,1),(1,0), b=(5,7): x=(7,5)
    ∷ row (system 2 (0 ∷ 1 ∷ 5 ∷ 1 ∷ 0 ∷ 7 ∷ [])) (0 ∷ 7 ∷ 5 ∷ [])
    -- rows (1,2),(2,4), b=(1,2), which fits: stopped 2
    ∷ row (system 2 (1 ∷ 2 ∷ 1 ∷ 2 ∷ 4 ∷ 2 ∷ [])) (2 ∷ 0 ∷ 0 ∷ [])
    -- counts (steps, mask, nonzero): n=2, m=1: 3,12,1; n=2, m=2: 8,36,2 in 01, where R-7 of 02 has a step more, Lift(2)
    ∷ row (counted (sums (order 16 2 1) (step_list 1))) (3 ∷ 12 ∷ 1 ∷ [])
    ∷ row (counted (sums (order 16 2 2) (step_list 2))) (9 ∷ 36 ∷ 2 ∷ [])
    ∷ []

pub starred : Holds rows
unfolding rows system definitions
starred = refl
