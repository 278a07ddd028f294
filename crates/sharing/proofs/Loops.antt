-- Laws of `run`: a loop's invariant is that its state is a run of its turns, and each loop's proof is three of these.
-- Assumes nothing.
use mathlib.Core.Path.{◌≡◌, refl, ap, ◌∙◌}
use Prim.Native.Nat.{ℕ, zero, suc, ◌+◌, ◌-◌, ◌*◌, ◌<◌, ◌≤◌}
use mathlib.Core.List.{List}
use native.Mathlib.Numerals.{add-one}
use native.Mathlib.Omega.{arith}
use native.Mathlib.Nat.{suc-mul, mul-le-mul_right}
use lib.ListN.{length, take, drop, length-drop}
use lib.Seq.{take_all}
use Rattle.sharing.specs.Run.{run}

-- the loop begins
pub run_none : {S : Type 0} (turn : ℕ → S → S) (s : S) → s ≡ run turn 0 s
unfolding run
run_none turn s = refl

-- a turn of the loop
pub run-next : {S : Type 0} (turn : ℕ → S → S) (k : ℕ) (s₀ s t : S) → s ≡ run turn k s₀ → t ≡ turn k s → t ≡ run turn (k + 1) s₀
unfolding run
run-next turn k s₀ s t i e = rw (add-one k) (e ∙ ap (turn k) i)

-- the loop is left
pub run_done : {S : Type 0} (turn : ℕ → S → S) (k n : ℕ) (s₀ s : S) → s ≡ run turn k s₀ → k ≡ n → s ≡ run turn n s₀
run_done turn k n s₀ s i e = i ∙ ap (λ (x : ℕ). run turn x s₀) e

-- turns that keep the length of a list keep it over a run
pub run_length : (turn : ℕ → List ℕ → List ℕ) → ((k : ℕ) (s : List ℕ) → length (turn k s) ≡ length s) → (k : ℕ) (s : List ℕ)
    → length (run turn k s) ≡ length s
unfolding run
run_length turn h zero s = refl
run_length turn h (suc k) s = h k (run turn k s) ∙ run_length turn h k s

-- two loops whose turns agree
pub run_ext : {S : Type 0} (f g : ℕ → S → S) (n : ℕ) → ((k : ℕ) → k < n → (s : S) → f k s ≡ g k s) → (s : S) → run f n s ≡ run g n s
unfolding run
run_ext f g zero h s = refl
run_ext f g (suc n) h s = ap (f n) (run_ext f g n (λ k l. h k (omega arith)) s) ∙ h n (omega arith) (run g n s)

-- what a callee is lent by `&ds[at..]`
pub rest : (at : ℕ) (ds : List ℕ) → take (length ds - at) (drop at ds) ≡ drop at ds
rest at ds = take_all (length ds - at) (drop at ds) (rw length-drop (omega arith))

-- a loop whose turn takes k draws: the position, and that there are draws left for a turn
pub taken_more : (at u k : ℕ) → at ≡ u * k → at + k ≡ (u + 1) * k
taken_more at u k e = rw add-one (omega (arith, suc-mul u k))

pub taken_room : (at u k : ℕ) (l : ℕ) {c : ℕ} → at ≡ u * k → u < l → l * k ≤ c → at + k ≤ c
taken_room at u k l e h g = omega (arith, suc-mul u k, mul-le-mul_right k h)
