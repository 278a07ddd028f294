-- R-1: "On every table that passes the checks, its answer (solution or stopping column) is proved equal to the masked solve of any dealing
-- of it." A dealing is any table whose gather is the values, in any number of shares, with any tapes that the masked call admits.
-- Assumes nothing.
use mathlib.Core.List.{List}
use mathlib.Core.Path.{◌≡◌, sym, ap, ap₂, ◌∙◌}
use Prim.Native.Nat.{ℕ, suc, ◌+◌, ◌-◌, ◌*◌, ◌≤◌}
use native.Mathlib.Nat.{suc-mul, mul-le-mul_right}
use native.Mathlib.Omega.{arith}
use lib.ListN.{length, get_or}
use Rattle.field.specs.Field.{Ops, Field, field_of}
use Rattle.field.proofs.Fields.{field_of_lem}
use Rattle.sharing.specs.Rules.{sum}
use Rattle.sharing.proofs.Pairs.{tab-at, tab-length}
use Rattle.sharing.proofs.Elements.{tab_below}
use Rattle.sharing.proofs.Sums.{sum_lt}
use Rattle.table.specs.Layout.{cell, part}
use Rattle.algebra.specs.Linear.{Answer}
use Rattle.algebra.proofs.Outcome.{Alike, one_answer, means_alike}
use Rattle.course.specs.declared.Order.{Order}
use Rattle.course.specs.StepList.{full_mask, full_nonzero}
use Rattle.walk.specs.Act.{held}
use Rattle.walk.specs.Walk.{solved}
use Rattle.walk.specs.Dealing.{gathered}
use Rattle.meaning.specs.Meaning.{value_of, answer_of}
use Rattle.meaning.specs.Claims.{NoZero, Given}
use Rattle.meaning.proofs.Meant.{meant, left}
use Rattle.verdict.specs.Told.{passed}
use Rattle.verdict.specs.Calls.{gives, after}
use Rattle.verdict.proofs.Calls.{call_goes}
use Rattle.plain.specs.Elimination.{at, solves}
use Rattle.plain.specs.Calls.{plain_does, plain_call}
use Rattle.plain.proofs.Admitted.{Admitted, admits}
use Rattle.plain.proofs.Sound.{sound}
use Rattle.plain.proofs.Meaning.{elements}
use Rattle.solver.specs.Refusals.{entries, solve_order}
use Rattle.solver.specs.Calls.{deal_call, solve_does, solve_call}
use Rattle.solver.proofs.Ready.{Solvable, solvable}
use Rattle.solver.proofs.Meaning.{lending}
use Rattle.trace.specs.Twin.{plainly}
use Rattle.trace.proofs.Dealt.{gathered_values, solve-after_deal}

module _ (o : Order) (t values : List ℕ) (gathers : gathered o.field o.shares (entries o.size) t ≡ values) where
  abbrev F : Ops
  F = field_of o.field

  L : Field (field_of o.field)
  L = field_of_lem o.field

  abbrev m : ℕ
  m = o.size

  share-sum : ℕ → ℕ
  share-sum e = sum F (part o.shares (e * o.shares) t)

  -- the values are the equations that the shares add up to
  values_are : Alike m (m + 1) (value_of o t) (at (m + 1) values)
  unfolding value_of at cell gathered entries share-sum
  values_are r c a b d e =
      let row : suc (r - 1) * (m + 1) ≤ m * (m + 1) = mul-le-mul_right (m + 1) (omega arith) in
      sym (ap (λ (v : List ℕ). get_or v ((r - 1) * (m + 1) + (c - 1)) 0) (sym gathers)
      ∙ tab-at (m * (m + 1)) share-sum ((r - 1) * (m + 1) + (c - 1)) (omega (arith, suc-mul (r - 1) (m + 1))))

  -- the masked call admits t: so does the plain one the values
  module _ (x mask nonzero : List ℕ) (pass : solve_order o t (length x) (length mask) nonzero ≡ passed) (y : List ℕ) (ly : length y ≡ o.size) where
    lent : Solvable o t (length x) (length mask) nonzero
    lent = solvable o t (length x) (length mask) nonzero pass

    admitted : Admitted o.field m values (length y)
    unfolding gathered entries share-sum
    admitted =
        record {
          field = lent.sizes.field;
          some = lent.sizes.some;
          most = lent.sizes.most;
          entries = ap length (sym gathers) ∙ tab-length (m * (m + 1)) share-sum;
          room = ly;
          elements = rw (← gathers) (tab_below L.ring.pos (m * (m + 1)) share-sum (λ e. sum_lt F L.ring _));
        }

    same : ((solves o.field m values y).answer ≡ answer_of (solved o mask nonzero (held t x)).answer)
        × ((solves o.field m values y).solution ≡ (solved o mask nonzero (held t x)).left.solution)
    same =
        let l : Given o nonzero t x = lending o t x mask nonzero lent in
        let p = sound o.field m values y (elements o.field m values y admitted) ly in
        let z : List ℕ = (solved o mask nonzero (held t x)).left.solution in
        let a : Answer = answer_of (solved o mask nonzero (held t x)).answer in
        one_answer F m (at (m + 1) values) (solves o.field m values y).answer a (solves o.field m values y).solution z p.0 p.1
        (means_alike F L m values_are a z (meant o mask nonzero t x l)) (left o mask nonzero t x l)

    pub plain_masked : plain_call o.field o.size values y ≡ plainly (solve_call o (held t x) mask nonzero)
    unfolding plain_call plain_does solve_call
    plain_masked =
        call_goes _ y _ (admits o.field m values (length y) admitted)
        ∙ ap₂ (λ (a : Answer) (s : List ℕ). after (gives a) s) same.0 same.1
        ∙ ap plainly (sym (call_goes _ (held t x) (solve_does (solved o mask nonzero (held t x))) pass))

-- Deal's own tables, whatever their draws were
pub plain_dealt : (o : Order) (values draws table : List ℕ) → (deal_call o values draws table).says ≡ gives tt
    → (x mask nonzero y : List ℕ) → length x ≡ o.size → length y ≡ o.size → full_mask o ≤ length mask → full_nonzero o ≤ length nonzero
    → NoZero o nonzero
    → plain_call o.field o.size values y ≡ plainly (solve_call o (held (deal_call o values draws table).left x) mask nonzero)
plain_dealt o values draws table fills x mask nonzero y lx ly a b drawn =
    plain_masked o (deal_call o values draws table).left values (gathered_values o values draws table fills) x mask nonzero
    (solve-after_deal o values draws table fills x mask nonzero lx a b drawn) y ly
