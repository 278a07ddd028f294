-- By which numbers a call can be refused: each call by those of its order, and a step call by a number whose own check refuses.
-- Assumes nothing.
use mathlib.Core.Bool.{Bool, true, false, not, ◌&&◌}
use mathlib.Core.List.{List, [], ◌∷◌}
use mathlib.Core.Logic.{◌⊎◌, ⊎_elim}
use mathlib.Core.Path.{◌≡◌, refl, sym, ap, ◌∙◌}
use Prim.Native.Nat.{ℕ, zero, suc, ◌+◌, ◌-◌, ◌*◌}
use native.Mathlib.Omega.{arith}
use lib.Dec.{ltb}
use lib.ListN.{length, take, get_or}
use Rattle.sharing.specs.Bounds.{most_rows}
use Rattle.course.specs.declared.Step.TheVariants.{Lift}
use Rattle.course.specs.declared.Place.{Place}
use Rattle.course.specs.declared.Place.TheVariants.{At}
use Rattle.course.specs.declared.Order.{Order}
use Rattle.course.specs.declared.Progress.{Progress}
use Rattle.course.specs.StepList.{full_mask, full_nonzero}
use Rattle.course.specs.Next.{order_of, counted}
use Rattle.verdict.specs.declared.Rows.{Rows}
use Rattle.verdict.specs.declared.Rows.TheVariants.{Values}
use Rattle.verdict.specs.Told.{Told, passed, refused, Line, refuse, ◌or◌}
use Rattle.verdict.specs.Refusals.{differs, outside, any_place, too_large, zero_draw, no1, no2, no3, no4, no5, no6, no7, no8, no9, no14, no15, numbers, buffers, exactly, at_least}
use Rattle.solver.specs.Refusals.{whole_table, table_rows, value_rows, placed, ended, entries, deal_draws, mask_at, nonzero_at, revealed_at, zero_pivot, no10, no11, lift_refused, no20, no12, no19, sizes, deal_order, gather_order, tapes, solve_order, standing, wanted_order, placing, lending, step_order}
use Rattle.solver.specs.Calls.{order}
use Rattle.solver.proofs.Ready.{lift-or_not}
use Rattle.plain.specs.Calls.{plain_order}
use Rattle.exchange.specs.Record.{rows, table_length, record_length, length_at, end_at, ends, no16, unsuited, field_at, stretch, framed, system_in, holding}
use Rattle.exchange.specs.Calls.{write_order, no18, read_order}
use Rattle.trace.specs.Numbers.{one_of, Among, Gives}

pub no_refusal : {l : Line} → passed ≡ refused l → ⊥
no_refusal e = let z : ◌≡◌ {A = ℕ} 0 1 = cc in omega arith

-- ---- each check gives its own number

pub record Numbered (k : ℕ) (v : Told) : Type 0 where
  pub number : (l : Line) → v ≡ refused l → l.number ≡ k

pub numbered : (k : ℕ) (test : Bool) (d : List ℕ) → Numbered k (refuse k test d)
numbered k true d = record { number = λ l e. cc }
numbered k false d = record { number = λ l e. absurd (no_refusal e) }

one : (f : ℕ) → Numbered 1 (no1 f)
unfolding no1
one f = numbered 1 (differs f 16 && differs f 256) _

pub two : (n : ℕ) → Numbered 2 (no2 n)
unfolding no2
two n = numbered 2 (outside 2 4 n) _

pub three : (m : ℕ) → Numbered 3 (no3 m)
unfolding no3
three m = numbered 3 (outside 1 most_rows m) _

pub four : (wanted long : ℕ) → Numbered 4 (no4 wanted long)
unfolding no4
four wanted long = numbered 4 (differs long wanted) _

pub five : (wanted long : ℕ) → Numbered 5 (no5 wanted long)
unfolding no5
five wanted long = numbered 5 (differs long wanted) _

pub six : (f : ℕ) (rows : Rows) (input : List ℕ) → Numbered 6 (no6 f rows input)
unfolding no6
six f rows input = numbered 6 (any_place (too_large f) input) _

pub seven : (wanted long : ℕ) → Numbered 7 (no7 wanted long)
unfolding no7
seven wanted long = numbered 7 (ltb long wanted) _

pub eight : (wanted long : ℕ) → Numbered 8 (no8 wanted long)
unfolding no8
eight wanted long = numbered 8 (ltb long wanted) _

pub nine : (f : ℕ) (draws : List ℕ) → Numbered 9 (no9 f draws)
unfolding no9
nine f draws = numbered 9 (any_place (zero_draw f) draws) _

nineteen : (p : Progress) → Numbered 19 (no19 p)
unfolding no19
nineteen p = numbered 19 (not (counted p)) _

ten : (m : ℕ) (p : Place) → Numbered 10 (no10 m p)
unfolding no10
ten m p = numbered 10 (not (placed m p)) _

eleven : (p : Place) → Numbered 11 (no11 p)
unfolding no11
eleven p = numbered 11 (ended p) _

twelve : (o : Order) (p : Place) (t : List ℕ) → Numbered 12 (no12 o p t)
unfolding no12
twelve o p t = numbered 12 (zero_pivot o (revealed_at p) t) _

twenty : (o : Order) (p : Place) (x : List ℕ) → Numbered 20 (no20 o p x)
unfolding no20 lift_refused
twenty o p x =
    ⊎_elim (λ (l : (j : ℕ) × (p ≡ At (Lift j))). rw l.1 (numbered 20 (too_large o.field (get_or x (l.0 - 1) 0)) _))
    (λ (e : no20 o p x ≡ passed). rw e (record { number = λ l g. absurd (no_refusal g) }))
    (lift-or_not o p x)

pub fourteen : (wanted long : ℕ) → Numbered 14 (no14 wanted long)
unfolding no14
fourteen wanted long = numbered 14 (ltb wanted long) _

pub fifteen : (wanted long : ℕ) → Numbered 15 (no15 wanted long)
unfolding no15
fifteen wanted long = numbered 15 (ltb wanted long) _

-- ---- an order gives the numbers of its checks

module _ {P : Line → Type 0} where
  by_first : (a : Told) {b : Told} → Gives P a → Gives P b → Gives P (a or b)
  unfolding ◌or◌
  by_first passed g h = h
  by_first (refused l) g h = g

  infixl 20 ◌then◌
  pub ◌then◌ : {a b : Told} → Gives P a → Gives P b → Gives P (a or b)
  ◌then◌ {a} g h = by_first a g h

pub in_list_lem : (ns : List ℕ) {k : ℕ} {v : Told} → one_of k ns ≡ true → Numbered k v → Gives (Among ns) v
unfolding Among
in_list_lem ns i n = record { only = λ l e. rw (n.number l e) i }

module _ (ns : List ℕ) where
  sizes_in : (o : Order) → one_of 1 ns ≡ true → one_of 2 ns ≡ true → one_of 3 ns ≡ true → Gives (Among ns) (sizes o)
  unfolding numbers
  sizes_in o a b c = in_list_lem ns a (one o.field) then in_list_lem ns b (two o.shares) then in_list_lem ns c (three o.size)

  buffers_in : (f : ℕ) (rows : Rows) (wanted : ℕ) (input : List ℕ) (target long : ℕ) → one_of 4 ns ≡ true → one_of 5 ns ≡ true → one_of 6 ns ≡ true
      → Gives (Among ns) (buffers f rows wanted input target long)
  unfolding buffers
  buffers_in f rows wanted input target long a b c =
      in_list_lem ns a (four wanted (length input)) then in_list_lem ns b (five target long) then in_list_lem ns c (six f rows input)

-- Start, and the counts of an order
pub sizes_give : (o : Order) → Gives (Among (1 ∷ 2 ∷ 3 ∷ [])) (sizes o)
unfolding one_of
sizes_give o = sizes_in _ o refl refl refl

pub deal_gives : (o : Order) (values : List ℕ) (target mask : ℕ)
    → Gives (Among (1 ∷ 2 ∷ 3 ∷ 4 ∷ 5 ∷ 6 ∷ 7 ∷ [])) (deal_order o values target mask)
unfolding deal_order one_of
deal_gives o values target mask =
    sizes_in _ o refl refl refl
    then (buffers_in _ o.field (value_rows o) (entries o.size) values (whole_table o) target refl refl refl
    then in_list_lem _ refl (seven (deal_draws o) mask))

pub gather_gives : (o : Order) (t : List ℕ) (target : ℕ) → Gives (Among (1 ∷ 2 ∷ 3 ∷ 4 ∷ 5 ∷ 6 ∷ [])) (gather_order o t target)
unfolding gather_order one_of
gather_gives o t target =
    sizes_in _ o refl refl refl then buffers_in _ o.field (table_rows o) (whole_table o) t (entries o.size) target refl refl refl

pub solve_gives : (o : Order) (t : List ℕ) (solution mask : ℕ) (nonzero : List ℕ)
    → Gives (Among (1 ∷ 2 ∷ 3 ∷ 4 ∷ 5 ∷ 6 ∷ 7 ∷ 8 ∷ 9 ∷ [])) (solve_order o t solution mask nonzero)
unfolding solve_order tapes at_least one_of
solve_gives o t solution mask nonzero =
    sizes_in _ o refl refl refl
    then (buffers_in _ o.field (table_rows o) (whole_table o) t o.size solution refl refl refl
    then (in_list_lem _ refl (seven (full_mask o) mask) then in_list_lem _ refl (eight (full_nonzero o) (length nonzero)) then in_list_lem _ refl (nine o.field (take (full_nonzero o) nonzero))))

pub wanted_gives : (p : Progress) → Gives (Among (1 ∷ 2 ∷ 3 ∷ 10 ∷ 19 ∷ 11 ∷ [])) (wanted_order p)
unfolding wanted_order standing one_of
wanted_gives p =
    sizes_in _ (order_of p) refl refl refl
    then (in_list_lem _ refl (ten p.size p.place) then (in_list_lem _ refl (nineteen p) then in_list_lem _ refl (eleven p.place)))

pub plain_gives : (f m : ℕ) (values : List ℕ) (long : ℕ) → Gives (Among (1 ∷ 3 ∷ 4 ∷ 5 ∷ 6 ∷ [])) (plain_order f m values long)
unfolding plain_order one_of
plain_gives f m values long =
    in_list_lem _ refl (one f) then in_list_lem _ refl (three m) then buffers_in _ f (Values (m + 1)) (m * (m + 1)) values m long refl refl refl

pub write_gives : (f n m : ℕ) (t : List ℕ) (target : ℕ) → Gives (Among (1 ∷ 2 ∷ 3 ∷ 4 ∷ 5 ∷ 6 ∷ [])) (write_order f n m t target)
unfolding write_order one_of
write_gives f n m t target =
    sizes_in _ (order f n m) refl refl refl
    then buffers_in _ f (rows n m) (table_length n m) t (record_length n m) target refl refl refl

-- a field of a record
fields_in : (ns : List ℕ) (input : List ℕ) (at tag least most : ℕ) → one_of 16 ns ≡ true → one_of 17 ns ≡ true
    → Gives (Among ns) (field_at input at tag least most)
unfolding field_at ends no16 unsuited
fields_in ns input at tag least most a b =
    in_list_lem ns b (numbered 17 (ltb (length input) (at + 1)) _)
    then (in_list_lem ns a (numbered 16 (differs (get_or input at 0) tag) _)
    then (in_list_lem ns b (numbered 17 (ltb (length input) (at + 3)) _)
    then (in_list_lem ns b (numbered 17 (outside least most (length_at input at)) _)
    then in_list_lem ns b (numbered 17 (ltb (length input) (at + (3 + length_at input at))) _))))

pub read_gives : (input : List ℕ) → Gives (Among (16 ∷ 17 ∷ 18 ∷ 1 ∷ 2 ∷ 3 ∷ 4 ∷ 6 ∷ [])) (read_order input)
unfolding read_order framed no18 holding one_of
read_gives input =
    let s = system_in input in
    (fields_in _ input 0 1 2 2 refl refl
    then (fields_in _ input 5 2 1 1 refl refl
    then (fields_in _ input 9 3 1 1 refl refl
    then (fields_in _ input 13 4 0 65535 refl refl
    then fields_in _ input (end_at input) 255 0 0 refl refl))))
    then (in_list_lem _ refl (numbered 18 (ltb (3 + end_at input) (length input)) _)
    then (sizes_in _ (order s.field s.shares s.size) refl refl refl
    then (in_list_lem _ refl (four (table_length s.shares s.size) s.length)
    then in_list_lem _ refl (six s.field (rows s.shares s.size) (stretch input)))))

-- ---- Step, by what is lent

-- of each number, from 0 on: its check passes, or P holds of it
unfoldable pub Each : (ℕ → Type 0) → List Told → Type 0
Each P [] = Unit
Each P (v ∷ vs) = ((v ≡ passed) ⊎ P 0) × Each (λ k. P (suc k)) vs

infixr 10 ◌also◌
pub ◌also◌ : {A B : Type 0} → A → B → A × B
a also b = (a, b)

each_at : (P : ℕ → Type 0) (vs : List Told) → Each P vs → (k : ℕ) (l : Line) → get_or vs k passed ≡ refused l → P k
unfolding Each
each_at P [] e k l g = absurd (no_refusal g)
each_at P (v ∷ vs) e zero l g = ⊎_elim (λ (h : v ≡ passed). absurd (no_refusal (sym h ∙ g))) (λ (p : P 0). p) e.0
each_at P (v ∷ vs) e (suc k) l g = each_at (λ (j : ℕ). P (suc j)) vs e.1 k l g

-- the checks of an order, each at its number: what it is refused by is what the check of that number says
abbrev pub AtNumber : List Told → Line → Type 0
AtNumber checks l = get_or checks l.number passed ≡ refused l

module _ (checks : List Told) where
  pub here : {k : ℕ} {v : Told} → get_or checks k passed ≡ v → Numbered k v → Gives (AtNumber checks) v
  here s n = record { only = λ l e. ap (λ (i : ℕ). get_or checks i passed) (n.number l e) ∙ s ∙ e }

  module _ {v : Told} (by : Gives (AtNumber checks) v) where
    -- a number whose check passes is not given, wherever it stands in the order
    pub not_given : (k : ℕ) → get_or checks k passed ≡ passed → (l : Line) → v ≡ refused l → l.number ≡ k → ⊥
    not_given k e l g same = no_refusal (sym e ∙ ap (λ (n : ℕ). get_or checks n passed) (sym same) ∙ by.only l g)

    -- and what holds of each number whose check may refuse holds of the one that is given
    pub given : (P : ℕ → Type 0) → Each P checks → (l : Line) → v ≡ refused l → P l.number
    given P each l g = each_at P checks each l.number l (by.only l g)

module _ (r : Progress) (t x : List ℕ) (mask : ℕ) (nonzero : List ℕ) where
  abbrev o : Order
  o = order_of r

  abbrev p : Place
  p = r.place

  -- its checks, each at its number; 13 is desk's, and 16 to 18 are those of Read
  abbrev pub checks : List Told
  checks =
      passed
      ∷ no1 o.field
      ∷ no2 o.shares
      ∷ no3 o.size
      ∷ no4 (whole_table o) (length t)
      ∷ no5 o.size (length x)
      ∷ no6 o.field (table_rows o) t
      ∷ no7 (mask_at o p) mask
      ∷ no8 (nonzero_at o p) (length nonzero)
      ∷ no9 o.field nonzero
      ∷ no10 o.size p
      ∷ no11 p
      ∷ no12 o p t
      ∷ passed
      ∷ no14 (mask_at o p) mask
      ∷ no15 (nonzero_at o p) (length nonzero)
      ∷ passed
      ∷ passed
      ∷ passed
      ∷ no19 r
      ∷ no20 o p x
      ∷ []

  at : {k : ℕ} {v : Told} → get_or checks k passed ≡ v → Numbered k v → Gives (AtNumber checks) v
  at = here checks

  pub by_number : Gives (AtNumber checks) (step_order r t x mask nonzero)
  unfolding step_order numbers placing standing lending exactly
  by_number =
      at refl (one o.field) then at refl (two o.shares) then at refl (three o.size)
      then (at refl (four (whole_table o) (length t)) then at refl (five o.size (length x)) then (at refl (ten o.size p) then (at refl (nineteen r) then at refl (eleven p)))
      then (at refl (six o.field (table_rows o) t)
      then (at refl (seven (mask_at o p) mask)
      then at refl (fourteen (mask_at o p) mask)
      then at refl (eight (nonzero_at o p) (length nonzero))
      then at refl (fifteen (nonzero_at o p) (length nonzero))
      then at refl (nine o.field nonzero)
      then (at refl (twenty o p x) then at refl (twelve o p t)))))
