-- A call for C at work: code 99 where the words are too many or too few, else the call's outcome in words.
-- Assumes nothing.
use mathlib.Core.Bool.{Bool, true, false}
use mathlib.Core.Logic.{◌⊎◌, ⊎_elim}
use mathlib.Core.List.{List}
use mathlib.Core.Path.{◌≡◌, refl}
use Prim.Native.Nat.{ℕ}
use borrow.Author.Tests.{eq-eqb, ne_eqb}
use Rattle.std.specs.Prelude.{Result, Ok, Err}
use Rattle.walk.specs.Act.{Held}
use Rattle.verdict.specs.declared.Refusal.{Refusal}
use Rattle.plain.specs.declared.Ending.{Ending}
use Rattle.plain.specs.Calls.{answer, plain_says}
use Rattle.verdict.specs.Told.{Line}
use Rattle.verdict.specs.Calls.{Says, refuses, gives, Outcome, after, Nothing, says}
use Rattle.host.specs.declared.replies.Reply.{Reply}
use Rattle.host.specs.Replies.{refusal_reply, four_of, said, fresh_reply, plain_reply}
use Rattle.host.specs.Faces.{Back, back, handed, worded, words_right, start_handed, recorded, step_handed}

module _ {L : Type 0} where
  pub words_wrong : (right : Bool) (found : L) (answer : List ℕ) (does : Back L) → right ≡ false → back 99 found answer ≡ worded right found answer does
  unfolding worded
  words_wrong right found answer does e = rw e

  pub words_right_lem : (right : Bool) (found : L) (answer : List ℕ) (does b : Back L) → right ≡ true → b ≡ does → b ≡ worded right found answer does
  unfolding worded
  words_right_lem right found answer does b e g = rw e g

-- the words of a record and of an answer, counted
module _ (right words answer : ℕ) where
  pub not_words-or-four : (words ≡ right → ⊥) ⊎ ((words ≡ right) × (answer ≡ 4 → ⊥)) → words_right right words answer ≡ false
  unfolding words_right
  not_words-or-four = ⊎_elim (λ h. rw (ne_eqb _ _ h)) (λ h. rw (eq-eqb _ _ h.0, ne_eqb _ _ h.1))

  pub words-and-four : words ≡ right → answer ≡ 4 → words_right right words answer ≡ true
  unfolding words_right
  words-and-four e h = rw (eq-eqb _ _ e, eq-eqb _ _ h)

-- what `say` ensures: the code, and the answer's words
abbrev pub Said : ℕ → List ℕ → Reply → Type 0
Said code answer r = (code ≡ r.code) × (answer ≡ four_of r)

module _ (code : ℕ) (answer : List ℕ) (r : Reply) (so : Said code answer r) where
  pub hands : {A L : Type 0} (f : A → Reply) (o : Outcome A L) (s : Says A) (l : L) → after s l ≡ o → r ≡ said f s
      → back code l answer ≡ handed f o
  unfolding handed
  hands f o s l e h = rw (so.0, so.1, h, ← e)

  pub hands_fresh : {P : Type 0} (words : P → List ℕ) (w v : List ℕ) (o : Outcome P Nothing) (p : P) → after (gives p) tt ≡ o
      → r ≡ fresh_reply → v ≡ words p → back code v answer ≡ start_handed words w o.says
  unfolding start_handed
  hands_fresh words w v o p e h k = rw (so.0, so.1, h, k, ← e)

  pub hands_no_record : {P : Type 0} (words : P → List ℕ) (w : List ℕ) (o : Outcome P Nothing) (l : Line) → after (refuses l) tt ≡ o
      → r ≡ refusal_reply l → back code w answer ≡ start_handed words w o.says
  unfolding start_handed
  hands_no_record words w o l e h = rw (so.0, so.1, h, ← e)

  module _ {A L : Type 0} (f : A → Reply) (words : L → List ℕ) (lent_to : L → Held) (w : List ℕ) (o : Outcome A L) (left : L) where
    pub hands_step : (v : List ℕ) (a : A) → after (gives a) left ≡ o → r ≡ f a → v ≡ words left
        → back code (recorded v (lent_to left)) answer ≡ step_handed f words lent_to w o
    unfolding step_handed
    hands_step v a e g k = rw (so.0, so.1, k, g, ← e)

    pub hands_no_step : (l : Line) → after (refuses l) left ≡ o → r ≡ refusal_reply l
        → back code (recorded w (lent_to left)) answer ≡ step_handed f words lent_to w o
    unfolding step_handed
    hands_no_step l e g = rw (so.0, so.1, g, ← e)

-- what the plain solve came to, as the code says it and as the definition does
pub plain_said : (x : Result Ending Refusal) → said (λ e. plain_reply (answer e)) (says x) ≡ said plain_reply (plain_says x)
plain_said (Ok e) = refl
plain_said (Err r) = refl
