-- The calls for C: for every input the code, and every lent byte and word afterwards.
-- Assumes nothing.
use Rattle.std.specs.Prelude.{Bool, ◌&&◌, List, ℕ, eqb, length}
use Rattle.field.specs.Field.{pick}
use Rattle.course.specs.declared.Order.{Order}
use Rattle.walk.specs.Act.{Held}
use Rattle.verdict.specs.Calls.{Says, refuses, gives, Outcome, Nothing}
use Rattle.solver.specs.Calls.{start_call, counts_call, deal_call, gather_call, solve_call, step_call, wanted_call}
use Rattle.plain.specs.Calls.{plain_call}
use Rattle.exchange.specs.Calls.{write_call, read_call}
use Rattle.pattern.specs.declared.WideOrder.{WideOrder}
use Rattle.wide.specs.WideCalls as Wide
use Rattle.host.specs.declared.replies.Reply.{Reply}
use Rattle.host.specs.Words.{progress_of, words_of}
use Rattle.host.specs.WideWords.{wide_of, wide_words_of}
use Rattle.host.specs.Replies.{four_of, refusal_reply, said, fresh_reply, counts_reply, full_reply, ending_reply, stride_reply, wanted_reply, plain_reply, system_reply, wide_stride_reply, wide_ending_reply}

-- a call that came back: its code, what it was lent as it stands afterwards, and the answer's words
pub record Back (L : Type 0) : Type 0 where
  pub code : ℕ
  pub left : L
  pub answer : List ℕ

abbrev pub back : {L : Type 0} → ℕ → L → List ℕ → Back L
back code left answer = record { code = code; left = left; answer = answer }

abbrev pub replied : {L : Type 0} → Reply → L → Back L
replied r left = back r.code left (four_of r)

-- an outcome in words
unfoldable pub handed : {A L : Type 0} → (A → Reply) → Outcome A L → Back L
handed f o = replied (said f o.says) o.left

-- code 99 and all as found, unless the words are as many as they should be
unfoldable pub worded : {L : Type 0} → Bool → L → List ℕ → Back L → Back L
worded right found answer does = pick right does (back 99 found answer)

-- how many words an answer should have, and a record beside it
abbrev pub four : ℕ → Bool
four answer = eqb answer 4

unfoldable pub words_right : ℕ → ℕ → ℕ → Bool
words_right right words answer = eqb words right && four answer

-- ---- Start: the record is written where it is fresh

unfoldable pub start_handed : {P : Type 0} → (P → List ℕ) → List ℕ → Says P → Back (List ℕ)
start_handed words w (refuses l) = replied (refusal_reply l) w
start_handed words w (gives p) = replied fresh_reply (words p)

unfoldable pub hz_start : Order → List ℕ → List ℕ → Back (List ℕ)
hz_start o w answer = worded (words_right 8 (length w) (length answer)) w answer (start_handed words_of w (start_call o).says)

-- ---- Step: the record's words, beside the table and the solution

pub record Recorded : Type 0 where
  pub words : List ℕ
  pub held : Held

abbrev pub recorded : List ℕ → Held → Recorded
recorded w h = record { words = w; held = h }

-- the words of a record after a step: as found on a refusal
abbrev pub kept : {A : Type 0} → Says A → List ℕ → List ℕ → List ℕ
kept (refuses l) found next = found
kept (gives a) found next = next

unfoldable pub step_handed : {A L : Type 0} → (A → Reply) → (L → List ℕ) → (L → Held) → List ℕ → Outcome A L → Back Recorded
step_handed f words lent_to w o = replied (said f o.says) (recorded (kept o.says w (words o.left)) (lent_to o.left))

unfoldable pub hz_step : List ℕ → Held → List ℕ → List ℕ → List ℕ → Back Recorded
hz_step w h mask nonzero answer =
    worded (words_right 8 (length w) (length answer)) (recorded w h) answer
    (step_handed stride_reply (λ l. words_of l.progress) (λ l. l.held) w (step_call (progress_of w) h mask nonzero))

-- ---- Wanted: the record's words are read, and only read

unfoldable pub hz_wanted : List ℕ → List ℕ → Back Nothing
hz_wanted w answer = worded (words_right 8 (length w) (length answer)) tt answer (handed wanted_reply (wanted_call (progress_of w)))

-- ---- Solve, Deal, Gather, and the counts

unfoldable pub hz_solve : Order → Held → List ℕ → List ℕ → List ℕ → Back Held
hz_solve o h mask nonzero answer = worded (four (length answer)) h answer (handed ending_reply (solve_call o h mask nonzero))

unfoldable pub hz_deal : Order → List ℕ → List ℕ → List ℕ → List ℕ → Back (List ℕ)
hz_deal o values mask table answer = worded (four (length answer)) table answer (handed full_reply (deal_call o values mask table))

unfoldable pub hz_gather : Order → List ℕ → List ℕ → List ℕ → Back (List ℕ)
hz_gather o table values answer = worded (four (length answer)) values answer (handed full_reply (gather_call o table values))

unfoldable pub hz_counts : Order → List ℕ → Back Nothing
hz_counts o answer = worded (four (length answer)) tt answer (handed counts_reply (counts_call o))

-- ---- the plain solve

unfoldable pub hz_plain : ℕ → ℕ → List ℕ → List ℕ → List ℕ → Back (List ℕ)
hz_plain field size values x answer = worded (four (length answer)) x answer (handed plain_reply (plain_call field size values x))

-- ---- the exchange record: written into the target; read, and only read

unfoldable pub hz_write : ℕ → ℕ → ℕ → List ℕ → List ℕ → List ℕ → Back (List ℕ)
hz_write f n m table target answer =
    worded (four (length answer)) target answer (handed full_reply (write_call f n m table target))

unfoldable pub hz_read : List ℕ → List ℕ → Back Nothing
hz_read input answer = worded (four (length answer)) tt answer (handed system_reply (read_call input))

-- ---- the wide calls. Start and Step leave the record's words as found on a refusal

unfoldable pub hz_wide_start : WideOrder → List ℕ → List ℕ → Back (List ℕ)
hz_wide_start o w answer =
    worded (words_right 106 (length w) (length answer)) w answer (start_handed wide_words_of w (Wide.start_call o).says)

unfoldable pub hz_wide_step : List ℕ → Held → List ℕ → List ℕ → List ℕ → Back Recorded
hz_wide_step w h mask nonzero answer =
    worded (words_right 106 (length w) (length answer)) (recorded w h) answer
    (step_handed wide_stride_reply (λ l. wide_words_of l.progress) (λ l. l.held) w (Wide.step_call (wide_of w) h mask nonzero))

unfoldable pub hz_wide_wanted : List ℕ → List ℕ → Back Nothing
hz_wide_wanted w answer =
    worded (words_right 106 (length w) (length answer)) tt answer (handed wanted_reply (Wide.wanted_call (wide_of w)))

unfoldable pub hz_wide_counts : WideOrder → List ℕ → Back Nothing
hz_wide_counts o answer = worded (four (length answer)) tt answer (handed wanted_reply (Wide.counts_call o))

unfoldable pub hz_wide_solve : WideOrder → Held → List ℕ → List ℕ → List ℕ → Back Held
hz_wide_solve o h mask nonzero answer =
    worded (four (length answer)) h answer (handed wide_ending_reply (Wide.solve_call o h mask nonzero))
