-- What a call tells, as a code and four words: the codes of include/hostozaro.h.
-- Assumes nothing.
use Rattle.std.specs.Prelude.{List, [], ◌∷◌, ℕ}
use Rattle.course.specs.declared.Counts.{Counts}
use Rattle.course.specs.declared.Draws.{Draws}
use Rattle.walk.specs.declared.Ending.{Ending}
use Rattle.walk.specs.declared.Ending.TheVariants.{Solved, Stopped}
use Rattle.verdict.specs.Told.{Line}
use Rattle.verdict.specs.Refusals.{report_of}
use Rattle.verdict.specs.Calls.{Says, refuses, gives, Nothing}
use Rattle.solver.specs.declared.Stride.{Stride}
use Rattle.solver.specs.declared.Stride.TheVariants as S
use Rattle.algebra.specs.Linear.{Answer, solved, stopped}
use Rattle.exchange.specs.declared.System.{System}
use Rattle.wide_walk.specs.declared.WideEnding.{WideEnding}
use Rattle.wide_walk.specs.declared.WideEnding.TheVariants as Wide
use Rattle.wide.specs.declared.WideStride.{WideStride}
use Rattle.wide.specs.declared.WideStride.TheVariants as W
use Rattle.host.specs.declared.replies.Reply.{Reply}

abbrev pub reply : ℕ → ℕ → ℕ → ℕ → ℕ → Reply
reply code a b c d = record { code = code; a = a; b = b; c = c; d = d }

-- the words of an answer
abbrev pub four_of : Reply → List ℕ
four_of r = r.a ∷ r.b ∷ r.c ∷ r.d ∷ []

-- 0: the refusal's number, and its detail
abbrev pub refusal_reply : Line → Reply
refusal_reply l = let r = report_of l in reply 0 r.number r.a r.b r.c

-- Step
abbrev pub stride_reply : Stride → Reply
stride_reply S.Moved = reply 1 0 0 0 0
stride_reply (S.Opened j x) = reply 2 j x 0 0
stride_reply (S.Stopped j) = reply 3 j 0 0 0
stride_reply (S.Done x) = reply 4 x 0 0 0

-- Solve
abbrev pub ending_reply : Ending → Reply
ending_reply (Stopped j c) = reply 3 j c.steps c.mask c.nonzero
ending_reply (Solved c) = reply 5 c.steps c.mask c.nonzero 0

-- the plain solve, which has no counters
abbrev pub plain_reply : Answer → Reply
plain_reply (stopped j) = reply 3 j 0 0 0
plain_reply solved = reply 5 0 0 0 0

-- Deal, Gather and Write
abbrev pub full_reply : Nothing → Reply
full_reply x = reply 6 0 0 0 0

-- Read
abbrev pub system_reply : System → Reply
system_reply s = reply 10 s.field s.shares s.size s.length

-- Start, of a record of either kind
abbrev pub fresh_reply : Reply
fresh_reply = reply 7 0 0 0 0

-- the counts
abbrev pub counts_reply : Counts → Reply
counts_reply c = reply 8 c.steps c.mask c.nonzero 0

-- Wanted
abbrev pub wanted_reply : Draws → Reply
wanted_reply d = reply 9 d.mask d.nonzero 0 0

-- the wide calls: a step, the whole solve
abbrev pub wide_stride_reply : WideStride → Reply
wide_stride_reply W.Moved = reply 1 0 0 0 0
wide_stride_reply (W.Opened j x) = reply 2 j x 0 0
wide_stride_reply W.Short = reply 11 0 0 0 0
wide_stride_reply (W.Done j x) = reply 4 j x 0 0

abbrev pub wide_ending_reply : WideEnding → Reply
wide_ending_reply (Wide.Solved c) = reply 5 c.steps c.mask c.nonzero 0
wide_ending_reply (Wide.Short c) = reply 11 c.steps c.mask c.nonzero 0

abbrev pub said : {A : Type 0} → (A → Reply) → Says A → Reply
said f (refuses l) = refusal_reply l
said f (gives a) = f a
