-- `desk_line::line` meets its contract: 13 where the input isn't four bytes, and else what `counts` answers to the four.
-- Assumes nothing.
use mathlib.Core.Path.{sym, ap, ◌∙◌}
use Rattle.std.specs.Prelude.{Result}
use Rattle.course.specs.declared.Counts.{Counts}
use Rattle.verdict.specs.Calls.{says}
use Rattle.verdict.specs.declared.Refusal.{Refusal}
use Rattle.desk_line.specs.Line.{refused_line, line_of}
use Rattle.desk_line.proofs.Written.{made_as, made_within}
use Rattle.desk_line.proofs.Lines.{not_four, answered}
use Rattle.desk_line.proofs.line.Goals as goal

pub returns-then-input-ne4 : goal.returns-then-input-ne4
returns-then-input-ne4 c =
    let m = made_as (sym (not_four c.args.input.now c.if-input-ne4.true)) c.refused.ensures in
    record { made = m; counts_within = made_within m }

pub returns-in-Ok : goal.returns-in-Ok
returns-in-Ok c =
    let answer = answered c.args.input.now _ _ _ _ c.counts.result c.if-input-ne4.false c.from.ensures c.from-2.ensures c.from-3.ensures c.from-4.ensures c.counts.ensures in
    let said = ap (λ (a : Result Counts Refusal). line_of (says a)) c.in-Ok.is in
    let m = made_as (sym (answer ∙ said)) c.counted.ensures in
    record { made = m; counts_within = made_within m }

pub returns-in-Err : goal.returns-in-Err
returns-in-Err c =
    let answer = answered c.args.input.now _ _ _ _ c.counts.result c.if-input-ne4.false c.from.ensures c.from-2.ensures c.from-3.ensures c.from-4.ensures c.counts.ensures in
    let said = ap (λ (a : Result Counts Refusal). line_of (says a)) c.in-Err.is in
    let m = made_as (sym (answer ∙ said ∙ ap refused_line (sym c.number_of.ensures))) c.refused-in-Err.ensures in
    record { made = m; counts_within = made_within m }
