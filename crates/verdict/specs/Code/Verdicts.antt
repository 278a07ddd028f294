-- What a check hands back, in 01's words.
-- Assumes nothing.
use Rattle.std.specs.Prelude.{Result, Ok, Err}
use Rattle.verdict.specs.declared.Refusal.{Refusal}
use Rattle.verdict.specs.Told.{Told, passed, refused}
use Rattle.verdict.specs.Refusals.{paper}

abbrev pub told : Result (Unit {0}) Refusal → Told
told (Ok x) = passed
told (Err r) = refused (paper r)
