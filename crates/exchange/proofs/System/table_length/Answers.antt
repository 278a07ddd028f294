-- `table_length` meets its contract: 96 rows of 97 entries in four shares are the most.
-- Assumes nothing.
use mathlib.Core.Path.{refl}
use native.Mathlib.Omega.{arith}
use Rattle.verdict.specs.Cells.{bytes_of}
use Rattle.exchange.proofs.Admitted.{table_few}
use Rattle.exchange.proofs.System.table_length.Goals as goal

pub overflow_mul-result-2 : goal.overflow_mul-result-2
unfolding bytes_of
overflow_mul-result-2 c = omega (arith, table_few c.args.self.shares c.args.self.size c.requires.0 c.requires.1)

pub returns : goal.returns
unfolding bytes_of
returns c = (refl, table_few c.args.self.shares c.args.self.size c.requires.0 c.requires.1)
