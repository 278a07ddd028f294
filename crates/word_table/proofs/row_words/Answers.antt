-- `word_table::row_words` meets its contract.
-- Assumes nothing.
use native.Mathlib.Omega.{arith}
use Rattle.word_table.proofs.Sizes.{row_small}
use borrow.Author.Rules.{rules}
use Rattle.word_table.proofs.row_words.Goals as goal

pub overflow_mul-result : goal.overflow_mul-result
overflow_mul-result c = omega (arith, row_small c.requires.0 c.requires.1)

pub returns : goal.returns
returns c = (search rules, row_small c.requires.0 c.requires.1)
