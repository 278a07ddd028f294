-- `flag::zero_flag` meets its contract: its calls are the flag's four rules, in their order.
-- Assumes nothing.
use mathlib.Core.Path.{◌∙◌, ap}
use lib.ListN.{length}
use Rattle.field.proofs.Fields.{binary_of}
use Rattle.flag.specs.Flag.{zero_flag}
use borrow.Author.Rules.{rules}
use Rattle.flag.proofs.zero_flag.Goals as goal

pub complement-requires : goal.complement-requires
complement-requires c = record { binary = binary_of c.args.f; s_nonzero = search rules }

pub fold_all-requires : goal.fold_all-requires
fold_all-requires c = let e = c.complement.auto.s ∙ ap length c.copy_into.ensures in
    record { binary = binary_of c.args.f; in_bounds = rw e (search rules) }

pub returns : goal.returns
unfolding zero_flag
returns c =
    let e = c.complement.auto.s ∙ ap length c.copy_into.ensures in
    rw (c.fold_all.ensures, e, c.complement.ensures, c.copy_into.ensures) at c.low_bits.ensures
