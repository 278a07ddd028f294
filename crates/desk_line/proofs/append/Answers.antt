-- `desk_line::append` meets its contract: the text stands in its place, and behind it what stood there.
-- Assumes nothing.
use Rattle.std.proofs.Common.{rules}
use Rattle.std.proofs.lemmas.Slice.{put_mid-paste}
use mathlib.Core.Path.{refl, ◌∙◌}
use native.Mathlib.Omega.{arith}
use Rattle.desk_line.proofs.Written.{pasted_all}
use Rattle.desk_line.proofs.append.Goals as goal

pub returns : goal.returns
returns c =
    let a = c.args in
    record {
      bytes = put_mid-paste a.at _ a.out.now _ a.text.now _ (search rules) (omega arith) refl ∙ pasted_all _ _ _;
      next = refl;
    }
