-- What row's one public function promises: a row of Products.
-- Assumes nothing.
use Rattle.std.specs.Prelude.{◌≡◌, ℕ, ◌+◌, ◌*◌, ◌%◌, ◌<◌, List, get_or, take, drop}
use Rattle.field.specs.Field.{Ops}
use Rattle.sharing.specs.Run.{pairs}
use Rattle.sharing.specs.Rules.{product}

-- the entries of a row, n bytes each, have become Product(factor, entry), modulo q
pub record Products (F : Ops) (n columns : ℕ) (ds factor row out : List ℕ) : Type 0 where
  pub at : (u s : ℕ) → u < columns → s < n
      → get_or out (u * n + s) 0 % F.q ≡ get_or (product F (drop (u * pairs n) ds) factor (take n (drop (u * n) row))) s 0 % F.q
