-- R-3's record and what is read where it is cut or changed, worked out by the definitions.
-- Assumes nothing.
use mathlib.Core.Path.{◌≡◌, refl}
use mathlib.Core.List.{List, [], ◌∷◌, ◌++◌, map}
use Prim.Native.Nat.{ℕ}
use lib.ListN.{take, set, replicate}
use Rattle.field.specs.Field.{F16, F256, field_of}
use Rattle.verdict.specs.Told.{line, ◌or◌}
use Rattle.verdict.specs.Cells.{cell_at, bytes_of}
use Rattle.verdict.specs.Refusals.{outside, first_place, too_large, no1, no2, no3, no4, no6, numbers}
use Rattle.verdict.specs.Calls.{Says, refuses, gives, call}
use Rattle.exchange.specs.declared.System.{System}
use Rattle.exchange.specs.Record.{tagged, record_of, number_at, ends, no16, unsuited, field_at, stretch, framed, system, system_in, holding}
use Rattle.exchange.specs.Calls.{no18, read_order, read_call, table_in}

-- 16, 2 shares, size 1, table 1, 2, 3, 4
pub R : List ℕ
R =
    1 ∷ 0 ∷ 2 ∷ 0 ∷ 16 ∷ 2 ∷ 0 ∷ 1 ∷ 2 ∷ 3 ∷ 0 ∷ 1 ∷ 1 ∷ 4 ∷ 0 ∷ 4 ∷ 1 ∷ 2 ∷ 3 ∷ 4 ∷ 255 ∷ 0 ∷ 0 ∷ []

pub written : record_of 16 2 1 (1 ∷ 2 ∷ 3 ∷ 4 ∷ []) ≡ R
unfolding R tagged record_of
written = refl

pub record Row : Type 0 where
  pub input : List ℕ
  pub says : Says System

abbrev row : List ℕ → Says System → Row
row input says = record { input = input; says = says }

abbrev told : ℕ → List ℕ → Says System
told k detail = refuses (line k detail)

-- R with another table: "any length suits tag 4"
tabled : List ℕ → List ℕ
tabled t = take 13 R ++ (tagged 4 t ++ tagged 255 [])

pub inputs : List Row
inputs =
    row R (gives (system 16 2 1 4))
    ∷ row [] (told 17 (0 ∷ []))
    ∷ row (take 5 R) (told 17 (5 ∷ []))
    ∷ row (take 22 R) (told 17 (20 ∷ []))
    ∷ row (R ++ (0 ∷ [])) (told 18 (23 ∷ []))
    ∷ row (set R 13 5) (told 16 (13 ∷ []))
    ∷ row (set R 20 254) (told 16 (20 ∷ []))
    ∷ row (set R 18 16) (told 6 (1 ∷ 2 ∷ 1 ∷ []))
    ∷ row (take 14 (set R 13 5)) (told 16 (13 ∷ []))
    ∷ row (set R 2 1) (told 17 (0 ∷ []))
    ∷ row (set (R ++ (0 ∷ [])) 4 17) (told 18 (23 ∷ []))
    ∷ row (set (set R 4 17) 8 1) (told 1 (17 ∷ []))
    ∷ row (set (set R 8 1) 12 0) (told 2 (1 ∷ []))
    ∷ row (set R 12 97) (told 3 (97 ∷ []))
    ∷ row (set R 8 3) (told 4 (6 ∷ []))
    ∷ row (tabled []) (told 4 (4 ∷ []))
    ∷ row (tabled (replicate 65535 0)) (told 4 (4 ∷ []))
    ∷ []

pub read : map (λ r. (read_call r.input).says) inputs ≡ map (λ r. r.says) inputs
unfolding R tagged tabled inputs F16 F256 field_of ◌or◌ cell_at bytes_of outside first_place too_large no1 no2 no3 no4 no6 numbers call number_at ends no16 unsuited field_at stretch framed system_in holding no18 read_order read_call
read = refl

pub handed_on : table_in R ≡ 1 ∷ 2 ∷ 3 ∷ 4 ∷ []
unfolding R F16 field_of ◌or◌ bytes_of outside first_place too_large no1 no2 no3 no4 no6 numbers number_at ends no16 unsuited field_at stretch framed system_in holding no18 read_order table_in
handed_on = refl
