-- 01's rules and steps on made-up shares and draws, share for share. Each row has what the definitions give, worked out, and what an
-- independent implementation of 01 gave (tests/host/model.c). tests/vectors/vectors.c prints the rows, and tests/vectors/run compares.
-- Assumes nothing.
use Rattle.std.specs.Prelude.{List, [], ◌∷◌, ◌++◌, refl, ℕ, zero, suc, ◌+◌, ◌*◌, ◌/◌, ◌%◌, ◌^◌, replicate}
use Rattle.field.specs.Field.{Ops, F16, F256}
use Rattle.sharing.specs.Rules.{refresh, pair_refresh, product, blinded, blinded_value, factors}
use Rattle.flag.specs.Flag.{and_of, zero_flag}
use Rattle.course.specs.declared.Order.{Order}
use Rattle.course.specs.declared.Step.{Step}
use Rattle.course.specs.declared.Step.TheVariants.{Mix, Check, Scale, Clear, Open, Lift}
use Rattle.walk.specs.declared.Ending.{Ending}
use Rattle.walk.specs.declared.Ending.TheVariants.{Solved, Stopped}
use Rattle.walk.specs.Act.{Held, held, opened, acted}
use Rattle.walk.specs.Walk.{Solution, solved}
use Rattle.walk.specs.Dealing.{dealt, gathered}
use Rattle.starred.specs.Rows.{Row, row, Holds, order, counted, definitions}

-- k bytes, written as one number; in a table a _ stands between entries
unfoldable pub bytes : ℕ → ℕ → List ℕ
bytes zero x = []
bytes (suc k) x = x / 256 ^ k % 256 ∷ bytes k x

-- k draws of 16 and more: the powers of 7 modulo 241, from a on, are the numbers from 1 to 240, each once
unfoldable pub draws : ℕ → ℕ → List ℕ
draws a zero = []
draws a (suc k) = (a + 15) ∷ draws (a * 7 % 241) k

-- u, and the record of factors
unfoldable pub inversion : Ops → List ℕ → List ℕ → List ℕ → List ℕ
inversion F nz ds s = blinded_value F nz ds s ∷ factors F nz ds s

-- numbers that were answered, and the table and the solution that were left
unfoldable pub left : List ℕ → List ℕ → List ℕ → List ℕ
left numbers t x = numbers ++ (t ++ x)

unfoldable pub leaves : List ℕ → Held → List ℕ
leaves numbers h = left numbers h.table h.solution

-- what is lent: a table, and a solution that nothing has written
unfoldable pub lent : Order → List ℕ → Held
lent o t = held t (replicate o.size 0xee)

-- one step: the number that it opens, and what it leaves
unfoldable pub step : Order → Step → List ℕ → List ℕ → List ℕ → List ℕ
step o s ds nz t = leaves (opened o s ds (lent o t) ∷ []) (acted o s ds nz (lent o t))

-- Lift(j), which takes no draws and reads the solution
unfoldable pub lift : Order → ℕ → List ℕ → List ℕ → List ℕ
lift o j t x = leaves (opened o (Lift j) [] (held t x) ∷ []) (acted o (Lift j) [] [] (held t x))

-- 0 for solved, j for stopped at j; then the steps, mask draws and nonzero draws taken
unfoldable pub said : Ending → List ℕ
said (Solved c) = 0 ∷ counted c
said (Stopped j c) = j ∷ counted c

unfoldable pub told : Solution → List ℕ
told s = leaves (said s.answer) s.left

-- a whole solve: the answer, and what it leaves
unfoldable pub solve : Order → List ℕ → List ℕ → List ℕ → List ℕ
solve o ms zs t = told (solved o ms zs (lent o t))

pub rows : List Row
rows =
    -- F16, n = 2: Refresh
    row (refresh F16 (draws 239 1) (bytes 2 0x08_07)) (bytes 2 0x06_09)
    -- F16, n = 2: Opening, before the shares are summed
    ∷ row (pair_refresh F16 (draws 239 1) (bytes 2 0x08_07)) (bytes 2 0x06_09)
    -- F16, n = 2: Product
    ∷ row (product F16 (draws 239 1) (bytes 2 0x08_07) (bytes 2 0x0a_05)) (bytes 2 0x01_0b)
    -- F16, n = 2: And
    ∷ row (and_of F16 (draws 239 1) (bytes 2 0x08_07) (bytes 2 0x0a_05)) (bytes 2 0x06_09)
    -- F16, n = 2: Zero flag of 0
    ∷ row (zero_flag 16 (draws 239 4) (bytes 2 0x08_08)) (bytes 2 0x00_01)
    -- F16, n = 2: Zero flag of 8
    ∷ row (zero_flag 16 (draws 239 4) (bytes 2 0x08_00)) (bytes 2 0x00_00)
    -- F16, n = 2: Inversion of 11, before the Opening
    ∷ row (blinded F16 (bytes 1 0x49) (draws 239 1) (bytes 2 0x08_03)) (bytes 2 0x0a_06)
    -- F16, n = 2: Inversion of 11: u, and the n factors
    ∷ row (inversion F16 (bytes 1 0x49) (draws 239 2) (bytes 2 0x08_03)) (bytes 3 0x0c_09_0a)
    -- F16, n = 3: Refresh
    ∷ row (refresh F16 (draws 169 2) (bytes 3 0x02_0c_06)) (bytes 3 0x00_04_0c)
    -- F16, n = 3: Opening, before the shares are summed
    ∷ row (pair_refresh F16 (draws 169 3) (bytes 3 0x02_0c_06)) (bytes 3 0x00_02_0a)
    -- F16, n = 3: Product
    ∷ row (product F16 (draws 169 3) (bytes 3 0x02_0c_06) (bytes 3 0x0b_08_09)) (bytes 3 0x07_0a_02)
    -- F16, n = 3: And
    ∷ row (and_of F16 (draws 169 3) (bytes 3 0x02_0c_06) (bytes 3 0x0b_08_09)) (bytes 3 0x00_0e_06)
    -- F16, n = 3: Zero flag of 0
    ∷ row (zero_flag 16 (draws 96 12) (bytes 3 0x04_0a_0e)) (bytes 3 0x00_01_00)
    -- F16, n = 3: Zero flag of 8
    ∷ row (zero_flag 16 (draws 96 12) (bytes 3 0x04_0a_06)) (bytes 3 0x00_01_01)
    -- F16, n = 3: Inversion of 11, before the Opening
    ∷ row (blinded F16 (bytes 2 0xd7_d2) (draws 169 4) (bytes 3 0x02_0c_05)) (bytes 3 0x03_01_0a)
    -- F16, n = 3: Inversion of 11: u, and the n factors
    ∷ row (inversion F16 (bytes 2 0xd7_d2) (draws 169 7) (bytes 3 0x02_0c_05)) (bytes 4 0x08_07_02_0f)
    -- F16, n = 4: Refresh
    ∷ row (refresh F16 (draws 131 3) (bytes 4 0x0b_0a_0f_0c)) (bytes 4 0x00_08_0e_04)
    -- F16, n = 4: Opening, before the shares are summed
    ∷ row (pair_refresh F16 (draws 131 6) (bytes 4 0x0b_0a_0f_0c)) (bytes 4 0x00_0b_01_08)
    -- F16, n = 4: Product
    ∷ row (product F16 (draws 131 6) (bytes 4 0x0b_0a_0f_0c) (bytes 4 0x05_0e_03_08)) (bytes 4 0x0a_0b_0c_0d)
    -- F16, n = 4: And
    ∷ row (and_of F16 (draws 131 6) (bytes 4 0x0b_0a_0f_0c) (bytes 4 0x05_0e_03_08)) (bytes 4 0x0a_01_07_0c)
    -- F16, n = 4: Zero flag of 0
    ∷ row (zero_flag 16 (draws 135 24) (bytes 4 0x09_0c_06_03)) (bytes 4 0x01_00_00_00)
    -- F16, n = 4: Zero flag of 8
    ∷ row (zero_flag 16 (draws 135 24) (bytes 4 0x09_0c_06_0b)) (bytes 4 0x01_00_00_01)
    -- F16, n = 4: Inversion of 11, before the Opening
    ∷ row (blinded F16 (bytes 3 0x1a_5c_48) (draws 131 9) (bytes 4 0x0b_0a_0f_05)) (bytes 4 0x02_03_0f_09)
    -- F16, n = 4: Inversion of 11: u, and the n factors
    ∷ row (inversion F16 (bytes 3 0x1a_5c_48) (draws 131 15) (bytes 4 0x0b_0a_0f_05)) (bytes 5 0x07_0a_0c_08_06)
    -- F256, n = 2: Refresh
    ∷ row (refresh F256 (draws 8 1) (bytes 2 0x7f_0f)) (bytes 2 0x68_18)
    -- F256, n = 2: Opening, before the shares are summed
    ∷ row (pair_refresh F256 (draws 8 1) (bytes 2 0x7f_0f)) (bytes 2 0x68_18)
    -- F256, n = 2: Product
    ∷ row (product F256 (draws 8 1) (bytes 2 0x7f_0f) (bytes 2 0x03_34)) (bytes 2 0x96_1e)
    -- F256, n = 2: And
    ∷ row (and_of F256 (draws 8 1) (bytes 2 0x7f_0f) (bytes 2 0x03_34)) (bytes 2 0x14_24)
    -- F256, n = 2: Zero flag of 0
    ∷ row (zero_flag 256 (draws 8 6) (bytes 2 0x7f_7f)) (bytes 2 0x01_00)
    -- F256, n = 2: Zero flag of 8
    ∷ row (zero_flag 256 (draws 8 6) (bytes 2 0x7f_77)) (bytes 2 0x01_01)
    -- F256, n = 2: Inversion of 11, before the Opening
    ∷ row (blinded F256 (bytes 1 0xcf) (draws 8 1) (bytes 2 0x7f_74)) (bytes 2 0xa9_c1)
    -- F256, n = 2: Inversion of 11: u, and the n factors
    ∷ row (inversion F256 (bytes 1 0xcf) (draws 8 2) (bytes 2 0x7f_74)) (bytes 3 0x68_cf_f4)
    -- F256, n = 3: Refresh
    ∷ row (refresh F256 (draws 41 2) (bytes 3 0xad_4c_e7)) (bytes 3 0xa8_74_da)
    -- F256, n = 3: Opening, before the shares are summed
    ∷ row (pair_refresh F256 (draws 41 3) (bytes 3 0xad_4c_e7)) (bytes 3 0xa8_14_ba)
    -- F256, n = 3: Product
    ∷ row (product F256 (draws 41 3) (bytes 3 0xad_4c_e7) (bytes 3 0x12_fe_1f)) (bytes 3 0x7a_7a_1c)
    -- F256, n = 3: And
    ∷ row (and_of F256 (draws 41 3) (bytes 3 0xad_4c_e7) (bytes 3 0x12_fe_1f)) (bytes 3 0x05_b8_bf)
    -- F256, n = 3: Zero flag of 0
    ∷ row (zero_flag 256 (draws 120 18) (bytes 3 0xba_3f_85)) (bytes 3 0x01_00_00)
    -- F256, n = 3: Zero flag of 8
    ∷ row (zero_flag 256 (draws 120 18) (bytes 3 0xba_3f_8d)) (bytes 3 0x01_00_01)
    -- F256, n = 3: Inversion of 11, before the Opening
    ∷ row (blinded F256 (bytes 2 0x23_9b) (draws 41 4) (bytes 3 0xad_4c_ea)) (bytes 3 0x03_6b_2e)
    -- F256, n = 3: Inversion of 11: u, and the n factors
    ∷ row (inversion F256 (bytes 2 0x23_9b) (draws 41 7) (bytes 3 0xad_4c_ea)) (bytes 4 0x46_23_9b_f5)
    -- F256, n = 4: Refresh
    ∷ row (refresh F256 (draws 74 3) (bytes 4 0x18_c8_91_3f)) (bytes 4 0x68_91_a2_25)
    -- F256, n = 4: Opening, before the shares are summed
    ∷ row (pair_refresh F256 (draws 74 6) (bytes 4 0x18_c8_91_3f)) (bytes 4 0x68_85_53_c0)
    -- F256, n = 4: Product
    ∷ row (product F256 (draws 74 6) (bytes 4 0x18_c8_91_3f) (bytes 4 0x1b_dd_c0_65)) (bytes 4 0x03_6d_0c_0b)
    -- F256, n = 4: And
    ∷ row (and_of F256 (draws 74 6) (bytes 4 0x18_c8_91_3f) (bytes 4 0x1b_dd_c0_65)) (bytes 4 0x68_95_02_9d)
    -- F256, n = 4: Zero flag of 0
    ∷ row (zero_flag 256 (draws 120 36) (bytes 4 0xba_3f_74_f1)) (bytes 4 0x00_01_01_01)
    -- F256, n = 4: Zero flag of 8
    ∷ row (zero_flag 256 (draws 120 36) (bytes 4 0xba_3f_74_f9)) (bytes 4 0x00_01_01_00)
    -- F256, n = 4: Inversion of 11, before the Opening
    ∷ row (blinded F256 (bytes 3 0x68_9c_26) (draws 74 9) (bytes 4 0x18_c8_91_4a)) (bytes 4 0xdc_db_d5_82)
    -- F256, n = 4: Inversion of 11: u, and the n factors
    ∷ row (inversion F256 (bytes 3 0x68_9c_26) (draws 74 15) (bytes 4 0x18_c8_91_4a)) (bytes 5 0x50_68_9c_26_ed)
    -- F16, n = 2: Deal, m = 2
    ∷ row (dealt 16 2 6 (bytes 6 0x02_0a_08_0c_02_0d) (draws 135 6) (bytes 12 0x090c_060a_030a_0609_0a0b_020c))
    (bytes 12 0x0406_070d_030b_0c00_0406_070a)
    -- F256, n = 3: Deal, m = 1
    ∷ row (dealt 256 3 2 (bytes 2 0xbe_cb) (draws 221 4) (bytes 6 0xaa8858_474b7c))
    (bytes 6 0x26ec74_abf090)
    -- F16, n = 4: Deal, m = 1
    ∷ row (dealt 16 4 2 (bytes 2 0x0a_0d) (draws 180 6) (bytes 8 0x0b030a04_030f0509))
    (bytes 8 0x0003060f_070b0203)
    -- F16, n = 2: Gather, m = 2
    ∷ row (gathered 16 2 6 (bytes 12 0x0c0e_0b01_0b01_0502_080f_020e)) (bytes 6 0x02_0a_0a_07_07_0c)
    -- F256, n = 3: Gather, m = 1
    ∷ row (gathered 256 3 2 (bytes 6 0x9dbaad_0f5323)) (bytes 2 0x8a_7f)
    -- F16, n = 4: Gather, m = 1
    ∷ row (gathered 16 4 2 (bytes 8 0x0e050f0c_0b060402)) (bytes 2 0x08_0b)
    -- F16, n = 2: Mix where T[1,1] is 0
    ∷ row (step (order 16 2 2) (Mix 1 2) (draws 230 7) [] (bytes 12 0x0101_0106_0401_0d00_090c_040c))
    (left (0 ∷ []) (bytes 12 0x0e03_0a08_0e03_0d00_090c_040c) (bytes 2 0xee_ee))
    -- F256, n = 3: Mix where T[1,1] is 0
    ∷ row (step (order 256 3 2) (Mix 1 2) (draws 120 27) [] (bytes 18 0xba3f85_1acca1_20f6ce_671452_2f9edf_f40ca2))
    (left (0 ∷ []) (bytes 18 0xceb05f_5994d4_b8758f_671452_2f9edf_f40ca2) (bytes 2 0xee_ee))
    -- F16, n = 4: Mix where T[2,2] is 0
    ∷ row (step (order 16 4 3) (Mix 2 3) (draws 135 42) [] (bytes 48 0x090c060a_030a0609_0a0b020c_000a0c0a_0f04050b_0d0e0201_00040001_000f020c_050e0a0a_0a0c0d0f_040a080d_0604050f))
    (left (0 ∷ []) (bytes 48 0x090c060a_030a0609_0a0b020c_000a0c0a_0f04050b_0905020a_070d0307_000b0705_050e0a0a_0a0c0d0f_040a080d_0604050f) (bytes 3 0xee_ee_ee))
    -- F16, n = 3: Mix where T[1,1] is 12
    ∷ row (step (order 16 3 3) (Mix 1 3) (draws 96 24) [] (bytes 36 0x040a02_0b0b03_020403_0f030e_0e0b09_00090b_07080b_0f0a0e_0b0909_0a0d09_070f00_0f0d00))
    (left (0 ∷ []) (bytes 36 0x060f05_020607_0e0c07_0a0800_0e0b09_00090b_07080b_0f0a0e_0b0909_0a0d09_070f00_0f0d00) (bytes 3 0xee_ee_ee))
    -- F16, n = 2: Check where T[1,1] is 0
    ∷ row (step (order 16 2 1) (Check 1) (draws 113 5) [] (bytes 4 0x0d0d_0d0f))
    (left (1 ∷ []) (bytes 4 0x0d0d_0d0f) (bytes 1 0xee))
    -- F256, n = 3: Check where T[2,2] is 0
    ∷ row (step (order 256 3 2) (Check 2) (draws 72 21) [] (bytes 18 0xee751f_fcab06_e49257_5792ca_8e57d9_2d65f3))
    (left (1 ∷ []) (bytes 18 0xee751f_fcab06_e49257_5792ca_8e57d9_2d65f3) (bytes 2 0xee_ee))
    -- F16, n = 4: Check where T[2,2] is 2
    ∷ row (step (order 16 4 2) (Check 2) (draws 159 30) [] (bytes 24 0x0f010109_0308040b_06030300_000d020d_030c0f02_0106020d))
    (left (0 ∷ []) (bytes 24 0x0f010109_0308040b_06030300_000d020d_030c0f02_0106020d) (bytes 2 0xee_ee))
    -- F256, n = 2: Check where T[1,1] is 128
    ∷ row (step (order 256 2 2) (Check 1) (draws 5 7) [] (bytes 12 0x9010_03d6_5bca_4323_95af_d3b6))
    (left (0 ∷ []) (bytes 12 0x9010_03d6_5bca_4323_95af_d3b6) (bytes 2 0xee_ee))
    -- F16, n = 2: Scale where T[1,1] is 7
    ∷ row (step (order 16 2 2) (Scale 1) (draws 204 8) (bytes 1 0x5b) (bytes 12 0x0106_0403_030c_030b_050b_030c))
    (left (0 ∷ []) (bytes 12 0x0e0f_0f0e_0d09_030b_050b_030c) (bytes 2 0xee_ee))
    -- F256, n = 3: Scale where T[2,2] is 77
    ∷ row (step (order 256 3 2) (Scale 2) (draws 113 19) (bytes 2 0x4c_c9) (bytes 18 0x9dbaad_0f5323_b54a38_ab7254_abd137_5c57ba))
    (left (0 ∷ []) (bytes 18 0x9dbaad_0f5323_b54a38_ab7254_58722b_d5c384) (bytes 2 0xee_ee))
    -- F16, n = 4: Scale where T[2,2] is 13
    ∷ row (step (order 16 4 3) (Scale 2) (draws 50 51) (bytes 3 0xfb_dd_fc) (bytes 48 0x02030600_0b0f0304_04070302_090f0d0f_0d08040f_0a020a0f_0102060f_080c030b_0e050f00_03080d0d_010a070b_01060e03))
    (left (0 ∷ []) (bytes 48 0x02030600_0b0f0304_04070302_090f0d0f_0d08040f_0d070e05_05040e01_02040704_0e050f00_03080d0d_010a070b_01060e03) (bytes 3 0xee_ee_ee))
    -- F16, n = 2: Clear where T[1,1] is 1
    ∷ row (step (order 16 2 2) (Clear 1 2) (draws 137 3) [] (bytes 12 0x0302_080e_0301_020c_0303_0308))
    (left (0 ∷ []) (bytes 12 0x0302_080e_0301_0c0c_0b09_080c) (bytes 2 0xee_ee))
    -- F256, n = 3: Clear where T[1,1] is 1
    ∷ row (step (order 256 3 2) (Clear 1 2) (draws 96 9) [] (bytes 18 0xd4da0f_8bbb53_024413_5f538e_de7b49_10b94b))
    (left (0 ∷ []) (bytes 18 0xd4da0f_8bbb53_024413_636605_711533_ac12d5) (bytes 2 0xee_ee))
    -- F16, n = 4: Clear where T[2,2] is 1
    ∷ row (step (order 16 4 3) (Clear 2 3) (draws 182 18) [] (bytes 48 0x05060b08_0306020d_020b0304_01010701_07040905_040e0209_010c0208_00000901_010c0c08_0c0c020c_0a050c0b_090c0c04))
    (left (0 ∷ []) (bytes 48 0x05060b08_0306020d_020b0304_01010701_07040905_040e0209_010c0208_00000901_010c0c08_080a0604_08030906_00010603) (bytes 3 0xee_ee_ee))
    -- F16, n = 2: Open where T[2,3] is 6
    ∷ row (step (order 16 2 2) (Open 2) (draws 29 1) [] (bytes 12 0x0601_0d05_0b08_0105_0107_0305))
    (left (6 ∷ []) (bytes 12 0x0601_0d05_0b08_0105_0107_0305) (bytes 2 0xee_06))
    -- F256, n = 3: Open where T[3,4] is 201
    ∷ row (step (order 256 3 3) (Open 3) (draws 228 3) [] (bytes 36 0xc70d1f_52c3fa_911d70_63b3f0_870c14_82e3f7_2cbf65_abf1de_1bf325_b4859d_adb413_870947))
    (left (201 ∷ []) (bytes 36 0xc70d1f_52c3fa_911d70_63b3f0_870c14_82e3f7_2cbf65_abf1de_1bf325_b4859d_adb413_870947) (bytes 3 0xee_ee_c9))
    -- F16, n = 4: Open where T[2,4] is 14
    ∷ row (step (order 16 4 3) (Open 2) (draws 74 6) [] (bytes 48 0x0808010f_0b0d0005_000f0306_09020203_00000d0c_0e0a090e_01070f02_08040f0d_04040800_0401080b_0400010a_02020905))
    (left (14 ∷ []) (bytes 48 0x0808010f_0b0d0005_000f0306_09020203_00000d0c_0e0a090e_01070f02_08040f0d_04040800_0401080b_0400010a_02020905) (bytes 3 0xee_0e_ee))
    -- F16, n = 3: Open where T[1,3] is 9
    ∷ row (step (order 16 3 2) (Open 1) (draws 161 3) [] (bytes 18 0x090403_0d030f_000e07_0b040c_0c0800_030e09))
    (left (9 ∷ []) (bytes 18 0x090403_0d030f_000e07_0b040c_0c0800_030e09) (bytes 2 0x09_ee))
    -- F16, n = 2: Lift where x_2 is 6
    ∷ row (lift (order 16 2 2) 2 (bytes 12 0x0a0f_040a_0c01_0006_0e07_0402) (bytes 2 0xee_06))
    (left (0 ∷ []) (bytes 12 0x0a0f_040a_0708_0006_0e07_0402) (bytes 2 0xee_06))
    -- F256, n = 3: Lift where x_3 is 201
    ∷ row (lift (order 256 3 3) 3 (bytes 36 0x0bfbe6_072484_4f3eee_1334c8_1224cd_c41adc_72b2c7_e5d19e_f1c14b_ac1078_b5bb98_3b84b7) (bytes 3 0xee_ee_c9))
    (left (0 ∷ []) (bytes 36 0x0bfbe6_072484_4f3eee_d8cab9_1224cd_c41adc_72b2c7_900f7c_f1c14b_ac1078_b5bb98_3b84b7) (bytes 3 0xee_ee_c9))
    -- F16, n = 4: Lift where x_2 is 14
    ∷ row (lift (order 16 4 3) 2 (bytes 48 0x0c060804_0c060f07_0d0f040e_040a0b05_0805040f_0004090e_0604050a_020f070d_0908030f_00010409_06040d0a_09050102) (bytes 3 0xee_0e_ee))
    (left (0 ∷ []) (bytes 48 0x0c060804_0c060f07_0d0f040e_00080e09_0805040f_0004090e_0604050a_020f070d_0908030f_00010409_06040d0a_09050102) (bytes 3 0xee_0e_ee))
    -- F256, n = 2: Lift where x_3 is 1
    ∷ row (lift (order 256 2 3) 3 (bytes 24 0xad72_cae1_d448_aecf_2c6c_74b4_d730_aa66_364e_962c_7803_c1fe) (bytes 3 0xee_ee_01))
    (left (0 ∷ []) (bytes 24 0xad72_cae1_d448_7a87_2c6c_74b4_d730_7d56_364e_962c_7803_c1fe) (bytes 3 0xee_ee_01))
    -- F16, n = 3: Lift where x_2 is 0
    ∷ row (lift (order 16 3 2) 2 (bytes 18 0x0e0d0c_0e0c0b_0e070b_08040a_0a0608_060408) (bytes 2 0xee_00))
    (left (0 ∷ []) (bytes 18 0x0e0d0c_0e0c0b_0e070b_08040a_0a0608_060408) (bytes 2 0xee_00))
    -- F16, n = 2: a whole solve, solved
    ∷ row (solve (order 16 2 3) (draws 135 76) (bytes 3 0x7a_29_c5) (bytes 24 0x0909_0606_0300_0601_0a08_0202_0001_0c09_0f0e_0501_0d04_0204))
    (left (0 ∷ 17 ∷ 76 ∷ 3 ∷ []) (bytes 24 0x0c0d_0c0c_0302_0508_0303_0908_090f_040a_0303_0b0b_0b0a_000c) (bytes 3 0x0d_0e_0c))
    -- F16, n = 2: a whole solve, stopped at 2
    ∷ row (solve (order 16 2 2) (draws 221 36) (bytes 2 0x1d_db) (bytes 12 0x0a0b_080a_0b0a_0604_0a0e_0200))
    (left (2 ∷ 5 ∷ 28 ∷ 1 ∷ []) (bytes 12 0x0706_0c0e_0809_0808_0909_0808) (bytes 2 0x00_00))
    -- F16, n = 3: a whole solve, solved
    ∷ row (solve (order 16 3 2) (draws 180 110) (bytes 4 0xee_82_6b_b9) (bytes 18 0x0b0308_040306_050909_030200_050603_0b0b07))
    (left (0 ∷ 9 ∷ 110 ∷ 4 ∷ []) (bytes 18 0x0a060d_0a0308_0a010c_060600_0b0b01_09030f) (bytes 2 0x07_05))
    -- F16, n = 3: a whole solve, stopped at 2
    ∷ row (solve (order 16 3 3) (draws 27 231) (bytes 6 0xb5_d5_c4_4d_49_b4) (bytes 36 0x0c0e02_010b0a_050204_0f020a_080b01_0c0901_0a0209_0a0a05_000e0f_0b0801_08010b_060703))
    (left (2 ∷ 8 ∷ 154 ∷ 2 ∷ []) (bytes 36 0x030301_070500_030f0d_0a060d_030300_0d060b_020200_050809_020d0f_0f0906_0a050c_0a0900) (bytes 3 0x00_00_00))
    -- F16, n = 4: a whole solve, solved
    ∷ row (solve (order 16 4 2) (draws 113 222) (bytes 6 0x4c_c9_d4_bd_1c_6a) (bytes 24 0x0d0a0d0a_03030508_080b0204_0b01050e_070a0c07_0008020d))
    (left (0 ∷ 9 ∷ 222 ∷ 6 ∷ []) (bytes 24 0x00050307_0200030a_0b0b0600_07010f09_05060301_0d020109) (bytes 2 0x06_07))
    -- F16, n = 4: a whole solve, stopped at 1
    ∷ row (solve (order 16 4 2) (draws 72 222) (bytes 6 0x38_3d_64_53_fa_d6) (bytes 24 0x0e050f04_0b060408_07070203_0e07040d_05030d08_08070a07))
    (left (1 ∷ 2 ∷ 72 ∷ 0 ∷ []) (bytes 24 0x01010c0c_000f010c_060d030b_0e07040d_05030d08_08070a07) (bytes 2 0x00_00))
    -- F256, n = 2: a whole solve, solved
    ∷ row (solve (order 256 2 2) (draws 103 42) (bytes 2 0x4d_d0) (bytes 12 0xd9d9_e8bf_22a1_75b4_0615_e618))
    (left (0 ∷ 9 ∷ 42 ∷ 2 ∷ []) (bytes 12 0x8988_86c8_6287_6161_0100_1ae8) (bytes 2 0xe5_f2))
    -- F256, n = 2: a whole solve, stopped at 2
    ∷ row (solve (order 256 2 2) (draws 221 42) (bytes 2 0x11_1d) (bytes 12 0xaafd_58f6_4b58_26a5_dac7_1203))
    (left (2 ∷ 5 ∷ 34 ∷ 1 ∷ []) (bytes 12 0x0b0a_cdcf_16c9_7575_aeae_3297) (bytes 2 0x00_00))
    -- F256, n = 3: a whole solve, solved
    ∷ row (solve (order 256 3 1) (draws 180 43) (bytes 2 0xee_82) (bytes 6 0xfb43ef_34a356))
    (left (0 ∷ 3 ∷ 43 ∷ 2 ∷ []) (bytes 6 0x68b8d1_9ba5bd) (bytes 1 0x83))
    -- F256, n = 3: a whole solve, stopped at 1
    ∷ row (solve (order 256 3 2) (draws 159 128) (bytes 4 0xd8_d9_e0_20) (bytes 18 0x3f310e_e903bd_14dbdc_03b3b0_70dd2e_fd734f))
    (left (1 ∷ 2 ∷ 48 ∷ 0 ∷ []) (bytes 18 0x6eec82_a2285e_603280_03b3b0_70dd2e_fd734f) (bytes 2 0x00_00))
    -- F256, n = 4: a whole solve, solved
    ∷ row (solve (order 256 4 1) (draws 180 87) (bytes 3 0xee_82_61) (bytes 8 0xfb43caf1_a35f5557))
    (left (0 ∷ 3 ∷ 87 ∷ 3 ∷ []) (bytes 8 0x47851edd_40d23d4a) (bytes 1 0xe5))
    -- F256, n = 4: a whole solve, stopped at 1
    ∷ row (solve (order 256 4 1) (draws 5 87) (bytes 3 0x87_84_6f) (bytes 8 0x90ec037f_5bca432c))
    (left (1 ∷ 1 ∷ 42 ∷ 0 ∷ []) (bytes 8 0x90ec037f_5bca432c) (bytes 1 0x00))
    ∷ []

pub vectors : Holds rows
unfolding rows bytes draws inversion left leaves lent step lift said told solve definitions
vectors = refl
