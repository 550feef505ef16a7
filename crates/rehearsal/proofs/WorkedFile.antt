-- The worked auction's file, and the records that are found in it.
use Rattle.std.proofs.Common.{◌≡◌, ℕ, List, [], ◌∷◌, codes, refl}
use Rattle.bidfile.specs.declared.records.CurveChoice.TheVariants.{Straight}
use Rattle.bidfile.specs.declared.records.OrderChoice.TheVariants.{ByRule}
use Rattle.bidfile.specs.declared.records.SideChoice.TheVariants.{Taker, Maker}
use Rattle.bidfile.specs.declared.records.TermsRecord.{TermsRecord}
use Rattle.bidfile.specs.Found.{found}
use Rattle.bidfile.specs.Items.{Item, terms, corner, unit, exit, years, step_back, close}
use Rattle.bidfile.specs.Layout.{in_places}

-- its 244 bytes
abbrev pub worked_file : List ℕ
worked_file =
    -- word 0: terms: cap 7,000, spread 3,000, threshold 2,500, straight, by rule
    16 ∷ 0 ∷ 27 ∷ 88 ∷ 0 ∷ 0 ∷ 11 ∷ 184 ∷ 0 ∷ 0 ∷ 9 ∷ 196 ∷ 0 ∷ 0 ∷ 0 ∷ 0 ∷ 0 ∷ 0 ∷ 0 ∷ 0
    -- word 5: corner 10,000 at 7,000
    ∷ 32 ∷ 0 ∷ 39 ∷ 16 ∷ 0 ∷ 0 ∷ 27 ∷ 88
    -- word 7: corner 20,000 at 4,000
    ∷ 32 ∷ 0 ∷ 78 ∷ 32 ∷ 0 ∷ 0 ∷ 15 ∷ 160
    -- word 9: corner 30,000 at 0
    ∷ 32 ∷ 0 ∷ 117 ∷ 48 ∷ 0 ∷ 0 ∷ 0 ∷ 0
    -- word 11: unit 0: 9,000, class 0, maker, 1 year, number 4, HOLT-1
    ∷ 48 ∷ 0 ∷ 35 ∷ 40 ∷ 0 ∷ 0 ∷ 0 ∷ 0 ∷ 0 ∷ 0 ∷ 0 ∷ 1 ∷ 0 ∷ 0 ∷ 0 ∷ 1 ∷ 0 ∷ 0 ∷ 0 ∷ 4 ∷ 72 ∷ 79 ∷ 76 ∷ 84 ∷ 45 ∷ 49 ∷ 32 ∷ 32
    -- word 18: unit 1: 10,000, class 0, taker, 1 year, number 9, BECK-2
    ∷ 48 ∷ 0 ∷ 39 ∷ 16 ∷ 0 ∷ 0 ∷ 0 ∷ 0 ∷ 0 ∷ 0 ∷ 0 ∷ 0 ∷ 0 ∷ 0 ∷ 0 ∷ 1 ∷ 0 ∷ 0 ∷ 0 ∷ 9 ∷ 66 ∷ 69 ∷ 67 ∷ 75 ∷ 45 ∷ 50 ∷ 32 ∷ 32
    -- word 25: unit 2: 1,400, class 2, maker, 15 years, number 2, COMBE-3
    ∷ 48 ∷ 0 ∷ 5 ∷ 120 ∷ 0 ∷ 0 ∷ 0 ∷ 2 ∷ 0 ∷ 0 ∷ 0 ∷ 1 ∷ 0 ∷ 0 ∷ 0 ∷ 15 ∷ 0 ∷ 0 ∷ 0 ∷ 2 ∷ 67 ∷ 79 ∷ 77 ∷ 66 ∷ 69 ∷ 45 ∷ 51 ∷ 32
    -- word 32: unit 3: 1,000, class 3, maker, 1 year, number 7, DALE-4
    ∷ 48 ∷ 0 ∷ 3 ∷ 232 ∷ 0 ∷ 0 ∷ 0 ∷ 3 ∷ 0 ∷ 0 ∷ 0 ∷ 1 ∷ 0 ∷ 0 ∷ 0 ∷ 1 ∷ 0 ∷ 0 ∷ 0 ∷ 7 ∷ 68 ∷ 65 ∷ 76 ∷ 69 ∷ 45 ∷ 52 ∷ 32 ∷ 32
    -- word 39: unit 4: 2,000, class 1, maker, 3 years, number 5, EDGE-5
    ∷ 48 ∷ 0 ∷ 7 ∷ 208 ∷ 0 ∷ 0 ∷ 0 ∷ 1 ∷ 0 ∷ 0 ∷ 0 ∷ 1 ∷ 0 ∷ 0 ∷ 0 ∷ 3 ∷ 0 ∷ 0 ∷ 0 ∷ 5 ∷ 69 ∷ 68 ∷ 71 ∷ 69 ∷ 45 ∷ 53 ∷ 32 ∷ 32
    -- word 46: exit of unit 4 at 5,000
    ∷ 64 ∷ 0 ∷ 0 ∷ 4 ∷ 0 ∷ 0 ∷ 19 ∷ 136
    -- word 48: close
    ∷ 112 ∷ 0 ∷ 0 ∷ 0
    -- word 49: exit of unit 1 at 3,600
    ∷ 64 ∷ 0 ∷ 0 ∷ 1 ∷ 0 ∷ 0 ∷ 14 ∷ 16
    -- word 51: years of unit 2 to 10
    ∷ 80 ∷ 0 ∷ 0 ∷ 2 ∷ 0 ∷ 0 ∷ 0 ∷ 10
    -- word 53: exit of unit 0 at 3,800
    ∷ 64 ∷ 0 ∷ 0 ∷ 0 ∷ 0 ∷ 0 ∷ 14 ∷ 216
    -- word 55: step back
    ∷ 96 ∷ 0 ∷ 0 ∷ 0
    -- word 56: exit of unit 3 at 3,600
    ∷ 64 ∷ 0 ∷ 0 ∷ 3 ∷ 0 ∷ 0 ∷ 14 ∷ 16
    -- word 58: exit of unit 2 at 3,600
    ∷ 64 ∷ 0 ∷ 0 ∷ 2 ∷ 0 ∷ 0 ∷ 14 ∷ 16
    -- word 60: close
    ∷ 112 ∷ 0 ∷ 0 ∷ 0
    ∷ []

abbrev pub worked_terms : TermsRecord
worked_terms = record { «cap» = 7000; spread = 3000; threshold = 2500; curve = Straight; order = ByRule }

-- its records after the terms
abbrev pub worked_records : List Item
worked_records =
    corner (record { quantity = 10000; price = 7000 })
    ∷ corner (record { quantity = 20000; price = 4000 })
    ∷ corner (record { quantity = 30000; price = 0 })
    ∷ unit (record { capacity = 9000; class = 0; side = Maker; years = 1; random = 4; bytes = codes "HOLT-1  " })
    ∷ unit (record { capacity = 10000; class = 0; side = Taker; years = 1; random = 9; bytes = codes "BECK-2  " })
    ∷ unit (record { capacity = 1400; class = 2; side = Maker; years = 15; random = 2; bytes = codes "COMBE-3 " })
    ∷ unit (record { capacity = 1000; class = 3; side = Maker; years = 1; random = 7; bytes = codes "DALE-4  " })
    ∷ unit (record { capacity = 2000; class = 1; side = Maker; years = 3; random = 5; bytes = codes "EDGE-5  " })
    ∷ exit (record { unit = 4; price = 5000 })
    ∷ close
    ∷ exit (record { unit = 1; price = 3600 })
    ∷ years (record { unit = 2; years = 10 })
    ∷ exit (record { unit = 0; price = 3800 })
    ∷ step_back
    ∷ exit (record { unit = 3; price = 3600 })
    ∷ exit (record { unit = 2; price = 3600 })
    ∷ close
    ∷ []

pub worked_found : found worked_file 0 ≡ in_places 0 (terms worked_terms ∷ worked_records)
unfolding found
worked_found = refl
