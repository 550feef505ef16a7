-- Records of the worked auction in docs/bid-file.md, as they are found.
use Rattle.std.proofs.Common.{◌≡◌, true, [], ◌∷◌, Some, refl}
use Rattle.bidfile.specs.declared.records.CurveChoice.TheVariants.{Straight}
use Rattle.bidfile.specs.declared.records.OrderChoice.TheVariants.{ByRule}
use Rattle.bidfile.specs.declared.records.SideChoice.TheVariants.{Maker}
use Rattle.bidfile.specs.Found.{found}
use Rattle.bidfile.specs.Items.{terms, unit, close}

worked_terms : found (16 ∷ (0 ∷ (27 ∷ (88 ∷ (0 ∷ (0 ∷ (11 ∷ (184 ∷ (0 ∷ (0 ∷ (9 ∷ (196 ∷ (0 ∷ (0 ∷ (0 ∷ (0 ∷ (0 ∷ (0 ∷ (0 ∷ (0 ∷ [])))))))))))))))))))) 0
    ≡ record { place = 0; kind = 1; whole = true; item = Some (terms (record { «cap» = 7000; spread = 3000; threshold = 2500; curve = Straight; order = ByRule })) } ∷ []
unfolding found
worked_terms = refl

-- unit 0 and a close
worked_unit : found (48 ∷ (0 ∷ (35 ∷ (40 ∷ (0 ∷ (0 ∷ (0 ∷ (0 ∷ (0 ∷ (0 ∷ (0 ∷ (1 ∷ (0 ∷ (0 ∷ (0 ∷ (1 ∷ (0 ∷ (0 ∷ (0 ∷ (4 ∷ (72 ∷ (79 ∷ (76 ∷ (84 ∷ (45 ∷ (49 ∷ (32 ∷ (32 ∷ (112 ∷ (0 ∷ (0 ∷ (0 ∷ [])))))))))))))))))))))))))))))))) 0
    ≡ record { place = 0; kind = 3; whole = true; item = Some (unit (record { capacity = 9000; class = 0; side = Maker; years = 1; random = 4; bytes = 72 ∷ (79 ∷ (76 ∷ (84 ∷ (45 ∷ (49 ∷ (32 ∷ (32 ∷ []))))))) })) } ∷ (record { place = 7; kind = 7; whole = true; item = Some close } ∷ [])
unfolding found
worked_unit = refl
