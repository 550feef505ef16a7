-- The text of a line of a listing, without its newline. Assumes nothing.
use Rattle.std.specs.Prelude.{ℕ, cond, List, [], ◌∷◌, ◌++◌, codes, decimal, ◌==◌, nat_lt}
use Rattle.std.proofs.Math.Utf8.{encode}
use Rattle.clearing.specs.GroundNumbers.{ground_number}
use Rattle.listing.specs.declared.fault.Layer.{Layer}
use Rattle.listing.specs.declared.fault.Layer.TheVariants as layer
use Rattle.listing.specs.declared.line.Line.{Line}
use Rattle.listing.specs.declared.line.Line.TheVariants.{Round, Refused, Cleared, Award, Fault, Unsettled}

abbrev pub layer_text : Layer → List ℕ
layer_text layer.File = codes "FILE"
layer_text layer.Curve = codes "CURVE"
layer_text layer.Auction = codes "AUCTION"

-- a byte below 128 is printed as it stands, any other as the character of its number
abbrev pub byte_text : ℕ → List ℕ
byte_text b = cond (nat_lt b 128) (b ∷ []) (encode b)

-- a name without its padding: its bytes before the first space
abbrev pub unpadded : List ℕ → List ℕ
unpadded [] = []
unpadded (b ∷ bs) = cond (b == 32) [] (b ∷ unpadded bs)

-- what is printed of a name; of bytes below 128 just those, as `ascii_name` of proofs/NameTexts says
abbrev pub name_text : List ℕ → List ℕ
name_text [] = []
name_text (b ∷ bs) = cond (b == 32) [] (byte_text b ++ name_text bs)

abbrev pub line_text : Line → List ℕ
line_text (Round round top floor inside demand) =
    codes "ROUND " ++ (decimal round
    ++ (codes " CAP " ++ (decimal top
    ++ (codes " FLOOR " ++ (decimal floor
    ++ (codes " IN " ++ (decimal inside
    ++ (codes " DEMAND " ++ decimal demand))))))))
line_text (Refused question place) = codes "REFUSED " ++ (decimal question ++ (codes " WORD " ++ decimal place))
line_text (Cleared price why) = codes "CLEARED " ++ (decimal price ++ (codes " GROUND " ++ decimal (ground_number why)))
line_text (Award name capacity years) =
    codes "AWARD " ++ (name_text name ++ (codes " " ++ (decimal capacity ++ (codes " " ++ decimal years))))
line_text (Fault layer question place) =
    codes "FAULT " ++ (layer_text layer ++ (codes " " ++ (decimal question ++ (codes " WORD " ++ decimal place))))
line_text Unsettled = codes "UNSETTLED"
