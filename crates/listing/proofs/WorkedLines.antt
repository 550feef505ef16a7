-- Lines of a listing, worked out.
use Rattle.std.proofs.Common.{◌≡◌, codes, refl}
use Rattle.clearing.specs.declared.ground.Ground.TheVariants.{NextTaken}
use Rattle.listing.specs.declared.fault.Layer.TheVariants.{File, Curve, Auction}
use Rattle.listing.specs.declared.line.Line.TheVariants.{Round, Refused, Cleared, Award, Fault}
use Rattle.listing.specs.Texts.{line_text}
use Rattle.std.specs.Fmt.{digits}

pub worked_round : line_text (Round 1 7000 4000 21400 20000) ≡ codes "ROUND 1 CAP 7000 FLOOR 4000 IN 21400 DEMAND 20000"
unfolding digits
worked_round = refl

pub worked_refusal : line_text (Refused 18 49) ≡ codes "REFUSED 18 WORD 49"
unfolding digits
worked_refusal = refl

pub worked_clearing : line_text (Cleared 3600 NextTaken) ≡ codes "CLEARED 3600 GROUND 4"
unfolding digits
worked_clearing = refl

pub worked_award : line_text (Award (codes "BECK-2  ") 10000 1) ≡ codes "AWARD BECK-2 10000 1"
unfolding digits
worked_award = refl

pub worked_fault : line_text (Fault File 24 12) ≡ codes "FAULT FILE 24 WORD 12"
unfolding digits
worked_fault = refl

pub worked_curve_fault : line_text (Fault Curve 1 0) ≡ codes "FAULT CURVE 1 WORD 0"
unfolding digits
worked_curve_fault = refl

pub worked_open_fault : line_text (Fault Auction 6 0) ≡ codes "FAULT AUCTION 6 WORD 0"
unfolding digits
worked_open_fault = refl
