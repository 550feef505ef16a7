-- The worked auctions, played call by call.
use Rattle.std.proofs.Common.{◌≡◌, ℕ, List, [], ◌∷◌, Some, Option, refl, ap, ◌∙◌}
use Rattle.auction.specs.Rolls.{rows_of}
use Rattle.auction.specs.State.{State, priced, floor_of, in_of, ranked_exits}
use Rattle.clearing.specs.declared.ground.Ground.TheVariants.{AllFit, NextTaken, NextLeft}
use Rattle.clearing.specs.declared.settlement.Settlement.{Settlement}
use Rattle.clearing.specs.Finding.{outcome_of, found_outcome}
use Rattle.curve.specs.Meaning.{Meaning}
use Rattle.curve.specs.Words.{within, exactly}
use Rattle.ranking.specs.Ahead.{roll_ahead}
use Rattle.ranking.specs.declared.exits.Exit.{Exit}
use Rattle.ranking.specs.Rankings.{ranking_of}
use Rattle.figures.specs.Auctions.{worked_calls, empty_calls, settled_at, end_of, row, WorkedAuctions}
use Rattle.figures.specs.Clearings.{worked_curve, combe, dale}
use Rattle.figures.proofs.WorkedClearings.{found_taken, found_left}

-- ---- the settlements, from the curve, the floor, what is in and the ranked exits

abbrev round_of : State → Meaning × ℕ × ℕ × List Exit
round_of s = (s.curve, floor_of s, in_of s, ranked_exits s)

abbrev found_in : Meaning × ℕ × ℕ × List Exit → Option Settlement
found_in round = found_outcome round.0 round.1 round.2 round.3

round_then : round_of (end_of (worked_calls 1400)) ≡ (worked_curve, 1000, 19000, combe 1400 ∷ dale ∷ [])
unfolding within
round_then = refl

settlement : priced (end_of (worked_calls 1400)) ≡ Some (settled_at 3600 NextTaken 2)
unfolding outcome_of
settlement = ap found_in round_then ∙ found_taken

twin_round : round_of (end_of (worked_calls 1500)) ≡ (worked_curve, 1000, 19000, combe 1500 ∷ dale ∷ [])
unfolding within
twin_round = refl

twin_settlement : priced (end_of (worked_calls 1500)) ≡ Some (settled_at 3600 NextLeft 1)
unfolding outcome_of
twin_settlement = ap found_in twin_round ∙ found_left

nobody_settlement : priced (end_of empty_calls) ≡ Some (settled_at 4000 AllFit 0)
unfolding outcome_of within exactly
nobody_settlement = refl

-- ---- the roll, from the rows as they are enrolled

rows : rows_of (end_of (worked_calls 1400)) (settled_at 3600 NextTaken 2) 0 (end_of (worked_calls 1400)).book.units ≡ row "HOLT-1  " 9000 1 0 ∷ row "BECK-2  " 10000 1 1 ∷ row "COMBE-3 " 1400 10 2 ∷ row "DALE-4  " 1000 1 3 ∷ []
unfolding within
rows = refl

pub worked_auctions : WorkedAuctions
unfolding within
worked_auctions =
    record {
      opens = refl;
      answers = refl;
      settlement = settlement;
      holt_awarded = refl;
      beck_awarded = refl;
      combe_awarded = refl;
      dale_awarded = refl;
      edge_not_awarded = refl;
      roll = ap (ranking_of roll_ahead) rows;
      twin_answers = refl;
      twin_settlement = twin_settlement;
      twin_holt_awarded = refl;
      twin_beck_awarded = refl;
      twin_combe_awarded = refl;
      twin_dale_not_awarded = refl;
      nobody_settlement = nobody_settlement;
      nobody_answers = refl;
      nobody_on_the_roll = refl;
    }
