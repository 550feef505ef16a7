-- The worked rankings, worked out and so the only ones.
use Rattle.std.proofs.Common.{List, [], ◌∷◌, rules}
use Rattle.ranking.specs.Compares.{rule_laws, name_ties_laws, price_laws, roll_laws}
use Rattle.ranking.proofs.Ranks.{ranking_stands}
use Rattle.ranking.specs.Ahead.{rule_ahead, name_ahead, price_ahead}
use Rattle.ranking.specs.Rankings.{Distinct, ranking_of}
use Rattle.ranking.specs.declared.exits.Exit.{Exit}
use Rattle.figures.specs.Rankings.{ash, bay, elm, yew, oak, fir, all_exits, roll_row, RankedByRule, RankedByName, WorkedRankings}

by_rule : (exits : List Exit) → Distinct (λ e. e.unit) exits → RankedByRule exits (ranking_of (price_ahead rule_ahead) exits)
by_rule exits distinct = ranking_stands _ _ (price_laws _ rule_laws) exits distinct

by_name : (exits : List Exit) → Distinct (λ e. e.unit) exits → RankedByName exits (ranking_of (price_ahead name_ahead) exits)
by_name exits distinct = ranking_stands _ _ (price_laws _ name_ties_laws) exits distinct

pub worked_rankings : WorkedRankings
worked_rankings =
    record {
      price_rule = by_rule (ash ∷ bay ∷ []) (search rules);
      price_name = by_name (ash ∷ bay ∷ []) (search rules);
      capacity_rule = by_rule (bay ∷ elm ∷ []) (search rules);
      capacity_name = by_name (bay ∷ elm ∷ []) (search rules);
      years_rule = by_rule (elm ∷ yew ∷ []) (search rules);
      years_name = by_name (elm ∷ yew ∷ []) (search rules);
      random_rule = by_rule (oak ∷ yew ∷ []) (search rules);
      random_name = by_name (oak ∷ yew ∷ []) (search rules);
      all_rule = by_rule all_exits (search rules);
      all_name = by_name all_exits (search rules);
      roll = ranking_stands _ _ roll_laws (roll_row fir ∷ roll_row yew ∷ roll_row oak ∷ roll_row elm ∷ roll_row bay ∷ roll_row ash ∷ []) (search rules);
    }
