-- What every auction of the code keeps makes it sound, so that its round can be cleared. Assumes nothing.
use Rattle.std.proofs.Common.{◌≡◌, ℕ, ◌<◌, ◌≤◌, Bool, true, not, ltb, List, [], ◌∷◌, Some, None, Option, subst, arith}
use Rattle.std.specs.List.{AllByRecursion}
use Rattle.std.proofs.ByRecursion.{All-weaker}
use Rattle.std.proofs.lemmas.Bool.{and_parts, ltb-true, not-true}
use Rattle.auction.specs.History.{is_none}
use Rattle.auction.specs.Sound.{price_above, exits_above, book_above}
use Rattle.auction.specs.State.{State, floor_of, in_of, ranked_exits}
use Rattle.auction.proofs.Above.{above_parts}
use Rattle.auction.proofs.RoundExits.{Above, AboveAt, exits_distinct, exits_least, exits_large}
use Rattle.auction.proofs.Soundness.{Sound, clearable}
use Rattle.book.specs.declared.terms.Terms.{Terms}
use Rattle.book.specs.declared.unit.Unit.{Unit as Row}
use Rattle.book.specs.Books.{Books, capacity_inside, exits_up_to}
use Rattle.book.specs.Lawful.{lawful, lawful_units}
use Rattle.book.proofs.ExitLaws.{exits_priced, in_and_exits}
use Rattle.book.proofs.Rules.{lawful_keeps, unit_capacity, unit_stands, first_lawful, rest_lawful}
use Rattle.clearing.proofs.Premises.{clearable_ranked}
use Rattle.clearing.specs.Premise.{Clearable}
use Rattle.ranking.specs.Ahead.{price_ahead}
use Rattle.ranking.specs.declared.exits.Exit.{Exit}
use Rattle.ranking.specs.Laws.{Laws}
use Rattle.ranking.specs.Rankings.{Ranking, ranking_of}
use Rattle.ranking.specs.Compares.{price_laws}
use Rattle.ranking.proofs.Prices.{prices_rise}
use Rattle.ranking.proofs.Ranks.{ranking_stands}

units_large : (us : List Row) → lawful_units us ≡ true → AllByRecursion (λ u. 1000 ≤ u.enrolled.capacity) us
units_large [] h = tt
units_large (u ∷ us) h = ((unit_capacity u (first_lawful u us h)).0, units_large us (rest_lawful u us h))

in_or_out : (o : Option ℕ) (inside : Bool) → elim o [ None ↦ inside | Some price ↦ not inside ] ≡ true → inside ≡ is_none o
in_or_out None inside h = h
in_or_out (Some price) inside h = not-true inside h

units_in_or_out : (us : List Row) → lawful_units us ≡ true → AllByRecursion (λ u. u.standing.inside ≡ is_none u.standing.exit) us
units_in_or_out [] h = tt
units_in_or_out (u ∷ us) h =
    (in_or_out u.standing.exit u.standing.inside (unit_stands u (first_lawful u us h)).priced, units_in_or_out us (rest_lawful u us h))

unit_above : (floor : ℕ) (o : Option ℕ) → elim o [ None ↦ true | Some price ↦ ltb floor price ] ≡ true → AboveAt floor o
unit_above floor None h = tt
unit_above floor (Some price) h = ltb-true floor price h

units_above : (floor : ℕ) (us : List Row) → exits_above floor us ≡ true → AllByRecursion (Above floor) us
unfolding exits_above
units_above floor [] h = tt
units_above floor (u ∷ us) h = let parts = and_parts _ _ h in (unit_above floor u.standing.exit parts.0, units_above floor us parts.1)

kept_sound : (s : State) → s.top ≤ 10000 → lawful s.book ≡ true → book_above (floor_of s) s.book ≡ true → Sound s
kept_sound s low h above =
    let keeps = lawful_keeps s.book h in
    record {
      top_most = low;
      large = units_large s.book.units keeps.units;
      most = keeps.total;
      in_or_out = units_in_or_out s.book.units keeps.units;
      above_floor = units_above (floor_of s) s.book.units (above_parts (floor_of s) s.book above).0;
    }

-- the same of what the code works out of it
pub found_clearable : (s : State) → Laws (λ (e : Exit). e.unit) s.ahead → s.top ≤ 10000 → lawful s.book ≡ true → book_above (floor_of s) s.book ≡ true → (floor s0 : ℕ) (exits : List Exit) → floor ≡ floor_of s → s0 ≡ in_of s → exits ≡ ranked_exits s → Clearable floor s0 exits
found_clearable s laws low h above floor s0 exits at sum found = rw (at, sum, found) (clearable s (kept_sound s low h above) laws)

pub above_price : (floor price : ℕ) (u : Row) → price_above floor u.standing ≡ true → u.standing.exit ≡ Some price → floor < price
above_price floor price u above e =
    ltb-true _ _ (subst (λ (o : Option ℕ). elim o [ None ↦ true | Some p ↦ ltb floor p ] ≡ true) e above)

-- the same of a book that keeps its rule, at any floor that its exits lie above
pub round_clearable : (ties : Exit → Exit → Bool) → Laws (λ (e : Exit). e.unit) ties → (t : Terms) (b : Books) → lawful b ≡ true → t.floor ≤ 10000 → t.«cap» ≤ 10000 → exits_above t.floor b.units ≡ true → Clearable t.floor (capacity_inside b.units) (ranking_of (price_ahead ties) (exits_up_to t.«cap» 0 b.units))
round_clearable ties laws t b h low top above =
    let keeps = lawful_keeps b h in
    let items : List Exit = exits_up_to t.«cap» 0 b.units in
    let ranks : Ranking (price_ahead ties) items (ranking_of (price_ahead ties) items)
    = ranking_stands _ _ (price_laws ties laws) items (exits_distinct t.«cap» 0 b.units) in
    clearable_ranked _ _ items _ ranks.same_items (prices_rise ties _ ranks.in_order) low
    (All-weaker (λ e. e.price ≤ t.«cap») (λ e. e.price ≤ 10000) (λ e le. omega arith) items (exits_priced t.«cap» 0 b.units))
    (exits_least t.floor t.«cap» 0 b.units (units_above t.floor b.units above))
    (exits_large t.«cap» 0 b.units (units_large b.units keeps.units))
    (in_and_exits b t.«cap» 0 h)
