-- From place to place along the exits: the premise of what is left, and the last fit.
use Rattle.std.proofs.Common.{◌≡◌, ℕ, suc, ◌+◌, ◌<◌, ◌≤◌, true, false, List, ◌∷◌, length, get_or, drop, sym, ap, ◌∙◌, subst, suc-le-suc, zero-le, arith}
use Rattle.std.proofs.ByRecursion.{All-from_get_or}
use Rattle.std.proofs.lemmas.List.{drop_more, at_drop_more, at_drop_all}
use Rattle.std.proofs.lemmas.List.Sums.{sum_by-cons}
use Rattle.std.proofs.lemmas.Bool.{cond-true, cond-false}
use Rattle.curve.specs.Meaning.{Meaning, ceiling}
use Rattle.ranking.specs.declared.exits.Exit.{Exit}
use Rattle.clearing.specs.declared.ground.Ground.TheVariants.{AllFit}
use Rattle.clearing.specs.declared.place.Place.{Place}
use Rattle.clearing.specs.Finding.{last_place, stopped, at_margin, settled, settled_after}
use Rattle.clearing.specs.Places.{place_after, fits, exact}
use Rattle.clearing.specs.Premise.{Clearable, Bounded}

-- what is left behind an exit of a round is a round from its place on
pub next_clearable : (p s : ℕ) (e : Exit) (es : List Exit) → Clearable p s (e ∷ es) → Clearable e.price (s + e.capacity) es
next_clearable p s e es ok =
    record {
      floor_most = ok.prices_most.0;
      prices_most = ok.prices_most.1;
      prices_least =
          All-from_get_or (λ x. e.price ≤ x.price) es e (λ i lt. ok.prices_rise 0 (suc i) e zero-le (suc-le-suc lt));
      prices_rise = λ i j d le lt. ok.prices_rise (suc i) (suc j) d (suc-le-suc le) (suc-le-suc lt);
      capacities = ok.capacities.1;
      room = omega (arith, ok.room, sum_by-cons (λ (x : Exit). x.capacity) e es);
    }

pub next_room : (p s : ℕ) (e : Exit) (es : List Exit) → Clearable p s (e ∷ es) → s + e.capacity ≤ ceiling
next_room p s e es ok = omega (arith, ok.room, sum_by-cons (λ (x : Exit). x.capacity) e es)

pub bounded : (at : Place) (es : List Exit) → Clearable at.price at.sum es → Bounded at
bounded at es ok = (ok.floor_most, omega (arith, ok.room))

pub margin_bounds : (last next : Place) (e : Exit) (es : List Exit) → next ≡ place_after last e → Clearable last.price last.sum (e ∷ es) → Bounded last × (Bounded next × (last.sum ≤ next.sum))
margin_bounds last next e es is ok =
    subst (λ (at : Place). Bounded last × (Bounded at × (last.sum ≤ at.sum))) (sym is)
    (bounded last (e ∷ es) ok, (bounded (place_after last e) es (next_clearable _ _ e es ok), omega arith))

-- the loop that finds the last fit stands at `last`, behind i exits, with `rest` still to come, and is bound for `goal`
pub record Walking (m : Meaning) (goal last : Place) (i : ℕ) (rest : List Exit) : Type 0 where
  pub number_is : last.number ≡ i
  pub bound_for : last_place m last rest ≡ goal
  pub clearable : Clearable last.price last.sum rest

pub walking_next : (m : Meaning) (goal last next : Place) (xs : List Exit) (i : ℕ) (d : Exit) → i < length xs → Walking m goal last i (drop i xs) → next ≡ place_after last (get_or xs i d) → fits m next ≡ true → Walking m goal next (i + 1) (drop (i + 1) xs)
walking_next m goal last next xs i d lt w is met =
    let here = subst (λ (r : List Exit). Walking m goal last i r) (drop_more xs i d lt) w in
    subst (λ (at : Place). Walking m goal at (i + 1) (drop (i + 1) xs)) (sym is)
    (record {
      number_is = omega (arith, w.number_is);
      bound_for = sym (cond-true _ _ _ (rw is at met)) ∙ here.bound_for;
      clearable = next_clearable _ _ _ _ here.clearable;
    })

-- the settlement where the demand is not met exactly: with no exit left, and with one
pub settled_end : (m : Meaning) (last : Place) (xs : List Exit) → exact m last ≡ false → length xs ≤ last.number → settled_after m last xs ≡ stopped AllFit last
settled_end m last xs not le = at_drop_all (settled m last) xs last.number le ∙ cond-false _ _ _ not

pub settled_before : (m : Meaning) (last next : Place) (xs : List Exit) (d : Exit) → exact m last ≡ false → last.number < length xs → next ≡ place_after last (get_or xs last.number d) → settled_after m last xs ≡ at_margin m last next
settled_before m last next xs d not lt e =
    at_drop_more (settled m last) xs last.number d lt ∙ cond-false _ _ _ not ∙ ap (at_margin m last) (sym e)
