-- The last fit: there is one and no other, and where the demand is met exactly, it is there.
use Rattle.std.proofs.Common.{◌≡◌, ℕ, zero, suc, ◌+◌, ◌<◌, ◌≤◌, true, false, List, [], ◌∷◌, length, sym, refl, ap, ◌∙◌, subst, ⊎_elim, suc-le-suc, zero-le, le_of_suc-le-suc, arith}
use Rattle.std.proofs.lemmas.Bool.{both_ways, cases_Bool, cases_order, cond-true, cond-false}
use Rattle.curve.specs.Meaning.{Meaning}
use Rattle.curve.specs.Words.{within, Words}
use Rattle.ranking.specs.declared.exits.Exit.{Exit}
use Rattle.clearing.specs.declared.place.Place.{Place}
use Rattle.clearing.specs.Finding.{last_place}
use Rattle.clearing.specs.Grounds.{NoneExact}
use Rattle.clearing.specs.Places.{price_at, sum_at, place_at, place_after, fits, exact, LastFit}
use Rattle.clearing.specs.Premise.{Clearable}
use Rattle.clearing.proofs.RankedPlaces.{prices_never_fall, sums_never_fall, sums_rise, sum_next, sum_first, same_place}

-- of two last fits neither is before the other
not_before : (m : Meaning) (floor s0 : ℕ) (exits : List Exit) (k l : ℕ) → LastFit m floor s0 exits k → LastFit m floor s0 exits l → k < l → ⊥
not_before m floor s0 exits k l a b lt =
    both_ways (fits m (place_at floor s0 exits (k + 1)))
    (a.next_not (omega (arith, b.inside)))
    (b.all_fit (k + 1) (omega arith) (omega arith))

pub one_last_fit : (m : Meaning) (floor s0 : ℕ) (exits : List Exit) (k l : ℕ) → LastFit m floor s0 exits k → LastFit m floor s0 exits l → k ≡ l
one_last_fit m floor s0 exits k l a b =
    ⊎_elim (λ e. e) (⊎_elim (λ lt. absurd (not_before m floor s0 exits k l a b lt)) (λ lt. absurd (not_before m floor s0 exits l k b a lt))) (cases_order k l)

module _ (m : Meaning) (words : Words m) (floor s0 : ℕ) (exits : List Exit) (ok : Clearable floor s0 exits) where
  -- up to where the demand is met exactly every exit fits, and behind it none
  fits_before : (i j : ℕ) → exact m (place_at floor s0 exits i) ≡ true → i ≤ length exits → j ≤ i → fits m (place_at floor s0 exits j) ≡ true
  fits_before i j met in' le =
      words.cheaper (price_at floor exits j) (price_at floor exits i) (sum_at s0 exits j) (prices_never_fall floor s0 exits ok j i le in')
      (words.smaller (price_at floor exits i) (sum_at s0 exits j) (sum_at s0 exits i) (sums_never_fall s0 exits j i le)
      (words.exact (price_at floor exits i) (sum_at s0 exits i) met))

  fails_behind : (i j : ℕ) → exact m (place_at floor s0 exits i) ≡ true → i < j → j ≤ length exits → fits m (place_at floor s0 exits j) ≡ false
  fails_behind i j met lt in' =
      words.past (price_at floor exits i) (price_at floor exits j) (sum_at s0 exits i) (sum_at s0 exits j) met
      (sums_rise floor s0 exits ok i j lt in')
      (prices_never_fall floor s0 exits ok i j (omega arith) in')

  pub exact_is_last : (i : ℕ) → exact m (place_at floor s0 exits i) ≡ true → i ≤ length exits → LastFit m floor s0 exits i
  exact_is_last i met in' =
      record {
        inside = in';
        all_fit = λ j some le. fits_before i j met in' le;
        next_not = λ lt. fails_behind i (i + 1) met (omega arith) (omega arith);
      }

  -- where the demand is not met exactly at the last fit it is so nowhere
  pub none_exact : (l : ℕ) → LastFit m floor s0 exits l → exact m (place_at floor s0 exits l) ≡ false → NoneExact m floor s0 exits
  none_exact l last not i in' =
      ⊎_elim
      (λ met.
      let same : l ≡ i = one_last_fit m floor s0 exits l i last (exact_is_last i met in') in
      subst (λ (n : ℕ). exact m (place_at floor s0 exits n) ≡ false) same not)
      (λ e. e)
      (cases_Bool (exact m (place_at floor s0 exits i)))

-- ---- the last fit that is worked out

fits_next : (m : Meaning) (p s : ℕ) (e : Exit) (es : List Exit) (i : ℕ) → fits m (place_at p s (e ∷ es) (suc i)) ≡ fits m (place_at e.price (s + e.capacity) es i)
fits_next m p s e es i = ap (within m (price_at e.price es i)) (sum_next s e es i)

fits_first : (m : Meaning) (p s : ℕ) (e : Exit) (es : List Exit) → fits m (place_at p s (e ∷ es) 1) ≡ within m e.price (s + e.capacity)
fits_first m p s e es = fits_next m p s e es 0 ∙ ap (within m e.price) (sum_first (s + e.capacity) es)

last_none : (m : Meaning) (p s : ℕ) → LastFit m p s [] 0
last_none m p s = record { inside = zero-le; all_fit = λ i some le. absurd (omega arith); next_not = λ lt. absurd (omega arith) }

last_here : (m : Meaning) (p s : ℕ) (e : Exit) (es : List Exit) → within m e.price (s + e.capacity) ≡ false → LastFit m p s (e ∷ es) 0
last_here m p s e es not =
    record { inside = zero-le; all_fit = λ i some le. absurd (omega arith); next_not = λ lt. fits_first m p s e es ∙ not }

all_fit_further : (m : Meaning) (p s : ℕ) (e : Exit) (es : List Exit) (n : ℕ) → within m e.price (s + e.capacity) ≡ true → LastFit m e.price (s + e.capacity) es n → (i : ℕ) → 1 ≤ i → i ≤ suc n → fits m (place_at p s (e ∷ es) i) ≡ true
all_fit_further m p s e es n met last zero some le = absurd (omega arith)
all_fit_further m p s e es n met last (suc zero) some le = fits_first m p s e es ∙ met
all_fit_further m p s e es n met last (suc (suc i)) some le =
    fits_next m p s e es (suc i) ∙ last.all_fit (suc i) (suc-le-suc zero-le) (le_of_suc-le-suc le)

last_further : (m : Meaning) (p s : ℕ) (e : Exit) (es : List Exit) (n : ℕ) → within m e.price (s + e.capacity) ≡ true → LastFit m e.price (s + e.capacity) es n → LastFit m p s (e ∷ es) (suc n)
last_further m p s e es n met last =
    let moved : suc n + 1 ≡ suc (n + 1) = omega arith in
    record {
      inside = suc-le-suc last.inside;
      all_fit = all_fit_further m p s e es n met last;
      next_not =
          λ lt.
          ap (λ (i : ℕ). fits m (place_at p s (e ∷ es) i)) moved
          ∙ fits_next m p s e es (n + 1)
          ∙ last.next_not (le_of_suc-le-suc lt);
    }

-- the last place from `at` on
pub record Found (m : Meaning) (at : Place) (exits : List Exit) : Type 0 where
  pub places : ℕ
  pub last : LastFit m at.price at.sum exits places
  pub place_is : last_place m at exits ≡ record { number = at.number + places; price = price_at at.price exits places; sum = sum_at at.sum exits places }

pub found : (m : Meaning) (at : Place) (exits : List Exit) → Found m at exits
found m at [] =
    record {
      places = 0;
      last = last_none m at.price at.sum;
      place_is = same_place _ _ (omega arith) refl (sym (sum_first at.sum []));
    }
found m at (e ∷ es) =
    ⊎_elim
    (λ met.
    let further = found m (place_after at e) es in
    record {
      places = suc further.places;
      last = last_further m at.price at.sum e es further.places met further.last;
      place_is =
          cond-true _ _ _ met
          ∙ further.place_is
          ∙ same_place _ _ (omega arith) refl (sym (sum_next at.sum e es further.places));
    })
    (λ not.
    record {
      places = 0;
      last = last_here m at.price at.sum e es not;
      place_is = cond-false _ _ _ not ∙ same_place _ _ (omega arith) refl (sym (sum_first at.sum (e ∷ es)));
    })
    (cases_Bool (fits m (place_after at e)))
