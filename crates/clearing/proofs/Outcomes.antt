-- The outcome that is worked out meets the relation, and nothing else does.
use Rattle.std.proofs.Common.{◌≡◌, ℕ, ◌+◌, ◌<◌, ◌≤◌, true, false, List, [], ◌∷◌, length, drop, Some, None, sym, refl, ap, ◌∙◌, subst, ⊎_elim, arith}
use Rattle.std.proofs.lemmas.List.{at_drop_more, at_drop_all}
use Rattle.std.proofs.lemmas.Bool.{cases_Bool, cases_lt, cond-true, cond-false, cond_both, le-leb, lt-leb}
use Rattle.curve.specs.Meaning.{Meaning}
use Rattle.curve.specs.Words.{Words}
use Rattle.ranking.specs.declared.exits.Exit.{Exit}
use Rattle.clearing.specs.declared.ground.Ground.{Ground}
use Rattle.clearing.specs.declared.ground.Ground.TheVariants.{FloorExact, ExitExact, AllFit, NextTaken, NextLeft}
use Rattle.clearing.specs.declared.place.Place.{Place}
use Rattle.clearing.specs.declared.settlement.Settlement.{Settlement}
use Rattle.clearing.specs.Finding.{last_place, stopped, exact_ground, at_margin, settled, settled_after, found_outcome}
use Rattle.clearing.specs.Grounds.{NoneExact, next_taken, Stops, Settles, clears, Outcome}
use Rattle.clearing.specs.Places.{price_at, place_at, first_place, exact, LastFit}
use Rattle.clearing.specs.Premise.{Clearable}
use Rattle.clearing.specs.Sound.{OnlyOutcome}
use Rattle.clearing.proofs.LastFits.{one_last_fit, exact_is_last, none_exact, Found, found}
use Rattle.clearing.proofs.RankedPlaces.{place_next, same_place}

-- ---- what the working out comes to, from a place l

module _ (m : Meaning) (floor s0 : ℕ) (exits : List Exit) where
  at_exact : (l : ℕ) → exact m (place_at floor s0 exits l) ≡ true → (rest : List Exit) → settled m (place_at floor s0 exits l) rest ≡ stopped (exact_ground (place_at floor s0 exits l)) (place_at floor s0 exits l)
  at_exact l met [] = cond-true _ _ _ met
  at_exact l met (e ∷ es) = cond-true _ _ _ met

  at_floor : (l : ℕ) → l ≡ 0 → exact_ground (place_at floor s0 exits l) ≡ FloorExact
  at_floor l none = cond-false _ _ _ (lt-leb 1 l (omega arith))

  at_exit : (l : ℕ) → 1 ≤ l → exact_ground (place_at floor s0 exits l) ≡ ExitExact
  at_exit l some = cond-true _ _ _ (le-leb 1 l some)

  at_end : (l : ℕ) → exact m (place_at floor s0 exits l) ≡ false → length exits ≤ l → settled_after m (place_at floor s0 exits l) exits ≡ stopped AllFit (place_at floor s0 exits l)
  at_end l not le = at_drop_all (settled m (place_at floor s0 exits l)) exits l le ∙ cond-false _ _ _ not

  before_end : (d : Exit) (l : ℕ) → exact m (place_at floor s0 exits l) ≡ false → l < length exits → settled_after m (place_at floor s0 exits l) exits ≡ at_margin m (place_at floor s0 exits l) (place_at floor s0 exits (l + 1))
  before_end d l not lt =
      at_drop_more (settled m (place_at floor s0 exits l)) exits l d lt
      ∙ cond-false _ _ _ not
      ∙ ap (at_margin m (place_at floor s0 exits l)) (place_next floor s0 exits d l lt)

-- an exit there is, if a place lies before the end
some_exit : (exits : List Exit) (l : ℕ) → l < length exits → Exit
some_exit [] l lt = absurd (omega arith)
some_exit (e ∷ es) l lt = e

module _ (m : Meaning) (floor s0 : ℕ) (exits : List Exit) where
  pub at_taken : (l : ℕ) → exact m (place_at floor s0 exits l) ≡ false → l < length exits → next_taken m floor s0 exits l ≡ true → settled_after m (place_at floor s0 exits l) exits ≡ stopped NextTaken (place_at floor s0 exits (l + 1))
  at_taken l not lt taken = before_end m floor s0 exits (some_exit exits l lt) l not lt ∙ cond-true _ _ _ taken

  pub at_left : (l : ℕ) → exact m (place_at floor s0 exits l) ≡ false → l < length exits → next_taken m floor s0 exits l ≡ false → settled_after m (place_at floor s0 exits l) exits ≡ stopped NextLeft (place_at floor s0 exits l)
  at_left l not lt left = before_end m floor s0 exits (some_exit exits l lt) l not lt ∙ cond-false _ _ _ left

-- ---- it meets the relation, and what meets the relation is it

module _ (m : Meaning) (words : Words m) (floor s0 : ℕ) (exits : List Exit) (ok : Clearable floor s0 exits) where
  settles : (l : ℕ) → LastFit m floor s0 exits l → (g : Ground) (k : ℕ) → Stops m floor s0 exits l g k → Settles m floor s0 exits (stopped g (place_at floor s0 exits k))
  settles l last g k stops = record { last = l; last_fit = last; stops = stops; price_is = refl }

  settles_exact : (l : ℕ) → LastFit m floor s0 exits l → exact m (place_at floor s0 exits l) ≡ true → Settles m floor s0 exits (stopped (exact_ground (place_at floor s0 exits l)) (place_at floor s0 exits l))
  settles_exact l last met =
      ⊎_elim
      (λ lt.
      let none : l ≡ 0 = omega arith in
      subst (λ (g : Ground). Settles m floor s0 exits (stopped g (place_at floor s0 exits l))) (sym (at_floor m floor s0 exits l none))
      (settles l last FloorExact l (subst (λ (n : ℕ). exact m (place_at floor s0 exits n) ≡ true) none met, none)))
      (λ some.
      subst (λ (g : Ground). Settles m floor s0 exits (stopped g (place_at floor s0 exits l))) (sym (at_exit m floor s0 exits l some))
      (settles l last ExitExact l (some, last.inside, met)))
      (cases_lt l 1)

  settles_short : (l : ℕ) → LastFit m floor s0 exits l → exact m (place_at floor s0 exits l) ≡ false → Settles m floor s0 exits (settled_after m (place_at floor s0 exits l) exits)
  settles_short l last not =
      let none : NoneExact m floor s0 exits = none_exact m words floor s0 exits ok l last not in
      ⊎_elim
      (λ lt.
      ⊎_elim
      (λ taken. subst (Settles m floor s0 exits) (sym (at_taken m floor s0 exits l not lt taken)) (settles l last NextTaken (l + 1) (none, lt, taken, refl)))
      (λ left. subst (Settles m floor s0 exits) (sym (at_left m floor s0 exits l not lt left)) (settles l last NextLeft l (none, lt, left, refl)))
      (cases_Bool (next_taken m floor s0 exits l)))
      (λ le.
      let end : l ≡ length exits = omega (arith, last.inside) in
      subst (Settles m floor s0 exits) (sym (at_end m floor s0 exits l not le)) (settles l last AllFit l (none, end, end)))
      (cases_lt l (length exits))

  pub settled_settles : (l : ℕ) → LastFit m floor s0 exits l → Settles m floor s0 exits (settled_after m (place_at floor s0 exits l) exits)
  settled_settles l last =
      ⊎_elim
      (λ met. subst (Settles m floor s0 exits) (sym (at_exact m floor s0 exits l met (drop l exits))) (settles_exact l last met))
      (settles_short l last)
      (cases_Bool (exact m (place_at floor s0 exits l)))

  -- what stops somewhere on some ground is what is worked out
  is_settled : (l : ℕ) → LastFit m floor s0 exits l → (g : Ground) (k : ℕ) → Stops m floor s0 exits l g k → stopped g (place_at floor s0 exits k) ≡ settled_after m (place_at floor s0 exits l) exits
  is_settled l last FloorExact k (met, none) =
      let same : k ≡ l = none ∙ one_last_fit m floor s0 exits 0 l (exact_is_last m words floor s0 exits ok 0 met (omega arith)) last in
      let there : exact m (place_at floor s0 exits k) ≡ true = subst (λ (n : ℕ). exact m (place_at floor s0 exits n) ≡ true) (sym none) met in
      subst (λ (n : ℕ). stopped FloorExact (place_at floor s0 exits k) ≡ settled_after m (place_at floor s0 exits n) exits) same
      (ap (λ (g : Ground). stopped g (place_at floor s0 exits k)) (sym (at_floor m floor s0 exits k none)) ∙ sym (at_exact m floor s0 exits k there (drop k exits)))
  is_settled l last ExitExact k (some, in', met) =
      let same : k ≡ l = one_last_fit m floor s0 exits k l (exact_is_last m words floor s0 exits ok k met in') last in
      subst (λ (n : ℕ). stopped ExitExact (place_at floor s0 exits k) ≡ settled_after m (place_at floor s0 exits n) exits) same
      (ap (λ (g : Ground). stopped g (place_at floor s0 exits k)) (sym (at_exit m floor s0 exits k some)) ∙ sym (at_exact m floor s0 exits k met (drop k exits)))
  is_settled l last AllFit k (none, end, is) =
      ap (λ (n : ℕ). stopped AllFit (place_at floor s0 exits n)) (is ∙ sym end)
      ∙ sym (at_end m floor s0 exits l (none l last.inside) (omega arith))
  is_settled l last NextTaken k (none, lt, taken, is) =
      ap (λ (n : ℕ). stopped NextTaken (place_at floor s0 exits n)) is ∙ sym (at_taken m floor s0 exits l (none l last.inside) lt taken)
  is_settled l last NextLeft k (none, lt, left, is) =
      ap (λ (n : ℕ). stopped NextLeft (place_at floor s0 exits n)) is ∙ sym (at_left m floor s0 exits l (none l last.inside) lt left)

  make_settlement : ℕ → Ground → ℕ → Settlement
  make_settlement p g k = record { price = p; ground = g; stop = k }

  is_stopped : (s : Settlement) → s.price ≡ price_at floor exits s.stop → s ≡ stopped s.ground (place_at floor s0 exits s.stop)
  unfolding make_settlement
  is_stopped s e = ap (λ (p : ℕ). make_settlement p s.ground s.stop) e

  -- ---- the outcome

  found_last : Found m (first_place floor s0) exits
  found_last = found m (first_place floor s0) exits

  last_is : last_place m (first_place floor s0) exits ≡ place_at floor s0 exits found_last.places
  last_is = found_last.place_is ∙ same_place _ _ (omega arith) refl refl

  pub outcome_holds : Outcome m floor s0 exits (found_outcome m floor s0 exits)
  outcome_holds =
      let l = found_last.places in
      cond_both (clears m floor s0) _ _ (Outcome m floor s0 exits)
      (λ yes'. (
        yes',
        subst (λ (at : Place). Settles m floor s0 exits (settled_after m at exits)) (sym last_is) (settled_settles l found_last.last),
      ))
      (λ no'. no')

  some_outcome : (s : Settlement) → clears m floor s0 ≡ true → Settles m floor s0 exits s → Some s ≡ found_outcome m floor s0 exits
  some_outcome s met st =
      let same : st.last ≡ found_last.places = one_last_fit m floor s0 exits st.last found_last.places st.last_fit found_last.last in
      let is : s ≡ settled_after m (place_at floor s0 exits st.last) exits =
      is_stopped s st.price_is ∙ is_settled st.last st.last_fit s.ground s.stop st.stops in
      ap (λ (x : Settlement). Some x) (is ∙ ap (λ (at : Place). settled_after m at exits) (ap (place_at floor s0 exits) same ∙ sym last_is))
      ∙ sym (cond-true _ _ _ met)

  pub only_outcome : OnlyOutcome m floor s0 exits (found_outcome m floor s0 exits)
  only_outcome None h = sym (cond-false _ _ _ h)
  only_outcome (Some s) h = some_outcome s h.0 h.1
