-- What the layers above may use of `within` and `exactly` follows from a curve's laws.
use Rattle.std.proofs.Common.{◌≡◌, ℕ, ◌<◌, ◌≤◌, true, false, ◌⊎◌, ⊎_elim, arith}
use Rattle.std.proofs.lemmas.Bool.Decides.{nat_tests}
use Rattle.curve.specs.Meaning.{Meaning, Laws, ceiling}
use Rattle.curve.specs.Words.{within, exactly, Words}

module _ (m : Meaning) (laws : Laws m) where
  free : (s : ℕ) → s ≤ ceiling → within m 0 s ≡ true
  unfolding within
  free s h = let e = laws.free in grind (arith, nat_tests)

  most : (p s : ℕ) → within m p s ≡ true → s ≤ ceiling
  unfolding within
  most p s h = let e = laws.most p in grind (arith, nat_tests)

  smaller : (p s t : ℕ) → s ≤ t → within m p t ≡ true → within m p s ≡ true
  unfolding within
  smaller p s t le h = grind (arith, nat_tests)

  cheaper : (p q s : ℕ) → p ≤ q → within m q s ≡ true → within m p s ≡ true
  unfolding within
  cheaper p q s le h = let e = laws.falls p q le in grind (arith, nat_tests)

  exact : (p s : ℕ) → exactly m p s ≡ true → within m p s ≡ true
  unfolding within exactly
  exact p s h = grind (arith, nat_tests)

  past : (p q s t : ℕ) → exactly m p s ≡ true → s < t → p ≤ q → within m q t ≡ false
  unfolding within exactly
  past p q s t h lt le = let e = laws.falls p q le in grind (arith, nat_tests)

  reached : (p s : ℕ) → (within m p s ≡ false) ⊎ (exactly m p s ≡ true) → m.demand p ≤ s
  unfolding within exactly
  reached p s h =
      let short : within m p s ≡ false → m.demand p ≤ s = λ e. grind (arith, nat_tests) in
      let same : exactly m p s ≡ true → m.demand p ≤ s = λ e. grind (arith, nat_tests) in
      ⊎_elim short same h

  pub words : Words m
  words =
      record {
        free = free;
        most = most;
        smaller = smaller;
        cheaper = cheaper;
        exact = exact;
        past = past;
        beyond = λ p s t h. laws.beyond p s t (reached p s h);
      }
