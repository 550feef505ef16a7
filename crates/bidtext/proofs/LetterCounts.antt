-- The bytes of a kind that come first. Assumes nothing.
use Rattle.std.proofs.Common.{◌≡◌, ℕ, Bool, eqb, List, [], ◌∷◌, length, refl, arith}
use Rattle.std.proofs.lemmas.List.Sums.{prefix_len-le-length}
use Rattle.std.proofs.lemmas.Bool.Decides.{nat_tests}
use Rattle.std.specs.List.{list_all, prefix_len}

-- all bytes are of the kind where as many come first as there are
pub every_counted : (kind : ℕ → Bool) (bs : List ℕ) → eqb (prefix_len kind bs) (length bs) ≡ list_all kind bs
every_counted kind [] = refl
every_counted kind (b ∷ bs) =
    let i = every_counted kind bs in
    let le = prefix_len-le-length kind bs in
    grind (arith, nat_tests)
