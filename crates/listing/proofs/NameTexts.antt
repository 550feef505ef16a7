-- A name that is printed byte by byte.
use Rattle.std.proofs.Common.{◌≡◌, ℕ, ◌<◌, true, false, Bool, cond, eqb, not, List, [], ◌∷◌, ◌++◌, refl, ap, ◌∙◌, arith}
use lib.Utf8.{encode}
use Rattle.listing.specs.Texts.{byte_text, unpadded, name_text}
use Rattle.std.proofs.lemmas.Bool.Decides.{nat_tests}
use Rattle.std.proofs.lemmas.List.Sums.{take_while-cons}
use Rattle.std.proofs.lemmas.Str.{encode_ascii}
use Rattle.std.specs.List.{AllByRecursion, flat_map, take_while}

-- what a byte is printed as is what its character is written as
pub byte_char : (b : ℕ) → encode b ≡ byte_text b
byte_char b = let e : b < 128 → encode b ≡ b ∷ [] = encode_ascii b in grind (arith, nat_tests)

-- a name of bytes below 128, as every enrolled name is, is printed as its own bytes
pub ascii_name : (bs : List ℕ) → AllByRecursion (λ b. b < 128) bs → name_text bs ≡ unpadded bs
ascii_name [] low = refl
ascii_name (b ∷ bs) low = let i = ascii_name bs low.1 in let l : b < 128 = low.0 in grind (arith, nat_tests)

unpadded_if : (b : Bool) (x : ℕ) (taken bs : List ℕ) → taken ≡ bs → cond (not b) (x ∷ taken) [] ≡ cond b [] (x ∷ bs)
unpadded_if true x taken bs e = refl
unpadded_if false x taken bs e = ap (λ l. x ∷ l) e

-- the padding begins at the first space
pub unpadded_is : (bs : List ℕ) → take_while (λ b. not (eqb b 32)) bs ≡ unpadded bs
unpadded_is [] = refl
unpadded_is (b ∷ bs) =
    take_while-cons (λ c. not (eqb c 32)) b bs ∙ unpadded_if (eqb b 32) b (take_while (λ c. not (eqb c 32)) bs) (unpadded bs) (unpadded_is bs)

text_if : (b : Bool) (x : ℕ) (bs text : List ℕ) → flat_map byte_text bs ≡ text → flat_map byte_text (cond b [] (x ∷ bs)) ≡ cond b [] (byte_text x ++ text)
text_if true x bs text e = refl
text_if false x bs text e = ap (λ l. byte_text x ++ l) e

-- what is printed of a name is printed of its bytes before the padding
pub name_text_is : (bs : List ℕ) → flat_map byte_text (unpadded bs) ≡ name_text bs
name_text_is [] = refl
name_text_is (b ∷ bs) = text_if (eqb b 32) b (unpadded bs) (name_text bs) (name_text_is bs)
