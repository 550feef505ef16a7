-- Words and the bytes that they stand in.
use Rattle.std.proofs.Common.{◌≡◌, ℕ, zero, suc, ◌+◌, ◌*◌, ◌/◌, ◌%◌, ◌<◌, ◌≤◌, true, eqb, List, [], ◌∷◌, ◌++◌, length, get_or, take, drop, refl, ap, ◌∙◌, arith}
use Rattle.std.proofs.lemmas.List.{drop_more}
use Rattle.std.proofs.lemmas.Bool.{and_parts, eqb-true}
use Rattle.std.specs.List.{flat_map}
use Rattle.bidfile.specs.Found.{plain_words}
use Rattle.bidfile.specs.Layout.{word_bytes, head}
use Rattle.bidfile.specs.Words.{words, word_at, kind_at, value_at}

-- numbers of eight bits
abbrev pub Bytes : List ℕ → Type 0
Bytes bytes = (i : ℕ) → get_or bytes i 0 < 256

first_byte : (a b c d : ℕ) → a < 256 → b < 256 → c < 256 → d < 256 → (a * 16777216 + b * 65536 + c * 256 + d) / 16777216 ≡ a
first_byte a b c d p q r s = omega arith

second_byte : (a b c d : ℕ) → a < 256 → b < 256 → c < 256 → d < 256 → (a * 16777216 + b * 65536 + c * 256 + d) / 65536 % 256 ≡ b
second_byte a b c d p q r s = omega arith

third_byte : (a b c d : ℕ) → a < 256 → b < 256 → c < 256 → d < 256 → (a * 16777216 + b * 65536 + c * 256 + d) / 256 % 256 ≡ c
third_byte a b c d p q r s = omega arith

fourth_byte : (a b c d : ℕ) → a < 256 → b < 256 → c < 256 → d < 256 → (a * 16777216 + b * 65536 + c * 256 + d) % 256 ≡ d
fourth_byte a b c d p q r s = omega arith

-- four bytes are those of the word that they make
own_bytes : (a b c d : ℕ) → a < 256 → b < 256 → c < 256 → d < 256 → a ∷ (b ∷ (c ∷ (d ∷ []))) ≡ word_bytes (a * 16777216 + b * 65536 + c * 256 + d)
own_bytes a b c d p q r s =
    let e = first_byte a b c d p q r s in
    let f = second_byte a b c d p q r s in
    let g = third_byte a b c d p q r s in
    let h = fourth_byte a b c d p q r s in
    cc

four_bytes : (bytes : List ℕ) (n : ℕ) → n + 4 ≤ length bytes
    → drop n bytes ≡ get_or bytes n 0 ∷ (get_or bytes (n + 1) 0 ∷ (get_or bytes (n + 2) 0 ∷ (get_or bytes (n + 3) 0 ∷ drop (n + 4) bytes)))
four_bytes bytes n le =
    let a = drop_more bytes n 0 (omega arith) in
    let b = drop_more bytes (n + 1) 0 (omega arith) in
    let c = drop_more bytes (n + 2) 0 (omega arith) in
    let d = drop_more bytes (n + 3) 0 (omega arith) in
    let e : n + 1 + 1 ≡ n + 2 = omega arith in
    let f : n + 2 + 1 ≡ n + 3 = omega arith in
    let g : n + 3 + 1 ≡ n + 4 = omega arith in
    cc

-- the bytes from a place on begin with those of its word
pub word_first : (bytes : List ℕ) (at : ℕ) → Bytes bytes → at < words bytes
    → drop (4 * at) bytes ≡ word_bytes (word_at bytes at) ++ drop (4 * (at + 1)) bytes
word_first bytes at small lt =
    let e : 4 * at + 4 ≡ 4 * (at + 1) = omega arith in
    let own = own_bytes (get_or bytes (4 * at) 0) (get_or bytes (4 * at + 1) 0) (get_or bytes (4 * at + 2) 0) (get_or bytes (4 * at + 3) 0) (small (4 * at)) (small (4 * at + 1)) (small (4 * at + 2)) (small (4 * at + 3)) in
    four_bytes bytes (4 * at) (omega arith) ∙ (ap (λ (m : ℕ). get_or bytes (4 * at) 0 ∷ (get_or bytes (4 * at + 1) 0 ∷ (get_or bytes (4 * at + 2) 0 ∷ (get_or bytes (4 * at + 3) 0 ∷ drop m bytes)))) e ∙ ap (λ (ws : List ℕ). ws ++ drop (4 * (at + 1)) bytes) own)

-- n words from a place on, and their values
abbrev pub words_from : ℕ → List ℕ → ℕ → List ℕ
words_from zero bytes at = []
words_from (suc n) bytes at = word_at bytes at ∷ words_from n bytes (at + 1)

abbrev pub values_from : ℕ → List ℕ → ℕ → List ℕ
values_from zero bytes at = []
values_from (suc n) bytes at = value_at bytes at ∷ values_from n bytes (at + 1)

-- what is taken from a place on is the bytes of n words, and m bytes more
pub words_taken : (n m : ℕ) (bytes : List ℕ) (at : ℕ) → Bytes bytes → at + n ≤ words bytes
    → take (4 * n + m) (drop (4 * at) bytes) ≡ flat_map word_bytes (words_from n bytes at) ++ take m (drop (4 * (at + n)) bytes)
words_taken zero m bytes at small le =
    let e : 4 * zero + m ≡ m = omega arith in
    let f : at ≡ at + zero = omega arith in
    ap (λ (k : ℕ). take k (drop (4 * at) bytes)) e ∙ ap (λ (k : ℕ). take m (drop (4 * k) bytes)) f
words_taken (suc n) m bytes at small le =
    let e : 4 * suc n + m ≡ suc (suc (suc (suc (4 * n + m)))) = omega arith in
    let f : at + 1 + n ≡ at + suc n = omega arith in
    let first = word_first bytes at small (omega arith) in
    let rest = words_taken n m bytes (at + 1) small (omega arith) in
    ap (λ (xs : List ℕ). take (4 * suc n + m) xs) first
    ∙ (ap (λ (k : ℕ). take k (word_bytes (word_at bytes at) ++ drop (4 * (at + 1)) bytes)) e
    ∙ (ap (λ (xs : List ℕ). word_bytes (word_at bytes at) ++ xs) rest
    ∙ ap (λ (k : ℕ). word_bytes (word_at bytes at) ++ (flat_map word_bytes (words_from n bytes (at + 1)) ++ take m (drop (4 * k) bytes))) f))

plain_value : (w : ℕ) → w / 268435456 ≡ 0 → w ≡ w % 268435456
plain_value w e = omega arith

-- words of kind 0 are their values
pub plain_values : (n : ℕ) (bytes : List ℕ) (at : ℕ) → plain_words n bytes at ≡ true → words_from n bytes at ≡ values_from n bytes at
plain_values zero bytes at h = refl
plain_values (suc n) bytes at h =
    let parts = and_parts (eqb (kind_at bytes at) 0) (plain_words n bytes (at + 1)) h in
    let one = plain_value (word_at bytes at) (eqb-true (kind_at bytes at) 0 parts.0) in
    let rest = plain_values n bytes (at + 1) parts.1 in
    ap (λ (w : ℕ). w ∷ words_from n bytes (at + 1)) one ∙ ap (λ (ws : List ℕ). value_at bytes at ∷ ws) rest

whole_word : (w k : ℕ) → w / 268435456 ≡ k → w ≡ k * 268435456 + w % 268435456
whole_word w k e = omega arith

pub head_word : (bytes : List ℕ) (at k : ℕ) → kind_at bytes at ≡ k → word_at bytes at ≡ head k (value_at bytes at)
head_word bytes at k e = whole_word (word_at bytes at) k e
