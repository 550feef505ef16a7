use Rattle.std.proofs.Common.{◌≡◌, ℕ, List, ◌++◌, IfOk, string_bytes, codes, decimal, subst}
use Rattle.bidfile.specs.declared.records.TermsRecord.{TermsRecord}
use Rattle.bidtext.specs.Texts.{order_word}
use Rattle.bidtext.proofs.texts.terms_text.Goals as goal

-- the line with the words for the curve and the order
abbrev with_words : TermsRecord → List ℕ → List ℕ → List ℕ
with_words t curve order =
    codes "auction cap " ++ (decimal t.«cap»
    ++ (codes " spread " ++ (decimal t.spread
    ++ (codes " threshold " ++ (decimal t.threshold ++ (codes " curve " ++ (curve ++ (codes " order " ++ order))))))))

pub returns : goal.returns
returns c =
    subst (λ (w : List ℕ). IfOk c.format.result (λ s. string_bytes s ≡ with_words c.args.«record» w (order_word c.args.«record».order)))
    c.word-curve.ensures
    (subst (λ (w : List ℕ). IfOk c.format.result (λ s. string_bytes s ≡ with_words c.args.«record» c.word-curve.result.now w)) c.word-order.ensures c.format.ensures.ok)
