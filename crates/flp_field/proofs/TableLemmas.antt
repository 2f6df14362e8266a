-- The tables of roots, of their inverses and of inverses of counts: each entry is checked by computation against its
-- neighbour or its partner. From the tables up to what a place holds.
use Rattle.std.proofs.Common.{ℕ, suc, zero, ◌≡◌, ◌-◌, ◌*◌, ◌%◌, ◌^◌, ◌<◌, ◌≤◌, true, List, [], ◌∷◌, get_or, arith, ap, sym, ◌∙◌, refl, add-one}
use Rattle.std.proofs.lemmas.Bool.{agree_below_at, eqb-true, ltb-true}
use Rattle.std.specs.Prelude.{eqb, ltb}
use Rattle.flp_field.specs.Word.{modulus}
use Rattle.flp_field.specs.Domain.{alpha}
use Rattle.flp_field.proofs.Congruence.{Same, same_mod, word_mod, mod_word}
use Rattle.flp_field.proofs.Powers.{squared_turn}
use Rattle.flp_field.proofs.RootsOfUnity.{generator-power}

-- the root of order 2^k at place k
abbrev pub roots : List ℕ
roots = 1 ∷ 18446744069414584320 ∷ 281474976710656 ∷ 18446744069397807105 ∷ 17293822564807737345 ∷ 70368744161280 ∷ 549755813888 ∷ 17870292113338400769 ∷ 13797081185216407910 ∷ 1803076106186727246 ∷ 11353340290879379826 ∷ 455906449640507599 ∷ 17492915097719143606 ∷ 1532612707718625687 ∷ 16207902636198568418 ∷ 17776499369601055404 ∷ 6115771955107415310 ∷ 12380578893860276750 ∷ 9306717745644682924 ∷ 18146160046829613826 ∷ 3511170319078647661 ∷ 17654865857378133588 ∷ 5416168637041100469 ∷ 16905767614792059275 ∷ 9713644485405565297 ∷ 5456943929260765144 ∷ 17096174751763063430 ∷ 1213594585890690845 ∷ 6414415596519834757 ∷ 16116352524544190054 ∷ 9123114210336311365 ∷ 4614640910117430873 ∷ 1753635133440165772 ∷ []

-- and its inverse
abbrev pub inverse_roots : List ℕ
inverse_roots = 1 ∷ 18446744069414584320 ∷ 18446462594437873665 ∷ 1099511627520 ∷ 68719476736 ∷ 18446744069414322177 ∷ 18302628881338728449 ∷ 18442240469787213841 ∷ 2117504431143841456 ∷ 4459017075746761332 ∷ 4295002282146690441 ∷ 8548973421900915981 ∷ 11164456749895610016 ∷ 3968367389790187850 ∷ 4654242210262998966 ∷ 1553425662128427817 ∷ 7868944258580147481 ∷ 14744321562856667967 ∷ 2513567076326282710 ∷ 5089696809409609209 ∷ 17260140776825220475 ∷ 11898519751787946856 ∷ 15307271466853436433 ∷ 5456584715443070302 ∷ 1219213613525454263 ∷ 13843946492009319323 ∷ 16884827967813875098 ∷ 10516896061424301529 ∷ 4514835231089717636 ∷ 16488041148801377373 ∷ 16303955383020744715 ∷ 10790884855407511297 ∷ 8554224884056360729 ∷ []

-- the inverse of k + 1 at place k
abbrev pub inverse_counts : List ℕ
inverse_counts = 1 ∷ 9223372034707292161 ∷ 12297829379609722881 ∷ 13835058052060938241 ∷ 14757395255531667457 ∷ 15372286724512153601 ∷ 2635249152773512046 ∷ 16140901060737761281 ∷ 4099276459869907627 ∷ 16602069662473125889 ∷ 8384883667915720146 ∷ 16909515396963368961 ∷ 11351842504255128813 ∷ 1317624576386756023 ∷ 17216961131453612033 ∷ 17293822565076172801 ∷ []

-- ---- what a place holds

-- each root but the last is the square of the next
next_root : (k : ℕ) → k < 32 → get_or roots k 0 ≡ (get_or roots (suc k) 0 * get_or roots (suc k) 0) % modulus
next_root k below =
    eqb-true (get_or roots k 0) ((get_or roots (suc k) 0 * get_or roots (suc k) 0) % modulus)
    (agree_below_at (λ (n : ℕ). eqb (get_or roots n 0) ((get_or roots (suc n) 0 * get_or roots (suc n) 0) % modulus))
    (λ (n : ℕ). true) 32 k refl below)

-- so many places before the last stands the generator, squared as often
root_from_last : (j : ℕ) → j ≤ 32 → get_or roots (32 - j) 0 ≡ 1753635133440165772 ^ (2 ^ j) % modulus
root_from_last zero below = refl
root_from_last (suc j) below =
    let place : suc (32 - suc j) ≡ 32 - j = omega arith in
    let before : get_or roots (32 - j) 0 ≡ 1753635133440165772 ^ (2 ^ j) % modulus = root_from_last j (omega arith) in
    let same : Same (get_or roots (32 - j) 0) (1753635133440165772 ^ (2 ^ j)) =
    ap (λ (x : ℕ). x % modulus) before ∙ same_mod (1753635133440165772 ^ (2 ^ j)) in
    let word : (get_or roots (32 - j) 0 * get_or roots (32 - j) 0) % modulus < modulus =
    mod_word (get_or roots (32 - j) 0 * get_or roots (32 - j) 0) in
    next_root (32 - suc j) (omega arith)
    ∙ ap (λ (n : ℕ). (get_or roots n 0 * get_or roots n 0) % modulus) place
    ∙ sym (word_mod ((get_or roots (32 - j) 0 * get_or roots (32 - j) 0) % modulus) word)
    ∙ squared_turn (get_or roots (32 - j) 0) 1753635133440165772 j same
    ∙ ap (λ (n : ℕ). 1753635133440165772 ^ (2 ^ n) % modulus) (add-one j)

pub root_at : (log : ℕ) → log ≤ 32 → get_or roots log 0 ≡ alpha (2 ^ log)
root_at log small =
    let place : 32 - (32 - log) ≡ log = omega arith in
    ap (λ (n : ℕ). get_or roots n 0) (sym place) ∙ root_from_last (32 - log) (omega arith)
    ∙ generator-power log small

pub inverse_root_at : (log : ℕ) → log ≤ 32 → (get_or inverse_roots log 0 * alpha (2 ^ log)) % modulus ≡ 1
inverse_root_at log small =
    ap (λ (x : ℕ). (get_or inverse_roots log 0 * x) % modulus) (sym (root_at log small))
    ∙ eqb-true ((get_or inverse_roots log 0 * get_or roots log 0) % modulus) 1
    (agree_below_at (λ (n : ℕ). eqb ((get_or inverse_roots n 0 * get_or roots n 0) % modulus) 1) (λ (n : ℕ). true) 33
    log refl (omega arith))

pub inverse_count_at : (count : ℕ) → 1 ≤ count → count ≤ 16
    → (get_or inverse_counts (count - 1) 0 * count) % modulus ≡ 1
inverse_count_at count some few =
    let next : suc (count - 1) ≡ count = omega arith in
    ap (λ (x : ℕ). (get_or inverse_counts (count - 1) 0 * x) % modulus) (sym next)
    ∙ eqb-true ((get_or inverse_counts (count - 1) 0 * suc (count - 1)) % modulus) 1
    (agree_below_at (λ (n : ℕ). eqb ((get_or inverse_counts n 0 * suc n) % modulus) 1) (λ (n : ℕ). true) 16 (count - 1)
    refl (omega arith))

-- each entry is a word

pub root_word : (k d : ℕ) → k < 33 → get_or roots k d < modulus
root_word k d below =
    ltb-true (get_or roots k d) modulus
    (agree_below_at (λ (n : ℕ). ltb (get_or roots n d) modulus) (λ (n : ℕ). true) 33 k refl below)

pub inverse_root_word : (k d : ℕ) → k < 33 → get_or inverse_roots k d < modulus
inverse_root_word k d below =
    ltb-true (get_or inverse_roots k d) modulus
    (agree_below_at (λ (n : ℕ). ltb (get_or inverse_roots n d) modulus) (λ (n : ℕ). true) 33 k refl below)

pub inverse_count_word : (k d : ℕ) → k < 16 → get_or inverse_counts k d < modulus
inverse_count_word k d below =
    ltb-true (get_or inverse_counts k d) modulus
    (agree_below_at (λ (n : ℕ). ltb (get_or inverse_counts n d) modulus) (λ (n : ℕ). true) 16 k refl below)
