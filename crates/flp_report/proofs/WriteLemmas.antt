-- How words that are written block by block add up.
use Rattle.std.proofs.Common.{◌≡◌, ℕ, ◌-◌, ◌==◌, List, [], ◌∷◌, ◌++◌, length, take, drop, Bool, true, false, refl, sym, ap, ◌∙◌, arith, append_assoc, take-append-drop}
use Rattle.std.specs.Prelude.{if◌then◌else◌}
use Rattle.std.proofs.lemmas.Grind.{flat_map-append}
use Rattle.std.proofs.lemmas.List.{take_rest}
use Rattle.byteorder.specs.Endian.{little_bytes}
use Rattle.flp_report.specs.declared.header.Header.{Header}
use Rattle.flp_report.specs.Layout.{head_numbers, word_bytes}

-- the words that are left, without the first n
abbrev pub left_words : List ℕ → ℕ → List ℕ
left_words rest n = take (length rest - n) (drop n rest)

-- no words are no bytes
pub no_words : (words : List ℕ) → length words ≡ 0 → word_bytes words ≡ []
no_words [] none = refl
no_words (word ∷ words) none = absurd (omega (arith, none))

-- the bytes of the first n words come first
pub word_bytes-split : (rest : List ℕ) (n : ℕ) → word_bytes rest ≡ word_bytes (take n rest) ++ word_bytes (left_words rest n)
word_bytes-split rest n =
    ap word_bytes (sym (take-append-drop n rest))
    ∙ (flat_map-append (little_bytes 8) (take n rest) (drop n rest)
    ∙ ap (λ (l : List ℕ). word_bytes (take n rest) ++ word_bytes l) (sym (take_rest rest n)))

-- and so behind what is done
pub word_bytes-moves : (all done rest : List ℕ) (n : ℕ) → all ≡ done ++ word_bytes rest → all ≡ (done ++ word_bytes (take n rest)) ++ word_bytes (left_words rest n)
word_bytes-moves all done rest n split =
    split ∙ (ap (λ (l : List ℕ). done ++ l) (word_bytes-split rest n) ∙ sym (append_assoc done (word_bytes (take n rest)) (word_bytes (left_words rest n))))

-- the numbers of a head are the first six, and in version 2 all seven
cut-numbers : (two : Bool) (a b c d e f h count : ℕ) → count ≡ (if two then 7 else 6)
    → take count (a ∷ b ∷ c ∷ d ∷ e ∷ f ∷ h ∷ []) ≡ a ∷ b ∷ c ∷ d ∷ e ∷ f ∷ (if two then h ∷ [] else [])
cut-numbers true a b c d e f h count is = ap (λ (n : ℕ). take n (a ∷ b ∷ c ∷ d ∷ e ∷ f ∷ h ∷ [])) is
cut-numbers false a b c d e f h count is = ap (λ (n : ℕ). take n (a ∷ b ∷ c ∷ d ∷ e ∷ f ∷ h ∷ [])) is

pub head_numbers-cut : (h : Header) (text count : ℕ) → text ≡ length h.text → count ≡ (if h.version == 2 then 7 else 6)
    → take count (h.version ∷ h.shares ∷ h.proofs ∷ text ∷ h.claims ∷ h.reports ∷ h.buckets ∷ []) ≡ head_numbers h
head_numbers-cut h text count long is =
    ap (λ (n : ℕ). take count (h.version ∷ h.shares ∷ h.proofs ∷ n ∷ h.claims ∷ h.reports ∷ h.buckets ∷ [])) long
    ∙ cut-numbers (h.version == 2) h.version h.shares h.proofs (length h.text) h.claims h.reports h.buckets count is
