-- The words that are taken, one after the other.
use Rattle.std.proofs.Common.{ℕ, suc, ◌+◌, ◌*◌, ◌%◌, ◌^◌, ◌<◌, ◌≤◌, ◌≡◌, List, [], ◌∷◌, ◌++◌, length, take, set, refl, sym, ap, ap₂, ◌∙◌, arith}
use Rattle.std.specs.List.{range_with_len}
use Rattle.std.proofs.Math.Nat.{pow-suc, mul-le-mul}
use Rattle.std.proofs.lemmas.Nat.{pow-mod}
use Rattle.std.proofs.lemmas.List.{take_more_set}
use Rattle.std.proofs.lemmas.List.Elements.{All-map}
use Rattle.std.proofs.lemmas.List.FromFn.{length-map-range_with_len, map-range_with_len_more}
use Rattle.flp_field.specs.Word.{modulus, IsWord, AreWords, word_product}
use Rattle.flp_field.proofs.Powers.{pow-pow}
use Rattle.flp_field.proofs.Order.{group_size, group_size_is, seven_order}
use Rattle.flp_field.proofs.Congruence.{mod_word, same_mod, same_mul}
use Rattle.flp_generator.specs.Sequence.{sequence_word, sequence_words}
use Rattle.flp_generator.specs.Laws.{WordsStayOut}

-- a word times 7 is the next
pub next-word : (seed index : ℕ) → word_product (sequence_word seed index) 7 ≡ sequence_word seed (index + 1)
next-word seed index =
    let e : seed + 1 + (index + 1) ≡ suc (seed + 1 + index) = omega arith in
    same_mul (sequence_word seed index) (7 ^ (seed + 1 + index)) 7 7 (same_mod (7 ^ (seed + 1 + index))) refl
    ∙ ap (λ (n : ℕ). n % modulus) (sym (pow-suc 7 (seed + 1 + index)) ∙ ap (λ (n : ℕ). 7 ^ n) (sym e))

pub words-sequence : (seed start count : ℕ) → AreWords (sequence_words seed start count)
words-sequence seed start count =
    All-map IsWord (sequence_word seed) (range_with_len start count) (λ (k d : ℕ) (below : k < _). mod_word _)

pub length-sequence : (seed start count : ℕ) → length (sequence_words seed start count) ≡ count
length-sequence seed start count = length-map-range_with_len (sequence_word seed) start count

-- one word more was taken
pub one-taken : (seed start index next : ℕ) (words : List ℕ) → index < length words → take index words ≡ sequence_words seed start index → next ≡ sequence_word seed (start + index)
    → take (index + 1) (set words index next) ≡ sequence_words seed start (index + 1)
one-taken seed start index next words inside before is =
    take_more_set words index next inside
    ∙ (ap₂ (λ (l : List ℕ) (n : ℕ). l ++ n ∷ []) before is ∙ sym (map-range_with_len_more (sequence_word seed) start index (start + index) refl))

-- and the next is the one behind it
pub next-taken : (seed start index next : ℕ) → next ≡ sequence_word seed (start + index) → word_product next 7 ≡ sequence_word seed (start + (index + 1))
next-taken seed start index next is =
    let e : (start + index) + 1 ≡ start + (index + 1) = omega arith in
    ap (λ (n : ℕ). word_product n 7) is ∙ (next-word seed (start + index) ∙ ap (sequence_word seed) e)

-- ---- no domain has them

pub stays_out : WordsStayOut
stays_out seed index size few some small is =
    let e = seed + 1 + index in
    let from : 1 ≤ e = omega arith in
    let least : 1 * 1 ≤ e * size = mul-le-mul from some in
    let most : e * size ≤ 2 ^ 50 * 4096 = mul-le-mul few small in
    let inside : e * size < group_size = omega (arith, group_size_is, most) in
    let one : 7 ^ (e * size) % modulus ≡ 1 = ap (λ (n : ℕ). n % modulus) (sym (pow-pow 7 e size)) ∙ (sym (pow-mod (7 ^ e) size modulus) ∙ is) in
    seven_order (e * size) (omega (arith, least)) inside one
