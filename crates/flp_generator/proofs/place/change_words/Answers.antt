use Rattle.std.proofs.Common.{ℕ, ◌≡◌, ◌-◌, ◌/◌, ◌<◌, List, length, get_or, set, ap, ap₂, sym, ◌∙◌, arith}
use Rattle.std.proofs.lemmas.List.{get_or_read, get_or-take}
use Rattle.flp_field.specs.Word.{word_sum}
use Rattle.flp_generator.specs.declared.change.Change.{Change}
use Rattle.flp_generator.specs.Place.{last_proof_word, changed_words}
use Rattle.flp_generator.proofs.place.change_words.Goals as goal

pub bounds-words-first_point_of : goal.bounds-words-first_point_of
bounds-words-first_point_of c =
    omega (arith, c.is_within_limits.ensures.some_gadgets, c.first_point_of.ensures)

pub returns-in-Proof : goal.returns-in-Proof
returns-in-Proof c =
    let circuit = c.args.plan.now.circuit in
    let shares = c.args.shares.now in
    let words = c.args.words.now in
    let index : ℕ = length shares / 2 - 1 in
    let last : index ≡ last_proof_word circuit = omega (arith, c.requires.shares) in
    let inside : index < length shares = omega (arith, c.requires.shares, c.is_within_limits.ensures.some_meas) in
    let read : c.index-shares-last.result ≡ get_or shares index 0 = get_or_read shares index c.index-shares-last.result inside c.index-shares-last.is 0 in
    let first : get_or shares index 0 ≡ get_or words index 0 =
    ap (λ (l : List ℕ). get_or l index 0) (sym c.requires.first) ∙ get_or-take (length shares) words index 0 inside in
    let value : c.value.result ≡ word_sum (get_or words (last_proof_word circuit) 0) 1 =
    c.value.ensures.same ∙ (c.add.ensures ∙ ap (λ (n : ℕ). word_sum n 1) (read ∙ (first ∙ ap (λ (k : ℕ). get_or words k 0) last))) in
    ap₂ (λ (k v : ℕ). set words k v) last value ∙ ap (λ (change : Change). changed_words change circuit words) (sym c.in-Proof.is ∙ c.change_at.ensures)
