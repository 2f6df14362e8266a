-- The verdict, the outs and the verifiers, from what was found of a record's words.
use Rattle.std.proofs.Common.{ℕ, ◌≡◌, ◌+◌, ◌*◌, ◌<◌, List, ap, sym, ◌∙◌}
use Rattle.std.specs.Prelude.{Bool, Option, None, Some}
use Rattle.flp_syntax.specs.Tree.{Program}
use Rattle.flp_meaning.specs.Circuit.{outs_of}
use Rattle.flp_meaning.specs.Lengths.{lengths_of}
use Rattle.flp_meaning.specs.Proof.{words_at}
use Rattle.flp_plan.specs.View.{Compiled}
use Rattle.flp_report.specs.declared.shape.Shape.{Shape}
use Rattle.flp_report.specs.Record.{words_in}
use Rattle.flp_report.specs.Words.{bad_word_in}
use Rattle.flp_plan.specs.declared.sizes.Sizes.{Sizes}
use Rattle.flp_plan.specs.Sizes.{sizes_of}
use Rattle.flp_policy.specs.declared.verdict.Verdict.TheVariants.{InDomain, Malformed}
use Rattle.flp_worker.specs.Parts.{unshared_encoding}
use Rattle.flp_worker.specs.Verdict.{all_hold, first_inside, verifier_of_share, verifiers_of, verdict_if, verdict_by, verdict_of, outs_in, share_verifier}
use Rattle.flp_worker.proofs.PlaceLemmas.{verifier-stands}

-- a bad word was found
pub verdict-malformed : (program : Program) (shape : Shape) (bytes : List ℕ) (word : ℕ) → bad_word_in (words_in shape bytes) ≡ Some word
    → Malformed word ≡ verdict_of program shape bytes
unfolding verdict_of
verdict-malformed program shape bytes word bad =
    sym (ap (λ (b : Option ℕ). verdict_by b (first_inside program shape (words_in shape bytes)) (all_hold program shape (words_in shape bytes))) bad)

-- none was, and these are the words
by-words : (program : Program) (shape : Shape) (bytes words : List ℕ) → bad_word_in (words_in shape bytes) ≡ None → words ≡ words_in shape bytes
    → verdict_by None (first_inside program shape words) (all_hold program shape words) ≡ verdict_of program shape bytes
unfolding verdict_of
by-words program shape bytes words good are =
    ap (λ (l : List ℕ). verdict_by None (first_inside program shape l) (all_hold program shape l)) are
    ∙ sym (ap (λ (b : Option ℕ). verdict_by b (first_inside program shape (words_in shape bytes)) (all_hold program shape (words_in shape bytes))) good)

-- a point in a domain was found
pub verdict-inside : (program : Program) (shape : Shape) (bytes words : List ℕ) (proof gadget : ℕ) → bad_word_in (words_in shape bytes) ≡ None
    → words ≡ words_in shape bytes → first_inside program shape words ≡ Some (proof, gadget)
    → InDomain proof gadget ≡ verdict_of program shape bytes
verdict-inside program shape bytes words proof gadget good are inside =
    sym (ap (λ (i : Option (ℕ × ℕ)). verdict_by None i (all_hold program shape words)) inside) ∙ by-words program shape bytes words good are

-- none was
pub verdict-held : (program : Program) (shape : Shape) (bytes words : List ℕ) (hold : Bool) → bad_word_in (words_in shape bytes) ≡ None
    → words ≡ words_in shape bytes → first_inside program shape words ≡ None → hold ≡ all_hold program shape words
    → verdict_if hold ≡ verdict_of program shape bytes
verdict-held program shape bytes words hold good are outside held =
    ap (λ (b : Bool). verdict_if b) held
    ∙ sym (ap (λ (i : Option (ℕ × ℕ)). verdict_by None i (all_hold program shape words)) outside)
    ∙ by-words program shape bytes words good are

-- the outs of these words are those of the record
pub outs-are : (program : Program) (shape : Shape) (bytes words row : List ℕ) → words ≡ words_in shape bytes
    → row ≡ outs_of program (unshared_encoding shape words) → row ≡ outs_in program shape bytes
unfolding outs_in
outs-are program shape bytes words row are own = own ∙ ap (λ (l : List ℕ). outs_of program (unshared_encoding shape l)) are

-- the verifiers of these words, kept by a worker of this shape and these sizes, are those of the record
pub kept-is : (plan : Compiled) (shape kept_shape : Shape) (sizes : Sizes) (kept bytes words : List ℕ) (share proof : ℕ)
    → kept_shape ≡ shape → sizes ≡ sizes_of plan → kept ≡ verifiers_of plan.circuit shape words → words ≡ words_in shape bytes
    → share < shape.shares → proof < shape.proofs
    → words_at ((proof * kept_shape.shares + share) * sizes.lengths.verifier) sizes.lengths.verifier kept ≡ share_verifier plan.circuit shape bytes share proof
unfolding share_verifier
kept-is plan shape kept_shape sizes kept bytes words share proof same_shape same_sizes own are below inside =
    let n : ℕ = (lengths_of plan.circuit).verifier in
    ap (λ (s : Shape). words_at ((proof * s.shares + share) * sizes.lengths.verifier) sizes.lengths.verifier kept) same_shape
    ∙ ap (λ (z : Sizes). words_at ((proof * shape.shares + share) * z.lengths.verifier) z.lengths.verifier kept) same_sizes
    ∙ ap (λ (l : List ℕ). words_at ((proof * shape.shares + share) * n) n l) own
    ∙ verifier-stands plan.circuit shape words share proof below inside
    ∙ ap (λ (l : List ℕ). verifier_of_share plan.circuit shape l proof share) are
