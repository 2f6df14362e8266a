use Rattle.std.proofs.Common.{ℕ, ◌≡◌, List, Vec, Result, Err, length, vec_len, true, false, ap, sym, ◌∙◌}
use Rattle.std.specs.Prelude.{None, Some}
use Rattle.std.specs.Result.{result_err}
use Rattle.std.specs.Vec.{with_items}
use Rattle.std.proofs.lemmas.List.{with_items_is}
use Rattle.flp_report.specs.declared.shape.Shape.{Shape}
use Rattle.flp_report.specs.Shape.{words_of}
use Rattle.flp_report.specs.declared.record.Record.{Record}
use Rattle.flp_report.specs.Record.{record_of, shape_of, words_in}
use Rattle.flp_report.specs.Words.{bad_word_in}
use Rattle.flp_worker.specs.Verdict.{all_hold}
use Rattle.flp_worker.specs.Worker.{Working}
use Rattle.flp_worker.proofs.PartLemmas.{length-words_in}
use Rattle.flp_worker.proofs.VerdictLemmas.{verdict-malformed, verdict-inside, verdict-held, outs-are, kept-is}
use Rattle.flp_worker.proofs.worker.Worker.verify_record.Goals as goal

-- the worker holds the words of the record
are-words : {Z : Type 0} (held : Vec ℕ Z) (given : Record) (shape : Shape) (inside seen : Working) (read lent : List ℕ) → inside ≡ seen → seen.shape ≡ shape → shape_of given ≡ shape → vec_len held ≡ words_of inside.shape
    → read ≡ words_in (shape_of given) (record_of given) → lent ≡ (with_items held read).items → lent ≡ words_in shape (record_of given)
are-words held given shape inside seen read lent view same own room is value =
    let many : words_of inside.shape ≡ words_of shape = ap (λ (w : Working). words_of w.shape) view ∙ ap (λ (s : Shape). words_of s) same in
    let are : read ≡ words_in shape (record_of given) = is ∙ ap (λ (s : Shape). words_in s (record_of given)) own in
    value ∙ with_items_is held read (ap (λ (l : List ℕ). length l) are ∙ length-words_in shape (record_of given) ∙ sym (room ∙ many)) ∙ are

-- what loading says of a bad word
bad-word : {T : Type 0} (r answer : Result T ℕ) (given : Record) (shape : Shape) → shape_of given ≡ shape → r ≡ answer
    → result_err r ≡ bad_word_in (words_in (shape_of given) (record_of given)) → bad_word_in (words_in shape (record_of given)) ≡ result_err answer
bad-word r answer given shape own is bad =
    sym (ap (λ (s : Shape). bad_word_in (words_in s (record_of given))) own) ∙ (sym bad ∙ ap result_err is)

pub returns-in-Err-clause-verdict : goal.returns-in-Err-clause-verdict
returns-in-Err-clause-verdict c =
    let bad : bad_word_in (words_in c.args.shape.now (record_of c.args.given.now)) ≡ Some c.in-Err.word =
    bad-word c.load.result (Err c.in-Err.word) c.args.given.now c.args.shape.now c.requires.record_shape c.in-Err.is c.load.ensures.bad in
    verdict-malformed c.args.plan.now.circuit c.args.shape.now (record_of c.args.given.now) c.in-Err.word bad

pub returns-in-Err-verify_proofs-clause-verdict : goal.returns-in-Err-verify_proofs-clause-verdict
returns-in-Err-verify_proofs-clause-verdict c =
    let good : bad_word_in (words_in c.args.shape.now (record_of c.args.given.now)) ≡ None =
    bad-word c.load.result _ c.args.given.now c.args.shape.now c.requires.record_shape c.in_default.is c.load.ensures.bad in
    let are = are-words c.self.inside.words c.args.given.now c.args.shape.now _ _ c.load.new.out c.deref.result.now c.self.view_is c.requires.made.same_shape c.requires.record_shape c.self.invariant.for_words c.in_default.ensures.words c.deref.ensures.value in
    verdict-inside c.args.plan.now.circuit c.args.shape.now (record_of c.args.given.now) c.deref.result.now c.in-Err-verify_proofs.field-0.proof c.in-Err-verify_proofs.field-0.gadget good are c.in-Err-verify_proofs.ensures.inside

pub returns-in-Ok-true-clause-verdict : goal.returns-in-Ok-true-clause-verdict
returns-in-Ok-true-clause-verdict c =
    let good : bad_word_in (words_in c.args.shape.now (record_of c.args.given.now)) ≡ None =
    bad-word c.load.result _ c.args.given.now c.args.shape.now c.requires.record_shape c.in_default.is c.load.ensures.bad in
    let held : true ≡ all_hold c.args.plan.now.circuit c.args.shape.now c.deref.result.now = cc (c.in-Ok-true.ensures.holds) in
    let are = are-words c.self.inside.words c.args.given.now c.args.shape.now _ _ c.load.new.out c.deref.result.now c.self.view_is c.requires.made.same_shape c.requires.record_shape c.self.invariant.for_words c.in_default.ensures.words c.deref.ensures.value in
    verdict-held c.args.plan.now.circuit c.args.shape.now (record_of c.args.given.now) c.deref.result.now true good are c.in-Ok-true.ensures.outside held

pub returns-in-Ok-true-clause-row : goal.returns-in-Ok-true-clause-row
returns-in-Ok-true-clause-row c accepted =
    let are = are-words c.self.inside.words c.args.given.now c.args.shape.now _ _ c.load.new.out c.deref.result.now c.self.view_is c.requires.made.same_shape c.requires.record_shape c.self.invariant.for_words c.in_default.ensures.words c.deref.ensures.value in
    let kept : length c.write_row.new.row ≡ vec_len c.self.inside.row = c.write_row.auto.row ∙ c.deref_mut-in-Ok-true-2.ensures.len in
    with_items_is c.self.inside.row c.write_row.new.row kept
    ∙ outs-are c.args.plan.now.circuit c.args.shape.now (record_of c.args.given.now) c.deref.result.now c.write_row.new.row are c.write_row.ensures

pub returns-in-Ok-true-clause-verifiers : goal.returns-in-Ok-true-clause-verifiers
returns-in-Ok-true-clause-verifiers c verdict share proof below inside =
    let sizes = c.in-Ok-true.ensures.again ∙ ap (λ (w : Working). w.sizes) c.self.view_is ∙ c.requires.made.same_sizes in
    let are = are-words c.self.inside.words c.args.given.now c.args.shape.now _ _ c.load.new.out c.deref.result.now c.self.view_is c.requires.made.same_shape c.requires.record_shape c.self.invariant.for_words c.in_default.ensures.words c.deref.ensures.value in
    let kept : length c.verify_proofs.new.verifiers ≡ vec_len c.self.inside.verifiers = c.verify_proofs.auto.verifiers ∙ c.deref_mut-2.ensures.len in
    kept-is c.args.plan.now c.args.shape.now c.self.inside.shape c.verify_proofs.new.challenge.sizes (with_items c.self.inside.verifiers c.verify_proofs.new.verifiers).items
    (record_of c.args.given.now) c.deref.result.now share proof (ap (λ (w : Working). w.shape) c.self.view_is ∙ c.requires.made.same_shape) sizes
    (with_items_is c.self.inside.verifiers c.verify_proofs.new.verifiers kept ∙ c.in-Ok-true.ensures.verifiers) are below inside

pub returns-in-Ok-false-clause-verdict : goal.returns-in-Ok-false-clause-verdict
returns-in-Ok-false-clause-verdict c =
    let good : bad_word_in (words_in c.args.shape.now (record_of c.args.given.now)) ≡ None =
    bad-word c.load.result _ c.args.given.now c.args.shape.now c.requires.record_shape c.in_default.is c.load.ensures.bad in
    let held : false ≡ all_hold c.args.plan.now.circuit c.args.shape.now c.deref.result.now = cc (c.in-Ok-false.ensures.holds) in
    let are = are-words c.self.inside.words c.args.given.now c.args.shape.now _ _ c.load.new.out c.deref.result.now c.self.view_is c.requires.made.same_shape c.requires.record_shape c.self.invariant.for_words c.in_default.ensures.words c.deref.ensures.value in
    verdict-held c.args.plan.now.circuit c.args.shape.now (record_of c.args.given.now) c.deref.result.now false good are c.in-Ok-false.ensures.outside held

pub returns-in-Ok-false-clause-verifiers : goal.returns-in-Ok-false-clause-verifiers
returns-in-Ok-false-clause-verifiers c verdict share proof below inside =
    let sizes = c.in-Ok-false.ensures.again ∙ ap (λ (w : Working). w.sizes) c.self.view_is ∙ c.requires.made.same_sizes in
    let are = are-words c.self.inside.words c.args.given.now c.args.shape.now _ _ c.load.new.out c.deref.result.now c.self.view_is c.requires.made.same_shape c.requires.record_shape c.self.invariant.for_words c.in_default.ensures.words c.deref.ensures.value in
    let kept : length c.verify_proofs.new.verifiers ≡ vec_len c.self.inside.verifiers = c.verify_proofs.auto.verifiers ∙ c.deref_mut-2.ensures.len in
    kept-is c.args.plan.now c.args.shape.now c.self.inside.shape c.verify_proofs.new.challenge.sizes (with_items c.self.inside.verifiers c.verify_proofs.new.verifiers).items
    (record_of c.args.given.now) c.deref.result.now share proof (ap (λ (w : Working). w.shape) c.self.view_is ∙ c.requires.made.same_shape) sizes
    (with_items_is c.self.inside.verifiers c.verify_proofs.new.verifiers kept ∙ c.in-Ok-false.ensures.verifiers) are below inside
