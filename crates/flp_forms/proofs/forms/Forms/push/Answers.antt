use Rattle.std.proofs.Common.{List, length, map, ap, ap₂, ◌++◌, ◌∷◌, [], ◌∙◌, arith}
use Rattle.std.proofs.lemmas.Result.{err_from_is_err_and}
use Rattle.flp_forms.specs.declared.term.Term.{Term}
use Rattle.flp_forms.specs.declared.forms.Span.{Span}
use Rattle.flp_forms.specs.Spans.{terms_in}
use Rattle.flp_forms.proofs.SpanLemmas.{forms-append, forms-push}
use Rattle.flp_forms.proofs.forms.Forms.push.Goals as goal

pub returns-in_err-push-clause-err : goal.returns-in_err-push-clause-err
returns-in_err-push-clause-err c =
    let p = err_from_is_err_and c.from_residual-in_err-push.result c.from_residual-in_err-push.ensures.1 in
    rw (p.1) (
    ap₂ (λ (terms : List Term) (spans : List Span). map (terms_in terms) spans)
    c.in_ok-extend_from_slice.ensures.items c.in_err-push.ensures.items
    ∙ forms-append c.self.inside.terms.items c.args.form.now c.self.inside.spans.items c.self.invariant
    ∙ c.self.view_is
    )

pub returns-clause-ok : goal.returns-clause-ok
returns-clause-ok c =
    ap₂ (λ (terms : List Term) (spans : List Span). map (terms_in terms) spans)
    c.in_ok-extend_from_slice.ensures.items c.in_ok-push.ensures.items
    ∙ forms-push c.self.inside.terms.items c.args.form.now c.self.inside.spans.items
    (record { start = c.len-start.result; end = c.len-end.result }) c.self.invariant
    (omega arith) (omega (arith, ap (λ (terms : List Term). length terms) c.in_ok-extend_from_slice.ensures.items))
    ∙ ap (λ (forms : List (List Term)). forms ++ c.args.form.now ∷ []) c.self.view_is
