use Rattle.std.proofs.Common.{refl, rules, ◌≡◌, ap, ◌∙◌, map, ◌++◌, ◌+◌, drop}
use Rattle.std.proofs.lemmas.List.{drop_all}
use Rattle.flp_syntax.specs.Tree.{sum, add, items, trees, arguments, each_arg}
use Rattle.flp_syntax.specs.View.{index_of, tree_of, item_of, arg_of, tree_of_Sum, tree_of_Add, arg_of_Each}
use Rattle.flp_lang.specs.Print.{put_more_items, put_more_factors}
use Rattle.flp_lang.specs.Spelling.{rest_text}
use Rattle.flp_lang.proofs.Writing.{first_left, item_of_out}
use Rattle.flp_lang.proofs.printer.Printer.+printed_expr.Goals as goal

pub expr-returns-in_ok-expr-in-Sum : goal.expr-returns-in_ok-expr-in-Sum
expr-returns-in_ok-expr-in-Sum t c =
    let e : tree_of c.args.expr.now ≡ sum c.in-Sum.at c.in-Sum.name (index_of c.in-Sum.from) (index_of c.in-Sum.to) (tree_of c.in-Sum.inner.value) = ap tree_of c.in-Sum.is ∙ tree_of_Sum _ _ _ _ _ in
    rw e (search rules)

pub expr-returns-in-Add : goal.expr-returns-in-Add
expr-returns-in-Add t c =
    let e : tree_of c.args.expr.now ≡ add c.in-Add.at (items (map item_of c.in-Add.items)) = ap tree_of c.in-Add.is ∙ tree_of_Add _ _ in
    rw (e, ← c.as_slice-in-Add.ensures) c.items.ensures

pub arg-returns-in_ok-args-in-Each : goal.arg-returns-in_ok-args-in-Each
arg-returns-in_ok-args-in-Each t c =
    let e : arg_of c.args.arg.now ≡ each_arg c.in-Each.at c.in-Each.name (index_of c.in-Each.from) (index_of c.in-Each.to) (arguments (map arg_of c.in-Each.inner)) = ap arg_of c.in-Each.is ∙ arg_of_Each _ _ _ _ _ in
    rw e (search rules)

pub items-loop-item-preserved : goal.items-loop-item-preserved
items-loop-item-preserved t c = λ s.
    c.loop-item.invariant s
    ∙ ap (λ xs. c.loop-item.self.text.items ++ rest_text (put_more_items (items xs) s)) (first_left item_of c.in-Some.more.now c.loop-item.item-index c.item-item.result _ c.loop-item-test.true c.item-item.is (item_of_out c.item-item.result))
    ∙ c.in_ok-sign.ensures _ ∙ c.in_ok-item-2.ensures (put_more_items (items (map item_of (drop (c.loop-item.item-index + 1) c.in-Some.more.now))) s)

pub items-returns : goal.items-returns
items-returns t c = λ s. c.loop-item.invariant s ∙ ap (λ xs. c.loop-item.self.text.items ++ rest_text (put_more_items (items (map item_of xs)) s)) (drop_all c.loop-item.item-index c.in-Some.more.now c.loop-item-test.false)

pub factors-loop-expr-preserved : goal.factors-loop-expr-preserved
factors-loop-expr-preserved t c = λ s.
    c.loop-expr.invariant s
    ∙ ap (λ xs. c.loop-expr.self.text.items ++ rest_text (put_more_factors (trees xs) s)) (first_left tree_of c.in-Some.more.now c.loop-expr.expr-index c.expr-item.result _ c.loop-expr-test.true c.expr-item.is refl)
    ∙ c.in_ok-mark.ensures _ ∙ c.in_ok-factor-2.ensures (put_more_factors (trees (map tree_of (drop (c.loop-expr.expr-index + 1) c.in-Some.more.now))) s)
